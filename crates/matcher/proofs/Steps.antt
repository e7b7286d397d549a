-- A step of the automaton is a shift of the live symbols of a run. Assumes nothing.
use mathlib.Core.Path.{◌≡◌, refl, ap, ap₂, sym as inv, ◌∙◌}
use mathlib.Core.Bool.{Bool, true, false, ◌&&◌, ◌||◌, and-true, or-false, or-true, and_assoc, and_comm, or_comm}
use Prim.Native.Nat.{ℕ, ◌≤◌, ◌<◌, ◌+◌, ◌^◌}
use native.Mathlib.Omega.{arith}
use lib.Bits.{bit_or}
use Rattle.base.specs.Bits.{bit}
use Rattle.base.proofs.Bits.{bit_or_law, bit_zero, bit_same, bit_other}
use Rattle.base.proofs.Says.{and_false}
use Rattle.pattern.specs.Automaton.{kept_if, Automaton, over, in_sequence, in_alternatives, again, automaton_of}
use Rattle.pattern.specs.Links.{any_below, leads}
use Rattle.pattern.specs.Regex.{stands_for, Regex, empty, sym, seq, alt, opt, plus}
use Rattle.pattern.proofs.Automata.{bit_kept, bit_join}
use Rattle.pattern.proofs.Below.{any_same, any_none, any_or, any_and, any_one}
use Rattle.pattern.proofs.Listed.{Stands}
use Rattle.matcher.specs.Run.{nullable, final, shift, with_live}

-- the symbols of r are numbered from k on, up to m
unfoldable pub Numbered : Regex ℕ → ℕ → ℕ → Type 0
Numbered empty k m = k ≡ m
Numbered (sym n p) k m = (n ≡ k) × (m ≡ k + 1)
Numbered (seq a b) k m = (j : ℕ) × Numbered a k j × Numbered b j m
Numbered (alt a b) k m = (j : ℕ) × Numbered a k j × Numbered b j m
Numbered (opt a) k m = Numbered a k m
Numbered (plus a) k m = Numbered a k m

num_le : (r : Regex ℕ) (k m : ℕ) → Numbered r k m → k ≤ m
unfolding Numbered
num_le empty k m h = omega arith
num_le (sym n p) k m h = omega arith
num_le (seq a b) k m h = omega (arith, num_le a k h.0 h.1, num_le b h.0 m h.2)
num_le (alt a b) k m h = omega (arith, num_le a k h.0 h.1, num_le b h.0 m h.2)
num_le (opt a) k m h = num_le a k m h
num_le (plus a) k m h = num_le a k m h

-- ---- Booleans

in_left : (xa la b fa na : Bool) → (xa || (b && fa)) ≡ (((xa || false) || (la && false)) || (b && (fa || (na && false))))
in_left xa la b fa na = simp (and_false, or-false)

in_right : (xr la fr b na : Bool) → (xr || (((b && na) || la) && fr)) ≡ (((false || xr) || (la && fr)) || (b && (false || (na && fr))))
in_right true la fr b na = refl
in_right false la false b na = simp and_false
in_right false true true b na = simp or-true
in_right false false true b na = simp (or-false, and-true)

alt_left : (xa b fa : Bool) → (xa || (b && fa)) ≡ ((xa || false) || (b && (fa || false)))
alt_left xa b fa = simp or-false

once_more : (x l f b : Bool) → (x || ((b || l) && f)) ≡ ((x || (l && f)) || (b && f))
once_more true l f b = refl
once_more false l false b = simp and_false
once_more false l true true = simp or-true
once_more false l true false = simp (and-true, or-false)

-- ---- the symbols that the live ones lead to

-- whether two sets have a member in common
abbrev pub meets : ℕ → ℕ → Bool
meets S T = any_below 64 (λ j. bit S j && bit T j)

and_or : (s x y : Bool) → (s && (x || y)) ≡ ((s && x) || (s && y))
and_or true x y = refl
and_or false x y = refl

module _ (S i : ℕ) where
  leads_or : (f g : ℕ → ℕ) → leads (λ j. bit_or (f j) (g j)) S i ≡ (leads f S i || leads g S i)
  leads_or f g =
      any_same 64 (λ j. bit S j && bit (bit_or (f j) (g j)) i) (λ j. (bit S j && bit (f j) i) || (bit S j && bit (g j) i))
      (λ j l. ap (λ (b : Bool). bit S j && b) (bit_or_law (f j) (g j) i) ∙ and_or (bit S j) (bit (f j) i) (bit (g j) i))
      ∙ any_or 64 (λ j. bit S j && bit (f j) i) (λ j. bit S j && bit (g j) i)

  leads_over : (last first : ℕ) → leads (over last first) S i ≡ (meets S last && bit first i)
  leads_over last first =
      any_same 64 (λ j. bit S j && bit (over last first j) i) (λ j. (bit S j && bit last j) && bit first i)
      (λ j l. ap (λ (b : Bool). bit S j && b) (bit_kept (bit last j) first i) ∙ inv (and_assoc (bit S j) (bit last j) (bit first i)))
      ∙ any_and 64 (λ j. bit S j && bit last j) (bit first i)

  leads_none : (f : ℕ → ℕ) → ((j : ℕ) → bit (f j) i ≡ false) → leads f S i ≡ false
  leads_none f e = any_none 64 (λ j. bit S j && bit (f j) i) (λ j. ap (λ (b : Bool). bit S j && b) (e j) ∙ and_false (bit S j))

  leads_sequence : (a b : Automaton) → leads (in_sequence a b).next S i ≡ ((leads a.next S i || leads b.next S i) || (meets S a.sets.last && bit b.sets.first i))
  leads_sequence a b =
      leads_or (λ j. bit_or (a.next j) (b.next j)) (over a.sets.last b.sets.first)
      ∙ ap₂ ◌||◌ (leads_or a.next b.next) (leads_over a.sets.last b.sets.first)

  leads_again : (a : Automaton) → leads (again a).next S i ≡ (leads a.next S i || (meets S a.sets.last && bit a.sets.first i))
  leads_again a = leads_or a.next (over a.sets.last a.sets.first) ∙ ap (λ (b : Bool). leads a.next S i || b) (leads_over a.sets.last a.sets.first)

-- ---- at a symbol of the one part or of the other

module _ (S : ℕ) (b : Bool) (i : ℕ) where
  -- the symbols that may come: those that a live one leads to and, where the pattern may start here, the first ones
  abbrev pub comes : Automaton → Bool
  comes a = leads a.next S i || (b && bit a.sets.first i)

  module _ (A R : Automaton) where
    set_left : bit R.sets.first i ≡ false → leads R.next S i ≡ false → comes A ≡ comes (in_sequence A R)
    set_left p q =
        rw (leads_sequence S i A R, bit_join A.sets.first R.sets.first i A.sets.nullable, p, q)
        (in_left (leads A.next S i) (meets S A.sets.last) b (bit A.sets.first i) A.sets.nullable)

    set_right : bit A.sets.first i ≡ false → leads A.next S i ≡ false
        → (leads R.next S i || (((b && A.sets.nullable) || meets S A.sets.last) && bit R.sets.first i)) ≡ comes (in_sequence A R)
    set_right p q =
        rw (leads_sequence S i A R, bit_join A.sets.first R.sets.first i A.sets.nullable, p, q)
        (in_right (leads R.next S i) (meets S A.sets.last) (bit R.sets.first i) b A.sets.nullable)

    alt_a : bit R.sets.first i ≡ false → leads R.next S i ≡ false → comes A ≡ comes (in_alternatives A R)
    alt_a p q = rw (leads_or S i A.next R.next, bit_or_law A.sets.first R.sets.first i, p, q) (alt_left (leads A.next S i) b (bit A.sets.first i))

    alt_r : bit A.sets.first i ≡ false → leads A.next S i ≡ false → comes R ≡ comes (in_alternatives A R)
    alt_r p q = rw (leads_or S i A.next R.next, bit_or_law A.sets.first R.sets.first i, p, q)

  set_again : (A : Automaton) → (leads A.next S i || ((b || meets S A.sets.last) && bit A.sets.first i)) ≡ comes (again A)
  set_again A = rw (leads_again S i A) (once_more (leads A.next S i) (meets S A.sets.last) (bit A.sets.first i) b)

-- only r's own symbols matter to it
pub live_ext : (r : Regex ℕ) (k m : ℕ) → Numbered r k m → (S S' : ℕ → Bool) → ((i : ℕ) → k ≤ i → i < m → S i ≡ S' i) → with_live S r ≡ with_live S' r
unfolding Numbered with_live
live_ext empty k m h S S' e = refl
live_ext (sym n p) k m h S S' e = ap (λ (b : Bool). sym b p) (e n (omega arith) (omega arith))
live_ext (seq a b) k m h S S' e =
    let l = num_le a k h.0 h.1 in
    let u = num_le b h.0 m h.2 in
    ap₂ seq (live_ext a k h.0 h.1 S S' (λ i p q. e i p (omega arith))) (live_ext b h.0 m h.2 S S' (λ i p q. e i (omega arith) q))
live_ext (alt a b) k m h S S' e =
    let l = num_le a k h.0 h.1 in
    let u = num_le b h.0 m h.2 in
    ap₂ alt (live_ext a k h.0 h.1 S S' (λ i p q. e i p (omega arith))) (live_ext b h.0 m h.2 S S' (λ i p q. e i (omega arith) q))
live_ext (opt a) k m h S S' e = ap opt (live_ext a k m h S S' e)
live_ext (plus a) k m h S S' e = ap plus (live_ext a k m h S S' e)

pub nullable_ok : (r : Regex ℕ) (S : ℕ → Bool) → nullable (with_live S r) ≡ (automaton_of r).sets.nullable
unfolding nullable with_live automaton_of
nullable_ok empty S = refl
nullable_ok (sym n p) S = refl
nullable_ok (seq a b) S = ap₂ ◌&&◌ (nullable_ok a S) (nullable_ok b S)
nullable_ok (alt a b) S = ap₂ ◌||◌ (nullable_ok a S) (nullable_ok b S)
nullable_ok (opt a) S = refl
nullable_ok (plus a) S = nullable_ok a S

pub nullable_plain : (r : Regex ℕ) → nullable r ≡ (automaton_of r).sets.nullable
unfolding nullable automaton_of
nullable_plain empty = refl
nullable_plain (sym n p) = refl
nullable_plain (seq a b) = ap₂ ◌&&◌ (nullable_plain a) (nullable_plain b)
nullable_plain (alt a b) = ap₂ ◌||◌ (nullable_plain a) (nullable_plain b)
nullable_plain (opt a) = refl
nullable_plain (plus a) = nullable_plain a

-- the sets hold symbols of r alone
module _ (i : ℕ) where
  outside : (r : Regex ℕ) (k m : ℕ) → Numbered r k m → (k ≤ i → i < m → ⊥)
      → (bit (automaton_of r).sets.first i ≡ false) × ((j : ℕ) → bit ((automaton_of r).next j) i ≡ false)
  unfolding Numbered automaton_of
  outside empty k m h o = (bit_zero i, λ j. bit_zero i)
  outside (sym n p) k m h o = (bit_other n i (λ e. o (omega arith) (omega arith)), λ j. bit_zero i)
  outside (seq a b) k m h o =
      let l = num_le a k h.0 h.1 in
      let u = num_le b h.0 m h.2 in
      let x = outside a k h.0 h.1 (λ p q. o p (omega arith)) in
      let y = outside b h.0 m h.2 (λ p q. o (omega arith) q) in
      let A = automaton_of a in
      let R = automaton_of b in (
        rw (bit_join A.sets.first R.sets.first i A.sets.nullable, x.0, y.0) (and_false A.sets.nullable),
        λ j. rw (bit_join (bit_or (A.next j) (R.next j)) R.sets.first i (bit A.sets.last j), bit_or_law (A.next j) (R.next j) i, x.1 j, y.1 j, y.0)
            (and_false (bit A.sets.last j)),
      )
  outside (alt a b) k m h o =
      let l = num_le a k h.0 h.1 in
      let u = num_le b h.0 m h.2 in
      let x = outside a k h.0 h.1 (λ p q. o p (omega arith)) in
      let y = outside b h.0 m h.2 (λ p q. o (omega arith) q) in
      (rw (bit_or_law, x.0, y.0), λ j. rw (bit_or_law, x.1 j, y.1 j))
  outside (opt a) k m h o = outside a k m h o
  outside (plus a) k m h o =
      let x = outside a k m h o in
      let A = automaton_of a in
      (x.0, λ j. rw (bit_join (A.next j) A.sets.first i (bit A.sets.last j), x.1 j, x.0) (and_false (bit A.sets.last j)))

module _ (S c : ℕ) (h : ℕ → Bool) where
  meets_join : (x y : ℕ) (b : Bool) → meets S (bit_or x (kept_if b y)) ≡ ((meets S y && b) || meets S x)
  meets_join x y b =
      any_same 64 (λ j. bit S j && bit (bit_or x (kept_if b y)) j) (λ j. ((bit S j && bit y j) && b) || (bit S j && bit x j))
      (λ j l. ap (λ (t : Bool). bit S j && t) (bit_join x y j b) ∙ turn (bit S j) (bit x j) b (bit y j))
      ∙ any_or 64 (λ j. (bit S j && bit y j) && b) (λ j. bit S j && bit x j)
      ∙ ap (λ (t : Bool). t || meets S x) (any_and 64 (λ j. bit S j && bit y j) b)
    where
      turn : (s x b y : Bool) → (s && (x || (b && y))) ≡ (((s && y) && b) || (s && x))
      turn false x b y = refl
      turn true x true y = rw (and-true y) (or_comm x y)
      turn true x false y = rw (and_false y) (or-false x)

  meets_or : (x y : ℕ) → meets S (bit_or x y) ≡ (meets S x || meets S y)
  meets_or x y =
      any_same 64 (λ j. bit S j && bit (bit_or x y) j) (λ j. (bit S j && bit x j) || (bit S j && bit y j))
      (λ j l. ap (λ (t : Bool). bit S j && t) (bit_or_law x y j) ∙ and_or (bit S j) (bit x j) (bit y j))
      ∙ any_or 64 (λ j. bit S j && bit x j) (λ j. bit S j && bit y j)

  pub final_ok : (r : Regex ℕ) → Stands r h c → final (with_live (bit S) r) ≡ meets S (automaton_of r).sets.last
  unfolding final with_live automaton_of Stands
  final_ok empty t = inv (any_none 64 (λ j. bit S j && bit 0 j) (λ j. ap (λ (b : Bool). bit S j && b) (bit_zero j) ∙ and_false (bit S j)))
  final_ok (sym n p) t =
      inv
      (any_one 64 n (λ j. bit S j && bit (2 ^ n) j) (omega (arith, t.0)) (λ j d. ap (λ (b : Bool). bit S j && b) (bit_other n j d) ∙ and_false (bit S j))
      ∙ rw (bit_same n) (and-true (bit S n)))
  final_ok (seq a b) t =
      ap₂ ◌||◌ (ap₂ ◌&&◌ (final_ok a t.0) (nullable_ok b (bit S))) (final_ok b t.1)
      ∙ inv (meets_join (automaton_of b).sets.last (automaton_of a).sets.last (automaton_of b).sets.nullable)
  final_ok (alt a b) t = ap₂ ◌||◌ (final_ok a t.0) (final_ok b t.1) ∙ inv (meets_or (automaton_of a).sets.last (automaton_of b).sets.last)
  final_ok (opt a) t = final_ok a t
  final_ok (plus a) t = final_ok a t

  -- the live symbols after c are those that may come and stand for it
  pub step_ok : (r : Regex ℕ) (k m : ℕ) → Numbered r k m → Stands r h c → (b : Bool) → shift b (with_live (bit S) r) c ≡ with_live (λ i. h i && comes S b i (automaton_of r)) r
  unfolding Numbered automaton_of shift with_live Stands
  step_ok empty k m n t b = refl
  step_ok (sym j p) k m n t b =
      ap (λ (x : Bool). sym x p)
      (and_comm b (stands_for p c)
      ∙ inv (ap₂ ◌&&◌ t.1 (ap₂ (λ (x y : Bool). x || (b && y)) (leads_none S j (λ i. 0) (λ i. bit_zero j)) (bit_same j) ∙ and-true b)))
  step_ok (seq a r) k m n t b =
      let A = automaton_of a in
      let R = automaton_of r in
      ap₂ seq
      (step_ok a k n.0 n.1 t.0 b
      ∙ live_ext a k n.0 n.1 (λ i. h i && comes S b i A) (λ i. h i && comes S b i (in_sequence A R))
      (λ i p q. let y = outside i r n.0 m n.2 (λ p' q'. omega arith) in ap (λ (x : Bool). h i && x) (set_left S b i A R y.0 (leads_none S i R.next y.1))))
      (ap (λ (x : Bool). shift x (with_live (bit S) r) c) (ap₂ (λ (x y : Bool). (b && x) || y) (nullable_ok a (bit S)) (final_ok a t.0))
      ∙ step_ok r n.0 m n.2 t.1 ((b && A.sets.nullable) || meets S A.sets.last)
      ∙ live_ext r n.0 m n.2 (λ i. h i && comes S ((b && A.sets.nullable) || meets S A.sets.last) i R) (λ i. h i && comes S b i (in_sequence A R))
      (λ i p q. let y = outside i a k n.0 n.1 (λ p' q'. omega arith) in ap (λ (x : Bool). h i && x) (set_right S b i A R y.0 (leads_none S i A.next y.1))))
  step_ok (alt a r) k m n t b =
      let A = automaton_of a in
      let R = automaton_of r in
      ap₂ alt
      (step_ok a k n.0 n.1 t.0 b
      ∙ live_ext a k n.0 n.1 (λ i. h i && comes S b i A) (λ i. h i && comes S b i (in_alternatives A R))
      (λ i p q. let y = outside i r n.0 m n.2 (λ p' q'. omega arith) in ap (λ (x : Bool). h i && x) (alt_a S b i A R y.0 (leads_none S i R.next y.1))))
      (step_ok r n.0 m n.2 t.1 b
      ∙ live_ext r n.0 m n.2 (λ i. h i && comes S b i R) (λ i. h i && comes S b i (in_alternatives A R))
      (λ i p q. let y = outside i a k n.0 n.1 (λ p' q'. omega arith) in ap (λ (x : Bool). h i && x) (alt_r S b i A R y.0 (leads_none S i A.next y.1))))
  step_ok (opt a) k m n t b = ap opt (step_ok a k m n t b)
  step_ok (plus a) k m n t b =
      let A = automaton_of a in
      ap plus
      (ap (λ (x : Bool). shift x (with_live (bit S) a) c) (ap (λ (y : Bool). b || y) (final_ok a t))
      ∙ step_ok a k m n t (b || meets S A.sets.last)
      ∙ live_ext a k m n (λ i. h i && comes S (b || meets S A.sets.last) i A) (λ i. h i && comes S b i (again A))
      (λ i p q. ap (λ (x : Bool). h i && x) (set_again S b i A)))
