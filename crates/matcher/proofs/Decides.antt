-- A run decides `Matches`: it answers true exactly for the texts that the pattern matches. Assumes nothing.
use mathlib.Core.Path.{◌≡◌, refl, ap, ap₂, subst, sym as inv, ◌∙◌}
use mathlib.Core.Bool.{Bool, true, false, ◌&&◌, ◌||◌, false≢true}
use mathlib.Core.List.{List, [], ◌∷◌, ◌++◌, append-nil}
use mathlib.Core.Logic.{◌⊎◌, inl, inr, ◌↔◌, ⊎_elim}
use mathlib.Core.Option.{Option, none, some, some-injective, none-ne-some}
use Prim.Native.Nat.{ℕ}
use Rattle.pattern.specs.Regex.{stands_for, Regex, empty, sym, seq, alt, opt, plus, Split, Plus, last, more, Matches}
use Rattle.pattern.specs.Reading.{parse}
use Rattle.matcher.specs.Matcher.{like_of}
use Rattle.matcher.specs.Run.{nullable, final, shift, with_live, run, likes}

-- ---- Booleans and lists

and_split : (a b : Bool) → a && b ≡ true → (a ≡ true) × (b ≡ true)
and_split true b e = (refl, e)
and_split false b e = absurd (false≢true e)

and_join : {a b : Bool} → a ≡ true → b ≡ true → a && b ≡ true
and_join p q = rw (p, q)

or_split : (a b : Bool) → a || b ≡ true → (a ≡ true) ⊎ (b ≡ true)
or_split true b e = inl refl
or_split false b e = inr e

or_left : {a : Bool} (b : Bool) → a ≡ true → a || b ≡ true
or_left b p = rw p

or_right : (a : Bool) {b : Bool} → b ≡ true → a || b ≡ true
or_right true p = refl
or_right false p = p

cons_nil : {A : Type 0} {c : ℕ} {w : List ℕ} → c ∷ w ≡ [] → A
cons_nil e = absurd (let z : true ≡ false = cc in false≢true (inv z))

nil_split : (u v : List ℕ) → [] ≡ u ++ v → (u ≡ []) × (v ≡ [])
nil_split [] v e = (refl, inv e)
nil_split (x ∷ u) v e = cons_nil (inv e)

-- ---- one text after another

split_nil : (P Q : List ℕ → Type 0) → Split P Q [] → P [] × Q []
split_nil P Q (s) = let z = nil_split s.0 s.1 s.2 in (subst P z.0 s.3, subst Q z.1 s.4)

split_cons : (P Q : List ℕ → Type 0) {c : ℕ} {w : List ℕ} → Split P Q (c ∷ w) → (P [] × Q (c ∷ w)) ⊎ Split (λ u. P (c ∷ u)) Q w
split_cons P Q {c} {w} s = go s.0 s.1 s.2 s.3 s.4
  where
    go : (u v : List ℕ) → c ∷ w ≡ u ++ v → P u → Q v → (P [] × Q (c ∷ w)) ⊎ Split (λ u. P (c ∷ u)) Q w
    go [] v e p q = inl (p, subst Q (inv e) q)
    go (x ∷ u) v e p q =
        let h : x ≡ c = cc in
        let t : w ≡ u ++ v = cc in
        inr (u, v, t, subst (λ (y : ℕ). P (y ∷ u)) h p, q)

Star : (List ℕ → Type 0) → List ℕ → Type 0
Star P v = (v ≡ []) ⊎ Plus P v

plus_nil : (P : List ℕ → Type 0) {w : List ℕ} → Plus P w → w ≡ [] → P []
plus_nil P (last p) e = subst P e p
plus_nil P (more {u = u} {v = v} p q) e = subst P (nil_split u v (inv e)).0 p

-- a run of texts that begins with c: the rest of its first text, and then none or more
plus_cons : (P : List ℕ → Type 0) (c : ℕ) (w : List ℕ) {x : List ℕ} → Plus P x → x ≡ c ∷ w → Split (λ u. P (c ∷ u)) (Star P) w
unfolding Star
plus_cons P c w (last p) e = (w, [], inv (append-nil w), subst P e p, inl refl)
plus_cons P c w (more {u = u} {v = v} p q) e = go u v p q e (λ z. plus_cons P c w q z)
  where
    go : (u v : List ℕ) → P u → Plus P v → u ++ v ≡ c ∷ w → (v ≡ c ∷ w → Split (λ u. P (c ∷ u)) (Star P) w) → Split (λ u. P (c ∷ u)) (Star P) w
    go [] v p q e k = k e
    go (x ∷ u) v p q e k =
        let h : x ≡ c = cc in
        let t : w ≡ u ++ v = cc in
        (u, v, t, subst (λ (y : ℕ). P (y ∷ u)) h p, inr q)

cons_plus : (P : List ℕ → Type 0) (c : ℕ) (w : List ℕ) → Split (λ u. P (c ∷ u)) (Star P) w → Plus P (c ∷ w)
unfolding Star
cons_plus P c w s = go s.0 s.1 s.2 s.3 s.4
  where
    go : (u v : List ℕ) → w ≡ u ++ v → P (c ∷ u) → Star P v → Plus P (c ∷ w)
    go u v e p (inl z) = let h : u ≡ w = inv (append-nil u) ∙ ap (λ (l : List ℕ). u ++ l) (inv z) ∙ inv e in last (subst (λ (l : List ℕ). P (c ∷ l)) h p)
    go u v e p (inr q) = subst (λ (l : List ℕ). Plus P (c ∷ l)) (inv e) (more p q)

-- ---- the texts that complete the pattern after a live symbol

unfoldable Completes : Regex Bool → List ℕ → Type 0
Completes empty = λ w. ⊥
Completes (sym m p) = λ w. (m ≡ true) × (w ≡ [])
Completes (seq a b) = λ w. Split (Completes a) (Matches b) w ⊎ Completes b w
Completes (alt a b) = λ w. Completes a w ⊎ Completes b w
Completes (opt a) = Completes a
Completes (plus a) = Split (Completes a) (Star (Matches a))

nul→ : {A : Type 0} (r : Regex A) → Matches r [] → nullable r ≡ true
unfolding Matches nullable
nul→ empty m = refl
nul→ (sym b p) m = cons_nil (inv m.1)
nul→ (seq a b) m = let z = split_nil (Matches a) (Matches b) m in and_join (nul→ a z.0) (nul→ b z.1)
nul→ (alt a b) (inl m) = or_left (nullable b) (nul→ a m)
nul→ (alt a b) (inr m) = or_right (nullable a) (nul→ b m)
nul→ (opt a) m = refl
nul→ (plus a) m = nul→ a (plus_nil (Matches a) m refl)

nul← : {A : Type 0} (r : Regex A) → nullable r ≡ true → Matches r []
unfolding Matches nullable
nul← empty e = refl
nul← (sym b p) e = absurd (false≢true e)
nul← (seq a b) e = let z = and_split (nullable a) (nullable b) e in ([], [], refl, nul← a z.0, nul← b z.1)
nul← (alt a b) e = ⊎_elim (λ p. inl (nul← a p)) (λ p. inr (nul← b p)) (or_split (nullable a) (nullable b) e)
nul← (opt a) e = inl refl
nul← (plus a) e = last (nul← a e)

fin→ : (r : Regex Bool) → Completes r [] → final r ≡ true
unfolding Completes final
fin→ empty m = absurd m
fin→ (sym b p) m = m.0
fin→ (seq a b) (inl m) = let z = split_nil (Completes a) (Matches b) m in or_left (final b) (and_join (fin→ a z.0) (nul→ b z.1))
fin→ (seq a b) (inr m) = or_right (final a && nullable b) (fin→ b m)
fin→ (alt a b) (inl m) = or_left (final b) (fin→ a m)
fin→ (alt a b) (inr m) = or_right (final a) (fin→ b m)
fin→ (opt a) m = fin→ a m
fin→ (plus a) m = fin→ a (split_nil (Completes a) (Star (Matches a)) m).0

fin← : (r : Regex Bool) → final r ≡ true → Completes r []
unfolding Completes final Star
fin← empty e = absurd (false≢true e)
fin← (sym b p) e = (e, refl)
fin← (seq a b) e =
    ⊎_elim
    (λ p. let z = and_split (final a) (nullable b) p in inl ([], [], refl, fin← a z.0, nul← b z.1))
    (λ p. inr (fin← b p))
    (or_split (final a && nullable b) (final b) e)
fin← (alt a b) e = ⊎_elim (λ p. inl (fin← a p)) (λ p. inr (fin← b p)) (or_split (final a) (final b) e)
fin← (opt a) e = fin← a e
fin← (plus a) e = ([], [], refl, fin← a e, inl refl)

-- ---- which symbols are live doesn't change what is matched

keeps : (b : Bool) (r : Regex Bool) (c : ℕ) → Matches (shift b r c) ≡ Matches r
unfolding Matches shift
keeps b empty c = refl
keeps b (sym m p) c = refl
keeps b (seq a r) c = ap₂ Split (keeps b a c) (keeps (b && nullable a || final a) r c)
keeps b (alt a r) c = λ i w. keeps b a c i w ⊎ keeps b r c i w
keeps b (opt a) c = λ i w. (w ≡ []) ⊎ keeps b a c i w
keeps b (plus a) c = ap Plus (keeps (b || final a) a c)

keep : (b : Bool) (r : Regex Bool) (c : ℕ) (w : List ℕ) → Matches (shift b r c) w → Matches r w
keep b r c w m = subst (λ (L : List ℕ → Type 0). L w) (keeps b r c) m

kept : (b : Bool) (r : Regex Bool) (c : ℕ) (w : List ℕ) → Matches r w → Matches (shift b r c) w
kept b r c w m = subst (λ (L : List ℕ → Type 0). L w) (inv (keeps b r c)) m

keep* : (b : Bool) (r : Regex Bool) (c : ℕ) (w : List ℕ) → Star (Matches (shift b r c)) w → Star (Matches r) w
keep* b r c w m = subst (λ (L : List ℕ → Type 0). Star L w) (keeps b r c) m

kept* : (b : Bool) (r : Regex Bool) (c : ℕ) (w : List ℕ) → Star (Matches r) w → Star (Matches (shift b r c)) w
kept* b r c w m = subst (λ (L : List ℕ → Type 0). Star L w) (inv (keeps b r c)) m

-- ---- the step: what completes the pattern after c is what completed it before, of the texts that begin with c

shift→ : (b : Bool) (r : Regex Bool) (c : ℕ) (w : List ℕ) → Completes (shift b r c) w → ((b ≡ true) × Matches r (c ∷ w)) ⊎ Completes r (c ∷ w)
unfolding Matches shift Completes Star
shift→ b empty c w m = absurd m
shift→ b (sym l p) c w m =
    let z = and_split b (stands_for p c) m.0 in
    inl (z.0, (c, ap (λ (k : List ℕ). c ∷ k) m.1, z.1))
shift→ b (seq a r) c w (inl m) =
    ⊎_elim
    (λ x. inl (x.0, (c ∷ m.0, m.1, ap (λ (k : List ℕ). c ∷ k) m.2, x.1, keep (b && nullable a || final a) r c m.1 m.4)))
    (λ x. inr (inl (c ∷ m.0, m.1, ap (λ (k : List ℕ). c ∷ k) m.2, x, keep (b && nullable a || final a) r c m.1 m.4)))
    (shift→ b a c m.0 m.3)
shift→ b (seq a r) c w (inr m) =
    ⊎_elim
    (λ x. ⊎_elim
    (λ y. let z = and_split b (nullable a) y in inl (z.0, ([], c ∷ w, refl, nul← a z.1, x.1)))
    (λ y. inr (inl ([], c ∷ w, refl, fin← a y, x.1)))
    (or_split (b && nullable a) (final a) x.0))
    (λ x. inr (inr x))
    (shift→ (b && nullable a || final a) r c w m)
shift→ b (alt a r) c w (inl m) = ⊎_elim (λ x. inl (x.0, inl x.1)) (λ x. inr (inl x)) (shift→ b a c w m)
shift→ b (alt a r) c w (inr m) = ⊎_elim (λ x. inl (x.0, inr x.1)) (λ x. inr (inr x)) (shift→ b r c w m)
shift→ b (opt a) c w m = ⊎_elim (λ x. inl (x.0, inr x.1)) (λ x. inr x) (shift→ b a c w m)
shift→ b (plus a) c w m =
    let s = keep* (b || final a) a c m.1 m.4 in
    ⊎_elim
    (λ x.
    let q = cons_plus (Matches a) c w (m.0, m.1, m.2, x.1, s) in
    ⊎_elim
    (λ y. inl (y, q))
    (λ y. inr ([], c ∷ w, refl, fin← a y, inr q))
    (or_split b (final a) x.0))
    (λ x. inr (c ∷ m.0, m.1, ap (λ (k : List ℕ). c ∷ k) m.2, x, s))
    (shift→ (b || final a) a c m.0 m.3)

shift← : (b : Bool) (r : Regex Bool) (c : ℕ) (w : List ℕ) → ((b ≡ true) × Matches r (c ∷ w)) ⊎ Completes r (c ∷ w) → Completes (shift b r c) w
unfolding Matches shift Completes Star
shift← b empty c w (inl m) = cons_nil m.1
shift← b empty c w (inr m) = absurd m
shift← b (sym l p) c w (inl m) =
    let x = m.1.0 in
    let e : c ∷ w ≡ x ∷ [] = m.1.1 in
    let h : x ≡ c = cc in
    let z : w ≡ [] = cc in
    (and_join m.0 (subst (λ (k : ℕ). stands_for p k ≡ true) h m.1.2), z)
shift← b (sym l p) c w (inr m) = cons_nil m.1
shift← b (seq a r) c w (inl m) =
    ⊎_elim
    (λ x. inr (shift← (b && nullable a || final a) r c w (inl (or_left (final a) (and_join m.0 (nul→ a x.0)), x.1))))
    (λ x. inl (x.0, x.1, x.2, shift← b a c x.0 (inl (m.0, x.3)), kept (b && nullable a || final a) r c x.1 x.4))
    (split_cons (Matches a) (Matches r) m.1)
shift← b (seq a r) c w (inr (inl m)) =
    ⊎_elim
    (λ x. inr (shift← (b && nullable a || final a) r c w (inl (or_right (b && nullable a) (fin→ a x.0), x.1))))
    (λ x. inl (x.0, x.1, x.2, shift← b a c x.0 (inr x.3), kept (b && nullable a || final a) r c x.1 x.4))
    (split_cons (Completes a) (Matches r) m)
shift← b (seq a r) c w (inr (inr m)) = inr (shift← (b && nullable a || final a) r c w (inr m))
shift← b (alt a r) c w (inl m) = ⊎_elim (λ x. inl (shift← b a c w (inl (m.0, x)))) (λ x. inr (shift← b r c w (inl (m.0, x)))) m.1
shift← b (alt a r) c w (inr (inl m)) = inl (shift← b a c w (inr m))
shift← b (alt a r) c w (inr (inr m)) = inr (shift← b r c w (inr m))
shift← b (opt a) c w (inl m) = ⊎_elim (λ x. cons_nil x) (λ x. shift← b a c w (inl (m.0, x))) m.1
shift← b (opt a) c w (inr m) = shift← b a c w (inr m)
shift← b (plus a) c w (inl m) =
    let x = plus_cons (Matches a) c w m.1 refl in
    (x.0, x.1, x.2, shift← (b || final a) a c x.0 (inl (or_left (final a) m.0, x.3)), kept* (b || final a) a c x.1 x.4)
shift← b (plus a) c w (inr m) =
    ⊎_elim
    (λ y. ⊎_elim
    (λ z. cons_nil z)
    (λ z.
    let x = plus_cons (Matches a) c w z refl in
    (x.0, x.1, x.2, shift← (b || final a) a c x.0 (inl (or_right b (fin→ a y.0), x.3)), kept* (b || final a) a c x.1 x.4))
    y.1)
    (λ x. (x.0, x.1, x.2, shift← (b || final a) a c x.0 (inr x.3), kept* (b || final a) a c x.1 x.4))
    (split_cons (Completes a) (Star (Matches a)) m)

-- ---- a whole text

run→ : (r : Regex Bool) (w : List ℕ) → run r w ≡ true → Completes r w
unfolding run
run→ r [] e = fin← r e
run→ r (c ∷ w) e = ⊎_elim (λ x. absurd (false≢true x.0)) (λ x. x) (shift→ false r c w (run→ (shift false r c) w e))

run← : (r : Regex Bool) (w : List ℕ) → Completes r w → run r w ≡ true
unfolding run
run← r [] m = fin→ r m
run← r (c ∷ w) m = run← (shift false r c) w (shift← false r c w (inr m))

matches_live : (S : ℕ → Bool) (r : Regex ℕ) → Matches (with_live S r) ≡ Matches r
unfolding Matches with_live
matches_live S empty = refl
matches_live S (sym m p) = refl
matches_live S (seq a r) = ap₂ Split (matches_live S a) (matches_live S r)
matches_live S (alt a r) = λ i w. matches_live S a i w ⊎ matches_live S r i w
matches_live S (opt a) = λ i w. (w ≡ []) ⊎ matches_live S a i w
matches_live S (plus a) = ap Plus (matches_live S a)

none_live : (r : Regex ℕ) (w : List ℕ) → Completes (with_live (λ i. false) r) w → ⊥
unfolding Completes with_live
none_live empty w m = m
none_live (sym b p) w m = false≢true m.0
none_live (seq a r) w (inl m) = none_live a m.0 m.3
none_live (seq a r) w (inr m) = none_live r w m
none_live (alt a r) w (inl m) = none_live a w m
none_live (alt a r) w (inr m) = none_live r w m
none_live (opt a) w m = none_live a w m
none_live (plus a) w m = none_live a m.0 m.3

-- where no symbol is live, no text is matched any more
pub none_runs : (r : Regex ℕ) (w : List ℕ) → run (with_live (λ i. false) r) w ≡ false
none_runs r w = go (run (with_live (λ i. false) r) w) refl
  where
    go : (b : Bool) → run (with_live (λ i. false) r) w ≡ b → b ≡ false
    go true e = absurd (none_live r w (run→ (with_live (λ i. false) r) w e))
    go false e = refl

-- a run answers true exactly for the texts that the pattern matches
pub decides : (r : Regex ℕ) (w : List ℕ) → (likes r w ≡ true) ↔ Matches r w
unfolding likes
decides r [] = (nul← r, nul→ r)
decides r (c ∷ w) =
    let o = with_live (λ i. false) r in (
      (λ e. ⊎_elim
          (λ x. subst (λ (L : List ℕ → Type 0). L (c ∷ w)) (matches_live (λ i. false) r) x.1)
          (λ x. absurd (none_live r (c ∷ w) x))
          (shift→ true o c w (run→ (shift true o c) w e))),
      (λ m. run← (shift true o c) w (shift← true o c w (inl (refl, subst (λ (L : List ℕ → Type 0). L (c ∷ w)) (inv (matches_live (λ i. false) r)) m)))),
    )

-- the same of the definition that the promises cite: it is true exactly where the first text is a pattern, and that pattern matches the second
pub like_decides : (p w : List ℕ) → (like_of (parse p) w ≡ true) ↔ ((r : Regex ℕ) × (parse p ≡ some r) × Matches r w)
like_decides p w = go (parse p)
  where
    go : (X : Option (Regex ℕ)) → (like_of X w ≡ true) ↔ ((r : Regex ℕ) × (X ≡ some r) × Matches r w)
    go none = ((λ e. absurd (false≢true e)), (λ m. absurd (none-ne-some m.0 m.1)))
    go (some r) = ((λ e. (r, refl, (decides r w).0 e)), (λ m. (decides r w).1 (subst (λ (a : Regex ℕ). Matches a w) (some-injective m.0 r (inv m.1)) m.2)))
