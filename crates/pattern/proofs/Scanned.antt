-- One law for each way out of the loop over a pattern's symbols. Assumes nothing.
use mathlib.Core.Path.{◌≡◌, refl, ap, subst, sym as inv, ◌∙◌}
use mathlib.Core.Bool.{Bool, true, false, ◌&&◌, ◌||◌}
use mathlib.Core.List.{List, [], ◌∷◌}
use Prim.Native.Nat.{ℕ, suc, ◌≤◌, ◌<◌, ◌+◌, ◌*◌, ◌-◌, ◌%◌, ◌^◌}
use native.Mathlib.Omega.{arith}
use native.Mathlib.Decide.{ℕ_discrete, dec_lt}
use lib.ListN.{length, drop, get_or, length-drop, drop_of_length-le}
use lib.Bits.{bit_or}
use Rattle.base.specs.Bits.{bit}
use Rattle.base.proofs.Bits.{bit_or_law, bit_zero, bit_same, bit_other}
use Rattle.base.proofs.Lists.{left_next}
use Rattle.std.specs.Prelude.{Option, Some, None}
use Rattle.pattern.specs.Regex.{Symbol, stands_for}
use Rattle.pattern.specs.Reading.{Reading, malformed, front, symbol}
use Rattle.pattern.specs.Automaton.{kept_if}
use Rattle.pattern.specs.Answers.{GivesSymbol}
use Rattle.pattern.specs.Hits.{between, Lists, no_more, passed, listed, stands_at, Hits}
use lib.Dec.{eqb}
use borrow.Author.Tests.{eqb-false}
use Rattle.pattern.specs.Character.{dot, special}
use Rattle.pattern.proofs.Automata.{bit_kept}
use Rattle.pattern.proofs.Complete.{plain}
use Rattle.pattern.proofs.Symbols.{symbol_plain}
use Rattle.pattern.proofs.Linking.{shl_one}
use Rattle.pattern.proofs.Sets.{Leaves, left_less}
use Rattle.pattern.proofs.Leaves.{symbol_leaves}
use Rattle.pattern.proofs.Parts.{symbol_bad, symbol_good}

-- ---- a character that isn't special is a symbol

pub symbol_ordinary : (s : List ℕ) (at c : ℕ) → at < length s → (get_or s at 0 ≡ dot → ⊥) → {t : Bool} → t ≡ special (get_or s at 0) → t ≡ false
    → GivesSymbol s c (Some (at + 1, eqb (get_or s at 0) c)) (symbol (drop at s))
symbol_ordinary s at c inside no-dot test q =
    let z = plain (get_or s at 0) (inv test ∙ q) in
    symbol_plain s at c inside no-dot (eqb-false _ _ z.1) (eqb-false _ _ z.4) test q

-- ---- what a text lists first

passed_one : (ps : List Symbol) (u : List ℕ) (x : ℕ) (t : List ℕ) → u ≡ x ∷ t → between x ≡ true → Lists u ps → Lists t ps
passed_one ps u x t e b no_more = absurd (let z : ◌≡◌ {A = ℕ} 0 1 = cc in omega arith)
passed_one ps u x t e b (passed {x = y} {s = v} h l) = let z : v ≡ t = cc in subst (λ (w : List ℕ). Lists w ps) z l
passed_one ps u x t e b (listed {x = y} h q l) =
    let z : y ≡ x = cc in
    absurd (let w : true ≡ false = inv b ∙ ap between (inv z) ∙ h in let v : ◌≡◌ {A = ℕ} 0 1 = cc in omega arith)

-- the first symbol of the rest is the one that is read
record First (ps : List Symbol) (p : Symbol) (t : List ℕ) : Type 0 where
  others : List Symbol
  is : ps ≡ p ∷ others
  lists : Lists t others

first_listed : (ps : List Symbol) (u : List ℕ) (x : ℕ) (w : List ℕ) → u ≡ x ∷ w → between x ≡ false → Lists u ps
    → (p : Symbol) × (t : List ℕ) × (symbol u ≡ front p t) × First ps p t
first_listed ps u x w e b no_more = absurd (let z : ◌≡◌ {A = ℕ} 0 1 = cc in omega arith)
first_listed ps u x w e b (passed {x = z} h l) =
    let q : z ≡ x = cc in
    absurd (let v : true ≡ false = inv h ∙ ap between q ∙ b in let n : ◌≡◌ {A = ℕ} 0 1 = cc in omega arith)
first_listed ps u x w e b (listed {t = t} {p = p} {ps = qs} h q l) = (p, t, q, record { others = qs; is = refl; lists = l })

-- ---- the loop

-- of the symbols ps those before the k-th are found, and the text from an offset on lists the others
pub record Rest (s : List ℕ) (c : ℕ) (ps : List Symbol) (at k found : ℕ) : Type 0 where
  pub rest : List Symbol
  pub lists : Lists (drop at s) rest
  pub ahead : (i : ℕ) → stands_at ps (k + i) c ≡ stands_at rest i c
  pub behind : (i : ℕ) → i < k → bit found i ≡ stands_at ps i c
  pub fresh : (i : ℕ) → k ≤ i → bit found i ≡ false

pub record Scanning (s : List ℕ) (c at k found : ℕ) : Type 0 where
  pub each : (ps : List Symbol) → Lists s ps → Rest s c ps at k found

off : (b h : Bool) → (b || (h && false)) ≡ b
off true h = refl
off false true = refl
off false false = refl

on : (h : Bool) → (false || (h && true)) ≡ h
on true = refl
on false = refl

module _ (s : List ℕ) (c : ℕ) where
  stands_first : (p : Symbol) (ps : List Symbol) → stands_at (p ∷ ps) 0 c ≡ stands_for p c
  unfolding stands_at
  stands_first p ps = refl

  stands_later : (p : Symbol) (ps : List Symbol) (i : ℕ) → stands_at (p ∷ ps) (suc i) c ≡ stands_at ps i c
  unfolding stands_at
  stands_later p ps i = refl

  pub scanning_start : Scanning s c 0 0 0
  scanning_start = record {
    each = λ ps l. record {
      rest = ps;
      lists = l;
      ahead = λ i. ap (λ (n : ℕ). stands_at ps n c) (omega arith);
      behind = λ i h. absurd (omega arith);
      fresh = λ i h. bit_zero i;
    };
  }

  module _ {at k found : ℕ} (here : Scanning s c at k found) where
    listed_end : (ps : List Symbol) (i : ℕ) → Lists [] ps → stands_at ps i c ≡ false
    unfolding stands_at
    listed_end ps i no_more = refl

    pub scanned_end : length s ≤ at → Hits s c found
    scanned_end h ps l i b = go (dec_lt i k)
      where
        r : Rest s c ps at k found
        r = here.each ps l

        go : Dec (i < k) → bit found i ≡ stands_at ps i c
        go (yes q) = r.behind i q
        go (no q) =
            r.fresh i (omega arith)
            ∙ inv
            (ap (λ (n : ℕ). stands_at ps n c) (omega arith)
            ∙ r.ahead (i - k)
            ∙ listed_end r.rest (i - k) (subst (λ (u : List ℕ). Lists u r.rest) (drop_of_length-le s h) r.lists))

    pub scanned_full : 64 ≤ k → Hits s c found
    scanned_full h ps l i b = (here.each ps l).behind i (omega arith)

    module _ (inside : at < length s) where
      pub scanning_passed : {t : Bool} → t ≡ between (get_or s at 0) → t ≡ true → Scanning s c (at + 1) k found
      scanning_passed {t} test held = record {
        each = λ ps l.
            let r = here.each ps l in
            record {
              rest = r.rest;
              lists = passed_one r.rest (drop at s) (get_or s at 0) (drop (at + 1) s) (left_next s at inside) (inv test ∙ held) r.lists;
              ahead = r.ahead;
              behind = r.behind;
              fresh = r.fresh;
            };
      }

      module _ {t : Bool} (test : t ≡ between (get_or s at 0)) (failed : t ≡ false) {y : Option (ℕ × Bool)} (read : GivesSymbol s c y (symbol (drop at s))) where
        pub scanned_bad : y ≡ None → Hits s c found
        scanned_bad q ps l i b =
            let r = here.each ps l in
            let x = first_listed r.rest (drop at s) (get_or s at 0) (drop (at + 1) s) (left_next s at inside) (inv test ∙ failed) r.lists in
            let z : malformed ≡ front x.0 x.1 = inv (symbol_bad s c y (symbol (drop at s)) read q) ∙ x.2 in
            absurd (let n : ◌≡◌ {A = ℕ} 0 1 = cc in omega arith)

        pub symbol_further : {e : ℕ} {hit : Bool} → y ≡ Some (e, hit) → length s - e < length s - at
        symbol_further {e} {hit} q =
            let x = symbol_good s c y (symbol (drop at s)) e hit read q in
            let l = left_less (subst (λ (X : Reading Symbol). Leaves (length (drop at s)) X) x.1 (symbol_leaves (drop at s))) in
            omega (arith, length-drop e s, length-drop at s)

        module _ {e own : ℕ} {hit : Bool} (q : y ≡ Some (e, hit)) (room : k < 64) (o : own ≡ kept_if hit (1 * 2 ^ k % 2 ^ 64)) where
          bits : (i : ℕ) → bit (bit_or found own) i ≡ (bit found i || (hit && bit (2 ^ k) i))
          bits i = bit_or_law found own i ∙ ap (λ (b : Bool). bit found i || b) (ap (λ (n : ℕ). bit n i) (o ∙ ap (kept_if hit) (shl_one k room)) ∙ bit_kept hit (2 ^ k) i)

          other_bit : (i : ℕ) → (i ≡ k → ⊥) → bit (bit_or found own) i ≡ bit found i
          other_bit i d = bits i ∙ ap (λ (b : Bool). bit found i || (hit && b)) (bit_other k i d) ∙ off (bit found i) hit

          own_bit : bit found k ≡ false → bit (bit_or found own) k ≡ hit
          own_bit f = bits k ∙ rw (f, bit_same k) (on hit)

          next_rest : (ps : List Symbol) → Rest s c ps at k found → Rest s c ps e (k + 1) (bit_or found own)
          next_rest ps r =
              let g = symbol_good s c y (symbol (drop at s)) e hit read q in
              let x = first_listed r.rest (drop at s) (get_or s at 0) (drop (at + 1) s) (left_next s at inside) (inv test ∙ failed) r.lists in
              let z : front x.0 x.1 ≡ front g.0 (drop e s) = inv x.2 ∙ g.1 in
              let same : x.0 ≡ g.0 = cc in
              let left : x.1 ≡ drop e s = cc in
              let own-stands : stands_at ps k c ≡ hit =
              ap (λ (n : ℕ). stands_at ps n c) (omega arith)
              ∙ r.ahead 0
              ∙ ap (λ (v : List Symbol). stands_at v 0 c) x.3.is
              ∙ stands_first x.0 x.3.others
              ∙ ap (λ (p : Symbol). stands_for p c) same
              ∙ g.2 in
              record {
                rest = x.3.others;
                lists = subst (λ (u : List ℕ). Lists u x.3.others) left x.3.lists;
                ahead = λ i.
                    ap (λ (n : ℕ). stands_at ps n c) (omega arith)
                    ∙ r.ahead (suc i)
                    ∙ ap (λ (v : List Symbol). stands_at v (suc i) c) x.3.is
                    ∙ stands_later x.0 x.3.others i;
                behind = λ i h. by_place i h (ℕ_discrete i k) own-stands r;
                fresh = λ i h. other_bit i (λ d. omega arith) ∙ r.fresh i (omega arith);
              }
            where
              by_place : (i : ℕ) → i < k + 1 → Dec (i ≡ k) → stands_at ps k c ≡ hit → Rest s c ps at k found → bit (bit_or found own) i ≡ stands_at ps i c
              by_place i h (yes d) w r = ap (λ (n : ℕ). bit (bit_or found own) n) d ∙ own_bit (r.fresh k (omega arith)) ∙ inv w ∙ ap (λ (n : ℕ). stands_at ps n c) (inv d)
              by_place i h (no d) w r = other_bit i d ∙ r.behind i (omega arith)

          pub scanning_next : Scanning s c e (k + 1) (bit_or found own)
          scanning_next = record { each = λ ps l. next_rest ps (here.each ps l) }
