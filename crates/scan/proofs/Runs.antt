-- Laws of runs: one step, the end, their bounds, and that they are the longest.
use mathlib.Core.Path.{◌≡◌, refl, sym, ap, ◌∙◌}
use mathlib.Core.Bool.{Bool, true, false, not, cond, true≢false}
use mathlib.Core.List.{List, [], ◌∷◌}
use Prim.Native.Nat.{ℕ, zero, suc, ◌+◌, ◌-◌, ◌≤◌, ◌<◌, min}
use native.Mathlib.Numerals.{add-one}
use native.Mathlib.Omega.{arith}
use lib.ListN.{length, get_or, take, drop, length-drop, drop_of_length-le}
use lib.Dec.{leb, ltb}
use Rattle.std.specs.Option.{unwrap_or}
use Rattle.std.specs.List.{position, position_or_len}
use Rattle.std.proofs.lemmas.List.Recursion.{is_position_or_len}
use Rattle.std.proofs.Math.Seq.{take-length}
use lib.Seq.{drop-cons, get_or-drop}
use borrow.Author.Tests.{not-true, not-false, leb-true, leb-false, ltb-false, le-ltb}
use Rattle.base.specs.Part.{byte_at}
use Rattle.base.specs.Range.{within}
use Rattle.base.specs.Digit.{digit_of}
use Rattle.base.proofs.Lists.{byte_within}
use Rattle.record.specs.Name.{letter, name_byte}
use Rattle.scan.specs.declared.Class.{Class}
use Rattle.scan.specs.declared.Class.TheVariants.{White, Word, Digit}
use Rattle.scan.specs.Class.{white, in_class, span, run}

span_stop : (c : Class) (b : ℕ) (s : List ℕ) → in_class c b ≡ false → span c (b ∷ s) ≡ 0
unfolding span
span_stop c b s e = rw (e, span) refl

span_more : (c : Class) (b : ℕ) (s : List ℕ) → in_class c b ≡ true → span c (b ∷ s) ≡ suc (span c s)
unfolding span
span_more c b s e = rw (e, span) refl

module _ {r : Bool} (c : Class) (q : List ℕ) (at : ℕ) where
  pub run_stop : at < length q → r ≡ in_class c (byte_at q at) → not r ≡ true → run c q at ≡ at
  unfolding run
  run_stop h e t = rw (drop-cons q at 0 h) (rw (span_stop c (get_or q at 0) (drop (suc at) q) (sym e ∙ not-true r t)) (omega arith))

  pub run_more : at < length q → r ≡ in_class c (byte_at q at) → not r ≡ false → run c q at ≡ run c q (at + 1)
  unfolding run
  run_more h e t = rw (drop-cons q at 0 h) (rw (span_more c (get_or q at 0) (drop (suc at) q) (sym e ∙ not-false r t)) (rw add-one (omega arith)))

pub run_end : (c : Class) (q : List ℕ) (at : ℕ) → length q ≤ at → run c q at ≡ at
unfolding run span
run_end c q at h = rw (drop_of_length-le q h) (omega arith)

-- a run starts at its place and ends within the text
span_le : (c : Class) (s : List ℕ) → span c s ≤ length s
unfolding span
span_le c [] = omega arith
span_le c (b ∷ s) = go (in_class c b) (span_le c s)
  where
    go : (t : Bool) → span c s ≤ length s → elim t [ true ↦ suc (span c s) | false ↦ 0 ] ≤ suc (length s)
    go true h = omega arith
    go false h = omega arith

-- a run is as long as the bytes before the first that isn't of its class
module _ (c : Class) where
  outside_step : (b : ℕ) (s : List ℕ) → span c (b ∷ s) ≡ cond (not (in_class c b)) 0 (1 + span c s)
  outside_step b s = go (in_class c b) refl
    where
      go : (t : Bool) → in_class c b ≡ t → span c (b ∷ s) ≡ cond (not (in_class c b)) 0 (1 + span c s)
      go true e = rw (span_more c b s e, e) (omega arith)
      go false e = rw (span_stop c b s e, e) refl

  pub span_outside : (s : List ℕ) → unwrap_or (position (λ b. not (in_class c b)) s) (length s) ≡ span c s
  unfolding span
  span_outside s =
      go (ltb (position_or_len (λ b. not (in_class c b)) s) (length s)) refl (is_position_or_len (span c) (λ b. not (in_class c b)) refl outside_step s)
    where
      go : (t : Bool) → ltb (position_or_len (λ b. not (in_class c b)) s) (length s) ≡ t → span c s ≡ position_or_len (λ b. not (in_class c b)) s
          → unwrap_or (position (λ b. not (in_class c b)) s) (length s) ≡ span c s
      go true e k = rw e (sym k)
      go false e k = rw e (omega (arith, ltb-false _ _ e, span_le c s, k))

-- what is left from a place on, also past the end
pub rest_from : {m : ℕ} (q : List ℕ) (at : ℕ) → m ≡ min at (length q) → take (length q - m) (drop m q) ≡ drop at q
rest_from {m} q at f = go (leb at (length q)) refl
  where
    go : (t : Bool) → leb at (length q) ≡ t → take (length q - m) (drop m q) ≡ drop at q
    go true t =
        let k = leb-true at (length q) t in
        let e : m ≡ at = omega (arith, f, k) in
        rw (e, ← length-drop at q) (take-length (drop at q))
    go false t =
        let k = leb-false at (length q) t in
        let e : length q - m ≡ 0 = omega (arith, f, k) in
        rw (drop_of_length-le q {i = m} (omega (arith, f, k)), drop_of_length-le q {i = at} (omega (arith, k)), e) refl

pub run_within : (c : Class) (q : List ℕ) (at : ℕ) → at ≤ length q → run c q at ≤ length q
unfolding run
run_within c q at h = omega (arith, span_le c (drop at q), length-drop at q)

pub run_from : (c : Class) (q : List ℕ) (at : ℕ) → at ≤ run c q at
unfolding run
run_from c q at = omega arith

-- from any place, also one past the end
pub run_reach : (c : Class) (q : List ℕ) (at : ℕ) → run c q at - at ≤ length q - at
unfolding run
run_reach c q at = omega (arith, span_le c (drop at q), length-drop at q)

-- a run holds bytes of its class, and the byte after it is none
span_holds : (c : Class) (s : List ℕ) (i : ℕ) → i < span c s → in_class c (get_or s i 0) ≡ true
unfolding span
span_holds c [] i h = absurd (omega arith)
span_holds c (b ∷ s) i h = go (in_class c b) refl i h (span_holds c s)
  where
    go : (t : Bool) → in_class c b ≡ t → (i : ℕ) → i < elim t [ true ↦ suc (span c s) | false ↦ 0 ]
        → ((i : ℕ) → i < span c s → in_class c (get_or s i 0) ≡ true) → in_class c (get_or (b ∷ s) i 0) ≡ true
    go true e zero h f = e
    go true e (suc i) h f = f i (omega arith)
    go false e i h f = absurd (omega arith)

span_stops : (c : Class) (s : List ℕ) → span c s < length s → in_class c (get_or s (span c s) 0) ≡ false
unfolding span
span_stops c [] h = absurd (omega arith)
span_stops c (b ∷ s) h = go (in_class c b) refl h (span_stops c s)
  where
    go : (t : Bool) → in_class c b ≡ t → elim t [ true ↦ suc (span c s) | false ↦ 0 ] < suc (length s)
        → (span c s < length s → in_class c (get_or s (span c s) 0) ≡ false) → in_class c (get_or (b ∷ s) (elim t [ true ↦ suc (span c s) | false ↦ 0 ]) 0) ≡ false
    go true e h f = f (omega arith)
    go false e h f = e

pub run_holds : (c : Class) (q : List ℕ) (at m : ℕ) → at ≤ m → m < run c q at → in_class c (byte_at q m) ≡ true
unfolding run
run_holds c q at m l h =
    let e : get_or (drop at q) (m - at) 0 ≡ get_or q (at + (m - at)) 0 = get_or-drop at q (m - at) 0 in
    let z : at + (m - at) ≡ m = omega arith in
    rw (← z, ← e) (span_holds c (drop at q) (m - at) (omega arith))

-- a class without 0, which is read past the end
module _ (c : Class) (other : in_class c 0 ≡ false) (q : List ℕ) where
  pub class_inside : (m : ℕ) → in_class c (byte_at q m) ≡ true → m < length q
  class_inside m h = byte_within q m (λ z. true≢false (sym h ∙ ap (in_class c) z ∙ other))

  pub run_stops : (at : ℕ) → in_class c (byte_at q (run c q at)) ≡ false
  unfolding run
  run_stops at = go (in_class c (byte_at q (run c q at))) refl
    where
      go : (t : Bool) → in_class c (byte_at q (run c q at)) ≡ t → t ≡ false
      go true e =
          let w = class_inside (run c q at) e in
          absurd (true≢false (sym e ∙ rw (← get_or-drop at q (span c (drop at q)) 0) (span_stops c (drop at q) (omega (arith, length-drop at q)))))
      go false e = refl

  -- bytes of the class that follow one another end within the run
  pub run_longest : (at n : ℕ) → ((i : ℕ) → i < n → in_class c (byte_at q (at + i)) ≡ true) → at + n ≤ run c q at
  run_longest at n f = go (leb (at + n) (run c q at)) refl
    where
      go : (t : Bool) → leb (at + n) (run c q at) ≡ t → at + n ≤ run c q at
      go true e = leb-true (at + n) (run c q at) e
      go false e =
          let s = leb-false (at + n) (run c q at) e in
          let g = run_from c q at in
          let z : at + (run c q at - at) ≡ run c q at = omega arith in
          absurd (true≢false (sym (rw z at (f (run c q at - at) (omega arith))) ∙ run_stops at))

-- neither whitespace nor a word holds a 0, nor do digits
pub white_no_zero : in_class White 0 ≡ false
unfolding in_class white
white_no_zero = refl

pub word_no_zero : in_class Word 0 ≡ false
unfolding in_class name_byte letter within
word_no_zero = refl

pub digit_no_zero : (base : ℕ) → base ≤ 16 → in_class (Digit base) 0 ≡ false
unfolding in_class digit_of within
digit_no_zero base h = le-ltb 16 base h
