-- Windows over plain marks: which marks they hold, and how many of those are included when a window grows, or moves to the mark before.
use Prim.Native.Nat.{ℕ, ◌+◌, ◌-◌, ◌≤◌, ◌<◌}
use mathlib.Core.List.{List, [], ◌∷◌, ◌++◌, append_assoc}
use mathlib.Core.Bool.{Bool, true, false}
use mathlib.Core.Path.{◌≡◌, refl, sym, ap, ◌∙◌}
use native.Mathlib.Omega.{arith}
use native.Mathlib.Numerals.{add-one}
use lib.ListN.{length, get_or, take, drop, length-append, length-drop, take-append-drop}
use lib.Seq.{length-take-le, take-suc, drop_at, drop-append-le, drop-append-add, get_or-take}
use lib.Dec.{leb}
use borrow.Author.Tests.{leb-true, leb-false}
use Rattle.run.specs.Totals.{count}
use Rattle.run.proofs.Counts.{one, count_none, count_next, count_append, count_small, count_from}
use Rattle.watch.specs.Window.{is_one, last_of, included}

-- ---- "the last n": n marks where there are so many, and "before n have passed, those that there are"
pub last_all : (n : ℕ) (ms : List ℕ) → length ms ≤ n → last_of n ms ≡ ms
last_all n ms h = ap (λ (i : ℕ). drop i ms) (let e : length ms - n ≡ 0 = omega arith in e)

pub last_some : (n : ℕ) (before ms : List ℕ) → length ms ≡ n → last_of n (before ++ ms) ≡ ms
last_some n before ms h = drop_at before ms (length (before ++ ms) - n) (omega (arith, length-append before ms))

-- marks in front of a whole window don't count
last_behind : (n : ℕ) (before ms : List ℕ) → n ≤ length ms → last_of n (before ++ ms) ≡ last_of n ms
last_behind n before ms h =
    ap (λ (i : ℕ). drop i (before ++ ms)) (let e : length (before ++ ms) - n ≡ length before + (length ms - n) = omega (arith, length-append before ms) in e)
    ∙ drop-append-add before ms (length ms - n)

-- of the marks before some, a window that ends among these holds the last n - 1 at most: a run taken up again needs no more of what went before
pub last_before : (n : ℕ) (before ms : List ℕ) → 1 ≤ n → 1 ≤ length ms → last_of n (before ++ ms) ≡ last_of n (last_of (n - 1) before ++ ms)
last_before n before ms g h = go (leb (length before) (n - 1)) refl
  where
    go : (b : Bool) → leb (length before) (n - 1) ≡ b → last_of n (before ++ ms) ≡ last_of n (last_of (n - 1) before ++ ms)
    go true e = ap (λ (l : List ℕ). last_of n (l ++ ms)) (sym (last_all (n - 1) before (leb-true (length before) (n - 1) e)))
    go false e =
        let d = length before - (n - 1) in
        let l = leb-false (length before) (n - 1) e in
        let s : before ++ ms ≡ take d before ++ (drop d before ++ ms) =
        ap (λ (x : List ℕ). x ++ ms) (sym (take-append-drop d before)) ∙ append_assoc (take d before) (drop d before) ms in
        ap (last_of n) s
        ∙ last_behind n (take d before) (drop d before ++ ms) (omega (arith, length-append (drop d before) ms, length-drop d before))

-- ---- a window of marks, one by one
pub included_few : (n : ℕ) (ms : List ℕ) → included n ms ≤ n
included_few n ms = omega (arith, count_small is_one (last_of n ms), length-drop (length ms - n) ms)

-- ---- the window that ends with a mark, and the one that ends before it
module _ (n : ℕ) (ms : List ℕ) (end : ℕ) (h : end < length ms) (g : 1 ≤ n) where
  before : length (take end ms) ≡ end
  before = length-take-le end ms (omega arith)

  -- what the two have in common, and the mark itself
  pub ends_with : included n (take (end + 1) ms) ≡ count is_one (drop (end + 1 - n) (take end ms)) + one is_one (get_or ms end 0)
  ends_with =
      let p = take end ms in
      let x = get_or ms end 0 in
      let s : take (end + 1) ms ≡ p ++ (x ∷ []) = ap (λ (i : ℕ). take i ms) (add-one end) ∙ take-suc ms end 0 h in
      let d : length (p ++ (x ∷ [])) - n ≡ end + 1 - n = omega (arith, before, length-append p (x ∷ [])) in
      ap (included n) s
      ∙ ap (λ (i : ℕ). count is_one (drop i (p ++ (x ∷ [])))) d
      ∙ ap (count is_one) (drop-append-le (end + 1 - n) p (x ∷ []) (omega (arith, before)))
      ∙ count_append is_one (drop (end + 1 - n) p) (x ∷ [])
      ∙ omega (arith, count_next is_one x [], count_none is_one)

  ends_before : included n (take end ms) ≡ count is_one (drop (end - n) (take end ms))
  ends_before = ap (λ (i : ℕ). count is_one (drop (i - n) (take end ms))) before

  -- no mark comes in
  pub moves_short : end < n → included n (take (end + 1) ms) ≡ included n (take end ms) + one is_one (get_or ms end 0)
  moves_short l =
      let e : count is_one (drop (end + 1 - n) (take end ms)) ≡ count is_one (drop (end - n) (take end ms)) =
      ap (λ (i : ℕ). count is_one (drop i (take end ms))) (let z : end + 1 - n ≡ end - n = omega arith in z) in
      omega (arith, ends_with, ends_before)

  -- the mark that stands n before comes in
  pub moves_whole : n ≤ end → included n (take (end + 1) ms) + one is_one (get_or ms (end - n) 0) ≡ included n (take end ms) + one is_one (get_or ms end 0)
  moves_whole l =
      let p = take end ms in
      let f = count_from is_one p (end - n) 0 (omega (arith, before)) in
      let i : one is_one (get_or p (end - n) 0) ≡ one is_one (get_or ms (end - n) 0) = ap (one is_one) (get_or-take end ms (end - n) 0 (omega arith)) in
      let e : count is_one (drop (end - n + 1) p) ≡ count is_one (drop (end + 1 - n) p) =
      ap (λ (j : ℕ). count is_one (drop j p)) (let z : end - n + 1 ≡ end + 1 - n = omega arith in z) in
      omega (arith, ends_with, ends_before)
