-- How many members of a list are of a sort: of none, of one more, of two lists.
use Prim.Native.Nat.{ℕ, ◌+◌, ◌≤◌, ◌<◌}
use mathlib.Core.List.{List, [], ◌∷◌, ◌++◌}
use mathlib.Core.Bool.{Bool}
use mathlib.Core.Path.{◌≡◌, refl, sym, ap, ◌∙◌}
use native.Mathlib.Omega.{arith}
use native.Mathlib.Numerals.{add-one}
use lib.ListN.{length, get_or, drop}
use lib.Seq.{drop-cons}
use Rattle.base.specs.Pick.{pick}
use Rattle.base.proofs.Pick.{picked_small}
use Rattle.run.specs.Totals.{count}

module _ {A : Type 0} (sort : A → Bool) where
  -- 1 for a member of the sort, else 0
  abbrev pub one : A → ℕ
  one x = pick (sort x) 1 0

  pub one_small : (x : A) → one x ≤ 1
  one_small x = picked_small (sort x)

  pub count_none : count sort [] ≡ 0
  unfolding count
  count_none = refl

  pub count_next : (x : A) (l : List A) → count sort (x ∷ l) ≡ one x + count sort l
  unfolding count
  count_next x l = refl

  pub count_append : (k l : List A) → count sort (k ++ l) ≡ count sort k + count sort l
  count_append [] l = omega (arith, count_none)
  count_append (x ∷ k) l = omega (arith, count_next x (k ++ l), count_next x k, count_append k l)

  pub count_small : (l : List A) → count sort l ≤ length l
  count_small [] = omega (arith, count_none)
  count_small (x ∷ l) = omega (arith, count_next x l, count_small l, one_small x)

  -- from a place on
  pub count_from : (l : List A) (i : ℕ) (d : A) → i < length l → count sort (drop i l) ≡ one (get_or l i d) + count sort (drop (i + 1) l)
  count_from l i d h = ap (count sort) (drop-cons l i d h ∙ ap (λ (j : ℕ). get_or l i d ∷ drop j l) (sym (add-one i))) ∙ count_next (get_or l i d) (drop (i + 1) l)
