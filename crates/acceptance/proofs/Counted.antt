-- The comparisons of a derivation are as many as the limits count on it.
use Prim.Native.Nat.{ℕ, suc, ◌+◌}
use mathlib.Core.Path.{◌≡◌, refl, ap, ◌∙◌}
use native.Mathlib.Omega.{arith}
use Rattle.token.specs.declared.Token.{Token}
use Rattle.syntax.specs.declared.comparison.Comparison.{Comparison}
use Rattle.syntax.specs.Scan.{Scan}
use Rattle.query_text.specs.Query.{Comparisons, only}
use Rattle.grammar.specs.Abnf.{Fits, join, left, right, stop, more, many, then, bool_op, property_comp_rule, fql_expr, bracketed, fql}
use Rattle.grammar.specs.Limits.{repeats, expr_count, groups_count, comparison_count}
use Rattle.acceptance.specs.Comparisons.{comparison_of, followed, in_expr, in_groups, comparisons_in, number}

module _ {s : Scan} where
  -- where what becomes of the last one has n more
  module _ (end : Comparison → Comparisons) (n : ℕ) (h : (c : Comparison) → number (end c) ≡ suc n) where
    followed_many : {t m e : Token} (c : Fits s (property_comp_rule s) t m) (k : Fits s (many (then bool_op (property_comp_rule s))) m e) → number (followed end c k) ≡ suc (repeats k) + n
    unfolding followed repeats number
    followed_many c stop = h (comparison_of c) ∙ omega arith
    followed_many c (more (join o d) k) = ap suc (followed_many d k) ∙ omega arith

    expr_many : {t e : Token} (f : Fits s (fql_expr s) t e) → number (in_expr end f) ≡ expr_count f + n
    unfolding in_expr expr_count
    expr_many (join c k) = followed_many c k

  groups_many : {t e : Token} (k : Fits s (many (then bool_op (bracketed s))) t e) → ((c : Comparison) → number (in_groups k c) ≡ suc (groups_count k))
  unfolding in_groups groups_count number
  groups_many stop = λ c. refl
  groups_many (more (join o (join a (join f b))) k) = λ c. ap suc (expr_many (in_groups k) (groups_count k) (groups_many k) f)

  pub as_many : {t e : Token} (f : Fits s (fql s) t e) → number (comparisons_in f) ≡ comparison_count f
  unfolding comparisons_in comparison_count number
  as_many (left f) = expr_many only 0 (λ c. refl) f ∙ omega arith
  as_many (right (join (join a (join f b)) k)) = expr_many (in_groups k) (groups_count k) (groups_many k) f
