-- The limits of a query's text (01 "Query text": "64 comparisons, 32 elements in an array literal"), counted on a derivation from DSP0212's rule `fql`.
use Rattle.std.specs.Prelude.{ℕ, suc, ◌+◌, ◌≤◌}
use Rattle.token.specs.declared.Token.{Token}
use Rattle.syntax.specs.Scan.{Scan}
use Rattle.grammar.specs.Abnf.{Rule, Fits, join, left, right, none, just, stop, more, many, then, bool_op, array_literal_rule, property_comp_rule, fql_expr, bracketed, fql}

-- how often a repeated rule is used
unfoldable pub repeats : {s : Scan} {r : Rule} {t e : Token} → Fits s (many r) t e → ℕ
repeats stop = 0
repeats (more f g) = suc (repeats g)

-- the elements of an array-literal
unfoldable pub element_count : {s : Scan} {t e : Token} → Fits s array_literal_rule t e → ℕ
element_count (join o (join none c)) = 0
element_count (join o (join (just (join l f)) c)) = suc (repeats f)

-- the elements of a comparison's array literal: property-comp has one in its first line alone
unfoldable pub elements_in : {s : Scan} {t e : Token} → Fits s (property_comp_rule s) t e → ℕ
elements_in (left (join p (join o a))) = element_count a
elements_in (right f) = 0

-- the comparisons of an fql-expr, and of the bracketed ones that follow another; over one scan, as the kernel asks of a recursion whose rule names it
unfoldable pub expr_count : {s : Scan} {t e : Token} → Fits s (fql_expr s) t e → ℕ
expr_count (join c k) = suc (repeats k)

module _ {s : Scan} where
  unfoldable pub groups_count : {t e : Token} → Fits s (many (then bool_op (bracketed s))) t e → ℕ
  groups_count stop = 0
  groups_count (more (join o (join a (join f b))) k) = expr_count f + groups_count k

-- the comparisons of a query, over all groups
unfoldable pub comparison_count : {s : Scan} {t e : Token} → Fits s (fql s) t e → ℕ
comparison_count (left f) = expr_count f
comparison_count (right (join (join a (join f b)) k)) = expr_count f + groups_count k

-- no array literal has more than 32 elements
module _ {s : Scan} where
  unfoldable pub ShortIn : {t e : Token} → Fits s (many (then bool_op (property_comp_rule s))) t e → Type 0
  ShortIn stop = Unit
  ShortIn (more (join o c) k) = (elements_in c ≤ 32) × ShortIn k

unfoldable pub ShortExpr : {s : Scan} {t e : Token} → Fits s (fql_expr s) t e → Type 0
ShortExpr (join c k) = (elements_in c ≤ 32) × ShortIn k

module _ {s : Scan} where
  unfoldable pub ShortGroups : {t e : Token} → Fits s (many (then bool_op (bracketed s))) t e → Type 0
  ShortGroups stop = Unit
  ShortGroups (more (join o (join a (join f b))) k) = ShortExpr f × ShortGroups k

unfoldable pub Short : {s : Scan} {t e : Token} → Fits s (fql s) t e → Type 0
Short (left f) = ShortExpr f
Short (right (join (join a (join f b)) k)) = ShortExpr f × ShortGroups k

-- a derivation within the limits
abbrev pub WithinLimits : {s : Scan} {t e : Token} → Fits s (fql s) t e → Type 0
WithinLimits f = (comparison_count f ≤ 64) × Short f
