-- 02 Q-7, the one text of two queries: "for each term of the first and each term of the second in order, the first's groups and then the second's. Each group is ... in
-- `(` and `)`, joined by ` AND ` and ` OR `."
use Rattle.std.specs.Prelude.{ℕ, suc, ◌+◌, ◌*◌, List, ◌++◌, Bool, ◌||◌, length, ltb}
use Rattle.base.specs.Ascii.{bytes}
use Rattle.query_text.specs.Query.{Comparisons, only, more, Query, bad, good, query}
use Rattle.query_text.specs.Tree.{Chain, one, then}
use Rattle.conjunction.specs.Groups.{terms_of}

unfoldable pub chained : {A : Type 0} → Chain A → Chain A → Chain A
chained (one a) s = then a s
chained (then a r) s = then a (chained r s)

unfoldable pub each : {A B : Type 0} → (A → B) → Chain A → Chain B
each f (one a) = one (f a)
each f (then a r) = then (f a) (each f r)

-- one term with each term of the second, its groups first; and so each term of the first
unfoldable pub products : {A : Type 0} → Chain (Chain A) → Chain (Chain A) → Chain (Chain A)
products (one a) s = each (chained a) s
products (then a r) s = chained (each (chained a) s) (products r s)

abbrev pub bracketed : (group : List ℕ) → List ℕ
bracketed g = bytes "(" ++ (g ++ bytes ")")

unfoldable pub term_text : Chain (List ℕ) → List ℕ
term_text (one g) = bracketed g
term_text (then g r) = bracketed g ++ (bytes " AND " ++ term_text r)

unfoldable pub text : Chain (Chain (List ℕ)) → List ℕ
text (one t) = term_text t
text (then t r) = term_text t ++ (bytes " OR " ++ text r)

unfoldable pub conjunction : (first second : List ℕ) → List ℕ
conjunction q p = text (products (terms_of q) (terms_of p))

-- ---- 43: "when the result would have over 64 comparisons or 4,096 bytes"
unfoldable pub size : Comparisons → ℕ
size (only c) = 1
size (more c j r) = suc (size r)

-- a text that is no query has none
unfoldable pub comparisons : Query → ℕ
comparisons (bad f) = 0
comparisons (good l) = size l

unfoldable pub count : {A : Type 0} → Chain A → ℕ
count (one a) = 1
count (then a r) = suc (count r)

-- each term of one query stands beside each term of the other
abbrev pub comparisons_of : (first second : List ℕ) → ℕ
comparisons_of q p = count (terms_of p) * comparisons (query q) + count (terms_of q) * comparisons (query p)

unfoldable pub is_too_large : (first second : List ℕ) → Bool
is_too_large q p = ltb 64 (comparisons_of q p) || ltb 4096 (length (conjunction q p))
