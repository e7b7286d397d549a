-- 02 Q-7: two queries with the text that they are made into, and with the number of its comparisons.
use Rattle.std.specs.Prelude.{ℕ, List, [], ◌∷◌, ◌++◌}
use Rattle.base.specs.Ascii.{bytes}
use Rattle.conjunction.specs.Conjunction.{conjunction, comparisons_of}

abbrev pub Pair : Type 0
Pair = List ℕ × List ℕ

abbrev pub joined : Pair → List ℕ
joined x = conjunction x.0 x.1

abbrev pub texts : List (Pair × List ℕ)
texts =
    ((bytes "a = 1", bytes "b = 2"), bytes "(a = 1) AND (b = 2)")
    -- outer whitespace, inside of brackets and of a query without any: blank, TAB, CR, LF; what stands between tokens is kept
    ∷ ((bytes "( a = 1 )", bytes " b = 2 "), bytes "(a = 1) AND (b = 2)")
    ∷ (((9 ∷ []) ++ (bytes "(a = 1" ++ (13 ∷ 10 ∷ []) ++ (bytes ")" ++ (10 ∷ []))), (10 ∷ 9 ∷ []) ++ (bytes "b  =" ++ (13 ∷ []) ++ (bytes "2" ++ (9 ∷ [])))), bytes "(a = 1) AND (b  =" ++ (13 ∷ []) ++ bytes "2)")
    ∷ ((bytes "(a=1)AND(b=2)", bytes "c=3"), bytes "(a=1) AND (b=2) AND (c=3)")
    -- OR inside a group, or in a query without brackets, is no OR of terms
    ∷ ((bytes "a = 1 OR b = 2", bytes "(c = 3 OR d = 4)"), bytes "(a = 1 OR b = 2) AND (c = 3 OR d = 4)")
    -- brackets and words in a string, and a word behind a dot
    ∷ ((bytes "a = 'x)'", bytes "b = 'x AND ('"), bytes "(a = 'x)') AND (b = 'x AND (')")
    ∷ ((bytes "(P.or = 1) or (a = 2)", bytes "P.and = 3"), bytes "(P.or = 1) AND (P.and = 3) OR (a = 2) AND (P.and = 3)")
    -- two terms beside three
    ∷ (
      (bytes "(a = 1) AND (b = 2) OR (c = 3)", bytes "(d = 4) OR (e = 5 AND f = 6) OR (g = 7)"),
      bytes "(a = 1) AND (b = 2) AND (d = 4) OR (a = 1) AND (b = 2) AND (e = 5 AND f = 6) OR (a = 1) AND (b = 2) AND (g = 7) OR (c = 3) AND (d = 4) OR (c = 3) AND (e = 5 AND f = 6) OR (c = 3) AND (g = 7)",
    )
    ∷ []

abbrev pub counted : Pair → ℕ
counted x = comparisons_of x.0 x.1

abbrev pub counts : List (Pair × ℕ)
counts =
    ((bytes "a = 1", bytes "b = 2"), 2)
    ∷ ((bytes "a = 1 OR b = 2", bytes "(c = 3 OR d = 4)"), 4)
    -- three times 3 and twice 4
    ∷ ((bytes "(a = 1) AND (b = 2) OR (c = 3)", bytes "(d = 4) OR (e = 5 AND f = 6) OR (g = 7)"), 17)
    ∷ []
