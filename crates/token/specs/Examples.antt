-- The first tokens of some texts: rulings on longest tokens, touching words and numbers, and bad escapes.
use Rattle.std.specs.Prelude.{ℕ, zero, suc, List, [], ◌∷◌}
use Rattle.base.specs.Ascii.{bytes}
use Rattle.base.specs.declared.order.Operator.TheVariants.{Unequal, AtMost, Greater}
use Rattle.token.specs.declared.Reserved.TheVariants.{And}
use Rattle.token.specs.declared.Form.TheVariants.{Decimal, Binary, Hex, Real}
use Rattle.token.specs.declared.Punctuation.TheVariants.{Dot}
use Rattle.token.specs.declared.TokenKind.TheVariants.{End, NoToken, Name, Word, Number, Text, Compare, Symbol}
use Rattle.token.specs.declared.Token.{Token}
use Rattle.token.specs.Token.{token, token_after}

-- the n tokens after another
unfoldable pub tokens : ℕ → List ℕ → Token → List Token
tokens zero q t = []
tokens (suc n) q t = token_after q t ∷ tokens n q (token_after q t)

-- the first n tokens of a text
abbrev pub first_tokens : ℕ × List ℕ → List Token
first_tokens x = tokens x.0 x.1 (token End 0 0)

abbrev pub texts : List ((ℕ × List ℕ) × List Token)
texts =
    ((2, bytes "0x123"), token (Number Hex) 0 4 ∷ token NoToken 4 4 ∷ [])
    ∷ ((2, bytes "0x1"), token (Number Decimal) 0 1 ∷ token NoToken 1 1 ∷ [])
    ∷ ((2, bytes "12B"), token (Number Decimal) 0 2 ∷ token NoToken 2 2 ∷ [])
    ∷ ((2, bytes "1E5"), token (Number Decimal) 0 1 ∷ token NoToken 1 1 ∷ [])
    ∷ ((2, bytes "1.E+"), token (Number Real) 0 2 ∷ token NoToken 2 2 ∷ [])
    ∷ ((4, bytes "1. .5 1.E5 -1.5e-05"), token (Number Real) 0 2 ∷ token (Number Real) 3 5 ∷ token (Number Real) 6 10 ∷ token (Number Real) 11 19 ∷ [])
    ∷ ((2, bytes "5-5"), token (Number Decimal) 0 1 ∷ token NoToken 1 1 ∷ [])
    ∷ ((1, bytes "- 5"), token NoToken 0 0 ∷ [])
    ∷ ((2, bytes "P.5"), token Name 0 1 ∷ token NoToken 1 1 ∷ [])
    ∷ ((2, bytes "1.AND"), token (Number Real) 0 2 ∷ token NoToken 2 2 ∷ [])
    ∷ ((4, bytes "P.AND "), token Name 0 1 ∷ token (Symbol Dot) 1 2 ∷ token (Word And) 2 5 ∷ token End 6 6 ∷ [])
    ∷ ((3, bytes "'x'AND 101b"), token Text 0 3 ∷ token (Word And) 3 6 ∷ token (Number Binary) 7 11 ∷ [])
    ∷ ((5, bytes "a<>b<=>"), token Name 0 1 ∷ token (Compare Unequal) 1 3 ∷ token Name 3 4 ∷ token (Compare AtMost) 4 6 ∷ token (Compare Greater) 6 7 ∷ [])
    ∷ ((1, bytes "'a\\x'"), token NoToken 0 0 ∷ [])
    ∷ ((1, bytes "'\\uFFFF'"), token Text 0 8 ∷ [])
    ∷ ((1, bytes "'\\u110000'"), token NoToken 0 0 ∷ [])
    ∷ []
