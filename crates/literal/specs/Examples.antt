-- Literals of some texts: the ends of the ranges, leading and trailing zeros, signs, and what hex digits are to octets.
use Rattle.std.specs.Prelude.{ℕ, List, [], ◌∷◌, Bool, true, false, ℤ, pos, negsuc, Err, Ok, Result}
use Rattle.base.specs.Ascii.{bytes}
use Rattle.real.specs.Real.{real_with}
use Rattle.token.specs.Token.{token_at}
use Rattle.literal.specs.declared.Literal.TheVariants as Literal
use Rattle.literal.specs.declared.LiteralFault.TheVariants.{OutOfRange, NoLiteral}
use Rattle.literal.specs.Literal.{literal_of}
use Rattle.literal.specs.declared.Literal.{Literal}
use Rattle.literal.specs.declared.LiteralFault.{LiteralFault}

-- the literal of a text's first token, asked for octets or not
abbrev pub first_literal : Bool × List ℕ → Result Literal LiteralFault
first_literal x = literal_of x.0 x.1 (token_at x.1 0)

abbrev positive : ℕ → Result Literal LiteralFault
positive n = Ok (Literal.Integer (pos n))

abbrev real : Bool → ℕ → ℤ → Result Literal LiteralFault
real negative d e = Ok (Literal.Real (real_with negative d e))

abbrev pub literals : List ((Bool × List ℕ) × (Result Literal LiteralFault))
literals =
    ((false, bytes "18446744073709551615"), positive 18446744073709551615)
    ∷ ((false, bytes "18446744073709551616"), Err OutOfRange)
    ∷ ((false, bytes "-18446744073709551615"), Ok (Literal.Integer (negsuc 18446744073709551614)))
    ∷ ((false, bytes "-18446744073709551616"), Err OutOfRange)
    ∷ ((false, bytes "-0x05"), Ok (Literal.Integer (negsuc 4)))
    ∷ ((false, bytes "-0"), positive 0)
    ∷ ((false, bytes "+101b"), positive 5)
    ∷ ((false, bytes "0x0000000000000000000000000000000000000A"), positive 10)
    ∷ ((false, bytes "0x010000000000000000"), Err OutOfRange)
    -- reals: D and e
    ∷ ((false, bytes ".5"), real false 5 (negsuc 0))
    ∷ ((false, bytes "000000000000000000.5"), real false 5 (negsuc 0))
    ∷ ((false, bytes "-0.0"), real true 0 (negsuc 0))
    ∷ ((false, bytes "1.0E23"), real false 10 (pos 22))
    ∷ ((false, bytes "1.0E-22"), Err OutOfRange)
    ∷ ((false, bytes "0.E23"), Err OutOfRange)
    ∷ ((false, bytes "1.E99999999999999999999999999"), Err OutOfRange)
    ∷ ((false, bytes "999999999999999."), real false 999999999999999 (pos 0))
    ∷ ((false, bytes "1.000000000000000"), Err OutOfRange)
    ∷ ((false, bytes "1.5e+1"), real false 15 (pos 0))
    -- octets
    ∷ ((true, bytes "0x12"), Ok (Literal.Octets 0 4))
    ∷ ((true, bytes "0x112233445566778899"), Ok (Literal.Octets 0 20))
    ∷ ((true, bytes "+0x12"), positive 18)
    ∷ ((true, bytes "12"), positive 12)
    -- words and text
    ∷ ((false, bytes "tRUE"), Ok (Literal.Truth true))
    ∷ ((false, bytes "False"), Ok (Literal.Truth false))
    ∷ ((false, bytes "null"), Ok Literal.Null)
    ∷ ((false, bytes " 'a''"), Ok (Literal.Text 1 4))
    ∷ ((false, bytes "AND"), Err NoLiteral)
    ∷ ((false, bytes "Temp"), Err NoLiteral)
    ∷ []
