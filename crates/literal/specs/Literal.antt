-- 01 "Query text": "A literal is one of: truth value, integer, real, text, octets or NULL"; "Unsigned hex is octets against type 8".
use Rattle.std.specs.Prelude.{ℕ, List, Bool, true, false, ◌&&◌, eqb, Err, Ok, Result}
use Rattle.base.specs.Pick.{pick}
use Rattle.numeral.specs.Numeral.{signed}
use Rattle.token.specs.declared.Form.{Form}
use Rattle.token.specs.declared.Form.TheVariants.{Decimal, Binary, Hex, Real}
use Rattle.token.specs.declared.Reserved.{Reserved}
use Rattle.token.specs.declared.Reserved.TheVariants.{And, Any, Every, False, Like, Not, Null, Or, True}
use Rattle.token.specs.declared.TokenKind.{TokenKind}
use Rattle.token.specs.declared.TokenKind.TheVariants as Kind
use Rattle.token.specs.declared.Token.{Token}
use Rattle.literal.specs.Integer.{integer_of}
use Rattle.literal.specs.RealLiteral.{real_literal_of}
use Rattle.literal.specs.declared.Literal.{Literal}
use Rattle.literal.specs.declared.Literal.TheVariants as Literal
use Rattle.literal.specs.declared.LiteralFault.TheVariants.{NoLiteral}
use Rattle.literal.specs.declared.LiteralFault.{LiteralFault}

unfoldable pub word_literal : Reserved → Result Literal LiteralFault
word_literal And = Err NoLiteral
word_literal Any = Err NoLiteral
word_literal Every = Err NoLiteral
word_literal False = Ok (Literal.Truth false)
word_literal Like = Err NoLiteral
word_literal Not = Err NoLiteral
word_literal Null = Ok Literal.Null
word_literal Or = Err NoLiteral
word_literal True = Ok (Literal.Truth true)

-- a hex literal: without a sign it is octets where octets are asked for
unfoldable pub hex_literal_of : Bool → List ℕ → ℕ → ℕ → Result Literal LiteralFault
hex_literal_of octets q start end =
    pick (octets && eqb (signed q start) start) (Ok (Literal.Octets start end)) (integer_of q Hex start)

unfoldable pub number_literal : Bool → List ℕ → Form → ℕ → ℕ → Result Literal LiteralFault
number_literal octets q Decimal start end = integer_of q Decimal start
number_literal octets q Binary start end = integer_of q Binary start
number_literal octets q Hex start end = hex_literal_of octets q start end
number_literal octets q Real start end = real_literal_of q start

abbrev pub literal_by : Bool → List ℕ → TokenKind → ℕ → ℕ → Result Literal LiteralFault
literal_by octets q Kind.End start end = Err NoLiteral
literal_by octets q Kind.NoToken start end = Err NoLiteral
literal_by octets q Kind.Name start end = Err NoLiteral
literal_by octets q (Kind.Word w) start end = word_literal w
literal_by octets q (Kind.Number f) start end = number_literal octets q f start end
literal_by octets q Kind.Text start end = Ok (Literal.Text start end)
literal_by octets q (Kind.Compare o) start end = Err NoLiteral
literal_by octets q (Kind.Symbol m) start end = Err NoLiteral

-- the literal of a token
unfoldable pub literal_of : Bool → List ℕ → Token → Result Literal LiteralFault
literal_of octets q t = literal_by octets q t.kind t.start t.end
