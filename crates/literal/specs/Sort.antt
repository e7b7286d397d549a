-- The sort of a literal by its token alone (01 "Query text": "truth value, integer, real, text, octets or NULL"). It needs no value, since 21 comes
-- before 23: `1.0E400` is a real beside every type.
use Rattle.std.specs.Prelude.{ℕ, List, Bool, false, eqb, None, Option, Some}
use Rattle.numeral.specs.Numeral.{signed}
use Rattle.token.specs.declared.Form.{Form}
use Rattle.token.specs.declared.Form.TheVariants.{Decimal, Binary, Hex, Real}
use Rattle.token.specs.declared.Reserved.{Reserved}
use Rattle.token.specs.declared.Reserved.TheVariants.{And, Any, Every, False, Like, Not, Null, Or, True}
use Rattle.token.specs.declared.TokenKind.{TokenKind}
use Rattle.token.specs.declared.TokenKind.TheVariants as Kind
use Rattle.token.specs.declared.Token.{Token}
use Rattle.literal.specs.declared.sort.Sort.{Sort}
use Rattle.literal.specs.declared.sort.Sort.TheVariants as Sort

unfoldable pub word_sort : Reserved → Option Sort
word_sort And = None
word_sort Any = None
word_sort Every = None
word_sort False = Some Sort.Truth
word_sort Like = None
word_sort Not = None
word_sort Null = Some Sort.Null
word_sort Or = None
word_sort True = Some Sort.Truth

-- integer-literal is decimal-literal, binary-literal or hex-literal, octetstring-literal is hex-literal
unfoldable pub form_sort : Form → Sort
form_sort Decimal = Sort.Integer
form_sort Binary = Sort.Integer
form_sort Hex = Sort.Hex
form_sort Real = Sort.Real

unfoldable pub sort_of : TokenKind → Option Sort
sort_of Kind.End = None
sort_of Kind.NoToken = None
sort_of Kind.Name = None
sort_of (Kind.Word w) = word_sort w
sort_of (Kind.Number f) = Some (form_sort f)
sort_of Kind.Text = Some Sort.Text
sort_of (Kind.Compare o) = None
sort_of (Kind.Symbol m) = None

abbrev pub unsigned_hex_by : Bool → Option Sort → Bool
unsigned_hex_by unsigned (Some Sort.Truth) = false
unsigned_hex_by unsigned (Some Sort.Integer) = false
unsigned_hex_by unsigned (Some Sort.Hex) = unsigned
unsigned_hex_by unsigned (Some Sort.Real) = false
unsigned_hex_by unsigned (Some Sort.Text) = false
unsigned_hex_by unsigned (Some Sort.Null) = false
unsigned_hex_by unsigned None = false

-- "Unsigned hex is octets against type 8"
unfoldable pub unsigned_hex : List ℕ → Token → Bool
unsigned_hex q t = unsigned_hex_by (eqb (signed q t.start) t.start) (sort_of t.kind)
