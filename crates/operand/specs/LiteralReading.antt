-- A literal as a value beside a property of a family. 01 "Kinds": "An integer literal doesn't fit a real. Text fits 6, 7, 9, 10"; "Query text": "Unsigned hex is
-- octets against type 8; signed hex there is 21", and the ranges of integers and reals; "Datetime", the form of a datetime's text.
use Rattle.std.specs.Prelude.{ℕ, List, Bool, true, false, ◌&&◌, ◌||◌, length, ltb, Option as Optional, None, Some, Err, Ok, Result}
use Rattle.std.proofs.Math.Option.{Option, none, some}
use Rattle.base.specs.Pick.{pick}
use Rattle.record.specs.Kind.{same_row}
use Rattle.record.specs.declared.kind.Family.{Family}
use Rattle.record.specs.declared.kind.Family.TheVariants as family
use Rattle.datetime.specs.declared.Datetime.TheVariants.{Timestamp, Interval, Malformed}
use Rattle.token.specs.declared.Token.{Token}
use Rattle.literal.specs.Sort.{sort_of, unsigned_hex}
use Rattle.literal.specs.Literal.{literal_of}
use Rattle.literal.specs.declared.sort.Sort.{Sort}
use Rattle.literal.specs.declared.sort.Sort.TheVariants.{Truth, Integer, Hex, Real, Text, Null}
use Rattle.instance.specs.Value.{ScalarValue, truth, whole, real, text, octets, datetime, reference}
use Rattle.value_literal.specs.LiteralValue.{literal_value}
use Rattle.literal.specs.declared.Literal.{Literal}
use Rattle.literal.specs.declared.LiteralFault.{LiteralFault}
use Rattle.literal.specs.declared.LiteralFault.TheVariants as LiteralFault
use Rattle.operand.specs.declared.literal_read.ReadFault.{ReadFault}
use Rattle.operand.specs.declared.literal_read.ReadFault.TheVariants as ReadFault

-- of another row; out of range; text that is no datetime, beside one; or a value, NULL among them
pub data LiteralReading : Type 0 where
  misfit : LiteralReading
  out_of_range : LiteralReading
  malformed : LiteralReading
  reads : Option ScalarValue → LiteralReading

-- whether a literal of a sort fits the row of a family; NULL fits every row
unfoldable pub fits : Family → (unsigned : Bool) → Optional Sort → Bool
fits f u (Some Truth) = same_row f family.Boolean
fits f u (Some Integer) = same_row f family.Integer
fits f u (Some Hex) = same_row f family.Integer || same_row f family.Octets && u
fits f u (Some Real) = same_row f family.Real
fits f u (Some Text) = same_row f family.Text || (same_row f family.Datetime || same_row f family.Reference)
fits f u (Some Null) = true
fits f u None = false

-- text beside a datetime that says none
unfoldable pub no_datetime : Option ScalarValue → Bool
no_datetime none = false
no_datetime (some (truth b)) = false
no_datetime (some (whole n)) = false
no_datetime (some (real x)) = false
no_datetime (some (text cs)) = false
no_datetime (some (octets s)) = false
no_datetime (some (datetime (Timestamp moment))) = false
no_datetime (some (datetime (Interval size))) = false
no_datetime (some (datetime Malformed)) = true
no_datetime (some (reference s)) = false

abbrev pub read_value : Option ScalarValue → LiteralReading
read_value v = pick (no_datetime v) malformed (reads v)

-- why there is no value, where there is no literal
abbrev pub fault_read : LiteralFault → ReadFault
fault_read LiteralFault.OutOfRange = ReadFault.OutOfRange
fault_read LiteralFault.NoLiteral = ReadFault.Misfit

abbrev pub read_decoded : Family → (query : List ℕ) → Result Literal LiteralFault → LiteralReading
read_decoded f q (Ok l) = read_value (literal_value f q l)
read_decoded f q (Err LiteralFault.OutOfRange) = out_of_range
read_decoded f q (Err LiteralFault.NoLiteral) = misfit

abbrev pub read_fitting : Family → (query : List ℕ) → Token → LiteralReading
read_fitting f q t = pick (fits f (unsigned_hex q t) (sort_of t.kind)) (read_decoded f q (literal_of (same_row f family.Octets) q t)) misfit

-- a literal beside a family; a token stands within the query
unfoldable pub read_literal : Family → (query : List ℕ) → Token → LiteralReading
read_literal f q t = pick (ltb (length q) t.start) misfit (read_fitting f q t)

abbrev pub is_null_sort : Optional Sort → Bool
is_null_sort (Some Truth) = false
is_null_sort (Some Integer) = false
is_null_sort (Some Hex) = false
is_null_sort (Some Real) = false
is_null_sort (Some Text) = false
is_null_sort (Some Null) = true
is_null_sort None = false

-- the literal NULL
unfoldable pub is_null_literal : Token → Bool
is_null_literal t = is_null_sort (sort_of t.kind)
