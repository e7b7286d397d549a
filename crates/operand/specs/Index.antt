-- 01 "Kinds": "`A[i]` (i to 65,535)"; "Meaning": "an index above 65,535 is wrong and reads nothing".
use Rattle.std.specs.Prelude.{ℕ, List, pos, negsuc, length, leb, ltb, Err, None, Ok, Option, Result, Some}
use Rattle.base.specs.Pick.{pick}
use Rattle.token.specs.declared.Form.TheVariants.{Decimal}
use Rattle.token.specs.declared.Token.{Token}
use Rattle.literal.specs.Integer.{integer_of}
use Rattle.literal.specs.declared.Literal.TheVariants.{Truth, Integer, Real, Text, Octets, Null}
use Rattle.literal.specs.declared.LiteralFault.TheVariants.{OutOfRange, NoLiteral}
use Rattle.literal.specs.declared.Literal.{Literal}
use Rattle.literal.specs.declared.LiteralFault.{LiteralFault}

abbrev pub index_by : Result Literal LiteralFault → Option ℕ
index_by (Ok (Integer (pos n))) = pick (leb n 65535) (Some n) None
index_by (Ok (Integer (negsuc n))) = None
index_by (Ok (Truth b)) = None
index_by (Ok (Real x)) = None
index_by (Ok (Text start end)) = None
index_by (Ok (Octets start end)) = None
index_by (Ok Null) = None
index_by (Err OutOfRange) = None
index_by (Err NoLiteral) = None

-- the index of a token, which the grammar lets be an unsigned-integer alone; a token stands within the query
unfoldable pub index_of : (query : List ℕ) → Token → Option ℕ
index_of q t = pick (ltb (length q) t.start) None (index_by (integer_of q Decimal t.start))
