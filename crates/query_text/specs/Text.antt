-- What is said of a query's text (01 "Query text", "What can go wrong with a call"): 1, then 10, then 11 and 12 by first place.
use Rattle.std.specs.Prelude.{ℕ, List, ltb, length, Err, Ok, Result}
use Rattle.base.specs.Pick.{pick}
use Rattle.encoding.specs.WellFormed.{first_ill_formed}
use Rattle.syntax.specs.declared.fault.Cause.{Cause}
use Rattle.syntax.specs.declared.fault.Cause.TheVariants.{Length, Encoding, Grammar, Limit}
use Rattle.syntax.specs.Scan.{fault}
use Rattle.query_text.specs.Query.{query, verdict}
use Rattle.syntax.specs.declared.fault.Fault.{Fault}

-- 01's numbers
abbrev pub number_of : Cause → ℕ
number_of Length = 1
number_of Encoding = 10
number_of Grammar = 11
number_of Limit = 12

-- UTF-8, then the grammar and its limits
unfoldable pub encoded_verdict : List ℕ → Result (Unit {0}) ℕ → Result (Unit {0}) Fault
encoded_verdict q (Err p) = Err (fault Encoding p)
encoded_verdict q (Ok u) = verdict (query q)

-- at most 4,096 bytes
unfoldable pub text_verdict : List ℕ → Result (Unit {0}) Fault
text_verdict q = pick (ltb 4096 (length q)) (Err (fault Length 0)) (encoded_verdict q (first_ill_formed q))
