-- 01 "What can go wrong with a call": the causes of all refusals, with 01's numbers, and what stands before a query's comparisons: 2, 3, 1, 10, 11 and 12.
use Rattle.std.specs.Prelude.{ℕ, List, Err, Ok, Result}
use Rattle.table.specs.Table as table
use Rattle.table.specs.Table.{Reading, table_reading}
use Rattle.instance.specs.Fault as instance
use Rattle.syntax.specs.declared.fault.Fault as text-fault
use Rattle.query_text.specs.Text as text
use Rattle.query_text.specs.Text.{text_verdict}
use Rattle.query_text.specs.Query.{Comparisons, Query, bad, good, query}
use Rattle.operand.specs.Cause as comparison
use Rattle.filter.specs.declared.refusal.Cause.{Cause}
use Rattle.filter.specs.declared.refusal.Cause.TheVariants.{Table, Text, Comparison, Instance}
use Rattle.syntax.specs.declared.fault.Fault.{Fault}

-- 01's number of a cause
abbrev pub number_of : Cause → ℕ
number_of (Table c) = table.number_of c
number_of (Text c) = text.number_of c
number_of (Comparison c) = comparison.number_of c
number_of (Instance c) = instance.number_of c

-- a call's table and query before any comparison is looked at: refused, with cause and place, or the query's comparisons
pub data Call : Type 0 where
  refused : Cause → (place : ℕ) → Call
  compares : Comparisons → Call

abbrev pub call_fault : text-fault.Fault → Call
call_fault f = refused (Text f.cause) f.place

abbrev pub call_query : Query → Call
call_query (bad f) = call_fault f
call_query (good l) = compares l

abbrev pub call_text : (query : List ℕ) → Result (Unit {0}) Fault → Call
call_text q (Err f) = call_fault f
call_text q (Ok tt) = call_query (query q)

-- the table before the query
abbrev pub call_under : (query : List ℕ) → Reading → Call
call_under q (Err r) = refused (Table r.cause) r.place
call_under q (Ok count) = call_text q (text_verdict q)

unfoldable pub call_of : (query table : List ℕ) → Call
call_of q t = call_under q (table_reading t)
