-- Which queries the check is to accept: those that DSP0212's grammar, its compatibility rules and the limits allow, by the definitions that each of them has.
-- proofs/Accepted proves that `check` accepts exactly these.
use Rattle.std.specs.Prelude.{ℕ, ◌≤◌, List, length, ◌≡◌, Ok}
use Rattle.encoding.specs.WellFormed.{first_ill_formed}
use Rattle.table.specs.Table.{FreeOfFaults}
use Rattle.syntax.specs.declared.comparison.Comparison.{Comparison}
use Rattle.syntax.specs.Scan.{scan}
use Rattle.grammar.specs.Abnf.{Derives}
use Rattle.grammar.specs.Limits.{WithinLimits}
use Rattle.acceptance.specs.Comparisons.{comparisons_in}
use Rattle.filter.specs.Check as Check
use Rattle.filter.specs.Check.{check_comparison}
use Rattle.acceptance.specs.Reading.{Among}

pub record Acceptable (query table : List ℕ) : Type 0 where
  -- the table is free of faults
  pub free : FreeOfFaults table
  -- at most 4,096 bytes
  pub short : length query ≤ 4096
  -- that are UTF-8
  pub encoded : first_ill_formed query ≡ Ok tt
  -- whose tokens derive from `fql`, with at most 64 comparisons and 32 elements in an array literal
  pub derives : (d : Derives (scan query)) × WithinLimits d.1
  -- each of the derivation's comparisons passes
  pub passes : (c : Comparison) → Among c (comparisons_in derives.0.1) → check_comparison query table c ≡ Check.passes
