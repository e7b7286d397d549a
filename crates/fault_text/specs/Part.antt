-- The text at a fault as numbers, for a caller that holds the two texts itself: which of them, from where, and how many bytes (proofs/Part says that it is the same).
use Rattle.std.specs.Prelude.{ℕ, ◌-◌, List, [], eqb, None, Option, Some}
use Rattle.base.specs.Pick.{pick}
use Rattle.base.specs.Part.{part}
use Rattle.fault_text.specs.declared.Shown.{Shown}
use Rattle.fault_text.specs.declared.Shown.TheVariants.{Query, Table}

pub record ShownPart : Type 0 where
  pub source : ℕ
  pub start : ℕ
  pub length : ℕ

abbrev pub source_of : Option Shown → ℕ
source_of None = 0
source_of (Some Query) = 1
source_of (Some Table) = 2

abbrev pub part_of : Option Shown → (queryLength tableLength place : ℕ) → ShownPart
part_of None ql tl p = record { source = source_of None; start = 0; length = 0 }
part_of (Some Query) ql tl p = record { source = source_of (Some Query); start = p; length = ql - p }
part_of (Some Table) ql tl p = record { source = source_of (Some Table); start = p; length = tl - p }

-- the text of a source's number
abbrev pub source_text : (source : ℕ) (query table : List ℕ) → List ℕ
source_text n q t = pick (eqb n (source_of (Some Query))) q (pick (eqb n (source_of (Some Table))) t [])

abbrev pub bytes_of : ShownPart → (query table : List ℕ) → List ℕ
bytes_of x q t = part (source_text x.source q t) x.start x.length
