-- What a walk over records has left, and what a step of it gives: the record it stands at, or the place of one that runs past the end; then nothing more.
use Rattle.std.specs.Prelude.{ℕ, ◌-◌, ◌≡◌, ◌^◌, ◌<◌, ◌≤◌, length, Option, Result, MatchOption, MatchResult}
use Rattle.std.specs.Iterator.{Count, at_most}
use Rattle.record.specs.declared.read.RecordAt.TheVariants.{Whole}
use Rattle.record.specs.Record.{record_at, Records, item, broken, ended, records}
use Rattle.record.specs.declared.walk.Record.{Record}
use Rattle.record.specs.declared.walk.Records.{Records as Walk}

-- the records from where a walk stands
abbrev pub left : Walk → Records
left w = records w.bytes.now w.at

-- a step that gives something comes nearer to the end
abbrev pub items_left : Walk → Count
items_left w = at_most (length w.bytes.now - w.at)

-- a step that finds a whole record
pub record Passes (w : Walk) (r : Record) (v : Walk) : Type 0 where
  pub found : record_at w.bytes.now w.at ≡ Whole r.kind r.start r.length v.at
  pub walked : left w ≡ item r.place r.kind r.start r.length (left v)
  pub later : w.at < v.at
  pub within : v.at ≤ length w.bytes.now
  pub fits : v.at < 2 ^ 64
  pub same : v.bytes ≡ w.bytes
  pub place : r.place ≡ w.at

abbrev pub Gives : Walk → Option (Result Record ℕ) → Walk → Type 0
Gives w r v =
    MatchOption r ((left w ≡ ended) × (left v ≡ ended))
    (λ x. MatchResult x (λ whole. Passes w whole v) (λ place. (left w ≡ broken place) × (left v ≡ ended)))
