-- One law for each way out of a step of a walk over records.
use Prim.Native.Nat.{ℕ, ◌-◌, ◌^◌, ◌<◌}
use mathlib.Core.List.{List}
use mathlib.Core.Path.{◌≡◌, refl, sym, ◌∙◌}
use native.Mathlib.Omega.{arith}
use lib.ListN.{length}
use Rattle.record.specs.declared.read.RecordAt.{RecordAt}
use Rattle.record.specs.declared.read.RecordAt.TheVariants.{Whole, Broken, End}
use Rattle.record.specs.declared.walk.Records.{Records as Walk}
use Rattle.record.specs.Record.{record_at, broken, ended, records}
use Rattle.record.specs.Walked.{left, Passes}
use Rattle.record.proofs.Reach.{step_less}
use Rattle.record.proofs.Records.{broken_before, whole_in_law, at_end_law, records_whole, records_broken, records_end}

pub walk_ended : (s : List ℕ) → records s (length s) ≡ ended
walk_ended s = records_end s (length s) (at_end_law s (length s) (omega arith))

module _ (w : Walk) (r : RecordAt) (e : r ≡ record_at w.bytes.now w.at) where
  module _ (kind start len next : ℕ) (f : r ≡ Whole kind start len next) where
    pub walk_whole : next < 2 ^ 64 → Passes w (record { place = w.at; kind = kind; start = start; length = len }) (record { bytes = w.bytes; at = next })
    walk_whole h =
        let i = whole_in_law w.bytes.now w.at kind start len next (sym e ∙ f) in
        record { found = sym e ∙ f; walked = records_whole w.bytes.now w.at kind start len next (sym e ∙ f); later = omega (arith, i.begins, i.ends); within = i.within; fits = h; same = refl; place = refl }

    pub walk_less : length w.bytes.now - next < length w.bytes.now - w.at
    walk_less = step_less w.bytes.now w.at e f

  pub walk_broken : r ≡ Broken → left w ≡ broken w.at
  walk_broken f = records_broken w.bytes.now w.at (sym e ∙ f)

  pub walk_broken_less : r ≡ Broken → length w.bytes.now - length w.bytes.now < length w.bytes.now - w.at
  walk_broken_less f = let h = broken_before w.bytes.now w.at (sym e ∙ f) in omega arith

  pub walk_end : r ≡ End → left w ≡ ended
  walk_end f = records_end w.bytes.now w.at (sym e ∙ f)
