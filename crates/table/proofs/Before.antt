-- The names before a place, one record further.
use Prim.Native.Nat.{ℕ, ◌≤◌, ◌<◌}
use mathlib.Core.List.{List, [], ◌∷◌, ◌++◌}
use mathlib.Core.Path.{◌≡◌, refl, ap}
use native.Mathlib.Omega.{arith}
use borrow.Author.Tests.{lt-ltb, le-ltb}
use Rattle.base.specs.Part.{part}
use Rattle.record.specs.Record.{record_at, follow, records}
use Rattle.record.specs.declared.read.RecordAt.{RecordAt}
use Rattle.record.specs.declared.read.RecordAt.TheVariants.{Whole, Broken, End}
use Rattle.record.proofs.Records.{whole_in_law, records_at, records_whole}
use Rattle.record.proofs.Reach.{Reaches, here, along, reaches_later}
use Rattle.table.specs.Properties.{names_before}

-- none stands before a place from the place on
pub before_none : (t : List ℕ) (stop at : ℕ) → stop ≤ at → names_before t stop (records t at) ≡ []
unfolding names_before
before_none t stop at h = rw records_at (go (record_at t at))
  where
    go : (r : RecordAt) → names_before t stop (follow at r (records t)) ≡ []
    go (Whole kind start len next) = rw (le-ltb at stop h)
    go Broken = refl
    go End = refl

-- the record at the place is the last before the next place
pub before_next : (t : List ℕ) {first at kind start len next : ℕ} → Reaches t first at → record_at t at ≡ Whole kind start len next
    → names_before t next (records t first) ≡ names_before t at (records t first) ++ (part t start len ∷ [])
unfolding names_before
before_next t {first} {at} {kind} {start} {len} {next} here f =
    let w = whole_in_law t at kind start len next f in
    let l : at < next = omega arith in
    let m : at ≤ at = omega arith in
    rw (before_none t at at m, records_whole t at kind start len next f, lt-ltb at next l, before_none t next next (omega arith))
before_next t {first} {at} {kind} {start} {len} {next} (along {kind = k} {start = b} {len = n} {next = second} e r) f =
    let v = whole_in_law t first k b n second e in
    let w = whole_in_law t at kind start len next f in
    let q = reaches_later t r in
    let l : first < next = omega arith in
    let m : first < at = omega arith in
    rw (records_whole t first k b n second e, lt-ltb first next l, lt-ltb first at m) (ap (λ (xs : List (List ℕ)). part t b n ∷ xs) (before_next t r f))
