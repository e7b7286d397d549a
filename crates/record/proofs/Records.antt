-- `record_at` by numbers, the numbers of a whole record, and `records` one step at a time.
use Prim.Native.Nat.{ℕ, ◌+◌, ◌≤◌, ◌<◌}
use mathlib.Core.List.{List}
use mathlib.Core.Bool.{Bool, true, false}
use mathlib.Core.Path.{◌≡◌, refl, ap}
use native.Mathlib.Omega.{arith}
use lib.ListN.{length}
use lib.Dec.{leb}
use borrow.Author.Tests.{le-leb, lt-leb, leb-true, leb-false}
use Rattle.base.proofs.Walk.{from_at}
use Rattle.record.specs.declared.read.RecordAt.{RecordAt}
use Rattle.record.specs.declared.read.RecordAt.TheVariants.{Whole, Broken, End}
use Rattle.record.specs.Record.{number_at, record_at, Records, item, broken, ended, follow, records}

-- what stands at an offset, by numbers
module _ (s : List ℕ) (at : ℕ) where
  pub at_end_law : length s ≤ at → record_at s at ≡ End
  unfolding record_at
  at_end_law h = rw (le-leb (length s) at h)

  pub at_broken : at < length s → length s < at + 4 + number_at s at → record_at s at ≡ Broken
  unfolding record_at
  at_broken h g = rw (lt-leb (length s) at h, lt-leb (at + 4 + number_at s at) (length s) g)

  pub at_whole : at + 4 + number_at s at ≤ length s
      → record_at s at ≡ Whole (number_at s (at + 2)) (at + 4) (number_at s at) (at + 4 + number_at s at)
  unfolding record_at
  at_whole h = rw (lt-leb (length s) at (omega arith), le-leb (at + 4 + number_at s at) (length s) h)

-- the three cases of an offset
pub data View (s : List ℕ) (at : ℕ) : Type 0 where
  ends : length s ≤ at → record_at s at ≡ End → View s at
  breaks : at < length s → length s < at + 4 + number_at s at → record_at s at ≡ Broken → View s at
  stands : at + 4 + number_at s at ≤ length s
      → record_at s at ≡ Whole (number_at s (at + 2)) (at + 4) (number_at s at) (at + 4 + number_at s at) → View s at

pub view : (s : List ℕ) (at : ℕ) → View s at
view s at = one (leb (length s) at) refl
  where
    two : at < length s → (b : Bool) → leb (at + 4 + number_at s at) (length s) ≡ b → View s at
    two h true e = let g = leb-true (at + 4 + number_at s at) (length s) e in stands g (at_whole s at g)
    two h false e = let g = leb-false (at + 4 + number_at s at) (length s) e in breaks h g (at_broken s at h g)

    one : (b : Bool) → leb (length s) at ≡ b → View s at
    one true e = let h = leb-true (length s) at e in ends h (at_end_law s at h)
    one false e = two (leb-false (length s) at e) (leb (at + 4 + number_at s at) (length s)) refl

-- the numbers of a whole record at an offset of `n` bytes
pub record WholeIn (n at start len next : ℕ) : Type 0 where
  pub begins : start ≡ at + 4
  pub ends : next ≡ start + len
  pub within : next ≤ n

abbrev Found : ℕ → ℕ → RecordAt → Type 0
Found n at (Whole kind start len next) = WholeIn n at start len next
Found n at Broken = Unit
Found n at End = n ≤ at

found : (s : List ℕ) (at : ℕ) → Found (length s) at (record_at s at)
found s at = go (view s at)
  where
    go : View s at → Found (length s) at (record_at s at)
    go (ends h e) = rw e h
    go (breaks h g e) = rw e tt
    go (stands h e) = rw e (record { begins = refl; ends = refl; within = h })

pub whole_in_law : (s : List ℕ) (at kind start len next : ℕ) → record_at s at ≡ Whole kind start len next → WholeIn (length s) at start len next
whole_in_law s at kind start len next e = rw e at (found s at)

pub at_last : (s : List ℕ) (at : ℕ) → record_at s at ≡ End → length s ≤ at
at_last s at e = rw e at (found s at)

-- where a record runs past the end there are bytes left
pub broken_before : (s : List ℕ) (at : ℕ) → record_at s at ≡ Broken → at < length s
broken_before s at e = go (view s at)
  where
    go : View s at → at < length s
    go (ends h f) = absurd (let z : ◌≡◌ {A = ℕ} 0 1 = cc in omega arith)
    go (breaks h g f) = h
    go (stands h f) = absurd (let z : ◌≡◌ {A = ℕ} 0 1 = cc in omega arith)

-- `records`, one step
pub records_at : (s : List ℕ) (at : ℕ) → records s at ≡ follow at (record_at s at) (records s)
unfolding records
records_at s = from_at _ ended (length s) (λ at p q h. go at p q h (record_at s at) (found s at))
  where
    go : (at : ℕ) (p q : ℕ → Records) → ((next : ℕ) → at < next → next ≤ length s → p next ≡ q next)
        → (r : RecordAt) → Found (length s) at r → follow at r p ≡ follow at r q
    go at p q h (Whole kind start len next) w = ap (item at kind start len) (h next (omega arith) w.within)
    go at p q h Broken w = refl
    go at p q h End w = refl

-- the same, by what stands at the offset
module _ (s : List ℕ) (at : ℕ) where
  pub records_whole : (kind start len next : ℕ) → record_at s at ≡ Whole kind start len next
      → records s at ≡ item at kind start len (records s next)
  records_whole kind start len next e = rw (records_at, e)

  pub records_broken : record_at s at ≡ Broken → records s at ≡ broken at
  records_broken e = rw (records_at, e)

  pub records_end : record_at s at ≡ End → records s at ≡ ended
  records_end e = rw (records_at, e)
