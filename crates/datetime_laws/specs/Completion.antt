-- The completions of a datetime with unknown digits: the texts without any that have its known ones.
use Rattle.std.specs.Prelude.{ℕ, ◌<◌, ◌≡◌, List, length, ◌≤ℤ◌}
use Rattle.base.specs.Part.{byte_at}
use Rattle.datetime.specs.Exact.{Exact, timestamp, interval, malformed}
use Rattle.datetime.specs.Unknown.{known, filled}
use Rattle.datetime.specs.declared.Datetime.{Datetime}
use Rattle.datetime.specs.declared.Datetime.TheVariants.{Timestamp, Interval, Malformed}

-- of the same length, and with the same byte wherever no star, 42, stands
pub record Completes (s c : List ℕ) : Type 0 where
  pub long : length c ≡ length s
  pub kept : (i : ℕ) → i < length s → (byte_at s i ≡ 42 → ⊥) → byte_at c i ≡ byte_at s i

-- in terms of what is filled in
abbrev pub Fills : (s c : List ℕ) → Type 0
Fills s c = (digits : List ℕ) × (length digits ≡ 21) × (c ≡ filled (known s) digits s)

-- what a text without stars says lies between the ends of a datetime of its sort
abbrev pub Within : Exact → Datetime → Type 0
Within (timestamp m) (Timestamp x) = (x.lowest ≤ℤ m) × (m ≤ℤ x.highest)
Within (timestamp m) (Interval x) = ⊥
Within (timestamp m) Malformed = ⊥
Within (interval n) (Timestamp x) = ⊥
Within (interval n) (Interval x) = (x.lowest ≤ℤ n) × (n ≤ℤ x.highest)
Within (interval n) Malformed = ⊥
Within malformed d = ⊥

-- the ends, each as a text without stars says it
abbrev pub lowest_of : Datetime → Exact
lowest_of (Timestamp x) = timestamp x.lowest
lowest_of (Interval x) = interval x.lowest
lowest_of Malformed = malformed

abbrev pub highest_of : Datetime → Exact
highest_of (Timestamp x) = timestamp x.highest
highest_of (Interval x) = interval x.highest
highest_of Malformed = malformed
