-- What a datetime's text says. 01 "Datetime (DSP0004)"; 02 Q-6: "Such a value spans a lowest and a highest moment". A text without stars spans one moment.
use Rattle.std.specs.Prelude.{ℕ, Bool, ◌&&◌, ◌||◌, List}
use Rattle.base.specs.Pick.{pick}
use Rattle.datetime.specs.Text.{has_colon}
use Rattle.datetime.specs.Exact.{is_timestamp, is_interval, microseconds}
use Rattle.datetime.specs.Unknown.{known, tailed, may_start, lowest_text, highest_text}
use Rattle.datetime.specs.declared.Span.{Span}
use Rattle.datetime.specs.declared.Datetime.{Datetime}
use Rattle.datetime.specs.declared.Datetime.TheVariants.{Timestamp, Interval, Malformed}

-- the digits that are known keep their rules: with the lowest ones for the others the text is a timestamp or an interval
abbrev pub says_to : (k : ℕ) → List ℕ → Bool
says_to k s = tailed k s && (may_start (has_colon s) k && (is_timestamp (lowest_text k s) || is_interval (lowest_text k s)))

abbrev pub says_datetime : List ℕ → Bool
says_datetime s = says_to (known s) s

abbrev pub span_to : (k : ℕ) → List ℕ → Span
span_to k s = record { lowest = microseconds (lowest_text k s); highest = microseconds (highest_text k s) }

-- the sign tells which of the two it is
abbrev pub sorted : (interval : Bool) → Span → Datetime
sorted interval x = pick interval (Interval x) (Timestamp x)

unfoldable pub datetime_of : List ℕ → Datetime
datetime_of s = pick (says_datetime s) (sorted (has_colon s) (span_to (known s) s)) Malformed
