-- A text without unknown digits spans one moment.
use Rattle.std.specs.Prelude.{ℤ}
use Rattle.datetime.specs.Exact.{Exact, timestamp, interval, malformed}
use Rattle.datetime.specs.declared.Span.{Span}
use Rattle.datetime.specs.declared.Datetime.{Datetime}
use Rattle.datetime.specs.declared.Datetime.TheVariants.{Timestamp, Interval, Malformed}

abbrev pub point : ℤ → Span
point m = record { lowest = m; highest = m }

abbrev pub pointed : Exact → Datetime
pointed (timestamp m) = Timestamp (point m)
pointed (interval m) = Interval (point m)
pointed malformed = Malformed
