-- Characters that may be a datetime's, copied into a buffer: it starts with them, or they are no datetime.
use Rattle.std.specs.Prelude.{◌≡◌, List, ℕ, take, None, Option, Some}
use Rattle.datetime.specs.Datetime.{datetime_of}
use Rattle.datetime.specs.declared.Datetime.TheVariants.{Malformed}

abbrev pub Copied : (characters buffer : List ℕ) → Option ℕ → Type 0
Copied cs out (Some n) = take n out ≡ cs
Copied cs out None = datetime_of cs ≡ Malformed
