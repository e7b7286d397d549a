-- Where nothing is unknown, nothing is filled in: both ends are the text itself.
use Prim.Native.Nat.{ℕ}
use mathlib.Core.Path.{◌≡◌, refl}
use mathlib.Core.Bool.{Bool, true, false, ◌||◌}
use mathlib.Core.List.{List}
use lib.ListN.{length}
use Rattle.base.specs.Ascii.{bytes}
use Rattle.base.proofs.Lists.{says_same}
use Rattle.text_writer.specs.Decimal.{digits_within, decimal}
use Rattle.datetime.specs.Text.{has_colon}
use Rattle.datetime.specs.Exact.{is_timestamp, is_interval}
use Rattle.datetime.specs.Unknown.{lowest_digits, highest_digits, lowest_text, highest_text}
use Rattle.datetime.specs.Datetime.{says_to}
use Rattle.datetime.proofs.Filled.{filled_none}

pub lowest_full : (interval : Bool) → length (lowest_digits interval) ≡ 21
lowest_full true = refl
lowest_full false = refl

highest_full : (interval : Bool) → length (highest_digits interval 31) ≡ 21
unfolding decimal digits_within
highest_full true = refl
highest_full false = refl

module _ (s : List ℕ) where
  pub lowest_whole : lowest_text 21 s ≡ s
  unfolding lowest_text
  lowest_whole = filled_none (lowest_digits (has_colon s)) s (lowest_full (has_colon s))

  pub highest_whole : highest_text 21 s ≡ s
  unfolding highest_text
  highest_whole = filled_none (highest_digits (has_colon s) 31) s (highest_full (has_colon s))

  pub says_whole : says_to 21 s ≡ (is_timestamp s || is_interval s)
  says_whole = rw (lowest_whole, filled_none (bytes "**************.******") s refl, (says_same s s).from refl)
