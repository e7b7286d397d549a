-- Every text spans from a lowest to a highest moment that is no earlier, and one with a star to a later one.
use Prim.Native.Nat.{ℕ, ◌≤◌, ◌<◌}
use mathlib.Core.Path.{◌≡◌, refl, ◌∙◌}
use mathlib.Core.Bool.{Bool, true, false}
use mathlib.Core.List.{List}
use native.Mathlib.Omega.{arith}
use lib.Signed.{◌≤ℤ◌, ◌<ℤ◌}
use Rattle.base.specs.Pick.{pick}
use Rattle.base.specs.Part.{byte_at}
use Rattle.base.specs.Range.{within}
use Rattle.base.specs.Digit.{digit_of}
use Rattle.datetime.specs.Text.{time_in, has_colon}
use Rattle.datetime.specs.Exact.{microseconds}
use Rattle.datetime.specs.Unknown.{known, lowest_digits, highest_digits, last_day, lowest_text, highest_text}
use Rattle.datetime.specs.Datetime.{says_datetime, span_to, sorted, datetime_of}
use Rattle.datetime.specs.declared.Datetime.{Datetime}
use Rattle.datetime.specs.declared.Datetime.TheVariants.{Malformed}
use Rattle.datetime_laws.specs.Relation.{Ordered, Apart}
use Rattle.datetime.proofs.Known.{known_most}
use Rattle.datetime.proofs.Filled.{byte_filled}
use Rattle.datetime.proofs.EndDigits.{TimeDigits, lowest_time, highest_time}
use Rattle.datetime.proofs.Highest.{text_long, latest}
use Rattle.datetime_laws.proofs.Monotone.{number_apart, Rises, microseconds_grow, microseconds_apart}
use Rattle.datetime_laws.proofs.Alike.{Alike, alike_both, digits_grow}
use Rattle.datetime_laws.proofs.Ends.{to_highest}
use Rattle.datetime_laws.proofs.Completions.{completes_alike, lowest_is, lowest_completes, highest_completes}

module _ (s : List ℕ) (said : says_datetime s ≡ true) where
  lowest_alike : Alike (known s) (lowest_text (known s) s) s
  lowest_alike = completes_alike s said (lowest_text (known s) s) (lowest_completes s said)

  rises : Rises (lowest_text (known s) s) (highest_text (known s) s)
  rises = to_highest (known s) s (known_most s) said (lowest_text (known s) s) lowest_alike (lowest_is s said)

  pub lowest_first : microseconds (lowest_text (known s) s) ≤ℤ microseconds (highest_text (known s) s)
  lowest_first = microseconds_grow (lowest_text (known s) s) (highest_text (known s) s) rises

  -- an unknown microsecond digit
  module _ (i : ℕ) (unknown : known s ≤ i) (from : 15 ≤ i) (to : i < 21) where
    lowest_digit : byte_at (lowest_text (known s) s) i ≡ 48
    unfolding lowest_text
    lowest_digit =
        let t = lowest_time (has_colon s) in
        byte_filled (known s) (lowest_digits (has_colon s)) s (known_most s) (text_long (known s) s (known_most s) said) t.full i unknown to ∙ t.microseconds i from to

    highest_digit : byte_at (highest_text (known s) s) i ≡ 57
    unfolding highest_text
    highest_digit =
        byte_filled (known s) (highest_digits (has_colon s) (last_day (known s) s)) s (known_most s) (text_long (known s) s (known_most s) said) digits.full i unknown to
        ∙ digits.microseconds i from to
      where
        go : (b : Bool) → has_colon s ≡ b → TimeDigits (highest_digits b (last_day (known s) s)) 23 59 59 57
        go true e = highest_time (last_day (known s) s)
        go false e = (latest (known s) s (known_most s) said e).0

        digits : TimeDigits (highest_digits (has_colon s) (last_day (known s) s)) 23 59 59 57
        digits = go (has_colon s) refl

  microsecond_apart : known s < 21 → (time_in (lowest_text (known s) s)).microsecond < (time_in (highest_text (known s) s)).microsecond
  unfolding time_in digit_of within
  microsecond_apart h =
      number_apart (lowest_text (known s) s) (highest_text (known s) s) 15 5
      (digits_grow (known s) (lowest_text (known s) s) (highest_text (known s) s) alike 15 5 (λ i u g l. rw (lowest_digit i u g (omega arith)) (omega arith)))
      (rw (lowest_digit 20 (omega arith) (omega arith) (omega arith), highest_digit 20 (omega arith) (omega arith) (omega arith)) (omega arith))
    where
      alike : Alike (known s) (lowest_text (known s) s) (highest_text (known s) s)
      alike = alike_both lowest_alike (completes_alike s said (highest_text (known s) s) (highest_completes s said))

  pub lowest_before : known s < 21 → microseconds (lowest_text (known s) s) <ℤ microseconds (highest_text (known s) s)
  lowest_before h = microseconds_apart (lowest_text (known s) s) (highest_text (known s) s) rises (microsecond_apart h)

-- what holds of both sorts of span holds of what a text says
by_span : (s : List ℕ) (P : Datetime → Type 0) → P Malformed → (says_datetime s ≡ true → (b : Bool) → P (sorted b (span_to (known s) s))) → P (datetime_of s)
unfolding datetime_of
by_span s P none f = go (says_datetime s) refl
  where
    go : (t : Bool) → says_datetime s ≡ t → P (pick t (sorted (has_colon s) (span_to (known s) s)) Malformed)
    go true e = f e (has_colon s)
    go false e = none

pub span_ordered : (s : List ℕ) → Ordered (datetime_of s)
span_ordered s = by_span s Ordered tt go
  where
    go : says_datetime s ≡ true → (b : Bool) → Ordered (sorted b (span_to (known s) s))
    go e true = lowest_first s e
    go e false = lowest_first s e

pub span_apart : (s : List ℕ) → known s < 21 → Apart (datetime_of s)
span_apart s h = by_span s Apart tt go
  where
    go : says_datetime s ≡ true → (b : Bool) → Apart (sorted b (span_to (known s) s))
    go e true = lowest_before s e h
    go e false = lowest_before s e h
