-- A text without stars keeps every answer that it had before there were any: it says one moment or one length, and two of them compare as whole numbers do.
use Prim.Native.Nat.{ℕ}
use mathlib.Core.Path.{◌≡◌, refl}
use mathlib.Core.Bool.{Bool, true, false, not, ◌&&◌, ◌||◌}
use mathlib.Core.List.{List}
use lib.IntN.{ℤ}
use lib.Signed.{lt_z}
use Rattle.base.specs.Pick.{pick}
use Rattle.base.specs.Order.{order_of_whole}
use Rattle.base.specs.declared.order.Order.TheVariants.{Before, Same, After, Undecided}
use Rattle.datetime.specs.Text.{has_colon}
use Rattle.datetime.specs.Exact.{Exact, timestamp, interval, malformed, is_timestamp, is_interval, moment, interval_length, microseconds, exact_of, order_of_exact}
use Rattle.datetime.specs.Unknown.{Starless}
use Rattle.datetime.specs.Datetime.{says_datetime, sorted, datetime_of}
use Rattle.datetime.specs.Order.{order_of_spans, order_of_datetimes}
use Rattle.datetime.specs.declared.Datetime.TheVariants.{Malformed}
use Rattle.datetime.proofs.Sorts.{timestamp_text, interval_text}
use Rattle.datetime.proofs.Known.{all_known}
use Rattle.datetime.proofs.NothingUnknown.{lowest_whole, highest_whole, says_whole}
use Rattle.datetime_laws.specs.Point.{point, pointed}

module _ (s : List ℕ) where
  -- accepted as before
  pub keeps_texts : Starless s → says_datetime s ≡ (is_timestamp s || is_interval s)
  keeps_texts h = rw ((all_known s).1 h) (says_whole s)

  -- and read as before
  pub without_stars : Starless s → datetime_of s ≡ pointed (exact_of s)
  unfolding datetime_of exact_of
  without_stars h = rw ((all_known s).1 h, says_whole s, lowest_whole s, highest_whole s) (go (is_timestamp s) refl (is_interval s) refl)
    where
      go : (p : Bool) → is_timestamp s ≡ p → (q : Bool) → is_interval s ≡ q
          → pick (p || q) (sorted (has_colon s) (point (microseconds s))) Malformed
          ≡ pointed (pick p (timestamp (moment s)) (pick q (interval (interval_length s)) malformed))
      go true e q f = rw (timestamp_text s e).colon
      go false e true f = rw (interval_text s f).colon
      go false e false f = refl

pub points_order : (m n : ℤ) → order_of_spans (point m) (point n) ≡ order_of_whole m n
unfolding order_of_spans order_of_whole
points_order m n = go (lt_z m n) (lt_z n m)
  where
    go : (p q : Bool) → pick p Before (pick q After (pick ((not p && not q) && (not p && not q)) Same Undecided)) ≡ pick p Before (pick q After Same)
    go true q = refl
    go false true = refl
    go false false = refl

-- two texts without stars compare as before
pub keeps_answers : (s r : List ℕ) → Starless s → Starless r → order_of_datetimes (datetime_of s) (datetime_of r) ≡ order_of_exact (exact_of s) (exact_of r)
keeps_answers s r h k = rw (without_stars s h, without_stars r k) (go (exact_of s) (exact_of r))
  where
    go : (a b : Exact) → order_of_datetimes (pointed a) (pointed b) ≡ order_of_exact a b
    go (timestamp a) (timestamp b) = points_order a b
    go (timestamp a) (interval b) = refl
    go (timestamp a) malformed = refl
    go (interval a) (timestamp b) = refl
    go (interval a) (interval b) = points_order a b
    go (interval a) malformed = refl
    go malformed b = refl
