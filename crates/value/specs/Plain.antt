-- Bytes that two sequences have in common, by their class: plain ones, which are units of their own in several forms, and those that characters have. What they say of the units from two places on.
use Rattle.std.specs.Prelude.{ℕ, zero, suc, ◌+◌, ◌-◌, ◌≤◌, ◌<◌, Bool, true, false, not, ◌&&◌, ◌||◌, List, ◌≡◌, length, eqb, Option, Some, None}
use Rattle.base.specs.Part.{byte_at, same_bytes}
use Rattle.base.specs.Range.{within}
use Rattle.value.specs.Unit.{units_from, units}
use Rattle.value.specs.declared.unit.Form.{Form}
use Rattle.value.specs.declared.unit.Form.TheVariants.{Bytes, Utf8, Char16, Hex, Quoted, Encoded}
use Rattle.value.specs.declared.unit.Units.{Units}
use Rattle.value.specs.declared.class.Class.{Class}
use Rattle.value.specs.declared.same.Pair.{Pair}
use Rattle.value.specs.declared.same.Pair.TheVariants.{Same, Differ, Ended}

-- from the blank to `high`, without the quote and the backslash, which a string literal takes for its own
unfoldable pub is_plain : (high : ℕ) → ℕ → Bool
is_plain high b = (within 0x20 high b && not (eqb b 39)) && not (eqb b 92)

abbrev pub is_in : Class → ℕ → Bool
is_in c b = c.any || is_plain c.high b

-- printable ASCII
abbrev pub plain_class : Class
plain_class = record { any = false; high = 0x7E }

abbrev pub is_bytes : Form → Bool
is_bytes Bytes = true
is_bytes Utf8 = false
is_bytes Char16 = false
is_bytes Hex = false
is_bytes Quoted = false
is_bytes (Encoded skipped) = false

abbrev pub is_utf8 : Form → Bool
is_utf8 Bytes = false
is_utf8 Utf8 = true
is_utf8 Char16 = false
is_utf8 Hex = false
is_utf8 Quoted = false
is_utf8 (Encoded skipped) = false

-- the forms whose units are characters, in UTF-8 where no escape stands for them
abbrev pub is_characters : Form → Bool
is_characters Bytes = false
is_characters Utf8 = true
is_characters Char16 = false
is_characters Hex = false
is_characters Quoted = true
is_characters (Encoded skipped) = false

-- the forms in which a plain byte is its own unit
abbrev pub is_bytewise : Form → Bool
is_bytewise Bytes = true
is_bytewise Utf8 = true
is_bytewise Char16 = false
is_bytewise Hex = false
is_bytewise Quoted = true
is_bytewise (Encoded skipped) = eqb skipped 0

abbrev pub same_in : Class → ℕ → ℕ → Bool
same_in c x y = is_in c x && eqb x y

abbrev pub other_plain : ℕ → ℕ → Bool
other_plain x y = (is_plain 0x7E x && is_plain 0x7E y) && not (eqb x y)

-- the `n` bytes from two places on are the same and of the class
unfoldable pub common_in : Class → List ℕ → ℕ → List ℕ → ℕ → ℕ → Bool
common_in c a at b beside zero = true
common_in c a at b beside (suc n) = common_in c a at b beside n && same_in c (byte_at a (at + n)) (byte_at b (beside + n))

pub record Common (c : Class) (a : List ℕ) (at : ℕ) (b : List ℕ) (beside n : ℕ) : Type 0 where
  pub within_left : n ≤ length a - at
  pub within_right : n ≤ length b - beside
  pub common : common_in c a at b beside n ≡ true

-- the units of two sequences are compared from later places on
pub record Onward (us vs us' vs' : List ℕ) : Type 0 where
  pub same : same_bytes us vs ≡ same_bytes us' vs'
  pub fewer : length us' ≤ length us

-- they are so from `n` bytes further on
pub record Along (x y : Units) (n : ℕ) : Type 0 where
  pub within_left : n ≤ length x.bytes.now - x.at
  pub within_right : n ≤ length y.bytes.now - y.at
  pub onward : Onward (units x) (units y) (units_from x.form x.bytes.now (x.at + n)) (units_from y.form y.bytes.now (y.at + n))

abbrev pub Skips : (us vs : List ℕ) → Option (Units × Units) → Type 0
Skips us vs None = false ≡ same_bytes us vs
Skips us vs (Some (x, y)) = Onward us vs (units x) (units y)

-- what is left of both stands in their slices, in their forms
abbrev pub BothStay : (x y : Units) → Option (Units × Units) → Type 0
BothStay x y None = Unit
BothStay x y (Some (u, v)) = (u.form ≡ x.form) × (u.bytes.now ≡ x.bytes.now) × (v.form ≡ y.form) × (v.bytes.now ≡ y.bytes.now)

abbrev pub Pairs : (us vs : List ℕ) → Pair → Type 0
Pairs us vs (Same x y) = (same_bytes us vs ≡ same_bytes (units x) (units y)) × (length (units x) < length us)
Pairs us vs Differ = false ≡ same_bytes us vs
Pairs us vs Ended = true ≡ same_bytes us vs
