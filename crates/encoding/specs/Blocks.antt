-- A text in blocks: many sequences passed at once.
use Rattle.std.specs.Prelude.{ℕ, zero, suc, ◌+◌, ◌-◌, ◌≤◌, ◌<◌, Bool, true, false, not, ◌&&◌, ◌||◌, List, ◌≡◌, length, ltb, leb, eqb}
use Rattle.base.specs.Part.{byte_at}
use Rattle.base.specs.Range.{within}
use Rattle.encoding.specs.WellFormed.{sequence_at}

-- the `n` bytes from `at` on are below 80, each a sequence of its own
unfoldable pub all_ascii : List ℕ → ℕ → ℕ → Bool
all_ascii s at zero = true
all_ascii s at (suc n) = all_ascii s at n && ltb (byte_at s (at + n)) 0x80

-- a text's last `n` bytes are, if so told
abbrev pub EndsAscii : List ℕ → (n : ℕ) → Bool → Type 0
EndsAscii s n told = told ≡ true → n ≤ length s → all_ascii s (length s - n) n ≡ true

-- the walk over whole sequences comes from `at` to a place
pub data Reaches (s : List ℕ) (at : ℕ) : ℕ → Type 0 where
  here : Reaches s at at
  onward : {p : ℕ} → Reaches s at p → (sequence_at s p ≡ 0 → ⊥) → Reaches s at (p + sequence_at s p)

-- no sequence that starts at a place ends by `stop`
abbrev pub Stuck : List ℕ → ℕ → ℕ → Type 0
Stuck s at stop = sequence_at s at ≤ stop - at → sequence_at s at ≡ 0

-- a part of the walk over the sequences that end by `stop`: it stays only where none does
pub record Passed (s : List ℕ) (at stop next : ℕ) : Type 0 where
  pub reaches : Reaches s at next
  pub begins : at ≤ next
  pub ends : next ≤ stop
  pub stays : next ≡ at → Stuck s at stop

-- the whole of it, which has no part where `stop` isn't behind `at`
pub record Walked (s : List ℕ) (at stop next : ℕ) : Type 0 where
  pub reaches : Reaches s at next
  pub begins : at ≤ next
  pub ends : next - at ≤ stop - at
  pub stuck : next < stop → Stuck s next stop

-- a byte that is none of a sequence's first bytes
abbrev pub is_continuation : ℕ → Bool
is_continuation b = within 0x80 0xBF b

-- by the first bytes at a place: a sequence of one, two and three bytes (Table 3-7) that no continuation byte follows
abbrev pub of_one : (b c : ℕ) → Bool
of_one b c = ltb b 0x80 && not (is_continuation c)

abbrev pub of_two : (b c d : ℕ) → Bool
of_two b c d = (within 0xC2 0xDF b && is_continuation c) && not (is_continuation d)

abbrev pub of_three : (b c d e : ℕ) → Bool
of_three b c d e =
    (((within 0xE0 0xEF b && ((not (eqb b 0xE0) || leb 0xA0 c) && (not (eqb b 0xED) || leb c 0x9F))) && is_continuation c) && is_continuation d) && not (is_continuation e)

-- a continuation byte, or one of these
abbrev pub whole_at : List ℕ → ℕ → Bool
whole_at s at =
    ((is_continuation (byte_at s at) || of_one (byte_at s at) (byte_at s (at + 1))) || of_two (byte_at s at) (byte_at s (at + 1)) (byte_at s (at + 2)))
    || of_three (byte_at s at) (byte_at s (at + 1)) (byte_at s (at + 2)) (byte_at s (at + 3))

-- so at each of `n` places from `at` on
unfoldable pub all_whole : List ℕ → ℕ → ℕ → Bool
all_whole s at zero = true
all_whole s at (suc n) = all_whole s at n && whole_at s (at + n)

-- the end of such a run
pub record WholeRun (s : List ℕ) (at stop end : ℕ) : Type 0 where
  pub begins : at ≤ end
  pub ends : end < stop
  pub whole : all_whole s at (end - at) ≡ true

-- the last place from `at` to `end` with no continuation byte; `at` if there is none
pub record LastStart (s : List ℕ) (at end start : ℕ) : Type 0 where
  pub begins : at ≤ start
  pub ends : start ≤ end
  pub is : (start ≡ at → ⊥) → is_continuation (byte_at s start) ≡ false

-- a part of the walk that may stay
pub record Moved (s : List ℕ) (at stop next : ℕ) : Type 0 where
  pub reaches : Reaches s at next
  pub begins : at ≤ next
  pub ends : next ≤ stop

-- a block of 16 bytes from `at` on, each a character
abbrev pub Block : List ℕ → ℕ → Bool → Type 0
Block s at r = r ≡ true → (at + 16 ≤ length s) × (all_ascii s at 16 ≡ true)
