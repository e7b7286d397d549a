-- One law for each way out of the count of a text's characters. Assumes nothing.
use Prim.Native.Nat.{ℕ, zero, suc, ◌+◌, ◌-◌, ◌≤◌, ◌<◌}
use mathlib.Core.List.{List}
use mathlib.Core.Bool.{Bool, true, false, false≢true}
use mathlib.Core.Path.{◌≡◌, ap, sym as inv, ◌∙◌}
use native.Mathlib.Omega.{arith}
use lib.ListN.{length, get_or}
use lib.Dec.{ltb}
use borrow.Author.Tests.{ltb-true}
use Rattle.base.specs.Part.{byte_at}
use Rattle.base.proofs.Says.{and_both}
use Rattle.encoding.specs.WellFormed.{sequence_at}
use Rattle.encoding.specs.Characters.{characters_from}
use Rattle.encoding.specs.Blocks.{all_ascii, Block}
use Rattle.encoding.proofs.WellFormed.{lead_ascii, single}
use Rattle.encoding.proofs.Characters.{characters_next, characters_stop, characters_end}

-- ---- a block

module _ (s : List ℕ) (at : ℕ) where
  pub block_short : Block s at false
  block_short t = absurd (false≢true t)

  pub block_held : {r : Bool} → at < length s → 16 ≤ length s - at → r ≡ all_ascii s at 16 → Block s at r
  block_held i h e t = (omega arith, inv e ∙ t)

one_counted : (s : List ℕ) (at n : ℕ) → n ≡ sequence_at s at → (n ≡ 0 → ⊥) → length (characters_from s at) ≡ 1 + length (characters_from s (at + n))
one_counted s at n e z = ap length (characters_next s at (λ q. z (e ∙ q))) ∙ ap (λ (j : ℕ). suc (length (characters_from s (at + j)))) (inv e) ∙ omega arith

ascii_counted : (s : List ℕ) (at n : ℕ) → at + n ≤ length s → all_ascii s at n ≡ true → length (characters_from s at) ≡ n + length (characters_from s (at + n))
unfolding all_ascii
ascii_counted s at zero h e = let z : at ≡ at + 0 = omega arith in omega (arith, ap (λ (j : ℕ). length (characters_from s j)) z)
ascii_counted s at (suc n) h e =
    let both = and_both (all_ascii s at n) (ltb (byte_at s (at + n)) 0x80) e in
    let low : get_or s (at + n) 0 < 0x80 = ltb-true _ _ both.1 in
    let inside : at + n < length s = omega arith in
    let byte : get_or s (at + n) 0 < 256 = omega arith in
    let one = single s (at + n) inside byte 1 (lead_ascii _ byte low) (omega arith) in
    let rest = one_counted s (at + n) 1 one (λ z. absurd (omega arith)) in
    let next : at + n + 1 ≡ at + suc n = omega arith in
    let moved = ap (λ (j : ℕ). length (characters_from s j)) next in
    omega (arith, ascii_counted s at n (omega arith) both.0, rest, moved)

-- ---- the loop

-- those counted and those left are all
pub record Counted (s : List ℕ) (at next count : ℕ) : Type 0 where
  pub all : count + length (characters_from s next) ≡ length (characters_from s at)
  pub fewer : count ≤ next

module _ (s : List ℕ) (at : ℕ) where
  pub counted_start : Counted s at at 0
  counted_start = record { all = omega arith; fewer = omega arith }

  module _ {next count : ℕ} (here : Counted s at next count) where
    pub counted_block : {t : Bool} → Block s next t → t ≡ true → Counted s at (next + 16) (count + 16)
    counted_block b t = let x = b t in record { all = omega (arith, here.all, ascii_counted s next 16 x.0 x.1); fewer = omega (arith, here.fewer) }

    module _ {n : ℕ} (sequence : n ≡ sequence_at s next) where
      pub counted_one : (n ≡ 0 → ⊥) → Counted s at (next + n) (count + 1)
      counted_one z = record { all = omega (arith, here.all, one_counted s next n sequence z); fewer = omega (arith, here.fewer, z) }

      pub counted_stop : n ≡ 0 → count ≡ length (characters_from s at)
      counted_stop z = omega (arith, here.all, ap length (characters_stop s next (inv sequence ∙ z)))

    pub counted_end : length s ≤ next → count ≡ length (characters_from s at)
    counted_end h = omega (arith, here.all, ap length (characters_end s next h))
