-- The sets that were gathered last: at first the empty one, and one more put in place of another. Assumes nothing.
use mathlib.Core.Path.{◌≡◌, refl, ap, sym as inv, ◌∙◌}
use mathlib.Core.Bool.{Bool, ◌&&◌}
use mathlib.Core.List.{List}
use Prim.Native.Nat.{ℕ, ◌+◌, ◌<◌, ◌%◌}
use native.Mathlib.Omega.{arith}
use native.Mathlib.Decide.{ℕ_discrete}
use lib.ListN.{length, get_or, set, replicate}
use lib.Seq.{get_or-set_same, get_or-set_other}
use Rattle.base.specs.Bits.{bit}
use Rattle.base.proofs.Bits.{bit_zero}
use Rattle.pattern.specs.Links.{leads, Gathers, Simple, Closed}
use Rattle.pattern.proofs.Below.{any_none}
use Rattle.matcher.specs.declared.live.Live.{Live}
use Rattle.matcher.specs.Live.{Kept, Steps}
use Rattle.matcher.specs.declared.recent.Recent.{Recent}
use Rattle.matcher.specs.Recent.{Recalls}
use Rattle.matcher.proofs.Memory.{zero_at}

module _ (links : List ℕ) where
  none_gathers : Gathers links 0 0
  none_gathers i = bit_zero i ∙ inv (any_none 64 (λ j. bit 0 j && bit (get_or links j 0) i) (λ j. ap (λ (b : Bool). b && bit (get_or links j 0) i) (bit_zero j)))

  -- with no set remembered
  pub recalls_none : {S T : ℕ} → Simple links S → Closed links T → Recalls links (record { sets = replicate 4 0; onward = replicate 4 0; simple = S; closed = T })
  recalls_none s t = record { right = λ k l. rw (zero_at 4 k) none_gathers; simple = s; closed = t }

  module _ {recent : Recent} (here : Recalls links recent) where
    -- a set that is found
    pub recalled : {k S place : ℕ} → (k < 4) × (get_or recent.sets k 0 ≡ S) → place < 4
        → Steps links S (record { set = S; onward = get_or recent.onward k 0; place = place })
    recalled {k} {S} found room = record {
      moves = refl;
      keeps = record { from_set = λ z i. here.right k found.0 i ∙ ap (λ (n : ℕ). leads (λ j. get_or links j 0) n i) found.1; room = room };
    }

    module _ (place S onward : ℕ) (room : place < 4) (g : Gathers links S onward) where
      pub recalls_more : length recent.sets ≡ 4 → length recent.onward ≡ 4
          → Recalls links (record { sets = set recent.sets place S; onward = set recent.onward place onward; simple = recent.simple; closed = recent.closed })
      recalls_more long longer = record { right = λ k l. at k l (ℕ_discrete k place); simple = here.simple; closed = here.closed }
        where
          at : (k : ℕ) → k < 4 → Dec (k ≡ place) → Gathers links (get_or (set recent.sets place S) k 0) (get_or (set recent.onward place onward) k 0)
          at k l (yes q) =
              let x : get_or (set recent.sets place S) place 0 ≡ S = get_or-set_same recent.sets place S 0 (omega (arith, long, room)) in
              let y : get_or (set recent.onward place onward) place 0 ≡ onward = get_or-set_same recent.onward place onward 0 (omega (arith, longer, room)) in
              rw (q, x, y) g
          at k l (no q) = rw (get_or-set_other recent.sets place k S 0 q, get_or-set_other recent.onward place k onward 0 q) (here.right k l)

      pub gathered : Steps links S (record { set = S; onward = onward; place = (place + 1) % 4 })
      gathered = record { moves = refl; keeps = record { from_set = λ z. g; room = omega arith } }

  -- the same set again
  pub stays : {st : Live} {S : ℕ} → Kept links st → S ≡ st.set → Steps links S st
  stays kept e = record { moves = inv e; keeps = kept }
