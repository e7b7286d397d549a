-- The matcher's state runs over a text as the definition does. Assumes nothing.
use mathlib.Core.Path.{◌≡◌, refl, ap, fun_ext, sym as inv, ◌∙◌}
use mathlib.Core.Bool.{Bool, true, false, not, ◌&&◌, and_comm}
use mathlib.Core.List.{List, [], ◌∷◌}
use Prim.Native.Nat.{ℕ, ◌<◌, ◌^◌}
use native.Mathlib.Omega.{arith}
use native.Mathlib.Decide.{ℕ_discrete}
use borrow.Author.Tests.{eq-eqb, ne_eqb}
use lib.Bits.{bit_and, or_lt, and_le_r}
use lib.Count.{count_trailing_zeros}
use lib.Dec.{eqb}
use lib.Pow.{pow-lt}
use Rattle.base.specs.Bits.{bit}
use Rattle.base.specs.Pick.{pick}
use Rattle.base.proofs.Bits.{bit_and_law, bit_zero}
use Rattle.pattern.specs.declared.fragment.Fragment.{Fragment}
use Rattle.pattern.specs.Automaton.{kept_if, automaton_of}
use Rattle.pattern.specs.Regex.{Regex, empty, sym, seq, alt, opt, plus}
use Rattle.pattern.proofs.Below.{any_none, any_true}
use Rattle.pattern.proofs.Linking.{least_in}
use Rattle.pattern.proofs.Listed.{Stands}
use Rattle.matcher.specs.declared.live.Live.{Live}
use Rattle.matcher.specs.Live.{initial, begun, accepted}
use Rattle.matcher.specs.Run.{nullable, shift, with_live, run, likes}
use Rattle.matcher.proofs.Decides.{none_runs}
use Rattle.matcher.proofs.Steps.{Numbered, meets, comes, step_ok, final_ok, nullable_plain}

unfoldable rest_by : Bool → Regex ℕ → ℕ → List ℕ → Bool
rest_by true r S w = run (with_live (bit S) r) w
rest_by false r S [] = nullable r
rest_by false r S (c ∷ w) = run (shift true (with_live (bit S) r) c) w

-- whether the rest of a text is matched, from a state on
unfoldable pub rest_of : Regex ℕ → Live → List ℕ → Bool
unfolding rest_by
rest_of r st w = rest_by (begun st) r st.set w

-- the symbols that may come next are those to which a live one leads and, before the first character, the first ones
abbrev pub Ready : Regex ℕ → Live → Type 0
Ready r st = (i : ℕ) → bit st.onward i ≡ comes st.set (not (begun st)) i (automaton_of r)

-- ---- a step

pub rest_step : (r : Regex ℕ) (m : ℕ) → Numbered r 0 m → (st : Live) (c hit : ℕ) (w : List ℕ) → Stands r (bit hit) c → Ready r st
    → rest_of r st (c ∷ w) ≡ run (with_live (bit (bit_and st.onward hit)) r) w
unfolding rest_of rest_by run
rest_step r m n st c hit w stands ready =
    opened (begun st)
    ∙ ap (λ (x : Regex Bool). run x w)
    (step_ok st.set c (bit hit) r 0 m n stands (not (begun st))
    ∙ ap (λ (T : ℕ → Bool). with_live T r)
    (fun_ext (λ i.
    and_comm (bit hit i) (comes st.set (not (begun st)) i (automaton_of r))
    ∙ ap (λ (b : Bool). b && bit hit i) (inv (ready i))
    ∙ inv (bit_and_law st.onward hit i))))
  where
    opened : (b : Bool) → rest_by b r st.set (c ∷ w) ≡ run (shift (not b) (with_live (bit st.set) r) c) w
    opened true = refl
    opened false = refl

-- where a symbol is live, a character has been read
pub rest_live : (r : Regex ℕ) (st : Live) (w : List ℕ) → (st.set ≡ 0 → ⊥) → run (with_live (bit st.set) r) w ≡ rest_of r st w
unfolding rest_of rest_by
rest_live r st w z = ap (λ (b : Bool). rest_by (not b) r st.set w) (inv (ne_eqb st.set 0 z))

-- where none is live any more, nothing is matched
pub rest_dead : (r : Regex ℕ) (w : List ℕ) → run (with_live (bit 0) r) w ≡ false
rest_dead r w = ap (λ (T : ℕ → Bool). run (with_live T r) w) (fun_ext (λ i. bit_zero i)) ∙ none_runs r w

-- ---- the end

-- each symbol has a number below 60
last_below : (r : Regex ℕ) (h : ℕ → Bool) (c : ℕ) → Stands r h c → (automaton_of r).sets.last < 2 ^ 64
unfolding automaton_of Stands
last_below empty h c t = omega arith
last_below (sym k p) h c t = pow-lt {i = k} {j = 64} (omega (arith, t.0))
last_below (seq a b) h c t = or_lt 64 (automaton_of b).sets.last (kept_if (automaton_of b).sets.nullable (automaton_of a).sets.last) (last_below b h c t.1) (kept (automaton_of b).sets.nullable (last_below a h c t.0))
  where
    kept : (b : Bool) {x : ℕ} → x < 2 ^ 64 → kept_if b x < 2 ^ 64
    kept true l = l
    kept false l = omega arith
last_below (alt a b) h c t = or_lt 64 (automaton_of a).sets.last (automaton_of b).sets.last (last_below a h c t.0) (last_below b h c t.1)
last_below (opt a) h c t = last_below a h c t
last_below (plus a) h c t = last_below a h c t

meets_and : (S T : ℕ) → T < 2 ^ 64 → meets S T ≡ not (eqb (bit_and S T) 0)
meets_and S T l = go (ℕ_discrete (bit_and S T) 0)
  where
    at : (j : ℕ) → (bit S j && bit T j) ≡ bit (bit_and S T) j
    at j = inv (bit_and_law S T j)

    go : Dec (bit_and S T ≡ 0) → meets S T ≡ not (eqb (bit_and S T) 0)
    go (yes e) =
        any_none 64 (λ j. bit S j && bit T j) (λ j. at j ∙ ap (λ (n : ℕ). bit n j) e ∙ bit_zero j)
        ∙ ap not (inv (eq-eqb (bit_and S T) 0 e))
    go (no e) =
        let x = least_in (bit_and S T) e (omega (arith, l, and_le_r S T)) in
        any_true 64 (count_trailing_zeros 64 (bit_and S T)) (λ j. bit S j && bit T j) x.0 (at (count_trailing_zeros 64 (bit_and S T)) ∙ x.1)
        ∙ ap not (inv (ne_eqb (bit_and S T) 0 e))

pub rest_last : (r : Regex ℕ) (h : ℕ → Bool) (c : ℕ) → Stands r h c → (S : ℕ)
    → run (with_live (bit S) r) [] ≡ not (eqb (bit_and S (automaton_of r).sets.last) 0)
unfolding run
rest_last r h c stands S = final_ok S c h r stands ∙ meets_and S (automaton_of r).sets.last (last_below r h c stands)

pub rest_end : (r : Regex ℕ) (h : ℕ → Bool) (c : ℕ) → Stands r h c → (whole : Fragment) → whole ≡ (automaton_of r).sets → (st : Live) → rest_of r st [] ≡ accepted whole st
unfolding rest_of rest_by
rest_end r h c stands whole e st = go (begun st) ∙ ap (λ (f : Fragment). accepted f st) (inv e)
  where
    go : (b : Bool)
        → rest_by b r st.set [] ≡ pick b (not (eqb (bit_and st.set (automaton_of r).sets.last) 0)) (automaton_of r).sets.nullable
    go true = rest_last r h c stands st.set
    go false = nullable_plain r

-- ---- the start

pub rest_start : (r : Regex ℕ) (first : ℕ) (w : List ℕ) → rest_of r (initial first) w ≡ likes r w
unfolding rest_of rest_by likes
rest_start r first [] = refl
rest_start r first (c ∷ w) = ap (λ (T : ℕ → Bool). run (shift true (with_live T r) c) w) (fun_ext (λ i. bit_zero i))
