-- The walk that notes where the properties' records start: what it has found and noted so far, and what is left. One law for each of its exits.
use Rattle.std.specs.Prelude.{Result, Ok, Err}
use Prim.Native.Nat.{ℕ, zero, suc, ◌+◌, ◌≤◌, ◌<◌}
use mathlib.Core.List.{List, ◌∷◌}
use mathlib.Core.Bool.{Bool, true, false}
use mathlib.Core.Path.{◌≡◌, refl, sym, ap, ◌∙◌}
use native.Mathlib.Omega.{arith}
use native.Mathlib.Numerals.{add-one}
use lib.ListN.{length, set, length-set}
use borrow.Author.Tests.{lt-ltb, le-ltb}
use Rattle.base.specs.Pick.{pick}
use Rattle.base.specs.Part.{part}
use Rattle.record.specs.Record.{record_at, Records, item, broken, ended, follow, records}
use Rattle.record.specs.declared.read.RecordAt.{RecordAt}
use Rattle.record.specs.declared.read.RecordAt.TheVariants.{Whole, Broken, End}
use Rattle.record.proofs.Records.{records_at}
use Rattle.table.specs.Properties.{kinds_in}
use Rattle.instance.specs.declared.conform.InstanceRefusal.{InstanceRefusal}
use Rattle.instance.specs.Fault.{Conformity, nonconforming, record_fits, further_fault, fault_in, step_of, step_at}
use Rattle.instance.specs.Start.{next_of, next_at, start_of}
use Rattle.instance.specs.Noted.{noted, fitting, notes_under}
use Rattle.instance.proofs.Laws.{start_next}

-- ---- notes
pub noted_length : (i : List ℕ) (count : ℕ) (notes : List ℕ) → length (noted i count notes) ≡ length notes
unfolding noted
noted_length i zero notes = refl
noted_length i (suc n) notes = length-set (noted i n notes) n (start_of i n) ∙ noted_length i n notes

-- ---- what is told of the record at a place goes by the step there
module _ {A : Type 0} (next : ℕ → A) (wrong : InstanceRefusal → A) where
  by_step : Result ℕ InstanceRefusal → A
  by_step (Ok n) = next n
  by_step (Err p) = wrong p

  by_step_law : (i : List ℕ) (k at : ℕ) (f : RecordAt → A)
      → ((kind start len n : ℕ) → f (Whole kind start len n) ≡ pick (record_fits k kind (part i start len)) (next n) (wrong (nonconforming at)))
      → f Broken ≡ wrong (nonconforming at) → f End ≡ wrong (nonconforming (length i)) → f (record_at i at) ≡ by_step (step_at i at k)
  unfolding step_at by_step
  by_step_law i k at f whole cut end = go (record_at i at)
    where
      chosen : (b : Bool) (n : ℕ) → pick b (next n) (wrong (nonconforming at)) ≡ by_step (pick b (Ok n) (Err (nonconforming at)))
      chosen true n = refl
      chosen false n = refl

      go : (r : RecordAt) → f r ≡ by_step (step_of i at k r)
      go (Whole kind start len n) = whole kind start len n ∙ chosen (record_fits k kind (part i start len)) n
      go Broken = cut
      go End = end

-- the fault, and how many records fit
module _ (i : List ℕ) (k : ℕ) (ks : List ℕ) (at : ℕ) where
  fault_at_law : fault_in i (k ∷ ks) (records i at) ≡ by_step (λ n. fault_in i ks (records i n)) (λ x. Err x) (step_at i at k)
  unfolding fault_in
  fault_at_law =
      rw records_at
      (by_step_law (λ n. fault_in i ks (records i n)) (λ x. Err x) i k at (λ r. fault_in i (k ∷ ks) (follow at r (records i))) (λ kind start len n. refl) refl refl)

  fitting_at : fitting i (k ∷ ks) (records i at) ≡ by_step (λ n. suc (fitting i ks (records i n))) (λ p. 0) (step_at i at k)
  unfolding fitting
  fitting_at =
      rw records_at
      (by_step_law (λ n. suc (fitting i ks (records i n))) (λ p. 0) i k at (λ r. fitting i (k ∷ ks) (follow at r (records i))) (λ kind start len n. refl) refl refl)

step_past : (i : List ℕ) (at k n : ℕ) → step_at i at k ≡ Ok n → n ≡ next_at i at
unfolding step_at
step_past i at k n = go (record_at i at)
  where
    wrong : {x : InstanceRefusal} → ◌≡◌ {A = Result ℕ InstanceRefusal} (Err x) (Ok n) → ⊥
    wrong e = let z : ◌≡◌ {A = ℕ} 0 1 = cc in omega arith

    chosen : (b : Bool) (next : ℕ) → ◌≡◌ {A = Result ℕ InstanceRefusal} (pick b (Ok next) (Err (nonconforming at))) (Ok n) → n ≡ next
    chosen true next e = cc
    chosen false next e = absurd (wrong e)

    go : (r : RecordAt) → step_of i at k r ≡ Ok n → n ≡ next_of at r
    go (Whole kind start len next) e = chosen (record_fits k kind (part i start len)) next e
    go Broken e = absurd (wrong e)
    go End e = absurd (wrong e)

-- ---- the walk: `old` are the notes as they came, `rs` the properties' records that are left, the instance's next record is that of property `number`
pub record Walking (t i : List ℕ) (first : ℕ) (old notes : List ℕ) (rs : Records) (at number : ℕ) : Type 0 where
  pub fault : fault_in i (kinds_in (records t first)) (records i 0) ≡ fault_in i (kinds_in rs) (records i at)
  pub count : fitting i (kinds_in (records t first)) (records i 0) ≡ number + fitting i (kinds_in rs) (records i at)
  pub here : at ≡ start_of i number
  pub written : notes ≡ noted i number old

pub walking_begins : (t i : List ℕ) (first : ℕ) (notes : List ℕ) {rs : Records} {number : ℕ} → rs ≡ records t first → number ≡ 0 → Walking t i first notes notes rs 0 number
unfolding start_of noted
walking_begins t i first notes e f = rw (e, f) (record { fault = refl; count = omega arith; here = refl; written = refl })

module _ (t i : List ℕ) (first : ℕ) (old notes : List ℕ) (rs : Records) (at number : ℕ) (w : Walking t i first old notes rs at number) where
  pub walking_same : length notes ≡ length old
  walking_same = ap length w.written ∙ noted_length i number old

  -- no more records fit
  all_noted : fitting i (kinds_in rs) (records i at) ≡ 0 → notes ≡ noted i (fitting i (kinds_in (records t first)) (records i 0)) old
  all_noted e = w.written ∙ ap (λ (n : ℕ). noted i n old) (omega (arith, w.count))

  module _ (place : ℕ) (f : rs ≡ broken place) where
    pub broken_found : {x : Conformity} → x ≡ further_fault (records i at) → x ≡ fault_in i (kinds_in (records t first)) (records i 0)
    unfolding fault_in kinds_in
    broken_found g = g ∙ sym (w.fault ∙ rw f)

    pub broken_noted : notes ≡ noted i (fitting i (kinds_in (records t first)) (records i 0)) old
    unfolding kinds_in fitting
    broken_noted = all_noted (rw f refl)

  module _ (f : rs ≡ ended) where
    pub end_found : {x : Conformity} → x ≡ further_fault (records i at) → x ≡ fault_in i (kinds_in (records t first)) (records i 0)
    unfolding fault_in kinds_in
    end_found g = g ∙ sym (w.fault ∙ rw f)

    pub end_noted : notes ≡ noted i (fitting i (kinds_in (records t first)) (records i 0)) old
    unfolding kinds_in fitting
    end_noted = all_noted (rw f refl)

  module _ (place kind start len : ℕ) (rest : Records) (f : rs ≡ item place kind start len rest) (y : Result ℕ InstanceRefusal) (g : y ≡ step_at i at kind) where
    kinds_left : kinds_in rs ≡ kind ∷ kinds_in rest
    unfolding kinds_in
    kinds_left = rw f

    fault_left : fault_in i (kinds_in (records t first)) (records i 0) ≡ by_step (λ n. fault_in i (kinds_in rest) (records i n)) (λ x. Err x) y
    fault_left = w.fault ∙ rw (kinds_left, g) (fault_at_law i kind (kinds_in rest) at)

    count_left : fitting i (kinds_in rs) (records i at) ≡ by_step (λ n. suc (fitting i (kinds_in rest) (records i n))) (λ p. 0) y
    count_left = rw (kinds_left, g) (fitting_at i kind (kinds_in rest) at)

    module _ (x : InstanceRefusal) (h : y ≡ Err x) where
      pub wrong_found : {z : Conformity} → z ≡ Err x → z ≡ fault_in i (kinds_in (records t first)) (records i 0)
      unfolding by_step
      wrong_found k = k ∙ sym (fault_left ∙ rw h)

      pub wrong_noted : notes ≡ noted i (fitting i (kinds_in (records t first)) (records i 0)) old
      unfolding by_step
      wrong_noted = all_noted (count_left ∙ rw h)

    pub walking_next : (n : ℕ) → y ≡ Ok n → {here further : ℕ} → here ≡ number → further ≡ number + 1 → {new : List ℕ} → new ≡ set notes here at
        → Walking t i first old new rest n further
    unfolding by_step noted
    walking_next n h d e z =
        rw e (record {
          fault = fault_left ∙ rw h;
          count = let m : fitting i (kinds_in rs) (records i at) ≡ suc (fitting i (kinds_in rest) (records i n)) = count_left ∙ rw h in omega (arith, w.count);
          here = start_next i number at w.here n (step_past i at kind n (sym g ∙ h));
          written = z ∙ rw (d, add-one number, w.written, w.here);
        })

-- ---- the whole instance
module _ (ks i notes : List ℕ) where
  pub notes_long : 65535 < length i → notes ≡ notes_under ks i notes
  unfolding notes_under
  notes_long h = rw (lt-ltb 65535 (length i) h)

  pub notes_short : length i ≤ 65535 → {x : List ℕ} → x ≡ noted i (fitting i ks (records i 0)) notes → x ≡ notes_under ks i notes
  unfolding notes_under
  notes_short h e = e ∙ rw (le-ltb 65535 (length i) h)
