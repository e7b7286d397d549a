-- What a walk notes is right, and right notes give the instance's environment.
use Rattle.std.specs.Prelude.{Err}
use Prim.Native.Nat.{ℕ, zero, suc, ◌≤◌, ◌<◌}
use mathlib.Core.List.{List, [], ◌∷◌}
use mathlib.Core.Bool.{Bool, true, false}
use mathlib.Core.Logic.{◌⊎◌, inl, inr}
use mathlib.Core.Path.{◌≡◌, refl, ap, ◌∙◌}
use native.Mathlib.Nat.{eq-or-lt_of_le, le_of_suc-le-suc}
use native.Mathlib.Omega.{arith}
use lib.ListN.{length, get_elem?}
use lib.Seq.{get_or-set_same, get_or-set_other}
use lib.Dec.{ltb}
use borrow.Author.Tests.{ltb-true, ltb-false}
use Rattle.base.specs.Pick.{pick}
use Rattle.base.specs.Part.{part}
use Rattle.record.specs.Record.{Records, item, broken, ended, records}
use Rattle.table.specs.Table.{FreeOfFaults}
use Rattle.table.specs.Properties.{kinds_of, found, find_property}
use Rattle.table.proofs.Find.{found_at}
use Rattle.table.proofs.Good.{good_table, counted}
use Rattle.instance.specs.Fault.{conforming, too_long, fault_at, record_fits, fault_in, fault_under, conformity}
use Rattle.instance.specs.Conforms.{Conforms}
use Rattle.instance.specs.Start.{start_of}
use Rattle.instance.specs.Value.{property, value_at, entry_at, environment_under, environment}
use Rattle.instance.specs.Noted.{place_noted, RightNotes, environment_noted, noted, fitting, notes_under, notes_after}
use Rattle.instance.proofs.Decides.{no_place, conforms_no_fault}
use Rattle.instance.proofs.Environment.{none_at}
use Rattle.instance.proofs.Noting.{noted_length}

-- ---- the places that are noted, and the others
pub noted_at : (i : List ℕ) (count : ℕ) (notes : List ℕ) (n : ℕ) → n < count → n < length notes → place_noted (noted i count notes) n ≡ start_of i n
unfolding noted
noted_at i zero notes n h l = absurd (omega arith)
noted_at i (suc k) notes n h l = go (eq-or-lt_of_le (le_of_suc-le-suc h)) (λ m. noted_at i k notes n m l)
  where
    go : (n ≡ k) ⊎ (n < k) → (n < k → place_noted (noted i k notes) n ≡ start_of i n) → place_noted (noted i (suc k) notes) n ≡ start_of i n
    go (inl e) r =
        let room : k < length (noted i k notes) = omega (arith, noted_length i k notes) in
        rw e (get_or-set_same (noted i k notes) k (start_of i k) 0 room)
    go (inr m) r = get_or-set_other (noted i k notes) k n (start_of i k) 0 (λ e. omega arith) ∙ r m

pub noted_kept : (i : List ℕ) (count : ℕ) (notes : List ℕ) (n : ℕ) → count ≤ n → place_noted (noted i count notes) n ≡ place_noted notes n
unfolding noted
noted_kept i zero notes n h = refl
noted_kept i (suc k) notes n h = get_or-set_other (noted i k notes) k n (start_of i k) 0 (λ e. omega arith) ∙ noted_kept i k notes n (omega arith)

-- ---- an instance that conforms has the record of every property
fitting_all : (i ks : List ℕ) (rs : Records) → fault_in i ks rs ≡ conforming → fitting i ks rs ≡ length ks
unfolding fault_in fitting
fitting_all i [] rs e = refl
fitting_all i (k ∷ ks) (item place kind start len rest) e = go (record_fits k kind (part i start len)) e (fitting_all i ks rest)
  where
    go : (b : Bool) → pick b (fault_in i ks rest) (fault_at place) ≡ conforming → (fault_in i ks rest ≡ conforming → fitting i ks rest ≡ length ks) → pick b (suc (fitting i ks rest)) 0 ≡ suc (length ks)
    go true f r = ap suc (r f)
    go false f r = absurd (no_place place f)
fitting_all i (k ∷ ks) (broken place) e = absurd (no_place place e)
fitting_all i (k ∷ ks) ended e = absurd (no_place (length i) e)

pub notes_conforming : (t i notes : List ℕ) → conformity t i ≡ conforming → notes_after t i notes ≡ noted i (length (kinds_of t)) notes
unfolding fault_under notes_under
notes_conforming t i notes e = go (ltb 65535 (length i)) e
  where
    go : (b : Bool) → pick b (Err too_long) (fault_in i (kinds_of t) (records i 0)) ≡ conforming
        → pick b notes (noted i (fitting i (kinds_of t) (records i 0)) notes) ≡ noted i (length (kinds_of t)) notes
    go true f = let z : ◌≡◌ {A = ℕ} 0 1 = cc in absurd (omega arith)
    go false f = ap (λ (n : ℕ). noted i n notes) (fitting_all i (kinds_of t) (records i 0) f)

-- THE THEOREM: after a walk over an instance that conforms, each property's place is where its record starts
pub walked_right : (t i notes : List ℕ) → conformity t i ≡ conforming → length (kinds_of t) ≤ length notes → RightNotes t i (notes_after t i notes)
walked_right t i notes e l n h = ap (λ (x : List ℕ). place_noted x n) (notes_conforming t i notes e) ∙ noted_at i (length (kinds_of t)) notes n h (omega arith)

-- so in 01's words, by which the record of the property stands there (`Environment` `record_of`)
pub walked_conforms : (t i notes : List ℕ) → Conforms t i → length (kinds_of t) ≤ length notes → RightNotes t i (notes_after t i notes)
walked_conforms t i notes c l = walked_right t i notes (conforms_no_fault t i c) l

-- 128 notes have room for every table
pub few_kinds : (t : List ℕ) → FreeOfFaults t → length (kinds_of t) ≤ 128
few_kinds t f =
    let n = counted t f in
    let g = good_table t n.count n.is in
    omega (arith, g.few, g.kinds)

-- ---- the environment
pub noted_found : (t i notes name : List ℕ) (n k : ℕ) → find_property t name ≡ found n k → environment_noted t i notes n ≡ property k (value_at k i (place_noted notes n))
unfolding environment_noted
noted_found t i notes name n k e = rw (found_at t name n k e).kind

pub noted_environment : (t i notes : List ℕ) → RightNotes t i notes → (n : ℕ) → environment_noted t i notes n ≡ environment t i n
unfolding environment_noted environment_under
noted_environment t i notes w n = go (ltb n (length (kinds_of t))) refl
  where
    go : (b : Bool) → ltb n (length (kinds_of t)) ≡ b → entry_at (get_elem? (kinds_of t) n) i (place_noted notes n) ≡ entry_at (get_elem? (kinds_of t) n) i (start_of i n)
    go true e = rw (w n (ltb-true n (length (kinds_of t)) e)) refl
    go false e = rw (none_at (kinds_of t) n (ltb-false n (length (kinds_of t)) e)) refl
