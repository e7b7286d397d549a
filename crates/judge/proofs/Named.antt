-- A path that names a property stands for it in the environment, by 01's layout and by the notes.
use Rattle.std.specs.Prelude.{None, Some, Option}
use Prim.Native.Nat.{ℕ}
use mathlib.Core.Path.{◌≡◌, refl, ap, ◌∙◌, fun_ext}
use mathlib.Core.List.{List}
use mathlib.Core.Bool.{Bool, true, false, ◌&&◌}
use native.Mathlib.Omega.{arith}
use lib.Dec.{eqb}
use Rattle.base.specs.Pick.{pick}
use Rattle.record.specs.Name.{same_name}
use Rattle.table.specs.Properties.{class_name, find_property, found}
use Rattle.table.specs.declared.lookup.Property.{Property}
use Rattle.syntax.specs.declared.path.Path as path
use Rattle.instance.specs.Start.{start_of}
use Rattle.instance.specs.Value.{Entry, absent, property, environment, value_at}
use Rattle.instance.specs.Noted.{place_noted, RightNotes, environment_noted}
use Rattle.instance.proofs.Environment.{entry_found_law}
use Rattle.instance.proofs.NotedPlaces.{noted_found, noted_environment}
use Rattle.operand.specs.Named.{spanned, named}
use Rattle.judge.specs.Environment.{entry_found, entry_named, entry_noted}

absent_apart : (n k : ℕ) → None ≡ found n k → ⊥
absent_apart n k e = let z : ◌≡◌ {A = ℕ} 0 1 = cc in omega arith

-- it is found under one of the path's names
pub record FoundNamed (t : List ℕ) (n k : ℕ) : Type 0 where
  pub name : List ℕ
  pub is : find_property t name ≡ found n k

by_names : (t : List ℕ) (a b : Bool) (m o : List ℕ) (n k : ℕ) → pick a (find_property t m) (pick b (find_property t o) None) ≡ found n k → FoundNamed t n k
by_names t true b m o n k e = record { name = m; is = e }
by_names t false true m o n k e = record { name = o; is = e }
by_names t false false m o n k e = absurd (absent_apart n k e)

pub named_found : (q t : List ℕ) (p : path.Path) (n k : ℕ) → named q t p ≡ found n k → FoundNamed t n k
unfolding named
named_found q t p n k e =
    by_names t (eqb p.names 1) (eqb p.names 2 && same_name (class_name t) (spanned q p.first)) (spanned q p.first) (spanned q p.second) n k e

-- ---- the environments that read from an instance: each named property at the place that its number gives
pub record Placed (q t i : List ℕ) (env : path.Path → Entry) : Type 0 where
  pub place : ℕ → ℕ
  pub unnamed : (p : path.Path) → named q t p ≡ None → env p ≡ absent
  pub entry : (p : path.Path) (n k : ℕ) → named q t p ≡ found n k → env p ≡ property k (value_at k i (place n))

-- where 01's layout has it
pub named_placed : (q t i : List ℕ) → Placed q t i (entry_named q t i)
unfolding entry_named
named_placed q t i =
    record {
      place = start_of i;
      unnamed = λ p e. ap (entry_found (environment t i)) e;
      entry = λ p n k e. let f = named_found q t p n k e in ap (entry_found (environment t i)) e ∙ entry_found_law t i f.name n k f.is;
    }

-- where the notes have it, whatever is noted
pub noted_placed : (q t i notes : List ℕ) → Placed q t i (entry_noted q t i notes)
unfolding entry_noted
noted_placed q t i notes =
    record {
      place = place_noted notes;
      unnamed = λ p e. ap (entry_found (environment_noted t i notes)) e;
      entry = λ p n k e. let f = named_found q t p n k e in ap (entry_found (environment_noted t i notes)) e ∙ noted_found t i notes f.name n k f.is;
    }

pub entry_there : (q t i notes : List ℕ) (p : path.Path) (n k : ℕ) → named q t p ≡ found n k → entry_noted q t i notes p ≡ property k (value_at k i (place_noted notes n))
unfolding noted_placed
entry_there q t i notes p n k e = (noted_placed q t i notes).entry p n k e

-- THE LAW: right notes give the instance's environment
pub right_notes : (q t i notes : List ℕ) → RightNotes t i notes → entry_noted q t i notes ≡ entry_named q t i
unfolding entry_noted entry_named
right_notes q t i notes w = fun_ext (λ p. go (named q t p))
  where
    go : (x : Option Property) → entry_found (environment_noted t i notes) x ≡ entry_found (environment t i) x
    go None = refl
    go (Some p) = noted_environment t i notes w p.number
