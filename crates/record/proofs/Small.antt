-- A record's kind and its body's length are below 65,536: they are numbers of two bytes.
use Prim.Native.Nat.{ℕ, ◌+◌, ◌<◌}
use mathlib.Core.List.{List}
use mathlib.Core.Path.{◌≡◌}
use native.Mathlib.Omega.{arith}
use Rattle.base.proofs.ByteLists.{Bytes, part_below}
use Rattle.record.specs.declared.read.RecordAt.TheVariants.{Whole}
use Rattle.record.specs.Record.{number_at, record_at}
use Rattle.record.proofs.Records.{View, ends, breaks, stands, view}

pub number_below : (s : List ℕ) (at : ℕ) → Bytes s → number_at s at < 65536
number_below s at h = part_below s at 2 h

-- a whole record's kind and the length of its body
pub record Small (kind len : ℕ) : Type 0 where
  pub kind_small : kind < 65536
  pub body_small : len < 65536

pub whole_small : (s : List ℕ) (at kind start len next : ℕ) → Bytes s → record_at s at ≡ Whole kind start len next → Small kind len
whole_small s at kind start len next h e = go (view s at)
  where
    go : View s at → Small kind len
    go (ends g f) = absurd (let z : ◌≡◌ {A = ℕ} 0 1 = cc in omega arith)
    go (breaks g j f) = absurd (let z : ◌≡◌ {A = ℕ} 0 1 = cc in omega arith)
    go (stands g f) =
        let a : number_at s (at + 2) ≡ kind = cc in
        let b : number_at s at ≡ len = cc in
        record { kind_small = omega (arith, number_below s (at + 2) h); body_small = omega (arith, number_below s at h) }
