-- The widening theorem's hypothesis can be met: every number of an integer's type is stored in every type that holds them all.
use Prim.Native.Nat.{ℕ, ◌≤◌}
use mathlib.Core.List.{List}
use Rattle.base.proofs.ByteLists.{Bytes}
use Rattle.record.specs.Write.{stored}
use Rattle.record.specs.declared.kind.ValueType.{ValueType}
use Rattle.record.proofs.Types.{Sized}
use Rattle.record.proofs.Written.{length_stored, bytes_stored}
use Rattle.instance.specs.Body.{HasType}
use Rattle.instance.specs.Value.{whole_in}
use Rattle.instance.specs.Integers.{HoldsAll}
use Rattle.instance.proofs.Integers.{reads_whole, stored_reads, range_wider}
use Rattle.invariance.specs.Wider.{Integers, SameNumber}

pub number_stored : (a b : ValueType) (body : List ℕ) → Integers a b → Sized a → Sized b → HoldsAll a.signed a.width b.signed b.width
    → HasType a body → Bytes body
    → SameNumber a b body (stored b.width (whole_in a.signed body)) × Bytes (stored b.width (whole_in a.signed body))
number_stored a b body i sa sb holds h bytes =
    let n = whole_in a.signed body in
    let w : (1 ≤ b.width) × (b.width ≤ 8) = rw i.1 at sb in
    let r = reads_whole a body sa i.0 h bytes in
    let read = stored_reads b.signed b.width n w.0 w.1 (range_wider a.signed a.width b.signed b.width n holds r.range) in
    ((length_stored b.width n, read), bytes_stored b.width n)
