-- Integers, one law over width and sign for each: what a body reads, that what is stored reads back, and that a wider kind holds the numbers of a narrower one.
use Prim.Native.Nat.{ℕ, zero, suc, ◌+◌, ◌-◌, ◌/◌, ◌^◌, ◌≤◌}
use mathlib.Core.List.{List}
use mathlib.Core.Bool.{Bool, true, false}
use mathlib.Core.Path.{◌≡◌, refl, sym, ap, ◌∙◌}
use native.Mathlib.Omega.{arith}
use native.Mathlib.Nat.{pow-succ'}
use lib.ListN.{length}
use lib.Seq.{take_all}
use lib.Dec.{leb}
use lib.IntN.{ℤ, pos, negsuc}
use borrow.Author.Tests.{leb-true, leb-false}
use Rattle.base.specs.Pick.{pick}
use Rattle.base.specs.LittleEndian.{unsigned, twos_complement}
use Rattle.base.proofs.LittleEndian.{room, signed_low, signed_high}
use Rattle.base.proofs.ByteLists.{Bytes, unsigned_below}
use Rattle.record.specs.Kind.{kind_of}
use Rattle.record.specs.Write.{little_endian, stored}
use Rattle.record.specs.declared.kind.Family.TheVariants.{Integer}
use Rattle.record.specs.declared.kind.ValueType.{ValueType}
use Rattle.record.specs.declared.kind.Kind.{Kind}
use Rattle.record.specs.declared.kind.Kind.TheVariants.{Unknown, Scalar, Array}
use Rattle.record.proofs.Types.{Said, Sized, sized}
use Rattle.record.proofs.Written.{unsigned_written, length_written, length_stored}
use Rattle.instance.specs.Body.{HasType}
use Rattle.instance.specs.Value.{whole_in}
use Rattle.instance.specs.Integers.{InRange, HoldsAll, ReadsWhole}

positive : (k : ℕ) → 1 ≤ 256 ^ k
positive zero = omega arith
positive (suc k) = omega (arith, pow-succ' 256 k, positive k)

range_signed : (s : List ℕ) → Bytes s → InRange true (length s) (twos_complement s)
range_signed s h = go (leb (unsigned s) ((256 ^ length s - 1) / 2)) refl
  where
    ones : 256 ^ length s - 1 + 1 ≡ 256 ^ length s
    ones = omega (arith, positive (length s))

    go : (b : Bool) → leb (unsigned s) ((256 ^ length s - 1) / 2) ≡ b → InRange true (length s) (twos_complement s)
    go true e =
        let l = leb-true (unsigned s) ((256 ^ length s - 1) / 2) e in
        rw (← signed_low s (256 ^ length s - 1) refl ones l) (omega (arith, positive (length s)))
    go false e =
        let l = leb-false (unsigned s) ((256 ^ length s - 1) / 2) e in
        let u = unsigned_below s h in
        rw (← signed_high s (256 ^ length s - 1) refl ones l u) (omega (arith, positive (length s)))

-- what bytes hold is a number of their width
range : (g : Bool) (s : List ℕ) → Bytes s → InRange g (length s) (pick g (twos_complement s) (pos (unsigned s)))
range false s h = unsigned_below s h
range true s h = range_signed s h

-- up to 8 bytes all are read
all_read : (g : Bool) (s : List ℕ) → length s ≤ 8 → whole_in g s ≡ pick g (twos_complement s) (pos (unsigned s))
all_read false s h = ap (λ (x : List ℕ). pos (unsigned x)) (take_all 8 s h)
all_read true s h = ap twos_complement (take_all 8 s h)

pub reads_whole : (t : ValueType) (s : List ℕ) → Sized t → t.family ≡ Integer → HasType t s → Bytes s → ReadsWhole t s
reads_whole t s z e h b =
    let l : length s ≡ t.width = rw e at h in
    let w : (1 ≤ t.width) × (t.width ≤ 8) = rw e at z in
    let n = all_read t.signed s (omega (arith, w.1)) in
    record { bytes = l; number = n; range = rw (n, ← l) (range t.signed s b) }

-- every integer so, of a scalar's kind or of an array's: no width has a law of its own
abbrev pub IntegerReads : ValueType → Type 0
IntegerReads t = t.family ≡ Integer → (s : List ℕ) → HasType t s → Bytes s → ReadsWhole t s

pub integers_read : (k : ℕ) → Said IntegerReads (kind_of k)
integers_read k = go (kind_of k) (sized k)
  where
    go : (x : Kind) → Said Sized x → Said IntegerReads x
    go Unknown z = tt
    go (Scalar t) z = λ e s. reads_whole t s z e
    go (Array f t) z = λ e s. reads_whole t s z e

back : (g : Bool) (w : ℕ) (z : ℤ) → 1 ≤ w → InRange g w z → pick g (twos_complement (stored w z)) (pos (unsigned (stored w z))) ≡ z
unfolding stored
back false w (pos n) one h = ap pos (unsigned_written w n h)
back false w (negsuc n) one h = absurd h
back true w (pos n) one h =
    let u = unsigned_written w n (omega (arith, h)) in
    let p = positive w in
    sym (signed_low (little_endian w n) (256 ^ w - 1) (sym u) (rw (length_written w n) (omega arith)) (omega (arith, h)))
back true zero (negsuc n) one h = absurd (omega arith)
back true (suc k) (negsuc n) one h =
    let w = suc k in
    let l = length_written w (256 ^ w - 1 - n) in
    let even = pow-succ' 256 k in
    let p = positive k in
    let u = unsigned_written w (256 ^ w - 1 - n) (omega (arith, h)) in
    sym (signed_high (little_endian w (256 ^ w - 1 - n)) (256 ^ w - 1) (sym u) (rw l (omega arith)) (omega (arith, h)) (rw l (omega arith)))
    ∙ ap negsuc (omega (arith, h))

-- what is stored in a width reads back at that width
pub stored_reads : (g : Bool) (w : ℕ) (z : ℤ) → 1 ≤ w → w ≤ 8 → InRange g w z → whole_in g (stored w z) ≡ z
stored_reads g w z one few h = all_read g (stored w z) (omega (arith, length_stored w z)) ∙ back g w z one h

pub range_wider : (g : Bool) (w : ℕ) (h : Bool) (v : ℕ) (z : ℤ) → HoldsAll g w h v → InRange g w z → InRange h v z
range_wider false w false v (pos n) l r = omega (arith, r, room w v l)
range_wider false w false v (negsuc n) l r = absurd r
range_wider false w true v (pos n) l r = omega (arith, r, room (suc w) v l, pow-succ' 256 w)
range_wider false w true v (negsuc n) l r = absurd r
range_wider true w false v z l r = absurd l
range_wider true w true v (pos n) l r = omega (arith, r, room w v l)
range_wider true w true v (negsuc n) l r = omega (arith, r, room w v l)
