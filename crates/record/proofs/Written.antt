-- What is written reads back: numbers at every width, and records alone and in front of other bytes.
use Prim.Native.Nat.{ℕ, zero, suc, ◌+◌, ◌-◌, ◌/◌, ◌^◌, ◌<◌}
use mathlib.Core.List.{List, ◌++◌}
use mathlib.Core.Path.{◌≡◌, refl, ap, ◌∙◌}
use native.Mathlib.Omega.{arith}
use native.Mathlib.Nat.{mod-add-div, mod-lt, pow-succ'}
use lib.ListN.{length, length-append}
use lib.Seq.{take-append_seam}
use lib.IntN.{ℤ, pos, negsuc}
use Rattle.base.specs.Part.{part}
use Rattle.base.specs.LittleEndian.{unsigned}
use Rattle.base.proofs.ByteLists.{Bytes}
use Rattle.record.specs.declared.read.RecordAt.TheVariants.{Whole}
use Rattle.record.specs.Record.{record_at}
use Rattle.record.specs.Write.{little_endian, stored, write}
use Rattle.record.proofs.Records.{at_whole}
use Rattle.record.proofs.Shift.{whole_same}

-- one law for every width
pub unsigned_written : (width n : ℕ) → n < 256 ^ width → unsigned (little_endian width n) ≡ n
unfolding unsigned little_endian
unsigned_written zero n h = omega arith
unsigned_written (suc width) n h =
    let e = mod-add-div n 256 in
    let p = pow-succ' 256 width in
    omega (arith, unsigned_written width (n / 256) (omega arith))

pub length_written : (width n : ℕ) → length (little_endian width n) ≡ width
unfolding little_endian
length_written zero n = refl
length_written (suc width) n = ap suc (length_written width (n / 256))

pub bytes_written : (width n : ℕ) → Bytes (little_endian width n)
unfolding little_endian
bytes_written zero n k = omega arith
bytes_written (suc width) n zero = mod-lt n (omega arith)
bytes_written (suc width) n (suc k) = bytes_written width (n / 256) k

pub length_stored : (width : ℕ) (z : ℤ) → length (stored width z) ≡ width
unfolding stored
length_stored width (pos n) = length_written width n
length_stored width (negsuc n) = length_written width (256 ^ width - 1 - n)

pub bytes_stored : (width : ℕ) (z : ℤ) → Bytes (stored width z)
unfolding stored
bytes_stored width (pos n) = bytes_written width n
bytes_stored width (negsuc n) = bytes_written width (256 ^ width - 1 - n)

pub length_write : (kind : ℕ) (b : List ℕ) → length (write kind b) ≡ 4 + length b
unfolding write little_endian
length_write kind b = omega arith

module _ (kind : ℕ) (b s : List ℕ) (k : kind < 65536) (l : length b < 65536) where
  pub read_first : record_at (write kind b ++ s) 0 ≡ Whole kind 4 (length b) (length (write kind b))
  unfolding write little_endian unsigned
  read_first =
      let e = unsigned_written 2 (length b) l in
      let f = unsigned_written 2 kind k in
      at_whole (write kind b ++ s) 0 (omega (arith, length-append b s)) ∙ whole_same f refl e (omega (arith, length_write kind b))

  pub read_body : part (write kind b ++ s) 4 (length b) ≡ b
  unfolding write little_endian
  read_body = take-append_seam b s
