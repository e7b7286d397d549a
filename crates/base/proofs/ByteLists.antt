-- Lists of bytes: their parts, and the bound of the number that they hold.
use Prim.Native.Nat.{ℕ, suc, ◌+◌, ◌^◌, ◌≤◌, ◌<◌}
use mathlib.Core.List.{List, [], ◌∷◌}
use mathlib.Core.Bool.{Bool, true, false}
use mathlib.Core.Path.{◌≡◌, refl}
use native.Mathlib.Omega.{arith}
use native.Mathlib.Nat.{pow-succ', pow-zero, pow-le-pow_right}
use lib.ListN.{length, get_or, take, drop, length-take, get_or-eq_default}
use lib.Seq.{get_or-take, get_or-drop, take_all}
use lib.Dec.{ltb}
use borrow.Author.Tests.{ltb-true, ltb-false}
use Rattle.base.specs.Part.{part}
use Rattle.base.specs.LittleEndian.{unsigned}

-- each is a byte
abbrev pub Bytes : List ℕ → Type 0
Bytes s = (k : ℕ) → get_or s k 0 < 256

pub bytes_part : (s : List ℕ) → Bytes s → (start len : ℕ) → Bytes (part s start len)
bytes_part s h start len k = go (ltb k len) refl
  where
    go : (b : Bool) → ltb k len ≡ b → get_or (take len (drop start s)) k 0 < 256
    go true e = rw (get_or-take len (drop start s) k 0 (ltb-true k len e), get_or-drop start s k 0) (h (start + k))
    go false e =
        let l = ltb-false k len e in
        rw (get_or-eq_default (take len (drop start s)) 0 {n = k} (simp length-take (omega arith))) (omega arith)

pub unsigned_below : (s : List ℕ) → Bytes s → unsigned s < 256 ^ length s
unfolding unsigned
unsigned_below [] h = omega (arith, pow-zero 256)
unsigned_below (b ∷ s) h = omega (arith, pow-succ' 256 (length s), h 0, unsigned_below s (λ k. h (suc k)))

-- the number in the n bytes at an offset, as far as there are any
pub part_below : (s : List ℕ) (start n : ℕ) → Bytes s → unsigned (part s start n) < 256 ^ n
part_below s start n h =
    let u = unsigned_below (part s start n) (bytes_part s h start n) in
    let l : length (part s start n) ≤ n = simp length-take (omega arith) in
    let p : 256 ^ length (part s start n) ≤ 256 ^ n = pow-le-pow_right (omega arith) l in
    omega arith

-- taking more of fewer bytes changes nothing
pub shorter : (n m : ℕ) (s : List ℕ) → n ≤ m → take m (take n s) ≡ take n s
shorter n m s h = take_all m (take n s) (simp length-take (omega arith))
