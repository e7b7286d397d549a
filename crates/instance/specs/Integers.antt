-- 01 "Table" and 02 Q-2, integers of every width in one definition over width and sign: the numbers of a width, and what a body reads.
use Rattle.std.specs.Prelude.{ℕ, ◌*◌, ◌^◌, ◌≤◌, ◌<◌, List, Bool, true, false, ◌≡◌, length, ℤ, pos, negsuc}
use Rattle.base.specs.Pick.{pick}
use Rattle.base.specs.LittleEndian.{unsigned, twos_complement}
use Rattle.record.specs.declared.kind.ValueType.{ValueType}
use Rattle.instance.specs.Value.{whole_in}

-- a whole number of w bytes, with a sign or not
abbrev pub InRange : (signed : Bool) (w : ℕ) → ℤ → Type 0
InRange false w (pos n) = n < 256 ^ w
InRange false w (negsuc n) = ⊥
InRange true w (pos n) = 2 * n < 256 ^ w
InRange true w (negsuc n) = 2 * n < 256 ^ w

-- a width and sign that hold every number of another: the same sign and no fewer bytes, or a sign where there was none and more bytes
abbrev pub HoldsAll : (signed : Bool) (w : ℕ) (other : Bool) (v : ℕ) → Type 0
HoldsAll false w false v = w ≤ v
HoldsAll false w true v = w < v
HoldsAll true w false v = ⊥
HoldsAll true w true v = w ≤ v

-- all of the body is read, by the sign, as a number of the width
pub record ReadsWhole (t : ValueType) (body : List ℕ) : Type 0 where
  pub bytes : length body ≡ t.width
  pub number : whole_in t.signed body ≡ pick t.signed (twos_complement body) (pos (unsigned body))
  pub range : InRange t.signed t.width (whole_in t.signed body)
