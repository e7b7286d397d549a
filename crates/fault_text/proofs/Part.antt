-- The part of specs/Part is the text at a fault, and stands inside its source.
use Rattle.std.specs.Prelude.{None, Option, Some}
use Prim.Native.Nat.{ℕ, ◌+◌, ◌-◌, ◌≤◌}
use mathlib.Core.List.{List}
use mathlib.Core.Path.{◌≡◌, refl}
use native.Mathlib.Omega.{arith}
use lib.ListN.{length, take, drop, length-drop}
use lib.Seq.{take_all}
use Rattle.fault_text.specs.declared.Shown.{Shown}
use Rattle.fault_text.specs.declared.Shown.TheVariants.{Query, Table}
use Rattle.fault_text.specs.FaultText.{shown_of, text_of, fault_text}
use Rattle.fault_text.specs.Part.{part_of, source_text, bytes_of}
use Rattle.fault_text.proofs.Laws.{Inside, shown_inside}

module _ (q t : List ℕ) (p : ℕ) where
  rest : (s : List ℕ) → take (length s - p) (drop p s) ≡ drop p s
  rest s = take_all (length s - p) (drop p s) (simp length-drop (omega arith))

  part_text : (x : Option Shown) → bytes_of (part_of x (length q) (length t) p) q t ≡ text_of x q t p
  part_text None = refl
  part_text (Some Query) = rest q
  part_text (Some Table) = rest t

  part_within : (x : Option Shown) → Inside (length q) (length t) p x → let y = part_of x (length q) (length t) p in y.start + y.length ≤ length (source_text y.source q t)
  part_within None h = omega arith
  part_within (Some Query) h = omega arith
  part_within (Some Table) h = omega arith

module _ (q t : List ℕ) (n p : ℕ) where
  pub part_shown : bytes_of (part_of (shown_of (length q) (length t) n p) (length q) (length t) p) q t ≡ fault_text q t n p
  unfolding fault_text
  part_shown = part_text q t p (shown_of (length q) (length t) n p)

  pub part_inside : let y = part_of (shown_of (length q) (length t) n p) (length q) (length t) p in y.start + y.length ≤ length (source_text y.source q t)
  part_inside = part_within q t p (shown_of (length q) (length t) n p) (shown_inside (length q) (length t) n p)
