-- A text is shown only where it has the place; the laws of the code's exits.
use Rattle.std.specs.Prelude.{None, Option, Some}
use Prim.Native.Nat.{ℕ, ◌-◌, ◌≤◌}
use mathlib.Core.List.{List, []}
use mathlib.Core.Bool.{Bool, true, false}
use mathlib.Core.Path.{◌≡◌, refl, sym, ◌∙◌}
use native.Mathlib.Omega.{arith}
use lib.ListN.{length, take, drop, length-drop}
use lib.Seq.{take_all}
use lib.Dec.{leb}
use borrow.Author.Tests.{leb-true}
use Rattle.base.specs.Pick.{pick}
use Rattle.fault_text.specs.declared.Shown.{Shown}
use Rattle.fault_text.specs.declared.Shown.TheVariants.{Query, Table}
use Rattle.fault_text.specs.FaultText.{shows_table, shows_query, unless_past, shown_of, fault_text}

-- a text is shown only at a place inside it, or at its end
abbrev pub Inside : (ql tl p : ℕ) → Option Shown → Type 0
Inside ql tl p None = 0 ≤ 0
Inside ql tl p (Some Query) = p ≤ ql
Inside ql tl p (Some Table) = p ≤ tl

module _ (ql tl n p : ℕ) where
  inside_table : (b : Bool) → leb p tl ≡ b → Inside ql tl p (pick b (Some Table) None)
  inside_table true e = leb-true p tl e
  inside_table false e = omega arith

  inside_query : (b : Bool) → leb p ql ≡ b → Inside ql tl p (pick b (Some Query) None)
  inside_query true e = leb-true p ql e
  inside_query false e = omega arith

  inside_by : (b c : Bool) → Inside ql tl p (pick b (unless_past p tl (Some Table)) (pick c (unless_past p ql (Some Query)) None))
  inside_by true c = inside_table (leb p tl) refl
  inside_by false true = inside_query (leb p ql) refl
  inside_by false false = omega arith

  pub shown_inside : Inside ql tl p (shown_of ql tl n p)
  unfolding shown_of
  shown_inside = inside_by (shows_table n) (shows_query n)

module _ (q t : List ℕ) (n p : ℕ) {x : Option Shown} (e : x ≡ shown_of (length q) (length t) n p) where
  pub query_inside : x ≡ Some Query → p ≤ length q
  query_inside f = rw (sym e ∙ f) at (shown_inside (length q) (length t) n p)

  pub table_inside : x ≡ Some Table → p ≤ length t
  table_inside f = rw (sym e ∙ f) at (shown_inside (length q) (length t) n p)

  pub nothing_shown : x ≡ None → ◌≡◌ {A = List ℕ} [] (fault_text q t n p)
  unfolding fault_text
  nothing_shown f = rw (← e, f) refl

  pub query_shown : x ≡ Some Query → take (length q - p) (drop p q) ≡ fault_text q t n p
  unfolding fault_text
  query_shown f = rw (← e, f) (take_all (length q - p) (drop p q) (simp length-drop (omega arith)))

  pub table_shown : x ≡ Some Table → take (length t - p) (drop p t) ≡ fault_text q t n p
  unfolding fault_text
  table_shown f = rw (← e, f) (take_all (length t - p) (drop p t) (simp length-drop (omega arith)))
