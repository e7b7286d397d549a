-- property-comp, of DSP0212's first grammar group (000 5.3.2; 01 "Query text"): its left side, its operator, its right side, each by what stands before it.
-- Each reader takes the token that it starts with and hands back what it read and the token after that, or the fault.
use Rattle.std.specs.Prelude.{ℕ, zero, suc, ◌+◌, Bool, true, false, not, ◌&&◌, Err, None, Ok, Option, Result, Some}
use Rattle.base.specs.Pick.{pick}
use Rattle.token.specs.declared.Reserved.TheVariants as Reserved
use Rattle.base.specs.declared.order.Operator.{Operator}
use Rattle.token.specs.declared.Punctuation.TheVariants.{OpenList, CloseList, Comma}
use Rattle.token.specs.declared.TokenKind.TheVariants.{Word, Text, Symbol}
use Rattle.token.specs.declared.Token.{Token}
use Rattle.terminal.specs.declared.quantifier.Quantifier.{Quantifier}
use Rattle.terminal.specs.Terminal.{same, literal, comparing, quantifying, equality}
use Rattle.syntax.specs.declared.operation.Operation.{Operation}
use Rattle.syntax.specs.declared.operation.Operation.TheVariants.{Compare, Like, NotLike}
use Rattle.syntax.specs.declared.left_side.LeftSide.{LeftSide}
use Rattle.syntax.specs.declared.right_side.RightSide.TheVariants.{Literal, Elements, Property, Pattern}
use Rattle.syntax.specs.declared.fault.Cause.TheVariants.{Grammar}
use Rattle.syntax.specs.Scan.{Scan, fault, limited, skip}
use Rattle.syntax.specs.Property.{reference}
use Rattle.syntax.specs.declared.path.Path.{Path}
use Rattle.syntax.specs.declared.right_side.RightSide.{RightSide}
use Rattle.syntax.specs.declared.fault.Fault.{Fault}
use Rattle.syntax.specs.declared.comparison.Comparison.{Comparison}

abbrev pub single : Quantifier → Bool
single Quantifier.Single = true
single Quantifier.Any = false
single Quantifier.Every = false

-- neither array-op nor index
abbrev pub plain : Quantifier → Option Token → Bool
plain k None = single k
plain k (Some i) = false

-- property / array-property "[" index "]" / array-op array-property, with array-op = [NOT] (ANY / EVERY)
unfoldable pub left_of : ℕ → Bool → Quantifier → Result (Path × Option Token × Token) ℕ → Result (LeftSide × Token) ℕ
left_of start n k (Err x) = Err x
left_of start n k (Ok (p, i, t)) = Ok (record { start = start; negated = n; quantifier = k; path = p; index = i }, t)

unfoldable pub left_by : Scan → ℕ → Bool → Quantifier → Token → Result (LeftSide × Token) ℕ
left_by s start n k t =
    pick (n && single k) (Err t.start) (left_of start n k (reference s (single k) (skip s (not (single k)) t)))

unfoldable pub left_at : Scan → ℕ → Bool → Token → Result (LeftSide × Token) ℕ
left_at s start n t = left_by s start n (quantifying t) t

unfoldable pub left_side : Scan → Token → Result (LeftSide × Token) ℕ
left_side s t = left_at s t.start (same t (Word Reserved.Not)) (skip s (same t (Word Reserved.Not)) t)

-- like-op = [NOT] LIKE, where one may stand
unfoldable pub not_like : Scan → Token → Result (Operation × Token) ℕ
not_like s t = pick (same t (Word Reserved.Like)) (Ok (NotLike, s.next t)) (Err t.start)

unfoldable pub like : Scan → Bool → Token → Result (Operation × Token) ℕ
like s allowed t =
    pick (allowed && same t (Word Reserved.Like)) (Ok (Like, s.next t))
    (pick (allowed && same t (Word Reserved.Not)) (not_like s (s.next t)) (Err t.start))

-- scalar-comp-op, array-comp-op / like-op
unfoldable pub operation_by : Scan → Bool → Token → Option Operator → Result (Operation × Token) ℕ
operation_by s alone t (Some o) = Ok (Compare o, s.next t)
operation_by s alone t None = like s alone t

unfoldable pub operation : Scan → Bool → Token → Result (Operation × Token) ℕ
operation s alone t = operation_by s alone t (comparing t)

-- array-literal = "{" [scalar-literal *( "," scalar-literal ) ] "}"
unfoldable pub elements : ℕ → Scan → ℕ → ℕ → Token → Result (RightSide × Token) Fault
elements zero s start count t = Err (limited (literal t) t.start)
elements (suc n) s start count t =
    elim (literal t) [
      | true ↦
          elim (same (s.next t) (Symbol CloseList)) [
            | true ↦ Ok (Elements start (count + 1) (s.next t).end, s.next (s.next t))
            | false ↦
                elim (same (s.next t) (Symbol Comma)) [
                  | true ↦ elements n s start (count + 1) (s.next (s.next t))
                  | false ↦ Err (fault Grammar (s.next t).start)
                ]
          ]
      | false ↦ Err (fault Grammar t.start)
    ]

unfoldable pub list_from : Scan → ℕ → Token → Result (RightSide × Token) Fault
list_from s start t = pick (same t (Symbol CloseList)) (Ok (Elements start 0 t.end, s.next t)) (elements 32 s start 0 t)

unfoldable pub array_literal : Scan → Token → Result (RightSide × Token) Fault
array_literal s t = list_from s t.start (s.next t)

-- scalar-literal / array-literal / property / array-property "[" index "]"
-- An array literal: after a plain property and array-comp-op alone. An indexed one: never after a plain property.
unfoldable pub operand_of : Result (Path × Option Token × Token) ℕ → Result (RightSide × Token) Fault
operand_of (Err x) = Err (fault Grammar x)
operand_of (Ok (p, i, t)) = Ok (Property p i, t)

unfoldable pub operand : Scan → Bool → Operator → Token → Result (RightSide × Token) Fault
operand s whole o t =
    pick (literal t) (Ok (Literal t, s.next t))
    (pick (same t (Symbol OpenList) && (whole && equality o)) (array_literal s t)
    (operand_of (reference s (not whole) t)))

-- like-pattern = like-literal
unfoldable pub pattern : Scan → Token → Result (RightSide × Token) Fault
pattern s t = pick (same t Text) (Ok (Pattern t, s.next t)) (Err (fault Grammar t.start))

unfoldable pub right_side : Scan → Operation → Bool → Token → Result (RightSide × Token) Fault
right_side s (Compare o) whole t = operand s whole o t
right_side s Like whole t = pattern s t
right_side s NotLike whole t = pattern s t

-- property-comp: its twelve lines are the three parts, each by what stands before it
unfoldable pub comp_of : LeftSide → Operation → Result (RightSide × Token) Fault → Result (Comparison × Token) Fault
comp_of a v (Err f) = Err f
comp_of a v (Ok (r, t)) = Ok (record { left = a; operation = v; right = r }, t)

unfoldable pub comp_operation : Scan → LeftSide → Result (Operation × Token) ℕ → Result (Comparison × Token) Fault
comp_operation s a (Err p) = Err (fault Grammar p)
comp_operation s a (Ok (v, t)) = comp_of a v (right_side s v (plain a.quantifier a.index) t)

unfoldable pub comp_left : Scan → Result (LeftSide × Token) ℕ → Result (Comparison × Token) Fault
comp_left s (Err p) = Err (fault Grammar p)
comp_left s (Ok (a, t)) = comp_operation s a (operation s (single a.quantifier) t)

unfoldable pub property_comp : Scan → Token → Result (Comparison × Token) Fault
property_comp s t = comp_left s (left_side s t)
