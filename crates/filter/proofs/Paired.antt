-- The grammar pairs LIKE with a pattern and a comparison operator with anything else: what the definitions say of other pairs is said of no query.
use Rattle.std.specs.Prelude.{Err, Ok, Option, Result}
use Prim.Native.Nat.{ℕ, zero, suc, ◌+◌}
use mathlib.Core.Path.{◌≡◌, subst}
use mathlib.Core.Bool.{Bool, true, false, not, ◌&&◌}
use Rattle.base.specs.Pick.{pick}
use Rattle.base.specs.declared.order.Operator.{Operator}
use Rattle.token.specs.declared.Punctuation.TheVariants.{OpenList, CloseList, Comma}
use Rattle.token.specs.declared.TokenKind.TheVariants.{Text, Symbol}
use Rattle.token.specs.declared.Token.{Token}
use Rattle.terminal.specs.Terminal.{same, literal, equality}
use Rattle.syntax.specs.declared.operation.Operation.{Operation}
use Rattle.syntax.specs.declared.operation.Operation.TheVariants.{Compare, Like, NotLike}
use Rattle.syntax.specs.declared.left_side.LeftSide.{LeftSide}
use Rattle.syntax.specs.declared.right_side.RightSide.{RightSide}
use Rattle.syntax.specs.declared.right_side.RightSide.TheVariants.{Literal, Elements, Property, Pattern}
use Rattle.syntax.specs.declared.comparison.Comparison.{Comparison}
use Rattle.syntax.specs.declared.fault.Cause.TheVariants.{Grammar}
use Rattle.syntax.specs.Scan.{Scan, fault}
use Rattle.syntax.specs.Property.{reference}
use Rattle.syntax.specs.Comparison.{single, plain, elements, list_from, array_literal, operand_of, operand, pattern, right_side, comp_of, comp_operation, comp_left, property_comp, operation, left_side}
use Rattle.syntax.specs.declared.fault.Fault.{Fault}
use Rattle.syntax.specs.declared.path.Path.{Path}

abbrev pub Pairs : Operation → RightSide → Type 0
Pairs (Compare op) (Literal t) = Unit
Pairs (Compare op) (Elements start count end) = Unit
Pairs (Compare op) (Property p i) = Unit
Pairs (Compare op) (Pattern t) = ⊥
Pairs Like (Literal t) = ⊥
Pairs Like (Elements start count end) = ⊥
Pairs Like (Property p i) = ⊥
Pairs Like (Pattern t) = Unit
Pairs NotLike (Literal t) = ⊥
Pairs NotLike (Elements start count end) = ⊥
Pairs NotLike (Property p i) = ⊥
Pairs NotLike (Pattern t) = Unit

abbrev Right : Operation → Result (RightSide × Token) Fault → Type 0
Right o (Err f) = Unit
Right o (Ok (r, t)) = Pairs o r

module _ (op : Operator) (s : Scan) where
  list_pairs : (n start count : ℕ) (t : Token) → Right (Compare op) (elements n s start count t)
  unfolding elements
  list_pairs zero start count t = tt
  list_pairs (suc n) start count t = by (literal t) (same (s.next t) (Symbol CloseList)) (same (s.next t) (Symbol Comma)) (list_pairs n start (count + 1) (s.next (s.next t)))
    where
      by : (a b c : Bool) → Right (Compare op) (elements n s start (count + 1) (s.next (s.next t)))
          → Right (Compare op) (elim a [
            | true ↦
                elim b [
                  | true ↦ Ok (Elements start (count + 1) (s.next t).end, s.next (s.next t))
                  | false ↦
                      elim c [
                        | true ↦ elements n s start (count + 1) (s.next (s.next t))
                        | false ↦ Err (fault Grammar (s.next t).start)
                      ]
                ]
            | false ↦ Err (fault Grammar t.start)
          ])
      by false b c h = tt
      by true true c h = tt
      by true false true h = h
      by true false false h = tt

pick_right : (o : Operation) (b : Bool) (x y : Result (RightSide × Token) Fault) → Right o x → Right o y → Right o (pick b x y)
pick_right o true x y h k = h
pick_right o false x y h k = k

reference_pairs : (op : Operator) (r : Result (Path × Option Token × Token) ℕ) → Right (Compare op) (operand_of r)
unfolding operand_of
reference_pairs op (Err x) = tt
reference_pairs op (Ok (p, i, t)) = tt

right_pairs : (s : Scan) (o : Operation) (whole : Bool) (t : Token) → Right o (right_side s o whole t)
unfolding right_side operand pattern array_literal list_from
right_pairs s (Compare op) whole t =
    pick_right (Compare op) (literal t) _ _ tt
    (pick_right (Compare op) (same t (Symbol OpenList) && (whole && equality op)) _ _
    (pick_right (Compare op) (same (s.next t) (Symbol CloseList)) _ _ tt (list_pairs op s 32 t.start 0 (s.next t)))
    (reference_pairs op (reference s (not whole) t)))
right_pairs s Like whole t = pick_right Like (same t Text) _ _ tt tt
right_pairs s NotLike whole t = pick_right NotLike (same t Text) _ _ tt tt

abbrev Paired : Result (Comparison × Token) Fault → Type 0
Paired (Err f) = Unit
Paired (Ok (c, t)) = Pairs c.operation c.right

of_right : (a : LeftSide) (o : Operation) (r : Result (RightSide × Token) Fault) → Right o r → Paired (comp_of a o r)
unfolding comp_of
of_right a o (Err f) h = tt
of_right a o (Ok (r, t)) h = h

of_operation : (s : Scan) (a : LeftSide) (r : Result (Operation × Token) ℕ) → Paired (comp_operation s a r)
unfolding comp_operation
of_operation s a (Err p) = tt
of_operation s a (Ok (o, t)) = of_right a o (right_side s o (plain a.quantifier a.index) t) (right_pairs s o (plain a.quantifier a.index) t)

of_left : (s : Scan) (r : Result (LeftSide × Token) ℕ) → Paired (comp_left s r)
unfolding comp_left
of_left s (Err p) = tt
of_left s (Ok (a, t)) = of_operation s a (operation s (single a.quantifier) t)

-- a comparison that is read has its operation and its right side paired so
pub paired : (s : Scan) (t : Token) (c : Comparison) (u : Token) → property_comp s t ≡ Ok (c, u) → Pairs c.operation c.right
unfolding property_comp
paired s t c u e = subst Paired e (of_left s (left_side s t))
