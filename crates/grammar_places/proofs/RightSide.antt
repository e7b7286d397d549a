-- The right side of an operator that is refused: its tokens, as far as they reach, begin a property, an element or an array literal.
use Rattle.std.specs.Prelude.{Err, Ok, Option, Result}
use Prim.Native.Nat.{ℕ, zero, suc, ◌+◌}
use mathlib.Core.Path.{◌≡◌, refl}
use mathlib.Core.List.{List}
use mathlib.Core.Logic.{◌⊎◌, inl, inr}
use mathlib.Core.Bool.{Bool, true, false, not, ◌&&◌}
use Rattle.base.specs.Pick.{pick}
use Rattle.base.proofs.Says.{and_both}
use Rattle.base.specs.declared.order.Operator.{Operator}
use Rattle.token.specs.declared.Punctuation.TheVariants.{OpenList, CloseList, Comma}
use Rattle.token.specs.declared.TokenKind.TheVariants.{Symbol}
use Rattle.token.specs.declared.Token.{Token}
use Rattle.terminal.specs.Terminal.{same, literal, equality}
use Rattle.syntax.specs.declared.right_side.RightSide.TheVariants.{Literal, Elements}
use Rattle.syntax.specs.declared.fault.Cause.{Cause}
use Rattle.syntax.specs.declared.fault.Cause.TheVariants.{Length, Encoding, Grammar, Limit}
use Rattle.syntax.specs.declared.fault.Fault.{Fault}
use Rattle.syntax.specs.Property as GP
use Rattle.syntax.specs.Comparison as GC
use Rattle.syntax.specs.Scan.{Scan, fault, limited}
use Rattle.grammar.specs.Abnf.{Rule, one, join, just, stop, more, then, many, is, scalar_literal, array_literal_rule}
use Rattle.grammar_places.proofs.Numbers.{numbered, by_number}
use Rattle.grammar_places.proofs.Begun as B
use Rattle.grammar_places.proofs.Begun.{Completable, complete_stop, complete_then, thens, Read, read, Begun, here, in_second, Joins}
use Rattle.grammar_places.proofs.Rules.{s_mark, s_literal, c_is, c_literal, r_mark, r_literal}
use Rattle.grammar_places.proofs.LeftSide.{Reference, ReferenceBegun, reference_begun}
use Rattle.syntax.specs.declared.right_side.RightSide.{RightSide}
use Rattle.syntax.specs.declared.path.Path.{Path}

-- how far a refused query's tokens begin what they are read for: up to the fault's, and with it where it is over a limit
abbrev pub reach : Fault → ℕ
reach f = by f.cause
  where
    by : Cause → ℕ
    by Length = f.place
    by Encoding = f.place
    by Grammar = f.place
    by Limit = suc f.place

module _ (q : List ℕ) where
  abbrev S : Scan
  S = by_number q

  abbrev F : ℕ → Token
  F = numbered q

  -- ---- array literals, behind their "{"
  abbrev list_rule : Scan → Rule
  list_rule s = then (then scalar_literal (many (then (is (Symbol Comma)) scalar_literal))) (is (Symbol CloseList))

  abbrev ListBegun : ℕ → Result (RightSide × Token) Fault → Type 0
  ListBegun i (Ok (r, u)) = Unit
  ListBegun i (Err f) = Begun q list_rule i (reach f)

  c_list : Completable list_rule
  c_list = complete_then (complete_then c_literal complete_stop) (c_is B.close_list)

  one_more_law : Joins (λ s. then scalar_literal (is (Symbol Comma))) list_rule list_rule
  one_more_law s t m e (join l c) (join (join x y) z) = join (join l (more (join c x) y)) z

  list_before_law : (i : ℕ) (r : Result (RightSide × Token) Fault) → literal (F i) ≡ true → same (F (suc i)) (Symbol Comma) ≡ true → ListBegun (suc (suc i)) r → ListBegun i r
  list_before_law i (Ok (r, u)) l c b = tt
  list_before_law i (Err f) l c b =
      let r : Read q (λ s. then scalar_literal (is (Symbol Comma))) i (suc (suc i)) = read q (λ T. thens (s_literal q T) (s_mark q T Comma)) i (suc (suc i)) (join (one l) (one c)) in
      in_second q r b one_more_law

  after_literal : (i : ℕ) → literal (F i) ≡ true → Begun q list_rule i (suc i)
  after_literal i l = in_second q (r_literal q i l) (here q (c_is B.close_list) (suc i)) (λ s t m e x y. join (join x stop) y)

  list_comma : (n start count i : ℕ) (d : Bool) → literal (F i) ≡ true → same (F (suc i)) (Symbol Comma) ≡ d → ListBegun (suc (suc i)) (GC.elements n S start (count + 1) (F (suc (suc i))))
      → ListBegun i (elim d [ true ↦ GC.elements n S start (count + 1) (F (suc (suc i))) | false ↦ Err (fault Grammar (suc i)) ])
  list_comma n start count i true l e b = list_before_law i (GC.elements n S start (count + 1) (F (suc (suc i)))) l e b
  list_comma n start count i false l e b = after_literal i l

  list_close : (n start count i : ℕ) (d : Bool) → literal (F i) ≡ true → ListBegun (suc (suc i)) (GC.elements n S start (count + 1) (F (suc (suc i))))
      → ListBegun i (elim d [
        | true ↦ Ok (Elements start (count + 1) (suc i), F (suc (suc i)))
        | false ↦ elim (same (F (suc i)) (Symbol Comma)) [ true ↦ GC.elements n S start (count + 1) (F (suc (suc i))) | false ↦ Err (fault Grammar (suc i)) ]
      ])
  list_close n start count i true l b = tt
  list_close n start count i false l b = list_comma n start count i (same (F (suc i)) (Symbol Comma)) l refl b

  list_by : (n start count i : ℕ) (d : Bool) → literal (F i) ≡ d → ListBegun (suc (suc i)) (GC.elements n S start (count + 1) (F (suc (suc i))))
      → ListBegun i (elim d [
        | true ↦ elim (same (F (suc i)) (Symbol CloseList)) [
          | true ↦ Ok (Elements start (count + 1) (suc i), F (suc (suc i)))
          | false ↦ elim (same (F (suc i)) (Symbol Comma)) [ true ↦ GC.elements n S start (count + 1) (F (suc (suc i))) | false ↦ Err (fault Grammar (suc i)) ]
        ]
        | false ↦ Err (fault Grammar i)
      ])
  list_by n start count i true l b = list_close n start count i (same (F (suc i)) (Symbol CloseList)) l b
  list_by n start count i false l b = here q c_list i

  list_full : (i : ℕ) (d : Bool) → literal (F i) ≡ d → ListBegun i (Err (limited d i))
  list_full i true l = after_literal i l
  list_full i false l = here q c_list i

  list_begun : (n start count i : ℕ) → ListBegun i (GC.elements n S start count (F i))
  unfolding GC.elements
  list_begun zero start count i = list_full i (literal (F i)) refl
  list_begun (suc n) start count i = list_by n start count i (literal (F i)) refl (list_begun n start (count + 1) (suc (suc i)))

  -- ---- the right side of an operator
  abbrev pub Operand : Bool → Operator → ℕ → ℕ → Type 0
  Operand whole o i x = Reference q (not whole) i x ⊎ ((whole ≡ true) × (equality o ≡ true) × Begun q (λ s. array_literal_rule) i x)

  abbrev pub OperandBegun : Bool → Operator → ℕ → Result (RightSide × Token) Fault → Type 0
  OperandBegun whole o i (Ok (r, u)) = Unit
  OperandBegun whole o i (Err f) = Operand whole o i (reach f)

  in_list : Joins (λ s. is (Symbol OpenList)) list_rule (λ s. array_literal_rule)
  in_list s t m e g (join l c) = join g (join (just l) c)

  array_of : (whole : Bool) (o : Operator) (i : ℕ) (r : Result (RightSide × Token) Fault) → same (F i) (Symbol OpenList) ≡ true → whole ≡ true → equality o ≡ true → ListBegun (suc i) r → OperandBegun whole o i r
  array_of whole o i (Ok (r, u)) a w e b = tt
  array_of whole o i (Err f) a w e b = inr (w, e, in_second q (r_mark q OpenList i a) b in_list)

  array_by : (whole : Bool) (o : Operator) (i : ℕ) (d : Bool) → same (F i) (Symbol OpenList) ≡ true → whole ≡ true → equality o ≡ true
      → OperandBegun whole o i (pick d (Ok (Elements i 0 (suc i), F (suc (suc i)))) (GC.elements 32 S i 0 (F (suc i))))
  array_by whole o i true a w e = tt
  array_by whole o i false a w e = array_of whole o i (GC.elements 32 S i 0 (F (suc i))) a w e (list_begun 32 i 0 (suc i))

  operand_of_law : (whole : Bool) (o : Operator) (i : ℕ) (r : Result (Path × Option Token × Token) ℕ) → ReferenceBegun q (not whole) i r → OperandBegun whole o i (GC.operand_of r)
  unfolding GC.operand_of
  operand_of_law whole o i (Ok (p, k, u)) b = tt
  operand_of_law whole o i (Err x) b = inl b

  operand_by : (whole : Bool) (o : Operator) (i : ℕ) (a b : Bool) → same (F i) (Symbol OpenList) && (whole && equality o) ≡ b
      → OperandBegun whole o i (pick a (Ok (Literal (F i), F (suc i))) (pick b (GC.array_literal S (F i)) (GC.operand_of (GP.reference S (not whole) (F i)))))
  unfolding GC.array_literal GC.list_from
  operand_by whole o i true b f = tt
  operand_by whole o i false true f =
      let x = and_both (same (F i) (Symbol OpenList)) (whole && equality o) f in
      let y = and_both whole (equality o) x.1 in
      array_by whole o i (same (F (suc i)) (Symbol CloseList)) x.0 y.0 y.1
  operand_by whole o i false false f = operand_of_law whole o i (GP.reference S (not whole) (F i)) (reference_begun q (not whole) i)

  pub operand_begun : (whole : Bool) (o : Operator) (i : ℕ) → OperandBegun whole o i (GC.operand S whole o (F i))
  unfolding GC.operand
  operand_begun whole o i = operand_by whole o i (literal (F i)) (same (F i) (Symbol OpenList) && (whole && equality o)) refl
