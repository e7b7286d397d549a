-- A comparison that is refused: its tokens, as far as they reach, begin what fits property-comp.
use Rattle.std.specs.Prelude.{Err, None, Ok, Option, Result, Some}
use Prim.Native.Nat.{ℕ, suc}
use mathlib.Core.Path.{◌≡◌, refl, sym, ap, ◌∙◌}
use mathlib.Core.List.{List}
use mathlib.Core.Logic.{◌⊎◌, inl, inr}
use mathlib.Core.Bool.{Bool, true, false, not, ◌&&◌, false≢true}
use Rattle.base.specs.Pick.{pick}
use Rattle.base.proofs.Says.{and_both}
use Rattle.base.specs.declared.order.Operator.{Operator}
use Rattle.token.specs.declared.Reserved.TheVariants as Reserved
use Rattle.token.specs.declared.TokenKind.TheVariants.{Word, Text}
use Rattle.token.specs.declared.Token.{Token}
use Rattle.terminal.specs.declared.quantifier.Quantifier.{Quantifier}
use Rattle.terminal.specs.declared.quantifier.Quantifier.TheVariants.{Single, Any, Every}
use Rattle.terminal.specs.Terminal.{same, comparing, equality}
use Rattle.syntax.specs.declared.operation.Operation.{Operation}
use Rattle.syntax.specs.declared.operation.Operation.TheVariants.{Compare, Like, NotLike}
use Rattle.syntax.specs.declared.left_side.LeftSide.{LeftSide}
use Rattle.syntax.specs.declared.right_side.RightSide.TheVariants.{Pattern}
use Rattle.syntax.specs.declared.fault.Cause.TheVariants.{Grammar}
use Rattle.syntax.specs.Comparison as GC
use Rattle.syntax.specs.Scan.{Scan, fault}
use Rattle.syntax.specs.Comparison.{single, plain}
use Rattle.grammar.specs.Abnf.{Fits, one, join, left, right, just, then, operates, equates, scalar_comp_op, array_comp_op, property, element, like_op, array_literal_rule, like_pattern, property_comp_rule}
use Rattle.grammar.proofs.SoundComp.{LeftOk, left_ok, OperationOk, operation_ok}
use Rattle.grammar_places.proofs.Numbers.{numbered, by_number}
use Rattle.grammar_places.proofs.Begun as B
use Rattle.grammar_places.proofs.Begun.{Read, read, at_number, Begun, here, in_first, in_second, Joins}
use Rattle.grammar_places.proofs.Rules.{s_operator, s_equality, s_like_op, c_is, c_value, r_not}
use Rattle.grammar_places.proofs.LeftSide.{LeftBegun, left_begun, left_rule, left_fits, s_left, with_literal}
use Rattle.grammar_places.proofs.RightSide.{reach, Operand, OperandBegun, operand_begun}
use Rattle.syntax.specs.declared.comparison.Comparison.{Comparison}
use Rattle.syntax.specs.declared.fault.Fault.{Fault}
use Rattle.syntax.specs.declared.right_side.RightSide.{RightSide}

module _ (q : List ℕ) where
  abbrev S : Scan
  S = by_number q

  abbrev F : ℕ → Token
  F = numbered q

  beside_property : (k : Quantifier) (x : Option Token) → Joins (left_rule q k x) (λ s. then scalar_comp_op property) (λ s. property_comp_rule s)
  beside_property Single None s t m e g h = right (right (right (left (join g h))))
  beside_property Single (Some i) s t m e g h = right (right (right (right (right (left (join g h))))))
  beside_property Any x s t m e g h = right (right (right (right (right (right (right (right (left (join g h)))))))))
  beside_property Every x s t m e g h = right (right (right (right (right (right (right (right (left (join g h)))))))))

  beside_element : (k : Quantifier) (x : Option Token) → not (plain k x) ≡ true → Joins (left_rule q k x) (λ s. then scalar_comp_op (element s)) (λ s. property_comp_rule s)
  beside_element Single None y s t m e g h = absurd (false≢true y)
  beside_element Single (Some i) y s t m e g h = right (right (right (right (right (right (left (join g h)))))))
  beside_element Any x y s t m e g h = right (right (right (right (right (right (right (right (right (left (join g h))))))))))
  beside_element Every x y s t m e g h = right (right (right (right (right (right (right (right (right (left (join g h))))))))))

  beside_list : (k : Quantifier) (x : Option Token) → plain k x ≡ true → Joins (left_rule q k x) (λ s. then array_comp_op array_literal_rule) (λ s. property_comp_rule s)
  beside_list Single None y s t m e g h = left (join g h)
  beside_list Single (Some i) y s t m e g h = absurd (false≢true y)
  beside_list Any None y s t m e g h = absurd (false≢true y)
  beside_list Any (Some i) y s t m e g h = absurd (false≢true y)
  beside_list Every None y s t m e g h = absurd (false≢true y)
  beside_list Every (Some i) y s t m e g h = absurd (false≢true y)

  beside_pattern : (k : Quantifier) (x : Option Token) → single k ≡ true → Joins (left_rule q k x) (λ s. then like_op like_pattern) (λ s. property_comp_rule s)
  beside_pattern Single None y s t m e g h = right (right (right (right (right (right (right (right (right (right (left (join g h)))))))))))
  beside_pattern Single (Some i) y s t m e g h = right (right (right (right (right (right (right (right (right (right (right (join g h)))))))))))
  beside_pattern Any x y s t m e g h = absurd (false≢true y)
  beside_pattern Every x y s t m e g h = absurd (false≢true y)

  -- ---- the operator: refused at its first token, or behind NOT
  abbrev OperationBegun : Bool → ℕ → Result (Operation × Token) ℕ → Type 0
  OperationBegun alone j (Ok (v, u)) = Unit
  OperationBegun alone j (Err x) = (x ≡ j) ⊎ ((alone ≡ true) × Begun q (λ s. like_op) j x)

  not_like_law : (alone : Bool) (j : ℕ) (d : Bool) → alone ≡ true → same (F j) (Word Reserved.Not) ≡ true → OperationBegun alone j (pick d (Ok (NotLike, F (suc (suc j)))) (Err (suc j)))
  not_like_law alone j true l e = tt
  not_like_law alone j false l e = inr (l, in_second q (r_not q j e) (here q (c_is B.like) (suc j)) (λ s t m e g h. join (just g) h))

  like_by : (alone : Bool) (j : ℕ) (a b : Bool) → alone && same (F j) (Word Reserved.Not) ≡ b
      → OperationBegun alone j (pick a (Ok (Like, F (suc j))) (pick b (GC.not_like S (F (suc j))) (Err j)))
  unfolding GC.not_like
  like_by alone j true b f = tt
  like_by alone j false true f = let w = and_both alone (same (F j) (Word Reserved.Not)) f in not_like_law alone j (same (F (suc j)) (Word Reserved.Like)) w.0 w.1
  like_by alone j false false f = inl refl

  operation_by_law : (alone : Bool) (j : ℕ) (k : Option Operator) → OperationBegun alone j (GC.operation_by S alone (F j) k)
  unfolding GC.operation_by GC.like
  operation_by_law alone j (Some o) = tt
  operation_by_law alone j None = like_by alone j (alone && same (F j) (Word Reserved.Like)) (alone && same (F j) (Word Reserved.Not)) refl

  operation_begun : (alone : Bool) (j : ℕ) → OperationBegun alone j (GC.operation S alone (F j))
  unfolding GC.operation
  operation_begun alone j = operation_by_law alone j (comparing (F j))

  -- ---- a comparison
  abbrev pub CompBegun : ℕ → Result (Comparison × Token) Fault → Type 0
  CompBegun i (Ok (c, u)) = Unit
  CompBegun i (Err f) = Begun q (λ s. property_comp_rule s) i (reach f)

  module _ (a : LeftSide) (i j : ℕ) (before : Read q (left_rule q a.quantifier a.index) i j) where
    r_operator : (o : Operator) → comparing (F j) ≡ Some o → Read q (λ s. scalar_comp_op) j (suc j)
    r_operator o e = read q (s_operator q) j (suc j) (one (ap operates e))

    r_equality : (o : Operator) → comparing (F j) ≡ Some o → equality o ≡ true → Read q (λ s. array_comp_op) j (suc j)
    r_equality o e y = read q (s_equality q) j (suc j) (one (ap equates e ∙ y))

    comp_operand : (o : Operator) (x : ℕ) → comparing (F j) ≡ Some o → Operand q (plain a.quantifier a.index) o (suc j) x → Begun q (λ s. property_comp_rule s) i x
    comp_operand o x e (inl (inl b)) = in_second q before (in_second q (r_operator o e) b (λ s t m e g h. join g h)) (beside_property a.quantifier a.index)
    comp_operand o x e (inl (inr (n, b))) = in_second q before (in_second q (r_operator o e) b (λ s t m e g h. join g h)) (beside_element a.quantifier a.index n)
    comp_operand o x e (inr (w, y, b)) = in_second q before (in_second q (r_equality o e y) b (λ s t m e g h. join g h)) (beside_list a.quantifier a.index w)

    comp_compare : (v : Operation) (o : Operator) (r : Result (RightSide × Token) Fault) → comparing (F j) ≡ Some o → OperandBegun q (plain a.quantifier a.index) o (suc j) r → CompBegun i (GC.comp_of a v r)
    unfolding GC.comp_of
    comp_compare v o (Ok (r, u)) e b = tt
    comp_compare v o (Err f) e b = comp_operand o (reach f) e b

    pattern_by_law : (v : Operation) (m : ℕ) (d : Bool) → single a.quantifier ≡ true → Read q (λ s. like_op) j m
        → CompBegun i (GC.comp_of a v (pick d (Ok (Pattern (F m), F (suc m))) (Err (fault Grammar m))))
    unfolding GC.comp_of
    pattern_by_law v m true y l = tt
    pattern_by_law v m false y l = in_second q before (in_second q l (here q (c_is B.text) m) (λ s t m e g h. join g h)) (beside_pattern a.quantifier a.index y)

    comp_like : (v : Operation) (u : Token) → single a.quantifier ≡ true → Fits S like_op (F j) u → CompBegun i (GC.comp_of a v (GC.pattern S u))
    unfolding GC.pattern
    comp_like v u y f =
        at_number q (λ s. like_op) (s_like_op q) j u f (λ (t : Token). CompBegun i (GC.comp_of a v (GC.pattern S t)))
        (λ m g. pattern_by_law v m (same (F m) Text) y (read q (s_like_op q) j m g))

    no_operator : (x : ℕ) → (x ≡ j) ⊎ ((single a.quantifier ≡ true) × Begun q (λ s. like_op) j x) → Begun q (λ s. property_comp_rule s) i x
    no_operator x (inl z) = rw z (in_second q before (here q c_value j) (with_literal q a.quantifier a.index))
    no_operator x (inr (y, b)) = in_second q before (in_first q b (c_is B.text) (λ s t m e g h. join g h)) (beside_pattern a.quantifier a.index y)

    comp_operation_law : (r : Result (Operation × Token) ℕ) → OperationOk S (single a.quantifier) (F j) r → OperationBegun (single a.quantifier) j r → CompBegun i (GC.comp_operation S a r)
    unfolding GC.comp_operation GC.right_side
    comp_operation_law (Ok (Compare o, u)) e b =
        rw (sym e.1) (comp_compare (Compare o) o (GC.operand S (plain a.quantifier a.index) o (F (suc j))) e.0 (operand_begun q (plain a.quantifier a.index) o (suc j)))
    comp_operation_law (Ok (Like, u)) e b = comp_like Like u e.0 e.1
    comp_operation_law (Ok (NotLike, u)) e b = comp_like NotLike u e.0 e.1
    comp_operation_law (Err x) e b = no_operator x b

  comp_left_law : (i : ℕ) (r : Result (LeftSide × Token) ℕ) → LeftOk S (F i) r → LeftBegun q i r → CompBegun i (GC.comp_left S r)
  unfolding GC.comp_left
  comp_left_law i (Ok (a, u)) f b =
      at_number q (left_rule q a.quantifier a.index) (s_left q a.quantifier a.index) i u (left_fits q a.quantifier a.index (F i) u f)
      (λ (t : Token). CompBegun i (GC.comp_operation S a (GC.operation S (single a.quantifier) t)))
      (λ j g.
      comp_operation_law a i j (read q (s_left q a.quantifier a.index) i j g) (GC.operation S (single a.quantifier) (F j)) (operation_ok S (single a.quantifier) (F j))
      (operation_begun (single a.quantifier) j))
  comp_left_law i (Err x) f b = b

  pub comp_begun : (i : ℕ) → CompBegun i (GC.property_comp S (F i))
  unfolding GC.property_comp
  comp_begun i = comp_left_law i (GC.left_side S (F i)) (left_ok S (F i)) (left_begun q i)
