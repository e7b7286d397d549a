-- A comparison that is read fits one of the lines of property-comp.
use Rattle.std.specs.Prelude.{Err, None, Ok, Option, Result, Some}
use Prim.Native.Nat.{ℕ, zero, suc, ◌+◌}
use mathlib.Core.Path.{◌≡◌, refl, sym, ap, ◌∙◌}
use mathlib.Core.Bool.{Bool, true, false, not, ◌&&◌, false≢true}
use Rattle.base.specs.Pick.{pick}
use Rattle.base.proofs.Says.{and_both}
use Rattle.token.specs.declared.Reserved.TheVariants as Reserved
use Rattle.base.specs.declared.order.Operator.{Operator}
use Rattle.token.specs.declared.Punctuation.TheVariants.{OpenIndex, CloseIndex, OpenList, CloseList, Comma}
use Rattle.token.specs.declared.TokenKind.TheVariants.{Symbol, Word, Text}
use Rattle.token.specs.declared.Token.{Token}
use Rattle.terminal.specs.declared.quantifier.Quantifier.{Quantifier}
use Rattle.terminal.specs.declared.quantifier.Quantifier.TheVariants.{Single, Any, Every}
use Rattle.terminal.specs.Terminal.{same, literal, comparing, quantifying, equality}
use Rattle.syntax.specs.declared.path.Path.{Path}
use Rattle.syntax.specs.declared.operation.Operation.{Operation}
use Rattle.syntax.specs.declared.operation.Operation.TheVariants.{Compare, Like, NotLike}
use Rattle.syntax.specs.declared.left_side.LeftSide.{LeftSide}
use Rattle.syntax.specs.declared.right_side.RightSide.TheVariants.{Literal, Elements, Property, Pattern}
use Rattle.syntax.specs.declared.fault.Cause.TheVariants.{Grammar}
use Rattle.syntax.specs.Property as GP
use Rattle.syntax.specs.Comparison as GC
use Rattle.syntax.specs.Scan.{Scan, fault, skip}
use Rattle.syntax.specs.Comparison.{single, plain}
use Rattle.grammar.specs.Abnf.{Fits, one, join, left, right, none, just, stop, more, many, then, is, operates, equates, property, in_brackets, element, array_op, like_op, scalar_literal, array_literal_rule, like_pattern, property_comp_rule}
use Rattle.grammar.proofs.Sound.{Ends, property_fits}
use Rattle.syntax.specs.declared.right_side.RightSide.{RightSide}
use Rattle.syntax.specs.declared.fault.Fault.{Fault}
use Rattle.syntax.specs.declared.comparison.Comparison.{Comparison}

abbrev Nothing : Type 0
Nothing = true ≡ true

module _ (s : Scan) where
  abbrev pub PathOk : Token → Result (Path × Token) ℕ → Type 0
  PathOk t (Ok (p, u)) = Fits s property t u
  PathOk t (Err x) = Nothing

  path_of : (t : Token) (r : Result (Path × Token) ℕ) → ((u : Token) → Ends u r → Fits s property t u) → PathOk t r
  unfolding Ends
  path_of t (Ok (p, u)) f = f u refl
  path_of t (Err x) f = refl

  pub path_ok : (t : Token) → PathOk t (GP.property s t)
  path_ok t = path_of t (GP.property s t) (property_fits s t)

  abbrev pub IndexOk : Bool → Token → Result (Option Token × Token) ℕ → Type 0
  IndexOk a t (Ok (None, u)) = t ≡ u
  IndexOk a t (Ok (Some i, u)) = (a ≡ true) × Fits s (in_brackets s) t u
  IndexOk a t (Err x) = Nothing

  index_close : (a : Bool) (t : Token) (d : Bool) → a ≡ true → same t (Symbol OpenIndex) ≡ true → s.unsigned (s.next t) ≡ true → same (s.next (s.next t)) (Symbol CloseIndex) ≡ d
      → IndexOk a t (pick d (Ok (Some (s.next t), s.next (s.next (s.next t)))) (Err (s.next (s.next t)).start))
  index_close a t true l o n c = (l, join (one o) (join (one n) (one c)))
  index_close a t false l o n c = refl

  index_number_law : (a : Bool) (t : Token) (d : Bool) → a ≡ true → same t (Symbol OpenIndex) ≡ true → s.unsigned (s.next t) ≡ d
      → IndexOk a t (pick d (GP.close_index s (s.next t) (s.next (s.next t))) (Err (s.next t).start))
  unfolding GP.close_index
  index_number_law a t true l o n = index_close a t (same (s.next (s.next t)) (Symbol CloseIndex)) l o n refl
  index_number_law a t false l o n = refl

  index_by_law : (a : Bool) (t : Token) (d : Bool) → a && same t (Symbol OpenIndex) ≡ d → IndexOk a t (pick d (GP.index_number s (s.next t)) (Ok (None, t)))
  unfolding GP.index_number
  index_by_law a t true e = index_number_law a t (s.unsigned (s.next t)) (and_both a (same t (Symbol OpenIndex)) e).0 (and_both a (same t (Symbol OpenIndex)) e).1 refl
  index_by_law a t false e = refl

  index_ok : (a : Bool) (t : Token) → IndexOk a t (GP.indexed s a t)
  unfolding GP.indexed
  index_ok a t = index_by_law a t (a && same t (Symbol OpenIndex)) refl

  abbrev pub ReferOk : Bool → Token → Result (Path × Option Token × Token) ℕ → Type 0
  ReferOk a t (Ok (p, None, u)) = Fits s property t u
  ReferOk a t (Ok (p, Some i, u)) = (a ≡ true) × Fits s (element s) t u
  ReferOk a t (Err x) = Nothing

  refer_index : (a : Bool) (t m : Token) (p : Path) (r : Result (Option Token × Token) ℕ) → Fits s property t m → IndexOk a m r → ReferOk a t (GP.with_index p r)
  unfolding GP.with_index
  refer_index a t m p (Ok (None, u)) f e = rw (sym e) f
  refer_index a t m p (Ok (Some i, u)) f e = (e.0, join f e.1)
  refer_index a t m p (Err x) f e = refl

  refer_path : (a : Bool) (t : Token) (r : Result (Path × Token) ℕ) → PathOk t r → ReferOk a t (GP.with_path s a r)
  unfolding GP.with_path
  refer_path a t (Ok (p, u)) f = refer_index a t u p (GP.indexed s a u) f (index_ok a u)
  refer_path a t (Err x) f = refl

  refer_ok : (a : Bool) (t : Token) → ReferOk a t (GP.reference s a t)
  unfolding GP.reference
  refer_ok a t = refer_path a t (GP.property s t) (path_ok t)

  -- what a subject fits, by its quantifier and index
  abbrev pub LeftFits : Quantifier → Option Token → Token → Token → Type 0
  LeftFits Single None t u = Fits s property t u
  LeftFits Single (Some i) t u = Fits s (element s) t u
  LeftFits Any i t u = Fits s (then array_op property) t u
  LeftFits Every i t u = Fits s (then array_op property) t u

  abbrev pub LeftOk : Token → Result (LeftSide × Token) ℕ → Type 0
  LeftOk t (Ok (a, u)) = LeftFits a.quantifier a.index t u
  LeftOk t (Err x) = Nothing

  left_single : (t : Token) (n : Bool) (r : Result (Path × Option Token × Token) ℕ) → ReferOk true t r → LeftOk t (GC.left_of t.start n Single r)
  unfolding GC.left_of
  left_single t n (Ok (p, None, u)) f = f
  left_single t n (Ok (p, Some i, u)) f = f.1
  left_single t n (Err x) f = refl

  left_any : (t m : Token) (n : Bool) (r : Result (Path × Option Token × Token) ℕ) → Fits s array_op t m → ReferOk false m r → LeftOk t (GC.left_of t.start n Any r)
  unfolding GC.left_of
  left_any t m n (Ok (p, None, u)) o f = join o f
  left_any t m n (Ok (p, Some i, u)) o f = absurd (false≢true f.0)
  left_any t m n (Err x) o f = refl

  left_every : (t m : Token) (n : Bool) (r : Result (Path × Option Token × Token) ℕ) → Fits s array_op t m → ReferOk false m r → LeftOk t (GC.left_of t.start n Every r)
  unfolding GC.left_of
  left_every t m n (Ok (p, None, u)) o f = join o f
  left_every t m n (Ok (p, Some i, u)) o f = absurd (false≢true f.0)
  left_every t m n (Err x) o f = refl

  not_then : (t : Token) (n : Bool) → same t (Word Reserved.Not) ≡ n → Fits s (Rattle.grammar.specs.Abnf.maybe (is (Word Reserved.Not))) t (skip s n t)
  not_then t true e = just (one e)
  not_then t false e = none

  left_by_law : (t : Token) (n : Bool) (a b : Bool) → same t (Word Reserved.Not) ≡ n → same (skip s n t) (Word Reserved.Any) ≡ a → same (skip s n t) (Word Reserved.Every) ≡ b
      → LeftOk t (GC.left_by s t.start n (pick a Any (pick b Every Single)) (skip s n t))
  unfolding GC.left_by
  left_by_law t true true b e f g =
      left_any t (s.next (s.next t)) true (GP.reference s false (s.next (s.next t))) (join (not_then t true e) (left (one f))) (refer_ok false (s.next (s.next t)))
  left_by_law t false true b e f g =
      left_any t (s.next t) false (GP.reference s false (s.next t)) (join (not_then t false e) (left (one f))) (refer_ok false (s.next t))
  left_by_law t true false true e f g =
      left_every t (s.next (s.next t)) true (GP.reference s false (s.next (s.next t))) (join (not_then t true e) (right (one g))) (refer_ok false (s.next (s.next t)))
  left_by_law t false false true e f g =
      left_every t (s.next t) false (GP.reference s false (s.next t)) (join (not_then t false e) (right (one g))) (refer_ok false (s.next t))
  left_by_law t true false false e f g = refl
  left_by_law t false false false e f g = left_single t false (GP.reference s true t) (refer_ok true t)

  pub left_ok : (t : Token) → LeftOk t (GC.left_side s t)
  unfolding GC.left_side GC.left_at quantifying
  left_ok t =
      left_by_law t (same t (Word Reserved.Not)) (same (skip s (same t (Word Reserved.Not)) t) (Word Reserved.Any)) (same (skip s (same t (Word Reserved.Not)) t) (Word Reserved.Every)) refl refl refl

  -- the operator
  abbrev pub OperationOk : Bool → Token → Result (Operation × Token) ℕ → Type 0
  OperationOk alone t (Ok (Compare o, u)) = (comparing t ≡ Some o) × (s.next t ≡ u)
  OperationOk alone t (Ok (Like, u)) = (alone ≡ true) × Fits s like_op t u
  OperationOk alone t (Ok (NotLike, u)) = (alone ≡ true) × Fits s like_op t u
  OperationOk alone t (Err x) = Nothing

  not_like_law : (alone : Bool) (t : Token) (d : Bool) → alone ≡ true → same t (Word Reserved.Not) ≡ true → same (s.next t) (Word Reserved.Like) ≡ d
      → OperationOk alone t (pick d (Ok (NotLike, s.next (s.next t))) (Err (s.next t).start))
  not_like_law alone t true l e f = (l, join (just (one e)) (one f))
  not_like_law alone t false l e f = refl

  like_by : (alone : Bool) (t : Token) (a b : Bool) → alone && same t (Word Reserved.Like) ≡ a → alone && same t (Word Reserved.Not) ≡ b
      → OperationOk alone t (pick a (Ok (Like, s.next t)) (pick b (GC.not_like s (s.next t)) (Err t.start)))
  unfolding GC.not_like
  like_by alone t true b e f = let i = and_both alone (same t (Word Reserved.Like)) e in (i.0, join none (one i.1))
  like_by alone t false true e f =
      not_like_law alone t (same (s.next t) (Word Reserved.Like)) (and_both alone (same t (Word Reserved.Not)) f).0 (and_both alone (same t (Word Reserved.Not)) f).1 refl
  like_by alone t false false e f = refl

  operation_by_law : (alone : Bool) (t : Token) (k : Option Operator) → comparing t ≡ k → OperationOk alone t (GC.operation_by s alone t k)
  unfolding GC.operation_by GC.like
  operation_by_law alone t (Some o) e = (e, refl)
  operation_by_law alone t None e = like_by alone t (alone && same t (Word Reserved.Like)) (alone && same t (Word Reserved.Not)) refl refl

  pub operation_ok : (alone : Bool) (t : Token) → OperationOk alone t (GC.operation s alone t)
  unfolding GC.operation
  operation_ok alone t = operation_by_law alone t (comparing t) refl

  -- array literals
  abbrev ListOk : Token → Result (RightSide × Token) Fault → Type 0
  ListOk t (Ok (Literal x, u)) = ⊥
  ListOk t (Ok (Elements a b c, u)) = Fits s (then (then scalar_literal (many (then (is (Symbol Comma)) scalar_literal))) (is (Symbol CloseList))) t u
  ListOk t (Ok (Property p i, u)) = ⊥
  ListOk t (Ok (Pattern x, u)) = ⊥
  ListOk t (Err f) = Nothing

  list_before_law : (t : Token) (r : Result (RightSide × Token) Fault) → literal t ≡ true → same (s.next t) (Symbol Comma) ≡ true → ListOk (s.next (s.next t)) r → ListOk t r
  list_before_law t (Ok (Literal x, u)) l c f = f
  list_before_law t (Ok (Elements x y z, u)) l c (join (join (one a) m) e) = join (join (one l) (more (join (one c) (one a)) m)) e
  list_before_law t (Ok (Property p i, u)) l c f = f
  list_before_law t (Ok (Pattern x, u)) l c f = f
  list_before_law t (Err x) l c f = refl

  list_comma : (n start count : ℕ) (t : Token) (d : Bool) → literal t ≡ true → same (s.next t) (Symbol Comma) ≡ d
      → ListOk (s.next (s.next t)) (GC.elements n s start (count + 1) (s.next (s.next t)))
      → ListOk t (elim d [ true ↦ GC.elements n s start (count + 1) (s.next (s.next t)) | false ↦ Err (fault Grammar (s.next t).start) ])
  list_comma n start count t true l e f = list_before_law t (GC.elements n s start (count + 1) (s.next (s.next t))) l e f
  list_comma n start count t false l e f = refl

  list_close : (n start count : ℕ) (t : Token) (d : Bool) → literal t ≡ true → same (s.next t) (Symbol CloseList) ≡ d
      → ListOk (s.next (s.next t)) (GC.elements n s start (count + 1) (s.next (s.next t)))
      → ListOk t (elim d [
        | true ↦ Ok (Elements start (count + 1) (s.next t).end, s.next (s.next t))
        | false ↦ elim (same (s.next t) (Symbol Comma)) [ true ↦ GC.elements n s start (count + 1) (s.next (s.next t)) | false ↦ Err (fault Grammar (s.next t).start) ]
      ])
  list_close n start count t true l e f = join (join (one l) stop) (one e)
  list_close n start count t false l e f = list_comma n start count t (same (s.next t) (Symbol Comma)) l refl f

  list_by : (n start count : ℕ) (t : Token) (d : Bool) → literal t ≡ d
      → ListOk (s.next (s.next t)) (GC.elements n s start (count + 1) (s.next (s.next t)))
      → ListOk t (elim d [
        | true ↦ elim (same (s.next t) (Symbol CloseList)) [
          | true ↦ Ok (Elements start (count + 1) (s.next t).end, s.next (s.next t))
          | false ↦ elim (same (s.next t) (Symbol Comma)) [ true ↦ GC.elements n s start (count + 1) (s.next (s.next t)) | false ↦ Err (fault Grammar (s.next t).start) ]
        ]
        | false ↦ Err (fault Grammar t.start)
      ])
  list_by n start count t true l f = list_close n start count t (same (s.next t) (Symbol CloseList)) l refl f
  list_by n start count t false l f = refl

  list_ok : (n start count : ℕ) (t : Token) → ListOk t (GC.elements n s start count t)
  unfolding GC.elements
  list_ok zero start count t = refl
  list_ok (suc n) start count t = list_by n start count t (literal t) refl (list_ok n start (count + 1) (s.next (s.next t)))

  -- the right side of an operator
  abbrev pub OperandOk : Bool → Operator → Token → Result (RightSide × Token) Fault → Type 0
  OperandOk whole o t (Ok (Literal x, u)) = Fits s scalar_literal t u
  OperandOk whole o t (Ok (Elements a b c, u)) = (whole ≡ true) × (equality o ≡ true) × Fits s array_literal_rule t u
  OperandOk whole o t (Ok (Property p None, u)) = Fits s property t u
  OperandOk whole o t (Ok (Property p (Some i), u)) = (not whole ≡ true) × Fits s (element s) t u
  OperandOk whole o t (Ok (Pattern x, u)) = ⊥
  OperandOk whole o t (Err f) = Nothing

  array_of : (whole : Bool) (o : Operator) (t : Token) (r : Result (RightSide × Token) Fault) → same t (Symbol OpenList) ≡ true → whole ≡ true → equality o ≡ true → ListOk (s.next t) r → OperandOk whole o t r
  array_of whole o t (Ok (Literal x, u)) a w e f = absurd f
  array_of whole o t (Ok (Elements x y z, u)) a w e (join l c) = (w, e, join (one a) (join (just l) c))
  array_of whole o t (Ok (Property p i, u)) a w e f = absurd f
  array_of whole o t (Ok (Pattern x, u)) a w e f = absurd f
  array_of whole o t (Err x) a w e f = refl

  array_by : (whole : Bool) (o : Operator) (t : Token) (d : Bool) → same t (Symbol OpenList) ≡ true → whole ≡ true → equality o ≡ true → same (s.next t) (Symbol CloseList) ≡ d
      → OperandOk whole o t (pick d (Ok (Elements t.start 0 (s.next t).end, s.next (s.next t))) (GC.elements 32 s t.start 0 (s.next t)))
  array_by whole o t true a w e c = (w, e, join (one a) (join none (one c)))
  array_by whole o t false a w e c = array_of whole o t (GC.elements 32 s t.start 0 (s.next t)) a w e (list_ok 32 t.start 0 (s.next t))

  operand_of_law : (whole : Bool) (o : Operator) (t : Token) (r : Result (Path × Option Token × Token) ℕ) → ReferOk (not whole) t r → OperandOk whole o t (GC.operand_of r)
  unfolding GC.operand_of
  operand_of_law whole o t (Ok (p, None, u)) f = f
  operand_of_law whole o t (Ok (p, Some i, u)) f = f
  operand_of_law whole o t (Err x) f = refl

  operand_by : (whole : Bool) (o : Operator) (t : Token) (a b : Bool) → literal t ≡ a → same t (Symbol OpenList) && (whole && equality o) ≡ b
      → OperandOk whole o t (pick a (Ok (Literal t, s.next t)) (pick b (GC.array_literal s t) (GC.operand_of (GP.reference s (not whole) t))))
  unfolding GC.array_literal GC.list_from
  operand_by whole o t true b e f = one e
  operand_by whole o t false true e f =
      let i = and_both (same t (Symbol OpenList)) (whole && equality o) f in
      let w = and_both whole (equality o) i.1 in
      array_by whole o t (same (s.next t) (Symbol CloseList)) i.0 w.0 w.1 refl
  operand_by whole o t false false e f = operand_of_law whole o t (GP.reference s (not whole) t) (refer_ok (not whole) t)

  pub operand_ok : (whole : Bool) (o : Operator) (t : Token) → OperandOk whole o t (GC.operand s whole o t)
  unfolding GC.operand
  operand_ok whole o t = operand_by whole o t (literal t) (same t (Symbol OpenList) && (whole && equality o)) refl refl

  abbrev PatternOk : Token → Result (RightSide × Token) Fault → Type 0
  PatternOk t (Ok (Literal x, u)) = ⊥
  PatternOk t (Ok (Elements a b c, u)) = ⊥
  PatternOk t (Ok (Property p i, u)) = ⊥
  PatternOk t (Ok (Pattern x, u)) = Fits s like_pattern t u
  PatternOk t (Err f) = Nothing

  pattern_by_law : (t : Token) (d : Bool) → same t Text ≡ d → PatternOk t (pick d (Ok (Pattern t, s.next t)) (Err (fault Grammar t.start)))
  pattern_by_law t true e = one e
  pattern_by_law t false e = refl

  -- the lines of property-comp
  abbrev CompOk : Token → Result (Comparison × Token) Fault → Type 0
  CompOk t (Ok (c, u)) = Fits s (property_comp_rule s) t u
  CompOk t (Err f) = Nothing

  operates_by : (m : Token) (o : Operator) → comparing m ≡ Some o → operates (comparing m) ≡ true
  operates_by m o e = ap operates e

  equates_by : (m : Token) (o : Operator) → comparing m ≡ Some o → equality o ≡ true → equates (comparing m) ≡ true
  equates_by m o e f = ap equates e ∙ f

  plain_compare : (a : LeftSide) (v : Operation) (o : Operator) (t m : Token) (r : Result (RightSide × Token) Fault) → Fits s property t m → comparing m ≡ Some o → OperandOk true o (s.next m) r → CompOk t (GC.comp_of a v r)
  unfolding GC.comp_of
  plain_compare a v o t m (Ok (Literal x, u)) f e g = right (right (left (join f (join (one (operates_by m o e)) g))))
  plain_compare a v o t m (Ok (Elements x y z, u)) f e g = left (join f (join (one (equates_by m o e g.1)) g.2))
  plain_compare a v o t m (Ok (Property p None, u)) f e g = right (right (right (left (join f (join (one (operates_by m o e)) g)))))
  plain_compare a v o t m (Ok (Property p (Some i), u)) f e g = absurd (false≢true g.0)
  plain_compare a v o t m (Ok (Pattern x, u)) f e g = absurd g
  plain_compare a v o t m (Err x) f e g = refl

  indexed_compare : (a : LeftSide) (v : Operation) (o : Operator) (t m : Token) (r : Result (RightSide × Token) Fault) → Fits s (element s) t m → comparing m ≡ Some o → OperandOk false o (s.next m) r → CompOk t (GC.comp_of a v r)
  unfolding GC.comp_of
  indexed_compare a v o t m (Ok (Literal x, u)) f e g = right (right (right (right (left (join f (join (one (operates_by m o e)) g))))))
  indexed_compare a v o t m (Ok (Elements x y z, u)) f e g = absurd (false≢true g.0)
  indexed_compare a v o t m (Ok (Property p None, u)) f e g = right (right (right (right (right (left (join f (join (one (operates_by m o e)) g)))))))
  indexed_compare a v o t m (Ok (Property p (Some i), u)) f e g = right (right (right (right (right (right (left (join f (join (one (operates_by m o e)) g.1))))))))
  indexed_compare a v o t m (Ok (Pattern x, u)) f e g = absurd g
  indexed_compare a v o t m (Err x) f e g = refl

  quantified_compare : (a : LeftSide) (v : Operation) (o : Operator) (t m : Token) (r : Result (RightSide × Token) Fault) → Fits s (then array_op property) t m → comparing m ≡ Some o → OperandOk false o (s.next m) r → CompOk t (GC.comp_of a v r)
  unfolding GC.comp_of
  quantified_compare a v o t m (Ok (Literal x, u)) f e g = right (right (right (right (right (right (right (left (join f (join (one (operates_by m o e)) g)))))))))
  quantified_compare a v o t m (Ok (Elements x y z, u)) f e g = absurd (false≢true g.0)
  quantified_compare a v o t m (Ok (Property p None, u)) f e g = right (right (right (right (right (right (right (right (left (join f (join (one (operates_by m o e)) g))))))))))
  quantified_compare a v o t m (Ok (Property p (Some i), u)) f e g = right (right (right (right (right (right (right (right (right (left (join f (join (one (operates_by m o e)) g.1)))))))))))
  quantified_compare a v o t m (Ok (Pattern x, u)) f e g = absurd g
  quantified_compare a v o t m (Err x) f e g = refl

  comp_compare : (a : LeftSide) (v : Operation) (k : Quantifier) (i : Option Token) (o : Operator) (t m : Token) → LeftFits k i t m → comparing m ≡ Some o
      → CompOk t (GC.comp_of a v (GC.operand s (plain k i) o (s.next m)))
  comp_compare a v Single None o t m f e = plain_compare a v o t m (GC.operand s true o (s.next m)) f e (operand_ok true o (s.next m))
  comp_compare a v Single (Some i) o t m f e = indexed_compare a v o t m (GC.operand s false o (s.next m)) f e (operand_ok false o (s.next m))
  comp_compare a v Any None o t m f e = quantified_compare a v o t m (GC.operand s false o (s.next m)) f e (operand_ok false o (s.next m))
  comp_compare a v Any (Some i) o t m f e = quantified_compare a v o t m (GC.operand s false o (s.next m)) f e (operand_ok false o (s.next m))
  comp_compare a v Every None o t m f e = quantified_compare a v o t m (GC.operand s false o (s.next m)) f e (operand_ok false o (s.next m))
  comp_compare a v Every (Some i) o t m f e = quantified_compare a v o t m (GC.operand s false o (s.next m)) f e (operand_ok false o (s.next m))

  like_lines : (a : LeftSide) (v : Operation) (k : Quantifier) (i : Option Token) (t m w : Token) (r : Result (RightSide × Token) Fault) → LeftFits k i t m → single k ≡ true → Fits s like_op m w → PatternOk w r
      → CompOk t (GC.comp_of a v r)
  unfolding GC.comp_of
  like_lines a v k i t m w (Ok (Literal x, u)) f e l g = absurd g
  like_lines a v k i t m w (Ok (Elements x y z, u)) f e l g = absurd g
  like_lines a v k i t m w (Ok (Property p j, u)) f e l g = absurd g
  like_lines a v Single None t m w (Ok (Pattern x, u)) f e l g = right (right (right (right (right (right (right (right (right (right (left (join f (join l g))))))))))))
  like_lines a v Single (Some j) t m w (Ok (Pattern x, u)) f e l g = right (right (right (right (right (right (right (right (right (right (right (join f (join l g))))))))))))
  like_lines a v Any i t m w (Ok (Pattern x, u)) f e l g = absurd (false≢true e)
  like_lines a v Every i t m w (Ok (Pattern x, u)) f e l g = absurd (false≢true e)
  like_lines a v k i t m w (Err x) f e l g = refl

  comp_operation_law : (a : LeftSide) (t m : Token) (r : Result (Operation × Token) ℕ) → LeftFits a.quantifier a.index t m → OperationOk (single a.quantifier) m r → CompOk t (GC.comp_operation s a r)
  unfolding GC.comp_operation GC.right_side GC.pattern
  comp_operation_law a t m (Ok (Compare o, u)) f e = rw (sym e.1) (comp_compare a (Compare o) a.quantifier a.index o t m f e.0)
  comp_operation_law a t m (Ok (Like, u)) f e = like_lines a Like a.quantifier a.index t m u (GC.pattern s u) f e.0 e.1 (pattern_by_law u (same u Text) refl)
  comp_operation_law a t m (Ok (NotLike, u)) f e = like_lines a NotLike a.quantifier a.index t m u (GC.pattern s u) f e.0 e.1 (pattern_by_law u (same u Text) refl)
  comp_operation_law a t m (Err x) f e = refl

  comp_left_law : (t : Token) (r : Result (LeftSide × Token) ℕ) → LeftOk t r → CompOk t (GC.comp_left s r)
  unfolding GC.comp_left
  comp_left_law t (Ok (a, u)) f = comp_operation_law a t u (GC.operation s (single a.quantifier) u) f (operation_ok (single a.quantifier) u)
  comp_left_law t (Err x) f = refl

  comp_ok : (t : Token) → CompOk t (GC.property_comp s t)
  unfolding GC.property_comp
  comp_ok t = comp_left_law t (GC.left_side s t) (left_ok t)

  -- a comparison that is read fits property-comp
  pub comparison_fits : (t u : Token) (c : Rattle.syntax.specs.declared.comparison.Comparison.Comparison) → GC.property_comp s t ≡ Ok (c, u) → Fits s (property_comp_rule s) t u
  comparison_fits t u c e = rw e at (comp_ok t)
