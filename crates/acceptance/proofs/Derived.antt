-- What fits property-comp and is read, is read as the comparison of its derivation. Where it ends, and that only the limit of 32 elements refuses it, is grammar's Complete.
use Rattle.std.specs.Prelude.{Err, None, Ok, Option, Result, Some}
use Prim.Native.Nat.{ℕ, zero, suc, ◌+◌}
use mathlib.Core.Path.{◌≡◌, refl, sym, ap, ◌∙◌}
use mathlib.Core.Bool.{Bool, true, false, not, ◌&&◌, false≢true}
use native.Mathlib.Omega.{arith}
use Rattle.token.specs.declared.Reserved.TheVariants as Reserved
use Rattle.base.specs.declared.order.Operator.{Operator}
use Rattle.token.specs.declared.Punctuation.TheVariants.{OpenIndex, CloseList, Comma, Dot}
use Rattle.token.specs.declared.TokenKind.TheVariants.{Symbol, Word}
use Rattle.token.specs.declared.Token.{Token}
use Rattle.terminal.specs.Terminal.{same, literal, comparing, quantifying, equality}
use Rattle.terminal.proofs.KindCodes.{other}
use Rattle.syntax.specs.declared.path.Path.{Path}
use Rattle.syntax.specs.declared.left_side.LeftSide.{LeftSide}
use Rattle.syntax.specs.declared.operation.Operation.{Operation}
use Rattle.syntax.specs.declared.operation.Operation.TheVariants.{Compare}
use Rattle.syntax.specs.declared.right_side.RightSide.{RightSide}
use Rattle.syntax.specs.declared.right_side.RightSide.TheVariants.{Elements}
use Rattle.syntax.specs.declared.comparison.Comparison.{Comparison}
use Rattle.syntax.specs.Property as GP
use Rattle.syntax.specs.Comparison as GC
use Rattle.syntax.specs.Scan.{Scan}
use Rattle.syntax.specs.Property.{dotted, one_more, first_name}
use Rattle.syntax.specs.Comparison.{single, plain}
use Rattle.grammar.specs.Abnf.{Fits, one, join, left, right, none, just, stop, more, many, then, is, operates, dot_name, property, in_brackets, element, array_op, like_op, equates, scalar_literal, array_literal_rule, like_pattern, property_comp_rule}
use Rattle.grammar.specs.Limits.{repeats, element_count}
use Rattle.acceptance.specs.Comparisons.{names_after, path_of, index_in, plain_left, element_left, is_negated, quantifier_of, each_left, operator_by, equator_by, scalar_operation, array_operation, like_operation, literal_right, pattern_right, plain_right, element_right, close_of, array_right, comparison, comparison_of}
use Rattle.syntax.proofs.Room.{up, Roomy, room}
use Rattle.syntax.specs.declared.fault.Fault.{Fault}
use Rattle.grammar.proofs.Complete.{op_no_dot, op_no_index, equates_operates, lit_no_close, open_no_literal, word_no_operator, index_none, open_no_dot, name_first, name_left, name_operand, open_first, operation_is, like_first}

operator_is : (k : Option Operator) (e : operates k ≡ true) → k ≡ Some (operator_by k e)
operator_is (Some o) e = refl
operator_is None e = absurd (false≢true e)

equator_is : (k : Option Operator) (e : equates k ≡ true) → (k ≡ Some (equator_by k e)) × (equality (equator_by k e) ≡ true)
equator_is (Some o) e = (refl, e)
equator_is None e = absurd (false≢true e)

-- a right side that is read is this one
abbrev IsRight : RightSide → Result (RightSide × Token) Fault → Type 0
IsRight v (Ok (r, t)) = r ≡ v
IsRight v (Err f) = Unit

recounted : (v w : RightSide) (r : Result (RightSide × Token) Fault) → v ≡ w → IsRight v r → IsRight w r
recounted v w (Ok (r, t)) h e = e ∙ h
recounted v w (Err f) h e = tt

-- a comparison that is read is this one
abbrev pub IsComparison : Comparison → Result (Comparison × Token) Fault → Type 0
IsComparison c (Ok (d, t)) = d ≡ c
IsComparison c (Err f) = Unit

comp_right : (a : LeftSide) (v : Operation) (b : RightSide) (r : Result (RightSide × Token) Fault) → IsRight b r → IsComparison (comparison a v b) (GC.comp_of a v r)
unfolding GC.comp_of
comp_right a v b (Ok (r, t)) e = ap (λ (x : RightSide). comparison a v x) e
comp_right a v b (Err f) e = tt

module _ (s : Scan) where
  -- names are read to the end, however many more are allowed
  dots_end : (n : ℕ) (p : Path) (t : Token) → same t (Symbol Dot) ≡ false → dotted n s p t ≡ Ok (p, t)
  unfolding dotted
  dots_end zero p t d = refl
  dots_end (suc n) p t d = rw (d, dotted) refl

  dots_read : (t u : Token) (f : Fits s (many dot_name) t u) → same u (Symbol Dot) ≡ false → (p : Path) → (k : ℕ) × ((m : ℕ) → dotted (up k m) s p t ≡ Ok (names_after p f, u))
  unfolding dotted up names_after
  dots_read t u stop d p = (zero, λ m. dots_end m p t d)
  dots_read t u (more (join (one a) (one b)) f) d p =
      let i = dots_read (s.next (s.next t)) u f d (one_more p (s.next t)) in
      (suc i.0, λ m. rw (a, dotted) (rw (b, dotted) (i.1 m)))

  module _ (roomy : Roomy s) where
    names_read : (t u : Token) (f : Fits s (many dot_name) t u) → same u (Symbol Dot) ≡ false → (p : Path) → dotted s.size s p t ≡ Ok (names_after p f, u)
    names_read t u f d p = let i = dots_read t u f d p in sym (room s roomy i.0 p t) ∙ i.1 s.size

    property_read : (t u : Token) (f : Fits s property t u) → same u (Symbol Dot) ≡ false → GP.property s t ≡ Ok (path_of f, u)
    unfolding GP.property path_of names_after
    property_read t u (left (join (one a) f)) d = rw a (names_read (s.next t) u f d (first_name t))
    property_read t u (right (join (join (one a) (one b)) (join (one c) f))) d = rw a (names_read (s.next t) u (more (join (one b) (one c)) f) d (first_name t))

    -- property, with and without an index
    index_read : (t u : Token) (f : Fits s (in_brackets s) t u) → GP.indexed s true t ≡ Ok (Some (index_in f), u)
    unfolding GP.indexed GP.index_number GP.close_index index_in
    index_read t u (join (one a) (join (one b) (one c))) = rw (a, b, c) refl

    plain_read : (a : Bool) (t u : Token) (f : Fits s property t u) → same u (Symbol Dot) ≡ false → a && same u (Symbol OpenIndex) ≡ false → GP.reference s a t ≡ Ok (path_of f, None, u)
    unfolding GP.reference GP.with_path GP.with_index
    plain_read a t u f d e = rw (property_read t u f d) (rw (index_none s roomy a u e) refl)

    element_read : (t m u : Token) (f : Fits s property t m) (g : Fits s (in_brackets s) m u) → GP.reference s true t ≡ Ok (path_of f, Some (index_in g), u)
    unfolding GP.reference GP.with_path GP.with_index
    element_read t m u f g = rw (property_read t m f (open_no_dot s roomy m u g)) (rw (index_read m u g) refl)

    -- the left side
    left_plain : (t u : Token) (f : Fits s property t u) → same u (Symbol Dot) ≡ false → same u (Symbol OpenIndex) ≡ false → GC.left_side s t ≡ Ok (plain_left f, u)
    unfolding GC.left_of plain_left
    left_plain t u f d e = rw (name_left s roomy t (name_first s roomy t u f)) (rw (plain_read true t u f d e) refl)

    left_indexed : (t u : Token) (f : Fits s (element s) t u) → GC.left_side s t ≡ Ok (element_left f, u)
    unfolding GC.left_of element_left
    left_indexed t u (join {m = m} f g) = rw (name_left s roomy t (name_first s roomy t m f)) (rw (element_read t m u f g) refl)

    -- ANY or EVERY, without and with NOT
    left_many : (t u : Token) (f : Fits s (then array_op property) t u) → same u (Symbol Dot) ≡ false → GC.left_side s t ≡ Ok (each_left f, u)
    unfolding GC.left_side GC.left_at GC.left_by GC.left_of quantifying each_left is_negated quantifier_of
    left_many t u (join (join none (left (one a))) f) d =
        rw (other t (Word Reserved.Any) (Word Reserved.Not) a refl) (rw a (rw (plain_read false (s.next t) u f d refl) refl))
    left_many t u (join (join none (right (one a))) f) d =
        rw (other t (Word Reserved.Every) (Word Reserved.Not) a refl)
        (rw (other t (Word Reserved.Every) (Word Reserved.Any) a refl) (rw a (rw (plain_read false (s.next t) u f d refl) refl)))
    left_many t u (join (join (just (one n)) (left (one a))) f) d =
        rw n (rw a (rw (plain_read false (s.next (s.next t)) u f d refl) refl))
    left_many t u (join (join (just (one n)) (right (one a))) f) d =
        rw n (rw (other (s.next t) (Word Reserved.Every) (Word Reserved.Any) a refl) (rw a (rw (plain_read false (s.next (s.next t)) u f d refl) refl)))

    right_literal : (pl : Bool) (o : Operator) (t u : Token) (f : Fits s scalar_literal t u) → IsRight (literal_right f) (GC.operand s pl o t)
    unfolding GC.operand literal_right
    right_literal pl o t u (one l) = rw l refl

    right_property_law : (pl : Bool) (o : Operator) (t u : Token) (f : Fits s property t u) → same u (Symbol Dot) ≡ false → not pl && same u (Symbol OpenIndex) ≡ false → IsRight (plain_right f) (GC.operand s pl o t)
    unfolding GC.operand_of plain_right
    right_property_law pl o t u f d e = rw (name_operand s roomy pl o t (name_first s roomy t u f)) (rw (plain_read (not pl) t u f d e) refl)

    right_element : (o : Operator) (t u : Token) (f : Fits s (element s) t u) → IsRight (element_right f) (GC.operand s false o t)
    unfolding GC.operand_of element_right
    right_element o t u (join {m = m} f g) = rw (name_operand s roomy false o t (name_first s roomy t m f)) (rw (element_read t m u f g) refl)

    elements_read : (n start count : ℕ) (t u : Token) → literal t ≡ true → (f : Fits s (many (then (is (Symbol Comma)) scalar_literal)) (s.next t) u) → same u (Symbol CloseList) ≡ true
        → IsRight (Elements start (count + suc (repeats f)) u.end) (GC.elements n s start count t)
    unfolding GC.elements repeats
    elements_read zero start count t u l f c = tt
    elements_read (suc n) start count t u l stop c = rw (l, GC.elements) (rw (c, GC.elements) refl)
    elements_read (suc n) start count t u l (more (join (one a) (one b)) f) c =
        rw (l, GC.elements)
        (rw (other (s.next t) (Symbol Comma) (Symbol CloseList) a refl, GC.elements)
        (rw (a, GC.elements)
        (recounted (Elements start (count + 1 + suc (repeats f)) u.end) (Elements start (count + suc (suc (repeats f))) u.end)
        (GC.elements n s start (count + 1) (s.next (s.next t))) (ap (λ (x : ℕ). Elements start x u.end) (omega arith)) (elements_read n start (count + 1) (s.next (s.next t)) u b f c))))

    list_closed : (t m u : Token) → literal (s.next t) ≡ true → (f : Fits s (many (then (is (Symbol Comma)) scalar_literal)) (s.next (s.next t)) m) → Fits s (is (Symbol CloseList)) m u
        → IsRight (Elements t.start (suc (repeats f)) m.end) (GC.array_literal s t)
    unfolding GC.array_literal GC.list_from
    list_closed t m u l f (one c) =
        rw (lit_no_close (s.next t) l)
        (recounted (Elements t.start (0 + suc (repeats f)) m.end) (Elements t.start (suc (repeats f)) m.end) (GC.elements 32 s t.start 0 (s.next t))
        (ap (λ (x : ℕ). Elements t.start x m.end) (omega arith)) (elements_read 32 t.start 0 (s.next t) m l f c))

    right_list : (t u : Token) (f : Fits s array_literal_rule t u) → IsRight (array_right f) (GC.array_literal s t)
    unfolding GC.array_literal GC.list_from element_count array_right close_of
    right_list t u (join (one a) (join none (one c))) = rw c refl
    right_list t u (join (one a) (join {m = m} (just (join (one l) f)) c)) = list_closed t m u l f c

    right_array_law : (o : Operator) (t u : Token) → equality o ≡ true → (f : Fits s array_literal_rule t u) → IsRight (array_right f) (GC.operand s true o t)
    unfolding GC.operand
    right_array_law o t u q f = let a = open_first s roomy t u f in rw (open_no_literal t a) (rw (a, q) (right_list t u f))

    right_pattern : (t u : Token) (f : Fits s like_pattern t u) → IsRight (pattern_right f) (GC.pattern s t)
    unfolding GC.pattern pattern_right
    right_pattern t u (one a) = rw a refl

    -- comparisons
    compared : (t m : Token) (a : LeftSide) (o : Operator) (b : RightSide) → GC.left_side s t ≡ Ok (a, m) → comparing m ≡ Some o
        → IsRight b (GC.operand s (plain a.quantifier a.index) o (s.next m)) → IsComparison (comparison a (Compare o) b) (GC.property_comp s t)
    unfolding GC.property_comp GC.comp_left GC.comp_operation GC.right_side
    compared t m a o b e f g =
        rw e (rw (operation_is s roomy (single a.quantifier) m o f) (comp_right a (Compare o) b (GC.operand s (plain a.quantifier a.index) o (s.next m)) g))

    like_is : (m w : Token) (f : Fits s like_op m w) (a : LeftSide) → GC.comp_operation s a (GC.operation s true m) ≡ GC.comp_of a (like_operation f) (GC.pattern s w)
    unfolding GC.operation GC.operation_by GC.like GC.not_like GC.comp_operation GC.right_side like_operation
    like_is m w (join none (one a)) x = rw (word_no_operator m Reserved.Like a) (rw a refl)
    like_is m w (join (just (one n)) (one a)) x =
        rw (word_no_operator m Reserved.Not n) (rw (other m (Word Reserved.Not) (Word Reserved.Like) n refl) (rw n (rw a refl)))

    matched : (t m w : Token) (a : LeftSide) (l : Fits s like_op m w) (b : RightSide) → GC.left_side s t ≡ Ok (a, m) → single a.quantifier ≡ true → IsRight b (GC.pattern s w)
        → IsComparison (comparison a (like_operation l) b) (GC.property_comp s t)
    unfolding GC.property_comp GC.comp_left
    matched t m w a l b e f g = rw e (rw f (rw (like_is m w l a) (comp_right a (like_operation l) b (GC.pattern s w) g)))

    -- a left side of each form, before an operator
    module _ (t m : Token) (e : operates (comparing m) ≡ true) where
      plain_before : (f : Fits s property t m) → GC.left_side s t ≡ Ok (plain_left f, m)
      plain_before f = left_plain t m f (op_no_dot m e) (op_no_index m e)

      each_before : (f : Fits s (then array_op property) t m) → GC.left_side s t ≡ Ok (each_left f, m)
      each_before f = left_many t m f (op_no_dot m e)

    not_whole : {t m : Token} (f : Fits s (element s) t m) → plain (element_left f).quantifier (element_left f).index ≡ false
    unfolding element_left
    not_whole (join f g) = refl

    not_single : {t m : Token} (f : Fits s (then array_op property) t m) → plain (each_left f).quantifier (each_left f).index ≡ false
    unfolding each_left quantifier_of
    not_single (join (join n (left a)) f) = refl
    not_single (join (join n (right a)) f) = refl

    one_element : {t m : Token} (f : Fits s (element s) t m) → single (element_left f).quantifier ≡ true
    unfolding element_left
    one_element (join f g) = refl

    -- what fits property-comp, with neither a dot nor a bracket after it
    pub comparison_is : (t u : Token) (f : Fits s (property_comp_rule s) t u) → same u (Symbol Dot) ≡ false → same u (Symbol OpenIndex) ≡ false
        → IsComparison (comparison_of f) (GC.property_comp s t)
    unfolding comparison_of plain_left scalar_operation array_operation
    comparison_is t u (left (join f (join (one {t = m} e) g))) d b =
        let o = equator_is (comparing m) e in
        compared t m (plain_left f) (equator_by (comparing m) e) (array_right g) (plain_before t m (equates_operates (comparing m) e) f) o.0 (right_array_law (equator_by (comparing m) e) (s.next m) u o.1 g)
    comparison_is t u (right (left (join f (join (one {t = m} e) g)))) d b =
        let o = equator_is (comparing m) e in
        compared t m (plain_left f) (equator_by (comparing m) e) (plain_right g) (plain_before t m (equates_operates (comparing m) e) f) o.0 (right_property_law true (equator_by (comparing m) e) (s.next m) u g d refl)
    comparison_is t u (right (right (left (join f (join (one {t = m} e) g))))) d b =
        compared t m (plain_left f) (operator_by (comparing m) e) (literal_right g) (plain_before t m e f) (operator_is (comparing m) e) (right_literal true (operator_by (comparing m) e) (s.next m) u g)
    comparison_is t u (right (right (right (left (join f (join (one {t = m} e) g)))))) d b =
        compared t m (plain_left f) (operator_by (comparing m) e) (plain_right g) (plain_before t m e f) (operator_is (comparing m) e) (right_property_law true (operator_by (comparing m) e) (s.next m) u g d refl)
    comparison_is t u (right (right (right (right (left (join f (join (one {t = m} e) g))))))) d b =
        compared t m (element_left f) (operator_by (comparing m) e) (literal_right g) (left_indexed t m f) (operator_is (comparing m) e) (rw (not_whole f) (right_literal false (operator_by (comparing m) e) (s.next m) u g))
    comparison_is t u (right (right (right (right (right (left (join f (join (one {t = m} e) g)))))))) d b =
        compared t m (element_left f) (operator_by (comparing m) e) (plain_right g) (left_indexed t m f) (operator_is (comparing m) e) (rw (not_whole f) (right_property_law false (operator_by (comparing m) e) (s.next m) u g d b))
    comparison_is t u (right (right (right (right (right (right (left (join f (join (one {t = m} e) g))))))))) d b =
        compared t m (element_left f) (operator_by (comparing m) e) (element_right g) (left_indexed t m f) (operator_is (comparing m) e) (rw (not_whole f) (right_element (operator_by (comparing m) e) (s.next m) u g))
    comparison_is t u (right (right (right (right (right (right (right (left (join f (join (one {t = m} e) g)))))))))) d b =
        compared t m (each_left f) (operator_by (comparing m) e) (literal_right g) (each_before t m e f) (operator_is (comparing m) e) (rw (not_single f) (right_literal false (operator_by (comparing m) e) (s.next m) u g))
    comparison_is t u (right (right (right (right (right (right (right (right (left (join f (join (one {t = m} e) g))))))))))) d b =
        compared t m (each_left f) (operator_by (comparing m) e) (plain_right g) (each_before t m e f) (operator_is (comparing m) e) (rw (not_single f) (right_property_law false (operator_by (comparing m) e) (s.next m) u g d b))
    comparison_is t u (right (right (right (right (right (right (right (right (right (left (join f (join (one {t = m} e) g)))))))))))) d b =
        compared t m (each_left f) (operator_by (comparing m) e) (element_right g) (each_before t m e f) (operator_is (comparing m) e) (rw (not_single f) (right_element (operator_by (comparing m) e) (s.next m) u g))
    comparison_is t u (right (right (right (right (right (right (right (right (right (right (left (join {m = m} f (join {m = w} l g))))))))))))) d b =
        matched t m w (plain_left f) l (pattern_right g) (left_plain t m f (like_first s roomy m w l).0 (like_first s roomy m w l).1) refl (right_pattern w u g)
    comparison_is t u (right (right (right (right (right (right (right (right (right (right (right (join {m = m} f (join {m = w} l g))))))))))))) d b =
        matched t m w (element_left f) l (pattern_right g) (left_indexed t m f) (one_element f) (right_pattern w u g)
