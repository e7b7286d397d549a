-- The left side of a comparison that is refused: its tokens up to, but not with, the fault's begin what fits property-comp; and so does a token that opens one.
use Rattle.std.specs.Prelude.{Err, None, Ok, Option, Result, Some}
use Prim.Native.Nat.{ℕ, zero, suc}
use mathlib.Core.Path.{◌≡◌, refl}
use mathlib.Core.List.{List}
use mathlib.Core.Logic.{◌⊎◌, inl, inr}
use mathlib.Core.Bool.{Bool, true, false, ◌&&◌, ◌||◌, false≢true}
use Rattle.base.specs.Pick.{pick}
use Rattle.base.proofs.Says.{and_both}
use Rattle.token.specs.declared.Reserved.TheVariants as Reserved
use Rattle.token.specs.declared.Punctuation.TheVariants.{OpenIndex, CloseIndex, Dot}
use Rattle.token.specs.declared.TokenKind.TheVariants.{Name, Symbol, Word}
use Rattle.token.specs.declared.Token.{Token}
use Rattle.terminal.specs.declared.quantifier.Quantifier.{Quantifier}
use Rattle.terminal.specs.declared.quantifier.Quantifier.TheVariants.{Single, Any, Every}
use Rattle.terminal.specs.Terminal.{opening, same, word, quantifying}
use Rattle.syntax.specs.declared.path.Path.{Path}
use Rattle.syntax.specs.Property as GP
use Rattle.syntax.specs.Comparison as GC
use Rattle.syntax.specs.Scan.{Scan, skip}
use Rattle.grammar.specs.Abnf.{Rule, Fits, one, join, left, right, none, just, stop, more, then, or, many, is, scalar_comp_op, dot_name, property, index, in_brackets, element, array_op, scalar_literal, property_comp_rule}
use Rattle.grammar.proofs.SoundComp.{PathOk, LeftFits}
use Rattle.grammar.proofs.SoundComp.{path_ok}
use Rattle.grammar_places.proofs.Numbers.{numbered, by_number}
use Rattle.grammar_places.proofs.Begun as B
use Rattle.grammar_places.proofs.Begun.{complete_stop, complete_then, complete_left, Sames, Read, read, at_number, Begun, here, in_first, in_second, Joins}
use Rattle.grammar_places.proofs.Rules.{s_name, s_dot_name, s_property, s_element, s_array_op, s_quantified, c_is, c_word, c_index, c_property, c_value, r_mark, r_index, r_not}
use Rattle.syntax.specs.declared.left_side.LeftSide.{LeftSide}

module _ (q : List ℕ) where
  abbrev S : Scan
  S = by_number q

  abbrev F : ℕ → Token
  F = numbered q

  -- property
  abbrev DotsBegun : ℕ → Result (Path × Token) ℕ → Type 0
  DotsBegun i (Ok (p, u)) = Unit
  DotsBegun i (Err x) = Begun q (λ s. many dot_name) i x

  more_dots : (i : ℕ) (r : Result (Path × Token) ℕ) → same (F i) (Symbol Dot) ≡ true → word (F (suc i)) ≡ true → DotsBegun (suc (suc i)) r → DotsBegun i r
  more_dots i (Ok (p, u)) b w f = tt
  more_dots i (Err x) b w f =
      let r : Read q (λ s. dot_name) i (suc (suc i)) = read q (s_dot_name q) i (suc (suc i)) (join (one b) (one w)) in
      in_second q r f (λ s t m e g h. more g h)

  dots_by : (n : ℕ) (p : Path) (i : ℕ) (b w : Bool) → same (F i) (Symbol Dot) ≡ b → word (F (suc i)) ≡ w → DotsBegun (suc (suc i)) (GP.dotted n S (GP.one_more p (F (suc i))) (F (suc (suc i))))
      → DotsBegun i (elim b [ true ↦ elim w [ true ↦ GP.dotted n S (GP.one_more p (F (suc i))) (F (suc (suc i))) | false ↦ Err (suc i) ] | false ↦ Ok (p, F i) ])
  dots_by n p i true true b w f = more_dots i (GP.dotted n S (GP.one_more p (F (suc i))) (F (suc (suc i)))) b w f
  dots_by n p i true false b w f = in_second q (r_mark q Dot i b) (here q c_word (suc i)) (λ s t m e g h. more (join g h) stop)
  dots_by n p i false w b e f = tt

  dots_begun : (n : ℕ) (p : Path) (i : ℕ) → DotsBegun i (GP.dotted n S p (F i))
  unfolding GP.dotted
  dots_begun zero p i = tt
  dots_begun (suc n) p i = dots_by n p i (same (F i) (Symbol Dot)) (word (F (suc i))) refl refl (dots_begun n (GP.one_more p (F (suc i))) (suc (suc i)))

  r_name : (i : ℕ) → same (F i) Name ≡ true → Read q (λ s. is Name) i (suc i)
  r_name i e = read q (s_name q) i (suc i) (one e)

  abbrev PathBegun : ℕ → Result (Path × Token) ℕ → Type 0
  PathBegun i (Ok (p, u)) = Unit
  PathBegun i (Err x) = Begun q (λ s. property) i x

  property_of_law : (i : ℕ) (r : Result (Path × Token) ℕ) → same (F i) Name ≡ true → DotsBegun (suc i) r → PathBegun i r
  property_of_law i (Ok (p, u)) e f = tt
  property_of_law i (Err x) e f =
      in_second q (r_name i e) f (λ s t m e g h. left (join g h))

  property_by : (i : ℕ) (b : Bool) → same (F i) Name ≡ b → PathBegun i (pick b (GP.dotted S.size S (GP.first_name (F i)) (F (suc i))) (Err i))
  property_by i true e = property_of_law i (GP.dotted S.size S (GP.first_name (F i)) (F (suc i))) e (dots_begun S.size (GP.first_name (F i)) (suc i))
  property_by i false e = here q c_property i

  property_begun : (i : ℕ) → PathBegun i (GP.property S (F i))
  unfolding GP.property
  property_begun i = property_by i (same (F i) Name) refl

  -- "[" index "]", where one may stand
  abbrev IndexBegun : Bool → ℕ → Result (Option Token × Token) ℕ → Type 0
  IndexBegun a i (Ok (k, u)) = Unit
  IndexBegun a i (Err x) = (a ≡ true) × Begun q (λ s. in_brackets s) i x

  index_close : (a : Bool) (i : ℕ) (d : Bool) → a ≡ true → same (F i) (Symbol OpenIndex) ≡ true → S.unsigned (F (suc i)) ≡ true
      → IndexBegun a i (pick d (Ok (Some (F (suc i)), F (suc (suc (suc i))))) (Err (suc (suc i))))
  index_close a i true l o n = tt
  index_close a i false l o n =
      let b : Begun q (λ s. then (index s) (is (Symbol CloseIndex))) (suc i) (suc (suc i)) = in_second q (r_index q (suc i) n) (here q (c_is B.close_index) (suc (suc i))) (λ s t m e g h. join g h) in
      (l, in_second q (r_mark q OpenIndex i o) b (λ s t m e g h. join g h))

  index_number_law : (a : Bool) (i : ℕ) (d : Bool) → a ≡ true → same (F i) (Symbol OpenIndex) ≡ true → S.unsigned (F (suc i)) ≡ d
      → IndexBegun a i (pick d (GP.close_index S (F (suc i)) (F (suc (suc i)))) (Err (suc i)))
  unfolding GP.close_index
  index_number_law a i true l o n = index_close a i (same (F (suc (suc i))) (Symbol CloseIndex)) l o n
  index_number_law a i false l o n = (l, in_second q (r_mark q OpenIndex i o) (here q (complete_then c_index (c_is B.close_index)) (suc i)) (λ s t m e g h. join g h))

  index_by_law : (a : Bool) (i : ℕ) (d : Bool) → a && same (F i) (Symbol OpenIndex) ≡ d → IndexBegun a i (pick d (GP.index_number S (F (suc i))) (Ok (None, F i)))
  unfolding GP.index_number
  index_by_law a i true e = let w = and_both a (same (F i) (Symbol OpenIndex)) e in index_number_law a i (S.unsigned (F (suc i))) w.0 w.1 refl
  index_by_law a i false e = tt

  index_begun : (a : Bool) (i : ℕ) → IndexBegun a i (GP.indexed S a (F i))
  unfolding GP.indexed
  index_begun a i = index_by_law a i (a && same (F i) (Symbol OpenIndex)) refl

  -- property, or where one may stand, property "[" index "]"
  abbrev pub Reference : Bool → ℕ → ℕ → Type 0
  Reference a i x = Begun q (λ s. property) i x ⊎ ((a ≡ true) × Begun q (λ s. element s) i x)

  abbrev pub ReferenceBegun : Bool → ℕ → Result (Path × Option Token × Token) ℕ → Type 0
  ReferenceBegun a i (Ok (p, k, u)) = Unit
  ReferenceBegun a i (Err x) = Reference a i x

  reference_index : (a : Bool) (i j : ℕ) (p : Path) (r : Result (Option Token × Token) ℕ) → Read q (λ s. property) i j → IndexBegun a j r → ReferenceBegun a i (GP.with_index p r)
  unfolding GP.with_index
  reference_index a i j p (Ok (k, u)) f b = tt
  reference_index a i j p (Err x) f b = inr (b.0, in_second q f b.1 (λ s t m e g h. join g h))

  reference_path : (a : Bool) (i : ℕ) (r : Result (Path × Token) ℕ) → PathOk S (F i) r → PathBegun i r → ReferenceBegun a i (GP.with_path S a r)
  unfolding GP.with_path
  reference_path a i (Ok (p, u)) f b =
      at_number q (λ s. property) (s_property q) i u f (λ (t : Token). ReferenceBegun a i (GP.with_index p (GP.indexed S a t)))
      (λ j g. reference_index a i j p (GP.indexed S a (F j)) (read q (s_property q) i j g) (index_begun a j))
  reference_path a i (Err x) f b = inl b

  pub reference_begun : (a : Bool) (i : ℕ) → ReferenceBegun a i (GP.reference S a (F i))
  unfolding GP.reference
  reference_begun a i = reference_path a i (GP.property S (F i)) (path_ok S (F i)) (property_begun i)

  -- what a left side fits, by its quantifier and index; and the lines of property-comp that start with it
  abbrev pub left_rule : Quantifier → Option Token → Scan → Rule
  left_rule Single None s = property
  left_rule Single (Some i) s = element s
  left_rule Any i s = then array_op property
  left_rule Every i s = then array_op property

  pub left_fits : (k : Quantifier) (x : Option Token) (t u : Token) → LeftFits S k x t u → Fits S (left_rule k x S) t u
  left_fits Single None t u f = f
  left_fits Single (Some i) t u f = f
  left_fits Any x t u f = f
  left_fits Every x t u f = f

  pub s_left : (k : Quantifier) (x : Option Token) → Sames q (left_rule k x)
  s_left Single None T = s_property q T
  s_left Single (Some i) T = s_element q T
  s_left Any x T = s_quantified q T
  s_left Every x T = s_quantified q T

  pub with_literal : (k : Quantifier) (x : Option Token) → Joins (left_rule k x) (λ s. then scalar_comp_op scalar_literal) (λ s. property_comp_rule s)
  with_literal Single None s t m e g h = right (right (left (join g h)))
  with_literal Single (Some i) s t m e g h = right (right (right (right (left (join g h)))))
  with_literal Any x s t m e g h = right (right (right (right (right (right (right (left (join g h))))))))
  with_literal Every x s t m e g h = right (right (right (right (right (right (right (left (join g h))))))))

  -- ---- the left side
  abbrev pub LeftBegun : ℕ → Result (LeftSide × Token) ℕ → Type 0
  LeftBegun i (Ok (a, u)) = Unit
  LeftBegun i (Err x) = Begun q (λ s. property_comp_rule s) i x

  left_single : (i : ℕ) (n : Bool) (r : Result (Path × Option Token × Token) ℕ) → ReferenceBegun true i r → LeftBegun i (GC.left_of i n Single r)
  unfolding GC.left_of
  left_single i n (Ok (p, k, u)) b = tt
  left_single i n (Err x) (inl b) = in_first q b c_value (with_literal Single None)
  left_single i n (Err x) (inr b) = in_first q b.1 c_value (with_literal Single (Some (F i)))

  quantified : {i x : ℕ} → Begun q (λ s. then array_op property) i x → Begun q (λ s. property_comp_rule s) i x
  quantified b = in_first q b c_value (with_literal Any None)

  negated : Joins (λ s. is (Word Reserved.Not)) (λ s. then (or (is (Word Reserved.Any)) (is (Word Reserved.Every))) property) (λ s. then array_op property)
  negated s t m e g (join x y) = join (join (just g) x) y

  negated_first : (i : ℕ) → same (F i) (Word Reserved.Not) ≡ true → Begun q (λ s. property_comp_rule s) i (suc i)
  negated_first i e = quantified (in_second q (r_not q i e) (here q (complete_then (complete_left (c_is B.any)) c_property) (suc i)) negated)

  left_quantified : (i j : ℕ) (n : Bool) (k : Quantifier) (r : Result (Path × Option Token × Token) ℕ) → Read q (λ s. array_op) i j → ReferenceBegun false j r → LeftBegun i (GC.left_of i n k r)
  unfolding GC.left_of
  left_quantified i j n k (Ok (p, y, u)) o b = tt
  left_quantified i j n k (Err x) o (inl b) = quantified (in_second q o b (λ s t m e g h. join g h))
  left_quantified i j n k (Err x) o (inr b) = absurd (false≢true b.0)

  r_array_op : (i j : ℕ) → Fits S array_op (F i) (F j) → Read q (λ s. array_op) i j
  r_array_op i j f = read q (s_array_op q) i j f

  left_by_law : (i : ℕ) (n : Bool) (a b : Bool) → same (F i) (Word Reserved.Not) ≡ n → same (skip S n (F i)) (Word Reserved.Any) ≡ a → same (skip S n (F i)) (Word Reserved.Every) ≡ b
      → LeftBegun i (GC.left_by S i n (pick a Any (pick b Every Single)) (skip S n (F i)))
  unfolding GC.left_by
  left_by_law i true true b e f g =
      left_quantified i (suc (suc i)) true Any (GP.reference S false (F (suc (suc i)))) (r_array_op i (suc (suc i)) (join (just (one e)) (left (one f)))) (reference_begun false (suc (suc i)))
  left_by_law i false true b e f g =
      left_quantified i (suc i) false Any (GP.reference S false (F (suc i))) (r_array_op i (suc i) (join none (left (one f)))) (reference_begun false (suc i))
  left_by_law i true false true e f g =
      left_quantified i (suc (suc i)) true Every (GP.reference S false (F (suc (suc i)))) (r_array_op i (suc (suc i)) (join (just (one e)) (right (one g)))) (reference_begun false (suc (suc i)))
  left_by_law i false false true e f g =
      left_quantified i (suc i) false Every (GP.reference S false (F (suc i))) (r_array_op i (suc i) (join none (right (one g)))) (reference_begun false (suc i))
  left_by_law i true false false e f g = negated_first i e
  left_by_law i false false false e f g = left_single i false (GP.reference S true (F i)) (reference_begun true i)

  pub left_begun : (i : ℕ) → LeftBegun i (GC.left_side S (F i))
  unfolding GC.left_side GC.left_at quantifying
  left_begun i =
      left_by_law i (same (F i) (Word Reserved.Not)) (same (skip S (same (F i) (Word Reserved.Not)) (F i)) (Word Reserved.Any)) (same (skip S (same (F i) (Word Reserved.Not)) (F i)) (Word Reserved.Every)) refl refl refl

  -- a token that opens a comparison begins one
  pub opened : (i : ℕ) → opening (F i) ≡ true → Begun q (λ s. property_comp_rule s) i (suc i)
  unfolding opening
  opened i = by (same (F i) Name) (same (F i) (Word Reserved.Not)) (same (F i) (Word Reserved.Any)) (same (F i) (Word Reserved.Every)) refl refl refl refl
    where
      array_op_first : Fits S array_op (F i) (F (suc i)) → Begun q (λ s. property_comp_rule s) i (suc i)
      array_op_first f = quantified (in_second q (r_array_op i (suc i) f) (here q c_property (suc i)) (λ s t m e g h. join g h))

      by : (a b c d : Bool) → same (F i) Name ≡ a → same (F i) (Word Reserved.Not) ≡ b → same (F i) (Word Reserved.Any) ≡ c → same (F i) (Word Reserved.Every) ≡ d
          → (a || (b || (c || d))) ≡ true → Begun q (λ s. property_comp_rule s) i (suc i)
      by true b c d e f g h o = in_first q (in_second q (r_name i e) (here q complete_stop (suc i)) (λ s t m e g h. left (join g h))) c_value (with_literal Single None)
      by false true c d e f g h o = negated_first i f
      by false false true d e f g h o = array_op_first (join none (left (one g)))
      by false false false true e f g h o = array_op_first (join none (right (one h)))
      by false false false false e f g h o = absurd (false≢true o)
