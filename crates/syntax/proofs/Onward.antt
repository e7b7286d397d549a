-- No reader goes back: what it hands back stands at its first token or at one after it. Stated of any property of places that holds of the next token's place where it holds of a token's.
use Rattle.std.specs.Prelude.{Err, None, Ok, Option, Result, Some}
use Prim.Native.Nat.{ℕ, zero, suc, ◌+◌}
use mathlib.Core.Bool.{Bool, true, false, not, ◌&&◌}
use Rattle.string_literal.proofs.Bounds.{both_ways}
use Rattle.base.specs.Pick.{pick}
use Rattle.base.specs.declared.order.Operator.{Operator}
use Rattle.token.specs.declared.Reserved.TheVariants as Reserved
use Rattle.token.specs.declared.Punctuation.TheVariants.{OpenIndex, CloseIndex, OpenList, CloseList, Comma, Dot}
use Rattle.token.specs.declared.TokenKind.TheVariants.{Name, Word, Text, Symbol}
use Rattle.token.specs.declared.Token.{Token}
use Rattle.terminal.specs.declared.quantifier.Quantifier.{Quantifier}
use Rattle.terminal.specs.Terminal.{same, word, literal, comparing, quantifying, equality}
use Rattle.syntax.specs.declared.path.Path.{Path}
use Rattle.syntax.specs.declared.left_side.LeftSide.{LeftSide}
use Rattle.syntax.specs.declared.operation.Operation.{Operation}
use Rattle.syntax.specs.declared.operation.Operation.TheVariants.{Compare, Like, NotLike}
use Rattle.syntax.specs.declared.right_side.RightSide.TheVariants.{Elements}
use Rattle.syntax.specs.declared.fault.Fault.{Fault}
use Rattle.syntax.specs.declared.fault.Cause.TheVariants.{Grammar}
use Rattle.syntax.specs.Scan.{Scan, fault, limited, skip}
use Rattle.syntax.specs.Property.{one_more, first_name, dotted, property, close_index, index_number, indexed, with_index, with_path, reference}
use Rattle.syntax.specs.Comparison.{single, plain, left_of, left_by, left_at, left_side, not_like, like, operation_by, operation, elements, list_from, array_literal, operand_of, operand, pattern, right_side, comp_of, comp_operation, comp_left, property_comp}
use Rattle.syntax.specs.declared.right_side.RightSide.{RightSide}
use Rattle.syntax.specs.declared.comparison.Comparison.{Comparison}

-- ---- where a reader's answer stands: at the token after what was read, or at the one that doesn't fit
abbrev pub path_place : Result (Path × Token) ℕ → ℕ
path_place (Ok (p, t)) = t.start
path_place (Err x) = x

abbrev pub index_place : Result (Option Token × Token) ℕ → ℕ
index_place (Ok (i, t)) = t.start
index_place (Err x) = x

abbrev pub reference_place : Result (Path × Option Token × Token) ℕ → ℕ
reference_place (Ok (p, i, t)) = t.start
reference_place (Err x) = x

abbrev pub left_place : Result (LeftSide × Token) ℕ → ℕ
left_place (Ok (a, t)) = t.start
left_place (Err x) = x

abbrev pub operation_place : Result (Operation × Token) ℕ → ℕ
operation_place (Ok (v, t)) = t.start
operation_place (Err x) = x

abbrev pub right_place : Result (RightSide × Token) Fault → ℕ
right_place (Ok (a, t)) = t.start
right_place (Err f) = f.place

abbrev pub comparison_place : Result (Comparison × Token) Fault → ℕ
comparison_place (Ok (c, t)) = t.start
comparison_place (Err f) = f.place

-- ---- what follows a dot, and what follows an element, by the tests of the token there
abbrev pub after_dot : ℕ → Scan → Path → Token → Bool → Result (Path × Token) ℕ
after_dot n s p t d = elim d [ true ↦ dotted n s (one_more p (s.next t)) (s.next (s.next t)) | false ↦ Err (s.next t).start ]

abbrev pub after_element : ℕ → Scan → ℕ → ℕ → Token → Bool → Bool → Result (RightSide × Token) Fault
after_element n s start count t closes comma =
    elim closes [
      | true ↦ Ok (Elements start (count + 1) (s.next t).end, s.next (s.next t))
      | false ↦ elim comma [ true ↦ elements n s start (count + 1) (s.next (s.next t)) | false ↦ Err (fault Grammar (s.next t).start) ]
    ]

-- what holds of a token's place holds of the next one's
pub record Onward (s : Scan) (Past : ℕ → Type 0) : Type 0 where
  pub on : (t : Token) → Past t.start → Past (s.next t).start

module _ {s : Scan} {Past : ℕ → Type 0} (O : Onward s Past) where
  pub either : {A : Type 0} (place : A → ℕ) (b : Bool) (x y : A) → Past (place x) → Past (place y) → Past (place (pick b x y))
  either place b x y f g = both_ways (λ z. Past (place z)) b x y (λ e. f) (λ e. g)

  pub limited_on : (b : Bool) (p : ℕ) → Past p → Past (limited b p).place
  limited_on b p f = either (λ (x : Fault). x.place) b _ _ f f

  -- ---- names
  after_dot_law : (n : ℕ) (p : Path) (t : Token) (d : Bool) → Past (s.next t).start → Past (path_place (dotted n s (one_more p (s.next t)) (s.next (s.next t)))) → Past (path_place (after_dot n s p t d))
  after_dot_law n p t true f g = g
  after_dot_law n p t false f g = f

  pub dots_on : (n : ℕ) (p : Path) (t : Token) → Past t.start → Past (path_place (dotted n s p t))
  unfolding dotted
  dots_on zero p t f = f
  dots_on (suc n) p t f =
      go (same t (Symbol Dot)) (after_dot_law n p t (word (s.next t)) (O.on t f) (dots_on n (one_more p (s.next t)) (s.next (s.next t)) (O.on (s.next t) (O.on t f))))
    where
      go : (b : Bool) → Past (path_place (after_dot n s p t (word (s.next t)))) → Past (path_place (elim b [ true ↦ after_dot n s p t (word (s.next t)) | false ↦ Ok (p, t) ]))
      go true g = g
      go false g = f

  pub after_dot_on : (n : ℕ) (p : Path) (t : Token) (d : Bool) → Past (s.next t).start → Past (path_place (after_dot n s p t d))
  after_dot_on n p t d f = after_dot_law n p t d f (dots_on n (one_more p (s.next t)) (s.next (s.next t)) (O.on (s.next t) f))

  pub property_on : (t : Token) → Past t.start → Past (path_place (property s t))
  unfolding property
  property_on t f = either path_place (same t Name) _ _ (dots_on s.size (first_name t) (s.next t) (O.on t f)) f

  pub close_on : (u t : Token) → Past t.start → Past (index_place (close_index s u t))
  unfolding close_index
  close_on u t f = either index_place (same t (Symbol CloseIndex)) _ _ (O.on t f) f

  pub number_on : (t : Token) → Past t.start → Past (index_place (index_number s t))
  unfolding index_number
  number_on t f = either index_place (s.unsigned t) _ _ (close_on t (s.next t) (O.on t f)) f

  pub indexed_on : (allowed : Bool) (t : Token) → Past t.start → Past (index_place (indexed s allowed t))
  unfolding indexed
  indexed_on allowed t f = either index_place (allowed && same t (Symbol OpenIndex)) _ _ (number_on (s.next t) (O.on t f)) f

  pub with_index_on : (p : Path) (a : Result (Option Token × Token) ℕ) → Past (index_place a) → Past (reference_place (with_index p a))
  unfolding with_index
  with_index_on p (Ok (i, t)) f = f
  with_index_on p (Err x) f = f

  pub with_path_on : (allowed : Bool) (a : Result (Path × Token) ℕ) → Past (path_place a) → Past (reference_place (with_path s allowed a))
  unfolding with_path
  with_path_on allowed (Ok (p, t)) f = with_index_on p (indexed s allowed t) (indexed_on allowed t f)
  with_path_on allowed (Err x) f = f

  pub reference_on : (allowed : Bool) (t : Token) → Past t.start → Past (reference_place (reference s allowed t))
  unfolding reference
  reference_on allowed t f = with_path_on allowed (property s t) (property_on t f)

  -- ---- the left side
  pub skip_on : (b : Bool) (t : Token) → Past t.start → Past (skip s b t).start
  skip_on b t f = either (λ (u : Token). u.start) b _ _ (O.on t f) f

  pub left_of_on : (m : ℕ) (n : Bool) (k : Quantifier) (a : Result (Path × Option Token × Token) ℕ) → Past (reference_place a) → Past (left_place (left_of m n k a))
  unfolding left_of
  left_of_on m n k (Ok (p, i, t)) f = f
  left_of_on m n k (Err x) f = f

  pub left_at_on : (m : ℕ) (n : Bool) (t : Token) → Past t.start → Past (left_place (left_at s m n t))
  unfolding left_at left_by
  left_at_on m n t f =
      either left_place (n && single (quantifying t)) _ _ f
      (left_of_on m n (quantifying t) _ (reference_on (single (quantifying t)) _ (skip_on (not (single (quantifying t))) t f)))

  pub left_on : (t : Token) → Past t.start → Past (left_place (left_side s t))
  unfolding left_side
  left_on t f = left_at_on t.start (same t (Word Reserved.Not)) _ (skip_on (same t (Word Reserved.Not)) t f)

  -- ---- the operator
  pub not_like_on : (t : Token) → Past t.start → Past (operation_place (not_like s t))
  unfolding not_like
  not_like_on t f = either operation_place (same t (Word Reserved.Like)) _ _ (O.on t f) f

  pub operation_on : (alone : Bool) (t : Token) → Past t.start → Past (operation_place (operation s alone t))
  unfolding operation operation_by like
  operation_on alone t f = go (comparing t)
    where
      go : (c : Option Operator) → Past (operation_place (operation_by s alone t c))
      go (Some o) = O.on t f
      go None =
          either operation_place (alone && same t (Word Reserved.Like)) _ _ (O.on t f)
          (either operation_place (alone && same t (Word Reserved.Not)) _ _ (not_like_on (s.next t) (O.on t f)) f)

  -- ---- the right side
  after_element_law : (n start count : ℕ) (t : Token) (b c : Bool) → Past (s.next t).start → Past (right_place (elements n s start (count + 1) (s.next (s.next t))))
      → Past (right_place (after_element n s start count t b c))
  after_element_law n start count t true c f g = O.on (s.next t) f
  after_element_law n start count t false true f g = g
  after_element_law n start count t false false f g = f

  pub elements_on : (n start count : ℕ) (t : Token) → Past t.start → Past (right_place (elements n s start count t))
  unfolding elements
  elements_on zero start count t f = limited_on (literal t) t.start f
  elements_on (suc n) start count t f =
      go (literal t) (after_element_law n start count t (same (s.next t) (Symbol CloseList)) (same (s.next t) (Symbol Comma)) (O.on t f) (elements_on n start (count + 1) _ (O.on (s.next t) (O.on t f))))
    where
      go : (a : Bool) → Past (right_place (after_element n s start count t (same (s.next t) (Symbol CloseList)) (same (s.next t) (Symbol Comma))))
          → Past (right_place (elim a [ true ↦ after_element n s start count t (same (s.next t) (Symbol CloseList)) (same (s.next t) (Symbol Comma)) | false ↦ Err (fault Grammar t.start) ]))
      go true g = g
      go false g = f

  pub after_element_on : (n start count : ℕ) (t : Token) (b c : Bool) → Past (s.next t).start → Past (right_place (after_element n s start count t b c))
  after_element_on n start count t b c f = after_element_law n start count t b c f (elements_on n start (count + 1) _ (O.on (s.next t) f))

  pub list_on : (start : ℕ) (t : Token) → Past t.start → Past (right_place (list_from s start t))
  unfolding list_from
  list_on start t f = either right_place (same t (Symbol CloseList)) _ _ (O.on t f) (elements_on 32 start 0 t f)

  pub operand_of_on : (a : Result (Path × Option Token × Token) ℕ) → Past (reference_place a) → Past (right_place (operand_of a))
  unfolding operand_of
  operand_of_on (Ok (p, i, t)) f = f
  operand_of_on (Err x) f = f

  pub operand_on : (whole : Bool) (o : Operator) (t : Token) → Past t.start → Past (right_place (operand s whole o t))
  unfolding operand array_literal
  operand_on whole o t f =
      either right_place (literal t) _ _ (O.on t f)
      (either right_place (same t (Symbol OpenList) && (whole && equality o)) _ _ (list_on t.start (s.next t) (O.on t f)) (operand_of_on _ (reference_on (not whole) t f)))

  pub pattern_on : (t : Token) → Past t.start → Past (right_place (pattern s t))
  unfolding pattern
  pattern_on t f = either right_place (same t Text) _ _ (O.on t f) f

  pub right_on : (v : Operation) (whole : Bool) (t : Token) → Past t.start → Past (right_place (right_side s v whole t))
  unfolding right_side
  right_on (Compare o) whole t f = operand_on whole o t f
  right_on Like whole t f = pattern_on t f
  right_on NotLike whole t f = pattern_on t f

  -- ---- a comparison
  pub comp_of_on : (a : LeftSide) (v : Operation) (x : Result (RightSide × Token) Fault) → Past (right_place x) → Past (comparison_place (comp_of a v x))
  unfolding comp_of
  comp_of_on a v (Ok (x, t)) f = f
  comp_of_on a v (Err x) f = f

  pub comp_operation_on : (a : LeftSide) (x : Result (Operation × Token) ℕ) → Past (operation_place x) → Past (comparison_place (comp_operation s a x))
  unfolding comp_operation
  comp_operation_on a (Ok (v, t)) f = comp_of_on a v _ (right_on v (plain a.quantifier a.index) t f)
  comp_operation_on a (Err x) f = f

  pub comp_left_on : (x : Result (LeftSide × Token) ℕ) → Past (left_place x) → Past (comparison_place (comp_left s x))
  unfolding comp_left
  comp_left_on (Ok (a, t)) f = comp_operation_on a _ (operation_on (single a.quantifier) t f)
  comp_left_on (Err x) f = f

  pub comparison_on : (t : Token) → Past t.start → Past (comparison_place (property_comp s t))
  unfolding property_comp
  comparison_on t f = comp_left_on (left_side s t) (left_on t f)
