-- The grammar's rules over a query's tokens and over another's that agree with them (s-), the tokens that complete each (c-), and single tokens that are read (r-).
use Prim.Native.Nat.{ℕ, suc}
use mathlib.Core.Path.{◌≡◌, refl, sym, ap, ◌∙◌}
use mathlib.Core.List.{List}
use mathlib.Core.Bool.{Bool, true, false, false≢true}
use lib.Dec.{eqb}
use Rattle.base.proofs.Says.{and_both}
use Rattle.scan.specs.Class.{in_class}
use Rattle.scan.specs.declared.Class.TheVariants.{Digit}
use Rattle.base.specs.Part.{byte_at}
use Rattle.token.specs.declared.Reserved.TheVariants as Reserved
use Rattle.token.specs.declared.Form.TheVariants.{Decimal}
use Rattle.token.specs.declared.Punctuation.{Punctuation}
use Rattle.token.specs.declared.Punctuation.TheVariants as Mark
use Rattle.token.specs.declared.TokenKind.{TokenKind}
use Rattle.token.specs.declared.TokenKind.TheVariants.{End, NoToken, Name, Word, Number, Text, Compare, Symbol}
use Rattle.token.specs.declared.Token.{Token}
use Rattle.token.specs.Token.{is_token}
use Rattle.terminal.specs.Terminal.{same, code, word, word_kind, literal, literal_kind, comparing, comparing_kind, unsigned}
use Rattle.terminal.proofs.KindCodes.{kind_is, says_kind}
use Rattle.grammar.specs.Abnf.{Rule, set, then, one, is, operates, equates, scalar_comp_op, array_comp_op, like_op, bool_op, array_op, scoped_name, dot_name, property, index, element, like_pattern, scalar_literal, array_literal_rule, line, property_comp_rule, bracketed}
use Rattle.grammar_places.specs.Place.{tok}
use Rattle.grammar_places.proofs.Numbers.{numbered, by_number}
use Rattle.grammar_places.proofs.Begun as B
use Rattle.grammar_places.proofs.Begun.{Completion, kind_of, Target, Completable, complete_one, complete_then, complete_left, complete_right, complete_stop, Same, sets, thens, ors, maybes, manys, Read, read}

-- what neither the end nor a missing token passes is passed by tokens
only_tokens : (P : TokenKind → Bool) → P End ≡ false → P NoToken ≡ false → (k : TokenKind) → P k ≡ true → is_token k ≡ true
unfolding is_token
only_tokens P e n End h = absurd (false≢true (sym e ∙ h))
only_tokens P e n NoToken h = absurd (false≢true (sym n ∙ h))
only_tokens P e n Name h = refl
only_tokens P e n (Word w) h = refl
only_tokens P e n (Number f) h = refl
only_tokens P e n Text h = refl
only_tokens P e n (Compare o) h = refl
only_tokens P e n (Symbol m) h = refl

number_token_law : (q : List ℕ) (t : Token) → unsigned q t ≡ true → is_token t.kind ≡ true
unfolding unsigned is_token
number_token_law q t h = ap is_token (kind_is t (Number Decimal) (and_both (same t (Number Decimal)) (in_class (Digit 10) (byte_at q t.start)) h).0)

module _ (q : List ℕ) (T : Target) where
  by_kind : (P : TokenKind → Bool) → P End ≡ false → P NoToken ≡ false → Same q T (set (λ (t : Token). P t.kind)) (set (λ (t : Token). P t.kind))
  by_kind P e n = sets (λ k f g h. ap P f ∙ h) (λ k h. only_tokens P e n (tok q k).kind h)

  s_is : (k : TokenKind) → eqb 0 (code k) ≡ false → eqb 1 (code k) ≡ false → Same q T (is k) (is k)
  unfolding same
  s_is k e n = by_kind (λ (x : TokenKind). eqb (code x) (code k)) e n

  pub s_word : Same q T scoped_name scoped_name
  unfolding word
  s_word = by_kind word_kind refl refl

  pub s_literal : Same q T scalar_literal scalar_literal
  unfolding literal
  s_literal = by_kind literal_kind refl refl

  pub s_operator : Same q T scalar_comp_op scalar_comp_op
  unfolding comparing
  s_operator = by_kind (λ (k : TokenKind). operates (comparing_kind k)) refl refl

  pub s_equality : Same q T array_comp_op array_comp_op
  unfolding comparing
  s_equality = by_kind (λ (k : TokenKind). equates (comparing_kind k)) refl refl

  pub s_index : Same q T (index (by_number q)) (index T.scan)
  s_index = sets (λ k f g h. g ∙ h) (λ k h. number_token_law q (tok q k) h)

  pub s_not : Same q T (is (Word Reserved.Not)) (is (Word Reserved.Not))
  s_not = s_is (Word Reserved.Not) refl refl

  pub s_mark : (m : Punctuation) → Same q T (is (Symbol m)) (is (Symbol m))
  s_mark Mark.Open = s_is (Symbol Mark.Open) refl refl
  s_mark Mark.Close = s_is (Symbol Mark.Close) refl refl
  s_mark Mark.OpenIndex = s_is (Symbol Mark.OpenIndex) refl refl
  s_mark Mark.CloseIndex = s_is (Symbol Mark.CloseIndex) refl refl
  s_mark Mark.OpenList = s_is (Symbol Mark.OpenList) refl refl
  s_mark Mark.CloseList = s_is (Symbol Mark.CloseList) refl refl
  s_mark Mark.Comma = s_is (Symbol Mark.Comma) refl refl
  s_mark Mark.Dot = s_is (Symbol Mark.Dot) refl refl

  pub s_name : Same q T (is Name) (is Name)
  s_name = s_is Name refl refl

  pub s_dot_name : Same q T dot_name dot_name
  s_dot_name = thens (s_mark Mark.Dot) s_word

  pub s_property : Same q T property property
  s_property = ors (thens s_name (manys s_dot_name)) (thens (thens s_name (s_mark Mark.Dot)) (thens s_word (manys s_dot_name)))

  pub s_element : Same q T (element (by_number q)) (element T.scan)
  s_element = thens s_property (thens (s_mark Mark.OpenIndex) (thens s_index (s_mark Mark.CloseIndex)))

  pub s_array_op : Same q T array_op array_op
  s_array_op = thens (maybes s_not) (ors (s_is (Word Reserved.Any) refl refl) (s_is (Word Reserved.Every) refl refl))

  pub s_like_op : Same q T like_op like_op
  s_like_op = thens (maybes s_not) (s_is (Word Reserved.Like) refl refl)

  pub s_bool_op : Same q T bool_op bool_op
  s_bool_op = ors (s_is (Word Reserved.And) refl refl) (s_is (Word Reserved.Or) refl refl)

  s_array_literal : Same q T array_literal_rule array_literal_rule
  s_array_literal = thens (s_mark Mark.OpenList) (thens (maybes (thens s_literal (manys (thens (s_mark Mark.Comma) s_literal)))) (s_mark Mark.CloseList))

  s_pattern : Same q T like_pattern like_pattern
  s_pattern = s_is Text refl refl

  s_line : {a b c d e f : Rule} → Same q T a b → Same q T c d → Same q T e f → Same q T (line a c e) (line b d f)
  s_line x y z = thens x (thens y z)

  pub s_quantified : Same q T (then array_op property) (then array_op property)
  s_quantified = thens s_array_op s_property

  pub s_comparison : Same q T (property_comp_rule (by_number q)) (property_comp_rule T.scan)
  s_comparison =
      ors (s_line s_property s_equality s_array_literal)
      (ors (s_line s_property s_equality s_property)
      (ors (s_line s_property s_operator s_literal)
      (ors (s_line s_property s_operator s_property)
      (ors (s_line s_element s_operator s_literal)
      (ors (s_line s_element s_operator s_property)
      (ors (s_line s_element s_operator s_element)
      (ors (s_line s_quantified s_operator s_literal)
      (ors (s_line s_quantified s_operator s_property)
      (ors (s_line s_quantified s_operator s_element)
      (ors (s_line s_property s_like_op s_pattern)
      (s_line s_element s_like_op s_pattern)))))))))))

-- ---- what completes each
pub c_is : (x : Completion) → Completable (λ s. is (kind_of x))
c_is x = complete_one (λ s t. same t (kind_of x)) x (λ s t e u. (says_kind t (kind_of x)).from e)

pub c_word : Completable (λ s. scoped_name)
unfolding word
c_word = complete_one (λ s t. word t) B.name (λ s t e u. ap word_kind e)

pub c_literal : Completable (λ s. scalar_literal)
unfolding literal
c_literal = complete_one (λ s t. literal t) B.number (λ s t e u. ap literal_kind e)

c_operator : Completable (λ s. scalar_comp_op)
unfolding comparing
c_operator = complete_one (λ s t. operates (comparing t)) B.equals (λ s t e u. ap (λ (k : TokenKind). operates (comparing_kind k)) e)

pub c_index : Completable (λ s. index s)
c_index = complete_one (λ s t. s.unsigned t) B.number (λ s t e u. u)

pub c_property : Completable (λ s. property)
c_property = complete_left (complete_then (c_is B.name) complete_stop)

-- an operator and a literal
pub c_value : Completable (λ s. then scalar_comp_op scalar_literal)
c_value = complete_then c_operator c_literal

pub c_comparison : Completable (λ s. property_comp_rule s)
c_comparison = complete_right (complete_right (complete_left (complete_then c_property c_value)))

pub c_bracketed : Completable (λ s. bracketed s)
c_bracketed = complete_then (c_is B.open_group) (complete_then (complete_then c_comparison complete_stop) (c_is B.close_group))

-- ---- single tokens that are read
module _ (q : List ℕ) where
  pub r_mark : (m : Punctuation) (i : ℕ) → same (numbered q i) (Symbol m) ≡ true → Read q (λ s. is (Symbol m)) i (suc i)
  r_mark m i e = read q (λ T. s_mark q T m) i (suc i) (one e)

  pub r_index : (i : ℕ) → (by_number q).unsigned (numbered q i) ≡ true → Read q index i (suc i)
  r_index i e = read q (s_index q) i (suc i) (one e)

  pub r_literal : (i : ℕ) → literal (numbered q i) ≡ true → Read q (λ s. scalar_literal) i (suc i)
  r_literal i e = read q (s_literal q) i (suc i) (one e)

  pub r_not : (i : ℕ) → same (numbered q i) (Word Reserved.Not) ≡ true → Read q (λ s. is (Word Reserved.Not)) i (suc i)
  r_not i e = read q (s_not q) i (suc i) (one e)
