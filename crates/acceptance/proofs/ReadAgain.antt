-- What the check and Meaning read again from the text is what the grammar read there, of every comparison of every query: by what the comparison derives from.
use Prim.Native.Nat.{ℕ, suc}
use mathlib.Core.Path.{◌≡◌, refl, sym, ap, ◌∙◌, subst}
use mathlib.Core.List.{List, [], ◌∷◌}
use mathlib.Core.Bool.{true}
use native.Mathlib.Omega.{arith}
use Rattle.std.specs.Prelude.{All, Some}
use Rattle.std.proofs.lemmas.List.Elements.{All-cons}
use Rattle.token.specs.declared.Punctuation.TheVariants.{OpenList, Comma}
use Rattle.token.specs.declared.Reserved.TheVariants.{Like}
use Rattle.token.specs.declared.TokenKind.TheVariants.{Symbol, Word}
use Rattle.token.specs.declared.Token.{Token}
use Rattle.token.specs.Token.{token_after}
use Rattle.terminal.specs.Terminal.{same}
use Rattle.syntax.specs.declared.comparison.Comparison.{Comparison}
use Rattle.syntax.specs.Scan.{scan}
use Rattle.query_text.specs.declared.join.Join.{Join}
use Rattle.query_text.specs.declared.join.Join.TheVariants.{Inner, Outer}
use Rattle.query_text.specs.Query as Query
use Rattle.query_text.specs.Query.{Comparisons, only}
use Rattle.grammar.specs.Abnf.{Fits, one, join, left, right, none, just, stop, more, many, then, is, like_op, bool_op, in_brackets, element, array_op, property, like_pattern, scalar_literal, array_literal_rule, property_comp_rule, fql_expr, bracketed, fql}
use Rattle.grammar.specs.Limits.{repeats, element_count}
use Rattle.acceptance.specs.Comparisons.{index_in, plain_left, element_left, each_left, literal_right, pattern_right, plain_right, element_right, array_right, literals_after, literals_of, comparison_of, bool_op_of, followed, in_expr, in_groups, comparisons_in}
use Rattle.grammar.proofs.SoundQuery.{query_derives}
use Rattle.operand.specs.Element.{next_element, elements_from, first_element, element_tokens}
use Rattle.acceptance.specs.Reading.{Among, alone, first, later, IsRead}
use Rattle.acceptance.specs.ReadAgain.{IsLiteral, IndexAgain, RightAgain, ReadAgain}
use Rattle.acceptance.proofs.DerivedQuery.{read_derived}
use Rattle.acceptance.proofs.Tokens.{literal_stands, pattern_stands, index_stands, brace_again}

module _ (q : List ℕ) where
  no_literal : All (IsLiteral q) []
  no_literal k d h = absurd (omega (arith, h))

  -- ---- the scalar-literals of an array-literal
  after_stand : {t e : Token} (k : Fits (scan q) (many (then (is (Symbol Comma)) scalar_literal)) t e) → All (IsLiteral q) (literals_after k)
  unfolding literals_after
  after_stand stop = no_literal
  after_stand (more (join (one {t = c} a) (one l)) k) = All-cons (IsLiteral q) (token_after q c) (literals_after k) (literal_stands q c l) (after_stand k)

  literals_stand : {t e : Token} (f : Fits (scan q) array_literal_rule t e) → All (IsLiteral q) (literals_of f)
  unfolding literals_of
  literals_stand (join o (join none c)) = no_literal
  literals_stand (join (one {t = b} o) (join (just (join (one l) k)) c)) = All-cons (IsLiteral q) (token_after q b) (literals_after k) (literal_stands q b l) (after_stand k)

  -- listed from one on, past its comma, which is at v
  after_listed : (t v : Token) {e : Token} (k : Fits (scan q) (many (then (is (Symbol Comma)) scalar_literal)) v e) → v ≡ token_after q t → elements_from q t (suc (repeats k)) ≡ t ∷ literals_after k
  unfolding elements_from literals_after repeats
  after_listed t v stop h = refl
  after_listed t v (more (join (one a) (one l)) k) h =
      let n : next_element q t ≡ token_after q v = ap (token_after q) (sym h) in
      ap (λ (x : List Token). t ∷ x) (ap (λ (x : Token). elements_from q x (suc (repeats k))) n ∙ after_listed (token_after q v) (token_after q (token_after q v)) k refl)

  all_listed : {b e : Token} (f : Fits (scan q) array_literal_rule b e) → elements_from q (token_after q b) (element_count f) ≡ literals_of f
  unfolding elements_from element_count literals_of
  all_listed (join (one o) (join none c)) = refl
  all_listed (join (one {t = b} o) (join (just (join (one l) k)) c)) = after_listed (token_after q b) (token_after q (token_after q b)) k refl

  brace_first : {b e : Token} → Fits (scan q) array_literal_rule b e → same b (Symbol OpenList) ≡ true
  brace_first (join (one o) f) = o

  -- ---- a side that stands behind a token
  array_again : (m : Token) {e : Token} (f : Fits (scan q) array_literal_rule (token_after q m) e) → RightAgain q (array_right f)
  unfolding array_right first_element
  array_again m {e} f =
      let b = brace_again q m OpenList (brace_first f) in
      let l : element_tokens q (token_after q m).start (element_count f) ≡ literals_of f = ap (λ (t : Token). elements_from q (token_after q t) (element_count f)) b ∙ all_listed f in
      record { brace = token_after q m; past = e; derives = f; starts = refl; found = b; counted = refl; listed = l; literals = subst (All (IsLiteral q)) (sym l) (literals_stand f) }

  literal_again : (m : Token) {e : Token} (f : Fits (scan q) scalar_literal (token_after q m) e) → RightAgain q (literal_right f)
  unfolding literal_right
  literal_again m (one l) = literal_stands q m l

  pattern_again : (m : Token) {e : Token} (f : Fits (scan q) like_pattern (token_after q m) e) → RightAgain q (pattern_right f)
  unfolding pattern_right
  pattern_again m (one l) = pattern_stands q m l

  index_again : {t e : Token} (g : Fits (scan q) (in_brackets (scan q)) t e) → IndexAgain q (Some (index_in g))
  unfolding index_in
  index_again (join (one {t = t} o) (join (one u) c)) = index_stands q t u

  plain_left_law : {t e : Token} (f : Fits (scan q) property t e) → IndexAgain q (plain_left f).index
  unfolding plain_left
  plain_left_law f = tt

  element_left_law : {t e : Token} (f : Fits (scan q) (element (scan q)) t e) → IndexAgain q (element_left f).index
  unfolding element_left
  element_left_law (join f g) = index_again g

  each_left_law : {t e : Token} (f : Fits (scan q) (then array_op property) t e) → IndexAgain q (each_left f).index
  unfolding each_left
  each_left_law (join o f) = tt

  plain_right_law : {t e : Token} (f : Fits (scan q) property t e) → RightAgain q (plain_right f)
  unfolding plain_right
  plain_right_law f = tt

  element_right_law : {t e : Token} (f : Fits (scan q) (element (scan q)) t e) → RightAgain q (element_right f)
  unfolding element_right
  element_right_law (join f g) = index_again g

  behind_word : {m w e : Token} (l : Fits (scan q) (is (Word Like)) m w) (f : Fits (scan q) like_pattern w e) → RightAgain q (pattern_right f)
  behind_word (one {t = m} l) f = pattern_again m f

  behind_like : {m w e : Token} (l : Fits (scan q) like_op m w) (f : Fits (scan q) like_pattern w e) → RightAgain q (pattern_right f)
  behind_like (join n l) f = behind_word l f

  -- ---- a comparison, line by line
  comparison_again : {t e : Token} (f : Fits (scan q) (property_comp_rule (scan q)) t e) → ReadAgain q (comparison_of f)
  unfolding comparison_of
  comparison_again (left (join a (join (one {t = m} o) b))) = record { index = plain_left_law a; right = array_again m b }
  comparison_again (right (left (join a (join o b)))) = record { index = plain_left_law a; right = plain_right_law b }
  comparison_again (right (right (left (join a (join (one {t = m} o) b))))) = record { index = plain_left_law a; right = literal_again m b }
  comparison_again (right (right (right (left (join a (join o b)))))) = record { index = plain_left_law a; right = plain_right_law b }
  comparison_again (right (right (right (right (left (join a (join (one {t = m} o) b))))))) = record { index = element_left_law a; right = literal_again m b }
  comparison_again (right (right (right (right (right (left (join a (join o b)))))))) = record { index = element_left_law a; right = plain_right_law b }
  comparison_again (right (right (right (right (right (right (left (join a (join o b))))))))) = record { index = element_left_law a; right = element_right_law b }
  comparison_again (right (right (right (right (right (right (right (left (join a (join (one {t = m} o) b)))))))))) = record { index = each_left_law a; right = literal_again m b }
  comparison_again (right (right (right (right (right (right (right (right (left (join a (join o b))))))))))) = record { index = each_left_law a; right = plain_right_law b }
  comparison_again (right (right (right (right (right (right (right (right (right (left (join a (join o b)))))))))))) = record { index = each_left_law a; right = element_right_law b }
  comparison_again (right (right (right (right (right (right (right (right (right (right (left (join a (join o b))))))))))))) = record { index = plain_left_law a; right = behind_like o b }
  comparison_again (right (right (right (right (right (right (right (right (right (right (right (join a (join o b))))))))))))) = record { index = element_left_law a; right = behind_like o b }

  -- ---- every comparison of a derivation
  abbrev Each : Comparisons → Type 0
  Each l = (c : Comparison) → Among c l → ReadAgain q c

  only_each : (c : Comparison) → ReadAgain q c → Each (only c)
  only_each c h d alone = h

  more_each : (c : Comparison) (j : Join) (l : Comparisons) → ReadAgain q c → Each l → Each (Query.more c j l)
  more_each c j l h k d first = h
  more_each c j l h k d (later i) = k d i

  module _ (end : Comparison → Comparisons) (ends : (c : Comparison) → ReadAgain q c → Each (end c)) where
    followed_each : {t m e : Token} (c : Fits (scan q) (property_comp_rule (scan q)) t m) (k : Fits (scan q) (many (then bool_op (property_comp_rule (scan q)))) m e) → Each (followed end c k)
    unfolding followed
    followed_each c stop = ends (comparison_of c) (comparison_again c)
    followed_each c (more (join o d) k) = more_each (comparison_of c) (Inner (bool_op_of o)) (followed end d k) (comparison_again c) (followed_each d k)

    expr_each : {t e : Token} (f : Fits (scan q) (fql_expr (scan q)) t e) → Each (in_expr end f)
    unfolding in_expr
    expr_each (join c k) = followed_each c k

  groups_each : {t e : Token} (k : Fits (scan q) (many (then bool_op (bracketed (scan q)))) t e) → ((c : Comparison) → ReadAgain q c → Each (in_groups k c))
  unfolding in_groups
  groups_each stop = λ c h. only_each c h
  groups_each (more (join o (join a (join f b))) k) = λ c h. more_each c (Outer (bool_op_of o)) (in_expr (in_groups k) f) h (expr_each (in_groups k) (groups_each k) f)

  derived_each : {t e : Token} (f : Fits (scan q) (fql (scan q)) t e) → Each (comparisons_in f)
  unfolding comparisons_in
  derived_each (left f) = expr_each only only_each f
  derived_each (right (join (join a (join f b)) k)) = expr_each (in_groups k) (groups_each k) f

  -- of every comparison that is read from the query
  pub read_again : (c : Comparison) → IsRead q c → ReadAgain q c
  read_again c (l, e, i) = let d = query_derives q l e in derived_each d.1 c (subst (Among c) (read_derived q l e d) i)
