-- Tokens of a query's text: those that the grammar takes stand within the text, and a brace is found again at its own place.
use Prim.Native.Nat.{ℕ, ◌<◌}
use mathlib.Core.Path.{◌≡◌, refl, sym, ap, ◌∙◌}
use mathlib.Core.List.{List}
use mathlib.Core.Bool.{Bool, true, false, ◌&&◌, false≢true}
use native.Mathlib.Omega.{arith}
use lib.ListN.{length}
use lib.Dec.{eqb}
use Rattle.base.specs.Pick.{pick}
use Rattle.base.specs.Part.{byte_at}
use Rattle.scan.specs.Class.{run, in_class}
use Rattle.scan.specs.declared.Class.TheVariants as Class
use Rattle.token.specs.declared.Form.TheVariants.{Decimal}
use Rattle.token.specs.declared.Punctuation.{Punctuation}
use Rattle.token.specs.declared.TokenKind.{TokenKind}
use Rattle.token.specs.declared.TokenKind.TheVariants.{End, NoToken, Name, Word, Number, Text, Compare, Symbol}
use Rattle.token.specs.declared.Token.{Token}
use Rattle.token.specs.Token.{token, is_token, token_from, token_at, word_or_number, apart, token_after}
use Rattle.token.proofs.Steps.{after_spans, moves_on, white_again, past_white}
use Rattle.token.proofs.Bounds.{after_moves}
use Rattle.terminal.specs.Terminal.{same, literal, literal_kind, unsigned}
use Rattle.terminal.proofs.KindCodes.{kind_is}
use Rattle.acceptance.specs.ReadAgain.{IsLiteral, IsPattern, IsIndex}

and_first : (a b : Bool) → a && b ≡ true → a ≡ true
and_first true b e = refl
and_first false b e = e

-- ---- a token that stands behind another one starts within the text
literal_token : (k : TokenKind) → literal_kind k ≡ true → is_token k ≡ true
unfolding is_token
literal_token End e = absurd (false≢true e)
literal_token NoToken e = absurd (false≢true e)
literal_token Name e = refl
literal_token (Word w) e = refl
literal_token (Number f) e = refl
literal_token Text e = refl
literal_token (Compare o) e = refl
literal_token (Symbol m) e = refl

module _ (q : List ℕ) (m : Token) where
  starts_within : is_token (token_after q m).kind ≡ true → (token_after q m).start < length q
  starts_within e =
      let w = after_moves q m e in
      let f = after_spans q m (omega (arith, w.0, w.1)) in
      omega (arith, moves_on f e, f.within)

  pub literal_stands : literal (token_after q m) ≡ true → IsLiteral q (token_after q m)
  unfolding literal
  literal_stands e = record { literal = e; within = starts_within (literal_token (token_after q m).kind e) }

  pub pattern_stands : same (token_after q m) Text ≡ true → IsPattern q (token_after q m)
  unfolding is_token
  pattern_stands e = let k = kind_is (token_after q m) Text e in record { text = k; within = starts_within (ap is_token k) }

  pub index_stands : unsigned q (token_after q m) ≡ true → IsIndex q (token_after q m)
  unfolding unsigned is_token
  index_stands e =
      let k = kind_is (token_after q m) (Number Decimal) (and_first (same (token_after q m) (Number Decimal)) (in_class (Class.Digit 10) (byte_at q (token_after q m).start)) e) in
      record { unsigned = e; within = starts_within (ap is_token k) }

  -- ---- a symbol is the token at its own place
  one_kind : (k : TokenKind) (b : Bool) → (u : Token) → (pick b (token NoToken u.start u.start) u).kind ≡ k → is_token k ≡ true → pick b (token NoToken u.start u.start) u ≡ u
  unfolding is_token
  one_kind k true u e h = absurd (false≢true (ap is_token e ∙ h))
  one_kind k false u e h = refl

  found_there : is_token (token_after q m).kind ≡ true → token_after q m ≡ token_at q m.end
  unfolding token_after apart
  found_there h = one_kind (token_after q m).kind ((word_or_number m.kind && word_or_number (token_at q m.end).kind) && eqb (token_at q m.end).start m.end) (token_at q m.end) refl h

  pub found_again : is_token (token_after q m).kind ≡ true → token_at q (token_after q m).start ≡ token_after q m
  unfolding token_at
  found_again h =
      let f = found_there h in
      let s : (token_after q m).start ≡ run Class.White q m.end = ap (λ (t : Token). t.start) f ∙ (past_white q m.end).begins in
      ap (λ (i : ℕ). token_from q (run Class.White q i)) s ∙ ap (token_from q) (white_again q m.end) ∙ sym f

  pub brace_again : (p : Punctuation) → same (token_after q m) (Symbol p) ≡ true → token_at q (token_after q m).start ≡ token_after q m
  unfolding is_token
  brace_again p e = found_again (ap is_token (kind_is (token_after q m) (Symbol p) e))
