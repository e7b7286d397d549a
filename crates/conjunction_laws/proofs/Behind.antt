use Rattle.token.proofs.Stands.{after_standing, close_there}
-- What stands behind a token: whitespace up to the next one, and where that one is `)` or the end, a byte that ends every token.
use Prim.Native.Nat.{ℕ, ◌+◌, ◌≤◌}
use mathlib.Core.Path.{◌≡◌, refl, sym, ap, ◌∙◌}
use mathlib.Core.List.{List}
use mathlib.Core.Logic.{◌⊎◌, inl, inr}
use mathlib.Core.Bool.{Bool, true, false, not, ◌&&◌, ◌||◌, true≢false, false≢true}
use native.Mathlib.Omega.{arith}
use lib.ListN.{length}
use lib.Dec.{ltb, leb, eqb}
use borrow.Author.Tests.{ltb-true, ltb-false, leb-true, eqb-true}
use Rattle.base.specs.Pick.{pick}
use Rattle.base.specs.Part.{byte_at}
use Rattle.base.proofs.Lists.{byte_past}
use Rattle.record.specs.Name.{letter}
use Rattle.scan.specs.Class.{white, in_class, run}
use Rattle.scan.specs.declared.Class.TheVariants.{White}
use Rattle.scan.proofs.Runs.{run_from, run_holds}
use Rattle.scan.proofs.Alike.{stop}
use Rattle.token.specs.declared.Form.TheVariants.{Decimal, Binary, Hex, Real}
use Rattle.token.specs.declared.Punctuation.TheVariants.{Close}
use Rattle.token.specs.declared.TokenKind.{TokenKind}
use Rattle.token.specs.declared.TokenKind.TheVariants.{End, NoToken, Number, Text, Symbol}
use Rattle.token.specs.declared.Token.{Token}
use Rattle.token.specs.Token.{token, is_token, fitted, longer, word_token, number_token, text_token, symbol_of, symbol_token, word_or_number, longest_at, token_from, token_at, apart, token_after}
use Rattle.token.proofs.Spans.{word_some}
use Rattle.token.proofs.Steps.{past_white}
use Rattle.terminal.specs.Terminal.{code}
use Rattle.terminal.proofs.KindCodes.{code_tells}

pub white_stops : (b : ℕ) → white b ≡ true → stop b ≡ true
unfolding stop
white_stops b h = rw h (go (eqb b 0) (eqb b 41))
  where
    go : (x y : Bool) → (x || (y || true)) ≡ true
    go true y = refl
    go false true = refl
    go false false = refl

module _ (q : List ℕ) where
  -- where the next token starts
  apart_start : (c : Bool) (e : ℕ) (t : Token) → (apart c e t).start ≡ t.start
  unfolding apart
  apart_start c e t = go ((c && word_or_number t.kind) && eqb t.start e)
    where
      go : (d : Bool) → (pick d (token NoToken t.start t.start) t).start ≡ t.start
      go true = refl
      go false = refl

  pub after_start : (x : Token) → (token_after q x).start ≡ run White q x.end
  unfolding token_after
  after_start x = apart_start (word_or_number x.kind) x.end (token_at q x.end) ∙ (past_white q x.end).begins

  -- the end is found at the end only
  abbrev not_end : TokenKind → Bool
  not_end k = not (eqb (code k) 0)

  real_kind : (k : TokenKind) → is_token k ≡ true → not_end k ≡ true
  unfolding is_token
  real_kind k h = go (eqb (code k) 0) refl
    where
      go : (b : Bool) → eqb (code k) 0 ≡ b → not b ≡ true
      go true e = absurd (false≢true (sym (ap is_token (code_tells k End (eqb-true (code k) 0 e))) ∙ h))
      go false e = refl

  none_kind : (a : Token) (s : ℕ) (b : Bool) → not_end a.kind ≡ true → not_end (pick b a (token NoToken s s)).kind ≡ true
  none_kind a s true h = h
  none_kind a s false h = refl

  longer_kind : (a b : Token) → not_end a.kind ≡ true → not_end b.kind ≡ true → not_end (longer a b).kind ≡ true
  unfolding longer
  longer_kind a b h k = go (ltb a.end b.end)
    where
      go : (c : Bool) → not_end (pick c b a).kind ≡ true
      go true = k
      go false = h

  fitted_kind : (k : TokenKind) (s e : ℕ) → not_end k ≡ true → not_end (fitted k s e).kind ≡ true
  unfolding fitted
  fitted_kind k s e h = none_kind (token k s e) s (ltb s e) h

  symbol_kind : (k : TokenKind) (s n : ℕ) → not_end (symbol_of k s n).kind ≡ true
  unfolding symbol_of
  symbol_kind k s n = go (is_token k) refl
    where
      go : (c : Bool) → is_token k ≡ c → not_end (pick c (token k s (s + n)) (token NoToken s s)).kind ≡ true
      go true e = real_kind k e
      go false e = refl

  longest_kind : (s : ℕ) → not_end (longest_at q s).kind ≡ true
  unfolding longest_at word_token number_token text_token symbol_token
  longest_kind s =
      longer_kind (word_token q s) _ (none_kind _ s (letter (byte_at q s)) (fitted_kind _ s _ (real_kind _ (word_some _))))
      (longer_kind (number_token q s) _
      (longer_kind _ _ (fitted_kind (Number Decimal) s _ refl) (longer_kind _ _ (fitted_kind (Number Binary) s _ refl) (longer_kind _ _ (fitted_kind (Number Hex) s _ refl) (fitted_kind (Number Real) s _ refl))))
      (longer_kind (text_token q s) (symbol_token q s) (fitted_kind Text s _ refl) (longer_kind _ _ (symbol_kind _ s 2) (symbol_kind _ s 1))))

  ended : (at : ℕ) → (token_at q at).kind ≡ End → length q ≤ run White q at
  unfolding token_at token_from
  ended at e = go (leb (length q) (run White q at)) refl e
    where
      go : (c : Bool) → leb (length q) (run White q at) ≡ c → (pick c (token End (run White q at) (run White q at)) (longest_at q (run White q at))).kind ≡ End → length q ≤ run White q at
      go true l e = leb-true (length q) (run White q at) l
      go false l e = absurd (true≢false (sym (longest_kind (run White q at)) ∙ ap not_end e))

  pub after_ended : (x : Token) → (token_after q x).kind ≡ End → length q ≤ run White q x.end
  unfolding token_after apart
  after_ended x e = go ((word_or_number x.kind && word_or_number (token_at q x.end).kind) && eqb (token_at q x.end).start x.end) e
    where
      go : (c : Bool) → (pick c (token NoToken (token_at q x.end).start (token_at q x.end).start) (token_at q x.end)).kind ≡ End → length q ≤ run White q x.end
      go true e = let z : ◌≡◌ {A = ℕ} 0 1 = cc in absurd (omega arith)
      go false e = ended x.end e

  -- ---- behind the last token of a group stands whitespace, `)` or nothing
  pub stops_behind : (x : Token) → x.end ≤ length q → ((token_after q x).kind ≡ Symbol Close) ⊎ ((token_after q x).kind ≡ End) → stop (byte_at q x.end) ≡ true
  unfolding in_class stop is_token
  stops_behind x h k = go (ltb x.end (run White q x.end)) refl k
    where
      here : ltb x.end (run White q x.end) ≡ false → (token_after q x).start ≡ x.end
      here l = omega (arith, after_start x, run_from White q x.end, ltb-false x.end (run White q x.end) l)

      go : (c : Bool) → ltb x.end (run White q x.end) ≡ c → ((token_after q x).kind ≡ Symbol Close) ⊎ ((token_after q x).kind ≡ End) → stop (byte_at q x.end) ≡ true
      go true l k = white_stops (byte_at q x.end) (run_holds White q x.end x.end (omega arith) (ltb-true x.end (run White q x.end) l))
      go false l (inl e) =
          let p = close_there q (token_after q x) (after_standing q x (ap is_token e)) e in
          let b : byte_at q x.end ≡ 41 = ap (byte_at q) (sym (here l)) ∙ p in
          rw b refl
      go false l (inr e) =
          let m = after_ended x e in
          rw (← byte_past q x.end (omega (arith, run_from White q x.end, ltb-false x.end (run White q x.end) l))) refl
