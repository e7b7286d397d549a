-- One token a step: each step moves forward and ends at its token's end, within the text.
use Prim.Native.Nat.{ℕ, ◌+◌, ◌-◌, ◌≤◌, ◌<◌}
use mathlib.Core.Path.{◌≡◌, refl, sym, ap, ◌∙◌}
use mathlib.Core.List.{List}
use mathlib.Core.Bool.{Bool, true, false, ◌&&◌}
use native.Mathlib.Omega.{arith}
use lib.ListN.{length}
use lib.Dec.{leb, eqb}
use borrow.Author.Tests.{ltb-true, ltb-false, leb-true, leb-false, le-ltb}
use Rattle.base.specs.Pick.{pick}
use Rattle.base.specs.Part.{part, byte_at}
use Rattle.record.specs.Name.{letter}
use Rattle.scan.specs.Class.{run}
use Rattle.scan.specs.declared.Class.TheVariants as Class
use Rattle.scan.proofs.Runs.{run_stop, run_end, run_from, run_stops, white_no_zero}
use Rattle.scan.proofs.Ends.{Ends, ends_within, run_ends}
use Rattle.string_literal.specs.Text.{string_literal}
use Rattle.string_literal.proofs.Ends.{string_ends}
use Rattle.numeral.specs.Numeral.{decimal_literal, binary_literal, hex_literal, real_literal}
use Rattle.numeral.proofs.Bounds.{decimal_ends, binary_ends, hex_ends, real_ends}
use Rattle.token.specs.declared.Form.TheVariants.{Decimal, Binary, Hex, Real}
use Rattle.token.specs.declared.TokenKind.{TokenKind}
use Rattle.token.specs.declared.TokenKind.TheVariants.{End, NoToken, Number, Text}
use Rattle.token.specs.declared.Token.{Token}
use Rattle.token.specs.declared.reader.Reader.{Reader}
use Rattle.token.specs.Token.{token, is_token, fitted, word_kind, word_token, number_token, text_token, pair_kind, single_kind, symbol_token, longest_at, token_from, token_at, word_or_number, apart, token_after, Spans, SpansFrom}
use Rattle.token.specs.Reader.{moved_past, Step}
use Rattle.token.proofs.Spans.{none_spans, fitted_spans, longer_spans, symbol_spans, word_some, pair_within, single_within}
use Rattle.token.proofs.Laws.{end_spans, no_spans, from_spans}

-- at a place within the text
module _ (q : List ℕ) (s : ℕ) (h : s ≤ length q) where
  ends_spans : (k : TokenKind) (e : ℕ) → is_token k ≡ true → Ends (length q) s e → Spans (length q) s (fitted k s e)
  ends_spans k e t w = fitted_spans (length q) s e k t w.from (ends_within w h)

  word_spans : Spans (length q) s (word_token q s)
  unfolding word_token
  word_spans = go (letter (byte_at q s))
    where
      go : (t : Bool) → Spans (length q) s (pick t (fitted (word_kind (part q s (run Class.Word q s - s))) s (run Class.Word q s)) (token NoToken s s))
      go true = ends_spans (word_kind (part q s (run Class.Word q s - s))) (run Class.Word q s) (word_some (part q s (run Class.Word q s - s))) (run_ends Class.Word q s)
      go false = none_spans (length q) s h

  number_spans : Spans (length q) s (number_token q s)
  unfolding number_token is_token
  number_spans =
      longer_spans (length q) s _ _ (ends_spans (Number Decimal) (decimal_literal q s) refl (decimal_ends q s))
      (longer_spans (length q) s _ _ (ends_spans (Number Binary) (binary_literal q s) refl (binary_ends q s))
      (longer_spans (length q) s _ _ (ends_spans (Number Hex) (hex_literal q s) refl (hex_ends q s)) (ends_spans (Number Real) (real_literal q s) refl (real_ends q s))))

  text_spans : Spans (length q) s (text_token q s)
  unfolding text_token is_token
  text_spans = ends_spans Text (string_literal q s) refl (string_ends q s)

  symbols_span : Spans (length q) s (symbol_token q s)
  unfolding symbol_token
  symbols_span =
      longer_spans (length q) s _ _ (symbol_spans (length q) s 2 (pair_kind (byte_at q s) (byte_at q (s + 1))) (omega arith) h (pair_within q s))
      (symbol_spans (length q) s 1 (single_kind (byte_at q s)) (omega arith) h (single_within q s))

  pub longest_spans : Spans (length q) s (longest_at q s)
  unfolding longest_at
  longest_spans = longer_spans (length q) s _ _ word_spans (longer_spans (length q) s _ _ number_spans (longer_spans (length q) s _ _ text_spans symbols_span))

module _ (q : List ℕ) where
  pub at_spans : (at : ℕ) → at ≤ length q → SpansFrom (length q) at (token_at q at)
  unfolding token_at token_from
  at_spans at h = go (leb (length q) (run Class.White q at))
    where
      w : Ends (length q) at (run Class.White q at)
      w = run_ends Class.White q at

      go : (t : Bool) → SpansFrom (length q) at (pick t (token End (run Class.White q at) (run Class.White q at)) (longest_at q (run Class.White q at)))
      go true = end_spans (length q) at (run Class.White q at) w.from (ends_within w h)
      go false = from_spans (length q) at (run Class.White q at) w.from (longest_spans q (run Class.White q at) (ends_within w h))

  apart_spans : (n at : ℕ) (b : Bool) (t : Token) → SpansFrom n at t → SpansFrom n at (apart b at t)
  unfolding apart
  apart_spans n at b t f = go ((b && word_or_number t.kind) && eqb t.start at)
    where
      go : (c : Bool) → SpansFrom n at (pick c (token NoToken t.start t.start) t)
      go true = no_spans n at t.start f.begins (omega (arith, f.ends, f.within))
      go false = f

  pub after_spans : (t : Token) → t.end ≤ length q → SpansFrom (length q) t.end (token_after q t)
  unfolding token_after
  after_spans t h = apart_spans (length q) t.end (word_or_number t.kind) (token_at q t.end) (at_spans t.end h)

-- a token that is one has moved
pub moves_on : {n at : ℕ} {t : Token} → SpansFrom n at t → is_token t.kind ≡ true → t.start < t.end
moves_on f e = ltb-true _ _ (sym f.moves ∙ e)

-- so a reader that goes from token to token gets on
pub step_forward : (q : List ℕ) (t : Token) → t.end ≤ length q → is_token (token_after q t).kind ≡ true → t.end < (token_after q t).end
step_forward q t h e = let f = after_spans q t h in omega (arith, f.begins, moves_on f e)

-- a reader's step, from any place, also one past the end
module _ (q : List ℕ) (at : ℕ) where
  abbrev s : ℕ
  s = run Class.White q at

  pub white_again : run Class.White q s ≡ s
  white_again = go (leb (length q) s) refl
    where
      go : (t : Bool) → leb (length q) s ≡ t → run Class.White q s ≡ s
      go true h = run_end Class.White q s (leb-true (length q) s h)
      go false h = run_stop {r = false} Class.White q s (leb-false (length q) s h) (sym (run_stops Class.White white_no_zero q at)) refl

  pub past_white : Spans (s + length q) s (token_at q at)
  unfolding token_at token_from is_token
  past_white = go (leb (length q) s) refl
    where
      go : (t : Bool) → leb (length q) s ≡ t → Spans (s + length q) s (pick t (token End s s) (longest_at q s))
      go true h = record { begins = refl; ends = omega arith; within = omega arith; moves = sym (le-ltb s s (omega arith)) }
      go false h =
          let f = longest_spans q s (omega (arith, leb-false (length q) s h)) in
          record { begins = f.begins; ends = f.ends; within = omega (arith, f.within); moves = f.moves }

  goes_forward : is_token (token_at q at).kind ≡ true → at < (token_at q at).end
  goes_forward e = omega (arith, run_from Class.White q at, ltb-true s (token_at q at).end (sym past_white.moves ∙ e))

  found_again : is_token (token_at q at).kind ≡ false → token_at q (token_at q at).end ≡ token_at q at
  unfolding token_at
  found_again e =
      let z : (token_at q at).end ≡ s = omega (arith, past_white.ends, ltb-false s (token_at q at).end (sym past_white.moves ∙ e)) in
      ap (λ (i : ℕ). token_from q (run Class.White q i)) z ∙ ap (token_from q) white_again

-- 01: "moves along it, one token a step"
pub one_token_a_step : (r : Reader) → Step r
one_token_a_step r =
    record {
      same = refl;
      begins = omega (arith, run_from Class.White r.query.now r.offset, (past_white r.query.now r.offset).begins);
      ends = refl;
      forward = goes_forward r.query.now r.offset;
      stays = λ e. ap (moved_past r) (found_again r.query.now r.offset e);
      within = λ h. (at_spans r.query.now r.offset h).within;
    }
