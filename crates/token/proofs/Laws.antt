-- Bounds of tokens, from the equations that the code learns.
use Prim.Native.Nat.{ℕ, ◌+◌, ◌≤◌, ◌<◌}
use mathlib.Core.Path.{◌≡◌, sym}
use mathlib.Core.List.{List}
use mathlib.Core.Bool.{true}
use native.Mathlib.Omega.{arith}
use lib.ListN.{length}
use borrow.Author.Tests.{le-ltb}
use Rattle.base.specs.Part.{byte_at}
use Rattle.token.specs.declared.TokenKind.{TokenKind}
use Rattle.token.specs.declared.TokenKind.TheVariants.{End, NoToken}
use Rattle.token.specs.declared.Token.{Token}
use Rattle.token.specs.Token.{token, is_token, fitted, longer, word_kind, pair_kind, single_kind, symbol_of, Spans, SpansFrom}
use Rattle.token.proofs.Spans.{fitted_spans, longer_spans, symbol_spans, word_some, pair_within, single_within}

module _ (n s : ℕ) where
  pub fit_spans : {t : Token} (k : TokenKind) (e : ℕ) → t ≡ fitted k s e → is_token k ≡ true → s ≤ e → e ≤ n → Spans n s t
  fit_spans k e h y a b = rw h (fitted_spans n s e k y a b)

  pub long_spans : {t a b : Token} → t ≡ longer a b → Spans n s a → Spans n s b → Spans n s t
  long_spans {t} {a} {b} h f g = rw h (longer_spans n s a b f g)

  pub sym_spans : {t : Token} (k : TokenKind) (w : ℕ) → t ≡ symbol_of k s w → 0 < w → s ≤ n → (is_token k ≡ true → s + w ≤ n) → Spans n s t
  sym_spans k w h l m f = rw h (symbol_spans n s w k l m f)

pub word_kind_some : {k : TokenKind} (w : List ℕ) → k ≡ word_kind w → is_token k ≡ true
word_kind_some w h = rw h (word_some w)

module _ (q : List ℕ) (s : ℕ) where
  pub pair_fits : {k : TokenKind} (b c : ℕ) → k ≡ pair_kind b c → b ≡ byte_at q s → c ≡ byte_at q (s + 1) → is_token k ≡ true → s + 2 ≤ length q
  pair_fits b c h e f y = pair_within q s (rw (h, e, f) at y)

  pub single_fits : {k : TokenKind} (b : ℕ) → k ≡ single_kind b → b ≡ byte_at q s → is_token k ≡ true → s + 1 ≤ length q
  single_fits b h e y = single_within q s (rw (h, e) at y)

module _ (n at s : ℕ) (h : at ≤ s) (m : s ≤ n) where
  pub end_spans : SpansFrom n at (token End s s)
  unfolding is_token
  end_spans = record { begins = h; ends = omega arith; within = m; moves = sym (le-ltb s s (omega arith)) }

  pub no_spans : SpansFrom n at (token NoToken s s)
  unfolding is_token
  no_spans = record { begins = h; ends = omega arith; within = m; moves = sym (le-ltb s s (omega arith)) }

pub from_spans : {t : Token} (n at s : ℕ) → at ≤ s → Spans n s t → SpansFrom n at t
from_spans n at s h f = record { begins = omega arith; ends = omega arith; within = f.within; moves = rw f.begins f.moves }
