-- A text's tokens by their number, which stands in each token's place: so the place of a fault is the number of its token.
use Prim.Native.Nat.{ℕ, suc, ◌+◌, ◌-◌}
use mathlib.Core.Path.{◌≡◌, refl}
use mathlib.Core.List.{List}
use mathlib.Core.Logic.{inl}
use native.Mathlib.Omega.{arith}
use lib.ListN.{length}
use Rattle.token.specs.declared.Token.{Token}
use Rattle.token.specs.Token.{token, token_after}
use Rattle.terminal.specs.Terminal.{word, unsigned}
use Rattle.syntax.specs.declared.fault.Cause.{Cause}
use Rattle.syntax.specs.Scan.{Scan, scan, fault}
use Rattle.syntax.proofs.Room.{Roomy, roomy_by, names_shorten, roomy}
use Rattle.syntax.proofs.Local.{outer_number}
use Rattle.query_text.specs.Query.{bad, query_start, query}
use Rattle.query_text.proofs.Simulation.{query_at, Corresponds, refused_alike}
use Rattle.grammar_places.specs.Place.{tok}

abbrev pub numbered : List ℕ → ℕ → Token
numbered q n = token (tok q n).kind n n

abbrev pub by_number : List ℕ → Scan
by_number q = record { next = λ t. numbered q (suc t.start); unsigned = λ t. unsigned q (tok q t.start); size = length q + 1 }

pub numbers_roomy : (q : List ℕ) → Roomy (by_number q)
unfolding tok word
numbers_roomy q = roomy_by (by_number q) (λ t. length q - (tok q t.start).end) (λ t w. names_shorten q (tok q t.start) w) (λ t. omega arith)

-- a token and its number
data Numbered (q : List ℕ) : Token → Token → Type 0 where
  at : (i : ℕ) → Numbered q (tok q i) (numbered q i)

all_numbered : (q : List ℕ) → Corresponds (scan q) (by_number q) (Numbered q) (λ p. ⊥)
unfolding tok
all_numbered q =
    record {
      kinds = λ t u h. kind h;
      numbers = λ t u h. number h;
      outer = λ t u h e. outer_number q t e;
      steps = λ t u h. inl (next h);
      onward = record { on = λ t f. f };
    }
  where
    kind : {t u : Token} → Numbered q t u → t.kind ≡ u.kind
    kind (at i) = refl

    number : {t u : Token} → Numbered q t u → unsigned q t ≡ unsigned q (tok q u.start)
    number (at i) = refl

    next : {t u : Token} → Numbered q t u → Numbered q (token_after q t) (numbered q (suc u.start))
    next (at i) = at (suc i)

-- a refused query is refused at one of its tokens, and by their numbers at that token's
pub record Refused (q : List ℕ) (c : Cause) (p : ℕ) : Type 0 where
  pub index : ℕ
  pub starts : p ≡ (tok q index).start
  pub refused : query_at (by_number q) (numbered q 0) ≡ bad (fault c index)

pub refused_at : (q : List ℕ) (c : Cause) (p : ℕ) → query q ≡ bad (fault c p) → Refused q c p
unfolding query query_start tok
refused_at q c p e =
    let f = refused_alike (all_numbered q) (roomy q) (numbers_roomy q) (at 0) c p e (λ z. z) in
    found f.correspond f.starts f.refused
  where
    found : {t u : Token} → Numbered q t u → p ≡ t.start → query_at (by_number q) (numbered q 0) ≡ bad (fault c u.start) → Refused q c p
    found (at i) z h = record { index = i; starts = z; refused = h }
