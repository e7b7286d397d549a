-- The place of 11 and of 12: they are said at a token such that every text with tokens of the same kinds up to it is refused there too.
-- So no text that agrees with the query on every token before the fault's and has that token derives (11), or derives within the limits (12).
use Prim.Native.Nat.{ℕ, suc, ◌+◌, ◌-◌, ◌≤◌, ◌<◌}
use mathlib.Core.Path.{◌≡◌, refl, sym, ap, ◌∙◌}
use mathlib.Core.List.{List}
use mathlib.Core.Logic.{◌⊎◌, inl, inr}
use mathlib.Core.Bool.{Bool, true, false}
use native.Mathlib.Omega.{arith}
use lib.ListN.{length}
use lib.Dec.{ltb}
use borrow.Author.Tests.{ltb-true, ltb-false}
use Rattle.token.specs.declared.TokenKind.TheVariants.{End}
use Rattle.token.specs.declared.Token.{Token}
use Rattle.token.specs.Token.{token, token_after}
use Rattle.token.proofs.Bounds.{nth_from}
use Rattle.terminal.specs.Terminal.{word, unsigned, inside}
use Rattle.syntax.specs.declared.fault.Cause.{Cause}
use Rattle.syntax.specs.declared.fault.Cause.TheVariants.{Grammar, Limit}
use Rattle.syntax.specs.Scan.{Scan, scan, fault}
use Rattle.syntax.proofs.Room.{Roomy, roomy_by, names_shorten, roomy}
use Rattle.syntax.proofs.Local.{outer_number}
use Rattle.query_text.specs.Query.{bad, query_start, query}
use Rattle.query_text.proofs.Simulation.{query_at, Corresponds, refused_alike}
use Rattle.grammar.specs.Abnf.{Derives}
use Rattle.grammar.proofs.Exact.{DerivesWithin, refused_grammar, refused_limit}

-- the tokens of a text, in turn
abbrev pub tok : List ℕ → ℕ → Token
tok q n = nth_from q (token_after q (token End 0 0)) n

-- a text's tokens are of the kinds of another's up to the m-th, unsigned integers among them
abbrev pub Agree : List ℕ → List ℕ → ℕ → Type 0
Agree q r m = (k : ℕ) → k ≤ m → ((tok r k).kind ≡ (tok q k).kind) × (unsigned r (tok r k) ≡ unsigned q (tok q k))

-- ---- a text's tokens by their number, which stands in each token's place: so the place of a fault is the number of its token
abbrev numbered : List ℕ → ℕ → Token
numbered q n = token (tok q n).kind n n

abbrev by_number : List ℕ → Scan
by_number q = record { next = λ t. numbered q (suc t.start); unsigned = λ t. unsigned q (tok q t.start); size = length q + 1 }

numbers_roomy : (q : List ℕ) → Roomy (by_number q)
unfolding nth_from word
numbers_roomy q = roomy_by (by_number q) (λ t. length q - (tok q t.start).end) (λ t w. names_shorten q (tok q t.start) w) (λ t. omega arith)

-- a token and its number
data Numbered (q : List ℕ) : Token → Token → Type 0 where
  at : (i : ℕ) → Numbered q (tok q i) (numbered q i)

all_numbered : (q : List ℕ) → Corresponds (scan q) (by_number q) (Numbered q) (λ p. ⊥)
unfolding nth_from
all_numbered q =
    record {
      kinds = λ t u h. kind h;
      numbers = λ t u h. number h;
      outer = λ t u h e. outer_number q t e;
      steps = λ t u h. inl (next h);
      onward = record { on = λ t f. f };
    }
  where
    kind : {t u : Token} → Numbered q t u → t.kind ≡ u.kind
    kind (at i) = refl

    number : {t u : Token} → Numbered q t u → unsigned q t ≡ unsigned q (tok q u.start)
    number (at i) = refl

    next : {t u : Token} → Numbered q t u → Numbered q (token_after q t) (numbered q (suc u.start))
    next (at i) = at (suc i)

-- the token of that number in a text that agrees so far
data Agreed (q r : List ℕ) (m : ℕ) : Token → Token → Type 0 where
  at : (i : ℕ) → i ≤ m → Agreed q r m (numbered q i) (tok r i)

so_far : (q r : List ℕ) (m : ℕ) → Agree q r m → Corresponds (by_number q) (scan r) (Agreed q r m) (λ p. m < p)
unfolding nth_from
so_far q r m a =
    record {
      kinds = λ t u h. kind h;
      numbers = λ t u h. number h;
      outer = λ t u h. outer h;
      steps = λ t u h. next h;
      onward = record { on = λ t f. omega arith };
    }
  where
    kind : {t u : Token} → Agreed q r m t u → t.kind ≡ u.kind
    kind (at i h) = sym (a i h).0

    number : {t u : Token} → Agreed q r m t u → unsigned q (tok q t.start) ≡ unsigned r u
    number (at i h) = sym (a i h).1

    outer : {t u : Token} → Agreed q r m t u → inside t.kind ≡ false → unsigned q (tok q t.start) ≡ false
    outer (at i h) e = outer_number q (tok q i) e

    next : {t u : Token} → Agreed q r m t u → Agreed q r m (numbered q (suc t.start)) (token_after r u) ⊎ (m < suc t.start)
    next (at i h) = go (ltb i m) refl
      where
        go : (b : Bool) → ltb i m ≡ b → Agreed q r m (numbered q (suc i)) (token_after r (tok r i)) ⊎ (m < suc i)
        go true e = inl (at (suc i) (omega (arith, ltb-true i m e)))
        go false e = inr (omega (arith, ltb-false i m e))

-- ---- the token at which a query is refused: every text with tokens of the same kinds up to it is refused there for the same cause
pub record FaultToken (q : List ℕ) (c : Cause) (p : ℕ) : Type 0 where
  pub index : ℕ
  pub starts : p ≡ (tok q index).start
  pub alike : (r : List ℕ) → Agree q r index → query r ≡ bad (fault c (tok r index).start)

pub fault_token : (q : List ℕ) (c : Cause) (p : ℕ) → query q ≡ bad (fault c p) → FaultToken q c p
unfolding query query_start nth_from
fault_token q c p e =
    let f = refused_alike (all_numbered q) (roomy q) (numbers_roomy q) (at 0) c p e (λ z. z) in
    found f.correspond f.starts f.refused
  where
    agreed : (m : ℕ) → query_at (by_number q) (numbered q 0) ≡ bad (fault c m) → (r : List ℕ) → Agree q r m → query r ≡ bad (fault c (tok r m).start)
    agreed m h r a =
        let f = refused_alike (so_far q r m a) (numbers_roomy q) (roomy r) (at 0 (omega arith)) c m h (λ z. omega arith) in
        there f.correspond f.starts f.refused
      where
        there : {t u : Token} → Agreed q r m t u → m ≡ t.start → query r ≡ bad (fault c u.start) → query r ≡ bad (fault c (tok r m).start)
        there (at i l) z k = k ∙ ap (λ (j : ℕ). bad (fault c (tok r j).start)) (sym z)

    found : {t u : Token} → Numbered q t u → p ≡ t.start → query_at (by_number q) (numbered q 0) ≡ bad (fault c u.start) → FaultToken q c p
    found (at i) z h = record { index = i; starts = z; alike = agreed i h }

-- 11 is said at the first token that no query can have there: the query's tokens up to it are no beginning of what derives
pub place_of_grammar : (q : List ℕ) (p : ℕ) → query q ≡ bad (fault Grammar p) → (m : ℕ) × (p ≡ (tok q m).start) × ((r : List ℕ) → Agree q r m → Derives (scan r) → ⊥)
place_of_grammar q p e =
    let f = fault_token q Grammar p e in (f.index, f.starts, λ r a. refused_grammar r (tok r f.index).start (f.alike r a))

-- 12 is said at a token such that nothing with the query's tokens up to it derives within the limits
pub place_of_limit : (q : List ℕ) (p : ℕ) → query q ≡ bad (fault Limit p) → (m : ℕ) × (p ≡ (tok q m).start) × ((r : List ℕ) → Agree q r m → DerivesWithin r → ⊥)
place_of_limit q p e =
    let f = fault_token q Limit p e in (f.index, f.starts, λ r a. refused_limit r (tok r f.index).start (f.alike r a))
