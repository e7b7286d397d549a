-- The place of 11 and of 12. Both are said at a token such that every text with tokens of the same kinds up to and with it is refused there too. 11 is said at
-- the first token that no query can have there: the query's tokens before it begin a text that derives from `fql`, and with it they begin none. 12 is said at a token
-- with which they still begin one, but none within the limits.
use Rattle.std.specs.Prelude.{Err, Ok, Result}
use Prim.Native.Nat.{ℕ, suc, ◌≤◌, ◌<◌}
use mathlib.Core.Path.{◌≡◌, refl, sym, ap, ◌∙◌}
use mathlib.Core.List.{List, []}
use mathlib.Core.Logic.{◌⊎◌, inl, inr}
use mathlib.Core.Bool.{Bool, true, false}
use native.Mathlib.Omega.{arith}
use lib.ListN.{length}
use lib.Dec.{ltb}
use borrow.Author.Tests.{ltb-true, ltb-false}
use Rattle.base.specs.Pick.{pick}
use Rattle.encoding.specs.WellFormed.{first_ill_formed}
use Rattle.token.specs.declared.Token.{Token}
use Rattle.token.specs.Token.{token_after}
use Rattle.terminal.specs.Terminal.{unsigned, inside}
use Rattle.syntax.specs.declared.fault.Cause.{Cause}
use Rattle.syntax.specs.declared.fault.Cause.TheVariants.{Length, Grammar, Limit}
use Rattle.syntax.specs.declared.fault.Fault.{Fault}
use Rattle.syntax.specs.Scan.{scan, fault}
use Rattle.syntax.proofs.Room.{roomy}
use Rattle.syntax.proofs.Local.{outer_number}
use Rattle.query_text.specs.Query.{Query, bad, good, query_start, query, verdict}
use Rattle.query_text.specs.Text.{number_of, encoded_verdict, text_verdict}
use Rattle.query_text.proofs.Simulation.{query_at, Corresponds, refused_alike}
use Rattle.grammar.specs.Abnf.{fql}
use Rattle.grammar.proofs.Exact.{refused_grammar, refused_limit}
use Rattle.grammar_places.specs.Place.{tok, Agree, FaultToken, Begins, FirstImpossible, OverLimit}
use Rattle.grammar_places.proofs.Numbers.{numbered, by_number, numbers_roomy, refused_at}
use Rattle.grammar_places.proofs.Begun.{Follows, Begun}
use Rattle.grammar_places.proofs.Query.{refused_begun}
use Rattle.grammar_places.proofs.Spelled.{target_of}
use Rattle.grammar_places.proofs.Continued.{cut_text, kept_agrees, continues}

-- ---- a text that agrees with the query up to and with the fault's token
data Agreed (q r : List ℕ) (m : ℕ) : Token → Token → Type 0 where
  at : (i : ℕ) → i ≤ m → Agreed q r m (numbered q i) (tok r i)

so_far : (q r : List ℕ) (m : ℕ) → Agree q r (suc m) → Corresponds (by_number q) (scan r) (Agreed q r m) (λ p. m < p)
unfolding tok
so_far q r m a =
    record {
      kinds = λ t u h. kind h;
      numbers = λ t u h. number h;
      outer = λ t u h. outer h;
      steps = λ t u h. next h;
      onward = record { on = λ t f. omega arith };
    }
  where
    kind : {t u : Token} → Agreed q r m t u → t.kind ≡ u.kind
    kind (at i h) = sym (a i (omega arith)).0

    number : {t u : Token} → Agreed q r m t u → unsigned q (tok q t.start) ≡ unsigned r u
    number (at i h) = sym (a i (omega arith)).1

    outer : {t u : Token} → Agreed q r m t u → inside t.kind ≡ false → unsigned q (tok q t.start) ≡ false
    outer (at i h) e = outer_number q (tok q i) e

    next : {t u : Token} → Agreed q r m t u → Agreed q r m (numbered q (suc t.start)) (token_after r u) ⊎ (m < suc t.start)
    next (at i h) = go (ltb i m) refl
      where
        go : (b : Bool) → ltb i m ≡ b → Agreed q r m (numbered q (suc i)) (token_after r (tok r i)) ⊎ (m < suc i)
        go true e = inl (at (suc i) (omega (arith, ltb-true i m e)))
        go false e = inr (omega (arith, ltb-false i m e))

-- every text with tokens of the same kinds up to and with the fault's is refused there for the same cause
refused_alike_at : (q : List ℕ) (c : Cause) (m : ℕ) → query_at (by_number q) (numbered q 0) ≡ bad (fault c m) → (r : List ℕ) → Agree q r (suc m) → query r ≡ bad (fault c (tok r m).start)
unfolding query query_start tok
refused_alike_at q c m h r a =
    let f = refused_alike (so_far q r m a) (numbers_roomy q) (roomy r) (at 0 (omega arith)) c m h (λ z. omega arith) in
    there f.correspond f.starts f.refused
  where
    there : {t u : Token} → Agreed q r m t u → m ≡ t.start → query r ≡ bad (fault c u.start) → query r ≡ bad (fault c (tok r m).start)
    there (at i l) z k = k ∙ ap (λ (j : ℕ). bad (fault c (tok r j).start)) (sym z)

pub fault_token : (q : List ℕ) (c : Cause) (p : ℕ) → query q ≡ bad (fault c p) → FaultToken q c p
fault_token q c p e = let f = refused_at q c p e in record { index = f.index; starts = f.starts; alike = refused_alike_at q c f.index f.refused }

-- the tokens before the fault's begin a query
continued : (q : List ℕ) (m : ℕ) → Begun q (λ s. fql s) 0 m → Begins q m
unfolding tok Follows
continued q m b =
    let c = b.completion [] in
    let f = b.fits (target_of (cut_text q m b.stands c)) [] (kept_agrees q m b.stands c) (continues q m b.stands c) in
    record { text = cut_text q m b.stands c; agrees = kept_agrees q m b.stands c; derives = (tok (cut_text q m b.stands c) f.to, f.fits, f.follows) }

-- 11 is placed at the first token that no query can have there
pub place_of_grammar : (q : List ℕ) (p : ℕ) → query q ≡ bad (fault Grammar p) → FirstImpossible q p
unfolding query query_start
place_of_grammar q p e =
    let f = refused_at q Grammar p e in
    record {
      index = f.index;
      starts = f.starts;
      before = continued q f.index (refused_begun q (fault Grammar f.index) f.refused);
      none = λ b. refused_grammar b.text (tok b.text f.index).start (refused_alike_at q Grammar f.index f.refused b.text b.agrees) b.derives;
    }

-- 12 is placed at a token that some query has there, but none within the limits
pub place_of_limit : (q : List ℕ) (p : ℕ) → query q ≡ bad (fault Limit p) → OverLimit q p
unfolding query query_start
place_of_limit q p e =
    let f = refused_at q Limit p e in
    record {
      index = f.index;
      starts = f.starts;
      begins = continued q (suc f.index) (refused_begun q (fault Limit f.index) f.refused);
      none = λ r a. refused_limit r (tok r f.index).start (refused_alike_at q Limit f.index f.refused r a);
    }

-- ---- the same of what is said of a text: a fault of the grammar or of a limit is the query's
abbrev number_in : Result (Unit {0}) Fault → ℕ
number_in (Ok tt) = 0
number_in (Err f) = number_of f.cause

abbrev fault_in : Fault → Result (Unit {0}) Fault → Fault
fault_in d (Ok tt) = d
fault_in d (Err f) = f

said_query : (q : List ℕ) (f : Fault) → 10 < number_of f.cause → text_verdict q ≡ Err f → query q ≡ bad f
unfolding text_verdict encoded_verdict verdict
said_query q f n e = go (ltb 4096 (length q)) e
  where
    whole : (x : Query) → query q ≡ x → verdict x ≡ Err f → query q ≡ bad f
    whole (bad g) z e = z ∙ ap (λ (v : Result (Unit {0}) Fault). bad (fault_in f v)) e
    whole (good l) z e = let y = ap number_in e in absurd (omega arith)

    encoded : (u : Result (Unit {0}) ℕ) → encoded_verdict q u ≡ Err f → query q ≡ bad f
    encoded (Err p) e = let y = ap number_in e in absurd (omega arith)
    encoded (Ok u) e = whole (query q) refl e

    go : (t : Bool) → pick t (Err (fault Length 0)) (encoded_verdict q (first_ill_formed q)) ≡ Err f → query q ≡ bad f
    go true e = let y = ap number_in e in absurd (omega arith)
    go false e = encoded (first_ill_formed q) e

pub said_grammar : (q : List ℕ) (p : ℕ) → text_verdict q ≡ Err (fault Grammar p) → FirstImpossible q p
said_grammar q p e = place_of_grammar q p (said_query q (fault Grammar p) (omega arith) e)

pub said_limit : (q : List ℕ) (p : ℕ) → text_verdict q ≡ Err (fault Limit p) → OverLimit q p
said_limit q p e = place_of_limit q p (said_query q (fault Limit p) (omega arith) e)
