-- The place of a fault of the grammar, 11, and of a limit, 12, said of the tokens of a query's text.
use Rattle.std.specs.Prelude.{ℕ, zero, suc, ◌<◌, List, ◌≡◌}
use Rattle.token.specs.declared.TokenKind.TheVariants.{End}
use Rattle.token.specs.declared.Token.{Token}
use Rattle.token.specs.Token.{token, token_after}
use Rattle.terminal.specs.Terminal.{unsigned}
use Rattle.syntax.specs.declared.fault.Cause.{Cause}
use Rattle.syntax.specs.Scan.{scan, fault}
use Rattle.query_text.specs.Query.{bad, query}
use Rattle.grammar.specs.Abnf.{Derives}
use Rattle.grammar.specs.Limits.{WithinLimits}

-- a text derives within the limits
abbrev pub DerivesWithin : List ℕ → Type 0
DerivesWithin q = (d : Derives (scan q)) × WithinLimits d.1

-- the tokens of a text, in turn
unfoldable pub tok : List ℕ → ℕ → Token
tok q zero = token_after q (token End 0 0)
tok q (suc n) = token_after q (tok q n)

-- the first n tokens of a text are of the kinds of another's, unsigned integers among them: all that the grammar knows of a token
abbrev pub Agree : List ℕ → List ℕ → ℕ → Type 0
Agree q r n = (k : ℕ) → k < n → ((tok r k).kind ≡ (tok q k).kind) × (unsigned r (tok r k) ≡ unsigned q (tok q k))

-- the token at which a query is refused: every text with its kinds up to and with it is refused there for the same cause
pub record FaultToken (q : List ℕ) (c : Cause) (p : ℕ) : Type 0 where
  pub index : ℕ
  pub starts : p ≡ (tok q index).start
  pub alike : (r : List ℕ) → Agree q r (suc index) → query r ≡ bad (fault c (tok r index).start)

-- a text's first n tokens begin a query: some text has them and derives from `fql`
pub record Begins (q : List ℕ) (n : ℕ) : Type 0 where
  pub text : List ℕ
  pub agrees : Agree q text n
  pub derives : Derives (scan text)

-- p is the start of the first token that no query can have there: the tokens before it begin a query, and with it they begin none.
-- (A query of any size: after 64 comparisons and AND, only a 65th could follow, and `=` there is 11.)
pub record FirstImpossible (q : List ℕ) (p : ℕ) : Type 0 where
  pub index : ℕ
  pub starts : p ≡ (tok q index).start
  pub before : Begins q index
  pub none : Begins q (suc index) → ⊥

-- p is the start of a token that some query has there, but none within the limits
pub record OverLimit (q : List ℕ) (p : ℕ) : Type 0 where
  pub index : ℕ
  pub starts : p ≡ (tok q index).start
  pub begins : Begins q (suc index)
  pub none : (r : List ℕ) → Agree q r (suc index) → DerivesWithin r → ⊥
