-- 000 5.3.2, array-literal = "{" [scalar-literal *( "," scalar-literal ) ] "}": the tokens of its elements.
use Rattle.std.specs.Prelude.{ℕ, zero, suc, List, [], ◌∷◌}
use Rattle.token.specs.Token.{token_at, token_after}
use Rattle.token.specs.declared.Token.{Token}

-- past a comma
abbrev pub next_element : (query : List ℕ) → Token → Token
next_element q t = token_after q (token_after q t)

-- so many from one on
unfoldable pub elements_from : (query : List ℕ) → Token → (count : ℕ) → List Token
elements_from q t zero = []
elements_from q t (suc n) = t ∷ elements_from q (next_element q t) n

-- past the brace, which stands at the literal's start
unfoldable pub first_element : (query : List ℕ) (start : ℕ) → Token
first_element q start = token_after q (token_at q start)

abbrev pub element_tokens : (query : List ℕ) (start count : ℕ) → List Token
element_tokens q start count = elements_from q (first_element q start) count
