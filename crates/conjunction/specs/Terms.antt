-- A query's terms, one after another.
use Rattle.std.specs.Prelude.{ℕ, ◌-◌, ◌<◌, List, ◌≡◌, length, None, Option, Some}
use Rattle.token.specs.declared.Token.{Token}
use Rattle.query_text.specs.Tree.{Chain, one, then}
use Rattle.conjunction.specs.Groups.{terms_from}

unfoldable pub head : {A : Type 0} → Chain A → A
head (one a) = a
head (then a r) = a

-- the groups of the term that starts with a token
abbrev pub term_at : (query : List ℕ) → Token → Chain (List ℕ)
term_at q t = head (terms_from q t)

-- a term before those behind it
abbrev pub before : (query : List ℕ) → Chain (List ℕ) → Option Token → Chain (Chain (List ℕ))
before q a None = one a
before q a (Some t) = then a (terms_from q t)

-- `next` is the term behind the one that starts with `first`, and nearer to the query's end
pub record Behind (query : List ℕ) (first : Token) (next : Option Token) : Type 0 where
  pub joins : terms_from query first ≡ before query (term_at query first) next
  pub nearer : (t : Token) → next ≡ Some t → length query - t.end < length query - first.end
