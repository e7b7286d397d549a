-- 01 "Query text": "The reader borrows the query text and moves along it, one token a step."
use Rattle.std.specs.Prelude.{ℕ, ◌≤◌, ◌<◌, ◌≡◌, List, true, false, length}
use Rattle.std.specs.Borrow.{Bor}
use Rattle.token.specs.declared.Token.{Token}
use Rattle.token.specs.declared.reader.Reader.{Reader}
use Rattle.token.specs.Token.{is_token, token_at}

abbrev pub reader_at : Bor (List ℕ) → ℕ → Reader
reader_at query offset = record { query = query; offset = offset }

-- the first token from the offset on
abbrev pub next_token : Reader → Token
next_token r = token_at r.query.now r.offset

-- the same text, read up to a token's end
abbrev pub moved_past : Reader → Token → Reader
moved_past r t = reader_at r.query t.end

-- one step
abbrev pub stepped : Reader → Reader
stepped r = moved_past r (next_token r)

-- a step ends at the end of its token, which starts where the reader stood or after it. It goes forward where a token stands. Where none does, at the end
-- or at what is no token, a further step stays there
pub record Step (r : Reader) : Type 0 where
  pub same : (stepped r).query ≡ r.query
  pub begins : r.offset ≤ (next_token r).start
  pub ends : (stepped r).offset ≡ (next_token r).end
  pub forward : is_token (next_token r).kind ≡ true → r.offset < (stepped r).offset
  pub stays : is_token (next_token r).kind ≡ false → stepped (stepped r) ≡ stepped r
  pub within : r.offset ≤ length r.query.now → (stepped r).offset ≤ length r.query.now
