-- The pattern of a string literal: 01 "Pattern", "after unescaping, at most 256 characters and 60 symbols".
use Rattle.std.specs.Prelude.{ℕ, List, length}
use Rattle.std.proofs.Math.Option.{Option}
use Rattle.pattern.specs.Regex.{Regex}
use Rattle.pattern.specs.Reading.{parse}
use Rattle.matcher.specs.Matcher.{like_of}
use Rattle.matcher.specs.declared.matcher.Matched.{Matched}
use Rattle.token.specs.declared.Token.{Token}
use Rattle.value_literal.specs.LiteralValue.{text_of}

-- the pattern that a string literal's characters make, if they make one
unfoldable pub pattern_of : (query : List ℕ) → Token → Option (Regex ℕ)
pattern_of q t = parse (text_of q t.start)

-- whether the literal's pattern matches a text, and the text's characters
abbrev pub matched : (query : List ℕ) → Token → (characters : List ℕ) → Matched
matched q t cs = record { holds = like_of (pattern_of q t) cs; characters = length cs }
