-- DSP0212 5.3.1's reserved words are listed for the name of a class (record/specs/Reserved) and, each with its token, for a query (token/specs/Token): the same words.
use Prim.Native.Nat.{ℕ}
use mathlib.Core.Path.{◌≡◌}
use mathlib.Core.List.{List}
use mathlib.Core.Bool.{Bool, true, false}
use Rattle.record.specs.Reserved.{is_reserved}
use Rattle.token.specs.Token.{word_kind}
use Rattle.token.specs.declared.TokenKind.{TokenKind}
use Rattle.token.specs.declared.TokenKind.TheVariants.{End, NoToken, Name, Word, Number, Text, Compare, Symbol}

-- a reserved word's token
unfoldable pub is_reserved_kind : TokenKind → Bool
is_reserved_kind End = false
is_reserved_kind NoToken = false
is_reserved_kind Name = false
is_reserved_kind (Word w) = true
is_reserved_kind (Number f) = false
is_reserved_kind Text = false
is_reserved_kind (Compare o) = false
is_reserved_kind (Symbol m) = false

-- a word is a reserved word's token in a query exactly where it is reserved among names
abbrev pub SameWords : Type 0
SameWords = (word : List ℕ) → is_reserved_kind (word_kind word) ≡ is_reserved word
