-- 02 Q-7: "Each group is the text between its brackets, or the whole unbracketed query, without outer whitespace". conjunction/specs/Groups goes from a group's first token to its
-- last; `Trims` says that this is the same.
use Rattle.std.specs.Prelude.{ℕ, ◌-◌, ◌≤◌, ◌≡◌, List, [], ◌∷◌, true, false, length, Some}
use Rattle.base.specs.Pick.{pick}
use Rattle.base.specs.Part.{part}
use Rattle.scan.specs.Class.{white}
use Rattle.token.specs.declared.Punctuation.TheVariants.{Open, Close}
use Rattle.token.specs.declared.TokenKind.TheVariants.{End, Symbol}
use Rattle.token.specs.declared.Token.{Token}
use Rattle.token.specs.Token.{token, token_after}
use Rattle.terminal.specs.declared.operator.BoolOp.{BoolOp}
use Rattle.syntax.specs.Scan.{scan}
use Rattle.query_text.specs.Query.{query_start}
use Rattle.conjunction.specs.Groups.{last, behind, group_at, text_of}

-- ---- a text without its outer whitespace: TAB, CR, LF, space
unfoldable pub trim_start : List ℕ → List ℕ
trim_start [] = []
trim_start (b ∷ s) = elim (white b) [ true ↦ trim_start s | false ↦ b ∷ s ]

-- a byte before what is left of those behind it
abbrev pub unless_white : ℕ → List ℕ → List ℕ
unless_white b [] = pick (white b) [] (b ∷ [])
unless_white b (c ∷ s) = b ∷ c ∷ s

unfoldable pub trim_end : List ℕ → List ℕ
trim_end [] = []
trim_end (b ∷ s) = unless_white b (trim_end s)

abbrev pub trim : List ℕ → List ℕ
trim s = trim_end (trim_start s)

-- ---- the tokens before a query's groups: the start of a query without brackets, or each "(" of one with them
pub data Before (q : List ℕ) : Token → Type 0 where
  whole : (query_start (scan q)).grouped ≡ false → Before q (token End 0 0)
  first : (query_start (scan q)).grouped ≡ true → Before q (token_after q (token End 0 0))
  next : {b : Token} {o : BoolOp} → Before q b → (group_at q (token_after q b)).joining ≡ Some o → Before q (token_after q (behind q (token_after q b)))

-- what stands behind the last token of the group after such a token
abbrev pub closing : (query : List ℕ) (before : Token) → Token
closing q b = token_after q (last q (token_after q b))

abbrev pub between : (query : List ℕ) (before : Token) → List ℕ
between q b = part q b.end ((closing q b).start - b.end)

pub data Encloses (q : List ℕ) (b : Token) : Type 0 where
  brackets : b.kind ≡ Symbol Open → (closing q b).kind ≡ Symbol Close → Encloses q b
  ends : (closing q b).kind ≡ End → between q b ≡ q → Encloses q b

-- ---- of the group after such a token
pub record Trims (q : List ℕ) (b : Token) : Type 0 where
  pub encloses : Encloses q b
  pub ordered : (group_at q (token_after q b)).text.start ≤ (group_at q (token_after q b)).text.end
  pub within : (group_at q (token_after q b)).text.end ≤ length q
  pub trimmed : text_of q (group_at q (token_after q b)) ≡ trim (between q b)
