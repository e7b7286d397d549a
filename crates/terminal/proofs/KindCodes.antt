-- Kinds and their numbers: two kinds have one number only if they are equal.
use Prim.Native.Nat.{ℕ}
use mathlib.Core.Path.{◌≡◌, refl, sym, ap, ◌∙◌}
use mathlib.Core.List.{List, [], ◌∷◌}
use mathlib.Core.Bool.{Bool, true, false, true≢false}
use lib.Dec.{eqb}
use lib.ListN.{get_or}
use borrow.Author.Tests.{eqb-true, eq-eqb}
use Rattle.base.proofs.Says.{Says}
use Rattle.token.specs.declared.Reserved.TheVariants as Reserved
use Rattle.token.specs.declared.Form.TheVariants.{Decimal, Binary, Hex, Real}
use Rattle.base.specs.declared.order.Operator.TheVariants.{Equal, Unequal, Less, AtMost, Greater, AtLeast}
use Rattle.token.specs.declared.Punctuation.TheVariants.{Open, Close, OpenIndex, CloseIndex, OpenList, CloseList, Comma, Dot}
use Rattle.token.specs.declared.TokenKind.{TokenKind}
use Rattle.token.specs.declared.TokenKind.TheVariants.{Name, Symbol, Word, Text, Number}
use Rattle.token.specs.declared.Token.{Token}
use Rattle.terminal.specs.Terminal.{same, code}

-- the kinds in the order of their numbers
kinds : List TokenKind
kinds =
    TokenKind.End ∷ TokenKind.NoToken ∷ Name ∷ Text ∷ Word Reserved.And ∷ Word Reserved.Any ∷ Word Reserved.Every ∷ Word Reserved.False ∷ Word Reserved.Like
    ∷ Word Reserved.Not ∷ Word Reserved.Null ∷ Word Reserved.Or ∷ Word Reserved.True ∷ Number Decimal ∷ Number Binary ∷ Number Hex ∷ Number Real
    ∷ TokenKind.Compare Equal ∷ TokenKind.Compare Unequal ∷ TokenKind.Compare Less ∷ TokenKind.Compare AtMost ∷ TokenKind.Compare Greater ∷ TokenKind.Compare AtLeast
    ∷ Symbol Open ∷ Symbol Close ∷ Symbol OpenIndex ∷ Symbol CloseIndex ∷ Symbol OpenList ∷ Symbol CloseList ∷ Symbol Comma ∷ Symbol Dot ∷ []

decoded : (k : TokenKind) → get_or kinds (code k) TokenKind.End ≡ k
unfolding kinds
decoded TokenKind.End = refl
decoded TokenKind.NoToken = refl
decoded Name = refl
decoded Text = refl
decoded (Word Reserved.And) = refl
decoded (Word Reserved.Any) = refl
decoded (Word Reserved.Every) = refl
decoded (Word Reserved.False) = refl
decoded (Word Reserved.Like) = refl
decoded (Word Reserved.Not) = refl
decoded (Word Reserved.Null) = refl
decoded (Word Reserved.Or) = refl
decoded (Word Reserved.True) = refl
decoded (Number Decimal) = refl
decoded (Number Binary) = refl
decoded (Number Hex) = refl
decoded (Number Real) = refl
decoded (TokenKind.Compare Equal) = refl
decoded (TokenKind.Compare Unequal) = refl
decoded (TokenKind.Compare Less) = refl
decoded (TokenKind.Compare AtMost) = refl
decoded (TokenKind.Compare Greater) = refl
decoded (TokenKind.Compare AtLeast) = refl
decoded (Symbol Open) = refl
decoded (Symbol Close) = refl
decoded (Symbol OpenIndex) = refl
decoded (Symbol CloseIndex) = refl
decoded (Symbol OpenList) = refl
decoded (Symbol CloseList) = refl
decoded (Symbol Comma) = refl
decoded (Symbol Dot) = refl

-- a kind's number tells the kind
pub code_tells : (a b : TokenKind) → code a ≡ code b → a ≡ b
code_tells a b e = sym (decoded a) ∙ ap (λ (n : ℕ). get_or kinds n TokenKind.End) e ∙ decoded b

-- a token is of a kind exactly where the test says so
pub says_kind : (t : Token) (k : TokenKind) → Says (same t k) (t.kind ≡ k)
unfolding same
says_kind t k = record { to = λ e. code_tells t.kind k (eqb-true (code t.kind) (code k) e); from = λ h. eq-eqb (code t.kind) (code k) (ap code h) }

pub kind_is : (t : Token) (k : TokenKind) → same t k ≡ true → t.kind ≡ k
kind_is t k e = (says_kind t k).to e

-- one kind is no other
pub other : (t : Token) (k x : TokenKind) → same t k ≡ true → eqb (code k) (code x) ≡ false → same t x ≡ false
unfolding same
other t k x e f = ap (λ (n : ℕ). eqb n (code x)) (eqb-true (code t.kind) (code k) e) ∙ f

-- what holds of a token's kind, and not of another, tells it from that one
pub not_kind : (p : TokenKind → Bool) (t : Token) (k : TokenKind) → p k ≡ false → p t.kind ≡ true → same t k ≡ false
not_kind p t k e h = go (same t k) refl
  where
    go : (b : Bool) → same t k ≡ b → b ≡ false
    go true f = absurd (true≢false (sym h ∙ ap p (kind_is t k f) ∙ e))
    go false f = refl
