-- Tokens that may stand in an fql-expr, and words.
use Rattle.std.specs.Prelude.{None, Some}
use Prim.Native.Nat.{ℕ}
use mathlib.Core.Path.{◌≡◌, refl, sym, ap, ◌∙◌}
use mathlib.Core.List.{List}
use mathlib.Core.Bool.{Bool, true, false, true≢false, false≢true}
use native.Mathlib.Omega.{arith}
use Rattle.base.specs.Part.{byte_at}
use Rattle.record.specs.Name.{letter}
use Rattle.token.specs.declared.Reserved.TheVariants as Reserved
use Rattle.token.specs.declared.Punctuation.TheVariants.{Open, Close, OpenIndex, CloseIndex, OpenList, CloseList, Comma, Dot}
use Rattle.token.specs.declared.TokenKind.{TokenKind}
use Rattle.token.specs.declared.TokenKind.TheVariants.{End, NoToken, Name, Word, Number, Text, Compare, Symbol}
use Rattle.token.specs.declared.Token.{Token}
use Rattle.token.specs.Token.{is_token}
use Rattle.token.proofs.Stands.{Standing, name_there, reserved_there}
use Rattle.terminal.specs.declared.operator.BoolOp.{BoolOp}
use Rattle.terminal.specs.Terminal.{same, word_kind, joining, inside}
use Rattle.terminal.proofs.KindCodes.{kind_is}

-- it is a token
pub inside_token : (k : TokenKind) → inside k ≡ true → is_token k ≡ true
unfolding is_token
inside_token End h = h
inside_token NoToken h = h
inside_token Name h = refl
inside_token (Word w) h = refl
inside_token (Number f) h = refl
inside_token Text h = refl
inside_token (Compare o) h = refl
inside_token (Symbol m) h = refl

-- there are three kinds that may not, and none of them is one that may
pub outside_cases : (P : TokenKind → Type 0) → P End → P NoToken → P (Symbol Close) → (k : TokenKind) → inside k ≡ false → P k
outside_cases P a b c End h = a
outside_cases P a b c NoToken h = b
outside_cases P a b c Name h = absurd (true≢false h)
outside_cases P a b c (Word w) h = absurd (true≢false h)
outside_cases P a b c (Number f) h = absurd (true≢false h)
outside_cases P a b c Text h = absurd (true≢false h)
outside_cases P a b c (Compare o) h = absurd (true≢false h)
outside_cases P a b c (Symbol Open) h = absurd (true≢false h)
outside_cases P a b c (Symbol Close) h = c
outside_cases P a b c (Symbol OpenIndex) h = absurd (true≢false h)
outside_cases P a b c (Symbol CloseIndex) h = absurd (true≢false h)
outside_cases P a b c (Symbol OpenList) h = absurd (true≢false h)
outside_cases P a b c (Symbol CloseList) h = absurd (true≢false h)
outside_cases P a b c (Symbol Comma) h = absurd (true≢false h)
outside_cases P a b c (Symbol Dot) h = absurd (true≢false h)

pub outside_other : (t : Token) (k : TokenKind) → inside k ≡ true → inside t.kind ≡ false → same t k ≡ false
outside_other t k h o = go (same t k) refl
  where
    go : (b : Bool) → same t k ≡ b → b ≡ false
    go true e = absurd (true≢false (sym h ∙ ap inside (sym (kind_is t k e)) ∙ o))
    go false e = refl

-- a word is one that may
pub word_inside : (k : TokenKind) → word_kind k ≡ true → inside k ≡ true
word_inside End e = e
word_inside NoToken e = e
word_inside Name e = refl
word_inside (Word w) e = refl
word_inside (Number f) e = absurd (false≢true e)
word_inside Text e = absurd (false≢true e)
word_inside (Compare o) e = absurd (false≢true e)
word_inside (Symbol m) e = absurd (false≢true e)

-- and starts with a letter
pub word_there : (q : List ℕ) (t : Token) → Standing q t → word_kind t.kind ≡ true → letter (byte_at q t.start) ≡ true
word_there q t p e = go t.kind refl e
  where
    go : (k : TokenKind) → t.kind ≡ k → word_kind k ≡ true → letter (byte_at q t.start) ≡ true
    go End z e = absurd (false≢true e)
    go NoToken z e = absurd (false≢true e)
    go Name z e = name_there q t p z
    go (Word w) z e = reserved_there q t p w z
    go (Number f) z e = absurd (false≢true e)
    go Text z e = absurd (false≢true e)
    go (Compare o) z e = absurd (false≢true e)
    go (Symbol m) z e = absurd (false≢true e)

-- a bool-op stands inside of a group, or between two
pub joins_inside : (t : Token) (o : BoolOp) → joining t ≡ Some o → inside t.kind ≡ true
unfolding joining
joins_inside t o f = go (inside t.kind) refl
  where
    go : (b : Bool) → inside t.kind ≡ b → b ≡ true
    go true e = refl
    go false e =
        let n : joining t ≡ None = rw (outside_other t (Word Reserved.And) refl e, outside_other t (Word Reserved.Or) refl e) refl in
        let z : ◌≡◌ {A = ℕ} 0 1 = cc in
        absurd (omega arith)
