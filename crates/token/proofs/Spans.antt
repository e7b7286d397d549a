-- Laws of tokens.
use Prim.Native.Nat.{ℕ, ◌+◌, ◌≤◌, ◌<◌}
use mathlib.Core.Path.{◌≡◌, refl, sym, ◌∙◌}
use mathlib.Core.List.{List}
use mathlib.Core.Bool.{Bool, true, false}
use native.Mathlib.Omega.{arith}
use lib.ListN.{length}
use lib.Dec.{ltb}
use borrow.Author.Tests.{ltb-true, ltb-false, lt-ltb, le-ltb}
use Rattle.base.specs.Pick.{pick}
use Rattle.record.specs.Name.{same_name}
use Rattle.base.specs.Part.{byte_at}
use Rattle.base.proofs.Lists.{byte_within}
use Rattle.token.specs.declared.Reserved.{Reserved}
use Rattle.token.specs.declared.Reserved.TheVariants.{And, Any, Every, False, Like, Not, Null, Or, True}
use Rattle.token.specs.declared.TokenKind.{TokenKind}
use Rattle.token.specs.declared.TokenKind.TheVariants.{NoToken, Name, Word}
use Rattle.token.specs.declared.Token.{Token}
use Rattle.token.specs.Token.{token, is_token, fitted, longer, word_kind, pair_kind, single_kind, symbol_of, Spans}
use Rattle.base.specs.Ascii.{bytes}

pub none_spans : (n s : ℕ) → s ≤ n → Spans n s (token NoToken s s)
unfolding is_token
none_spans n s h = record { begins = refl; ends = omega arith; within = h; moves = sym (le-ltb s s (omega arith)) }

pub moved_spans : (n s e : ℕ) (k : TokenKind) → is_token k ≡ true → s < e → e ≤ n → Spans n s (token k s e)
moved_spans n s e k t a b = record { begins = refl; ends = omega arith; within = b; moves = t ∙ sym (lt-ltb s e a) }

pub fitted_spans : (n s e : ℕ) (k : TokenKind) → is_token k ≡ true → s ≤ e → e ≤ n → Spans n s (fitted k s e)
unfolding fitted
fitted_spans n s e k t a b = go (ltb s e) refl
  where
    go : (m : Bool) → ltb s e ≡ m → Spans n s (pick m (token k s e) (token NoToken s s))
    go true h = record { begins = refl; ends = a; within = b; moves = t ∙ sym h }
    go false h = none_spans n s (omega arith)

pub longer_spans : (n s : ℕ) (a b : Token) → Spans n s a → Spans n s b → Spans n s (longer a b)
unfolding longer
longer_spans n s a b f g = go (ltb a.end b.end)
  where
    go : (m : Bool) → Spans n s (pick m b a)
    go true = g
    go false = f

pub symbol_spans : (n s w : ℕ) (k : TokenKind) → 0 < w → s ≤ n → (is_token k ≡ true → s + w ≤ n) → Spans n s (symbol_of k s w)
unfolding symbol_of
symbol_spans n s w k l h f = go (is_token k) refl
  where
    go : (m : Bool) → is_token k ≡ m → Spans n s (pick m (token k s (s + w)) (token NoToken s s))
    go true e = record { begins = refl; ends = omega arith; within = f e; moves = e ∙ sym (lt-ltb s (s + w) (omega arith)) }
    go false e = none_spans n s h

-- a word is a name or reserved
pub word_is : (P : TokenKind → Type 0) → P Name → ((w : Reserved) → P (Word w)) → (w : List ℕ) → P (word_kind w)
unfolding word_kind
word_is P n f w =
    by (same_name w (bytes "AND")) And _
    (by (same_name w (bytes "ANY")) Any _
    (by (same_name w (bytes "EVERY")) Every _
    (by (same_name w (bytes "FALSE")) False _
    (by (same_name w (bytes "LIKE")) Like _
    (by (same_name w (bytes "NOT")) Not _
    (by (same_name w (bytes "NULL")) Null _
    (by (same_name w (bytes "OR")) Or _
    (by (same_name w (bytes "TRUE")) True Name n))))))))
  where
    by : (t : Bool) (r : Reserved) (k : TokenKind) → P k → P (pick t (Word r) k)
    by true r k p = f r
    by false r k p = p

pub word_some : (w : List ℕ) → is_token (word_kind w) ≡ true
unfolding is_token
word_some = word_is (λ (k : TokenKind). is_token k ≡ true) refl (λ w. refl)

pub no_end : {A : Type 0} → is_token NoToken ≡ true → A
unfolding is_token
no_end e = let y : false ≡ true = e in absurd (clash y)
  where
    clash : false ≡ true → ⊥
    clash y = let k : ◌≡◌ {A = ℕ} 0 1 = cc in omega arith

-- a byteAt that is 0 makes no symbol
pub pair_within : (q : List ℕ) (s : ℕ) → is_token (pair_kind (byte_at q s) (byte_at q (s + 1))) ≡ true → s + 2 ≤ length q
unfolding pair_kind is_token
pair_within q s e = omega (arith, byte_within q (s + 1) (λ z. no_end (rw z at e)))

pub single_within : (q : List ℕ) (s : ℕ) → is_token (single_kind (byte_at q s)) ≡ true → s + 1 ≤ length q
unfolding single_kind is_token
single_within q s e = omega (arith, byte_within q s (λ z. no_end (rw z at e)))

-- nothing longer fits
pub longer_first : (a b : Token) → a.end ≤ (longer a b).end
unfolding longer
longer_first a b = go (ltb a.end b.end) refl
  where
    go : (m : Bool) → ltb a.end b.end ≡ m → a.end ≤ (pick m b a).end
    go true h = omega (arith, ltb-true a.end b.end h)
    go false h = omega arith

pub longer_second : (a b : Token) → b.end ≤ (longer a b).end
unfolding longer
longer_second a b = go (ltb a.end b.end) refl
  where
    go : (m : Bool) → ltb a.end b.end ≡ m → b.end ≤ (pick m b a).end
    go true h = omega arith
    go false h = ltb-false a.end b.end h
