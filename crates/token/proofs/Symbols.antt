-- A symbol of two bytes goes before one of one byte.
use Prim.Native.Nat.{ℕ, ◌+◌}
use mathlib.Core.Path.{◌≡◌, refl}
use mathlib.Core.Bool.{Bool, true, false}
use native.Mathlib.Omega.{arith}
use borrow.Author.Tests.{le-ltb}
use Rattle.base.specs.Pick.{pick}
use Rattle.token.specs.declared.TokenKind.{TokenKind}
use Rattle.token.specs.declared.TokenKind.TheVariants.{NoToken}
use Rattle.token.specs.Token.{token, is_token, longer, symbol_of}
use Rattle.token.proofs.FirstByte.{symbol_settled}

module _ (s : ℕ) (p k : TokenKind) where
  pub two_bytes_law : is_token p ≡ true → longer (symbol_of p s 2) (symbol_of k s 1) ≡ token p s (s + 2)
  unfolding longer symbol_of
  two_bytes_law h = rw h (go (is_token k))
    where
      go : (t : Bool) → longer (token p s (s + 2)) (pick t (token k s (s + 1)) (token NoToken s s)) ≡ token p s (s + 2)
      go true = rw (le-ltb (s + 2) (s + 1) (omega arith)) refl
      go false = rw (le-ltb (s + 2) s (omega arith)) refl

  pub one_byte : is_token p ≡ false → longer (symbol_of p s 2) (symbol_of k s 1) ≡ symbol_of k s 1
  unfolding symbol_of
  one_byte h = rw h (symbol_settled s k 1 (omega arith))
