-- Digits that no "B", "X" or "." follows are a decimal number and no other.
use Prim.Native.Nat.{ℕ}
use mathlib.Core.Path.{◌≡◌, sym, ◌∙◌}
use mathlib.Core.List.{List}
use mathlib.Core.Bool.{Bool, true, ◌&&◌, ◌||◌, not}
use lib.Dec.{ltb, eqb}
use native.Mathlib.Omega.{arith}
use borrow.Author.Tests.{ltb-true, le-ltb, not-true}
use Rattle.base.specs.Part.{byte_at}
use Rattle.base.proofs.Says.{and_both, or_neither}
use Rattle.numeral.specs.Numeral.{one_of, decimal_literal}
use Rattle.numeral.proofs.Alone.{alone_binary, alone_hex, alone_real}
use Rattle.token.specs.declared.Form.TheVariants.{Decimal}
use Rattle.token.specs.declared.TokenKind.TheVariants.{Number}
use Rattle.token.specs.Token.{token, fitted, number_token}
use Rattle.token.proofs.FirstByte.{no_longer, none_behind}

module _ (q : List ℕ) (s : ℕ) {b e : ℕ} {x y : Bool} (d : e ≡ decimal_literal q s) where
  pub digits_alone : b ≡ byte_at q e → x ≡ one_of 66 98 b → y ≡ one_of 88 120 b → (ltb s e && not (x || (y || eqb b 46))) ≡ true → token (Number Decimal) s e ≡ number_token q s
  unfolding number_token fitted
  digits_alone g h i c =
      let p = and_both (ltb s e) (not (x || (y || eqb b 46))) c in
      let m = ltb-true s e p.0 in
      let l = rw d at m in
      let u = or_neither x (y || eqb b 46) (not-true (x || (y || eqb b 46)) p.1) in
      let v = or_neither y (eqb b 46) u.1 in
      let z : b ≡ byte_at q (decimal_literal q s) = rw (← d) g in
      rw (alone_binary q s l (rw (← z) (sym h ∙ u.0)), alone_hex q s l (rw (← z) (sym i ∙ v.0)), alone_real q s l (rw (← z) v.1))
      (rw (le-ltb s s (omega arith)) (rw (no_longer s) (rw (no_longer s) (rw (← d) (rw p.0 (sym (none_behind s (token (Number Decimal) s e) (omega arith))))))))
