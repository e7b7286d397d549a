-- The definitions that read a literal or an index again have answers for tokens that are none. No comparison of a query has such tokens, so these answers are never given.
use Rattle.std.specs.Prelude.{Err, None, Option, Some}
use Prim.Native.Nat.{ℕ}
use mathlib.Core.Path.{◌≡◌, refl, sym, ap, subst, ◌∙◌}
use mathlib.Core.List.{List}
use mathlib.Core.Bool.{Bool, true, false, ◌&&◌, false≢true}
use native.Mathlib.Omega.{arith}
use lib.ListN.{length}
use lib.Dec.{eqb, leb, ltb}
use borrow.Author.Tests.{leb-false, lt-leb, le-ltb, eqb-true}
use Rattle.base.specs.Pick.{pick}
use Rattle.base.specs.Part.{byte_at}
use Rattle.base.specs.Range
use Rattle.base.specs.Digit.{size_under, digit_of}
use Rattle.scan.specs.Class.{in_class}
use Rattle.scan.specs.declared.Class.TheVariants.{Digit}
use Rattle.token.specs.declared.Reserved.TheVariants.{And, Any, Every, False, Like, Not, Null, Or, True}
use Rattle.token.specs.declared.Form.TheVariants.{Decimal}
use Rattle.token.specs.declared.TokenKind.{TokenKind}
use Rattle.token.specs.declared.TokenKind.TheVariants as Kind
use Rattle.token.specs.declared.Token.{Token}
use Rattle.terminal.specs.Terminal.{same, literal, literal_kind, unsigned}
use Rattle.literal.specs.Sort.{sort_of, word_sort}
use Rattle.literal.specs.Literal.{literal_of}
use Rattle.literal.specs.Integer.{magnitude, with_sign, integer_by, integer_of}
use Rattle.literal.specs.declared.sort.Sort.{Sort}
use Rattle.literal.proofs.Sorts.{Sorted, sort_right}
use Rattle.operand.specs.Index.{index_by, index_of}
use Rattle.acceptance.specs.ReadAgain.{IsLiteral, IsIndex}
use Rattle.literal.specs.declared.LiteralFault.TheVariants as LiteralFault

-- ---- a literal is of some sort
abbrev IsSome : Option Sort → Type 0
IsSome (Some s) = Unit
IsSome None = ⊥

some_sort : (k : TokenKind) → literal_kind k ≡ true → IsSome (sort_of k)
unfolding sort_of word_sort
some_sort Kind.End e = absurd (false≢true e)
some_sort Kind.NoToken e = absurd (false≢true e)
some_sort Kind.Name e = absurd (false≢true e)
some_sort (Kind.Word And) e = absurd (false≢true e)
some_sort (Kind.Word Any) e = absurd (false≢true e)
some_sort (Kind.Word Every) e = absurd (false≢true e)
some_sort (Kind.Word False) e = tt
some_sort (Kind.Word Like) e = absurd (false≢true e)
some_sort (Kind.Word Not) e = absurd (false≢true e)
some_sort (Kind.Word Null) e = tt
some_sort (Kind.Word Or) e = absurd (false≢true e)
some_sort (Kind.Word True) e = tt
some_sort (Kind.Number f) e = tt
some_sort Kind.Text e = tt
some_sort (Kind.Compare o) e = absurd (false≢true e)
some_sort (Kind.Symbol m) e = absurd (false≢true e)

module _ {q : List ℕ} {t : Token} (h : IsLiteral q t) where
  pub has_sort : sort_of t.kind ≡ None → ⊥
  unfolding literal
  has_sort e = subst IsSome e (some_sort t.kind h.literal)

  pub has_literal : (octets : Bool) → literal_of octets q t ≡ Err LiteralFault.NoLiteral → ⊥
  has_literal octets e = has_sort (subst (Sorted (sort_of t.kind)) e (sort_right octets q t))

-- ---- an index is the number that its digits write, if that is at most 65,535
no_minus : (b : ℕ) → in_class (Digit 10) b ≡ true → eqb b 45 ≡ false
unfolding in_class digit_of Range.within
no_minus b e = by (eqb b 45) refl
  where
    by : (c : Bool) → eqb b 45 ≡ c → c ≡ false
    by true f = let z : ltb (digit_of b) 10 ≡ ltb (digit_of 45) 10 = ap (λ (x : ℕ). ltb (digit_of x) 10) (eqb-true b 45 f) in absurd (false≢true (sym z ∙ e))
    by false f = refl

sized : (m : ℕ) → index_by (integer_by false (size_under 18446744073709551615 m)) ≡ pick (leb m 65535) (Some m) None
unfolding integer_by size_under with_sign
sized m = by (leb m 18446744073709551615) refl
  where
    by : (c : Bool) → leb m 18446744073709551615 ≡ c → index_by (integer_by false (pick c (Some m) None)) ≡ pick (leb m 65535) (Some m) None
    by true e = refl
    by false e = rw (lt-leb m 65535 (omega (arith, leb-false m 18446744073709551615 e))) refl

and_second : (a b : Bool) → a && b ≡ true → b ≡ true
and_second true b e = e
and_second false b e = absurd (false≢true e)

pub index_number_law : {q : List ℕ} {t : Token} → IsIndex q t
    → index_of q t ≡ pick (leb (magnitude Decimal q t.start) 65535) (Some (magnitude Decimal q t.start)) None
unfolding index_of integer_of unsigned
index_number_law {q} {t} h =
    let m : eqb (byte_at q t.start) 45 ≡ false =
    no_minus (byte_at q t.start) (and_second (same t (Kind.Number Decimal)) (in_class (Digit 10) (byte_at q t.start)) h.unsigned) in
    rw (le-ltb (length q) t.start (omega (arith, h.within))) (rw m (sized (magnitude Decimal q t.start)))
