-- The tokens of an fql-expr in two texts that are alike there correspond: they are of the same kinds, as far on in one text as in the other, up to what ends it.
-- So its comparisons are read alike.
use Prim.Native.Nat.{ℕ, zero, suc, ◌≤◌, ◌<◌}
use mathlib.Core.Path.{◌≡◌, refl, sym, ap, ◌∙◌}
use mathlib.Core.List.{List}
use mathlib.Core.Bool.{Bool, true, false, ◌&&◌, true≢false}
use native.Mathlib.Omega.{arith}
use lib.Dec.{ltb}
use borrow.Author.Tests.{ltb-true, ltb-false}
use Rattle.base.specs.Part.{byte_at}
use Rattle.scan.specs.Class.{in_class}
use Rattle.scan.specs.declared.Class.TheVariants.{Digit}
use Rattle.scan.proofs.Alike.{Alike}
use Rattle.token.specs.declared.Form.TheVariants.{Decimal}
use Rattle.token.specs.declared.TokenKind.TheVariants.{Number}
use Rattle.token.specs.declared.Token.{Token}
use Rattle.token.specs.Token.{token_after}
use Rattle.token.proofs.Bounds.{nth_from}
use Rattle.token.proofs.Local.{Moved, Placed, after_placed}
use Rattle.terminal.specs.Terminal.{same, unsigned, inside}
use Rattle.terminal.proofs.Inside.{inside_token, outside_other}
use Rattle.syntax.specs.Scan.{scan}
use Rattle.syntax.specs.Comparison.{property_comp}
use Rattle.syntax.proofs.Room.{roomy}
use Rattle.syntax.proofs.Simulation.{Simulates, ComparisonResults, comparison_alike}

-- n tokens of an fql-expr from `t` on in one text and from `u` on in the other, and what ends them
pub record Group (q r : List ℕ) (a b k l : ℕ) (t u : Token) (n : ℕ) : Type 0 where
  pub alike : Alike q r a b k l
  pub first : Moved a b t u
  pub from : a ≤ t.start
  pub moves : t.start < t.end
  pub within : (i : ℕ) → i < n → inside (nth_from q t i).kind ≡ true
  pub short : (i : ℕ) → i < n → (nth_from q t i).end ≤ k
  pub closed : inside (nth_from q t n).kind ≡ false
  pub other_closed : inside (nth_from r u n).kind ≡ false

-- the i-th token of each
pub data Nth (q r : List ℕ) (t u : Token) (n : ℕ) : Token → Token → Type 0 where
  nth : (i : ℕ) → i ≤ n → Nth q r t u n (nth_from q t i) (nth_from r u i)

pub outer_number : (q : List ℕ) (t : Token) → inside t.kind ≡ false → unsigned q t ≡ false
unfolding unsigned
outer_number q t e = ap (λ (c : Bool). c && in_class (Digit 10) (byte_at q t.start)) (outside_other t (Number Decimal) refl e)

module _ {q r : List ℕ} {a b k l : ℕ} {t u : Token} {n : ℕ} (G : Group q r a b k l t u n) where
  pub placed : (i : ℕ) → i < n → Placed a b k (nth_from q t i) (nth_from r u i)
  unfolding nth_from
  placed zero h = record { moved = G.first; from = G.from; moves = G.moves; short = G.short zero h }
  placed (suc i) h =
      after_placed G.alike (placed i (omega arith)) (inside_token (token_after q (nth_from q t i)).kind (G.within (suc i) h)) (G.short (suc i) h)

  pub below : (i : ℕ) → i ≤ n → inside (nth_from q t i).kind ≡ true → i < n
  below i h e = go (ltb i n) refl
    where
      go : (c : Bool) → ltb i n ≡ c → i < n
      go true f = ltb-true i n f
      go false f =
          let z : i ≡ n = omega (arith, ltb-false i n f) in
          absurd (true≢false (sym e ∙ ap (λ (m : ℕ). inside (nth_from q t m).kind) z ∙ G.closed))

  -- what ends one ends the other
  past : (i : ℕ) → i ≤ n → inside (nth_from q t i).kind ≡ false → inside (nth_from r u i).kind ≡ false
  past i h e = go (ltb i n) refl
    where
      go : (c : Bool) → ltb i n ≡ c → inside (nth_from r u i).kind ≡ false
      go true f = absurd (true≢false (sym (G.within i (ltb-true i n f)) ∙ e))
      go false f = let z : i ≡ n = omega (arith, ltb-false i n f) in ap (λ (m : ℕ). inside (nth_from r u m).kind) z ∙ G.other_closed

  number_moved : {x y : Token} → Placed a b k x y → unsigned q x ≡ unsigned r y
  unfolding unsigned same
  number_moved {x} {y} p = rw (p.moved.kind, G.alike.same x.start y.start p.from (omega (arith, p.moves, p.short)) p.moved.start) refl

  pub simulates : Simulates (scan q) (scan r) (Nth q r t u n)
  unfolding nth_from
  simulates =
      record {
        tests =
            record {
              kinds = λ x y h e. (inner h e).moved.kind;
              ends = λ x y h e. ended h e;
              numbers = λ x y h e. number_moved (inner h e);
              outer = λ x y h e. (outer_number q x e, outer_number r y (ended h e));
            };
        steps = λ x y h e. next h e;
      }
    where
      inner : {x y : Token} → Nth q r t u n x y → inside x.kind ≡ true → Placed a b k x y
      inner (nth i h) e = placed i (below i h e)

      ended : {x y : Token} → Nth q r t u n x y → inside x.kind ≡ false → inside y.kind ≡ false
      ended (nth i h) e = past i h e

      next : {x y : Token} → Nth q r t u n x y → inside x.kind ≡ true → Nth q r t u n (token_after q x) (token_after r y)
      next (nth i h) e = nth (suc i) (omega (arith, below i h e))

  -- a comparison read in one text is read in the other
  pub comparison_moved : {x y : Token} → Nth q r t u n x y → ComparisonResults (scan q) (scan r) (Nth q r t u n) (property_comp (scan q) x) (property_comp (scan r) y)
  comparison_moved h = comparison_alike simulates (roomy q) (roomy r) h
