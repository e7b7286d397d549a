-- What the readers read fits the ABNF rules.
use Rattle.std.specs.Prelude.{Err, Ok, Result}
use Prim.Native.Nat.{ℕ, zero, suc}
use mathlib.Core.Path.{◌≡◌, refl, sym}
use mathlib.Core.Bool.{Bool, true, false}
use Rattle.base.specs.Pick.{pick}
use Rattle.token.specs.declared.Punctuation.TheVariants.{Dot}
use Rattle.token.specs.declared.TokenKind.TheVariants.{Name, Symbol}
use Rattle.token.specs.declared.Token.{Token}
use Rattle.terminal.specs.Terminal.{same, word}
use Rattle.syntax.specs.declared.path.Path.{Path}
use Rattle.syntax.specs.Property as GP
use Rattle.syntax.specs.Scan.{Scan}
use Rattle.syntax.specs.Property.{dotted, one_more, first_name}
use Rattle.grammar.specs.Abnf.{Fits, one, join, left, stop, more, many, dot_name, property}

-- the end that a reader hands back
unfoldable pub Ends : Token → Result (Path × Token) ℕ → Type 0
Ends u (Ok (p, t)) = t ≡ u
Ends u (Err x) = ⊥

module _ (s : Scan) where
  -- one dot and name, from the two tests
  named : (n : ℕ) (p : Path) (t u : Token) (d : Bool) → same t (Symbol Dot) ≡ true → word (s.next t) ≡ d
      → (Ends u (dotted n s (one_more p (s.next t)) (s.next (s.next t))) → Fits s (many dot_name) (s.next (s.next t)) u)
      → Ends u (elim d [ true ↦ dotted n s (one_more p (s.next t)) (s.next (s.next t)) | false ↦ Err (s.next t).start ])
      → Fits s (many dot_name) t u
  unfolding Ends
  named n p t u true b w ih f = more (join (one b) (one w)) (ih f)
  named n p t u false b w ih f = absurd f

  dots : (n : ℕ) (p : Path) (t u : Token) (b : Bool) → same t (Symbol Dot) ≡ b
      → (Ends u (dotted n s (one_more p (s.next t)) (s.next (s.next t))) → Fits s (many dot_name) (s.next (s.next t)) u)
      → Ends u (elim b [ true ↦ elim (word (s.next t)) [ true ↦ dotted n s (one_more p (s.next t)) (s.next (s.next t)) | false ↦ Err (s.next t).start ] | false ↦ Ok (p, t) ])
      → Fits s (many dot_name) t u
  unfolding Ends
  dots n p t u true b ih f = named n p t u (word (s.next t)) b refl ih f
  dots n p t u false b ih f = rw (sym f) stop

  pub dots_fit : (n : ℕ) (p : Path) (t u : Token) → Ends u (dotted n s p t) → Fits s (many dot_name) t u
  unfolding dotted Ends
  dots_fit zero p t u e = rw (sym e) stop
  dots_fit (suc n) p t u e = dots n p t u (same t (Symbol Dot)) refl (λ f. dots_fit n (one_more p (s.next t)) (s.next (s.next t)) u f) e

  property_by : (t u : Token) (b : Bool) → same t Name ≡ b → Ends u (pick b (dotted s.size s (first_name t) (s.next t)) (Err t.start)) → Fits s property t u
  unfolding Ends
  property_by t u true b e = left (join (one b) (dots_fit s.size (first_name t) (s.next t) u e))
  property_by t u false b e = absurd e

  pub property_fits : (t u : Token) → Ends u (GP.property s t) → Fits s property t u
  unfolding GP.property
  property_fits t u e = property_by t u (same t Name) refl e
