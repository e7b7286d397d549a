-- Laws of the readers of a comparison, one for each way out.
use Rattle.std.specs.Prelude.{Err, Ok, Result}
use Prim.Native.Nat.{ℕ, zero, suc, ◌+◌, ◌≤◌, ◌<◌}
use mathlib.Core.Path.{◌≡◌, refl, sym, ap, ◌∙◌}
use mathlib.Core.Bool.{Bool, true, false, not}
use native.Mathlib.Omega.{arith}
use borrow.Author.Tests.{not-true, not-false}
use Rattle.token.specs.declared.Punctuation.TheVariants.{CloseList, Comma, Dot}
use Rattle.token.specs.declared.TokenKind.TheVariants.{Symbol}
use Rattle.token.specs.declared.Token.{Token}
use Rattle.terminal.specs.Terminal.{same, word, literal}
use Rattle.syntax.specs.declared.path.Path.{Path}
use Rattle.syntax.specs.declared.right_side.RightSide.TheVariants.{Elements}
use Rattle.syntax.specs.declared.fault.Cause.TheVariants.{Grammar}
use Rattle.syntax.specs.declared.fault.Fault.{Fault}
use Rattle.syntax.specs.declared.right_side.RightSide.{RightSide}
use Rattle.syntax.specs.Scan.{Scan, fault, limited}
use Rattle.syntax.specs.Property.{one_more, dotted}
use Rattle.syntax.specs.Comparison.{elements}

-- *( "." property-name )
module _ (s : Scan) (whole : Result (Path × Token) ℕ) (p : Path) (t : Token) where
  pub dots_out : (n : ℕ) → whole ≡ dotted n s p t → n ≤ 0 → Ok (p, t) ≡ whole
  unfolding dotted
  dots_out zero i h = sym i
  dots_out (suc n) i h = absurd (omega arith)

  module _ (b : Bool) (e : b ≡ same t (Symbol Dot)) where
    pub dots_end : (n : ℕ) → whole ≡ dotted n s p t → not b ≡ true → Ok (p, t) ≡ whole
    unfolding dotted
    dots_end zero i h = sym i
    dots_end (suc n) i h = sym (i ∙ rw (sym e ∙ not-true b h, dotted) refl)

    module _ (h : not b ≡ false) (w : Token) (f : w ≡ s.next t) (d : Bool) (g : d ≡ word w) where
      pub dots_bad : (n : ℕ) → whole ≡ dotted n s p t → 0 < n → not d ≡ true → Err w.start ≡ whole
      unfolding dotted
      dots_bad zero i l k = absurd (omega arith)
      dots_bad (suc n) i l k = sym (i ∙ rw (sym e ∙ not-false b h, dotted) (rw (ap word (sym f) ∙ sym g ∙ not-true d k, dotted) (ap (λ (x : Token). Err x.start) (sym f))))

      pub dots_more : (n k : ℕ) (r : Path) (u : Token) → whole ≡ dotted n s p t → n ≡ k + 1 → not d ≡ false → r ≡ one_more p w → u ≡ s.next w
          → whole ≡ dotted k s r u
      unfolding dotted
      dots_more zero x r u i l k o m = absurd (omega arith)
      dots_more (suc n) y r u i l k o m =
          let z : n ≡ y = omega arith in
          i ∙ rw (sym e ∙ not-false b h, dotted) (rw (ap word (sym f) ∙ sym g ∙ not-false d k, dotted) (rw (m, o, f) (ap (λ (x : ℕ). dotted x s (one_more p (s.next t)) (s.next (s.next t))) z)))

-- scalar-literal *( "," scalar-literal ) "}"
module _ (s : Scan) (whole : Result (RightSide × Token) Fault) (start count : ℕ) (t : Token) (b : Bool) (e : b ≡ literal t) where
  pub list_out : (n : ℕ) (f : Fault) → whole ≡ elements n s start count t → n ≤ 0 → f ≡ limited b t.start → Err f ≡ whole
  unfolding elements
  list_out zero f i h g = sym (i ∙ rw (sym e, g) refl)
  list_out (suc n) f i h g = absurd (omega arith)

  pub list_none : (n : ℕ) (f : Fault) → whole ≡ elements n s start count t → 0 < n → not b ≡ true → f ≡ fault Grammar t.start → Err f ≡ whole
  unfolding elements
  list_none zero f i l h g = absurd (omega arith)
  list_none (suc n) f i l h g = sym (i ∙ rw (sym e ∙ not-true b h, elements) (rw g refl))

  module _ (h : not b ≡ false) (u : Token) (f : u ≡ s.next t) (d : Bool) (g : d ≡ same u (Symbol CloseList)) where
    pub list_close : (n : ℕ) (v : Token) → whole ≡ elements n s start count t → 0 < n → d ≡ true → v ≡ s.next u
        → Ok (Elements start (count + 1) u.end, v) ≡ whole
    unfolding elements
    list_close zero v i l k m = absurd (omega arith)
    list_close (suc n) v i l k m =
        sym (i ∙ rw (sym e ∙ not-false b h, elements) (rw (ap (λ (x : Token). same x (Symbol CloseList)) (sym f) ∙ sym g ∙ k, elements) (rw (m, f) refl)))

    module _ (k : d ≡ false) (o : Bool) (r : o ≡ same u (Symbol Comma)) where
      pub list_bad : (n : ℕ) (x : Fault) → whole ≡ elements n s start count t → 0 < n → not o ≡ true → x ≡ fault Grammar u.start → Err x ≡ whole
      unfolding elements
      list_bad zero x i l y m = absurd (omega arith)
      list_bad (suc n) x i l y m =
          sym (i ∙ rw (sym e ∙ not-false b h, elements) (rw (ap (λ (x : Token). same x (Symbol CloseList)) (sym f) ∙ sym g ∙ k, elements) (rw (ap (λ (x : Token). same x (Symbol Comma)) (sym f) ∙ sym r ∙ not-true o y, elements) (rw (m, f) refl))))

      pub list_more : (n k : ℕ) (v : Token) → whole ≡ elements n s start count t → n ≡ k + 1 → not o ≡ false → v ≡ s.next u
          → whole ≡ elements k s start (count + 1) v
      unfolding elements
      list_more zero w v i l y m = absurd (omega arith)
      list_more (suc n) w v i l y m =
          let z : n ≡ w = omega arith in
          i ∙ rw (sym e ∙ not-false b h, elements)
          (rw (ap (λ (x : Token). same x (Symbol CloseList)) (sym f) ∙ sym g ∙ k, elements)
          (rw (ap (λ (x : Token). same x (Symbol Comma)) (sym f) ∙ sym r ∙ not-false o y, elements)
          (rw (m, f) (ap (λ (x : ℕ). elements x s start (count + 1) (s.next (s.next t))) z))))

-- as many names as the loop has made steps
pub names_next : {r : Path} {n : ℕ} (p : Path) (t : Token) → r ≡ one_more p t → p.names ≤ n → r.names ≤ n + 1
unfolding one_more
names_next p t e h = rw e (omega arith)
