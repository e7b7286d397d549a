-- Laws of a query's recursion, of its verdict and of its text, one for each way out.
use Rattle.std.specs.Prelude.{Err, Ok, Result}
use Prim.Native.Nat.{ℕ, zero, suc, ◌+◌, ◌-◌, ◌≤◌, ◌<◌}
use mathlib.Core.Path.{◌≡◌, refl, sym, ap, ◌∙◌}
use mathlib.Core.Bool.{Bool, true, false}
use native.Mathlib.Omega.{arith}
use Rattle.token.specs.declared.Token.{Token}
use Rattle.terminal.specs.Terminal.{opening}
use Rattle.syntax.specs.declared.comparison.Comparison.{Comparison}
use Rattle.syntax.specs.declared.fault.Fault.{Fault}
use Rattle.syntax.specs.Scan.{Scan, limited}
use Rattle.query_text.specs.declared.join.Join.{Join}
use Rattle.query_text.specs.Query.{Query, next_comparison, last_join, query_from, verdict, bad, good, before, only}

-- comparisons, one after another
module _ (s : Scan) (grouped : Bool) (t : Token) where
  pub from_out : (n : ℕ) (b : Bool) → n ≤ 0 → b ≡ opening t → query_from n s grouped t ≡ bad (limited b t.start)
  unfolding query_from
  from_out zero b h e = rw (sym e) refl
  from_out (suc n) b h e = absurd (omega arith)

  module _ (l : Result (Comparison × Join × Token) Fault) (e : l ≡ next_comparison s grouped t) where
    pub from_bad : (n : ℕ) (f : Fault) → 0 < n → l ≡ Err f → query_from n s grouped t ≡ bad f
    unfolding query_from
    from_bad zero f h g = absurd (omega arith)
    from_bad (suc n) f h g = rw (sym e ∙ g, query_from) refl

    module _ (c : Comparison) (j : Join) (u : Token) (g : l ≡ Ok (c, j, u)) (b : Bool) (r : b ≡ last_join j) where
      pub from_last : (n : ℕ) → 0 < n → b ≡ true → query_from n s grouped t ≡ good (only c)
      unfolding query_from
      from_last zero h k = absurd (omega arith)
      from_last (suc n) h k = rw (sym e ∙ g, query_from) (rw (sym r ∙ k, query_from) refl)

      pub from_more : (n : ℕ) → 0 < n → b ≡ false → query_from n s grouped t ≡ before c j (query_from (n - 1) s grouped u)
      unfolding query_from
      from_more zero h k = absurd (omega arith)
      from_more (suc n) h k =
          let z : n ≡ suc n - 1 = omega arith in
          rw (sym e ∙ g, query_from) (rw (sym r ∙ k, query_from) (ap (λ (x : ℕ). before c j (query_from x s grouped u)) z))

-- the same of the verdict
before_same : (c : Comparison) (j : Join) (r : Query) → verdict (before c j r) ≡ verdict r
unfolding verdict before
before_same c j (bad f) = refl
before_same c j (good l) = refl

module _ (s : Scan) (grouped : Bool) (t : Token) (n : ℕ) (whole : Result (Unit {0}) Fault) (i : whole ≡ verdict (query_from n s grouped t)) where
  pub verdict_out : (b : Bool) (f : Fault) → n ≤ 0 → b ≡ opening t → f ≡ limited b t.start → Err f ≡ whole
  unfolding verdict
  verdict_out b f h e g = ap Err g ∙ sym (i ∙ ap verdict (from_out s grouped t n b h e))

  module _ (l : Result (Comparison × Join × Token) Fault) (e : l ≡ next_comparison s grouped t) where
    pub verdict_bad : (f : Fault) → 0 < n → l ≡ Err f → Err f ≡ whole
    unfolding verdict
    verdict_bad f h g = sym (i ∙ ap verdict (from_bad s grouped t l e n f h g))

    module _ (c : Comparison) (j : Join) (u : Token) (g : l ≡ Ok (c, j, u)) (b : Bool) (r : b ≡ last_join j) where
      pub verdict_last : 0 < n → b ≡ true → Ok tt ≡ whole
      unfolding verdict
      verdict_last h k = sym (i ∙ ap verdict (from_last s grouped t l e c j u g b r n h k))

      pub verdict_more : (m : ℕ) → n ≡ m + 1 → b ≡ false → whole ≡ verdict (query_from m s grouped u)
      unfolding verdict
      verdict_more m h k =
          let z : n - 1 ≡ m = omega arith in
          i ∙ ap verdict (from_more s grouped t l e c j u g b r n (omega arith) k) ∙ before_same c j (query_from (n - 1) s grouped u)
          ∙ ap (λ (x : ℕ). verdict (query_from x s grouped u)) z
