-- The reader of queries is exact: a text is read exactly when it derives from DSP0212's rule `fql` within the limits.
use Prim.Native.Nat.{ℕ, ◌≤◌}
use mathlib.Core.Path.{◌≡◌, refl}
use mathlib.Core.List.{List}
use mathlib.Core.Logic.{◌↔◌}
use native.Mathlib.Omega.{arith}
use Rattle.syntax.specs.declared.fault.Cause.{Cause}
use Rattle.syntax.specs.declared.fault.Cause.TheVariants.{Grammar, Limit}
use Rattle.syntax.specs.Scan.{scan, fault}
use Rattle.query_text.specs.Query.{Query, Comparisons, bad, good, query}
use Rattle.grammar.specs.Abnf.{Derives}
use Rattle.grammar.specs.Limits.{comparison_count, Short, WithinLimits}
use Rattle.grammar.proofs.SoundQuery.{query_derives}
use Rattle.grammar.proofs.CompleteQuery.{ReadsQuery, derived_read}

no_limit : Grammar ≡ Limit → ⊥
no_limit e = let y : ◌≡◌ {A = ℕ} 0 1 = cc in omega arith

-- a text derives within the limits
abbrev pub DerivesWithin : List ℕ → Type 0
DerivesWithin q = (d : Derives (scan q)) × WithinLimits d.1

module _ (q : List ℕ) where
  pub exact : ((l : Comparisons) × (query q ≡ good l)) ↔ DerivesWithin q
  exact = (λ r. reads r.0 r.1, λ d. read (query q) refl (derived_read q d.0) d.1.0 d.1.1)
    where
      reads : (l : Comparisons) → query q ≡ good l → DerivesWithin q
      reads l e = let d = query_derives q l e in let w : (comparison_count d.1 ≤ 64) × Short d.1 = rw e at (derived_read q d) in (d, w)

      read : {n : ℕ} {A : Type 0} (r : Query) → query q ≡ r → ReadsQuery (scan q) 64 n A r → n ≤ 64 → A → (l : Comparisons) × (query q ≡ good l)
      read (good l) e w n a = (l, e)
      read (bad f) e w n a = absurd (w.1 n a)

  -- 11 is said of what does not derive
  pub refused_grammar : (p : ℕ) → query q ≡ bad (fault Grammar p) → Derives (scan q) → ⊥
  refused_grammar p e d = let w : (Grammar ≡ Limit) × (comparison_count d.1 ≤ 64 → Short d.1 → ⊥) = rw e at (derived_read q d) in no_limit w.0

  -- 12 of what does not derive within the limits
  pub refused_limit : (p : ℕ) → query q ≡ bad (fault Limit p) → DerivesWithin q → ⊥
  refused_limit p e d =
      let w : (Limit ≡ Limit) × (comparison_count d.0.1 ≤ 64 → Short d.0.1 → ⊥) = rw e at (derived_read q d.0) in w.1 d.1.0 d.1.1

  -- what derives and is refused has a limit's number
  pub derived_limit : (c : Cause) (p : ℕ) → query q ≡ bad (fault c p) → Derives (scan q) → c ≡ Limit
  derived_limit c p e d = let w : (c ≡ Limit) × (comparison_count d.1 ≤ 64 → Short d.1 → ⊥) = rw e at (derived_read q d) in w.0
