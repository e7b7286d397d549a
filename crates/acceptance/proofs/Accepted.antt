-- The check accepts exactly the acceptable queries, for all bytes.
use Rattle.std.specs.Prelude.{Err, Ok}
use Prim.Native.Nat.{ℕ}
use mathlib.Core.Path.{◌≡◌, refl, sym, subst}
use mathlib.Core.List.{List}
use mathlib.Core.Logic.{◌↔◌}
use native.Mathlib.Omega.{arith}
use Rattle.table.specs.Table.{IsGood, Reading, table_reading}
use Rattle.syntax.specs.declared.comparison.Comparison.{Comparison}
use Rattle.query_text.specs.Query.{Comparisons, only, more}
use Rattle.operand.specs.declared.cause.Cause.{Cause}
use Rattle.grammar.proofs.Exact.{exact}
use Rattle.filter.specs.Check as Check
use Rattle.filter.specs.Check.{Verdict, passes, breaks, check_comparison, check_all, check}
use Rattle.filter.proofs.Accepted.{Accepts, accepts, is_accepted}
use Rattle.acceptance.specs.Reading.{Among, alone, first, later}
use Rattle.acceptance.specs.Acceptable.{Acceptable}
use Rattle.acceptance.proofs.DerivedQuery.{read_derived}

-- ---- all comparisons pass exactly where each does
module _ {A : Type 0} (c : Cause) (p : ℕ) where
  breaks_not : breaks c p ≡ passes → A
  breaks_not e = let z : ◌≡◌ {A = ℕ} 0 1 = cc in absurd (omega arith)

both_pass : (v w : Verdict) → Check.first v w ≡ passes → (v ≡ passes) × (w ≡ passes)
unfolding Check.first
both_pass passes w e = (refl, e)
both_pass (breaks c p) w e = breaks_not c p e

module _ (q t : List ℕ) where
  each_passes : (l : Comparisons) → check_all q t l ≡ passes → (c : Comparison) → Among c l → check_comparison q t c ≡ passes
  unfolding check_all
  each_passes (only d) e c alone = e
  each_passes (more d j l) e c first = (both_pass (check_comparison q t d) (check_all q t l) e).0
  each_passes (more d j l) e c (later h) = each_passes l (both_pass (check_comparison q t d) (check_all q t l) e).1 c h

  all_pass : (l : Comparisons) → ((c : Comparison) → Among c l → check_comparison q t c ≡ passes) → check_all q t l ≡ passes
  unfolding check_all Check.first
  all_pass (only c) h = h c alone
  all_pass (more c j l) h = rw (h c first) (all_pass l (λ d i. h d (later i)))

  counted : (r : Reading) → IsGood r → (n : ℕ) × (r ≡ Ok n)
  counted (Ok n) h = (n, refl)
  counted (Err f) h = absurd h

  accepting : Acceptable q t → Accepts q t
  accepting a =
      let n = counted (table_reading t) a.free in
      let l = (exact q).1 a.derives in
      record { count = n.0; good_table = n.1; short = a.short; encoded = a.encoded; list = l.0; read = l.1; fine = all_pass l.0 (λ c h. a.passes c (subst (Among c) (read_derived q l.0 l.1 a.derives.0) h)) }

  acceptable : Accepts q t → Acceptable q t
  acceptable a =
      let d = (exact q).0 (a.list, a.read) in
      record {
        free = subst IsGood (sym a.good_table) tt;
        short = a.short;
        encoded = a.encoded;
        derives = d;
        passes = λ c h. each_passes a.list a.fine c (subst (Among c) (sym (read_derived q a.list a.read d.0)) h);
      }

  -- A query is accepted exactly when the table is free of faults, the text has at most 4,096 bytes, is UTF-8 and derives from DSP0212's `fql` within the limits, and each of its
  -- comparisons passes. Nothing is asked of the query or of the table; both are any bytes.
  pub accepted_exactly : (check q t ≡ Ok tt) ↔ Acceptable q t
  accepted_exactly = (λ e. acceptable (accepts q t e), λ a. is_accepted (accepting a))
