-- What it takes to be accepted: the table is good, the text is short enough and well-formed, it is a query, and each of its comparisons passes.
use Rattle.std.specs.Prelude.{Err, Ok, Result}
use Prim.Native.Nat.{ℕ, ◌≤◌}
use mathlib.Core.Path.{◌≡◌, refl, sym, ap, ◌∙◌}
use mathlib.Core.List.{List}
use mathlib.Core.Bool.{Bool, true, false}
use native.Mathlib.Omega.{arith}
use lib.ListN.{length}
use lib.Dec.{ltb}
use borrow.Author.Tests.{ltb-false, le-ltb}
use Rattle.base.specs.Pick.{pick}
use Rattle.encoding.specs.WellFormed.{first_ill_formed}
use Rattle.table.specs.Table.{Reading, table_reading}
use Rattle.syntax.specs.declared.fault.Cause.TheVariants.{Length}
use Rattle.syntax.specs.Scan.{fault}
use Rattle.query_text.specs.Query.{Comparisons, Query, bad, good, query, verdict}
use Rattle.query_text.specs.Text.{encoded_verdict, text_verdict}
use Rattle.filter.specs.Refusal.{compares, call_query, call_text, call_under, call_of}
use Rattle.filter.specs.Check as check-of
use Rattle.filter.specs.Check.{passes, breaks, check_all, as_checked, check_call, check}
use Rattle.filter.specs.declared.refusal.Refusal.{Refusal}

pub record Accepts (q table : List ℕ) : Type 0 where
  pub count : ℕ
  pub good_table : table_reading table ≡ Ok count
  pub short : length q ≤ 4096
  pub encoded : first_ill_formed q ≡ Ok tt
  pub list : Comparisons
  pub read : query q ≡ good list
  pub fine : check_all q table list ≡ passes

refused_not : {A : Type 0} {x : Refusal} → ◌≡◌ {A = Result (Unit {0}) Refusal} (Err x) (Ok tt) → A
refused_not e = let z : ◌≡◌ {A = ℕ} 0 1 = cc in absurd (omega arith)

pub accepts : (q table : List ℕ) → check q table ≡ Ok tt → Accepts q table
unfolding check call_of text_verdict encoded_verdict verdict
accepts q table e = under (table_reading table) refl e
  where
    passing : (n : ℕ) → table_reading table ≡ Ok n → length q ≤ 4096 → first_ill_formed q ≡ Ok tt → (l : Comparisons) → query q ≡ good l → (v : check-of.Verdict) → check_all q table l ≡ v → as_checked v ≡ Ok tt → Accepts q table
    passing n t w u l r passes f e = record { count = n; good_table = t; short = w; encoded = u; list = l; read = r; fine = f }
    passing n t w u l r (breaks c p) f e = refused_not e

    queried : (n : ℕ) → table_reading table ≡ Ok n → length q ≤ 4096 → first_ill_formed q ≡ Ok tt → (x : Query) → query q ≡ x → check_call q table (call_text q (verdict x)) ≡ Ok tt → Accepts q table
    queried n t w u (bad f) r e = refused_not e
    queried n t w u (good l) r e = passing n t w u l r (check_all q table l) refl (ap (λ (x : Query). check_call q table (call_query x)) (sym r) ∙ e)

    decoded : (n : ℕ) → table_reading table ≡ Ok n → length q ≤ 4096 → (x : Result (Unit {0}) ℕ) → first_ill_formed q ≡ x → check_call q table (call_text q (encoded_verdict q x)) ≡ Ok tt → Accepts q table
    decoded n t w (Err p) u e = refused_not e
    decoded n t w (Ok all) u e = queried n t w u (query q) refl e

    measured : (n : ℕ) → table_reading table ≡ Ok n → (b : Bool) → ltb 4096 (length q) ≡ b → check_call q table (call_text q (pick b (Err (fault Length 0)) (encoded_verdict q (first_ill_formed q)))) ≡ Ok tt → Accepts q table
    measured n t true w e = refused_not e
    measured n t false w e = decoded n t (ltb-false 4096 (length q) w) (first_ill_formed q) refl e

    under : (x : Reading) → table_reading table ≡ x → check_call q table (call_under q x) ≡ Ok tt → Accepts q table
    under (Err r) t e = refused_not e
    under (Ok n) t e = measured n t (ltb 4096 (length q)) refl e

module _ {q table : List ℕ} (A : Accepts q table) where
  pub called : call_of q table ≡ compares A.list
  unfolding call_of text_verdict encoded_verdict verdict
  called = rw A.good_table (rw (le-ltb 4096 (length q) A.short) (rw A.encoded (rw A.read (rw A.read refl))))

  -- and it is enough
  pub is_accepted : check q table ≡ Ok tt
  unfolding check
  is_accepted = rw called (ap as_checked A.fine)
