-- 02 Q-2: the same whole numbers in wider kinds keep a query's answer, its steps, and the check's word on it.
use Rattle.std.specs.Prelude.{Err, None, Ok, Option}
use Prim.Native.Nat.{ℕ, zero, suc, ◌≤◌, ◌<◌}
use mathlib.Core.Path.{◌≡◌, refl, sym, ap, ap₂, ◌∙◌, subst, fun_ext}
use mathlib.Core.List.{List}
use mathlib.Core.Bool.{Bool, true, false, ◌&&◌}
use mathlib.Core.Logic.{inl, inr}
use native.Mathlib.Omega.{arith}
use lib.ListN.{length, get_or, get_elem?}
use lib.Dec.{ltb, eqb}
use borrow.Author.Tests.{ltb-true, ltb-false}
use Rattle.base.specs.Pick.{pick}
use Rattle.record.specs.Kind.{kind_of}
use Rattle.record.specs.Name.{same_name}
use Rattle.record.specs.declared.kind.Kind.{Kind}
use Rattle.table.specs.Table.{Reading, table_reading, IsGood}
use Rattle.table.specs.Properties.{class_name, kinds_of, property_records, find_property}
use Rattle.table.specs.declared.lookup.Property.{Property}
use Rattle.instance.specs.Conforms.{Conforms}
use Rattle.instance.specs.Fault.{Conformity, conformity}
use Rattle.instance.specs.Value.{entry_at, environment_under, environment}
use Rattle.instance.specs.Start.{start_of}
use Rattle.instance.proofs.Decides.{conforms_no_fault}
use Rattle.instance.proofs.Environment.{some_at, none_at}
use Rattle.syntax.specs.declared.path.Path as path
use Rattle.syntax.specs.declared.right_side.RightSide.{RightSide}
use Rattle.syntax.specs.declared.right_side.RightSide.TheVariants as right_side
use Rattle.syntax.specs.declared.comparison.Comparison.{Comparison}
use Rattle.query_text.specs.Query.{Comparisons, only, more}
use Rattle.operand.specs.Named.{spanned, named}
use Rattle.judge.specs.Meaning.{Meant, fails, means}
use Rattle.judge.specs.Environment.{entry_found, entry_named}
use Rattle.filter.specs.Refusal.{Call, refused, compares, call_under, call_of}
use Rattle.filter.specs.Check as check
use Rattle.filter.specs.Check.{Verdict, passes, breaks, first, check_comparison, check_all, as_checked, check_call}
use Rattle.filter.specs.Meaning.{query_meaning, query_steps}
use Rattle.filter.specs.Evaluate.{meant_in, answer_of, evaluate_call, evaluate}
use Rattle.filter.proofs.Agree.{Agrees, comparison_agrees}
use Rattle.invariance.specs.Wider.{IntegerKinds, Widens, Paired, SameName, Wider, KeepsAnswer}
use Rattle.invariance.specs.Wider as integer_kinds
use Rattle.invariance.proofs.Alike.{KindsAlike, scalars, arrays, EntriesAlike, neither, properties, RightAlike, kinds_same, meaning_alike}
use Rattle.invariance.proofs.WiderTable.{wider_free, behind, FoundWider, not_found, found, find_wider, WiderKinds, none, more, kinds_wider}
use Rattle.invariance.proofs.WiderInstance.{lays_wider, value_wider}

-- ---- kinds that widen are alike
kinds_alike : {k l : Kind} → IntegerKinds k l → KindsAlike k l
kinds_alike (integer_kinds.scalars h) = scalars (h.0 ∙ sym h.1)
kinds_alike (integer_kinds.arrays h) = arrays (h.0 ∙ sym h.1)

widens_alike : (k l : ℕ) → Widens k l → KindsAlike (kind_of k) (kind_of l)
widens_alike k l (inl e) = rw (sym e) (kinds_same (kind_of k))
widens_alike k l (inr h) = kinds_alike h

lengths : {ks ls : List ℕ} → WiderKinds ks ls → length ls ≡ length ks
lengths none = refl
lengths (more w r) = ap suc (lengths r)

kinds_at : {ks ls : List ℕ} → WiderKinds ks ls → (n : ℕ) → n < length ks → Widens (get_or ks n 0) (get_or ls n 0)
kinds_at none n h = absurd (omega arith)
kinds_at (more w r) zero h = w
kinds_at (more w r) (suc n) h = kinds_at r n (omega arith)

module _ (q t i u j : List ℕ) (c : Conforms t i) (w : Wider t i u j) where
  told : (class_name u ≡ class_name t) × Paired t u SameName (property_records t) (property_records u)
  told = behind t u w.tables c.free

  kinds : WiderKinds (kinds_of t) (kinds_of u)
  kinds = kinds_wider t u told.1

  conforms_wider : Conforms u j
  conforms_wider = record { free = wider_free t u w.tables c.free; short = w.within; lays = lays_wider i j w.numbers c.lays }

  -- ---- the environments
  environment_alike : (n : ℕ) → EntriesAlike (environment t i n) (environment u j n)
  unfolding environment_under
  environment_alike n = go (ltb n (length (kinds_of t))) refl
    where
      same : length (kinds_of u) ≡ length (kinds_of t)
      same = lengths kinds

      go : (b : Bool) → ltb n (length (kinds_of t)) ≡ b → EntriesAlike (entry_at (get_elem? (kinds_of t) n) i (start_of i n)) (entry_at (get_elem? (kinds_of u) n) j (start_of j n))
      go true e =
          let h = ltb-true n (length (kinds_of t)) e in
          let g : n < length (kinds_of u) = omega (arith, same) in
          rw (some_at (kinds_of t) n h, some_at (kinds_of u) n g, value_wider i j (kinds_of t) (kinds_of u) w.numbers n h g)
          (properties (widens_alike _ _ (kinds_at kinds n h)))
      go false e =
          let h = ltb-false n (length (kinds_of t)) e in
          let g : length (kinds_of u) ≤ n = omega (arith, same) in
          rw (none_at (kinds_of t) n h, none_at (kinds_of u) n g) neither

  find_both : (name : List ℕ) → FoundWider (find_property t name) (find_property u name)
  unfolding find_property
  find_both name = find_wider t u name 0 told.1

  named_both : (p : path.Path) → FoundWider (named q t p) (named q u p)
  unfolding named
  named_both p =
      rw told.0
      (by (eqb p.names 1) (eqb p.names 2 && same_name (class_name t) (spanned q p.first)) _ _ _ _ (find_both (spanned q p.first)) (find_both (spanned q p.second)))
    where
      by : (a b : Bool) (x y v z : Option Property) → FoundWider x y → FoundWider v z → FoundWider (pick a x (pick b v None)) (pick a y (pick b z None))
      by true b x y v z f g = f
      by false true x y v z f g = g
      by false false x y v z f g = not_found

  entry_alike : (p : path.Path) → EntriesAlike (entry_named q t i p) (entry_named q u j p)
  unfolding entry_named
  entry_alike p = go (named_both p)
    where
      go : {x y : Option Property} → FoundWider x y → EntriesAlike (entry_found (environment t i) x) (entry_found (environment u j) y)
      go not_found = neither
      go (found {n = n} h) = environment_alike n

  right_alike : (r : RightSide) → RightAlike (entry_named q t i) (entry_named q u j) r
  right_alike (right_side.Literal x) = tt
  right_alike (right_side.Elements start count end) = tt
  right_alike (right_side.Property p x) = entry_alike p
  right_alike (right_side.Pattern x) = tt

  meant_same : (d : Comparison) → meant_in q t i d ≡ meant_in q u j d
  meant_same d = meaning_alike q (entry_named q t i) (entry_named q u j) d (right_alike d.right) (entry_alike d.left.path)

  -- ---- check and evaluation
  call_same : call_of q u ≡ call_of q t
  unfolding call_of
  call_same = go (table_reading t) (table_reading u) c.free conforms_wider.free
    where
      go : (x y : Reading) → IsGood x → IsGood y → call_under q y ≡ call_under q x
      go (Ok m) (Ok n) g h = refl
      go (Ok m) (Err f) g h = absurd h
      go (Err f) y g h = absurd g

  conformity_same : conformity u j ≡ conformity t i
  conformity_same = conforms_no_fault u j conforms_wider ∙ sym (conforms_no_fault t i c)

  evaluated : (x : Call) → evaluate_call q u j x ≡ evaluate_call q t i x
  evaluated (refused d p) = refl
  evaluated (compares l) =
      ap (λ (k : Conformity). answer_of k (query_meaning (meant_in q u j) l) (query_steps (meant_in q u j) l)) conformity_same
      ∙ ap (λ (m : Comparison → Meant). answer_of (conformity t i) (query_meaning m l) (query_steps m l)) (fun_ext (λ d. sym (meant_same d)))

  answers_same : evaluate q u j ≡ evaluate q t i
  unfolding evaluate
  answers_same = ap (evaluate_call q u j) call_same ∙ evaluated (call_of q t)

  -- one meaning, one verdict
  verdict_same : (v o : Verdict) (m : Meant) → Agrees v m → Agrees o m → v ≡ o
  verdict_same passes passes m a b = refl
  verdict_same passes (breaks d p) (means x) a b = absurd b
  verdict_same passes (breaks d p) (fails e o) a b = absurd a
  verdict_same (breaks d p) passes (means x) a b = absurd a
  verdict_same (breaks d p) passes (fails e o) a b = absurd b
  verdict_same (breaks d p) (breaks f r) (means x) a b = absurd a
  verdict_same (breaks d p) (breaks f r) (fails e o) a b = cc

  comparison_same : (d : Comparison) → check_comparison q u d ≡ check_comparison q t d
  comparison_same d =
      verdict_same (check_comparison q u d) (check_comparison q t d) (meant_in q u j d) (comparison_agrees q u j d)
      (subst (λ (m : Meant). Agrees (check_comparison q t d) m) (meant_same d) (comparison_agrees q t i d))

  all_same : (l : Comparisons) → check_all q u l ≡ check_all q t l
  unfolding check_all
  all_same (only d) = comparison_same d
  all_same (more d k r) = ap₂ (λ (x y : Verdict). first x y) (comparison_same d) (all_same r)

  checked : (x : Call) → check_call q u x ≡ check_call q t x
  checked (refused d p) = refl
  checked (compares l) = ap as_checked (all_same l)

  checks_same : check.check q u ≡ check.check q t
  unfolding check.check
  checks_same = ap (check_call q u) call_same ∙ checked (call_of q t)

-- THE THEOREM
pub widening : (q t i u j : List ℕ) → Conforms t i → Wider t i u j → KeepsAnswer q t i u j
widening q t i u j c w = record { conforms = conforms_wider q t i u j c w; checks = checks_same q t i u j c w; answers = answers_same q t i u j c w }
