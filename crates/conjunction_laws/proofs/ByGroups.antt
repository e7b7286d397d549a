-- What the comparisons of a text come to is what its groups come to, each as a query of its own: how many they are, whether the check passes them, and where they hold.
use Rattle.std.specs.Prelude.{Some}
use Prim.Native.Nat.{ℕ}
use mathlib.Core.Path.{◌≡◌, refl, sym, ap, ◌∙◌}
use mathlib.Core.List.{List, []}
use mathlib.Core.Bool.{Bool, false}
use native.Mathlib.Omega.{arith}
use Rattle.token.specs.declared.Token.{Token}
use Rattle.terminal.specs.declared.operator.BoolOp.{BoolOp}
use Rattle.terminal.specs.declared.operator.BoolOp.TheVariants.{And, Or}
use Rattle.syntax.specs.declared.comparison.Comparison.{Comparison}
use Rattle.syntax.specs.Scan.{Scan}
use Rattle.query_text.specs.declared.join.Join.{Join}
use Rattle.query_text.specs.declared.join.Join.TheVariants.{Inner, Outer}
use Rattle.query_text.specs.Query.{Comparisons, only, more, Query, bad, good, query}
use Rattle.query_text.specs.Tree.{Chain, one, then, front, Group, Tree, tree, every, some, holds}
use Rattle.judge.specs.Meaning.{Meant}
use Rattle.judge.proofs.Local.{SameMeant, both_fail, same_test}
use Rattle.filter.specs.Meaning.{truth_of}
use Rattle.filter.specs.Evaluate.{meant_in}
use Rattle.filter.specs.Check.{Verdict, passes, breaks, first, check_comparison, check_all}
use Rattle.filter.proofs.Agree.{Agrees, comparison_agrees}
use Rattle.conjunction.specs.Groups.{follow}
use Rattle.conjunction.specs.Conjunction.{each, size, comparisons}
use Rattle.conjunction_laws.proofs.Chains.{each_follow, some_each, Every, follow_every, every_follow, total, total_follow}
use Rattle.conjunction_laws.proofs.Segments.{Segment, ends, goes, chain_to, chain_size}
use Rattle.conjunction_laws.proofs.Corresponding.{Lists, both_only, both_more, same_size}
use Rattle.conjunction_laws.proofs.Expressions.{Same}

-- ---- comparisons that only bool-ops inside of a group join, and the group that they make
pub data Grouped : Comparisons → Type 0 where
  one_comparison : {c : Comparison} → Grouped (only c)
  more_comparisons : {c : Comparison} {o : BoolOp} {l : Comparisons} → Grouped l → Grouped (more c (Inner o) l)

pub segment_grouped : {s : Scan} {t w : Token} {l : Comparisons} → Segment s t l w → Grouped l
segment_grouped (ends e f) = one_comparison
segment_grouped (goes e f h) = more_comparisons (segment_grouped h)

unfoldable group_of : {l : Comparisons} → Grouped l → Group
group_of (one_comparison {c}) = one (one c)
group_of (more_comparisons {c} {o} h) = follow c (Some o) (group_of h)

tree_one : {l : Comparisons} (h : Grouped l) → tree l ≡ one (one (group_of h))
unfolding tree group_of follow front
tree_one one_comparison = refl
tree_one (more_comparisons {o = And} h) = rw (tree_one h) refl
tree_one (more_comparisons {o = Or} h) = rw (tree_one h) refl

into_first : (f : Group → Group) (G : Group) (o : BoolOp) (t : Tree) → front (front f) (follow G (Some o) t) ≡ follow (f G) (Some o) t
unfolding follow front
into_first f G And (one a) = refl
into_first f G And (then a r) = refl
into_first f G Or t = refl

tree_follow : {l : Comparisons} (h : Grouped l) (o : BoolOp) (r : Comparisons) → tree (chain_to l (Outer o) r) ≡ follow (group_of h) (Some o) (tree r)
unfolding tree group_of chain_to follow
tree_follow one_comparison And r = refl
tree_follow one_comparison Or r = refl
tree_follow (more_comparisons {c = c} {o = And} h) o r = rw (tree_follow h o r) (into_first (front (then c)) (group_of h) o (tree r))
tree_follow (more_comparisons {c = c} {o = Or} h) o r = rw (tree_follow h o r) (into_first (then (one c)) (group_of h) o (tree r))

also_grouped : {P : Comparison → Comparison → Type 0} {l m : Comparisons} → Lists P l m → Grouped m → Grouped l
also_grouped (both_only h) one_comparison = one_comparison
also_grouped (both_more h k) (more_comparisons g) = more_comparisons (also_grouped k g)

-- ---- whether the comparisons of a query pass, and whether it holds
module _ (table : List ℕ) where
  abbrev PassesBy : (query : List ℕ) → Query → Type 0
  PassesBy q (bad f) = ⊥
  PassesBy q (good l) = check_all q table l ≡ passes

  abbrev pub Passes : (query : List ℕ) → Type 0
  Passes q = PassesBy q (query q)

module _ (table instance : List ℕ) where
  abbrev pub truths : (query : List ℕ) → Comparison → Bool
  truths q c = truth_of (meant_in q table instance c)

  abbrev truth_by : (query : List ℕ) → Query → Bool
  truth_by q (bad f) = false
  truth_by q (good l) = holds (truths q) (tree l)

  abbrev pub truth : (query : List ℕ) → Bool
  truth q = truth_by q (query q)

-- ---- the check goes from comparison to comparison
first_passes : (v w : Verdict) → first v w ≡ passes → (v ≡ passes) × (w ≡ passes)
unfolding first
first_passes passes w e = (refl, e)
first_passes (breaks x p) w e = let z : ◌≡◌ {A = ℕ} 0 1 = cc in absurd (omega arith)

both_pass : (v w : Verdict) → v ≡ passes → w ≡ passes → first v w ≡ passes
unfolding first
both_pass v w e f = rw (e, f) refl

first_assoc : (u v w : Verdict) → first u (first v w) ≡ first (first u v) w
unfolding first
first_assoc passes v w = refl
first_assoc (breaks c p) v w = refl

check_chain : (q table : List ℕ) (l : Comparisons) (j : Join) (r : Comparisons) → check_all q table (chain_to l j r) ≡ first (check_all q table l) (check_all q table r)
unfolding check_all chain_to
check_chain q table (only c) j r = refl
check_chain q table (more c i l) j r = rw (check_chain q table l j r) (first_assoc (check_comparison q table c) (check_all q table l) (check_all q table r))

-- ---- comparisons of two texts that mean the same
meant_back : {m n : Meant} → SameMeant m n → SameMeant n m
meant_back both_fail = both_fail
meant_back same_test = same_test

same_truth : {m n : Meant} → SameMeant m n → truth_of m ≡ truth_of n
unfolding truth_of
same_truth both_fail = refl
same_truth same_test = refl

passes_too : (v w : Verdict) {m n : Meant} → Agrees v m → Agrees w n → SameMeant m n → v ≡ passes → w ≡ passes
passes_too v passes a b s e = refl
passes_too passes (breaks c p) a b both_fail e = absurd a
passes_too passes (breaks c p) a b same_test e = absurd b
passes_too (breaks d o) (breaks c p) a b s e = let z : ◌≡◌ {A = ℕ} 0 1 = cc in absurd (omega arith)

module _ (q r : List ℕ) where
  pub turned : {l m : Comparisons} → Lists (Same q r) l m → Lists (Same r q) m l
  turned (both_only h) = both_only (λ table instance. meant_back (h table instance))
  turned (both_more h k) = both_more (λ table instance. meant_back (h table instance)) (turned k)

  same_values : (table instance : List ℕ) {l m : Comparisons} → Lists (Same q r) l m → (g : Grouped l) (h : Grouped m)
      → each (each (truths table instance q)) (group_of g) ≡ each (each (truths table instance r)) (group_of h)
  unfolding group_of each
  same_values table instance (both_only k) one_comparison one_comparison = ap (λ (b : Bool). one (one b)) (same_truth (k table instance))
  same_values table instance (both_more {c} {d} k i) (more_comparisons {o = o} g) (more_comparisons h) =
      each_follow (truths table instance q) c o (group_of g)
      ∙ rw (same_truth (k table instance), same_values table instance i g h) (sym (each_follow (truths table instance r) d o (group_of h)))

  module _ (table : List ℕ) where
    compared_too : (c d : Comparison) → Same q r c d → check_comparison q table c ≡ passes → check_comparison r table d ≡ passes
    compared_too c d s e = passes_too (check_comparison q table c) (check_comparison r table d) (comparison_agrees q table [] c) (comparison_agrees r table [] d) (s table []) e

    same_check : {l m : Comparisons} → Lists (Same q r) l m → check_all q table l ≡ passes → check_all r table m ≡ passes
    unfolding check_all
    same_check (both_only {c} {d} h) e = compared_too c d h e
    same_check (both_more {c} {d} {l} {m} h k) e =
        let p = first_passes (check_comparison q table c) (check_all q table l) e in
        both_pass (check_comparison r table d) (check_all r table m) (compared_too c d h p.0) (same_check k p.1)

-- ---- comparisons of a text that are those of another, which is a query
pub record Copies (g q : List ℕ) (l : Comparisons) : Type 0 where
  pub list : Comparisons
  pub read : query g ≡ good list
  pub same : Lists (Same g q) list l
  pub grouped : Grouped l

-- comparisons of a text, group by group
pub record ByGroups (q : List ℕ) (x : Chain (Chain (List ℕ))) (L : Comparisons) : Type 0 where
  pub sizes : size L ≡ total (total (λ g. comparisons (query g))) x
  pub passing : (table : List ℕ) → check_all q table L ≡ passes → Every (Every (Passes table)) x
  pub passed : (table : List ℕ) → Every (Every (Passes table)) x → check_all q table L ≡ passes
  pub valued : (table instance : List ℕ) → each (each (some (every (truths table instance q)))) (tree L) ≡ each (each (truth table instance)) x

-- they hold where for some term each of its groups does
pub held : {q : List ℕ} {x : Chain (Chain (List ℕ))} {L : Comparisons} → ByGroups q x L → (table instance : List ℕ) → holds (truths table instance q) (tree L) ≡ some (every (truth table instance)) x
unfolding holds
held {q} {x} {L} b table instance = some_each (some (every (truths table instance q))) (tree L) ∙ ap (some (every (λ b. b))) (b.valued table instance) ∙ sym (some_each (truth table instance) x)

module _ {g q : List ℕ} {l : Comparisons} (C : Copies g q l) where
  group_size : size l ≡ comparisons (query g)
  unfolding comparisons
  group_size = rw C.read (sym (same_size C.same))

  group_passing : (table : List ℕ) → check_all q table l ≡ passes → Passes table g
  group_passing table e = rw C.read (same_check q g table (turned g q C.same) e)

  group_passed : (table : List ℕ) → Passes table g → check_all q table l ≡ passes
  group_passed table h = same_check g q table C.same (rw C.read at h)

  group_truth : (table instance : List ℕ) → some (every (truths table instance q)) (group_of C.grouped) ≡ truth table instance g
  unfolding holds some every
  group_truth table instance =
      some_each (truths table instance q) (group_of C.grouped)
      ∙ ap (some (every (λ b. b))) (sym (same_values g q table instance C.same own C.grouped))
      ∙ sym (some_each (truths table instance g) (group_of own))
      ∙ rw C.read (rw (tree_one own) refl)
    where
      own : Grouped C.list
      own = also_grouped C.same C.grouped

  pub one_group : ByGroups q (one (one g)) l
  unfolding total Every each
  one_group =
      record {
        sizes = group_size;
        passing = group_passing;
        passed = group_passed;
        valued = λ table instance. rw (tree_one C.grouped) (ap (λ (b : Bool). one (one b)) (group_truth table instance));
      }

  pub more_groups : (o : BoolOp) {r : Chain (Chain (List ℕ))} {L : Comparisons} → ByGroups q r L → ByGroups q (follow g (Some o) r) (chain_to l (Outer o) L)
  more_groups o {r} {L} b =
      record {
        sizes = chain_size l (Outer o) L ∙ rw (group_size, b.sizes) (sym (total_follow (λ g. comparisons (query g)) g o r));
        passing = λ table e.
            let p = first_passes (check_all q table l) (check_all q table L) (sym (check_chain q table l (Outer o) L) ∙ e) in
            follow_every (Passes table) g o r (group_passing table p.0) (b.passing table p.1);
        passed = λ table h.
            let p = every_follow (Passes table) g o r h in
            check_chain q table l (Outer o) L ∙ both_pass (check_all q table l) (check_all q table L) (group_passed table p.0) (b.passed table p.1);
        valued = λ table instance.
            ap (each (each (some (every (truths table instance q))))) (tree_follow C.grouped o L)
            ∙ each_follow (some (every (truths table instance q))) (group_of C.grouped) o (tree L)
            ∙ rw (group_truth table instance, b.valued table instance) (sym (each_follow (truth table instance) g o r));
      }
