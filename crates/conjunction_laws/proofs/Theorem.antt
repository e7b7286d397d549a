-- 02 Q-7: two queries that the check accepts, made into one text. Where it isn't too large, it is accepted and includes exactly the instances that both include (`joins`); it has as many
-- comparisons as 43 counts (`counted`); and where conjoin returns a length, the buffer holds it (`leaves`).
-- The way: a query comes to what its groups come to, each as a query of its own (`parts_in`); so does the text that is written of them (`read_text`); and the product of the terms comes
-- to what both queries' terms come to (Chains).
use Rattle.std.specs.Prelude.{Err, Ok, Result}
use Prim.Native.Nat.{ℕ, ◌≤◌, ◌<◌}
use mathlib.Core.Path.{◌≡◌, refl, sym, ap, ◌∙◌}
use mathlib.Core.List.{List}
use mathlib.Core.Bool.{Bool, true, false, ◌&&◌, ◌||◌, true≢false}
use native.Mathlib.Omega.{arith}
use lib.ListN.{length, take, drop}
use lib.Seq.{take_at, drop_at}
use lib.Dec.{ltb}
use borrow.Author.Tests.{ltb-false}
use Rattle.base.specs.Pick.{pick}
use Rattle.syntax.specs.Scan.{scan}
use Rattle.query_text.specs.Query.{Query, bad, good, query}
use Rattle.query_text.specs.Tree.{Chain, tree, holds}
use Rattle.filter.specs.Check.{check}
use Rattle.conjunction.specs.Groups.{terms_of}
use Rattle.conjunction.specs.Conjunction.{products, text, conjunction, size, comparisons, count, comparisons_of, is_too_large}
use Rattle.conjunction.specs.Conjoin.{refused, conjoin_second, conjoin_first, conjoin, buffer_by, buffer_after}
use Rattle.conjunction.specs.declared.refusal.ConjoinCause.TheVariants.{Size, Buffer}
use Rattle.conjunction.specs.declared.refusal.ConjoinRefusal.{ConjoinRefusal}
use Rattle.conjunction_laws.specs.Joins.{Joins, query_within, Counts, Leaves}
use Rattle.conjunction_laws.proofs.Chains.{products_every, products_hold, products_total}
use Rattle.conjunction_laws.proofs.Segments.{good_only, few, wider}
use Rattle.conjunction_laws.proofs.ByGroups.{Passes, truth, truths, held}
use Rattle.conjunction_laws.proofs.Own.{Own, Parts, parts_in}
use Rattle.conjunction_laws.proofs.Written.{Reads, read_text, text_reads, text_encoded}
use Rattle.filter.proofs.Accepted.{Accepts, accepts, is_accepted}
use Rattle.conjunction_laws.proofs.Included.{included}
use Rattle.filter.specs.declared.refusal.Refusal.{Refusal}

module _ (q p table : List ℕ) (first : check q table ≡ Ok tt) (second : check p table ≡ Ok tt) where
  abbrev of_first : Accepts q table
  of_first = accepts q table first

  abbrev of_second : Accepts p table
  of_second = accepts p table second

  abbrev firsts : Parts q of_first.encoded (terms_of q) of_first.list
  firsts = parts_in q of_first.encoded of_first.list of_first.read

  abbrev seconds : Parts p of_second.encoded (terms_of p) of_second.list
  seconds = parts_in p of_second.encoded of_second.list of_second.read

  abbrev terms : Chain (Chain (List ℕ))
  terms = products (terms_of q) (terms_of p)

  abbrev written : Reads terms (text terms) 1
  written = read_text terms (products_every Own (terms_of q) (terms_of p) firsts.each_own seconds.each_own)

  -- ---- how many comparisons it has
  size_is : size written.list ≡ comparisons_of q p
  unfolding comparisons
  size_is =
      written.groups.sizes ∙ products_total (λ g. comparisons (query g)) (terms_of q) (terms_of p)
      ∙ rw (of_first.read, of_second.read, ← firsts.groups.sizes, ← seconds.groups.sizes) refl

  pub counted : Counts q p
  unfolding comparisons conjunction
  counted = record { enough = λ n h. rw (text_reads written n (omega (arith, size_is))) size_is; too_few = λ n h. go n h (query_within n (text terms)) refl }
    where
      go : (n : ℕ) → n < comparisons_of q p → (x : Query) → query_within n (text terms) ≡ x → comparisons x ≡ 0
      go n h (bad f) e = refl
      go n h (good l) e =
          let w = wider (scan (text terms)) n (comparisons_of q p) _ _ l (omega arith) e in
          let r = text_reads written (comparisons_of q p) (omega (arith, size_is)) in
          let z : size l ≡ size written.list = ap size (good_only (scan (text terms)) (sym w ∙ r)) in
          absurd (omega (arith, few (scan (text terms)) n _ _ l e, z, size_is))

  -- ---- what it includes
  module _ (small : is_too_large q p ≡ false) where
    neither : (a b : Bool) → (a || b) ≡ false → (a ≡ false) × (b ≡ false)
    neither true b e = absurd (true≢false e)
    neither false b e = (refl, e)

    limits : (comparisons_of q p ≤ 64) × (length (conjunction q p) ≤ 4096)
    unfolding is_too_large
    limits =
        let n = neither (ltb 64 (comparisons_of q p)) (ltb 4096 (length (conjunction q p))) small in
        (ltb-false 64 (comparisons_of q p) n.0, ltb-false 4096 (length (conjunction q p)) n.1)

    of_both : Accepts (conjunction q p) table
    unfolding conjunction query
    of_both =
        record {
          count = of_first.count;
          good_table = of_first.good_table;
          short = limits.1;
          encoded = text_encoded written;
          list = written.list;
          read = text_reads written 64 (omega (arith, size_is, limits.0));
          fine =
              written.groups.passed table
              (products_every (Passes table) (terms_of q) (terms_of p) (firsts.groups.passing table of_first.fine) (seconds.groups.passing table of_second.fine));
        }

    holds_both : (i : List ℕ)
        → holds (truths table i (conjunction q p)) (tree of_both.list) ≡ (holds (truths table i q) (tree of_first.list) && holds (truths table i p) (tree of_second.list))
    unfolding of_both conjunction
    holds_both i =
        held written.groups table i ∙ products_hold (truth table i) (terms_of q) (terms_of p)
        ∙ rw (← held firsts.groups table i, ← held seconds.groups table i) refl

    pub joins : Joins q p table
    joins =
        record {
          accepted = is_accepted of_both;
          includes = λ i c. included of_both i c ∙ holds_both i ∙ rw (← included of_first i c, ← included of_second i c) refl;
        }

-- ---- what a call returns and leaves
module _ (q p table buffer : List ℕ) where
  -- a call that returns a length has passed both checks and both limits
  record Passed (n : ℕ) : Type 0 where
    pub first : check q table ≡ Ok tt
    pub second : check p table ≡ Ok tt
    pub small : is_too_large q p ≡ false
    pub measured : n ≡ length (conjunction q p)
    pub room : n ≤ length buffer

  not_length : {A : Type 0} {r : ConjoinRefusal} {n : ℕ} → Err r ≡ Ok n → A
  not_length e = let z : ◌≡◌ {A = ℕ} 0 1 = cc in absurd (omega arith)

  passed : (n : ℕ) → conjoin q p table (length buffer) ≡ Ok n → Passed n
  unfolding conjoin
  passed n = by_first (check q table) refl
    where
      by_room : check q table ≡ Ok tt → check p table ≡ Ok tt → is_too_large q p ≡ false → (b : Bool) → ltb (length buffer) (length (conjunction q p)) ≡ b
          → pick b (refused Buffer 0) (Ok (length (conjunction q p))) ≡ Ok n → Passed n
      by_room f s t true b e = not_length e
      by_room f s t false b e = let z : length (conjunction q p) ≡ n = cc in record { first = f; second = s; small = t; measured = sym z; room = omega (arith, ltb-false (length buffer) (length (conjunction q p)) b) }

      by_size : check q table ≡ Ok tt → check p table ≡ Ok tt → (b : Bool) → is_too_large q p ≡ b
          → pick b (refused Size 0) (pick (ltb (length buffer) (length (conjunction q p))) (refused Buffer 0) (Ok (length (conjunction q p)))) ≡ Ok n → Passed n
      by_size f s true t e = not_length e
      by_size f s false t e = by_room f s t (ltb (length buffer) (length (conjunction q p))) refl e

      by_second : check q table ≡ Ok tt → (x : Result (Unit {0}) Refusal) → check p table ≡ x → conjoin_second q p (length buffer) x ≡ Ok n → Passed n
      by_second f (Err r) s e = not_length e
      by_second f (Ok tt) s e = by_size f s (is_too_large q p) refl e

      by_first : (x : Result (Unit {0}) Refusal) → check q table ≡ x → conjoin_first q p table (length buffer) x ≡ Ok n → Passed n
      by_first (Err r) f e = not_length e
      by_first (Ok tt) f e = by_second f (check p table) refl e

  pub leaves : (n : ℕ) → conjoin q p table (length buffer) ≡ Ok n → Leaves q p table buffer n
  unfolding buffer_after
  leaves n e =
      let c = passed n e in
      record {
        joins = joins q p table c.first c.second c.small;
        measured = c.measured;
        room = c.room;
        text = ap (λ (x : Result ℕ ConjoinRefusal). take n (buffer_by q p buffer x)) e ∙ take_at (conjunction q p) (drop n buffer) n (sym c.measured);
        beyond = ap (λ (x : Result ℕ ConjoinRefusal). drop n (buffer_by q p buffer x)) e ∙ drop_at (conjunction q p) (drop n buffer) n (sym c.measured);
      }
