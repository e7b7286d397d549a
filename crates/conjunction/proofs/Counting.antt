-- One law for each exit of `src/size.rt`.
use Rattle.std.specs.Prelude.{Err, None, Ok, Option, Result, Some}
use Prim.Native.Nat.{ℕ, zero, suc, ◌+◌, ◌*◌, ◌-◌, ◌≤◌, ◌<◌}
use mathlib.Core.Path.{◌≡◌, refl, sym, ap, ◌∙◌}
use mathlib.Core.List.{List}
use mathlib.Core.Bool.{Bool, true, false}
use native.Mathlib.Omega.{arith}
use native.Mathlib.Nat.{mul-le-mul}
use lib.ListN.{length}
use Rattle.token.specs.declared.Token.{Token}
use Rattle.terminal.specs.declared.operator.BoolOp.TheVariants.{And, Or}
use Rattle.syntax.specs.declared.comparison.Comparison.{Comparison}
use Rattle.syntax.specs.declared.fault.Fault.{Fault}
use Rattle.syntax.specs.Scan.{Scan, scan}
use Rattle.query_text.specs.declared.join.Join.{Join}
use Rattle.query_text.specs.declared.query.QueryStart.{QueryStart}
use Rattle.query_text.specs.Query as listed
use Rattle.query_text.specs.Query.{only, more, Query, bad, good, next_comparison, last_join, query_from, query_start, query}
use Rattle.query_text.specs.Tree.{Chain, one, then, front}
use Rattle.query_text.proofs.Laws.{from_out, from_bad, from_last, from_more}
use Rattle.conjunction.specs.Groups.{group_at, text_of, follow, terms_within, terms_from, terms_of}
use Rattle.conjunction.specs.Terms.{Behind}
use Rattle.conjunction.specs.Conjunction.{count, size, comparisons, comparisons_of}
use Rattle.conjunction.proofs.Reading.{splits}
use Rattle.terminal.specs.declared.operator.BoolOp.{BoolOp}

-- ---- terms
count_front : {A : Type 0} (a : A) (r : Chain (Chain A)) → count (front (then a) r) ≡ count r
unfolding front count
count_front a (one b) = refl
count_front a (then b r) = refl

followed_few : {A : Type 0} (n : ℕ) (a : A) (j : Option BoolOp) (r : Chain (Chain A)) → count r ≤ suc n → count (follow a j r) ≤ suc (suc n)
unfolding follow count
followed_few n a (Some And) r h = rw (count_front a r) (omega (arith, h))
followed_few n a (Some Or) r h = omega (arith, h)
followed_few n a None r h = omega arith

terms_few : (n : ℕ) (q : List ℕ) (t : Token) → count (terms_within n q t) ≤ suc n
unfolding terms_within count
terms_few zero q t = omega arith
terms_few (suc n) q t = followed_few n (text_of q (group_at q t)) (group_at q t).joining (terms_within n q (group_at q t).next) (terms_few n q (group_at q t).next)

-- no query has more terms than bytes, and one more
pub terms_bounded : (q : List ℕ) → length q ≤ 4096 → count (terms_of q) ≤ 4097
unfolding terms_from
terms_bounded q h = let m = terms_few (length q) q (query_start (scan q)).token in omega (arith, m, h)

pub terms_begin : (q : List ℕ) {t : Token} → t ≡ (query_start (scan q)).token → 1 + count (terms_from q t) ≡ suc (count (terms_of q))
terms_begin q e = let f = ap (λ (x : Token). count (terms_from q x)) e in omega (arith, f)

module _ (q : List ℕ) (t : Token) (n : ℕ) (i : n + count (terms_from q t) ≡ suc (count (terms_of q))) where
  module _ {r : Option Token} (h : Behind q t r) where
    pub terms_all : r ≡ None → n ≡ count (terms_of q)
    unfolding count
    terms_all e = let f = ap count (splits h e) in omega (arith, i, f)

    module _ (u : Token) (e : r ≡ Some u) where
      pub terms_more : (n + 1) + count (terms_from q u) ≡ suc (count (terms_of q))
      unfolding count
      terms_more = let f = ap count (splits h e) in omega (arith, i, f)

      pub terms_fit : length q ≤ 4096 → n + 1 ≤ 4098
      terms_fit k = let m = terms_bounded q k in omega (arith, terms_more, m)

-- ---- comparisons
-- as many as were read, and those of the rest of a query
abbrev pub further : ℕ → Query → ℕ
further n (bad f) = 0
further n (good l) = n + size l

further_before : (n : ℕ) (c : Comparison) (j : Join) (r : Query) → further n (listed.before c j r) ≡ further (n + 1) r
unfolding listed.before size
further_before n c j (bad f) = refl
further_before n c j (good l) = omega arith

pub further_none : (r : Query) → comparisons r ≡ further 0 r
unfolding comparisons
further_none (bad f) = refl
further_none (good l) = omega arith

module _ (s : Scan) (grouped : Bool) (t : Token) (n : ℕ) {whole : ℕ} (i : whole ≡ further n (query_from (64 - n) s grouped t)) where
  pub counted_out : 64 ≤ n → 0 ≡ whole
  counted_out h = sym (i ∙ ap (further n) (from_out s grouped t (64 - n) _ (omega arith) refl))

  module _ {l : Result (Comparison × Join × Token) Fault} (e : l ≡ next_comparison s grouped t) (h : n < 64) where
    pub counted_bad : (f : Fault) → l ≡ Err f → 0 ≡ whole
    counted_bad f g = sym (i ∙ ap (further n) (from_bad s grouped t l e (64 - n) f (omega arith) g))

    module _ {c : Comparison} {j : Join} {u : Token} (g : l ≡ Ok (c, j, u)) {b : Bool} (r : b ≡ last_join j) where
      pub counted_last : b ≡ true → n + 1 ≡ whole
      unfolding size
      counted_last k = sym (i ∙ ap (further n) (from_last s grouped t l e c j u g b r (64 - n) (omega arith) k))

      pub counted_more : b ≡ false → whole ≡ further (n + 1) (query_from (64 - (n + 1)) s grouped u)
      counted_more k =
          let z : (64 - n) - 1 ≡ 64 - (n + 1) = omega arith in
          i ∙ ap (further n) (from_more s grouped t l e c j u g b r (64 - n) (omega arith) k) ∙ further_before n c j (query_from ((64 - n) - 1) s grouped u)
          ∙ ap (λ (m : ℕ). further (n + 1) (query_from m s grouped u)) z

pub counted_query : (q : List ℕ) {b : QueryStart} → b ≡ query_start (scan q) → {n : ℕ} → n ≡ comparisons (query_from 64 (scan q) b.grouped b.token) → n ≡ comparisons (query q)
unfolding query
counted_query q e f = f ∙ ap (λ (x : QueryStart). comparisons (query_from 64 (scan q) x.grouped x.token)) e

-- no more than are allowed
pub comparisons_few : (n : ℕ) (s : Scan) (grouped : Bool) (t : Token) → comparisons (query_from n s grouped t) ≤ n
unfolding query_from comparisons size listed.before
comparisons_few zero s grouped t = omega arith
comparisons_few (suc n) s grouped t = go (next_comparison s grouped t) (λ u. comparisons_few n s grouped u)
  where
    follows : (c : Comparison) (j : Join) (r : Query) → comparisons r ≤ n → comparisons (listed.before c j r) ≤ suc n
    follows c j (bad f) h = omega arith
    follows c j (good l) h = omega (arith, h)

    ends : (c : Comparison) (j : Join) (b : Bool) (r : Query) → comparisons r ≤ n → comparisons (elim b [ true ↦ good (only c) | false ↦ listed.before c j r ]) ≤ suc n
    ends c j true r h = omega arith
    ends c j false r h = follows c j r h

    go : (l : Result (Comparison × Join × Token) Fault) → ((u : Token) → comparisons (query_from n s grouped u) ≤ n)
        → comparisons (elim l [ Err f ↦ bad f | Ok (c, j, u) ↦ elim (last_join j) [ true ↦ good (only c) | false ↦ listed.before c j (query_from n s grouped u) ] ]) ≤ suc n
    go (Err f) ih = omega arith
    go (Ok (c, j, u)) ih = ends c j (last_join j) (query_from n s grouped u) (ih u)

pub comparisons_bounded : (q : List ℕ) → comparisons (query q) ≤ 64
unfolding query
comparisons_bounded q = comparisons_few 64 (scan q) (query_start (scan q)).grouped (query_start (scan q)).token

-- ---- the numbers multiplied, and their sum
module _ (q p : List ℕ) {m n : ℕ} (terms : m ≡ count (terms_of p)) (each : n ≡ comparisons (query q)) where
  pub product_bounded : length p ≤ 4096 → m * n ≤ 262208
  product_bounded h = rw (terms, each) (mul-le-mul (terms_bounded p h) (comparisons_bounded q))

  pub products_added : {j k : ℕ} → j ≡ count (terms_of q) → k ≡ comparisons (query p) → m * n + j * k ≡ comparisons_of q p
  products_added f g = rw (terms, each, f, g) refl
