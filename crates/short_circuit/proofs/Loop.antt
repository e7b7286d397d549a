-- Laws for a loop that reads a query's comparisons and walks them: one for each way out, with `whole` what the loop is to come to.
use Rattle.std.specs.Prelude.{Err, Ok, Result}
use Prim.Native.Nat.{ℕ, zero, suc, ◌+◌, ◌-◌, ◌≤◌, ◌<◌}
use mathlib.Core.Path.{◌≡◌, refl, sym, ap, subst, ◌∙◌}
use mathlib.Core.List.{List}
use mathlib.Core.Bool.{Bool, true, false, ◌&&◌}
use native.Mathlib.Omega.{arith}
use Rattle.token.specs.declared.Token.{Token}
use Rattle.terminal.specs.Terminal.{opening}
use Rattle.syntax.specs.declared.comparison.Comparison.{Comparison}
use Rattle.syntax.specs.declared.fault.Fault.{Fault}
use Rattle.syntax.specs.Scan.{Scan, scan}
use Rattle.query_text.specs.declared.join.Join.{Join}
use Rattle.query_text.specs.declared.query.QueryStart.{QueryStart}
use Rattle.query_text.specs.Query.{Comparisons, Query, bad, good, before, last_join, next_comparison, query_from, query_start, query}
use Rattle.query_text.specs.Tree.{tree, holds, State, live, total, step}
use Rattle.query_text.proofs.Laws.{from_out, from_bad, from_last, from_more}
use Rattle.short_circuit.specs.declared.Told.{Told}
use Rattle.short_circuit.specs.Count.{tree_steps}
use Rattle.short_circuit.specs.Walk.{told, initial, steps_if, walk, Joined, walk_query}
use Rattle.short_circuit.proofs.Steps.{walk_right}

-- only the last comparison of a query has nothing after it
unfoldable JoinedIn : Query → Type 0
JoinedIn (bad f) = Unit
JoinedIn (good l) = Joined l

joined_before : (c : Comparison) (j : Join) (r : Query) → last_join j ≡ false → JoinedIn r → JoinedIn (before c j r)
unfolding JoinedIn Joined before
joined_before c j (bad f) e h = tt
joined_before c j (good l) e h = (e, h)

module _ (s : Scan) (grouped : Bool) where
  joined_next : (k : ℕ) (t : Token) (r : Result (Comparison × Join × Token) Fault) → r ≡ next_comparison s grouped t → ((u : Token) → JoinedIn (query_from k s grouped u))
      → JoinedIn (query_from (suc k) s grouped t)
  unfolding JoinedIn Joined
  joined_next k t (Err f) e h = rw (from_bad s grouped t (Err f) e (suc k) f (omega arith) refl) tt
  joined_next k t (Ok (c, j, u)) e h = by (last_join j) refl
    where
      by : (b : Bool) → b ≡ last_join j → JoinedIn (query_from (suc k) s grouped t)
      by true f = rw (from_last s grouped t (Ok (c, j, u)) e c j u refl true f (suc k) (omega arith) refl) tt
      by false f =
          let z : k ≡ suc k - 1 = omega arith in
          rw (from_more s grouped t (Ok (c, j, u)) e c j u refl false f (suc k) (omega arith) refl)
          (joined_before c j (query_from (suc k - 1) s grouped u) (sym f) (subst (λ (x : ℕ). JoinedIn (query_from x s grouped u)) z (h u)))

  joined_from : (k : ℕ) (t : Token) → JoinedIn (query_from k s grouped t)
  unfolding JoinedIn query_from
  joined_from zero t = tt
  joined_from (suc k) t = joined_next k t (next_comparison s grouped t) refl (joined_from k)

pub joined : (q : List ℕ) (l : Comparisons) → query q ≡ good l → Joined l
unfolding JoinedIn query
joined q l e = subst JoinedIn e (joined_from (scan q) (query_start (scan q)).grouped 64 (query_start (scan q)).token)

module _ (v : Comparison → Bool) (n : Comparison → ℕ) where
  -- the walk of a query comes to its tree's truth and steps
  pub walk_good : (q : List ℕ) (l : Comparisons) → query q ≡ good l → walk_query v n initial 0 (query q) ≡ told (holds v (tree l)) (tree_steps v n (tree l))
  unfolding walk_query
  walk_good q l e = ap (walk_query v n initial 0) e ∙ walk_right v n l (joined q l e)

  pub walk_no_query : (q : List ℕ) (f : Fault) → query q ≡ bad f → walk_query v n initial 0 (query q) ≡ told false 0
  unfolding walk_query
  walk_no_query q f e = ap (walk_query v n initial 0) e

  -- as the loop begins: its first token and brackets given, the query's own, and these by a call
  pub walk_first : (s : State) (r : Query) → s ≡ initial → walk_query v n initial 0 r ≡ walk_query v n s 0 r
  walk_first s r f = ap (λ (x : State). walk_query v n x 0 r) (sym f)

  module _ (q : List ℕ) (b : QueryStart) (e : b ≡ query_start (scan q)) where
    opened : query_from 64 (scan q) b.grouped b.token ≡ query q
    unfolding query
    opened = ap (λ (x : QueryStart). query_from 64 (scan q) x.grouped x.token) e

    pub walk_start : (s : State) → s ≡ initial → walk_query v n initial 0 (query q) ≡ walk_query v n s 0 (query_from 64 (scan q) b.grouped b.token)
    walk_start s f = ap (walk_query v n initial 0) (sym opened) ∙ walk_first s _ f

    pub walk_called : {whole : Told} → whole ≡ walk_query v n initial 0 (query_from 64 (scan q) b.grouped b.token) → whole ≡ walk_query v n initial 0 (query q)
    walk_called f = f ∙ ap (walk_query v n initial 0) opened

  walk_before : (s : State) (k : ℕ) (c : Comparison) (j : Join) (r : Query)
      → walk_query v n s k (before c j r) ≡ walk_query v n (step j s (live s && v c)) (k + steps_if (live s) (n c)) r
  unfolding walk_query walk before
  walk_before s k c j (bad f) = refl
  walk_before s k c j (good l) = refl

  module _ (q : List ℕ) (grouped : Bool) (t : Token) (left : ℕ) (s : State) (k : ℕ) {whole : Told} (i : whole ≡ walk_query v n s k (query_from left (scan q) grouped t)) where
    -- the limit is used up
    pub walk_out : left ≤ 0 → told false 0 ≡ whole
    unfolding walk_query
    walk_out h = sym (i ∙ ap (walk_query v n s k) (from_out (scan q) grouped t left (opening t) h refl))

    module _ (h : 0 < left) {r : Result (Comparison × Join × Token) Fault} (e : r ≡ next_comparison (scan q) grouped t) where
      -- no comparison
      pub walk_none : (f : Fault) → r ≡ Err f → told false 0 ≡ whole
      unfolding walk_query
      walk_none f g = sym (i ∙ ap (walk_query v n s k) (from_bad (scan q) grouped t r e left f h g))

      module _ (c : Comparison) (j : Join) (u : Token) (g : r ≡ Ok (c, j, u)) {b : Bool} (eb : b ≡ live s) {o : Told} (eo : o ≡ told (b && v c) (steps_if b (n c)))
          {z : Bool} (ez : z ≡ last_join j) where
        judged_if : o ≡ told (live s && v c) (steps_if (live s) (n c))
        judged_if = eo ∙ ap (λ (x : Bool). told (x && v c) (steps_if x (n c))) eb

        -- the last comparison
        pub walk_last : {x : Bool} → z ≡ true → x ≡ total s o.holds → told x (k + o.steps) ≡ whole
        unfolding walk_query walk
        walk_last y f =
            ap (λ (w : Bool). told w (k + o.steps)) f
            ∙ ap (λ (w : Told). told (total s w.holds) (k + w.steps)) judged_if
            ∙ sym (i ∙ ap (walk_query v n s k) (from_last (scan q) grouped t r e c j u g z ez left h y))

        -- one that others follow
        pub walk_more : (p : State) → z ≡ false → p ≡ step j s o.holds → whole ≡ walk_query v n p (k + o.steps) (query_from (left - 1) (scan q) grouped u)
        walk_more p y f =
            i ∙ ap (walk_query v n s k) (from_more (scan q) grouped t r e c j u g z ez left h y)
            ∙ walk_before s k c j (query_from (left - 1) (scan q) grouped u)
            ∙ sym (ap (λ (w : State). walk_query v n w (k + o.steps) (query_from (left - 1) (scan q) grouped u)) f
            ∙ ap (λ (w : Told). walk_query v n (step j s w.holds) (k + w.steps) (query_from (left - 1) (scan q) grouped u)) judged_if)
