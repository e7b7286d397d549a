-- A query that derives and is read, is read as the comparisons of its derivation. Which ones are read, and which refused for a limit, is grammar's CompleteQuery.
use Rattle.std.specs.Prelude.{Err, Ok, Result}
use Prim.Native.Nat.{ℕ, zero, suc}
use mathlib.Core.Path.{◌≡◌, refl, sym, ap, ◌∙◌, subst}
use mathlib.Core.List.{List}
use mathlib.Core.Bool.{Bool, true, false, true≢false}
use Rattle.token.specs.declared.Reserved.TheVariants as Reserved
use Rattle.token.specs.declared.Punctuation.TheVariants.{Open, Close}
use Rattle.token.specs.declared.TokenKind.TheVariants.{End, Symbol, Word}
use Rattle.token.specs.declared.Token.{Token}
use Rattle.token.specs.Token.{token}
use Rattle.terminal.specs.Terminal.{same, joining}
use Rattle.terminal.proofs.KindCodes.{other}
use Rattle.syntax.specs.declared.comparison.Comparison.{Comparison}
use Rattle.syntax.specs.declared.fault.Fault.{Fault}
use Rattle.syntax.specs.Comparison as GC
use Rattle.syntax.specs.Scan.{Scan, skip, scan}
use Rattle.syntax.proofs.Room.{Roomy, roomy}
use Rattle.query_text.specs.declared.join.Join.{Join}
use Rattle.query_text.specs.declared.join.Join.TheVariants.{Last, Inner, Outer}
use Rattle.query_text.specs.Query as GQ
use Rattle.query_text.specs.Query.{Comparisons, Query, bad, good, last_join}
use Rattle.grammar.specs.Abnf.{Fits, one, join, left, right, stop, more, many, then, bool_op, property_comp_rule, fql_expr, bracketed, fql, Derives}
use Rattle.grammar.specs.Limits.{elements_in, WithinLimits}
use Rattle.grammar.proofs.Complete.{ReadsComparison, comparison_read}
use Rattle.grammar.proofs.CompleteQuery.{expr_first, join_end, join_close, group_end, Clear, op_clear, end_clear, close_clear, Groups}
use Rattle.grammar.proofs.Exact.{exact}
use Rattle.acceptance.specs.Comparisons.{comparison_of, bool_op_of, followed, in_expr, in_groups, comparisons_in}
use Rattle.acceptance.proofs.Derived.{IsComparison, comparison_is}

-- comparisons that are read are these
abbrev IsQuery : Comparisons → Query → Type 0
IsQuery l (good k) = k ≡ l
IsQuery l (bad f) = Unit

before_is : (c : Comparison) (j : Join) (l : Comparisons) (r : Query) → IsQuery l r → IsQuery (GQ.more c j l) (GQ.before c j r)
unfolding GQ.before
before_is c j l (good k) e = ap (GQ.more c j) e
before_is c j l (bad f) e = tt

module _ (s : Scan) where
  -- what follows a comparison
  join_op : (g : Bool) (m u : Token) (o : Fits s bool_op m u) → GQ.join_after s g m ≡ Ok (Inner (bool_op_of o), u)
  unfolding GQ.join_after GQ.join_by joining bool_op_of
  join_op g m u (left (one a)) = rw a refl
  join_op g m u (right (one a)) = rw (other m (Word Reserved.Or) (Word Reserved.And) a refl) (rw a refl)

  group_next : (m x : Token) (o : Fits s bool_op m x) → same x (Symbol Open) ≡ true → GQ.after_group s m ≡ Ok (Outer (bool_op_of o), s.next x)
  unfolding GQ.after_group GQ.outer_by GQ.open_group joining bool_op_of
  group_next m x (left (one a)) b = rw a (rw b refl)
  group_next m x (right (one a)) b = rw (other m (Word Reserved.Or) (Word Reserved.And) a refl) (rw a (rw b refl))

  joined_is : (limit : ℕ) (g : Bool) (c : Comparison) (j : Join) (l : Comparisons) (u : Token) → last_join j ≡ false → IsQuery l (GQ.query_from limit s g u)
      → IsQuery (GQ.more c j l) (elim (last_join j) [ true ↦ good (GQ.only c) | false ↦ GQ.before c j (GQ.query_from limit s g u) ])
  joined_is limit g c Last l u z e = absurd (true≢false z)
  joined_is limit g c (Inner o) l u z e = before_is c (Inner o) l (GQ.query_from limit s g u) e
  joined_is limit g c (Outer o) l u z e = before_is c (Outer o) l (GQ.query_from limit s g u) e

  -- the comparisons of bracketed expressions, the first one's bracket read
  unfoldable in_first : {t e : Token} → Groups s t e → Comparisons
  in_first (join f (join c k)) = in_expr (in_groups k) f

  out_of : (g : Bool) (t : Token) (l : Comparisons) → IsQuery l (GQ.query_from zero s g t)
  unfolding GQ.query_from
  out_of g t l = tt

  module _ (roomy : Roomy s) where
    from_compared : (limit n : ℕ) (g : Bool) (c : Comparison) (x u : Token) (j : Join) (l : Comparisons) (r : Result (Comparison × Token) Fault) → ReadsComparison s roomy n x r → IsComparison c r → GQ.join_after s g x ≡ Ok (j, u)
        → IsQuery l (elim (last_join j) [ true ↦ good (GQ.only c) | false ↦ GQ.before c j (GQ.query_from limit s g u) ])
        → IsQuery l (elim (GQ.next_by s g r) [ Err f ↦ bad f | Ok (c, j, u) ↦ elim (last_join j) [ true ↦ good (GQ.only c) | false ↦ GQ.before c j (GQ.query_from limit s g u) ] ])
    unfolding GQ.next_by GQ.next_of
    from_compared limit n g c x u j l (Ok (d, y)) p e f q =
        rw p.0
        (rw f
        (subst (λ (z : Comparison). IsQuery l (elim (last_join j) [ true ↦ good (GQ.only z) | false ↦ GQ.before z j (GQ.query_from limit s g u) ])) (sym e) q))
    from_compared limit n g c x u j l (Err y) p e f q = tt

    from_more : (limit : ℕ) (g : Bool) (t m u : Token) (j : Join) (l : Comparisons) (f : Fits s (property_comp_rule s) t m) → Clear s m → GQ.join_after s g m ≡ Ok (j, u) → last_join j ≡ false
        → IsQuery l (GQ.query_from limit s g u) → IsQuery (GQ.more (comparison_of f) j l) (GQ.query_from (suc limit) s g t)
    unfolding GQ.query_from GQ.next_comparison
    from_more limit g t m u j l f k e z q =
        from_compared limit (elements_in f) g (comparison_of f) m u j (GQ.more (comparison_of f) j l) (GC.property_comp s t) (comparison_read s roomy t m f k.0 k.1) (comparison_is s roomy t m f k.0 k.1) e
        (joined_is limit g (comparison_of f) j l u z q)

    from_last : (limit : ℕ) (g : Bool) (t m u : Token) (f : Fits s (property_comp_rule s) t m) → Clear s m → GQ.join_after s g m ≡ Ok (Last, u)
        → IsQuery (GQ.only (comparison_of f)) (GQ.query_from (suc limit) s g t)
    unfolding GQ.query_from GQ.next_comparison
    from_last limit g t m u f k e =
        from_compared limit (elements_in f) g (comparison_of f) m u Last (GQ.only (comparison_of f)) (GC.property_comp s t) (comparison_read s roomy t m f k.0 k.1) (comparison_is s roomy t m f k.0 k.1) e
        refl

    expr_is : (n : ℕ) (t e : Token) (f : Fits s (fql_expr s) t e) → same e End ≡ true → IsQuery (in_expr GQ.only f) (GQ.query_from n s false t)
    unfolding in_expr followed
    expr_is zero t e f x = out_of false t (in_expr GQ.only f)
    expr_is (suc n) t e (join c stop) x = from_last n false t e e c (end_clear s e x) (join_end s e x)
    expr_is (suc n) t e (join {m = m} c (more (join {m = u} o d) k)) x =
        from_more n false t m u (Inner (bool_op_of o)) (in_expr GQ.only (join d k)) c (op_clear s m u o) (join_op false m u o) refl (expr_is n u e (join d k) x)

    -- a group of one comparison, closed: what follows it, where the groups behind it are read by `behind`
    group_closed : (n : ℕ) → ((t e : Token) (f : Groups s t e) → same e End ≡ true → IsQuery (in_first f) (GQ.query_from n s true t))
        → (t m e : Token) (c : Fits s (property_comp_rule s) t m) (a : same m (Symbol Close) ≡ true) (k : Fits s (many (then bool_op (bracketed s))) (s.next m) e) → same e End ≡ true
        → IsQuery (in_first (join (join c stop) (join (one a) k))) (GQ.query_from (suc n) s true t)
    unfolding in_first in_expr in_groups followed
    group_closed n behind t m e c a stop x = from_last n true t m (s.next m) c (close_clear s m a) (join_close s m a ∙ group_end s (s.next m) x)
    group_closed n behind t m e c a (more (join {m = v} o (join (one b) (join d w))) k) x =
        from_more n true t m (s.next v) (Outer (bool_op_of o)) (in_first (join d (join w k))) c (close_clear s m a) (join_close s m a ∙ group_next (s.next m) v o b) refl (behind (s.next v) e (join d (join w k)) x)

    group_is : (n : ℕ) (t e : Token) (f : Groups s t e) → same e End ≡ true → IsQuery (in_first f) (GQ.query_from n s true t)
    unfolding in_first in_expr in_groups followed
    group_is zero t e f x = out_of true t (in_first f)
    group_is (suc n) t e (join (join c stop) (join (one {t = m} a) k)) x = group_closed n (group_is n) t m e c a k x
    group_is (suc n) t e (join (join {m = m} c (more (join {m = u} o d) k)) (join y z)) x =
        from_more n true t m u (Inner (bool_op_of o)) (in_first (join (join d k) (join y z))) c (op_clear s m u o) (join_op true m u o) refl (group_is n u e (join (join d k) (join y z)) x)

    whole_is : (n : ℕ) (t e : Token) (f : Fits s (fql s) t e) → same e End ≡ true
        → IsQuery (comparisons_in f) (GQ.query_from n s (same t (Symbol Open)) (skip s (same t (Symbol Open)) t))
    unfolding comparisons_in in_first
    whole_is n t e (left f) x = rw (expr_first s t e f).1 (expr_is n t e f x)
    whole_is n t e (right (join (join (one a) (join f c)) k)) x = rw a (group_is n (s.next t) e (join f (join c k)) x)

module _ (q : List ℕ) where
  derived_is : (d : Derives (scan q)) → IsQuery (comparisons_in d.1) (GQ.query q)
  unfolding GQ.query GQ.query_start GQ.start_at
  derived_is d = whole_is (scan q) (roomy q) 64 ((scan q).next (token End 0 0)) d.0 d.1 d.2

  -- what is read are the comparisons of the text's derivation, whichever that is
  pub read_derived : (l : Comparisons) → GQ.query q ≡ good l → (d : Derives (scan q)) → l ≡ comparisons_in d.1
  read_derived l e d = rw e at (derived_is d)

  pub exact_comparisons : (d : Derives (scan q)) → WithinLimits d.1 → GQ.query q ≡ good (comparisons_in d.1)
  exact_comparisons d w = let r = (exact q).1 (d, w) in r.1 ∙ ap good (read_derived r.0 r.1 d)
