-- What derives from fql within the limits is read; what derives and is not within them is refused for a limit.
use Rattle.std.specs.Prelude.{Err, Ok, Result}
use Prim.Native.Nat.{ℕ, zero, suc, ◌+◌, ◌≤◌, ◌<◌}
use mathlib.Core.Path.{◌≡◌, refl, ◌∙◌}
use mathlib.Core.List.{List}
use mathlib.Core.Bool.{Bool, true, false, true≢false}
use native.Mathlib.Omega.{arith}
use Rattle.token.specs.declared.Reserved.TheVariants as Reserved
use Rattle.token.specs.declared.Punctuation.TheVariants.{Open, Close, OpenIndex, Dot}
use Rattle.token.specs.declared.TokenKind.TheVariants.{End, Name, Symbol, Word}
use Rattle.token.specs.declared.Token.{Token}
use Rattle.token.specs.Token.{token}
use Rattle.terminal.specs.declared.operator.BoolOp.{BoolOp}
use Rattle.terminal.specs.Terminal.{same, joining, opening}
use Rattle.terminal.proofs.KindCodes.{other}
use Rattle.syntax.specs.declared.comparison.Comparison.{Comparison}
use Rattle.syntax.specs.declared.fault.Cause.TheVariants.{Limit}
use Rattle.syntax.specs.Comparison as GC
use Rattle.syntax.specs.Scan.{Scan, skip, scan}
use Rattle.query_text.specs.declared.join.Join.{Join}
use Rattle.query_text.specs.declared.join.Join.TheVariants.{Last, Inner, Outer}
use Rattle.query_text.specs.Query as GQ
use Rattle.query_text.specs.Query.{Query, bad, good, last_join}
use Rattle.grammar.specs.Abnf.{Fits, one, join, left, right, none, just, stop, more, many, then, is, array_op, property, element, bool_op, property_comp_rule, fql_expr, bracketed, fql, Derives}
use Rattle.grammar.specs.Limits.{repeats, elements_in, expr_count, groups_count, comparison_count, ShortIn, ShortExpr, ShortGroups, Short}
use Rattle.syntax.proofs.Room.{Roomy, roomy}
use Rattle.grammar.proofs.Complete.{ReadsComparison, comparison_read}
use Rattle.syntax.specs.declared.fault.Fault.{Fault}

module _ (s : Scan) where
  -- what a comparison starts with
  abbrev pub First : Token → Type 0
  First t = (opening t ≡ true) × (same t (Symbol Open) ≡ false)

  named : (t : Token) → same t Name ≡ true → First t
  unfolding opening
  named t a = (rw a refl, other t Name (Symbol Open) a refl)

  not_first : (t : Token) → same t (Word Reserved.Not) ≡ true → First t
  unfolding opening
  not_first t a = (rw (other t (Word Reserved.Not) Name a refl) (rw a refl), other t (Word Reserved.Not) (Symbol Open) a refl)

  any_first : (t : Token) → same t (Word Reserved.Any) ≡ true → First t
  unfolding opening
  any_first t a = (rw (other t (Word Reserved.Any) Name a refl, other t (Word Reserved.Any) (Word Reserved.Not) a refl) (rw a refl), other t (Word Reserved.Any) (Symbol Open) a refl)

  every_first : (t : Token) → same t (Word Reserved.Every) ≡ true → First t
  unfolding opening
  every_first t a = (
    rw (other t (Word Reserved.Every) Name a refl, other t (Word Reserved.Every) (Word Reserved.Not) a refl, other t (Word Reserved.Every) (Word Reserved.Any) a refl) (rw a refl),
    other t (Word Reserved.Every) (Symbol Open) a refl,
  )

  property_first : (t u : Token) → Fits s property t u → First t
  property_first t u (left (join (one a) f)) = named t a
  property_first t u (right (join (join (one a) (one b)) f)) = named t a

  element_first : (t u : Token) → Fits s (element s) t u → First t
  element_first t u (join {m = m} f g) = property_first t m f

  array_first : (t u : Token) → Fits s (then array_op property) t u → First t
  array_first t u (join (join none (left (one a))) f) = any_first t a
  array_first t u (join (join none (right (one a))) f) = every_first t a
  array_first t u (join (join (just (one a)) o) f) = not_first t a

  pub comp_first : (t u : Token) → Fits s (property_comp_rule s) t u → First t
  comp_first t u (left (join {m = m} f g)) = property_first t m f
  comp_first t u (right (left (join {m = m} f g))) = property_first t m f
  comp_first t u (right (right (left (join {m = m} f g)))) = property_first t m f
  comp_first t u (right (right (right (left (join {m = m} f g))))) = property_first t m f
  comp_first t u (right (right (right (right (left (join {m = m} f g)))))) = element_first t m f
  comp_first t u (right (right (right (right (right (left (join {m = m} f g))))))) = element_first t m f
  comp_first t u (right (right (right (right (right (right (left (join {m = m} f g)))))))) = element_first t m f
  comp_first t u (right (right (right (right (right (right (right (left (join {m = m} f g))))))))) = array_first t m f
  comp_first t u (right (right (right (right (right (right (right (right (left (join {m = m} f g)))))))))) = array_first t m f
  comp_first t u (right (right (right (right (right (right (right (right (right (left (join {m = m} f g))))))))))) = array_first t m f
  comp_first t u (right (right (right (right (right (right (right (right (right (right (left (join {m = m} f g)))))))))))) = property_first t m f
  comp_first t u (right (right (right (right (right (right (right (right (right (right (right (join {m = m} f g)))))))))))) = element_first t m f

  pub expr_first : (t u : Token) → Fits s (fql_expr s) t u → First t
  expr_first t u (join {m = m} f g) = comp_first t m f

  -- what follows one
  join_op : (g : Bool) (m u : Token) → Fits s bool_op m u → (o : BoolOp) × (GQ.join_after s g m ≡ Ok (Inner o, u))
  unfolding GQ.join_after GQ.join_by joining
  join_op g m u (left (one a)) = (BoolOp.And, rw a refl)
  join_op g m u (right (one a)) = (BoolOp.Or, rw (other m (Word Reserved.Or) (Word Reserved.And) a refl) (rw a refl))

  pub join_end : (m : Token) → same m End ≡ true → GQ.join_after s false m ≡ Ok (Last, m)
  unfolding GQ.join_after GQ.join_by GQ.at_end joining
  join_end m a = rw (other m End (Word Reserved.And) a refl, other m End (Word Reserved.Or) a refl) (rw a refl)

  pub join_close : (m : Token) → same m (Symbol Close) ≡ true → GQ.join_after s true m ≡ GQ.after_group s (s.next m)
  unfolding GQ.join_after GQ.join_by GQ.outer joining
  join_close m a = rw (other m (Symbol Close) (Word Reserved.And) a refl, other m (Symbol Close) (Word Reserved.Or) a refl) (rw a refl)

  pub group_end : (m : Token) → same m End ≡ true → GQ.after_group s m ≡ Ok (Last, m)
  unfolding GQ.after_group GQ.outer_by GQ.at_end joining
  group_end m a = rw (other m End (Word Reserved.And) a refl, other m End (Word Reserved.Or) a refl) (rw a refl)

  group_next : (m x : Token) → Fits s bool_op m x → same x (Symbol Open) ≡ true → (o : BoolOp) × (GQ.after_group s m ≡ Ok (Outer o, s.next x))
  unfolding GQ.after_group GQ.outer_by GQ.open_group joining
  group_next m x (left (one a)) b = (BoolOp.And, rw a (rw b refl))
  group_next m x (right (one a)) b = (BoolOp.Or, rw (other m (Word Reserved.Or) (Word Reserved.And) a refl) (rw a (rw b refl)))

  abbrev pub Clear : Token → Type 0
  Clear m = (same m (Symbol Dot) ≡ false) × (same m (Symbol OpenIndex) ≡ false)

  pub op_clear : (m u : Token) → Fits s bool_op m u → Clear m
  op_clear m u (left (one a)) = (other m (Word Reserved.And) (Symbol Dot) a refl, other m (Word Reserved.And) (Symbol OpenIndex) a refl)
  op_clear m u (right (one a)) = (other m (Word Reserved.Or) (Symbol Dot) a refl, other m (Word Reserved.Or) (Symbol OpenIndex) a refl)

  pub end_clear : (m : Token) → same m End ≡ true → Clear m
  end_clear m a = (other m End (Symbol Dot) a refl, other m End (Symbol OpenIndex) a refl)

  pub close_clear : (m : Token) → same m (Symbol Close) ≡ true → Clear m
  close_clear m a = (other m (Symbol Close) (Symbol Dot) a refl, other m (Symbol Close) (Symbol OpenIndex) a refl)

  -- so many comparisons, of which `Short` says that their lists are short: read where both are within the limits, refused for a limit where not
  abbrev pub ReadsQuery : ℕ → ℕ → Type 0 → Query → Type 0
  ReadsQuery limit n Short (good l) = (n ≤ limit) × Short
  ReadsQuery limit n Short (bad f) = (f.cause ≡ Limit) × (n ≤ limit → Short → ⊥)

  recount : (limit n m : ℕ) (A B : Type 0) (r : Query) → n ≡ m → (A → B) → (B → A) → ReadsQuery limit n A r → ReadsQuery limit m B r
  recount limit n m A B (good l) e f g q = (omega (arith, q.0), f q.1)
  recount limit n m A B (bad x) e f g q = (q.0, λ h b. q.1 (omega arith) (g b))

  before_well : (limit n m : ℕ) (A : Type 0) (c : Comparison) (j : Join) (r : Query) → m ≤ 32 → ReadsQuery limit n A r → ReadsQuery (suc limit) (suc n) ((m ≤ 32) × A) (GQ.before c j r)
  unfolding GQ.before
  before_well limit n m A c j (good l) h e = (omega (arith, e.0), (h, e.1))
  before_well limit n m A c j (bad f) h e = (e.0, λ k l. e.1 (omega arith) l.1)

  joined_well : (limit n m : ℕ) (A : Type 0) (g : Bool) (c : Comparison) (j : Join) (u : Token) → m ≤ 32 → last_join j ≡ false → ReadsQuery limit n A (GQ.query_from limit s g u)
      → ReadsQuery (suc limit) (suc n) ((m ≤ 32) × A) (elim (last_join j) [ true ↦ good (GQ.only c) | false ↦ GQ.before c j (GQ.query_from limit s g u) ])
  joined_well limit n m A g c Last u h z e = absurd (true≢false z)
  joined_well limit n m A g c (Inner o) u h z e = before_well limit n m A c (Inner o) (GQ.query_from limit s g u) h e
  joined_well limit n m A g c (Outer o) u h z e = before_well limit n m A c (Outer o) (GQ.query_from limit s g u) h e

  -- the comparisons of bracketed expressions, the first one's bracket read
  abbrev pub Groups : Token → Token → Type 0
  Groups t e = Fits s (then (fql_expr s) (then (is (Symbol Close)) (many (then bool_op (bracketed s))))) t e

  unfoldable pub group_count : {t e : Token} → Groups t e → ℕ
  group_count (join f (join c k)) = expr_count f + groups_count k

  unfoldable pub ShortGroup : {t e : Token} → Groups t e → Type 0
  ShortGroup (join f (join c k)) = ShortExpr f × ShortGroups k

  pub expr_some : (t e : Token) (f : Fits s (fql_expr s) t e) → 0 < expr_count f
  unfolding expr_count
  expr_some t e (join c k) = omega arith

  pub group_some : (t e : Token) (f : Groups t e) → 0 < group_count f
  unfolding group_count
  group_some t e (join {m = m} f (join c k)) = omega (arith, expr_some t m f)

  pub groups_first : (t e : Token) → Groups t e → First t
  groups_first t e (join {m = m} f g) = expr_first t m f

  module _ (roomy : Roomy s) where
    from_compared : (limit n m : ℕ) (A : Type 0) (g : Bool) (x u : Token) (j : Join) (r : Result (Comparison × Token) Fault) → ReadsComparison s roomy m x r → GQ.join_after s g x ≡ Ok (j, u)
        → ((c : Comparison) → m ≤ 32 → ReadsQuery (suc limit) n ((m ≤ 32) × A) (elim (last_join j) [ true ↦ good (GQ.only c) | false ↦ GQ.before c j (GQ.query_from limit s g u) ]))
        → ReadsQuery (suc limit) n ((m ≤ 32) × A) (elim (GQ.next_by s g r) [ Err f ↦ bad f | Ok (c, j, u) ↦ elim (last_join j) [ true ↦ good (GQ.only c) | false ↦ GQ.before c j (GQ.query_from limit s g u) ] ])
    unfolding GQ.next_by GQ.next_of
    from_compared limit n m A g x u j (Ok (c, y)) e f q = rw e.0 (rw f (q c e.1))
    from_compared limit n m A g x u j (Err y) e f q = (e.0, λ k l. omega (arith, e.1, l.0))

    from_more : (limit n : ℕ) (A : Type 0) (g : Bool) (t m u : Token) (j : Join) (f : Fits s (property_comp_rule s) t m) → Clear m → GQ.join_after s g m ≡ Ok (j, u) → last_join j ≡ false
        → ReadsQuery limit n A (GQ.query_from limit s g u) → ReadsQuery (suc limit) (suc n) ((elements_in f ≤ 32) × A) (GQ.query_from (suc limit) s g t)
    unfolding GQ.query_from GQ.next_comparison
    from_more limit n A g t m u j f k e z q =
        from_compared limit (suc n) (elements_in f) A g m u j (GC.property_comp s t) (comparison_read s roomy t m f k.0 k.1) e
        (λ c h. joined_well limit n (elements_in f) A g c j u h z q)

    from_last : (limit : ℕ) (g : Bool) (t m u : Token) (f : Fits s (property_comp_rule s) t m) → Clear m → GQ.join_after s g m ≡ Ok (Last, u)
        → ReadsQuery (suc limit) 1 ((elements_in f ≤ 32) × Unit) (GQ.query_from (suc limit) s g t)
    unfolding GQ.query_from GQ.next_comparison
    from_last limit g t m u f k e =
        from_compared limit 1 (elements_in f) Unit g m u Last (GC.property_comp s t) (comparison_read s roomy t m f k.0 k.1) e (λ c h. (omega arith, (h, tt)))

    out_of : (n : ℕ) (A : Type 0) (g : Bool) (t : Token) → First t → 0 < n → ReadsQuery 0 n A (GQ.query_from zero s g t)
    unfolding GQ.query_from
    out_of n A g t f h = rw f.0 (refl, λ k a. omega arith)

    expr_read : (n : ℕ) (t e : Token) (f : Fits s (fql_expr s) t e) → same e End ≡ true → ReadsQuery n (expr_count f) (ShortExpr f) (GQ.query_from n s false t)
    unfolding expr_count repeats ShortExpr ShortIn
    expr_read zero t e f x = out_of (expr_count f) (ShortExpr f) false t (expr_first t e f) (expr_some t e f)
    expr_read (suc n) t e (join c stop) x = from_last n false t e e c (end_clear e x) (join_end e x)
    expr_read (suc n) t e (join {m = m} c (more (join {m = u} o d) k)) x =
        let i = join_op false m u o in
        from_more n (expr_count (join d k)) (ShortExpr (join d k)) false t m u (Inner i.0) c (op_clear m u o) i.1 refl (expr_read n u e (join d k) x)

    -- a group of one comparison, closed: what follows it, where the groups behind it are read by `behind`
    group_closed : (n : ℕ) → ((t e : Token) (f : Groups t e) → same e End ≡ true → ReadsQuery n (group_count f) (ShortGroup f) (GQ.query_from n s true t))
        → (t m e : Token) (c : Fits s (property_comp_rule s) t m) (a : same m (Symbol Close) ≡ true) (k : Fits s (many (then bool_op (bracketed s))) (s.next m) e) → same e End ≡ true
        → ReadsQuery (suc n) (group_count (join (join c stop) (join (one a) k))) (ShortGroup (join (join c stop) (join (one a) k))) (GQ.query_from (suc n) s true t)
    unfolding group_count groups_count expr_count repeats ShortGroup ShortGroups ShortExpr ShortIn
    group_closed n behind t m e c a stop x =
        recount (suc n) 1 1 _ _ (GQ.query_from (suc n) s true t) refl (λ h. (h, tt)) (λ h. h.0)
        (from_last n true t m (s.next m) c (close_clear m a) (join_close m a ∙ group_end (s.next m) x))
    group_closed n behind t m e c a (more (join {m = v} o (join (one b) (join d w))) k) x =
        let i = group_next (s.next m) v o b in
        recount (suc n) (suc (expr_count d + groups_count k)) (1 + (expr_count d + groups_count k)) _ _ (GQ.query_from (suc n) s true t) (omega arith) (λ h. ((h.0, tt), h.1)) (λ h. (h.0.0, h.1))
        (from_more n (expr_count d + groups_count k) (ShortExpr d × ShortGroups k) true t m (s.next v) (Outer i.0) c (close_clear m a) (join_close m a ∙ i.1) refl (behind (s.next v) e (join d (join w k)) x))

    group_read : (n : ℕ) (t e : Token) (f : Groups t e) → same e End ≡ true → ReadsQuery n (group_count f) (ShortGroup f) (GQ.query_from n s true t)
    unfolding group_count groups_count expr_count repeats ShortGroup ShortGroups ShortExpr ShortIn
    group_read zero t e f x = out_of (group_count f) (ShortGroup f) true t (groups_first t e f) (group_some t e f)
    group_read (suc n) t e (join (join c stop) (join (one {t = m} a) k)) x = group_closed n (group_read n) t m e c a k x
    group_read (suc n) t e (join (join {m = m} c (more (join {m = u} o d) k)) (join y z)) x =
        let i = join_op true m u o in
        recount (suc n) (suc (expr_count (join d k) + groups_count z)) (suc (suc (repeats k)) + groups_count z) _ _ (GQ.query_from (suc n) s true t) (omega arith) (λ h. ((h.0, h.1.0), h.1.1)) (λ h. (h.0.0, (h.0.1, h.1)))
        (from_more n (expr_count (join d k) + groups_count z) (ShortExpr (join d k) × ShortGroups z) true t m u (Inner i.0) c (op_clear m u o) i.1 refl (group_read n u e (join (join d k) (join y z)) x))

    whole_read : (n : ℕ) (t e : Token) (f : Fits s (fql s) t e) → same e End ≡ true
        → ReadsQuery n (comparison_count f) (Short f) (GQ.query_from n s (same t (Symbol Open)) (skip s (same t (Symbol Open)) t))
    unfolding comparison_count Short group_count ShortGroup
    whole_read n t e (left f) x = rw (expr_first t e f).1 (expr_read n t e f x)
    whole_read n t e (right (join (join (one a) (join f c)) k)) x = rw a (group_read n (s.next t) e (join f (join c k)) x)

-- a query that derives is read if the derivation is within the limits, and refused for a limit if not
pub derived_read : (q : List ℕ) (d : Derives (scan q)) → ReadsQuery (scan q) 64 (comparison_count d.1) (Short d.1) (GQ.query q)
unfolding GQ.query GQ.query_start GQ.start_at
derived_read q d = whole_read (scan q) (roomy q) 64 ((scan q).next (token End 0 0)) d.0 d.1 d.2
