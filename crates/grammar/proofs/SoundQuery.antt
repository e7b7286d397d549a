-- A query that is read derives from fql.
use Rattle.std.specs.Prelude.{Err, None, Ok, Option, Result, Some}
use Prim.Native.Nat.{ℕ, zero, suc}
use mathlib.Core.Path.{◌≡◌, refl, ap, ◌∙◌}
use mathlib.Core.List.{List}
use mathlib.Core.Bool.{Bool, true, false}
use Rattle.base.specs.Pick.{pick}
use Rattle.token.specs.declared.Reserved.TheVariants as Reserved
use Rattle.token.specs.declared.Punctuation.TheVariants.{Open, Close}
use Rattle.token.specs.declared.TokenKind.TheVariants.{End, Symbol, Word}
use Rattle.token.specs.declared.Token.{Token}
use Rattle.token.specs.Token.{token}
use Rattle.terminal.specs.declared.operator.BoolOp.{BoolOp}
use Rattle.terminal.specs.Terminal.{same, joining}
use Rattle.syntax.specs.declared.comparison.Comparison.{Comparison}
use Rattle.syntax.specs.Comparison as GC
use Rattle.syntax.specs.Scan.{Scan, skip, scan}
use Rattle.query_text.specs.declared.join.Join.{Join}
use Rattle.query_text.specs.declared.join.Join.TheVariants.{Last, Inner, Outer}
use Rattle.query_text.specs.Query as GQ
use Rattle.query_text.specs.Query.{Query, bad, good, Comparisons, last_join}
use Rattle.grammar.specs.Abnf.{Fits, one, join, left, right, stop, more, many, then, is, bool_op, property_comp_rule, fql_expr, bracketed, fql, Derives}
use Rattle.grammar.proofs.SoundComp.{comparison_fits}
use Rattle.syntax.specs.declared.fault.Fault.{Fault}

abbrev Nothing : Type 0
Nothing = true ≡ true

module _ (s : Scan) where
  op_by : (t : Token) (o : BoolOp) (a b : Bool) → same t (Word Reserved.And) ≡ a → same t (Word Reserved.Or) ≡ b
      → pick a (Some BoolOp.And) (pick b (Some BoolOp.Or) None) ≡ Some o → Fits s bool_op t (s.next t)
  op_by t o true b e f g = left (one e)
  op_by t o false true e f g = right (one f)
  op_by t o false false e f g = absurd (cc)

  pub op_fits : (t : Token) (o : BoolOp) → joining t ≡ Some o → Fits s bool_op t (s.next t)
  unfolding joining
  op_fits t o g = op_by t o (same t (Word Reserved.And)) (same t (Word Reserved.Or)) refl refl g

  -- what follows a comparison
  abbrev pub JoinOk : Bool → Token → Result (Join × Token) ℕ → Type 0
  JoinOk false t (Ok (Last, u)) = (t ≡ u) × (same u End ≡ true)
  JoinOk true t (Ok (Last, u)) = (same t (Symbol Close) ≡ true) × (s.next t ≡ u) × (same u End ≡ true)
  JoinOk g t (Ok (Inner o, u)) = Fits s bool_op t u
  JoinOk false t (Ok (Outer o, u)) = ⊥
  JoinOk true t (Ok (Outer o, u)) = (same t (Symbol Close) ≡ true) × Fits s (then bool_op (is (Symbol Open))) (s.next t) u
  JoinOk g t (Err x) = Nothing

  end_by : (t : Token) (d : Bool) → same t End ≡ d → JoinOk false t (pick d (Ok (Last, t)) (Err t.start))
  end_by t true e = (refl, e)
  end_by t false e = refl

  close_end : (t : Token) (d : Bool) → same t (Symbol Close) ≡ true → same (s.next t) End ≡ d → JoinOk true t (pick d (Ok (Last, s.next t)) (Err (s.next t).start))
  close_end t true c e = (c, refl, e)
  close_end t false c e = refl

  open_by : (t : Token) (o : BoolOp) (d : Bool) → same t (Symbol Close) ≡ true → Fits s bool_op (s.next t) (s.next (s.next t)) → same (s.next (s.next t)) (Symbol Open) ≡ d
      → JoinOk true t (pick d (Ok (Outer o, s.next (s.next (s.next t)))) (Err (s.next (s.next t)).start))
  open_by t o true c f e = (c, join f (one e))
  open_by t o false c f e = refl

  group_by : (t : Token) (k : Option BoolOp) → same t (Symbol Close) ≡ true → joining (s.next t) ≡ k → JoinOk true t (GQ.outer_by s (s.next t) k)
  unfolding GQ.outer_by GQ.open_group GQ.at_end
  group_by t (Some o) c e = open_by t o (same (s.next (s.next t)) (Symbol Open)) c (op_fits (s.next t) o e) refl
  group_by t None c e = close_end t (same (s.next t) End) c refl

  outer_by_law : (t : Token) (d : Bool) → same t (Symbol Close) ≡ d → JoinOk true t (pick d (GQ.after_group s (s.next t)) (Err t.start))
  unfolding GQ.after_group
  outer_by_law t true e = group_by t (joining (s.next t)) e refl
  outer_by_law t false e = refl

  join_by_law : (g : Bool) (t : Token) (k : Option BoolOp) → joining t ≡ k → JoinOk g t (GQ.join_by s g t k)
  unfolding GQ.join_by GQ.outer GQ.at_end
  join_by_law true t (Some o) e = op_fits t o e
  join_by_law false t (Some o) e = op_fits t o e
  join_by_law true t None e = outer_by_law t (same t (Symbol Close)) refl
  join_by_law false t None e = end_by t (same t End) refl

  join_ok : (g : Bool) (t : Token) → JoinOk g t (GQ.join_after s g t)
  unfolding GQ.join_after
  join_ok g t = join_by_law g t (joining t) refl

  -- the rest of a query: fql-expr, or fql-expr ")" *( bool-op "(" fql-expr ")" )
  abbrev Rest : Bool → Token → Token → Type 0
  Rest false t e = Fits s (fql_expr s) t e
  Rest true t e = Fits s (then (fql_expr s) (then (is (Symbol Close)) (many (then bool_op (bracketed s))))) t e

  abbrev QueryOk : Bool → Token → Query → Type 0
  QueryOk g t (bad f) = Nothing
  QueryOk g t (good l) = (e : Token) × Rest g t e × (same e End ≡ true)

  abbrev pub NextOk : Bool → Token → Result (Comparison × Join × Token) Fault → Type 0
  NextOk g t (Err f) = Nothing
  NextOk g t (Ok (c, j, u)) = (m : Token) × Fits s (property_comp_rule s) t m × JoinOk g m (Ok (j, u))

  next_join : (g : Bool) (t m : Token) (c : Comparison) (r : Result (Join × Token) ℕ) → Fits s (property_comp_rule s) t m → JoinOk g m r → NextOk g t (GQ.next_of c r)
  unfolding GQ.next_of
  next_join g t m c (Ok (j, u)) f e = (m, f, e)
  next_join g t m c (Err x) f e = refl

  next_by_law : (g : Bool) (t : Token) (r : Result (Comparison × Token) Fault) → GC.property_comp s t ≡ r → NextOk g t (GQ.next_by s g r)
  unfolding GQ.next_by
  next_by_law g t (Ok (c, u)) e = next_join g t u c (GQ.join_after s g u) (comparison_fits s t u c e) (join_ok g u)
  next_by_law g t (Err f) e = refl

  pub next_ok : (g : Bool) (t : Token) → NextOk g t (GQ.next_comparison s g t)
  unfolding GQ.next_comparison
  next_ok g t = next_by_law g t (GC.property_comp s t) refl

  last_ok : (g : Bool) (t m u : Token) → Fits s (property_comp_rule s) t m → JoinOk g m (Ok (Last, u)) → (e : Token) × Rest g t e × (same e End ≡ true)
  last_ok false t m u f j = (m, join f stop, ap (λ (x : Token). same x End) j.0 ∙ j.1)
  last_ok true t m u f j = (s.next m, join (join f stop) (join (one j.0) stop), ap (λ (x : Token). same x End) j.1 ∙ j.2)

  inner_rest : (g : Bool) (t m u e : Token) → Fits s (property_comp_rule s) t m → Fits s bool_op m u → Rest g u e → Rest g t e
  inner_rest false t m u e f o (join a b) = join f (more (join o a) b)
  inner_rest true t m u e f o (join (join a b) k) = join (join f (more (join o a) b)) k

  outer_rest : (t m u e : Token) → Fits s (property_comp_rule s) t m → same m (Symbol Close) ≡ true → Fits s (then bool_op (is (Symbol Open))) (s.next m) u → Rest true u e → Rest true t e
  outer_rest t m u e f c (join o p) (join a (join d k)) = join (join f stop) (join (one c) (more (join o (join p (join a d))) k))

  more_ok : (g : Bool) (t m u : Token) (c : Comparison) (j : Join) (r : Query) → last_join j ≡ false → Fits s (property_comp_rule s) t m → JoinOk g m (Ok (j, u)) → QueryOk g u r → QueryOk g t (GQ.before c j r)
  unfolding GQ.before
  more_ok g t m u c j (bad f) n p k q = refl
  more_ok g t m u c Last (good l) n p k q = absurd (cc)
  more_ok g t m u c (Inner o) (good l) n p k q = (q.0, inner_rest g t m u q.0 p k q.1, q.2)
  more_ok true t m u c (Outer o) (good l) n p k q = (q.0, outer_rest t m u q.0 p k.0 k.1 q.1, q.2)
  more_ok false t m u c (Outer o) (good l) n p k q = absurd k

  joined_by : (n : ℕ) (g : Bool) (t u : Token) (c : Comparison) (j : Join) (d : Bool) → last_join j ≡ d → NextOk g t (Ok (c, j, u)) → QueryOk g u (GQ.query_from n s g u)
      → QueryOk g t (elim d [ true ↦ good (GQ.only c) | false ↦ GQ.before c j (GQ.query_from n s g u) ])
  joined_by n g t u c Last true e f q = last_ok g t f.0 u f.1 f.2
  joined_by n g t u c (Inner o) true e f q = absurd (cc)
  joined_by n g t u c (Outer o) true e f q = absurd (cc)
  joined_by n g t u c j false e f q = more_ok g t f.0 u c j (GQ.query_from n s g u) e f.1 f.2 q

  query_by : (n : ℕ) (g : Bool) (t : Token) (r : Result (Comparison × Join × Token) Fault) → NextOk g t r → ((u : Token) → QueryOk g u (GQ.query_from n s g u))
      → QueryOk g t (elim r [ Err f ↦ bad f | Ok (c, j, u) ↦ elim (last_join j) [ true ↦ good (GQ.only c) | false ↦ GQ.before c j (GQ.query_from n s g u) ] ])
  query_by n g t (Err f) k q = refl
  query_by n g t (Ok (c, j, u)) k q = joined_by n g t u c j (last_join j) refl k (q u)

  query_ok : (n : ℕ) (g : Bool) (t : Token) → QueryOk g t (GQ.query_from n s g t)
  unfolding GQ.query_from
  query_ok zero g t = refl
  query_ok (suc n) g t = query_by n g t (GQ.next_comparison s g t) (next_ok g t) (query_ok n g)

  whole_by : (t : Token) (d : Bool) (r : Query) (l : Comparisons) → same t (Symbol Open) ≡ d → QueryOk d (skip s d t) r → r ≡ good l
      → (e : Token) × Fits s (fql s) t e × (same e End ≡ true)
  whole_by t true (good x) l e (u, join a (join c k), n) f = (u, right (join (join (one e) (join a c)) k), n)
  whole_by t false (good x) l e q f = (q.0, left q.1, q.2)
  whole_by t d (bad x) l e q f = absurd (cc)

-- a query that is read derives from DSP0212's rule fql
pub query_derives : (q : List ℕ) (l : Comparisons) → GQ.query q ≡ good l → Derives (scan q)
unfolding GQ.query GQ.query_start GQ.start_at
query_derives q l e =
    whole_by (scan q) ((scan q).next (token End 0 0)) (same ((scan q).next (token End 0 0)) (Symbol Open)) (GQ.query q) l refl
    (query_ok (scan q) 64 (same ((scan q).next (token End 0 0)) (Symbol Open)) (skip (scan q) (same ((scan q).next (token End 0 0)) (Symbol Open)) ((scan q).next (token End 0 0)))) e
