-- A query that is refused is begun: its tokens, up to the fault's, and with it where it is over a limit, begin what fits `fql`.
use Rattle.std.specs.Prelude.{Err, None, Ok, Option, Result, Some}
use Prim.Native.Nat.{ℕ, zero, suc}
use mathlib.Core.Path.{◌≡◌, refl}
use mathlib.Core.List.{List}
use mathlib.Core.Bool.{Bool, true, false}
use Rattle.base.specs.Pick.{pick}
use Rattle.token.specs.declared.Punctuation.TheVariants.{Open, Close}
use Rattle.token.specs.declared.TokenKind.TheVariants.{End, Symbol}
use Rattle.token.specs.declared.Token.{Token}
use Rattle.terminal.specs.declared.operator.BoolOp.{BoolOp}
use Rattle.terminal.specs.Terminal.{same, joining, opening}
use Rattle.syntax.specs.declared.comparison.Comparison.{Comparison}
use Rattle.syntax.specs.declared.fault.Fault.{Fault}
use Rattle.syntax.specs.Comparison as GC
use Rattle.syntax.specs.Scan.{Scan, limited, skip}
use Rattle.query_text.specs.declared.join.Join.{Join}
use Rattle.query_text.specs.declared.join.Join.TheVariants.{Last, Inner, Outer}
use Rattle.query_text.specs.Query as GQ
use Rattle.query_text.specs.Query.{Query, bad, good, last_join}
use Rattle.query_text.proofs.Simulation.{query_at}
use Rattle.grammar.specs.Abnf.{Rule, Fits, one, join, left, right, stop, more, many, then, is, bool_op, property_comp_rule, fql_expr, bracketed, fql}
use Rattle.grammar.proofs.SoundComp.{comparison_fits}
use Rattle.grammar.proofs.SoundQuery.{op_fits, NextOk, next_ok}
use Rattle.grammar_places.proofs.Numbers.{numbered, by_number}
use Rattle.grammar_places.proofs.Begun as B
use Rattle.grammar_places.proofs.Begun.{Completable, complete_stop, complete_then, thens, Read, read, at_number, Begun, here, in_first, in_second, begun_as, Joins}
use Rattle.grammar_places.proofs.Rules.{s_mark, s_bool_op, s_comparison, c_is, c_comparison, c_bracketed, r_mark}
use Rattle.grammar_places.proofs.LeftSide.{opened}
use Rattle.grammar_places.proofs.RightSide.{reach}
use Rattle.grammar_places.proofs.Comparison.{CompBegun, comp_begun}

-- what may follow a comparison, outside of a group and in one
abbrev groups : Scan → Rule
groups s = many (then bool_op (bracketed s))

abbrev after : Bool → Scan → Rule
after false s = many (then bool_op (property_comp_rule s))
after true s = then (many (then bool_op (property_comp_rule s))) (then (is (Symbol Close)) (groups s))

-- a query from a comparison on
abbrev rest : Bool → Scan → Rule
rest false s = fql_expr s
rest true s = then (fql_expr s) (then (is (Symbol Close)) (groups s))

compared : (g : Bool) → Joins (λ s. property_comp_rule s) (after g) (rest g)
compared false s t m e f h = join f h
compared true s t m e f (join k h) = join (join f k) h

joined : (g : Bool) → Joins (λ s. then (property_comp_rule s) bool_op) (rest g) (rest g)
joined false s t m e (join f o) (join a b) = join f (more (join o a) b)
joined true s t m e (join f o) (join (join a b) h) = join (join f (more (join o a) b)) h

abbrev regrouped : Scan → Rule
regrouped s = then (property_comp_rule s) (then (is (Symbol Close)) (then bool_op (is (Symbol Open))))

next_group : Joins regrouped (rest true) (rest true)
next_group s t m e (join f (join c (join o p))) (join a (join d h)) = join (join f stop) (join c (more (join o (join p (join a d))) h))

c_after : (g : Bool) → Completable (after g)
c_after false = complete_stop
c_after true = complete_then complete_stop (complete_then (c_is B.close_group) complete_stop)

c_rest : (g : Bool) → Completable (rest g)
c_rest false = complete_then c_comparison complete_stop
c_rest true = complete_then (complete_then c_comparison complete_stop) (complete_then (c_is B.close_group) complete_stop)

module _ (q : List ℕ) where
  abbrev S : Scan
  S = by_number q

  abbrev F : ℕ → Token
  F = numbered q

  -- what follows a comparison
  abbrev JoinBegun : Bool → ℕ → Result (Join × Token) ℕ → Type 0
  JoinBegun g i (Ok (j, u)) = Unit
  JoinBegun g i (Err x) = Begun q (after g) i x

  end_by : (i : ℕ) (d : Bool) → JoinBegun false i (pick d (Ok (Last, F i)) (Err i))
  end_by i true = tt
  end_by i false = here q (c_after false) i

  closed : Joins (λ s. is (Symbol Close)) groups (after true)
  closed s t m e f h = join stop (join f h)

  close_end : (i : ℕ) (d : Bool) → same (F i) (Symbol Close) ≡ true → JoinBegun true i (pick d (Ok (Last, F (suc i))) (Err (suc i)))
  close_end i true c = tt
  close_end i false c = in_second q (r_mark q Close i c) (here q complete_stop (suc i)) closed

  open_by : (i : ℕ) (o : BoolOp) (d : Bool) → same (F i) (Symbol Close) ≡ true → joining (F (suc i)) ≡ Some o
      → JoinBegun true i (pick d (Ok (Outer o, F (suc (suc (suc i))))) (Err (suc (suc i))))
  open_by i o true c e = tt
  open_by i o false c e =
      let r : Read q (λ s. bool_op) (suc i) (suc (suc i)) = read q (s_bool_op q) (suc i) (suc (suc i)) (op_fits S (F (suc i)) o e) in
      let b : Begun q groups (suc i) (suc (suc i)) = in_second q r (here q c_bracketed (suc (suc i))) (λ s t m e f h. more (join f h) stop) in
      in_second q (r_mark q Close i c) b closed

  group_by : (i : ℕ) (k : Option BoolOp) → same (F i) (Symbol Close) ≡ true → joining (F (suc i)) ≡ k → JoinBegun true i (GQ.outer_by S (F (suc i)) k)
  unfolding GQ.outer_by GQ.open_group GQ.at_end
  group_by i (Some o) c e = open_by i o (same (F (suc (suc i))) (Symbol Open)) c e
  group_by i None c e = close_end i (same (F (suc i)) End) c

  outer_by_law : (i : ℕ) (d : Bool) → same (F i) (Symbol Close) ≡ d → JoinBegun true i (pick d (GQ.after_group S (F (suc i))) (Err i))
  unfolding GQ.after_group
  outer_by_law i true e = group_by i (joining (F (suc i))) e refl
  outer_by_law i false e = here q (c_after true) i

  join_by_law : (g : Bool) (i : ℕ) (k : Option BoolOp) → JoinBegun g i (GQ.join_by S g (F i) k)
  unfolding GQ.join_by GQ.outer GQ.at_end
  join_by_law g i (Some o) = tt
  join_by_law true i None = outer_by_law i (same (F i) (Symbol Close)) refl
  join_by_law false i None = end_by i (same (F i) End)

  join_begun : (g : Bool) (i : ℕ) → JoinBegun g i (GQ.join_after S g (F i))
  unfolding GQ.join_after
  join_begun g i = join_by_law g i (joining (F i))

  -- a comparison with what follows it
  abbrev NextBegun : Bool → ℕ → Result (Comparison × Join × Token) Fault → Type 0
  NextBegun g i (Ok (c, j, u)) = Unit
  NextBegun g i (Err f) = Begun q (rest g) i (reach f)

  next_join : (g : Bool) (i m : ℕ) (c : Comparison) (r : Result (Join × Token) ℕ) → Read q (λ s. property_comp_rule s) i m → JoinBegun g m r → NextBegun g i (GQ.next_of c r)
  unfolding GQ.next_of
  next_join g i m c (Ok (j, u)) f b = tt
  next_join g i m c (Err x) f b = in_second q f b (compared g)

  next_by_law : (g : Bool) (i : ℕ) (r : Result (Comparison × Token) Fault) → GC.property_comp S (F i) ≡ r → CompBegun q i r → NextBegun g i (GQ.next_by S g r)
  unfolding GQ.next_by
  next_by_law g i (Ok (c, u)) e b =
      at_number q (λ s. property_comp_rule s) (s_comparison q) i u (comparison_fits S (F i) u c e) (λ (t : Token). NextBegun g i (GQ.next_of c (GQ.join_after S g t)))
      (λ m f. next_join g i m c (GQ.join_after S g (F m)) (read q (s_comparison q) i m f) (join_begun g m))
  next_by_law g i (Err f) e b = in_first q b (c_after g) (compared g)

  next_begun : (g : Bool) (i : ℕ) → NextBegun g i (GQ.next_comparison S g (F i))
  unfolding GQ.next_comparison
  next_begun g i = next_by_law g i (GC.property_comp S (F i)) refl (comp_begun q i)

  -- the query from a comparison on
  abbrev QueryBegun : Bool → ℕ → Query → Type 0
  QueryBegun g i (bad f) = Begun q (rest g) i (reach f)
  QueryBegun g i (good l) = Unit

  before_begun : (g : Bool) (i k : ℕ) (c : Comparison) (j : Join) (r : Query) → ((x : ℕ) → Begun q (rest g) k x → Begun q (rest g) i x) → QueryBegun g k r → QueryBegun g i (GQ.before c j r)
  unfolding GQ.before
  before_begun g i k c j (bad f) w b = w (reach f) b
  before_begun g i k c j (good l) w b = tt

  module _ (n : ℕ) (g : Bool) (i : ℕ) (c : Comparison) (again : (k : ℕ) → QueryBegun g k (GQ.query_from n S g (F k))) where
    inner_begun : (o : BoolOp) (m u : Token) → Fits S (property_comp_rule S) (F i) m → Fits S bool_op m u → QueryBegun g i (GQ.before c (Inner o) (GQ.query_from n S g u))
    inner_begun o m u f h =
        at_number q (λ s. then (property_comp_rule s) bool_op) (λ T. thens (s_comparison q T) (s_bool_op q T)) i u (join f h) (λ (t : Token). QueryBegun g i (GQ.before c (Inner o) (GQ.query_from n S g t)))
        (λ k y. before_begun g i k c (Inner o) (GQ.query_from n S g (F k)) (λ x b. in_second q (read q (λ T. thens (s_comparison q T) (s_bool_op q T)) i k y) b (joined g)) (again k))

  outer_begun : (n i : ℕ) (c : Comparison) → ((k : ℕ) → QueryBegun true k (GQ.query_from n S true (F k))) → (o : BoolOp) (m u : Token) → Fits S (property_comp_rule S) (F i) m
      → (same m (Symbol Close) ≡ true) × Fits S (then bool_op (is (Symbol Open))) (S.next m) u → QueryBegun true i (GQ.before c (Outer o) (GQ.query_from n S true u))
  outer_begun n i c again o m u f h =
      at_number q regrouped s_regrouped i u (join f (join (one h.0) h.1)) (λ (t : Token). QueryBegun true i (GQ.before c (Outer o) (GQ.query_from n S true t)))
      (λ k y. before_begun true i k c (Outer o) (GQ.query_from n S true (F k)) (λ x b. in_second q (read q s_regrouped i k y) b next_group) (again k))
    where
      s_regrouped : B.Sames q regrouped
      s_regrouped T = thens (s_comparison q T) (thens (s_mark q T Close) (thens (s_bool_op q T) (s_mark q T Open)))

  joined_begun : (n : ℕ) (g : Bool) (i : ℕ) (u : Token) (c : Comparison) (j : Join) → last_join j ≡ false → NextOk S g (F i) (Ok (c, j, u))
      → ((k : ℕ) → QueryBegun g k (GQ.query_from n S g (F k))) → QueryBegun g i (GQ.before c j (GQ.query_from n S g u))
  joined_begun n g i u c Last e f again = absurd (cc)
  joined_begun n true i u c (Inner o) e f again = inner_begun n true i c again o f.0 u f.1 f.2
  joined_begun n false i u c (Inner o) e f again = inner_begun n false i c again o f.0 u f.1 f.2
  joined_begun n true i u c (Outer o) e f again = outer_begun n i c again o f.0 u f.1 f.2
  joined_begun n false i u c (Outer o) e f again = absurd f.2

  last_by : (n : ℕ) (g : Bool) (i : ℕ) (u : Token) (c : Comparison) (j : Join) (d : Bool) → last_join j ≡ d → NextOk S g (F i) (Ok (c, j, u))
      → ((k : ℕ) → QueryBegun g k (GQ.query_from n S g (F k))) → QueryBegun g i (elim d [ true ↦ good (GQ.only c) | false ↦ GQ.before c j (GQ.query_from n S g u) ])
  last_by n g i u c j true e f again = tt
  last_by n g i u c j false e f again = joined_begun n g i u c j e f again

  query_by : (n : ℕ) (g : Bool) (i : ℕ) (r : Result (Comparison × Join × Token) Fault) → NextOk S g (F i) r → NextBegun g i r → ((k : ℕ) → QueryBegun g k (GQ.query_from n S g (F k)))
      → QueryBegun g i (elim r [ Err f ↦ bad f | Ok (c, j, u) ↦ elim (last_join j) [ true ↦ good (GQ.only c) | false ↦ GQ.before c j (GQ.query_from n S g u) ] ])
  query_by n g i (Err f) k b again = b
  query_by n g i (Ok (c, j, u)) k b again = last_by n g i u c j (last_join j) refl k again

  full : (g : Bool) (i : ℕ) (d : Bool) → opening (F i) ≡ d → QueryBegun g i (bad (limited d i))
  full g i true o = in_first q (opened q i o) (c_after g) (compared g)
  full g i false o = here q (c_rest g) i

  query_begun : (n : ℕ) (g : Bool) (i : ℕ) → QueryBegun g i (GQ.query_from n S g (F i))
  unfolding GQ.query_from
  query_begun zero g i = full g i (opening (F i)) refl
  query_begun (suc n) g i = query_by n g i (GQ.next_comparison S g (F i)) (next_ok S g (F i)) (next_begun g i) (query_begun n g)

  -- all of it
  whole_group : Joins (λ s. is (Symbol Open)) (rest true) (λ s. fql s)
  whole_group s t m e p (join a (join c h)) = right (join (join p (join a c)) h)

  whole_by : (d : Bool) (f : Fault) (r : Query) → same (F 0) (Symbol Open) ≡ d → r ≡ bad f → QueryBegun d (pick d 1 0) r → Begun q (λ s. fql s) 0 (reach f)
  whole_by true f r e z b = let y : Begun q (rest true) 1 (reach f) = rw z at b in in_second q (r_mark q Open 0 e) y whole_group
  whole_by false f r e z b = let y : Begun q (rest false) 0 (reach f) = rw z at b in begun_as q y (λ s t e h. left h)

  pub refused_begun : (f : Fault) → query_at S (F 0) ≡ bad f → Begun q (λ s. fql s) 0 (reach f)
  unfolding GQ.start_at
  refused_begun f e = go (same (F 0) (Symbol Open)) refl e
    where
      go : (d : Bool) → same (F 0) (Symbol Open) ≡ d → GQ.query_from 64 S d (skip S d (F 0)) ≡ bad f → Begun q (λ s. fql s) 0 (reach f)
      go true d e = whole_by true f (GQ.query_from 64 S true (F 1)) d e (query_begun 64 true 1)
      go false d e = whole_by false f (GQ.query_from 64 S false (F 0)) d e (query_begun 64 false 0)
