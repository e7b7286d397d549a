-- A query over two texts whose tokens correspond, up to a place in the first: where it is refused in the first before that place, it is refused in the second for the same cause
-- at the corresponding token.
use Rattle.std.specs.Prelude.{Err, None, Ok, Option, Result, Some}
use Prim.Native.Nat.{ℕ, zero, suc}
use mathlib.Core.Path.{◌≡◌, refl, sym, ap, ◌∙◌}
use mathlib.Core.Logic.{◌⊎◌, inl, inr}
use mathlib.Core.Bool.{Bool, true, false}
use lib.Dec.{eqb}
use Rattle.base.specs.Pick.{pick}
use Rattle.token.specs.declared.Reserved.TheVariants as Reserved
use Rattle.token.specs.declared.Punctuation.TheVariants.{Open, Close}
use Rattle.token.specs.declared.TokenKind.{TokenKind}
use Rattle.token.specs.declared.TokenKind.TheVariants.{End, Name, Word, Symbol}
use Rattle.token.specs.declared.Token.{Token}
use Rattle.terminal.specs.Terminal.{same, code, joining, opening, inside}
use Rattle.syntax.specs.declared.comparison.Comparison.{Comparison}
use Rattle.syntax.specs.declared.fault.Cause.{Cause}
use Rattle.syntax.specs.declared.fault.Cause.TheVariants.{Grammar, Limit}
use Rattle.syntax.specs.Scan.{Scan, fault, limited, skip}
use Rattle.syntax.specs.Comparison.{property_comp}
use Rattle.syntax.proofs.Room.{Roomy}
use Rattle.syntax.proofs.Onward.{comparison_place, Onward, either, limited_on, comparison_on}
use Rattle.syntax.proofs.Simulation.{SimulatesTo, Meets, ComparisonOutcomes, has, no, past, joining_still, comparison_outcomes}
use Rattle.query_text.specs.declared.join.Join.{Join}
use Rattle.query_text.specs.declared.join.Join.TheVariants.{Last, Outer}
use Rattle.query_text.specs.Query.{at_end, open_group, outer_by, after_group, outer, join_by, join_after, next_of, next_by, next_comparison, only, Query, bad, good, before, last_join, query_from, start_at}
use Rattle.syntax.specs.declared.fault.Fault.{Fault}
use Rattle.terminal.specs.declared.operator.BoolOp.{BoolOp}

-- the query that starts with a token
abbrev pub query_at : Scan → Token → Query
query_at s t = query_from 64 s (start_at s t).grouped (start_at s t).token

-- ---- no reader goes back
abbrev join_place : Result (Join × Token) ℕ → ℕ
join_place (Ok (j, t)) = t.start
join_place (Err x) = x

abbrev next_place : Result (Comparison × Join × Token) Fault → ℕ
next_place (Ok (c, j, t)) = t.start
next_place (Err f) = f.place

-- a query that is refused past the place
abbrev PastQuery : (ℕ → Type 0) → Query → Type 0
PastQuery Past (bad f) = Past f.place
PastQuery Past (good l) = Unit

-- the query from what was read of its next comparison on
abbrev on_from : ℕ → Scan → Bool → Result (Comparison × Join × Token) Fault → Query
on_from n s g x = elim x [ Err f ↦ bad f | Ok (c, j, u) ↦ elim (last_join j) [ true ↦ good (only c) | false ↦ before c j (query_from n s g u) ] ]

module _ {s : Scan} {Past : ℕ → Type 0} (O : Onward s Past) where
  open_on : (j : Join) (t : Token) → Past t.start → Past (join_place (open_group s j t))
  unfolding open_group
  open_on j t f = either O join_place (same t (Symbol Open)) _ _ (O.on t f) f

  end_on : (t : Token) → Past t.start → Past (join_place (at_end t))
  unfolding at_end
  end_on t f = either O join_place (same t End) _ _ f f

  after_group_on : (t : Token) → Past t.start → Past (join_place (after_group s t))
  unfolding after_group outer_by
  after_group_on t f = go (joining t)
    where
      go : (k : Option BoolOp) → Past (join_place (outer_by s t k))
      go (Some o) = open_on (Outer o) (s.next t) (O.on t f)
      go None = end_on t f

  join_on : (g : Bool) (t : Token) → Past t.start → Past (join_place (join_after s g t))
  unfolding join_after join_by outer
  join_on g t f = go (joining t)
    where
      go : (k : Option BoolOp) → Past (join_place (join_by s g t k))
      go (Some o) = O.on t f
      go None = either O join_place g _ _ (either O join_place (same t (Symbol Close)) _ _ (after_group_on (s.next t) (O.on t f)) f) (end_on t f)

  next_of_on : (c : Comparison) (x : Result (Join × Token) ℕ) → Past (join_place x) → Past (next_place (next_of c x))
  unfolding next_of
  next_of_on c (Ok (j, t)) f = f
  next_of_on c (Err p) f = f

  next_by_on : (g : Bool) (x : Result (Comparison × Token) Fault) → Past (comparison_place x) → Past (next_place (next_by s g x))
  unfolding next_by
  next_by_on g (Ok (c, t)) f = next_of_on c (join_after s g t) (join_on g t f)
  next_by_on g (Err x) f = f

  next_on : (g : Bool) (t : Token) → Past t.start → Past (next_place (next_comparison s g t))
  unfolding next_comparison
  next_on g t f = next_by_on g (property_comp s t) (comparison_on O t f)

  before_on : (c : Comparison) (j : Join) (x : Query) → PastQuery Past x → PastQuery Past (before c j x)
  unfolding before
  before_on c j (bad f) h = h
  before_on c j (good l) h = tt

  on_from_law : (n : ℕ) (g : Bool) → ((t : Token) → Past t.start → PastQuery Past (query_from n s g t)) → (x : Result (Comparison × Join × Token) Fault) → Past (next_place x) → PastQuery Past (on_from n s g x)
  on_from_law n g again (Err x) f = f
  on_from_law n g again (Ok (c, j, t)) f = go (last_join j)
    where
      go : (b : Bool) → PastQuery Past (elim b [ true ↦ good (only c) | false ↦ before c j (query_from n s g t) ])
      go true = tt
      go false = before_on c j (query_from n s g t) (again t f)

  from_on : (n : ℕ) (g : Bool) (t : Token) → Past t.start → PastQuery Past (query_from n s g t)
  unfolding query_from
  from_on zero g t f = limited_on O (opening t) t.start f
  from_on (suc n) g t f = on_from_law n g (λ u h. from_on n g u h) (next_comparison s g t) (next_on g t f)

-- ---- tokens that correspond, also those that end a group
pub record Corresponds (s z : Scan) (R : Token → Token → Type 0) (Past : ℕ → Type 0) : Type 0 where
  pub kinds : (t u : Token) → R t u → t.kind ≡ u.kind
  pub numbers : (t u : Token) → R t u → s.unsigned t ≡ z.unsigned u
  pub outer : (t u : Token) → R t u → inside t.kind ≡ false → s.unsigned t ≡ false
  pub steps : (t u : Token) → R t u → R (s.next t) (z.next u) ⊎ Past (s.next t).start
  pub onward : Onward s Past

module _ (s z : Scan) (R : Token → Token → Type 0) (Past : ℕ → Type 0) where
  data JoinOutcomes : Result (Join × Token) ℕ → Result (Join × Token) ℕ → Type 0 where
    has_join : {j : Join} {t u : Token} → Meets s z R Past t u → JoinOutcomes (Ok (j, t)) (Ok (j, u))
    no_join : (t u : Token) → R t u → JoinOutcomes (Err t.start) (Err u.start)
    past_join : {x y : Result (Join × Token) ℕ} → Past (join_place x) → JoinOutcomes x y

  data NextOutcomes : Result (Comparison × Join × Token) Fault → Result (Comparison × Join × Token) Fault → Type 0 where
    has_next : {c d : Comparison} {j : Join} {t u : Token} → Meets s z R Past t u → NextOutcomes (Ok (c, j, t)) (Ok (d, j, u))
    no_next : (k : Cause) (t u : Token) → R t u → NextOutcomes (Err (fault k t.start)) (Err (fault k u.start))
    past_next : {x y : Result (Comparison × Join × Token) Fault} → Past (next_place x) → NextOutcomes x y

  -- nothing is said of what isn't refused in the first
  pub data QueryOutcomes : Query → Query → Type 0 where
    both_refuse : (k : Cause) (t u : Token) → R t u → QueryOutcomes (bad (fault k t.start)) (bad (fault k u.start))
    past_query : {x y : Query} → PastQuery Past x → QueryOutcomes x y

module _ {s z : Scan} {R : Token → Token → Type 0} {Past : ℕ → Type 0} (C : Corresponds s z R Past) (enough : Roomy s) (other-enough : Roomy z) where
  abbrev O : Onward s Past
  O = C.onward

  simulates : SimulatesTo s z R Past
  simulates =
      record {
        tests =
            record {
              kinds = λ t u r h. C.kinds t u r;
              ends = λ t u r h. sym (ap inside (C.kinds t u r)) ∙ h;
              numbers = λ t u r h. C.numbers t u r;
              outer = λ t u r h. (C.outer t u r h, sym (C.numbers t u r) ∙ C.outer t u r h);
            };
        steps = λ t u r h. C.steps t u r;
        onward = C.onward;
      }

  same_still : {t u : Token} → R t u → (k : TokenKind) → same t k ≡ same u k
  unfolding same
  same_still {t} {u} r k = ap (λ (x : TokenKind). eqb (code x) (code k)) (C.kinds t u r)

  opening_still : {t u : Token} → R t u → opening t ≡ opening u
  unfolding opening
  opening_still r = rw (same_still r Name, same_still r (Word Reserved.Not), same_still r (Word Reserved.Any), same_still r (Word Reserved.Every)) refl

  -- ---- what follows a comparison
  end_alike : {t u : Token} → R t u → JoinOutcomes s z R Past (at_end t) (at_end u)
  unfolding at_end
  end_alike {t} {u} r = rw (same_still r End) (go (same u End))
    where
      go : (b : Bool) → JoinOutcomes s z R Past (pick b (Ok (Last, t)) (Err t.start)) (pick b (Ok (Last, u)) (Err u.start))
      go true = has_join (inl r)
      go false = no_join t u r

  open_alike : (j : Join) {t u : Token} → Meets s z R Past t u → JoinOutcomes s z R Past (open_group s j t) (open_group z j u)
  unfolding open_group
  open_alike j {t} {u} (inr f) = past_join (open_on O j t f)
  open_alike j {t} {u} (inl r) = rw (same_still r (Symbol Open)) (go (same u (Symbol Open)))
    where
      go : (b : Bool) → JoinOutcomes s z R Past (pick b (Ok (j, s.next t)) (Err t.start)) (pick b (Ok (j, z.next u)) (Err u.start))
      go true = has_join (C.steps t u r)
      go false = no_join t u r

  after_group_alike : {t u : Token} → Meets s z R Past t u → JoinOutcomes s z R Past (after_group s t) (after_group z u)
  unfolding after_group outer_by
  after_group_alike {t} {u} (inr f) = past_join (after_group_on O t f)
  after_group_alike {t} {u} (inl r) = rw (joining_still simulates.tests r) (go (joining u))
    where
      go : (k : Option BoolOp) → JoinOutcomes s z R Past (outer_by s t k) (outer_by z u k)
      go (Some o) = open_alike (Outer o) (C.steps t u r)
      go None = end_alike r

  outer_alike : {t u : Token} → R t u → JoinOutcomes s z R Past (outer s t) (outer z u)
  unfolding outer
  outer_alike {t} {u} r = rw (same_still r (Symbol Close)) (go (same u (Symbol Close)))
    where
      go : (b : Bool) → JoinOutcomes s z R Past (pick b (after_group s (s.next t)) (Err t.start)) (pick b (after_group z (z.next u)) (Err u.start))
      go true = after_group_alike (C.steps t u r)
      go false = no_join t u r

  join_alike : (g : Bool) {t u : Token} → Meets s z R Past t u → JoinOutcomes s z R Past (join_after s g t) (join_after z g u)
  unfolding join_after join_by
  join_alike g {t} {u} (inr f) = past_join (join_on O g t f)
  join_alike g {t} {u} (inl r) = rw (joining_still simulates.tests r) (go g (joining u))
    where
      go : (b : Bool) (k : Option BoolOp) → JoinOutcomes s z R Past (join_by s b t k) (join_by z b u k)
      go b (Some o) = has_join (C.steps t u r)
      go true None = outer_alike r
      go false None = end_alike r

  -- ---- a comparison with what follows it
  next_alike : (g : Bool) {t u : Token} → Meets s z R Past t u → NextOutcomes s z R Past (next_comparison s g t) (next_comparison z g u)
  unfolding next_comparison next_by next_of
  next_alike g {t} {u} m = go (property_comp s t) (property_comp z u) (comparison_outcomes simulates enough other-enough m)
    where
      then : (c d : Comparison) (x y : Result (Join × Token) ℕ) → JoinOutcomes s z R Past x y → NextOutcomes s z R Past (next_of c x) (next_of d y)
      then c d x y (has_join k) = has_next k
      then c d x y (no_join v w r) = no_next Grammar v w r
      then c d x y (past_join f) = past_next (next_of_on O c x f)

      go : (x y : Result (Comparison × Token) Fault) → ComparisonOutcomes s z R Past x y → NextOutcomes s z R Past (next_by s g x) (next_by z g y)
      go (Ok (c, v)) (Ok (d, w)) (has h k) = then c d (join_after s g v) (join_after z g w) (join_alike g k)
      go x y (no k v w r) = no_next k v w r
      go x y (past f) = past_next (next_by_on O g x f)

  -- ---- comparisons, one after another
  before_alike : (c d : Comparison) (j : Join) (x y : Query) → QueryOutcomes s z R Past x y → QueryOutcomes s z R Past (before c j x) (before d j y)
  unfolding before
  before_alike c d j x y (both_refuse k t u r) = both_refuse k t u r
  before_alike c d j x y (past_query f) = past_query (before_on O c j x f)

  from_alike : (n : ℕ) (g : Bool) {t u : Token} → Meets s z R Past t u → QueryOutcomes s z R Past (query_from n s g t) (query_from n z g u)
  unfolding query_from
  from_alike zero g {t} {u} (inr f) = past_query (from_on O zero g t f)
  from_alike zero g {t} {u} (inl r) = rw (opening_still r) (go (opening u))
    where
      go : (b : Bool) → QueryOutcomes s z R Past (bad (limited b t.start)) (bad (limited b u.start))
      go true = both_refuse Limit t u r
      go false = both_refuse Grammar t u r
  from_alike (suc n) g {t} {u} m = go (next_comparison s g t) (next_comparison z g u) (next_alike g m) (λ v w k. from_alike n g k)
    where
      go : (x y : Result (Comparison × Join × Token) Fault) → NextOutcomes s z R Past x y → ((v w : Token) → Meets s z R Past v w → QueryOutcomes s z R Past (query_from n s g v) (query_from n z g w))
          → QueryOutcomes s z R Past (on_from n s g x) (on_from n z g y)
      go (Ok (c, j, v)) (Ok (d, j', w)) (has_next k) again = by (last_join j)
        where
          by : (b : Bool) → QueryOutcomes s z R Past (elim b [ true ↦ good (only c) | false ↦ before c j (query_from n s g v) ]) (elim b [ true ↦ good (only d) | false ↦ before d j (query_from n z g w) ])
          by true = past_query tt
          by false = before_alike c d j _ _ (again v w k)
      go x y (no_next k v w r) again = both_refuse k v w r
      go x y (past_next f) again = past_query (on_from_law O n g (λ v h. from_on O n g v h) x f)

  query_alike : {t u : Token} → R t u → QueryOutcomes s z R Past (query_at s t) (query_at z u)
  unfolding start_at
  query_alike {t} {u} r = rw (same_still r (Symbol Open)) (go (same u (Symbol Open)))
    where
      go : (b : Bool) → QueryOutcomes s z R Past (query_from 64 s b (skip s b t)) (query_from 64 z b (skip z b u))
      go true = from_alike 64 true (C.steps t u r)
      go false = from_alike 64 false (inl r)

  -- a query refused at a place that isn't past: a token starts there, and at the corresponding token the other is refused for the same cause
  pub record Refused (c : Cause) (p : ℕ) (y : Query) : Type 0 where
    pub token : Token
    pub other : Token
    pub correspond : R token other
    pub starts : p ≡ token.start
    pub refused : y ≡ bad (fault c other.start)

  pub refused_alike : {t u : Token} → R t u → (c : Cause) (p : ℕ) → query_at s t ≡ bad (fault c p) → (Past p → ⊥) → Refused c p (query_at z u)
  refused_alike {t} {u} r c p e near = go (query_alike r) e
    where
      cause_of : Query → Cause
      cause_of (bad f) = f.cause
      cause_of (good l) = c

      place_of : Query → ℕ
      place_of (bad f) = f.place
      place_of (good l) = p

      go : {x y : Query} → QueryOutcomes s z R Past x y → x ≡ bad (fault c p) → Refused c p y
      go (both_refuse k v w j) e =
          let a : k ≡ c = ap cause_of e in
          record { token = v; other = w; correspond = j; starts = sym (ap place_of e); refused = ap (λ (d : Cause). bad (fault d w.start)) a }
      go (past_query f) e = absurd (near (rw e at f))
