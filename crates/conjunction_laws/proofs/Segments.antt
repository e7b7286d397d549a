-- A query's comparisons, group by group: what the reader finds divides into groups, and it finds just that wherever these groups stand one after the other in brackets.
use Rattle.std.specs.Prelude.{Err, None, Ok, Option, Result, Some}
use Prim.Native.Nat.{ℕ, zero, suc, ◌+◌, ◌≤◌, ◌<◌}
use mathlib.Core.Path.{◌≡◌, refl, sym, ap, ◌∙◌}
use mathlib.Core.Bool.{Bool, true, false}
use native.Mathlib.Omega.{arith}
use Rattle.base.specs.Pick.{pick}
use Rattle.token.specs.declared.Reserved.TheVariants as Reserved
use Rattle.token.specs.declared.Punctuation.TheVariants.{Open, Close}
use Rattle.token.specs.declared.TokenKind.TheVariants.{End, Word, Symbol}
use Rattle.token.specs.declared.Token.{Token}
use Rattle.terminal.specs.declared.operator.BoolOp.{BoolOp}
use Rattle.terminal.specs.Terminal.{same, joining}
use Rattle.terminal.proofs.KindCodes.{other}
use Rattle.syntax.specs.declared.comparison.Comparison.{Comparison}
use Rattle.syntax.specs.Scan.{Scan}
use Rattle.syntax.specs.Comparison.{property_comp}
use Rattle.query_text.specs.declared.join.Join.{Join}
use Rattle.query_text.specs.declared.join.Join.TheVariants.{Last, Inner, Outer}
use Rattle.query_text.specs.Query.{Comparisons, only, more, Query, bad, good, before, last_join, at_end, open_group, outer_by, after_group, outer, join_by, join_after, next_of, next_by, next_comparison, query_from}
use Rattle.conjunction.specs.Conjunction.{size, comparisons}
use Rattle.conjunction.proofs.Counting.{comparisons_few}
use Rattle.syntax.specs.declared.fault.Fault.{Fault}

-- comparisons, and others after a join
unfoldable pub chain_to : Comparisons → Join → Comparisons → Comparisons
chain_to (only c) j r = more c j r
chain_to (more c i l) j r = more c i (chain_to l j r)

pub chain_size : (l : Comparisons) (j : Join) (r : Comparisons) → size (chain_to l j r) ≡ size l + size r
unfolding size chain_to
chain_size (only c) j r = omega arith
chain_size (more c i l) j r = rw (chain_size l j r) (omega arith)

pub some_size : (l : Comparisons) → 0 < size l
unfolding size
some_size (only c) = omega arith
some_size (more c j l) = omega arith

unfoldable pub before_all : Comparisons → Join → Query → Query
before_all l j (bad f) = bad f
before_all l j (good r) = good (chain_to l j r)

-- the comparisons of a group from a token on, and the token after them
pub data Segment (s : Scan) : Token → Comparisons → Token → Type 0 where
  ends : {t w : Token} {c : Comparison} → property_comp s t ≡ Ok (c, w) → joining w ≡ None → Segment s t (only c) w
  goes : {t m w : Token} {c : Comparison} {o : BoolOp} {l : Comparisons} → property_comp s t ≡ Ok (c, m) → joining m ≡ Some o → Segment s (s.next m) l w
      → Segment s t (more c (Inner o) l) w

before_one : (c : Comparison) (j : Join) (x : Query) → before c j x ≡ before_all (only c) j x
unfolding before before_all chain_to
before_one c j (bad f) = refl
before_one c j (good r) = refl

before_more : (c : Comparison) (i : Join) (l : Comparisons) (j : Join) (x : Query) → before c i (before_all l j x) ≡ before_all (more c i l) j x
unfolding before before_all chain_to
before_more c i l j (bad f) = refl
before_more c i l j (good r) = refl

pub no_operator : (m : Token) → same m End ≡ true → joining m ≡ None
unfolding joining
no_operator m a = rw (other m End (Word Reserved.And) a refl, other m End (Word Reserved.Or) a refl) refl

module _ (s : Scan) where
  -- ---- one step of the reader
  abbrev continued : ℕ → Bool → Result (Comparison × Join × Token) Fault → Query
  continued n g (Err f) = bad f
  continued n g (Ok (c, j, u)) = elim (last_join j) [ true ↦ good (only c) | false ↦ before c j (query_from n s g u) ]

  one_step : (n : ℕ) (g : Bool) (t : Token) → query_from (suc n) s g t ≡ continued n g (next_comparison s g t)
  unfolding query_from
  one_step n g t = go (next_comparison s g t) refl
    where
      go : (x : Result (Comparison × Join × Token) Fault) → next_comparison s g t ≡ x → query_from (suc n) s g t ≡ continued n g x
      go (Err f) e = rw (e, query_from) refl
      go (Ok (c, j, u)) e = rw (e, query_from) refl

  -- what ends a query: its end, in a group behind ")"
  abbrev pub Finish : Bool → Token → Type 0
  Finish false w = same w End ≡ true
  Finish true w = (same w (Symbol Close) ≡ true) × (same (s.next w) End ≡ true)

  -- what leads on from a group to the next
  pub record Onward (w : Token) (o : BoolOp) : Type 0 where
    pub close : same w (Symbol Close) ≡ true
    pub operator : joining (s.next w) ≡ Some o
    pub opens : same (s.next (s.next w)) (Symbol Open) ≡ true

  -- the first token of the next group
  abbrev pub beyond : Token → Token
  beyond w = s.next (s.next (s.next w))

  step_inner : (g : Bool) (t : Token) {m : Token} {c : Comparison} {o : BoolOp} → property_comp s t ≡ Ok (c, m) → joining m ≡ Some o → next_comparison s g t ≡ Ok (c, Inner o, s.next m)
  unfolding next_comparison next_by next_of join_after join_by
  step_inner g t e f = rw e (rw f refl)

  step_last : (n : ℕ) (g : Bool) (t : Token) {w : Token} {c : Comparison} → property_comp s t ≡ Ok (c, w) → joining w ≡ None → Finish g w → continued n g (next_comparison s g t) ≡ good (only c)
  unfolding next_comparison next_by next_of join_after join_by outer after_group outer_by at_end
  step_last n false t e f a = rw e (rw f (rw a refl))
  step_last n true t {w} e f a = rw e (rw f (rw a.0 (rw (no_operator (s.next w) a.1) (rw a.1 refl))))

  step_outer : (t : Token) {w : Token} {c : Comparison} {o : BoolOp} → property_comp s t ≡ Ok (c, w) → joining w ≡ None → Onward w o → next_comparison s true t ≡ Ok (c, Outer o, beyond w)
  unfolding next_comparison next_by next_of join_after join_by outer after_group outer_by open_group
  step_outer t {w} e f a = rw e (rw f (rw a.close (rw a.operator (rw a.opens refl))))

  -- ---- a group is read, by a reader that takes so many comparisons
  pub read_last : (g : Bool) {t w : Token} {l : Comparisons} → Segment s t l w → Finish g w → (n : ℕ) → size l ≤ n → query_from n s g t ≡ good l
  unfolding size before
  read_last g {l = l} h a zero k = absurd (omega (arith, some_size l))
  read_last g (ends {t = t} e f) a (suc n) k = one_step n g t ∙ step_last n g t e f a
  read_last g (goes {t = t} {m = m} e f h) a (suc n) k = one_step n g t ∙ ap (continued n g) (step_inner g t e f) ∙ rw (read_last g {t = s.next m} h a n (omega arith)) refl

  pub read_more : {t w : Token} {l : Comparisons} {o : BoolOp} → Segment s t l w → Onward w o → (n m : ℕ) → n ≡ size l + m → query_from n s true t ≡ before_all l (Outer o) (query_from m s true (beyond w))
  unfolding size
  read_more {l = l} h a zero m k = absurd (omega (arith, some_size l))
  read_more {o = p} (ends {t = t} {w = w} {c = c} e f) a (suc n) m k =
      let z : n ≡ m = omega arith in
      one_step n true t ∙ ap (continued n true) (step_outer t e f a) ∙ rw z (before_one c (Outer p) (query_from m s true (beyond w)))
  read_more {w = w} {o = p} (goes {t = t} {m = m'} {c = c} {o = o} {l = l} e f h) a (suc n) m k =
      one_step n true t ∙ ap (continued n true) (step_inner true t e f) ∙ ap (before c (Inner o)) (read_more {t = s.next m'} h a n m (omega arith)) ∙ before_more c (Inner o) l (Outer p) (query_from m s true (beyond w))

  -- ---- what was read, group by group
  pub data Split (g : Bool) (t : Token) (L : Comparisons) : Type 0 where
    whole : {w : Token} → Segment s t L w → Finish g w → Split g t L
    parts : {w : Token} {l L' : Comparisons} {o : BoolOp} (m : ℕ) → g ≡ true → Segment s t l w → Onward w o → query_from m s g (beyond w) ≡ good L' → L ≡ chain_to l (Outer o) L' → Split g t L

  -- what follows a comparison
  data Following (g : Bool) (m : Token) : Result (Join × Token) ℕ → Type 0 where
    inner : {o : BoolOp} → joining m ≡ Some o → Following g m (Ok (Inner o, s.next m))
    last : {u : Token} → joining m ≡ None → Finish g m → Following g m (Ok (Last, u))
    beyond_it : {o : BoolOp} → joining m ≡ None → g ≡ true → Onward m o → Following g m (Ok (Outer o, beyond m))
    not_one : {p : ℕ} → Following g m (Err p)

  end_following : (m : Token) → joining m ≡ None → Following false m (at_end m)
  unfolding at_end
  end_following m e = go (same m End) refl
    where
      go : (b : Bool) → same m End ≡ b → Following false m (pick b (Ok (Last, m)) (Err m.start))
      go true f = last e f
      go false f = not_one

  outer_following : (m : Token) → joining m ≡ None → Following true m (outer s m)
  unfolding outer after_group outer_by open_group at_end
  outer_following m e = go (same m (Symbol Close)) refl
    where
      finished : same m (Symbol Close) ≡ true → (b : Bool) → same (s.next m) End ≡ b → Following true m (pick b (Ok (Last, s.next m)) (Err (s.next m).start))
      finished a true f = last e (a, f)
      finished a false f = not_one

      opened : {o : BoolOp} → same m (Symbol Close) ≡ true → joining (s.next m) ≡ Some o → (b : Bool) → same (s.next (s.next m)) (Symbol Open) ≡ b
          → Following true m (pick b (Ok (Outer o, beyond m)) (Err (s.next (s.next m)).start))
      opened a f true d = beyond_it e refl (record { close = a; operator = f; opens = d })
      opened a f false d = not_one

      after : same m (Symbol Close) ≡ true → (x : Option BoolOp) → joining (s.next m) ≡ x → Following true m (outer_by s (s.next m) x)
      after a (Some o) f = opened a f (same (s.next (s.next m)) (Symbol Open)) refl
      after a None f = finished a (same (s.next m) End) refl

      go : (b : Bool) → same m (Symbol Close) ≡ b → Following true m (pick b (after_group s (s.next m)) (Err m.start))
      go true a = after a (joining (s.next m)) refl
      go false a = not_one

  following : (g : Bool) (m : Token) → Following g m (join_after s g m)
  unfolding join_after join_by
  following g m = go g (joining m) refl
    where
      go : (g : Bool) (x : Option BoolOp) → joining m ≡ x → Following g m (join_by s g m x)
      go g (Some o) e = inner e
      go true None e = outer_following m e
      go false None e = end_following m e

  pub good_only : {x y : Comparisons} → good x ≡ good y → x ≡ y
  good_only e = cc

  before_good : (c : Comparison) (j : Join) (x : Query) (L : Comparisons) → before c j x ≡ good L → (L' : Comparisons) × (x ≡ good L') × (L ≡ more c j L')
  unfolding before
  before_good c j (bad f) L e = let z : ◌≡◌ {A = ℕ} 0 1 = cc in absurd (omega arith)
  before_good c j (good l) L e = (l, refl, good_only (sym e))

  prefixed : (g : Bool) {t m : Token} {c : Comparison} {o : BoolOp} {L : Comparisons} → property_comp s t ≡ Ok (c, m) → joining m ≡ Some o → Split g (s.next m) L
      → Split g t (more c (Inner o) L)
  unfolding chain_to
  prefixed g e f (whole h k) = whole (goes e f h) k
  prefixed g {c = c} {o = o} e f (parts m x h k q r) = parts m x (goes e f h) k q (ap (more c (Inner o)) r)

  split_by : (n : ℕ) (g : Bool) {t m : Token} {c : Comparison} {L : Comparisons} → property_comp s t ≡ Ok (c, m) → (x : Result (Join × Token) ℕ) → Following g m x → continued n g (next_of c x) ≡ good L
      → ((u : Token) (L : Comparisons) → query_from n s g u ≡ good L → Split g u L) → Split g t L
  unfolding next_of chain_to
  split_by n g {c = c} {L = L} e (Ok (Inner o, u)) (inner f) h again =
      let b = before_good c (Inner o) (query_from n s g u) L h in
      rw b.2 (prefixed g e f (again u b.0 b.1))
  split_by n g {c = c} {L = L} e (Ok (Last, u)) (last f k) h again = let z : L ≡ only c = sym (good_only h) in rw z (whole (ends e f) k)
  split_by n g {c = c} {L = L} e (Ok (Outer o, u)) (beyond_it f x k) h again =
      let b = before_good c (Outer o) (query_from n s g u) L h in
      parts n x (ends e f) k b.1 b.2
  split_by n g e (Err p) not_one h again = let z : ◌≡◌ {A = ℕ} 0 1 = cc in absurd (omega arith)

  pub split : (n : ℕ) (g : Bool) (t : Token) (L : Comparisons) → query_from n s g t ≡ good L → Split g t L
  unfolding query_from next_comparison next_by
  split zero g t L e = let z : ◌≡◌ {A = ℕ} 0 1 = cc in absurd (omega arith)
  split (suc n) g t L e = go (property_comp s t) refl (sym (one_step n g t) ∙ e) (split n g)
    where
      go : (x : Result (Comparison × Token) Fault) → property_comp s t ≡ x → continued n g (next_by s g x) ≡ good L → ((u : Token) (L : Comparisons) → query_from n s g u ≡ good L → Split g u L) → Split g t L
      go (Err f) h k again = let z : ◌≡◌ {A = ℕ} 0 1 = cc in absurd (omega arith)
      go (Ok (c, m)) h k again = split_by n g h (join_after s g m) (following g m) k again

  -- no more than it takes
  pub few : (n : ℕ) (g : Bool) (t : Token) (L : Comparisons) → query_from n s g t ≡ good L → size L ≤ n
  unfolding comparisons
  few n g t L e = let z : comparisons (query_from n s g t) ≡ size L = ap comparisons e in omega (arith, comparisons_few n s g t, z)

  -- and the same by a reader that takes more
  pub wider : (n m : ℕ) (g : Bool) (t : Token) (L : Comparisons) → n ≤ m → query_from n s g t ≡ good L → query_from m s g t ≡ good L
  unfolding query_from before
  wider zero m g t L h e = let z : ◌≡◌ {A = ℕ} 0 1 = cc in absurd (omega arith)
  wider (suc n) zero g t L h e = absurd (omega arith)
  wider (suc n) (suc m) g t L h e = one_step m g t ∙ go (next_comparison s g t) (sym (one_step n g t) ∙ e) (λ u L' f. wider n m g u L' (omega arith) f)
    where
      go : (x : Result (Comparison × Join × Token) Fault) → continued n g x ≡ good L → ((u : Token) (L : Comparisons) → query_from n s g u ≡ good L → query_from m s g u ≡ good L) → continued m g x ≡ good L
      go (Err f) h again = h
      go (Ok (c, Last, u)) h again = h
      go (Ok (c, Inner o, u)) h again = let b = before_good c (Inner o) (query_from n s g u) L h in ap (before c (Inner o)) (again u b.0 b.1) ∙ ap good (sym b.2)
      go (Ok (c, Outer o, u)) h again = let b = before_good c (Outer o) (query_from n s g u) L h in ap (before c (Outer o)) (again u b.0 b.1) ∙ ap good (sym b.2)
