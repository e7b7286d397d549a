-- What is left of a query comes to and counts, given what its chains have come to so far. Truth and steps go together: two parts in turn, the second judged unless the
-- first decides, are `both` and `either`; both bring brackets to the left, so the tree can be judged from left to right.
use Prim.Native.Nat.{ℕ, ◌+◌}
use mathlib.Core.Path.{◌≡◌, refl, sym, ap, ap₂, ◌∙◌}
use mathlib.Core.Bool.{Bool, true, false, ◌&&◌, ◌||◌}
use native.Mathlib.Omega.{arith}
use Rattle.base.specs.Pick.{pick}
use Rattle.terminal.specs.declared.operator.BoolOp.TheVariants.{And, Or}
use Rattle.syntax.specs.declared.comparison.Comparison.{Comparison}
use Rattle.query_text.specs.declared.join.Join.{Join}
use Rattle.query_text.specs.declared.join.Join.TheVariants.{Last, Inner, Outer}
use Rattle.query_text.specs.Query.{last_join}
use Rattle.query_text.specs.Tree.{Chain, one, then, front, Group, Tree, join, every, some, holds, State, state, live, total, step}
use Rattle.short_circuit.specs.declared.Told.{Told}
use Rattle.short_circuit.specs.Count.{every_steps, some_steps, tree_steps}
use Rattle.short_circuit.specs.Walk.{told, initial, steps_if}

unfoldable pub add : ℕ → Told → Told
add m a = told a.holds (m + a.steps)

unfoldable both : Told → Told → Told
both a b = told (a.holds && b.holds) (a.steps + pick a.holds b.steps 0)

unfoldable either : Told → Told → Told
either a b = told (a.holds || b.holds) (a.steps + pick a.holds 0 b.steps)

abbrev known : Bool → Told
known b = told b 0

pub add_zero : (a : Told) → a ≡ add 0 a
unfolding add
add_zero a = ap (told a.holds) (omega arith)

pub add_add : (k m : ℕ) (a : Told) → add (k + m) a ≡ add k (add m a)
unfolding add
add_add k m a = ap (told a.holds) (omega arith)

both_known : (a : Told) → both (known true) a ≡ a
unfolding both
both_known a = ap (told a.holds) (omega arith)

either_known : (a : Told) → either (known false) a ≡ a
unfolding either
either_known a = ap (told a.holds) (omega arith)

both_assoc : (a b c : Told) → both a (both b c) ≡ both (both a b) c
unfolding both
both_assoc a b c = by a.holds b.holds
  where
    by : (x y : Bool) → both (told x a.steps) (both (told y b.steps) c) ≡ both (both (told x a.steps) (told y b.steps)) c
    by true true = ap (told c.holds) (omega arith)
    by true false = ap (told false) (omega arith)
    by false y = ap (told false) (omega arith)

either_assoc : (a b c : Told) → either a (either b c) ≡ either (either a b) c
unfolding either
either_assoc a b c = by a.holds b.holds
  where
    by : (x y : Bool) → either (told x a.steps) (either (told y b.steps) c) ≡ either (either (told x a.steps) (told y b.steps)) c
    by true y = ap (told true) (omega arith)
    by false true = ap (told true) (omega arith)
    by false false = ap (told c.holds) (omega arith)

both_add : (m : ℕ) (a b : Told) → both (add m a) b ≡ add m (both a b)
unfolding add both
both_add m a b = ap (told (a.holds && b.holds)) (omega arith)

either_add : (m : ℕ) (a b : Told) → either (add m a) b ≡ add m (either a b)
unfolding add either
either_add m a b = ap (told (a.holds || b.holds)) (omega arith)

-- a chain's parts in turn
unfoldable fold : {A : Type 0} → (Told → Told → Told) → (A → Told) → Chain A → Told
fold op f (one a) = f a
fold op f (then a r) = op (f a) (fold op f r)

-- a chain whose first part is looked at in another way
unfoldable fold₁ : {A : Type 0} → (Told → Told → Told) → (A → Told) → (A → Told) → Chain A → Told
fold₁ op f w (one a) = w a
fold₁ op f w (then a r) = op (w a) (fold op f r)

module _ {A : Type 0} (op : Told → Told → Told) (f w : A → Told) where
  fold_same : ((a : A) → w a ≡ f a) → (c : Chain A) → fold₁ op f w c ≡ fold op f c
  unfolding fold fold₁
  fold_same e (one a) = e a
  fold_same e (then a r) = ap (λ (x : Told). op x (fold op f r)) (e a)

  fold_front : (x : A → Told) (g : A → A) → ((a : A) → w (g a) ≡ x a) → (c : Chain A) → fold₁ op f w (front g c) ≡ fold₁ op f x c
  unfolding fold₁ front
  fold_front x g e (one a) = e a
  fold_front x g e (then a r) = ap (λ (y : Told). op y (fold op f r)) (e a)

  fold_add : (m : ℕ) (x : A → Told) → ((a b : Told) → op (add m a) b ≡ add m (op a b)) → ((a : A) → w a ≡ add m (x a)) → (c : Chain A)
      → fold₁ op f w c ≡ add m (fold₁ op f x c)
  unfolding fold₁
  fold_add m x d e (one a) = e a
  fold_add m x d e (then a r) = ap (λ (y : Told). op y (fold op f r)) (e a) ∙ d (x a) (fold op f r)

-- truth and steps of a chain, apart
module _ {A : Type 0} (v : A → Bool) (n : A → ℕ) (f : A → Told) (e : (a : A) → f a ≡ told (v a) (n a)) where
  every_told : (c : Chain A) → fold both f c ≡ told (every v c) (every_steps v n c)
  unfolding fold both every every_steps
  every_told (one a) = e a
  every_told (then a r) = ap₂ both (e a) (every_told r)

  some_told : (c : Chain A) → fold either f c ≡ told (some v c) (some_steps v n c)
  unfolding fold either some some_steps
  some_told (one a) = e a
  some_told (then a r) = ap₂ either (e a) (some_told r)

module _ (v : Comparison → Bool) (n : Comparison → ℕ) where
  abbrev judged : Comparison → Told
  judged c = told (v c) (n c)

  abbrev ands : Chain Comparison → Told
  ands = fold both judged

  abbrev ors : Group → Told
  ors = fold either ands

  abbrev group_ands : Chain Group → Told
  group_ands = fold both ors

  tree_told : (t : Tree) → fold either group_ands t ≡ told (holds v t) (tree_steps v n t)
  unfolding holds tree_steps
  tree_told = some_told _ _ group_ands (every_told _ _ ors (some_told _ _ ands (every_told v n judged (λ c. refl))))

  -- what is left comes to and counts, after what the chains have come to
  abbrev in_ands : Told → Chain Comparison → Told
  in_ands h z = both h (ands z)

  abbrev in_ors : Told → Told → Group → Told
  in_ors g h y = either g (fold₁ either ands (in_ands h) y)

  abbrev in_group_ands : Told → Told → Told → Chain Group → Told
  in_group_ands a g h x = both a (fold₁ both ors (in_ors g h) x)

  abbrev rest : Told → Told → Told → Told → Tree → Told
  rest o a g h t = either o (fold₁ either group_ands (in_group_ands a g h) t)

  fresh_ors : (y : Group) → in_ors (known false) (known true) y ≡ ors y
  fresh_ors y = either_known _ ∙ fold_same either ands (in_ands (known true)) (λ z. both_known _) y

  fresh_group_ands : (x : Chain Group) → in_group_ands (known true) (known false) (known true) x ≡ group_ands x
  fresh_group_ands x = both_known _ ∙ fold_same both ors (in_ors (known false) (known true)) fresh_ors x

  fresh : (t : Tree) → rest (known false) (known true) (known false) (known true) t ≡ fold either group_ands t
  fresh t = either_known _ ∙ fold_same either group_ands (in_group_ands (known true) (known false) (known true)) fresh_group_ands t

  -- a comparison and what follows it join what the chains have come to
  module _ (o a g h : Told) (c : Comparison) where
    one_and : (t : Tree) → rest o a g h (front (front (front (then c))) t) ≡ rest o a g (both h (judged c)) t
    unfolding fold
    one_and t =
        ap (either o)
        (fold_front either group_ands (in_group_ands a g h) (in_group_ands a g (both h (judged c))) (front (front (then c)))
        (λ x. ap (both a)
        (fold_front both ors (in_ors g h) (in_ors g (both h (judged c))) (front (then c))
        (λ y. ap (either g)
        (fold_front either ands (in_ands h) (in_ands (both h (judged c))) (then c) (λ z. both_assoc h (judged c) (ands z)) y)) x)) t)

    one_or : (t : Tree) → rest o a g h (front (front (then (one c))) t) ≡ rest o a (either g (both h (judged c))) (known true) t
    unfolding fold fold₁
    one_or t =
        ap (either o)
        (fold_front either group_ands (in_group_ands a g h) (in_group_ands a (either g (both h (judged c))) (known true)) (front (then (one c)))
        (λ x. ap (both a)
        (fold_front both ors (in_ors g h) (in_ors (either g (both h (judged c))) (known true)) (then (one c))
        (λ y. either_assoc g (both h (judged c)) (ors y) ∙ ap (either (either g (both h (judged c)))) (sym (fold_same either ands (in_ands (known true)) (λ z. both_known _) y))) x)) t)

    group_and : (t : Tree) → rest o a g h (front (then (one (one c))) t) ≡ rest o (both a (either g (both h (judged c)))) (known false) (known true) t
    unfolding fold fold₁
    group_and t =
        ap (either o)
        (fold_front either group_ands (in_group_ands a g h) (in_group_ands (both a (either g (both h (judged c)))) (known false) (known true)) (then (one (one c)))
        (λ x. both_assoc a (either g (both h (judged c))) (group_ands x)
        ∙ ap (both (both a (either g (both h (judged c))))) (sym (fold_same both ors (in_ors (known false) (known true)) fresh_ors x))) t)

    group_or : (t : Tree) → rest o a g h (then (one (one (one c))) t) ≡ rest (either o (both a (either g (both h (judged c))))) (known true) (known false) (known true) t
    unfolding fold fold₁
    group_or t =
        either_assoc o (both a (either g (both h (judged c)))) (fold either group_ands t)
        ∙ ap (either (either o (both a (either g (both h (judged c)))))) (sym (fold_same either group_ands (in_group_ands (known true) (known false) (known true)) fresh_group_ands t))

  -- the steps of a comparison that is judged go in front
  module _ (m : ℕ) where
    in_or : {A : Type 0} (f w x : A → Told) → ((a : A) → w a ≡ add m (x a)) → (c : Chain A)
        → either (known false) (fold₁ either f w c) ≡ add m (either (known false) (fold₁ either f x c))
    in_or f w x e c = either_known _ ∙ fold_add either f w m x (either_add m) e c ∙ ap (add m) (sym (either_known _))

    in_and : {A : Type 0} (f w x : A → Told) → ((a : A) → w a ≡ add m (x a)) → (c : Chain A)
        → both (known true) (fold₁ both f w c) ≡ add m (both (known true) (fold₁ both f x c))
    in_and f w x e c = both_known _ ∙ fold_add both f w m x (both_add m) e c ∙ ap (add m) (sym (both_known _))

    in_ands_law : (b : Bool) (t : Tree) → rest (known false) (known true) (known false) (add m (known b)) t ≡ add m (rest (known false) (known true) (known false) (known b) t)
    in_ands_law b =
        in_or group_ands (in_group_ands (known true) (known false) (add m (known b))) (in_group_ands (known true) (known false) (known b))
        (in_and ors (in_ors (known false) (add m (known b))) (in_ors (known false) (known b))
        (in_or ands (in_ands (add m (known b))) (in_ands (known b)) (λ z. both_add m (known b) (ands z))))

    in_ors_law : (b : Bool) (t : Tree) → rest (known false) (known true) (add m (known b)) (known true) t ≡ add m (rest (known false) (known true) (known b) (known true) t)
    in_ors_law b =
        in_or group_ands (in_group_ands (known true) (add m (known b)) (known true)) (in_group_ands (known true) (known b) (known true))
        (in_and ors (in_ors (add m (known b)) (known true)) (in_ors (known b) (known true)) (λ y. either_add m (known b) _))

    in_group_ands_law : (b : Bool) (t : Tree) → rest (known false) (add m (known b)) (known false) (known true) t ≡ add m (rest (known false) (known b) (known false) (known true) t)
    in_group_ands_law b =
        in_or group_ands (in_group_ands (add m (known b)) (known false) (known true)) (in_group_ands (known b) (known false) (known true)) (λ x. both_add m (known b) _)

  -- of what the chains have come to, nothing is left to count
  pub rest_of : State → Tree → Told
  rest_of s t = rest (known s.ors) (known s.ands) (known s.group_ors) (known s.group_ands) t

  -- where a chain is decided, nothing of it counts
  module _ (c : Comparison) where
    in_front : both (known true) (judged c) ≡ add (n c) (known (v c))
    unfolding both add
    in_front = ap (told (v c)) (omega arith)

    after_and : (o a g h : Bool) (t : Tree) → rest (known o) (known a) (known g) (both (known h) (judged c)) t
        ≡ add (steps_if (live (state o a g h)) (n c)) (rest_of (step (Inner And) (state o a g h) (live (state o a g h) && v c)) t)
    unfolding both either rest_of step
    after_and true a g h t = add_zero _
    after_and false false g h t = add_zero _
    after_and false true true h t = add_zero _
    after_and false true false false t = add_zero _
    after_and false true false true t = ap (λ (x : Told). rest (known false) (known true) (known false) x t) in_front ∙ in_ands_law (n c) (v c) t

    after_or : (o a g h : Bool) (t : Tree) → rest (known o) (known a) (either (known g) (both (known h) (judged c))) (known true) t
        ≡ add (steps_if (live (state o a g h)) (n c)) (rest_of (step (Inner Or) (state o a g h) (live (state o a g h) && v c)) t)
    unfolding both either rest_of step
    after_or true a g h t = add_zero _
    after_or false false g h t = add_zero _
    after_or false true true h t = add_zero _
    after_or false true false false t = add_zero _
    after_or false true false true t = ap (λ (x : Told). rest (known false) (known true) x (known true) t) (either_known _ ∙ in_front) ∙ in_ors_law (n c) (v c) t

    after_group_and : (o a g h : Bool) (t : Tree) → rest (known o) (both (known a) (either (known g) (both (known h) (judged c)))) (known false) (known true) t
        ≡ add (steps_if (live (state o a g h)) (n c)) (rest_of (step (Outer And) (state o a g h) (live (state o a g h) && v c)) t)
    unfolding both either rest_of step
    after_group_and true a g h t = add_zero _
    after_group_and false false g h t = add_zero _
    after_group_and false true true h t = add_zero _
    after_group_and false true false false t = add_zero _
    after_group_and false true false true t =
        ap (λ (x : Told). rest (known false) x (known false) (known true) t) (both_known _ ∙ either_known _ ∙ in_front) ∙ in_group_ands_law (n c) (v c) t

    all_so_far : (o a g h : Bool) → either (known o) (both (known a) (either (known g) (both (known h) (judged c))))
        ≡ add (steps_if (live (state o a g h)) (n c)) (known (total (state o a g h) (live (state o a g h) && v c)))
    unfolding both either total
    all_so_far true a g h = add_zero _
    all_so_far false false g h = add_zero _
    all_so_far false true true h = add_zero _
    all_so_far false true false false = add_zero _
    all_so_far false true false true = either_known _ ∙ both_known _ ∙ either_known _ ∙ in_front

    -- the last comparison, and one that others follow
    pub rest_last : (s : State) → rest_of s (one (one (one (one c)))) ≡ add (steps_if (live s) (n c)) (known (total s (live s && v c)))
    unfolding rest_of fold₁ fold
    rest_last s = all_so_far s.ors s.ands s.group_ors s.group_ands

    pub rest_more : (s : State) (j : Join) (t : Tree) → last_join j ≡ false → rest_of s (join c j t) ≡ add (steps_if (live s) (n c)) (rest_of (step j s (live s && v c)) t)
    unfolding rest_of step
    rest_more s Last t e = absurd (cc)
    rest_more s (Inner And) t e = one_and _ _ _ _ c t ∙ after_and s.ors s.ands s.group_ors s.group_ands t
    rest_more s (Inner Or) t e = one_or _ _ _ _ c t ∙ after_or s.ors s.ands s.group_ors s.group_ands t
    rest_more s (Outer And) t e = group_and _ _ _ _ c t ∙ after_group_and s.ors s.ands s.group_ors s.group_ands t
    rest_more s (Outer Or) t e =
        group_or _ _ _ _ c t
        ∙ ap (λ (x : Told). rest x (known true) (known false) (known true) t) (all_so_far s.ors s.ands s.group_ors s.group_ands)
        ∙ either_add (steps_if (live s) (n c)) (known (total s (live s && v c))) _

  -- before the first comparison all of the tree is left
  pub rest_all : (t : Tree) → rest_of initial t ≡ told (holds v t) (tree_steps v n t)
  unfolding rest_of
  rest_all t = fresh t ∙ tree_told t
