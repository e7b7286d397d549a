-- Terms of groups: an induction that goes group by group, and what the product of two queries' terms comes to.
use Rattle.std.specs.Prelude.{Some}
use Prim.Native.Nat.{ℕ, ◌+◌, ◌*◌}
use mathlib.Core.Path.{◌≡◌, refl, sym, ◌∙◌}
use mathlib.Core.Bool.{Bool, true, false, ◌&&◌, ◌||◌}
use native.Mathlib.Omega.{arith}
use native.Mathlib.Nat.{one-mul, suc-mul, mul-add}
use Rattle.terminal.specs.declared.operator.BoolOp.{BoolOp}
use Rattle.terminal.specs.declared.operator.BoolOp.TheVariants.{And, Or}
use Rattle.query_text.specs.Tree.{Chain, one, then, front, every, some}
use Rattle.conjunction.specs.Groups.{follow}
use Rattle.conjunction.specs.Conjunction.{chained, each, products, count}

-- ---- terms are one group, or a group joined to those behind it
module _ {A : Type 0} (P : Chain (Chain A) → Type 0) (last : (a : A) → P (one (one a))) (joined : (a : A) (o : BoolOp) (r : Chain (Chain A)) → P r → P (follow a (Some o) r)) where
  in_last : (t : Chain A) → P (one t)
  unfolding follow front
  in_last (one a) = last a
  in_last (then a t) = joined a And (one t) (in_last t)

  in_term : (t : Chain A) (r : Chain (Chain A)) → P r → P (then t r)
  unfolding follow front
  in_term (one a) r h = joined a Or r h
  in_term (then a t) r h = joined a And (then t r) (in_term t r h)

  pub by_groups : (x : Chain (Chain A)) → P x
  by_groups (one t) = in_last t
  by_groups (then t r) = in_term t r (by_groups r)

-- ---- something of each
module _ {A B : Type 0} (f : A → B) where
  pub each_follow : (a : A) (o : BoolOp) (r : Chain (Chain A)) → each (each f) (follow a (Some o) r) ≡ follow (f a) (Some o) (each (each f) r)
  unfolding each follow front
  each_follow a And (one t) = refl
  each_follow a And (then t r) = refl
  each_follow a Or r = refl

module _ {A : Type 0} (v : A → Bool) where
  every_each : (t : Chain A) → every v t ≡ every (λ b. b) (each v t)
  unfolding every each
  every_each (one a) = refl
  every_each (then a r) = rw (every_each r) refl

  pub some_each : (x : Chain (Chain A)) → some (every v) x ≡ some (every (λ b. b)) (each (each v) x)
  unfolding some each
  some_each (one t) = every_each t
  some_each (then t r) = rw (every_each t, some_each r) refl

-- ---- a property of each
unfoldable pub Every : {A : Type 0} → (A → Type 0) → Chain A → Type 0
Every P (one a) = P a
Every P (then a r) = P a × Every P r

module _ {A : Type 0} (P : A → Type 0) where
  pub follow_every : (a : A) (o : BoolOp) (r : Chain (Chain A)) → P a → Every (Every P) r → Every (Every P) (follow a (Some o) r)
  unfolding Every follow front
  follow_every a And (one t) h k = (h, k)
  follow_every a And (then t r) h k = ((h, k.0), k.1)
  follow_every a Or r h k = (h, k)

  pub every_follow : (a : A) (o : BoolOp) (r : Chain (Chain A)) → Every (Every P) (follow a (Some o) r) → P a × Every (Every P) r
  unfolding Every follow front
  every_follow a And (one t) h = (h.0, h.1)
  every_follow a And (then t r) h = (h.0.0, (h.0.1, h.1))
  every_follow a Or r h = (h.0, h.1)

chained_every : {A : Type 0} (P : A → Type 0) (x y : Chain A) → Every P x → Every P y → Every P (chained x y)
unfolding Every chained
chained_every P (one a) y h k = (h, k)
chained_every P (then a x) y h k = (h.0, chained_every P x y h.1 k)

module _ {A : Type 0} (P : A → Type 0) where
  beside_every : (t : Chain A) (us : Chain (Chain A)) → Every P t → Every (Every P) us → Every (Every P) (each (chained t) us)
  unfolding Every each
  beside_every t (one u) h k = chained_every P t u h k
  beside_every t (then u us) h k = (chained_every P t u h k.0, beside_every t us h k.1)

  pub products_every : (ts us : Chain (Chain A)) → Every (Every P) ts → Every (Every P) us → Every (Every P) (products ts us)
  unfolding Every products
  products_every (one t) us h k = beside_every t us h k
  products_every (then t ts) us h k = chained_every (Every P) (each (chained t) us) (products ts us) (beside_every t us h.0 k) (products_every ts us h.1 k)

-- ---- the product holds exactly where both do
module _ {A : Type 0} (v : A → Bool) where
  and_assoc : (a b c : Bool) → ((a && b) && c) ≡ (a && (b && c))
  and_assoc true b c = refl
  and_assoc false b c = refl

  or_assoc : (a b c : Bool) → ((a || b) || c) ≡ (a || (b || c))
  or_assoc true b c = refl
  or_assoc false b c = refl

  and_or : (a b c : Bool) → ((a && b) || (a && c)) ≡ (a && (b || c))
  and_or true b c = refl
  and_or false b c = refl

  or_and : (a b c : Bool) → ((a && c) || (b && c)) ≡ ((a || b) && c)
  or_and true true true = refl
  or_and true true false = refl
  or_and true false true = refl
  or_and true false false = refl
  or_and false true c = refl
  or_and false false c = refl

  every_chained : (x y : Chain A) → every v (chained x y) ≡ (every v x && every v y)
  unfolding every chained
  every_chained (one a) y = refl
  every_chained (then a x) y = rw (every_chained x y) (sym (and_assoc (v a) (every v x) (every v y)))

  some_chained : (x y : Chain (Chain A)) → some (every v) (chained x y) ≡ (some (every v) x || some (every v) y)
  unfolding some chained
  some_chained (one a) y = refl
  some_chained (then a x) y = rw (some_chained x y) (sym (or_assoc (every v a) (some (every v) x) (some (every v) y)))

  some_beside : (t : Chain A) (us : Chain (Chain A)) → some (every v) (each (chained t) us) ≡ (every v t && some (every v) us)
  unfolding some each
  some_beside t (one u) = every_chained t u
  some_beside t (then u us) = rw (every_chained t u, some_beside t us) (and_or (every v t) (every v u) (some (every v) us))

  pub products_hold : (ts us : Chain (Chain A)) → some (every v) (products ts us) ≡ (some (every v) ts && some (every v) us)
  unfolding some products
  products_hold (one t) us = some_beside t us
  products_hold (then t ts) us =
      some_chained (each (chained t) us) (products ts us) ∙ rw (some_beside t us, products_hold ts us) (or_and (every v t) (some (every v) ts) (some (every v) us))

-- ---- how much stands in the product: each term of one beside each of the other
unfoldable pub total : {A : Type 0} → (A → ℕ) → Chain A → ℕ
total w (one a) = w a
total w (then a r) = w a + total w r

total_chained : {A : Type 0} (w : A → ℕ) (x y : Chain A) → total w (chained x y) ≡ total w x + total w y
unfolding total chained
total_chained w (one a) y = refl
total_chained w (then a x) y = rw (total_chained w x y) (omega arith)

module _ {A : Type 0} (w : A → ℕ) where
  pub total_follow : (a : A) (o : BoolOp) (r : Chain (Chain A)) → total (total w) (follow a (Some o) r) ≡ w a + total (total w) r
  unfolding total follow front
  total_follow a And (one t) = refl
  total_follow a And (then t r) = omega arith
  total_follow a Or r = refl

  total_beside : (t : Chain A) (us : Chain (Chain A)) → total (total w) (each (chained t) us) ≡ count us * total w t + total (total w) us
  unfolding total each count
  total_beside t (one u) = rw (total_chained w t u, one-mul (total w t)) refl
  total_beside t (then u us) = rw (total_chained w t u, total_beside t us, suc-mul (count us) (total w t)) (omega arith)

  pub products_total : (ts us : Chain (Chain A)) → total (total w) (products ts us) ≡ count us * total (total w) ts + count ts * total (total w) us
  unfolding total products count
  products_total (one t) us = rw (one-mul (total (total w) us)) (total_beside t us)
  products_total (then t ts) us =
      total_chained (total w) (each (chained t) us) (products ts us)
      ∙ rw (total_beside t us, products_total ts us, mul-add (count us) (total w t) (total (total w) ts), suc-mul (count ts) (total (total w) us)) (omega arith)
