-- One law for each way out of the readers of a set's members. Assumes nothing.
use mathlib.Core.Path.{◌≡◌, refl, subst}
use mathlib.Core.List.{List, [], ◌∷◌}
use mathlib.Core.Bool.{Bool, true, false, not, ◌||◌, ◌&&◌, or_assoc}
use Prim.Native.Nat.{ℕ, zero, suc, ◌≤◌, ◌<◌, ◌+◌, ◌-◌}
use native.Mathlib.Omega.{arith}
use borrow.Author.Tests.{lt-ltb, le-ltb, eq-eqb, ne_eqb, not-true, not-false}
use lib.ListN.{length, get_or, drop, length-drop, drop_of_length-le}
use lib.Dec.{ltb, leb, eqb}
use Rattle.base.specs.Pick.{pick}
use Rattle.base.specs.Range.{within}
use Rattle.base.proofs.Lists.{left_next}
use Rattle.std.specs.Prelude.{Option, Some, None}
use Rattle.pattern.specs.Regex.{Range, in_ranges}
use Rattle.pattern.specs.Character.{backslash, hyphen, close_set, starts_with}
use Rattle.pattern.specs.Reading.{Reading, malformed, front, escaped, member, up_to, range_from, range, add_range, members}
use Rattle.pattern.specs.Answers.{bad, good, GivesMember, GivesRange, GivesMembers, ReadsMembers}
use Rattle.pattern.proofs.Offsets.{drop_next}

-- ---- what an answer tells of the reading

pub member_bad : {s : List ℕ} {r : Option (ℕ × ℕ)} {X : Reading ℕ} → GivesMember s r X → r ≡ None → X ≡ malformed
member_bad bad q = refl
member_bad good q = absurd (let z : ◌≡◌ {A = ℕ} 0 1 = cc in omega arith)

pub member_good : {s : List ℕ} {r : Option (ℕ × ℕ)} {X : Reading ℕ} {e x : ℕ} → GivesMember s r X → r ≡ Some (e, x) → X ≡ front x (drop e s)
member_good bad q = absurd (let z : ◌≡◌ {A = ℕ} 0 1 = cc in omega arith)
member_good {s} {e = e} {x = x} (good {e = k} {a = a}) q =
    let w : ◌≡◌ {A = ℕ × ℕ} (k, a) (e, x) = cc in
    λ i. front (w i).1 (drop (w i).0 s)

range_bad : {s : List ℕ} {r : Option (ℕ × ℕ × ℕ)} {X : Reading Range} → GivesRange s r X → r ≡ None → X ≡ malformed
range_bad bad q = refl
range_bad good q = absurd (let z : ◌≡◌ {A = ℕ} 0 1 = cc in omega arith)

range_good : {s : List ℕ} {r : Option (ℕ × ℕ × ℕ)} {X : Reading Range} {e low high : ℕ} → GivesRange s r X → r ≡ Some (e, low, high)
    → X ≡ front (record { low = low; high = high }) (drop e s)
range_good bad q = absurd (let z : ◌≡◌ {A = ℕ} 0 1 = cc in omega arith)
range_good {s} {e = e} {low = low} {high = high} (good {e = k} {a = a}) q =
    let w : ◌≡◌ {A = ℕ × ℕ × ℕ} (k, a.low, a.high) (e, low, high) = cc in
    λ i. front (record { low = (w i).1; high = (w i).2 }) (drop (w i).0 s)

-- ---- a character

module _ (s : List ℕ) (at : ℕ) where
  pub escaped_end : length s ≤ at → GivesMember s None (escaped (drop at s))
  unfolding escaped
  escaped_end h = rw (drop_of_length-le s h) bad

  pub escaped_one : at < length s → GivesMember s (Some (at + 1, get_or s at 0)) (escaped (drop at s))
  unfolding escaped
  escaped_one h = rw (left_next s at h) good

  pub member_end : length s ≤ at → GivesMember s None (member (drop at s))
  unfolding member
  member_end h = rw (drop_of_length-le s h) bad

  pub member_escaped : {r : Option (ℕ × ℕ)} → at < length s → get_or s at 0 ≡ backslash → GivesMember s r (escaped (drop (at + 1) s)) → GivesMember s r (member (drop at s))
  unfolding member
  member_escaped h q g = rw (left_next s at h, eq-eqb _ _ q) g

  pub member_special : at < length s → (get_or s at 0 ≡ backslash → ⊥) → (eqb (get_or s at 0) hyphen || eqb (get_or s at 0) close_set) ≡ true
      → GivesMember s None (member (drop at s))
  unfolding member
  member_special h n q = rw (left_next s at h, ne_eqb _ _ n, q) bad

  pub member_plain : at < length s → (get_or s at 0 ≡ backslash → ⊥) → (eqb (get_or s at 0) hyphen || eqb (get_or s at 0) close_set) ≡ false
      → GivesMember s (Some (at + 1, get_or s at 0)) (member (drop at s))
  unfolding member
  member_plain h n q = rw (left_next s at h, ne_eqb _ _ n, q) good

-- ---- a character or a range

module _ (s : List ℕ) (at : ℕ) {r : Option (ℕ × ℕ)} (low_read : GivesMember s r (member (drop at s))) where
  pub range_none : r ≡ None → GivesRange s None (range (drop at s))
  unfolding range
  range_none q = rw (member_bad low_read q) bad

  module _ {e low : ℕ} (q : r ≡ Some (e, low)) {t : Bool} (test : t ≡ starts_with hyphen (drop e s)) where
    pub range_one : not t ≡ true → GivesRange s (Some (e, low, low)) (range (drop at s))
    unfolding range
    range_one n = rw (member_good low_read q, ← test, not-true t n) good

    module _ (n : not t ≡ false) {r2 : Option (ℕ × ℕ)} (high_read : GivesMember s r2 (member (drop (e + 1) s))) where
      pub range_open : r2 ≡ None → GivesRange s None (range (drop at s))
      unfolding range
      range_open q2 = rw (member_good low_read q, ← test, not-false t n, drop_next s e, member_bad high_read q2) bad

      module _ {e2 high : ℕ} (q2 : r2 ≡ Some (e2, high)) where
        pub range_reversed : high < low → GivesRange s None (range (drop at s))
        unfolding range
        range_reversed h = rw (member_good low_read q, ← test, not-false t n, drop_next s e, member_good high_read q2, lt-ltb _ _ h) bad

        pub range_both : low ≤ high → GivesRange s (Some (e2, low, high)) (range (drop at s))
        unfolding range
        range_both h = rw (member_good low_read q, ← test, not-false t n, drop_next s e, member_good high_read q2, le-ltb _ _ h) good

-- ---- what is read is not empty

-- what is read leaves fewer than n characters
pub data Leaves {A : Type 0} (n : ℕ) : Reading A → Type 0 where
  leaves_none : Leaves n malformed
  leaves : {a : A} (s : List ℕ) → length s < n → Leaves n (front a s)

pub leaves_more : {A : Type 0} {m n : ℕ} {X : Reading A} → Leaves m X → m ≤ n → Leaves n X
leaves_more leaves_none h = leaves_none
leaves_more (leaves s l) h = leaves s (omega arith)

pub leaves_pick : {A : Type 0} {n : ℕ} (b : Bool) {X Y : Reading A} → Leaves n X → Leaves n Y → Leaves n (pick b X Y)
leaves_pick true p q = p
leaves_pick false p q = q

pub drop_less : (s : List ℕ) → length (drop 1 s) ≤ length s
drop_less s = simp length-drop (omega arith)

pub escaped_leaves : (s : List ℕ) → Leaves (length s) (escaped s)
unfolding escaped
escaped_leaves [] = leaves_none
escaped_leaves (c ∷ s) = leaves s (omega arith)

pub member_leaves : (s : List ℕ) → Leaves (length s) (member s)
unfolding member
member_leaves [] = leaves_none
member_leaves (c ∷ s) =
    leaves_pick (eqb c backslash) (leaves_more (escaped_leaves s) (omega arith))
    (leaves_pick (eqb c hyphen || eqb c close_set) leaves_none (leaves s (omega arith)))

pub range_leaves : (s : List ℕ) → Leaves (length s) (range s)
unfolding range
range_leaves s = go (member s) (member_leaves s)
  where
    to : (low n : ℕ) (X : Reading ℕ) → Leaves n X → Leaves n (up_to low X)
    to low n malformed l = leaves_none
    to low n (front high t) (leaves u l) = leaves_pick (ltb high low) leaves_none (leaves u l)

    go : (X : Reading ℕ) → Leaves (length s) X → Leaves (length s) (range_from X)
    go malformed l = leaves_none
    go (front low t) (leaves u l) =
        let d = drop_less t in
        leaves_pick (starts_with hyphen t)
        (to low (length s) (member (drop 1 t)) (leaves_more (member_leaves (drop 1 t)) (omega arith)))
        (leaves t l)

pub left_less : {A : Type 0} {n : ℕ} {a : A} {s : List ℕ} → Leaves n (front a s) → length s < n
left_less (leaves s l) = l

-- the characters left after a range are fewer
pub range_further : (s : List ℕ) (at : ℕ) {r : Option (ℕ × ℕ × ℕ)} {e low high : ℕ} → GivesRange s r (range (drop at s)) → r ≡ Some (e, low, high) → length s - e < length s - at
range_further s at {e = e} g q =
    let l = left_less (subst (λ (X : Reading Range). Leaves (length (drop at s)) X) (range_good g q) (range_leaves (drop at s))) in
    omega (arith, length-drop e s, length-drop at s)

-- ---- the members

or_none : (a b : Bool) → (a || (b || false)) ≡ (a || b)
or_none true b = refl
or_none false true = refl
or_none false false = refl

add : (s : List ℕ) (c : ℕ) (hit : Bool) (low high : ℕ) (y : Option (ℕ × Bool)) (X : Reading (List Range))
    → GivesMembers s c (hit || (leb low c && leb c high)) y X → GivesMembers s c hit y (add_range (record { low = low; high = high }) X)
unfolding in_ranges within
add s c hit low high y malformed bad = bad
add s c hit low high y (front rs u) good = rw (or_assoc hit (leb low c && leb c high) (in_ranges rs c)) good

module _ (s : List ℕ) (at c : ℕ) (hit : Bool) {r : Option (ℕ × ℕ × ℕ)} (range-read : GivesRange s r (range (drop at s))) where
  pub members_bad : r ≡ None → ReadsMembers s at c hit None
  unfolding members
  members_bad q zero le = absurd (omega arith)
  members_bad q (suc f) le = rw (range_bad range-read q, members) bad

  module _ {e low high : ℕ} (q : r ≡ Some (e, low, high)) {t : Bool} (test : t ≡ starts_with close_set (drop e s)) where
    pub members_close : t ≡ true → ReadsMembers s at c hit (Some (e + 1, hit || (leb low c && leb c high)))
    unfolding members in_ranges within
    members_close n zero le = absurd (omega arith)
    members_close n (suc f) le = rw (range_good range-read q, ← test, n, drop_next s e, members) (rw (← or_none hit (leb low c && leb c high)) good)

    pub members_more : t ≡ false → {y : Option (ℕ × Bool)} → ReadsMembers s e c (hit || (leb low c && leb c high)) y → ReadsMembers s at c hit y
    unfolding members in_ranges within
    members_more n m zero le = absurd (omega arith)
    members_more n {y} m (suc f) le =
        let further = range_further s at range-read q in
        rw (range_good range-read q, ← test, n, members) (add s c hit low high y (members f (drop e s)) (m f (omega arith)))
