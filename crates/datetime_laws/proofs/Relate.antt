-- What the operators say of two spans, in the words of 02 Q-6, and which order two spans have: each of the four answers exactly where 02 gives it.
use mathlib.Core.Path.{◌≡◌, refl, sym, ap, ◌∙◌, subst}
use mathlib.Core.Bool.{Bool, true, false, not, ◌&&◌, ◌||◌}
use mathlib.Core.Logic.{◌↔◌}
use lib.IntN.{ℤ}
use lib.Ieee.Bits.{is_true}
use lib.Signed.{lt_z, ◌<ℤ◌, ◌≤ℤ◌, lt_z_yes, <ℤ-≤ℤ_trans, clash_ℤ}
use Rattle.base.specs.Pick.{pick}
use Rattle.base.specs.Order.{holds, order_of_whole}
use Rattle.base.specs.declared.order.Order.{Order}
use Rattle.base.specs.declared.order.Order.TheVariants.{Before, Same, After, Undecided}
use Rattle.base.specs.declared.order.Operator.{Operator}
use Rattle.base.specs.declared.order.Operator.TheVariants.{Equal, Unequal, Less, AtMost, Greater, AtLeast}
use Rattle.base.proofs.Says.{Says, apart, says_not, says_and, says_or}
use Rattle.base.proofs.Orders.{unequal_is, at_most_is, at_least_is}
use Rattle.base.proofs.Operators.{whole_holds}
use Rattle.datetime.specs.Order.{same_whole, order_of_spans}
use Rattle.datetime.specs.declared.Span.{Span}
use Rattle.datetime_laws.specs.Relation.{InOrder, Agree, Precedes, Overlap, SpansRelate}

-- ---- whole numbers
weaken : {m n : ℤ} → m <ℤ n → m ≤ℤ n
weaken {m} {n} h = (whole_holds AtMost m n).to (sym (at_most_is (order_of_whole m n)) ∙ ap (λ (t : Bool). t || holds Equal (order_of_whole m n)) ((whole_holds Less m n).from h))

says_before : (m n : ℤ) → Says (lt_z m n) (m <ℤ n)
says_before m n = record { to = λ e. lt_z_yes (rw e tt); from = λ h. is_true (lt_z m n) h.lt }

says_same : (m n : ℤ) → Says (same_whole m n) (m ≡ n)
unfolding order_of_whole
says_same m n = subst (λ (t : Bool). Says t (m ≡ n)) (go (lt_z m n) (lt_z n m)) (whole_holds Equal m n)
  where
    go : (p q : Bool) → holds Equal (pick p Before (pick q After Same)) ≡ (not p && not q)
    go true q = refl
    go false true = refl
    go false false = refl

-- ---- spans
abbrev answer : (before after same : Bool) → Order
answer p q r = pick p Before (pick q After (pick r Same Undecided))

less_is : (p q r : Bool) → p ≡ holds Less (answer p q r)
less_is true q r = refl
less_is false true r = refl
less_is false false true = refl
less_is false false false = refl

greater_is : (p q r : Bool) → (not p && q) ≡ holds Greater (answer p q r)
greater_is true q r = refl
greater_is false true r = refl
greater_is false false true = refl
greater_is false false false = refl

equal_is : (p q r : Bool) → (not p && (not q && r)) ≡ holds Equal (answer p q r)
equal_is true q r = refl
equal_is false true r = refl
equal_is false false true = refl
equal_is false false false = refl

-- a test by another name, of the same fact in other words
says_also : {P Q : Type 0} {a b : Bool} → a ≡ b → P ↔ Q → Says a P → Says b Q
says_also e f s = record { to = λ h. f.0 (s.to (e ∙ h)); from = λ q. sym e ∙ s.from (f.1 q) }

module _ (a b : Span) (u : InOrder a) (v : InOrder b) where
  -- not both ways
  one_way : Precedes a b → Precedes b a → ⊥
  one_way h k = clash_ℤ (<ℤ-≤ℤ_trans h v) (weaken (<ℤ-≤ℤ_trans k u))

  before_not_same : Agree a b → Precedes a b → ⊥
  before_not_same e h = clash_ℤ h (subst (λ (i : ℤ). i ≤ℤ a.highest) e.0 u)

  after_not_same : Agree a b → Precedes b a → ⊥
  after_not_same e h = clash_ℤ h (subst (λ (i : ℤ). a.lowest ≤ℤ i) e.1 u)

  before : Bool
  before = lt_z a.highest b.lowest

  after : Bool
  after = lt_z b.highest a.lowest

  same : Bool
  same = same_whole a.lowest b.lowest && same_whole a.highest b.highest

  says_less : Says (holds Less (order_of_spans a b)) (Precedes a b)
  unfolding order_of_spans before after same
  says_less = says_also (less_is before after same) (λ h. h, λ h. h) (says_before a.highest b.lowest)

  says_greater : Says (holds Greater (order_of_spans a b)) (Precedes b a)
  unfolding order_of_spans before after same
  says_greater =
      says_also (greater_is before after same) (λ h. h.1, λ h. (λ k. one_way k h, h))
      (says_and (not before) after (says_not before (says_before a.highest b.lowest)) (says_before b.highest a.lowest))

  says_equal : Says (holds Equal (order_of_spans a b)) (Agree a b)
  unfolding order_of_spans before after same
  says_equal =
      says_also (equal_is before after same) (λ h. h.1.1, λ h. (before_not_same h, (after_not_same h, h)))
      (says_and (not before) (not after && same) (says_not before (says_before a.highest b.lowest))
      (says_and (not after) same (says_not after (says_before b.highest a.lowest))
      (says_and _ _ (says_same a.lowest b.lowest) (says_same a.highest b.highest))))

  -- an operator holds of two spans exactly where they are so related
  pub spans_hold : (op : Operator) → Says (holds op (order_of_spans a b)) (SpansRelate op a b)
  spans_hold Equal = says_equal
  spans_hold Unequal = says_also (unequal_is (order_of_spans a b)) (λ h. h, λ h. h) (says_not _ says_equal)
  spans_hold Less = says_less
  spans_hold AtMost = says_also (at_most_is (order_of_spans a b)) (λ h. h, λ h. h) (says_or _ _ says_less says_equal)
  spans_hold Greater = says_greater
  spans_hold AtLeast = says_also (at_least_is (order_of_spans a b)) (λ h. h, λ h. h) (says_or _ _ says_greater says_equal)

-- ---- the order, from the operators
only_before : (o : Order) → holds Less o ≡ true → o ≡ Before
only_before Before h = refl
only_before Same h = absurd (apart h)
only_before After h = absurd (apart h)
only_before Undecided h = absurd (apart h)

only_same : (o : Order) → holds Equal o ≡ true → o ≡ Same
only_same Before h = absurd (apart h)
only_same Same h = refl
only_same After h = absurd (apart h)
only_same Undecided h = absurd (apart h)

only_after : (o : Order) → holds Greater o ≡ true → o ≡ After
only_after Before h = absurd (apart h)
only_after Same h = absurd (apart h)
only_after After h = refl
only_after Undecided h = absurd (apart h)

module _ (a b : Span) (u : InOrder a) (v : InOrder b) where
  pub before_exactly : (order_of_spans a b ≡ Before) ↔ Precedes a b
  before_exactly = (λ e. (spans_hold a b u v Less).to (ap (holds Less) e), λ h. only_before (order_of_spans a b) ((spans_hold a b u v Less).from h))

  pub same_exactly : (order_of_spans a b ≡ Same) ↔ Agree a b
  same_exactly = (λ e. (spans_hold a b u v Equal).to (ap (holds Equal) e), λ h. only_same (order_of_spans a b) ((spans_hold a b u v Equal).from h))

  pub after_exactly : (order_of_spans a b ≡ After) ↔ Precedes b a
  after_exactly = (λ e. (spans_hold a b u v Greater).to (ap (holds Greater) e), λ h. only_after (order_of_spans a b) ((spans_hold a b u v Greater).from h))

  pub undecided_exactly : (order_of_spans a b ≡ Undecided) ↔ Overlap a b
  undecided_exactly = (
    λ e. (
      λ h. apart (ap (holds Less) (sym e) ∙ (spans_hold a b u v Less).from h),
      λ h. apart (ap (holds Equal) (sym e) ∙ (spans_hold a b u v Equal).from h),
      λ h. apart (ap (holds Greater) (sym e) ∙ (spans_hold a b u v Greater).from h),
    ),
    λ h. go (order_of_spans a b) refl h,
  )
    where
      go : (o : Order) → order_of_spans a b ≡ o → Overlap a b → order_of_spans a b ≡ Undecided
      go Before e h = absurd (h.0 (before_exactly.0 e))
      go Same e h = absurd (h.1 (same_exactly.0 e))
      go After e h = absurd (h.2 (after_exactly.0 e))
      go Undecided e h = e
