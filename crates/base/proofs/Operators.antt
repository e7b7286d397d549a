-- What each operator says of two whole numbers, by way of their order.
use mathlib.Core.Path.{◌≡◌, refl, sym, ap, subst}
use mathlib.Core.Bool.{Bool, true, false}
use native.Mathlib.Nat.{le_antisymm, le_of_lt}
use lib.Dec.{T, ltb→lt, le→leb}
use lib.IntN.{ℤ, pos, negsuc}
use lib.Signed.{lt_z, le_z, ◌<ℤ◌, ◌≤ℤ◌, lt_z_yes, le_z_yes, ≤ℤ_refl, <ℤ_irrefl, clash_ℤ}
use borrow.Author.Tests.{ltb-false}
use Rattle.base.specs.Pick.{pick}
use Rattle.base.specs.Order.{holds, order_of_whole}
use Rattle.base.specs.declared.order.Order.{Order}
use Rattle.base.specs.declared.order.Order.TheVariants.{Before, Same, After, Undecided}
use Rattle.base.specs.declared.order.Operator.{Operator}
use Rattle.base.specs.declared.order.Operator.TheVariants.{Equal, Unequal, Less, AtMost, Greater, AtLeast}
use Rattle.base.proofs.Says.{Says, apart}

abbrev pub Relates : Operator → ℤ → ℤ → Type 0
Relates Equal m n = m ≡ n
Relates Unequal m n = m ≡ n → ⊥
Relates Less m n = m <ℤ n
Relates AtMost m n = m ≤ℤ n
Relates Greater m n = n <ℤ m
Relates AtLeast m n = n ≤ℤ m

at_most : (m n : ℤ) → T (lt_z m n) → T (le_z m n)
at_most (pos a) (pos b) h = le→leb a b (le_of_lt (ltb→lt a b h))
at_most (pos a) (negsuc b) h = absurd h
at_most (negsuc a) (pos b) h = tt
at_most (negsuc a) (negsuc b) h = le→leb b a (le_of_lt (ltb→lt b a h))

weaken : {m n : ℤ} → m <ℤ n → m ≤ℤ n
weaken {m} {n} h = le_z_yes (at_most m n h.lt)

level : (m n : ℤ) → lt_z m n ≡ false → lt_z n m ≡ false → m ≡ n
level (pos a) (pos b) h k = ap pos (le_antisymm (ltb-false b a k) (ltb-false a b h))
level (pos a) (negsuc b) h k = absurd (apart (sym k))
level (negsuc a) (pos b) h k = absurd (apart (sym h))
level (negsuc a) (negsuc b) h k = ap negsuc (le_antisymm (ltb-false b a h) (ltb-false a b k))

-- how two numbers stand to each other where their order is so
data Stands (m n : ℤ) : Order → Type 0 where
  before : m <ℤ n → Stands m n Before
  same : m ≡ n → Stands m n Same
  after : n <ℤ m → Stands m n After

stands : (m n : ℤ) → Stands m n (order_of_whole m n)
unfolding order_of_whole
stands m n = go (lt_z m n) refl (lt_z n m) refl
  where
    go : (p : Bool) → lt_z m n ≡ p → (q : Bool) → lt_z n m ≡ q → Stands m n (pick p Before (pick q After Same))
    go true e q f = before (lt_z_yes (rw e tt))
    go false e true f = after (lt_z_yes (rw f tt))
    go false e false f = same (level m n e f)

yes : {P : Type 0} → P → Says true P
yes p = record { to = λ e. p; from = λ h. refl }

never : {P : Type 0} → (P → ⊥) → Says false P
never f = record { to = λ e. absurd (apart e); from = λ h. absurd (f h) }

module _ {m n : ℤ} where
  unlike : m <ℤ n → m ≡ n → ⊥
  unlike h e = <ℤ_irrefl (subst (λ (k : ℤ). m <ℤ k) (sym e) h)

  alike : m ≡ n → m ≤ℤ n
  alike e = subst (λ (k : ℤ). m ≤ℤ k) e (≤ℤ_refl m)

  says : (op : Operator) (o : Order) → Stands m n o → Says (holds op o) (Relates op m n)
  says Equal Before (before h) = never (unlike h)
  says Equal Same (same e) = yes e
  says Equal After (after h) = never (λ e. <ℤ_irrefl (subst (λ (k : ℤ). n <ℤ k) e h))
  says Equal Undecided s = elim s [ ]
  says Unequal Before (before h) = yes (unlike h)
  says Unequal Same (same e) = never (λ f. f e)
  says Unequal After (after h) = yes (λ e. <ℤ_irrefl (subst (λ (k : ℤ). n <ℤ k) e h))
  says Unequal Undecided s = elim s [ ]
  says Less Before (before h) = yes h
  says Less Same (same e) = never (λ h. unlike h e)
  says Less After (after h) = never (λ k. clash_ℤ h (weaken k))
  says Less Undecided s = elim s [ ]
  says AtMost Before (before h) = yes (weaken h)
  says AtMost Same (same e) = yes (alike e)
  says AtMost After (after h) = never (λ k. clash_ℤ h k)
  says AtMost Undecided s = elim s [ ]
  says Greater Before (before h) = never (λ k. clash_ℤ h (weaken k))
  says Greater Same (same e) = never (λ h. <ℤ_irrefl (subst (λ (k : ℤ). n <ℤ k) e h))
  says Greater After (after h) = yes h
  says Greater Undecided s = elim s [ ]
  says AtLeast Before (before h) = never (λ k. clash_ℤ h k)
  says AtLeast Same (same e) = yes (subst (λ (k : ℤ). k ≤ℤ m) e (≤ℤ_refl m))
  says AtLeast After (after h) = yes (weaken h)
  says AtLeast Undecided s = elim s [ ]

-- an operator holds of two whole numbers exactly where they are so related
pub whole_holds : (op : Operator) (m n : ℤ) → Says (holds op (order_of_whole m n)) (Relates op m n)
whole_holds op m n = says op (order_of_whole m n) (stands m n)
