-- The place of 31 is the start of a record, the first at fault: the ones before it are right, and it isn't.
use Rattle.std.specs.Prelude.{Err}
use Prim.Native.Nat.{ℕ, zero, suc, ◌-◌, ◌≤◌, ◌<◌}
use mathlib.Core.List.{List, [], ◌∷◌}
use mathlib.Core.Bool.{Bool, true, false}
use mathlib.Core.Option.{Option, none, some}
use mathlib.Core.Path.{◌≡◌, refl, sym, ap, ◌∙◌}
use native.Mathlib.Omega.{arith}
use lib.ListN.{length, get_elem?, drop}
use lib.Dec.{ltb}
use borrow.Author.Tests.{ltb-true, ltb-false}
use Rattle.base.specs.Pick.{pick}
use Rattle.base.specs.Part.{part}
use Rattle.base.proofs.Says.{apart}
use Rattle.record.specs.Record.{record_at, records}
use Rattle.record.specs.Kind.{kind_of}
use Rattle.record.specs.declared.read.RecordAt.{RecordAt}
use Rattle.record.specs.declared.read.RecordAt.TheVariants.{Whole, Broken, End}
use Rattle.record.proofs.Records.{View, ends, breaks, stands, view, whole_in_law, records_whole, records_broken, records_end}
use Rattle.table.specs.Properties.{kinds_of}
use Rattle.instance.specs.declared.conform.InstanceRefusal.{InstanceRefusal}
use Rattle.instance.specs.declared.conform.InstanceFault.TheVariants.{TooLong, Nonconforming}
use Rattle.instance.specs.Conforms.{Slot, HasKind}
use Rattle.instance.specs.Fault.{Conformity, conforming, too_long, fault_at, record_fits, further_fault, fault_in, fault_under, conformity}
use Rattle.instance.specs.Start.{start_of}
use Rattle.instance.proofs.Decides.{says_record}

-- what stands at a place is right, where a property of some kind is asked for or none
abbrev pub RightIn : Option ℕ → List ℕ → RecordAt → Type 0
RightIn none i (Whole kind start len next) = Unit
RightIn (some k) i (Whole kind start len next) = Slot k kind (part i start len) (HasKind (kind_of k) (part i start len))
RightIn none i Broken = ⊥
RightIn (some k) i Broken = ⊥
RightIn none i End = Unit
RightIn (some k) i End = ⊥

-- the record of number n is right
abbrev pub Right : (kinds instance : List ℕ) → (n : ℕ) → Type 0
Right ks i n = RightIn (get_elem? ks n) i (record_at i (start_of i n))

pub record FirstFault (ks i : List ℕ) (place : ℕ) : Type 0 where
  pub number : ℕ
  pub is : place ≡ start_of i number
  pub before : (n : ℕ) → n < number → Right ks i n
  pub wrong : Right ks i number → ⊥

given : {x y : InstanceRefusal} → ◌≡◌ {A = Conformity} (Err x) (Err y) → x ≡ y
given e = cc

same_place : {p o : ℕ} → fault_at p ≡ fault_at o → o ≡ p
same_place e = sym (ap (λ (x : InstanceRefusal). x.place) (given e))

not_too_long : {p : ℕ} → ◌≡◌ {A = Conformity} (Err too_long) (fault_at p) → ⊥
not_too_long e = distinct (ap (λ (x : InstanceRefusal). x.cause) (given e))
  where
    distinct : TooLong ≡ Nonconforming → ⊥
    distinct f = let z : ◌≡◌ {A = ℕ} 0 1 = cc in omega arith

not_fault : {p : ℕ} → conforming ≡ fault_at p → ⊥
not_fault e = let z : ◌≡◌ {A = ℕ} 0 1 = cc in omega arith

-- what is left of the kinds at a number
left_none : (ks : List ℕ) (n : ℕ) → drop n ks ≡ [] → get_elem? ks n ≡ none
left_none [] n e = refl
left_none (k ∷ ks) zero e = absurd (let z : suc (length ks) ≡ 0 = ap length e in omega arith)
left_none (k ∷ ks) (suc n) e = left_none ks n e

left_some : (ks : List ℕ) (n k : ℕ) (rest : List ℕ) → drop n ks ≡ k ∷ rest → get_elem? ks n ≡ some k
left_some [] n k rest e = absurd (let z : ◌≡◌ {A = ℕ} 0 (suc (length rest)) = ap length (sym (nil n) ∙ e) in omega arith)
  where
    nil : (n : ℕ) → ◌≡◌ {A = List ℕ} (drop n []) []
    nil zero = refl
    nil (suc n) = refl
left_some (j ∷ ks) zero k rest e = let q : j ≡ k = cc in ap some q
left_some (j ∷ ks) (suc n) k rest e = left_some ks n k rest e

left_more : (ks : List ℕ) (n k : ℕ) (rest : List ℕ) → drop n ks ≡ k ∷ rest → drop (suc n) ks ≡ rest
left_more [] n k rest e = absurd (let z : ◌≡◌ {A = ℕ} 0 (suc (length rest)) = ap length (sym (nil n) ∙ e) in omega arith)
  where
    nil : (n : ℕ) → ◌≡◌ {A = List ℕ} (drop n []) []
    nil zero = refl
    nil (suc n) = refl
left_more (j ∷ ks) zero k rest e = let q : ks ≡ rest = cc in q
left_more (j ∷ ks) (suc n) k rest e = left_more ks n k rest e

left_nothing : (ks : List ℕ) (n : ℕ) → drop n ks ≡ [] → drop (suc n) ks ≡ []
left_nothing [] n e = refl
left_nothing (k ∷ ks) zero e = absurd (let z : suc (length ks) ≡ 0 = ap length e in omega arith)
left_nothing (k ∷ ks) (suc n) e = left_nothing ks n e

-- one more record is right
before_more : {P : ℕ → Type 0} (n : ℕ) → ((m : ℕ) → m < n → P m) → P n → (m : ℕ) → m < suc n → P m
before_more {P} n h p m l = go (ltb m n) refl
  where
    go : (b : Bool) → ltb m n ≡ b → P m
    go true e = h m (ltb-true m n e)
    go false e = let g = ltb-false m n e in let q : m ≡ n = omega arith in rw q p

-- where a record stands, the next one's start
past : (i : List ℕ) (n kind start len next : ℕ) → record_at i (start_of i n) ≡ Whole kind start len next → next ≡ start_of i (suc n)
unfolding start_of
past i n kind start len next e = rw e

-- the first fault from the record of number n on, where those before it are right
module _ (ks i : List ℕ) (p : ℕ) where
  First : ℕ → Type 0
  First n =
      (left : List ℕ) → drop n ks ≡ left → start_of i n ≤ length i → ((m : ℕ) → m < n → Right ks i m)
      → fault_in i left (records i (start_of i n)) ≡ fault_at p → FirstFault ks i p

  here_wrong : (n : ℕ) → ((m : ℕ) → m < n → Right ks i m) → (Right ks i n → ⊥) → start_of i n ≡ p → FirstFault ks i p
  here_wrong n b w e = record { number = n; is = sym e; before = b; wrong = w }

  first_further : (n : ℕ) → (start_of i n < start_of i (suc n) → start_of i (suc n) ≤ length i → First (suc n))
      → (left : drop n ks ≡ []) → start_of i n ≤ length i → ((m : ℕ) → m < n → Right ks i m)
      → (r : RecordAt) → record_at i (start_of i n) ≡ r → fault_in i [] (records i (start_of i n)) ≡ fault_at p → FirstFault ks i p
  unfolding fault_in further_fault First
  first_further n again left l b (Whole kind start len next) e h =
      let w = whole_in_law i (start_of i n) kind start len next e in
      let q = past i n kind start len next e in
      let h' = rw (records_whole i (start_of i n) kind start len next e, q) at h in
      again (omega arith) (omega arith) [] (left_nothing ks n left) (omega arith) (before_more {P = Right ks i} n b (rw (left_none ks n left, e) tt)) h'
  first_further n again left l b Broken e h =
      let h' = rw (records_broken i (start_of i n) e) at h in
      here_wrong n b (λ g. rw (left_none ks n left, e) at g) (same_place (sym h'))
  first_further n again left l b End e h = absurd (not_fault (rw (records_end i (start_of i n) e) at h))

  first_property_law : (n k : ℕ) (rest : List ℕ) → (start_of i n < start_of i (suc n) → start_of i (suc n) ≤ length i → First (suc n))
      → (left : drop n ks ≡ k ∷ rest) → start_of i n ≤ length i → ((m : ℕ) → m < n → Right ks i m)
      → (r : RecordAt) → record_at i (start_of i n) ≡ r → fault_in i (k ∷ rest) (records i (start_of i n)) ≡ fault_at p → FirstFault ks i p
  unfolding fault_in First
  first_property_law n k rest again left l b (Whole kind start len next) e h =
      let w = whole_in_law i (start_of i n) kind start len next e in
      let q = past i n kind start len next e in
      let h' = rw (records_whole i (start_of i n) kind start len next e) at h in
      chosen (record_fits k kind (part i start len)) refl h'
    where
      chosen : (c : Bool) → record_fits k kind (part i start len) ≡ c → pick c (fault_in i rest (records i next)) (fault_at (start_of i n)) ≡ fault_at p → FirstFault ks i p
      chosen true f g =
          let w = whole_in_law i (start_of i n) kind start len next e in
          let q = past i n kind start len next e in
          again (omega arith) (omega arith) rest (left_more ks n k rest left) (omega arith)
          (before_more {P = Right ks i} n b (rw (left_some ks n k rest left, e) ((says_record k kind (part i start len)).to f))) (rw q at g)
      chosen false f g =
          here_wrong n b (λ s. let s' = rw (left_some ks n k rest left, e) at s in apart (sym f ∙ (says_record k kind (part i start len)).from s')) (same_place (sym g))
  first_property_law n k rest again left l b Broken e h =
      let h' = rw (records_broken i (start_of i n) e) at h in
      here_wrong n b (λ g. rw (left_some ks n k rest left, e) at g) (same_place (sym h'))
  first_property_law n k rest again left l b End e h =
      let h' = rw (records_end i (start_of i n) e) at h in
      here_wrong n b (λ g. rw (left_some ks n k rest left, e) at g) (at_end_law (view i (start_of i n)) ∙ same_place (sym h'))
    where
      at_end_law : View i (start_of i n) → start_of i n ≡ length i
      at_end_law (ends g f) = omega arith
      at_end_law (breaks g j f) = absurd (let z : ◌≡◌ {A = ℕ} 0 1 = cc in omega arith)
      at_end_law (stands g f) = absurd (let z : ◌≡◌ {A = ℕ} 0 1 = cc in omega arith)

  first_from : (f n : ℕ) → length i - start_of i n < f → First n
  unfolding First
  first_from zero n h left e l b g = absurd (omega arith)
  first_from (suc f) n h [] e l b g = first_further n (λ x y. first_from f (suc n) (omega arith)) e l b (record_at i (start_of i n)) refl g
  first_from (suc f) n h (k ∷ rest) e l b g = first_property_law n k rest (λ x y. first_from f (suc n) (omega arith)) e l b (record_at i (start_of i n)) refl g

pub first_fault : (t i : List ℕ) (place : ℕ) → conformity t i ≡ fault_at place → FirstFault (kinds_of t) i place
unfolding fault_under start_of First
first_fault t i place = go (ltb 65535 (length i))
  where
    go : (b : Bool) → pick b (Err too_long) (fault_in i (kinds_of t) (records i 0)) ≡ fault_at place → FirstFault (kinds_of t) i place
    go true e = absurd (not_too_long e)
    go false e = first_from (kinds_of t) i place (suc (length i)) 0 (omega arith) (kinds_of t) refl (omega arith) (λ m l. absurd (omega arith)) e
