-- A fault is found exactly in an instance that doesn't conform: 30 exactly where it is too long, 31 exactly where it isn't and doesn't conform.
use Rattle.std.specs.Prelude.{Ok, Err}
use Prim.Native.Nat.{ℕ, suc, ◌+◌, ◌≤◌, ◌<◌}
use mathlib.Core.List.{List, [], ◌∷◌}
use mathlib.Core.Bool.{Bool, true, false, ◌&&◌}
use mathlib.Core.Path.{◌≡◌, refl, sym, ◌∙◌}
use mathlib.Core.Logic.{◌↔◌}
use native.Mathlib.Omega.{arith}
use lib.ListN.{length}
use lib.Dec.{ltb, eqb}
use borrow.Author.Tests.{ltb-true, ltb-false, lt-ltb, le-ltb}
use Rattle.base.specs.Pick.{pick}
use Rattle.base.specs.Part.{part}
use Rattle.base.proofs.Says.{Says, apart, says_eqb, says_false, says_and, says_or}
use Rattle.record.specs.Record.{Records, item, broken, ended, records, Fit}
use Rattle.record.specs.Kind.{kind_of}
use Rattle.record.specs.declared.kind.ValueType.{ValueType}
use Rattle.record.specs.declared.kind.Kind.{Kind}
use Rattle.record.specs.declared.kind.Kind.TheVariants.{Unknown, Scalar, Array}
use Rattle.table.specs.Table.{FreeOfFaults}
use Rattle.table.specs.Properties.{kinds_of}
use Rattle.instance.specs.declared.conform.InstanceRefusal.{InstanceRefusal}
use Rattle.instance.specs.declared.conform.InstanceFault.{InstanceFault}
use Rattle.instance.specs.declared.conform.InstanceFault.TheVariants.{TooLong, Nonconforming}
use Rattle.instance.specs.Body.{value_fits}
use Rattle.instance.specs.Conforms.{Slot, count, Elements, HasArray, HasKind, Lays, Conforms}
use Rattle.instance.specs.Fault.{Conformity, conforming, too_long, nonconforming, fault_at, is_null, slot_fits, elements_fit, array_fits, body_fits, record_fits, further_fault, fault_in, fault_under, conformity}
use Rattle.instance.proofs.Types.{says_value}

says_slot : {P : Type 0} (k kind : ℕ) (s : List ℕ) (rules : Bool) → Says rules P → Says (slot_fits k kind s rules) (Slot k kind s P)
says_slot k kind s rules p =
    says_or (is_null kind s) (eqb kind k && rules)
    (says_and (eqb kind 0) (eqb (length s) 0) (says_eqb kind 0) (says_eqb (length s) 0))
    (says_and (eqb kind k) rules (says_eqb kind k) p)

-- one element more, of which n have been seen and m are left after it
says_more : {P Q : Type 0} (n m : ℕ) (a r : Bool) → Says a P → (n + 1 ≤ 256 → Says r ((n + 1 + m ≤ 256) × Q))
    → Says (ltb n 256 && (a && r)) ((n + suc m ≤ 256) × (P × Q))
says_more {P} {Q} n m a r p q = go (ltb n 256) refl
  where
    go : (b : Bool) → ltb n 256 ≡ b → Says (b && (a && r)) ((n + suc m ≤ 256) × (P × Q))
    go true f =
        let l = ltb-true n 256 f in
        let all = says_and a r p (q (omega arith)) in
        record {
          to = λ g. let w = all.to g in (omega (arith, w.1.0), (w.0, w.1.1));
          from = λ w. all.from (w.1.0, (omega (arith, w.0), w.1.1));
        }
    go false f =
        let l = ltb-false n 256 f in
        record { to = λ g. absurd (apart g); from = λ w. absurd (omega (arith, w.0)) }

says_elements : (e : ℕ) (t : ValueType) (s : List ℕ) (rs : Records) (n : ℕ) → n ≤ 256 → Says (elements_fit e t s n rs) ((n + count rs ≤ 256) × Elements s e t rs)
unfolding elements_fit count Elements
says_elements e t s (item place kind start len rest) n h =
    says_more n (count rest) (slot_fits e kind (part s start len) (value_fits t (part s start len))) (elements_fit e t s (n + 1) rest)
    (says_slot e kind (part s start len) (value_fits t (part s start len)) (says_value t (part s start len)))
    (λ m. says_elements e t s rest (n + 1) m)
says_elements e t s (broken place) n h = record { to = λ g. absurd (apart g); from = λ w. absurd w.1 }
says_elements e t s ended n h = record { to = λ g. (omega arith, tt); from = λ w. refl }

says_array : (e : ℕ) (t : ValueType) (s : List ℕ) → Says (array_fits e t s) (HasArray e t s)
says_array e t s =
    let all = says_elements e t s (records s 0) 0 (omega arith) in
    record { to = λ g. let w = all.to g in (omega (arith, w.0), w.1); from = λ w. all.from (omega (arith, w.0), w.1) }

says_kind : (k : Kind) (s : List ℕ) → Says (body_fits k s) (HasKind k s)
says_kind Unknown s = says_false
says_kind (Scalar t) s = says_value t s
says_kind (Array e t) s = says_array e t s

-- the test of a property's record says what 01 says of it
pub says_record : (k kind : ℕ) (s : List ℕ) → Says (record_fits k kind s) (Slot k kind s (HasKind (kind_of k) s))
says_record k kind s = says_slot k kind s (body_fits (kind_of k) s) (says_kind (kind_of k) s)

-- an answer that finds no fault exactly where a fact holds
record Clears (c : Conformity) (P : Type 0) : Type 0 where
  to : c ≡ conforming → P
  from : P → c ≡ conforming

refused : (x : InstanceRefusal) → ◌≡◌ {A = Conformity} (Err x) conforming → ⊥
refused x e = let z : ◌≡◌ {A = ℕ} 0 1 = cc in omega arith

pub no_place : (p : ℕ) → fault_at p ≡ conforming → ⊥
no_place p e = refused (nonconforming p) e

clears_further : (rs : Records) → Clears (further_fault rs) (Fit rs)
unfolding further_fault Fit
clears_further (item place kind start len rest) = clears_further rest
clears_further (broken place) = record { to = no_place place; from = λ h. absurd h }
clears_further ended = record { to = λ e. tt; from = λ h. refl }

clears_pick : {P Q : Type 0} (b : Bool) (c : Conformity) (p : ℕ) → Says b P → Clears c Q → Clears (pick b c (fault_at p)) (P × Q)
clears_pick true c p x y = record { to = λ e. (x.to refl, y.to e); from = λ h. y.from h.1 }
clears_pick false c p x y = record { to = λ e. absurd (no_place p e); from = λ h. absurd (apart (x.from h.0)) }

clears_in : (i ks : List ℕ) (rs : Records) → Clears (fault_in i ks rs) (Lays i ks rs)
unfolding fault_in Lays
clears_in i [] rs = clears_further rs
clears_in i (k ∷ ks) (item place kind start len rest) =
    clears_pick (record_fits k kind (part i start len)) (fault_in i ks rest) place (says_record k kind (part i start len)) (clears_in i ks rest)
clears_in i (k ∷ ks) (broken place) = record { to = no_place place; from = λ h. absurd h }
clears_in i (k ∷ ks) ended = record { to = no_place (length i); from = λ h. absurd h }

-- under the kinds of a table's properties
no_fault_lays : (ks i : List ℕ) → fault_under ks i ≡ conforming → (length i ≤ 65535) × Lays i ks (records i 0)
unfolding fault_under
no_fault_lays ks i = go (ltb 65535 (length i)) refl
  where
    go : (b : Bool) → ltb 65535 (length i) ≡ b → pick b (Err too_long) (fault_in i ks (records i 0)) ≡ conforming
        → (length i ≤ 65535) × Lays i ks (records i 0)
    go true f e = absurd (let z : ◌≡◌ {A = ℕ} 0 1 = cc in omega arith)
    go false f e = (ltb-false 65535 (length i) f, (clears_in i ks (records i 0)).to e)

lays_no_fault : (ks i : List ℕ) → length i ≤ 65535 → Lays i ks (records i 0) → fault_under ks i ≡ conforming
unfolding fault_under
lays_no_fault ks i h l = rw (le-ltb 65535 (length i) h) ((clears_in i ks (records i 0)).from l)

-- no fault exactly where the instance conforms
pub no_fault_conforms : (t i : List ℕ) → FreeOfFaults t → conformity t i ≡ conforming → Conforms t i
no_fault_conforms t i f e = let w = no_fault_lays (kinds_of t) i e in record { free = f; short = w.0; lays = w.1 }

pub conforms_no_fault : (t i : List ℕ) → Conforms t i → conformity t i ≡ conforming
conforms_no_fault t i c = lays_no_fault (kinds_of t) i c.short c.lays

-- number 30 exactly where it is too long
abbrev pub long : InstanceFault → Type 0
long TooLong = Unit
long Nonconforming = ⊥

abbrev pub IsLong : Conformity → Type 0
IsLong (Ok all) = ⊥
IsLong (Err refusal) = long refusal.cause

-- number 31
abbrev pub wrong : InstanceFault → Type 0
wrong TooLong = ⊥
wrong Nonconforming = Unit

abbrev pub IsWrong : Conformity → Type 0
IsWrong (Ok all) = ⊥
IsWrong (Err refusal) = wrong refusal.cause

not_long : (b : Bool) (c : Conformity) (p : ℕ) → (IsLong c → ⊥) → IsLong (pick b c (fault_at p)) → ⊥
not_long true c p h e = h e
not_long false c p h e = e

never_long : (i ks : List ℕ) (rs : Records) → IsLong (fault_in i ks rs) → ⊥
unfolding fault_in further_fault
never_long i [] (item place kind start len rest) e = never_long i [] rest e
never_long i [] (broken place) e = e
never_long i [] ended e = e
never_long i (k ∷ ks) (item place kind start len rest) e = not_long (record_fits k kind (part i start len)) (fault_in i ks rest) place (never_long i ks rest) e
never_long i (k ∷ ks) (broken place) e = e
never_long i (k ∷ ks) ended e = e

pub long_exactly : (t i : List ℕ) → IsLong (conformity t i) ↔ (65535 < length i)
unfolding fault_under
long_exactly t i = (go (ltb 65535 (length i)) refl, λ h. rw (lt-ltb 65535 (length i) h) tt)
  where
    go : (b : Bool) → ltb 65535 (length i) ≡ b → IsLong (pick b (Err too_long) (fault_in i (kinds_of t) (records i 0))) → 65535 < length i
    go true f e = ltb-true 65535 (length i) f
    go false f e = absurd (never_long i (kinds_of t) (records i 0) e)

-- its place is 0
pub long_place : (t i : List ℕ) → 65535 < length i → conformity t i ≡ Err too_long
unfolding fault_under
long_place t i h = rw (lt-ltb 65535 (length i) h)

-- number 31 exactly where it isn't too long and doesn't conform
pub wrong_exactly : (t i : List ℕ) → FreeOfFaults t → IsWrong (conformity t i) ↔ ((length i ≤ 65535) × (Conforms t i → ⊥))
wrong_exactly t i free = (there (conformity t i) refl, λ h. back (conformity t i) refl h.0 h.1)
  where
    short : (IsLong (conformity t i) → ⊥) → length i ≤ 65535
    short n = small (ltb 65535 (length i)) refl
      where
        small : (b : Bool) → ltb 65535 (length i) ≡ b → length i ≤ 65535
        small true f = absurd (n ((long_exactly t i).1 (ltb-true 65535 (length i) f)))
        small false f = ltb-false 65535 (length i) f

    there : (c : Conformity) → conformity t i ≡ c → IsWrong c → (length i ≤ 65535) × (Conforms t i → ⊥)
    there (Ok all) e h = absurd h
    there (Err x) e h = (short (λ l. not_both x.cause h (rw e at l)), λ k. refused x (sym e ∙ conforms_no_fault t i k))
      where
        not_both : (f : InstanceFault) → wrong f → long f → ⊥
        not_both TooLong h l = h
        not_both Nonconforming h l = l

    back : (c : Conformity) → conformity t i ≡ c → length i ≤ 65535 → (Conforms t i → ⊥) → IsWrong c
    back (Ok all) e l n = absurd (n (no_fault_conforms t i free e))
    back (Err x) e l n = by_cause x.cause (λ h. let g = (long_exactly t i).0 (rw e h) in omega arith)
      where
        by_cause : (f : InstanceFault) → (long f → ⊥) → wrong f
        by_cause TooLong h = h tt
        by_cause Nonconforming h = tt
