-- Laws of single definitions of the layers below, which docs/ASSURANCE.md and docs/notes name: the code's proofs there go by other laws.
use Rattle.std.specs.Prelude.{Option as Optional, Some, None, Result, Ok, Err}
use Prim.Native.Nat.{ℕ, ◌≤◌, ◌<◌}
use mathlib.Core.List.{List}
use mathlib.Core.Bool.{Bool, true, false}
use mathlib.Core.Path.{◌≡◌, refl, sym, ap, ◌∙◌}
use lib.IntN.{pos}
use lib.Dec.{eqb}
use borrow.Author.Tests.{le-leb, lt-leb}
use Rattle.base.specs.Pick.{pick}
use Rattle.base.specs.Part.{same_bytes}
use Rattle.base.specs.declared.order.Order.TheVariants.{Undecided}
use Rattle.table.specs.Table.{Reading, table_reading}
use Rattle.instance.specs.Fault.{is_null, slot_fits}
use Rattle.literal.specs.declared.Literal.TheVariants as literal
use Rattle.syntax.specs.declared.fault.Fault.{Fault}
use Rattle.query_text.specs.Query.{Query, bad, good, query, verdict}
use Rattle.query_text.specs.Text.{text_verdict}
use Rattle.value.specs.declared.item.Sort.{Sort}
use Rattle.value.specs.declared.item.Sort.TheVariants.{Text, Octets, Reference}
use Rattle.value.specs.Compare.{equality, order_of_scalars}
use Rattle.value.specs.Item.{listed}
use Rattle.operand.specs.Index.{index_by}
use Rattle.filter.specs.Refusal.{call_text, call_query, call_under, call_of}
use Rattle.filter.specs.Check as check
use Rattle.filter.specs.Check.{check_call}
use Rattle.filter.specs.Answers.{check_query}
use Rattle.filter.specs.declared.refusal.Cause.TheVariants as cause
use Rattle.filter.specs.declared.refusal.Refusal.{Refusal}
use Rattle.filter.proofs.Laws.{taken_query}

-- indices
pub index_above : (n : ℕ) → 65535 < n → None ≡ index_by (Ok (literal.Integer (pos n)))
index_above n h = rw (lt-leb n 65535 h)

pub index_up_to : (n : ℕ) → n ≤ 65535 → Some n ≡ index_by (Ok (literal.Integer (pos n)))
index_up_to n h = rw (le-leb n 65535 h)

-- sequences of units: of one sort equal or undecided, of two undecided
abbrev pub sort_number : Sort → ℕ
sort_number Text = 0
sort_number Octets = 1
sort_number Reference = 2

abbrev pub same_sort : Sort → Sort → Bool
same_sort a b = eqb (sort_number a) (sort_number b)

pub listed_order : (s t : Sort) (us ws : List ℕ) → order_of_scalars (listed s us) (listed t ws) ≡ pick (same_sort s t) (equality (same_bytes us ws)) Undecided
unfolding order_of_scalars listed
listed_order Text Text us ws = refl
listed_order Text Octets us ws = refl
listed_order Text Reference us ws = refl
listed_order Octets Text us ws = refl
listed_order Octets Octets us ws = refl
listed_order Octets Reference us ws = refl
listed_order Reference Text us ws = refl
listed_order Reference Octets us ws = refl
listed_order Reference Reference us ws = refl

-- a record of kind 0 without a body may stand for any value
module _ (k kind : ℕ) (s : List ℕ) (rules : Bool) (x : Bool) (e : x ≡ is_null kind s) where
  pub slot_null : x ≡ true → true ≡ slot_fits k kind s rules
  slot_null h = rw (← e, h)

-- the check over the table's reading, and over the text's verdict
module _ (q t : List ℕ) where
  pub text_refused : {v : Result (Unit {0}) Fault} → v ≡ text_verdict q → (f : Fault) → v ≡ Err f
      → Err (record { cause = cause.Text f.cause; place = f.place }) ≡ check_call q t (call_text q (text_verdict q))
  text_refused ev f e = sym (ap (λ (x : Result (Unit {0}) Fault). check_call q t (call_text q x)) (sym ev ∙ e))

  refuses : (f : Fault) → verdict (bad f) ≡ Ok tt → ⊥
  unfolding verdict
  refuses f e = let z : ◌≡◌ {A = ℕ} 0 1 = cc in absurd (cc)

  checked : (r : Query) → verdict r ≡ Ok tt → check_query q t r ≡ check_call q t (call_query r)
  unfolding verdict
  checked (bad f) e = absurd (refuses f e)
  checked (good l) e = refl

  pub text_taken : {v : Result (Unit {0}) Fault} → v ≡ text_verdict q → v ≡ Ok tt → {x : Result (Unit {0}) Refusal} → x ≡ check_query q t (query q)
      → x ≡ check_call q t (call_text q (text_verdict q))
  text_taken ev e h =
      h ∙ checked (query q) (taken_query q t ev e) ∙ sym (ap (λ (x : Result (Unit {0}) Fault). check_call q t (call_text q x)) (sym ev ∙ e))

  module _ {r : Reading} (er : r ≡ table_reading t) where
    pub table_taken : (n : ℕ) → r ≡ Ok n → {x : Result (Unit {0}) Refusal} → x ≡ check_call q t (call_text q (text_verdict q)) → x ≡ check.check q t
    unfolding check.check call_of
    table_taken n e h = h ∙ sym (ap (λ (x : Reading). check_call q t (call_under q x)) (sym er ∙ e))
