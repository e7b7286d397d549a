-- One law for each way out of the functions of src/.
use Rattle.std.specs.Prelude.{Ok, Err}
use Prim.Native.Nat.{ℕ, zero, suc, ◌+◌, ◌-◌, ◌≤◌, ◌<◌}
use mathlib.Core.List.{List}
use mathlib.Core.Bool.{Bool, true, false, not}
use mathlib.Core.Path.{◌≡◌, refl, sym, ap, ◌∙◌}
use native.Mathlib.Omega.{arith}
use native.Mathlib.Numerals.{add-one}
use lib.ListN.{length}
use lib.Dec.{eqb}
use borrow.Author.Tests.{lt-ltb, le-ltb, not-true, not-false}
use Rattle.base.specs.Pick.{pick}
use Rattle.base.specs.Part.{part}
use Rattle.base.proofs.Says.{apart}
use Rattle.record.specs.Record.{record_at, Records, item, broken, ended, records}
use Rattle.record.specs.declared.read.RecordAt.{RecordAt}
use Rattle.record.specs.declared.read.RecordAt.TheVariants.{Whole, Broken, End}
use Rattle.record.specs.declared.kind.Family.{Family}
use Rattle.record.specs.declared.kind.Family.TheVariants.{Boolean, Integer, Real, Text, Char16, Octets, Datetime, Reference}
use Rattle.record.specs.declared.kind.ValueType.{ValueType}
use Rattle.datetime.specs.Text.{has_colon}
use Rattle.datetime.specs.Unknown.{known}
use Rattle.datetime.specs.Datetime.{says_datetime, span_to, sorted, datetime_of}
use Rattle.datetime.specs.declared.Span.{Span}
use Rattle.datetime.specs.declared.Datetime.TheVariants.{Malformed}
use Rattle.instance.specs.Body.{is_datetime, datetime_fits, is_numeric, family_fits, value_fits}
use Rattle.instance.specs.Fault.{Conformity, conforming, too_long, nonconforming, fault_at, slot_fits, elements_fit, record_fits, further_fault, fault_in, fault_under, step_at}
use Rattle.instance.specs.Start.{next_at, start_of}

-- a datetime
pub datetime_fits_law : (s : List ℕ) {r : Bool} → r ≡ says_datetime s → r ≡ datetime_fits s
unfolding datetime_fits datetime_of
datetime_fits_law s e = e ∙ go (says_datetime s) (has_colon s) (span_to (known s) s)
  where
    go : (says colon : Bool) (x : Span) → says ≡ is_datetime (pick says (sorted colon x) Malformed)
    go true true x = refl
    go true false x = refl
    go false colon x = refl

-- a numeric body by its length
numeric_width : (f : Family) (width : ℕ) (s : List ℕ) → is_numeric f ≡ true → eqb (length s) width ≡ family_fits f width s
numeric_width Boolean width s e = absurd (apart e)
numeric_width Integer width s e = refl
numeric_width Real width s e = refl
numeric_width Text width s e = absurd (apart e)
numeric_width Char16 width s e = absurd (apart e)
numeric_width Octets width s e = absurd (apart e)
numeric_width Datetime width s e = absurd (apart e)
numeric_width Reference width s e = absurd (apart e)

pub numeric_fits : (t : ValueType) (s : List ℕ) {r : Bool} → r ≡ is_numeric t.family → r ≡ true → eqb (length s) t.width ≡ value_fits t s
numeric_fits t s e h = numeric_width t.family t.width s (sym e ∙ h)

-- the elements of an array
module _ (s : List ℕ) (k : ℕ) (t : ValueType) (n : ℕ) (w : Bool) (rs : Records) (inv : w ≡ elements_fit k t s n rs) where
  pub elements_broken : (place : ℕ) → rs ≡ broken place → false ≡ w
  unfolding elements_fit
  elements_broken place f = sym (inv ∙ rw f)

  pub elements_end : rs ≡ ended → true ≡ w
  unfolding elements_fit
  elements_end f = sym (inv ∙ rw f)

  module _ (place kind start len : ℕ) (rest : Records) (f : rs ≡ item place kind start len rest) where
    pub elements_many : 256 ≤ n → false ≡ w
    unfolding elements_fit
    elements_many h = sym (inv ∙ rw (f, le-ltb _ _ h))

    module _ (h : n < 256) (b : List ℕ) (g : b ≡ part s start len) (x : Bool) (y : x ≡ slot_fits k kind b (value_fits t b)) where
      told : x ≡ slot_fits k kind (part s start len) (value_fits t (part s start len))
      told = y ∙ rw g

      pub elements_bad : not x ≡ true → false ≡ w
      unfolding elements_fit
      elements_bad z = sym (inv ∙ rw (f, lt-ltb _ _ h, ← told, not-true x z))

      pub elements_next : not x ≡ false → w ≡ elements_fit k t s (n + 1) rest
      unfolding elements_fit
      elements_next z = inv ∙ rw (f, lt-ltb _ _ h, ← told, not-false x z)

-- the record that should start at a place
module _ (s : List ℕ) (at k : ℕ) (r : RecordAt) (e : r ≡ record_at s at) where
  pub step_broken : r ≡ Broken → Err (nonconforming at) ≡ step_at s at k
  unfolding step_at
  step_broken f = rw (← e, f)

  pub step_end : r ≡ End → Err (nonconforming (length s)) ≡ step_at s at k
  unfolding step_at
  step_end f = rw (← e, f)

  module _ (kind start len next : ℕ) (f : r ≡ Whole kind start len next) (b : List ℕ) (g : b ≡ part s start len) (x : Bool) (y : x ≡ record_fits k kind b) where
    judged : x ≡ record_fits k kind (part s start len)
    judged = y ∙ rw g

    pub step_next : x ≡ true → Ok next ≡ step_at s at k
    unfolding step_at
    step_next z = rw (← e, f, ← judged, z)

    pub step_wrong : x ≡ false → Err (nonconforming at) ≡ step_at s at k
    unfolding step_at
    step_wrong z = rw (← e, f, ← judged, z)

-- further records
module _ (w : Conformity) (rs : Records) (inv : w ≡ further_fault rs) where
  pub further_broken : (place : ℕ) → rs ≡ broken place → fault_at place ≡ w
  unfolding further_fault
  further_broken place f = sym (inv ∙ rw f)

  pub further_end : rs ≡ ended → conforming ≡ w
  unfolding further_fault
  further_end f = sym (inv ∙ rw f)

  pub further_next : (place kind start len : ℕ) (rest : Records) → rs ≡ item place kind start len rest → w ≡ further_fault rest
  unfolding further_fault
  further_next place kind start len rest f = inv ∙ rw f

-- the whole instance
module _ (ks i : List ℕ) where
  pub fault_long : 65535 < length i → Err too_long ≡ fault_under ks i
  unfolding fault_under
  fault_long h = rw (lt-ltb 65535 (length i) h)

  pub fault_short : length i ≤ 65535 → (x : Conformity) → x ≡ fault_in i ks (records i 0) → x ≡ fault_under ks i
  unfolding fault_under
  fault_short h x e = e ∙ rw (le-ltb 65535 (length i) h)

-- the next record's start
module _ (s : List ℕ) (at : ℕ) (r : RecordAt) (e : r ≡ record_at s at) where
  pub next_whole : (kind start len next : ℕ) → r ≡ Whole kind start len next → next ≡ next_at s at
  next_whole kind start len next f = rw (← e, f)

  pub next_broken : r ≡ Broken → at ≡ next_at s at
  next_broken f = rw (← e, f)

  pub next_end : r ≡ End → at ≡ next_at s at
  next_end f = rw (← e, f)

pub start_next : (i : List ℕ) (n at : ℕ) → at ≡ start_of i n → (y : ℕ) → y ≡ next_at i at → y ≡ start_of i (n + 1)
unfolding start_of
start_next i n at h y g = g ∙ rw (h, add-one, start_of)

pub start_end : (i : List ℕ) (n number at : ℕ) → at ≡ start_of i n → n ≤ number → number ≤ n → at ≡ start_of i number
start_end i n number at h l m = let e : n ≡ number = omega arith in h ∙ ap (start_of i) e

-- at the end nothing more follows
start_stops : (i : List ℕ) (n more at : ℕ) → at ≡ start_of i n → at ≡ next_at i at → at ≡ start_of i (more + n)
unfolding start_of
start_stops i n zero at h g = let e : n ≡ 0 + n = omega arith in h ∙ ap (start_of i) e
start_stops i n (suc more) at h g =
    let e : suc (more + n) ≡ suc more + n = omega arith in
    g ∙ ap (next_at i) (start_stops i n more at h g) ∙ ap (start_of i) e

pub start_past : (i : List ℕ) (n number at : ℕ) → at ≡ start_of i n → n < number → (y : ℕ) → y ≡ next_at i at → y ≡ at → at ≡ start_of i number
start_past i n number at h l y g f =
    let e : number - n + n ≡ number = omega arith in
    start_stops i n (number - n) at h (sym f ∙ g) ∙ ap (start_of i) e
