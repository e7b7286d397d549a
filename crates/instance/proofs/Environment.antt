-- Conformance and the environment: each property of an instance that conforms has its record; records appended change no value; what is written reads back.
use Prim.Native.Nat.{ℕ, zero, suc, ◌+◌, ◌≤◌, ◌<◌}
use mathlib.Core.List.{List, [], ◌∷◌, ◌++◌}
use mathlib.Core.Bool.{Bool, true, false}
use mathlib.Core.Option.{Option, none, some}
use mathlib.Core.Path.{◌≡◌, refl, ap, ◌∙◌}
use native.Mathlib.Omega.{arith}
use lib.ListN.{length, get_or, get_elem?, drop}
use lib.Seq.{drop-cons}
use lib.Dec.{ltb, eqb}
use borrow.Author.Tests.{ltb-true, ltb-false}
use Rattle.base.specs.Pick.{pick}
use Rattle.base.specs.Part.{part}
use Rattle.record.specs.Record.{record_at, records}
use Rattle.record.specs.Kind.{kind_of}
use Rattle.record.specs.Write.{write}
use Rattle.record.specs.declared.read.RecordAt.{RecordAt}
use Rattle.record.specs.declared.read.RecordAt.TheVariants.{Whole, Broken, End}
use Rattle.record.proofs.Records.{whole_in_law, records_whole, records_broken, records_end}
use Rattle.record.proofs.Shift.{moved, part_behind, record_behind}
use Rattle.record.proofs.Append.{part_stays, record_stays}
use Rattle.record.proofs.Written.{read_first, read_body}
use Rattle.table.specs.Properties.{kinds_of, found, find_property}
use Rattle.table.proofs.Find.{found_at}
use Rattle.instance.specs.Conforms.{Slot, HasKind, Lays, Conforms}
use Rattle.instance.specs.Start.{next_of, next_at, start_of}
use Rattle.instance.specs.Value.{null, property, body_value, value_in, value_at, entry_at, environment_under, environment}
use Rattle.instance.proofs.Built.{nulls}

-- the record of property n: it is there, and keeps the rules of the property's kind
pub record RecordOf (ks i : List ℕ) (n : ℕ) : Type 0 where
  pub kind : ℕ
  pub start : ℕ
  pub len : ℕ
  pub next : ℕ
  pub is : record_at i (start_of i n) ≡ Whole kind start len next
  pub keeps : Slot (get_or ks n 0) kind (part i start len) (HasKind (kind_of (get_or ks n 0)) (part i start len))
  pub rest : Lays i (drop (suc n) ks) (records i next)

record_step : (ks i : List ℕ) (n : ℕ) → n < length ks → Lays i (drop n ks) (records i (start_of i n)) → (r : RecordAt) → record_at i (start_of i n) ≡ r → RecordOf ks i n
unfolding Lays
record_step ks i n h l (Whole kind start len next) e =
    let m = rw (drop-cons ks n 0 h, records_whole i (start_of i n) kind start len next e) at l in
    record { kind = kind; start = start; len = len; next = next; is = e; keeps = m.0; rest = m.1 }
record_step ks i n h l Broken e = absurd (rw (drop-cons ks n 0 h, records_broken i (start_of i n) e) at l)
record_step ks i n h l End e = absurd (rw (drop-cons ks n 0 h, records_end i (start_of i n) e) at l)

lays_at : (ks i : List ℕ) → Lays i ks (records i 0) → (n : ℕ) → n ≤ length ks → Lays i (drop n ks) (records i (start_of i n))
unfolding start_of
lays_at ks i l zero h = l
lays_at ks i l (suc n) h =
    let r = record_step ks i n (omega arith) (lays_at ks i l n (omega arith)) (record_at i (start_of i n)) refl in
    rw r.is r.rest

pub record_of : (t i : List ℕ) → Conforms t i → (n : ℕ) → n < length (kinds_of t) → RecordOf (kinds_of t) i n
record_of t i c n h = record_step (kinds_of t) i n h (lays_at (kinds_of t) i c.lays n (omega arith)) (record_at i (start_of i n)) refl

-- the kind of a property by its number
pub some_at : (ks : List ℕ) (n : ℕ) → n < length ks → get_elem? ks n ≡ some (get_or ks n 0)
some_at [] n h = absurd (omega arith)
some_at (k ∷ ks) zero h = refl
some_at (k ∷ ks) (suc n) h = some_at ks n (omega arith)

pub none_at : (ks : List ℕ) (n : ℕ) → length ks ≤ n → get_elem? ks n ≡ none
none_at [] n h = refl
none_at (k ∷ ks) zero h = absurd (omega arith)
none_at (k ∷ ks) (suc n) h = none_at ks n (omega arith)

-- the entry of a property, by its kind; and of what looking up a name finds
pub entry_of : (t i : List ℕ) (n k : ℕ) → get_elem? (kinds_of t) n ≡ some k → environment t i n ≡ property k (value_at k i (start_of i n))
unfolding environment_under
entry_of t i n k e = rw e

pub entry_found_law : (t i name : List ℕ) (n k : ℕ) → find_property t name ≡ found n k → environment t i n ≡ property k (value_at k i (start_of i n))
entry_found_law t i name n k e = entry_of t i n k (found_at t name n k e).kind

-- records appended change no start and no value
pub start_stays : (t i more : List ℕ) → Conforms t i → (n : ℕ) → n ≤ length (kinds_of t) → start_of (i ++ more) n ≡ start_of i n
unfolding start_of
start_stays t i more c zero h = refl
start_stays t i more c (suc n) h =
    let r = record_of t i c n (omega arith) in
    rw (start_stays t i more c n (omega arith), r.is, record_stays i more (start_of i n) r.kind r.start r.len r.next r.is)

pub environment_stays : (t i more : List ℕ) → Conforms t i → (n : ℕ) → environment t (i ++ more) n ≡ environment t i n
unfolding environment_under value_at
environment_stays t i more c n = go (ltb n (length (kinds_of t))) refl
  where
    go : (b : Bool) → ltb n (length (kinds_of t)) ≡ b
        → entry_at (get_elem? (kinds_of t) n) (i ++ more) (start_of (i ++ more) n) ≡ entry_at (get_elem? (kinds_of t) n) i (start_of i n)
    go true e =
        let h = ltb-true n (length (kinds_of t)) e in
        let r = record_of t i c n h in
        let w = whole_in_law i (start_of i n) r.kind r.start r.len r.next r.is in
        rw (
          some_at (kinds_of t) n h,
          start_stays t i more c n (omega arith),
          r.is,
          record_stays i more (start_of i n) r.kind r.start r.len r.next r.is,
          part_stays i more r.start r.len (omega arith),
        )
    go false e = rw (none_at (kinds_of t) n (ltb-false n (length (kinds_of t)) e))

-- what is written reads back
next_behind : (p s : List ℕ) (at : ℕ) → next_at (p ++ s) (length p + at) ≡ length p + next_at s at
next_behind p s at = rw (record_behind p s at) (go (record_at s at))
  where
    go : (r : RecordAt) → next_of (length p + at) (moved (length p) r) ≡ length p + next_of at r
    go (Whole kind start len next) = refl
    go Broken = refl
    go End = refl

value_behind : (k : ℕ) (p s : List ℕ) (at : ℕ) → value_at k (p ++ s) (length p + at) ≡ value_at k s at
unfolding value_at
value_behind k p s at = rw (record_behind p s at) (go (record_at s at))
  where
    go : (r : RecordAt) → value_in k (p ++ s) (moved (length p) r) ≡ value_in k s r
    go (Whole kind start len next) = rw (part_behind p s start len)
    go Broken = refl
    go End = refl

-- the starts behind a first record
pub start_behind : {kind start len : ℕ} (w s : List ℕ) → record_at (w ++ s) 0 ≡ Whole kind start len (length w) → (n : ℕ) → start_of (w ++ s) (suc n) ≡ length w + start_of s n
unfolding start_of
start_behind w s e zero = rw e (omega arith)
start_behind w s e (suc n) = rw (start_behind w s e n) (next_behind w s (start_of s n))

module _ (kind : ℕ) (b s : List ℕ) (fits : kind < 65536) (short : length b < 65536) where
  -- the first property is what was written
  pub written_first : (k : ℕ) (ks : List ℕ) → environment_under (k ∷ ks) (write kind b ++ s) 0 ≡ property k (pick (eqb kind 0) null (body_value (kind_of k) b))
  unfolding environment_under start_of value_at
  written_first k ks = rw (read_first kind b s fits short, read_body kind b s fits short)

  -- and the others are those of what follows
  pub written_next : (k : ℕ) (ks : List ℕ) (n : ℕ) → environment_under (k ∷ ks) (write kind b ++ s) (suc n) ≡ environment_under ks s n
  unfolding environment_under
  written_next k ks n = rw (start_behind (write kind b) s (read_first kind b s fits short) n) (go (get_elem? ks n))
    where
      go : (o : Option ℕ) → entry_at o (write kind b ++ s) (length (write kind b) + start_of s n) ≡ entry_at o s (start_of s n)
      go none = refl
      go (some j) = ap (property j) (value_behind j (write kind b) s (start_of s n))

-- in the instance of NULLs each property is NULL
pub nulls_null : (ks : List ℕ) (n : ℕ) → n < length ks → environment_under ks (nulls (length ks)) n ≡ property (get_or ks n 0) null
unfolding nulls
nulls_null [] n h = absurd (omega arith)
nulls_null (k ∷ ks) zero h = written_first 0 [] (nulls (length ks)) (omega arith) (omega arith) k ks
nulls_null (k ∷ ks) (suc n) h = written_next 0 [] (nulls (length ks)) (omega arith) (omega arith) k ks n ∙ nulls_null ks n (omega arith)
