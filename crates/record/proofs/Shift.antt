-- The records of a slice behind other bytes are the same records, further on.
use Prim.Native.Nat.{ℕ, zero, suc, ◌+◌, ◌-◌, ◌≤◌, ◌<◌}
use mathlib.Core.List.{List, ◌++◌}
use mathlib.Core.Path.{◌≡◌, refl, sym, ap, ◌∙◌}
use native.Mathlib.Omega.{arith}
use native.Mathlib.Nat.{add_assoc, add-zero}
use lib.ListN.{length, take, length-append}
use lib.Seq.{drop-append-add}
use Rattle.base.specs.Part.{part}
use Rattle.base.specs.LittleEndian.{unsigned}
use Rattle.record.specs.declared.read.RecordAt.{RecordAt}
use Rattle.record.specs.declared.read.RecordAt.TheVariants.{Whole, Broken, End}
use Rattle.record.specs.Record.{number_at, record_at, Records, item, broken, ended, records}
use Rattle.record.proofs.Records.{at_end_law, at_broken, at_whole, View, ends, breaks, stands, view, whole_in_law, records_whole, records_broken, records_end}

-- the same, n bytes further on
abbrev pub moved : ℕ → RecordAt → RecordAt
moved n (Whole kind start len next) = Whole kind (n + start) len (n + next)
moved n Broken = Broken
moved n End = End

unfoldable pub shift : ℕ → Records → Records
shift n (item at kind start len rest) = item (n + at) kind (n + start) len (shift n rest)
shift n (broken at) = broken (n + at)
shift n ended = ended

pub part_behind : (p s : List ℕ) (start len : ℕ) → part (p ++ s) (length p + start) len ≡ part s start len
part_behind p s start len = ap (take len) (drop-append-add p s start)

number_behind : (p s : List ℕ) (at : ℕ) → number_at (p ++ s) (length p + at) ≡ number_at s at
number_behind p s at = ap unsigned (part_behind p s at 2)

pub whole_same : {k k' a a' l l' n n' : ℕ} → k ≡ k' → a ≡ a' → l ≡ l' → n ≡ n' → Whole k a l n ≡ Whole k' a' l' n'
whole_same p q r s = cc

pub record_behind : (p s : List ℕ) (at : ℕ) → record_at (p ++ s) (length p + at) ≡ moved (length p) (record_at s at)
record_behind p s at = go (view s at)
  where
    go : View s at → record_at (p ++ s) (length p + at) ≡ moved (length p) (record_at s at)
    go (ends h e) = rw e (at_end_law (p ++ s) (length p + at) (omega (arith, length-append p s)))
    go (breaks h g e) =
        rw e (at_broken (p ++ s) (length p + at) (omega (arith, length-append p s)) (omega (arith, length-append p s, number_behind p s at)))
    go (stands h e) =
        rw e
        (at_whole (p ++ s) (length p + at) (omega (arith, length-append p s, number_behind p s at))
        ∙ whole_same (rw (add_assoc (length p) at 2) (number_behind p s (at + 2))) (omega arith) (number_behind p s at) (omega (arith, number_behind p s at)))

behind_step : (p s : List ℕ) (at : ℕ)
    → ((next : ℕ) → at < next → next ≤ length s → records (p ++ s) (length p + next) ≡ shift (length p) (records s next))
    → (r : RecordAt) → record_at s at ≡ r → records (p ++ s) (length p + at) ≡ shift (length p) (records s at)
unfolding shift
behind_step p s at again (Whole kind start len next) e =
    let w = whole_in_law s at kind start len next e in
    rw (records_whole (p ++ s) (length p + at) kind (length p + start) len (length p + next) (record_behind p s at ∙ rw e), records_whole s at kind start len next e)
    (ap (item (length p + at) kind (length p + start) len) (again next (omega arith) (omega arith)))
behind_step p s at again Broken e = rw (records_broken (p ++ s) (length p + at) (record_behind p s at ∙ rw e), records_broken s at e)
behind_step p s at again End e = rw (records_end (p ++ s) (length p + at) (record_behind p s at ∙ rw e), records_end s at e)

behind : (p s : List ℕ) (f at : ℕ) → length s - at < f → records (p ++ s) (length p + at) ≡ shift (length p) (records s at)
behind p s zero at h = absurd (omega arith)
behind p s (suc f) at h = behind_step p s at (λ next a b. behind p s f next (omega arith)) (record_at s at) refl

pub records_behind : (p s : List ℕ) → records (p ++ s) (length p) ≡ shift (length p) (records s 0)
records_behind p s = ap (records (p ++ s)) (sym (add-zero (length p))) ∙ behind p s (suc (length s)) 0 (omega arith)

-- a first record, and those behind it
pub records_first : {kind start len : ℕ} (w s : List ℕ) → record_at (w ++ s) 0 ≡ Whole kind start len (length w)
    → records (w ++ s) 0 ≡ item 0 kind start len (shift (length w) (records s 0))
records_first {kind} {start} {len} w s e = records_whole (w ++ s) 0 kind start len (length w) e ∙ ap (item 0 kind start len) (records_behind w s)
