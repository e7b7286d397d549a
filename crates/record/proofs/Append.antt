-- Bytes appended leave whole records as they are; the records of what is appended follow.
use Prim.Native.Nat.{ℕ, zero, suc, ◌+◌, ◌-◌, ◌≤◌, ◌<◌}
use mathlib.Core.List.{List, ◌++◌}
use mathlib.Core.Logic.{◌↔◌}
use mathlib.Core.Path.{◌≡◌, refl, sym, ap, ◌∙◌}
use native.Mathlib.Omega.{arith}
use lib.ListN.{length, take, drop, length-append, length-drop, take-append-drop}
use lib.Seq.{drop-append-le, take-append-le, length-take-le}
use Rattle.base.specs.Part.{part}
use Rattle.base.specs.LittleEndian.{unsigned}
use Rattle.record.specs.declared.read.RecordAt.{RecordAt}
use Rattle.record.specs.declared.read.RecordAt.TheVariants.{Whole, Broken, End}
use Rattle.record.specs.Record.{number_at, record_at, Records, item, broken, ended, records, Fit}
use Rattle.record.proofs.Records.{at_whole, View, ends, breaks, stands, view, WholeIn, whole_in_law, records_whole, records_broken, records_end}
use Rattle.record.proofs.Shift.{whole_same, shift, records_behind}

-- records that come to the end, and then others
unfoldable pub join : Records → Records → Records
join (item at kind start len rest) more = item at kind start len (join rest more)
join (broken at) more = broken at
join ended more = more

pub part_stays : (s t : List ℕ) (start len : ℕ) → start + len ≤ length s → part (s ++ t) start len ≡ part s start len
part_stays s t start len h =
    ap (take len) (drop-append-le start s t (omega arith)) ∙ take-append-le len (drop start s) t (simp length-drop (omega arith))

number_stays : (s t : List ℕ) (at : ℕ) → at + 2 ≤ length s → number_at (s ++ t) at ≡ number_at s at
number_stays s t at h = ap unsigned (part_stays s t at 2 h)

pub record_stays : (s t : List ℕ) (at kind start len next : ℕ) → record_at s at ≡ Whole kind start len next → record_at (s ++ t) at ≡ Whole kind start len next
record_stays s t at kind start len next e = go (view s at)
  where
    go : View s at → record_at (s ++ t) at ≡ Whole kind start len next
    go (ends h f) = absurd (let z : ◌≡◌ {A = ℕ} 0 1 = cc in omega arith)
    go (breaks h g f) = absurd (let z : ◌≡◌ {A = ℕ} 0 1 = cc in omega arith)
    go (stands h f) =
        let a = number_stays s t at (omega arith) in
        let b = number_stays s t (at + 2) (omega arith) in
        at_whole (s ++ t) at (omega (arith, length-append s t)) ∙ whole_same b refl a (omega arith) ∙ sym f ∙ e

-- and so do bytes that are taken away behind one
pub record_within : (s : List ℕ) (at kind start len next : ℕ) → record_at s at ≡ Whole kind start len next → record_at (take next s) at ≡ Whole kind start len next
record_within s at kind start len next e = go (view s at)
  where
    w : WholeIn (length s) at start len next
    w = whole_in_law s at kind start len next e

    kept : length (take next s) ≡ next
    kept = length-take-le next s w.within

    number : (p : ℕ) → p + 2 ≤ next → number_at (take next s) p ≡ number_at s p
    number p h = sym (number_stays (take next s) (drop next s) p (omega (arith, kept))) ∙ ap (λ (x : List ℕ). number_at x p) (take-append-drop next s)

    go : View s at → record_at (take next s) at ≡ Whole kind start len next
    go (ends h f) = absurd (let z : ◌≡◌ {A = ℕ} 0 1 = cc in omega arith)
    go (breaks h g f) = absurd (let z : ◌≡◌ {A = ℕ} 0 1 = cc in omega arith)
    go (stands h f) =
        let a = number at (omega (arith, w.begins, w.ends)) in
        let b = number (at + 2) (omega (arith, w.begins, w.ends)) in
        let l : number_at s at ≡ len = cc in
        at_whole (take next s) at (omega (arith, kept, w.begins, w.ends)) ∙ whole_same b refl a (omega arith) ∙ sym f ∙ e

append_step : (s t : List ℕ) (at : ℕ) → at ≤ length s
    → ((next : ℕ) → at < next → next ≤ length s → Fit (records s next) → records (s ++ t) next ≡ join (records s next) (shift (length s) (records t 0)))
    → (r : RecordAt) → record_at s at ≡ r → Fit (records s at) → records (s ++ t) at ≡ join (records s at) (shift (length s) (records t 0))
unfolding join Fit
append_step s t at l again (Whole kind start len next) e h =
    let w = whole_in_law s at kind start len next e in
    rw (records_whole (s ++ t) at kind start len next (record_stays s t at kind start len next e), records_whole s at kind start len next e)
    (ap (item at kind start len) (again next (omega arith) (omega arith) (rw (records_whole s at kind start len next e) at h)))
append_step s t at l again Broken e h = absurd (rw (records_broken s at e) at h)
append_step s t at l again End e h = rw (records_end s at e) (ended_at (view s at))
  where
    ended_at : View s at → records (s ++ t) at ≡ shift (length s) (records t 0)
    ended_at (ends g f) = let q : at ≡ length s = omega arith in rw q (records_behind s t)
    ended_at (breaks g i f) = absurd (let z : ◌≡◌ {A = ℕ} 0 1 = cc in omega arith)
    ended_at (stands g f) = absurd (let z : ◌≡◌ {A = ℕ} 0 1 = cc in omega arith)

appended : (s t : List ℕ) (f at : ℕ) → length s - at < f → at ≤ length s → Fit (records s at)
    → records (s ++ t) at ≡ join (records s at) (shift (length s) (records t 0))
appended s t zero at h l g = absurd (omega arith)
appended s t (suc f) at h l g = append_step s t at l (λ next a b k. appended s t f next (omega arith) b k) (record_at s at) refl g

pub records_append : (s t : List ℕ) → Fit (records s 0) → records (s ++ t) 0 ≡ join (records s 0) (shift (length s) (records t 0))
records_append s t = appended s t (suc (length s)) 0 (omega arith) (omega arith)

-- further on, records fit as they do where they are
pub fit_shift : (n : ℕ) (rs : Records) → Fit (shift n rs) ↔ Fit rs
unfolding Fit shift
fit_shift n (item at kind start len rest) = fit_shift n rest
fit_shift n (broken at) = (λ h. h, λ h. h)
fit_shift n ended = (λ h. h, λ h. h)

pub fit_join : (rs more : Records) → Fit rs → Fit more → Fit (join rs more)
unfolding Fit join
fit_join (item at kind start len rest) more h g = fit_join rest more h g
fit_join (broken at) more h g = h
fit_join ended more h g = g

-- every body lies within the bytes
unfoldable pub Inside : ℕ → Records → Type 0
Inside n (item at kind start len rest) = (start + len ≤ n) × Inside n rest
Inside n (broken at) = Unit
Inside n ended = Unit

inside_step : (s : List ℕ) (at : ℕ) → ((next : ℕ) → at < next → next ≤ length s → Inside (length s) (records s next))
    → (r : RecordAt) → record_at s at ≡ r → Inside (length s) (records s at)
unfolding Inside
inside_step s at again (Whole kind start len next) e =
    let w = whole_in_law s at kind start len next e in
    rw (records_whole s at kind start len next e) (omega arith, again next (omega arith) (omega arith))
inside_step s at again Broken e = rw (records_broken s at e) tt
inside_step s at again End e = rw (records_end s at e) tt

inside_from : (s : List ℕ) (f at : ℕ) → length s - at < f → Inside (length s) (records s at)
inside_from s zero at h = absurd (omega arith)
inside_from s (suc f) at h = inside_step s at (λ next a b. inside_from s f next (omega arith)) (record_at s at) refl

pub inside : (s : List ℕ) (at : ℕ) → Inside (length s) (records s at)
inside s at = inside_from s (suc (length s - at)) at (omega arith)
