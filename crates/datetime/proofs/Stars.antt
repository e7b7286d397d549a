-- One law for each exit of the functions that find the unknown digits and fill them in.
use Prim.Native.Nat.{ℕ, suc, ◌+◌, ◌-◌, ◌≤◌, ◌<◌}
use mathlib.Core.Path.{◌≡◌, refl, sym, ap, ◌∙◌}
use mathlib.Core.Bool.{Bool, true, false, not, ◌&&◌, or-false}
use mathlib.Core.List.{List, [], ◌∷◌, ◌++◌, append-nil, append_assoc}
use native.Mathlib.Omega.{arith}
use lib.ListN.{length, take, drop, length-drop, take-append-drop}
use lib.Seq.{drop-drop, length-take-le, sets, sets-eq, take_all, drop-length}
use lib.Dec.{leb, eqb, eqb→eq}
use borrow.Author.Tests.{eq-eqb, ne_eqb}
use Rattle.base.specs.Pick.{pick}
use Rattle.base.specs.Ascii.{bytes}
use Rattle.base.specs.Part.{part, byte_at, same_bytes}
use Rattle.std.proofs.Common.{nat_eq}
use lib.Pointwise.{pointwise}
use Rattle.base.proofs.Tabulate.{all_at}
use Rattle.text_writer.specs.Decimal.{decimal}
use Rattle.text_writer.specs.Written.{Written}
use Rattle.datetime.specs.Calendar.{leap_year, days_in_month}
use Rattle.datetime.specs.Text.{date_in, sign_in}
use Rattle.datetime.specs.Unknown.{star_from, known, filled, tailed, may_start, lowest_digits, lowest_text}
use Rattle.datetime.specs.declared.fields.Date.{Date}

-- the first star
module _ {b : ℕ} (s : List ℕ) (i : ℕ) (inv : known s ≡ star_from s i (21 - i)) (here : i < 21) (e : b ≡ byte_at s i) where
  pub star_found : b ≡ 42 → i ≡ known s
  unfolding star_from
  star_found h =
      let z : 21 - i ≡ suc (20 - i) = omega arith in
      sym (inv ∙ rw (z, eq-eqb _ _ (sym e ∙ h)) refl)

  pub star_later : (b ≡ 42 → ⊥) → known s ≡ star_from s (i + 1) (21 - (i + 1))
  unfolding star_from
  star_later h =
      let z : 21 - i ≡ suc (21 - (i + 1)) = omega arith in
      inv ∙ rw (z, ne_eqb _ _ (λ f. h (e ∙ f))) refl

pub star_none : (s : List ℕ) (i : ℕ) → known s ≡ star_from s i (21 - i) → i ≤ 21 → 21 ≤ i → 21 ≡ known s
unfolding star_from
star_none s i inv h l = let z : 21 - i ≡ 0 = omega arith in let e : i ≡ 21 = omega arith in sym (inv ∙ rw (z, e) refl)

-- the tail: the text is as it would be filled in with stars where its bytes from `k` up to the sign are those
abbrev pub stars : List ℕ
stars = bytes "**************.******"

pub star_at : (i : ℕ) → i < 21 → byte_at stars i ≡ pick (eqb i 14) 46 42
star_at i h = eqb→eq _ _ (all_at (λ (k : ℕ). eqb (byte_at stars k) (pick (eqb k 14) 46 42)) 21 tt i h)

same_itself : (l : List ℕ) → same_bytes l l ≡ true
unfolding same_bytes
same_itself [] = refl
same_itself (x ∷ l) = rw (eq-eqb x x refl) (same_itself l)

same_behind : (front a b : List ℕ) → same_bytes (front ++ a) (front ++ b) ≡ same_bytes a b
unfolding same_bytes
same_behind [] a b = refl
same_behind (x ∷ front) a b = rw (eq-eqb x x refl) (same_behind front a b)

same_before : (a b rest : List ℕ) → length a ≡ length b → same_bytes (a ++ rest) (b ++ rest) ≡ same_bytes a b
unfolding same_bytes
same_before [] [] rest h = same_itself rest
same_before [] (y ∷ b) rest h = absurd (omega arith)
same_before (x ∷ a) [] rest h = absurd (omega arith)
same_before (x ∷ a) (y ∷ b) rest h = rw (same_before a b rest (omega arith)) refl

same_listed : (a b : List ℕ) → pointwise nat_eq a b ≡ same_bytes a b
unfolding same_bytes
same_listed [] [] = refl
same_listed [] (y ∷ b) = refl
same_listed (x ∷ a) [] = refl
same_listed (x ∷ a) (y ∷ b) = go (eqb x y) (same_listed a b)
  where
    go : (t : Bool) → pointwise nat_eq a b ≡ same_bytes a b → (t && pointwise nat_eq a b) ≡ pick t (same_bytes a b) false
    go true e = e
    go false e = refl

pub tail_told : {r : Bool} (s : List ℕ) (k : ℕ) → k ≤ 21 → length s ≡ 25 → r ≡ pointwise nat_eq (take (21 - k) (drop k stars)) (take (21 - k) (drop k s)) → r ≡ tailed k s
unfolding filled
tail_told s k few long told =
    let middle = take (21 - k) (drop k s) in
    let left : length (drop k s) ≡ 25 - k = rw (length-drop, long) in
    let starred : length (drop k stars) ≡ 21 - k = length-drop k stars in
    let whole : take (21 - k) (drop k stars) ≡ drop k stars = take_all (21 - k) (drop k stars) (omega arith) in
    let long_middle : length middle ≡ 21 - k = length-take-le (21 - k) (drop k s) (omega arith) in
    let all : k + (21 - k) ≡ 21 = omega arith in
    let rest : middle ++ drop 21 s ≡ drop k s = ap (λ (l : List ℕ). middle ++ l) (sym (drop-drop (21 - k) k s ∙ ap (λ (n : ℕ). drop n s) all)) ∙ take-append-drop (21 - k) (drop k s) in
    told
    ∙ ap (λ (l : List ℕ). pointwise nat_eq l middle) whole
    ∙ same_listed (drop k stars) middle
    ∙ sym (same_before (drop k stars) middle (drop 21 s) (starred ∙ sym long_middle))
    ∙ sym (same_behind (take k s) (drop k stars ++ drop 21 s) (middle ++ drop 21 s))
    ∙ ap (same_bytes (take k s ++ (drop k stars ++ drop 21 s))) (ap (λ (l : List ℕ). take k s ++ l) rest ∙ take-append-drop k s)

-- where a tail may start
module _ {k : ℕ} (interval : Bool) (n : ℕ) (is : k ≡ n) where
  pub starts_either : may_start true n ≡ true → may_start false n ≡ true → true ≡ may_start interval k
  starts_either t f = go interval
    where
      go : (b : Bool) → true ≡ may_start b k
      go true = rw (is, t)
      go false = rw (is, f)

  pub starts_timestamp : may_start true n ≡ false → may_start false n ≡ true → not interval ≡ may_start interval k
  starts_timestamp t f = go interval
    where
      go : (b : Bool) → not b ≡ may_start b k
      go true = rw (is, t)
      go false = rw (is, f)

abbrev pub NoField : ℕ → Type 0
NoField k = (((((Unit × (k ≡ 0 → ⊥)) × (k ≡ 4 → ⊥)) × (k ≡ 6 → ⊥)) × (k ≡ 8 → ⊥)) × (k ≡ 10 → ⊥)) × (k ≡ 12 → ⊥)

pub starts_digit : (interval : Bool) (k : ℕ) → NoField k → leb 15 k ≡ may_start interval k
starts_digit interval k h = go interval
  where
    go : (b : Bool) → leb 15 k ≡ may_start b k
    go true = rw (ne_eqb k 0 h.0.0.0.0.0.1, ne_eqb k 8 h.0.0.1, ne_eqb k 10 h.0.1, ne_eqb k 12 h.1) (sym (or-false (leb 15 k)))
    go false =
        rw (ne_eqb k 0 h.0.0.0.0.0.1, ne_eqb k 4 h.0.0.0.0.1, ne_eqb k 6 h.0.0.0.1, ne_eqb k 8 h.0.0.1, ne_eqb k 10 h.0.1, ne_eqb k 12 h.1)
        (sym (or-false (leb 15 k)))

-- a copy of the text, and the digits stored over it
pub fills : {a b c p : List ℕ} {m n : ℕ} (k : ℕ) (digits s : List ℕ) → k ≤ 21 → length digits ≡ 21 → length s ≡ 25 → length a ≡ 25
    → Written a 0 s m b → p ≡ part digits k 21 → Written b k p n c → c ≡ filled k digits s
unfolding filled
fills {a} {b} {c} {p} k digits s few full long room first e second =
    let copied : b ≡ s = first.stores ∙ sets-eq s a 0 (omega arith) ∙ rest in
    let whole : p ≡ drop k digits = e ∙ take_all 21 (drop k digits) (rw (length-drop, full) (omega arith)) in
    let many : k + length (drop k digits) ≡ 21 = rw (length-drop, full) (omega arith) in
    second.stores ∙ rw (copied, whole) (sets-eq (drop k digits) s k (omega arith) ∙ append_assoc (take k s) (drop k digits) _ ∙ ap (λ (n : ℕ). take k s ++ (drop k digits ++ drop n s)) many)
  where
    rest : take 0 a ++ s ++ drop (0 + length s) a ≡ s
    rest = let n : 0 + length s ≡ length a = omega arith in rw (n, drop-length a) (append-nil s)

-- the last day
module _ {d : Date} (s : List ℕ) (date : d ≡ date_in s) where
  pub month_there : 1 ≤ (date_in s).month → (date_in s).month ≤ 12 → (1 ≤ d.month) × (d.month ≤ 12)
  month_there from to = rw date (from, to)

  pub last_day_set : {b : List ℕ} {r : ℕ} {leap : Bool} {n : ℕ} → leap ≡ leap_year d.year → n ≡ days_in_month leap d.month → Written s 6 (decimal n) r b
      → b ≡ sets s 6 (decimal (days_in_month (leap_year (date_in s).year) (date_in s).month))
  last_day_set {b} {r} {leap} {n} el en w =
      let last : n ≡ days_in_month (leap_year (date_in s).year) (date_in s).month = en ∙ rw (el, date) refl in
      w.stores ∙ ap (λ (m : ℕ). sets s 6 (decimal m)) last

-- the lowest text
module _ {out : List ℕ} (k : ℕ) (s : List ℕ) where
  pub lowest_interval : sign_in s ≡ 58 → out ≡ filled k (lowest_digits true) s → out ≡ lowest_text k s
  unfolding lowest_text
  lowest_interval h e = rw (eq-eqb _ _ h) e

  pub lowest_timestamp : (sign_in s ≡ 58 → ⊥) → out ≡ filled k (lowest_digits false) s → out ≡ lowest_text k s
  unfolding lowest_text
  lowest_timestamp h e = rw (ne_eqb _ _ h) e
