-- 02 Q-4: "with a window of n instances (1 to 64) and a need of k (1 to n), mark an instance 1 when at least k of the last n, up to and with it, are included, else 0.
-- Before n have passed, those that there are count. An instance that would be marked 255 counts as not included." All is said of the plain marks, those that mark
-- writes: 1 included, 0 excluded, 255 failed.
use Rattle.std.specs.Prelude.{ℕ, zero, suc, ◌+◌, ◌-◌, List, [], ◌∷◌, Bool, length, take, drop, leb, eqb}
use Rattle.base.specs.Pick.{pick}
use Rattle.run.specs.Totals.{count}

-- of the plain marks, those of the instances that are included; neither 0 nor 255 is
abbrev pub is_one : (mark : ℕ) → Bool
is_one m = eqb m 1

abbrev pub is_zero : (mark : ℕ) → Bool
is_zero m = eqb m 0

-- the last n, or all where there are fewer
abbrev pub last_of : (n : ℕ) (plain : List ℕ) → List ℕ
last_of n ms = drop (length ms - n) ms

-- how many of the last n are included
abbrev pub included : (n : ℕ) (plain : List ℕ) → ℕ
included n ms = count is_one (last_of n ms)

-- the mark of an instance, by the plain marks up to and with its own
abbrev pub window_mark : (window need : ℕ) (plain : List ℕ) → ℕ
window_mark n k ms = pick (leb k (included n ms)) 1 0

-- so many marks, from that of the j-th instance on
unfoldable pub watch_marks_from : (window need : ℕ) (plain : List ℕ) (j size : ℕ) → List ℕ
watch_marks_from n k ms j zero = []
watch_marks_from n k ms j (suc size) = window_mark n k (take (j + 1) ms) ∷ watch_marks_from n k ms (j + 1) size

abbrev pub watch_marks : (window need : ℕ) (plain : List ℕ) → List ℕ
watch_marks n k ms = watch_marks_from n k ms 0 (length ms)
