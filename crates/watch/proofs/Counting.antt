-- One law for each exit of the functions of `src/window.rt` that count a window, `one_of` to `moved_before`.
use Prim.Native.Nat.{ℕ, ◌+◌, ◌-◌, ◌≤◌, ◌<◌}
use mathlib.Core.List.{List}
use mathlib.Core.Path.{◌≡◌, sym, ap, ◌∙◌}
use native.Mathlib.Omega.{arith}
use lib.ListN.{length, get_or, take, drop}
use lib.Seq.{length-take-le}
use Rattle.std.proofs.lemmas.List.{drop-take}
use Rattle.base.proofs.Lists.{at_end_law}
use Rattle.run.proofs.Counts.{one, count_none, count_from}
use Rattle.run.specs.Totals.{count}
use Rattle.watch.specs.Window.{is_one, last_of, included}
use Rattle.watch.proofs.Windows.{included_few, ends_with, moves_short, moves_whole}

-- ---- included_before: the window's marks, those from `i` on still to be counted
module _ (ms : List ℕ) (end window : ℕ) (room : end ≤ length ms) where
  abbrev pub window_of : List ℕ
  window_of = take (end - (end - window)) (drop (end - window) ms)

  marks_seen : window_of ≡ last_of window (take end ms)
  marks_seen =
      let e : (end - window) + (end - (end - window)) ≡ end = omega arith in
      sym (drop-take (end - window) (end - (end - window)) ms)
      ∙ ap (λ (n : ℕ). drop (end - window) (take n ms)) e
      ∙ ap (λ (n : ℕ). drop (n - window) (take end ms)) (sym (length-take-le end ms room))

  pub counting_begins : 0 + count is_one window_of ≡ included window (take end ms)
  counting_begins =
      let e : count is_one window_of ≡ included window (take end ms) = ap (count is_one) marks_seen in
      omega (arith, e)

module _ (marks : List ℕ) (whole ones i : ℕ) (w : ones + count is_one (drop i marks) ≡ whole) where
  pub counting_ends : length marks ≤ i → ones ≡ whole
  counting_ends h = omega (arith, w, at_end_law (count is_one) marks i h, count_none is_one)

  module _ (h : i < length marks) {r : ℕ} (e : r ≡ one is_one (get_or marks i 0)) where
    pub counting_next : (ones + r) + count is_one (drop (i + 1) marks) ≡ whole
    counting_next = omega (arith, w, count_from is_one marks i 0 h)

    pub counting_fits : (n : ℕ) (ms : List ℕ) → whole ≡ included n ms → ones + r ≤ n
    counting_fits n ms f = omega (arith, counting_next, f, included_few n ms)

-- ---- moved_before
module _ (ms : List ℕ) (end window held : ℕ) (h : end < length ms) (g : 1 ≤ window) (e : held ≡ included window (take (end + 1) ms)) {o : ℕ} (eo : o ≡ one is_one (get_or ms end 0)) where
  pub leaving : o ≤ held
  leaving = omega (arith, ends_with window ms end h g)

  pub none_enters : end < window → held - o ≡ included window (take end ms)
  none_enters l = omega (arith, moves_short window ms end h g l)

  module _ (l : window ≤ end) {i : ℕ} (ei : i ≡ one is_one (get_or ms (end - window) 0)) where
    pub one_enters : held - o + i ≡ included window (take end ms)
    one_enters = omega (arith, leaving, moves_whole window ms end h g l)

    pub entering_fits : held - o + i ≤ window
    entering_fits = omega (arith, one_enters, included_few window (take end ms))
