-- The pass from the last mark to the first: the marks from `left` on are watched already, those before it still stand plain. One law for each exit of `watch_marks`.
use Prim.Native.Nat.{ℕ, suc, ◌+◌, ◌-◌, ◌≤◌, ◌<◌}
use mathlib.Core.List.{List, [], ◌∷◌, ◌++◌}
use mathlib.Core.Path.{◌≡◌, refl, sym, ap, ap₂, ◌∙◌}
use native.Mathlib.Omega.{arith}
use lib.ListN.{length, set, take, drop, length-set}
use lib.Seq.{length-take-le, take-take, take-set-le, drop-set-lt, get_or-set_same}
use lib.Dec.{leb}
use Rattle.base.specs.Pick.{pick}
use Rattle.base.proofs.Lists.{left_next}
use Rattle.run.specs.Totals.{count}
use Rattle.run.proofs.Counts.{one, one_small, count_none, count_next, count_small}
use Rattle.watch.specs.Window.{is_one, included, window_mark, watch_marks_from, watch_marks}
use Rattle.watch.specs.Watch.{totals_of}
use Rattle.watch.proofs.Marks.{from_none, from_next, from_length, from_sum}

-- `size` marks of the list `old` are plain, the others stand beyond; `held` of the window that ends before `left` are included
pub record Passing (n k : ℕ) (old : List ℕ) (size left : ℕ) (m : List ℕ) (held ones : ℕ) : Type 0 where
  pub plain : take left m ≡ take left old
  pub done : drop left m ≡ watch_marks_from n k (take size old) left (size - left) ++ drop size old
  pub window : held ≡ included n (take left m)
  pub counts : ones ≡ count is_one (watch_marks_from n k (take size old) left (size - left))
  pub inside : left ≤ size
  pub room : size ≤ length old
  pub same : length m ≡ length old

module _ (n k : ℕ) (old : List ℕ) (size : ℕ) where
  -- the watch's marks from a place on
  abbrev from : ℕ → List ℕ
  from left = watch_marks_from n k (take size old) left (size - left)

  from_all : from size ≡ []
  from_all = ap (watch_marks_from n k (take size old) size) (let z : size - size ≡ 0 = omega arith in z) ∙ from_none n k (take size old) size

  from_one : (j : ℕ) → j < size → from j ≡ window_mark n k (take (j + 1) (take size old)) ∷ from (j + 1)
  from_one j h =
      ap (watch_marks_from n k (take size old) j) (let z : size - j ≡ suc (size - (j + 1)) = omega arith in z)
      ∙ from_next n k (take size old) j (size - (j + 1))

  pub passing_begins : size ≤ length old → {held : ℕ} → held ≡ included n (take size old) → Passing n k old size size old held 0
  passing_begins h e =
      record {
        plain = refl;
        done = sym (ap (λ (l : List ℕ). l ++ drop size old) from_all);
        window = e;
        counts = sym (ap (count is_one) from_all ∙ count_none is_one);
        inside = omega arith;
        room = h;
        same = refl;
      }

  module _ (left : ℕ) (m : List ℕ) (held ones : ℕ) (w : Passing n k old size left m held ones) where
    pub passing_same : length m ≡ length old
    passing_same = w.same

    passing_few : ones ≤ size - left
    passing_few = omega (arith, w.counts, count_small is_one (from left), from_length n k (take size old) left (size - left))

    -- ---- the mark before `left`
    module _ (j : ℕ) (e : j + 1 ≡ left) where
      pub window_with : held ≡ included n (take (j + 1) m)
      window_with = w.window ∙ ap (λ (i : ℕ). included n (take i m)) (sym e)

      -- it is that of the window that ends with it
      told : pick (leb k held) 1 0 ≡ window_mark n k (take (j + 1) (take size old))
      told =
          ap
          (λ (i : ℕ). pick (leb k i) 1 0)
          (w.window
          ∙ ap (included n) (w.plain ∙ sym (take-take left size old w.inside))
          ∙ ap (λ (i : ℕ). included n (take i (take size old))) (sym e))

      fewer : take j m ≡ take j old
      fewer =
          let l : j ≤ left = omega arith in
          sym (take-take j left m l) ∙ ap (take j) w.plain ∙ take-take j left old l

      front : (v : ℕ) → take j (set m j v) ≡ take j m
      front v = take-set-le j m j v (omega arith)

      back : (v : ℕ) → drop j (set m j v) ≡ v ∷ drop left m
      back v =
          let l : j < length m = omega (arith, w.inside, w.room, w.same) in
          left_next (set m j v) j (omega (arith, length-set m j v))
          ∙ ap₂ (λ (x : ℕ) (t : List ℕ). x ∷ t) (get_or-set_same m j v 0 l) (drop-set-lt (j + 1) m j v (omega arith) ∙ ap (λ (i : ℕ). drop i m) e)

      rest : from j ≡ window_mark n k (take (j + 1) (take size old)) ∷ from left
      rest =
          from_one j (omega (arith, w.inside))
          ∙ ap (λ (i : ℕ). window_mark n k (take (j + 1) (take size old)) ∷ from i) e

      written : (v : ℕ) → v ≡ pick (leb k held) 1 0 → from j ≡ v ∷ from left
      written v ev = rest ∙ ap (λ (x : ℕ). x ∷ from left) (sym (ev ∙ told))

      next_one : (v : ℕ) → v ≡ pick (leb k held) 1 0 → {g : ℕ} → g ≡ included n (take j m) → Passing n k old size j (set m j v) g (ones + one is_one v)
      next_one v ev eg =
          record {
            plain = front v ∙ fewer;
            done = back v ∙ ap (λ (t : List ℕ). v ∷ t) w.done ∙ ap (λ (t : List ℕ). t ++ drop size old) (sym (written v ev));
            window = eg ∙ ap (included n) (sym (front v));
            counts = omega (arith, w.counts, ap (count is_one) (written v ev), count_next is_one v (from left));
            inside = omega (arith, w.inside);
            room = w.room;
            same = length-set m j v ∙ w.same;
          }

    pub passing_before : 0 < left → {v : ℕ} → v ≡ pick (leb k held) 1 0 → {g : ℕ} → g ≡ included n (take (left - 1) m) → {u : ℕ} → u ≡ one is_one v
        → Passing n k old size (left - 1) (set m (left - 1) v) g (ones + u)
    passing_before h ev eg eu = rw eu (next_one (left - 1) (let e : left - 1 + 1 ≡ left = omega arith in e) _ ev eg)

    pub passing_most : ones ≤ size
    passing_most = omega (arith, passing_few)

    module _ (h : left ≤ 0) where
      ended : left ≡ 0
      ended = omega arith

      all : from left ≡ watch_marks n k (take size old)
      all =
          ap from ended
          ∙ ap (watch_marks_from n k (take size old) 0) (let z : size - 0 ≡ length (take size old) = omega (arith, length-take-le size old w.room) in z)

      zeros_left : size - ones ≡ (totals_of (from left)).zeros
      zeros_left = omega (arith, w.counts, from_sum n k (take size old) left (size - left))

      pub passing_totals : record { ones = ones; zeros = size - ones } ≡ totals_of (watch_marks n k (take size old))
      passing_totals = rw (zeros_left, w.counts) (ap totals_of all)

      pub passing_marks : m ≡ watch_marks n k (take size old) ++ drop size old
      passing_marks = ap (λ (i : ℕ). drop i m) (sym ended) ∙ w.done ∙ ap (λ (l : List ℕ). l ++ drop size old) all

  -- ---- as the code meets it, at the mark before `j + 1`
  module _ (j : ℕ) (m : List ℕ) (held ones : ℕ) (w : Passing n k old size (j + 1) m held ones) where
    pub passing_room : j < length m
    passing_room = omega (arith, w.inside, w.room, w.same)

    pub passing_window : held ≡ included n (take (j + 1) m)
    passing_window = w.window

    pub passing_fits : (v : ℕ) {u : ℕ} → u ≡ one is_one v → ones + u ≤ size
    passing_fits v eu = omega (arith, passing_few (j + 1) m held ones w, one_small is_one v, w.inside)
