-- The loop that marks: what it has written and counted, and what is left. One law for each of its exits.
use Rattle.std.specs.Prelude.{Result}
use Prim.Native.Nat.{ℕ, ◌+◌, ◌≤◌, ◌<◌}
use mathlib.Core.List.{List, [], ◌∷◌, ◌++◌, map}
use mathlib.Core.Path.{◌≡◌, refl, sym, ap, ◌∙◌}
use native.Mathlib.Numerals.{add-one}
use native.Mathlib.Nat.{zero-add}
use native.Mathlib.Omega.{arith}
use lib.ListN.{length, set, drop, length-set, length-map}
use lib.Seq.{sets, sets-eq}
use Rattle.base.specs.Part.{part}
use Rattle.record.specs.Record.{Records, item, broken, ended, records}
use Rattle.filter.specs.Evaluate.{evaluate}
use Rattle.filter.specs.declared.refusal.Answer.{Answer}
use Rattle.run.specs.declared.totals.Totals.{Totals}
use Rattle.run.specs.Run.{bodies_of, instances_of}
use Rattle.run.specs.Totals.{mark_of, answers_of, marks_of, totals_of, counted}
use Rattle.run.proofs.Counting.{totals, sum, plus, plus_next, plus_none, none_plus, sum_next}
use Rattle.filter.specs.declared.refusal.Refusal.{Refusal}

-- ---- the bodies of all instances and of those that are left, the marks as they were and as they are
module _ (q t : List ℕ) where
  abbrev answers_in : List (List ℕ) → List (Result Answer Refusal)
  answers_in l = map (evaluate q t) l

  abbrev marks_in : List (List ℕ) → List ℕ
  marks_in l = map mark_of (answers_in l)

pub record Marking (q t : List ℕ) (all rest : List (List ℕ)) (old : List ℕ) (i : ℕ) (x : Totals) (m : List ℕ) : Type 0 where
  pub written : sets old 0 (marks_in q t all) ≡ sets m i (marks_in q t rest)
  pub counts : totals_of (answers_in q t all) ≡ plus x (totals_of (answers_in q t rest))
  pub sums : sum x ≡ i
  pub room : i + length rest ≤ length m
  pub fits : length all ≤ length old
  pub same : length m ≡ length old

begin : (q t : List ℕ) (all : List (List ℕ)) (m : List ℕ) → length all ≤ length m → Marking q t all all m 0 (totals 0 0 0) m
begin q t all m h =
    record {
      written = refl;
      counts = none_plus (totals_of (answers_in q t all));
      sums = refl;
      room = omega arith;
      fits = h;
      same = refl;
    }

next_one : (q t : List ℕ) (all rest : List (List ℕ)) (old : List ℕ) (i : ℕ) (x : Totals) (m b : List ℕ) → Marking q t all (b ∷ rest) old i x m
    → Marking q t all rest old (i + 1) (counted x (evaluate q t b)) (set m i (mark_of (evaluate q t b)))
next_one q t all rest old i x m b w =
    let l = length-set m i (mark_of (evaluate q t b)) in
    record {
      written = w.written ∙ rw (add-one i);
      counts = w.counts ∙ plus_next x (evaluate q t b) (answers_in q t rest);
      sums = omega (arith, w.sums, sum_next x (evaluate q t b));
      room = omega (arith, w.room, l);
      fits = w.fits;
      same = l ∙ w.same;
    }

module _ (q t : List ℕ) (all : List (List ℕ)) (old : List ℕ) where
  marks_length : length (marks_in q t all) ≡ length all
  marks_length = length-map (answers_in q t all) mark_of ∙ length-map all (evaluate q t)

  finish : (i : ℕ) (x : Totals) (m : List ℕ) → Marking q t all [] old i x m
      → (x ≡ totals_of (answers_in q t all)) × (m ≡ marks_in q t all ++ drop (length all) old) × (length m ≡ length old)
  finish i x m w =
      let h : 0 + length (marks_in q t all) ≤ length old = omega (arith, w.fits, marks_length) in (
        sym (w.counts ∙ plus_none x),
        sym w.written ∙ sets-eq (marks_in q t all) old 0 h ∙ ap (λ (n : ℕ). marks_in q t all ++ drop n old) (zero-add (length (marks_in q t all)) ∙ marks_length),
        w.same,
      )

-- ---- as the code meets them, with the records that are left
module _ (q t s m : List ℕ) where
  pub marking_begins : length (instances_of s) ≤ length m → {rs : Records} → rs ≡ records s 0 → {i : ℕ} → i ≡ 0 → Marking q t (instances_of s) (bodies_of s rs) m i (totals 0 0 0) m
  unfolding instances_of
  marking_begins h e f = rw (e, f) (begin q t (instances_of s) m h)

module _ (q t s old : List ℕ) (rs : Records) (i : ℕ) (x : Totals) (m : List ℕ) (w : Marking q t (instances_of s) (bodies_of s rs) old i x m) where
  pub marking_same : length m ≡ length old
  marking_same = w.same

  abbrev Done : Type 0
  Done = (x ≡ totals_of (answers_of q t s)) × (m ≡ marks_of q t s ++ drop (length (instances_of s)) old) × (length m ≡ length old)

  done : bodies_of s rs ≡ [] → Done
  done f = finish q t (instances_of s) old i x m (rw f at w)

  pub marking_broken : (place : ℕ) → rs ≡ broken place → Done
  unfolding bodies_of
  marking_broken place f = done (rw f refl)

  pub marking_end : rs ≡ ended → Done
  unfolding bodies_of
  marking_end f = done (rw f refl)

  module _ (place kind start len : ℕ) (rest : Records) (f : rs ≡ item place kind start len rest) where
    left : bodies_of s rs ≡ part s start len ∷ bodies_of s rest
    unfolding bodies_of
    left = rw f

    room : i < length m
    room = let l = ap length left in omega (arith, w.room)

    pub marking_room : {here : ℕ} → here ≡ i → here < length m
    marking_room e = rw e room

    pub marking_few : sum x < length m
    marking_few = omega (arith, w.sums, room)

    pub marking_next : {b : List ℕ} → b ≡ part s start len → {a : Result Answer Refusal} → a ≡ evaluate q t b → {v : ℕ} → v ≡ mark_of a → {u : Totals} → u ≡ counted x a
        → {here further : ℕ} → here ≡ i → further ≡ i + 1 → Marking q t (instances_of s) (bodies_of s rest) old further u (set m here v)
    marking_next eb ea ev eu eh ef = rw (ef, eh, eu, ev, ea, eb) (next_one q t (instances_of s) (bodies_of s rest) old i x m (part s start len) (rw left at w))
