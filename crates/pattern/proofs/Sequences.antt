-- The loops over the items of a sequence and over alternatives: who reads the rest has read the whole, and what was read so far is put together with it.
-- Assumes nothing.
use mathlib.Core.Path.{◌≡◌, refl, ap, ap₂, subst, sym as inv, ◌∙◌}
use mathlib.Core.List.{List}
use mathlib.Core.Bool.{Bool, true, false, not}
use Prim.Native.Nat.{ℕ, zero, suc, ◌≤◌, ◌<◌, ◌+◌, ◌*◌, ◌-◌}
use native.Mathlib.Omega.{arith}
use borrow.Author.Tests.{not-true, not-false}
use lib.ListN.{length, drop}
use Rattle.pattern.specs.declared.fragment.Fragment.{Fragment}
use Rattle.pattern.specs.declared.reader.PartRead.{PartRead}
use Rattle.std.specs.Prelude.{Option, Some, None}
use Rattle.pattern.specs.Regex.{Regex, empty}
use Rattle.pattern.specs.Character.{bar, starts_with}
use Rattle.pattern.specs.Reading.{Reading, malformed, front, Part, part, ends, after, alternative_to, alternatives, sequence, item}
use Rattle.pattern.specs.Automaton.{Automaton, automaton_of, over, no_fragment, empty_fragment, sequence_fragment, alternatives_fragment, nothing, empty_text, in_sequence, in_alternatives}
use Rattle.pattern.specs.Links.{Adds}
use Rattle.pattern.specs.Answers.{part_to, GivesPart, bad_part, good_part, ReadsAlternatives, ReadsSequence, ReadsItem}
use Rattle.pattern.proofs.Automata.{sequence_assoc, sequence_left, sequence_right, alternatives_assoc, alternatives_left, adds_nothing, adds_both}
use Rattle.pattern.proofs.Offsets.{drop_next}
use Rattle.pattern.proofs.Parts.{part_bad, part_good, sequence_further, item_further, sequence_all, item_all}

-- with what was read before it, the rest X is the whole Y
pub data Continues (join : Automaton → Automaton → Automaton) (a : Automaton) : Reading Part → Reading Part → Type 0 where
  stopped : Continues join a malformed malformed
  continued : {p w : Part} {t : List ℕ} → w.symbols ≡ p.symbols → automaton_of w.regex ≡ join a (automaton_of p.regex) → Continues join a (front p t) (front w t)

-- what was read before has these sets, and the links have what follows its symbols; the rest is read at a bound that is large enough
pub record Onward (join : Automaton → Automaton → Automaton) (g : Fragment) (before links : List ℕ) (least : ℕ) (X : ℕ → Reading Part) (Y : Reading Part) : Type 0 where
  pub automaton : Automaton
  pub sets : automaton.sets ≡ g
  pub added : Adds automaton.next before links
  pub bound : ℕ
  pub enough : least ≤ bound
  pub continues : Continues join automaton (X bound) Y

-- where the rest can't be read, neither can the whole
bad_rest : {join : Automaton → Automaton → Automaton} {a : Automaton} {s before after : List ℕ} (X Y : Reading Part) → X ≡ malformed → Continues join a X Y
    → length after ≡ 64 → GivesPart s before after None Y
bad_rest X Y z stopped all = bad_part all
bad_rest X Y z (continued {p = p} {t = u} e h) all = absurd (let v : ◌≡◌ {A = ℕ} 0 1 = cc in omega arith)

-- where the rest is one part, the whole is that part with what was read before
last_part : (join : Automaton → Automaton → Automaton) (a : Automaton) (x : Regex ℕ) {s before after : List ℕ} {e m : ℕ} {g : Fragment}
    → (join a (automaton_of x)).sets ≡ g → Adds (join a (automaton_of x)).next before after → (Y : Reading Part) → Continues join a (part x m (drop e s)) Y
    → GivesPart s before after (Some (part_to e m g)) Y
last_part join a x {s} {before} {after} {e} {m} {g} p l Y (continued {w = v} y z) =
    let u : (automaton_of v.regex).sets ≡ g = ap (λ (b : Automaton). b.sets) z ∙ p in
    subst (λ (n : ℕ). GivesPart s before after (Some (part_to e n g)) (front v (drop e s))) y
    (subst (λ (f : Fragment). GivesPart s before after (Some (part_to e v.symbols f)) (front v (drop e s))) u
    (good_part (subst (λ (b : Automaton). Adds b.next before after) (inv z) l)))

-- ---- one step of the reading

module _ (b d n m : ℕ) (u v : List ℕ) (x : Regex ℕ) where
  sequence_reads : ends u ≡ false → item b d n u ≡ part x m v → sequence (suc b) d n u ≡ after x (sequence b d m v)
  unfolding sequence
  sequence_reads e q = rw (e, q, sequence)

  alternatives_read : starts_with bar v ≡ true → sequence b d n u ≡ part x m v → alternatives (suc b) d n u ≡ alternative_to x (alternatives b d m (drop 1 v))
  unfolding alternatives
  alternatives_read e q = rw (q, e, alternatives)

  alternative_reads : starts_with bar v ≡ false → sequence b d n u ≡ part x m v → alternatives (suc b) d n u ≡ part x m v
  unfolding alternatives
  alternative_reads e q = rw (q, e, alternatives)

-- ---- a sequence

pub record Sequencing (s : List ℕ) (at d k : ℕ) (before : List ℕ) (i n : ℕ) (g : Fragment) (links : List ℕ) : Type 0 where
  pub onward : (f : ℕ) → 3 * (length s - at) + 2 ≤ f
      → Onward in_sequence g before links (3 * (length s - i) + 2) (λ b. sequence b d n (drop i s)) (sequence f d k (drop at s))
  pub further : length s - i ≤ length s - at
  pub all : length links ≡ 64

item_joined : (a : Automaton) (x : Regex ℕ) (X Y : Reading Part) → Continues in_sequence a (after x X) Y → Continues in_sequence (in_sequence a (automaton_of x)) X Y
unfolding automaton_of
item_joined a x malformed Y stopped = stopped
item_joined a x (front p t) Y (continued e h) = continued e (h ∙ inv (sequence_assoc a (automaton_of x) (automaton_of p.regex)))

module _ (s : List ℕ) (at d k : ℕ) (before : List ℕ) where
  pub sequencing_start : {g : Fragment} → length before ≡ 64 → g ≡ empty_fragment → Sequencing s at d k before at k g before
  sequencing_start {g} all e = record {
    onward = λ f le. record {
      automaton = empty_text;
      sets = inv e;
      added = adds_nothing before all;
      bound = f;
      enough = le;
      continues = same (sequence f d k (drop at s));
    };
    further = omega arith;
    all = all;
  }
    where
      same : (X : Reading Part) → Continues in_sequence empty_text X X
      same malformed = stopped
      same (front p t) = continued refl (inv (sequence_left (automaton_of p.regex)))

  module _ {i n : ℕ} {g : Fragment} {links : List ℕ} (here : Sequencing s at d k before i n g links) {t : Bool} (test : t ≡ ends (drop i s)) where
    right : (a : Automaton) → in_sequence a (automaton_of empty) ≡ a
    unfolding automaton_of
    right a = sequence_right a

    module _ (ended : t ≡ true) (f : ℕ)
        (o : Onward in_sequence g before links (3 * (length s - i) + 2) (λ b. sequence b d n (drop i s)) (sequence f d k (drop at s))) where
      ends_at : (b : ℕ) → 3 * (length s - i) + 2 ≤ b → Continues in_sequence o.automaton (sequence b d n (drop i s)) (sequence f d k (drop at s))
          → GivesPart s before links (Some (part_to i n g)) (sequence f d k (drop at s))
      unfolding sequence
      ends_at zero l c = absurd (omega arith)
      ends_at (suc b) l c =
          let e : sequence (suc b) d n (drop i s) ≡ part empty n (drop i s) = rw (← test, ended, sequence) in
          last_part in_sequence o.automaton empty
          (ap (λ (a : Automaton). a.sets) (right o.automaton) ∙ o.sets)
          (subst (λ (a : Automaton). Adds a.next before links) (inv (right o.automaton)) o.added)
          (sequence f d k (drop at s))
          (subst (λ (X : Reading Part). Continues in_sequence o.automaton X (sequence f d k (drop at s))) e c)

    pub sequencing_end : not t ≡ false → ReadsSequence s at d k before links (Some (part_to i n g))
    sequencing_end ended f le = let o = here.onward f le in ends_at (not-false t ended) f o o.bound o.enough o.continues

    -- what an item adds
    module _ {between : List ℕ} {r : Option PartRead} (more : not t ≡ true) (read : ReadsItem s i d n links between r) where
      item_next : {v : PartRead} → r ≡ Some v → {g2 : Fragment} {linked : List ℕ} → Adds (over g.last v.sets.first) between linked → g2 ≡ sequence_fragment g v.sets
          → (Y : Reading Part) → Onward in_sequence g before links (3 * (length s - i) + 2) (λ b. sequence b d n (drop i s)) Y
          → Onward in_sequence g2 before linked (3 * (length s - v.end) + 2) (λ b. sequence b d v.symbols (drop v.end s)) Y
      item_next {v} q {g2} {linked} l w Y o = go o.bound o.enough o.continues
        where
          go : (b : ℕ) → 3 * (length s - i) + 2 ≤ b → Continues in_sequence o.automaton (sequence b d n (drop i s)) Y
              → Onward in_sequence g2 before linked (3 * (length s - v.end) + 2) (λ b. sequence b d v.symbols (drop v.end s)) Y
          go zero le c = absurd (omega arith)
          go (suc b) le c =
              let x = part_good s links between r (item b d n (drop i s)) v (read b (omega arith)) q in
              let shorter = item_further s i d n read q in
              let z = sequence_reads b d n v.symbols (drop i s) (drop v.end s) x.regex (inv test ∙ not-true t more) x.reads in
              record {
                automaton = in_sequence o.automaton (automaton_of x.regex);
                sets = ap₂ sequence_fragment o.sets (inv x.sets) ∙ inv w;
                added =
                    adds_both (adds_both o.added x.links)
                    (subst (λ (w : ℕ). Adds (over w (automaton_of x.regex).sets.first) between linked) (ap (λ (f : Fragment). f.last) (inv o.sets))
                    (subst (λ (w : ℕ). Adds (over g.last w) between linked) (ap (λ (f : Fragment). f.first) x.sets) l));
                bound = b;
                enough = omega (arith, shorter);
                continues = item_joined o.automaton x.regex (sequence b d v.symbols (drop v.end s)) Y (subst (λ (X : Reading Part). Continues in_sequence o.automaton X Y) z c);
              }

      pub sequencing_next : {v : PartRead} → r ≡ Some v → {g2 : Fragment} {linked : List ℕ} → Adds (over g.last v.sets.first) between linked
          → g2 ≡ sequence_fragment g v.sets → Sequencing s at d k before v.end v.symbols g2 linked
      sequencing_next {v} q {g2} {linked} l w = record {
        onward = λ f le. item_next q l w (sequence f d k (drop at s)) (here.onward f le);
        further = omega (arith, here.further, item_further s i d n read q);
        all = l.all;
      }

      item_stops : r ≡ None → (Y : Reading Part) → Onward in_sequence g before links (3 * (length s - i) + 2) (λ b. sequence b d n (drop i s)) Y
          → GivesPart s before between None Y
      unfolding sequence
      item_stops q Y o = go o.bound o.enough o.continues
        where
          go : (b : ℕ) → 3 * (length s - i) + 2 ≤ b → Continues in_sequence o.automaton (sequence b d n (drop i s)) Y → GivesPart s before between None Y
          go zero le c = absurd (omega arith)
          go (suc b) le c =
              let x = part_bad s links between r (item b d n (drop i s)) (read b (omega arith)) q in
              bad_rest (sequence (suc b) d n (drop i s)) Y (rw (← test, not-true t more, x, sequence)) c (item_all s i d n links between read)

      pub sequencing_bad : r ≡ None → {z : Option PartRead} → z ≡ None → ReadsSequence s at d k before between z
      sequencing_bad q e f le = rw e (item_stops q (sequence f d k (drop at s)) (here.onward f le))

-- ---- alternatives

pub record Alternating (s : List ℕ) (at d k : ℕ) (before : List ℕ) (i n : ℕ) (g : Fragment) (links : List ℕ) : Type 0 where
  pub onward : (f : ℕ) → 3 * (length s - at) + 3 ≤ f
      → Onward in_alternatives g before links (3 * (length s - i) + 3) (λ b. alternatives b d n (drop i s)) (alternatives f d k (drop at s))
  pub further : length s - i ≤ length s - at
  pub all : length links ≡ 64

alternative_joined : (a : Automaton) (x : Regex ℕ) (X Y : Reading Part) → Continues in_alternatives a (alternative_to x X) Y
    → Continues in_alternatives (in_alternatives a (automaton_of x)) X Y
unfolding automaton_of
alternative_joined a x malformed Y stopped = stopped
alternative_joined a x (front p t) Y (continued e h) = continued e (h ∙ inv (alternatives_assoc a (automaton_of x) (automaton_of p.regex)))

module _ (s : List ℕ) (at d k : ℕ) (before : List ℕ) where
  pub alternating_start : {g : Fragment} → length before ≡ 64 → g ≡ no_fragment → Alternating s at d k before at k g before
  alternating_start {g} all e = record {
    onward = λ f le. record {
      automaton = nothing;
      sets = inv e;
      added = adds_nothing before all;
      bound = f;
      enough = le;
      continues = same (alternatives f d k (drop at s));
    };
    further = omega arith;
    all = all;
  }
    where
      same : (X : Reading Part) → Continues in_alternatives nothing X X
      same malformed = stopped
      same (front p t) = continued refl (inv (alternatives_left (automaton_of p.regex)))

  module _ {i n : ℕ} {g : Fragment} {links between : List ℕ} {r : Option PartRead} (here : Alternating s at d k before i n g links) (read : ReadsSequence s i d n links between r) where
    sequence_stops : r ≡ None → (Y : Reading Part) → Onward in_alternatives g before links (3 * (length s - i) + 3) (λ b. alternatives b d n (drop i s)) Y
        → GivesPart s before between None Y
    unfolding alternatives
    sequence_stops q Y o = go o.bound o.enough o.continues
      where
        go : (b : ℕ) → 3 * (length s - i) + 3 ≤ b → Continues in_alternatives o.automaton (alternatives b d n (drop i s)) Y → GivesPart s before between None Y
        go zero le c = absurd (omega arith)
        go (suc b) le c =
            let x = part_bad s links between r (sequence b d n (drop i s)) (read b (omega arith)) q in
            bad_rest (alternatives (suc b) d n (drop i s)) Y (rw (x, alternatives)) c (sequence_all s i d n links between read)

    pub alternating_bad : r ≡ None → {z : Option PartRead} → z ≡ None → ReadsAlternatives s at d k before between z
    alternating_bad q e f le = rw e (sequence_stops q (alternatives f d k (drop at s)) (here.onward f le))

    module _ {v : PartRead} {g2 : Fragment} (q : r ≡ Some v) (w : g2 ≡ alternatives_fragment g v.sets) {t : Bool} (test : t ≡ starts_with bar (drop v.end s)) where
      -- with one alternative more
      joined_sets : (a : Automaton) (x : Regex ℕ) → a.sets ≡ g → v.sets ≡ (automaton_of x).sets → (in_alternatives a (automaton_of x)).sets ≡ g2
      joined_sets a x p u = ap₂ alternatives_fragment p (inv u) ∙ inv w

      alternative_ends : not t ≡ true → (Y : Reading Part) → Onward in_alternatives g before links (3 * (length s - i) + 3) (λ b. alternatives b d n (drop i s)) Y
          → GivesPart s before between (Some (part_to v.end v.symbols g2)) Y
      alternative_ends last Y o = go o.bound o.enough o.continues
        where
          go : (b : ℕ) → 3 * (length s - i) + 3 ≤ b → Continues in_alternatives o.automaton (alternatives b d n (drop i s)) Y → GivesPart s before between (Some (part_to v.end v.symbols g2)) Y
          go zero le c = absurd (omega arith)
          go (suc b) le c =
              let x = part_good s links between r (sequence b d n (drop i s)) v (read b (omega arith)) q in
              let z = alternative_reads b d n v.symbols (drop i s) (drop v.end s) x.regex (inv test ∙ not-true t last) x.reads in
              last_part in_alternatives o.automaton x.regex (joined_sets o.automaton x.regex o.sets x.sets) (adds_both o.added x.links) Y
              (subst (λ (X : Reading Part). Continues in_alternatives o.automaton X Y) z c)

      pub alternating_end : not t ≡ true → ReadsAlternatives s at d k before between (Some (part_to v.end v.symbols g2))
      alternating_end last f le = alternative_ends last (alternatives f d k (drop at s)) (here.onward f le)

      module _ (within : t ≡ true → v.end < length s) (bars : not t ≡ false) where
        alternative_next : (Y : Reading Part) → Onward in_alternatives g before links (3 * (length s - i) + 3) (λ b. alternatives b d n (drop i s)) Y
            → Onward in_alternatives g2 before between (3 * (length s - (v.end + 1)) + 3) (λ b. alternatives b d v.symbols (drop (v.end + 1) s)) Y
        alternative_next Y o = go o.bound o.enough o.continues
          where
            go : (b : ℕ) → 3 * (length s - i) + 3 ≤ b → Continues in_alternatives o.automaton (alternatives b d n (drop i s)) Y
                → Onward in_alternatives g2 before between (3 * (length s - (v.end + 1)) + 3) (λ b. alternatives b d v.symbols (drop (v.end + 1) s)) Y
            go zero le c = absurd (omega arith)
            go (suc b) le c =
                let x = part_good s links between r (sequence b d n (drop i s)) v (read b (omega arith)) q in
                let inside = within (not-false t bars) in
                let shorter = sequence_further s i d n read q in
                let z : alternatives (suc b) d n (drop i s) ≡ alternative_to x.regex (alternatives b d v.symbols (drop (v.end + 1) s)) =
                alternatives_read b d n v.symbols (drop i s) (drop v.end s) x.regex (inv test ∙ not-false t bars) x.reads
                ∙ ap (λ (w : List ℕ). alternative_to x.regex (alternatives b d v.symbols w)) (drop_next s v.end) in
                record {
                  automaton = in_alternatives o.automaton (automaton_of x.regex);
                  sets = joined_sets o.automaton x.regex o.sets x.sets;
                  added = adds_both o.added x.links;
                  bound = b;
                  enough = omega (arith, shorter, inside);
                  continues =
                      alternative_joined o.automaton x.regex (alternatives b d v.symbols (drop (v.end + 1) s)) Y
                      (subst (λ (X : Reading Part). Continues in_alternatives o.automaton X Y) z c);
                }

        pub alternating_next : Alternating s at d k before (v.end + 1) v.symbols g2 between
        alternating_next = record {
          onward = λ f le. alternative_next (alternatives f d k (drop at s)) (here.onward f le);
          further = omega (arith, here.further, sequence_further s i d n read q);
          all = sequence_all s i d n links between read;
        }
