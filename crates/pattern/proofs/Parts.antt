-- One law for each way out of the readers of a pattern's items and of the whole pattern. Assumes nothing.
use mathlib.Core.Path.{◌≡◌, refl, ap, subst, sym as inv, ◌∙◌}
use mathlib.Core.List.{List}
use mathlib.Core.Bool.{Bool, true, false, not}
use mathlib.Core.Option.{Option as Parsed, none, some}
use Rattle.std.specs.Prelude.{Option, Some, None}
use Prim.Native.Nat.{ℕ, zero, suc, ◌≤◌, ◌<◌, ◌+◌, ◌*◌, ◌-◌}
use native.Mathlib.Omega.{arith}
use borrow.Author.Tests.{lt-ltb, le-ltb, le-leb, lt-leb, not-true, not-false}
use lib.ListN.{length, drop, length-drop, drop_of_length-le}
use Rattle.base.proofs.Lists.{left_next}
use Rattle.pattern.specs.declared.fragment.Fragment.{Fragment}
use Rattle.pattern.specs.declared.reader.PartRead.{PartRead}
use Rattle.pattern.specs.Regex.{Symbol, stands_for, Regex, sym, opt, plus, star}
use Rattle.pattern.specs.Character.{open_group, close_group, asterisk, plus_sign, question_mark, starts_with}
use Rattle.pattern.specs.Reading.{Reading, malformed, front, symbol, Part, part, repeated, symbol_item, alternatives, sequence, item, enough, parse}
use Rattle.pattern.specs.Automaton.{automaton_of, over, symbol_fragment, optional_fragment}
use Rattle.pattern.specs.Links.{Adds}
use Rattle.pattern.specs.Answers.{bad, good, GivesSymbol, GivesPart, part_to, bad_part, good_part, ReadsRepeat, ReadsAlternatives, ReadsSequence, ReadsItem, GivesPattern, bad_pattern, good_pattern}
use Rattle.pattern.proofs.Automata.{adds_nothing, adds_both}
use Rattle.pattern.proofs.Offsets.{drop_next}
use Rattle.pattern.proofs.Sets.{Leaves, left_less}
use Rattle.pattern.proofs.Leaves.{sequence_leaves, item_leaves}

-- ---- what an answer tells of the reading

pub symbol_bad : (s : List ℕ) (c : ℕ) (r : Option (ℕ × Bool)) (X : Reading Symbol) → GivesSymbol s c r X → r ≡ None → X ≡ malformed
symbol_bad s c r X bad q = refl
symbol_bad s c r X good q = absurd (let z : ◌≡◌ {A = ℕ} 0 1 = cc in omega arith)

pub symbol_good : (s : List ℕ) (c : ℕ) (r : Option (ℕ × Bool)) (X : Reading Symbol) (e : ℕ) (hit : Bool) → GivesSymbol s c r X → r ≡ Some (e, hit)
    → (p : Symbol) × (X ≡ front p (drop e s)) × (stands_for p c ≡ hit)
symbol_good s c r X e hit bad q = absurd (let z : ◌≡◌ {A = ℕ} 0 1 = cc in omega arith)
symbol_good s c r X e hit (good {e = k} {a = p}) q =
    let w : ◌≡◌ {A = ℕ × Bool} (k, stands_for p c) (e, hit) = cc in
    (p, ap (λ (v : ℕ × Bool). front p (drop v.0 s)) w, ap (λ (v : ℕ × Bool). v.1) w)

-- what is read of a part, and what the links get of it
pub record Taken (s before after : List ℕ) (X : Reading Part) (e m : ℕ) (g : Fragment) : Type 0 where
  pub regex : Regex ℕ
  pub reads : X ≡ part regex m (drop e s)
  pub sets : g ≡ (automaton_of regex).sets
  pub links : Adds (automaton_of regex).next before after

module _ (s before after : List ℕ) where
  pub part_bad : (r : Option PartRead) (X : Reading Part) → GivesPart s before after r X → r ≡ None → X ≡ malformed
  part_bad r X (bad_part a) q = refl
  part_bad r X (good_part a) q = absurd (let z : ◌≡◌ {A = ℕ} 0 1 = cc in omega arith)

  pub part_good : (r : Option PartRead) (X : Reading Part) (v : PartRead) → GivesPart s before after r X → r ≡ Some v → Taken s before after X v.end v.symbols v.sets
  part_good r X v (bad_part a) q = absurd (let z : ◌≡◌ {A = ℕ} 0 1 = cc in omega arith)
  part_good r X v (good_part {e = k} {p = p} a) q =
      let w : part_to k p.symbols (automaton_of p.regex).sets ≡ v = cc in
      record {
        regex = p.regex;
        reads = λ i. part p.regex (w i).symbols (drop (w i).end s);
        sets = inv (ap (λ (u : PartRead). u.sets) w);
        links = a;
      }

  -- the links are as many as before
  pub part_all : (r : Option PartRead) (X : Reading Part) → GivesPart s before after r X → length after ≡ 64
  part_all r X (bad_part a) = a
  part_all r X (good_part a) = a.all

  pub gives_part : (e m : ℕ) (g : Fragment) (a : Regex ℕ) → g ≡ (automaton_of a).sets → Adds (automaton_of a).next before after
      → GivesPart s before after (Some (part_to e m g)) (part a m (drop e s))
  gives_part e m g a q l = rw q (good_part l)

-- ---- a sign after a part

module _ (s : List ℕ) (at k : ℕ) (g : Fragment) (before : List ℕ) {t : Bool} (asterisks : t ≡ starts_with asterisk (drop at s)) where
  pub repeat_star : {after : List ℕ} → t ≡ true → Adds (over g.last g.first) before after → {g1 : Fragment} → g1 ≡ optional_fragment g
      → ReadsRepeat s at k g before after (part_to (at + 1) k g1)
  unfolding repeated automaton_of
  repeat_star {after} n l {g1} q a start e h =
      let z : g1 ≡ (automaton_of (star a)).sets = q ∙ ap optional_fragment e in
      rw (← asterisks, n, drop_next s at)
      (gives_part s start after (at + 1) k g1 (star a) z
      (adds_both h (subst (λ (f : Fragment). Adds (over f.last f.first) before after) e l)))

  module _ (n : t ≡ false) {t2 : Bool} (pluses : t2 ≡ starts_with plus_sign (drop at s)) where
    pub repeat_plus : {after : List ℕ} → t2 ≡ true → Adds (over g.last g.first) before after → ReadsRepeat s at k g before after (part_to (at + 1) k g)
    unfolding repeated automaton_of
    repeat_plus {after} n2 l a start e h =
        rw (← asterisks, n, ← pluses, n2, drop_next s at)
        (gives_part s start after (at + 1) k g (plus a) e
        (adds_both h (subst (λ (f : Fragment). Adds (over f.last f.first) before after) e l)))

    module _ (n2 : t2 ≡ false) {t3 : Bool} (questions : t3 ≡ starts_with question_mark (drop at s)) where
      pub repeat_optional : t3 ≡ true → {g1 : Fragment} → g1 ≡ optional_fragment g → ReadsRepeat s at k g before before (part_to (at + 1) k g1)
      unfolding repeated automaton_of
      repeat_optional n3 {g1} p a start e h =
          let z : g1 ≡ (automaton_of (opt a)).sets = p ∙ ap optional_fragment e in
          rw (← asterisks, n, ← pluses, n2, ← questions, n3, drop_next s at) (gives_part s start before (at + 1) k g1 (opt a) z h)

      pub repeat_none : t3 ≡ false → ReadsRepeat s at k g before before (part_to at k g)
      unfolding repeated
      repeat_none n3 a start e h = rw (← asterisks, n, ← pluses, n2, ← questions, n3) (gives_part s start before at k g a e h)

-- ---- a symbol with its sign

module _ (s : List ℕ) (at k : ℕ) (before : List ℕ) (all : length before ≡ 64) where
  pub symbol_full : 60 ≤ k → GivesPart s before before None (symbol_item k (drop at s))
  unfolding symbol_item
  symbol_full h = rw (le-ltb _ _ h) (bad_part all)

  module _ (room : k < 60) (c : ℕ) {y : Option (ℕ × Bool)} (read : GivesSymbol s c y (symbol (drop at s))) where
    pub symbol_none : y ≡ None → GivesPart s before before None (symbol_item k (drop at s))
    unfolding symbol_item
    symbol_none q = rw (lt-ltb _ _ room, symbol_bad s c y (symbol (drop at s)) read q) (bad_part all)

    pub symbol_item_rule : {e : ℕ} {hit : Bool} → y ≡ Some (e, hit) → {g : Fragment} → g ≡ symbol_fragment k
        → {after : List ℕ} {r : PartRead} → ReadsRepeat s e (k + 1) g before after r → GivesPart s before after (Some r) (symbol_item k (drop at s))
    unfolding symbol_item automaton_of
    symbol_item_rule {e} {hit} q {g} h rest =
        let x = symbol_good s c y (symbol (drop at s)) e hit read q in
        rw (lt-ltb _ _ room, x.1) (rest (sym k x.0) before h (adds_nothing before all))

-- ---- a sequence leaves no more than there was, an item leaves less

module _ (s : List ℕ) (at d k : ℕ) {before after : List ℕ} {r : Option PartRead} where
  pub sequence_further : {v : PartRead} → ReadsSequence s at d k before after r → r ≡ Some v → length s - v.end ≤ length s - at
  sequence_further {v} h q =
      let f = 3 * (length s - at) + 2 in
      let x = part_good s before after r (sequence f d k (drop at s)) v (h f (omega arith)) q in
      let l = left_less (subst (λ (X : Reading Part). Leaves (suc (length (drop at s))) X) x.reads (sequence_leaves f d k (drop at s))) in
      omega (arith, length-drop v.end s, length-drop at s)

  pub item_further : {v : PartRead} → ReadsItem s at d k before after r → r ≡ Some v → length s - v.end < length s - at
  item_further {v} h q =
      let f = 3 * (length s - at) + 1 in
      let x = part_good s before after r (item f d k (drop at s)) v (h f (omega arith)) q in
      let l = left_less (subst (λ (X : Reading Part). Leaves (length (drop at s)) X) x.reads (item_leaves f d k (drop at s))) in
      omega (arith, length-drop v.end s, length-drop at s)

-- ---- items

module _ (s : List ℕ) (at d k : ℕ) (before : List ℕ) {t : Bool} (test : t ≡ starts_with open_group (drop at s)) where
  pub item_symbol : not t ≡ true → {after : List ℕ} {r : Option PartRead} → GivesPart s before after r (symbol_item k (drop at s)) → ReadsItem s at d k before after r
  unfolding item
  item_symbol n g zero le = absurd (omega arith)
  item_symbol n g (suc f) le = rw (← test, not-true t n, item) g

  module _ (within : t ≡ true → at < length s) (n : not t ≡ false) where
    pub item_deep : length before ≡ 64 → 8 ≤ d → ReadsItem s at d k before before None
    unfolding item
    item_deep all h zero le = absurd (omega arith)
    item_deep all h (suc f) le = rw (← test, not-false t n, le-ltb _ _ h, item) (bad_part all)

    module _ (room : d < 8) {between : List ℕ} {r : Option PartRead} (read : ReadsAlternatives s (at + 1) (d + 1) k before between r) where
      pub group_bad : r ≡ None → {z : Option PartRead} → z ≡ None → ReadsItem s at d k before between z
      unfolding item
      group_bad q e zero le = absurd (omega arith)
      group_bad q e (suc f) le =
          let w = within (not-false t n) in
          let x = part_bad s before between r (alternatives f (d + 1) k (drop (at + 1) s)) (read f (omega arith)) q in
          let a = part_all s before between r (alternatives f (d + 1) k (drop (at + 1) s)) (read f (omega arith)) in
          rw (e, ← test, not-false t n, lt-ltb _ _ room, drop_next s at, x, item) (bad_part a)

      module _ {v : PartRead} (q : r ≡ Some v) {t2 : Bool} (closes : t2 ≡ starts_with close_group (drop v.end s)) where
        pub group_open : not t2 ≡ true → ReadsItem s at d k before between None
        unfolding item
        group_open n2 zero le = absurd (omega arith)
        group_open n2 (suc f) le =
            let w = within (not-false t n) in
            let x = part_good s before between r (alternatives f (d + 1) k (drop (at + 1) s)) v (read f (omega arith)) q in
            rw (← test, not-false t n, lt-ltb _ _ room, drop_next s at, x.reads, ← closes, not-true t2 n2, item) (bad_part x.links.all)

        pub group_closed : not t2 ≡ false → {after : List ℕ} {r2 : PartRead} → ReadsRepeat s (v.end + 1) v.symbols v.sets between after r2 → ReadsItem s at d k before after (Some r2)
        unfolding item
        group_closed n2 rest zero le = absurd (omega arith)
        group_closed n2 rest (suc f) le =
            let w = within (not-false t n) in
            let x = part_good s before between r (alternatives f (d + 1) k (drop (at + 1) s)) v (read f (omega arith)) q in
            rw (← test, not-false t n, lt-ltb _ _ room, drop_next s at, x.reads, ← closes, not-false t2 n2, drop_next s v.end, item)
            (rest x.regex before x.sets x.links)

-- ---- the links are as many as before

module _ (s : List ℕ) (at d k : ℕ) (before after : List ℕ) {r : Option PartRead} where
  pub alternatives_all : ReadsAlternatives s at d k before after r → length after ≡ 64
  alternatives_all read = let f = 3 * (length s - at) + 3 in part_all s before after r (alternatives f d k (drop at s)) (read f (omega arith))

  pub sequence_all : ReadsSequence s at d k before after r → length after ≡ 64
  sequence_all read = let f = 3 * (length s - at) + 2 in part_all s before after r (sequence f d k (drop at s)) (read f (omega arith))

  pub item_all : ReadsItem s at d k before after r → length after ≡ 64
  item_all read = let f = 3 * (length s - at) + 1 in part_all s before after r (item f d k (drop at s)) (read f (omega arith))

-- ---- the whole pattern

module _ (s before : List ℕ) where
  pub pattern_long : length before ≡ 64 → 256 < length s → GivesPattern before before None (parse s)
  unfolding parse
  pattern_long all h = rw (lt-leb _ _ h) (bad_pattern all)

  module _ (short : length s ≤ 256) {after : List ℕ} {r : Option PartRead} (read : ReadsAlternatives s 0 0 0 before after r) where
    pub pattern_bad : r ≡ None → GivesPattern before after None (parse s)
    unfolding parse
    pattern_bad q = rw (le-leb _ _ short, part_bad s before after r (alternatives (enough s) 0 0 s) (read (enough s) (omega arith)) q)
        (bad_pattern (alternatives_all s 0 0 0 before after read))

    module _ {v : PartRead} (q : r ≡ Some v) where
      pub pattern_rest : v.end < length s → GivesPattern before after None (parse s)
      unfolding parse
      pattern_rest h =
          let x = part_good s before after r (alternatives (enough s) 0 0 s) v (read (enough s) (omega arith)) q in
          rw (le-leb _ _ short, x.reads, left_next s v.end h) (bad_pattern x.links.all)

      pub pattern_whole : length s ≤ v.end → GivesPattern before after (Some v.sets) (parse s)
      unfolding parse
      pattern_whole h =
          let x = part_good s before after r (alternatives (enough s) 0 0 s) v (read (enough s) (omega arith)) q in
          rw (le-leb _ _ short, x.reads, drop_of_length-le s h)
          (subst (λ (u : Fragment). GivesPattern before after (Some u) (some x.regex)) (inv x.sets) (good_pattern x.links))

-- ---- what the whole answer tells

pub record Whole (before after : List ℕ) (X : Parsed (Regex ℕ)) (g : Fragment) : Type 0 where
  pub regex : Regex ℕ
  pub reads : X ≡ some regex
  pub sets : g ≡ (automaton_of regex).sets
  pub links : Adds (automaton_of regex).next before after

module _ (before after : List ℕ) where
  pub no_pattern : (r : Option Fragment) (X : Parsed (Regex ℕ)) → GivesPattern before after r X → r ≡ None → X ≡ none
  no_pattern r X (bad_pattern a) q = refl
  no_pattern r X (good_pattern a) q = absurd (let z : ◌≡◌ {A = ℕ} 0 1 = cc in omega arith)

  pub pattern_all : (r : Option Fragment) (X : Parsed (Regex ℕ)) → GivesPattern before after r X → length after ≡ 64
  pattern_all r X (bad_pattern a) = a
  pattern_all r X (good_pattern a) = a.all

  pub is_pattern : (r : Option Fragment) (X : Parsed (Regex ℕ)) (g : Fragment) → GivesPattern before after r X → r ≡ Some g → Whole before after X g
  is_pattern r X g (bad_pattern a) q = absurd (let z : ◌≡◌ {A = ℕ} 0 1 = cc in omega arith)
  is_pattern r X g (good_pattern {r = x} a) q = record { regex = x; reads = refl; sets = (cc); links = a }
