-- One law for each way out of the matcher, and for a step of its loop. Assumes nothing.
use mathlib.Core.Path.{◌≡◌, refl, ap, subst, sym as inv, ◌∙◌}
use mathlib.Core.List.{List, [], ◌∷◌}
use mathlib.Core.Option.{Option as Parsed, none, some}
use Rattle.std.specs.Prelude.{Option, Some, None}
use mathlib.Core.Bool.{Bool, false, not, ◌&&◌, ◌||◌, or-false}
use Prim.Native.Nat.{ℕ, ◌≤◌, ◌+◌}
use native.Mathlib.Omega.{arith}
use lib.ListN.{length, get_or, replicate}
use lib.Bits.{bit_or, bit_and, or_zero_l}
use lib.Dec.{eqb}
use borrow.Author.Tests.{ne_eqb}
use Rattle.base.specs.Bits.{bit}
use Rattle.base.proofs.Bits.{bit_zero}
use Rattle.encoding.specs.WellFormed.{sequence_at}
use Rattle.encoding.specs.Scalar.{scalar_at}
use Rattle.encoding.specs.Characters.{characters_from, characters}
use Rattle.encoding.proofs.Characters.{characters_next, characters_stop, characters_end, characters_fewer}
use Rattle.pattern.specs.declared.fragment.Fragment.{Fragment}
use Rattle.pattern.specs.Regex.{Regex}
use Rattle.pattern.specs.Reading.{parse}
use Rattle.pattern.specs.Automaton.{automaton_of}
use Rattle.pattern.specs.Links.{leads, Gathers}
use Rattle.pattern.specs.Hits.{Hits, stands_at}
use Rattle.pattern.specs.Answers.{GivesPattern}
use Rattle.pattern.proofs.Below.{any_same, any_none}
use Rattle.pattern.proofs.Listed.{Stands, pattern_lists}
use Rattle.pattern.proofs.Parts.{no_pattern, is_pattern}
use Rattle.matcher.specs.declared.live.Live.{Live}
use Rattle.matcher.specs.declared.matcher.Matched.{Matched}
use Rattle.matcher.specs.declared.recent.Recent.{Recent}
use Rattle.matcher.specs.declared.remembered.Memory.{Memory}
use Rattle.matcher.specs.Live.{initial, accepted, next_set, Kept, Steps}
use Rattle.matcher.specs.Matcher.{like_of, match_of, Linked}
use Rattle.matcher.specs.Recent.{Recalls}
use Rattle.matcher.specs.Remembered.{Remembers}
use Rattle.matcher.specs.Run.{with_live, run, likes}
use Rattle.matcher.proofs.Memory.{zero_at}
use Rattle.matcher.proofs.Numbering.{NumberedPattern, no_pattern as unnumbered, a_pattern, parse_numbered}
use Rattle.matcher.proofs.Runs.{rest_of, Ready, rest_step, rest_live, rest_dead, rest_last, rest_end, rest_start}
use Rattle.matcher.proofs.Steps.{Numbered}

pub start_kept : (links : List ℕ) {st : Live} {first : ℕ} → st ≡ initial first → Kept links st
start_kept links e = subst (Kept links) (inv e) (record { from_set = λ z. absurd (z refl); room = omega arith })

-- ---- the pattern

-- the links that a reading leaves where there were none before are the pattern's
module _ (p : List ℕ) {links : List ℕ} {r : Option Fragment} (read : GivesPattern (replicate 64 0) links r (parse p)) where
  pub linked : {whole : Fragment} → r ≡ Some whole → Linked (parse p) whole links
  linked {whole} q =
      let x = is_pattern (replicate 64 0) links r (parse p) whole read q in
      record {
        regex = x.regex;
        is = x.reads;
        sets = x.sets;
        next = λ j l. x.links.each j l ∙ ap (λ (n : ℕ). bit_or n ((automaton_of x.regex).next j)) (zero_at 64 j) ∙ or_zero_l ((automaton_of x.regex).next j);
        all = x.links.all;
      }

  unlinked : r ≡ None → parse p ≡ none
  unlinked q = no_pattern (replicate 64 0) links r (parse p) read q

  pub match_none : r ≡ None → (s : List ℕ) {n : ℕ} → n ≡ length (characters_from s 0) → ◌≡◌ {A = Matched} (record { holds = false; characters = n }) (match_of p s)
  match_none q s e = rw (unlinked q, e)

  pub one_none : r ≡ None → (c : ℕ) → false ≡ like_of (parse p) (c ∷ [])
  one_none q c = rw (unlinked q)

numbered : (X : Parsed (Regex ℕ)) (r : Regex ℕ) → X ≡ some r → NumberedPattern X → (m : ℕ) × Numbered r 0 m
numbered X r e (a_pattern {r = q} m n) = let z : q ≡ r = cc in (m, subst (λ (x : Regex ℕ). Numbered x 0 m) z n)
numbered X r e unnumbered = absurd (let z : ◌≡◌ {A = ℕ} 0 1 = cc in omega arith)

module _ (p : List ℕ) (whole : Fragment) (links : List ℕ) (tables : Linked (parse p) whole links) where
  -- ---- the state

  same_leads : (S i : ℕ) → leads (λ j. get_or links j 0) S i ≡ leads (automaton_of tables.regex).next S i
  same_leads S i =
      any_same 64 (λ j. bit S j && bit (get_or links j 0) i) (λ j. bit S j && bit ((automaton_of tables.regex).next j) i)
      (λ j l. ap (λ (n : ℕ). bit S j && bit n i) (tables.next j l))

  ready_start : {st : Live} → st ≡ initial whole.first → Ready tables.regex st
  ready_start {st} e = subst (λ (x : Live). Ready tables.regex x) (inv e) λ i.
      ap (λ (f : Fragment). bit f.first i) tables.sets
      ∙ ap (λ (b : Bool). b || bit (automaton_of tables.regex).sets.first i)
      (inv (any_none 64 (λ j. bit 0 j && bit ((automaton_of tables.regex).next j) i) (λ j. ap (λ (b : Bool). b && bit ((automaton_of tables.regex).next j) i) (bit_zero j))))

  ready_begun : (st : Live) → (st.set ≡ 0 → ⊥) → Gathers links st.set st.onward → Ready tables.regex st
  ready_begun st z g i =
      g i
      ∙ same_leads st.set i
      ∙ inv (or-false (leads (automaton_of tables.regex).next st.set i))
      ∙ ap (λ (x : Bool). leads (automaton_of tables.regex).next st.set i || (not (not x) && bit (automaton_of tables.regex).sets.first i)) (inv (ne_eqb st.set 0 z))

  stands : (c hit : ℕ) → Hits p c hit → Stands tables.regex (bit hit) c
  stands c hit h = let x = pattern_lists p tables.regex tables.is in x.stands (bit hit) c (λ i l. h x.symbols x.lists i l)

  liked : (w : List ℕ) → likes tables.regex w ≡ like_of (parse p) w
  liked w = ap (λ (X : Parsed (Regex ℕ)). like_of X w) (inv tables.is)

  stepped : (st : Live) (c hit : ℕ) (w : List ℕ) → Ready tables.regex st → Hits p c hit
      → rest_of tables.regex st (c ∷ w) ≡ run (with_live (bit (next_set st hit)) tables.regex) w
  stepped st c hit w ready h =
      let n = numbered (parse p) tables.regex tables.is (parse_numbered p) in
      rest_step tables.regex n.0 n.1 st c hit w (stands c hit h) ready

  ended : (st : Live) → rest_of tables.regex st [] ≡ accepted whole st
  ended st =
      let x = pattern_lists p tables.regex tables.is in
      rest_end tables.regex (λ i. stands_at x.symbols i 0) 0 (x.stands (λ i. stands_at x.symbols i 0) 0 (λ i l. refl)) whole tables.sets st

  -- ---- a text of one character

  pub match_one : (c hit : ℕ) → Hits p c hit → {st : Live} → st ≡ initial whole.first → {set : ℕ} → set ≡ next_set st hit
      → not (eqb (bit_and set whole.last) 0) ≡ like_of (parse p) (c ∷ [])
  match_one c hit h es e =
      ap (λ (S : ℕ). not (eqb (bit_and S whole.last) 0)) (e ∙ ap (λ (x : Live). next_set x hit) es)
      ∙ ap (λ (f : Fragment). not (eqb (bit_and (bit_and whole.first hit) f.last) 0)) tables.sets
      ∙ inv (rest_last tables.regex (bit hit) c (stands c hit h) (bit_and whole.first hit))
      ∙ inv (stepped (initial whole.first) c hit [] (ready_start refl) h)
      ∙ rest_start tables.regex whole.first (c ∷ [])
      ∙ liked (c ∷ [])

  -- ---- a text

  module _ (s : List ℕ) where
    -- where the loop stands: what is left of the text decides, and its characters are those counted and those left
    pub record Reached (st : Live) (at count : ℕ) : Type 0 where
      pub decides : rest_of tables.regex st (characters_from s at) ≡ likes tables.regex (characters s)
      pub counted : count + length (characters_from s at) ≡ length (characters s)
      pub fewer : count ≤ at
      pub ready : Ready tables.regex st
      pub kept : Kept links st

    pub reached_start : {st : Live} → st ≡ initial whole.first → Reached st 0 0
    reached_start h = record {
      decides = ap (λ (x : Live). rest_of tables.regex x (characters s)) h ∙ rest_start tables.regex whole.first (characters s);
      counted = omega arith;
      fewer = omega arith;
      ready = ready_start h;
      kept = start_kept links h;
    }

    module _ {st : Live} {at count : ℕ} (here : Reached st at count) where
      module _ (n hit : ℕ) (h : n ≡ sequence_at s at) (z : n ≡ 0 → ⊥) (hits : Hits p (scalar_at s at) hit) {set : ℕ} (is : set ≡ next_set st hit) where
        next_characters : characters_from s at ≡ scalar_at s at ∷ characters_from s (at + n)
        next_characters = characters_next s at (λ e. z (h ∙ e)) ∙ ap (λ (j : ℕ). scalar_at s at ∷ characters_from s (at + j)) (inv h)

        -- what is left decides, with the symbols live that might come and stand for the character
        next_decides : run (with_live (bit set) tables.regex) (characters_from s (at + n)) ≡ likes tables.regex (characters s)
        next_decides =
            ap (λ (S : ℕ). run (with_live (bit S) tables.regex) (characters_from s (at + n))) is
            ∙ inv (stepped st (scalar_at s at) hit (characters_from s (at + n)) here.ready hits)
            ∙ ap (λ (l : List ℕ). rest_of tables.regex st l) (inv next_characters)
            ∙ here.decides

        pub reached_next : {next : Live} → (set ≡ 0 → ⊥) → Steps links set next → Reached next (at + n) (count + 1)
        reached_next {next} live k =
            let some-live : next.set ≡ 0 → ⊥ = λ e. live (inv k.moves ∙ e) in
            record {
              decides =
                  inv (rest_live tables.regex next (characters_from s (at + n)) some-live)
                  ∙ ap (λ (S : ℕ). run (with_live (bit S) tables.regex) (characters_from s (at + n))) k.moves
                  ∙ next_decides;
              counted = omega (arith, here.counted, ap length next_characters);
              fewer = omega (arith, here.fewer, z);
              ready = ready_begun next some-live (k.keeps.from_set some-live);
              kept = k.keeps;
            }

        pub match_dead : {r : ℕ} → set ≡ 0 → r ≡ length (characters_from s at) → ◌≡◌ {A = Matched} (record { holds = false; characters = count + r }) (match_of p s)
        match_dead {r} none' e =
            let x : false ≡ like_of (parse p) (characters s) =
            inv (rest_dead tables.regex (characters_from s (at + n)))
            ∙ ap (λ (S : ℕ). run (with_live (bit S) tables.regex) (characters_from s (at + n))) (inv none')
            ∙ next_decides
            ∙ liked (characters s) in
            let y : count + r ≡ length (characters s) = omega (arith, here.counted, e) in
            λ i. record { holds = x i; characters = y i }

      match_at : {r : Bool} → characters_from s at ≡ [] → r ≡ accepted whole st → ◌≡◌ {A = Matched} (record { holds = r; characters = count }) (match_of p s)
      match_at {r} e q =
          let x : r ≡ like_of (parse p) (characters s) =
          q ∙ inv (ended st) ∙ ap (λ (l : List ℕ). rest_of tables.regex st l) (inv e) ∙ here.decides ∙ liked (characters s) in
          let y : count ≡ length (characters s) = omega (arith, here.counted, ap length e) in
          λ i. record { holds = x i; characters = y i }

      pub match_stop : {n : ℕ} {r : Bool} → n ≡ sequence_at s at → n ≡ 0 → r ≡ accepted whole st
          → ◌≡◌ {A = Matched} (record { holds = r; characters = count }) (match_of p s)
      match_stop h z q = match_at (characters_stop s at (inv h ∙ z)) q

      pub match_end : {r : Bool} → length s ≤ at → r ≡ accepted whole st → ◌≡◌ {A = Matched} (record { holds = r; characters = count }) (match_of p s)
      match_end h q = match_at (characters_end s at h) q

-- ---- the loop, with its tables and its memory

pub record Matching (p : List ℕ) (whole : Fragment) (links s : List ℕ) (words : Memory) (recent : Recent) (st : Live) (at count : ℕ) : Type 0 where
  pub tables : Linked (parse p) whole links
  pub reached : Reached p whole links tables s st at count
  pub memory : Remembers p words
  pub recalls : Recalls links recent

pub matching_start : (p : List ℕ) (whole : Fragment) (links s : List ℕ) (words : Memory) (recent : Recent) {st : Live} → Linked (parse p) whole links × Remembers p words × Recalls links recent
    → st ≡ initial whole.first → Matching p whole links s words recent st 0 0
matching_start p whole links s words recent t e = record { tables = t.0; reached = reached_start p whole links t.0 s e; memory = t.1; recalls = t.2 }

module _ {p : List ℕ} {whole : Fragment} {links s : List ℕ} {words : Memory} {recent : Recent} {st : Live} {at count : ℕ} (here : Matching p whole links s words recent st at count) where
  -- no more characters are counted than there are bytes
  pub matching_fewer : {r : ℕ} → r ≡ length (characters_from s at) → count + r ≤ length s
  matching_fewer e = omega (arith, here.reached.counted, characters_fewer s 0, e)

  module _ (n hit : ℕ) (h : n ≡ sequence_at s at) (z : n ≡ 0 → ⊥) {more : Memory} (hits : Hits p (scalar_at s at) hit × Remembers p more) {set : ℕ} (is : set ≡ next_set st hit) where
    pub matching_next : {next : Live} {later : Recent} → (set ≡ 0 → ⊥) → Steps links set next × Recalls links later
        → Matching p whole links s more later next (at + n) (count + 1)
    matching_next live k = record {
      tables = here.tables;
      reached = reached_next p whole links here.tables s here.reached n hit h z hits.0 is live k.0;
      memory = hits.1;
      recalls = k.1;
    }

    pub matched_dead : {r : ℕ} → set ≡ 0 → r ≡ length (characters_from s at) → ◌≡◌ {A = Matched} (record { holds = false; characters = count + r }) (match_of p s)
    matched_dead none' e = match_dead p whole links here.tables s here.reached n hit h z hits.0 is none' e

  pub matched_stop : {n : ℕ} {r : Bool} → n ≡ sequence_at s at → n ≡ 0 → r ≡ accepted whole st → ◌≡◌ {A = Matched} (record { holds = r; characters = count }) (match_of p s)
  matched_stop h z q = match_stop p whole links here.tables s here.reached h z q

  pub matched_end : {r : Bool} → length s ≤ at → r ≡ accepted whole st → ◌≡◌ {A = Matched} (record { holds = r; characters = count }) (match_of p s)
  matched_end h q = match_end p whole links here.tables s here.reached h q
