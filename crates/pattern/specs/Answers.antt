-- What the readers' answers say: they are what the definitions of specs/Reading read, and the characters after it start at the offset given.
use Rattle.std.specs.Prelude.{Bool, ◌||◌, List, ◌≡◌, ℕ, ◌+◌, ◌*◌, ◌-◌, ◌≤◌, ◌<◌, length, drop, Option, Some, None}
use Rattle.std.proofs.Math.Option.{Option as Parsed, none, some}
use Rattle.pattern.specs.declared.fragment.Fragment.{Fragment}
use Rattle.pattern.specs.declared.reader.PartRead.{PartRead}
use Rattle.pattern.specs.Regex.{Range, Symbol, in_ranges, stands_for, Regex}
use Rattle.pattern.specs.Reading.{Reading, malformed, front, Part, members, alternatives, sequence, item, repeated}
use Rattle.pattern.specs.Automaton.{automaton_of}
use Rattle.pattern.specs.Links.{Adds}

-- the answer None where nothing can be read, else one made of what was read and of the offset of the characters after it
pub data Gives {A B : Type 0} (s : List ℕ) (yes : ℕ → A → B) : Option B → Reading A → Type 0 where
  bad : Gives s yes None malformed
  good : {e : ℕ} {a : A} → Gives s yes (Some (yes e a)) (front a (drop e s))

abbrev pub GivesMember : List ℕ → Option (ℕ × ℕ) → Reading ℕ → Type 0
GivesMember s = Gives s (λ e x. (e, x))

abbrev pub GivesRange : List ℕ → Option (ℕ × ℕ × ℕ) → Reading Range → Type 0
GivesRange s = Gives s (λ e r. (e, r.low, r.high))

-- of a symbol only whether it stands for the character c is told
abbrev pub GivesSymbol : List ℕ → ℕ → Option (ℕ × Bool) → Reading Symbol → Type 0
GivesSymbol s c = Gives s (λ e p. (e, stands_for p c))

-- of a set's members, whether c is in them or in those before them
abbrev pub GivesMembers : List ℕ → ℕ → Bool → Option (ℕ × Bool) → Reading (List Range) → Type 0
GivesMembers s c hit = Gives s (λ e rs. (e, hit || in_ranges rs c))

abbrev pub part_to : ℕ → ℕ → Fragment → PartRead
part_to e k sets = record { end = e; symbols = k; sets = sets }

-- of a part, its sets; what follows its symbols is put into the links
pub data GivesPart (s before after : List ℕ) : Option PartRead → Reading Part → Type 0 where
  bad_part : length after ≡ 64 → GivesPart s before after None malformed
  good_part : {e : ℕ} {p : Part} → Adds (automaton_of p.regex).next before after
      → GivesPart s before after (Some (part_to e p.symbols (automaton_of p.regex).sets)) (front p (drop e s))

-- the same from an offset on, at any bound on the depth of the calls that is large enough
abbrev pub ReadsMembers : List ℕ → ℕ → ℕ → Bool → Option (ℕ × Bool) → Type 0
ReadsMembers s at c hit r = (f : ℕ) → length s - at < f → GivesMembers s c hit r (members f (drop at s))

abbrev pub ReadsAlternatives : List ℕ → ℕ → ℕ → ℕ → List ℕ → List ℕ → Option PartRead → Type 0
ReadsAlternatives s at d k before after r = (f : ℕ) → 3 * (length s - at) + 3 ≤ f → GivesPart s before after r (alternatives f d k (drop at s))

abbrev pub ReadsSequence : List ℕ → ℕ → ℕ → ℕ → List ℕ → List ℕ → Option PartRead → Type 0
ReadsSequence s at d k before after r = (f : ℕ) → 3 * (length s - at) + 2 ≤ f → GivesPart s before after r (sequence f d k (drop at s))

abbrev pub ReadsItem : List ℕ → ℕ → ℕ → ℕ → List ℕ → List ℕ → Option PartRead → Type 0
ReadsItem s at d k before after r = (f : ℕ) → 3 * (length s - at) + 1 ≤ f → GivesPart s before after r (item f d k (drop at s))

-- the sign after a part is taken with it, whatever the part is
abbrev pub ReadsRepeat : List ℕ → ℕ → ℕ → Fragment → List ℕ → List ℕ → PartRead → Type 0
ReadsRepeat s at k g before after r =
    (a : Regex ℕ) (start : List ℕ) → g ≡ (automaton_of a).sets → Adds (automaton_of a).next start before → GivesPart s start after (Some r) (repeated a k (drop at s))

-- of the whole pattern, its sets and links
pub data GivesPattern (before after : List ℕ) : Option Fragment → Parsed (Regex ℕ) → Type 0 where
  bad_pattern : length after ≡ 64 → GivesPattern before after None none
  good_pattern : {r : Regex ℕ} → Adds (automaton_of r).next before after → GivesPattern before after (Some (automaton_of r).sets) (some r)
