-- Automata one after another and beside one another: how they are bracketed doesn't matter, and what matches the empty text alone, or nothing, adds
-- nothing. Links, each addition after the other. Assumes nothing.
use mathlib.Core.Path.{◌≡◌, refl, ap, ap₂, sym as inv, ◌∙◌}
use mathlib.Core.Bool.{Bool, true, false, ◌&&◌, ◌||◌, and-true, and_assoc, or_assoc as or-of-or}
use mathlib.Core.List.{List}
use Prim.Native.Nat.{ℕ}
use lib.Bits.{bit_or, or_zero_l, or_zero_r}
use lib.ListN.{length, get_or}
use Rattle.base.specs.Bits.{bit}
use Rattle.base.proofs.Bits.{bit_or_law, bit_zero, same_members, or_assoc}
use Rattle.pattern.specs.Automaton.{kept_if, Automaton, over, nothing, empty_text, in_sequence, in_alternatives}
use Rattle.pattern.specs.Links.{Adds}

-- ---- sets

pub bit_kept : (b : Bool) (x i : ℕ) → bit (kept_if b x) i ≡ (b && bit x i)
bit_kept true x i = refl
bit_kept false x i = bit_zero i

kept_none : (b : Bool) → kept_if b 0 ≡ 0
kept_none true = refl
kept_none false = refl

pub bit_join : (x y i : ℕ) (b : Bool) → bit (bit_or x (kept_if b y)) i ≡ (bit x i || (b && bit y i))
bit_join x y i b = bit_or_law x (kept_if b y) i ∙ ap (λ (z : Bool). bit x i || z) (bit_kept b y i)

first_assoc : (m n : Bool) (x y z : ℕ) → bit_or (bit_or x (kept_if m y)) (kept_if (m && n) z) ≡ bit_or x (kept_if m (bit_or y (kept_if n z)))
first_assoc true true x y z = or_assoc x y z
first_assoc true false x y z = or_zero_r (bit_or x y) ∙ ap (bit_or x) (inv (or_zero_r y))
first_assoc false n x y z = or_zero_r (bit_or x 0)

last_assoc : (m n : Bool) (x y z : ℕ) → bit_or z (kept_if n (bit_or y (kept_if m x))) ≡ bit_or (bit_or z (kept_if n y)) (kept_if (m && n) x)
last_assoc true true x y z = inv (or_assoc z y x)
last_assoc true false x y z = inv (or_zero_r (bit_or z 0))
last_assoc false true x y z = ap (bit_or z) (or_zero_r y) ∙ inv (or_zero_r (bit_or z y))
last_assoc false false x y z = inv (or_zero_r (bit_or z 0))

-- f, g, h: what follows within each of three parts; a, b: whether the symbol is a last one of the first and the second; x, y: a first one of the second and the third
next_digit : (f g h a b n x y : Bool)
    → ((((f || g) || (a && x)) || h) || ((b || (n && a)) && y)) ≡ ((f || ((g || h) || (b && y))) || (a && (x || (n && y))))
next_digit true g h a b n x y = refl
next_digit false true h a b n x y = refl
next_digit false false true false b n x y = refl
next_digit false false false false true n true y = or_right y
  where
    or_right : (y : Bool) → y ≡ (y || false)
    or_right true = refl
    or_right false = refl
next_digit false false false false true n false y = or_right y
  where
    or_right : (y : Bool) → y ≡ (y || false)
    or_right true = refl
    or_right false = refl
next_digit false false false false false true x y = refl
next_digit false false false false false false x y = refl
next_digit false false true true b n true y = refl
next_digit false false true true b n false y = refl
next_digit false false false true true n true true = refl
next_digit false false false true true n true false = refl
next_digit false false false true false n true y = refl
next_digit false false false true true n false true = refl
next_digit false false false true true true false false = refl
next_digit false false false true true false false false = refl
next_digit false false false true false true false y = refl
next_digit false false false true false false false y = refl

module _ (f g h fl gl gf hf : ℕ) (n : Bool) (j : ℕ) where
  next_assoc : bit_or (bit_or (bit_or (bit_or f g) (over fl gf j)) h) (over (bit_or gl (kept_if n fl)) hf j)
      ≡ bit_or (bit_or f (bit_or (bit_or g h) (over gl hf j))) (over fl (bit_or gf (kept_if n hf)) j)
  next_assoc = same_members _ _ λ i.
      bit_join (bit_or (bit_or (bit_or f g) (over fl gf j)) h) hf i (bit (bit_or gl (kept_if n fl)) j)
      ∙ ap₂ (λ (u v : Bool). u || (v && bit hf i))
      (bit_or_law (bit_or (bit_or f g) (over fl gf j)) h i ∙ ap (λ (u : Bool). u || bit h i) (bit_join (bit_or f g) gf i (bit fl j) ∙ ap (λ (u : Bool). u || (bit fl j && bit gf i)) (bit_or_law f g i)))
      (bit_join gl fl j n)
      ∙ next_digit (bit f i) (bit g i) (bit h i) (bit fl j) (bit gl j) n (bit gf i) (bit hf i)
      ∙ inv
      (bit_join (bit_or f (bit_or (bit_or g h) (over gl hf j))) (bit_or gf (kept_if n hf)) i (bit fl j)
      ∙ ap₂ (λ (u v : Bool). u || (bit fl j && v))
      (bit_or_law f (bit_or (bit_or g h) (over gl hf j)) i ∙ ap (λ (u : Bool). bit f i || u) (bit_join (bit_or g h) hf i (bit gl j) ∙ ap (λ (u : Bool). u || (bit gl j && bit hf i)) (bit_or_law g h i)))
      (bit_join gf hf i n))

-- ---- automata

pub sequence_assoc : (a b c : Automaton) → in_sequence (in_sequence a b) c ≡ in_sequence a (in_sequence b c)
sequence_assoc a b c = λ i. record {
  sets = record {
    nullable = and_assoc a.sets.nullable b.sets.nullable c.sets.nullable i;
    first = first_assoc a.sets.nullable b.sets.nullable a.sets.first b.sets.first c.sets.first i;
    last = last_assoc b.sets.nullable c.sets.nullable a.sets.last b.sets.last c.sets.last i;
  };
  next = λ j. next_assoc (a.next j) (b.next j) (c.next j) a.sets.last b.sets.last b.sets.first c.sets.first b.sets.nullable j i;
}

none_over : (first j : ℕ) → over 0 first j ≡ 0
none_over first j = ap (λ (b : Bool). kept_if b first) (bit_zero j)

pub sequence_left : (a : Automaton) → in_sequence empty_text a ≡ a
sequence_left a = λ i. record {
  sets = record {
    nullable = a.sets.nullable;
    first = or_zero_l a.sets.first i;
    last = (ap (bit_or a.sets.last) (kept_none a.sets.nullable) ∙ or_zero_r a.sets.last) i;
  };
  next = λ j. (ap₂ bit_or (or_zero_l (a.next j)) (none_over a.sets.first j) ∙ or_zero_r (a.next j)) i;
}

pub sequence_right : (a : Automaton) → in_sequence a empty_text ≡ a
sequence_right a = λ i. record {
  sets = record {
    nullable = and-true a.sets.nullable i;
    first = (ap (bit_or a.sets.first) (kept_none a.sets.nullable) ∙ or_zero_r a.sets.first) i;
    last = or_zero_l a.sets.last i;
  };
  next = λ j. (ap₂ bit_or (or_zero_r (a.next j)) (kept_none (bit a.sets.last j)) ∙ or_zero_r (a.next j)) i;
}

pub alternatives_assoc : (a b c : Automaton) → in_alternatives (in_alternatives a b) c ≡ in_alternatives a (in_alternatives b c)
alternatives_assoc a b c = λ i. record {
  sets = record {
    nullable = or-of-or a.sets.nullable b.sets.nullable c.sets.nullable i;
    first = or_assoc a.sets.first b.sets.first c.sets.first i;
    last = or_assoc a.sets.last b.sets.last c.sets.last i;
  };
  next = λ j. or_assoc (a.next j) (b.next j) (c.next j) i;
}

pub alternatives_left : (a : Automaton) → in_alternatives nothing a ≡ a
alternatives_left a = λ i. record {
  sets = record { nullable = a.sets.nullable; first = or_zero_l a.sets.first i; last = or_zero_l a.sets.last i };
  next = λ j. or_zero_l (a.next j) i;
}

-- ---- links

pub adds_nothing : (links : List ℕ) → length links ≡ 64 → Adds (λ j. 0) links links
adds_nothing links all = record { each = λ j l. inv (or_zero_r (get_or links j 0)); all = all }

pub adds_both : {f g : ℕ → ℕ} {before between after : List ℕ} → Adds f before between → Adds g between after → Adds (λ j. bit_or (f j) (g j)) before after
adds_both {f} {g} {before} p q = record {
  each = λ j l. q.each j l ∙ ap (λ (x : ℕ). bit_or x (g j)) (p.each j l) ∙ or_assoc (get_or before j 0) (f j) (g j);
  all = q.all;
}
