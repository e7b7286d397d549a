-- One law for each exit of `src/lib.rt`.
use Prim.Native.Nat.{ℕ, ◌+◌, ◌≤◌}
use mathlib.Core.List.{List, [], ◌∷◌}
use mathlib.Core.Bool.{Bool, false}
use mathlib.Core.Path.{◌≡◌, refl, ap, ◌∙◌}
use mathlib.Core.Option.{none, some}
use native.Mathlib.Omega.{arith}
use lib.ListN.{length}
use borrow.Author.Tests.{eq-eqb, ne_eqb}
use Rattle.base.specs.Part.{part}
use Rattle.record.specs.Record.{number_at, record_at}
use Rattle.record.specs.declared.read.RecordAt.{RecordAt}
use Rattle.record.specs.declared.read.RecordAt.TheVariants.{Whole, Broken, End}
use Rattle.record.specs.declared.kind.Family.{Family}
use Rattle.record.specs.declared.kind.Family.TheVariants as family
use Rattle.record.specs.declared.kind.ValueType.{ValueType}
use Rattle.encoding.specs.Characters.{characters}
use Rattle.encoding.proofs.Characters.{characters_fewer}
use Rattle.matcher.specs.declared.matcher.Matched.{Matched}
use Rattle.token.specs.declared.Token.{Token}
use Rattle.instance.specs.Value.{family_value, scalar_in}
use Rattle.value.specs.Read.{value_in_record}
use Rattle.operand.specs.PatternLiteral.{matched}
use Rattle.short_circuit.specs.Walk.{told}
use Rattle.short_circuit.specs.declared.Told.{Told}
use Rattle.place.specs.Negation.{reversed_if}
use Rattle.place.specs.Place.{source_bytes, spot_value}
use Rattle.place.specs.declared.Spot.{Spot}
use Rattle.place.proofs.Negating.{of_false}
use Rattle.like.specs.Like.{as_text, like_holds, size, Likes}

pub match_told : (negated : Bool) (m : Matched) (b : Bool) → b ≡ reversed_if negated m.holds
    → told b (1 + m.characters) ≡ told (reversed_if negated m.holds) (1 + m.characters)
match_told negated m b e = ap (λ (z : Bool). told z (1 + m.characters)) e

pub nothing_told : (negated : Bool) → told negated 1 ≡ told (reversed_if negated false) 1
nothing_told negated = ap (λ (z : Bool). told z 1) (of_false negated)

-- families whose values are no texts
abbrev pub NoText : Family → Type 0
NoText family.Boolean = Unit
NoText family.Integer = Unit
NoText family.Real = Unit
NoText family.Text = ⊥
NoText family.Char16 = ⊥
NoText family.Octets = Unit
NoText family.Datetime = Unit
NoText family.Reference = Unit

no_text : (f : Family) (w : ℕ) (g : Bool) (s : List ℕ) → NoText f → as_text (some (family_value f w g s)) ≡ none
unfolding as_text family_value
no_text family.Boolean w g s n = refl
no_text family.Integer w g s n = refl
no_text family.Real w g s n = refl
no_text family.Text w g s n = absurd n
no_text family.Char16 w g s n = absurd n
no_text family.Octets w g s n = refl
no_text family.Datetime w g s n = refl
no_text family.Reference w g s n = refl

-- a body
module _ (q : List ℕ) (t : Token) (negated : Bool) (f : Family) (w : ℕ) (g : Bool) (s : List ℕ) where
  module _ (m : Matched) (r : Told) (er : r ≡ told (reversed_if negated m.holds) (1 + m.characters)) where
    pub like_utf8 : f ≡ family.Text → m ≡ matched q t (characters s) → Likes q t negated (some (family_value f w g s)) r
    unfolding like_holds size as_text family_value
    like_utf8 h e p ep = er ∙ rw (e, ep, h)

    pub like_char16 : f ≡ family.Char16 → (n : ℕ) → n ≡ number_at s 0 → m ≡ matched q t (n ∷ []) → Likes q t negated (some (family_value f w g s)) r
    unfolding like_holds size as_text family_value
    like_char16 h n en e p ep = er ∙ rw (e, ep, h, en)

  pub like_other : (h : Family) → f ≡ h → NoText h → (r : Told) → r ≡ told (reversed_if negated false) 1 → Likes q t negated (some (family_value f w g s)) r
  unfolding like_holds size
  like_other h e n r er p ep = er ∙ rw (e, no_text h w g s n)

-- a text has no more characters than bytes
module _ (q : List ℕ) (t : Token) (m : Matched) where
  characters_are : (cs : List ℕ) → m ≡ matched q t cs → m.characters ≡ length cs
  characters_are cs e = ap (λ (z : Matched). z.characters) e

  pub characters_few : (s : List ℕ) → m ≡ matched q t (characters s) → m.characters ≤ length s
  characters_few s e = let h = characters_are (characters s) e in omega (arith, characters_fewer s 0)

  pub character_one : (c : ℕ) → m ≡ matched q t (c ∷ []) → m.characters ≡ 1
  character_one c e = characters_are (c ∷ []) e

-- a record
module _ (q : List ℕ) (t : Token) (negated : Bool) (of : ValueType) (a : List ℕ) (place : ℕ) (x : RecordAt) (ex : x ≡ record_at a place) (r : Told) where
  module _ (kind start len next : ℕ) (e : x ≡ Whole kind start len next) where
    pub like_null : kind ≡ 0 → r ≡ told (reversed_if negated false) 1 → Likes q t negated (value_in_record of a place) r
    unfolding like_holds size as_text value_in_record
    like_null h er p ep = er ∙ rw (← ex, e, eq-eqb kind 0 h)

    pub like_some : (kind ≡ 0 → ⊥) → (s : List ℕ) → s ≡ part a start len → Likes q t negated (some (scalar_in of s)) r → Likes q t negated (value_in_record of a place) r
    unfolding value_in_record
    like_some h s es er p ep = er p ep ∙ rw (← ex, e, ne_eqb kind 0 h, es)

  module _ (er : r ≡ told (reversed_if negated false) 1) where
    pub like_broken : x ≡ Broken → Likes q t negated (value_in_record of a place) r
    unfolding like_holds size as_text value_in_record
    like_broken e p ep = er ∙ rw (← ex, e)

    pub like_missing : x ≡ End → Likes q t negated (value_in_record of a place) r
    unfolding like_holds size as_text value_in_record
    like_missing e p ep = er ∙ rw (← ex, e)

pub like_spot : (q i : List ℕ) (t : Token) (negated : Bool) (of : ValueType) (x : Spot) (a : List ℕ) → a ≡ source_bytes q i x.source
    → (r : Told) → Likes q t negated (value_in_record of a x.place) r → Likes q t negated (spot_value of q i x) r
like_spot q i t negated of x a e r f p ep = f p ep ∙ rw e
