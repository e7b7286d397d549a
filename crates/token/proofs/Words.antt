-- Reserved words by their length: a word spells none of another length.
use Prim.Native.Nat.{ℕ, ◌+◌, ◌-◌, ◌<◌}
use mathlib.Core.Path.{◌≡◌, refl, sym, ◌∙◌}
use mathlib.Core.List.{List}
use mathlib.Core.Bool.{true, false}
use native.Mathlib.Omega.{arith}
use lib.ListN.{length}
use lib.Dec.{eqb}
use borrow.Author.Tests.{lt-ltb, eqb-false}
use Rattle.base.specs.Pick.{pick}
use Rattle.base.specs.Ascii.{bytes}
use Rattle.base.specs.Part.{part, byte_at}
use Rattle.record.specs.Name.{letter, name_byte, same_name}
use Rattle.record.proofs.Laws.{same_lengths}
use Rattle.scan.specs.Class.{in_class, run}
use Rattle.scan.specs.declared.Class.TheVariants as Class
use Rattle.scan.proofs.Runs.{run_more, run_from, class_inside, word_no_zero}
use Rattle.token.specs.declared.Reserved.TheVariants.{And, Any, Every, False, Like, Not, Null, Or, True}
use Rattle.token.specs.declared.TokenKind.{TokenKind}
use Rattle.token.specs.declared.TokenKind.TheVariants.{Name, Word}
use Rattle.token.specs.Token.{token, fitted, word_kind, word_token}

module _ (w : List ℕ) where
  other : (n : ℕ) → length w ≡ n → (l : List ℕ) → eqb n (length l) ≡ false → same_name w l ≡ false
  other n e l f = sym (same_lengths w l (λ z. eqb-false n (length l) f (sym e ∙ z)))

  of_two_law : length w ≡ 2 → word_kind w ≡ pick (same_name w (bytes "OR")) (Word Or) Name
  unfolding word_kind
  of_two_law e =
      let o = other 2 e in
      rw (o (bytes "AND") refl, o (bytes "ANY") refl, o (bytes "EVERY") refl, o (bytes "FALSE") refl, o (bytes "LIKE") refl, o (bytes "NOT") refl, o (bytes "NULL") refl, o (bytes "TRUE") refl) refl

  of_three_law : length w ≡ 3 → word_kind w ≡ pick (same_name w (bytes "AND")) (Word And) (pick (same_name w (bytes "ANY")) (Word Any) (pick (same_name w (bytes "NOT")) (Word Not) Name))
  unfolding word_kind
  of_three_law e =
      let o = other 3 e in
      rw (o (bytes "EVERY") refl, o (bytes "FALSE") refl, o (bytes "LIKE") refl, o (bytes "NULL") refl, o (bytes "OR") refl, o (bytes "TRUE") refl) refl

  of_four : length w ≡ 4 → word_kind w ≡ pick (same_name w (bytes "LIKE")) (Word Like) (pick (same_name w (bytes "NULL")) (Word Null) (pick (same_name w (bytes "TRUE")) (Word True) Name))
  unfolding word_kind
  of_four e =
      let o = other 4 e in
      rw (o (bytes "AND") refl, o (bytes "ANY") refl, o (bytes "EVERY") refl, o (bytes "FALSE") refl, o (bytes "NOT") refl, o (bytes "OR") refl) refl

  of_five : length w ≡ 5 → word_kind w ≡ pick (same_name w (bytes "EVERY")) (Word Every) (pick (same_name w (bytes "FALSE")) (Word False) Name)
  unfolding word_kind
  of_five e =
      let o = other 5 e in
      rw (o (bytes "AND") refl, o (bytes "ANY") refl, o (bytes "LIKE") refl, o (bytes "NOT") refl, o (bytes "NULL") refl, o (bytes "OR") refl, o (bytes "TRUE") refl) refl

  -- each word, by its length and the words of that length that are tried before it
  module _ (e : length w ≡ 2) where
    pub spells_or : true ≡ same_name w (bytes "OR") → Word Or ≡ word_kind w
    spells_or a = rw (of_two_law e, ← a)

    pub none_of_2 : false ≡ same_name w (bytes "OR") → Name ≡ word_kind w
    none_of_2 a = rw (of_two_law e, ← a)

  module _ (e : length w ≡ 3) where
    pub spells_and : true ≡ same_name w (bytes "AND") → Word And ≡ word_kind w
    spells_and a = rw (of_three_law e, ← a)

    pub spells_any : false ≡ same_name w (bytes "AND") → true ≡ same_name w (bytes "ANY") → Word Any ≡ word_kind w
    spells_any a b = rw (of_three_law e, ← a, ← b)

    pub spells_not : false ≡ same_name w (bytes "AND") → false ≡ same_name w (bytes "ANY") → true ≡ same_name w (bytes "NOT") → Word Not ≡ word_kind w
    spells_not a b c = rw (of_three_law e, ← a, ← b, ← c)

    pub none_of_3 : false ≡ same_name w (bytes "AND") → false ≡ same_name w (bytes "ANY") → false ≡ same_name w (bytes "NOT") → Name ≡ word_kind w
    none_of_3 a b c = rw (of_three_law e, ← a, ← b, ← c)

  module _ (e : length w ≡ 4) where
    pub spells_like : true ≡ same_name w (bytes "LIKE") → Word Like ≡ word_kind w
    spells_like a = rw (of_four e, ← a)

    pub spells_null : false ≡ same_name w (bytes "LIKE") → true ≡ same_name w (bytes "NULL") → Word Null ≡ word_kind w
    spells_null a b = rw (of_four e, ← a, ← b)

    pub spells_true : false ≡ same_name w (bytes "LIKE") → false ≡ same_name w (bytes "NULL") → true ≡ same_name w (bytes "TRUE") → Word True ≡ word_kind w
    spells_true a b c = rw (of_four e, ← a, ← b, ← c)

    pub none_of_4 : false ≡ same_name w (bytes "LIKE") → false ≡ same_name w (bytes "NULL") → false ≡ same_name w (bytes "TRUE") → Name ≡ word_kind w
    none_of_4 a b c = rw (of_four e, ← a, ← b, ← c)

  module _ (e : length w ≡ 5) where
    pub spells_every : true ≡ same_name w (bytes "EVERY") → Word Every ≡ word_kind w
    spells_every a = rw (of_five e, ← a)

    pub spells_false : false ≡ same_name w (bytes "EVERY") → true ≡ same_name w (bytes "FALSE") → Word False ≡ word_kind w
    spells_false a b = rw (of_five e, ← a, ← b)

    pub none_of_5 : false ≡ same_name w (bytes "EVERY") → false ≡ same_name w (bytes "FALSE") → Name ≡ word_kind w
    none_of_5 a b = rw (of_five e, ← a, ← b)

  -- of any other length there is none
  abbrev OtherLength : Type 0
  OtherLength = (((Unit × (length w ≡ 2 → ⊥)) × (length w ≡ 3 → ⊥)) × (length w ≡ 4 → ⊥)) × (length w ≡ 5 → ⊥)

  pub of_none : OtherLength → Name ≡ word_kind w
  unfolding word_kind
  of_none h =
      let two = h.0.0.0.1 in
      let three = h.0.0.1 in
      let four = h.0.1 in
      let five = h.1 in
      rw (← same_lengths w (bytes "AND") three, ← same_lengths w (bytes "ANY") three, ← same_lengths w (bytes "EVERY") five, ← same_lengths w (bytes "FALSE") five, ← same_lengths w (bytes "LIKE") four, ← same_lengths w (bytes "NOT") three, ← same_lengths w (bytes "NULL") four, ← same_lengths w (bytes "OR") two, ← same_lengths w (bytes "TRUE") four) refl

-- a word that a letter opens is not empty
module _ (q : List ℕ) (s : ℕ) where
  pub word_moves : letter (byte_at q s) ≡ true → s < run Class.Word q s
  unfolding in_class name_byte
  word_moves h =
      let w : in_class Class.Word (byte_at q s) ≡ true = rw h refl in
      let m = run_more {r = true} Class.Word q s (class_inside Class.Word word_no_zero q s w) (sym w) refl in
      omega (arith, m, run_from Class.Word q (s + 1))

  pub a_word : {k : TokenKind} {e : ℕ} → letter (byte_at q s) ≡ true → e ≡ run Class.Word q s → k ≡ word_kind (part q s (e - s)) → token k s e ≡ word_token q s
  unfolding word_token fitted
  a_word {k} {e} h f g = rw (h, ← f, ← g, lt-ltb s e (rw f (word_moves h))) refl
