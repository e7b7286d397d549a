-- Each group of a query, its text taken by itself, is a query of its own, and the query's comparisons are those of its groups.
use Rattle.std.specs.Prelude.{None, Option, Some}
use Prim.Native.Nat.{ℕ, zero, suc, ◌+◌, ◌≤◌, ◌<◌}
use mathlib.Core.Path.{◌≡◌, refl, sym, ap, ◌∙◌, subst}
use mathlib.Core.List.{List}
use mathlib.Core.Logic.{inr}
use mathlib.Core.Bool.{Bool, true, false, ◌&&◌, ◌||◌}
use native.Mathlib.Omega.{arith}
use lib.ListN.{length}
use lib.Dec.{leb, eqb}
use borrow.Author.Tests.{leb-true, eqb-true}
use Rattle.base.specs.Range.{within}
use Rattle.base.specs.Part.{byte_at}
use Rattle.base.proofs.Says.{and_both}
use Rattle.record.specs.Name.{letter}
use Rattle.token.specs.declared.Punctuation.TheVariants.{Open}
use Rattle.token.specs.declared.TokenKind.TheVariants.{End, Symbol}
use Rattle.token.specs.declared.Token.{Token}
use Rattle.token.specs.Token.{token, word_or_number, token_at, token_after}
use Rattle.token.proofs.Steps.{after_spans}
use Rattle.token.proofs.Bounds.{at_past}
use Rattle.token.proofs.Stands.{at_standing}
use Rattle.terminal.specs.declared.operator.BoolOp.{BoolOp}
use Rattle.terminal.specs.Terminal.{same, joining, word_kind}
use Rattle.terminal.proofs.KindCodes.{kind_is}
use Rattle.terminal.proofs.Inside.{word_there}
use Rattle.syntax.specs.Scan.{scan, skip}
use Rattle.query_text.specs.declared.join.Join.TheVariants.{Outer}
use Rattle.query_text.specs.Query.{Comparisons, good, start_at, query_start, query_from, query}
use Rattle.query_text.specs.Tree.{Chain, one}
use Rattle.conjunction.specs.Groups.{last, group_at, follow, terms_from, terms_of}
use Rattle.conjunction.specs.Conjunction.{size}
use Rattle.conjunction.proofs.Walk.{terms_next}
use Rattle.conjunction_laws.proofs.Chains.{Every, follow_every}
use Rattle.conjunction_laws.proofs.Segments.{Segment, chain_to, chain_size, some_size, Onward, beyond, read_last, few}
use Rattle.conjunction_laws.proofs.Corresponding.{same_size}
use Rattle.conjunction_laws.proofs.Tokens.{starts_word}
use Rattle.conjunction_laws.proofs.Between.{after_other}
use Rattle.conjunction_laws.proofs.Expressions.{Expression, group_text, alone, Elsewhere, elsewhere}
use Rattle.conjunction_laws.proofs.Leading.{Placed, next_placed, Leading, final, earlier, leading, no_more, next_within, next_joining, next_is}
use Rattle.conjunction_laws.proofs.ByGroups.{segment_grouped, turned, Copies, ByGroups, one_group, more_groups}
use Rattle.conjunction_laws.proofs.Encoding.{From, at_end_law, Edge, carry}

-- ---- a group starts with an ASCII byte
letter_low : (b : ℕ) → letter b ≡ true → b < 0x80
unfolding letter within
letter_low b h = go (leb 65 b && leb b 90) refl (leb 97 b && leb b 122) refl (eqb b 95) refl h
  where
    go : (x : Bool) → (leb 65 b && leb b 90) ≡ x → (y : Bool) → (leb 97 b && leb b 122) ≡ y → (z : Bool) → eqb b 95 ≡ z → (x || y || z) ≡ true → b < 0x80
    go true e y f z g h = omega (arith, leb-true b 90 (and_both (leb 65 b) (leb b 90) e).1)
    go false e true f z g h = omega (arith, leb-true b 122 (and_both (leb 97 b) (leb b 122) f).1)
    go false e false f true g h = omega (arith, eqb-true b 95 g)
    go false e false f false g h = let u : ◌≡◌ {A = ℕ} 0 1 = cc in absurd (omega arith)

pub starts_low : {q : List ℕ} {t : Token} → Expression q t → Edge q t.start
starts_low {q} {t} E h = letter_low (byte_at q t.start) (word_there q t E.stands (starts_word q E.segment))

-- ---- a group by itself: its tokens go from its first byte to its last
pub record Own (g : List ℕ) : Type 0 where
  pub list : Comparisons
  pub segment : Segment (scan g) (token_at g 0) list (token End (length g) (length g))
  pub begins : (token_at g 0).start ≡ 0
  pub ends : (last g (token_at g 0)).end ≡ length g
  pub small : size list ≤ 64
  pub encoded : From g 0

module _ {g : List ℕ} (G : Own g) where
  first_word : word_kind (token_at g 0).kind ≡ true
  first_word = starts_word g G.segment

  not_open : same (token_at g 0) (Symbol Open) ≡ false
  not_open = go (same (token_at g 0) (Symbol Open)) refl
    where
      go : (b : Bool) → same (token_at g 0) (Symbol Open) ≡ b → b ≡ false
      go true e = sym first_word ∙ ap word_kind (kind_is (token_at g 0) (Symbol Open) e)
      go false e = refl

  pub expression : Expression g (token_at g 0)
  expression =
      record {
        list = G.list;
        closing = token End (length g) (length g);
        segment = G.segment;
        closes = inr refl;
        stands = at_standing g 0;
        here = omega (arith, G.begins);
      }

  at_end_there : same (token End (length g) (length g)) End ≡ true
  unfolding same
  at_end_there = refl

  pub read : query g ≡ good expression.list
  unfolding query query_start start_at word_or_number expression
  read =
      let z : token_after g (token End 0 0) ≡ token_at g 0 = after_other g (token End 0 0) refl in
      rw z (rw not_open (read_last (scan g) false G.segment at_end_there 64 G.small))

-- ---- the groups of a query that is UTF-8
module _ (q : List ℕ) (encoded : From q 0) where
  module _ {t : Token} (E : Expression q t) (small : size E.list ≤ 64) where
    abbrev by_itself : Elsewhere q E.list (group_text E) 0 (length (group_text E)) (token End (length (group_text E)) (length (group_text E)))
    by_itself = elsewhere E (group_text E) 0 (length (group_text E)) (alone E) (token End (length (group_text E)) (length (group_text E))) (at_past (group_text E) (length (group_text E)) (omega arith)) refl

    pub own : Own (group_text E)
    own =
        record {
          list = by_itself.list;
          segment = by_itself.segment;
          begins = by_itself.begins;
          ends = by_itself.ends;
          small = omega (arith, same_size by_itself.same, small);
          encoded = carry (alone E) encoded (starts_low E) (at_end_law (group_text E) (length (group_text E)) (omega arith));
        }

    pub copies : Copies (group_text E) q E.list
    unfolding own expression
    copies = record { list = by_itself.list; read = read own; same = turned q (group_text E) by_itself.same; grouped = segment_grouped E.segment }

  -- what is shown of them
  pub record Parts (x : Chain (Chain (List ℕ))) (L : Comparisons) : Type 0 where
    pub groups : ByGroups q x L
    pub each_own : Every (Every Own) x

  last_part : {t : Token} (E : Expression q t) → size E.list ≤ 64 → Parts (one (one (group_text E))) E.list
  unfolding Every
  last_part E h = record { groups = one_group (copies E h); each_own = own E h }

  more_parts : {t : Token} (E : Expression q t) → size E.list ≤ 64 → (o : BoolOp) {x : Chain (Chain (List ℕ))} {L : Comparisons} → Parts x L → Parts (follow (group_text E) (Some o) x) (chain_to E.list (Outer o) L)
  more_parts E h o {x} P = record { groups = more_groups (copies E h) o P.groups; each_own = follow_every Own (group_text E) o x (own E h) P.each_own }

  -- ---- its terms
  module _ {t : Token} (E : Expression q t) where
    one_term : (group_at q t).joining ≡ None → terms_from q t ≡ one (one (group_text E))
    unfolding follow
    one_term e = terms_next q t ∙ rw e refl

    more_terms : (o : BoolOp) → Onward (scan q) E.closing o → terms_from q t ≡ follow (group_text E) (Some o) (terms_from q (beyond (scan q) E.closing))
    more_terms o k =
        terms_next q t ∙ ap (λ (j : Option BoolOp). follow (group_text E) j (terms_from q (group_at q t).next)) (next_joining q E o k)
        ∙ ap (λ (u : Token). follow (group_text E) (Some o) (terms_from q u)) (next_is q E)

  -- the groups from a token on; there are no more than comparisons
  parts_of : (f n : ℕ) (g : Bool) (t : Token) (L : Comparisons) → size L ≤ f → f ≤ 64 → Placed q t → query_from n (scan q) g t ≡ good L → Parts (terms_from q t) L
  parts_of zero n g t L h k p e = absurd (omega (arith, some_size L))
  parts_of (suc f) n g t L h k p e = go (leading q n g t L p e) (λ m u R i. parts_of f m g u R i (omega arith))
    where
      go : Leading q g t L → ((m : ℕ) (u : Token) (R : Comparisons) → size R ≤ f → Placed q u → query_from m (scan q) g u ≡ good R → Parts (terms_from q u) R) → Parts (terms_from q t) L
      go (final E c a) again =
          let z : size L ≡ size E.list = ap size c in
          subst (λ (x : Chain (Chain (List ℕ))). Parts x L) (sym (one_term E (no_more q E g a))) (rw c (last_part E (omega (arith, z))))
      go (earlier E {o = o} {R = R} m b a r c) again =
          let z : size L ≡ size E.list + size R = ap size c ∙ chain_size E.list (Outer o) R in
          let y = again m (beyond (scan q) E.closing) R (omega (arith, z, some_size E.list)) (next_placed q (token_after q (token_after q E.closing)) (next_within q E)) r in
          subst (λ (x : Chain (Chain (List ℕ))). Parts x L) (sym (more_terms E o a)) (rw c (more_parts E (omega (arith, z)) o y))

  pub parts_in : (L : Comparisons) → query q ≡ good L → Parts (terms_of q) L
  unfolding query query_start start_at
  parts_in L e = parts_of 64 64 (same (token_after q (token End 0 0)) (Symbol Open)) (skip (scan q) (same (token_after q (token End 0 0)) (Symbol Open)) (token_after q (token End 0 0))) L (few (scan q) 64 _ _ L e) (omega arith) (go (same (token_after q (token End 0 0)) (Symbol Open))) e
    where
      go : (b : Bool) → Placed q (skip (scan q) b (token_after q (token End 0 0)))
      go true = next_placed q (token_after q (token End 0 0)) (after_spans q (token End 0 0) (omega arith)).within
      go false = next_placed q (token End 0 0) (omega arith)
