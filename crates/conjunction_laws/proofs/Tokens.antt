-- The tokens of a group in its query: they go from its first one up to `last`, and what stands behind that ends the group's comparisons.
use Rattle.std.specs.Prelude.{Ok}
use Prim.Native.Nat.{ℕ, zero, suc, ◌-◌, ◌≤◌, ◌<◌}
use mathlib.Core.Path.{◌≡◌, refl, sym, ap, ◌∙◌}
use mathlib.Core.List.{List}
use mathlib.Core.Bool.{Bool, true, false, true≢false}
use native.Mathlib.Omega.{arith}
use lib.ListN.{length}
use lib.Dec.{ltb}
use borrow.Author.Tests.{ltb-true, ltb-false}
use Rattle.token.specs.declared.Reserved.TheVariants as Reserved
use Rattle.token.specs.declared.TokenKind.{TokenKind}
use Rattle.token.specs.declared.TokenKind.TheVariants.{Name, Word}
use Rattle.token.specs.declared.Token.{Token}
use Rattle.token.specs.Token.{token_after}
use Rattle.token.proofs.Bounds.{after_moves, nth_from}
use Rattle.terminal.specs.Terminal.{same, word_kind, unsigned, quantifying, inside}
use Rattle.terminal.proofs.KindCodes.{kind_is}
use Rattle.terminal.proofs.Inside.{word_inside, inside_token}
use Rattle.syntax.specs.declared.comparison.Comparison.{Comparison}
use Rattle.syntax.specs.Scan.{scan}
use Rattle.syntax.specs.Property.{property, with_path, reference}
use Rattle.syntax.specs.Comparison.{left_of, left_by, left_at, left_side, comp_left, property_comp}
use Rattle.syntax.proofs.Room.{roomy}
use Rattle.syntax.proofs.Local.{outer_number}
use Rattle.syntax.proofs.Simulation.{Simulates}
use Rattle.query_text.specs.Query.{Comparisons}
use Rattle.conjunction.specs.Groups.{last}
use Rattle.conjunction.proofs.Walk.{last_stop, last_next}
use Rattle.conjunction_laws.proofs.Segments.{Segment, ends, goes}
use Rattle.conjunction_laws.proofs.Corresponding.{found}

-- ---- how many tokens from one on are inside of its group
nth_from_next : (q : List ℕ) (t : Token) (i : ℕ) → nth_from q (token_after q t) i ≡ nth_from q t (suc i)
unfolding nth_from
nth_from_next q t zero = refl
nth_from_next q t (suc i) = ap (token_after q) (nth_from_next q t i)

pub record TokensInside (q : List ℕ) (t : Token) : Type 0 where
  pub count : ℕ
  pub within : (i : ℕ) → i < count → inside (nth_from q t i).kind ≡ true
  pub closed : inside (nth_from q t count).kind ≡ false

module _ (q : List ℕ) where
  none : (t : Token) → inside t.kind ≡ false → TokensInside q t
  unfolding nth_from
  none t e = record { count = 0; within = λ i h. absurd (omega arith); closed = e }

  one_more_law : (t : Token) → inside t.kind ≡ true → TokensInside q (token_after q t) → TokensInside q t
  unfolding nth_from
  one_more_law t e f =
      record {
        count = suc f.count;
        within = λ i h. by i h;
        closed = ap (λ (x : Token). inside x.kind) (sym (nth_from_next q t f.count)) ∙ f.closed;
      }
    where
      by : (i : ℕ) → i < suc f.count → inside (nth_from q t i).kind ≡ true
      by zero h = e
      by (suc i) h = ap (λ (x : Token). inside x.kind) (sym (nth_from_next q t i)) ∙ f.within i (omega arith)

  inside_from : (n : ℕ) (t : Token) → length q - t.end < n → TokensInside q t
  inside_from zero t h = absurd (omega arith)
  inside_from (suc n) t h = go (inside t.kind) refl (inside (token_after q t).kind) refl (inside_from n (token_after q t))
    where
      go : (b : Bool) → inside t.kind ≡ b → (c : Bool) → inside (token_after q t).kind ≡ c → (length q - (token_after q t).end < n → TokensInside q (token_after q t)) → TokensInside q t
      go false e c f again = none t e
      go true e false f again = one_more_law t e (none (token_after q t) f)
      go true e true f again = let m = after_moves q t (inside_token (token_after q t).kind f) in one_more_law t e (again (omega (arith, m.0, m.1)))

  pub tokens_inside : (t : Token) → TokensInside q t
  tokens_inside t = inside_from (suc (length q - t.end)) t (omega arith)

  -- ---- the group ends there
  data Ith (t : Token) (n : ℕ) : Token → Token → Type 0 where
    ith : (i : ℕ) → i ≤ n → Ith t n (nth_from q t i) (nth_from q t i)

  module _ (t : Token) (f : TokensInside q t) where
    below : (i : ℕ) → i ≤ f.count → inside (nth_from q t i).kind ≡ true → i < f.count
    below i h e = go (ltb i f.count) refl
      where
        go : (c : Bool) → ltb i f.count ≡ c → i < f.count
        go true k = ltb-true i f.count k
        go false k =
            let z : i ≡ f.count = omega (arith, ltb-false i f.count k) in
            absurd (true≢false (sym e ∙ ap (λ (m : ℕ). inside (nth_from q t m).kind) z ∙ f.closed))

    itself : Simulates (scan q) (scan q) (Ith t f.count)
    unfolding nth_from
    itself =
        record {
          tests =
              record {
                kinds = λ x y h e. same_kind h;
                ends = λ x y h e. sym (ap inside (same_kind h)) ∙ e;
                numbers = λ x y h e. ap (unsigned q) (same_token h);
                outer = λ x y h e. (outer_number q x e, outer_number q y (sym (ap inside (same_kind h)) ∙ e));
              };
          steps = λ x y h e. next h e;
        }
      where
        same_token : {x y : Token} → Ith t f.count x y → x ≡ y
        same_token (ith i h) = refl

        same_kind : {x y : Token} → Ith t f.count x y → x.kind ≡ y.kind
        same_kind (ith i h) = refl

        next : {x y : Token} → Ith t f.count x y → inside x.kind ≡ true → Ith t f.count (token_after q x) (token_after q y)
        next (ith i h) e = ith (suc i) (omega (arith, below i h e))

    pub reached : {l : Comparisons} {w : Token} → Segment (scan q) t l w → inside w.kind ≡ false → w ≡ nth_from q t f.count
    unfolding nth_from
    reached h e = go (found itself (roomy q) (roomy q) h (ith 0 (omega arith))).closings e
      where
        go : {x y : Token} → Ith t f.count x y → inside x.kind ≡ false → x ≡ nth_from q t f.count
        go (ith i h) e = by (ltb i f.count) refl
          where
            by : (c : Bool) → ltb i f.count ≡ c → nth_from q t i ≡ nth_from q t f.count
            by true k = absurd (true≢false (sym (f.within i (ltb-true i f.count k)) ∙ e))
            by false k = let z : i ≡ f.count = omega (arith, ltb-false i f.count k) in ap (nth_from q t) z

  -- ---- a comparison starts with a word
  nothing_read : (t : Token) → same t (Word Reserved.Not) ≡ false → same t (Word Reserved.Any) ≡ false → same t (Word Reserved.Every) ≡ false → same t Name ≡ false
      → (c : Comparison) (w : Token) → property_comp (scan q) t ≡ Ok (c, w) → ⊥
  unfolding property_comp comp_left left_side left_at left_by quantifying reference with_path property left_of
  nothing_read t a b d n c w e =
      let y : comp_left (scan q) (left_side (scan q) t) ≡ Ok (c, w) = e in
      let z = rw (a, b, d, n) at y in
      let x : ◌≡◌ {A = ℕ} 0 1 = cc in
      omega arith

  not_word : (t : Token) (k : TokenKind) → word_kind k ≡ true → word_kind t.kind ≡ false → same t k ≡ false
  not_word t k h o = go (same t k) refl
    where
      go : (b : Bool) → same t k ≡ b → b ≡ false
      go true e = absurd (true≢false (sym h ∙ ap word_kind (sym (kind_is t k e)) ∙ o))
      go false e = refl

  pub starts_word : {t w : Token} {l : Comparisons} → Segment (scan q) t l w → word_kind t.kind ≡ true
  starts_word {t} h = go (word_kind t.kind) refl h
    where
      none_there : (t : Token) → word_kind t.kind ≡ false → (c : Comparison) (w : Token) → property_comp (scan q) t ≡ Ok (c, w) → ⊥
      none_there t o = nothing_read t (not_word t (Word Reserved.Not) refl o) (not_word t (Word Reserved.Any) refl o) (not_word t (Word Reserved.Every) refl o) (not_word t Name refl o)

      go : {t w : Token} {l : Comparisons} (b : Bool) → word_kind t.kind ≡ b → Segment (scan q) t l w → word_kind t.kind ≡ true
      go true e h = e
      go {t} false e (ends {w = w} {c = c} f g) = absurd (none_there t e c w f)
      go {t} false e (goes {m = m} {c = c} f g k) = absurd (none_there t e c m f)

  pub starts_inside : {t w : Token} {l : Comparisons} → Segment (scan q) t l w → inside t.kind ≡ true
  starts_inside {t} h = word_inside t.kind (starts_word h)

  -- ---- the last of them
  pub last_nth : (n : ℕ) (t : Token) → ((i : ℕ) → i < n → inside (nth_from q t (suc i)).kind ≡ true) → inside (nth_from q t (suc n)).kind ≡ false → last q t ≡ nth_from q t n
  unfolding nth_from
  last_nth zero t h k = last_stop q t k
  last_nth (suc n) t h k =
      last_next q t (h 0 (omega arith))
      ∙ last_nth n (token_after q t) (λ i l. ap (λ (x : Token). inside x.kind) (nth_from_next q t (suc i)) ∙ h (suc i) (omega arith)) (ap (λ (x : Token). inside x.kind) (nth_from_next q t (suc n)) ∙ k)
      ∙ nth_from_next q t n
