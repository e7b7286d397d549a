-- The tokens of a group and the groups of a query, one after another: each moves on, so that the definitions' steps are enough.
use Rattle.std.specs.Prelude.{None, Option, Some}
use Prim.Native.Nat.{ℕ, zero, suc, ◌-◌, ◌≤◌, ◌<◌}
use mathlib.Core.Path.{◌≡◌, refl, sym, ap, ◌∙◌}
use mathlib.Core.List.{List}
use mathlib.Core.Bool.{Bool, true, false}
use native.Mathlib.Omega.{arith}
use lib.ListN.{length}
use Rattle.token.specs.declared.Token.{Token}
use Rattle.token.specs.Token.{token_after}
use Rattle.token.proofs.Bounds.{after_from, after_moves}
use Rattle.terminal.specs.declared.operator.BoolOp.{BoolOp}
use Rattle.terminal.specs.Terminal.{inside, joining}
use Rattle.terminal.proofs.Inside.{inside_token, joins_inside}
use Rattle.query_text.specs.Tree.{one}
use Rattle.conjunction.specs.Groups.{last_within, last, behind, group_at, text_of, follow, terms_within, terms_from}

module _ (q : List ℕ) where
  -- how far the text goes on behind a token
  abbrev pub left : Token → ℕ
  left t = length q - t.end

  pub inside_moves : (t : Token) → inside (token_after q t).kind ≡ true → left (token_after q t) < left t
  inside_moves t e = let m = after_moves q t (inside_token (token_after q t).kind e) in omega (arith, m.0, m.1)

  -- ---- the last token of a group
  within_stop : (n : ℕ) (t : Token) → inside (token_after q t).kind ≡ false → last_within n q t ≡ t
  unfolding last_within
  within_stop zero t e = refl
  within_stop (suc n) t e = ap (λ (b : Bool). elim b [ true ↦ last_within n q (token_after q t) | false ↦ t ]) e

  within_next : (n : ℕ) (t : Token) → inside (token_after q t).kind ≡ true → last_within (suc n) q t ≡ last_within n q (token_after q t)
  unfolding last_within
  within_next n t e = ap (λ (b : Bool). elim b [ true ↦ last_within n q (token_after q t) | false ↦ t ]) e

  -- as many steps as bytes are as good as any number more
  steps_enough : (m n : ℕ) (t : Token) → left t ≤ m → left t ≤ n → last_within m q t ≡ last_within n q t
  steps_enough zero n t h k = go (inside (token_after q t).kind) refl
    where
      go : (b : Bool) → inside (token_after q t).kind ≡ b → last_within zero q t ≡ last_within n q t
      go false e = within_stop zero t e ∙ sym (within_stop n t e)
      go true e = let l = inside_moves t e in absurd (omega (arith, l))
  steps_enough (suc m) n t h k = go (inside (token_after q t).kind) refl n k (steps_enough m)
    where
      go : (b : Bool) → inside (token_after q t).kind ≡ b → (n : ℕ) → left t ≤ n
          → ((n : ℕ) (u : Token) → left u ≤ m → left u ≤ n → last_within m q u ≡ last_within n q u) → last_within (suc m) q t ≡ last_within n q t
      go false e n k ih = within_stop (suc m) t e ∙ sym (within_stop n t e)
      go true e zero k ih = let l = inside_moves t e in absurd (omega (arith, l))
      go true e (suc n) k ih = let l = inside_moves t e in within_next m t e ∙ ih n (token_after q t) (omega (arith, l)) (omega (arith, l)) ∙ sym (within_next n t e)

  pub last_stop : (t : Token) → inside (token_after q t).kind ≡ false → last q t ≡ t
  unfolding last
  last_stop t e = within_stop (length q) t e

  pub last_next : (t : Token) → inside (token_after q t).kind ≡ true → last q t ≡ last q (token_after q t)
  unfolding last
  last_next t e = let l = inside_moves t e in steps_enough (length q) (suc (length q)) t (omega arith) (omega arith) ∙ within_next (length q) t e

  -- ---- a query's groups
  last_from : (n : ℕ) (t : Token) → t.end ≤ (last_within n q t).end
  unfolding last_within
  last_from zero t = omega arith
  last_from (suc n) t = go (inside (token_after q t).kind) refl (last_from n (token_after q t))
    where
      go : (b : Bool) → inside (token_after q t).kind ≡ b → (token_after q t).end ≤ (last_within n q (token_after q t)).end → t.end ≤ (last_within (suc n) q t).end
      go true e h = rw (within_next n t e) (omega (arith, after_from q t, h))
      go false e h = rw (within_stop (suc n) t e) (omega arith)

  -- a group with another behind it ends before that
  pub group_moves : (t : Token) (o : BoolOp) → (group_at q t).joining ≡ Some o → left (group_at q t).next < left t
  unfolding group_at last
  group_moves t o e =
      let c = last_from (length q) t in
      let d = after_from q (last q t) in
      let m = after_moves q (token_after q (last q t)) (inside_token (behind q t).kind (joins_inside (behind q t) o e)) in
      let f = after_from q (behind q t) in
      let g = after_from q (token_after q (behind q t)) in
      omega (arith, c, d, m.0, m.1, f, g)

  -- ---- as many groups as bytes are as good as any number more
  ends_alone : (n : ℕ) (t : Token) → (group_at q t).joining ≡ None → terms_within n q t ≡ one (one (text_of q (group_at q t)))
  unfolding terms_within follow
  ends_alone zero t e = refl
  ends_alone (suc n) t e = rw e refl

  groups_enough : (m n : ℕ) (t : Token) → left t ≤ m → left t ≤ n → terms_within m q t ≡ terms_within n q t
  unfolding terms_within
  groups_enough zero n t h k = go (group_at q t).joining refl
    where
      go : (j : Option BoolOp) → (group_at q t).joining ≡ j → terms_within zero q t ≡ terms_within n q t
      go None e = ends_alone zero t e ∙ sym (ends_alone n t e)
      go (Some o) e = let l = group_moves t o e in absurd (omega (arith, l))
  groups_enough (suc m) n t h k = go (group_at q t).joining refl n k (groups_enough m)
    where
      go : (j : Option BoolOp) → (group_at q t).joining ≡ j → (n : ℕ) → left t ≤ n
          → ((n : ℕ) (u : Token) → left u ≤ m → left u ≤ n → terms_within m q u ≡ terms_within n q u) → terms_within (suc m) q t ≡ terms_within n q t
      go None e n k ih = ends_alone (suc m) t e ∙ sym (ends_alone n t e)
      go (Some o) e zero k ih = let l = group_moves t o e in absurd (omega (arith, l))
      go (Some o) e (suc n) k ih =
          let l = group_moves t o e in
          ap (follow (text_of q (group_at q t)) (group_at q t).joining) (ih n (group_at q t).next (omega (arith, l)) (omega (arith, l)))

  pub terms_next : (t : Token) → terms_from q t ≡ follow (text_of q (group_at q t)) (group_at q t).joining (terms_from q (group_at q t).next)
  unfolding terms_from terms_within
  terms_next t = groups_enough (length q) (suc (length q)) t (omega arith) (omega arith)
