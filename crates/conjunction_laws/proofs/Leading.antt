-- The group that starts with a token from which comparisons of a query are read, and what follows it there.
use Rattle.std.specs.Prelude.{None, Some}
use Prim.Native.Nat.{ℕ, ◌≤◌}
use mathlib.Core.Path.{◌≡◌, refl, sym, ap, ◌∙◌}
use mathlib.Core.List.{List}
use mathlib.Core.Logic.{◌⊎◌, inl, inr}
use mathlib.Core.Bool.{Bool, true, false}
use native.Mathlib.Omega.{arith}
use lib.ListN.{length}
use Rattle.token.specs.declared.Punctuation.TheVariants.{Close}
use Rattle.token.specs.declared.TokenKind.TheVariants.{End, Symbol}
use Rattle.token.specs.declared.Token.{Token}
use Rattle.token.specs.Token.{token, is_token, token_after}
use Rattle.token.proofs.Steps.{after_spans}
use Rattle.token.proofs.Bounds.{after_past}
use Rattle.token.proofs.Stands.{Standing, after_standing}
use Rattle.terminal.specs.declared.operator.BoolOp.{BoolOp}
use Rattle.terminal.specs.Terminal.{same, joining}
use Rattle.terminal.proofs.KindCodes.{kind_is}
use Rattle.terminal.proofs.Inside.{inside_token}
use Rattle.syntax.specs.Scan.{scan}
use Rattle.query_text.specs.declared.join.Join.TheVariants.{Outer}
use Rattle.query_text.specs.Query.{Comparisons, good, query_from}
use Rattle.conjunction.specs.Groups.{last, behind, group_at}
use Rattle.conjunction_laws.proofs.Segments.{Segment, chain_to, no_operator, Finish, Onward, beyond, Split, whole, parts, split}
use Rattle.conjunction_laws.proofs.Tokens.{starts_inside}
use Rattle.conjunction_laws.proofs.Behind.{after_start, after_ended}
use Rattle.conjunction_laws.proofs.Expressions.{Expression, closing_is, last_in, closing_in}

module _ (q : List ℕ) where
  -- a token as the reader meets it
  abbrev pub Placed : Token → Type 0
  Placed t = (is_token t.kind ≡ true → Standing q t) × (t.start ≤ length q)

  pub next_placed : (t : Token) → t.end ≤ length q → Placed (token_after q t)
  next_placed t h = (λ e. after_standing q t e, omega (arith, (after_spans q t h).ends, (after_spans q t h).within))

  -- the group that starts with a token from which comparisons are read: the last one, or one before others
  pub data Leading (g : Bool) (t : Token) (L : Comparisons) : Type 0 where
    final : (E : Expression q t) → L ≡ E.list → Finish (scan q) g E.closing → Leading g t L
    earlier : (E : Expression q t) {o : BoolOp} {R : Comparisons} (m : ℕ) → g ≡ true → Onward (scan q) E.closing o → query_from m (scan q) g (beyond (scan q) E.closing) ≡ good R
        → L ≡ chain_to E.list (Outer o) R → Leading g t L

  finished : (g : Bool) (w : Token) → Finish (scan q) g w → (w.kind ≡ Symbol Close) ⊎ (w.kind ≡ End)
  finished false w h = inr (kind_is w End h)
  finished true w h = inl (kind_is w (Symbol Close) h.0)

  pub leading : (n : ℕ) (g : Bool) (t : Token) (L : Comparisons) → Placed t → query_from n (scan q) g t ≡ good L → Leading g t L
  leading n g t L p e = go (split (scan q) n g t L e)
    where
      at : (w : Token) (l : Comparisons) → Segment (scan q) t l w → (w.kind ≡ Symbol Close) ⊎ (w.kind ≡ End) → Expression q t
      at w l h k = record { list = l; closing = w; segment = h; closes = k; stands = p.0 (inside_token t.kind (starts_inside q h)); here = p.1 }

      go : Split (scan q) g t L → Leading g t L
      go (whole {w = w} s a) = final (at w L s (finished g w a)) refl a
      go (parts {w = w} {l = l} m b s a r c) = earlier (at w l s (inl (kind_is w (Symbol Close) a.close))) m b a r c

  module _ {t : Token} (E : Expression q t) where
    pub behind_it : behind q t ≡ token_after q E.closing
    behind_it = ap (token_after q) (sym (closing_is E))

    pub no_more : (g : Bool) → Finish (scan q) g E.closing → (group_at q t).joining ≡ None
    unfolding group_at same
    no_more true k = ap joining behind_it ∙ no_operator (token_after q E.closing) k.1
    no_more false k =
        let e = kind_is E.closing End k in
        let p = after_ended q (last q t) (ap (λ (u : Token). u.kind) (sym (closing_is E)) ∙ e) in
        let s = after_spans q (last q t) (last_in E) in
        let z : length q ≤ (token_after q (last q t)).end = omega (arith, p, after_start q (last q t), s.ends) in
        ap joining (after_past q (token_after q (last q t)) z) ∙ no_operator (token End (token_after q (last q t)).end (token_after q (last q t)).end) refl

    -- the token before the next group, and that group's first one
    pub next_within : (token_after q (token_after q E.closing)).end ≤ length q
    next_within = let j = (after_spans q E.closing (closing_in E)).within in (after_spans q (token_after q E.closing) j).within

    pub next_joining : (o : BoolOp) → Onward (scan q) E.closing o → (group_at q t).joining ≡ Some o
    unfolding group_at
    next_joining o k = ap joining behind_it ∙ k.operator

    pub next_is : (group_at q t).next ≡ beyond (scan q) E.closing
    unfolding group_at
    next_is = ap (λ (u : Token). token_after q (token_after q u)) behind_it
