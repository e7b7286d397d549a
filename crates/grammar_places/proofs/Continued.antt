-- A text cut behind its first m tokens and continued by spelled ones: its first m tokens are the same, and then the spelled ones follow.
use Prim.Native.Nat.{ℕ, zero, suc, ◌≤◌, ◌<◌}
use mathlib.Core.Path.{◌≡◌, refl, sym, ap, ◌∙◌}
use mathlib.Core.List.{List, [], ◌++◌}
use mathlib.Core.Bool.{true, ◌&&◌}
use native.Mathlib.Omega.{arith}
use lib.ListN.{length, take, get_or-append}
use lib.Seq.{get_or-take, length-take-le}
use Rattle.scan.specs.Class.{in_class}
use Rattle.scan.specs.declared.Class.TheVariants.{Digit}
use Rattle.token.specs.declared.TokenKind.TheVariants.{Number}
use Rattle.token.specs.declared.Form.TheVariants.{Decimal}
use Rattle.token.specs.declared.Token.{Token}
use Rattle.token.specs.Token.{token, is_token, token_after}
use Rattle.token.proofs.Bounds.{after_from, after_moves}
use Rattle.token.proofs.Steps.{after_spans, moves_on}
use Rattle.token.proofs.Local.{shifted, after_inside}
use Rattle.terminal.specs.Terminal.{same, unsigned}
use Rattle.grammar_places.specs.Place.{tok, Agree}
use Rattle.grammar_places.proofs.Begun.{Completion, halves, Standing, Follows}
use Rattle.grammar_places.proofs.Cut.{after_cut}
use Rattle.grammar_places.proofs.Spelled.{spelled, spelled_stops, target_of, before, tok_after, spelled_follows}

shifted_none : (t : Token) → shifted 0 t ≡ t
shifted_none t = same_token (omega arith) (omega arith)
  where
    same_token : {a b c d : ℕ} → a ≡ c → b ≡ d → token t.kind a b ≡ token t.kind c d
    same_token x y = rw (x, y)

-- no token ends before the one before it
grows : (q : List ℕ) (n k : ℕ) → k ≤ n → (before q k).end ≤ (before q n).end
grows q zero k h = let z : k ≡ 0 = omega arith in rw z (omega arith)
grows q (suc n) k h = halves k (suc n) (λ u. omega (arith, grows q n k (omega arith), step)) (λ u. let z : k ≡ suc n = omega arith in rw z (omega arith))
  where
    step : (before q n).end ≤ (tok q n).end
    step = rw (tok_after q n) (after_from q (before q n))

module _ (q : List ℕ) (m : ℕ) (stands : Standing q 0 m) where
  -- where the last of the m tokens ends
  abbrev cut : ℕ
  cut = (before q m).end

  token_after_law : (k : ℕ) → k < m → is_token (token_after q (before q k)).kind ≡ true
  token_after_law k h = rw (← tok_after q k) (stands k (omega arith) h)

  inside : (k : ℕ) → k ≤ m → (before q k).end ≤ length q
  inside zero h = omega arith
  inside (suc k) h = rw (tok_after q k) (after_moves q (before q k) (token_after_law k h)).1

  module _ (c : List Completion) where
    abbrev pub cut_text : List ℕ
    cut_text = take cut q ++ spelled c

    len : length (take cut q) ≡ cut
    len = length-take-le cut q (inside m (omega arith))

    kept_after : (t : Token) → t.end ≤ cut → is_token (token_after q t).kind ≡ true → (token_after q t).end ≤ cut → token_after cut_text t ≡ token_after q t
    kept_after t l y w =
        let e = after_cut q cut (inside m (omega arith)) t l y w in
        let f = after_inside [] (take cut q) (spelled c) (spelled_stops c) t (omega (arith, len)) (rw e y) in
        sym (ap (token_after cut_text) (shifted_none t)) ∙ f ∙ shifted_none (token_after (take cut q) t) ∙ e

    kept : (k : ℕ) → k ≤ m → before cut_text k ≡ before q k
    kept zero h = refl
    kept (suc k) h =
        tok_after cut_text k
        ∙ ap (token_after cut_text) (kept k (omega arith))
        ∙ kept_after (before q k) (grows q m k (omega arith)) (token_after_law k h) (rw (← tok_after q k) (grows q m (suc k) h))
        ∙ sym (tok_after q k)

    number_kept : (t : Token) → t.start < cut → unsigned cut_text t ≡ unsigned q t
    unfolding unsigned
    number_kept t h =
        ap (λ (b : ℕ). same t (Number Decimal) && in_class (Digit 10) b) (get_or-append (take cut q) (spelled c) 0 t.start (omega (arith, len)) ∙ get_or-take cut q t.start 0 h)

    starts_inside : (k : ℕ) → k < m → (tok q k).start < cut
    starts_inside k h =
        let l = moves_on (after_spans q (before q k) (inside k (omega arith))) (token_after_law k h) in
        let z : (tok q k).start < (tok q k).end = rw (tok_after q k) l in
        omega (arith, grows q m (suc k) h)

    pub kept_agrees : Agree q cut_text m
    kept_agrees k h =
        let z = kept (suc k) h in
        (ap (λ (t : Token). t.kind) z, ap (unsigned cut_text) z ∙ number_kept (tok q k) (starts_inside k h))

    pub continues : Follows (target_of cut_text) m c
    continues = spelled_follows c (take cut q) cut_text m refl (ap (λ (t : Token). t.end) (kept m (omega arith)) ∙ sym len)
