-- Tokens one after another: no token ends before the one before it, and past the end nothing stands.
use Prim.Native.Nat.{ℕ, zero, suc, ◌≤◌, ◌<◌}
use mathlib.Core.Path.{◌≡◌, refl, sym, ap, ◌∙◌}
use mathlib.Core.List.{List}
use mathlib.Core.Bool.{Bool, true, false, ◌&&◌, false≢true}
use native.Mathlib.Omega.{arith}
use lib.ListN.{length}
use lib.Dec.{leb, eqb}
use borrow.Author.Tests.{leb-true, leb-false, le-leb}
use Rattle.base.specs.Pick.{pick}
use Rattle.scan.specs.declared.Class.TheVariants as Class
use Rattle.scan.proofs.Runs.{run_end}
use Rattle.token.specs.declared.TokenKind.TheVariants.{End, NoToken}
use Rattle.token.specs.declared.Token.{Token}
use Rattle.token.specs.Token.{token, is_token, token_from, token_at, word_or_number, apart, token_after}
use Rattle.token.proofs.Steps.{after_spans, step_forward}

-- the n-th token from one on, which is itself the 0th
unfoldable pub nth_from : List ℕ → Token → ℕ → Token
nth_from q t zero = t
nth_from q t (suc n) = token_after q (nth_from q t n)

module _ (q : List ℕ) where
  -- past the end nothing stands
  pub at_past : (at : ℕ) → length q ≤ at → token_at q at ≡ token End at at
  unfolding token_at token_from
  at_past at h = rw (run_end Class.White q at h) (rw (le-leb (length q) at h) refl)

  pub after_past : (t : Token) → length q ≤ t.end → token_after q t ≡ token End t.end t.end
  unfolding token_after apart word_or_number
  after_past t h = rw (at_past t.end h) (go (word_or_number t.kind))
    where
      go : (b : Bool) → pick ((b && false) && eqb t.end t.end) (token NoToken t.end t.end) (token End t.end t.end) ≡ token End t.end t.end
      go true = refl
      go false = refl

  -- no token ends before the one before it; one that stands there moves on, within the text
  pub after_from : (t : Token) → t.end ≤ (token_after q t).end
  after_from t = go (leb (length q) t.end) refl
    where
      go : (b : Bool) → leb (length q) t.end ≡ b → t.end ≤ (token_after q t).end
      go true e = rw (after_past t (leb-true (length q) t.end e)) (omega arith)
      go false e = let l = leb-false (length q) t.end e in let r = after_spans q t (omega arith) in omega (arith, r.begins, r.ends)

  pub after_moves : (t : Token) → is_token (token_after q t).kind ≡ true → (t.end < (token_after q t).end) × ((token_after q t).end ≤ length q)
  unfolding is_token
  after_moves t s = go (leb (length q) t.end) refl
    where
      go : (b : Bool) → leb (length q) t.end ≡ b → (t.end < (token_after q t).end) × ((token_after q t).end ≤ length q)
      go true e = absurd (false≢true (sym (ap (λ (u : Token). is_token u.kind) (after_past t (leb-true (length q) t.end e))) ∙ s))
      go false e =
          let l = leb-false (length q) t.end e in
          let r = after_spans q t (omega arith) in
          (step_forward q t (omega arith) s, r.within)
