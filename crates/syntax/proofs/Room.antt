-- The number of names that a path may have in the definition, one more than the text has bytes, is never reached.
use Rattle.std.specs.Prelude.{Err, Ok, Result}
use Prim.Native.Nat.{ℕ, zero, suc, ◌+◌, ◌-◌, ◌<◌}
use mathlib.Core.Path.{◌≡◌, refl, ◌∙◌}
use mathlib.Core.List.{List}
use mathlib.Core.Bool.{Bool, true, false}
use native.Mathlib.Omega.{arith}
use lib.ListN.{length}
use Rattle.token.specs.declared.Punctuation.TheVariants.{Dot}
use Rattle.token.specs.declared.TokenKind.TheVariants.{Symbol}
use Rattle.token.specs.declared.Token.{Token}
use Rattle.token.specs.Token.{token_after}
use Rattle.token.proofs.Bounds.{after_from, after_moves}
use Rattle.terminal.specs.Terminal.{same, word}
use Rattle.terminal.proofs.Inside.{inside_token, word_inside}
use Rattle.syntax.specs.declared.path.Path.{Path}
use Rattle.syntax.specs.Scan.{Scan, scan}
use Rattle.syntax.specs.Property.{dotted, one_more}

-- so many more
unfoldable pub up : ℕ → ℕ → ℕ
up zero n = n
up (suc k) n = suc (up k n)

pub up_adds : (k n : ℕ) → up k n ≡ k + n
unfolding up
up_adds zero n = omega arith
up_adds (suc k) n = omega (arith, up_adds k n)

module _ (s : Scan) where
  -- a limit on names that is never reached
  abbrev pub Roomy : Type 0
  Roomy = (p : Path) (t : Token) → dotted (suc s.size) s p t ≡ dotted s.size s p t

  word_cong : (a b : ℕ) (p : Path) (t : Token) (d : Bool) → ((x : Path) (y : Token) → dotted a s x y ≡ dotted b s x y)
      → ◌≡◌ {A = Result (Path × Token) ℕ} (elim d [ true ↦ dotted a s (one_more p (s.next t)) (s.next (s.next t)) | false ↦ Err (s.next t).start ])
      (elim d [ true ↦ dotted b s (one_more p (s.next t)) (s.next (s.next t)) | false ↦ Err (s.next t).start ])
  word_cong a b p t true e = e (one_more p (s.next t)) (s.next (s.next t))
  word_cong a b p t false e = refl

  dot_cong : (a b : ℕ) (p : Path) (t : Token) (d : Bool) → ((x : Path) (y : Token) → dotted a s x y ≡ dotted b s x y)
      → ◌≡◌ {A = Result (Path × Token) ℕ} (elim d [ true ↦ elim (word (s.next t)) [ true ↦ dotted a s (one_more p (s.next t)) (s.next (s.next t)) | false ↦ Err (s.next t).start ] | false ↦ Ok (p, t) ])
      (elim d [ true ↦ elim (word (s.next t)) [ true ↦ dotted b s (one_more p (s.next t)) (s.next (s.next t)) | false ↦ Err (s.next t).start ] | false ↦ Ok (p, t) ])
  dot_cong a b p t true e = word_cong a b p t (word (s.next t)) e
  dot_cong a b p t false e = refl

  step_cong : (a b : ℕ) → ((x : Path) (y : Token) → dotted a s x y ≡ dotted b s x y) → (p : Path) (t : Token) → dotted (suc a) s p t ≡ dotted (suc b) s p t
  unfolding dotted
  step_cong a b e p t = dot_cong a b p t (same t (Symbol Dot)) e

  pub room : Roomy → (k : ℕ) (p : Path) (t : Token) → dotted (up k s.size) s p t ≡ dotted s.size s p t
  unfolding up
  room roomy zero p t = refl
  room roomy (suc k) p t = step_cong (up k s.size) s.size (room roomy k) p t ∙ roomy p t

-- it isn't where something gets less from name to name and is less than the limit
module _ (s : Scan) (left : Token → ℕ) (less : (t : Token) → word (s.next t) ≡ true → left (s.next (s.next t)) < left t) where
  names_end : (m : ℕ) (p : Path) (t : Token) → left t < m → dotted (suc m) s p t ≡ dotted m s p t
  unfolding dotted
  names_end zero p t h = absurd (omega arith)
  names_end (suc m) p t h = go (same t (Symbol Dot)) (word (s.next t)) refl (λ l. names_end m (one_more p (s.next t)) (s.next (s.next t)) l)
    where
      go : (b d : Bool) → word (s.next t) ≡ d
          → (left (s.next (s.next t)) < m → dotted (suc m) s (one_more p (s.next t)) (s.next (s.next t)) ≡ dotted m s (one_more p (s.next t)) (s.next (s.next t)))
          → ◌≡◌ {A = Result (Path × Token) ℕ}
          (elim b [ true ↦ elim d [ true ↦ dotted (suc m) s (one_more p (s.next t)) (s.next (s.next t)) | false ↦ Err (s.next t).start ] | false ↦ Ok (p, t) ])
          (elim b [ true ↦ elim d [ true ↦ dotted m s (one_more p (s.next t)) (s.next (s.next t)) | false ↦ Err (s.next t).start ] | false ↦ Ok (p, t) ])
      go true true w ih = ih (omega (arith, less t w))
      go true false w ih = refl
      go false d w ih = refl

  pub roomy_by : ((t : Token) → left t < s.size) → Roomy s
  roomy_by h p t = names_end s.size p t (h t)

-- the bytes behind a token do
module _ (q : List ℕ) where
  pub names_shorten : (t : Token) → word (token_after q t) ≡ true → length q - (token_after q (token_after q t)).end < length q - t.end
  unfolding word
  names_shorten t w =
      let a = after_moves q t (inside_token (token_after q t).kind (word_inside (token_after q t).kind w)) in
      omega (arith, a.0, a.1, after_from q (token_after q t))

  pub roomy : Roomy (scan q)
  roomy = roomy_by (scan q) (λ t. length q - t.end) names_shorten (λ t. omega arith)
