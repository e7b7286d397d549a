-- `parse` reads exactly the texts that the grammar derives, as what it derives; more depth of calls changes nothing. Assumes nothing.
use mathlib.Core.Path.{◌≡◌, refl, ap, sym as inv, subst, ◌∙◌}
use mathlib.Core.Bool.{Bool, true, false, false≢true}
use mathlib.Core.List.{List, [], ◌∷◌, ◌++◌, append-nil}
use mathlib.Core.Logic.{◌↔◌}
use mathlib.Core.Option.{Option, none, some, some-injective, none-ne-some}
use Prim.Native.Nat.{ℕ, ◌≤◌}
use native.Mathlib.Omega.{arith}
use borrow.Author.Tests.{leb-true, le-leb}
use lib.ListN.{length}
use lib.Dec.{leb}
use Rattle.base.specs.Pick.{pick}
use Rattle.pattern.specs.Regex.{Regex}
use Rattle.pattern.specs.Character.{starts_with}
use Rattle.pattern.specs.Grammar.{Alternatives, Derives, DerivesPattern}
use Rattle.pattern.specs.Reading.{Reading, malformed, front, Part, part, ends, alternatives, whole_of, enough, parse, is_some, well_formed}
use Rattle.pattern.proofs.Sound.{Reads, reads, Of, alternatives_sound}
use Rattle.pattern.proofs.Complete.{alternatives_complete}

module _ (s : List ℕ) where
  -- at any bound that is large enough
  pub whole_derives : (f : ℕ) → enough s ≤ f → (r : Regex ℕ) → (whole_of (alternatives f 0 0 s) ≡ some r) ↔ ((m : ℕ) × Derives Alternatives 0 0 s r m)
  unfolding starts_with ends
  whole_derives f l r = (derived (alternatives f 0 0 s) (alternatives_sound f 0 0 s), read)
    where
      derived : (X : Reading Part) → Reads (Of Alternatives 0 0) s X → whole_of X ≡ some r → (m : ℕ) × Derives Alternatives 0 0 s r m
      derived malformed n q = absurd (none-ne-some r q)
      derived (front p (c ∷ t)) n q = absurd (none-ne-some r q)
      derived (front p []) (reads u e x) q =
          let a : p.regex ≡ r = some-injective p.regex r q in
          let b : u ≡ s = inv (append-nil u) ∙ inv e in
          (p.symbols, subst (λ (w : List ℕ). Derives Alternatives 0 0 w r p.symbols) b (subst (λ (y : Regex ℕ). Derives Alternatives 0 0 u y p.symbols) a x))

      read : (m : ℕ) × Derives Alternatives 0 0 s r m → whole_of (alternatives f 0 0 s) ≡ some r
      read x =
          let n = ap length (append-nil s) in
          let y : alternatives f 0 0 (s ++ []) ≡ part r x.0 [] = alternatives_complete x.1 f [] refl refl (omega arith) in
          ap whole_of (subst (λ (w : List ℕ). alternatives f 0 0 w ≡ part r x.0 []) (append-nil s) y)

  pub more_changes_nothing : (f : ℕ) → enough s ≤ f → whole_of (alternatives f 0 0 s) ≡ whole_of (alternatives (enough s) 0 0 s)
  more_changes_nothing f l = go (whole_of (alternatives f 0 0 s)) (whole_of (alternatives (enough s) 0 0 s)) refl refl
    where
      go : (X Y : Option (Regex ℕ)) → whole_of (alternatives f 0 0 s) ≡ X → whole_of (alternatives (enough s) 0 0 s) ≡ Y → X ≡ Y
      go none none p q = refl
      go none (some r) p q = inv p ∙ (whole_derives f l r).1 ((whole_derives (enough s) (omega arith) r).0 q)
      go (some r) Y p q = inv ((whole_derives (enough s) (omega arith) r).1 ((whole_derives f l r).0 p)) ∙ q

  -- a pattern is read as r exactly where the grammar derives r
  pub parse_derives : (r : Regex ℕ) → (parse s ≡ some r) ↔ DerivesPattern s r
  unfolding parse
  parse_derives r = (to (leb (length s) 256) refl, λ x. rw (le-leb (length s) 256 x.0) ((whole_derives (enough s) (omega arith) r).1 x.1))
    where
      to : (b : Bool) → leb (length s) 256 ≡ b → pick b (whole_of (alternatives (enough s) 0 0 s)) none ≡ some r → DerivesPattern s r
      to true h q = (leb-true (length s) 256 h, (whole_derives (enough s) (omega arith) r).0 q)
      to false h q = absurd (none-ne-some r q)

  -- a text passes the check exactly where the grammar derives a pattern
  pub well_formed_derives : (well_formed s ≡ true) ↔ ((r : Regex ℕ) × DerivesPattern s r)
  well_formed_derives = ((λ e. to (parse s) refl e), (λ x. ap is_some ((parse_derives x.0).1 x.1)))
    where
      to : (X : Option (Regex ℕ)) → parse s ≡ X → is_some X ≡ true → (r : Regex ℕ) × DerivesPattern s r
      to none p e = absurd (false≢true e)
      to (some r) p e = (r, (parse_derives r).0 p)
