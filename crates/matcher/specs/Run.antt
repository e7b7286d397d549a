-- The run over a text (01: "the pattern's live symbols move on by one character each step"): a symbol is live where the characters read
-- so far can end with it. proofs/Decides shows that a run decides `Matches`.
use Rattle.std.specs.Prelude.{Bool, true, false, ◌&&◌, ◌||◌, List, [], ◌∷◌, ℕ}
use Rattle.pattern.specs.Regex.{Regex, empty, sym, seq, alt, opt, plus, stands_for}

-- whether the empty text matches
unfoldable pub nullable : {A : Type 0} → Regex A → Bool
nullable empty = true
nullable (sym l p) = false
nullable (seq a b) = nullable a && nullable b
nullable (alt a b) = nullable a || nullable b
nullable (opt a) = true
nullable (plus a) = nullable a

-- whether a live symbol is a last one: the text may end here
unfoldable pub final : Regex Bool → Bool
final empty = false
final (sym live p) = live
final (seq a b) = final a && nullable b || final b
final (alt a b) = final a || final b
final (opt a) = final a
final (plus a) = final a

-- the live symbols after the character c; `b`: whether the pattern may start here
unfoldable pub shift : Bool → Regex Bool → ℕ → Regex Bool
shift b empty c = empty
shift b (sym live p) c = sym (b && stands_for p c) p
shift b (seq a r) c = seq (shift b a c) (shift (b && nullable a || final a) r c)
shift b (alt a r) c = alt (shift b a c) (shift b r c)
shift b (opt a) c = opt (shift b a c)
shift b (plus a) c = plus (shift (b || final a) a c)

-- the pattern with the symbols of a set live
unfoldable pub with_live : (ℕ → Bool) → Regex ℕ → Regex Bool
with_live S empty = empty
with_live S (sym n p) = sym (S n) p
with_live S (seq a b) = seq (with_live S a) (with_live S b)
with_live S (alt a b) = alt (with_live S a) (with_live S b)
with_live S (opt a) = opt (with_live S a)
with_live S (plus a) = plus (with_live S a)

unfoldable pub run : Regex Bool → List ℕ → Bool
run r [] = final r
run r (c ∷ w) = run (shift false r c) w

-- whether the pattern matches the whole text, computed
unfoldable pub likes : Regex ℕ → List ℕ → Bool
likes r [] = nullable r
likes r (c ∷ w) = run (shift true (with_live (λ i. false) r) c) w
