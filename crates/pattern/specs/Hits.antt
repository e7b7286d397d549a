-- The symbols of a pattern that stand for a character.
use Rattle.std.specs.Prelude.{◌≡◌, Bool, true, false, ◌||◌, List, [], ◌∷◌, ℕ, zero, suc, ◌<◌, eqb}
use Rattle.base.specs.Bits.{bit}
use Rattle.pattern.specs.Regex.{Symbol, stands_for}
use Rattle.pattern.specs.Character.{open_group, close_group, bar, asterisk, plus_sign, question_mark}
use Rattle.pattern.specs.Reading.{front, symbol}

-- what stands between symbols: ( ) | * + ?
unfoldable pub between : ℕ → Bool
between x = eqb x open_group || eqb x close_group || eqb x bar || eqb x asterisk || eqb x plus_sign || eqb x question_mark

-- the symbols of a text, one after the other
pub data Lists : List ℕ → List Symbol → Type 0 where
  no_more : Lists [] []
  passed : {x : ℕ} {s : List ℕ} {ps : List Symbol} → between x ≡ true → Lists s ps → Lists (x ∷ s) ps
  listed : {x : ℕ} {s t : List ℕ} {p : Symbol} {ps : List Symbol} → between x ≡ false → symbol (x ∷ s) ≡ front p t → Lists t ps → Lists (x ∷ s) (p ∷ ps)

-- whether the i-th symbol stands for the character c
unfoldable pub stands_at : List Symbol → ℕ → ℕ → Bool
stands_at [] i c = false
stands_at (p ∷ ps) zero c = stands_for p c
stands_at (p ∷ ps) (suc i) c = stands_at ps i c

-- r has those of the text's symbols, of which there are at most 60, that stand for the character c
abbrev pub Hits : List ℕ → ℕ → ℕ → Type 0
Hits p c r = (ps : List Symbol) → Lists p ps → (i : ℕ) → i < 60 → bit r i ≡ stands_at ps i c
