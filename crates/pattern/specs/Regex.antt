-- Patterns and the texts that they match (01, "Pattern"): the meaning, given on the syntax.
use Rattle.std.specs.Prelude.{◌≡◌, Bool, true, false, not, ◌||◌, List, [], ◌∷◌, ◌++◌, ◌⊎◌, ℕ, eqb}
use Rattle.base.specs.Range.{within}

-- a member of a set: the characters from one to another, both included
pub record Range : Type 0 where
  pub low : ℕ
  pub high : ℕ

-- 01's symbols: the dot, a character, a set and whether it is negated
pub data Symbol : Type 0 where
  any : Symbol
  one : ℕ → Symbol
  set : Bool → List Range → Symbol

unfoldable pub in_ranges : List Range → ℕ → Bool
in_ranges [] c = false
in_ranges (r ∷ rs) c = within r.low r.high c || in_ranges rs c

-- whether a symbol stands for the character
unfoldable pub stands_for : Symbol → ℕ → Bool
stands_for any c = true
stands_for (one x) c = eqb x c
stands_for (set true rs) c = not (in_ranges rs c)
stands_for (set false rs) c = in_ranges rs c

-- A pattern. A symbol has a label on which no meaning depends: its number in the pattern, or in a run whether it is live.
pub data Regex (A : Type 0) : Type 0 where
  empty : Regex A
  sym : A → Symbol → Regex A
  seq : Regex A → Regex A → Regex A
  alt : Regex A → Regex A → Regex A
  opt : Regex A → Regex A
  plus : Regex A → Regex A

-- `x*` is `(x+)?`
abbrev pub star : {A : Type 0} → Regex A → Regex A
star r = opt (plus r)

-- a text that is one of P followed by one of Q
abbrev pub Split : (List ℕ → Type 0) → (List ℕ → Type 0) → List ℕ → Type 0
Split P Q w = (u : List ℕ) × (v : List ℕ) × (w ≡ u ++ v) × P u × Q v

-- a text that is one text of P or several, one after the other
pub data Plus (P : List ℕ → Type 0) : List ℕ → Type 0 where
  last : {w : List ℕ} → P w → Plus P w
  more : {u v : List ℕ} → P u → Plus P v → Plus P (u ++ v)

-- the texts that a pattern matches
unfoldable pub Matches : {A : Type 0} → Regex A → List ℕ → Type 0
Matches empty = λ w. w ≡ []
Matches (sym l p) = λ w. (c : ℕ) × (w ≡ c ∷ []) × (stands_for p c ≡ true)
Matches (seq a b) = Split (Matches a) (Matches b)
Matches (alt a b) = λ w. Matches a w ⊎ Matches b w
Matches (opt a) = λ w. (w ≡ []) ⊎ Matches a w
Matches (plus a) = Plus (Matches a)
