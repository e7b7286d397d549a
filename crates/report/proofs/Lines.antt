-- The lines that stand in a text are those that it was made of, as none of the program's lines has a line feed of its own.
use Rattle.std.specs.Prelude.{Err, Ok, Result}
use Prim.Native.Nat.{ℕ, ◌+◌, ◌%◌, ◌<◌}
use mathlib.Core.List.{List, [], ◌∷◌, ◌++◌}
use mathlib.Core.Bool.{Bool, true, false, not, ◌&&◌, and_assoc}
use mathlib.Core.Path.{◌≡◌, refl, sym, ap, ◌∙◌}
use native.Mathlib.Omega.{arith}
use lib.Dec.{eqb}
use borrow.Author.Tests.{ne_eqb, not-true}
use Rattle.base.proofs.Says.{and_both}
use Rattle.filter.specs.declared.refusal.Answer.{Answer}
use Rattle.filter.specs.declared.refusal.Answer.TheVariants.{Included, Excluded}
use Rattle.run.specs.declared.totals.Totals.{Totals}
use Rattle.text_writer.specs.Decimal.{decimal}
use Rattle.text_writer.proofs.Digits.{by_tenths}
use Rattle.report.specs.Line.{word_of, spaced, line, answer_line, refused_line, spaced_totals, total_line, answer_lines}
use Rattle.report.specs.Text.{line_feed, terminated, text, lines_of}
use Rattle.filter.specs.declared.refusal.Refusal.{Refusal}

-- ---- a byte that a text lacks
unfoldable pub lacks : (byte : ℕ) → List ℕ → Bool
lacks x [] = true
lacks x (b ∷ s) = not (eqb b x) && lacks x s

module _ (x : ℕ) where
  pub lacks_first : (b : ℕ) (s : List ℕ) → lacks x (b ∷ s) ≡ true → (eqb b x ≡ false) × (lacks x s ≡ true)
  unfolding lacks
  lacks_first b s h = let k = and_both (not (eqb b x)) (lacks x s) h in (not-true _ k.0, k.1)

  pub lacks_append : (s r : List ℕ) → lacks x (s ++ r) ≡ (lacks x s && lacks x r)
  unfolding lacks
  lacks_append [] r = refl
  lacks_append (b ∷ s) r = rw (lacks_append s r) (sym (and_assoc (not (eqb b x)) (lacks x s) (lacks x r)))

  -- no digit is a byte below `0`
  module _ (low : x < 48) where
    digit_lacks : (d : ℕ) → lacks x ((48 + d) ∷ []) ≡ true
    unfolding lacks
    digit_lacks d = rw (ne_eqb (48 + d) x (λ e. omega arith)) refl

    abbrev Lacking : List ℕ → ℕ → Type 0
    Lacking s n = lacks x s ≡ true

    pub decimal_lacks : (n : ℕ) → lacks x (decimal n) ≡ true
    decimal_lacks = by_tenths Lacking (λ n h. digit_lacks n) (λ s n h k. rw (lacks_append s ((48 + n % 10) ∷ []), k) (digit_lacks (n % 10)))

-- ---- the program's lines
abbrev OneLine : List ℕ → Type 0
OneLine l = lacks line_feed l ≡ true

decimal_one : (n : ℕ) → OneLine (decimal n)
decimal_one = decimal_lacks line_feed (omega arith)

spaced_one : (n : ℕ) → OneLine (spaced n)
unfolding spaced lacks
spaced_one n = decimal_one n

word_one : (a : Result Answer Refusal) → OneLine (word_of a)
unfolding lacks
word_one (Ok (Included n)) = refl
word_one (Ok (Excluded n)) = refl
word_one (Err r) = refl

answer_one : (number : ℕ) (a : Result Answer Refusal) → OneLine (answer_line number a)
unfolding line lacks
answer_one number a = simp (lacks_append line_feed, decimal_one, word_one, spaced_one) refl

refused_one : (number place : ℕ) → OneLine (refused_line number place)
unfolding refused_line lacks
refused_one number place = simp (lacks_append line_feed, spaced_one) refl

total_one : (n : ℕ) (x : Totals) → OneLine (total_line n x)
unfolding total_line spaced_totals lacks
total_one n x = simp (lacks_append line_feed, spaced_one) refl

-- ---- read back
first_line : (l r : List ℕ) → OneLine l → lines_of (terminated l ++ r) ≡ l ∷ lines_of r
unfolding terminated lines_of
first_line [] r h = refl
first_line (b ∷ l) r h = let k = lacks_first line_feed b l h in rw (k.0, first_line l r k.1) refl

pub data Plain : List (List ℕ) → Type 0 where
  none : Plain []
  more : {l : List ℕ} {ls : List (List ℕ)} → OneLine l → Plain ls → Plain (l ∷ ls)

pub read_back : (ls : List (List ℕ)) → Plain ls → lines_of (text ls) ≡ ls
unfolding text lines_of
read_back [] none = refl
read_back (l ∷ ls) (more h p) = first_line l (text ls) h ∙ ap (λ (r : List (List ℕ)). l ∷ r) (read_back ls p)

pub refused_plain : (number place : ℕ) → Plain (refused_line number place ∷ [])
refused_plain number place = more (refused_one number place) none

pub run_plain : (number n : ℕ) (x : Totals) (l : List (Result Answer Refusal)) → Plain (answer_lines number l ++ (total_line n x ∷ []))
unfolding answer_lines
run_plain number n x [] = more (total_one n x) none
run_plain number n x (a ∷ l) = more (answer_one number a) (run_plain (number + 1) n x l)
