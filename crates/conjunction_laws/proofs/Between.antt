-- The tokens between the groups of a written text: brackets, and a bool-op between blanks.
use Prim.Native.Nat.{ℕ}
use mathlib.Core.Path.{◌≡◌, refl}
use mathlib.Core.List.{List, ◌∷◌, ◌++◌}
use mathlib.Core.Bool.{Bool, true, false, ◌&&◌}
use native.Mathlib.Omega.{arith}
use lib.ListN.{length, get_or}
use lib.Dec.{eqb}
use borrow.Author.Tests.{lt-leb}
use Rattle.base.specs.Pick.{pick}
use Rattle.base.specs.Range.{within}
use Rattle.base.specs.Ascii.{bytes}
use Rattle.base.specs.Digit.{digit_of}
use Rattle.base.proofs.Says.{and_false}
use Rattle.record.specs.Name.{letter, name_byte, lower, same_name}
use Rattle.scan.specs.Class.{white, in_class, span, run}
use Rattle.numeral.specs.Numeral.{signed, unsigned_integer, decimal_literal, binary_body, binary_literal, hex_body, hex_literal, exact_numeric, real_body, real_literal}
use Rattle.string_literal.specs.Text.{string_literal}
use Rattle.token.specs.declared.Reserved.TheVariants as Reserved
use Rattle.token.specs.declared.Punctuation.TheVariants.{Open, Close}
use Rattle.token.specs.declared.TokenKind.TheVariants.{NoToken, Word, Symbol}
use Rattle.token.specs.declared.Token.{Token}
use Rattle.token.specs.Token.{token, is_token, fitted, longer, word_kind, word_token, number_token, text_token, pair_kind, single_kind, symbol_of, symbol_token, longest_at, token_from, token_at, word_or_number, apart, token_after}
use Rattle.terminal.specs.declared.operator.BoolOp.{BoolOp}
use Rattle.terminal.specs.declared.operator.BoolOp.TheVariants.{And, Or}

-- ---- "(" and ")" are tokens whatever follows
pub opening_first : (s : List ℕ) → token_at (40 ∷ s) 0 ≡ token (Symbol Open) 0 1
unfolding token_at token_from longest_at symbol_token symbol_of single_kind pair_kind text_token number_token word_token longer fitted is_token signed unsigned_integer decimal_literal binary_body binary_literal hex_body hex_literal exact_numeric real_body real_literal string_literal digit_of white in_class span run within letter
opening_first s = rw (lt-leb (length (40 ∷ s)) 0 (omega arith), and_false (eqb (get_or s 0 0) 62), and_false (eqb (get_or s 0 0) 61)) refl

pub closing_first : (s : List ℕ) → token_at (41 ∷ s) 0 ≡ token (Symbol Close) 0 1
unfolding token_at token_from longest_at symbol_token symbol_of single_kind pair_kind text_token number_token word_token longer fitted is_token signed unsigned_integer decimal_literal binary_body binary_literal hex_body hex_literal exact_numeric real_body real_literal string_literal digit_of white in_class span run within letter
closing_first s = rw (lt-leb (length (41 ∷ s)) 0 (omega arith), and_false (eqb (get_or s 0 0) 62), and_false (eqb (get_or s 0 0) 61)) refl

-- ---- from a group to the next: what stands behind its ")"
abbrev pub operator_text : BoolOp → List ℕ
operator_text And = bytes " AND ("
operator_text Or = bytes " OR ("

abbrev pub operator_token : BoolOp → Token
operator_token And = token (Word Reserved.And) 2 5
operator_token Or = token (Word Reserved.Or) 2 4

abbrev pub opening_token : BoolOp → Token
opening_token And = token (Symbol Open) 6 7
opening_token Or = token (Symbol Open) 5 6

pub operator_next : (o : BoolOp) (r : List ℕ) → token_after (41 ∷ (operator_text o ++ r)) (token (Symbol Close) 0 1) ≡ operator_token o
unfolding token_after apart word_or_number token_at token_from longest_at symbol_token symbol_of single_kind pair_kind text_token number_token word_token word_kind longer fitted is_token signed unsigned_integer decimal_literal binary_body binary_literal hex_body hex_literal exact_numeric real_body real_literal string_literal digit_of white in_class span run within letter name_byte same_name lower
operator_next And r = rw (lt-leb (length (41 ∷ (operator_text And ++ r))) 2 (omega arith)) refl
operator_next Or r = rw (lt-leb (length (41 ∷ (operator_text Or ++ r))) 2 (omega arith)) refl

pub opening_next : (o : BoolOp) (r : List ℕ) → token_after (41 ∷ (operator_text o ++ r)) (operator_token o) ≡ opening_token o
unfolding token_after apart word_or_number token_at token_from longest_at symbol_token symbol_of single_kind pair_kind text_token number_token word_token longer fitted is_token signed unsigned_integer decimal_literal binary_body binary_literal hex_body hex_literal exact_numeric real_body real_literal string_literal digit_of white in_class span run within letter
opening_next And r = rw (lt-leb (length (41 ∷ (operator_text And ++ r))) 6 (omega arith), and_false (eqb (get_or r 0 0) 62), and_false (eqb (get_or r 0 0) 61)) refl
opening_next Or r = rw (lt-leb (length (41 ∷ (operator_text Or ++ r))) 5 (omega arith), and_false (eqb (get_or r 0 0) 62), and_false (eqb (get_or r 0 0) 61)) refl

-- ---- tokens that touch what stands before them
module _ (q : List ℕ) (t : Token) where
  pub after_is : (u : Token) → token_at q t.end ≡ u → word_or_number u.kind ≡ false → token_after q t ≡ u
  unfolding token_after apart
  after_is u e f = rw e (go (word_or_number t.kind))
    where
      go : (c : Bool) → pick ((c && word_or_number u.kind) && eqb u.start t.end) (token NoToken u.start u.start) u ≡ u
      go true = rw f refl
      go false = refl

  pub after_other : word_or_number t.kind ≡ false → token_after q t ≡ token_at q t.end
  unfolding token_after apart
  after_other f = rw f refl
