-- Completing tokens as text: each one spelled behind a blank, and the tokens that are read there.
use Prim.Native.Nat.{ℕ, zero, suc, ◌+◌}
use mathlib.Core.Path.{◌≡◌, refl, sym, ap, ◌∙◌}
use mathlib.Core.List.{List, [], ◌∷◌, ◌++◌, append-nil, append_assoc}
use mathlib.Core.Bool.{Bool, true, false, ◌&&◌}
use native.Mathlib.Omega.{arith}
use lib.ListN.{length, length-append}
use lib.Seq.{get_or-append-add}
use lib.Dec.{eqb}
use Rattle.base.specs.Pick.{pick}
use Rattle.base.specs.Ascii.{bytes}
use Rattle.base.specs.Range.{within}
use Rattle.base.specs.Walk.{walk, from}
use Rattle.base.specs.Digit.{digit_of, value_of}
use Rattle.base.specs.Part.{byte_at}
use Rattle.record.specs.Name.{letter, name_byte, lower, same_name}
use Rattle.encoding.specs.WellFormed.{in_range, fits, sequence_in, sequence_at}
use Rattle.encoding.specs.Scalar.{is_scalar_value, scalar_of, scalar_at}
use Rattle.scan.specs.Class.{white, in_class, span, run}
use Rattle.scan.proofs.Alike.{stop}
use Rattle.string_literal.specs.Char.{unicode_char, raw_at, plain_escape, hex_run, unicode_escape, escape_at, char_at}
use Rattle.string_literal.specs.Text.{text_at, end_or, string_literal}
use Rattle.numeral.specs.Numeral.{signed, unsigned_integer, decimal_literal, binary_body, binary_literal, hex_pairs, hex_body, hex_literal, exact_numeric, exponent_part, real_body, real_literal}
use Rattle.token.specs.declared.TokenKind.{TokenKind}
use Rattle.token.specs.declared.TokenKind.TheVariants.{End, NoToken}
use Rattle.token.specs.declared.Token.{Token}
use Rattle.token.specs.Token.{token, is_token, fitted, longer, word_kind, word_token, number_token, text_token, pair_kind, single_kind, symbol_of, symbol_token, longest_at, token_from, token_at, word_or_number, apart, token_after}
use Rattle.token.proofs.Bounds.{after_past}
use Rattle.token.proofs.Local.{shifted, after_inside}
use Rattle.terminal.specs.Terminal.{same, unsigned}
use Rattle.syntax.specs.Scan.{scan}
use Rattle.grammar_places.specs.Place.{tok}
use Rattle.grammar_places.proofs.Begun.{Completion, name, number, text, like, any, equals, close_index, close_list, open_group, close_group, kind_of, is_number, Target, Follows}

abbrev spell : Completion → List ℕ
spell name = bytes " x"
spell number = bytes " 1"
spell text = bytes " 'x'"
spell like = bytes " LIKE"
spell any = bytes " ANY"
spell equals = bytes " ="
spell close_index = bytes " ]"
spell close_list = bytes " }"
spell open_group = bytes " ("
spell close_group = bytes " )"

unfoldable pub spelled : List Completion → List ℕ
spelled [] = []
spelled (x ∷ c) = spell x ++ spelled c

-- each is one token behind its blank
spelled_at : (x : Completion) → token_at (spell x) 0 ≡ token (kind_of x) 1 (length (spell x))
unfolding token_at token_from longest_at symbol_token symbol_of single_kind pair_kind text_token number_token word_token word_kind longer fitted is_token signed unsigned_integer decimal_literal binary_body binary_literal hex_pairs hex_body hex_literal exact_numeric exponent_part real_body real_literal text_at end_or string_literal unicode_char raw_at plain_escape hex_run unicode_escape escape_at char_at value_of digit_of white in_class span run in_range fits sequence_in sequence_at is_scalar_value scalar_of scalar_at walk from within letter name_byte same_name lower
spelled_at name = refl
spelled_at number = refl
spelled_at text = refl
spelled_at like = refl
spelled_at any = refl
spelled_at equals = refl
spelled_at close_index = refl
spelled_at close_list = refl
spelled_at open_group = refl
spelled_at close_group = refl

-- behind a blank no token touches the one before
apart_blank : (b : Bool) (t : Token) → eqb t.start 0 ≡ false → apart b 0 t ≡ t
unfolding apart
apart_blank b t e = rw e (go (b && word_or_number t.kind))
  where
    go : (c : Bool) → pick (c && false) (token NoToken t.start t.start) t ≡ t
    go true = refl
    go false = refl

spelled_after : (x : Completion) (k : TokenKind) → token_after (spell x) (token k 0 0) ≡ token (kind_of x) 1 (length (spell x))
unfolding token_after
spelled_after x k = rw (spelled_at x) (apart_blank (word_or_number k) (token (kind_of x) 1 (length (spell x))) refl)

some_token : (x : Completion) → is_token (kind_of x) ≡ true
unfolding is_token
some_token name = refl
some_token number = refl
some_token text = refl
some_token like = refl
some_token any = refl
some_token equals = refl
some_token close_index = refl
some_token close_list = refl
some_token open_group = refl
some_token close_group = refl

first_blank : (x : Completion) (s : List ℕ) → byte_at (spell x ++ s) 0 ≡ 32
first_blank name s = refl
first_blank number s = refl
first_blank text s = refl
first_blank like s = refl
first_blank any s = refl
first_blank equals s = refl
first_blank close_index s = refl
first_blank close_list s = refl
first_blank open_group s = refl
first_blank close_group s = refl

pub spelled_stops : (c : List Completion) → stop (byte_at (spelled c) 0) ≡ true
unfolding spelled stop white
spelled_stops [] = refl
spelled_stops (x ∷ c) = rw (first_blank x (spelled c)) refl

-- of a token only its kind and end matter to the next
after_by : (r : List ℕ) (k : TokenKind) (a b c d : ℕ) → b ≡ d → token_after r (token k a b) ≡ token_after r (token k c d)
unfolding token_after
after_by r k a b c d y = ap (λ (e : ℕ). apart (word_or_number k) e (token_at r e)) y

-- the token that is read at one of them, in a text that has it behind a token's end
there : (x : Completion) (p s : List ℕ) (t : Token) → stop (byte_at s 0) ≡ true → t.end ≡ length p
    → token_after (p ++ (spell x ++ s)) t ≡ shifted (length p) (token (kind_of x) 1 (length (spell x)))
there x p s t h z =
    after_by (p ++ (spell x ++ s)) t.kind t.start t.end (length p + 0) (length p + 0) (omega arith)
    ∙ after_inside p (spell x) s h (token t.kind 0 0) (omega arith) (rw (spelled_after x t.kind) (some_token x))
    ∙ ap (shifted (length p)) (spelled_after x t.kind)

number_there : (x : Completion) (p s : List ℕ) → unsigned (p ++ (spell x ++ s)) (shifted (length p) (token (kind_of x) 1 (length (spell x)))) ≡ is_number x
unfolding unsigned same in_class digit_of within
number_there name p s = refl
number_there number p s = rw (get_or-append-add p (spell number ++ s) 1 0) refl
number_there text p s = refl
number_there like p s = refl
number_there any p s = refl
number_there equals p s = refl
number_there close_index p s = refl
number_there close_list p s = refl
number_there open_group p s = refl
number_there close_group p s = refl

-- ---- the tokens of a text, and the one before each
pub next_of : (r : List ℕ) (k : ℕ) → token_after r (tok r k) ≡ tok r (suc k)
unfolding tok
next_of r k = refl

abbrev pub target_of : List ℕ → Target
target_of r = record { scan = scan r; nth = tok r; next = next_of r }

abbrev pub before : List ℕ → ℕ → Token
before r zero = token End 0 0
before r (suc k) = tok r k

pub tok_after : (r : List ℕ) (k : ℕ) → tok r k ≡ token_after r (before r k)
unfolding tok
tok_after r zero = refl
tok_after r (suc k) = refl

-- what is spelled behind a token's end follows it
pub spelled_follows : (c : List Completion) (p r : List ℕ) (k : ℕ) → r ≡ p ++ spelled c → (before r k).end ≡ length p → Follows (target_of r) k c
unfolding Follows spelled same
spelled_follows [] p r k e z =
    let n : length r ≡ length p = ap length (e ∙ append-nil p) in
    rw (tok_after r k, after_past r (before r k) (omega arith)) refl
spelled_follows (x ∷ c) p r k e z =
    let y : tok r k ≡ shifted (length p) (token (kind_of x) 1 (length (spell x))) =
    tok_after r k ∙ ap (λ (l : List ℕ). token_after l (before r k)) e ∙ there x p (spelled c) (before r k) (spelled_stops c) z in
    let u : unsigned r (tok r k) ≡ is_number x = ap (unsigned r) y ∙ ap (λ (l : List ℕ). unsigned l (shifted (length p) (token (kind_of x) 1 (length (spell x))))) e ∙ number_there x p (spelled c) in
    (ap (λ (t : Token). t.kind) y, u, spelled_follows c (p ++ spell x) r (suc k) (e ∙ sym (append_assoc p (spell x) (spelled c))) (ap (λ (t : Token). t.end) y ∙ sym (length-append p (spell x))))
