-- A text cut behind one of its tokens keeps its tokens up to there, also where the next one touched it.
use Prim.Native.Nat.{ℕ, zero, suc, ◌+◌, ◌-◌, ◌≤◌, ◌<◌}
use mathlib.Core.Path.{◌≡◌, refl, sym, ap, ◌∙◌, subst}
use mathlib.Core.List.{List}
use mathlib.Core.Bool.{Bool, true, false, false≢true}
use native.Mathlib.Omega.{arith}
use lib.ListN.{length, take}
use lib.Seq.{get_or-take, length-take-le}
use lib.Dec.{leb}
use borrow.Author.Tests.{leb-false, lt-leb}
use Rattle.base.specs.Pick.{pick}
use Rattle.base.specs.Part.{part, byte_at}
use Rattle.base.specs.Digit.{value_of}
use Rattle.base.proofs.Lists.{byte_past}
use Rattle.record.specs.Name.{letter, name_byte}
use Rattle.scan.specs.declared.Class.{Class}
use Rattle.scan.specs.Class.{run, in_class}
use Rattle.scan.proofs.Ends.{ends_within}
use Rattle.scan.proofs.Runs.{run_from, run_within, run_holds, run_longest, white_no_zero, word_no_zero}
use Rattle.scan.proofs.Alike as alike
use Rattle.scan.proofs.Alike.{part_same}
use Rattle.encoding.specs.WellFormed.{sequence_at}
use Rattle.encoding.proofs.SameSequence.{same_sequence, same_scalar}
use Rattle.numeral.specs.Numeral.{decimal_literal, binary_literal, hex_literal, real_literal}
use Rattle.numeral.specs.Abnf as N
use Rattle.numeral.proofs.Local.{Reader, avoids, outside, decimal_reader, binary_reader, hex_reader, real_reader}
use Rattle.string_literal.specs.Text.{string_literal}
use Rattle.string_literal.specs.Abnf as L
use Rattle.string_literal.specs.Abnf.{OneOf, HexDigits}
use Rattle.string_literal.proofs.Ends.{string_ends}
use Rattle.string_literal.proofs.Fit.{string_fits, fits_string}
use Rattle.token.specs.declared.Form.TheVariants.{Decimal, Binary, Hex, Real}
use Rattle.token.specs.declared.TokenKind.{TokenKind}
use Rattle.token.specs.declared.TokenKind.TheVariants.{End, NoToken, Number, Text}
use Rattle.token.specs.declared.Token.{Token}
use Rattle.token.specs.Token.{token, is_token, fitted, longer, word_kind, word_token, number_token, text_token, pair_kind, single_kind, symbol_of, symbol_token, longest_at, token_from, token_at, word_or_number, apart, token_after}
use Rattle.token.specs.Grammar.{Stands, decimal, binary, hexadecimal, real, string, word}
use Rattle.token.proofs.Spans.{longer_first, longer_second}
use Rattle.token.proofs.Maximal.{longest_token}
use Rattle.token.proofs.Steps.{longest_spans, moves_on}
use Rattle.token.proofs.Laws.{from_spans}
use Rattle.token.proofs.Local.{apart_kept}
use Rattle.grammar_places.proofs.Begun.{halves}

-- two texts that have the same bytes before a place
record Shared (q r : List ℕ) (n : ℕ) : Type 0 where
  pub first : n ≤ length q
  pub second : n ≤ length r
  pub same : (i : ℕ) → i < n → byte_at q i ≡ byte_at r i

turned : {q r : List ℕ} {n : ℕ} → Shared q r n → Shared r q n
turned A = record { first = A.second; second = A.first; same = λ i h. sym (A.same i h) }

-- what fits a rule ends no earlier than it starts
number_on : {q : List ℕ} {rule : N.Rule} {a e : ℕ} → N.Fits q rule a e → a ≤ e
number_on (N.one h) = omega arith
number_on (N.join f g) = omega (arith, number_on f, number_on g)
number_on (N.left f) = number_on f
number_on (N.right f) = number_on f
number_on N.none = omega arith
number_on (N.just f) = number_on f
number_on (N.last f) = number_on f
number_on (N.more f g) = omega (arith, number_on f, number_on g)

string_on : {q : List ℕ} {rule : L.Rule} {a e : ℕ} → L.Fits q rule a e → a ≤ e
string_on (L.one h) = omega (arith, h.ends)
string_on (L.join f g) = omega (arith, string_on f, string_on g)
string_on (L.left f) = string_on f
string_on (L.right f) = string_on f
string_on L.none = omega arith
string_on (L.more f g) = omega (arith, string_on f, string_on g)
string_on (L.hex h) = omega (arith, h.ends)

module _ {q r : List ℕ} {n : ℕ} (A : Shared q r n) where
  part_shared : (i k : ℕ) → i + k ≤ n → part q i k ≡ part r i k
  part_shared i k h = part_same q i r i k (omega (arith, A.first)) (omega (arith, A.second)) (λ m l. A.same (i + m) (omega arith))

  value_shared : (base v i k : ℕ) → i + k ≤ n → value_of base v q i k ≡ value_of base v r i k
  unfolding value_of
  value_shared base v i zero h = refl
  value_shared base v i (suc k) h = rw (A.same (i + k) (omega arith), value_shared base v i k (omega arith)) refl

  -- a number that ends before the place is one in both
  number_shared : {rule : N.Rule} {a e : ℕ} → N.Fits q rule a e → e ≤ n → N.Fits r rule a e
  number_shared (N.one {p = p} {a = a} h) w = N.one (subst (λ (b : ℕ). p b ≡ true) (A.same a (omega arith)) h)
  number_shared (N.join f g) w = let l = number_on g in N.join (number_shared f (omega arith)) (number_shared g w)
  number_shared (N.left f) w = N.left (number_shared f w)
  number_shared (N.right f) w = N.right (number_shared f w)
  number_shared N.none w = N.none
  number_shared (N.just f) w = N.just (number_shared f w)
  number_shared (N.last f) w = N.last (number_shared f w)
  number_shared (N.more f g) w = let l = number_on g in N.more (number_shared f (omega arith)) (number_shared g w)

  char_shared : {set : ℕ → Bool} {a e : ℕ} → OneOf q set a e → e ≤ n → OneOf r set a e
  char_shared {set} {a} f w =
      let p = part_shared a (sequence_at q a) (omega (arith, f.ends)) in
      let m = same_sequence q a r a p f.sequence in
      let v = same_scalar q a r a p f.sequence in
      record { sequence = λ o. f.sequence (sym m ∙ o); belongs = ap set v ∙ f.belongs; ends = f.ends ∙ ap (λ (k : ℕ). a + k) (sym m) }

  hex_shared : {low high a e : ℕ} → HexDigits q low high a e → e < n → HexDigits r low high a e
  hex_shared {low} {high} {a} f w =
      let z = f.ends in
      record {
        count = f.count;
        ends = f.ends;
        enough = f.enough;
        limited = f.limited;
        digits = λ i h. subst (λ (b : ℕ). in_class (Class.Digit 16) b ≡ true) (A.same (a + i) (omega arith)) (f.digits i h);
        longest = λ h. subst (λ (b : ℕ). in_class (Class.Digit 16) b ≡ false) (A.same (a + f.count) (omega arith)) (f.longest h);
        scalar = rw (← value_shared 16 0 a f.count (omega arith)) f.scalar;
      }

  -- what stands in a string before its last quote
  inner_shared : {rule : L.Rule} {a e : ℕ} → L.Fits q rule a e → e < n → L.Fits r rule a e
  inner_shared (L.one h) w = L.one (char_shared h (omega arith))
  inner_shared (L.join f g) w = let l = string_on g in L.join (inner_shared f (omega arith)) (inner_shared g w)
  inner_shared (L.left f) w = L.left (inner_shared f w)
  inner_shared (L.right f) w = L.right (inner_shared f w)
  inner_shared L.none w = L.none
  inner_shared (L.more f g) w = let l = string_on g in L.more (inner_shared f (omega arith)) (inner_shared g w)
  inner_shared (L.hex h) w = L.hex (hex_shared h w)

  string_shared : {a e : ℕ} → L.Fits q L.string_literal_rule a e → e ≤ n → L.Fits r L.string_literal_rule a e
  string_shared {a} {e} (L.join x (L.join {m = m} y (L.one z))) w =
      let l = string_on y in
      let k : m < e = last z.ends z.sequence in
      L.join (inner_shared x (omega arith)) (L.join (inner_shared y (omega arith)) (L.one (char_shared z w)))
    where
      last : {m e k : ℕ} → e ≡ m + k → (k ≡ 0 → ⊥) → m < e
      last {m} {e} {k} f g = halves m e (λ u. u) (λ u. absurd (g (omega arith)))

module _ (q : List ℕ) (n : ℕ) (h : n ≤ length q) where
  abbrev r : List ℕ
  r = take n q

  len : length r ≡ n
  len = length-take-le n q h

  shared : Shared q r n
  shared = record { first = h; second = omega (arith, len); same = λ i l. sym (get_or-take n q i 0 l) }

  run_cut : (c : Class) → in_class c 0 ≡ false → (s : ℕ) → s ≤ n → run c q s ≤ n → run c r s ≡ run c q s
  run_cut c z s l w =
      let k : run c r s ≤ n = rw len at (run_within c r s (omega (arith, len))) in
      let up = run_longest c z r s (run c q s - s) (λ i m. subst (λ (b : ℕ). in_class c b ≡ true) (shared.same (s + i) (omega arith)) (run_holds c q s (s + i) (omega arith) (omega arith))) in
      let down = run_longest c z q s (run c r s - s) (λ i m. subst (λ (b : ℕ). in_class c b ≡ true) (sym (shared.same (s + i) (omega arith))) (run_holds c r s (s + i) (omega arith) (omega arith))) in
      omega (arith, run_from c q s, run_from c r s)

  number_cut : {rule : N.Rule} {end : List ℕ → ℕ → ℕ} → Reader rule end → (s : ℕ) → s ≤ n → end q s ≤ n → end r s ≡ end q s
  unfolding outside alike.stop
  number_cut {rule} {end} R s l w =
      let up : end q s ≤ end r s = halves s (end q s) (λ u. (R.longest r s (end q s) (number_shared shared (R.fit q s u) w)).1) (λ u. omega (arith, R.from r s)) in
      let down : end r s ≤ end q s = halves s (end r s) (λ u. (R.longest q s (end r s) (number_shared (turned shared) (R.fit r s u) (within u))).1) (λ u. omega (arith, R.from q s)) in
      omega arith
    where
      at_end_law : outside (byte_at r n) ≡ true
      at_end_law = rw (← byte_past r n (omega (arith, len))) refl

      within : s < end r s → end r s ≤ n
      within u = halves n (end r s) (λ v. absurd (avoids (R.fit r s u) R.stops n l v at_end_law)) (λ v. v)

  string_cut : (s : ℕ) → s ≤ n → string_literal q s ≤ n → string_literal r s ≡ string_literal q s
  string_cut s l w = halves s (string_literal q s) (λ u. fits_string r (string_shared shared (string_fits q s u) w)) (λ u. halves s (string_literal r s) (λ v. new v) (λ v. omega (arith, (string_ends q s).from, (string_ends r s).from)))
    where
      new : s < string_literal r s → string_literal r s ≡ string_literal q s
      new v = sym (fits_string q (string_shared (turned shared) (string_fits r s v) (rw len at (ends_within (string_ends r s) (omega (arith, len))))))

  -- ---- the token at s, which ends no later than the cut
  module _ (s : ℕ) (l : s < n) (w : (longest_at q s).end ≤ n) where
    -- nothing that stands there ends later
    no_later : (k : TokenKind) (e : ℕ) → (s < e → Stands q k s e) → e ≤ n
    no_later k e f = halves s e (λ u. omega (arith, (longest_token q s).longest (f u))) (λ u. omega arith)

    abbrev pair_at : List ℕ → Token
    pair_at t = symbol_of (pair_kind (byte_at t s) (byte_at t (s + 1))) s 2

    pair_short : (pair_at q).end ≤ n
    unfolding longest_at symbol_token
    pair_short =
        let S = symbol_of (single_kind (byte_at q s)) s 1 in
        omega (
          arith,
          longer_second (word_token q s) (longer (number_token q s) (longer (text_token q s) (longer (pair_at q) S))),
          longer_second (number_token q s) (longer (text_token q s) (longer (pair_at q) S)),
          longer_second (text_token q s) (longer (pair_at q) S),
          longer_first (pair_at q) S,
        )

    here : byte_at r s ≡ byte_at q s
    here = sym (shared.same s l)

    word_cut : word_token r s ≡ word_token q s
    unfolding word_token in_class
    word_cut = rw here (go (letter (byte_at q s)) refl)
      where
        holds : (i : ℕ) → s ≤ i → i < run Class.Word q s → name_byte (byte_at q i) ≡ true
        holds i u m = run_holds Class.Word q s i u m

        go : (t : Bool) → letter (byte_at q s) ≡ t
            → pick t (fitted (word_kind (part r s (run Class.Word r s - s))) s (run Class.Word r s)) (token NoToken s s)
            ≡ pick t (fitted (word_kind (part q s (run Class.Word q s - s))) s (run Class.Word q s)) (token NoToken s s)
        go true e =
            let k : run Class.Word q s ≤ n = no_later (word_kind (part q s (run Class.Word q s - s))) (run Class.Word q s) (λ u. word e (λ i m. holds (s + i) (omega arith) m) u refl) in
            let z = run_cut Class.Word word_no_zero s (omega arith) k in
            let f = run_from Class.Word q s in
            let p = part_shared shared s (run Class.Word q s - s) (omega arith) in
            rw (z, ← p) refl
        go false e = refl

    pair_cut : pair_at r ≡ pair_at q
    unfolding symbol_of pair_kind is_token
    pair_cut = halves (s + 1) n (λ u. rw (here, ← shared.same (s + 1) u) refl) (λ u. past u)
      where
        none : (k : TokenKind) → (symbol_of k s 2).end ≤ n → n ≤ s + 1 → token NoToken s s ≡ symbol_of k s 2
        none k m u = go (is_token k) refl m
          where
            go : (t : Bool) → is_token k ≡ t → (pick t (token k s (s + 2)) (token NoToken s s)).end ≤ n → token NoToken s s ≡ pick t (token k s (s + 2)) (token NoToken s s)
            go true e m = absurd (omega arith)
            go false e m = refl

        past : n ≤ s + 1 → pair_at r ≡ pair_at q
        past u = rw (← byte_past r (s + 1) (omega (arith, len))) (none (pair_kind (byte_at q s) (byte_at q (s + 1))) pair_short u)

    longest_cut : longest_at r s ≡ longest_at q s
    unfolding longest_at number_token text_token symbol_token
    longest_cut =
        rw (
          word_cut,
          number_cut decimal_reader s (omega arith) (no_later (Number Decimal) (decimal_literal q s) (λ u. decimal (decimal_reader.fit q s u))),
          number_cut binary_reader s (omega arith) (no_later (Number Binary) (binary_literal q s) (λ u. binary (binary_reader.fit q s u))),
          number_cut hex_reader s (omega arith) (no_later (Number Hex) (hex_literal q s) (λ u. hexadecimal (hex_reader.fit q s u))),
          number_cut real_reader s (omega arith) (no_later (Number Real) (real_literal q s) (λ u. real (real_reader.fit q s u))),
          string_cut s (omega arith) (no_later Text (string_literal q s) (λ u. string (string_fits q s u))),
          pair_cut,
          here,
        )
        refl

  at_cut : (i : ℕ) → i ≤ n → is_token (token_at q i).kind ≡ true → (token_at q i).end ≤ n → token_at r i ≡ token_at q i
  unfolding token_at token_from is_token
  at_cut i l y w = go (leb (length q) (run Class.White q i)) refl y w
    where
      go : (t : Bool) → leb (length q) (run Class.White q i) ≡ t → is_token (pick t (token End (run Class.White q i) (run Class.White q i)) (longest_at q (run Class.White q i))).kind ≡ true
          → (pick t (token End (run Class.White q i) (run Class.White q i)) (longest_at q (run Class.White q i))).end ≤ n
          → token_at r i ≡ pick t (token End (run Class.White q i) (run Class.White q i)) (longest_at q (run Class.White q i))
      go true e y w = absurd (false≢true y)
      go false e y w =
          let s = run Class.White q i in
          let inside = leb-false (length q) s e in
          let m = moves_on (from_spans (length q) s s (omega arith) (longest_spans q s (omega arith))) y in
          let b = (longest_spans q s (omega arith)).begins in
          let z = run_cut Class.White white_no_zero i l (omega arith) in
          rw (z, lt-leb (length r) s (omega (arith, len))) (longest_cut s (omega arith) w)

  pub after_cut : (t : Token) → t.end ≤ n → is_token (token_after q t).kind ≡ true → (token_after q t).end ≤ n → token_after r t ≡ token_after q t
  unfolding token_after
  after_cut t l y w =
      let z = apart_kept (word_or_number t.kind) t.end (token_at q t.end) y in
      let e = at_cut t.end l (ap (λ (x : Token). is_token x.kind) (sym z) ∙ y) (rw (ap (λ (x : Token). x.end) z) at w) in
      ap (apart (word_or_number t.kind) t.end) e
