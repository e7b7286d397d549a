-- Locality: a token depends only on its bytes and on what ends it. In two texts that are alike up to a stop (whitespace, `)`, or the end),
-- a token that ends before the stop in one is that token, as far on, in the other; what stands before does not matter, nor what follows.
use Prim.Native.Nat.{ℕ, ◌+◌, ◌-◌, ◌≤◌, ◌<◌}
use mathlib.Core.Path.{◌≡◌, refl, sym, ap, ◌∙◌}
use mathlib.Core.List.{List, [], ◌∷◌, ◌++◌, append-nil}
use mathlib.Core.Bool.{Bool, true, false, ◌&&◌, true≢false, false≢true}
use native.Mathlib.Omega.{arith}
use lib.ListN.{length, length-append}
use lib.Dec.{ltb, leb, eqb}
use borrow.Author.Tests.{ltb-true, ltb-false, leb-true, leb-false, eqb-true, eqb-false, lt-ltb, le-ltb, lt-leb, le-leb, eq-eqb, ne_eqb}
use Rattle.base.specs.Pick.{pick}
use Rattle.base.specs.Range.{within}
use Rattle.base.specs.Part.{part, byte_at}
use Rattle.base.proofs.Lists.{byte_past}
use Rattle.record.specs.Name.{letter}
use Rattle.scan.specs.Class.{run, in_class}
use Rattle.scan.proofs.Ends.{Ends}
use Rattle.scan.specs.declared.Class.TheVariants as Class
use Rattle.scan.proofs.Runs.{run_from, run_within, white_no_zero}
use Rattle.scan.proofs.Alike.{Alike, turn, stop, at_stops, up_to_stop, inside_another, run_alike, white_alike, word_alike, word_within, part_alike}
use Rattle.string_literal.specs.Text.{string_literal}
use Rattle.string_literal.proofs.Ends.{string_ends}
use Rattle.string_literal.proofs.Fit.{string_fits, string_exact}
use Rattle.string_literal.proofs.Local.{string_alike}
use Rattle.numeral.specs.Numeral.{decimal_literal, binary_literal, hex_literal, real_literal}
use Rattle.numeral.proofs.Local.{Numbers, numbers_alike, no_quote, decimal_reader, binary_reader, hex_reader, real_reader}
use Rattle.token.specs.declared.Form.TheVariants.{Decimal, Binary, Hex, Real}
use Rattle.token.specs.declared.TokenKind.{TokenKind}
use Rattle.token.specs.declared.TokenKind.TheVariants.{End, NoToken, Number, Text}
use Rattle.token.specs.declared.Token.{Token}
use Rattle.token.specs.Token.{token, is_token, fitted, longer, word_kind, word_token, number_token, text_token, pair_kind, single_kind, symbol_of, symbol_token, longest_at, token_from, token_at, word_or_number, apart, token_after}
use Rattle.token.specs.Grammar.{Terminal, terminals, Stands, decimal, binary, hexadecimal, real, string, word, symbol}
use Rattle.token.proofs.Spans.{no_end}
use Rattle.token.proofs.Steps.{longest_spans, moves_on, at_spans, after_spans}
use Rattle.token.proofs.Laws.{from_spans}
use Rattle.token.proofs.Maximal.{All, no_more, and, of_all, byte_of, longest_token}

-- the same token, as far on from b as from a
pub record Moved (a b : ℕ) (t u : Token) : Type 0 where
  pub kind : t.kind ≡ u.kind
  pub start : t.start + b ≡ u.start + a
  pub end : t.end + b ≡ u.end + a

-- from a on and before the stop at k
pub record Placed (a b k : ℕ) (t u : Token) : Type 0 where
  pub moved : Moved a b t u
  pub from : a ≤ t.start
  pub moves : t.start < t.end
  pub short : t.end ≤ k

module _ (a b : ℕ) where
  ltb_moved : (s e s' e' : ℕ) → s + b ≡ s' + a → e + b ≡ e' + a → ltb s e ≡ ltb s' e'
  ltb_moved s e s' e' x y = go (ltb s e) refl
    where
      go : (t : Bool) → ltb s e ≡ t → t ≡ ltb s' e'
      go true h = let l = ltb-true s e h in sym (lt-ltb s' e' (omega arith))
      go false h = let l = ltb-false s e h in sym (le-ltb s' e' (omega arith))

  pub eqb_moved : (s e s' e' : ℕ) → s + b ≡ s' + a → e + b ≡ e' + a → eqb s e ≡ eqb s' e'
  eqb_moved s e s' e' x y = go (eqb s e) refl
    where
      go : (t : Bool) → eqb s e ≡ t → t ≡ eqb s' e'
      go true h = let l = eqb-true s e h in sym (eq-eqb s' e' (omega arith))
      go false h = let l = eqb-false s e h in sym (ne_eqb s' e' (λ z. l (omega arith)))

  token_moved : {k k' : TokenKind} {s e s' e' : ℕ} → k ≡ k' → s + b ≡ s' + a → e + b ≡ e' + a → Moved a b (token k s e) (token k' s' e')
  token_moved z x y = record { kind = z; start = x; end = y }

  pick_moved : (c d : Bool) {t u t' u' : Token} → c ≡ d → Moved a b t u → Moved a b t' u' → Moved a b (pick c t t') (pick d u u')
  pick_moved true true z m n = m
  pick_moved true false z m n = absurd (true≢false z)
  pick_moved false true z m n = absurd (false≢true z)
  pick_moved false false z m n = n

  fitted_moved : (k k' : TokenKind) (s e s' e' : ℕ) → k ≡ k' → s + b ≡ s' + a → e + b ≡ e' + a → Moved a b (fitted k s e) (fitted k' s' e')
  unfolding fitted
  fitted_moved k k' s e s' e' z x y = pick_moved (ltb s e) (ltb s' e') (ltb_moved s e s' e' x y) (token_moved z x y) (token_moved refl x x)

  longer_moved : {t u t' u' : Token} → Moved a b t u → Moved a b t' u' → Moved a b (longer t t') (longer u u')
  unfolding longer
  longer_moved {t} {u} {t'} {u'} m n = pick_moved (ltb t.end t'.end) (ltb u.end u'.end) (ltb_moved t.end t'.end u.end u'.end m.end n.end) n m

  symbol_moved : (k k' : TokenKind) (s s' n : ℕ) → k ≡ k' → s + b ≡ s' + a → Moved a b (symbol_of k s n) (symbol_of k' s' n)
  unfolding symbol_of
  symbol_moved k k' s s' n z x = pick_moved (is_token k) (is_token k') (ap is_token z) (token_moved z x (omega arith)) (token_moved refl x x)

  apart_moved : {t u : Token} (c c' : Bool) (e e' : ℕ) → c ≡ c' → e + b ≡ e' + a → Moved a b t u → Moved a b (apart c e t) (apart c' e' u)
  unfolding apart
  apart_moved {t} {u} c c' e e' z y m =
      pick_moved ((c && word_or_number t.kind) && eqb t.start e) ((c' && word_or_number u.kind) && eqb u.start e')
      (rw (z, m.kind, eqb_moved t.start e u.start e' m.start y)) (token_moved refl m.start m.start) m

-- what is a token after another is the token there
pub apart_kept : (c : Bool) (e : ℕ) (t : Token) → is_token (apart c e t).kind ≡ true → apart c e t ≡ t
unfolding apart
apart_kept c e t y = go ((c && word_or_number t.kind) && eqb t.start e) y
  where
    go : (d : Bool) → is_token (pick d (token NoToken t.start t.start) t).kind ≡ true → pick d (token NoToken t.start t.start) t ≡ t
    go true y = no_end y
    go false y = refl

-- a second byte that is a stop makes no pair
pair_stop : (b c : ℕ) → stop c ≡ true → pair_kind b c ≡ NoToken
unfolding pair_kind
pair_stop b = at_stops (λ (c : ℕ). pair_kind b c ≡ NoToken) refl refl refl refl refl refl

-- no terminal starts with a quote
record Unquoted (x : Terminal) : Type 0 where
  pub some : 0 < length x.0
  pub other : byte_at x.0 0 ≡ 39 → ⊥

unquoted : All Unquoted terminals
unquoted = and (o refl) (and (o refl) (and (o refl) (and (o refl) (and (o refl) (and (o refl) (and (o refl) (and (o refl) (and (o refl) (and (o refl) (and (o refl) (and (o refl) (and (o refl) (and (o refl) no_more)))))))))))))
  where
    o : {b : ℕ} {l : List ℕ} {k : TokenKind} → eqb b 39 ≡ false → Unquoted (b ∷ l, k)
    o {b} e = record { some = omega arith; other = λ z. eqb-false b 39 e z }

-- at a quote stands a string or nothing
only_string : (q : List ℕ) (s : ℕ) {k : TokenKind} {e : ℕ} → byte_at q s ≡ 39 → string_literal q s ≤ s → Stands q k s e → ⊥
unfolding letter within
only_string q s z h (decimal f) = no_quote decimal_reader f z
only_string q s z h (binary f) = no_quote binary_reader f z
only_string q s z h (hexadecimal f) = no_quote hex_reader f z
only_string q s z h (real f) = no_quote real_reader f z
only_string q s {k} {e} z h (string f) = let w = (string_exact q s e).from f in omega arith
only_string q s z h (word l f m g) = false≢true (rw z at l)
only_string q s z h (symbol {t = t} i p) =
    let u = of_all i unquoted in
    let y : s + 0 ≡ s = omega arith in
    u.other (ap (λ (l : List ℕ). byte_at l 0) (sym p) ∙ byte_of q s (length t) 0 u.some ∙ ap (byte_at q) y ∙ z)

module _ {q r : List ℕ} {a b k l : ℕ} (A : Alike q r a b k l) where
  -- the longest token at a place, if the strings there are alike
  longest_moved : (i j : ℕ) → a ≤ i → i < k → i + b ≡ j + a → string_literal q i + b ≡ string_literal r j + a → Moved a b (longest_at q i) (longest_at r j)
  unfolding longest_at word_token number_token text_token symbol_token
  longest_moved i j s w x t =
      longer_moved a b words
      (longer_moved a b
      (longer_moved a b (fitted_moved a b (Number Decimal) (Number Decimal) i (decimal_literal q i) j (decimal_literal r j) refl x n.decimal)
      (longer_moved a b (fitted_moved a b (Number Binary) (Number Binary) i (binary_literal q i) j (binary_literal r j) refl x n.binary)
      (longer_moved a b (fitted_moved a b (Number Hex) (Number Hex) i (hex_literal q i) j (hex_literal r j) refl x n.hex)
      (fitted_moved a b (Number Real) (Number Real) i (real_literal q i) j (real_literal r j) refl x n.real))))
      (longer_moved a b (fitted_moved a b Text Text i (string_literal q i) j (string_literal r j) refl x t)
      (longer_moved a b (symbol_moved a b (pair_kind (byte_at q i) (byte_at q (i + 1))) (pair_kind (byte_at r j) (byte_at r (j + 1))) i j 2 (pairs (ltb (i + 1) k) refl) x)
      (symbol_moved a b (single_kind (byte_at q i)) (single_kind (byte_at r j)) i j 1 (ap single_kind here) x))))
    where
      n : Numbers q r a b i j
      n = numbers_alike A i j s (omega arith) x

      here : byte_at q i ≡ byte_at r j
      here = A.same i j s w x

      pairs : (t : Bool) → ltb (i + 1) k ≡ t → pair_kind (byte_at q i) (byte_at q (i + 1)) ≡ pair_kind (byte_at r j) (byte_at r (j + 1))
      pairs true h = rw (here, A.same (i + 1) (j + 1) (omega arith) (ltb-true (i + 1) k h) (omega arith))
      pairs false h =
          let v = ltb-false (i + 1) k h in
          let y : i + 1 ≡ k = omega arith in
          let z : j + 1 ≡ l = omega (arith, A.ends) in
          rw (y, z) (pair_stop (byte_at q i) (byte_at q k) A.first_stop ∙ sym (pair_stop (byte_at r j) (byte_at r l) A.second_stop))

      words : Moved a b (word_token q i) (word_token r j)
      words =
          let e = word_alike A i j s (omega arith) x in
          let f = word_within A i (omega arith) in
          let g = run_from Class.Word q i in
          let z : run Class.Word r j - j ≡ run Class.Word q i - i = omega arith in
          let p : part q i (run Class.Word q i - i) ≡ part r j (run Class.Word r j - j) = rw z (part_alike A i j (run Class.Word q i - i) s (omega arith) x) in
          pick_moved a b (letter (byte_at q i)) (letter (byte_at r j)) (ap letter here)
          (fitted_moved a b (word_kind (part q i (run Class.Word q i - i))) (word_kind (part r j (run Class.Word r j - j))) i (run Class.Word q i) j (run Class.Word r j) (ap word_kind p) x e)
          (token_moved a b refl x x)

  -- strings where a token stands that ends before the stop
  strings_alike : (i j : ℕ) → a ≤ i → i < k → i + b ≡ j + a → is_token (longest_at q i).kind ≡ true → (longest_at q i).end ≤ k → string_literal q i + b ≡ string_literal r j + a
  unfolding string_literal
  strings_alike i j s w x y h = go (ltb i (string_literal q i)) refl
    where
      none : (t : Bool) → eqb (byte_at q i) 39 ≡ t → string_literal q i ≤ i → string_literal r j ≡ j
      none true e l = absurd (only_string q i (eqb-true (byte_at q i) 39 e) l ((longest_token q i).stands y))
      none false e l = rw (← A.same i j s w x, e)

      go : (t : Bool) → ltb i (string_literal q i) ≡ t → string_literal q i + b ≡ string_literal r j + a
      go true t =
          let m = ltb-true i (string_literal q i) t in
          let z = (longest_token q i).longest (string (string_fits q i m)) in
          string_alike A i j s x m (omega arith)
      go false t =
          let m = ltb-false i (string_literal q i) t in
          let f = (string_ends q i).from in
          let z = none (eqb (byte_at q i) 39) refl m in
          omega arith

  -- the token at a place that ends before the stop
  pub at_local : (i j : ℕ) → a ≤ i → i ≤ k → i + b ≡ j + a → is_token (token_at q i).kind ≡ true → (token_at q i).end ≤ k → Moved a b (token_at q i) (token_at r j)
  unfolding token_at token_from is_token
  at_local i j s w x y h = go (leb (length q) (run Class.White q i)) refl y h
    where
      go : (t : Bool) → leb (length q) (run Class.White q i) ≡ t → is_token (pick t (token End (run Class.White q i) (run Class.White q i)) (longest_at q (run Class.White q i))).kind ≡ true
          → (pick t (token End (run Class.White q i) (run Class.White q i)) (longest_at q (run Class.White q i))).end ≤ k
          → Moved a b (pick t (token End (run Class.White q i) (run Class.White q i)) (longest_at q (run Class.White q i))) (token_at r j)
      go true e y h = absurd (false≢true y)
      go false e y h =
          let s₁ = run Class.White q i in
          let inside = leb-false (length q) s₁ e in
          let m = moves_on (from_spans (length q) s₁ s₁ (omega arith) (longest_spans q s₁ (omega arith))) y in
          let c = (longest_spans q s₁ (omega arith)).begins in
          let f = run_from Class.White q i in
          let before : s₁ < k = omega arith in
          let v = white_alike A i j s x before in
          let n = A.ends in
          let o = A.second_within in
          rw (lt-leb (length r) (run Class.White r j) (omega arith))
          (longest_moved s₁ (run Class.White r j) (omega arith) before v (strings_alike s₁ (run Class.White r j) (omega arith) before v y h))

  -- the token after another that ends before the stop
  pub after_local : {t u : Token} → Moved a b t u → a ≤ t.end → t.end ≤ k → is_token (token_after q t).kind ≡ true → (token_after q t).end ≤ k
      → Moved a b (token_after q t) (token_after r u)
  unfolding token_after
  after_local {t} {u} m s w y h =
      let z = apart_kept (word_or_number t.kind) t.end (token_at q t.end) y in
      apart_moved a b (word_or_number t.kind) (word_or_number u.kind) t.end u.end (ap word_or_number m.kind) m.end
      (at_local t.end u.end s w m.end (ap (λ (x : Token). is_token x.kind) (sym z) ∙ y) (rw (ap (λ (x : Token). x.end) z) at h))

  pub after_placed : {t u : Token} → Placed a b k t u → is_token (token_after q t).kind ≡ true → (token_after q t).end ≤ k → Placed a b k (token_after q t) (token_after r u)
  after_placed {t} {u} p y h =
      let w = after_spans q t (omega (arith, p.short, A.first_within)) in
      record {
        moved = after_local p.moved (omega (arith, p.from, p.moves)) p.short y h;
        from = omega (arith, w.begins, p.from, p.moves);
        moves = moves_on w y;
        short = h;
      }

  -- texts that are alike to their ends
  module _ (first : length q ≡ k) (second : length r ≡ l) where
    strings_whole : (i j : ℕ) → a ≤ i → i < k → i + b ≡ j + a → string_literal q i + b ≡ string_literal r j + a
    strings_whole i j s w x = go (ltb i (string_literal q i)) refl (ltb j (string_literal r j)) refl
      where
        f : Ends (length q) i (string_literal q i)
        f = string_ends q i

        g : Ends (length r) j (string_literal r j)
        g = string_ends r j

        go : (t : Bool) → ltb i (string_literal q i) ≡ t → (u : Bool) → ltb j (string_literal r j) ≡ u → string_literal q i + b ≡ string_literal r j + a
        go true d u e = string_alike A i j s x (ltb-true i (string_literal q i) d) (omega (arith, f.from, f.reach))
        go false d true e =
            let n = A.ends in
            let o = A.starts in
            sym (string_alike (turn A) j i (omega arith) (omega arith) (ltb-true j (string_literal r j) e) (omega (arith, g.from, g.reach)))
        go false d false e = omega (arith, f.from, g.from, ltb-false i (string_literal q i) d, ltb-false j (string_literal r j) e)

    pub at_moved : (i j : ℕ) → a ≤ i → i ≤ k → i + b ≡ j + a → Moved a b (token_at q i) (token_at r j)
    unfolding token_at token_from
    at_moved i j s w x = go (leb (length q) (run Class.White q i)) refl
      where
        at_end_law : run Class.White q i ≡ k → in_class Class.White (byte_at r l) ≡ false
        at_end_law z = rw (← byte_past r l (omega (arith, second))) white_no_zero

        v : run Class.White q i + b ≡ run Class.White r j + a
        v = run_alike A Class.White white_no_zero i j s x (rw first at (run_within Class.White q i (omega (arith, first)))) at_end_law

        go : (t : Bool) → leb (length q) (run Class.White q i) ≡ t → Moved a b (pick t (token End (run Class.White q i) (run Class.White q i)) (longest_at q (run Class.White q i))) (token_at r j)
        go true e =
            let n = A.ends in
            let m = leb-true (length q) (run Class.White q i) e in
            rw (le-leb (length r) (run Class.White r j) (omega (arith, v))) (token_moved a b refl v v)
        go false e =
            let n = A.ends in
            let m = leb-false (length q) (run Class.White q i) e in
            let f = run_from Class.White q i in
            rw (lt-leb (length r) (run Class.White r j) (omega (arith, v)))
            (longest_moved (run Class.White q i) (run Class.White r j) (omega arith) (omega arith) v (strings_whole (run Class.White q i) (run Class.White r j) (omega arith) (omega arith) v))

    pub after_moved : {t u : Token} → Moved a b t u → a ≤ t.end → t.end ≤ k → Moved a b (token_after q t) (token_after r u)
    unfolding token_after
    after_moved {t} {u} m s w =
        apart_moved a b (word_or_number t.kind) (word_or_number u.kind) t.end u.end (ap word_or_number m.kind) m.end (at_moved t.end u.end s w m.end)

-- a token moved by n bytes
abbrev pub shifted : ℕ → Token → Token
shifted n t = token t.kind (n + t.start) (n + t.end)

same_token : {k k' : TokenKind} {s s' e e' : ℕ} → k ≡ k' → s ≡ s' → e ≡ e' → token k s e ≡ token k' s' e'
same_token x y z = rw (x, y, z)

is_shifted : (n : ℕ) {t u : Token} → Moved 0 n t u → u ≡ shifted n t
is_shifted n {t} {u} m = same_token (sym m.kind) (omega (arith, m.start)) (omega (arith, m.end))

unmoved : {t u : Token} → Moved 0 0 t u → u ≡ t
unmoved {t} {u} m = same_token (sym m.kind) (omega (arith, m.start)) (omega (arith, m.end))

-- what stands before a text does not matter
module _ (p q : List ℕ) where
  before : Alike q (p ++ q) 0 (length p) (length q) (length p + length q)
  unfolding stop
  before = rw (append-nil q) at (inside_another p q [] refl)

  pub at_shifted : (at : ℕ) → at ≤ length q → token_at (p ++ q) (length p + at) ≡ shifted (length p) (token_at q at)
  at_shifted at h = is_shifted (length p) (at_moved before refl (length-append p q) at (length p + at) (omega arith) h (omega arith))

  pub after_shifted : (t : Token) → t.end ≤ length q → token_after (p ++ q) (shifted (length p) t) ≡ shifted (length p) (token_after q t)
  after_shifted t h =
      is_shifted (length p)
      (after_moved before refl (length-append p q) {t = t} {u = shifted (length p) t} (record { kind = refl; start = omega arith; end = omega arith }) (omega arith) h)

-- nor what follows, if that is whitespace, `)` or nothing: a text's tokens are the tokens there. So filters may be joined
module _ (p q s : List ℕ) (h : stop (byte_at s 0) ≡ true) where
  pub at_inside : (at : ℕ) → at ≤ length q → is_token (token_at q at).kind ≡ true → token_at (p ++ (q ++ s)) (length p + at) ≡ shifted (length p) (token_at q at)
  at_inside at w y =
      is_shifted (length p) (at_local (inside_another p q s h) at (length p + at) (omega arith) w (omega arith) y (at_spans q at w).within)

  pub after_inside : (t : Token) → t.end ≤ length q → is_token (token_after q t).kind ≡ true
      → token_after (p ++ (q ++ s)) (shifted (length p) t) ≡ shifted (length p) (token_after q t)
  after_inside t w y =
      is_shifted (length p)
      (after_local (inside_another p q s h) {t = t} {u = shifted (length p) t} (record { kind = refl; start = omega arith; end = omega arith }) (omega arith) w y (after_spans q t w).within)

-- texts that agree up to and with whitespace or `)` at k: a token of one that ends at or before k is the token of the other there
module _ (q r : List ℕ) (k : ℕ) (Within-first : k < length q) (within-second : k < length r)
    (agree : (i : ℕ) → i ≤ k → byte_at q i ≡ byte_at r i) (stops : stop (byte_at q k) ≡ true) where
  pub at_agrees : (at : ℕ) → at ≤ k → is_token (token_at q at).kind ≡ true → (token_at q at).end ≤ k → token_at r at ≡ token_at q at
  at_agrees at w y e = unmoved (at_local (up_to_stop q r k Within-first within-second agree stops) at at (omega arith) w refl y e)

  pub after_agrees : (t : Token) → t.end ≤ k → is_token (token_after q t).kind ≡ true → (token_after q t).end ≤ k → token_after r t ≡ token_after q t
  after_agrees t w y e =
      unmoved (after_local (up_to_stop q r k Within-first within-second agree stops) {t = t} {u = t} (record { kind = refl; start = refl; end = refl }) (omega arith) w y e)
