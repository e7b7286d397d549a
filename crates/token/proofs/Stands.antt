-- What stands at a token of a text: what the rule of its kind says of the bytes from its start to its end.
use Prim.Native.Nat.{ℕ, ◌<◌}
use mathlib.Core.Path.{◌≡◌, refl, ap, ◌∙◌, subst}
use mathlib.Core.List.{List, []}
use mathlib.Core.Bool.{Bool, true, false, false≢true}
use native.Mathlib.Omega.{arith}
use lib.ListN.{length}
use lib.Dec.{leb}
use borrow.Author.Tests.{leb-false}
use Rattle.base.specs.Pick.{pick}
use Rattle.base.specs.Part.{part, byte_at}
use Rattle.record.specs.Name.{letter}
use Rattle.scan.specs.Class.{run}
use Rattle.scan.specs.declared.Class.TheVariants as Class
use Rattle.numeral.specs.Numeral.{hex_literal, real_literal}
use Rattle.numeral.proofs.Longest.{hex_longest, real_longest}
use Rattle.string_literal.specs.Text.{string_literal}
use Rattle.string_literal.proofs.Fit.{string_exact}
use Rattle.token.specs.declared.Reserved.{Reserved}
use Rattle.token.specs.declared.Form.TheVariants.{Decimal, Binary, Hex, Real}
use Rattle.token.specs.declared.Punctuation.TheVariants.{Open, Close, OpenIndex, CloseIndex, OpenList, CloseList, Comma, Dot}
use Rattle.token.specs.declared.TokenKind.{TokenKind}
use Rattle.token.specs.declared.TokenKind.TheVariants.{End, NoToken, Name, Word, Number, Text, Compare, Symbol}
use Rattle.token.specs.declared.Token.{Token}
use Rattle.token.specs.Token.{token, is_token, longest_at, token_from, token_at, word_or_number, token_after}
use Rattle.token.specs.Grammar.{Terminal, terminals, Stands, decimal, binary, hexadecimal, real, string, word, symbol}
use Rattle.token.proofs.Spans.{word_is}
use Rattle.token.proofs.Maximal.{All, no_more, and, of_all, first_byte, longest_token}
use Rattle.token.proofs.Steps.{longest_spans, white_again, past_white}
use Rattle.token.proofs.Local.{apart_kept}

abbrev There : List ℕ → TokenKind → ℕ → ℕ → Type 0
There q End s e = Unit
There q NoToken s e = Unit
There q Name s e = letter (byte_at q s) ≡ true
There q (Word w) s e = letter (byte_at q s) ≡ true
There q (Number Decimal) s e = Unit
There q (Number Binary) s e = Unit
There q (Number Hex) s e = s < hex_literal q s
There q (Number Real) s e = s < real_literal q s
There q Text s e = (s < e) × (string_literal q s ≡ e)
There q (Compare o) s e = Unit
There q (Symbol Open) s e = Unit
There q (Symbol Close) s e = byte_at q s ≡ 41
There q (Symbol OpenIndex) s e = Unit
There q (Symbol CloseIndex) s e = Unit
There q (Symbol OpenList) s e = Unit
There q (Symbol CloseList) s e = Unit
There q (Symbol Comma) s e = Unit
There q (Symbol Dot) s e = Unit

record SymbolThere (q : List ℕ) (s e : ℕ) (x : Terminal) : Type 0 where
  pub there : part q s (length x.0) ≡ x.0 → There q x.1 s e

symbols : (q : List ℕ) (s e : ℕ) → All (SymbolThere q s e) terminals
symbols q s e =
    and (u tt) (and (u tt) (and (u tt) (and (u tt) (and (u tt) (and (u tt) (and (u tt) (and (record { there = first_byte q s 1 41 [] (omega arith) })
    (and (u tt) (and (u tt) (and (u tt) (and (u tt) (and (u tt) (and (u tt) no_more)))))))))))))
  where
    u : {t : List ℕ} {k : TokenKind} → There q k s e → SymbolThere q s e (t, k)
    u h = record { there = λ p. h }

there : {q : List ℕ} {k : TokenKind} {s e : ℕ} → Stands q k s e → There q k s e
there (decimal f) = tt
there (binary f) = tt
there {q} (hexadecimal f) = let w = hex_longest q f in omega (arith, w.0, w.1)
there {q} (real f) = let w = real_longest q f in omega (arith, w.0, w.1)
there {q} {k} {s} {e} (string f) = (string_exact q s e).from f
there {q} {k} {s} {e} (word l f m g) = rw g (word_is (λ (x : TokenKind). There q x s e) l (λ w. l) _)
there {q} {k} {s} {e} (symbol i p) = (of_all i (symbols q s e)).there p

-- a token that is found again at its start
abbrev pub Standing : List ℕ → Token → Type 0
Standing q t = token_at q t.start ≡ t

pub at_standing : (q : List ℕ) (at : ℕ) → Standing q (token_at q at)
unfolding token_at
at_standing q at = ap (λ (i : ℕ). token_from q (run Class.White q i)) (past_white q at).begins ∙ ap (token_from q) (white_again q at)

pub after_standing : (q : List ℕ) (t : Token) → is_token (token_after q t).kind ≡ true → Standing q (token_after q t)
unfolding token_after
after_standing q t h = rw (apart_kept (word_or_number t.kind) t.end (token_at q t.end) h) (at_standing q t.end)

-- it is the longest there
longest_there : (q : List ℕ) (at : ℕ) → is_token (token_at q at).kind ≡ true → longest_at q (token_at q at).start ≡ token_at q at
unfolding token_at token_from is_token
longest_there q at h = go (leb (length q) (run Class.White q at)) refl h
  where
    go : (c : Bool) → leb (length q) (run Class.White q at) ≡ c → is_token (pick c (token End (run Class.White q at) (run Class.White q at)) (longest_at q (run Class.White q at))).kind ≡ true
        → longest_at q (pick c (token End (run Class.White q at) (run Class.White q at)) (longest_at q (run Class.White q at))).start
        ≡ pick c (token End (run Class.White q at) (run Class.White q at)) (longest_at q (run Class.White q at))
    go true e h = absurd (false≢true h)
    go false e h = ap (longest_at q) (longest_spans q (run Class.White q at) (omega (arith, leb-false (length q) (run Class.White q at) e))).begins

module _ (q : List ℕ) (t : Token) (p : Standing q t) where
  kind_there : is_token t.kind ≡ true → There q t.kind t.start t.end
  kind_there h =
      let z : longest_at q t.start ≡ t = rw p at (longest_there q t.start (ap (λ (u : Token). is_token u.kind) p ∙ h)) in
      there (rw z at ((longest_token q t.start).stands (ap (λ (u : Token). is_token u.kind) z ∙ h)))

  by_kind : (k : TokenKind) → is_token k ≡ true → t.kind ≡ k → There q k t.start t.end
  by_kind k h e = subst (λ (x : TokenKind). There q x t.start t.end) e (kind_there (ap is_token e ∙ h))

  pub hex_there : t.kind ≡ Number Hex → t.start < hex_literal q t.start
  unfolding is_token
  hex_there e = by_kind (Number Hex) refl e

  pub real_there : t.kind ≡ Number Real → t.start < real_literal q t.start
  unfolding is_token
  real_there e = by_kind (Number Real) refl e

  pub text_there : t.kind ≡ Text → (t.start < t.end) × (string_literal q t.start ≡ t.end)
  unfolding is_token
  text_there e = by_kind Text refl e

  pub close_there : t.kind ≡ Symbol Close → byte_at q t.start ≡ 41
  unfolding is_token
  close_there e = by_kind (Symbol Close) refl e

  pub name_there : t.kind ≡ Name → letter (byte_at q t.start) ≡ true
  unfolding is_token
  name_there e = by_kind Name refl e

  pub reserved_there : (w : Reserved) → t.kind ≡ Word w → letter (byte_at q t.start) ≡ true
  unfolding is_token
  reserved_there w e = by_kind (Word w) refl e
