-- Names of properties, of DSP0212's first grammar group (000 5.3.2; 01 "Query text"). Each reader takes the token that it starts with and hands back
-- what it read and the token after that, or the place of the first token that does not fit.
use Rattle.std.specs.Prelude.{ℕ, zero, suc, ◌+◌, Bool, true, false, ◌&&◌, eqb, Err, None, Ok, Option, Result, Some}
use Rattle.base.specs.Pick.{pick}
use Rattle.token.specs.declared.Punctuation.TheVariants.{OpenIndex, CloseIndex, Dot}
use Rattle.token.specs.declared.TokenKind.TheVariants.{Name, Symbol}
use Rattle.token.specs.declared.Token.{Token}
use Rattle.terminal.specs.Terminal.{same, word}
use Rattle.syntax.specs.declared.path.Path.{Path}
use Rattle.syntax.specs.declared.path.Span.{Span}
use Rattle.syntax.specs.Scan.{Scan}

-- property = [ class-name "." ] property-name *( "." property-name )
-- The first name is no reserved word; one after a dot may be.
abbrev pub span_of : Token → Span
span_of t = record { start = t.start; end = t.end }

abbrev pub first_name : Token → Path
first_name t = record { first = span_of t; second = record { start = t.end; end = t.end }; names = 1 }

unfoldable pub one_more : Path → Token → Path
one_more p t = record { first = p.first; second = pick (eqb p.names 1) (span_of t) p.second; names = p.names + 1 }

unfoldable pub dotted : ℕ → Scan → Path → Token → Result (Path × Token) ℕ
dotted zero s p t = Ok (p, t)
dotted (suc n) s p t =
    elim (same t (Symbol Dot)) [
      | true ↦ elim (word (s.next t)) [ true ↦ dotted n s (one_more p (s.next t)) (s.next (s.next t)) | false ↦ Err (s.next t).start ]
      | false ↦ Ok (p, t)
    ]

unfoldable pub property : Scan → Token → Result (Path × Token) ℕ
property s t = pick (same t Name) (dotted s.size s (first_name t) (s.next t)) (Err t.start)

-- "[" index "]", where one may stand
unfoldable pub close_index : Scan → Token → Token → Result (Option Token × Token) ℕ
close_index s u t = pick (same t (Symbol CloseIndex)) (Ok (Some u, s.next t)) (Err t.start)

unfoldable pub index_number : Scan → Token → Result (Option Token × Token) ℕ
index_number s t = pick (s.unsigned t) (close_index s t (s.next t)) (Err t.start)

unfoldable pub indexed : Scan → Bool → Token → Result (Option Token × Token) ℕ
indexed s allowed t = pick (allowed && same t (Symbol OpenIndex)) (index_number s (s.next t)) (Ok (None, t))

-- property, or property "[" index "]"
unfoldable pub with_index : Path → Result (Option Token × Token) ℕ → Result (Path × Option Token × Token) ℕ
with_index p (Err x) = Err x
with_index p (Ok (i, t)) = Ok (p, i, t)

unfoldable pub with_path : Scan → Bool → Result (Path × Token) ℕ → Result (Path × Option Token × Token) ℕ
with_path s allowed (Err x) = Err x
with_path s allowed (Ok (p, t)) = with_index p (indexed s allowed t)

unfoldable pub reference : Scan → Bool → Token → Result (Path × Option Token × Token) ℕ
reference s allowed t = with_path s allowed (property s t)
