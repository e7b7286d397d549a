-- One character of a string literal (000 5.3.2): UNICODE-CHAR / char-escape, or the closing single-quote; 01 "Query text" on `\u`.
use Rattle.std.specs.Prelude.{ℕ, ◌+◌, ◌-◌, List, Bool, ◌||◌, ltb, eqb}
use Rattle.base.specs.Pick.{pick}
use Rattle.base.specs.Part.{byte_at}
use Rattle.base.specs.Range.{within}
use Rattle.base.specs.Digit.{value_of}
use Rattle.scan.specs.Class.{run}
use Rattle.scan.specs.declared.Class.TheVariants.{Digit}
use Rattle.encoding.specs.WellFormed.{sequence_at}
use Rattle.encoding.specs.Scalar.{scalar_at, is_scalar_value}
use Rattle.string_literal.specs.declared.InString.{InString}
use Rattle.string_literal.specs.declared.InString.TheVariants.{Character, Close, Bad}

-- U+0020 .. U+D7FF, U+E000 .. U+FFFD, U+10000 .. U+10FFFF
unfoldable pub unicode_char : ℕ → Bool
unicode_char v = within 0x20 0xd7ff v || (within 0xe000 0xfffd v || within 0x10000 0x10ffff v)

-- a raw character: a well-formed sequence of a UNICODE-CHAR
unfoldable pub raw_at : List ℕ → ℕ → InString
raw_at q at =
    pick (eqb (sequence_at q at) 0) Bad
    (pick (unicode_char (scalar_at q at)) (Character (scalar_at q at) (at + sequence_at q at)) Bad)

-- "\" / single-quote / "b" / "t" / "n" / "f" / "r": what it stands for; 0 for any other byte
unfoldable pub plain_escape : ℕ → ℕ
plain_escape b =
    pick (eqb b 92) 92 (pick (eqb b 39) 39 (pick (eqb b 98) 8 (pick (eqb b 116) 9 (pick (eqb b 110) 10 (pick (eqb b 102) 12 (pick (eqb b 114) 13 0))))))

-- how many hex digits follow, counted up to 6
unfoldable pub hex_run : List ℕ → ℕ → ℕ
hex_run q at = pick (ltb (run (Digit 16) q at - at) 6) (run (Digit 16) q at - at) 6

-- 4*6(hex-digit), the longest run, of a scalar value
unfoldable pub unicode_escape : List ℕ → ℕ → InString
unicode_escape q at =
    pick (ltb (hex_run q at) 4) Bad
    (pick (is_scalar_value (value_of 16 0 q at (hex_run q at))) (Character (value_of 16 0 q at (hex_run q at)) (at + hex_run q at)) Bad)

-- char-escape, from the byte after the "\" on
unfoldable pub escape_at : List ℕ → ℕ → InString
escape_at q at =
    pick (eqb (byte_at q at) 117) (unicode_escape q (at + 1))
    (pick (eqb (plain_escape (byte_at q at)) 0) Bad (Character (plain_escape (byte_at q at)) (at + 1)))

-- what stands at a place inside a string literal
unfoldable pub char_at : List ℕ → ℕ → InString
char_at q at = pick (eqb (byte_at q at) 39) Close (pick (eqb (byte_at q at) 92) (escape_at q (at + 1)) (raw_at q at))
