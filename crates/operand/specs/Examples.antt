-- Literals beside families, indices, and names over the sample table, with what they read as.
use Rattle.std.specs.Prelude.{ℕ, List, [], ◌∷◌, true, false, pos, Err, None, Ok, Option, Result, Some}
use Rattle.std.proofs.Math.Option.{none, some}
use Rattle.base.specs.Ascii.{bytes}
use Rattle.record.specs.declared.kind.Family.{Family}
use Rattle.record.specs.declared.kind.Family.TheVariants as family
use Rattle.datetime.specs.Datetime.{datetime_of}
use Rattle.real.specs.Real.{real_with}
use Rattle.table.specs.Sample.{sample_table}
use Rattle.table.specs.declared.lookup.Property.{Property}
use Rattle.table.specs.Properties.{found}
use Rattle.token.specs.Token.{token_at}
use Rattle.syntax.specs.Scan.{scan}
use Rattle.syntax.specs.Property.{property}
use Rattle.instance.specs.Value.{truth, whole, real, text, octets, datetime, reference}
use Rattle.operand.specs.Named.{named}
use Rattle.operand.specs.Index.{index_of}
use Rattle.operand.specs.LiteralReading.{LiteralReading, misfit, out_of_range, malformed, reads, read_literal}
use Rattle.syntax.specs.declared.path.Path.{Path}
use Rattle.token.specs.declared.Token.{Token}

-- a text's first token beside a family
abbrev pub literal_beside : Family × List ℕ → LiteralReading
literal_beside x = read_literal x.0 x.1 (token_at x.1 0)

abbrev pub literals : List ((Family × List ℕ) × LiteralReading)
literals =
    ((family.Boolean, bytes "TRUE"), reads (some (truth true)))
    ∷ ((family.Integer, bytes "18446744073709551615"), reads (some (whole (pos 18446744073709551615))))
    ∷ ((family.Integer, bytes "18446744073709551616"), out_of_range)
    ∷ ((family.Real, bytes "18446744073709551616"), misfit)
    -- e is 22, and 23
    ∷ ((family.Real, bytes "1.0E23"), reads (some (real (real_with false 10 (pos 22)).value)))
    ∷ ((family.Real, bytes "1.E23"), out_of_range)
    ∷ ((family.Integer, bytes "1.E23"), misfit)
    ∷ ((family.Integer, bytes "+0x12"), reads (some (whole (pos 18))))
    ∷ ((family.Octets, bytes "+0x12"), misfit)
    ∷ ((family.Octets, bytes "0x12"), reads (some (octets (18 ∷ []))))
    ∷ ((family.Octets, bytes "'a'"), misfit)
    ∷ ((family.Char16, bytes "'a'"), reads (some (text (97 ∷ []))))
    ∷ ((family.Reference, bytes "'a'"), reads (some (reference (97 ∷ []))))
    ∷ ((family.Datetime, bytes "'20051003112233.000000+000'"), reads (some (datetime (datetime_of (bytes "20051003112233.000000+000")))))
    ∷ ((family.Datetime, bytes "'20051003112233.000000'"), malformed)
    ∷ ((family.Datetime, bytes "'200510031122**.******+000'"), reads (some (datetime (datetime_of (bytes "200510031122**.******+000")))))
    ∷ ((family.Datetime, bytes "'2005100311223*.******+000'"), malformed)
    ∷ ((family.Datetime, bytes "'200510031122**.******+00*'"), malformed)
    ∷ ((family.Octets, bytes "NULL"), reads none)
    ∷ ((family.Text, bytes "Name"), misfit)
    ∷ []

-- a text's first token as an index
abbrev pub first_index : List ℕ → Option ℕ
first_index q = index_of q (token_at q 0)

abbrev pub indices : List (List ℕ × Option ℕ)
indices = (bytes "65535", Some 65535) ∷ (bytes "65536", None) ∷ (bytes "18446744073709551616", None) ∷ []

abbrev by_path : List ℕ → Result (Path × Token) ℕ → Option Property
by_path q (Ok (p, t)) = named q sample_table p
by_path q (Err at) = None

-- the property of the sample that a text's path names
abbrev pub sample_named : List ℕ → Option Property
sample_named q = by_path q (property (scan q) (token_at q 0))

abbrev pub names : List (List ℕ × Option Property)
names =
    (bytes "Dev", found 2 0x0118)
    ∷ (bytes "p.dEV", found 2 0x0118)
    ∷ (bytes "x.Dev", None)
    ∷ (bytes "P.Dev.Name", None)
    ∷ (bytes "P", None)
    ∷ []
