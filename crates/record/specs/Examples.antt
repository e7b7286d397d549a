-- Examples of records, names, reserved words and kinds, each with what is expected.
use Rattle.std.specs.Prelude.{ℕ, List, [], ◌∷◌, ◌++◌, Bool, true, false, replicate}
use Rattle.record.specs.declared.kind.Family.TheVariants.{Boolean, Integer, Real, Reference}
use Rattle.record.specs.declared.kind.Kind.{Kind}
use Rattle.record.specs.declared.kind.Kind.TheVariants.{Unknown, Array}
use Rattle.record.specs.Record.{Records, item, broken, ended}
use Rattle.record.specs.Write.{write}
use Rattle.base.specs.Ascii.{bytes}
use Rattle.record.specs.Kind.{scalar_of}

-- two records; one; then one to three bytes left over, and a body that runs past the end
abbrev pub slices : List (List ℕ × Records)
slices =
    (write 0x0108 (7 ∷ 8 ∷ []) ++ write 6 [], item 0 0x0108 4 2 (item 6 6 10 0 ended))
    ∷ (1 ∷ 0 ∷ 8 ∷ 1 ∷ 7 ∷ [], item 0 0x0108 4 1 ended)
    ∷ ([], ended)
    ∷ (write 0 [] ++ (0 ∷ []), item 0 0 4 0 (broken 4))
    ∷ (0 ∷ 0 ∷ 0 ∷ [], broken 0)
    ∷ (1 ∷ 0 ∷ 8 ∷ 1 ∷ [], broken 0)
    ∷ []

abbrev pub names : List (List ℕ × Bool)
names =
    ([], false)
    ∷ (bytes "x", true)
    ∷ (bytes "_", true)
    ∷ (bytes "Temp_2", true)
    ∷ (replicate 64 120, true)
    ∷ (replicate 65 120, false)
    ∷ (bytes "2x", false)
    ∷ (bytes "a b", false)
    ∷ (97 ∷ 0x80 ∷ [], false)
    ∷ (0xc3 ∷ 0xa9 ∷ [], false)
    ∷ []

-- pairs of names that are the same or not
abbrev pub pairs : List ((List ℕ × List ℕ) × Bool)
pairs =
    ((bytes "Temp", bytes "TEMP"), true)
    ∷ ((bytes "Temp", bytes "Tem"), false)
    ∷ ((bytes "a_1", bytes "A_1"), true)
    ∷ ((bytes "a`", bytes "a@"), false)
    ∷ ((bytes "a{", bytes "a["), false)
    ∷ []

abbrev pub words : List (List ℕ × Bool)
words =
    (bytes "true", true)
    ∷ (bytes "And", true)
    ∷ (bytes "eVeRy", true)
    ∷ (bytes "NULL", true)
    ∷ (bytes "NOTANY", false)
    ∷ (bytes "AN", false)
    ∷ []

abbrev pub kinds : List (ℕ × Kind)
kinds =
    (0, Unknown)
    ∷ (1, scalar_of Boolean 1 false)
    ∷ (2, Unknown)
    ∷ (3, Unknown)
    ∷ (4, scalar_of Real 4 false)
    ∷ (10, scalar_of Reference 0 false)
    ∷ (11, Unknown)
    ∷ (0x0010, Unknown)
    ∷ (0x0011, scalar_of Integer 1 false)
    ∷ (0x0012, scalar_of Integer 2 false)
    ∷ (0x0013, Unknown)
    ∷ (0x0014, scalar_of Integer 4 false)
    ∷ (0x0018, scalar_of Integer 8 false)
    ∷ (0x0020, Unknown)
    ∷ (0x0021, scalar_of Integer 1 true)
    ∷ (0x0022, scalar_of Integer 2 true)
    ∷ (0x0024, scalar_of Integer 4 true)
    ∷ (0x0028, scalar_of Integer 8 true)
    ∷ (0x0031, Unknown)
    ∷ (0x0100, Unknown)
    ∷ (0x0102, Unknown)
    ∷ (0x0118, Array 0x0018 (record { family = Integer; width = 8; signed = false }))
    ∷ (0x0121, Array 0x0021 (record { family = Integer; width = 1; signed = true }))
    ∷ (0x010a, Array 10 (record { family = Reference; width = 0; signed = false }))
    ∷ (0x010b, Unknown)
    ∷ (0x0200, Unknown)
    ∷ (0x0201, Unknown)
    ∷ (0x0211, Unknown)
    ∷ (0x1011, Unknown)
    ∷ []
