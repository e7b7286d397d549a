-- Worked patterns: which texts are patterns, with the limits on both sides, and which texts they match.
use Rattle.std.specs.Prelude.{ℕ, zero, suc, Bool, true, false, List, [], ◌∷◌, ◌++◌}
use Rattle.base.specs.Ascii.{bytes}

-- a text n times over
unfoldable pub times : ℕ → List ℕ → List ℕ
times zero s = []
times (suc n) s = s ++ times n s

-- n groups inside one another
abbrev pub nested : ℕ → List ℕ
nested n = times n (bytes "(") ++ times n (bytes ")")

abbrev pub checked : List (List ℕ × Bool)
checked =
    -- items, `|` and signs
    (bytes "", true)
    ∷ (bytes "|", true)
    ∷ (bytes "a||b", true)
    ∷ (bytes "()", true)
    ∷ (bytes "()*", true)
    ∷ (bytes "(a*)*", true)
    ∷ (bytes "{}^$-", true)
    ∷ (bytes "(*)", false)
    ∷ (bytes "|*", false)
    ∷ (bytes "*a", false)
    ∷ (bytes "a**", false)
    ∷ (bytes "a+?", false)
    ∷ (bytes ")", false)
    ∷ (bytes "(a", false)
    ∷ (bytes "]", false)
    -- `\` and a character
    ∷ (bytes "\\n", true)
    ∷ (bytes "\\]", true)
    ∷ (bytes "\\", false)
    -- sets
    ∷ (bytes "[^^]", true)
    ∷ (bytes "[\\^a]", true)
    ∷ (bytes "[a^]", true)
    ∷ (bytes "[[]", true)
    ∷ (bytes "[.]", true)
    ∷ (bytes "[(*|]", true)
    ∷ (bytes "[+-\\-]", true)
    ∷ (bytes "[a-a]", true)
    ∷ (bytes "[]", false)
    ∷ (bytes "[^]", false)
    ∷ (bytes "[a-]", false)
    ∷ (bytes "[-a]", false)
    ∷ (bytes "[^-a]", false)
    ∷ (bytes "[a-b-c]", false)
    ∷ (bytes "[--a]", false)
    ∷ (bytes "[b-a]", false)
    ∷ (bytes "[a", false)
    ∷ (bytes "[\\]", false)
    -- limits: 60 symbols, an escaped character and a set being one each; 8 groups inside one another; 256 characters, of which `\` is one
    ∷ (times 60 (bytes "a"), true)
    ∷ (times 61 (bytes "a"), false)
    ∷ (times 60 (bytes "\\a"), true)
    ∷ (times 60 (bytes "[ab]"), true)
    ∷ (times 61 (bytes "."), false)
    ∷ (nested 8, true)
    ∷ (nested 9, false)
    ∷ (bytes "[" ++ times 254 (bytes "a") ++ bytes "]", true)
    ∷ (bytes "[" ++ times 255 (bytes "a") ++ bytes "]", false)
    ∷ (bytes "[" ++ times 127 (bytes "\\a") ++ bytes "]", true)
    ∷ (bytes "[" ++ times 128 (bytes "\\a") ++ bytes "]", false)
    ∷ []

-- a pattern and a text
abbrev pub matched : List ((List ℕ × List ℕ) × Bool)
matched =
    ((bytes "FAN_.*", bytes "FAN_2"), true)
    ∷ ((bytes "FAN_", bytes "FAN_2"), false)
    ∷ ((bytes "AN_2", bytes "FAN_2"), false)
    ∷ ((bytes "", []), true)
    ∷ ((bytes "", bytes "a"), false)
    ∷ ((bytes "a*", bytes "aaa"), true)
    ∷ ((bytes "a*", []), true)
    ∷ ((bytes "a+", []), false)
    ∷ ((bytes "a?", bytes "aa"), false)
    ∷ ((bytes "(a|b(c|))+d?", bytes "abcab"), true)
    ∷ ((bytes "(a|b(c|))+d?", bytes "abcc"), false)
    ∷ ((bytes "a||b", []), true)
    ∷ ((bytes "()*", []), true)
    ∷ ((bytes "(a*)*", bytes "aa"), true)
    ∷ ((bytes "a\\.b", bytes "a.b"), true)
    ∷ ((bytes "a\\.b", bytes "axb"), false)
    ∷ ((bytes "\\n", bytes "n"), true)
    ∷ ((bytes "\\n", 0x0A ∷ []), false)
    ∷ ((bytes ".", 0x0A ∷ []), true)
    ∷ ((bytes ".", 0x10FFFF ∷ []), true)
    ∷ ((bytes "[^^]", bytes "^"), false)
    ∷ ((bytes "[^^]", bytes "a"), true)
    ∷ ((bytes "[a^]", bytes "^"), true)
    ∷ ((bytes "[+-\\-]", bytes ","), true)
    ∷ ((bytes "[+-\\-]", bytes "-"), true)
    ∷ ((bytes "[b-d]", bytes "d"), true)
    ∷ ((bytes "[b-d]", bytes "e"), false)
    ∷ ((bytes "[^a-c\\]]+", bytes "de"), true)
    ∷ ((bytes "[^a-c\\]]+", bytes "d]"), false)
    ∷ ((bytes "a**", bytes "a"), false)
    ∷ []
