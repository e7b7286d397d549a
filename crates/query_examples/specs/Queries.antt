-- Queries of 000 and 01, and of the points that they leave open, with what is said of each: its number (0 of one that is well-formed) and place.
use Rattle.std.specs.Prelude.{ℕ, zero, suc, List, [], ◌∷◌, ◌++◌, take, Err, Ok, Result}
use Rattle.base.specs.Ascii.{bytes}
use Rattle.query_text.specs.Text.{number_of, text_verdict}
use Rattle.syntax.specs.declared.fault.Fault.{Fault}

abbrev pub told : Result (Unit {0}) Fault → ℕ × ℕ
told (Ok tt) = (0, 0)
told (Err f) = (number_of f.cause, f.place)

abbrev pub answer : List ℕ → ℕ × ℕ
answer q = told (text_verdict q)

unfoldable pub times : ℕ → List ℕ → List ℕ
times zero l = []
times (suc n) l = l ++ times n l

abbrev pub Answered : Type 0
Answered = List ℕ × (ℕ × ℕ)

abbrev pub good : List ℕ → Answered
good q = (q, (0, 0))

abbrev pub wrong : List ℕ → ℕ → Answered
wrong q p = (q, (11, p))

abbrev pub over : List ℕ → ℕ → Answered
over q p = (q, (12, p))

abbrev pub accepted : List Answered
accepted =
    -- 01's own queries, 000's forms
    good (bytes "On = TRUE")
    ∷ good (bytes "Dev = {3,14}")
    ∷ good (bytes "ANY Dev = 14")
    ∷ good (bytes "NOT EVERY Dev = 3")
    ∷ good (bytes "Dev[2] = NULL")
    ∷ good (bytes "Name NOT LIKE 'FAN_.*'")
    ∷ good (bytes "Temp > 0 AND On = TRUE OR R = .5")
    ∷ good (bytes "Dev[0] = Dev[1]")
    ∷ good (bytes "ANY Dev = Dev [ 1 ]")
    ∷ good (bytes "P . U.AND <> {} ")
    ∷ good (bytes "Dev[0] LIKE'x'")
    ∷ good (bytes "(On = TRUE)AND(Temp = 1 or R = .5)")
    -- whitespace
    ∷ good (bytes "P . U = 1")
    ∷ good (bytes "Us [ 0 ] = 1")
    ∷ good (bytes " U = 1 ")
    ∷ good (bytes "U = {1 , 2}")
    ∷ good (bytes "S = 'x'AND U = 1")
    ∷ good (bytes "S LIKE'x'")
    ∷ good (bytes "ANY Us = Is[0]AND U = 1")
    -- tokens
    ∷ good (bytes "Us[007] = 1")
    ∷ good (bytes "U=-5")
    ∷ good (bytes "U<-5")
    ∷ good (bytes "D = 1. AND U = 1")
    ∷ good (bytes "R = 1.E5")
    ∷ good (bytes "Temp = OX05")
    ∷ good (bytes "S = '\\u0000'")
    ∷ good (bytes "S = '\\u0009'")
    ∷ good (bytes "S = '\\uFFFF'")
    ∷ good (bytes "S = '\\u0041BC'")
    ∷ good (bytes "S = '\\u0041BCD'")
    ∷ good (bytes "S = '\\u00410041'")
    ∷ good (bytes "S = '\\u10FFFFF'")
    ∷ good (bytes "NOTANY = 1")
    ∷ good (bytes "ANDx = 1")
    ∷ good (bytes "x = 1 aNd y = 2 oR nOt aNy z = tRuE")
    -- names
    ∷ good (bytes "P.U.AND = 1")
    ∷ good (bytes "x.AND = 1")
    ∷ good (bytes "P.AND = 1")
    ∷ good (bytes "p.temp = 1")
    ∷ good (bytes "X.Temp = 1")
    ∷ good (bytes "P.Temp.X = 1")
    ∷ good (bytes "U = {1}")
    ∷ good (bytes "U" ++ (9 ∷ 13 ∷ 10 ∷ []) ++ bytes "= 1")
    ∷ []

-- a query with 11 at a place, and what can stand from that place on instead
abbrev pub Broken : Type 0
Broken = (List ℕ × List ℕ) × ((ℕ × ℕ) × (ℕ × ℕ))

abbrev pub broken : List ℕ → ℕ → List ℕ → Broken
broken q p rest = ((q, rest), ((11, p), (0, 0)))

-- what is said of a query, and of the bytes before its fault with another rest
abbrev pub answers : List ℕ × List ℕ → (ℕ × ℕ) × (ℕ × ℕ)
answers x = (answer x.0, answer (take (answer x.0).1 x.0 ++ x.1))

abbrev pub grammar_faults : List Broken
grammar_faults =
    -- 01's own
    broken (bytes "Dev < {3}") 6 (bytes "3")
    ∷ broken (bytes "Temp = Dev[0]") 10 (bytes "")
    ∷ broken (bytes "ANY Dev LIKE 'x'") 8 (bytes "= 1")
    ∷ broken (bytes "Dev ANY 3") 4 (bytes "= 1")
    ∷ broken (bytes "On = TRUE AND") 13 (bytes " x = 1")
    ∷ broken (bytes "") 0 (bytes "x = 1")
    ∷ broken (bytes "ANY Dev = {3}") 10 (bytes "3")
    ∷ broken (bytes "Name LIKE Name") 10 (bytes "'x'")
    ∷ broken (bytes "Name = 'a''b'") 10 (bytes "")
    ∷ broken (bytes "(On = TRUE) AND Temp = 1") 16 (bytes "(x = 1)")
    ∷ broken (bytes "((") 1 (bytes "x = 1)")
    ∷ broken (bytes "= ") 0 (bytes "x = 1")
    ∷ broken (bytes "U = {1,}") 7 (bytes "2}")
    -- whitespace and longest tokens
    ∷ broken (bytes "   ") 3 (bytes "x = 1")
    ∷ broken (bytes "U = 5AND U = 1") 5 (bytes "")
    ∷ broken (bytes "Temp = 5AND On = TRUE") 8 (bytes "")
    ∷ broken (bytes "U = 0x123") 8 (bytes "")
    ∷ broken (bytes "U = 0x1") 5 (bytes "")
    ∷ broken (bytes "U = 0x") 5 (bytes "")
    ∷ broken (bytes "U = 12B") 6 (bytes "")
    ∷ broken (bytes "U = 1E5") 5 (bytes "")
    ∷ broken (bytes "U = 1.E") 6 (bytes "")
    ∷ broken (bytes "U = 1.E+") 6 (bytes "")
    ∷ broken (bytes "U = 1B1") 6 (bytes "")
    ∷ broken (bytes "U = 1.5.5") 7 (bytes "")
    ∷ broken (bytes "Temp = 0X123") 11 (bytes "")
    ∷ broken (bytes "Temp = 0X1") 8 (bytes "")
    ∷ broken (bytes "R = 1E5") 5 (bytes "")
    ∷ broken (bytes "Temp.5 = 1") 4 (bytes " = 1")
    ∷ broken (bytes "U < = 1") 4 (bytes "1")
    -- numbers
    ∷ broken (bytes "Us[101B] = 1") 3 (bytes "1] = 1")
    ∷ broken (bytes "Us[1.] = 1") 3 (bytes "1] = 1")
    ∷ broken (bytes "Us[0x01] = 1") 3 (bytes "1] = 1")
    ∷ broken (bytes "Us[+1] = 1") 3 (bytes "1] = 1")
    ∷ broken (bytes "Dev[0x00] = 1") 4 (bytes "1] = 1")
    ∷ broken (bytes "Dev[0x0] = 1") 5 (bytes "] = 1")
    ∷ broken (bytes "Dev[1B] = 1") 4 (bytes "1] = 1")
    ∷ broken (bytes "U = - 5") 4 (bytes "5")
    ∷ broken (bytes "U = 5-5") 5 (bytes "")
    ∷ broken (bytes "U = +-5") 4 (bytes "5")
    ∷ broken (bytes "P.5 = 1") 1 (bytes " = 1")
    ∷ broken (bytes "D = 1.AND U = 1") 6 (bytes "")
    -- strings
    ∷ broken (bytes "S = 'x") 4 (bytes "'x'")
    ∷ broken (bytes "S = '\\U0041'") 4 (bytes "'x'")
    ∷ broken (bytes "S = '\\N'") 4 (bytes "'x'")
    ∷ broken (bytes "S = '\\.'") 4 (bytes "'x'")
    ∷ broken (bytes "S = '\\u41'") 4 (bytes "'x'")
    ∷ broken (bytes "S = '\\uD800'") 4 (bytes "'x'")
    ∷ broken (bytes "S = '\\uD83D\\uDE00'") 4 (bytes "'x'")
    ∷ broken (bytes "S = '\\u110000'") 4 (bytes "'x'")
    -- names
    ∷ broken (bytes "TRUE.U = 1") 0 (bytes "x = 1")
    ∷ broken (bytes "ANY.U = 1") 3 (bytes " x = 1")
    ∷ broken (bytes "NOT.U = 1") 3 (bytes " ANY x = 1")
    ∷ broken (bytes "B = TRUE.U") 8 (bytes "")
    ∷ broken (bytes "AND = 1") 0 (bytes "x = 1")
    -- brackets, NOT, LIKE, array literals
    ∷ broken (bytes "((U = 1))") 1 (bytes "x = 1)")
    ∷ broken (bytes "(U = 1) AND U = 1") 12 (bytes "(x = 1)")
    ∷ broken (bytes "U = 1 AND (U = 1)") 10 (bytes "x = 1")
    ∷ broken (bytes "NOT U = 1") 4 (bytes "ANY x = 1")
    ∷ broken (bytes "S LIKE NOT 'a'") 7 (bytes "'x'")
    ∷ broken (bytes "S LIKE NULL") 7 (bytes "'x'")
    ∷ broken (bytes "S LIKE S") 7 (bytes "'x'")
    ∷ broken (bytes "ANY Us = {1}") 9 (bytes "1")
    ∷ broken (bytes "Us[0] = {1}") 8 (bytes "1")
    ∷ broken (bytes "Nope = 1 AND") 12 (bytes " x = 1")
    -- bytes of no token: VT, FF, NUL, a no-break space, a byte order mark, letters beyond ASCII; in strings a control character, U+FFFE, U+FFFF
    ∷ broken (bytes "U" ++ (11 ∷ []) ++ bytes "= 1") 1 (bytes " = 1")
    ∷ broken (bytes "U" ++ (12 ∷ []) ++ bytes "= 1") 1 (bytes " = 1")
    ∷ broken (bytes "U = " ++ (0 ∷ [])) 4 (bytes "1")
    ∷ broken (bytes "= " ++ (0 ∷ [])) 0 (bytes "x = 1")
    ∷ broken (bytes "U" ++ (0xC2 ∷ 0xA0 ∷ []) ++ bytes "= 1") 1 (bytes " = 1")
    ∷ broken ((0xEF ∷ 0xBB ∷ 0xBF ∷ []) ++ bytes "U = 1") 0 (bytes "x = 1")
    ∷ broken (bytes "U = " ++ (0xC3 ∷ 0xA9 ∷ [])) 4 (bytes "1")
    ∷ broken (bytes "S = 'a" ++ (9 ∷ []) ++ bytes "'") 4 (bytes "'x'")
    ∷ broken (bytes "S = '" ++ (0xEF ∷ 0xBF ∷ 0xBE ∷ []) ++ bytes "'") 4 (bytes "'x'")
    ∷ broken (bytes "S = '" ++ (0xEF ∷ 0xBF ∷ 0xBF ∷ []) ++ bytes "'") 4 (bytes "'x'")
    ∷ []

-- not UTF-8, after a grammar fault too
abbrev pub encoding_faults : List Answered
encoding_faults = (bytes "U = '" ++ (0xFF ∷ []), (10, 5)) ∷ (bytes "= = " ++ (0xED ∷ 0xA0 ∷ 0x80 ∷ []), (10, 4)) ∷ []

-- the limits, each on both sides
abbrev pub comparison_limit : List Answered
comparison_limit =
    good (times 63 (bytes "x=1 OR ") ++ bytes "x=1")
    ∷ over (times 64 (bytes "x=1 OR ") ++ bytes "x") 448
    ∷ over (times 64 (bytes "x=1 OR ") ++ bytes "NOT") 448
    ∷ wrong (times 64 (bytes "x=1 OR ") ++ bytes "=") 448
    ∷ wrong (times 64 (bytes "x=1 OR ") ++ bytes "TRUE") 448
    ∷ wrong (times 64 (bytes "x=1 OR ") ++ bytes "'") 448
    ∷ []

abbrev pub grouped_limit : List Answered
grouped_limit =
    good (bytes "(" ++ times 62 (bytes "x=1 OR ") ++ bytes "x=1) AND (x=1)")
    ∷ over (bytes "(" ++ times 63 (bytes "x=1 OR ") ++ bytes "x=1) AND (x=1)") 452
    ∷ wrong (bytes "(" ++ times 63 (bytes "x=1 OR ") ++ bytes "x=1) AND x=1") 451
    ∷ []

abbrev pub element_limit : List Answered
element_limit =
    good (bytes "U={" ++ times 31 (bytes "1,") ++ bytes "1}")
    ∷ over (bytes "U={" ++ times 32 (bytes "1,") ++ bytes "1}") 67
    ∷ wrong (bytes "U={" ++ times 32 (bytes "1,") ++ bytes "x") 67
    ∷ []

-- 4,096 bytes pass the length and are looked at; a byte more is 1, whatever stands there
abbrev pub length_limit : List Answered
length_limit = (times 4096 (0xFF ∷ []), (10, 0)) ∷ (times 4097 (0xFF ∷ []), (1, 0)) ∷ (times 4097 (bytes " "), (1, 0)) ∷ []
