-- Examples of instances with what they are found to be, and what the sample instance reads.
use Rattle.std.specs.Prelude.{ℕ, zero, suc, List, [], ◌∷◌, ◌++◌, Err, true, replicate, take, drop, pos, negsuc}
use Rattle.std.proofs.Math.Option.{some}
use Rattle.base.specs.Ascii.{bytes}
use Rattle.record.specs.Write.{write}
use Rattle.table.specs.Sample.{sample_class}
use Rattle.instance.specs.Fault.{Conformity, conforming, too_long, fault_at}
use Rattle.instance.specs.Value.{Entry, absent, property, single, array, truth, whole, text}
use Rattle.instance.specs.Sample.{sample_instance}

-- a table with one property of a kind
abbrev pub one : (kind : ℕ) → List ℕ
one kind = sample_class ++ write kind (bytes "a")

abbrev pub copies : ℕ → List ℕ → List ℕ
copies zero s = []
copies (suc n) s = s ++ copies n s

-- each type: bodies that are right, then bodies that aren't
abbrev pub types : List ((List ℕ × List ℕ) × Conformity)
types =
    ((one 1, write 1 (0 ∷ [])), conforming)
    ∷ ((one 1, write 1 (1 ∷ [])), conforming)
    ∷ ((one 1, write 1 (2 ∷ [])), fault_at 0)
    ∷ ((one 1, write 1 []), fault_at 0)
    ∷ ((one 1, write 1 (0 ∷ 0 ∷ [])), fault_at 0)
    ∷ ((one 0x0011, write 0x0011 (255 ∷ [])), conforming)
    ∷ ((one 0x0011, write 0x0011 []), fault_at 0)
    ∷ ((one 0x0012, write 0x0012 (replicate 2 255)), conforming)
    ∷ ((one 0x0012, write 0x0012 (replicate 3 0)), fault_at 0)
    ∷ ((one 0x0014, write 0x0014 (replicate 4 255)), conforming)
    ∷ ((one 0x0014, write 0x0014 (replicate 8 0)), fault_at 0)
    ∷ ((one 0x0018, write 0x0018 (replicate 8 255)), conforming)
    ∷ ((one 0x0018, write 0x0018 (replicate 7 255)), fault_at 0)
    ∷ ((one 0x0021, write 0x0021 (128 ∷ [])), conforming)
    ∷ ((one 0x0021, write 0x0021 (replicate 2 0)), fault_at 0)
    ∷ ((one 0x0022, write 0x0022 (replicate 2 128)), conforming)
    ∷ ((one 0x0022, write 0x0022 (0 ∷ [])), fault_at 0)
    ∷ ((one 0x0024, write 0x0024 (replicate 4 128)), conforming)
    ∷ ((one 0x0024, write 0x0024 (replicate 3 0)), fault_at 0)
    ∷ ((one 0x0028, write 0x0028 (replicate 8 128)), conforming)
    ∷ ((one 0x0028, write 0x0028 (replicate 9 0)), fault_at 0)
    -- the same bytes of another kind of integer
    ∷ ((one 0x0028, write 0x0018 (replicate 8 0)), fault_at 0)
    ∷ ((one 4, write 4 (replicate 4 255)), conforming)
    ∷ ((one 4, write 4 (replicate 8 0)), fault_at 0)
    ∷ ((one 5, write 5 (replicate 8 255)), conforming)
    ∷ ((one 5, write 5 (replicate 4 0)), fault_at 0)
    ∷ ((one 6, write 6 (0 ∷ 9 ∷ 0xef ∷ 0xbf ∷ 0xbf ∷ [])), conforming)
    ∷ ((one 6, write 6 (0xc0 ∷ 0x80 ∷ [])), fault_at 0)
    ∷ ((one 7, write 7 (0x00 ∷ 0xe0 ∷ [])), conforming)
    ∷ ((one 7, write 7 (0x00 ∷ 0xd8 ∷ [])), fault_at 0)
    ∷ ((one 7, write 7 (0xff ∷ 0xdf ∷ [])), fault_at 0)
    ∷ ((one 7, write 7 (65 ∷ [])), fault_at 0)
    ∷ ((one 8, write 8 (0xff ∷ 0xfe ∷ [])), conforming)
    ∷ ((one 8, write 6 []), fault_at 0)
    ∷ ((one 9, write 9 (bytes "20040229235959.999999-999")), conforming)
    ∷ ((one 9, write 9 (bytes "00000003112233.000000:000")), conforming)
    ∷ ((one 9, write 9 (bytes "20050229112233.000000+000")), fault_at 0)
    ∷ ((one 9, write 9 (bytes "20040229112233.000000+00")), fault_at 0)
    ∷ ((one 9, write 9 (bytes "200402********.******-999")), conforming)
    ∷ ((one 9, write 9 (bytes "00000003112233.******:000")), conforming)
    ∷ ((one 9, write 9 (bytes "20050229******.******+000")), fault_at 0)
    ∷ ((one 9, write 9 (bytes "20040229112233.******+00*")), fault_at 0)
    ∷ ((one 10, write 10 (bytes "a:b/c")), conforming)
    ∷ ((one 10, write 10 (0xff ∷ [])), fault_at 0)
    -- NULL, of a scalar and of an array; with a body
    ∷ ((one 6, write 0 []), conforming)
    ∷ ((one 0x0106, write 0 []), conforming)
    ∷ ((one 6, write 0 (7 ∷ [])), fault_at 0)
    -- arrays
    ∷ ((one 0x0118, write 0x0118 []), conforming)
    ∷ ((one 0x0118, write 0x0118 (write 0x0018 (replicate 8 0) ++ write 0 [])), conforming)
    ∷ ((one 0x0118, write 0x0118 (write 0x0118 (replicate 8 0))), fault_at 0)
    ∷ ((one 0x0118, write 0x0118 (write 0 (7 ∷ []))), fault_at 0)
    ∷ ((one 0x0118, write 0x0118 (write 0x0018 (replicate 8 0) ++ (0 ∷ []))), fault_at 0)
    ∷ ((one 0x0118, write 0x0018 (replicate 8 0)), fault_at 0)
    ∷ ((one 0x0118, write 0x0118 (copies 256 (write 0 []))), conforming)
    ∷ ((one 0x0118, write 0x0118 (copies 257 (write 0 []))), fault_at 0)
    ∷ []

-- instances of the sample table
abbrev pub samples : List (List ℕ × Conformity)
samples =
    (sample_instance, conforming)
    -- a missing record, at the end
    ∷ ([], fault_at 0)
    ∷ (take 17 sample_instance, fault_at 17)
    ∷ (take 19 sample_instance, fault_at 17)
    ∷ (take 90 sample_instance, fault_at 83)
    -- the first of two faults
    ∷ (take 5 sample_instance ++ write 0x0028 (replicate 7 0) ++ drop 17 (take 90 sample_instance), fault_at 5)
    -- more records: any kind, kind 0 with a body; one that runs past the end
    ∷ (sample_instance ++ write 0 (7 ∷ []) ++ write 0xffff [], conforming)
    ∷ (sample_instance ++ (0 ∷ []), fault_at 95)
    ∷ (sample_instance ++ write 0 [] ++ (1 ∷ 0 ∷ 0 ∷ 0 ∷ []), fault_at 99)
    ∷ []

-- 65,535 bytes, and one more
abbrev pub lengths : List (List ℕ × Conformity)
lengths =
    (sample_instance ++ write 0x0300 (replicate 65436 0), conforming)
    ∷ (sample_instance ++ write 0x0300 (replicate 65437 0), Err too_long)
    ∷ []

-- what the sample instance reads
abbrev pub readings : List (ℕ × Entry)
readings =
    (0, property 1 (single (truth true)))
    ∷ (1, property 0x0028 (single (whole (negsuc 4))))
    ∷ (2, property 0x0118 (array (some (whole (pos 3)) ∷ some (whole (pos 14)) ∷ [])))
    ∷ (3, property 6 (single (text (bytes "FAN_2"))))
    ∷ (6, absent)
    ∷ []

-- what integers read, by the kind and the bytes: the same bytes with and without a sign, at every width
abbrev pub integers : List ((ℕ × List ℕ) × Entry)
integers =
    ((0x0011, 255 ∷ []), property 0x0011 (single (whole (pos 255))))
    ∷ ((0x0021, 255 ∷ []), property 0x0021 (single (whole (negsuc 0))))
    ∷ ((0x0021, 128 ∷ []), property 0x0021 (single (whole (negsuc 127))))
    ∷ ((0x0021, 127 ∷ []), property 0x0021 (single (whole (pos 127))))
    ∷ ((0x0012, 0 ∷ 1 ∷ []), property 0x0012 (single (whole (pos 256))))
    ∷ ((0x0022, 255 ∷ 0 ∷ []), property 0x0022 (single (whole (pos 255))))
    ∷ ((0x0022, 0 ∷ 128 ∷ []), property 0x0022 (single (whole (negsuc 32767))))
    ∷ ((0x0014, replicate 4 255), property 0x0014 (single (whole (pos 0xffffffff))))
    ∷ ((0x0024, replicate 4 255), property 0x0024 (single (whole (negsuc 0))))
    ∷ ((0x0018, replicate 8 255), property 0x0018 (single (whole (pos 0xffffffffffffffff))))
    ∷ ((0x0028, replicate 8 255), property 0x0028 (single (whole (negsuc 0))))
    ∷ ((0x0028, replicate 7 0 ++ (128 ∷ [])), property 0x0028 (single (whole (negsuc 0x7fffffffffffffff))))
    ∷ []

abbrev pub starts : List (ℕ × ℕ)
starts = (0, 0) ∷ (1, 5) ∷ (2, 17) ∷ (3, 45) ∷ (4, 54) ∷ (5, 83) ∷ (6, 95) ∷ (7, 95) ∷ []

-- the notes that a walk leaves, by the instance and the notes before it: all of them, as far as there is room, and those before the first fault
abbrev pub walks : List ((List ℕ × List ℕ) × List ℕ)
walks =
    ((sample_instance, replicate 8 7), 0 ∷ 5 ∷ 17 ∷ 45 ∷ 54 ∷ 83 ∷ 7 ∷ 7 ∷ [])
    ∷ ((sample_instance, replicate 4 7), 0 ∷ 5 ∷ 17 ∷ 45 ∷ [])
    ∷ ((sample_instance ++ write 0 (7 ∷ []), replicate 6 7), 0 ∷ 5 ∷ 17 ∷ 45 ∷ 54 ∷ 83 ∷ [])
    ∷ ((sample_instance ++ (0 ∷ []), replicate 6 7), 0 ∷ 5 ∷ 17 ∷ 45 ∷ 54 ∷ 83 ∷ [])
    ∷ ((take 19 sample_instance, replicate 6 7), 0 ∷ 5 ∷ 7 ∷ 7 ∷ 7 ∷ 7 ∷ [])
    ∷ (([], replicate 2 7), 7 ∷ 7 ∷ [])
    ∷ ((sample_instance ++ write 0x0300 (replicate 65437 0), replicate 2 7), 7 ∷ 7 ∷ [])
    ∷ []
