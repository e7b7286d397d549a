-- A choice by a test, for definitions that read like a table of cases.
use Rattle.std.specs.Prelude.{Bool, true, false}

-- the first of two where the test holds, else the second
abbrev pub pick : {A : Type 0} → Bool → A → A → A
pick true a b = a
pick false a b = b
