-- The examples of specs/Examples, computed.
use Prim.Native.Nat.{ℕ}
use mathlib.Core.List.{List}
use mathlib.Core.Path.{◌≡◌, refl}
use Rattle.base.specs.LittleEndian
use Rattle.base.specs.Range
use Rattle.base.specs.Walk
use Rattle.record.specs.Record
use Rattle.record.specs.Record.{records}
use Rattle.record.specs.Write
use Rattle.record.specs.Name
use Rattle.record.specs.Name.{valid_name, same_name}
use Rattle.record.specs.Reserved
use Rattle.record.specs.Reserved.{is_reserved}
use Rattle.record.specs.Kind
use Rattle.record.specs.Kind.{kind_of}
use Rattle.base.specs.Vectors.{results, expected}
use Rattle.record.specs.Examples.{slices, names, pairs, words, kinds}

slices_read : results (λ (s : List ℕ). records s 0) slices ≡ expected slices
unfolding LittleEndian.unsigned Walk.walk Walk.from Record.record_at Record.records Write.little_endian Write.write
slices_read = refl

names_judged : results valid_name names ≡ expected names
unfolding Range.within Name.letter Name.name_byte Name.valid_name
names_judged = refl

pairs_compared : results (λ (p : List ℕ × List ℕ). same_name p.0 p.1) pairs ≡ expected pairs
unfolding Range.within Name.lower Name.same_name
pairs_compared = refl

words_judged : results is_reserved words ≡ expected words
unfolding Range.within Name.lower Name.same_name Reserved.reserved_words Reserved.among Reserved.is_reserved
words_judged = refl

kinds_read : results kind_of kinds ≡ expected kinds
unfolding Kind.integer_kind Kind.scalar_kind Kind.kind_of
kinds_read = refl
