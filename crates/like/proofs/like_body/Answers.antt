use Prim.Native.Nat.{ℕ}
use native.Mathlib.Omega.{arith}
use Rattle.record.proofs.Small.{number_below}
use Rattle.like.proofs.Liking as law
use borrow.Author.Rules.{rules}
use Rattle.like.proofs.like_body.Goals as goal

pub tell_match-requires : goal.tell_match-requires
tell_match-requires c = let h = law.characters_few _ _ _ _ c.match_utf8.ensures in omega arith

pub overflow_cast-number_at : goal.overflow_cast-number_at
overflow_cast-number_at c = omega (arith, c.number_at.ensures, number_below c.args.body.now 0 (λ (i : ℕ). (c.shared_slice_known-2-1.given i).fits))

pub tell_match-requires-in-Char16 : goal.tell_match-requires-in-Char16
tell_match-requires-in-Char16 c = let h = law.character_one _ _ _ _ c.match_character.ensures in omega arith

pub returns-in-Text : goal.returns-in-Text
returns-in-Text c = search law.like_utf8

pub returns-in-Char16 : goal.returns-in-Char16
returns-in-Char16 c = search law.like_char16

pub returns-in-Boolean : goal.returns-in-Boolean
returns-in-Boolean c = search law.like_other

pub returns-in-Integer : goal.returns-in-Integer
returns-in-Integer c = search law.like_other

pub returns-in-Real : goal.returns-in-Real
returns-in-Real c = search law.like_other

pub returns-in-Octets : goal.returns-in-Octets
returns-in-Octets c = search law.like_other

pub returns-in-Datetime : goal.returns-in-Datetime
returns-in-Datetime c = search law.like_other

pub returns-in-Reference : goal.returns-in-Reference
returns-in-Reference c = search law.like_other
