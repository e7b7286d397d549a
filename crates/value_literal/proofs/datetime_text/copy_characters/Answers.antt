use Prim.Native.Nat.{◌≤◌, ◌-◌}
use mathlib.Core.Path.{◌≡◌, refl}
use mathlib.Core.List.{◌++◌}
use native.Mathlib.Omega.{arith}
use lib.ListN.{length, take}
use Rattle.string_literal.specs.Text.{text_at, characters_of}
use Rattle.string_literal.proofs.Laws.{moved}
use Rattle.string_literal.proofs.Filling.{next_character, step_in}
use Rattle.value_literal.proofs.Ascii as law
use borrow.Author.Rules.{rules}
use Rattle.value_literal.proofs.datetime_text.copy_characters.Goals as goal

pub loop-v-init : goal.loop-v-init
loop-v-init c = (refl, search rules, search rules)

pub returns-then-out-n : goal.returns-then-out-n
returns-then-out-n c = law.copied_over _ _ _ _ c.loop-v.invariant.0 c.loop-v.invariant.2 _ _ (next_character _ _ c.char_in_string.ensures.0 _ _ c.in-Character.is) c.loop-v.invariant.1 (omega arith)

pub returns-then-v-gt127 : goal.returns-then-v-gt127
returns-then-v-gt127 c = law.wide_at _ _ _ c.loop-v.out c.loop-v.n c.loop-v.invariant.0 c.loop-v.invariant.2 c.char_in_string.ensures.0 _ _ c.in-Character.is (omega arith) c.if-v-gt127.true

pub loop-v-smaller : goal.loop-v-smaller
loop-v-smaller c = let m = moved c.char_in_string.ensures.1 c.in-Character.is in omega arith

pub loop-v-preserved : goal.loop-v-preserved
loop-v-preserved c = (step_in _ _ _ c.loop-v.out c.loop-v.n _ c.char_in_string.ensures.0 c.in-Character.is c.loop-v.invariant.0 c.loop-v.invariant.2 (omega arith), omega arith, search rules)

pub returns : goal.returns
returns c =
    law.copied_all _ _ c.loop-v.out c.loop-v.n c.loop-v.invariant.0 c.loop-v.invariant.2 (law.at_end _ _ c.char_in_string.ensures.0 c.in_default.not-Character)
