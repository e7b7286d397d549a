use Rattle.watch.proofs.Counting as law
use native.Mathlib.Omega.{arith}
use Rattle.watch.proofs.window.moved_before.Goals as goal

pub overflow_sub-kept : goal.overflow_sub-kept
overflow_sub-kept c = search law.leaving

pub returns-then-end-window : goal.returns-then-end-window
returns-then-end-window c = search law.none_enters

pub overflow_add-result : goal.overflow_add-result
overflow_add-result c = let m = law.entering_fits _ _ _ _ c.requires.0 c.requires.1 c.requires.2 c.one_of.ensures c.if-end-window.false c.one_of-2.ensures in omega arith

pub returns : goal.returns
returns c = search law.one_enters
