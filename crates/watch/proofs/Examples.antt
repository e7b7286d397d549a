-- The marks of specs/Examples, computed.
use mathlib.Core.Path.{◌≡◌, refl}
use Rattle.base.specs.Vectors.{results, expected}
use Rattle.run.specs.Totals
use Rattle.watch.specs.Window
use Rattle.watch.specs.Examples.{marks, examples}

pub examples_right : results marks examples ≡ expected examples
unfolding Totals.count Window.watch_marks_from
examples_right = refl
