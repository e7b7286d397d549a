use Rattle.std.proofs.Common.{rules, ◌≡◌}
use mathlib.Core.Path.{◌∙◌}
use mir.Val.{bool_byte}
use Rattle.base.proofs.Pick as law
use Rattle.watch.specs.Window.{is_one}
use Rattle.watch.proofs.window.one_of.Goals as goal

pub returns : goal.returns
returns c = let e : c.from.result ≡ bool_byte (is_one c.args.mark) = search rules in e ∙ law.as_number _
