use Rattle.std.proofs.Common.{rules, leb, ◌≡◌}
use mathlib.Core.Path.{◌∙◌}
use mir.Val.{bool_byte}
use Rattle.base.proofs.Pick as law
use Rattle.watch.proofs.window.window_mark.Goals as goal

pub returns : goal.returns
returns c = let e : c.from.result ≡ bool_byte (leb c.args.need c.args.held) = search rules in e ∙ law.as_number _
