use Rattle.std.proofs.Common.{sym}
use Rattle.std.proofs.Math.Seq.{set_out}
use Rattle.instance.proofs.notes.note.Goals as goal

pub returns-else-number-notes : goal.returns-else-number-notes
returns-else-number-notes c = sym (set_out c.args.notes.now _ _ c.if-number-notes.false)
