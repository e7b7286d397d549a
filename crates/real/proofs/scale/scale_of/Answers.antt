use Rattle.real.proofs.Scales.{size_beyond, after_beyond}
use Rattle.real.proofs.scale.scale_of.Goals as goal
use Rattle.real.proofs.scale.scale_of.Goals.{then-size-gt22-via-then-size-gt22, then-size-gt22-via-else-size-gt22+then-after-gt22}

pub returns-then-size-gt22 : goal.returns-then-size-gt22
returns-then-size-gt22 c =
    elim c.then-size-gt22.branch [
      | then-size-gt22-via-then-size-gt22 w ↦ search size_beyond
      | then-size-gt22-via-else-size-gt22+then-after-gt22 w ↦ search after_beyond
    ]
