use Rattle.real.proofs.Scales.{down_none, down_beyond, down_within}
use Rattle.real.proofs.scale.scale_down.Goals as goal

pub returns-then-k-eq0 : goal.returns-then-k-eq0
returns-then-k-eq0 c = search down_none

pub returns-then-k-gt22 : goal.returns-then-k-gt22
returns-then-k-gt22 c = search down_beyond

pub returns : goal.returns
returns c = search down_within
