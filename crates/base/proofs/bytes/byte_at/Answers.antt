use Rattle.base.proofs.Lists.{byte_past}
use Rattle.base.proofs.bytes.byte_at.Goals as goal

pub returns : goal.returns
returns c = search byte_past
