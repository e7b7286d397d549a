use Rattle.value.proofs.CharacterUnits as law
use Rattle.value.proofs.skip.skip_alike.Goals as goal

pub returns-then-is_bytes : goal.returns-then-is_bytes
returns-then-is_bytes c = search law.bytes_skipped
