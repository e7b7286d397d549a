use Rattle.pattern.proofs.Scanned as law
use Rattle.pattern.proofs.hits.hits_of.Goals as goal

pub loop-at-smaller : goal.loop-at-smaller
loop-at-smaller c = search law.symbol_further
