use Rattle.datetime.proofs.Known.{known_most}
use Rattle.datetime.proofs.Highest.{text_long}
use Rattle.datetime.proofs.Reading as law
use Rattle.datetime.proofs.read.span_in.Goals as goal

pub fill_lowest-requires : goal.fill_lowest-requires
fill_lowest-requires c = (c.known_in-known.ensures.1, text_long _ _ (known_most _) c.requires)

pub microseconds_in-lowest-requires : goal.microseconds_in-lowest-requires
microseconds_in-lowest-requires c = law.lowest_read _ c.requires c.known_in-known.ensures.0 c.fill_lowest.ensures

pub microseconds_in-highest-requires : goal.microseconds_in-highest-requires
microseconds_in-highest-requires c = law.highest_read _ c.requires c.known_in-known.ensures.0 c.fill_highest.ensures
