use borrow.Author.Rules.{rules}
use Rattle.value.proofs.Laws as law
use Rattle.value.proofs.unit.encoded_byte.Goals as goal

pub returns-then-v-lt128 : goal.returns-then-v-lt128
returns-then-v-lt128 c = search law.one_byte

pub byte_of_two-requires : goal.byte_of_two-requires
byte_of_two-requires c = (search rules, search law.two_room)

pub returns-then-v-lt2048 : goal.returns-then-v-lt2048
returns-then-v-lt2048 c = search law.two_byte

pub byte_of_three-requires : goal.byte_of_three-requires
byte_of_three-requires c = (search rules, search law.three_room)

pub returns-then-v-lt65536 : goal.returns-then-v-lt65536
returns-then-v-lt65536 c = search law.three_byte

pub byte_of_four-requires : goal.byte_of_four-requires
byte_of_four-requires c = (search rules, search law.four_room)

pub returns : goal.returns
returns c = search law.four_byte
