use Rattle.text_writer.proofs.Laws as law
use Rattle.text_writer.proofs.decimal.+write_decimal.Goals as goal

-- src/decimal.rt:20:9
pub returns-then-n-lt10 : goal.returns-then-n-lt10
returns-then-n-lt10 t c = search law.decimal_one

-- src/decimal.rt:16:1
pub returns : goal.returns
returns t c = search law.decimal_last
