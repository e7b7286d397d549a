use mathlib.Core.Path.{sym, ◌∙◌}
use Rattle.token.proofs.FirstByte as law
use Rattle.token.proofs.longest.longest_at.Goals as goal

pub returns-then-is_letter : goal.returns-then-is_letter
returns-then-is_letter c = (law.by_letter c.args.q.now c.args.s (sym c.is_letter.ensures ∙ c.if-is_letter.true) c.word_token.ensures.0 c.word_token.ensures.1, c.word_token.ensures.1)

pub returns-then-begins_number : goal.returns-then-begins_number
returns-then-begins_number c = (law.by_digit_or_sign c.args.q.now c.args.s (sym c.is_letter.ensures ∙ c.if-is_letter.false) (sym c.begins_number.ensures ∙ c.if-begins_number.true) c.number_token.ensures.0 c.number_token.ensures.1, c.number_token.ensures.1)

pub returns-then-b-eq39 : goal.returns-then-b-eq39
returns-then-b-eq39 c = (law.by_quote c.args.q.now c.args.s (sym c.is_letter.ensures ∙ c.if-is_letter.false) c.if-b-eq39.true c.text_token.ensures.0 c.text_token.ensures.1, c.text_token.ensures.1)

pub returns-then-b-eq46 : goal.returns-then-b-eq46
returns-then-b-eq46 c = (law.by_point c.args.q.now c.args.s c.if-b-eq46.true c.point_token.ensures.0, c.point_token.ensures.1)

pub returns : goal.returns
returns c = (law.by_symbol c.args.q.now c.args.s (sym c.is_letter.ensures ∙ c.if-is_letter.false) (sym c.begins_number.ensures ∙ c.if-begins_number.false) c.if-b-eq39.false c.if-b-eq46.false c.symbol_token.ensures.0, c.symbol_token.ensures.1)
