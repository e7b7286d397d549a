-- The lines, texts and words of specs/Examples, computed.
use mathlib.Core.Path.{◌≡◌, refl}
use Rattle.base.specs.Vectors.{results, expected}
use Rattle.text_writer.specs.Decimal.{digits_within, decimal}
use Rattle.report.specs.Line.{spaced, line, refused_line, spaced_totals, total_line}
use Rattle.report.specs.Text.{lines_of, after_blank, until_blank, word_in}
use Rattle.report.specs.Examples.{line_of, answers, refused_of, refusals, total_of, totals, texts, words}

pub answers_right : results line_of answers ≡ expected answers
unfolding digits_within decimal spaced line
answers_right = refl

pub refusals_right : results refused_of refusals ≡ expected refusals
unfolding digits_within decimal spaced refused_line
refusals_right = refl

pub totals_right : results total_of totals ≡ expected totals
unfolding digits_within decimal spaced spaced_totals total_line
totals_right = refl

pub texts_right : results lines_of texts ≡ expected texts
unfolding lines_of
texts_right = refl

pub words_right : results word_in words ≡ expected words
unfolding after_blank until_blank
words_right = refl
