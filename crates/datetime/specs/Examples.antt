-- Worked datetimes: texts and what they say, and comparisons of texts. 01 "A fan to try" has the first two texts and their comparison.
use Prim.Native.String.{String}
use Rattle.std.specs.Prelude.{Bool, true, false, List, [], ◌∷◌, ◌≡◌, ℤ, pos, negsuc}
use Rattle.base.specs.Ascii.{bytes}
use Rattle.base.specs.Vectors.{results, expected}
use Rattle.base.specs.Order.{holds}
use Rattle.base.specs.declared.order.Operator.{Operator}
use Rattle.base.specs.declared.order.Operator.TheVariants.{Equal, Unequal, Less, AtMost, Greater, AtLeast}
use Rattle.datetime.specs.Datetime.{datetime_of}
use Rattle.datetime.specs.Order.{order_of_datetimes}
use Rattle.datetime.specs.declared.Span.{Span}
use Rattle.datetime.specs.declared.Datetime.{Datetime}
use Rattle.datetime.specs.declared.Datetime.TheVariants.{Timestamp, Interval, Malformed}

abbrev span : ℤ → ℤ → Span
span a b = record { lowest = a; highest = b }

abbrev point : ℤ → Span
point m = span m m

abbrev pub texts : List (String × Datetime)
texts =
    ("20051003112233.000000+000", Timestamp (point (pos 63295557753000000)))
    ∷ ("20051003122233.000000+060", Timestamp (point (pos 63295557753000000)))
    ∷ ("20051003102233.000000-060", Timestamp (point (pos 63295557753000000)))
    ∷ ("20000229000000.000000+000", Timestamp (point (pos 63119001600000000)))
    ∷ ("19000229000000.000000+000", Malformed)
    ∷ ("00000229000000.000000+000", Timestamp (point (pos 5097600000000)))
    ∷ ("00000101000000.000000-000", Timestamp (point (pos 0)))
    ∷ ("00000101000000.000000+001", Timestamp (point (negsuc 59999999)))
    ∷ ("99991231235959.999999-999", Timestamp (point (pos 315569579939999999)))
    ∷ ("00000001020304.000005:000", Interval (point (pos 93784000005)))
    ∷ ("99999999235959.999999:000", Interval (point (pos 8639999999999999999)))
    ∷ ("00000001020304.000005:001", Malformed)
    ∷ ("00000001240000.000000:000", Malformed)
    ∷ ("20051003240000.000000+000", Malformed)
    ∷ ("20051003116000.000000+000", Malformed)
    ∷ ("20051003112260.000000+000", Malformed)
    ∷ ("20050003112233.000000+000", Malformed)
    ∷ ("20051303112233.000000+000", Malformed)
    ∷ ("20051000112233.000000+000", Malformed)
    ∷ ("20051032112233.000000+000", Malformed)
    ∷ ("20051003112233,000000+000", Malformed)
    ∷ ("20051003112233.000000 000", Malformed)
    ∷ ("20051003112233.000000+00a", Malformed)
    ∷ ("20051003112233.000000+00", Malformed)
    ∷ ("20051003112233.000000+0000", Malformed)
    ∷ ("", Malformed)
    -- microsecond digits: all, some, one
    ∷ ("20051003112233.******+000", Timestamp (span (pos 63295557753000000) (pos 63295557753999999)))
    ∷ ("20051003112233.12****+000", Timestamp (span (pos 63295557753120000) (pos 63295557753129999)))
    ∷ ("20051003112233.12345*+000", Timestamp (span (pos 63295557753123450) (pos 63295557753123459)))
    -- seconds; the offset shifts both ends
    ∷ ("200510031122**.******+000", Timestamp (span (pos 63295557720000000) (pos 63295557779999999)))
    ∷ ("200510031222**.******+060", Timestamp (span (pos 63295557720000000) (pos 63295557779999999)))
    -- the day, in Februaries of 29 and of 28 days; the month; all of it
    ∷ ("200402********.******+000", Timestamp (span (pos 63242812800000000) (pos 63245318399999999)))
    ∷ ("200502********.******+000", Timestamp (span (pos 63274435200000000) (pos 63276854399999999)))
    ∷ ("2005**********.******+000", Timestamp (span (pos 63271756800000000) (pos 63303292799999999)))
    ∷ ("**************.******+000", Timestamp (span (pos 0) (pos 315569519999999999)))
    ∷ ("**************.******+999", Timestamp (span (negsuc 59939999999) (pos 315569460059999999)))
    -- intervals
    ∷ ("**************.******:000", Interval (span (pos 0) (pos 8639999999999999999)))
    ∷ ("00000003******.******:000", Interval (span (pos 259200000000) (pos 345599999999)))
    ∷ ("20051003112233.******:000", Interval (span (pos 1732406700153000000) (pos 1732406700153999999)))
    -- not at the start of a field, not unbroken, the point, the offset
    ∷ ("2005100311223*.******+000", Malformed)
    ∷ ("2005*****************+000", Malformed)
    ∷ ("0000000*******.******:000", Malformed)
    ∷ ("0000**********.******:000", Malformed)
    ∷ ("********112233.******:000", Malformed)
    ∷ ("20051003112233.*00000+000", Malformed)
    ∷ ("20051003112233*******+000", Malformed)
    ∷ ("20051003112233.******+***", Malformed)
    ∷ ("20051003112233.******:***", Malformed)
    -- digits that are known keep their rules
    ∷ ("20050229******.******+000", Malformed)
    ∷ ("200513********.******+000", Malformed)
    ∷ ("2005100324****.******+000", Malformed)
    ∷ ("0000000324****.******:000", Malformed)
    ∷ ("**************.******:001", Malformed)
    ∷ []

abbrev pub comparisons : List ((String × Operator × String) × Bool)
comparisons =
    (("20051003112233.000000+000", Equal, "20051003122233.000000+060"), true)
    ∷ (("20051003112233.000000+000", Less, "20051003112233.000001+000"), true)
    ∷ (("00000101000000.000000+001", Less, "00000101000000.000000+000"), true)
    ∷ (("00000101000000.000000+999", AtMost, "00000101000000.000000+001"), true)
    ∷ (("00000001000000.000000:000", Greater, "00000000235959.999999:000"), true)
    ∷ (("00000001000000.000000:000", AtLeast, "00000001000000.000000:000"), true)
    ∷ (("00000101000000.000000+000", Equal, "00000000000000.000000:000"), false)
    ∷ (("00000101000000.000000+000", Unequal, "00000000000000.000000:000"), true)
    ∷ (("00000101000000.000000+000", AtMost, "00000000000000.000000:000"), false)
    ∷ (("00000101000000.000000+000", AtLeast, "00000000000000.000000:000"), false)
    ∷ (("00000000000000.000000:000", Less, "00000101000000.000000+000"), false)
    -- both ends agree, at another offset; the lowest alone does not do
    ∷ (("200510031122**.******+000", Equal, "200510031222**.******+060"), true)
    ∷ (("200510031122**.******+000", Unequal, "200510031222**.******+060"), false)
    ∷ (("200510031122**.******+000", AtMost, "200510031222**.******+060"), true)
    ∷ (("200510031122**.******+000", Equal, "20051003112200.000000+000"), false)
    ∷ (("200510031122**.******+000", Equal, "20051003112200.******+000"), false)
    -- overlapping: neither way
    ∷ (("200510031122**.******+000", AtMost, "20051003112233.000000+000"), false)
    ∷ (("200510031122**.******+000", AtLeast, "20051003112233.000000+000"), false)
    ∷ (("200510031122**.******+000", Less, "20051003112259.999999+000"), false)
    ∷ (("200510031122**.******+000", Unequal, "20051003112233.000000+000"), true)
    -- apart
    ∷ (("200510031122**.******+000", Less, "20051003112300.000000+000"), true)
    ∷ (("200510031122**.******+000", Greater, "20051003112159.999999+000"), true)
    ∷ (("200510031122**.******+000", AtLeast, "200510031121**.******+000"), true)
    ∷ (("00000003******.******:000", Less, "00000004******.******:000"), true)
    ∷ (("**************.******+000", Equal, "**************.******:000"), false)
    ∷ []

abbrev pub said : String → Datetime
said text = datetime_of (bytes text)

abbrev pub judged : String × Operator × String → Bool
judged c = holds c.1 (order_of_datetimes (said c.0) (said c.2))

-- each text and each comparison is as it should be
abbrev pub AllSaid : Type 0
AllSaid = results said texts ≡ expected texts

abbrev pub AllJudged : Type 0
AllJudged = results judged comparisons ≡ expected comparisons
