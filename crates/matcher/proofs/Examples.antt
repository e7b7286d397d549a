-- The worked patterns, computed from the definitions.
use Prim.Native.Nat.{ℕ}
use mathlib.Core.List.{List}
use mathlib.Core.Path.{◌≡◌, refl}
use Rattle.base.specs.Range.{within}
use Rattle.base.specs.Vectors.{results, expected}
use Rattle.pattern.specs.Regex.{stands_for, in_ranges}
use Rattle.matcher.specs.Run.{likes, run, shift, with_live, final, nullable}
use Rattle.pattern.specs.Character.{special, starts_with}
use Rattle.pattern.specs.Reading.{escaped, member, range, members, set_from, symbol, repeated, symbol_item, ends, alternatives, sequence, item, parse, well_formed}
use Rattle.matcher.specs.Matcher.{like_of}
use Rattle.matcher.specs.Examples.{times, checked, matched}

pub checked_right : results well_formed checked ≡ expected checked
unfolding times parse alternatives sequence item ends symbol_item repeated symbol set_from members range member escaped special starts_with
checked_right = refl

pub matched_right : results (λ (x : List ℕ × List ℕ). like_of (parse x.0) x.1) matched ≡ expected matched
unfolding parse alternatives sequence item ends symbol_item repeated symbol set_from members range member escaped special starts_with likes run shift with_live final nullable stands_for in_ranges within
matched_right = refl
