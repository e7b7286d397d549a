-- Plain marks with those of a watch over them: window, need, plain marks, and what they come to.
use Rattle.std.specs.Prelude.{ℕ, List, [], ◌∷◌}
use Rattle.watch.specs.Window.{watch_marks}

pub record Watch : Type 0 where
  pub window : ℕ
  pub need : ℕ
  pub plain : List ℕ

abbrev over : (window need : ℕ) (plain : List ℕ) → Watch
over n k ms = record { window = n; need = k; plain = ms }

abbrev pub marks : Watch → List ℕ
marks w = watch_marks w.window w.need w.plain

abbrev pub examples : List (Watch × List ℕ)
examples =
    -- two of three: one alone is too few; 255 doesn't count, and is itself marked by its window
    (over 3 2 (1 ∷ 0 ∷ 1 ∷ 1 ∷ 255 ∷ 0 ∷ []), 0 ∷ 0 ∷ 1 ∷ 1 ∷ 1 ∷ 0 ∷ [])
    -- 255 takes a place: without it the last two would be both included
    ∷ (over 2 2 (1 ∷ 255 ∷ 1 ∷ []), 0 ∷ 0 ∷ 0 ∷ [])
    -- one of two: an included one counts for itself and for the next, no longer
    ∷ (over 2 1 (1 ∷ 0 ∷ 0 ∷ 255 ∷ 1 ∷ 255 ∷ 255 ∷ []), 1 ∷ 1 ∷ 0 ∷ 0 ∷ 1 ∷ 1 ∷ 0 ∷ [])
    -- before the window has passed, those that there are count
    ∷ (over 64 3 (1 ∷ 1 ∷ 0 ∷ 1 ∷ []), 0 ∷ 0 ∷ 0 ∷ 1 ∷ [])
    ∷ (over 64 64 (1 ∷ 1 ∷ 1 ∷ []), 0 ∷ 0 ∷ 0 ∷ [])
    -- the plain marks, with 255 as 0
    ∷ (over 1 1 (1 ∷ 0 ∷ 255 ∷ 1 ∷ []), 1 ∷ 0 ∷ 0 ∷ 1 ∷ [])
    ∷ (over 1 1 [], [])
    ∷ []
