-- What a `?` returns: the error that its conversion gives.
use Rattle.std.specs.Prelude.{Result, Ok, Err, IsErr, IsErrAnd}
use mathlib.Core.Path.{◌≡◌, ap}

returned_by : {A E : Type 0} {x : E} (r : Result A E) → IsErrAnd r (λ (e : E). e ≡ x) → r ≡ Err x
returned_by (Ok y) f = absurd f
returned_by (Err e) f = ap Err f

pub returned : {A E : Type 0} {r : Result A E} {x : E} → IsErr r × IsErrAnd r (λ (e : E). e ≡ x) → r ≡ Err x
returned {r = r} h = returned_by r h.1
