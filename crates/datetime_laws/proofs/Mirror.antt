-- Two spans compared the other way round: before and after change places, equal and undecided stay.
use mathlib.Core.Path.{◌≡◌, refl, sym}
use Rattle.base.specs.declared.order.Order.{Order}
use Rattle.base.specs.declared.order.Order.TheVariants.{Before, Same, After, Undecided}
use Rattle.datetime.specs.Order.{order_of_spans}
use Rattle.datetime.specs.declared.Span.{Span}
use Rattle.datetime_laws.specs.Relation.{InOrder, reversed}
use Rattle.datetime_laws.proofs.Relate.{before_exactly, same_exactly, after_exactly, undecided_exactly}

pub mirror : (a b : Span) → InOrder a → InOrder b → order_of_spans b a ≡ reversed (order_of_spans a b)
mirror a b u v = go (order_of_spans a b) refl
  where
    go : (o : Order) → order_of_spans a b ≡ o → order_of_spans b a ≡ reversed o
    go Before e = (after_exactly b a v u).1 ((before_exactly a b u v).0 e)
    go Same e = let h = (same_exactly a b u v).0 e in (same_exactly b a v u).1 (sym h.0, sym h.1)
    go After e = (before_exactly b a v u).1 ((after_exactly a b u v).0 e)
    go Undecided e =
        let h = (undecided_exactly a b u v).0 e in
        (undecided_exactly b a v u).1 (h.2, λ k. h.1 (sym k.0, sym k.1), h.0)
