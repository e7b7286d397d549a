use borrow.Author.Rules.{sfits_of}
use Rattle.datetime.proofs.Ordering as law
use Rattle.datetime.proofs.order.order_of_spans.Goals as goal

pub returns-then-a-b : goal.returns-then-a-b
returns-then-a-b c = law.spans_before c.args.a c.args.b (sfits_of c.struct_told-1.given.0.1, sfits_of c.struct_told-1.given.1.0.1) (sfits_of c.struct_told-2-1.given.0.1, sfits_of c.struct_told-2-1.given.1.0.1) c.if-a-b.true

pub returns-then-b-a : goal.returns-then-b-a
returns-then-b-a c = law.spans_after c.args.a c.args.b (sfits_of c.struct_told-1.given.0.1, sfits_of c.struct_told-1.given.1.0.1) (sfits_of c.struct_told-2-1.given.0.1, sfits_of c.struct_told-2-1.given.1.0.1) c.if-a-b.false c.if-b-a.true

pub returns-then-eq : goal.returns-then-eq
returns-then-eq c = law.spans_same c.args.a c.args.b (sfits_of c.struct_told-1.given.0.1, sfits_of c.struct_told-1.given.1.0.1) (sfits_of c.struct_told-2-1.given.0.1, sfits_of c.struct_told-2-1.given.1.0.1) c.if-a-b.false c.if-b-a.false c.eq.ensures c.if-eq.true

pub returns : goal.returns
returns c = law.spans_undecided c.args.a c.args.b (sfits_of c.struct_told-1.given.0.1, sfits_of c.struct_told-1.given.1.0.1) (sfits_of c.struct_told-2-1.given.0.1, sfits_of c.struct_told-2-1.given.1.0.1) c.if-a-b.false c.if-b-a.false c.eq.ensures c.if-eq.false
