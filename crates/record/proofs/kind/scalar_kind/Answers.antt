use Rattle.record.specs.Kind.{integer_kind, scalar_kind}
use Rattle.record.proofs.Numbers as law
use Rattle.record.proofs.kind.scalar_kind.Goals as goal

pub returns-in-1 : goal.returns-in-1
unfolding integer_kind scalar_kind
returns-in-1 c = rw c.in-1.is c.scalar.ensures

pub returns-in-4 : goal.returns-in-4
unfolding integer_kind scalar_kind
returns-in-4 c = rw c.in-4.is c.scalar-in-4.ensures

pub returns-in-5 : goal.returns-in-5
unfolding integer_kind scalar_kind
returns-in-5 c = rw c.in-5.is c.scalar-in-5.ensures

pub returns-in-6 : goal.returns-in-6
unfolding integer_kind scalar_kind
returns-in-6 c = rw c.in-6.is c.scalar-in-6.ensures

pub returns-in-7 : goal.returns-in-7
unfolding integer_kind scalar_kind
returns-in-7 c = rw c.in-7.is c.scalar-in-7.ensures

pub returns-in-8 : goal.returns-in-8
unfolding integer_kind scalar_kind
returns-in-8 c = rw c.in-8.is c.scalar-in-8.ensures

pub returns-in-9 : goal.returns-in-9
unfolding integer_kind scalar_kind
returns-in-9 c = rw c.in-9.is c.scalar-in-9.ensures

pub returns-in-10 : goal.returns-in-10
unfolding integer_kind scalar_kind
returns-in-10 c = rw c.in-10.is c.scalar-in-10.ensures

pub returns-in-17 : goal.returns-in-17
unfolding integer_kind scalar_kind
returns-in-17 c = rw c.in-17.is c.scalar-in-17.ensures

pub returns-in-18 : goal.returns-in-18
unfolding integer_kind scalar_kind
returns-in-18 c = rw c.in-18.is c.scalar-in-18.ensures

pub returns-in-20 : goal.returns-in-20
unfolding integer_kind scalar_kind
returns-in-20 c = rw c.in-20.is c.scalar-in-20.ensures

pub returns-in-24 : goal.returns-in-24
unfolding integer_kind scalar_kind
returns-in-24 c = rw c.in-24.is c.scalar-in-24.ensures

pub returns-in-33 : goal.returns-in-33
unfolding integer_kind scalar_kind
returns-in-33 c = rw c.in-33.is c.scalar-in-33.ensures

pub returns-in-34 : goal.returns-in-34
unfolding integer_kind scalar_kind
returns-in-34 c = rw c.in-34.is c.scalar-in-34.ensures

pub returns-in-36 : goal.returns-in-36
unfolding integer_kind scalar_kind
returns-in-36 c = rw c.in-36.is c.scalar-in-36.ensures

pub returns-in-40 : goal.returns-in-40
unfolding integer_kind scalar_kind
returns-in-40 c = rw c.in-40.is c.scalar-in-40.ensures

pub returns-in_default : goal.returns-in_default
returns-in_default c = law.unknown_number _ c.in_default.in_default-own.rest
