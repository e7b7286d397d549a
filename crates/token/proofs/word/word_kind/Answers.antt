use Rattle.token.proofs.Words as law
use Rattle.token.proofs.word.word_kind.Goals as goal

pub returns-in-2 : goal.returns-in-2
returns-in-2 c = law.spells_or _ c.in-2.is c.if-same_name.ensures

pub returns-in-3 : goal.returns-in-3
returns-in-3 c = law.spells_and _ c.in-3.is c.if-same_name-2.ensures

pub returns-in-3-2 : goal.returns-in-3-2
returns-in-3-2 c = law.spells_any _ c.in-3.is c.if-same_name-2.ensures c.if-same_name-3.ensures

pub returns-in-3-3 : goal.returns-in-3-3
returns-in-3-3 c = law.spells_not _ c.in-3.is c.if-same_name-2.ensures c.if-same_name-3.ensures c.if-same_name-4.ensures

pub returns-in-4 : goal.returns-in-4
returns-in-4 c = law.spells_like _ c.in-4.is c.if-same_name-5.ensures

pub returns-in-4-2 : goal.returns-in-4-2
returns-in-4-2 c = law.spells_null _ c.in-4.is c.if-same_name-5.ensures c.if-same_name-6.ensures

pub returns-in-4-3 : goal.returns-in-4-3
returns-in-4-3 c = law.spells_true _ c.in-4.is c.if-same_name-5.ensures c.if-same_name-6.ensures c.if-same_name-7.ensures

pub returns-in-5 : goal.returns-in-5
returns-in-5 c = law.spells_every _ c.in-5.is c.if-same_name-8.ensures

pub returns-in-5-2 : goal.returns-in-5-2
returns-in-5-2 c = law.spells_false _ c.in-5.is c.if-same_name-8.ensures c.if-same_name-9.ensures

pub returns-in_default : goal.returns-in_default
returns-in_default c = law.none_of_2 _ c.in-2.is c.if-same_name.ensures

pub returns-in_default-2 : goal.returns-in_default-2
returns-in_default-2 c = law.none_of_3 _ c.in-3.is c.if-same_name-2.ensures c.if-same_name-3.ensures c.if-same_name-4.ensures

pub returns-in_default-3 : goal.returns-in_default-3
returns-in_default-3 c = law.none_of_4 _ c.in-4.is c.if-same_name-5.ensures c.if-same_name-6.ensures c.if-same_name-7.ensures

pub returns-in_default-4 : goal.returns-in_default-4
returns-in_default-4 c = law.none_of_5 _ c.in-5.is c.if-same_name-8.ensures c.if-same_name-9.ensures

pub returns-in_default-5 : goal.returns-in_default-5
returns-in_default-5 c = law.of_none _ c.in_default.in_default-own.rest
