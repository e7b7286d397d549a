use native.Mathlib.Omega.{arith}
use Rattle.conjunction.proofs.Counting as law
use borrow.Author.Rules.{rules}
use Rattle.conjunction.proofs.size.comparisons_of.Goals as goal

pub overflow_mul-result : goal.overflow_mul-result
overflow_mul-result c = let m = law.product_bounded _ _ c.count_terms.ensures c.count_comparisons.ensures c.requires.1 in omega arith

pub overflow_mul-result-2 : goal.overflow_mul-result-2
overflow_mul-result-2 c = let m = law.product_bounded _ _ c.count_terms-2.ensures c.count_comparisons-2.ensures c.requires.0 in omega arith

pub overflow_add-result : goal.overflow_add-result
overflow_add-result c = let m = law.product_bounded _ _ c.count_terms.ensures c.count_comparisons.ensures c.requires.1 in
    let n = law.product_bounded _ _ c.count_terms-2.ensures c.count_comparisons-2.ensures c.requires.0 in omega arith

pub returns : goal.returns
returns c = search law.products_added
