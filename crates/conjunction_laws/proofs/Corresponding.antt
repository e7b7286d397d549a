-- A group's comparisons in a text in which the group stands elsewhere: they correspond one by one.
use Rattle.std.specs.Prelude.{Err, Ok, Result}
use Prim.Native.Nat.{suc}
use mathlib.Core.Path.{◌≡◌, refl, sym, ap, ◌∙◌}
use Rattle.token.specs.declared.Token.{Token}
use Rattle.terminal.proofs.Inside.{joins_inside}
use Rattle.syntax.specs.declared.comparison.Comparison.{Comparison}
use Rattle.syntax.specs.Scan.{Scan}
use Rattle.syntax.specs.Comparison.{property_comp}
use Rattle.syntax.proofs.Simulation as pairs
use Rattle.syntax.proofs.Room.{Roomy}
use Rattle.syntax.proofs.Simulation.{Simulates, ComparisonResults, comparison_alike, joining_still, has}
use Rattle.query_text.specs.declared.join.Join.{Join}
use Rattle.query_text.specs.declared.join.Join.TheVariants.{Inner}
use Rattle.query_text.specs.Query.{Comparisons, only, more}
use Rattle.conjunction.specs.Conjunction.{size}
use Rattle.conjunction_laws.proofs.Segments.{Segment, ends, goes}
use Rattle.syntax.specs.declared.fault.Fault.{Fault}

-- ---- lists of comparisons that correspond
pub data Lists (P : Comparison → Comparison → Type 0) : Comparisons → Comparisons → Type 0 where
  both_only : {c d : Comparison} → P c d → Lists P (only c) (only d)
  both_more : {c d : Comparison} {l m : Comparisons} {j : Join} → P c d → Lists P l m → Lists P (more c j l) (more d j m)

pub same_size : {P : Comparison → Comparison → Type 0} {l m : Comparisons} → Lists P l m → size l ≡ size m
unfolding size
same_size (both_only h) = refl
same_size (both_more h k) = ap suc (same_size k)

module _ {s z : Scan} {R : Token → Token → Type 0} (S : Simulates s z R) (enough : Roomy s) (other-enough : Roomy z) where
  pub record Found (l : Comparisons) (w y : Token) : Type 0 where
    pub list : Comparisons
    pub closing : Token
    pub segment : Segment z y list closing
    pub lists : Lists (pairs.Comparisons s z R) l list
    pub closings : R w closing

  record Read-there (c : Comparison) (m y : Token) : Type 0 where
    pub other : Comparison
    pub after : Token
    pub reads : property_comp z y ≡ Ok (other, after)
    pub corresponds : pairs.Comparisons s z R c other
    pub afters : R m after

  read_there : (c : Comparison) (m y : Token) (b : Result (Comparison × Token) Fault) → property_comp z y ≡ b → ComparisonResults s z R (Ok (c, m)) b → Read-there c m y
  read_there c m y (Ok (d, n)) e (has h k) = record { other = d; after = n; reads = e; corresponds = h; afters = k }
  read_there c m y (Err _) e h = elim h [ ]

  there : {x y m : Token} {c : Comparison} → R x y → property_comp s x ≡ Ok (c, m) → Read-there c m y
  there {x} {y} {m} {c} r e = read_there c m y (property_comp z y) refl (rw e at (comparison_alike S enough other-enough r))

  pub found : {x w : Token} {l : Comparisons} → Segment s x l w → {y : Token} → R x y → Found l w y
  found (ends {t = x} {w = w} {c = c} e f) {y} r =
      let k = there r e in
      record { list = only k.other; closing = k.after; segment = ends k.reads (sym (joining_still S.tests k.afters) ∙ f); lists = both_only k.corresponds; closings = k.afters }
  found (goes {t = x} {m = m} {c = c} {o = o} e f h) {y} r =
      let k = there r e in
      let g = found h (S.steps m k.after k.afters (joins_inside m o f)) in
      record {
        list = more k.other (Inner o) g.list;
        closing = g.closing;
        segment = goes k.reads (sym (joining_still S.tests k.afters) ∙ f) g.segment;
        lists = both_more k.corresponds g.lists;
        closings = g.closings;
      }
