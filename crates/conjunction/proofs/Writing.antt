-- One law for each exit of `src/write.rt`.
use Rattle.std.specs.Prelude.{None, Option, Some}
use Prim.Native.Nat.{ℕ, ◌+◌, min, max}
use mathlib.Core.Path.{◌≡◌, refl, sym, ap, ◌∙◌, subst}
use mathlib.Core.List.{List, ◌++◌, append_assoc}
use lib.ListN.{length}
use lib.Seq.{sets}
use Rattle.base.specs.Ascii.{bytes}
use Rattle.text_writer.specs.Written.{Written}
use Rattle.text_writer.proofs.Written.{written_then, written_length}
use Rattle.token.specs.declared.Token.{Token}
use Rattle.terminal.specs.declared.operator.BoolOp.{BoolOp}
use Rattle.terminal.specs.declared.operator.BoolOp.TheVariants.{And, Or}
use Rattle.syntax.specs.Scan.{scan}
use Rattle.query_text.specs.Query.{query_start}
use Rattle.query_text.specs.Tree.{Chain, one, then}
use Rattle.conjunction.specs.declared.group.Group.{Group}
use Rattle.conjunction.specs.Groups.{group_at, text_of, terms_from, terms_of}
use Rattle.conjunction.specs.Terms.{term_at, Behind}
use Rattle.conjunction.specs.Conjunction.{chained, each, products, bracketed, term_text, text, conjunction}
use Rattle.conjunction.proofs.Reading.{term_last, term_or, term_and, splits}

-- ---- texts of chains
term_chained : (a b : Chain (List ℕ)) → term_text (chained a b) ≡ term_text a ++ (bytes " AND " ++ term_text b)
unfolding chained term_text
term_chained (one g) b = refl
term_chained (then g a) b =
    ap (λ (x : List ℕ). bracketed g ++ (bytes " AND " ++ x)) (term_chained a b)
    ∙ ap (λ (x : List ℕ). bracketed g ++ x) (sym (append_assoc (bytes " AND ") (term_text a) (bytes " AND " ++ term_text b)))
    ∙ sym (append_assoc (bracketed g) (bytes " AND " ++ term_text a) (bytes " AND " ++ term_text b))

text_chained : (a b : Chain (Chain (List ℕ))) → text (chained a b) ≡ text a ++ (bytes " OR " ++ text b)
unfolding chained text
text_chained (one t) b = refl
text_chained (then t a) b =
    ap (λ (x : List ℕ). term_text t ++ (bytes " OR " ++ x)) (text_chained a b)
    ∙ ap (λ (x : List ℕ). term_text t ++ x) (sym (append_assoc (bytes " OR ") (text a) (bytes " OR " ++ text b)))
    ∙ sym (append_assoc (term_text t) (bytes " OR " ++ text a) (bytes " OR " ++ text b))

-- ---- a text of which `rest` is still to be written: who writes that from `place` on has written all of it
pub record Writing (before : List ℕ) (at : ℕ) (whole : List ℕ) (now : List ℕ) (place : ℕ) (rest : List ℕ) : Type 0 where
  pub ends : {after : List ℕ} {next : ℕ} → Written now place rest next after → Written before at whole next after

pub writing_begins : {b x : List ℕ} {at : ℕ} → Writing b at x b at x
writing_begins = record { ends = λ w. w }

module _ {b x : List ℕ} {at : ℕ} where
  writing_on : {y z c d : List ℕ} {p r : ℕ} → Writing b at x c p (y ++ z) → Written c p y r d → Writing b at x d r z
  writing_on i w = record { ends = λ v. i.ends (written_then w v) }

  -- a part, and what joins it to the rest
  joined_on : {y z u c d e : List ℕ} {p r s : ℕ} → Writing b at x c p (y ++ (z ++ u)) → Written c p y r d → Written d r z s e → Writing b at x e s u
  joined_on i w v = writing_on (writing_on i w) v

  -- whatever has been written, the buffer keeps its length
  pub writing_same : {y z c d : List ℕ} {p r : ℕ} → Writing b at x c p y → Written c p z r d → length d ≡ length b
  writing_same {y} {z} {c} {d} {p} i w =
      let v : Written c p y (max p (min (p + length y) (length c))) (sets c p y) = record { stores = refl; ends = refl } in
      written_length w ∙ sym (written_length v) ∙ written_length (i.ends v)

-- ---- a group
pub group_written : {b c d e : List ℕ} {at p r s : ℕ} (g : List ℕ) {t : List ℕ} → Written b at (bytes "(") p c → t ≡ g → Written c p t r d → Written d r (bytes ")") s e → Written b at (bracketed g) s e
group_written {b} {c} {d} {e} {at} {p} {r} {s} g w f v u = written_then w (written_then (subst (λ (x : List ℕ). Written c p x r d) f v) u)

-- ---- a term
module _ (q : List ℕ) (first t : Token) (g : Group) {b c d : List ℕ} {at p r : ℕ} (i : Writing b at (term_text (term_at q first)) c p (term_text (term_at q t)))
    (e : g ≡ group_at q t) (w : Written c p (bracketed (text_of q g)) r d) where
  pub term_done : g.joining ≡ None → Written b at (term_text (term_at q first)) r d
  unfolding term_text
  term_done f = i.ends (subst (λ (x : Chain (List ℕ)). Written c p (term_text x) r d) (sym (term_last q t e f)) w)

  pub term_before_or : {o : BoolOp} → g.joining ≡ Some o → o ≡ Or → Written b at (term_text (term_at q first)) r d
  unfolding term_text
  term_before_or f k = i.ends (subst (λ (x : Chain (List ℕ)). Written c p (term_text x) r d) (sym (term_or q t e (f ∙ ap Some k))) w)

  pub term_goes_on : {o : BoolOp} → g.joining ≡ Some o → o ≡ And → {h : List ℕ} {s : ℕ} → Written d r (bytes " AND ") s h → Writing b at (term_text (term_at q first)) h s (term_text (term_at q g.next))
  unfolding term_text
  term_goes_on f k v = joined_on (subst (λ (x : Chain (List ℕ)). Writing b at (term_text (term_at q first)) c p (term_text x)) (term_and q t e (f ∙ ap Some k)) i) w v

-- ---- a term beside another
pub both_written : (x y : Chain (List ℕ)) {b c d e : List ℕ} {at p r s : ℕ} → Written b at (term_text x) p c → Written c p (bytes " AND ") r d → Written d r (term_text y) s e
    → Written b at (term_text (chained x y)) s e
both_written x y {b} {c} {d} {e} {at} {p} {r} {s} w v u = subst (λ (z : List ℕ). Written b at z s e) (sym (term_chained x y)) (written_then w (written_then v u))

-- ---- terms of the second query beside one of the first's
pub beside_begins : (a : Chain (List ℕ)) (p : List ℕ) {t : Token} → t ≡ (query_start (scan p)).token → {b : List ℕ} {at : ℕ}
    → Writing b at (text (each (chained a) (terms_of p))) b at (text (each (chained a) (terms_from p t)))
beside_begins a p e {b} {at} = subst (λ (x : Token). Writing b at (text (each (chained a) (terms_of p))) b at (text (each (chained a) (terms_from p x)))) (sym e) writing_begins

module _ (a : Chain (List ℕ)) (p : List ℕ) (t : Token) {b c d whole : List ℕ} {at m r : ℕ} (i : Writing b at whole c m (text (each (chained a) (terms_from p t)))) (w : Written c m (term_text (chained a (term_at p t))) r d) where
  module _ {n : Option Token} (h : Behind p t n) where
    pub beside_done : n ≡ None → Written b at whole r d
    unfolding text each
    beside_done e = i.ends (subst (λ (x : Chain (Chain (List ℕ))). Written c m (text (each (chained a) x)) r d) (sym (splits h e)) w)

    pub beside_goes_on : (u : Token) → n ≡ Some u → {f : List ℕ} {s : ℕ} → Written d r (bytes " OR ") s f → Writing b at whole f s (text (each (chained a) (terms_from p u)))
    unfolding text each
    beside_goes_on u e v = joined_on (subst (λ (x : Chain (Chain (List ℕ))). Writing b at whole c m (text (each (chained a) x))) (splits h e) i) w v

-- ---- terms of the first query, each beside the second's
pub products_begin : (q p : List ℕ) {t : Token} → t ≡ (query_start (scan q)).token → {b : List ℕ} {at : ℕ} → Writing b at (conjunction q p) b at (text (products (terms_from q t) (terms_of p)))
unfolding conjunction
products_begin q p e {b} {at} = subst (λ (x : Token). Writing b at (conjunction q p) b at (text (products (terms_from q x) (terms_of p)))) (sym e) writing_begins

module _ (q : List ℕ) (s : Chain (Chain (List ℕ))) (t : Token) {b c d whole : List ℕ} {at m r : ℕ} (i : Writing b at whole c m (text (products (terms_from q t) s))) (w : Written c m (text (each (chained (term_at q t)) s)) r d) where
  module _ {n : Option Token} (h : Behind q t n) where
    pub products_done : n ≡ None → Written b at whole r d
    unfolding products
    products_done e = i.ends (subst (λ (x : Chain (Chain (List ℕ))). Written c m (text (products x s)) r d) (sym (splits h e)) w)

    pub products_go_on : (u : Token) → n ≡ Some u → {f : List ℕ} {k : ℕ} → Written d r (bytes " OR ") k f → Writing b at whole f k (text (products (terms_from q u) s))
    unfolding products
    products_go_on u e v =
        joined_on
        (subst (λ (x : List ℕ). Writing b at whole c m x) (ap (λ (x : Chain (Chain (List ℕ))). text (products x s)) (splits h e) ∙ text_chained (each (chained (term_at q t)) s) (products (terms_from q u) s)) i)
        w v
