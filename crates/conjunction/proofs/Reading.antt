-- One law for each exit of `src/group.rt`.
use Rattle.std.specs.Prelude.{None, Option, Some}
use Prim.Native.Nat.{ℕ, ◌<◌}
use mathlib.Core.Path.{◌≡◌, refl, sym, ap, ◌∙◌, subst}
use mathlib.Core.List.{List}
use mathlib.Core.Bool.{Bool, true, false, not}
use native.Mathlib.Omega.{arith}
use borrow.Author.Tests.{not-true, not-false}
use Rattle.token.specs.declared.Token.{Token}
use Rattle.token.specs.Token.{token_after}
use Rattle.terminal.specs.declared.operator.BoolOp.{BoolOp}
use Rattle.terminal.specs.declared.operator.BoolOp.TheVariants.{And, Or}
use Rattle.terminal.specs.Terminal.{inside, joining}
use Rattle.syntax.specs.Scan.{scan}
use Rattle.query_text.specs.declared.query.QueryStart.{QueryStart}
use Rattle.query_text.specs.Query.{query_start}
use Rattle.query_text.specs.Tree.{Chain, one, then, front}
use Rattle.conjunction.specs.declared.group.Group.{Group}
use Rattle.conjunction.specs.Groups.{last, group_at, text_of, follow, terms_from}
use Rattle.conjunction.specs.Terms.{head, term_at, before, Behind}
use Rattle.conjunction.proofs.Walk.{left, inside_moves, last_stop, last_next, group_moves, terms_next}

-- ---- the last token of a group
module _ (q : List ℕ) (first t : Token) (i : last q first ≡ last q t) {u : Token} (e : u ≡ token_after q t) {b : Bool} (f : b ≡ inside u.kind) where
  next_is : {c : Bool} → b ≡ c → inside (token_after q t).kind ≡ c
  next_is h = ap (λ (x : Token). inside x.kind) (sym e) ∙ sym f ∙ h

  pub last_here : not b ≡ true → t ≡ last q first
  last_here h = sym (i ∙ last_stop q t (next_is (not-true b h)))

  pub last_further : not b ≡ false → last q first ≡ last q u
  last_further h = i ∙ last_next q t (next_is (not-false b h)) ∙ ap (last q) (sym e)

  pub last_nearer : not b ≡ false → left q u < left q t
  last_nearer h = subst (λ (x : Token). left q x < left q t) (sym e) (inside_moves q t (next_is (not-false b h)))

pub started : (q : List ℕ) {s : QueryStart} → s ≡ query_start (scan q) → s.token ≡ (query_start (scan q)).token
started q e = ap (λ (x : QueryStart). x.token) e

pub group_made : (q : List ℕ) (t : Token) {l c b o n : Token} {j : Option BoolOp} → l ≡ last q t → c ≡ token_after q l → b ≡ token_after q c → o ≡ token_after q b → j ≡ joining b → n ≡ token_after q o
    → record { text = record { start = t.start; end = l.end }; joining = j; next = n } ≡ group_at q t
unfolding group_at
group_made q t el ec eb eo ej en = rw (en, eo, ej, eb, ec, el) refl

-- ---- a term, and the one behind it
head_front : {A : Type 0} (a : A) (r : Chain (Chain A)) → head (front (then a) r) ≡ then a (head r)
unfolding front head
head_front a (one b) = refl
head_front a (then b r) = refl

front_before : (q : List ℕ) (g : List ℕ) (a : Chain (List ℕ)) (r : Option Token) → front (then g) (before q a r) ≡ before q (then g a) r
unfolding front
front_before q g a None = refl
front_before q g a (Some t) = refl

no_term : {A : Type 0} {t : Token} → None ≡ Some t → A
no_term e = let z : ◌≡◌ {A = ℕ} 0 1 = cc in absurd (omega arith)

term_same : {t u : Token} → Some t ≡ Some u → t ≡ u
term_same e = cc

module _ (q : List ℕ) (t : Token) {g : Group} (e : g ≡ group_at q t) where
  followed : {j : Option BoolOp} → g.joining ≡ j → terms_from q t ≡ follow (text_of q g) j (terms_from q g.next)
  followed f = terms_next q t ∙ ap (λ (x : Group). follow (text_of q x) x.joining (terms_from q x.next)) (sym e) ∙ ap (λ (x : Option BoolOp). follow (text_of q g) x (terms_from q g.next)) f

  terms_last : g.joining ≡ None → terms_from q t ≡ one (one (text_of q g))
  unfolding follow
  terms_last f = followed f

  terms_or : g.joining ≡ Some Or → terms_from q t ≡ then (one (text_of q g)) (terms_from q g.next)
  unfolding follow
  terms_or f = followed f

  terms_and : g.joining ≡ Some And → terms_from q t ≡ front (then (text_of q g)) (terms_from q g.next)
  unfolding follow
  terms_and f = followed f

  pub term_last : g.joining ≡ None → term_at q t ≡ one (text_of q g)
  unfolding head
  term_last f = ap head (terms_last f)

  pub term_or : g.joining ≡ Some Or → term_at q t ≡ one (text_of q g)
  unfolding head
  term_or f = ap head (terms_or f)

  pub term_and : g.joining ≡ Some And → term_at q t ≡ then (text_of q g) (term_at q g.next)
  term_and f = ap head (terms_and f) ∙ head_front (text_of q g) (terms_from q g.next)

  pub group_nearer : {o : BoolOp} → g.joining ≡ Some o → left q g.next < left q t
  group_nearer {o} f = subst (λ (x : Group). left q x.next < left q t) (sym e) (group_moves q t o (ap (λ (x : Group). x.joining) (sym e) ∙ f))

  behind_last : g.joining ≡ None → Behind q t None
  behind_last f = record { joins = terms_last f ∙ ap one (sym (term_last f)); nearer = λ u k. no_term k }

  behind_or : g.joining ≡ Some Or → Behind q t (Some g.next)
  behind_or f =
      record {
        joins = terms_or f ∙ ap (λ (x : Chain (List ℕ)). then x (terms_from q g.next)) (sym (term_or f));
        nearer = λ u k. subst (λ (x : Token). left q x < left q t) (term_same k) (group_nearer f);
      }

  behind_and : g.joining ≡ Some And → {r : Option Token} → Behind q g.next r → Behind q t r
  behind_and f {r} b =
      record {
        joins = terms_and f ∙ ap (front (then (text_of q g))) b.joins ∙ front_before q (text_of q g) (term_at q g.next) r ∙ ap (λ (x : Chain (List ℕ)). before q x r) (sym (term_and f));
        nearer = λ u k. let m = b.nearer u k in let n = group_nearer f in omega (arith, m, n);
      }

-- the search for the term behind `first`, come to `t`: what is behind `t` is behind `first`
pub record Searching (q : List ℕ) (first t : Token) : Type 0 where
  pub whole : (r : Option Token) → Behind q t r → Behind q first r

pub search_begins : {q : List ℕ} {t : Token} → Searching q t t
search_begins = record { whole = λ r b. b }

module _ {q : List ℕ} {first t : Token} {g : Group} (i : Searching q first t) (e : g ≡ group_at q t) where
  pub found_none : g.joining ≡ None → Behind q first None
  found_none f = i.whole None (behind_last q t e f)

  module _ {o : BoolOp} (f : g.joining ≡ Some o) where
    pub found_term : o ≡ Or → Behind q first (Some g.next)
    found_term h = i.whole (Some g.next) (behind_or q t e (f ∙ ap Some h))

    pub search_on : o ≡ And → Searching q first g.next
    search_on h = record { whole = λ r b. i.whole r (behind_and q t e (f ∙ ap Some h) b) }

    pub search_nearer : left q g.next < left q t
    search_nearer = group_nearer q t e f

-- ---- as its callers use it
pub splits : {q : List ℕ} {t : Token} {r s : Option Token} → Behind q t r → r ≡ s → terms_from q t ≡ before q (term_at q t) s
splits {q} {t} b e = b.joins ∙ ap (before q (term_at q t)) e

pub term_nearer : {q : List ℕ} {t u : Token} {r : Option Token} → Behind q t r → r ≡ Some u → left q u < left q t
term_nearer {u = u} b e = b.nearer u e
