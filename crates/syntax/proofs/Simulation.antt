-- The readers of a comparison over two texts whose tokens correspond: what is read in one corresponds to what is read in the other and ends at corresponding tokens, and what is
-- refused in one is refused in the other at corresponding tokens. A comparison has no token ")", and none at the end or where nothing stands: at such tokens the texts may differ.
-- They may also correspond only up to a place: then nothing is said where the first reading gets past it.
use Rattle.std.specs.Prelude.{Err, None, Ok, Option, Result, Some}
use Prim.Native.Nat.{ℕ, zero, suc, ◌+◌}
use mathlib.Core.Path.{◌≡◌, refl, sym, ap, ◌∙◌, subst}
use mathlib.Core.Logic.{◌⊎◌, inl, inr}
use mathlib.Core.Bool.{Bool, true, false, not, ◌&&◌, false≢true}
use native.Mathlib.Omega.{arith}
use lib.Dec.{eqb}
use Rattle.base.specs.Pick.{pick}
use Rattle.base.specs.declared.order.Operator.{Operator}
use Rattle.token.specs.declared.Reserved.TheVariants as Reserved
use Rattle.token.specs.declared.Punctuation.TheVariants.{Close, OpenIndex, CloseIndex, OpenList, CloseList, Comma, Dot}
use Rattle.token.specs.declared.TokenKind.{TokenKind}
use Rattle.token.specs.declared.TokenKind.TheVariants.{End, NoToken, Name, Word, Text, Symbol}
use Rattle.token.specs.declared.Token.{Token}
use Rattle.terminal.specs.declared.quantifier.Quantifier.{Quantifier}
use Rattle.terminal.specs.Terminal.{same, code, word, word_kind, literal, literal_kind, comparing, comparing_kind, joining, quantifying, equality, inside}
use Rattle.terminal.proofs.KindCodes.{kind_is}
use Rattle.terminal.proofs.Inside.{outside_cases, outside_other}
use Rattle.syntax.specs.declared.path.Path.{Path}
use Rattle.syntax.specs.declared.operation.Operation.{Operation}
use Rattle.syntax.specs.declared.operation.Operation.TheVariants.{Compare, Like, NotLike}
use Rattle.syntax.specs.declared.left_side.LeftSide.{LeftSide}
use Rattle.syntax.specs.declared.right_side.RightSide.{RightSide}
use Rattle.syntax.specs.declared.right_side.RightSide.TheVariants.{Literal, Elements, Property, Pattern}
use Rattle.syntax.specs.declared.comparison.Comparison.{Comparison}
use Rattle.syntax.specs.declared.fault.Cause.{Cause}
use Rattle.syntax.specs.declared.fault.Cause.TheVariants.{Grammar, Limit}
use Rattle.syntax.specs.Scan.{Scan, fault, limited, skip}
use Rattle.syntax.specs.Property.{first_name, one_more, dotted, property, close_index, index_number, indexed, with_index, with_path, reference}
use Rattle.syntax.specs.Comparison.{single, plain, left_of, left_by, left_at, left_side, not_like, like, operation_by, operation, elements, list_from, array_literal, operand_of, operand, pattern, right_side, comp_of, comp_operation, comp_left, property_comp}
use Rattle.syntax.proofs.Room.{up, up_adds, Roomy, room}
use Rattle.syntax.proofs.Onward.{path_place, index_place, reference_place, left_place, operation_place, right_place, comparison_place, after_dot, after_element, Onward, dots_on, after_dot_on, property_on, close_on, number_on, indexed_on, with_index_on, with_path_on, left_of_on, left_at_on, left_on, not_like_on, operation_on, elements_on, after_element_on, list_on, operand_of_on, operand_on, pattern_on, comp_of_on, comp_operation_on, comp_left_on}
use Rattle.syntax.specs.declared.fault.Fault.{Fault}

-- ---- two readings whose tokens correspond
-- what a reader can ask of a token has the same answer for both
pub record Tests (s z : Scan) (R : Token → Token → Type 0) : Type 0 where
  pub kinds : (t u : Token) → R t u → inside t.kind ≡ true → t.kind ≡ u.kind
  pub ends : (t u : Token) → R t u → inside t.kind ≡ false → inside u.kind ≡ false
  pub numbers : (t u : Token) → R t u → inside t.kind ≡ true → s.unsigned t ≡ z.unsigned u
  pub outer : (t u : Token) → R t u → inside t.kind ≡ false → (s.unsigned t ≡ false) × (z.unsigned u ≡ false)

-- and the tokens behind them correspond
pub record Simulates (s z : Scan) (R : Token → Token → Type 0) : Type 0 where
  pub tests : Tests s z R
  pub steps : (t u : Token) → R t u → inside t.kind ≡ true → R (s.next t) (z.next u)

-- up to a place in the first; `Past` holds of what stands behind it
pub record SimulatesTo (s z : Scan) (R : Token → Token → Type 0) (Past : ℕ → Type 0) : Type 0 where
  pub tests : Tests s z R
  pub steps : (t u : Token) → R t u → inside t.kind ≡ true → R (s.next t) (z.next u) ⊎ Past (s.next t).start
  pub onward : Onward s Past

module _ (s z : Scan) (R : Token → Token → Type 0) where
  -- corresponding tokens of a comparison
  pub record Both (t u : Token) : Type 0 where
    pub are : R t u
    pub within : inside t.kind ≡ true

  -- ---- corresponding parts: built alike from corresponding tokens
  pub data Paths : Path → Path → Type 0 where
    one_name : {t u : Token} → Both t u → Paths (first_name t) (first_name u)
    more_names : {p o : Path} {t u : Token} → Paths p o → Both t u → Paths (one_more p t) (one_more o u)

  pub data Indices : Option Token → Option Token → Type 0 where
    no_index : Indices None None
    an_index : {t u : Token} → Both t u → Indices (Some t) (Some u)

  pub record Lefts (a b : LeftSide) : Type 0 where
    pub negations : a.negated ≡ b.negated
    pub quantifiers : a.quantifier ≡ b.quantifier
    pub paths : Paths a.path b.path
    pub indices : Indices a.index b.index

  -- so many elements of an array literal from the first on, each with a comma or the brace after it, and what stands behind these
  pub data ElementsOf (f g : Token) : ℕ → Token → Token → Type 0 where
    none_yet : ElementsOf f g 0 f g
    one_more_law : {n : ℕ} {t u : Token} → ElementsOf f g n t u → Both t u → ElementsOf f g (n + 1) (s.next (s.next t)) (z.next (z.next u))

  pub data Rights : RightSide → RightSide → Type 0 where
    literals : {t u : Token} → Both t u → Rights (Literal t) (Literal u)
    lists : {t u v w : Token} {n e d : ℕ} → Both t u → ElementsOf (s.next t) (z.next u) n v w → Rights (Elements t.start n e) (Elements u.start n d)
    properties : {p o : Path} {i j : Option Token} → Paths p o → Indices i j → Rights (Property p i) (Property o j)
    patterns : {t u : Token} → Both t u → t.kind ≡ Text → Rights (Pattern t) (Pattern u)

  pub record Comparisons (c d : Comparison) : Type 0 where
    pub lefts : Lefts c.left d.left
    pub operations : c.operation ≡ d.operation
    pub rights : Rights c.right d.right

  pub data ComparisonResults : Result (Comparison × Token) Fault → Result (Comparison × Token) Fault → Type 0 where
    has : {c d : Comparison} {t u : Token} → Comparisons c d → R t u → ComparisonResults (Ok (c, t)) (Ok (d, u))
    no : (c : Cause) (t u : Token) → R t u → ComparisonResults (Err (fault c t.start)) (Err (fault c u.start))

-- ---- what two readers say, unless the first has got past the place
module _ (s z : Scan) (R : Token → Token → Type 0) (Past : ℕ → Type 0) where
  -- corresponding tokens, or one that is past
  abbrev pub Meets : Token → Token → Type 0
  Meets t u = R t u ⊎ Past t.start

  data PathOutcomes : Result (Path × Token) ℕ → Result (Path × Token) ℕ → Type 0 where
    has : {p o : Path} {t u : Token} → Paths s z R p o → Meets t u → PathOutcomes (Ok (p, t)) (Ok (o, u))
    no : (t u : Token) → R t u → PathOutcomes (Err t.start) (Err u.start)
    past : {x y : Result (Path × Token) ℕ} → Past (path_place x) → PathOutcomes x y

  data IndexOutcomes : Result (Option Token × Token) ℕ → Result (Option Token × Token) ℕ → Type 0 where
    has : {i j : Option Token} {t u : Token} → Indices s z R i j → Meets t u → IndexOutcomes (Ok (i, t)) (Ok (j, u))
    no : (t u : Token) → R t u → IndexOutcomes (Err t.start) (Err u.start)
    past : {x y : Result (Option Token × Token) ℕ} → Past (index_place x) → IndexOutcomes x y

  data ReferenceOutcomes : Result (Path × Option Token × Token) ℕ → Result (Path × Option Token × Token) ℕ → Type 0 where
    has : {p o : Path} {i j : Option Token} {t u : Token} → Paths s z R p o → Indices s z R i j → Meets t u → ReferenceOutcomes (Ok (p, i, t)) (Ok (o, j, u))
    no : (t u : Token) → R t u → ReferenceOutcomes (Err t.start) (Err u.start)
    past : {x y : Result (Path × Option Token × Token) ℕ} → Past (reference_place x) → ReferenceOutcomes x y

  data LeftOutcomes : Result (LeftSide × Token) ℕ → Result (LeftSide × Token) ℕ → Type 0 where
    has : {a b : LeftSide} {t u : Token} → Lefts s z R a b → Meets t u → LeftOutcomes (Ok (a, t)) (Ok (b, u))
    no : (t u : Token) → R t u → LeftOutcomes (Err t.start) (Err u.start)
    past : {x y : Result (LeftSide × Token) ℕ} → Past (left_place x) → LeftOutcomes x y

  data OperationOutcomes : Result (Operation × Token) ℕ → Result (Operation × Token) ℕ → Type 0 where
    has : {v w : Operation} {t u : Token} → v ≡ w → Meets t u → OperationOutcomes (Ok (v, t)) (Ok (w, u))
    no : (t u : Token) → R t u → OperationOutcomes (Err t.start) (Err u.start)
    past : {x y : Result (Operation × Token) ℕ} → Past (operation_place x) → OperationOutcomes x y

  data RightOutcomes : Result (RightSide × Token) Fault → Result (RightSide × Token) Fault → Type 0 where
    has : {a b : RightSide} {t u : Token} → Rights s z R a b → Meets t u → RightOutcomes (Ok (a, t)) (Ok (b, u))
    no : (c : Cause) (t u : Token) → R t u → RightOutcomes (Err (fault c t.start)) (Err (fault c u.start))
    past : {x y : Result (RightSide × Token) Fault} → Past (right_place x) → RightOutcomes x y

  pub data ComparisonOutcomes : Result (Comparison × Token) Fault → Result (Comparison × Token) Fault → Type 0 where
    has : {c d : Comparison} {t u : Token} → Comparisons s z R c d → Meets t u → ComparisonOutcomes (Ok (c, t)) (Ok (d, u))
    no : (c : Cause) (t u : Token) → R t u → ComparisonOutcomes (Err (fault c t.start)) (Err (fault c u.start))
    past : {x y : Result (Comparison × Token) Fault} → Past (comparison_place x) → ComparisonOutcomes x y

module _ {s z : Scan} {R : Token → Token → Type 0} (T : Tests s z R) where
  -- ---- tests of corresponding tokens
  module _ {t u : Token} (r : R t u) where
    by_kind : {B : Type 0} (f : TokenKind → B) (b : B) → f End ≡ b → f NoToken ≡ b → f (Symbol Close) ≡ b → f t.kind ≡ f u.kind
    by_kind {B} f b x y w = go (inside t.kind) refl
      where
        go : (c : Bool) → inside t.kind ≡ c → f t.kind ≡ f u.kind
        go true e = ap f (T.kinds t u r e)
        go false e =
            outside_cases (λ (k : TokenKind). f k ≡ b) x y w t.kind e ∙ sym (outside_cases (λ (k : TokenKind). f k ≡ b) x y w u.kind (T.ends t u r e))

    same_still : (k : TokenKind) → inside k ≡ true → same t k ≡ same u k
    unfolding same
    same_still k h = go (inside t.kind) refl
      where
        go : (c : Bool) → inside t.kind ≡ c → same t k ≡ same u k
        go true e = ap (λ (x : TokenKind). eqb (code x) (code k)) (T.kinds t u r e)
        go false e = outside_other t k h e ∙ sym (outside_other u k h (T.ends t u r e))

    word_still : word t ≡ word u
    unfolding word
    word_still = by_kind word_kind false refl refl refl

    literal_still : literal t ≡ literal u
    unfolding literal
    literal_still = by_kind literal_kind false refl refl refl

    comparing_still : comparing t ≡ comparing u
    unfolding comparing
    comparing_still = by_kind comparing_kind None refl refl refl

    quantifying_still : quantifying t ≡ quantifying u
    unfolding quantifying
    quantifying_still = rw (same_still (Word Reserved.Any) refl, same_still (Word Reserved.Every) refl) refl

    pub joining_still : joining t ≡ joining u
    unfolding joining
    joining_still = rw (same_still (Word Reserved.And) refl, same_still (Word Reserved.Or) refl) refl

    unsigned_still : s.unsigned t ≡ z.unsigned u
    unsigned_still = go (inside t.kind) refl
      where
        go : (c : Bool) → inside t.kind ≡ c → s.unsigned t ≡ z.unsigned u
        go true e = T.numbers t u r e
        go false e = let o = T.outer t u r e in o.0 ∙ sym o.1

    -- a token that passes a test is one of a comparison
    passed : (f : TokenKind → Bool) → f End ≡ false → f NoToken ≡ false → f (Symbol Close) ≡ false → f u.kind ≡ true → inside t.kind ≡ true
    passed f x y w h = go (inside t.kind) refl
      where
        go : (c : Bool) → inside t.kind ≡ c → c ≡ true
        go true e = refl
        go false e = absurd (false≢true (sym (outside_cases (λ (k : TokenKind). f k ≡ false) x y w u.kind (T.ends t u r e)) ∙ h))

    both_by : (f : TokenKind → Bool) → f End ≡ false → f NoToken ≡ false → f (Symbol Close) ≡ false → f u.kind ≡ true → Both s z R t u
    both_by f x y w h = record { are = r; within = passed f x y w h }

    pub both_same : (k : TokenKind) → inside k ≡ true → same u k ≡ true → Both s z R t u
    both_same k i h = both_by inside refl refl refl (ap inside (kind_is u k h) ∙ i)

module _ {s z : Scan} {R : Token → Token → Type 0} {Past : ℕ → Type 0} (S : SimulatesTo s z R Past) where
  abbrev T : Tests s z R
  T = S.tests

  abbrev O : Onward s Past
  O = S.onward

  next_by_law : {t u : Token} → Both s z R t u → Meets s z R Past (s.next t) (z.next u)
  next_by_law {t} {u} b = S.steps t u b.are b.within

  -- ---- names
  abbrev MoreNames : ℕ → Token → Token → Type 0
  MoreNames n t u = (p o : Path) → Paths s z R p o → Meets s z R Past t u → PathOutcomes s z R Past (dotted n s p t) (dotted n z o u)

  dots_alike : (n : ℕ) {p o : Path} → Paths s z R p o → {t u : Token} → Meets s z R Past t u → PathOutcomes s z R Past (dotted n s p t) (dotted n z o u)
  unfolding dotted word
  dots_alike zero h m = has h m
  dots_alike (suc n) {p} {o} h {t} {u} (inr f) = past (dots_on O (suc n) p t f)
  dots_alike (suc n) {p} {o} h {t} {u} (inl r) = rw (same_still T r (Symbol Dot) refl, dotted) (go (same u (Symbol Dot)) refl (λ x y i k. dots_alike n i k))
    where
      named : R (s.next t) (z.next u) → (c : Bool) → word (z.next u) ≡ c → MoreNames n (s.next (s.next t)) (z.next (z.next u)) → PathOutcomes s z R Past (after_dot n s p t c) (after_dot n z o u c)
      named w true e k = let b = both_by T w word_kind refl refl refl e in k (one_more p (s.next t)) (one_more o (z.next u)) (more_names h b) (next_by_law b)
      named w false e k = no (s.next t) (z.next u) w

      second : Meets s z R Past (s.next t) (z.next u) → MoreNames n (s.next (s.next t)) (z.next (z.next u)) → PathOutcomes s z R Past (after_dot n s p t (word (s.next t))) (after_dot n z o u (word (z.next u)))
      second (inr f) k = past (after_dot_on O n p t (word (s.next t)) f)
      second (inl w) k = rw (word_still T w) (named w (word (z.next u)) refl k)

      go : (c : Bool) → same u (Symbol Dot) ≡ c → MoreNames n (s.next (s.next t)) (z.next (z.next u))
          → PathOutcomes s z R Past (elim c [ true ↦ after_dot n s p t (word (s.next t)) | false ↦ Ok (p, t) ]) (elim c [ true ↦ after_dot n z o u (word (z.next u)) | false ↦ Ok (o, u) ])
      go true e k = second (next_by_law (both_same T r (Symbol Dot) refl e)) k
      go false e k = has h (inl r)

  module _ (enough : Roomy s) (other-enough : Roomy z) where
    -- each definition allows as many names as it likes, if they are enough
    sized_alike : {p o : Path} → Paths s z R p o → {t u : Token} → Meets s z R Past t u → PathOutcomes s z R Past (dotted s.size s p t) (dotted z.size z o u)
    sized_alike {p} {o} h {t} {u} m =
        subst (λ (x : Result (Path × Token) ℕ). PathOutcomes s z R Past x (dotted z.size z o u)) (room s enough z.size p t)
        (subst (λ (x : Result (Path × Token) ℕ). PathOutcomes s z R Past (dotted (up z.size s.size) s p t) x) (ap (λ (n : ℕ). dotted n z o u) swapped ∙ room z other-enough s.size o u)
        (dots_alike (up z.size s.size) h m))
      where
        swapped : up z.size s.size ≡ up s.size z.size
        swapped = omega (arith, up_adds z.size s.size, up_adds s.size z.size)

    property_alike : {t u : Token} → Meets s z R Past t u → PathOutcomes s z R Past (property s t) (property z u)
    unfolding property
    property_alike {t} {u} (inr f) = past (property_on O t f)
    property_alike {t} {u} (inl r) = rw (same_still T r Name refl) (go (same u Name) refl)
      where
        go : (c : Bool) → same u Name ≡ c
            → PathOutcomes s z R Past (pick c (dotted s.size s (first_name t) (s.next t)) (Err t.start)) (pick c (dotted z.size z (first_name u) (z.next u)) (Err u.start))
        go true e = let b = both_same T r Name refl e in sized_alike (one_name b) (next_by_law b)
        go false e = no t u r

    close_alike : {t u v w : Token} → Both s z R t u → Meets s z R Past v w → IndexOutcomes s z R Past (close_index s t v) (close_index z u w)
    unfolding close_index
    close_alike {t} {u} {v} {w} b (inr f) = past (close_on O t v f)
    close_alike {t} {u} {v} {w} b (inl r) = rw (same_still T r (Symbol CloseIndex) refl) (go (same w (Symbol CloseIndex)) refl)
      where
        go : (c : Bool) → same w (Symbol CloseIndex) ≡ c → IndexOutcomes s z R Past (pick c (Ok (Some t, s.next v)) (Err v.start)) (pick c (Ok (Some u, z.next w)) (Err w.start))
        go true e = has (an_index b) (next_by_law (both_same T r (Symbol CloseIndex) refl e))
        go false e = no v w r

    number_alike : {t u : Token} → Meets s z R Past t u → IndexOutcomes s z R Past (index_number s t) (index_number z u)
    unfolding index_number
    number_alike {t} {u} (inr f) = past (number_on O t f)
    number_alike {t} {u} (inl r) = rw (unsigned_still T r) (go (z.unsigned u) refl)
      where
        within : z.unsigned u ≡ true → (c : Bool) → inside t.kind ≡ c → c ≡ true
        within e true h = refl
        within e false h = absurd (false≢true (sym (T.outer t u r h).1 ∙ e))

        go : (c : Bool) → z.unsigned u ≡ c → IndexOutcomes s z R Past (pick c (close_index s t (s.next t)) (Err t.start)) (pick c (close_index z u (z.next u)) (Err u.start))
        go true e = let b : Both s z R t u = record { are = r; within = within e (inside t.kind) refl } in close_alike b (next_by_law b)
        go false e = no t u r

    index_alike : (allowed : Bool) {t u : Token} → Meets s z R Past t u → IndexOutcomes s z R Past (indexed s allowed t) (indexed z allowed u)
    unfolding indexed
    index_alike allowed {t} {u} (inr f) = past (indexed_on O allowed t f)
    index_alike allowed {t} {u} (inl r) = rw (same_still T r (Symbol OpenIndex) refl) (go allowed (same u (Symbol OpenIndex)) refl)
      where
        go : (a c : Bool) → same u (Symbol OpenIndex) ≡ c → IndexOutcomes s z R Past (pick (a && c) (index_number s (s.next t)) (Ok (None, t))) (pick (a && c) (index_number z (z.next u)) (Ok (None, u)))
        go true true e = number_alike (next_by_law (both_same T r (Symbol OpenIndex) refl e))
        go true false e = has no_index (inl r)
        go false c e = has no_index (inl r)

    reference_alike : (allowed : Bool) {t u : Token} → Meets s z R Past t u → ReferenceOutcomes s z R Past (reference s allowed t) (reference z allowed u)
    unfolding reference with_path with_index
    reference_alike allowed {t} {u} m = go (property s t) (property z u) (property_alike m)
      where
        then : {p o : Path} → Paths s z R p o → (a b : Result (Option Token × Token) ℕ) → IndexOutcomes s z R Past a b → ReferenceOutcomes s z R Past (with_index p a) (with_index o b)
        then h (Ok (i, v)) (Ok (j, w)) (has x y) = has h x y
        then h a b (no v w r) = no v w r
        then {p} h a b (past f) = past (with_index_on O p a f)

        go : (a b : Result (Path × Token) ℕ) → PathOutcomes s z R Past a b → ReferenceOutcomes s z R Past (with_path s allowed a) (with_path z allowed b)
        go (Ok (p, v)) (Ok (o, w)) (has x y) = then x (indexed s allowed v) (indexed z allowed w) (index_alike allowed y)
        go a b (no v w r) = no v w r
        go a b (past f) = past (with_path_on O allowed a f)

    -- ---- the left side
    skip_alike : (c : Bool) {t u : Token} → R t u → (c ≡ true → Both s z R t u) → Meets s z R Past (skip s c t) (skip z c u)
    skip_alike true r f = next_by_law (f refl)
    skip_alike false r f = inl r

    left_of_alike : (m n : ℕ) (negated : Bool) (k : Quantifier) (a b : Result (Path × Option Token × Token) ℕ) → ReferenceOutcomes s z R Past a b → LeftOutcomes s z R Past (left_of m negated k a) (left_of n negated k b)
    unfolding left_of
    left_of_alike m n negated k (Ok (p, i, t)) (Ok (o, j, u)) (has x y r) = has (record { negations = refl; quantifiers = refl; paths = x; indices = y }) r
    left_of_alike m n negated k a b (no t u r) = no t u r
    left_of_alike m n negated k a b (past f) = past (left_of_on O m negated k a f)

    quantified : {t u : Token} → R t u → not (single (quantifying u)) ≡ true → Both s z R t u
    unfolding quantifying
    quantified {t} {u} r h = go (same u (Word Reserved.Any)) refl (same u (Word Reserved.Every)) refl h
      where
        go : (a : Bool) → same u (Word Reserved.Any) ≡ a → (b : Bool) → same u (Word Reserved.Every) ≡ b
            → not (single (pick a Quantifier.Any (pick b Quantifier.Every Quantifier.Single))) ≡ true → Both s z R t u
        go true e b f h = both_same T r (Word Reserved.Any) refl e
        go false e true f h = both_same T r (Word Reserved.Every) refl f
        go false e false f h = absurd (false≢true h)

    left_at_alike : (m n : ℕ) (negated : Bool) {t u : Token} → Meets s z R Past t u → LeftOutcomes s z R Past (left_at s m negated t) (left_at z n negated u)
    unfolding left_at left_by
    left_at_alike m n negated {t} {u} (inr f) = past (left_at_on O m negated t f)
    left_at_alike m n negated {t} {u} (inl r) = rw (quantifying_still T r) (go (negated && single (quantifying u)))
      where
        go : (c : Bool) → LeftOutcomes s z R Past (pick c (Err t.start) (left_of m negated (quantifying u) (reference s (single (quantifying u)) (skip s (not (single (quantifying u))) t))))
            (pick c (Err u.start) (left_of n negated (quantifying u) (reference z (single (quantifying u)) (skip z (not (single (quantifying u))) u))))
        go true = no t u r
        go false =
            left_of_alike m n negated (quantifying u) _ _
            (reference_alike (single (quantifying u)) (skip_alike (not (single (quantifying u))) r (quantified r)))

    left_alike : {t u : Token} → Meets s z R Past t u → LeftOutcomes s z R Past (left_side s t) (left_side z u)
    unfolding left_side
    left_alike {t} {u} (inr f) = past (left_on O t f)
    left_alike {t} {u} (inl r) =
        rw (same_still T r (Word Reserved.Not) refl)
        (left_at_alike t.start u.start (same u (Word Reserved.Not)) (skip_alike (same u (Word Reserved.Not)) r (both_same T r (Word Reserved.Not) refl)))

    -- ---- the operator
    not_like_alike : {t u : Token} → Meets s z R Past t u → OperationOutcomes s z R Past (not_like s t) (not_like z u)
    unfolding not_like
    not_like_alike {t} {u} (inr f) = past (not_like_on O t f)
    not_like_alike {t} {u} (inl r) = rw (same_still T r (Word Reserved.Like) refl) (go (same u (Word Reserved.Like)) refl)
      where
        go : (c : Bool) → same u (Word Reserved.Like) ≡ c → OperationOutcomes s z R Past (pick c (Ok (NotLike, s.next t)) (Err t.start)) (pick c (Ok (NotLike, z.next u)) (Err u.start))
        go true e = has refl (next_by_law (both_same T r (Word Reserved.Like) refl e))
        go false e = no t u r

    like_alike : (allowed : Bool) {t u : Token} → R t u → OperationOutcomes s z R Past (like s allowed t) (like z allowed u)
    unfolding like
    like_alike allowed {t} {u} r =
        rw (same_still T r (Word Reserved.Like) refl, same_still T r (Word Reserved.Not) refl) (go allowed (same u (Word Reserved.Like)) refl (same u (Word Reserved.Not)) refl)
      where
        go : (a c : Bool) → same u (Word Reserved.Like) ≡ c → (d : Bool) → same u (Word Reserved.Not) ≡ d
            → OperationOutcomes s z R Past (pick (a && c) (Ok (Like, s.next t)) (pick (a && d) (not_like s (s.next t)) (Err t.start)))
            (pick (a && c) (Ok (Like, z.next u)) (pick (a && d) (not_like z (z.next u)) (Err u.start)))
        go true true e d f = has refl (next_by_law (both_same T r (Word Reserved.Like) refl e))
        go true false e true f = not_like_alike (next_by_law (both_same T r (Word Reserved.Not) refl f))
        go true false e false f = no t u r
        go false c e d f = no t u r

    operation_alike : (alone : Bool) {t u : Token} → Meets s z R Past t u → OperationOutcomes s z R Past (operation s alone t) (operation z alone u)
    unfolding operation operation_by comparing
    operation_alike alone {t} {u} (inr f) = past (operation_on O alone t f)
    operation_alike alone {t} {u} (inl r) = rw (comparing_still T r) (go (comparing u) refl)
      where
        operates : Option Operator → Bool
        operates (Some o) = true
        operates None = false

        go : (c : Option Operator) → comparing u ≡ c → OperationOutcomes s z R Past (operation_by s alone t c) (operation_by z alone u c)
        go (Some o) e = has refl (next_by_law (both_by T r (λ (k : TokenKind). operates (comparing_kind k)) refl refl refl (ap operates e)))
        go None e = like_alike alone r

    -- ---- the right side
    abbrev MoreElements : ℕ → (a b : Token) → ℕ → (t u : Token) → Type 0
    MoreElements n a b count t u =
        Both s z R t u → Meets s z R Past (s.next (s.next t)) (z.next (z.next u))
        → RightOutcomes s z R Past (elements n s a.start (count + 1) (s.next (s.next t))) (elements n z b.start (count + 1) (z.next (z.next u)))

    elements_alike : (n : ℕ) {a b : Token} → Both s z R a b → (count : ℕ) {t u : Token} → ElementsOf s z R (s.next a) (z.next b) count t u → Meets s z R Past t u
        → RightOutcomes s z R Past (elements n s a.start count t) (elements n z b.start count u)
    unfolding elements literal
    elements_alike zero {a} {b} x count {t} {u} l (inr f) = past (elements_on O zero a.start count t f)
    elements_alike zero {a} {b} x count {t} {u} l (inl r) = rw (literal_still T r) (go (literal u))
      where
        go : (c : Bool) → RightOutcomes s z R Past (Err (limited c t.start)) (Err (limited c u.start))
        go true = no Limit t u r
        go false = no Grammar t u r
    elements_alike (suc n) {a} {b} x count {t} {u} l (inr f) = past (elements_on O (suc n) a.start count t f)
    elements_alike (suc n) {a} {b} x count {t} {u} l (inl r) =
        rw (literal_still T r, elements) (go (literal u) refl (λ y k. elements_alike n x (count + 1) (one_more_law l y) k))
      where
        third : Both s z R t u → R (s.next t) (z.next u) → (c d : Bool) → same (z.next u) (Symbol CloseList) ≡ c → same (z.next u) (Symbol Comma) ≡ d → MoreElements n a b count t u
            → RightOutcomes s z R Past (after_element n s a.start count t c d) (after_element n z b.start count u c d)
        third y v true d e f k = has (lists x (one_more_law l y)) (next_by_law (both_same T v (Symbol CloseList) refl e))
        third y v false true e f k = k y (next_by_law (both_same T v (Symbol Comma) refl f))
        third y v false false e f k = no Grammar (s.next t) (z.next u) v

        second : Both s z R t u → Meets s z R Past (s.next t) (z.next u) → MoreElements n a b count t u
            → RightOutcomes s z R Past (after_element n s a.start count t (same (s.next t) (Symbol CloseList)) (same (s.next t) (Symbol Comma)))
            (after_element n z b.start count u (same (z.next u) (Symbol CloseList)) (same (z.next u) (Symbol Comma)))
        second y (inr f) k = past (after_element_on O n a.start count t (same (s.next t) (Symbol CloseList)) (same (s.next t) (Symbol Comma)) f)
        second y (inl v) k =
            rw (same_still T v (Symbol CloseList) refl, same_still T v (Symbol Comma) refl) (third y v (same (z.next u) (Symbol CloseList)) (same (z.next u) (Symbol Comma)) refl refl k)

        go : (c : Bool) → literal u ≡ c → MoreElements n a b count t u
            → RightOutcomes s z R Past
            (elim c [ true ↦ after_element n s a.start count t (same (s.next t) (Symbol CloseList)) (same (s.next t) (Symbol Comma)) | false ↦ Err (fault Grammar t.start) ])
            (elim c [ true ↦ after_element n z b.start count u (same (z.next u) (Symbol CloseList)) (same (z.next u) (Symbol Comma)) | false ↦ Err (fault Grammar u.start) ])
        go true e k = let y = both_by T r literal_kind refl refl refl e in second y (next_by_law y) k
        go false e k = no Grammar t u r

    list_alike : {a b : Token} → Both s z R a b → Meets s z R Past (s.next a) (z.next b) → RightOutcomes s z R Past (list_from s a.start (s.next a)) (list_from z b.start (z.next b))
    unfolding list_from
    list_alike {a} {b} x (inr f) = past (list_on O a.start (s.next a) f)
    list_alike {a} {b} x (inl r) = rw (same_still T r (Symbol CloseList) refl) (go (same (z.next b) (Symbol CloseList)) refl)
      where
        go : (c : Bool) → same (z.next b) (Symbol CloseList) ≡ c
            → RightOutcomes s z R Past (pick c (Ok (Elements a.start 0 (s.next a).end, s.next (s.next a))) (elements 32 s a.start 0 (s.next a)))
            (pick c (Ok (Elements b.start 0 (z.next b).end, z.next (z.next b))) (elements 32 z b.start 0 (z.next b)))
        go true e = has (lists x none_yet) (next_by_law (both_same T r (Symbol CloseList) refl e))
        go false e = elements_alike 32 x 0 none_yet (inl r)

    operand_alike : (whole : Bool) (o : Operator) {t u : Token} → Meets s z R Past t u → RightOutcomes s z R Past (operand s whole o t) (operand z whole o u)
    unfolding operand array_literal literal operand_of
    operand_alike whole o {t} {u} (inr f) = past (operand_on O whole o t f)
    operand_alike whole o {t} {u} (inl r) =
        rw (literal_still T r, same_still T r (Symbol OpenList) refl) (go (literal u) refl (same u (Symbol OpenList)) refl (whole && equality o))
      where
        refer : (a b : Result (Path × Option Token × Token) ℕ) → ReferenceOutcomes s z R Past a b → RightOutcomes s z R Past (operand_of a) (operand_of b)
        refer (Ok (p, i, v)) (Ok (q, j, w)) (has x y k) = has (properties x y) k
        refer a b (no v w k) = no Grammar v w k
        refer a b (past f) = past (operand_of_on O a f)

        go : (c : Bool) → literal u ≡ c → (d : Bool) → same u (Symbol OpenList) ≡ d → (g : Bool)
            → RightOutcomes s z R Past (pick c (Ok (Literal t, s.next t)) (pick (d && g) (array_literal s t) (operand_of (reference s (not whole) t))))
            (pick c (Ok (Literal u, z.next u)) (pick (d && g) (array_literal z u) (operand_of (reference z (not whole) u))))
        go true e d f g = let b = both_by T r literal_kind refl refl refl e in has (literals b) (next_by_law b)
        go false e true f true = let b = both_same T r (Symbol OpenList) refl f in list_alike b (next_by_law b)
        go false e true f false = refer _ _ (reference_alike (not whole) (inl r))
        go false e false f g = refer _ _ (reference_alike (not whole) (inl r))

    pattern_alike : {t u : Token} → Meets s z R Past t u → RightOutcomes s z R Past (pattern s t) (pattern z u)
    unfolding pattern
    pattern_alike {t} {u} (inr f) = past (pattern_on O t f)
    pattern_alike {t} {u} (inl r) = rw (same_still T r Text refl) (go (same u Text) refl)
      where
        go : (c : Bool) → same u Text ≡ c → RightOutcomes s z R Past (pick c (Ok (Pattern t, s.next t)) (Err (fault Grammar t.start))) (pick c (Ok (Pattern u, z.next u)) (Err (fault Grammar u.start)))
        go true e = let b = both_same T r Text refl e in has (patterns b (T.kinds t u r b.within ∙ kind_is u Text e)) (next_by_law b)
        go false e = no Grammar t u r

    right_alike : (v : Operation) (whole : Bool) {t u : Token} → Meets s z R Past t u → RightOutcomes s z R Past (right_side s v whole t) (right_side z v whole u)
    unfolding right_side
    right_alike (Compare o) whole m = operand_alike whole o m
    right_alike Like whole m = pattern_alike m
    right_alike NotLike whole m = pattern_alike m

    -- ---- a comparison
    plain_alike : {i j : Option Token} (k : Quantifier) → Indices s z R i j → plain k i ≡ plain k j
    plain_alike k no_index = refl
    plain_alike k (an_index b) = refl

    pub comparison_outcomes : {t u : Token} → Meets s z R Past t u → ComparisonOutcomes s z R Past (property_comp s t) (property_comp z u)
    unfolding property_comp comp_left comp_operation comp_of
    comparison_outcomes {t} {u} m = go (left_side s t) (left_side z u) (left_alike m)
      where
        third : {a b : LeftSide} → Lefts s z R a b → (v : Operation) (x y : Result (RightSide × Token) Fault) → RightOutcomes s z R Past x y → ComparisonOutcomes s z R Past (comp_of a v x) (comp_of b v y)
        third l v (Ok (x, m)) (Ok (y, n)) (has h k) = has (record { lefts = l; operations = refl; rights = h }) k
        third l v x y (no c m n r) = no c m n r
        third {a} l v x y (past f) = past (comp_of_on O a v x f)

        placed : (a b : LeftSide) → Lefts s z R a b → (v w : Operation) → v ≡ w → (x y : Bool) → x ≡ y → {m n : Token} → Meets s z R Past m n
            → ComparisonOutcomes s z R Past (comp_of a v (right_side s v x m)) (comp_of b w (right_side z w y n))
        placed a b l v w e x y f k = rw (e, f) (third l w _ _ (right_alike w y k))

        second : (a b : LeftSide) → Lefts s z R a b → (x y : Result (Operation × Token) ℕ) → OperationOutcomes s z R Past x y → ComparisonOutcomes s z R Past (comp_operation s a x) (comp_operation z b y)
        second a b l (Ok (v, m)) (Ok (w, n)) (has e k) =
            placed a b l v w e (plain a.quantifier a.index) (plain b.quantifier b.index)
            (ap (λ (x : Quantifier). plain x a.index) l.quantifiers ∙ plain_alike b.quantifier l.indices) k
        second a b l x y (no m n r) = no Grammar m n r
        second a b l x y (past f) = past (comp_operation_on O a x f)

        first : (a b : LeftSide) → Lefts s z R a b → (x y : Bool) → x ≡ y → {m n : Token} → Meets s z R Past m n → ComparisonOutcomes s z R Past (comp_operation s a (operation s x m)) (comp_operation z b (operation z y n))
        first a b l x y f k = rw f (second a b l _ _ (operation_alike y k))

        go : (a b : Result (LeftSide × Token) ℕ) → LeftOutcomes s z R Past a b → ComparisonOutcomes s z R Past (comp_left s a) (comp_left z b)
        go (Ok (a, m)) (Ok (b, n)) (has l k) = first a b l (single a.quantifier) (single b.quantifier) (ap single l.quantifiers) k
        go a b (no m n r) = no Grammar m n r
        go a b (past f) = past (comp_left_on O a f)

-- tokens that correspond throughout
module _ {s z : Scan} {R : Token → Token → Type 0} (S : Simulates s z R) (enough : Roomy s) (other-enough : Roomy z) where
  abbrev Never : ℕ → Type 0
  Never p = ⊥

  throughout : SimulatesTo s z R Never
  throughout = record { tests = S.tests; steps = λ t u r h. inl (S.steps t u r h); onward = record { on = λ t f. f } }

  pub comparison_alike : {t u : Token} → R t u → ComparisonResults s z R (property_comp s t) (property_comp z u)
  comparison_alike {t} {u} r = go (comparison_outcomes throughout enough other-enough (inl r))
    where
      go : {x y : Result (Comparison × Token) Fault} → ComparisonOutcomes s z R Never x y → ComparisonResults s z R x y
      go (has h (inl k)) = has h k
      go (has h (inr f)) = absurd f
      go (no c v w k) = no c v w k
      go (past f) = absurd f
