-- What fits property-comp is read as a comparison, but for the limit of 32 elements.
use Rattle.std.specs.Prelude.{Err, None, Ok, Option, Result, Some}
use Prim.Native.Nat.{ℕ, zero, suc, ◌+◌, ◌≤◌, ◌<◌}
use mathlib.Core.Path.{◌≡◌, refl, ap}
use mathlib.Core.Bool.{Bool, true, false, not, ◌&&◌, false≢true}
use native.Mathlib.Omega.{arith}
use Rattle.token.specs.declared.Reserved.{Reserved}
use Rattle.base.specs.declared.order.Operator.{Operator}
use Rattle.token.specs.declared.Punctuation.TheVariants.{OpenIndex, OpenList, CloseList, Comma, Dot}
use Rattle.token.specs.declared.TokenKind.{TokenKind}
use Rattle.token.specs.declared.TokenKind.TheVariants.{Name, Symbol, Word}
use Rattle.token.specs.declared.Token.{Token}
use Rattle.terminal.specs.declared.quantifier.Quantifier.{Quantifier}
use Rattle.terminal.specs.declared.quantifier.Quantifier.TheVariants.{Single, Any, Every}
use Rattle.terminal.specs.Terminal.{same, literal, literal_kind, comparing, comparing_kind, quantifying, equality}
use Rattle.terminal.proofs.KindCodes.{kind_is, not_kind, other}
use Rattle.syntax.specs.declared.path.Path.{Path}
use Rattle.syntax.specs.declared.left_side.LeftSide.{LeftSide}
use Rattle.syntax.specs.declared.operation.Operation.{Operation}
use Rattle.syntax.specs.declared.operation.Operation.TheVariants.{Compare, Like, NotLike}
use Rattle.syntax.specs.declared.fault.Cause.TheVariants.{Limit}
use Rattle.syntax.specs.Property as GP
use Rattle.syntax.specs.Comparison as GC
use Rattle.syntax.specs.Scan.{Scan}
use Rattle.syntax.specs.Property.{dotted, one_more, first_name}
use Rattle.syntax.specs.Comparison.{single, plain}
use Rattle.grammar.specs.Abnf.{Fits, one, join, left, right, none, just, stop, more, many, then, is, operates, dot_name, property, in_brackets, element, array_op, like_op, equates, scalar_literal, array_literal_rule, like_pattern, property_comp_rule}
use Rattle.grammar.specs.Limits.{repeats, element_count, elements_in}
use Rattle.syntax.proofs.Room.{up, Roomy, room}
use Rattle.grammar.proofs.Sound.{Ends}
use Rattle.syntax.specs.declared.right_side.RightSide.{RightSide}
use Rattle.syntax.specs.declared.fault.Fault.{Fault}
use Rattle.syntax.specs.declared.comparison.Comparison.{Comparison}

-- an operator is neither a dot nor a bracket
module _ (t : Token) (e : operates (comparing t) ≡ true) where
  pub op_no_dot : same t (Symbol Dot) ≡ false
  unfolding comparing
  op_no_dot = not_kind (λ (k : TokenKind). operates (comparing_kind k)) t (Symbol Dot) refl e

  pub op_no_index : same t (Symbol OpenIndex) ≡ false
  unfolding comparing
  op_no_index = not_kind (λ (k : TokenKind). operates (comparing_kind k)) t (Symbol OpenIndex) refl e

operates_op : (k : Option Operator) → operates k ≡ true → (o : Operator) × (k ≡ Some o)
operates_op (Some o) e = (o, refl)
operates_op None e = absurd (false≢true e)

equates_op : (k : Option Operator) → equates k ≡ true → (o : Operator) × (k ≡ Some o) × (equality o ≡ true)
equates_op (Some o) e = (o, refl, e)
equates_op None e = absurd (false≢true e)

pub equates_operates : (k : Option Operator) → equates k ≡ true → operates k ≡ true
equates_operates (Some o) e = refl
equates_operates None e = absurd (false≢true e)

-- a literal closes no list
pub lit_no_close : (t : Token) → literal t ≡ true → same t (Symbol CloseList) ≡ false
unfolding literal
lit_no_close t e = not_kind literal_kind t (Symbol CloseList) refl e

pub name_no_literal : (t : Token) → same t Name ≡ true → literal t ≡ false
unfolding literal
name_no_literal t a = ap literal_kind (kind_is t Name a)

pub open_no_literal : (t : Token) → same t (Symbol OpenList) ≡ true → literal t ≡ false
unfolding literal
open_no_literal t a = ap literal_kind (kind_is t (Symbol OpenList) a)

pub word_no_operator : (t : Token) (w : Reserved) → same t (Word w) ≡ true → comparing t ≡ None
unfolding comparing
word_no_operator t w a = ap comparing_kind (kind_is t (Word w) a)

module _ (s : Scan) where
  -- names are read to the end, however many more are allowed
  dots_end : (n : ℕ) (p : Path) (t : Token) → same t (Symbol Dot) ≡ false → Ends t (dotted n s p t)
  unfolding dotted Ends
  dots_end zero p t d = refl
  dots_end (suc n) p t d = rw (d, dotted) refl

  dots_read : (t u : Token) → Fits s (many dot_name) t u → same u (Symbol Dot) ≡ false → (p : Path) → (k : ℕ) × ((m : ℕ) → Ends u (dotted (up k m) s p t))
  unfolding dotted up
  dots_read t u stop d p = (zero, λ m. dots_end m p t d)
  dots_read t u (more (join (one a) (one b)) f) d p =
      let i = dots_read (s.next (s.next t)) u f d (one_more p (s.next t)) in
      (suc i.0, λ m. rw (a, dotted) (rw (b, dotted) (i.1 m)))

  module _ (roomy : Roomy s) where
    names_read : (t u : Token) → Fits s (many dot_name) t u → same u (Symbol Dot) ≡ false → (p : Path) → Ends u (dotted s.size s p t)
    names_read t u f d p = let i = dots_read t u f d p in rw (room s roomy i.0 p t) at (i.1 s.size)

    pub property_read : (t u : Token) → Fits s property t u → same u (Symbol Dot) ≡ false → Ends u (GP.property s t)
    unfolding GP.property
    property_read t u (left (join (one a) f)) d = rw a (names_read (s.next t) u f d (first_name t))
    property_read t u (right (join (join (one a) (one b)) (join (one c) f))) d = rw a (names_read (s.next t) u (more (join (one b) (one c)) f) d (first_name t))

    -- property, with and without an index
    abbrev pub ReadsPlain : Token → Result (Path × Option Token × Token) ℕ → Type 0
    ReadsPlain u (Ok (p, None, t)) = t ≡ u
    ReadsPlain u (Ok (p, Some i, t)) = ⊥
    ReadsPlain u (Err x) = ⊥

    abbrev pub ReadsIndexed : Token → Result (Path × Option Token × Token) ℕ → Type 0
    ReadsIndexed u (Ok (p, None, t)) = ⊥
    ReadsIndexed u (Ok (p, Some i, t)) = t ≡ u
    ReadsIndexed u (Err x) = ⊥

    pub index_none : (a : Bool) (t : Token) → a && same t (Symbol OpenIndex) ≡ false → GP.indexed s a t ≡ Ok (None, t)
    unfolding GP.indexed
    index_none a t e = rw e refl

    pub index_read : (t u : Token) → Fits s (in_brackets s) t u → (i : Token) × (GP.indexed s true t ≡ Ok (Some i, u))
    unfolding GP.indexed GP.index_number GP.close_index
    index_read t u (join (one a) (join (one b) (one c))) = (s.next t, rw (a, b, c) refl)

    plain_from : (a : Bool) (u : Token) (r : Result (Path × Token) ℕ) → Ends u r → a && same u (Symbol OpenIndex) ≡ false → ReadsPlain u (GP.with_path s a r)
    unfolding Ends GP.with_path GP.with_index
    plain_from a u (Ok (p, t)) e f = rw e (rw (index_none a u f) refl)
    plain_from a u (Err x) e f = e

    pub plain_read : (a : Bool) (t u : Token) → Fits s property t u → same u (Symbol Dot) ≡ false → a && same u (Symbol OpenIndex) ≡ false → ReadsPlain u (GP.reference s a t)
    unfolding GP.reference
    plain_read a t u f d e = plain_from a u (GP.property s t) (property_read t u f d) e

    indexed_from : (m u : Token) (r : Result (Path × Token) ℕ) → Ends m r → Fits s (in_brackets s) m u → ReadsIndexed u (GP.with_path s true r)
    unfolding Ends GP.with_path GP.with_index
    indexed_from m u (Ok (p, t)) e f = rw e (rw (index_read m u f).1 refl)
    indexed_from m u (Err x) e f = e

    pub open_no_dot : (m u : Token) → Fits s (in_brackets s) m u → same m (Symbol Dot) ≡ false
    open_no_dot m u (join (one a) f) = other m (Symbol OpenIndex) (Symbol Dot) a refl

    pub element_read : (t u : Token) → Fits s (element s) t u → ReadsIndexed u (GP.reference s true t)
    unfolding GP.reference
    element_read t u (join {m = m} f g) = indexed_from m u (GP.property s t) (property_read t m f (open_no_dot m u g)) g

    -- the subject: whether it is single, whether it is plain, and where it ends
    abbrev pub ReadsLeft : Bool → Bool → Token → Result (LeftSide × Token) ℕ → Type 0
    ReadsLeft sg pl u (Ok (a, t)) = (single a.quantifier ≡ sg) × (plain a.quantifier a.index ≡ pl) × (t ≡ u)
    ReadsLeft sg pl u (Err x) = ⊥

    plain_left : (x : ℕ) (n : Bool) (u : Token) (r : Result (Path × Option Token × Token) ℕ) → ReadsPlain u r → ReadsLeft true true u (GC.left_of x n Single r)
    unfolding GC.left_of
    plain_left x n u (Ok (p, None, t)) e = (refl, refl, e)
    plain_left x n u (Ok (p, Some i, t)) e = absurd e
    plain_left x n u (Err y) e = e

    indexed_left : (x : ℕ) (n : Bool) (u : Token) (r : Result (Path × Option Token × Token) ℕ) → ReadsIndexed u r → ReadsLeft true false u (GC.left_of x n Single r)
    unfolding GC.left_of
    indexed_left x n u (Ok (p, None, t)) e = absurd e
    indexed_left x n u (Ok (p, Some i, t)) e = (refl, refl, e)
    indexed_left x n u (Err y) e = e

    many_left : (x : ℕ) (n : Bool) (k : Quantifier) (u : Token) (r : Result (Path × Option Token × Token) ℕ) → single k ≡ false → ReadsPlain u r → ReadsLeft false false u (GC.left_of x n k r)
    unfolding GC.left_of
    many_left x n k u (Ok (p, None, t)) f e = (f, f, e)
    many_left x n k u (Ok (p, Some i, t)) f e = absurd e
    many_left x n k u (Err y) f e = e

    -- a name is neither NOT nor ANY nor EVERY
    pub name_first : (t u : Token) → Fits s property t u → same t Name ≡ true
    name_first t u (left (join (one a) f)) = a
    name_first t u (right (join (join (one a) (one b)) f)) = a

    module _ (t : Token) (a : same t Name ≡ true) where
      pub no_quantifier : quantifying t ≡ Single
      unfolding quantifying
      no_quantifier = rw (other t Name (Word Reserved.Any) a refl, other t Name (Word Reserved.Every) a refl) refl

      pub name_left : GC.left_side s t ≡ GC.left_of t.start false Single (GP.reference s true t)
      unfolding GC.left_side GC.left_at GC.left_by
      name_left = rw (other t Name (Word Reserved.Not) a refl) (rw no_quantifier refl)

    pub left_plain : (t u : Token) → Fits s property t u → same u (Symbol Dot) ≡ false → same u (Symbol OpenIndex) ≡ false → ReadsLeft true true u (GC.left_side s t)
    left_plain t u f d e = rw (name_left t (name_first t u f)) (plain_left t.start false u (GP.reference s true t) (plain_read true t u f d e))

    element_first : (t u : Token) → Fits s (element s) t u → same t Name ≡ true
    element_first t u (join {m = m} f g) = name_first t m f

    pub left_indexed : (t u : Token) → Fits s (element s) t u → ReadsLeft true false u (GC.left_side s t)
    left_indexed t u f = rw (name_left t (element_first t u f)) (indexed_left t.start false u (GP.reference s true t) (element_read t u f))

    -- ANY or EVERY, without and with NOT
    pub left_many : (t u : Token) → Fits s (then array_op property) t u → same u (Symbol Dot) ≡ false → ReadsLeft false false u (GC.left_side s t)
    unfolding GC.left_side GC.left_at GC.left_by quantifying
    left_many t u (join (join none (left (one a))) f) d =
        rw (other t (Word Reserved.Any) (Word Reserved.Not) a refl) (rw a (many_left t.start false Any u (GP.reference s false (s.next t)) refl (plain_read false (s.next t) u f d refl)))
    left_many t u (join (join none (right (one a))) f) d =
        rw (other t (Word Reserved.Every) (Word Reserved.Not) a refl)
        (rw (other t (Word Reserved.Every) (Word Reserved.Any) a refl) (rw a (many_left t.start false Every u (GP.reference s false (s.next t)) refl (plain_read false (s.next t) u f d refl))))
    left_many t u (join (join (just (one n)) (left (one a))) f) d =
        rw n (rw a (many_left t.start true Any u (GP.reference s false (s.next (s.next t))) refl (plain_read false (s.next (s.next t)) u f d refl)))
    left_many t u (join (join (just (one n)) (right (one a))) f) d =
        rw n
        (rw (other (s.next t) (Word Reserved.Every) (Word Reserved.Any) a refl)
        (rw a (many_left t.start true Every u (GP.reference s false (s.next (s.next t))) refl (plain_read false (s.next (s.next t)) u f d refl))))

    -- the right side of so many elements: read where they are within the limit, refused for it where not
    abbrev pub ReadsRight : ℕ → ℕ → Token → Result (RightSide × Token) Fault → Type 0
    ReadsRight limit n u (Ok (r, t)) = (t ≡ u) × (n ≤ limit)
    ReadsRight limit n u (Err f) = (f.cause ≡ Limit) × (limit < n)

    reads_next : (limit n : ℕ) (u : Token) (r : Result (RightSide × Token) Fault) → ReadsRight limit n u r → ReadsRight (suc limit) (suc n) u r
    reads_next limit n u (Ok (r, t)) e = (e.0, omega (arith, e.1))
    reads_next limit n u (Err f) e = (e.0, omega (arith, e.1))

    right_literal : (pl : Bool) (o : Operator) (t : Token) → literal t ≡ true → ReadsRight 32 0 (s.next t) (GC.operand s pl o t)
    unfolding GC.operand
    right_literal pl o t l = rw l (refl, omega arith)

    plain_right : (u : Token) (r : Result (Path × Option Token × Token) ℕ) → ReadsPlain u r → ReadsRight 32 0 u (GC.operand_of r)
    unfolding GC.operand_of
    plain_right u (Ok (p, None, t)) e = (e, omega arith)
    plain_right u (Ok (p, Some i, t)) e = absurd e
    plain_right u (Err x) e = absurd e

    indexed_right : (u : Token) (r : Result (Path × Option Token × Token) ℕ) → ReadsIndexed u r → ReadsRight 32 0 u (GC.operand_of r)
    unfolding GC.operand_of
    indexed_right u (Ok (p, None, t)) e = absurd e
    indexed_right u (Ok (p, Some i, t)) e = (e, omega arith)
    indexed_right u (Err x) e = absurd e

    pub name_operand : (pl : Bool) (o : Operator) (t : Token) → same t Name ≡ true → GC.operand s pl o t ≡ GC.operand_of (GP.reference s (not pl) t)
    unfolding GC.operand
    name_operand pl o t a = rw (name_no_literal t a, other t Name (Symbol OpenList) a refl) refl

    literal_read : (pl : Bool) (o : Operator) (t u : Token) → Fits s scalar_literal t u → ReadsRight 32 0 u (GC.operand s pl o t)
    literal_read pl o t u (one l) = right_literal pl o t l

    right_property_law : (pl : Bool) (o : Operator) (t u : Token) → Fits s property t u → same u (Symbol Dot) ≡ false → not pl && same u (Symbol OpenIndex) ≡ false → ReadsRight 32 0 u (GC.operand s pl o t)
    right_property_law pl o t u f d e = rw (name_operand pl o t (name_first t u f)) (plain_right u (GP.reference s (not pl) t) (plain_read (not pl) t u f d e))

    right_element : (o : Operator) (t u : Token) → Fits s (element s) t u → ReadsRight 32 0 u (GC.operand s false o t)
    right_element o t u f = rw (name_operand false o t (element_first t u f)) (indexed_right u (GP.reference s true t) (element_read t u f))

    elements_read : (n start count : ℕ) (t u : Token) → literal t ≡ true → (f : Fits s (many (then (is (Symbol Comma)) scalar_literal)) (s.next t) u) → same u (Symbol CloseList) ≡ true
        → ReadsRight n (suc (repeats f)) (s.next u) (GC.elements n s start count t)
    unfolding GC.elements repeats
    elements_read zero start count t u l f c = rw l (refl, omega arith)
    elements_read (suc n) start count t u l stop c = rw (l, GC.elements) (rw (c, GC.elements) (refl, omega arith))
    elements_read (suc n) start count t u l (more (join (one a) (one b)) f) c =
        rw (l, GC.elements)
        (rw (other (s.next t) (Symbol Comma) (Symbol CloseList) a refl, GC.elements)
        (rw (a, GC.elements)
        (reads_next n (suc (repeats f)) (s.next u) (GC.elements n s start (count + 1) (s.next (s.next t))) (elements_read n start (count + 1) (s.next (s.next t)) u b f c))))

    list_closed : (t m u : Token) → literal (s.next t) ≡ true → (f : Fits s (many (then (is (Symbol Comma)) scalar_literal)) (s.next (s.next t)) m) → Fits s (is (Symbol CloseList)) m u
        → ReadsRight 32 (suc (repeats f)) u (GC.array_literal s t)
    unfolding GC.array_literal GC.list_from
    list_closed t m u l f (one c) = rw (lit_no_close (s.next t) l) (elements_read 32 t.start 0 (s.next t) m l f c)

    right_list : (t u : Token) (f : Fits s array_literal_rule t u) → ReadsRight 32 (element_count f) u (GC.array_literal s t)
    unfolding GC.array_literal GC.list_from element_count
    right_list t u (join (one a) (join none (one c))) = rw c (refl, omega arith)
    right_list t u (join (one a) (join {m = m} (just (join (one l) f)) c)) = list_closed t m u l f c

    pub open_first : (t u : Token) → Fits s array_literal_rule t u → same t (Symbol OpenList) ≡ true
    open_first t u (join (one a) f) = a

    right_array_law : (o : Operator) (t u : Token) → equality o ≡ true → (f : Fits s array_literal_rule t u) → ReadsRight 32 (element_count f) u (GC.operand s true o t)
    unfolding GC.operand
    right_array_law o t u q f = let a = open_first t u f in rw (open_no_literal t a) (rw (a, q) (right_list t u f))

    right_pattern : (t u : Token) → Fits s like_pattern t u → ReadsRight 32 0 u (GC.pattern s t)
    unfolding GC.pattern
    right_pattern t u (one a) = rw a (refl, omega arith)

    -- comparisons
    abbrev pub ReadsComparison : ℕ → Token → Result (Comparison × Token) Fault → Type 0
    ReadsComparison n u (Ok (c, t)) = (t ≡ u) × (n ≤ 32)
    ReadsComparison n u (Err f) = (f.cause ≡ Limit) × (32 < n)

    comp_right : (n : ℕ) (u : Token) (a : LeftSide) (v : Operation) (r : Result (RightSide × Token) Fault) → ReadsRight 32 n u r → ReadsComparison n u (GC.comp_of a v r)
    unfolding GC.comp_of
    comp_right n u a v (Ok (r, t)) e = e
    comp_right n u a v (Err f) e = e

    pub operation_is : (sg : Bool) (m : Token) (o : Operator) → comparing m ≡ Some o → GC.operation s sg m ≡ Ok (Compare o, s.next m)
    unfolding GC.operation GC.operation_by
    operation_is sg m o e = rw e refl

    compare_from : (n : ℕ) (sg pl : Bool) (m u : Token) (o : Operator) (r : Result (LeftSide × Token) ℕ) → ReadsLeft sg pl m r → comparing m ≡ Some o → ReadsRight 32 n u (GC.operand s pl o (s.next m)) → ReadsComparison n u (GC.comp_left s r)
    unfolding GC.comp_left GC.comp_operation GC.right_side
    compare_from n sg pl m u o (Ok (a, t)) e f g =
        rw e.2 (rw (operation_is (single a.quantifier) m o f) (comp_right n u a (Compare o) (GC.operand s (plain a.quantifier a.index) o (s.next m)) (rw e.1 g)))
    compare_from n sg pl m u o (Err x) e f g = absurd e

    like_is : (m w : Token) → Fits s like_op m w → (v : Operation) × ((a : LeftSide) → GC.comp_operation s a (GC.operation s true m) ≡ GC.comp_of a v (GC.pattern s w))
    unfolding GC.operation GC.operation_by GC.like GC.not_like GC.comp_operation GC.right_side
    like_is m w (join none (one a)) = (Like, λ x. rw (word_no_operator m Reserved.Like a) (rw a refl))
    like_is m w (join (just (one n)) (one a)) =
        (NotLike, λ x. rw (word_no_operator m Reserved.Not n) (rw (other m (Word Reserved.Not) (Word Reserved.Like) n refl) (rw n (rw a refl))))

    like_from : (pl : Bool) (m w u : Token) (r : Result (LeftSide × Token) ℕ) → ReadsLeft true pl m r → Fits s like_op m w → ReadsRight 32 0 u (GC.pattern s w) → ReadsComparison 0 u (GC.comp_left s r)
    unfolding GC.comp_left
    like_from pl m w u (Ok (a, t)) e f g = rw e.2 (rw e.0 (let i = like_is m w f in rw (i.1 a) (comp_right 0 u a i.0 (GC.pattern s w) g)))
    like_from pl m w u (Err x) e f g = absurd e

    compared : (n : ℕ) (sg pl : Bool) (t m u : Token) (o : Operator) → ReadsLeft sg pl m (GC.left_side s t) → comparing m ≡ Some o → ReadsRight 32 n u (GC.operand s pl o (s.next m)) → ReadsComparison n u (GC.property_comp s t)
    unfolding GC.property_comp
    compared n sg pl t m u o e f g = compare_from n sg pl m u o (GC.left_side s t) e f g

    matched : (pl : Bool) (t m w u : Token) → ReadsLeft true pl m (GC.left_side s t) → Fits s like_op m w → ReadsRight 32 0 u (GC.pattern s w) → ReadsComparison 0 u (GC.property_comp s t)
    unfolding GC.property_comp
    matched pl t m w u e f g = like_from pl m w u (GC.left_side s t) e f g

    pub like_first : (m w : Token) → Fits s like_op m w → (same m (Symbol Dot) ≡ false) × (same m (Symbol OpenIndex) ≡ false)
    like_first m w (join none (one a)) = (other m (Word Reserved.Like) (Symbol Dot) a refl, other m (Word Reserved.Like) (Symbol OpenIndex) a refl)
    like_first m w (join (just (one a)) f) = (other m (Word Reserved.Not) (Symbol Dot) a refl, other m (Word Reserved.Not) (Symbol OpenIndex) a refl)

    -- what fits property-comp, with neither a dot nor a bracket after it, is read to its end, or refused for its 33rd element
    pub comparison_read : (t u : Token) (f : Fits s (property_comp_rule s) t u) → same u (Symbol Dot) ≡ false → same u (Symbol OpenIndex) ≡ false → ReadsComparison (elements_in f) u (GC.property_comp s t)
    unfolding elements_in
    comparison_read t u (left (join f (join (one {t = m} e) g))) d b =
        let o = equates_op (comparing m) e in let y = equates_operates (comparing m) e in
        compared (element_count g) true true t m u o.0 (left_plain t m f (op_no_dot m y) (op_no_index m y)) o.1 (right_array_law o.0 (s.next m) u o.2 g)
    comparison_read t u (right (left (join f (join (one {t = m} e) g)))) d b =
        let o = equates_op (comparing m) e in let y = equates_operates (comparing m) e in
        compared 0 true true t m u o.0 (left_plain t m f (op_no_dot m y) (op_no_index m y)) o.1 (right_property_law true o.0 (s.next m) u g d refl)
    comparison_read t u (right (right (left (join f (join (one {t = m} e) l))))) d b =
        let o = operates_op (comparing m) e in
        compared 0 true true t m u o.0 (left_plain t m f (op_no_dot m e) (op_no_index m e)) o.1 (literal_read true o.0 (s.next m) u l)
    comparison_read t u (right (right (right (left (join f (join (one {t = m} e) g)))))) d b =
        let o = operates_op (comparing m) e in
        compared 0 true true t m u o.0 (left_plain t m f (op_no_dot m e) (op_no_index m e)) o.1 (right_property_law true o.0 (s.next m) u g d refl)
    comparison_read t u (right (right (right (right (left (join f (join (one {t = m} e) l))))))) d b =
        let o = operates_op (comparing m) e in
        compared 0 true false t m u o.0 (left_indexed t m f) o.1 (literal_read false o.0 (s.next m) u l)
    comparison_read t u (right (right (right (right (right (left (join f (join (one {t = m} e) g)))))))) d b =
        let o = operates_op (comparing m) e in
        compared 0 true false t m u o.0 (left_indexed t m f) o.1 (right_property_law false o.0 (s.next m) u g d b)
    comparison_read t u (right (right (right (right (right (right (left (join f (join (one {t = m} e) g))))))))) d b =
        let o = operates_op (comparing m) e in
        compared 0 true false t m u o.0 (left_indexed t m f) o.1 (right_element o.0 (s.next m) u g)
    comparison_read t u (right (right (right (right (right (right (right (left (join f (join (one {t = m} e) l)))))))))) d b =
        let o = operates_op (comparing m) e in
        compared 0 false false t m u o.0 (left_many t m f (op_no_dot m e)) o.1 (literal_read false o.0 (s.next m) u l)
    comparison_read t u (right (right (right (right (right (right (right (right (left (join f (join (one {t = m} e) g))))))))))) d b =
        let o = operates_op (comparing m) e in
        compared 0 false false t m u o.0 (left_many t m f (op_no_dot m e)) o.1 (right_property_law false o.0 (s.next m) u g d b)
    comparison_read t u (right (right (right (right (right (right (right (right (right (left (join f (join (one {t = m} e) g)))))))))))) d b =
        let o = operates_op (comparing m) e in
        compared 0 false false t m u o.0 (left_many t m f (op_no_dot m e)) o.1 (right_element o.0 (s.next m) u g)
    comparison_read t u (right (right (right (right (right (right (right (right (right (right (left (join {m = m} f (join {m = w} l g))))))))))))) d b =
        matched true t m w u (left_plain t m f (like_first m w l).0 (like_first m w l).1) l (right_pattern w u g)
    comparison_read t u (right (right (right (right (right (right (right (right (right (right (right (join {m = m} f (join {m = w} l g))))))))))))) d b =
        matched false t m w u (left_indexed t m f) l (right_pattern w u g)
