-- What is begun: tokens of a query from one up to, but not with, another, which further tokens complete to what fits a rule.
use Prim.Native.Nat.{ℕ, suc, ◌≤◌, ◌<◌}
use mathlib.Core.Path.{◌≡◌, refl, sym, ap, ◌∙◌, subst}
use mathlib.Core.List.{List, [], ◌∷◌}
use mathlib.Core.Bool.{Bool, true, false}
use native.Mathlib.Omega.{arith}
use lib.Dec.{ltb}
use borrow.Author.Tests.{ltb-true, ltb-false}
use Rattle.base.specs.declared.order.Operator.TheVariants.{Equal}
use Rattle.token.specs.declared.Reserved.TheVariants as Reserved
use Rattle.token.specs.declared.Form.TheVariants.{Decimal}
use Rattle.token.specs.declared.Punctuation.TheVariants as Mark
use Rattle.token.specs.declared.TokenKind.{TokenKind}
use Rattle.token.specs.declared.TokenKind.TheVariants.{End, Name, Word, Number, Text, Compare, Symbol}
use Rattle.token.specs.declared.Token.{Token}
use Rattle.token.specs.Token.{is_token}
use Rattle.terminal.specs.Terminal.{same, unsigned}
use Rattle.syntax.specs.Scan.{Scan}
use Rattle.grammar.specs.Abnf.{Rule, Fits, set, then, or, maybe, many, one, join, left, right, none, just, stop, more}
use Rattle.grammar_places.specs.Place.{tok}
use Rattle.grammar_places.proofs.Numbers.{numbered, by_number}

-- the tokens that complete what was begun
pub data Completion : Type 0 where
  name : Completion
  number : Completion
  text : Completion
  like : Completion
  any : Completion
  equals : Completion
  close_index : Completion
  close_list : Completion
  open_group : Completion
  close_group : Completion

abbrev pub kind_of : Completion → TokenKind
kind_of name = Name
kind_of number = Number Decimal
kind_of text = Text
kind_of like = Word Reserved.Like
kind_of any = Word Reserved.Any
kind_of equals = Compare Equal
kind_of close_index = Symbol Mark.CloseIndex
kind_of close_list = Symbol Mark.CloseList
kind_of open_group = Symbol Mark.Open
kind_of close_group = Symbol Mark.Close

abbrev pub is_number : Completion → Bool
is_number name = false
is_number number = true
is_number text = false
is_number like = false
is_number any = false
is_number equals = false
is_number close_index = false
is_number close_list = false
is_number open_group = false
is_number close_group = false

-- tokens in turn, of some text
pub record Target : Type 0 where
  pub scan : Scan
  pub nth : ℕ → Token
  pub next : (k : ℕ) → scan.next (nth k) ≡ nth (suc k)

-- from the k-th on they are these, and then the end
unfoldable pub Follows : Target → ℕ → List Completion → Type 0
Follows T k [] = same (T.nth k) End ≡ true
Follows T k (x ∷ c) = ((T.nth k).kind ≡ kind_of x) × (T.scan.unsigned (T.nth k) ≡ is_number x) × Follows T (suc k) c

-- what fits a rule from the i-th token on, and what follows it
pub record Fitted (T : Target) (r : Rule) (i : ℕ) (d : List Completion) : Type 0 where
  pub to : ℕ
  pub fits : Fits T.scan r (T.nth i) (T.nth to)
  pub follows : Follows T to d

-- two rules in turn make a third; a rule is a case of another
abbrev pub Joins : (Scan → Rule) → (Scan → Rule) → (Scan → Rule) → Type 0
Joins r w v = (s : Scan) (t m e : Token) → Fits s (r s) t m → Fits s (w s) m e → Fits s (v s) t e

abbrev pub Has : (Scan → Rule) → (Scan → Rule) → Type 0
Has r v = (s : Scan) (t e : Token) → Fits s (r s) t e → Fits s (v s) t e

-- ---- tokens that fit a rule, wherever they stand
pub record Completable (r : Scan → Rule) : Type 0 where
  pub completion : List Completion → List Completion
  pub completes : (T : Target) (d : List Completion) (k : ℕ) → Follows T k (completion d) → Fitted T (r T.scan) k d

pub complete_one : (p : Scan → Token → Bool) (x : Completion)
    → ((s : Scan) (t : Token) → t.kind ≡ kind_of x → s.unsigned t ≡ is_number x → p s t ≡ true) → Completable (λ s. set (p s))
unfolding Follows
complete_one p x h =
    record {
      completion = λ d. x ∷ d;
      completes = λ T d k f. record { to = suc k; fits = subst (λ (u : Token). Fits T.scan (set (p T.scan)) (T.nth k) u) (T.next k) (one (h T.scan (T.nth k) f.0 f.1)); follows = f.2 };
    }

pub complete_then : {r w : Scan → Rule} → Completable r → Completable w → Completable (λ s. then (r s) (w s))
complete_then {r} {w} a b =
    record {
      completion = λ d. a.completion (b.completion d);
      completes = λ T d k f.
          let x = a.completes T (b.completion d) k f in
          let y = b.completes T d x.to x.follows in
          record { to = y.to; fits = join x.fits y.fits; follows = y.follows };
    }

pub complete_left : {r w : Scan → Rule} → Completable r → Completable (λ s. or (r s) (w s))
complete_left {r} {w} a = record { completion = a.completion; completes = λ T d k f. let x = a.completes T d k f in record { to = x.to; fits = left x.fits; follows = x.follows } }

pub complete_right : {r w : Scan → Rule} → Completable w → Completable (λ s. or (r s) (w s))
complete_right {r} {w} a = record { completion = a.completion; completes = λ T d k f. let x = a.completes T d k f in record { to = x.to; fits = right x.fits; follows = x.follows } }

pub complete_stop : {r : Scan → Rule} → Completable (λ s. many (r s))
complete_stop {r} = record { completion = λ d. d; completes = λ T d k f. record { to = k; fits = stop; follows = f } }

-- before a place or not
pub halves : {A : Type 0} (i m : ℕ) → (i < m → A) → (m ≤ i → A) → A
halves {A} i m f g = go (ltb i m) refl
  where
    go : (t : Bool) → ltb i m ≡ t → A
    go true u = f (ltb-true i m u)
    go false u = g (ltb-false i m u)

module _ (q : List ℕ) where
  -- a target's first n tokens are the query's
  abbrev pub Agrees : Target → ℕ → Type 0
  Agrees T n = (k : ℕ) → k < n → ((T.nth k).kind ≡ (tok q k).kind) × (T.scan.unsigned (T.nth k) ≡ unsigned q (tok q k))

  -- tokens stand at each number from i up to x
  abbrev pub Standing : ℕ → ℕ → Type 0
  Standing i x = (k : ℕ) → i ≤ k → k < x → is_token (tok q k).kind ≡ true

  standing_on : (i j x : ℕ) → Standing i j → Standing j x → Standing i x
  standing_on i j x a b k l h = halves k j (λ u. a k l u) (λ u. b k u h)

  -- ---- a rule over the query's tokens and over a target's
  pub data Same (T : Target) : Rule → Rule → Type 0 where
    sets : {p o : Token → Bool}
        → ((k : ℕ) → (T.nth k).kind ≡ (tok q k).kind → T.scan.unsigned (T.nth k) ≡ unsigned q (tok q k) → p (numbered q k) ≡ true → o (T.nth k) ≡ true)
        → ((k : ℕ) → p (numbered q k) ≡ true → is_token (tok q k).kind ≡ true)
        → Same T (set p) (set o)
    thens : {a b c d : Rule} → Same T a b → Same T c d → Same T (then a c) (then b d)
    ors : {a b c d : Rule} → Same T a b → Same T c d → Same T (or a c) (or b d)
    maybes : {a b : Rule} → Same T a b → Same T (maybe a) (maybe b)
    manys : {a b : Rule} → Same T a b → Same T (many a) (many b)

  -- what fits from the i-th token on: up to which, and that it fits in each target that agrees so far
  pub record Moved (T : Target) (r : Rule) (i : ℕ) (e : Token) : Type 0 where
    pub to : ℕ
    pub is : e ≡ numbered q to
    pub from : i ≤ to
    pub stands : Standing i to
    pub fits : Agrees T to → Fits T.scan r (T.nth i) (T.nth to)

  moved_on : {T : Target} {a b c : Rule} {i : ℕ} {m e : Token} (x : Moved T a i m) (y : Moved T b x.to e)
      → (Fits T.scan a (T.nth i) (T.nth x.to) → Fits T.scan b (T.nth x.to) (T.nth y.to) → Fits T.scan c (T.nth i) (T.nth y.to)) → Moved T c i e
  moved_on {i = i} x y f =
      let l = y.from in
      record {
        to = y.to;
        is = y.is;
        from = omega (arith, x.from, y.from);
        stands = standing_on i x.to y.to x.stands y.stands;
        fits = λ g. f (x.fits (λ k h. g k (omega arith))) (y.fits g);
      }

  moved_as : {T : Target} {a c : Rule} {i : ℕ} {e : Token} (x : Moved T a i e) → (Fits T.scan a (T.nth i) (T.nth x.to) → Fits T.scan c (T.nth i) (T.nth x.to)) → Moved T c i e
  moved_as x f = record { to = x.to; is = x.is; from = x.from; stands = x.stands; fits = λ g. f (x.fits g) }

  moved_none : {T : Target} {c : Rule} {t : Token} (i : ℕ) → t ≡ numbered q i → Fits T.scan c (T.nth i) (T.nth i) → Moved T c i t
  moved_none i z f = record { to = i; is = z; from = omega arith; stands = λ k l h. absurd (omega arith); fits = λ g. f }

  moved : {T : Target} {r w : Rule} {t e : Token} → Same T r w → Fits (by_number q) r t e → (i : ℕ) → t ≡ numbered q i → Moved T w i e
  moved {T} (sets {p = p} {o = o} f g) (one {t = t} h) i z =
      let y : p (numbered q i) ≡ true = subst (λ (u : Token). p u ≡ true) z h in
      record {
        to = suc i;
        is = ap (λ (u : Token). numbered q (suc u.start)) z;
        from = omega arith;
        stands = λ k l m. let n : k ≡ i = omega arith in rw n (g i y);
        fits = λ a. let b = a i (omega arith) in subst (λ (u : Token). Fits T.scan (set o) (T.nth i) u) (T.next i) (one (f i b.0 b.1 y));
      }
  moved (thens a b) (join f g) i z = let x = moved a f i z in moved_on x (moved b g x.to x.is) join
  moved (ors a b) (left f) i z = moved_as (moved a f i z) left
  moved (ors a b) (right f) i z = moved_as (moved b f i z) right
  moved (maybes a) none i z = moved_none i z none
  moved (maybes a) (just f) i z = moved_as (moved a f i z) just
  moved (manys a) stop i z = moved_none i z stop
  moved (manys a) (more f g) i z = let x = moved a f i z in moved_on x (moved (manys a) g x.to x.is) more

  -- ---- the query's own tokens that fit a rule, from one number to another
  abbrev pub Sames : (Scan → Rule) → Type 0
  Sames r = (T : Target) → Same T (r (by_number q)) (r T.scan)

  pub record Read (r : Scan → Rule) (i j : ℕ) : Type 0 where
    pub from : i ≤ j
    pub stands : Standing i j
    pub fits : (T : Target) → Agrees T j → Fits T.scan (r T.scan) (T.nth i) (T.nth j)

  -- the query's tokens as a target
  itself : Target
  itself = record { scan = by_number q; nth = numbered q; next = λ k. refl }

  start_of : {e : Token} {i j : ℕ} → e ≡ numbered q i → e ≡ numbered q j → i ≡ j
  start_of y z = ap (λ (u : Token). u.start) (sym y ∙ z)

  pub read : {r : Scan → Rule} → Sames r → (i j : ℕ) → Fits (by_number q) (r (by_number q)) (numbered q i) (numbered q j) → Read r i j
  read {r} a i j f =
      let x = moved (a itself) f i refl in
      let y : x.to ≡ j = start_of x.is refl in
      record { from = rw y at x.from; stands = rw y at x.stands; fits = λ T. there T (moved (a T) f i refl) }
    where
      there : (T : Target) → Moved T (r T.scan) i (numbered q j) → Agrees T j → Fits T.scan (r T.scan) (T.nth i) (T.nth j)
      there T x = let y : x.to ≡ j = start_of x.is refl in rw y at x.fits

  -- what fits ends at a number
  pub at_number : (r : Scan → Rule) → Sames r → (i : ℕ) (e : Token) → Fits (by_number q) (r (by_number q)) (numbered q i) e → (P : Token → Type 0)
      → ((j : ℕ) → Fits (by_number q) (r (by_number q)) (numbered q i) (numbered q j) → P (numbered q j)) → P e
  at_number r a i e f P g =
      let x = moved (a itself) f i refl in
      subst P (sym x.is) (g x.to (subst (λ (u : Token). Fits (by_number q) (r (by_number q)) (numbered q i) u) x.is f))

  -- ---- tokens from the i-th up to the x-th begin a rule
  pub record Begun (r : Scan → Rule) (i x : ℕ) : Type 0 where
    pub from : i ≤ x
    pub stands : Standing i x
    pub completion : List Completion → List Completion
    pub fits : (T : Target) (d : List Completion) → Agrees T x → Follows T x (completion d) → Fitted T (r T.scan) i d

  -- before its first token
  pub here : {r : Scan → Rule} → Completable r → (x : ℕ) → Begun r x x
  here a x = record { from = omega arith; stands = λ k l h. absurd (omega arith); completion = a.completion; fits = λ T d g f. a.completes T d x f }

  -- in the first of two parts
  pub in_first : {r w v : Scan → Rule} {i x : ℕ} → Begun r i x → Completable w
      → Joins r w v → Begun v i x
  in_first {i = i} a b c =
      record {
        from = a.from;
        stands = a.stands;
        completion = λ d. a.completion (b.completion d);
        fits = λ T d g f.
            let y = a.fits T (b.completion d) g f in
            let z = b.completes T d y.to y.follows in
            record { to = z.to; fits = c T.scan (T.nth i) (T.nth y.to) (T.nth z.to) y.fits z.fits; follows = z.follows };
      }

  -- in the second
  pub in_second : {r w v : Scan → Rule} {i j x : ℕ} → Read r i j → Begun w j x
      → Joins r w v → Begun v i x
  in_second {i = i} {j = j} {x = x} a b c =
      let l = b.from in
      record {
        from = omega (arith, a.from, b.from);
        stands = standing_on i j x a.stands b.stands;
        completion = b.completion;
        fits = λ T d g f.
            let z = b.fits T d g f in
            record { to = z.to; fits = c T.scan (T.nth i) (T.nth j) (T.nth z.to) (a.fits T (λ k h. g k (omega arith))) z.fits; follows = z.follows };
      }

  -- what begins a rule begins what has it
  pub begun_as : {r v : Scan → Rule} {i x : ℕ} → Begun r i x → Has r v → Begun v i x
  begun_as {i = i} a c =
      record {
        from = a.from;
        stands = a.stands;
        completion = a.completion;
        fits = λ T d g f. let z = a.fits T d g f in record { to = z.to; fits = c T.scan (T.nth i) (T.nth z.to) z.fits; follows = z.follows };
      }
