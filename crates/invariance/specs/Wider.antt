-- 02 Q-2: "A query keeps its answer on a conforming instance when the same whole numbers are stored in a wider kind, in table and instance alike, and the instance is
-- still within its 65,535 bytes." Stated of any two kinds of integers, whatever their widths and signs: what counts is that both hold the number.
use Rattle.std.specs.Prelude.{ℕ, ◌≤◌, List, [], ◌∷◌, ◌≡◌, ◌⊎◌, length}
use Rattle.base.specs.Part.{part}
use Rattle.record.specs.Record.{Records, item, ended, records, Fit}
use Rattle.record.specs.Kind.{kind_of}
use Rattle.record.specs.declared.kind.Family.TheVariants.{Integer}
use Rattle.record.specs.declared.kind.ValueType.{ValueType}
use Rattle.record.specs.declared.kind.Kind.{Kind}
use Rattle.record.specs.declared.kind.Kind.TheVariants.{Scalar, Array}
use Rattle.table.specs.Properties.{kinds_of}
use Rattle.instance.specs.Value.{whole_in}
use Rattle.instance.specs.Conforms.{Conforms}
use Rattle.filter.specs.Check as filter-check
use Rattle.filter.specs.Evaluate as filter-evaluate

-- two types of integers
abbrev pub Integers : ValueType → ValueType → Type 0
Integers a b = (a.family ≡ Integer) × (b.family ≡ Integer)

-- records in pairs, as many in `s` as in `u`
pub data Paired (s u : List ℕ) (Pair : (kind : ℕ) (body : List ℕ) (other : ℕ) (stored : List ℕ) → Type 0) : Records → Records → Type 0 where
  ends : Paired s u Pair ended ended
  both : {p k a n o l b m : ℕ} {rs qs : Records} → Pair k (part s a n) l (part u b m) → Paired s u Pair rs qs
      → Paired s u Pair (item p k a n rs) (item o l b m qs)

-- ---- the tables: the same names, and the same kinds but for integers
pub data IntegerKinds : Kind → Kind → Type 0 where
  scalars : {a b : ValueType} → Integers a b → IntegerKinds (Scalar a) (Scalar b)
  arrays : {e f : ℕ} {a b : ValueType} → Integers a b → IntegerKinds (Array e a) (Array f b)

-- the other kind may be wider or narrower
abbrev pub Widens : (kind other : ℕ) → Type 0
Widens k l = (k ≡ l) ⊎ IntegerKinds (kind_of k) (kind_of l)

abbrev pub SameName : (kind : ℕ) (name : List ℕ) (other : ℕ) (name' : List ℕ) → Type 0
SameName k x l y = Widens k l × (x ≡ y)

-- ---- the instances: NULL in both, the same record, or the same whole numbers
abbrev pub BothNull : (kind other : ℕ) (stored : List ℕ) → Type 0
BothNull k l y = (k ≡ 0) × ((l ≡ 0) × (length y ≡ 0))

abbrev pub SameNumber : ValueType → ValueType → (body stored : List ℕ) → Type 0
SameNumber a b x y = (length y ≡ b.width) × (whole_in b.signed y ≡ whole_in a.signed x)

abbrev pub SameElement : (e f : ℕ) → ValueType → ValueType → (kind : ℕ) (body : List ℕ) (other : ℕ) (stored : List ℕ) → Type 0
SameElement e f a b k x l y = BothNull k l y ⊎ ((k ≡ e) × ((l ≡ f) × SameNumber a b x y))

pub data SameBody : Kind → Kind → (body stored : List ℕ) → Type 0 where
  scalar : {a b : ValueType} {x y : List ℕ} → Integers a b → SameNumber a b x y → SameBody (Scalar a) (Scalar b) x y
  array : {e f : ℕ} {a b : ValueType} {x y : List ℕ} → Integers a b → Paired x y (SameElement e f a b) (records x 0) (records y 0)
      → SameBody (Array e a) (Array f b) x y

pub data SameRecord (k l kind : ℕ) (body : List ℕ) (other : ℕ) (stored : List ℕ) : Type 0 where
  null : BothNull kind other stored → SameRecord k l kind body other stored
  kept : k ≡ l → kind ≡ other → body ≡ stored → SameRecord k l kind body other stored
  integers : kind ≡ k → other ≡ l → SameBody (kind_of k) (kind_of l) body stored → SameRecord k l kind body other stored

-- one record per property; of further records only the lengths must fit
pub data SameNumbers (i j : List ℕ) : (kinds others : List ℕ) → Records → Records → Type 0 where
  further : {rs qs : Records} → Fit qs → SameNumbers i j [] [] rs qs
  next : {k l : ℕ} {ks ls : List ℕ} {p kind a n o other b m : ℕ} {rs qs : Records} → SameRecord k l kind (part i a n) other (part j b m)
      → SameNumbers i j ks ls rs qs → SameNumbers i j (k ∷ ks) (l ∷ ls) (item p kind a n rs) (item o other b m qs)

-- table `u` and instance `j` in the place of `t` and `i`: wider, or of any width that holds the numbers
pub record Wider (t i u j : List ℕ) : Type 0 where
  pub tables : Paired t u SameName (records t 0) (records u 0)
  pub numbers : SameNumbers i j (kinds_of t) (kinds_of u) (records i 0) (records j 0)
  pub within : length j ≤ 65535

-- the other instance conforms; check and evaluation say the same, verdict and steps or number and place
pub record KeepsAnswer (q t i u j : List ℕ) : Type 0 where
  pub conforms : Conforms u j
  pub checks : filter-check.check q u ≡ filter-check.check q t
  pub answers : filter-evaluate.evaluate q u j ≡ filter-evaluate.evaluate q t i
