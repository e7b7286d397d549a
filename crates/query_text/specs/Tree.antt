-- The same comparisons as 5.2.9 binds them: OR of ANDs of groups, each OR of ANDs of comparisons.
use Rattle.std.specs.Prelude.{Bool, true, false, not, ◌&&◌, ◌||◌}
use Rattle.terminal.specs.declared.operator.BoolOp.TheVariants.{And, Or}
use Rattle.syntax.specs.declared.comparison.Comparison.{Comparison}
use Rattle.query_text.specs.declared.join.Join.{Join}
use Rattle.query_text.specs.declared.join.Join.TheVariants.{Last, Inner, Outer}
use Rattle.query_text.specs.Query.{Comparisons, only, more}

-- one or more
pub data Chain (A : Type 0) : Type 0 where
  one : A → Chain A
  then : A → Chain A → Chain A

unfoldable pub front : {A : Type 0} → (A → A) → Chain A → Chain A
front f (one a) = one (f a)
front f (then a r) = then (f a) r

abbrev pub Group : Type 0
Group = Chain (Chain Comparison)

abbrev pub Tree : Type 0
Tree = Chain (Chain Group)

abbrev pub join : Comparison → Join → Tree → Tree
join c Last t = t
join c (Inner And) t = front (front (front (then c))) t
join c (Inner Or) t = front (front (then (one c))) t
join c (Outer And) t = front (then (one (one c))) t
join c (Outer Or) t = then (one (one (one c))) t

unfoldable pub tree : Comparisons → Tree
tree (only c) = one (one (one (one c)))
tree (more c j r) = join c j (tree r)

unfoldable pub every : {A : Type 0} → (A → Bool) → Chain A → Bool
every v (one a) = v a
every v (then a r) = v a && every v r

unfoldable pub some : {A : Type 0} → (A → Bool) → Chain A → Bool
some v (one a) = v a
some v (then a r) = v a || some v r

-- what a query comes to where each comparison comes to v
unfoldable pub holds : (Comparison → Bool) → Tree → Bool
holds v t = some (every (some (every v))) t

-- one step of an evaluator: what the closed and the open chains have come to so far, outermost first
pub record State : Type 0 where
  pub ors : Bool
  pub ands : Bool
  pub group_ors : Bool
  pub group_ands : Bool

abbrev pub state : Bool → Bool → Bool → Bool → State
state o a g h = record { ors = o; ands = a; group_ors = g; group_ands = h }

-- a comparison is judged where nothing before it has decided its chains
abbrev pub live : State → Bool
live s = (not s.ors && s.ands) && (not s.group_ors && s.group_ands)

unfoldable pub total : State → Bool → Bool
total s b = s.ors || (s.ands && (s.group_ors || (s.group_ands && b)))

unfoldable pub step : Join → State → Bool → State
step Last s b = s
step (Inner And) s b = state s.ors s.ands s.group_ors (s.group_ands && b)
step (Inner Or) s b = state s.ors s.ands (s.group_ors || (s.group_ands && b)) true
step (Outer And) s b = state s.ors (s.ands && (s.group_ors || (s.group_ands && b))) false true
step (Outer Or) s b = state (total s b) true false true
