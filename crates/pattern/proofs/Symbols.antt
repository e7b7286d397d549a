-- One law for each way out of the readers of symbols. Assumes nothing.
use mathlib.Core.Path.{◌≡◌, ap}
use mathlib.Core.List.{List}
use mathlib.Core.Bool.{Bool, true, false, not}
use Prim.Native.Nat.{ℕ, suc, ◌≤◌, ◌<◌, ◌+◌, ◌-◌}
use native.Mathlib.Omega.{arith}
use borrow.Author.Tests.{eq-eqb, ne_eqb, not-true, not-false}
use lib.ListN.{length, get_or, drop, length-drop, drop_of_length-le}
use lib.Dec.{eqb}
use Rattle.base.proofs.Lists.{left_next}
use Rattle.std.specs.Prelude.{Option, Some, None}
use Rattle.pattern.specs.Regex.{Range, in_ranges, stands_for}
use Rattle.pattern.specs.Character.{dot, backslash, open_set, circumflex, special, starts_with}
use Rattle.pattern.specs.Reading.{Reading, malformed, front, escaped, members_of, as_set, set_from, symbol}
use Rattle.pattern.specs.Answers.{bad, good, GivesMember, GivesMembers, GivesSymbol, ReadsMembers}
use Rattle.pattern.proofs.Offsets.{drop_next}
use Rattle.pattern.proofs.Sets.{member_bad, member_good}

-- ---- a set

plain_members : (s : List ℕ) (c : ℕ) (y : Option (ℕ × Bool)) (X : Reading (List Range)) → GivesMembers s c false y X → GivesSymbol s c y (as_set false X)
unfolding stands_for
plain_members s c y malformed bad = bad
plain_members s c y (front rs u) good = good

negated_none : (s : List ℕ) (c : ℕ) (y : Option (ℕ × Bool)) (X : Reading (List Range)) → GivesMembers s c false y X → y ≡ None → GivesSymbol s c None (as_set true X)
negated_none s c y malformed bad q = bad
negated_none s c y (front rs u) good q = absurd (let z : ◌≡◌ {A = ℕ} 0 1 = cc in omega arith)

negated_members : (s : List ℕ) (c : ℕ) (y : Option (ℕ × Bool)) {e : ℕ} {hit : Bool} (X : Reading (List Range)) → GivesMembers s c false y X → y ≡ Some (e, hit)
    → GivesSymbol s c (Some (e, not hit)) (as_set true X)
unfolding stands_for
negated_members s c y malformed bad q = absurd (let z : ◌≡◌ {A = ℕ} 0 1 = cc in omega arith)
negated_members s c y {e} {hit} (front rs u) (good {e = k}) q =
    let w : ◌≡◌ {A = ℕ × Bool} (k, in_ranges rs c) (e, hit) = cc in
    rw (← ap (λ (v : ℕ × Bool). v.0) w, ← ap (λ (v : ℕ × Bool). v.1) w) good

enough_members : (s : List ℕ) (at : ℕ) → length s - at < suc (length (drop at s))
enough_members s at = simp length-drop (omega arith)

module _ (s : List ℕ) (at c : ℕ) {t : Bool} (test : t ≡ starts_with circumflex (drop at s)) where
  module _ (n : not t ≡ false) {y : Option (ℕ × Bool)} (m : ReadsMembers s (at + 1) c false y) where
    read_from : GivesMembers s c false y (members_of (drop (at + 1) s))
    read_from = m (suc (length (drop (at + 1) s))) (enough_members s (at + 1))

    pub set_negated_none : y ≡ None → GivesSymbol s c None (set_from (drop at s))
    unfolding set_from
    set_negated_none q = rw (← test, not-false t n, drop_next s at) (negated_none s c y (members_of (drop (at + 1) s)) read_from q)

    pub set_negated : {e : ℕ} {hit : Bool} → y ≡ Some (e, hit) → GivesSymbol s c (Some (e, not hit)) (set_from (drop at s))
    unfolding set_from
    set_negated q = rw (← test, not-false t n, drop_next s at) (negated_members s c y (members_of (drop (at + 1) s)) read_from q)

  pub set_plain : not t ≡ true → {y : Option (ℕ × Bool)} → ReadsMembers s at c false y → GivesSymbol s c y (set_from (drop at s))
  unfolding set_from
  set_plain n {y} m = rw (← test, not-true t n) (plain_members s c y (members_of (drop at s)) (m (suc (length (drop at s))) (enough_members s at)))

-- ---- a symbol

module _ (s : List ℕ) (at c : ℕ) where
  pub symbol_end : length s ≤ at → GivesSymbol s c None (symbol (drop at s))
  unfolding symbol
  symbol_end h = rw (drop_of_length-le s h) bad

  module _ (h : at < length s) where
    pub symbol_dot : get_or s at 0 ≡ dot → GivesSymbol s c (Some (at + 1, true)) (symbol (drop at s))
    unfolding symbol stands_for
    symbol_dot q = rw (left_next s at h, eq-eqb _ _ q) good

    module _ (no-dot : get_or s at 0 ≡ dot → ⊥) where
      module _ (q : get_or s at 0 ≡ backslash) {r : Option (ℕ × ℕ)} (m : GivesMember s r (escaped (drop (at + 1) s))) where
        pub symbol_escape_end : r ≡ None → GivesSymbol s c None (symbol (drop at s))
        unfolding symbol
        symbol_escape_end p = rw (left_next s at h, ne_eqb _ _ no-dot, eq-eqb _ _ q, member_bad m p) bad

        pub symbol_escaped : {e x : ℕ} → r ≡ Some (e, x) → GivesSymbol s c (Some (e, eqb x c)) (symbol (drop at s))
        unfolding symbol stands_for
        symbol_escaped p = rw (left_next s at h, ne_eqb _ _ no-dot, eq-eqb _ _ q, member_good m p) good

      module _ (no-escape : get_or s at 0 ≡ backslash → ⊥) where
        pub symbol_set : get_or s at 0 ≡ open_set → {r : Option (ℕ × Bool)} → GivesSymbol s c r (set_from (drop (at + 1) s)) → GivesSymbol s c r (symbol (drop at s))
        unfolding symbol
        symbol_set q g = rw (left_next s at h, ne_eqb _ _ no-dot, ne_eqb _ _ no-escape, eq-eqb _ _ q) g

        module _ (no-set : get_or s at 0 ≡ open_set → ⊥) {t : Bool} (test : t ≡ special (get_or s at 0)) where
          pub symbol_special : t ≡ true → GivesSymbol s c None (symbol (drop at s))
          unfolding symbol
          symbol_special q = rw (left_next s at h, ne_eqb _ _ no-dot, ne_eqb _ _ no-escape, ne_eqb _ _ no-set, ← test, q) bad

          pub symbol_plain : t ≡ false → GivesSymbol s c (Some (at + 1, eqb (get_or s at 0) c)) (symbol (drop at s))
          unfolding symbol stands_for
          symbol_plain q = rw (left_next s at h, ne_eqb _ _ no-dot, ne_eqb _ _ no-escape, ne_eqb _ _ no-set, ← test, q) good
