-- One law for each exit of the functions that read a text with or without unknown digits.
use Prim.Native.Nat.{ℕ, ◌+◌, ◌-◌, ◌≤◌, ◌<◌}
use mathlib.Core.Path.{◌≡◌, refl, sym, ◌∙◌}
use mathlib.Core.Bool.{Bool, true, false, not, ◌||◌}
use mathlib.Core.List.{List}
use native.Mathlib.Omega.{arith}
use lib.ListN.{length}
use lib.Dec.{ltb}
use lib.IntN.{ℤ}
use mir.Syntax.{w64}
use mir.Val.{to_z, of_z}
use mir.Facts.{to_z-of_z}
use borrow.Author.Tests.{ltb-true, ltb-false, not-true, not-false}
use Rattle.base.specs.Part.{byte_at}
use Rattle.base.specs.Digit.{all_digits}
use Rattle.base.proofs.DecimalDigits.{decimal_digits}
use Rattle.datetime.specs.Text.{shaped, has_colon}
use Rattle.datetime.specs.Exact.{is_timestamp, is_interval, microseconds}
use Rattle.datetime.specs.Unknown.{known, Starless, tailed, may_start, lowest_text, highest_text}
use Rattle.datetime.specs.Datetime.{says_to, says_datetime, span_to, sorted, datetime_of}
use Rattle.datetime.specs.declared.Span.{Span}
use Rattle.datetime.specs.declared.Datetime.{Datetime}
use Rattle.datetime.specs.declared.Datetime.TheVariants.{Malformed}
use Rattle.datetime.proofs.Bounds.{shape_of}
use Rattle.datetime.proofs.Moments.{microseconds_fit}
use Rattle.datetime.proofs.Laws.{exact_shaped}
use Rattle.datetime.proofs.Known.{all_known, known_most}
use Rattle.datetime.proofs.NothingUnknown.{lowest_whole, highest_whole, says_whole}
use Rattle.datetime.proofs.Highest.{text_long, lowest_exact, highest_exact}

-- a text of digits has no star
module _ (s : List ℕ) (shape : shaped s ≡ true) where
  starless : Starless s
  starless i h e = front (ltb i 14) refl
    where
      digit : (at n : ℕ) → all_digits 10 s at n ≡ true → at ≤ i → i < at + n → ⊥
      digit at n d a b =
          let z : at + (i - at) ≡ i = omega arith in
          let f : 48 ≤ byte_at s (at + (i - at)) = (decimal_digits s at n (i - at) d (omega arith)).0 in
          let g : 48 ≤ byte_at s i = rw z at f in
          omega arith

      back : (c : Bool) → ltb i 15 ≡ c → 14 ≤ i → ⊥
      back true f l =
          let g = ltb-true i 15 f in
          let z : i ≡ 14 = omega arith in
          let p : byte_at s i ≡ 46 = rw z (shape_of s shape).point in
          omega arith
      back false f l = digit 15 6 (shape_of s shape).after_point.2 (ltb-false i 15 f) (omega arith)

      front : (c : Bool) → ltb i 14 ≡ c → ⊥
      front true f = digit 0 14 ((shape_of s shape).before_point 0 14 (omega arith)).2 (omega arith) (let g = ltb-true i 14 f in omega arith)
      front false f = back (ltb i 15) refl (ltb-false i 14 f)

  pub known_whole : known s ≡ 21
  known_whole = (all_known s).1 starless

-- a text without unknown digits
module _ {r : Bool} (s : List ℕ) (told : r ≡ (is_timestamp s || is_interval s)) (exact : r ≡ true) where
  pub is_exact : (is_timestamp s || is_interval s) ≡ true
  is_exact = sym told ∙ exact

  all : known s ≡ 21
  all = known_whole s (exact_shaped s is_exact)

  pub exact_says : true ≡ says_datetime s
  exact_says = sym (rw all (says_whole s ∙ is_exact))

  pub exact_read : {m : ℤ} {d : Datetime} → m ≡ microseconds s
      → d ≡ sorted (has_colon s) (record { lowest = to_z w64 (of_z w64 m); highest = to_z w64 (of_z w64 m) }) → d ≡ datetime_of s
  unfolding datetime_of
  exact_read e f = f ∙ rw (e, to_z-of_z (microseconds_fit s is_exact), all, says_whole s, is_exact, lowest_whole s, highest_whole s) refl

-- the tests of a text with unknown digits
module _ {k : ℕ} (s : List ℕ) (is : k ≡ known s) where
  module _ {p : Bool} (tail : p ≡ tailed k s) where
    pub no_tail : not p ≡ true → false ≡ says_datetime s
    no_tail h = rw (← is, ← tail, not-true p h)

    module _ {q : Bool} (tails : not p ≡ false) (start : q ≡ may_start (has_colon s) k) where
      pub no_start : not q ≡ true → false ≡ says_datetime s
      no_start h = rw (← is, ← tail, not-false p tails, ← start, not-true q h)

      pub known_digits : not q ≡ false → {t : List ℕ} → t ≡ lowest_text k s → {r : Bool} → r ≡ (is_timestamp t || is_interval t) → r ≡ says_datetime s
      known_digits h e f = f ∙ rw (← is, ← tail, not-false p tails, ← start, not-false q h, e) refl

pub says_long : (s : List ℕ) → known s ≤ 21 → (length s ≡ 25 → ⊥) → false ≡ says_datetime s
says_long s few h = go (says_datetime s) refl
  where
    go : (b : Bool) → says_datetime s ≡ b → false ≡ b
    go true e = absurd (h (text_long (known s) s few e))
    go false e = refl

-- what is read
module _ {r : Bool} (s : List ℕ) (told : r ≡ says_datetime s) where
  pub says_nothing : not r ≡ true → Malformed ≡ datetime_of s
  unfolding datetime_of
  says_nothing h = rw (← told, not-true r h)

  module _ (good : not r ≡ false) where
    pub says_so : says_datetime s ≡ true
    says_so = sym told ∙ not-false r good

    pub says_span : {x : Span} {d : Datetime} → x ≡ span_to (known s) s → d ≡ sorted (has_colon s) x → d ≡ datetime_of s
    unfolding datetime_of
    says_span e f = f ∙ rw (says_so, e) refl

-- the span, from the two texts
module _ {k : ℕ} (s : List ℕ) (said : says_datetime s ≡ true) (is : k ≡ known s) where
  pub says_known : says_to k s ≡ true
  says_known = rw is said

  module _ {t : List ℕ} (low : t ≡ lowest_text k s) where
    pub lowest_read : (is_timestamp t || is_interval t) ≡ true
    lowest_read = rw (low, is) (lowest_exact (known s) s (known_most s) said)

    module _ {m : ℤ} (lowest : m ≡ microseconds t) {u : List ℕ} (high : u ≡ highest_text k s) where
      pub spans : {n : ℤ} → n ≡ microseconds u → ◌≡◌ {A = Span} (record { lowest = to_z w64 (of_z w64 m); highest = to_z w64 (of_z w64 n) }) (span_to (known s) s)
      spans highest =
          let a = microseconds_fit (lowest_text (known s) s) (lowest_exact (known s) s (known_most s) said) in
          let b = microseconds_fit (highest_text (known s) s) (highest_exact (known s) s (known_most s) said) in
          rw (lowest, highest, low, high, is, to_z-of_z a, to_z-of_z b) refl

  pub highest_read : {u : List ℕ} → u ≡ highest_text k s → (is_timestamp u || is_interval u) ≡ true
  highest_read e = rw (e, is) (highest_exact (known s) s (known_most s) said)
