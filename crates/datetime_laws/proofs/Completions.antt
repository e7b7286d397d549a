-- The completions of a datetime with unknown digits: the texts without any that have its known ones. Each says a moment or a length that the datetime spans, and
-- both ends are said by one.
use Prim.Native.Nat.{ℕ, ◌+◌, ◌-◌, ◌≤◌, ◌<◌}
use mathlib.Core.Path.{◌≡◌, refl, sym, ap, ◌∙◌, subst}
use mathlib.Core.Bool.{Bool, true, false, ◌||◌}
use mathlib.Core.List.{List}
use mathlib.Core.Logic.{◌⊎◌, inl, inr, ◌↔◌}
use native.Mathlib.Nat.{eq-or-lt_of_le}
use native.Mathlib.Omega.{arith}
use lib.Dec.{eqb, ltb}
use lib.ListN.{length, take}
use lib.Seq.{ext_get_or, get_or-take, length-take-le}
use lib.Signed.{◌≤ℤ◌}
use borrow.Author.Tests.{eqb-true, ltb-true, ltb-false}
use Rattle.base.specs.Pick.{pick}
use Rattle.base.specs.Part.{byte_at}
use Rattle.base.proofs.Lists.{byte_past}
use Rattle.base.proofs.DecimalDigits.{decimal_digits}
use Rattle.datetime.specs.Text.{sign_in, has_colon}
use Rattle.datetime.specs.Exact.{timestamp, interval, is_timestamp, is_interval, microseconds, exact_of}
use Rattle.datetime.specs.Unknown.{known, filled, lowest_digits, highest_digits, last_day, lowest_text, highest_text}
use Rattle.datetime.specs.Datetime.{says_datetime, span_to, sorted, datetime_of}
use Rattle.datetime_laws.specs.Completion.{Completes, Fills, Within, lowest_of, highest_of}
use Rattle.datetime.proofs.Accepted.{never_both}
use Rattle.datetime.proofs.Bounds.{shape_of}
use Rattle.datetime.proofs.Laws.{exact_shaped}
use Rattle.datetime.proofs.Known.{known_first, known_most}
use Rattle.datetime.proofs.Sorts.{TimestampText, IntervalText, either_text, is_timestamp_law, is_interval_law, sign_is}
use Rattle.datetime.proofs.Filled.{filled_length, byte_known, byte_filled, byte_after}
use Rattle.datetime.proofs.Highest.{lowest_exact, text_long, latest, highest_exact, tail_byte}
use Rattle.datetime.proofs.NothingUnknown.{lowest_full}
use Rattle.datetime_laws.proofs.Monotone.{microseconds_grow}
use Rattle.datetime_laws.proofs.Alike.{Alike, filled_alike, same_colon}
use Rattle.datetime_laws.proofs.Ends.{from_lowest, to_highest}

-- where a byte stands
data Place (k i : ℕ) : Type 0 where
  is_known_law : i < k → Place k i
  is_unknown : k ≤ i → i < 21 → Place k i
  is_after : 21 ≤ i → Place k i

place : (k i : ℕ) → Place k i
place k i = go (ltb i k) refl (ltb i 21) refl
  where
    go : (a : Bool) → ltb i k ≡ a → (b : Bool) → ltb i 21 ≡ b → Place k i
    go true e b f = is_known_law (ltb-true i k e)
    go false e true f = is_unknown (ltb-false i k e) (ltb-true i 21 f)
    go false e false f = is_after (ltb-false i 21 f)

-- ---- a text without stars
module _ (t : List ℕ) (exact : (is_timestamp t || is_interval t) ≡ true) where
  sign_no_star : sign_in t ≡ 42 → ⊥
  sign_no_star e = go (sign_is t exact)
    where
      go : (sign_in t ≡ 43) ⊎ ((sign_in t ≡ 45) ⊎ (sign_in t ≡ 58)) → ⊥
      go (inl f) = omega arith
      go (inr (inl f)) = omega arith
      go (inr (inr f)) = omega arith

  -- no star from the sign on
  after_sign : (i : ℕ) → 21 ≤ i → i < 25 → byte_at t i ≡ 42 → ⊥
  after_sign i g h e = go (eq-or-lt_of_le g)
    where
      go : (21 ≡ i) ⊎ (21 < i) → ⊥
      go (inl f) = sign_no_star (rw f e)
      go (inr l) =
          let f : 22 + (i - 22) ≡ i = omega arith in
          let d = decimal_digits t 22 3 (i - 22) (shape_of t (exact_shaped t exact)).after_sign.2 (omega arith) in
          omega (arith, d.0, ap (byte_at t) f)

  -- the sign tells its sort
  exact_said : exact_of t ≡ pick (has_colon t) (interval (microseconds t)) (timestamp (microseconds t))
  unfolding exact_of
  exact_said = go (either_text t exact)
    where
      go : TimestampText t ⊎ IntervalText t
          → exact_of t ≡ pick (has_colon t) (interval (microseconds t)) (timestamp (microseconds t))
      go (inl x) = rw (is_timestamp_law t x, x.colon)
      go (inr x) = rw (never_both t (is_interval_law t x), is_interval_law t x, x.colon)

-- ---- a datetime, and the texts that are alike to it
module _ (s : List ℕ) (said : says_datetime s ≡ true) where
  few : known s ≤ 21
  few = known_most s

  long : length s ≡ 25
  long = text_long (known s) s few said

  pub lowest_fills : Fills s (lowest_text (known s) s)
  unfolding lowest_text
  lowest_fills = (lowest_digits (has_colon s), lowest_full (has_colon s), refl)

  pub highest_fills : Fills s (highest_text (known s) s)
  unfolding highest_text
  highest_fills = (highest_digits (has_colon s) (last_day (known s) s), go (has_colon s) refl, refl)
    where
      go : (b : Bool) → has_colon s ≡ b → length (highest_digits b (last_day (known s) s)) ≡ 21
      go true e = refl
      go false e = (latest (known s) s few said e).0.full

  fills_alike : (c : List ℕ) → Fills s c → Alike (known s) c s
  fills_alike c f = rw f.2 (filled_alike (known s) f.0 s few long f.1)

  lowest_alike : Alike (known s) (lowest_text (known s) s) s
  lowest_alike = fills_alike (lowest_text (known s) s) lowest_fills

  highest_alike : Alike (known s) (highest_text (known s) s) s
  highest_alike = fills_alike (highest_text (known s) s) highest_fills

  datetime_said : datetime_of s ≡ sorted (has_colon s) (span_to (known s) s)
  unfolding datetime_of
  datetime_said = rw said

  no_star_after : (i : ℕ) → 21 ≤ i → i < 25 → byte_at s i ≡ 42 → ⊥
  no_star_after i g h e = after_sign (lowest_text (known s) s) (lowest_exact (known s) s few said) i g h (lowest_alike.after i g ∙ e)

  module _ (c : List ℕ) where
    pub completes_alike : Completes s c → Alike (known s) c s
    completes_alike h =
        record { before = λ i l. h.kept i (omega (arith, long, few)) ((known_first s).before i (omega arith) l); after = λ i l. go i l (ltb i 25) refl }
      where
        go : (i : ℕ) → 21 ≤ i → (b : Bool) → ltb i 25 ≡ b → byte_at c i ≡ byte_at s i
        go i l true e = let m = ltb-true i 25 e in h.kept i (omega (arith, long)) (no_star_after i l m)
        go i l false e = let m = ltb-false i 25 e in sym (byte_past c i (omega (arith, h.long, long))) ∙ byte_past s i (omega (arith, long))

    -- what is known and what is filled in make it up
    pub completes_fills : Completes s c → Fills s c
    completes_fills h =
        (take 21 c, full, ext_get_or 0 c (filled (known s) (take 21 c) s) (wide ∙ sym (filled_length (known s) (take 21 c) s few long full)) (λ i l. go i (place (known s) i)))
      where
        wide : length c ≡ 25
        wide = h.long ∙ long

        full : length (take 21 c) ≡ 21
        full = length-take-le 21 c (omega (arith, wide))

        go : (i : ℕ) → Place (known s) i → byte_at c i ≡ byte_at (filled (known s) (take 21 c) s) i
        go i (is_known_law l) = (completes_alike h).before i l ∙ sym (byte_known (known s) (take 21 c) s few long full i l)
        go i (is_unknown g l) = sym (byte_filled (known s) (take 21 c) s few long full i g l ∙ get_or-take 21 c i 0 l)
        go i (is_after g) = (completes_alike h).after i g ∙ sym (byte_after (known s) (take 21 c) s few long full i g)

    -- the point stays a point
    alike_completes : Alike (known s) c s → length c ≡ 25 → byte_at c 14 ≡ 46 → Completes s c
    alike_completes a l p = record { long = l ∙ sym long; kept = λ i h n. go i n (place (known s) i) }
      where
        at_point : (i : ℕ) → (byte_at s i ≡ 42 → ⊥) → (b : Bool) → eqb i 14 ≡ b → byte_at s i ≡ pick b 46 42 → byte_at c i ≡ byte_at s i
        at_point i n true e f = ap (byte_at c) (eqb-true i 14 e) ∙ p ∙ sym f
        at_point i n false e f = absurd (n f)

        go : (i : ℕ) → (byte_at s i ≡ 42 → ⊥) → Place (known s) i → byte_at c i ≡ byte_at s i
        go i n (is_known_law h) = a.before i h
        go i n (is_unknown g h) = at_point i n (eqb i 14) refl (tail_byte (known s) s few said i g h)
        go i n (is_after g) = a.after i g

    module _ (exact : (is_timestamp c || is_interval c) ≡ true) where
      exact_completes : Alike (known s) c s → Completes s c
      exact_completes a = let h = shape_of c (exact_shaped c exact) in alike_completes a h.long h.point

      -- so the two ways to say it are one
      pub completes_exactly : Completes s c ↔ Fills s c
      completes_exactly = (completes_fills, λ f. exact_completes (fills_alike c f))

      -- of the datetime's sort
      said_alike : Alike (known s) c s → exact_of c ≡ pick (has_colon s) (interval (microseconds c)) (timestamp (microseconds c))
      said_alike a = subst (λ (b : Bool). exact_of c ≡ pick b (interval (microseconds c)) (timestamp (microseconds c))) (same_colon (known s) c s a) (exact_said c exact)

      between_alike : Alike (known s) c s → (microseconds (lowest_text (known s) s) ≤ℤ microseconds c) × (microseconds c ≤ℤ microseconds (highest_text (known s) s))
      between_alike a = (
        microseconds_grow (lowest_text (known s) s) c (from_lowest (known s) s few said c a exact),
        microseconds_grow c (highest_text (known s) s) (to_highest (known s) s few said c a exact),
      )

      -- whatever completes a datetime, and is one, is of its sort and lies between its ends
      pub completion_within : Completes s c → Within (exact_of c) (datetime_of s)
      completion_within h = rw (said_alike (completes_alike h), datetime_said) (go (has_colon s))
        where
          go : (b : Bool) → Within (pick b (interval (microseconds c)) (timestamp (microseconds c))) (sorted b (span_to (known s) s))
          go true = between_alike (completes_alike h)
          go false = between_alike (completes_alike h)

  -- in terms of the digits that are filled in
  pub between : (digits : List ℕ) → length digits ≡ 21 → (is_timestamp (filled (known s) digits s) || is_interval (filled (known s) digits s)) ≡ true
      → (microseconds (lowest_text (known s) s) ≤ℤ microseconds (filled (known s) digits s)) × (microseconds (filled (known s) digits s) ≤ℤ microseconds (highest_text (known s) s))
  between digits full exact = between_alike (filled (known s) digits s) exact (filled_alike (known s) digits s few long full)

  -- ---- the ends are such texts
  pub lowest_is : (is_timestamp (lowest_text (known s) s) || is_interval (lowest_text (known s) s)) ≡ true
  lowest_is = lowest_exact (known s) s few said

  pub lowest_completes : Completes s (lowest_text (known s) s)
  lowest_completes = exact_completes (lowest_text (known s) s) lowest_is lowest_alike

  pub lowest_reached : exact_of (lowest_text (known s) s) ≡ lowest_of (datetime_of s)
  lowest_reached = rw (said_alike (lowest_text (known s) s) lowest_is lowest_alike, datetime_said) (go (has_colon s))
    where
      go : (b : Bool) → pick b (interval (microseconds (lowest_text (known s) s))) (timestamp (microseconds (lowest_text (known s) s))) ≡ lowest_of (sorted b (span_to (known s) s))
      go true = refl
      go false = refl

  pub highest_is : (is_timestamp (highest_text (known s) s) || is_interval (highest_text (known s) s)) ≡ true
  highest_is = highest_exact (known s) s few said

  pub highest_completes : Completes s (highest_text (known s) s)
  highest_completes = exact_completes (highest_text (known s) s) highest_is highest_alike

  pub highest_reached : exact_of (highest_text (known s) s) ≡ highest_of (datetime_of s)
  highest_reached = rw (said_alike (highest_text (known s) s) highest_is highest_alike, datetime_said) (go (has_colon s))
    where
      go : (b : Bool) → pick b (interval (microseconds (highest_text (known s) s))) (timestamp (microseconds (highest_text (known s) s))) ≡ highest_of (sorted b (span_to (known s) s))
      go true = refl
      go false = refl
