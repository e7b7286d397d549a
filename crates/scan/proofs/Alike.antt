-- Two texts alike for a while: the same bytes from a place in each, up to places at which each has a byte that ends every word and number
-- (whitespace, `)`) or ends itself. Places that are as far on are those i and j with i + b ≡ j + a.
use Prim.Native.Nat.{ℕ, zero, suc, ◌+◌, ◌-◌, ◌≤◌, ◌<◌}
use mathlib.Core.Path.{◌≡◌, refl, sym, ap, ◌∙◌}
use mathlib.Core.List.{List, ◌++◌}
use mathlib.Core.Bool.{Bool, true, false, ◌||◌, true≢false, false≢true}
use native.Mathlib.Omega.{arith}
use lib.ListN.{length, get_or, drop, length-drop, length-append, get_or-append}
use lib.Seq.{ext_get_or, get_or-take, get_or-drop, length-take-le, get_or-append-add}
use Rattle.base.proofs.Lists.{byte_past}
use lib.Dec.{ltb, eqb}
use borrow.Author.Tests.{ltb-true, ltb-false, le-ltb, eqb-true}
use Rattle.base.specs.Range.{within}
use Rattle.base.specs.Part.{part, byte_at}
use Rattle.base.specs.Digit.{digit_of, value_of}
use Rattle.record.specs.Name.{letter, name_byte}
use Rattle.scan.specs.declared.Class.{Class}
use Rattle.scan.specs.declared.Class.TheVariants.{White, Word, Digit}
use Rattle.scan.specs.Class.{white, in_class, run}
use Rattle.scan.proofs.Runs.{run_from, run_holds, run_stops, run_longest, white_no_zero}

-- TAB, CR, LF, space, `)`; 0 is read past the end
unfoldable pub stop : ℕ → Bool
stop b = eqb b 0 || (eqb b 41 || white b)

-- a property of each
pub at_stops : (P : ℕ → Type 0) → P 0 → P 41 → P 9 → P 13 → P 10 → P 32 → (b : ℕ) → stop b ≡ true → P b
unfolding stop white
at_stops P p0 p41 p9 p13 p10 p32 b h = go (eqb b 0) refl (eqb b 41) refl (eqb b 9) refl (eqb b 13) refl (eqb b 10) refl (eqb b 32) refl h
  where
    is : (k : ℕ) → P k → eqb b k ≡ true → P b
    is k p e = rw (eqb-true b k e) p

    go : (t : Bool) → eqb b 0 ≡ t → (u : Bool) → eqb b 41 ≡ u → (v : Bool) → eqb b 9 ≡ v → (w : Bool) → eqb b 13 ≡ w → (x : Bool) → eqb b 10 ≡ x → (y : Bool) → eqb b 32 ≡ y
        → (t || (u || (v || (w || (x || y))))) ≡ true → P b
    go true e u f v g w i x j y k h = is 0 p0 e
    go false e true f v g w i x j y k h = is 41 p41 f
    go false e false f true g w i x j y k h = is 9 p9 g
    go false e false f false g true i x j y k h = is 13 p13 i
    go false e false f false g false i true j y k h = is 10 p10 j
    go false e false f false g false i false j true k h = is 32 p32 k
    go false e false f false g false i false j false k h = absurd (false≢true h)

-- a test that no stop passes
abbrev pub NoStop : (ℕ → Bool) → Type 0
NoStop p = (x : ℕ) → stop x ≡ true → p x ≡ false

pub word_stop : NoStop (in_class Word)
unfolding in_class name_byte letter within
word_stop = at_stops (λ (x : ℕ). in_class Word x ≡ false) refl refl refl refl refl refl

pub digit_stop : (base : ℕ) → base ≤ 16 → NoStop (in_class (Digit base))
unfolding in_class digit_of within
digit_stop base h = let z = le-ltb 16 base h in at_stops (λ (x : ℕ). in_class (Digit base) x ≡ false) z z z z z z

-- parts of two texts that have the same bytes
pub part_same : (q : List ℕ) (i : ℕ) (r : List ℕ) (j n : ℕ) → i + n ≤ length q → j + n ≤ length r → ((m : ℕ) → m < n → byte_at q (i + m) ≡ byte_at r (j + m)) → part q i n ≡ part r j n
part_same q i r j n h k same = ext_get_or 0 (part q i n) (part r j n) (len q i h ∙ sym (len r j k)) (λ m p. each m (rw (len q i h) at p))
  where
    len : (s : List ℕ) (x : ℕ) → x + n ≤ length s → length (part s x n) ≡ n
    len s x h = length-take-le n (drop x s) (rw (length-drop x s) (omega arith))

    byte : (s : List ℕ) (x m : ℕ) → m < n → get_or (part s x n) m 0 ≡ byte_at s (x + m)
    byte s x m p = rw (get_or-take, get_or-drop)

    each : (m : ℕ) → m < n → get_or (part q i n) m 0 ≡ get_or (part r j n) m 0
    each m p = byte q i m p ∙ same m p ∙ sym (byte r j m p)

pub record Alike (q r : List ℕ) (a b k l : ℕ) : Type 0 where
  pub starts : a ≤ k
  pub ends : k + b ≡ l + a
  pub first_within : k ≤ length q
  pub second_within : l ≤ length r
  pub first_stop : stop (byte_at q k) ≡ true
  pub second_stop : stop (byte_at r l) ≡ true
  pub same : (i j : ℕ) → a ≤ i → i < k → i + b ≡ j + a → byte_at q i ≡ byte_at r j

pub turn : {q r : List ℕ} {a b k l : ℕ} → Alike q r a b k l → Alike r q b a l k
turn A =
    record {
      starts = omega (arith, A.starts, A.ends);
      ends = omega (arith, A.ends);
      first_within = A.second_within;
      second_within = A.first_within;
      first_stop = A.second_stop;
      second_stop = A.first_stop;
      same = λ i j h k e. sym (A.same j i (omega (arith, A.starts, A.ends)) (omega (arith, A.starts, A.ends)) (omega arith));
    }

module _ {q r : List ℕ} {a b k l : ℕ} (A : Alike q r a b k l) where
  -- a run that ends before the stop, or whose class the stop is not of
  pub run_alike : (c : Class) → in_class c 0 ≡ false → (i j : ℕ) → a ≤ i → i + b ≡ j + a → run c q i ≤ k
      → (run c q i ≡ k → in_class c (byte_at r l) ≡ false) → run c q i + b ≡ run c r j + a
  run_alike c z i j h e w n =
      omega (arith, run_longest c z r j (run c q i - i) (λ m p. moved m p), up (ltb (run c q i + b) (run c r j + a)) refl, run_from c q i)
    where
      moved : (m : ℕ) → m < run c q i - i → in_class c (byte_at r (j + m)) ≡ true
      moved m p = rw (← A.same (i + m) (j + m) (omega arith) (omega arith) (omega arith)) (run_holds c q i (i + m) (omega arith) (omega arith))

      no_further : run c q i + b < run c r j + a → in_class c (byte_at r (run c q i + b - a)) ≡ false
      no_further t = go (ltb (run c q i) k) refl
        where
          f : i ≤ run c q i
          f = run_from c q i

          go : (t : Bool) → ltb (run c q i) k ≡ t → in_class c (byte_at r (run c q i + b - a)) ≡ false
          go true u = let v = ltb-true (run c q i) k u in rw (← A.same (run c q i) (run c q i + b - a) (omega (arith, f)) v (omega (arith, f))) (run_stops c z q i)
          go false u =
              let v = ltb-false (run c q i) k u in
              let g = A.ends in
              let s = A.starts in
              let y : run c q i + b - a ≡ l = omega arith in
              rw y (n (omega arith))

      up : (t : Bool) → ltb (run c q i + b) (run c r j + a) ≡ t → run c r j + a ≤ run c q i + b
      up true t =
          let u = ltb-true (run c q i + b) (run c r j + a) t in
          let f = run_from c q i in
          absurd (true≢false (sym (run_holds c r j (run c q i + b - a) (omega arith) (omega arith)) ∙ no_further u))
      up false t = ltb-false (run c q i + b) (run c r j + a) t

  -- whitespace that ends before the stop
  pub white_alike : (i j : ℕ) → a ≤ i → i + b ≡ j + a → run White q i < k → run White q i + b ≡ run White r j + a
  white_alike i j h e w = run_alike White white_no_zero i j h e (omega arith) (λ z. absurd (omega arith))

  -- a test that no stop passes has the same answer up to the stop, and where it passes the stop is further on
  module _ (p : ℕ → Bool) (none : NoStop p) where
    pub test_alike : (i j : ℕ) → a ≤ i → i ≤ k → i + b ≡ j + a → p (byte_at q i) ≡ p (byte_at r j)
    test_alike i j s w x = go (ltb i k) refl
      where
        go : (t : Bool) → ltb i k ≡ t → p (byte_at q i) ≡ p (byte_at r j)
        go true e = ap p (A.same i j s (ltb-true i k e) x)
        go false e =
            let y : i ≡ k = omega (arith, ltb-false i k e) in
            let z : j ≡ l = omega (arith, A.ends) in
            rw (y, z) (none (byte_at q k) A.first_stop ∙ sym (none (byte_at r l) A.second_stop))

    pub before_stop : (i : ℕ) → i ≤ k → p (byte_at q i) ≡ true → i < k
    before_stop i w h = go (ltb i k) refl
      where
        go : (t : Bool) → ltb i k ≡ t → i < k
        go true e = ltb-true i k e
        go false e =
            let y : i ≡ k = omega (arith, ltb-false i k e) in
            absurd (true≢false (sym h ∙ ap (λ (n : ℕ). p (byte_at q n)) y ∙ none (byte_at q k) A.first_stop))

  -- a run of a class that no stop is of
  module _ (c : Class) (none : NoStop (in_class c)) where
    pub class_within : (i : ℕ) → i ≤ k → run c q i ≤ k
    class_within i w = go (ltb k (run c q i)) refl
      where
        go : (t : Bool) → ltb k (run c q i) ≡ t → run c q i ≤ k
        go true t = absurd (true≢false (sym (run_holds c q i k w (ltb-true k (run c q i) t)) ∙ none (byte_at q k) A.first_stop))
        go false t = ltb-false k (run c q i) t

    pub class_alike : (i j : ℕ) → a ≤ i → i ≤ k → i + b ≡ j + a → run c q i + b ≡ run c r j + a
    unfolding stop
    class_alike i j h w e = run_alike c (none 0 refl) i j h e (class_within i w) (λ z. none (byte_at r l) A.second_stop)

  -- a word
  pub word_within : (i : ℕ) → i ≤ k → run Word q i ≤ k
  word_within = class_within Word word_stop

  pub word_alike : (i j : ℕ) → a ≤ i → i ≤ k → i + b ≡ j + a → run Word q i + b ≡ run Word r j + a
  word_alike = class_alike Word word_stop

  -- digits, and the number that they make
  pub digits_within_law : (base : ℕ) → base ≤ 16 → (i : ℕ) → i ≤ k → run (Digit base) q i ≤ k
  digits_within_law base h = class_within (Digit base) (digit_stop base h)

  pub digits_alike : (base : ℕ) → base ≤ 16 → (i j : ℕ) → a ≤ i → i ≤ k → i + b ≡ j + a → run (Digit base) q i + b ≡ run (Digit base) r j + a
  digits_alike base h = class_alike (Digit base) (digit_stop base h)

  pub value_alike : (base v i j n : ℕ) → a ≤ i → i + n ≤ k → i + b ≡ j + a → value_of base v q i n ≡ value_of base v r j n
  unfolding value_of
  value_alike base v i j zero s w x = refl
  value_alike base v i j (suc n) s w x =
      rw (A.same (i + n) (j + n) (omega arith) (omega arith) (omega arith), value_alike base v i j n s (omega arith) x) refl

  -- parts before the stop
  pub part_alike : (i j n : ℕ) → a ≤ i → i + n ≤ k → i + b ≡ j + a → part q i n ≡ part r j n
  part_alike i j n h w e =
      part_same q i r j n (omega (arith, A.first_within)) (omega (arith, A.ends, A.starts, A.second_within)) (λ m p. A.same (i + m) (j + m) (omega arith) (omega arith) (omega arith))

-- texts that share a byte which is a stop, and all before it
pub up_to_stop : (q r : List ℕ) (k : ℕ) → k < length q → k < length r → ((i : ℕ) → i ≤ k → byte_at q i ≡ byte_at r i) → stop (byte_at q k) ≡ true → Alike q r 0 0 k k
up_to_stop q r k h g f e =
    record {
      starts = omega arith;
      ends = refl;
      first_within = omega arith;
      second_within = omega arith;
      first_stop = e;
      second_stop = rw (← f k (omega arith)) e;
      same = λ i j u v w. let z : j ≡ i = omega arith in rw z (f i (omega arith));
    }

-- a text by itself, and with others before and after it; what follows is empty or starts with a stop
pub inside_another : (p q s : List ℕ) → stop (byte_at s 0) ≡ true → Alike q (p ++ (q ++ s)) 0 (length p) (length q) (length p + length q)
unfolding stop
inside_another p q s h =
    record {
      starts = omega arith;
      ends = omega arith;
      first_within = omega arith;
      second_within = rw (length-append p (q ++ s), length-append q s) (omega arith);
      first_stop = rw (← byte_past q (length q) (omega arith));
      second_stop = rw (get_or-append-add p (q ++ s) (length q) 0, last) h;
      same = λ i j u v w. let z : j ≡ length p + i = omega arith in rw (z, get_or-append-add p (q ++ s) i 0, get_or-append q s 0 i v) refl;
    }
  where
    last : get_or (q ++ s) (length q) 0 ≡ byte_at s 0
    last = let z : length q ≡ length q + 0 = omega arith in ap (λ (n : ℕ). get_or (q ++ s) n 0) z ∙ get_or-append-add q s 0 0
