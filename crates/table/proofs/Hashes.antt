-- Names that are the same have the same hash, so a name whose hash no name before has is new. Assumes nothing.
use Prim.Native.Nat.{ℕ, ◌+◌, ◌*◌, ◌%◌, ◌≤◌, ◌<◌}
use mathlib.Core.List.{List, [], ◌∷◌, ◌++◌}
use mathlib.Core.Bool.{Bool, true, false, not, ◌||◌}
use mathlib.Core.Path.{◌≡◌, refl, sym, ap, ◌∙◌}
use native.Mathlib.Numerals.{add-one}
use native.Mathlib.Omega.{arith}
use native.Mathlib.Nat.{mod-lt}
use lib.ListN.{length, get_or, take, drop, set, length-set}
use lib.Seq.{length-take-le, take-suc, take-set-le, get_or-set_same}
use lib.Dec.{eqb}
use borrow.Author.Tests.{eq-eqb, eqb-true, not-true}
use Rattle.base.proofs.Lists.{left_next, at_end_law}
use Rattle.base.proofs.Says.{and_both, apart}
use Rattle.record.specs.Name.{lower, same_name}
use Rattle.record.specs.Reserved.{among}
use Rattle.table.specs.Hash.{hash_from, hash_of, has_hash, hashes_of}

-- the hash, one byte further and at the end
module _ (s : List ℕ) (i h : ℕ) (inv : hash_of s ≡ hash_from h (drop i s)) where
  pub hash_next : i < length s → {b : ℕ} → b ≡ lower (get_or s i 0) → hash_of s ≡ hash_from ((h * 31 + b) % 65536) (drop (i + 1) s)
  unfolding hash_from
  hash_next l e = inv ∙ rw (left_next s i l, e)

  pub hash_end : length s ≤ i → h ≡ hash_of s
  unfolding hash_from
  hash_end l = sym (inv ∙ at_end_law (hash_from h) s i l)

pub hash_below : (n : ℕ) → n % 65536 < 65536
hash_below n = mod-lt n (omega arith)

same_hash : (a b : List ℕ) (h : ℕ) → same_name a b ≡ true → hash_from h a ≡ hash_from h b
unfolding same_name hash_from
same_hash [] [] h e = refl
same_hash [] (y ∷ ys) h e = absurd (apart e)
same_hash (x ∷ xs) [] h e = absurd (apart e)
same_hash (x ∷ xs) (y ∷ ys) h e =
    let p = and_both (eqb (lower x) (lower y)) (same_name xs ys) e in
    rw (eqb-true (lower x) (lower y) p.0) (same_hash xs ys ((h * 31 + lower y) % 65536) p.1)

-- a list of hashes, one further and at the end
or_true : (a : Bool) → (a || true) ≡ true
or_true true = refl
or_true false = refl

or_or : (a b c : Bool) → ((a || b) || c) ≡ (a || (b || c))
or_or true b c = refl
or_or false b c = refl

module _ (hashes : List ℕ) (i h : ℕ) (found : Bool) (inv : has_hash h hashes ≡ (found || has_hash h (drop i hashes))) where
  pub has_next : i < length hashes → has_hash h hashes ≡ ((found || eqb (get_or hashes i 0) h) || has_hash h (drop (i + 1) hashes))
  unfolding has_hash
  has_next l = inv ∙ rw (left_next hashes i l) (sym (or_or found (eqb (get_or hashes i 0) h) (has_hash h (drop (i + 1) hashes))))

  pub has_end : length hashes ≤ i → found ≡ has_hash h hashes
  unfolding has_hash
  has_end l = sym (inv ∙ ap (λ (b : Bool). found || b) (at_end_law (has_hash h) hashes i l) ∙ or_false found)
    where
      or_false : (a : Bool) → (a || false) ≡ a
      or_false true = refl
      or_false false = refl

-- a name among others has its hash among theirs
has_among : (name : List ℕ) (names : List (List ℕ)) → among name names ≡ true → has_hash (hash_of name) (hashes_of names) ≡ true
unfolding among has_hash hashes_of
has_among name [] e = e
has_among name (other ∷ names) e = go (same_name name other) refl e (has_among name names)
  where
    go : (t : Bool) → same_name name other ≡ t → (t || among name names) ≡ true → (among name names ≡ true → has_hash (hash_of name) (hashes_of names) ≡ true)
        → (eqb (hash_of other) (hash_of name) || has_hash (hash_of name) (hashes_of names)) ≡ true
    go true s f g = rw (eq-eqb (hash_of other) (hash_of name) (sym (same_hash name other 0 s)))
    go false s f g = rw (g f) (or_true (eqb (hash_of other) (hash_of name)))

-- one name more
hashes_more : (names : List (List ℕ)) (name : List ℕ) → hashes_of (names ++ (name ∷ [])) ≡ hashes_of names ++ (hash_of name ∷ [])
unfolding hashes_of
hashes_more [] name = refl
hashes_more (n ∷ names) name = ap (λ (l : List ℕ). hash_of n ∷ l) (hashes_more names name)

pub hashes_set : (hashes : List ℕ) (n : ℕ) (names : List (List ℕ)) (name : List ℕ) (h : ℕ) → n < length hashes → take n hashes ≡ hashes_of names → h ≡ hash_of name
    → take (n + 1) (set hashes n h) ≡ hashes_of (names ++ (name ∷ []))
hashes_set hashes n names name h l e f =
    let w : n < length (set hashes n h) = rw (length-set hashes n h) l in
    rw (add-one n, take-suc (set hashes n h) n 0 w, take-set-le n hashes n h (omega arith), get_or-set_same hashes n h 0 l, e, f, hashes_more names name)

pub hashes_taken : (hashes : List ℕ) (n : ℕ) → length hashes ≡ 128 → n < 128 → n ≡ length (take n hashes)
hashes_taken hashes n e l = sym (length-take-le n hashes (omega arith))

pub hashes_size : (hashes : List ℕ) (n h : ℕ) → length hashes ≡ 128 → length (set hashes n h) ≡ 128
hashes_size hashes n h e = length-set hashes n h ∙ e

-- a name whose hash no name has is new
module _ (name : List ℕ) (names : List (List ℕ)) (h : ℕ) (e : h ≡ hash_of name) (hashes : List ℕ) (all : hashes ≡ hashes_of names) (r : Bool) (f : r ≡ has_hash h hashes) where
  pub new_name : not r ≡ true → false ≡ among name names
  new_name n = go (among name names) refl
    where
      go : (t : Bool) → among name names ≡ t → false ≡ t
      go true a = absurd (apart (sym (sym f ∙ not-true r n) ∙ rw (e, all) (has_among name names a)))
      go false a = refl
