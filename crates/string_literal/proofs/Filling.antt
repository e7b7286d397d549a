-- One law for each exit of `fill`.
use Prim.Native.Nat.{ℕ, suc, ◌+◌, ◌≤◌, ◌<◌}
use mathlib.Core.Path.{◌≡◌, refl, sym, ap, ◌∙◌}
use mathlib.Core.Logic.{◌⊎◌, inl, inr}
use mathlib.Core.List.{List, [], ◌∷◌, ◌++◌, append_assoc, append-nil}
use native.Mathlib.Numerals.{add-one}
use native.Mathlib.Omega.{arith}
use lib.ListN.{length, take, set, length-append, length-take, length-set}
use lib.Seq.{take-suc, take-set-le, get_or-set_same}
use borrow.Author.Tests.{le-leb, lt-leb}
use Rattle.string_literal.specs.declared.InString.{InString}
use Rattle.string_literal.specs.declared.InString.TheVariants.{Character, Close, Bad}
use Rattle.string_literal.specs.Char.{char_at}
use Rattle.string_literal.specs.Text.{text_at, characters_of, filled}
use Rattle.string_literal.proofs.Bounds.{text_character, text_close, text_bad}
use Rattle.string_literal.proofs.Laws.{char_past}
use Rattle.std.specs.Prelude.{Some, None}

module _ {r : InString} (q : List ℕ) (i : ℕ) (e : r ≡ char_at q i) where
  pub next_character : (v next : ℕ) → r ≡ Character v next → characters_of (text_at q i) ≡ v ∷ characters_of (text_at q next)
  unfolding characters_of
  next_character v next f = rw (text_character q i v next (sym e ∙ f))

  at_close : r ≡ Close → characters_of (text_at q i) ≡ []
  unfolding characters_of
  at_close f = rw (text_close q i (sym e ∙ f))

  pub at_bad : r ≡ Bad → characters_of (text_at q i) ≡ []
  unfolding characters_of
  at_bad f = rw (text_bad q i (sym e ∙ f))

  pub at_end : (r ≡ Close) ⊎ (r ≡ Bad) → characters_of (text_at q i) ≡ []
  at_end (inl f) = at_close f
  at_end (inr f) = at_bad f

pub at_past : (q : List ℕ) (i : ℕ) → length q ≤ i → characters_of (text_at q i) ≡ []
at_past q i h = at_bad q i refl (char_past q i h)

module _ (cs rest out : List ℕ) (n : ℕ) (inv : cs ≡ take n out ++ rest) (size : ℕ) (full : length out ≡ size) where
  whole_length : n ≤ size → length cs ≡ n + length rest
  whole_length h = rw (inv, length-append, length-take n out) (go n h)
    where
      go : (m : ℕ) → m ≤ size → Prim.Native.Nat.min m (length out) + length rest ≡ m + length rest
      go m l = omega arith

  pub all_in : n ≤ size → rest ≡ [] → (Some n ≡ filled size cs) × (take n out ≡ cs)
  unfolding filled
  all_in h z =
      let y : length rest ≡ 0 = ap length z in
      let l : length cs ≡ n = omega (arith, whole_length h) in
      (rw (l, le-leb n size h), sym (inv ∙ rw z (append-nil (take n out))))

  pub too_many : (v : ℕ) (more : List ℕ) → size ≤ n → n ≤ size → rest ≡ v ∷ more → None ≡ filled size cs
  unfolding filled
  too_many v more a h z =
      let l : length cs ≡ n + suc (length more) = rw z at (whole_length h) in
      rw (lt-leb (length cs) size (omega arith))

  pub one_in : (v : ℕ) (more : List ℕ) → n < size → rest ≡ v ∷ more → cs ≡ take (n + 1) (set out n v) ++ more
  one_in v more h z =
      let k : n < length out = omega arith in
      let w : n < length (set out n v) = rw (length-set out n v) k in
      rw (add-one n, take-suc (set out n v) n 0 w, take-set-le n out n v (omega arith), get_or-set_same out n v 0 k)
      (inv ∙ rw z (sym (append_assoc (take n out) (v ∷ []) more)))

pub step_in : {r : InString} {v next : ℕ} (q : List ℕ) (i : ℕ) (cs out : List ℕ) (n size : ℕ) → r ≡ char_at q i → r ≡ Character v next → cs ≡ take n out ++ characters_of (text_at q i)
    → length out ≡ size → n < size → cs ≡ take (n + 1) (set out n v) ++ characters_of (text_at q next)
step_in {r} {v} {next} q i cs out n size e f inv full h = one_in cs (characters_of (text_at q i)) out n inv size full v (characters_of (text_at q next)) h (next_character q i e v next f)
