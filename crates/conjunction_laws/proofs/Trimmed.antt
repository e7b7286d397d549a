-- The text of each group of an accepted query is what stands between its brackets, or the whole query without any, without outer whitespace.
use Rattle.std.specs.Prelude.{None, Ok, Some}
use Prim.Native.Nat.{ℕ, zero, suc, ◌+◌, ◌-◌, ◌≤◌, ◌<◌}
use mathlib.Core.Path.{◌≡◌, refl, sym, ap, ◌∙◌, subst}
use mathlib.Core.List.{List, [], ◌∷◌, ◌++◌}
use mathlib.Core.Bool.{Bool, true, false}
use native.Mathlib.Omega.{arith}
use lib.ListN.{length, get_or, take, drop, length-take, length-drop, get_or-append}
use lib.Seq.{take_all, take-add, drop-drop, get_or-take, get_or-drop}
use Rattle.base.specs.Part.{part, byte_at}
use Rattle.scan.specs.Class.{white, in_class, run}
use Rattle.scan.specs.declared.Class.TheVariants.{White}
use Rattle.scan.proofs.Runs.{run_from, run_within, run_holds, run_stops, white_no_zero}
use Rattle.token.specs.declared.Punctuation.TheVariants.{Open, Close}
use Rattle.token.specs.declared.TokenKind.TheVariants.{End, Symbol}
use Rattle.token.specs.declared.Token.{Token}
use Rattle.token.specs.Token.{token, token_after}
use Rattle.token.proofs.Steps.{after_spans}
use Rattle.terminal.specs.declared.operator.BoolOp.{BoolOp}
use Rattle.terminal.specs.Terminal.{same}
use Rattle.terminal.proofs.KindCodes.{kind_is}
use Rattle.syntax.specs.Scan.{scan, skip}
use Rattle.query_text.specs.Query.{Comparisons, good, start_at, query_start, query_from, query}
use Rattle.filter.specs.Check.{check}
use Rattle.conjunction.specs.Groups.{last, behind, group_at, text_of}
use Rattle.conjunction_laws.specs.Trimmed.{trim_start, trim_end, trim, Before, whole, first, next, closing, between, Encloses, brackets, ends, Trims}
use Rattle.conjunction_laws.proofs.Behind.{after_start, after_ended}
use Rattle.conjunction_laws.proofs.LastByte.{token_last}
use Rattle.conjunction_laws.proofs.Expressions.{Expression, closing_is, moves, last_in, last_standing, last_token, first_last}
use Rattle.conjunction_laws.proofs.Leading.{next_placed, Leading, final, earlier, leading, behind_it, no_more, next_within}
use Rattle.filter.proofs.Accepted.{accepts}

-- ---- what is trimmed from a text between whitespace
abbrev AllWhite : List ℕ → Type 0
AllWhite w = (i : ℕ) → i < length w → white (get_or w i 0) ≡ true

start_white : (w s : List ℕ) → AllWhite w → trim_start (w ++ s) ≡ trim_start s
unfolding trim_start
start_white [] s h = refl
start_white (b ∷ w) s h = rw (h 0 (omega arith), trim_start) (start_white w s (λ i l. h (suc i) (omega arith)))

start_stays : (s : List ℕ) → white (get_or s 0 0) ≡ false → trim_start s ≡ s
unfolding trim_start
start_stays [] h = refl
start_stays (b ∷ s) h = rw (h, trim_start) refl

end_white : (w : List ℕ) → AllWhite w → trim_end w ≡ []
unfolding trim_end
end_white [] h = refl
end_white (b ∷ w) h = rw (end_white w (λ i l. h (suc i) (omega arith))) (rw (h 0 (omega arith)) refl)

end_append : (m v : List ℕ) → trim_end v ≡ [] → trim_end (m ++ v) ≡ trim_end m
unfolding trim_end
end_append [] v h = h
end_append (b ∷ m) v h = rw (end_append m v h) refl

end_stays : (m : List ℕ) (n : ℕ) → suc n ≡ length m → white (get_or m n 0) ≡ false → trim_end m ≡ m
unfolding trim_end
end_stays [] n l h = refl
end_stays (b ∷ []) zero l h = rw h refl
end_stays (b ∷ []) (suc n) l h = absurd (omega arith)
end_stays (b ∷ c ∷ s) zero l h = absurd (omega arith)
end_stays (b ∷ c ∷ s) (suc n) l h = rw (end_stays (c ∷ s) n (omega arith) h) refl

trim_between : (w m v : List ℕ) (n : ℕ) → AllWhite w → AllWhite v → suc n ≡ length m → white (get_or m 0 0) ≡ false → white (get_or m n 0) ≡ false → trim (w ++ (m ++ v)) ≡ m
trim_between w m v n h k l a b =
    ap trim_end (start_white w (m ++ v) h ∙ start_stays (m ++ v) (ap white (get_or-append m v 0 0 (omega arith)) ∙ a)) ∙ end_append m v (end_white v k) ∙ end_stays m n l b

-- ---- in a query
module _ (q : List ℕ) where
  part_add : (x n m : ℕ) → part q x (n + m) ≡ part q x n ++ part q (x + n) m
  part_add x n m = take-add n m (drop x q) ∙ ap (λ (s : List ℕ). part q x n ++ take m s) (drop-drop n x q)

  part_byte : (x n i : ℕ) → i < n → get_or (part q x n) i 0 ≡ byte_at q (x + i)
  part_byte x n i h = rw (get_or-take, get_or-drop)

  part_length : (x n : ℕ) → x + n ≤ length q → length (part q x n) ≡ n
  part_length x n h = simp (length-take, length-drop) (omega arith)

  part_white : (x n : ℕ) → x + n ≤ length q → ((i : ℕ) → x ≤ i → i < x + n → white (byte_at q i) ≡ true) → AllWhite (part q x n)
  part_white x n h f i l = let z : i < n = rw (part_length x n h) at l in ap white (part_byte x n i z) ∙ f (x + i) (omega arith) (omega arith)

  -- whitespace up to a, then a group's text up to e, then whitespace up to z
  trim_part : (x a e z : ℕ) → x ≤ a → a < e → e ≤ z → z ≤ length q → ((i : ℕ) → x ≤ i → i < a → white (byte_at q i) ≡ true) → ((i : ℕ) → e ≤ i → i < z → white (byte_at q i) ≡ true)
      → white (byte_at q a) ≡ false → white (byte_at q (e - 1)) ≡ false → trim (part q x (z - x)) ≡ part q a (e - a)
  trim_part x a e z h k l m f g b c =
      let u : z - x ≡ a - x + (e - a + (z - e)) = omega arith in
      let v : x + (a - x) ≡ a = omega arith in
      let w : a + (e - a) ≡ e = omega arith in
      let y : a + (e - a - 1) ≡ e - 1 = omega arith in
      let t : a + 0 ≡ a = omega arith in
      ap trim (ap (part q x) u ∙ part_add x (a - x) (e - a + (z - e)) ∙ ap (λ (n : ℕ). part q x (a - x) ++ part q n (e - a + (z - e))) v
      ∙ ap (λ (s : List ℕ). part q x (a - x) ++ s) (part_add a (e - a) (z - e)) ∙ ap (λ (n : ℕ). part q x (a - x) ++ (part q a (e - a) ++ part q n (z - e))) w)
      ∙ trim_between (part q x (a - x)) (part q a (e - a)) (part q e (z - e)) (e - a - 1)
      (part_white x (a - x) (omega arith) (λ i p r. f i p (omega arith))) (part_white e (z - e) (omega arith) (λ i p r. g i p (omega arith)))
      (omega (arith, part_length a (e - a) (omega arith)))
      (ap white (part_byte a (e - a) 0 (omega arith)) ∙ ap (λ (n : ℕ). white (byte_at q n)) t ∙ b)
      (ap white (part_byte a (e - a) (e - a - 1) (omega arith)) ∙ ap (λ (n : ℕ). white (byte_at q n)) y ∙ c)

  -- ---- a token, with the comparisons that are read behind it
  abbrev Opening : Bool → Token → Type 0
  Opening true b = b.kind ≡ Symbol Open
  Opening false b = b.end ≡ 0

  record Read (b : Token) : Type 0 where
    pub grouped : Bool
    pub limit : ℕ
    pub list : Comparisons
    pub reads : query_from limit (scan q) grouped (token_after q b) ≡ good list
    pub within : b.end ≤ length q
    pub opening : Opening grouped b

  lead : {b : Token} (R : Read b) → Leading q R.grouped (token_after q b) R.list
  lead {b} R = leading q R.limit R.grouped (token_after q b) R.list (next_placed q b R.within) R.reads

  read_next : {b : Token} {o : BoolOp} → Read b → (group_at q (token_after q b)).joining ≡ Some o → Read (token_after q (behind q (token_after q b)))
  read_next {b} {o} R e = go (lead R)
    where
      go : Leading q R.grouped (token_after q b) R.list → Read (token_after q (behind q (token_after q b)))
      go (final E c a) = let y : None ≡ Some o = sym (no_more q E R.grouped a) ∙ e in let z : ◌≡◌ {A = ℕ} 0 1 = cc in absurd (omega arith)
      go (earlier E {R = L} m g a r c) =
          subst (λ (u : Token). Read (token_after q u)) (sym (behind_it q E))
          (record {
            grouped = true;
            limit = m;
            list = L;
            reads = subst (λ (x : Bool). query_from m (scan q) x (token_after q (token_after q (token_after q E.closing))) ≡ good L) g r;
            within = next_within q E;
            opening = kind_is (token_after q (token_after q E.closing)) (Symbol Open) a.opens;
          })

  module _ (L : Comparisons) (e : query q ≡ good L) where
    read_first : (b : Bool) → same (token_after q (token End 0 0)) (Symbol Open) ≡ b → query_from 64 (scan q) b (skip (scan q) b (token_after q (token End 0 0))) ≡ good L
    unfolding query query_start start_at
    read_first b f = subst (λ (x : Bool). query_from 64 (scan q) x (skip (scan q) x (token_after q (token End 0 0))) ≡ good L) f e

    read_before : {b : Token} → Before q b → Read b
    unfolding query_start start_at
    read_before (whole f) = record { grouped = false; limit = 64; list = L; reads = read_first false f; within = omega arith; opening = refl }
    read_before (first f) =
        record {
          grouped = true;
          limit = 64;
          list = L;
          reads = read_first true f;
          within = (after_spans q (token End 0 0) (omega arith)).within;
          opening = kind_is (token_after q (token End 0 0)) (Symbol Open) f;
        }
    read_before (next h f) = read_next (read_before h) f

  -- ---- its group
  module _ (b : Token) (E : Expression q (token_after q b)) where
    abbrev t : Token
    t = token_after q b

    closing_start : (closing q b).start ≡ run White q (last q t).end
    closing_start = after_start q (last q t)

    text_trimmed : text_of q (group_at q t) ≡ trim (between q b)
    unfolding group_at in_class
    text_trimmed =
        let s = after_start q b in
        let a = run_from White q b.end in
        let z = run_from White q (last q t).end in
        sym (trim_part b.end t.start (last q t).end (closing q b).start (omega (arith, s, a)) (omega (arith, first_last E, moves E)) (omega (arith, z, closing_start))
        (omega (arith, closing_start, run_within White q (last q t).end (last_in E)))
        (λ i l k. run_holds White q b.end i l (omega (arith, s))) (λ i l k. run_holds White q (last q t).end i l (omega (arith, closing_start)))
        (ap (λ (n : ℕ). white (byte_at q n)) s ∙ run_stops White white_no_zero q b.end) (token_last q (last q t) (last_standing E) (last_token E)))

    in_brackets : b.kind ≡ Symbol Open → E.closing.kind ≡ Symbol Close → Encloses q b
    in_brackets f g = brackets f (ap (λ (u : Token). u.kind) (sym (closing_is E)) ∙ g)

    whole_query : b.end ≡ 0 → E.closing.kind ≡ End → Encloses q b
    whole_query f g =
        let k = ap (λ (u : Token). u.kind) (sym (closing_is E)) ∙ g in
        let w = after_ended q (last q t) k in
        ends k (ap (λ (n : ℕ). part q n ((closing q b).start - n)) f ∙ take_all ((closing q b).start - 0) q (omega (arith, w, closing_start)))

    trims_by : Encloses q b → Trims q b
    unfolding group_at
    trims_by s = record { encloses = s; ordered = omega (arith, first_last E, moves E); within = last_in E; trimmed = text_trimmed }

  trims : {b : Token} → Read b → Trims q b
  trims {b} R = go R.grouped R.opening (lead R)
    where
      go : (g : Bool) → Opening g b → Leading q g (token_after q b) R.list → Trims q b
      go true o (final E c a) = trims_by b E (in_brackets b E o (kind_is E.closing (Symbol Close) a.0))
      go false o (final E c a) = trims_by b E (whole_query b E o (kind_is E.closing End a))
      go true o (earlier E m g a r c) = trims_by b E (in_brackets b E o (kind_is E.closing (Symbol Close) a.close))
      go false o (earlier E m g a r c) = let z : ◌≡◌ {A = ℕ} 0 1 = cc in absurd (omega arith)

pub group_trimmed : (q table : List ℕ) → check q table ≡ Ok tt → (b : Token) → Before q b → Trims q b
group_trimmed q table e b h = let A = accepts q table e in trims q (read_before q A.list A.read h)
