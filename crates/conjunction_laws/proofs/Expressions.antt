-- The comparisons of a group in a text (fql-expr of 000 5.3.2): where their tokens stand, and that the same bytes in another text are read as comparisons that mean the same.
use Prim.Native.Nat.{ℕ, zero, suc, ◌+◌, ◌-◌, ◌≤◌, ◌<◌}
use mathlib.Core.Path.{◌≡◌, refl, sym, ap, ◌∙◌, subst}
use mathlib.Core.List.{List}
use mathlib.Core.Logic.{◌⊎◌, inl, inr}
use mathlib.Core.Bool.{Bool, true, false, true≢false}
use native.Mathlib.Omega.{arith}
use lib.ListN.{length, length-take, length-drop}
use lib.Seq.{get_or-take, get_or-drop}
use lib.Dec.{ltb}
use borrow.Author.Tests.{ltb-true, ltb-false}
use Rattle.base.specs.Part.{byte_at}
use Rattle.base.proofs.Lists.{byte_past}
use Rattle.scan.proofs.Alike.{Alike, stop}
use Rattle.token.specs.declared.Punctuation.TheVariants.{Close}
use Rattle.token.specs.declared.TokenKind.{TokenKind}
use Rattle.token.specs.declared.TokenKind.TheVariants.{End, Symbol}
use Rattle.token.specs.declared.Token.{Token}
use Rattle.token.specs.Token.{is_token, word_or_number, token_at, token_after}
use Rattle.token.proofs.Steps.{at_spans, after_spans, moves_on}
use Rattle.token.proofs.Local.{Moved, at_local, after_local}
use Rattle.token.proofs.Bounds.{after_from, nth_from}
use Rattle.token.proofs.Stands.{Standing, at_standing, after_standing}
use Rattle.terminal.specs.Terminal.{inside}
use Rattle.terminal.proofs.Inside.{outside_cases, inside_token}
use Rattle.syntax.specs.declared.comparison.Comparison.{Comparison}
use Rattle.syntax.specs.Scan.{scan}
use Rattle.syntax.proofs.Simulation as pairs
use Rattle.syntax.proofs.Room.{roomy}
use Rattle.syntax.proofs.Local.{Group, Nth, nth, simulates}
use Rattle.query_text.specs.Query.{Comparisons}
use Rattle.judge.specs.Meaning.{meaning}
use Rattle.judge.specs.Environment.{entry_named}
use Rattle.judge.proofs.Local.{SameMeant, meaning_moved}
use Rattle.conjunction.specs.Groups.{last, group_at, text_of}
use Rattle.conjunction_laws.proofs.Segments.{Segment}
use Rattle.conjunction_laws.proofs.Corresponding.{Lists, both_only, both_more, found}
use Rattle.conjunction_laws.proofs.Tokens.{TokensInside, tokens_inside, reached, last_nth, starts_inside}
use Rattle.conjunction_laws.proofs.Behind.{stops_behind}
use Rattle.conjunction_laws.proofs.Between.{after_is}

-- comparisons that mean the same in two texts, whatever the table and the instance
abbrev pub Same : (q r : List ℕ) → Comparison → Comparison → Type 0
Same q r c d = (table instance : List ℕ) → SameMeant (meaning q (entry_named q table instance) c) (meaning r (entry_named r table instance) d)

-- the comparisons from a token on, up to what ends their group
pub record Expression (q : List ℕ) (t : Token) : Type 0 where
  pub list : Comparisons
  pub closing : Token
  pub segment : Segment (scan q) t list closing
  pub closes : (closing.kind ≡ Symbol Close) ⊎ (closing.kind ≡ End)
  pub stands : Standing q t
  pub here : t.start ≤ length q

-- comparisons of a text, read in another from b up to e, where the token v ends them
pub record Elsewhere (q : List ℕ) (l : Comparisons) (r : List ℕ) (b e : ℕ) (v : Token) : Type 0 where
  pub list : Comparisons
  pub segment : Segment (scan r) (token_at r b) list v
  pub same : Lists (Same q r) l list
  pub begins : (token_at r b).start ≡ b
  pub ends : (last r (token_at r b)).end ≡ e

module _ {q : List ℕ} {t : Token} (E : Expression q t) where
  pub starts : inside t.kind ≡ true
  starts = starts_inside q E.segment

  abbrev tokens : TokensInside q t
  tokens = tokens_inside q t

  outside : (E.closing.kind ≡ Symbol Close) ⊎ (E.closing.kind ≡ End) → inside E.closing.kind ≡ false
  outside (inl e) = ap inside e
  outside (inr e) = ap inside e

  -- ---- the last token
  some_tokens : 0 < tokens.count
  unfolding nth_from
  some_tokens = go tokens.count refl
    where
      go : (n : ℕ) → tokens.count ≡ n → 0 < n
      go zero e = absurd (true≢false (sym starts ∙ ap (λ (m : ℕ). inside (nth_from q t m).kind) (sym e) ∙ tokens.closed))
      go (suc n) e = omega arith

  from_last : suc (tokens.count - 1) ≡ tokens.count
  from_last = omega (arith, some_tokens)

  last_is : last q t ≡ nth_from q t (tokens.count - 1)
  last_is = last_nth q (tokens.count - 1) t (λ i h. tokens.within (suc i) (omega (arith, from_last))) (ap (λ (m : ℕ). inside (nth_from q t m).kind) from_last ∙ tokens.closed)

  pub closing_is : E.closing ≡ token_after q (last q t)
  unfolding nth_from
  closing_is = reached q t tokens E.segment (outside E.closes) ∙ ap (nth_from q t) (sym from_last) ∙ ap (token_after q) (sym last_is)

  -- ---- where they stand
  pub moves : t.start < t.end
  moves = subst (λ (u : Token). u.start < u.end) E.stands (moves_on (at_spans q t.start E.here) (ap (λ (u : Token). is_token u.kind) E.stands ∙ inside_token t.kind starts))

  in_text : (i : ℕ) → (nth_from q t i).end ≤ length q
  unfolding nth_from
  in_text zero = subst (λ (u : Token). u.end ≤ length q) E.stands (at_spans q t.start E.here).within
  in_text (suc i) = (after_spans q (nth_from q t i) (in_text i)).within

  rising : (i d : ℕ) → (nth_from q t i).end ≤ (nth_from q t (d + i)).end
  unfolding nth_from
  rising i zero = let z : 0 + i ≡ i = omega arith in rw z (omega arith)
  rising i (suc d) = let z : suc d + i ≡ suc (d + i) = omega arith in rw z (omega (arith, rising i d, after_from q (nth_from q t (d + i))))

  up_to_last : (i : ℕ) → i < tokens.count → (nth_from q t i).end ≤ (last q t).end
  up_to_last i h =
      let z : tokens.count - 1 - i + i ≡ tokens.count - 1 = omega arith in
      subst (λ (u : Token). (nth_from q t i).end ≤ u.end) (ap (nth_from q t) z ∙ sym last_is) (rising i (tokens.count - 1 - i))

  pub last_in : (last q t).end ≤ length q
  last_in = subst (λ (u : Token). u.end ≤ length q) (sym last_is) (in_text (tokens.count - 1))

  pub closing_in : E.closing.end ≤ length q
  closing_in = subst (λ (u : Token). u.end ≤ length q) (sym closing_is) (after_spans q (last q t) last_in).within

  pub first_last : t.end ≤ (last q t).end
  unfolding nth_from
  first_last = up_to_last 0 some_tokens

  nth_standing : (i : ℕ) → i < tokens.count → Standing q (nth_from q t i)
  unfolding nth_from
  nth_standing zero h = E.stands
  nth_standing (suc i) h = after_standing q (nth_from q t i) (inside_token (nth_from q t (suc i)).kind (tokens.within (suc i) h))

  pub last_standing : Standing q (last q t)
  last_standing = subst (Standing q) (sym last_is) (nth_standing (tokens.count - 1) (omega (arith, some_tokens)))

  pub last_token : is_token (last q t).kind ≡ true
  last_token = subst (λ (u : Token). is_token u.kind ≡ true) (sym last_is) (inside_token (nth_from q t (tokens.count - 1)).kind (tokens.within (tokens.count - 1) (omega (arith, some_tokens))))

  -- ---- their text
  abbrev pub group_text : List ℕ
  group_text = text_of q (group_at q t)

  length_text : length group_text ≡ (last q t).end - t.start
  unfolding group_at
  length_text = simp (length-take, length-drop) (omega (arith, last_in, first_last, moves))

  stopped : stop (byte_at q (last q t).end) ≡ true
  stopped = stops_behind q (last q t) last_in (kinds E.closes)
    where
      kinds : (E.closing.kind ≡ Symbol Close) ⊎ (E.closing.kind ≡ End) → ((token_after q (last q t)).kind ≡ Symbol Close) ⊎ ((token_after q (last q t)).kind ≡ End)
      kinds (inl e) = inl (ap (λ (u : Token). u.kind) (sym closing_is) ∙ e)
      kinds (inr e) = inr (ap (λ (u : Token). u.kind) (sym closing_is) ∙ e)

  -- by itself
  pub alone : Alike q group_text t.start 0 (last q t).end (length group_text)
  unfolding group_at stop
  alone =
      record {
        starts = omega (arith, first_last, moves);
        ends = omega (arith, length_text, first_last, moves);
        first_within = last_in;
        second_within = omega arith;
        first_stop = stopped;
        second_stop = rw (← byte_past group_text (length group_text) (omega arith));
        same = λ i j u v w. let x : t.start + j ≡ i = omega arith in ap (byte_at q) (sym x) ∙ sym (byte j (omega arith));
      }
    where
      byte : (j : ℕ) → j < (last q t).end - t.start → byte_at group_text j ≡ byte_at q (t.start + j)
      byte j h = rw (get_or-take, get_or-drop)

  -- ---- the same bytes from b up to l in another text, where a token stands that ends a group
  module _ (r : List ℕ) (b l : ℕ) (A : Alike q r t.start b (last q t).end l) (v : Token) (ending : token_at r l ≡ v) (outer : inside v.kind ≡ false) where
    abbrev there : Token
    there = token_at r b

    real : is_token (token_at q t.start).kind ≡ true
    real = ap (λ (u : Token). is_token u.kind) E.stands ∙ inside_token t.kind starts

    moved : Moved t.start b t there
    moved =
        subst (λ (u : Token). Moved t.start b u there) E.stands
        (at_local A t.start b (omega arith) (omega (arith, first_last, moves)) (omega arith) real (subst (λ (u : Token). u.end ≤ (last q t).end) (sym E.stands) first_last))

    from_start : (i : ℕ) → t.start ≤ (nth_from q t i).end
    unfolding nth_from
    from_start i = let z : i + 0 ≡ i = omega arith in let h : t.end ≤ (nth_from q t (i + 0)).end = rising 0 i in omega (arith, rw z at h, moves)

    all_moved : (i : ℕ) → i < tokens.count → Moved t.start b (nth_from q t i) (nth_from r there i)
    unfolding nth_from
    all_moved zero h = moved
    all_moved (suc i) h =
        after_local A {t = nth_from q t i} {u = nth_from r there i} (all_moved i (omega arith)) (from_start i) (up_to_last i (omega arith))
        (inside_token (nth_from q t (suc i)).kind (tokens.within (suc i) h)) (up_to_last (suc i) h)

    last_there : (nth_from r there (tokens.count - 1)).end ≡ l
    last_there = let m = (all_moved (tokens.count - 1) (omega (arith, some_tokens))).end in omega (arith, m, ap (λ (u : Token). u.end) last_is, A.ends, first_last, moves)

    ends_there : nth_from r there tokens.count ≡ v
    unfolding nth_from word_or_number
    ends_there = ap (nth_from r there) (sym from_last) ∙ after_is r (nth_from r there (tokens.count - 1)) v (ap (token_at r) last_there ∙ ending) plain
      where
        plain : word_or_number v.kind ≡ false
        plain = outside_cases (λ (k : TokenKind). word_or_number k ≡ false) refl refl refl v.kind outer

    group : Group q r t.start b (last q t).end l t there tokens.count
    group =
        record {
          alike = A;
          first = moved;
          from = omega arith;
          moves = moves;
          within = tokens.within;
          short = up_to_last;
          closed = tokens.closed;
          other_closed = ap (λ (u : Token). inside u.kind) ends_there ∙ outer;
        }

    meant : {x y : Comparisons} → Lists (pairs.Comparisons (scan q) (scan r) (Nth q r t there tokens.count)) x y → Lists (Same q r) x y
    meant (both_only h) = both_only (λ table instance. meaning_moved group E.stands (at_standing r b) table instance h)
    meant (both_more h k) = both_more (λ table instance. meaning_moved group E.stands (at_standing r b) table instance h) (meant k)

    closes_there : {x y : Token} → Nth q r t there tokens.count x y → inside x.kind ≡ false → y ≡ v
    closes_there (nth i h) e = go (ltb i tokens.count) refl
      where
        go : (c : Bool) → ltb i tokens.count ≡ c → nth_from r there i ≡ v
        go true f = absurd (true≢false (sym (tokens.within i (ltb-true i tokens.count f)) ∙ e))
        go false f = let z : i ≡ tokens.count = omega (arith, ltb-false i tokens.count f) in ap (nth_from r there) z ∙ ends_there

    pub elsewhere : Elsewhere q E.list r b l v
    unfolding nth_from
    elsewhere =
        let f = found (simulates group) (roomy q) (roomy r) E.segment {y = there} (nth 0 (omega arith)) in
        record {
          list = f.list;
          segment = subst (λ (w : Token). Segment (scan r) there f.list w) (closes_there f.closings (outside E.closes)) f.segment;
          same = meant f.lists;
          begins = omega (arith, moved.start);
          ends = ap (λ (u : Token). u.end) last_nth_there ∙ last_there;
        }
      where
        last_nth_there : last r there ≡ nth_from r there (tokens.count - 1)
        last_nth_there =
            last_nth r (tokens.count - 1) there
            (λ i h. ap inside (sym (all_moved (suc i) (omega (arith, from_last))).kind) ∙ tokens.within (suc i) (omega (arith, from_last)))
            (ap (λ (m : ℕ). inside (nth_from r there m).kind) from_last ∙ ap (λ (u : Token). inside u.kind) ends_there ∙ outer)
