-- Groups written one after the other in brackets, with AND and OR between them: the text is read, group by group, and it is UTF-8 where they are.
use Rattle.std.specs.Prelude.{Some}
use Prim.Native.Nat.{ℕ, ◌+◌, ◌-◌, ◌≤◌}
use mathlib.Core.Path.{◌≡◌, refl, sym, ap, ◌∙◌, subst}
use mathlib.Core.List.{List, [], ◌∷◌, ◌++◌, append_assoc}
use mathlib.Core.Bool.{true, false}
use native.Mathlib.Omega.{arith}
use lib.ListN.{length, drop, length-append}
use Rattle.base.specs.Ascii.{bytes}
use Rattle.scan.proofs.Alike.{Alike, stop, inside_another}
use Rattle.token.specs.declared.Punctuation.TheVariants.{Open, Close}
use Rattle.token.specs.declared.TokenKind.TheVariants.{End, Symbol}
use Rattle.token.specs.declared.Token.{Token}
use Rattle.token.specs.Token.{token, word_or_number, token_at, token_after}
use Rattle.token.proofs.Local.{shifted, at_shifted, after_shifted}
use Rattle.token.proofs.Bounds.{after_past}
use Rattle.terminal.specs.declared.operator.BoolOp.{BoolOp}
use Rattle.terminal.specs.declared.operator.BoolOp.TheVariants.{And, Or}
use Rattle.terminal.specs.Terminal.{same, joining}
use Rattle.syntax.specs.Scan.{scan}
use Rattle.query_text.specs.declared.join.Join.TheVariants.{Outer}
use Rattle.query_text.specs.declared.query.QueryStart.{QueryStart}
use Rattle.query_text.specs.Query.{Comparisons, good, start_at, query_start, query_from}
use Rattle.query_text.specs.Tree.{Chain, one, then, front}
use Rattle.conjunction.specs.Groups.{last, follow}
use Rattle.conjunction.specs.Conjunction.{size, term_text, text}
use Rattle.conjunction_laws.proofs.Chains.{by_groups, Every, every_follow}
use Rattle.conjunction_laws.proofs.Segments.{Onward, beyond, before_all, chain_to, chain_size, read_last, read_more}
use Rattle.conjunction_laws.proofs.Between.{opening_first, closing_first, operator_text, operator_token, opening_token, operator_next, opening_next, after_other}
use Rattle.conjunction_laws.proofs.Expressions.{Elsewhere, elsewhere}
use Rattle.conjunction_laws.proofs.ByGroups.{segment_grouped, Copies, ByGroups, one_group, more_groups}
use Rattle.conjunction_laws.proofs.Own.{Own, read, expression, starts_low}
use Rattle.conjunction_laws.proofs.Encoding.{From, at_end_law, ascii, ascii_part, carry}

-- ---- the text behind its first "("
abbrev body : Chain (Chain (List ℕ)) → List ℕ
body x = drop 1 (text x)

opened : (x : Chain (Chain (List ℕ))) → text x ≡ 40 ∷ body x
unfolding text term_text
opened (one (one g)) = refl
opened (one (then g t)) = refl
opened (then (one g) r) = refl
opened (then (then g t) r) = refl

body_follow : (g : List ℕ) (o : BoolOp) (r : Chain (Chain (List ℕ))) → body (follow g (Some o) r) ≡ g ++ (41 ∷ (operator_text o ++ body r))
unfolding text term_text follow front
body_follow g And (one t) = append_assoc g (bytes ")") (bytes " AND " ++ term_text t) ∙ ap (λ (s : List ℕ). g ++ (bytes ") AND " ++ s)) (opened (one t))
body_follow g And (then t r) = simp append_assoc (ap (λ (s : List ℕ). g ++ (bytes ") AND " ++ s)) (opened (then t r)))
body_follow g Or r = append_assoc g (bytes ")") (bytes " OR " ++ text r) ∙ ap (λ (s : List ℕ). g ++ (bytes ") OR " ++ s)) (opened r)

-- ---- what is shown of a text from a place on, where the first of its groups starts
pub record Reads (x : Chain (Chain (List ℕ))) (J : List ℕ) (at : ℕ) : Type 0 where
  pub list : Comparisons
  pub reads : (n : ℕ) → size list ≤ n → query_from n (scan J) true (token_at J at) ≡ good list
  pub groups : ByGroups J x list
  pub encoded : From J at

-- ---- a group before ")"
module _ {g : List ℕ} (G : Own g) (q s : List ℕ) where
  abbrev Text : List ℕ
  Text = (q ++ g) ++ (41 ∷ s)

  abbrev closing : Token
  closing = shifted (length (q ++ g)) (token (Symbol Close) 0 1)

  closes : token_at Text (length (q ++ g)) ≡ closing
  closes =
      let z : length (q ++ g) ≡ length (q ++ g) + 0 = omega arith in
      ap (token_at Text) z ∙ at_shifted (q ++ g) (41 ∷ s) 0 (omega arith) ∙ ap (shifted (length (q ++ g))) (closing_first s)

  alike : Alike g Text (token_at g 0).start (length q) (last g (token_at g 0)).end (length (q ++ g))
  unfolding stop
  alike =
      subst (λ (n : ℕ). Alike g Text n (length q) (last g (token_at g 0)).end (length (q ++ g))) (sym G.begins)
      (subst (λ (n : ℕ). Alike g Text 0 (length q) n (length (q ++ g))) (sym G.ends)
      (subst (λ (n : ℕ). Alike g Text 0 (length q) (length g) n) (sym (length-append q g))
      (subst (λ (J : List ℕ). Alike g J 0 (length q) (length g) (length q + length g)) (sym (append_assoc q g (41 ∷ s))) (inside_another q g (41 ∷ s) refl))))

  abbrev here : Elsewhere g (expression G).list Text (length q) (length (q ++ g)) closing
  here = elsewhere (expression G) Text (length q) (length (q ++ g)) alike closing closes refl

  copies : Copies g Text here.list
  copies = record { list = (expression G).list; read = read G; same = here.same; grouped = segment_grouped here.segment }

  encoded_here : From Text (length (q ++ g)) → From Text (length q)
  encoded_here w = carry alike G.encoded (starts_low (expression G)) w

-- ---- the last group
module _ {g : List ℕ} (G : Own g) (q : List ℕ) where
  abbrev Ended : List ℕ
  Ended = Text G q []

  past_end : length Ended ≤ length (q ++ g) + 1
  past_end = simp length-append (omega arith)

  finish : (same (closing G q []) (Symbol Close) ≡ true) × (same (token_after Ended (closing G q [])) End ≡ true)
  unfolding same
  finish = (refl, rw (after_past Ended (closing G q []) past_end) refl)

  last_read : Reads (one (one g)) Ended (length q)
  last_read =
      record {
        list = (here G q []).list;
        reads = λ n k. read_last (scan Ended) true (here G q []).segment finish n k;
        groups = one_group (copies G q []);
        encoded = encoded_here G q [] (ascii_part (q ++ g) (41 ∷ []) [] refl (at_end_law Ended (length (q ++ g) + 1) past_end));
      }

-- ---- a group before others
module _ {g : List ℕ} (G : Own g) (o : BoolOp) (q r : List ℕ) where
  abbrev Linked : List ℕ
  Linked = Text G q (operator_text o ++ r)

  abbrev closed : Token
  closed = closing G q (operator_text o ++ r)

  abbrev moved : Token → Token
  moved t = shifted (length (q ++ g)) t

  operator_there : token_after Linked closed ≡ moved (operator_token o)
  operator_there = after_shifted (q ++ g) (41 ∷ (operator_text o ++ r)) (token (Symbol Close) 0 1) (omega arith) ∙ ap moved (operator_next o r)

  bracket_there : token_after Linked (token_after Linked closed) ≡ moved (opening_token o)
  bracket_there = ap (token_after Linked) operator_there ∙ after_shifted (q ++ g) (41 ∷ (operator_text o ++ r)) (operator_token o) (long o) ∙ ap moved (opening_next o r)
    where
      long : (o : BoolOp) → (operator_token o).end ≤ length (41 ∷ (operator_text o ++ r))
      long And = omega arith
      long Or = omega arith

  onward : Onward (scan Linked) closed o
  unfolding same joining
  onward = record { close = refl; operator = ap joining operator_there ∙ joins o; opens = ap (λ (t : Token). same t (Symbol Open)) bracket_there ∙ opens o }
    where
      joins : (o : BoolOp) → joining (moved (operator_token o)) ≡ Some o
      joins And = refl
      joins Or = refl

      opens : (o : BoolOp) → same (moved (opening_token o)) (Symbol Open) ≡ true
      opens And = refl
      opens Or = refl

  -- what stands before the next group
  abbrev before_next : List ℕ
  before_next = (q ++ g) ++ (41 ∷ operator_text o)

  same_text : before_next ++ r ≡ Linked
  same_text = append_assoc (q ++ g) (41 ∷ operator_text o) r

  length_before : length before_next ≡ length (q ++ g) + (opening_token o).end
  length_before = length-append (q ++ g) (41 ∷ operator_text o) ∙ go o
    where
      go : (o : BoolOp) → length (q ++ g) + length (41 ∷ operator_text o) ≡ length (q ++ g) + (opening_token o).end
      go And = refl
      go Or = refl

  next_group : beyond (scan Linked) closed ≡ token_at Linked (length before_next)
  unfolding word_or_number
  next_group = ap (token_after Linked) bracket_there ∙ after_other Linked (moved (opening_token o)) (plain o) ∙ ap (token_at Linked) (sym length_before)
    where
      plain : (o : BoolOp) → word_or_number (opening_token o).kind ≡ false
      plain And = refl
      plain Or = refl

  encoded_next : From Linked (length before_next) → From Linked (length (q ++ g))
  encoded_next w = ascii_part (q ++ g) (41 ∷ operator_text o) r (low o) (subst (From Linked) (length-append (q ++ g) (41 ∷ operator_text o)) w)
    where
      low : (o : BoolOp) → ascii (41 ∷ operator_text o) ≡ true
      low And = refl
      low Or = refl

-- ---- all groups
module _ {g : List ℕ} (G : Own g) (o : BoolOp) (q : List ℕ) (x : Chain (Chain (List ℕ))) where
  abbrev J : List ℕ
  J = Linked G o q (body x)

  abbrev behind_it : List ℕ
  behind_it = operator_text o ++ body x

  abbrev own_part : Elsewhere g (expression G).list J (length q) (length (q ++ g)) (closed G o q (body x))
  own_part = here G q behind_it

  more_read : Reads x J (length (before_next G o q (body x))) → Reads (follow g (Some o) x) J (length q)
  unfolding before_all
  more_read k =
      record {
        list = chain_to own_part.list (Outer o) k.list;
        reads = λ n h.
            let z : size own_part.list + size k.list ≤ n = subst (λ (m : ℕ). m ≤ n) (chain_size own_part.list (Outer o) k.list) h in
            read_more (scan J) own_part.segment (onward G o q (body x)) n (n - size own_part.list) (omega arith)
            ∙ ap (λ (t : Token). before_all own_part.list (Outer o) (query_from (n - size own_part.list) (scan J) true t)) (next_group G o q (body x))
            ∙ ap (before_all own_part.list (Outer o)) (k.reads (n - size own_part.list) (omega arith));
        groups = more_groups (copies G q behind_it) o k.groups;
        encoded = encoded_here G q behind_it (encoded_next G o q (body x) k.encoded);
      }

read_body : (x : Chain (Chain (List ℕ))) → Every (Every Own) x → (q : List ℕ) → Reads x (q ++ body x) (length q)
unfolding Every text term_text
read_body = by_groups (λ (x : Chain (Chain (List ℕ))). Every (Every Own) x → (q : List ℕ) → Reads x (q ++ body x) (length q)) ending linking
  where
    ending : (g : List ℕ) → Every (Every Own) (one (one g)) → (q : List ℕ) → Reads (one (one g)) (q ++ body (one (one g))) (length q)
    ending g G q = subst (λ (J : List ℕ). Reads (one (one g)) J (length q)) (append_assoc q g (41 ∷ [])) (last_read G q)

    linking : (g : List ℕ) (o : BoolOp) (x : Chain (Chain (List ℕ))) → (Every (Every Own) x → (q : List ℕ) → Reads x (q ++ body x) (length q))
        → Every (Every Own) (follow g (Some o) x) → (q : List ℕ) → Reads (follow g (Some o) x) (q ++ body (follow g (Some o) x)) (length q)
    linking g o x again h q =
        let p = every_follow Own g o x h in
        let b = before_next p.0 o q (body x) in
        subst (λ (J : List ℕ). Reads (follow g (Some o) x) J (length q)) (append_assoc q g (41 ∷ (operator_text o ++ body x)) ∙ ap (λ (s : List ℕ). q ++ s) (sym (body_follow g o x)))
        (more_read p.0 o q x (subst (λ (J : List ℕ). Reads x J (length b)) (same_text p.0 o q (body x)) (again p.1 b)))

-- ---- the whole text
pub read_text : (x : Chain (Chain (List ℕ))) → Every (Every Own) x → Reads x (text x) 1
read_text x h = subst (λ (J : List ℕ). Reads x J 1) (sym (opened x)) (read_body x h (40 ∷ []))

module _ {x : Chain (Chain (List ℕ))} (R : Reads x (text x) 1) where
  opens : token_at (text x) 0 ≡ token (Symbol Open) 0 1
  opens = ap (λ (s : List ℕ). token_at s 0) (opened x) ∙ opening_first (body x)

  start_is : query_start (scan (text x)) ≡ record { grouped = true; token = token_at (text x) 1 }
  unfolding query_start start_at same word_or_number
  start_is =
      rw (after_other (text x) (token End 0 0) refl ∙ opens) (ap (λ (t : Token). record { grouped = true; token = t }) (after_other (text x) (token (Symbol Open) 0 1) refl))

  -- by a reader that takes so many comparisons
  pub text_reads : (n : ℕ) → size R.list ≤ n → query_from n (scan (text x)) (query_start (scan (text x))).grouped (query_start (scan (text x))).token ≡ good R.list
  text_reads n h = ap (λ (s : QueryStart). query_from n (scan (text x)) s.grouped s.token) start_is ∙ R.reads n h

  pub text_encoded : From (text x) 0
  text_encoded =
      subst (λ (s : List ℕ). From s 0) (sym (opened x))
      (ascii_part [] (40 ∷ []) (body x) refl (subst (λ (s : List ℕ). From s 1) (opened x) R.encoded))
