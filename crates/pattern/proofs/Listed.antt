-- The symbols of a pattern are those that its text lists, whatever stands between them, and by their place in the list they are the symbols of what is
-- read. Assumes nothing.
use mathlib.Core.Path.{◌≡◌, refl, ap, subst, sym as inv}
use mathlib.Core.Bool.{Bool, false}
use mathlib.Core.List.{List, [], ◌∷◌, ◌++◌, append_assoc, append-nil}
use Prim.Native.Nat.{ℕ, suc, ◌<◌, ◌+◌}
use native.Mathlib.Omega.{arith}
use Rattle.pattern.specs.Regex.{Symbol, stands_for, Regex, empty, sym, seq, alt, opt, plus}
use Rattle.pattern.specs.Character.{special, open_group, close_group, bar}
use Rattle.pattern.specs.Grammar.{SymbolText, any_character, plain_character, escaped_character, plain_set, negated_set, Sign, no_sign, star_sign, plus_sign_rule, optional_sign, Derives, one_alternative, more_alternatives, no_item, more_items, symbol_item_rule, group_item, Kind}
use Rattle.pattern.specs.Reading.{parse}
use mathlib.Core.Option.{some}
use Rattle.pattern.specs.Hits.{between, Lists, no_more, passed, listed, stands_at}
use Rattle.pattern.proofs.Complete.{plain, symbol_complete}
use Rattle.pattern.proofs.Grammar.{parse_derives}

-- the symbols of a pattern, in their order
unfoldable pub symbols_of : Regex ℕ → List Symbol
symbols_of empty = []
symbols_of (sym k p) = p ∷ []
symbols_of (seq a b) = symbols_of a ++ symbols_of b
symbols_of (alt a b) = symbols_of a ++ symbols_of b
symbols_of (opt a) = symbols_of a
symbols_of (plus a) = symbols_of a

-- ---- a symbol and its sign

-- a plain character stands for itself, so it doesn't stand between symbols
plain_between : (c : ℕ) → special c ≡ false → between c ≡ false
unfolding between
plain_between c h = let z = plain c h in rw (z.2, z.3, z.5, z.6, z.7, z.8)

symbol_listed : {u : List ℕ} {p : Symbol} → SymbolText u p → (t : List ℕ) {qs : List Symbol} → Lists t qs → Lists (u ++ t) (p ∷ qs)
unfolding between
symbol_listed any_character t l = listed refl (symbol_complete any_character t) l
symbol_listed (plain_character {c = c} h) t l = listed (plain_between c h) (symbol_complete (plain_character h) t) l
symbol_listed (escaped_character {c = c}) t l = listed refl (symbol_complete (escaped_character {c = c}) t) l
symbol_listed (plain_set m h) t l = listed refl (symbol_complete (plain_set m h) t) l
symbol_listed (negated_set m) t l = listed refl (symbol_complete (negated_set m) t) l

sign_listed : {u : List ℕ} {a b : Regex ℕ} → Sign u a b → (t : List ℕ) {qs : List Symbol} → Lists t qs → Lists (u ++ t) qs
unfolding between
sign_listed no_sign t l = l
sign_listed star_sign t l = passed refl l
sign_listed plus_sign_rule t l = passed refl l
sign_listed optional_sign t l = passed refl l

sign_symbols : {u : List ℕ} {a b : Regex ℕ} → Sign u a b → symbols_of b ≡ symbols_of a
unfolding symbols_of
sign_symbols no_sign = refl
sign_symbols star_sign = refl
sign_symbols plus_sign_rule = refl
sign_symbols optional_sign = refl

-- ---- a part

moved : {s s' : List ℕ} {ps ps' : List Symbol} → s ≡ s' → ps ≡ ps' → Lists s ps → Lists s' ps'
moved {s' = s'} {ps = ps} e f l = subst (λ (q : List Symbol). Lists s' q) f (subst (λ (u : List ℕ). Lists u ps) e l)

part_listed : {K : Kind} {d k m : ℕ} {s : List ℕ} {r : Regex ℕ} → Derives K d k s r m → (t : List ℕ) (qs : List Symbol) → Lists t qs → Lists (s ++ t) (symbols_of r ++ qs)
unfolding symbols_of between
part_listed (one_alternative x) t qs l = part_listed x t qs l
part_listed (more_alternatives {s = s} {t = u} {a = a} {b = b} x y) t qs l =
    moved (inv (append_assoc s (bar ∷ u) t)) (inv (append_assoc (symbols_of a) (symbols_of b) qs))
    (part_listed x (bar ∷ (u ++ t)) (symbols_of b ++ qs) (passed refl (part_listed y t qs l)))
part_listed no_item t qs l = l
part_listed (more_items {s = s} {t = u} {a = a} {b = b} x y) t qs l =
    moved (inv (append_assoc s u t)) (inv (append_assoc (symbols_of a) (symbols_of b) qs))
    (part_listed x (u ++ t) (symbols_of b ++ qs) (part_listed y t qs l))
part_listed (symbol_item_rule {s = s} {u = u} h x y) t qs l =
    moved (inv (append_assoc s u t)) (ap (λ (ps : List Symbol). ps ++ qs) (inv (sign_symbols y)))
    (symbol_listed x (u ++ t) (sign_listed y t l))
part_listed (group_item {s = s} {u = u} {a = a} h x y) t qs l =
    moved (ap (λ (w : List ℕ). open_group ∷ w) (inv (append_assoc s (close_group ∷ u) t))) (ap (λ (ps : List Symbol). ps ++ qs) (inv (sign_symbols y)))
    (passed refl (part_listed x (close_group ∷ (u ++ t)) qs (passed refl (sign_listed y t l))))

-- ---- by their places

-- h tells of each symbol of the pattern, by its number, whether it stands for c
unfoldable pub Stands : Regex ℕ → (ℕ → Bool) → ℕ → Type 0
Stands empty h c = Unit
Stands (sym k p) h c = (k < 60) × (h k ≡ stands_for p c)
Stands (seq a b) h c = Stands a h c × Stands b h c
Stands (alt a b) h c = Stands a h c × Stands b h c
Stands (opt a) h c = Stands a h c
Stands (plus a) h c = Stands a h c

-- h tells the same of the symbols from the k-th on
abbrev From : ℕ → List Symbol → (ℕ → Bool) → ℕ → Type 0
From k ps h c = (i : ℕ) → k + i < 60 → h (k + i) ≡ stands_at ps i c

sign_stands : (h : ℕ → Bool) (c : ℕ) {u : List ℕ} {a b : Regex ℕ} → Sign u a b → Stands a h c → Stands b h c
unfolding Stands
sign_stands h c no_sign s = s
sign_stands h c star_sign s = s
sign_stands h c plus_sign_rule s = s
sign_stands h c optional_sign s = s

module _ (h : ℕ → Bool) (c : ℕ) where
  split : {K : Kind} {d k m : ℕ} {s : List ℕ} {r : Regex ℕ} → Derives K d k s r m → (qs : List Symbol) → From k (symbols_of r ++ qs) h c → Stands r h c × From m qs h c
  unfolding symbols_of Stands stands_at
  split (one_alternative x) qs f = split x qs f
  split (more_alternatives {k = k} {a = a} {b = b} x y) qs f =
      let p = split x (symbols_of b ++ qs) (subst (λ (ps : List Symbol). From k ps h c) (append_assoc (symbols_of a) (symbols_of b) qs) f) in
      let q = split y qs p.1 in
      ((p.0, q.0), q.1)
  split no_item qs f = (tt, f)
  split (more_items {k = k} {a = a} {b = b} x y) qs f =
      let p = split x (symbols_of b ++ qs) (subst (λ (ps : List Symbol). From k ps h c) (append_assoc (symbols_of a) (symbols_of b) qs) f) in
      let q = split y qs p.1 in
      ((p.0, q.0), q.1)
  split (symbol_item_rule {k = k} {p = p} l x y) qs f =
      let g : From k (p ∷ qs) h c = subst (λ (ps : List Symbol). From k (ps ++ qs) h c) (sign_symbols y) f in
      let e : k + 0 ≡ k = omega arith in (
        sign_stands h c y (omega (arith, l), subst (λ (n : ℕ). h n ≡ stands_for p c) e (g 0 (omega (arith, l)))),
        (λ i b. subst (λ (n : ℕ). h n ≡ stands_at qs i c) (omega arith) (g (suc i) (omega (arith, b)))),
      )
  split (group_item {k = k} l x y) qs f =
      let p = split x qs (subst (λ (ps : List Symbol). From k (ps ++ qs) h c) (sign_symbols y) f) in
      (sign_stands h c y p.0, p.1)

-- the symbols of a pattern's text are those of what is read
pub record PatternLists (p : List ℕ) (r : Regex ℕ) : Type 0 where
  pub symbols : List Symbol
  pub lists : Lists p symbols
  pub stands : (h : ℕ → Bool) (c : ℕ) → ((i : ℕ) → i < 60 → h i ≡ stands_at symbols i c) → Stands r h c

pub pattern_lists : (p : List ℕ) (r : Regex ℕ) → parse p ≡ some r → PatternLists p r
pattern_lists p r e =
    let d = ((parse_derives p r).0 e).1 in
    record {
      symbols = symbols_of r ++ [];
      lists = subst (λ (s : List ℕ). Lists s (symbols_of r ++ [])) (append-nil p) (part_listed d.1 [] [] no_more);
      stands = λ h c f. (split h c d.1 [] (λ i l. subst (λ (n : ℕ). h n ≡ stands_at (symbols_of r ++ []) i c) (omega arith) (f i (omega (arith, l))))).0;
    }
