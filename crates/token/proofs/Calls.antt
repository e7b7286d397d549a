-- What a walk by hand knows of a call of a reader's function: what it is passed, what it asks for, and what it says of its result.
use mathlib.Core.Path.{◌≡◌, refl}
use Prim.Native.Nat.{ℕ, ◌<◌, ◌^◌}
use mathlib.Core.List.{List, [], ◌∷◌}
use lib.ListN.{length}
use seplogic.Ra.Ura.{Ura}
use mir.Syntax.{named, w8, w64}
use mir.Val.{Val, vint}
use base.Logic.{SProp, ent, sep, snd∗, ex_e}
use base.Fml.{Lft, Share, Fml, ftrue, flft}
use prog.Memory.{Memory}
use prog.Routine.{Routine}
use types.Logic.{Logic, sem}
use contract.Monad.{Fun, fact}
use types.Kit.{‵, raw, ◌⊛◌, ⋆, ◌$◌, ◌∵◌, !, qed, move, drop, use1, use2, split, join, fsplit, fjoin, frame, done}
use denote.RattleType.{RattleType, owns}
use denote.Laws.{Is}
use denote.Builtin.{u8, usize}
use denote.Plain.{uint_Makes, uint_row_laws}
use denote.Ref.{Bor}
use denote.Signature.{named_lft}
use denote.Slice.{slice_val, ShrSlice, shr_slice_copy}
use denote.Steps.{owned, nothing}
use denote.Struct.Laws as LL
use denote.Triple.Statement.{Contract}
use denote.Triple.Spec.{triple_of}
use denote.Triple.Clauses.{ensured, lasts}
use Rattle.token.specs.Token.{SpansIf}
use Rattle.token.specs.Reader.{reader_at, next_token, moved_past}
use Rattle.token.specs.declared.Token.{Token}
use Rattle.token.specs.declared.reader.Reader.{Reader}
use Rattle.token.specs.contracts.reader.Reader as T
use Rattle.token.specs.contracts.Token as S
use Rattle.token.proofs.Token.TheLaws as S'
use Rattle.token.specs.contracts.reader.reader_at as reader_at
use Rattle.token.specs.contracts.reader.moved_past as moved-past
use Rattle.token.specs.contracts.reader.next_token as next-token

module _ {M : Type 1} {𝓤 : Ura M} (𝓛 : Logic 𝓤) (mem : Memory → SProp 𝓤) (run : Routine → Fun 𝓤) where
  abbrev pub ReaderAt : Contract 𝓤
  ReaderAt = triple_of 𝓛 reader_at.signature (reader_at.spec 𝓛 mem run)

  abbrev pub MovedPast : Contract 𝓤
  MovedPast = triple_of 𝓛 moved-past.signature (moved-past.spec 𝓛 mem run)

  abbrev pub NextToken : Contract 𝓤
  NextToken = triple_of 𝓛 next-token.signature (next-token.spec 𝓛 mem run)

-- the machine values of a slice, and of a token by its fields: the one computed whole is stuck on the token's kind
abbrev pub slice_of : Bor (List ℕ) → Val
slice_of s = slice_val s.ref_ptr (length s.now)

abbrev pub token_of : Token → Val
token_of = LL.val S.the_type S'.the_laws

-- what `next_token` says of a token
abbrev pub Next : Reader → Token → Type 0
Next r t = (t ≡ next_token r) × SpansIf (length r.query.now) r.offset t

-- the struct's type, over a lifetime
abbrev pub B : Lft → RattleType
B κ = T.the_row (named_lft 1 0 tt (κ, tt))

-- what a slice owns
abbrev pub Own : Lft → Bor (List ℕ) → Fml
Own κ s = (ShrSlice (named 0) κ u8).own_val s (slice_of s ∷ [])

module _ {M : Type 1} {𝓤 : Ura M} (𝓛 : Logic 𝓤) (mem : Memory → SProp 𝓤) (run : Routine → Fun 𝓤) (κ : Lft) (q : Share) where
  module _ (s : Bor (List ℕ)) where
    abbrev pub to_reader : ℕ → (ReaderAt 𝓛 mem run).Ghost
    to_reader n = (((κ, tt), (q, tt), tt, (s, (n, tt)), (slice_of s ∷ [], (vint w64 n ∷ [], tt))), tt)

    asks_reader : (n : ℕ) → n < 2 ^ 64 → ent 𝓤 (⋆ 𝓛 (‵ (Own κ s) ∷ (‵ (flft κ q) ⊛ ‵ ftrue) ∷ [])) ((ReaderAt 𝓛 mem run).pre (to_reader n))
    asks_reader n ok =
        qed 𝓛 (‵ (Own κ s) ∷ (‵ (flft κ q) ⊛ ‵ ftrue) ∷ []) ∵ nothing ! $ owned ! usize (Is usize) (uint_Makes 𝓛 w64) n _ (refl, ok) $ fjoin ! $
        move ! (1 ∷ 0 ∷ []) $ fjoin ! $ move ! (1 ∷ 0 ∷ []) $ join ! $ frame ! $ done !

    -- a function of the slice and another value makes a reader: a `&[u8]` is Copy, and what it owns is kept for the exit
    pub goes_reader : (P : RattleType) (x : P.Denot) (vs : List Val) (n : ℕ) → n < 2 ^ 64
        → ent 𝓤 (⋆ 𝓛 ((‵ (flft κ q) ⊛ ‵ ftrue) ∷ ‵ (owns (ShrSlice (named 0) κ u8 ∷ P ∷ []) (s, (x, tt)) (slice_of s ∷ [], (vs, tt))) ∷ [])) (sep 𝓤 ((ReaderAt 𝓛 mem run).pre (to_reader n)) (sem 𝓛 (Own κ s)))
    goes_reader P x vs n ok =
        qed 𝓛 ((‵ (flft κ q) ⊛ ‵ ftrue) ∷ ‵ (owns (ShrSlice (named 0) κ u8 ∷ P ∷ []) (s, (x, tt)) (slice_of s ∷ [], (vs, tt))) ∷ []) ∵
        move ! (1 ∷ []) $ fsplit ! $ move ! (1 ∷ []) $ drop ! $ use1 𝓛 (‵ (Own κ s) ⊛ ‵ (Own κ s)) ((shr_slice_copy 𝓛 (named 0) κ u8 (uint_row_laws w8)).twice s (slice_of s ∷ [])) $ split ! $
        move ! (0 ∷ 2 ∷ []) $ use2 𝓛 (raw ((ReaderAt 𝓛 mem run).pre (to_reader n))) (asks_reader n ok) $ frame ! $ done !

    pub reader_said : (n : ℕ) (r : Reader) → ent 𝓤 (ensured 𝓛 reader_at.ended (reader_at.clauses 𝓛 mem run) (κ, tt) (s, (n, tt)) tt r) (fact 𝓤 (r ≡ reader_at s n))
    reader_said n r = ex_e 𝓤 _ (λ ws. snd∗ 𝓤 (sem 𝓛 (lasts reader_at.ended (κ, tt) (s, (n, tt)) ws)) (fact 𝓤 (r ≡ reader_at s n)))

  -- a reader r with the machine value u, moved past t
  abbrev pub to_moved : Reader → Val → Token → (MovedPast 𝓛 mem run).Ghost
  to_moved r u t = (((κ, tt), (q, tt), tt, (r, (t, tt)), (u ∷ [], (token_of t ∷ [], tt))), tt)

  pub goes_moved : (r : Reader) (u : Val) (t : Token) → Is S.the_row t (token_of t ∷ []) → ent 𝓤 (⋆ 𝓛 (‵ ((B κ).own_val r (u ∷ [])) ∷ (‵ (flft κ q) ⊛ ‵ ftrue) ∷ [])) ((MovedPast 𝓛 mem run).pre (to_moved r u t))
  goes_moved r u t is =
      qed 𝓛 (‵ ((B κ).own_val r (u ∷ [])) ∷ (‵ (flft κ q) ⊛ ‵ ftrue) ∷ []) ∵ nothing ! $ owned ! S.the_row (Is S.the_row) (LL.makes S.the_type S'.the_plain 𝓛) t _ is $ fjoin ! $
      move ! (1 ∷ 0 ∷ []) $ fjoin ! $ move ! (1 ∷ 0 ∷ []) $ join ! $ frame ! $ done !

  pub moved_said : (r : Reader) (t : Token) (m : Reader) → ent 𝓤 (ensured 𝓛 moved-past.ended (moved-past.clauses 𝓛 mem run) (κ, tt) (r, (t, tt)) tt m) (fact 𝓤 (m ≡ moved_past r t))
  moved_said r t m = ex_e 𝓤 _ (λ ws. snd∗ 𝓤 (sem 𝓛 (lasts moved-past.ended (κ, tt) (r, (t, tt)) ws)) (fact 𝓤 (m ≡ moved_past r t)))

  -- the token of a reader r with the machine value u
  abbrev pub to_next : Reader → Val → (NextToken 𝓛 mem run).Ghost
  to_next r u = (((κ, tt), (q, tt), tt, (r, tt), (u ∷ [], tt)), tt)

  pub goes_next : (r : Reader) (u : Val) → ent 𝓤 (⋆ 𝓛 (‵ ((B κ).own_val r (u ∷ [])) ∷ (‵ (flft κ q) ⊛ ‵ ftrue) ∷ [])) ((NextToken 𝓛 mem run).pre (to_next r u))
  goes_next r u = qed 𝓛 (‵ ((B κ).own_val r (u ∷ [])) ∷ (‵ (flft κ q) ⊛ ‵ ftrue) ∷ []) ∵ nothing ! $ move ! (1 ∷ 0 ∷ []) $ fjoin ! $ move ! (1 ∷ 0 ∷ []) $ join ! $ frame ! $ done !

  pub next_said : (r : Reader) (t : Token) → ent 𝓤 (ensured 𝓛 next-token.ended (next-token.clauses 𝓛 mem run) (κ, tt) (r, tt) tt t) (fact 𝓤 (Next r t))
  next_said r t = ex_e 𝓤 _ (λ ws. snd∗ 𝓤 (sem 𝓛 (lasts next-token.ended (κ, tt) (r, tt) ws)) (fact 𝓤 (Next r t)))
