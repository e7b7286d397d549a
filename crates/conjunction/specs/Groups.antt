-- 02 Q-7: "Take each query as ORed terms of ANDed groups; a query without brackets is one group." A group's text starts with its first token and ends with its last, so
-- that what stands between the brackets, or the whole unbracketed query, has lost its outer whitespace (`group_trimmed` of conjunction_laws/proofs/Trimmed).
use Rattle.std.specs.Prelude.{ℕ, zero, suc, List, true, false, length, None, Option, Some}
use Rattle.token.specs.declared.Token.{Token}
use Rattle.token.specs.Token.{token_after}
use Rattle.terminal.specs.declared.operator.BoolOp.TheVariants.{And, Or}
use Rattle.terminal.specs.Terminal.{inside, joining}
use Rattle.syntax.specs.Scan.{scan}
use Rattle.query_text.specs.Query.{query_start}
use Rattle.query_text.specs.Tree.{Chain, one, then, front}
use Rattle.operand.specs.Named.{spanned}
use Rattle.conjunction.specs.declared.group.Group.{Group}
use Rattle.terminal.specs.declared.operator.BoolOp.{BoolOp}

-- the last token of a group from one of its tokens on, by at most so many steps
unfoldable pub last_within : (steps : ℕ) (query : List ℕ) → Token → Token
last_within zero q t = t
last_within (suc n) q t = elim (inside (token_after q t).kind) [ true ↦ last_within n q (token_after q t) | false ↦ t ]

-- a token has a byte, so that there are steps enough (`last_next` of proofs/Walk)
unfoldable pub last : (query : List ℕ) → Token → Token
last q t = last_within (length q) q t

-- what stands behind the group's last token and its ")": a bool-op, or the end
abbrev pub behind : (query : List ℕ) → Token → Token
behind q t = token_after q (token_after q (last q t))

-- the group that starts with a token; behind the bool-op stand "(" and the next group's first token
unfoldable pub group_at : (query : List ℕ) → Token → Group
group_at q t =
    record {
      text = record { start = t.start; end = (last q t).end };
      joining = joining (behind q t);
      next = token_after q (token_after q (behind q t));
    }

abbrev pub text_of : (query : List ℕ) → Group → List ℕ
text_of q g = spanned q g.text

-- a group before those behind it, as they are joined
unfoldable pub follow : {A : Type 0} → A → Option BoolOp → Chain (Chain A) → Chain (Chain A)
follow a (Some And) r = front (then a) r
follow a (Some Or) r = then (one a) r
follow a None r = one (one a)

-- the terms from a group's first token on, by at most so many groups more
unfoldable pub terms_within : (groups : ℕ) (query : List ℕ) → Token → Chain (Chain (List ℕ))
terms_within zero q t = one (one (text_of q (group_at q t)))
terms_within (suc n) q t = follow (text_of q (group_at q t)) (group_at q t).joining (terms_within n q (group_at q t).next)

-- a group has a byte, so that there are groups enough (`terms_next` of proofs/Walk)
unfoldable pub terms_from : (query : List ℕ) → Token → Chain (Chain (List ℕ))
terms_from q t = terms_within (length q) q t

-- the texts of a query's groups: ORed terms of ANDed groups
abbrev pub terms_of : (query : List ℕ) → Chain (Chain (List ℕ))
terms_of q = terms_from q (query_start (scan q)).token
