-- The position automaton of a pattern, put together from its parts: whether a part matches the empty text, the symbols that may come first and last in
-- it, and for each symbol those that may follow it. Sets of symbols are numbers (specs/Bits of base).
use Rattle.std.specs.Prelude.{Bool, true, false, ◌&&◌, ◌||◌, ℕ, ◌^◌}
use Rattle.std.specs.Int.Bits.{bit_or}
use Rattle.base.specs.Bits.{bit}
use Rattle.base.specs.Pick.{pick}
use Rattle.pattern.specs.declared.fragment.Fragment.{Fragment}
use Rattle.pattern.specs.Regex.{Regex, empty, sym, seq, alt, opt, plus}

-- the set where the test holds, else the empty one
abbrev pub kept_if : Bool → ℕ → ℕ
kept_if b s = pick b s 0

-- ---- the sets of a part

abbrev pub no_fragment : Fragment
no_fragment = record { nullable = false; first = 0; last = 0 }

abbrev pub empty_fragment : Fragment
empty_fragment = record { nullable = true; first = 0; last = 0 }

abbrev pub symbol_fragment : ℕ → Fragment
symbol_fragment k = record { nullable = false; first = 2 ^ k; last = 2 ^ k }

abbrev pub sequence_fragment : Fragment → Fragment → Fragment
sequence_fragment f g = record {
  nullable = f.nullable && g.nullable;
  first = bit_or f.first (kept_if f.nullable g.first);
  last = bit_or g.last (kept_if g.nullable f.last);
}

abbrev pub alternatives_fragment : Fragment → Fragment → Fragment
alternatives_fragment f g = record { nullable = f.nullable || g.nullable; first = bit_or f.first g.first; last = bit_or f.last g.last }

abbrev pub optional_fragment : Fragment → Fragment
optional_fragment f = record { nullable = true; first = f.first; last = f.last }

-- ---- the automaton

-- the sets, and for each symbol those that may follow it
pub record Automaton : Type 0 where
  pub sets : Fragment
  pub next : ℕ → ℕ

-- what follows symbol j where each symbol of `first` may follow each of `last`
abbrev pub over : ℕ → ℕ → ℕ → ℕ
over last first j = kept_if (bit last j) first

abbrev pub nothing : Automaton
nothing = record { sets = no_fragment; next = λ j. 0 }

abbrev pub empty_text : Automaton
empty_text = record { sets = empty_fragment; next = λ j. 0 }

abbrev pub one_symbol : ℕ → Automaton
one_symbol k = record { sets = symbol_fragment k; next = λ j. 0 }

abbrev pub in_sequence : Automaton → Automaton → Automaton
in_sequence a b = record {
  sets = sequence_fragment a.sets b.sets;
  next = λ j. bit_or (bit_or (a.next j) (b.next j)) (over a.sets.last b.sets.first j);
}

abbrev pub in_alternatives : Automaton → Automaton → Automaton
in_alternatives a b = record { sets = alternatives_fragment a.sets b.sets; next = λ j. bit_or (a.next j) (b.next j) }

abbrev pub optional : Automaton → Automaton
optional a = record { sets = optional_fragment a.sets; next = a.next }

abbrev pub again : Automaton → Automaton
again a = record { sets = a.sets; next = λ j. bit_or (a.next j) (over a.sets.last a.sets.first j) }

unfoldable pub automaton_of : Regex ℕ → Automaton
automaton_of empty = empty_text
automaton_of (sym k p) = one_symbol k
automaton_of (seq a b) = in_sequence (automaton_of a) (automaton_of b)
automaton_of (alt a b) = in_alternatives (automaton_of a) (automaton_of b)
automaton_of (opt a) = optional (automaton_of a)
automaton_of (plus a) = again (automaton_of a)
