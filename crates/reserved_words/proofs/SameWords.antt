-- The two lists of reserved words are the same, word by word.
use mathlib.Core.Path.{◌≡◌, refl}
use mathlib.Core.List.{List}
use mathlib.Core.Bool.{Bool, true, false, ◌||◌}
use Prim.Native.Nat.{ℕ}
use Rattle.base.specs.Pick.{pick}
use Rattle.base.specs.Ascii.{bytes}
use Rattle.record.specs.Name.{same_name}
use Rattle.record.specs.Reserved.{reserved_words, among, is_reserved}
use Rattle.token.specs.Token.{word_kind}
use Rattle.token.specs.declared.TokenKind.{TokenKind}
use Rattle.token.specs.declared.TokenKind.TheVariants.{Name, Word}
use Rattle.token.specs.declared.Reserved.{Reserved}
use Rattle.reserved_words.specs.ReservedWords.{is_reserved_kind, SameWords}

-- what is in neither list is a name
name : is_reserved_kind Name ≡ false
unfolding is_reserved_kind
name = refl

-- one word more in both lists
by : (same : Bool) (w : Reserved) (k : TokenKind) (b : Bool) → is_reserved_kind k ≡ b → is_reserved_kind (pick same (Word w) k) ≡ (same || b)
unfolding is_reserved_kind
by true w k b e = refl
by false w k b e = e

pub same_words : SameWords
unfolding is_reserved among reserved_words word_kind is_reserved_kind
same_words s =
    by (same_name s (bytes "AND")) _ _ _
    (by (same_name s (bytes "ANY")) _ _ _
    (by (same_name s (bytes "EVERY")) _ _ _
    (by (same_name s (bytes "FALSE")) _ _ _
    (by (same_name s (bytes "LIKE")) _ _ _
    (by (same_name s (bytes "NOT")) _ _ _
    (by (same_name s (bytes "NULL")) _ _ _
    (by (same_name s (bytes "OR")) _ _ _
    (by (same_name s (bytes "TRUE")) _ _ _ name))))))))
