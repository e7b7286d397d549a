-- A comparison holds places in the query's text, and the check and Meaning read literals, elements, indices and patterns again from there.
-- This is what it takes for that to be what the grammar read (DSP0212 5.3.2); proofs/ReadAgain proves it of every comparison of every query.
use Rattle.std.specs.Prelude.{ℕ, ◌<◌, List, length, All, true, ◌≡◌, None, Option, Some}
use Rattle.token.specs.declared.TokenKind.TheVariants.{Text}
use Rattle.token.specs.declared.Token.{Token}
use Rattle.token.specs.Token.{token_at}
use Rattle.terminal.specs.Terminal.{literal, unsigned}
use Rattle.syntax.specs.declared.right_side.RightSide.{RightSide}
use Rattle.syntax.specs.declared.right_side.RightSide.TheVariants.{Literal, Elements, Property, Pattern}
use Rattle.syntax.specs.declared.comparison.Comparison.{Comparison}
use Rattle.syntax.specs.Scan.{scan}
use Rattle.grammar.specs.Abnf.{Fits, array_literal_rule}
use Rattle.grammar.specs.Limits.{element_count}
use Rattle.acceptance.specs.Comparisons.{literals_of}
use Rattle.operand.specs.Element.{element_tokens}

-- a token that is a scalar-literal, within the text
pub record IsLiteral (query : List ℕ) (t : Token) : Type 0 where
  pub literal : literal t ≡ true
  pub within : t.start < length query

-- a like-literal
pub record IsPattern (query : List ℕ) (t : Token) : Type 0 where
  pub text : t.kind ≡ Text
  pub within : t.start < length query

-- an index, which is an unsigned-integer
pub record IsIndex (query : List ℕ) (t : Token) : Type 0 where
  pub unsigned : unsigned query t ≡ true
  pub within : t.start < length query

-- an array-literal at a place: the tokens that are listed from there are its scalar-literals, as many as are counted
pub record IsArray (query : List ℕ) (start count : ℕ) : Type 0 where
  pub brace : Token
  pub past : Token
  pub derives : Fits (scan query) array_literal_rule brace past
  pub starts : brace.start ≡ start
  pub found : token_at query start ≡ brace
  pub counted : element_count derives ≡ count
  pub listed : element_tokens query start count ≡ literals_of derives
  pub literals : All (IsLiteral query) (element_tokens query start count)

abbrev pub IndexAgain : (query : List ℕ) → Option Token → Type 0
IndexAgain q None = Unit
IndexAgain q (Some t) = IsIndex q t

abbrev pub RightAgain : (query : List ℕ) → RightSide → Type 0
RightAgain q (Literal t) = IsLiteral q t
RightAgain q (Elements start count end) = IsArray q start count
RightAgain q (Property p i) = IndexAgain q i
RightAgain q (Pattern t) = IsPattern q t

pub record ReadAgain (query : List ℕ) (c : Comparison) : Type 0 where
  pub index : IndexAgain query c.left.index
  pub right : RightAgain query c.right
