-- The tokens of a text: words, quoted texts and marks.
use Rattle.std.specs.Prelude.{◌≡◌, ℕ, List, [], ◌∷◌, Option, None, Some}
use Rattle.ty_select.specs.declared.token.Kind.{Kind}
use Rattle.ty_select.specs.declared.token.Kind.TheVariants as kind
use Rattle.ty_select.specs.Printable.{IsLabel, IsQuotable}
use Rattle.ty_select.specs.Tokens.{lexeme}

-- a word, a quoted text, or a mark
pub data Terminal : Type 0 where
  a_word : List ℕ → Terminal
  a_text : List ℕ → Terminal
  paren : Terminal
  end_paren : Terminal
  brace : Terminal
  end_brace : Terminal
  comma : Terminal
  bang : Terminal
  not_equal_sign : Terminal
  equal_sign : Terminal
  and_sign : Terminal
  or_sign : Terminal

-- which words and texts there are: a text can stand in one of the quotes
abbrev pub IsTerminal : Terminal → Type 0
IsTerminal (a_word w) = IsLabel w
IsTerminal (a_text v) = IsQuotable v
IsTerminal t = Unit {0}

-- none at the end, and where bytes are no token
abbrev pub terminal : Kind → List ℕ → Option Terminal
terminal kind.Word text = Some (a_word text)
terminal kind.Quoted text = Some (a_text text)
terminal kind.Open text = Some paren
terminal kind.Close text = Some end_paren
terminal kind.LeftBrace text = Some brace
terminal kind.RightBrace text = Some end_brace
terminal kind.Comma text = Some comma
terminal kind.Bang text = Some bang
terminal kind.NotEqual text = Some not_equal_sign
terminal kind.EqualEqual text = Some equal_sign
terminal kind.AndAnd text = Some and_sign
terminal kind.OrOr text = Some or_sign
terminal kind.End text = None
terminal kind.Junk text = None

-- the first token of a text
abbrev pub first_terminal : List ℕ → Option Terminal
first_terminal text = terminal (lexeme text).kind (lexeme text).text

-- a text begins with these tokens, and this is left
abbrev pub BeginsWith : List ℕ → List Terminal → List ℕ → Type 0
BeginsWith text [] rest = text ≡ rest
BeginsWith text (t ∷ ts) rest = (first_terminal text ≡ Some t) × BeginsWith (lexeme text).rest ts rest
