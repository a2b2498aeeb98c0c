-- The tokens that the code holds.
use Rattle.ty_select.specs.declared.token.Token.{Token}
use Rattle.ty_select.specs.Tokens.{Lexeme}

-- a token without where its texts lie
abbrev pub lexeme_of : Token → Lexeme
lexeme_of t = record { kind = t.kind; here = t.here.now; text = t.text.now; rest = t.rest.now }
