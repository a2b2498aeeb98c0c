use Rattle.std.proofs.Common.{◌≡◌, ap, ◌∙◌, drop}
use Rattle.ty_select.specs.Tokens.{Lexeme, lexeme, token_at}
use Rattle.ty_select.specs.steps.Tokens.{lexeme_of}
use Rattle.ty_select.proofs.token.next.Goals as goal

token_is : (c : goal.After-token_at) → lexeme_of c.token_at.result ≡ lexeme c.args.bytes.now
unfolding lexeme
token_is c = c.token_at.ensures ∙ ap token_at (c.after.ensures ∙ ap (λ n. drop n c.args.bytes.now) c.blank_len.ensures)

pub returns-clause-kind : goal.returns-clause-kind
returns-clause-kind c = ap (λ (l : Lexeme). l.kind) (token_is c)

pub returns-clause-here : goal.returns-clause-here
returns-clause-here c = ap (λ (l : Lexeme). l.here) (token_is c)

pub returns-clause-text : goal.returns-clause-text
returns-clause-text c = ap (λ (l : Lexeme). l.text) (token_is c)

pub returns-clause-rest : goal.returns-clause-rest
returns-clause-rest c = ap (λ (l : Lexeme). l.rest) (token_is c)
