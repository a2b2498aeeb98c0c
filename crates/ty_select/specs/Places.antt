-- Where a fault stands: what stands before it begins a selector, and with what stands there none begins so.
use Rattle.std.specs.Prelude.{◌≡◌, ℕ, ◌-◌, List, [], ◌∷◌, ◌++◌, length, Some}
use Rattle.std.specs.List.{AllByRecursion}
use Rattle.ty_select.specs.declared.token.Kind.TheVariants as kind
use Rattle.ty_select.specs.Forms.{Form}
use Rattle.ty_select.specs.Grammar.{AreTerminals}
use Rattle.ty_select.specs.Terminals.{Terminal, IsTerminal, first_terminal, BeginsWith}
use Rattle.ty_select.specs.Tokens.{lexeme}

-- tokens begin a selector in which so many may be open: with some tokens behind them they are one
abbrev pub BeginSome : ℕ → List Terminal → Type 0
BeginSome n ts = (us : List Terminal) × AllByRecursion IsTerminal us × (f : Form) × AreTerminals n (ts ++ us) f

-- tokens can't be followed by what a text begins with: by that token, or by the end
pub record IsStuck (n : ℕ) (ts : List Terminal) (text : List ℕ) : Type 0 where
  pub token : (t : Terminal) → first_terminal text ≡ Some t → ¬ (BeginSome n (ts ++ t ∷ []))
  pub ended : (lexeme text).kind ≡ kind.End → (f : Form) → ¬ (AreTerminals n ts f)

-- the byte of a text at which a token, bytes that are no token, or the end can't follow the tokens before it
pub record IsFaultPlace (n : ℕ) (text : List ℕ) (place : ℕ) : Type 0 where
  pub before : List Terminal
  pub rest : List ℕ
  pub begins : BeginsWith text before rest
  pub at_rest : place ≡ length text - length (lexeme rest).here
  pub goes_on : BeginSome n before
  pub stuck : IsStuck n before rest
