-- From clap's clauses to the words of this crate.
use Rattle.std.proofs.Common.{◌≡◌, ◌≢◌, ◌∙◌, ap, refl, sym, subst, inl, inr, true, List, [], ◌∷◌, Some, None}
use Rattle.clap.proofs.OnLiterals.{clap_on_literals}
use Rattle.clap.specs.Words.{App, HasKind, IsAmong, Kinds, Row, Text, fault_of, is_simple, is_simple_and_free, kind_of, matches_of}
use Rattle.clap.specs.declared.error.Error.{Error}
use Rattle.clap.specs.declared.error.kind.ErrorKind.TheVariants.{OutOfMemory}
use Rattle.ty_words.specs.Cli.{cli}
use Rattle.ty_words.specs.Given.{rows_at, where_taken}

cli_is_simple_and_free : is_simple_and_free cli ≡ true
unfolding clap_on_literals
cli_is_simple_and_free = refl

cli_is_simple : is_simple cli ≡ true
unfolding clap_on_literals
cli_is_simple = refl

pub simple_and_free : (a : App) → a ≡ cli → is_simple_and_free a ≡ true
simple_and_free a is = ap is_simple_and_free is ∙ cli_is_simple_and_free

pub simple : (a : App) → a ≡ cli → is_simple a ≡ true
simple a is = ap is_simple is ∙ cli_is_simple

-- words that the command takes
pub rows_taken : (a : App) (words : List Text) (rows : List Row) → a ≡ cli → rows ≡ matches_of a words → fault_of a words ≡ [] → Some rows ≡ rows_at words
unfolding rows_at
rows_taken a words rows is found none =
    ap (where_taken []) (found ∙ ap (λ (b : App). matches_of b words) is) ∙ ap (λ (k : Kinds). where_taken k (matches_of cli words)) (sym none ∙ ap (λ (b : App). fault_of b words) is)

none_taken : (kinds : Kinds) (rows : List Row) (e : Error) → IsAmong (kind_of e) kinds → None ≡ where_taken kinds rows
none_taken [] rows e among = absurd among
none_taken (k ∷ ks) rows e among = refl

-- an error that isn't want of memory comes only of words that are refused
pub none_at : (a : App) (words : List Text) (e : Error) → a ≡ cli → HasKind (fault_of a words) e → kind_of e ≢ OutOfMemory → None ≡ rows_at words
unfolding rows_at
none_at a words e is (inl memory) other = absurd (other memory)
none_at a words e is (inr among) other =
    none_taken (fault_of cli words) (matches_of cli words) e (subst (λ (b : App). IsAmong (kind_of e) (fault_of b words)) is among)
