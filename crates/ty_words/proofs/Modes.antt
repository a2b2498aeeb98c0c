-- A mode that is none of the five.
use Rattle.std.proofs.Common.{◌≡◌, ◌∙◌, ap, sym, Bool, false, List}
use Rattle.std.specs.Prelude.{codes, Option, None, if◌then◌else◌}
use Rattle.std.specs.Str.{bytes_eq}
use Rattle.clap.specs.Words.{Row, Text}
use Rattle.ty_words.specs.Words.{follow_with, load_with, mode_with, serve_with, sim_with, stream_with}
use Rattle.ty_words.specs.declared.words.Command.{Command}

otherwise : (b : Bool) (x y : Option Command) → b ≡ false → (if b then x else y) ≡ y
otherwise b x y e = ap (λ (v : Bool). if v then x else y) e

pub no_mode : (rows : List Row) (mode : Text) → bytes_eq mode (codes "stream") ≡ false → bytes_eq mode (codes "follow") ≡ false → bytes_eq mode (codes "sim") ≡ false → bytes_eq mode (codes "load") ≡ false → bytes_eq mode (codes "serve") ≡ false → None ≡ mode_with rows mode
no_mode rows mode stream follow sim load serve =
    sym (otherwise (bytes_eq mode (codes "stream")) (stream_with rows) _ stream
    ∙ otherwise (bytes_eq mode (codes "follow")) (follow_with rows) _ follow
    ∙ otherwise (bytes_eq mode (codes "sim")) (sim_with rows) _ sim
    ∙ otherwise (bytes_eq mode (codes "load")) (load_with rows) _ load
    ∙ otherwise (bytes_eq mode (codes "serve")) (serve_with rows) None serve)
