use Rattle.std.proofs.Common.{◌≡◌, false, rules}
use Rattle.std.specs.Prelude.{codes}
use Rattle.std.specs.Str.{bytes_eq}
use Rattle.ty_words.proofs.Modes.{no_mode}
use Rattle.ty_words.proofs.words.with_mode.Goals as goal

pub returns-in_default : goal.returns-in_default
returns-in_default c =
    let stream : bytes_eq c.args.mode.now (codes "stream") ≡ false = search rules in
    let follow : bytes_eq c.args.mode.now (codes "follow") ≡ false = search rules in
    let sim : bytes_eq c.args.mode.now (codes "sim") ≡ false = search rules in
    let load : bytes_eq c.args.mode.now (codes "load") ≡ false = search rules in
    let serve : bytes_eq c.args.mode.now (codes "serve") ≡ false = search rules in
    no_mode c.args.given.now c.args.mode.now stream follow sim load serve
