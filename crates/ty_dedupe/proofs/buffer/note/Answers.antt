use Rattle.std.proofs.Common.{map, ap, ◌∙◌}
use Rattle.std.specs.Str.{bytes_eq}
use Rattle.indexmap.specs.IndexMap.{insert_entry}
use Rattle.ty_dedupe.specs.Pending.{shown}
use Rattle.ty_dedupe.proofs.Pending.{shown_insert}
use Rattle.ty_dedupe.proofs.buffer.note.Goals as goal

pub returns-clause-ok : goal.returns-clause-ok
returns-clause-ok c =
    let es = c.args.pairs.now.entries in
    ap (map shown) c.in_ok-insert.ensures.entries
    ∙ shown_insert es c.into_string-key.result c.args.value
    ∙ ap (λ k. insert_entry bytes_eq (map shown es) k c.args.value) c.into_string-key.ensures
