use Rattle.std.proofs.Common.{rules, ◌&&◌, string_bytes, sym, ◌∙◌}
use Rattle.std.proofs.lemmas.Iterator.Consumers.{YieldsList-from_rest}
use Rattle.std.proofs.lemmas.Iterator.Search.{all_from_yields_List}
use Rattle.serde_json.specs.View.{view}
use Rattle.ty_rules.specs.Tests.{text}
use Rattle.ty_select.specs.Words.{is_word}
use Rattle.ty_rules.proofs.Lists.{list_all-members}
use Rattle.ty_values.proofs.label.are_labels.Goals as goal

pub returns : goal.returns
returns c =
    let es = c.args.map.now.entries in
    let run = all_from_yields_List (λ e. is_word (string_bytes e.0) && text (view e.1)) _ _ _ c.all.ensures.ran (YieldsList-from_rest es c.iter.ensures.rest) (λ x b q k. search rules) in
    run ∙ sym (list_all-members (λ m. is_word m.0 && text m.1) es)
