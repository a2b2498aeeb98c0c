use Rattle.std.proofs.Common.{◌≡◌, ◌∙◌, rules, true}
use Rattle.ty_words.specs.Given.{is_given}
use Rattle.ty_words.proofs.Options.{any_of_texts}
use Rattle.ty_words.proofs.given.Given.passes.Goals as goal

pub returns-else-not-gives : goal.returns-else-not-gives
returns-else-not-gives c =
    let given : is_given c.args.self.now c.args.name.now ≡ true = search rules in
    rw given (c.contains.ensures.value ∙ any_of_texts c.args.name.now c.args.taken.now)
