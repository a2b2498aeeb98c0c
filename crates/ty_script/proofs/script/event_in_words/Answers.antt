use Rattle.std.proofs.Common.{rules, tests, not, length, ◌==◌, ◌∙◌}
use Rattle.std.proofs.lemmas.Iterator.Splits.{YieldsList-from_slice_split}
use Rattle.std.proofs.lemmas.Iterator.Consumers.{YieldsList-from_filter, YieldsList-at}
use Rattle.ty_script.specs.Script.{parts_words}
use Rattle.ty_script.proofs.Words.{by_steps, none, one, two, three, four}
use Rattle.ty_script.proofs.script.event_in_words.Goals as goal
use Rattle.ty_script.proofs.script.event_in_words.Goals.{in_default-via-in-Some+in-Some+in-Some+in_default, in_default-via-in-Some+in_default, in_default-via-in_default}

pub returns-in-Some-Some-None-default : goal.returns-in-Some-Some-None-default
returns-in-Some-Some-None-default c =
    let road = by_steps c.filter-words.ensures.runs (YieldsList-from_filter _ (λ word. not (length word == 0))
    (YieldsList-at c.filter-words.ensures.source (YieldsList-from_slice_split _ parts_words c.args.line.now c.split.ensures.rest c.split.ensures.done c.split.ensures.closure (λ x b q k. search (rules, tests))))
    c.filter-words.ensures.closure (λ x b q k. search (rules, tests))) in
    let came = c.in-Some-Some-None-default in
    c.event_of_one.ensures ∙ two road came.name came.number c.next.new.self c.next-2.new.self c.next-3.new.self came.ensures.steps came.ensures'.steps came.ensures''.steps

pub returns-in-Some-Some-Some-None : goal.returns-in-Some-Some-Some-None
returns-in-Some-Some-Some-None c =
    let road = by_steps c.filter-words.ensures.runs (YieldsList-from_filter _ (λ word. not (length word == 0))
    (YieldsList-at c.filter-words.ensures.source (YieldsList-from_slice_split _ parts_words c.args.line.now c.split.ensures.rest c.split.ensures.done c.split.ensures.closure (λ x b q k. search (rules, tests))))
    c.filter-words.ensures.closure (λ x b q k. search (rules, tests))) in
    let came = c.in-Some-Some-Some-None in
    c.event_of_two.ensures ∙ three road came.name came.client came.count c.next.new.self c.next-2.new.self c.next-3.new.self c.next-4.new.self came.ensures.steps came.ensures'.steps came.ensures''.steps came.ensures'''.steps

pub returns-in_default : goal.returns-in_default
returns-in_default c =
    let road = by_steps c.filter-words.ensures.runs (YieldsList-from_filter _ (λ word. not (length word == 0))
    (YieldsList-at c.filter-words.ensures.source (YieldsList-from_slice_split _ parts_words c.args.line.now c.split.ensures.rest c.split.ensures.done c.split.ensures.closure (λ x b q k. search (rules, tests))))
    c.filter-words.ensures.closure (λ x b q k. search (rules, tests))) in
    elim c.in_default.branch [
      | in_default-via-in-Some+in-Some+in-Some+in_default w ↦
          let came = w.in_default in
          four road came.field-0-0 came.field-0-1 came.field-0-2 came.field-0-3 c.next.new.self c.next-2.new.self c.next-3.new.self c.next-4.new.self came.ensures.steps came.ensures'.steps came.ensures''.steps came.ensures'''.steps
      | in_default-via-in-Some+in_default w ↦ one road w.in_default.field-0-0 c.next.new.self c.next-2.new.self w.in_default.ensures.steps w.in_default.ensures'.steps
      | in_default-via-in_default w ↦ none road c.next.new.self w.in_default.ensures.steps
    ]
