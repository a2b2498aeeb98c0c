use Rattle.std.proofs.Common.{rules, arith, sym, ap, ◌∙◌, List, ◌<◌, ◌^◌, get_or, length}
use Rattle.ty_base.specs.declared.delta.Delta.{Delta}
use Rattle.ty_group.specs.declared.mark.Mark.{Mark}
use Rattle.ty_group.specs.steps.Pieces.{told_in}
use Rattle.ty_group.proofs.Fronts.{grows, ends, all, next_within, within_text, mark_is, counted}
use Rattle.ty_group.proofs.messages.front_of.Goals as goal

abbrev none : Mark
none = record { len = 0; weight = 0 }

pub returns-then-not-is_taken-clause-front : goal.returns-then-not-is_taken-clause-front
returns-then-not-is_taken-clause-front c =
    let ds : List Delta = told_in c.args.text.now c.args.marks.now in
    let m : Mark = get_or c.args.marks.now c.loop-front.front.count none in
    ends ds c.loop-front.front.count c.loop-front.front.len c.loop-front.weight m
    (omega (arith, c.loop-front-test.true, counted c.args.text.now c.args.marks.now c.requires.encoded))
    (mark_is c.args.text.now c.args.marks.now c.loop-front.front.count none c.requires.encoded c.loop-front-test.true)
    (sym c.is_taken.ensures ∙ c.if-not-is_taken.true)
    c.loop-front.invariant

pub returns-then-not-is_taken-clause-within : goal.returns-then-not-is_taken-clause-within
returns-then-not-is_taken-clause-within c = omega (arith, c.loop-front.invariant.text, ap length c.requires.encoded.same, within_text c.loop-front.front.count (told_in c.args.text.now c.args.marks.now))

pub overflow_add-front-in-loop-front : goal.overflow_add-front-in-loop-front
overflow_add-front-in-loop-front c =
    let ds : List Delta = told_in c.args.text.now c.args.marks.now in
    let m : Mark = get_or c.args.marks.now c.loop-front.front.count none in
    let below : c.loop-front.front.count < length ds = omega (arith, c.loop-front-test.true, counted c.args.text.now c.args.marks.now c.requires.encoded) in
    let most : length c.args.text.now < 2 ^ 64 = search rules in
    omega (
      arith,
      most,
      c.loop-front.invariant.text,
      ap length c.requires.encoded.same,
      next_within ds c.loop-front.front.count m below (mark_is c.args.text.now c.args.marks.now c.loop-front.front.count none c.requires.encoded c.loop-front-test.true),
    )

pub loop-front-preserved : goal.loop-front-preserved
loop-front-preserved c =
    let ds : List Delta = told_in c.args.text.now c.args.marks.now in
    let m : Mark = get_or c.args.marks.now c.loop-front.front.count none in
    grows ds c.loop-front.front.count c.loop-front.front.len c.loop-front.weight m
    (omega (arith, c.loop-front-test.true, counted c.args.text.now c.args.marks.now c.requires.encoded))
    (mark_is c.args.text.now c.args.marks.now c.loop-front.front.count none c.requires.encoded c.loop-front-test.true)
    (sym c.is_taken.ensures ∙ c.if-not-is_taken.false)
    c.loop-front.invariant

pub returns-clause-front : goal.returns-clause-front
returns-clause-front c =
    let ds : List Delta = told_in c.args.text.now c.args.marks.now in
    all ds c.loop-front.front.count c.loop-front.front.len c.loop-front.weight
    (omega (arith, c.loop-front-test.false, counted c.args.text.now c.args.marks.now c.requires.encoded))
    c.loop-front.invariant
