use Rattle.std.proofs.Common.{refl, sym, subst}
use Rattle.ty_crumb.specs.declared.successor.Made.{Made}
use Rattle.ty_crumb.specs.steps.Following.{IsMadeOf}
use Rattle.ty_crumb.proofs.successor.next_crumb.Goals as goal

pub returns-clause-unchanged : goal.returns-clause-unchanged
returns-clause-unchanged c =
    let last = c.args.last.now in
    let made = c.in_ok-made_after.ensures.made last c.args.items.now (record { number = refl; status = refl; pairs = sym c.in_ok-copy.ensures }) (record { batch = c.requires.batch; pairs = c.in_ok-pending.ensures.pairs; status = c.in_ok-pending.ensures.status }) in
    let P : Made → Type 0 = IsMadeOf last c.args.items.now c.args.cut c.args.now in (subst P (sym c.made_of.ensures) made).unchanged

pub returns-clause-entries : goal.returns-clause-entries
returns-clause-entries c =
    let last = c.args.last.now in
    let made = c.in_ok-made_after.ensures.made last c.args.items.now (record { number = refl; status = refl; pairs = sym c.in_ok-copy.ensures }) (record { batch = c.requires.batch; pairs = c.in_ok-pending.ensures.pairs; status = c.in_ok-pending.ensures.status }) in
    let P : Made → Type 0 = IsMadeOf last c.args.items.now c.args.cut c.args.now in (subst P (sym c.made_of.ensures) made).entries

pub returns-clause-number : goal.returns-clause-number
returns-clause-number c =
    let last = c.args.last.now in
    let made = c.in_ok-made_after.ensures.made last c.args.items.now (record { number = refl; status = refl; pairs = sym c.in_ok-copy.ensures }) (record { batch = c.requires.batch; pairs = c.in_ok-pending.ensures.pairs; status = c.in_ok-pending.ensures.status }) in
    let P : Made → Type 0 = IsMadeOf last c.args.items.now c.args.cut c.args.now in (subst P (sym c.made_of.ensures) made).number

pub returns-clause-at : goal.returns-clause-at
returns-clause-at c =
    let last = c.args.last.now in
    let made = c.in_ok-made_after.ensures.made last c.args.items.now (record { number = refl; status = refl; pairs = sym c.in_ok-copy.ensures }) (record { batch = c.requires.batch; pairs = c.in_ok-pending.ensures.pairs; status = c.in_ok-pending.ensures.status }) in
    let P : Made → Type 0 = IsMadeOf last c.args.items.now c.args.cut c.args.now in (subst P (sym c.made_of.ensures) made).at

pub returns-clause-world : goal.returns-clause-world
returns-clause-world c =
    let last = c.args.last.now in
    let made = c.in_ok-made_after.ensures.made last c.args.items.now (record { number = refl; status = refl; pairs = sym c.in_ok-copy.ensures }) (record { batch = c.requires.batch; pairs = c.in_ok-pending.ensures.pairs; status = c.in_ok-pending.ensures.status }) in
    let P : Made → Type 0 = IsMadeOf last c.args.items.now c.args.cut c.args.now in (subst P (sym c.made_of.ensures) made).world

pub returns-clause-few : goal.returns-clause-few
returns-clause-few c =
    let last = c.args.last.now in
    let made = c.in_ok-made_after.ensures.made last c.args.items.now (record { number = refl; status = refl; pairs = sym c.in_ok-copy.ensures }) (record { batch = c.requires.batch; pairs = c.in_ok-pending.ensures.pairs; status = c.in_ok-pending.ensures.status }) in
    let P : Made → Type 0 = IsMadeOf last c.args.items.now c.args.cut c.args.now in (subst P (sym c.made_of.ensures) made).few

pub returns-clause-stands : goal.returns-clause-stands
returns-clause-stands c =
    let last = c.args.last.now in
    let made = c.in_ok-made_after.ensures.made last c.args.items.now (record { number = refl; status = refl; pairs = sym c.in_ok-copy.ensures }) (record { batch = c.requires.batch; pairs = c.in_ok-pending.ensures.pairs; status = c.in_ok-pending.ensures.status }) in
    let P : Made → Type 0 = IsMadeOf last c.args.items.now c.args.cut c.args.now in (subst P (sym c.made_of.ensures) made).stands

pub returns-clause-book : goal.returns-clause-book
returns-clause-book c =
    let last = c.args.last.now in
    let made = c.in_ok-made_after.ensures.made last c.args.items.now (record { number = refl; status = refl; pairs = sym c.in_ok-copy.ensures }) (record { batch = c.requires.batch; pairs = c.in_ok-pending.ensures.pairs; status = c.in_ok-pending.ensures.status }) in
    let P : Made → Type 0 = IsMadeOf last c.args.items.now c.args.cut c.args.now in (subst P (sym c.made_of.ensures) made).book
