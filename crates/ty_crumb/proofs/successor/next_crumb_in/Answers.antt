use Rattle.std.proofs.Common.{refl}
use Rattle.ty_crumb.proofs.Following.{if_ok-map}
use Rattle.ty_crumb.proofs.successor.next_crumb_in.Goals as goal

pub returns-clause-unchanged : goal.returns-clause-unchanged
returns-clause-unchanged c = if_ok-map (λ f h. h.unchanged) c.made_after.result (c.made_after.ensures.made c.args.last c.args.items.items (record { number = refl; status = refl; pairs = refl }) (record { batch = c.requires.batch; pairs = c.in_ok-pending.ensures.pairs; status = c.in_ok-pending.ensures.status }))

pub returns-clause-entries : goal.returns-clause-entries
returns-clause-entries c = if_ok-map (λ f h. h.entries) c.made_after.result (c.made_after.ensures.made c.args.last c.args.items.items (record { number = refl; status = refl; pairs = refl }) (record { batch = c.requires.batch; pairs = c.in_ok-pending.ensures.pairs; status = c.in_ok-pending.ensures.status }))

pub returns-clause-number : goal.returns-clause-number
returns-clause-number c = if_ok-map (λ f h. h.number) c.made_after.result (c.made_after.ensures.made c.args.last c.args.items.items (record { number = refl; status = refl; pairs = refl }) (record { batch = c.requires.batch; pairs = c.in_ok-pending.ensures.pairs; status = c.in_ok-pending.ensures.status }))

pub returns-clause-at : goal.returns-clause-at
returns-clause-at c = if_ok-map (λ f h. h.at) c.made_after.result (c.made_after.ensures.made c.args.last c.args.items.items (record { number = refl; status = refl; pairs = refl }) (record { batch = c.requires.batch; pairs = c.in_ok-pending.ensures.pairs; status = c.in_ok-pending.ensures.status }))

pub returns-clause-world : goal.returns-clause-world
returns-clause-world c = if_ok-map (λ f h. h.world) c.made_after.result (c.made_after.ensures.made c.args.last c.args.items.items (record { number = refl; status = refl; pairs = refl }) (record { batch = c.requires.batch; pairs = c.in_ok-pending.ensures.pairs; status = c.in_ok-pending.ensures.status }))

pub returns-clause-few : goal.returns-clause-few
returns-clause-few c = if_ok-map (λ f h. h.few) c.made_after.result (c.made_after.ensures.made c.args.last c.args.items.items (record { number = refl; status = refl; pairs = refl }) (record { batch = c.requires.batch; pairs = c.in_ok-pending.ensures.pairs; status = c.in_ok-pending.ensures.status }))

pub returns-clause-stands : goal.returns-clause-stands
returns-clause-stands c = λ es s. if_ok-map (λ f h. h.stands es s) c.made_after.result (c.made_after.ensures.made c.args.last c.args.items.items (record { number = refl; status = refl; pairs = refl }) (record { batch = c.requires.batch; pairs = c.in_ok-pending.ensures.pairs; status = c.in_ok-pending.ensures.status }))

pub returns-clause-book : goal.returns-clause-book
returns-clause-book c = λ ended before closed next at s. if_ok-map (λ f h. h.book ended before closed next at s) c.made_after.result (c.made_after.ensures.made c.args.last c.args.items.items (record { number = refl; status = refl; pairs = refl }) (record { batch = c.requires.batch; pairs = c.in_ok-pending.ensures.pairs; status = c.in_ok-pending.ensures.status }))
