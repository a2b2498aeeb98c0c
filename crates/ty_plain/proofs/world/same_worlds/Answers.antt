use Rattle.std.proofs.Common.{take, ap, ◌∙◌, ◌&&◌}
use Rattle.std.specs.List.{slice_range, list_all}
use Rattle.ty_base.specs.Feed as feed
use Rattle.ty_base.proofs.Pairs.{in_order-after}
use Rattle.ty_base.proofs.Replay.{world_between}
use Rattle.ty_base.specs.Statuses.{same_status}
use Rattle.ty_plain.specs.steps.Scans.{agrees}
use Rattle.ty_plain.proofs.Worlds.{worlds_compare}
use Rattle.ty_plain.proofs.world.same_worlds.Goals as goal

pub returns-then-same_status : goal.returns-then-same_status
returns-then-same_status c =
    let a = feed.world_at c.args.items.now c.args.c in
    let b = feed.world_at c.args.items.now c.args.p in
    let batch = slice_range c.args.items.now c.args.c c.args.p in
    c.all_agree.ensures
    ∙ ap (λ t. t && list_all (agrees a b) batch) (c.if-same_status.ensures ∙ ap (λ s. same_status s c.status_of-2.result) c.status_of.ensures ∙ ap (same_status a.status) c.status_of-2.ensures)
    ∙ worlds_compare a b batch (in_order-after (take c.args.c c.args.items.now) feed.start tt) (in_order-after (take c.args.p c.args.items.now) feed.start tt) (world_between c.args.items.now c.args.c c.args.p c.requires.ordered)
