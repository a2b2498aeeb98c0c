use Rattle.std.proofs.Common.{◌+◌, ◌++◌, ◌∙◌, refl, ap, sym, append-nil}
use Rattle.ty_base.specs.declared.status.Status.{Status}
use Rattle.ty_base.specs.Feed.{World, replay}
use Rattle.ty_wire.specs.Wire.{frames}
use Rattle.ty_wire.specs.Talk.{groups_after, group_messages, status_change, world_after}
use Rattle.ty_top.proofs.Books.{groups_step, world_more}
use Rattle.ty_top.proofs.plain.write_entries.Goals as goal

pub loop-entry-init : goal.loop-entry-init
unfolding groups_after replay
loop-entry-init c = record { written = sym (append-nil c.args.out.now.items); counted = refl; told = refl }

pub loop-entry-preserved : goal.loop-entry-preserved
loop-entry-preserved c =
    let book = c.args.book.now in
    let i = c.loop-entry.entry-index in
    let e = c.entry-item.result in
    record {
      written = groups_step book i e c.args.out.now.items c.loop-entry.out.items c.write_group.new.out.items c.loop-entry-test.true c.entry-item.is c.loop-entry.invariant.written
          (c.in_ok-write_group.ensures.ok
          ∙ ap (λ o. c.loop-entry.out.items ++ frames (group_messages e.deltas o (c.loop-entry.n + 1))) (c.change.ensures ∙ ap (λ (s : Status). status_change s e.status) c.loop-entry.invariant.told)
          ∙ ap (λ n. c.loop-entry.out.items ++ frames (group_messages e.deltas (status_change (world_after book i).status e.status) (n + 1))) c.loop-entry.invariant.counted);
      counted = ap (λ n. n + 1) c.loop-entry.invariant.counted;
      told = ap (λ (w : World). w.status) (sym (world_more book i e c.loop-entry-test.true c.entry-item.is));
    }
