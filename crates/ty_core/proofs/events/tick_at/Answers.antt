use Rattle.std.proofs.Common.{[], ◌∷◌, ◌+◌, refl, sym, subst, append-nil}
use Rattle.std.specs.Prelude.{Option, option_to_list}
use Rattle.ty_core.specs.declared.told.Told.{Told}
use Rattle.ty_core.specs.Run.{tick_client}
use Rattle.ty_core.specs.Report.{told_tick}
use Rattle.ty_core.specs.steps.Slots.{SlotMoves}
use Rattle.ty_core.proofs.Runs.{ticks_at}
use Rattle.ty_core.proofs.events.tick_at.Goals as goal

pub returns-in_ok-push-clause-ticks : goal.returns-in_ok-push-clause-ticks
returns-in_ok-push-clause-ticks c = λ es clients len t.
    ticks_at c.args.slots.now.items _ es clients c.args.i c.args.now c.args.told.now.items c.push.new.self.items (c.in-Some.one ∷ []) c.index_mut-slot.result.now c.tick.new.slot t c.requires len c.index_mut-slot.ensures.value refl
    (λ k st. subst (λ (o : Option Told). SlotMoves c.tick.new.slot es (tick_client c.args.now k) (option_to_list o) (told_tick c.args.now (c.args.i + 1) k.link)) c.in-Some.is (c.in_ok-one.ensures es k st)) c.in_ok-push.ensures.items

pub returns-in_default-clause-ticks : goal.returns-in_default-clause-ticks
returns-in_default-clause-ticks c = λ es clients len t.
    ticks_at c.args.slots.now.items _ es clients c.args.i c.args.now c.args.told.now.items c.args.told.now.items [] c.index_mut-slot.result.now c.tick.new.slot t c.requires len c.index_mut-slot.ensures.value refl
    (λ k st. subst (λ (o : Option Told). SlotMoves c.tick.new.slot es (tick_client c.args.now k) (option_to_list o) (told_tick c.args.now (c.args.i + 1) k.link)) c.in_default.is (c.in_ok-one.ensures es k st)) (sym (append-nil c.args.told.now.items))
