use Rattle.std.proofs.Common.{refl, sym}
use Rattle.ty_core.proofs.Runs.{ends_run}
use Rattle.ty_core.proofs.run.Run.end.Goals as goal

pub returns : goal.returns
returns c = λ s st.
    ends_run c.args.self.now _ s c.in_ok-told.told.items c.push.new.self.items c.newest.result st (c.in_ok-told.ensures s st.chain (sym st.now)) refl refl c.newest.ensures c.in_ok-push.ensures.items
