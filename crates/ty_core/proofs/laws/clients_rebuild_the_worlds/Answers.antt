use Rattle.std.proofs.Common.{ℕ, ◌≤◌, sym, ap, subst, ◌∙◌}
use Rattle.std.specs.Option.{IfSome}
use Rattle.std.specs.Prelude.{Option}
use Rattle.ty_core.specs.declared.client.Connection.{Connection}
use Rattle.ty_core.specs.Clients.{newest}
use Rattle.ty_core.specs.Run.{trail, book_of}
use Rattle.ty_core.specs.Report.{world_shown}
use Rattle.ty_core.proofs.Reached.{IfReached}
use Rattle.ty_core.proofs.LaterStates.{client_fine}
use Rattle.ty_core.proofs.ToldWorlds.{comes_all}
use Rattle.ty_core.proofs.ReceivedWorlds.{received as received_one}
use Rattle.ty_core.proofs.laws.clients_rebuild_the_worlds.Goals as goal

pub returns : goal.returns
returns v = record {
  told = λ hs s script is. (comes_all hs s script is).worlds;
  received = λ hs s c k bytes more script is one at e short.
      let P : Option Connection → Type 0 = IfReached (book_of s) in
      received_one s k bytes more (subst P at (client_fine s c (comes_all hs s script is).fit).link) e short;
  held = λ hs s c n script is one at.
      let P : Option ℕ → Type 0 = λ o. IfSome o (λ m. m ≤ newest (trail s)) in
      subst P at (client_fine s c (comes_all hs s script is).fit).held;
  equal = λ s a b x y e. x.0 ∙ ap (world_shown s) e ∙ sym y.0;
}
