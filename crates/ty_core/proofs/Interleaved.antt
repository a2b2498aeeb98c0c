-- Each interleaving rebuilds the worlds.
use Rattle.std.proofs.Common.{◌≡◌, sym, ap, subst, ◌∙◌, List}
use Rattle.std.specs.Prelude.{Option}
use Rattle.ty_core.specs.declared.client.Connection.{Connection}
use Rattle.ty_core.specs.Run.{State, Happening, going, run, book_of}
use Rattle.ty_core.specs.Report.{world_shown}
use Rattle.ty_core.specs.Interleavings.{IsScript, RebuildsWorlds}
use Rattle.ty_core.proofs.Reached.{IfReached}
use Rattle.ty_core.proofs.LaterStates.{client_fine}
use Rattle.ty_core.proofs.ToldWorlds.{comes_all}
use Rattle.ty_core.proofs.ReceivedWorlds.{received as received_one}

pub rebuilds : (hs : List Happening) (s : State) → IsScript hs → run hs ≡ going s → RebuildsWorlds hs
rebuilds hs s script is = record {
  state = s;
  ran = is;
  told = (comes_all hs s script is).worlds;
  received = λ c one k bytes more at e short.
      let P : Option Connection → Type 0 = IfReached (book_of s) in
      received_one s k bytes more (subst P at (client_fine s c (comes_all hs s script is).fit).link) e short;
  equal = λ a b x y e. x.0 ∙ ap (world_shown s) e ∙ sym y.0;
}
