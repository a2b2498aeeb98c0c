-- Any thread may hold what an account hands out, where its items may cross threads.
use denote.RattleType.{RattleType}
use denote.Builtin.{RawPtr}
use denote.Param.Send.{IsSend, IsSync, sendable, whole-keyless}
use Rattle.std.proofs.Crossing.{crosses}
use Rattle.logbook.proofs.word.Word.TheSendSync as word
use Rattle.logbook.proofs.tokens.Seen.TheSendSync as seen
use Rattle.ty_account.specs.declared.standing.Standing.{Ghosts}
use Rattle.ty_account.specs.contracts.account.Account as Account
use Rattle.ty_account.specs.contracts.pen.Pen as Pen
use Rattle.ty_account.specs.contracts.spot.Spot as Spot
use Rattle.ty_account.specs.contracts.shared.Shared as Shared
use Rattle.ty_account.specs.contracts.last.Last as Last
use Rattle.ty_account.specs.contracts.node.Place as Place
use Rattle.ty_account.proofs.shared.Shared.TheSendSync as shared
use Rattle.ty_account.proofs.front.Front.TheSendSync as front
use Rattle.ty_account.proofs.block.Block.TheSendSync as block
use Rattle.ty_account.proofs.last.Last.TheSendSync as last
use Rattle.ty_account.proofs.right.Right.TheSendSync as right
use Rattle.ty_account.proofs.node.Place.TheSendSync as place
use Rattle.ty_account.specs.contracts.hoard.Known as Known
use Rattle.ty_account.proofs.hoard.Known.TheSendSync as known
use Rattle.ty_account.proofs.hoard.Hoard.TheSendSync as hoard

last_sync : IsSync Last.the_row
last_sync = record { shared = λ d b o κ q. whole-keyless _ _ last.the_send.owned q d b o }

ptr_sync : IsSync RawPtr
ptr_sync = search sendable depth 20

module _ (T : RattleType) (g : Ghosts T.Denot) (s : IsSend T) (y : IsSync T) where
  place_send : IsSend (Place.the_row T)
  place_send = search (place.the_send, crosses, sendable) depth 20

  shared_send : IsSend (Shared.the_row T g)
  shared_send = shared.the_send T g

  shared_sync : IsSync (Shared.the_row T g)
  shared_sync = search (hoard.the_sync, word.the_sync, seen.the_sync, last_sync, ptr_sync, sendable) depth 20

  pub account_send : IsSend (Account.the_row T g)
  account_send = search (shared_send, shared_sync, crosses, sendable) depth 20

  pub account_sync : IsSync (Account.the_row T g)
  account_sync = search (shared_send, shared_sync, crosses, sendable) depth 20

  place_sync : IsSync (Place.the_row T)
  place_sync = search (place.the_sync, crosses, sendable) depth 20

  known_send : IsSend (Known.the_row (Place.the_row T))
  known_send = known.the_send (Place.the_row T) place_sync

  inside_send : IsSend (Spot.TheInside.the_row T g)
  inside_send = search (shared_send, shared_sync, seen.the_send, known_send, crosses, sendable) depth 30

  pub spot_send : IsSend (Spot.the_row T g)
  spot_send = search (inside_send, sendable) depth 10

  pub pen_send : IsSend (Pen.the_row T g)
  pen_send = let place = place_send in search (shared_send, shared_sync, seen.the_send, front.the_send, right.the_send, block.the_send, crosses, sendable) depth 20
