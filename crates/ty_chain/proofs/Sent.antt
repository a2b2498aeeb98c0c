-- Any thread may hold what a chain hands out. Each type's lemma rests on those of its fields, so that a search takes one step for it.
use denote.RattleType.{RattleType}
use denote.Param.Send.{IsSend, IsSync, sendable}
use Rattle.std.proofs.Crossing.{crosses}
use Rattle.ty_base.proofs.delta.Delta.TheSendSync as delta
use Rattle.ty_base.proofs.list.List.TheSendSync as list
use Rattle.ty_map.proofs.tree.Pair.TheSendSync as pair
use Rattle.ty_map.proofs.tree.Tree.TheLaws.TheKnot as tree
use Rattle.ty_map.specs.contracts.pairs.Pairs as Pairs
use Rattle.ty_crumb.specs.contracts.crumb.Crumb as Crumb
use Rattle.ty_group.proofs.encoded.Encoded.TheSendSync as encoded
use Rattle.ty_account.specs.declared.named.Named.{Ghosts}
use Rattle.ty_account.proofs.front.Front.TheSendSync as front
use Rattle.ty_account.proofs.Sent.{account_send, account_sync, pen_send, spot_send}
use Rattle.ty_chain.specs.contracts.parcel.Parcel as Parcel
use Rattle.ty_chain.specs.contracts.place.Place as Place
use Rattle.ty_chain.specs.contracts.stop.Stop as Stop
use Rattle.ty_chain.specs.contracts.lobby.Lobby as Lobby
use Rattle.ty_chain.specs.contracts.follower.Follower as Follower
use Rattle.ty_chain.specs.contracts.publisher.Publisher as Publisher

pairs_send : IsSend Pairs.the_row
pairs_send = search (pair.the_send, pair.the_sync, tree.crosses, crosses, sendable) depth 60

pairs_sync : IsSync Pairs.the_row
pairs_sync = search (pair.the_send, pair.the_sync, tree.crosses, crosses, sendable) depth 60

crumb_send : IsSend (Crumb.the_field).row
crumb_send = search (pairs_send, list.the_send, delta.the_send, sendable) depth 20

crumb_sync : IsSync (Crumb.the_field).row
crumb_sync = search (pairs_sync, list.the_sync, delta.the_sync, sendable) depth 20

pub parcel_send : IsSend Parcel.the_row
parcel_send = search (crumb_send, encoded.the_send, sendable) depth 20

pub parcel_sync : IsSync Parcel.the_row
parcel_sync = search (crumb_sync, encoded.the_sync, sendable) depth 20

pub stop_send : IsSend Stop.the_row
stop_send = search (parcel_send, parcel_sync, crosses, sendable) depth 20

pub stop_sync : IsSync Stop.the_row
stop_sync = search (parcel_send, parcel_sync, crosses, sendable) depth 20

module _ (L : RattleType) (g : Ghosts L.Denot) where
  place_send : IsSend (Place.the_row L g)
  place_send = search (stop_send, stop_sync, spot_send, front.the_send, crosses, sendable) depth 20

  pub lobby_send : IsSend (Lobby.the_row L g)
  lobby_send = let place = place_send in search (stop_send, stop_sync, account_send, crosses, sendable) depth 20

  pub lobby_sync : IsSync (Lobby.the_row L g)
  lobby_sync = let place = place_send in search (stop_send, stop_sync, account_sync, crosses, sendable) depth 20

  pub follower_send : IsSend (Follower.the_row L g)
  follower_send = let place = place_send in search (stop_send, stop_sync, account_send, sendable) depth 20

  pub publisher_send : IsSend (Publisher.the_row L g)
  publisher_send = search (stop_send, stop_sync, parcel_send, parcel_sync, pen_send, spot_send, crosses, sendable) depth 20

pub ruleset sent = (lobby_send, lobby_sync, follower_send, publisher_send, stop_send, stop_sync, front.the_send, front.the_sync)
