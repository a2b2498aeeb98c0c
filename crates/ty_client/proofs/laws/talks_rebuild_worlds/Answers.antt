use Rattle.ty_wire.proofs.Talk.{talk-wire, talk-with-pings}
use Rattle.ty_wire.specs.Talk.{talk}
use Rattle.ty_client.proofs.Talks.{talk_rebuilds, pings_rebuild, first_worlds, whole_rebuilds, hello_heard}
use Rattle.ty_client.proofs.laws.talks_rebuild_worlds.Goals as goal

pub returns : goal.returns
returns c = record {
  talk = λ es e0 ns bytes more p l r short e. first_worlds es e0 ns (talk es e0 ns) bytes more (talk_rebuilds es e0 ns r) (talk-wire es e0 ns p l r) short e;
  pings = λ es e0 ns bytes more all p l t q short e. first_worlds es e0 ns all bytes more (pings_rebuild es e0 ns all t) (talk-with-pings es e0 ns all p l t q) short e;
  whole = λ es e0 ns all p l t q short. whole_rebuilds es e0 ns all (pings_rebuild es e0 ns all t) (talk-with-pings es e0 ns all p l t q) short;
  hello = hello_heard;
}
