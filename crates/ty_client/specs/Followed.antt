-- What following a source to its end comes to.
use Rattle.std.specs.Prelude.{◌≡◌, ◌<◌, ◌++◌, ℕ, List, [], Option, None, Some, Bool, length}
use Rattle.std.specs.Io.KnownBytes.{Appends, Consumes, IsAtEnd}
use Rattle.ty_base.specs.Causes.{Rose}
use Rattle.ty_base.specs.Devices.{Seen}
use Rattle.ty_base.specs.Fronts.{AppendsFront}
use Rattle.ty_wire.specs.Stream.{Reads}
use Rattle.ty_wire.specs.declared.message.Msg.{Msg}
use Rattle.ty_client.specs.declared.fault.StreamFault.{StreamFault}
use Rattle.ty_client.specs.declared.follower.FollowFault.{FollowFault}
use Rattle.ty_client.specs.declared.follower.FollowFault.TheVariants.{Stream, Cut, Read, Write, Link, NoMemory}
use Rattle.ty_client.specs.Rebuilt.{ats}
use Rattle.ty_client.specs.Heard.{Hears}
use Rattle.ty_client.specs.Text.{rebuilt_text}

-- bytes were taken, they have these good messages and this fault, and the text of all that they
-- rebuild was written
pub record Followed (brief : Bool) (old new : Seen) (fault : Option StreamFault) : Type 0 where
  pub bytes : List ℕ
  pub ms : List Msg
  pub taken : Consumes old.source.left new.source.left bytes
  pub hears : Hears bytes ms fault
  pub written : Appends old.sink.held new.sink.held (rebuilt_text brief (ats ms))

-- the same, and a front of the text was written
pub record FollowedPart (brief : Bool) (old new : Seen) : Type 0 where
  pub bytes : List ℕ
  pub unheard : List ℕ
  pub ms : List Msg
  pub fault : Option StreamFault
  pub taken : Consumes old.source.left new.source.left (bytes ++ unheard)
  pub hears : Hears bytes ms fault
  pub written : AppendsFront old.sink.held new.sink.held (rebuilt_text brief (ats ms))

-- the source is at its end, which came behind this rest of its bytes
pub record Ended (brief : Bool) (old new : Seen) (rest : List ℕ) : Type 0 where
  pub followed : Followed brief old new None
  pub ended : IsAtEnd new.source.left
  pub reads : Reads followed.bytes followed.ms rest

-- why it went no further
abbrev pub StoppedBy : Bool → Seen → Seen → FollowFault → Type 0
StoppedBy brief old new (Stream f) = Followed brief old new (Some f)
StoppedBy brief old new (Cut left) = (rest : List ℕ) × Ended brief old new rest × (0 < left) × (left ≡ length rest)
StoppedBy brief old new Read = Followed brief old new None × Rose old.source.faults new.source.faults
StoppedBy brief old new Write = ((part : FollowedPart brief old new) × (part.unheard ≡ [])) × Rose old.sink.faults new.sink.faults
StoppedBy brief old new Link = ⊥
StoppedBy brief old new NoMemory = FollowedPart brief old new
