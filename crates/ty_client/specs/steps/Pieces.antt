-- For private clauses: one piece of a source that is followed.
use Rattle.std.specs.Prelude.{◌≡◌, ◌<◌, ◌++◌, ℕ, List, [], Option, None, Some, Bool, Result, Ok, Err, IfOk, OnOk}
use Rattle.std.specs.Io.KnownBytes.{Appends}
use Rattle.ty_base.specs.Causes.{Rose}
use Rattle.ty_base.specs.Devices.{Output}
use Rattle.ty_base.specs.Fronts.{AppendsFront}
use Rattle.ty_wire.specs.Held.{FramesHeld}
use Rattle.ty_wire.specs.declared.message.Msg.{Msg}
use Rattle.ty_client.specs.declared.fault.StreamFault.{StreamFault}
use Rattle.ty_client.specs.declared.follower.FollowFault.{FollowFault}
use Rattle.ty_client.specs.declared.follower.FollowFault.TheVariants.{Stream, Cut, Write, NoMemory}
use Rattle.ty_client.specs.declared.follower.Stop.{Stop}
use Rattle.ty_client.specs.declared.follower.Stop.TheVariants.{Fault, Sink, Memory}
use Rattle.ty_client.specs.declared.text.Unwritten.{Unwritten}
use Rattle.ty_client.specs.Places.{judged_after}
use Rattle.ty_client.specs.Rebuilt.{ats_after}
use Rattle.ty_client.specs.Heard.{Hears}
use Rattle.ty_client.specs.Rebuild.{Staged, staged, IsGoodUnless}
use Rattle.ty_client.specs.Text.{rebuilt_text}
use Rattle.ty_client.specs.steps.Given.{Wrote}

-- messages behind those before were judged, and the text of what the good ones rebuild was given
pub record IsJudgedAndTold (brief : Bool) (result : Result (Option StreamFault) Unwritten) (before ms : List Msg) (stage : Staged) (old new : Output) : Type 0 where
  pub fault_is : IfOk result (λ f. f ≡ (judged_after before ms).fault)
  pub stage_is : OnOk result (stage ≡ staged (before ++ (judged_after before ms).good))
  pub told : Wrote result old.held new.held old.faults new.faults (rebuilt_text brief (ats_after before (judged_after before ms).good))

-- more messages were heard, and the text of what they rebuild was given
pub record GivenAll (brief : Bool) (fault : Option StreamFault) (unread : FramesHeld) (stage : Staged) (bytes : List ℕ) (ms : List Msg) (before now : Option (List ℕ)) : Type 0 where
  pub more : List Msg
  pub hears : Hears bytes (ms ++ more) fault
  pub goes_on : IsGoodUnless fault unread stage bytes (ms ++ more)
  pub given : Appends before now (rebuilt_text brief (ats_after ms more))

-- of the bytes a front was heard, and a front of the text was given
pub record GivenPart (brief : Bool) (bytes : List ℕ) (ms : List Msg) (before now : Option (List ℕ)) : Type 0 where
  pub front : List ℕ
  pub unheard : List ℕ
  pub whole : bytes ≡ front ++ unheard
  pub more : List Msg
  pub fault : Option StreamFault
  pub hears : Hears front (ms ++ more) fault
  pub given : AppendsFront before now (rebuilt_text brief (ats_after ms more))

abbrev pub IsPieceHeard : Bool → Result (Unit {0}) Stop → FramesHeld → Staged → List ℕ → List ℕ → List Msg → Output → Output → Type 0
IsPieceHeard brief (Ok u) unread stage bytes piece ms old new = GivenAll brief None unread stage (bytes ++ piece) ms old.held new.held
IsPieceHeard brief (Err (Fault f)) unread stage bytes piece ms old new = GivenAll brief (Some f) unread stage (bytes ++ piece) ms old.held new.held
IsPieceHeard brief (Err Sink) unread stage bytes piece ms old new = ((part : GivenPart brief (bytes ++ piece) ms old.held new.held) × (part.unheard ≡ [])) × Rose old.faults new.faults
IsPieceHeard brief (Err Memory) unread stage bytes piece ms old new = GivenPart brief (bytes ++ piece) ms old.held new.held

abbrev pub fault_by : Stop → FollowFault
fault_by (Fault f) = Stream f
fault_by Sink = Write
fault_by Memory = NoMemory

-- a source ended behind a rest of n bytes
abbrev pub EndsAt : Result (Unit {0}) FollowFault → ℕ → Type 0
EndsAt (Ok u) n = n ≡ 0
EndsAt (Err fault) n = (0 < n) × (fault ≡ Cut n)
