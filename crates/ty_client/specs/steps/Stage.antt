-- For private clauses: one message more.
use Rattle.std.specs.Prelude.{◌≡◌, ℕ, ◌+◌, ◌==◌, ◌++◌, List, [], ◌∷◌, Option, unwrap_or, if◌then◌else◌}
use Rattle.std.specs.List.{fold}
use Rattle.std.specs.Option.{option_or}
use Rattle.ty_base.specs.Feed.{changed}
use Rattle.ty_base.specs.declared.status.Status.TheVariants.{Wait}
use Rattle.ty_wire.specs.Wire.{frames}
use Rattle.ty_wire.specs.declared.message.Msg.{Msg}
use Rattle.ty_wire.specs.declared.message.Msg.TheVariants.{Crumb}
use Rattle.ty_client.specs.declared.fault.StreamFault.{StreamFault}
use Rattle.ty_client.specs.Places.{opening_fault, later_fault, told_status, told_number, is_status, judged_after}
use Rattle.ty_client.specs.Rebuilt.{Rebuilt, deltas_in, ats_after, pongs}
use Rattle.ty_client.specs.Rebuild.{Staged, staged, IsGoodUnless}
use Rattle.ty_client.specs.Heard.{Hears}
use Rattle.ty_wire.specs.Held.{FramesHeld}

abbrev pub stage_fault : Staged → Msg → Option StreamFault
stage_fault s m = if s.frame == 1 then opening_fault m else later_fault s.frame s.status s.fresh s.number m

abbrev pub next_stage : Staged → Msg → Staged
next_stage s m = record {
  frame = s.frame + 1;
  status = option_or (told_status m) s.status;
  fresh = unwrap_or (is_status m) s.fresh;
  number = option_or (told_number m) s.number;
  pairs = fold changed s.pairs (deltas_in m);
}

abbrev pub stage_at : Staged → ℕ → Rebuilt
stage_at s n = record { number = n; status = unwrap_or s.status Wait; pairs = s.pairs }

abbrev pub stage_ats : Staged → Msg → List Rebuilt
stage_ats s (Crumb n) = stage_at s n ∷ []
stage_ats s _ = []

-- messages behind those before were judged: what was rebuilt, the fault, the stage and the answers
pub record IsJudged (before ms : List Msg) (at_ends : List Rebuilt) (fault : Option StreamFault) (stage : Staged) (up_before up : List ℕ) : Type 0 where
  pub fault_is : fault ≡ (judged_after before ms).fault
  pub at_ends_are : at_ends ≡ ats_after before (judged_after before ms).good
  pub stage_is : stage ≡ staged (before ++ (judged_after before ms).good)
  pub up_is : up ≡ up_before ++ frames (pongs (judged_after before ms).good)

-- a piece was heard behind bytes and their messages
pub record IsHeard (unread : FramesHeld) (stage : Staged) (bytes piece : List ℕ) (ms : List Msg) (at_ends : List Rebuilt) (fault : Option StreamFault) (up_before up : List ℕ) : Type 0 where
  pub more : List Msg
  pub hears : Hears (bytes ++ piece) (ms ++ more) fault
  pub goes_on : IsGoodUnless fault unread stage (bytes ++ piece) (ms ++ more)
  pub at_ends_are : at_ends ≡ ats_after ms more
  pub up_is : up ≡ up_before ++ frames (pongs more)
