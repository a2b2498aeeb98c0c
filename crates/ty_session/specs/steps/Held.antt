-- What each step makes of a session's fields.
use Rattle.std.specs.Prelude.{ℕ, ◌++◌, List, [], length, cond}
use Rattle.ty_base.specs.declared.delta.Delta.{Delta}
use Rattle.ty_wire.specs.Wire.{frame, frames}
use Rattle.ty_wire.specs.Talk.{group_messages, status_change}
use Rattle.ty_wire.specs.declared.message.Msg.TheVariants.{Ping}
use Rattle.ty_crumb.specs.Crumbs.{world_of}
use Rattle.ty_crumb.specs.declared.crumb.Crumb.{Crumb}
use Rattle.ty_session.specs.Held.{SessionHeld}
use Rattle.ty_session.specs.Story.{over_for, snapshot_bytes}
use Rattle.ty_session.specs.Times.{closes_group}
use Rattle.ty_session.specs.declared.phase.Phase.TheVariants.{Joined}
use Rattle.ty_session.specs.declared.reason.Reason.{Reason}
use Rattle.ty_session.specs.declared.stance.Stance.{Stance}

abbrev pub looked_view : ℕ → SessionHeld → SessionHeld
looked_view now v = record v { stance = record v.stance { looked = now } }

abbrev pub over_view : Reason → SessionHeld → SessionHeld
over_view r v = record v { stance = over_for r v.stance }

abbrev pub pinged_view : ℕ → SessionHeld → SessionHeld
pinged_view now v = record v {
  stance = record v.stance { pinged = now };
  out = v.out ++ frame (Ping now);
}

abbrev pub joined_stance : ℕ → Stance → Stance
joined_stance now t = record t { phase = Joined; joined = now; pinged = now }

abbrev pub joined_view : ℕ → Crumb → SessionHeld → SessionHeld
joined_view now c v = record v {
  stance = joined_stance now v.stance;
  number = c.number;
  status = c.status;
  ended = c.number;
  told = c.status;
  held = [];
  out = v.out ++ snapshot_bytes (world_of c) c.number;
}

-- the breadcrumb, with these deltas, joins the held group
abbrev pub taken_view : Crumb → List Delta → SessionHeld → SessionHeld
taken_view c ds v = record v { number = c.number; status = c.status; held = v.held ++ ds }

-- the held group is queued
abbrev pub closed_view : SessionHeld → SessionHeld
closed_view v = record v {
  ended = v.number;
  told = v.status;
  held = [];
  out = v.out ++ frames (group_messages v.held (status_change v.told v.status) v.number);
}

-- the breadcrumb, with these deltas, joins the held group, which is queued where it ends there
abbrev pub entered_view : ℕ → Crumb → List Delta → SessionHeld → SessionHeld
entered_view now c ds v =
    let w = taken_view c ds v in
    cond (closes_group c.at now (length w.held)) (closed_view w) w
