-- For private clauses: the turns of one link, and of links that were lost so far.
use Rattle.std.specs.Prelude.{◌≡◌, ◌≤◌, ◌+◌, ⊤, ℕ, Bool, true, List, [], ◌∷◌, ◌++◌, length, Option, Some, Result, Ok, Err}
use Rattle.std.specs.List.{AllByRecursion}
use Rattle.std.specs.Io.KnownBytes.{Appends}
use Rattle.ty_base.specs.Causes.{Rose}
use Rattle.ty_base.specs.Devices.{Output}
use Rattle.ty_base.specs.Doors.{DoorSight}
use Rattle.ty_base.specs.Links.{Sight}
use Rattle.ty_base.specs.Told.{Told}
use Rattle.ty_base.specs.declared.door.Came.TheVariants as came
use Rattle.ty_client.specs.declared.follower.FollowFault.{FollowFault}
use Rattle.ty_client.specs.declared.follower.FollowFault.TheVariants as follow
use Rattle.ty_dial.specs.declared.fault.DialFault.{DialFault}
use Rattle.ty_dial.specs.declared.fault.DialFault.TheVariants.{Stream, Cut, Write, Link, Door, NoMemory}
use Rattle.ty_dial.specs.declared.dial.Dial.{Dial}
use Rattle.ty_dial.specs.declared.dial.Dial.TheVariants as dial
use Rattle.ty_dial.specs.Dialled.{Answer, Turn, IsTurn, is_lost, last_answer, Writes, turns_text, LinkFollowed, WasFollowed, CameBack, Dialler, dialler}

-- a link's fault as one of the dialling
abbrev pub IsFaultOf : FollowFault → DialFault → Type 0
IsFaultOf (follow.Stream f) fault = fault ≡ Stream f
IsFaultOf (follow.Cut left) fault = fault ≡ Cut left
IsFaultOf follow.Read fault = ⊥
IsFaultOf follow.Write fault = fault ≡ Write
IsFaultOf follow.Link fault = fault ≡ Link
IsFaultOf follow.NoMemory fault = fault ≡ NoMemory

-- the sink's count rose, where it failed
abbrev pub RoseAt : Answer → ℕ → ℕ → Type 0
RoseAt (Ok u) before now = ⊤
RoseAt (Err (Stream f)) before now = ⊤
RoseAt (Err (Cut left)) before now = ⊤
RoseAt (Err Write) before now = Rose before now
RoseAt (Err Link) before now = ⊤
RoseAt (Err Door) before now = ⊤
RoseAt (Err NoMemory) before now = ⊤

-- a turn's text was written, as far as its answer says
pub record TurnWrites (brief : Bool) (t : Turn) (old new : Output) : Type 0 where
  pub writes : Writes brief [] (t ∷ []) t.answer old.held new.held
  pub rose : RoseAt t.answer old.faults new.faults
  pub later : old.faults ≤ new.faults

-- one link had its turn
pub record HadTurn (host : List ℕ) (brief : Bool) (answer : Answer) (x y : Option Sight) (before now : ℕ) (old new : Output) : Type 0 where
  pub turn : Turn
  pub same : turn.answer ≡ answer
  pub is_turn : IsTurn turn
  pub followed : LinkFollowed host turn x y before now
  pub writes : TurnWrites brief turn old new

module _ {L : Type 0} (sight : L → Option Sight) (count : L → ℕ) (host : List ℕ) (brief : Bool) where
  -- the link of one turn came back
  pub record TurnBack (t : Turn) (x y : DoorSight L) : Type 0 where
    pub link : L × L
    pub backs : y.backs ≡ x.backs ++ link ∷ []
    pub followed : WasFollowed sight count host t link

  -- one link was dialled, followed, and came back
  pub record DialsOne (answer : Answer) (old new : Dialler L) : Type 0 where
    pub turn : Turn
    pub same : turn.answer ≡ answer
    pub is_turn : IsTurn turn
    pub got : new.got ≡ old.got + 1
    pub gave : new.gave ≡ old.gave + 1
    pub back : Told (TurnBack turn) old.sight new.sight
    pub writes : TurnWrites brief turn old.sink new.sink

  -- no link came, and nothing was written
  pub record DialsNone (old new : Dialler L) : Type 0 where
    pub got : new.got ≡ old.got
    pub gave : new.gave ≡ old.gave
    pub backs : Told (λ x y. y.backs ≡ x.backs) old.sight new.sight
    pub sink : new.sink ≡ old.sink

  -- what one dialling came to
  abbrev pub DialsTo : Dialler L → Dialler L → Result Dial DialFault → Type 0
  DialsTo old new (Ok (dial.Followed answer)) = DialsOne answer old new
  DialsTo old new (Ok dial.Quiet) = DialsNone old new
  DialsTo old new (Ok dial.End) = DialsNone old new × Told (λ x y. y.last ≡ Some (Ok came.End)) old.sight new.sight
  DialsTo old new (Err e) = (e ≡ Door) × DialsNone old new × Rose old.faults new.faults

  -- each link so far was lost
  pub record LostSoFar (turns : List Turn) (old new : Dialler L) : Type 0 where
    pub each : AllByRecursion IsTurn turns
    pub got : new.got ≡ old.got + length turns
    pub back : new.gave + old.got ≡ old.gave + new.got
    pub came_back : Told (CameBack sight count host turns []) old.sight new.sight
    pub written : Appends old.sink.held new.sink.held (turns_text brief turns)
    pub sink_later : old.sink.faults ≤ new.sink.faults
    pub dial_later : old.faults ≤ new.faults

  -- so many, the last with this answer
  pub record LostWith (n : ℕ) (answer : Answer) (old new : Dialler L) : Type 0 where
    pub turns : List Turn
    pub so_far : LostSoFar turns old new
    pub number : n ≡ length turns
    pub answer_is : last_answer turns ≡ answer
    pub lost : is_lost answer ≡ true
