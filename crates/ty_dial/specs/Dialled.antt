-- What following a server over dialled links comes to.
use Rattle.std.specs.Prelude.{◌≡◌, ◌<◌, ◌≤◌, ◌+◌, ◌⊎◌, ⊤, ℕ, Bool, true, false, List, [], ◌∷◌, ◌++◌, flat_map, length, Option, None, Some, Result, Ok, Err}
use Rattle.std.specs.List.{AllByRecursion, fold}
use Rattle.std.specs.Io.KnownBytes.{Appends}
use Rattle.ty_base.specs.Causes.{Rose}
use Rattle.ty_base.specs.Devices.{Output}
use Rattle.ty_base.specs.Doors.{DoorSight}
use Rattle.ty_base.specs.Links.{Sight}
use Rattle.ty_base.specs.Told.{Told}
use Rattle.ty_base.specs.declared.door.Came.TheVariants as came
use Rattle.ty_wire.specs.Stream.{Reads}
use Rattle.ty_wire.specs.declared.message.Msg.{Msg}
use Rattle.ty_client.specs.declared.fault.StreamFault.{StreamFault}
use Rattle.ty_client.specs.Heard.{Hears}
use Rattle.ty_client.specs.Linked.{client_talk, IsBrought, IsGivenAll, IsGivenFront, EndIsTaken}
use Rattle.ty_client.specs.Rebuilt.{ats}
use Rattle.ty_client.specs.Text.{rebuilt_text}
use Rattle.ty_dial.specs.declared.fault.DialFault.{DialFault}
use Rattle.ty_dial.specs.declared.fault.DialFault.TheVariants.{Stream, Cut, Write, Link, Door, NoMemory}

abbrev pub Answer : Type 0
Answer = Result (Unit {0}) DialFault

-- Turns

-- what one link brought: bytes that were heard and bytes that weren't, the good messages of the first, and what the following
-- of this link came to
pub record Turn : Type 0 where
  pub bytes : List ℕ
  pub unheard : List ℕ
  pub ms : List Msg
  pub answer : Answer

-- a link is lost where its end was taken, inside a frame or not, or where it failed
abbrev pub is_lost : Answer → Bool
is_lost (Ok u) = true
is_lost (Err (Cut left)) = true
is_lost (Err Link) = true
is_lost (Err (Stream f)) = false
is_lost (Err Write) = false
is_lost (Err Door) = false
is_lost (Err NoMemory) = false

-- the bytes have these good messages and this fault, and all that came was heard
abbrev pub IsHeardWhole : Turn → Option StreamFault → Type 0
IsHeardWhole t fault = Hears t.bytes t.ms fault × (t.unheard ≡ [])

-- and they end behind this rest
abbrev pub EndsBehind : Turn → List ℕ → Type 0
EndsBehind t rest = IsHeardWhole t None × Reads t.bytes t.ms rest

-- what a turn's bytes say of its answer
abbrev pub Answers : Turn → Answer → Type 0
Answers t (Ok u) = EndsBehind t []
Answers t (Err (Cut left)) = (rest : List ℕ) × EndsBehind t rest × (0 < left) × (left ≡ length rest)
Answers t (Err (Stream f)) = IsHeardWhole t (Some f)
Answers t (Err Write) = (fault : Option StreamFault) × IsHeardWhole t fault
Answers t (Err Link) = IsHeardWhole t None
Answers t (Err Door) = ⊥
Answers t (Err NoMemory) = (fault : Option StreamFault) × Hears t.bytes t.ms fault

abbrev pub IsTurn : Turn → Type 0
IsTurn t = Answers t t.answer

-- the answer of the last of these turns, and `Ok` where there is none
abbrev pub last_answer : List Turn → Answer
last_answer turns = fold (λ (_ : Answer) (t : Turn). t.answer) (Ok tt) turns

-- Texts

abbrev pub turn_text : Bool → Turn → List ℕ
turn_text brief t = rebuilt_text brief (ats t.ms)

-- one behind the other
abbrev pub turns_text : Bool → List Turn → List ℕ
turns_text brief turns = flat_map (turn_text brief) turns

-- all texts of the links that were lost, and a front of the last one's
pub record WritesFront (brief : Bool) (lost last : List Turn) (old new : Option (List ℕ)) : Type 0 where
  pub front : List ℕ
  pub rest : List ℕ
  pub cut : turns_text brief last ≡ front ++ rest
  pub written : Appends old new (turns_text brief lost ++ front)

-- what was written: all texts, but where the sink failed or memory ran out
abbrev pub Writes : Bool → List Turn → List Turn → Answer → Option (List ℕ) → Option (List ℕ) → Type 0
Writes brief lost last (Ok u) old new = Appends old new (turns_text brief (lost ++ last))
Writes brief lost last (Err (Stream f)) old new = Appends old new (turns_text brief (lost ++ last))
Writes brief lost last (Err (Cut left)) old new = Appends old new (turns_text brief (lost ++ last))
Writes brief lost last (Err Write) old new = WritesFront brief lost last old new
Writes brief lost last (Err Link) old new = Appends old new (turns_text brief (lost ++ last))
Writes brief lost last (Err Door) old new = Appends old new (turns_text brief (lost ++ last))
Writes brief lost last (Err NoMemory) old new = WritesFront brief lost last old new

-- Links

-- R holds of each two in their turn
abbrev pub Each : {X Y : Type 0} → (X → Y → Type 0) → List X → List Y → Type 0
Each R [] [] = ⊤
Each R [] (y ∷ ys) = ⊥
Each R (x ∷ xs) [] = ⊥
Each R (x ∷ xs) (y ∷ ys) = R x y × Each R xs ys

-- all of the bytes were given, where the end of the link was taken and wasn't before
abbrev pub IsGivenAllAtEnd : List ℕ → Sight → Sight → Type 0
IsGivenAllAtEnd bytes x y = x.ended ≡ false → y.ended ≡ true → IsGivenAll bytes x y

-- what a link told and how often it had failed say of an answer: its end was taken, or its count rose
abbrev pub AnswerShows : Answer → Option Sight → Option Sight → ℕ → ℕ → Type 0
AnswerShows (Ok u) x y before now = Told EndIsTaken x y
AnswerShows (Err (Cut left)) x y before now = Told EndIsTaken x y
AnswerShows (Err Link) x y before now = Rose before now
AnswerShows (Err (Stream f)) x y before now = ⊤
AnswerShows (Err Write) x y before now = ⊤
AnswerShows (Err Door) x y before now = ⊤
AnswerShows (Err NoMemory) x y before now = ⊤

-- a link brought the bytes of a turn, was given the first bytes of what a client says to them, and all of it at its end
pub record LinkFollowed (host : List ℕ) (t : Turn) (x y : Option Sight) (before now : ℕ) : Type 0 where
  pub later : before ≤ now
  pub brought : Told (IsBrought (t.bytes ++ t.unheard)) x y
  pub given : Told (IsGivenFront (client_talk host t.ms)) x y
  pub given_all : Told (IsGivenAllAtEnd (client_talk host t.ms)) x y
  pub shows : AnswerShows t.answer x y before now

module _ {L : Type 0} (sight : L → Option Sight) (count : L → ℕ) (host : List ℕ) where
  -- a link as the dialler gave it and as it came back
  abbrev pub WasFollowed : Turn → L × L → Type 0
  WasFollowed t back = LinkFollowed host t (sight back.0) (sight back.1) (count back.0) (count back.1)

  -- its count rose, or its end was taken
  abbrev pub WasLost : Turn → L × L → Type 0
  WasLost t back = WasFollowed t back × (Rose (count back.0) (count back.1) ⊎ Told EndIsTaken (sight back.0) (sight back.1))

  -- the links of these turns came back in between, each that was lost and then the last
  pub record CameBack (lost last : List Turn) (x y : DoorSight L) : Type 0 where
    pub lost_links : List (L × L)
    pub last_links : List (L × L)
    pub backs : y.backs ≡ x.backs ++ (lost_links ++ last_links)
    pub were_lost : Each WasLost lost lost_links
    pub was_followed : Each WasFollowed last last_links

-- what is seen of a dialler, and of a sink
pub record Dialler (L : Type 0) : Type 0 where
  pub sight : Option (DoorSight L)
  pub gave : ℕ
  pub got : ℕ
  pub faults : ℕ
  pub sink : Output

abbrev pub dialler : {L : Type 0} → Option (DoorSight L) → ℕ → ℕ → ℕ → Output → Dialler L
dialler sight gave got faults sink = record { sight = sight; gave = gave; got = got; faults = faults; sink = sink }

-- so many links came back as there are tries, or nothing more came to the dialler
abbrev pub IsUsedUp : {L : Type 0} → ℕ → List Turn → DoorSight L → DoorSight L → Type 0
IsUsedUp tries lost x y = (length lost ≡ tries) ⊎ (y.last ≡ Some (Ok came.End))

-- each link was lost, the answer is that of the last, and it is over
pub record IsUp {L : Type 0} (tries : ℕ) (lost last : List Turn) (answer : Answer) (old new : Dialler L) : Type 0 where
  pub none : last ≡ []
  pub same : last_answer lost ≡ answer
  pub over : Told (IsUsedUp tries lost) old.sight new.sight

-- one link more was followed, and this answer ended it
abbrev pub IsStop : List Turn → Answer → Type 0
IsStop last answer = (t : Turn) × (last ≡ t ∷ []) × (t.answer ≡ answer)

-- why it went no further
abbrev pub Why : {L : Type 0} → ℕ → List Turn → List Turn → Answer → Dialler L → Dialler L → Type 0
Why tries lost last (Ok u) old new = IsUp tries lost last (Ok u) old new
Why tries lost last (Err (Cut left)) old new = IsUp tries lost last (Err (Cut left)) old new
Why tries lost last (Err Link) old new = IsUp tries lost last (Err Link) old new
Why tries lost last (Err Door) old new = (last ≡ []) × Rose old.faults new.faults
Why tries lost last (Err (Stream f)) old new = IsStop last (Err (Stream f))
Why tries lost last (Err Write) old new = IsStop last (Err Write) × Rose old.sink.faults new.sink.faults
Why tries lost last (Err NoMemory) old new = IsStop last (Err NoMemory)

-- so many links came back as the dialler gave, which is as many as there were turns, and at most as many as there are tries. All
-- but at most the last were lost, each was given what a client says to what it brought, and the texts of what they rebuild were
-- written
pub record Dialled {L : Type 0} (sight : L → Option Sight) (count : L → ℕ) (host : List ℕ) (brief : Bool) (tries : ℕ) (old new : Dialler L) (answer : Answer) : Type 0 where
  pub lost : List Turn
  pub last : List Turn
  pub turns : AllByRecursion IsTurn (lost ++ last)
  pub got : new.got ≡ old.got + length (lost ++ last)
  pub back : new.gave + old.got ≡ old.gave + new.got
  pub few : length (lost ++ last) ≤ tries
  pub came_back : Told (CameBack sight count host lost last) old.sight new.sight
  pub written : Writes brief lost last answer old.sink.held new.sink.held
  pub why : Why tries lost last answer old new

-- the same of a dialler by what it gave, got back, counts and tells, and by what its links tell and count
abbrev pub Dials : {D L : Type 0} → (D → ℕ) → (D → ℕ) → (D → ℕ) → (D → Option (DoorSight L)) → (L → Option Sight) → (L → ℕ) → List ℕ → ℕ → Bool → D → D → Output → Output → Answer → Type 0
Dials gave got count sight link faults host tries brief x y old new answer =
    Dialled link faults host brief tries (dialler (sight x) (gave x) (got x) (count x) old) (dialler (sight y) (gave y) (got y) (count y) new) answer
