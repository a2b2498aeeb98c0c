-- What a link is given while its client is served, and when its connection has ended.
use Rattle.std.specs.Prelude.{◌≡◌, ◌<◌, ◌+◌, ℕ, true, List, ◌++◌, length}
use Rattle.std.specs.List.{list_all, fold}
use mathlib.Core.List.{IsPrefix}
use Rattle.ty_base.specs.Causes.{Rose}
use Rattle.ty_base.specs.Drops.{is_unhello, is_silent, is_slow}
use Rattle.ty_base.specs.declared.entry.Entry.{Entry}
use Rattle.ty_base.specs.declared.limits.TheConstants.{HELLO_TIMEOUT}
use Rattle.ty_wire.specs.Talk.{IsTalk, ping_fits}
use Rattle.ty_wire.specs.Wire.{frames}
use Rattle.ty_wire.specs.declared.message.Msg.{Msg}
use Rattle.ty_account.specs.Known.{Known}
use Rattle.ty_base.specs.Links.{Sight}
use Rattle.ty_base.specs.Told.{Told}
use Rattle.ty_session.specs.Client.{Shows}
use Rattle.ty_session.specs.declared.reason.Reason.{Reason}
use Rattle.ty_session.specs.declared.reason.Reason.TheVariants.{NoHello, BadHello, BadBytes, BadOrder, NoPong, TooSlow, PeerClosed, LinkFault, Finished}
use Rattle.ty_server.specs.Exchanges.{LinkSeen, EndTaken}

-- Talks

-- these are the first bytes of a talk over the entries
pub record IsFrontOfTalk (entries : List Entry) (bytes : List ℕ) : Type 0 where
  pub first : ℕ
  pub numbers : List ℕ
  pub messages : List Msg
  pub talk : IsTalk entries first numbers messages
  pub pings : list_all ping_fits messages ≡ true
  pub begins : IsPrefix bytes (frames messages)

abbrev pub last_of_numbers : ℕ → List ℕ → ℕ
last_of_numbers first numbers = fold (λ _ n. n) first numbers

-- these are the bytes of a whole talk, which goes as far as the last of the entries
pub record IsWholeTalk (entries : List Entry) (bytes : List ℕ) : Type 0 where
  pub first : ℕ
  pub numbers : List ℕ
  pub messages : List Msg
  pub talk : IsTalk entries first numbers messages
  pub pings : list_all ping_fits messages ≡ true
  pub whole : bytes ≡ frames messages
  pub last : last_of_numbers first numbers ≡ length entries

-- Of a link that tells

-- it was given the first bytes of a talk over the entries
abbrev pub GivenFront : List Entry → Sight → Sight → Type 0
GivenFront entries x y = (bytes : List ℕ) × (y.given ≡ x.given ++ bytes) × IsFrontOfTalk entries bytes

-- it was given a whole talk over them
abbrev pub GivenWhole : List Entry → Sight → Sight → Type 0
GivenWhole entries x y = (bytes : List ℕ) × (y.given ≡ x.given ++ bytes) × IsWholeTalk entries bytes

-- what it brought shows that the client's bytes are no talk of a client
abbrev pub BroughtFault : Reason → Sight → Sight → Type 0
BroughtFault reason x y = (bytes : List ℕ) × (y.brought ≡ x.brought ++ bytes) × Shows bytes reason

-- The end of a connection, from `before` to `now` of its count and from `x` to `y` of what its link tells: the link failed, its end was taken,
-- what it brought shows a fault, it was given a whole talk over a closed list, or the clock gives two moments that lie too far apart
pub data ConnectionEnds (gives : ℕ → Type 0) (known : Known) (before now : ℕ) (x y : Sight) : Type 0 where
  failed : Rose before now → ConnectionEnds gives known before now x y
  closed : y.ended ≡ true → ConnectionEnds gives known before now x y
  broken : (reason : Reason) → BroughtFault reason x y → ConnectionEnds gives known before now x y
  finished : known.closed ≡ true → GivenWhole known.entries x y → ConnectionEnds gives known before now x y
  timed : (one two : ℕ) → gives one → gives two → one + HELLO_TIMEOUT < two → ConnectionEnds gives known before now x y

-- why a client isn't served any longer, each with its cause since the link was handed over
abbrev pub IsServedCause : (ℕ → Type 0) → Known → LinkSeen → LinkSeen → Reason → Type 0
IsServedCause gives known a b (NoHello opened now) = gives opened × gives now × (is_unhello opened now ≡ true)
IsServedCause gives known a b (BadHello version) = Told (BroughtFault (BadHello version)) a.sight b.sight
IsServedCause gives known a b (BadBytes fault) = Told (BroughtFault (BadBytes fault)) a.sight b.sight
IsServedCause gives known a b (BadOrder frame) = Told (BroughtFault (BadOrder frame)) a.sight b.sight
IsServedCause gives known a b (NoPong heard now) = gives heard × gives now × (is_silent heard now ≡ true)
IsServedCause gives known a b (TooSlow made now) =
    gives now × ((joined : ℕ) × gives joined × (is_slow made joined now ≡ true))
IsServedCause gives known a b PeerClosed = EndTaken a b
IsServedCause gives known a b LinkFault = Rose a.faults b.faults
IsServedCause gives known a b Finished = (known.closed ≡ true) × Told (GivenWhole known.entries) a.sight b.sight

-- the connection has ended, where the link tells
abbrev pub HasEnded : (ℕ → Type 0) → Known → LinkSeen → LinkSeen → Type 0
HasEnded gives known a b = Told (ConnectionEnds gives known a.faults b.faults) a.sight b.sight
