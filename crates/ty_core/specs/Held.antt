-- What a world holds, and which run it stands for.
use Rattle.std.specs.Prelude.{◌≡◌, ℕ, ◌+◌, ◌-◌, ◌<◌, ◌≤◌, List, [], length, map, take, Bool, false, Option, None, Some, option_map, slice_get, slice_index_or}
use Rattle.std.specs.Option.{IfSome}
use Rattle.ty_base.specs.declared.entry.Entry.{Entry}
use Rattle.ty_base.specs.Limits.{AreSmall}
use Rattle.ty_wire.specs.declared.message.Msg.{Msg}
use Rattle.ty_crumb.specs.declared.crumb.Crumb.{Crumb}
use Rattle.ty_crumb.specs.Crumbs.{CrumbStands}
use Rattle.ty_session.specs.Held.{SessionHeld}
use Rattle.ty_client.specs.Rebuild.{RebuildHeld, RebuildStands}
use Rattle.ty_client.specs.Worlds.{rebuilt_after}
use Rattle.ty_intake.specs.Held.{IntakeStands}
use Rattle.ty_intake.specs.Lines.{cut_of}
use Rattle.ty_intake.specs.Faults.{feed_fault}
use Rattle.ty_intake.specs.Batches.{closed_items}
use Rattle.ty_intake.specs.declared.intake.IntakeFault.{IntakeFault}
use Rattle.ty_core.specs.Links.{IsLink}
use Rattle.ty_core.specs.Run.{State, Ran, going, over, book_of, run, Happening}
use Rattle.ty_core.specs.declared.chain.Chain.{Chain}
use Rattle.ty_core.specs.declared.client.Client.{Client}
use Rattle.ty_core.specs.declared.client.Connection.{Connection}
use Rattle.ty_core.specs.declared.slot.Slot.{Slot}
use Rattle.ty_core.specs.declared.run.Run.{Run}
use Rattle.ty_script.specs.declared.event.TheConstants.{CLIENTS}

-- The chain

-- breadcrumb n stands for the first n entries
pub record AreCrumbs (crumbs : List Crumb) (entries : List Entry) : Type 0 where
  pub count : length crumbs ≡ length entries + 1
  pub stand : (n : ℕ) (c : Crumb) → n < length crumbs → c ≡ slice_index_or crumbs n c → CrumbStands c (take n entries)

-- the last one counts at most so many items
abbrev pub LastWithin : List Crumb → ℕ → Type 0
LastWithin crumbs n = (c : Crumb) → c ≡ slice_index_or crumbs (length crumbs - 1) c → c.cut ≤ n

-- the intake stands for the feed, which is whole lines without a fault, and the breadcrumbs for its book
pub record ChainStands (chain : Chain) (s : State) : Type 0 where
  pub intake : IntakeStands chain.intake s.feed
  pub good : feed_fault s.feed ≡ None
  pub whole : (cut_of s.feed).rest ≡ []
  pub crumbs : AreCrumbs chain.crumbs.items (book_of s)
  pub times : s.times ≡ map (λ c. c.at) chain.crumbs.items
  pub cut : LastWithin chain.crumbs.items (length (closed_items s.feed))
  pub small : AreSmall (closed_items s.feed)

-- One client

-- the client has heard some connections
abbrev pub HasHeard : RebuildHeld → Type 0
HasHeard rebuild = (before : List (List ℕ)) × (bytes : List ℕ) × (ms : List Msg) × RebuildStands rebuild before bytes ms

abbrev pub IsLinked : RebuildHeld → SessionHeld → List Entry → Connection → Type 0
IsLinked rebuild s es k = (before : List (List ℕ)) × IsLink rebuild s es k before

abbrev pub LinkStands : RebuildHeld → Option SessionHeld → List Entry → Option Connection → Type 0
LinkStands rebuild None es None = HasHeard rebuild
LinkStands rebuild None es (Some k) = ⊥
LinkStands rebuild (Some s) es None = ⊥
LinkStands rebuild (Some s) es (Some k) = IsLinked rebuild s es k

-- the client holds the world of its number
pub record SlotStands (slot : Slot) (es : List Entry) (c : Client) : Type 0 where
  pub link : LinkStands slot.rebuild slot.session es c.link
  pub held : slot.rebuild.held ≡ option_map (rebuilt_after es) c.held
  pub within : IfSome c.held (λ n. n ≤ length es)

-- The whole

pub record RunStands (r : Run) (s : State) : Type 0 where
  pub chain : ChainStands r.chain s
  pub now : r.time ≡ s.now
  pub clients : length s.clients ≡ CLIENTS
  pub slots : (i : ℕ) (slot : Slot) (c : Client) → slice_get r.slots.items i ≡ Some slot → slice_get s.clients i ≡ Some c
      → SlotStands slot (book_of s) c

-- the fields of a `World`, as contracts see them
pub record WorldHeld : Type 0 where
  pub run : Run
  pub fault : Option IntakeFault
  pub spent : Bool

abbrev pub RanStands : WorldHeld → Ran → Type 0
RanStands w (going s) = (w.fault ≡ None) × RunStands w.run s
RanStands w (over f) = w.fault ≡ Some f

-- these happenings so far
abbrev pub WorldStands : WorldHeld → List Happening → Type 0
WorldStands w hs = (w.spent ≡ false) × RanStands w (run hs)

-- some run is behind a world that goes on
abbrev pub HasRun : WorldHeld → Type 0
HasRun w = w.spent ≡ false → w.fault ≡ None → (s : State) × RunStands w.run s
