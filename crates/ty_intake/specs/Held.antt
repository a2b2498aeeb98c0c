-- What an `Intake` holds, and which feed it stands for.
use Rattle.std.specs.Prelude.{◌≡◌, ℕ, List, length, drop, Bool, false, true, Option, None, Some}
use Rattle.ty_base.specs.declared.item.Item.{Item}
use Rattle.ty_base.specs.Feed.{closings, last_of}
use Rattle.ty_intake.specs.Lines.{Feed, cut_of}
use Rattle.ty_intake.specs.Faults.{feed_fault}
use Rattle.ty_intake.specs.Batches.{items_of}
use Rattle.ty_intake.specs.declared.intake.IntakeFault.{IntakeFault}

-- the bytes of the unfinished line, how many lines and bytes came, the items since the last closing, its position, the
-- fault, whether the feed has ended, and whether memory ran out
pub record IntakeHeld : Type 0 where
  pub rest : List ℕ
  pub lines : ℕ
  pub seen : ℕ
  pub pending : List Item
  pub cut : ℕ
  pub fault : Option IntakeFault
  pub ended : Bool
  pub spent : Bool

-- where there is no fault and no end: what is unfinished
pub record IntakeIsOpen (v : IntakeHeld) (feed : Feed) : Type 0 where
  pub rest : v.rest ≡ (cut_of feed).rest
  pub lines : v.lines ≡ length (cut_of feed).lines
  pub seen : v.seen ≡ length feed.bytes
  pub cut : v.cut ≡ last_of 0 (closings false (items_of feed))
  pub pending : v.pending ≡ drop v.cut (items_of feed)

abbrev pub IntakeGoesOn : Option IntakeFault → Bool → IntakeHeld → Feed → Type 0
IntakeGoesOn None false v feed = IntakeIsOpen v feed
IntakeGoesOn None true v feed = Unit {0}
IntakeGoesOn (Some f) ended v feed = Unit {0}

pub record IntakeStands (v : IntakeHeld) (feed : Feed) : Type 0 where
  pub unspent : v.spent ≡ false
  pub fault : v.fault ≡ feed_fault feed
  pub ended : v.ended ≡ feed.ended
  pub goes_on : IntakeGoesOn v.fault v.ended v feed
