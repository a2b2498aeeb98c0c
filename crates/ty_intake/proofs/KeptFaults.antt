-- A fault stays the fault of a longer feed, with the same closed items.
use Rattle.std.proofs.Common.{◌≡◌, ◌∙◌, ap, sym, refl, ℕ, Bool, true, false, not, ◌&&◌, ◌++◌, List, take}
use Rattle.std.specs.Prelude.{Option, Some, is_some}
use Rattle.ty_base.specs.declared.item.Item.{Item}
use Rattle.ty_base.specs.Feed.{closings, last_of}
use Rattle.ty_intake.specs.Lines.{Feed, fed_with, ended_now}
use Rattle.ty_intake.specs.Faults.{feed_fault}
use Rattle.ty_intake.specs.Batches.{items_of, is_whole, closed_items}
use Rattle.ty_intake.specs.declared.intake.IntakeFault.{IntakeFault}
use Rattle.ty_intake.proofs.FaultyFeeds.{never}
use Rattle.ty_intake.proofs.StoppedFeeds.{going, over, Kept, fed-kept, over-kept}

abbrev Stays : Feed → Feed → IntakeFault → Type 0
Stays feed next f = (feed_fault next ≡ Some f) × (closed_items next ≡ closed_items feed)

not-whole : (feed : Feed) (f : IntakeFault) → feed_fault feed ≡ Some f → is_whole feed ≡ false
not-whole feed f e = ap (λ (o : Option IntakeFault). feed.ended && not (is_some o)) e ∙ never feed.ended

stays : (feed next : Feed) (f : IntakeFault) → feed_fault feed ≡ Some f → Kept feed next f → Stays feed next f
unfolding closed_items
stays feed next f e k = (
  k.fault,
  ap (λ b. take (last_of 0 (closings b (items_of next))) (items_of next)) (not-whole next f k.fault ∙ sym (not-whole feed f e))
      ∙ ap (λ (xs : List Item). take (last_of 0 (closings (is_whole feed) xs)) xs) k.items,
)

fed-by : (bytes piece : List ℕ) (ended : Bool) (f : IntakeFault) → feed_fault (record { bytes = bytes; ended = ended }) ≡ Some f
    → Stays (record { bytes = bytes; ended = ended }) (fed_with (record { bytes = bytes; ended = ended }) piece) f
fed-by bytes piece true f e = (e, refl)
fed-by bytes piece false f e = stays (going bytes) (going (bytes ++ piece)) f e (fed-kept bytes piece f e)

over-by : (bytes : List ℕ) (ended : Bool) (f : IntakeFault) → feed_fault (record { bytes = bytes; ended = ended }) ≡ Some f
    → Stays (record { bytes = bytes; ended = ended }) (over bytes) f
over-by bytes true f e = (e, refl)
over-by bytes false f e = stays (going bytes) (over bytes) f e (over-kept bytes f e)

pub fed-stays : (feed : Feed) (piece : List ℕ) (f : IntakeFault) → feed_fault feed ≡ Some f → Stays feed (fed_with feed piece) f
fed-stays feed piece f e = fed-by feed.bytes piece feed.ended f e

pub end-stays : (feed : Feed) (f : IntakeFault) → feed_fault feed ≡ Some f → Stays feed (ended_now feed) f
end-stays feed f e = over-by feed.bytes feed.ended f e
