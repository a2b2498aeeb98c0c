-- What is streamed of a feed's items, and of what `stream` has written at any of its endings.
use Rattle.std.proofs.Common.{◌≡◌, ℕ, ◌^◌, ◌<◌, ◌&&◌, Bool, true, List, [], ◌++◌, length, take, sym, ap, subst, ◌∙◌, not, arith, append_assoc, append-nil, length-take}
use Rattle.std.specs.Prelude.{Option, None, Some, is_some}
use Rattle.std.specs.Io.KnownBytes.{Appends}
use Rattle.ty_base.specs.declared.item.Item.{Item}
use Rattle.ty_base.specs.declared.limits.TheConstants.{INPUT_BYTES}
use Rattle.ty_base.specs.Devices.{Seen}
use Rattle.ty_base.specs.Feed.{closings, last_of}
use Rattle.ty_base.specs.Fronts.{AppendsFront}
use Rattle.ty_base.specs.Limits.{is_small, AreSmall}
use Rattle.ty_base.proofs.Passing.{all_take}
use Rattle.ty_wire.specs.declared.message.Msg.{Msg}
use Rattle.ty_client.specs.declared.fault.StreamFault.{StreamFault}
use Rattle.ty_client.specs.declared.follower.FollowFault.TheVariants.{Stream, Cut}
use Rattle.ty_client.specs.Followed.{Ended, StoppedBy}
use Rattle.ty_client.specs.Heard.{Hears}
use Rattle.ty_client.specs.Rebuilt.{ats}
use Rattle.ty_client.specs.Text.{rebuilt_text}
use Rattle.ty_intake.specs.Lines.{Feed as FeedSoFar}
use Rattle.ty_intake.specs.Faults.{feed_fault}
use Rattle.ty_intake.specs.declared.intake.IntakeFault.{IntakeFault}
use Rattle.ty_intake.specs.Batches.{is_whole, items_of, closed_items}
use Rattle.ty_intake.proofs.JoinedBatches.{few-of, whole-of}
use Rattle.ty_intake.proofs.SmallItems.{items_small}
use Rattle.ty_core.specs.Simulated.{Taken}
use Rattle.ty_top.specs.Streamed.{streamed, worlds_from}
use Rattle.ty_top.specs.Endings.{Streams, stated}
use Rattle.ty_top.specs.declared.ending.StreamEnd.{StreamEnd}
use Rattle.ty_top.specs.declared.ending.StreamEnd.TheVariants as stream_end
use Rattle.ty_top.proofs.Streams.{Rebuilds, RebuildsAll, stream_rebuilds, all_rebuilt}
use Rattle.ty_top.proofs.FollowedStreams.{told, good, uncut}
use Rattle.ty_top.proofs.BothEnds.{appended}

few_items : (feed : FeedSoFar) → length (items_of feed) < 2 ^ 64
few_items feed = omega (arith, few-of feed)

closed_small : (feed : FeedSoFar) → AreSmall (closed_items feed)
unfolding closed_items
closed_small feed = all_take is_small (last_of 0 (closings (is_whole feed) (items_of feed))) (items_of feed) (items_small feed)

few_closed : (feed : FeedSoFar) → length (closed_items feed) < 2 ^ 64
unfolding closed_items
few_closed feed = omega (arith, few-of feed, length-take (last_of 0 (closings (is_whole feed) (items_of feed))) (items_of feed))

-- What a client rebuilds

pub feed_rebuilds : (feed : FeedSoFar) (j : ℕ) (bytes more : List ℕ) → length bytes < INPUT_BYTES → bytes ++ more ≡ streamed (items_of feed) j → Rebuilds (items_of feed) j bytes
feed_rebuilds feed j bytes more = stream_rebuilds (items_of feed) j bytes more (items_small feed) (few_items feed)

pub closed_rebuilds : (feed : FeedSoFar) (j : ℕ) (bytes more : List ℕ) → length bytes < INPUT_BYTES → bytes ++ more ≡ stated j feed → Rebuilds (closed_items feed) j bytes
closed_rebuilds feed j bytes more = stream_rebuilds (closed_items feed) j bytes more (closed_small feed) (few_closed feed)

pub feed_rebuilds_all : (feed : FeedSoFar) (j : ℕ) → length (streamed (items_of feed) j) < INPUT_BYTES → RebuildsAll (items_of feed) j (streamed (items_of feed) j)
feed_rebuilds_all feed j = all_rebuilt (items_of feed) j (items_small feed) (few_items feed)

pub closed_rebuilds_all : (feed : FeedSoFar) (j : ℕ) → length (stated j feed) < INPUT_BYTES → RebuildsAll (closed_items feed) j (stated j feed)
closed_rebuilds_all feed j = all_rebuilt (closed_items feed) j (closed_small feed) (few_closed feed)

-- What `follow` writes

module _ (brief : Bool) (feed : FeedSoFar) (j : ℕ) (old new : Seen) where
  pub feed_told : old.source.left ≡ Some (streamed (items_of feed) j) → Ended brief old new [] → Appends old.sink.held new.sink.held (rebuilt_text brief (worlds_from (items_of feed) j))
  feed_told = told brief (items_of feed) j old new (items_small feed) (few_items feed)

  pub closed_told : old.source.left ≡ Some (stated j feed) → Ended brief old new [] → Appends old.sink.held new.sink.held (rebuilt_text brief (worlds_from (closed_items feed) j))
  closed_told = told brief (closed_items feed) j old new (closed_small feed) (few_closed feed)

pub feed_good : (brief : Bool) (feed : FeedSoFar) (j : ℕ) (old new : Seen) (f : StreamFault) → length (streamed (items_of feed) j) < INPUT_BYTES → old.source.left ≡ Some (streamed (items_of feed) j) → StoppedBy brief old new (Stream f) → ⊥
feed_good brief feed j old new f = good brief (items_of feed) j old new f (items_small feed) (few_items feed)

pub closed_good : (brief : Bool) (feed : FeedSoFar) (j : ℕ) (old new : Seen) (f : StreamFault) → length (stated j feed) < INPUT_BYTES → old.source.left ≡ Some (stated j feed) → StoppedBy brief old new (Stream f) → ⊥
closed_good brief feed j old new f = good brief (closed_items feed) j old new f (closed_small feed) (few_closed feed)

pub feed_uncut : (brief : Bool) (feed : FeedSoFar) (j : ℕ) (old new : Seen) (left : ℕ) → old.source.left ≡ Some (streamed (items_of feed) j) → StoppedBy brief old new (Cut left) → ⊥
feed_uncut brief feed j old new left = uncut brief (items_of feed) j old new left (items_small feed) (few_items feed)

pub closed_uncut : (brief : Bool) (feed : FeedSoFar) (j : ℕ) (old new : Seen) (left : ℕ) → old.source.left ≡ Some (stated j feed) → StoppedBy brief old new (Cut left) → ⊥
closed_uncut brief feed j old new left = uncut brief (closed_items feed) j old new left (closed_small feed) (few_closed feed)

-- What was written

-- known bytes that were given behind none are a front of a text
given_front : (new : Option (List ℕ)) (text : List ℕ) → AppendsFront (Some []) new text → (bytes : List ℕ) → new ≡ Some bytes → (rest : List ℕ) × (bytes ++ rest ≡ text)
given_front new text (front, rest, whole, gave) bytes e =
    let same : Some bytes ≡ Some front = sym e ∙ appended new front gave in
    (rest, ap (λ (x : List ℕ). x ++ rest) (held bytes front same) ∙ sym whole)
  where
    held : (x y : List ℕ) → Some x ≡ Some y → x ≡ y
    held x y h = cc

module _ (j : ℕ) (old new : Seen) (bytes : List ℕ) (empty : old.sink.held ≡ Some []) (holds : new.sink.held ≡ Some bytes) where
  abbrev Wrote : Type 0
  Wrote = (read : FeedSoFar) × Taken old new read × (rest : List ℕ) × (bytes ++ rest ≡ stated j read)

  all_given : (read : FeedSoFar) → Taken old new read → Appends old.sink.held new.sink.held (stated j read) → Wrote
  all_given read t a =
      let r = given_front new.sink.held (stated j read) (stated j read, [], sym (append-nil (stated j read)), subst (λ (o : Option (List ℕ)). Appends o new.sink.held (stated j read)) empty a) bytes holds in
      (read, t, r.0, r.1)

  part_given : (read : FeedSoFar) → Taken old new read → AppendsFront old.sink.held new.sink.held (stated j read) → Wrote
  part_given read t a =
      let r = given_front new.sink.held (stated j read) (subst (λ (o : Option (List ℕ)). AppendsFront o new.sink.held (stated j read)) empty a) bytes holds in
      (read, t, r.0, r.1)

  wrote : (end : StreamEnd) → Streams j end old new → Wrote
  wrote stream_end.Done s =
      let read = s.0 in
      let whole : is_whole read ≡ true = ap (λ b. b && not (is_some (feed_fault read))) s.2 ∙ ap (λ (o : Option IntakeFault). not (is_some o)) s.3 in
      all_given read s.1 (subst (λ (l : List Item). Appends old.sink.held new.sink.held (streamed l j)) (sym (whole-of read whole)) s.5)
  wrote (stream_end.Fault f) s = all_given s.0 s.1 s.4
  wrote stream_end.Read s = all_given s.0 s.1 s.6
  wrote stream_end.Write s = part_given s.0 s.1 s.3
  wrote stream_end.Memory s = part_given s.0 s.1 s.2

pub written_rebuilds : (j : ℕ) (end : StreamEnd) (old new : Seen) (bytes front more : List ℕ) → Streams j end old new → old.sink.held ≡ Some [] → new.sink.held ≡ Some bytes
    → front ++ more ≡ bytes → length front < INPUT_BYTES
    → (read : FeedSoFar) × (ms : List Msg) × (k : ℕ) × Taken old new read × Hears front ms None × (ats ms ≡ take k (worlds_from (closed_items read) j))
written_rebuilds j end old new bytes front more s empty holds e short =
    let w = wrote j old new bytes empty holds end s in
    let r = closed_rebuilds w.0 j front (more ++ w.2) short (sym (append_assoc front more w.2) ∙ ap (λ (x : List ℕ). x ++ w.2) e ∙ w.3) in
    (w.0, r.0, r.1, w.1, r.2, r.3)
