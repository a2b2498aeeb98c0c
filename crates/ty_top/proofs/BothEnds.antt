-- What one writes and the other reads.
use Rattle.std.proofs.Common.{◌≡◌, ℕ, ◌^◌, ◌<◌, Bool, true, List, [], length, sym, ap, subst, ◌∙◌, arith}
use Rattle.std.specs.Prelude.{Option, None, Some}
use Rattle.std.specs.Io.KnownBytes.{Appends}
use Rattle.ty_base.specs.Devices.{Seen}
use Rattle.ty_client.specs.Followed.{Ended}
use Rattle.ty_client.specs.Text.{rebuilt_text}
use Rattle.ty_intake.specs.Lines.{Feed as FeedSoFar}
use Rattle.ty_intake.specs.Faults.{feed_fault}
use Rattle.ty_intake.specs.Batches.{items_of}
use Rattle.ty_intake.proofs.JoinedBatches.{few-of}
use Rattle.ty_core.specs.Simulated.{Taken}
use Rattle.ty_top.specs.Streamed.{streamed, worlds_from}
use Rattle.ty_top.specs.Endings.{Streams, whole_feed}
use Rattle.ty_top.specs.declared.ending.StreamEnd.TheVariants.{Done}
use Rattle.ty_top.proofs.FollowedStreams.{told, all_taken}

-- known bytes behind none

pub appended : (new : Option (List ℕ)) (text : List ℕ) → Appends (Some []) new text → new ≡ Some text
appended None text h = absurd h
appended (Some ys) text h = ap (λ (x : List ℕ). Some x) h

-- a feed that was read to its end
pub all_read : (old new : Seen) (read : FeedSoFar) (bytes : List ℕ) → Taken old new read → read.ended ≡ true → old.source.left ≡ Some bytes → read ≡ whole_feed bytes
all_read old new read bytes t e h =
    let same : read.bytes ≡ bytes = all_taken old.source.left new.source.left bytes read.bytes h t.bytes (t.end e) in
    λ i. record { bytes = same i; ended = e i }

pub both_ends : (j : ℕ) (brief : Bool) (server server_after client client_after : Seen) (feed bytes : List ℕ)
    → Streams j Done server server_after → server.source.left ≡ Some feed → server.sink.held ≡ Some [] → server_after.sink.held ≡ Some bytes
    → Ended brief client client_after [] → client.source.left ≡ Some bytes → client.sink.held ≡ Some []
    → (feed_fault (whole_feed feed) ≡ None) × (client_after.sink.held ≡ Some (rebuilt_text brief (worlds_from (items_of (whole_feed feed)) j)))
both_ends j brief server server_after client client_after feed bytes s left empty given e all none =
    let read = s.0 in
    let items = items_of read in
    let wrote : server_after.sink.held ≡ Some (streamed items j) =
    appended server_after.sink.held (streamed items j) (subst (λ (o : Option (List ℕ)). Appends o server_after.sink.held (streamed items j)) empty s.5) in
    let few : length items < 2 ^ 64 = omega (arith, few-of read) in
    let text : List ℕ = rebuilt_text brief (worlds_from items j) in
    let printed : Appends client.sink.held client_after.sink.held text = told brief items j client client_after s.4 few (all ∙ sym given ∙ wrote) e in
    let shown : client_after.sink.held ≡ Some text = appended client_after.sink.held text (subst (λ (o : Option (List ℕ)). Appends o client_after.sink.held text) none printed) in
    let P : FeedSoFar → Type 0 = λ f. (feed_fault f ≡ None) × (client_after.sink.held ≡ Some (rebuilt_text brief (worlds_from (items_of f) j))) in
    subst P (all_read server server_after read feed s.1 s.2 left) (s.3, shown)
