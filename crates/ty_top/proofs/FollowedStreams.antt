-- What `follow` comes to over what `stream` writes.
use Rattle.std.proofs.Common.{◌≡◌, ℕ, ◌+◌, ◌-◌, ◌^◌, ◌<◌, Bool, true, false, nat_le, List, [], ◌∷◌, ◌++◌, length, refl, sym, ap, subst, ◌∙◌, arith, append-nil, length-append}
use Rattle.std.specs.Prelude.{Option, None, Some, if◌then◌else◌}
use Rattle.std.specs.List.{range_with_len}
use Rattle.std.specs.Io.KnownBytes.{Appends, Consumes, IsAtEnd}
use Rattle.std.proofs.lemmas.Bool.{leb-true}
use Rattle.ty_base.specs.declared.item.Item.{Item}
use Rattle.ty_base.specs.Feed.{last, book}
use Rattle.ty_wire.specs.Wire.{frame, frames}
use Rattle.ty_wire.specs.Stream.{Reads}
use Rattle.ty_wire.specs.Talk.{talk}
use Rattle.ty_wire.specs.declared.message.Msg.{Msg}
use Rattle.ty_wire.specs.declared.message.Msg.TheVariants.{ServerHello}
use Rattle.ty_wire.proofs.Whole.{reads-whole}
use Rattle.ty_wire.proofs.Stream.{one_reads}
use Rattle.ty_wire.proofs.Short.{server_hello-fits}
use Rattle.ty_wire.proofs.Utf8.{is_wire}
use Rattle.ty_wire.proofs.Talk.{talk-wire}
use Rattle.ty_client.specs.declared.fault.StreamFault.{StreamFault}
use Rattle.ty_client.specs.declared.follower.FollowFault.TheVariants.{Stream, Cut}
use Rattle.ty_client.specs.Rebuilt.{ats}
use Rattle.ty_client.specs.Heard.{Hears}
use Rattle.ty_client.specs.Text.{rebuilt_text}
use Rattle.ty_base.specs.Devices.{Seen}
use Rattle.ty_base.specs.declared.limits.TheConstants.{INPUT_BYTES}
use Rattle.ty_client.specs.Followed.{Ended, StoppedBy}
use Rattle.ty_base.specs.Limits.{AreSmall}
use Rattle.ty_client.proofs.Once.{once, short}
use Rattle.ty_client.proofs.Books.{book_few, book_passes}
use Rattle.ty_top.specs.Streamed.{streamed, worlds_from}
use Rattle.ty_top.proofs.Streams.{Rebuilds, RebuildsAll, numbers_rise, stream_rebuilds, all_rebuilt}

-- ---- known bytes that were taken

pub taken_from : (new : Option (List ℕ)) (all bytes : List ℕ) → Consumes (Some all) new bytes → (more : List ℕ) × (bytes ++ more ≡ all)
taken_from None all bytes h = absurd h
taken_from (Some more) all bytes h = (more, sym h)

all_from : (new : Option (List ℕ)) (all bytes : List ℕ) → Consumes (Some all) new bytes → IsAtEnd new → bytes ≡ all
all_from None all bytes h e = absurd h
all_from (Some more) all bytes h e = sym (h ∙ ap (λ (l : List ℕ). bytes ++ l) e ∙ append-nil bytes)

pub front_taken : (old new : Option (List ℕ)) (all bytes : List ℕ) → old ≡ Some all → Consumes old new bytes → (more : List ℕ) × (bytes ++ more ≡ all)
front_taken old new all bytes e h = taken_from new all bytes (subst (λ (o : Option (List ℕ)). Consumes o new bytes) e h)

pub all_taken : (old new : Option (List ℕ)) (all bytes : List ℕ) → old ≡ Some all → Consumes old new bytes → IsAtEnd new → bytes ≡ all
all_taken old new all bytes e h n = all_from new all bytes (subst (λ (o : Option (List ℕ)). Consumes o new bytes) e h) n

-- ---- at the end

pub told : (brief : Bool) (items : List Item) (j : ℕ) (old new : Seen) → AreSmall items → length items < 2 ^ 64 → old.source.left ≡ Some (streamed items j) → Ended brief old new []
    → Appends old.sink.held new.sink.held (rebuilt_text brief (worlds_from items j))
told brief items j old new p l e x =
    let bytes_are : x.followed.bytes ≡ streamed items j = all_taken old.source.left new.source.left (streamed items j) x.followed.bytes e x.followed.taken x.ended in
    let heard : Hears (streamed items j) x.followed.ms None = subst (λ (b : List ℕ). Hears b x.followed.ms None) bytes_are x.followed.hears in
    let r : RebuildsAll items j (streamed items j) = all_rebuilt items j p l (short (streamed items j) x.followed.ms heard) in
    let same : x.followed.ms ≡ r.0 = (once (streamed items j) x.followed.ms r.0 None None heard r.1).0 in
    subst (λ (t : List ℕ). Appends old.sink.held new.sink.held t) (ap (λ (ms : List Msg). rebuilt_text brief (ats ms)) same ∙ ap (rebuilt_text brief) r.2) x.followed.written

-- ---- no other end

not_some : (f : StreamFault) → Some f ≡ None → ⊥
not_some f e = cc

pub good : (brief : Bool) (items : List Item) (j : ℕ) (old new : Seen) (f : StreamFault) → AreSmall items → length items < 2 ^ 64 → length (streamed items j) < INPUT_BYTES → old.source.left ≡ Some (streamed items j) → StoppedBy brief old new (Stream f) → ⊥
good brief items j old new f p l brief_enough e x =
    let t = front_taken old.source.left new.source.left (streamed items j) x.bytes e x.taken in
    let few : length x.bytes < INPUT_BYTES = omega (arith, brief_enough, ap length t.1, length-append x.bytes t.0) in
    let r : Rebuilds items j x.bytes = stream_rebuilds items j x.bytes t.0 p l few t.1 in
    not_some f (once x.bytes x.ms r.0 (Some f) None x.hears r.2).1

Whole : List ℕ → Type 0
Whole bytes = (ms : List Msg) × Reads bytes ms []

stream_reads : (items : List Item) (j : ℕ) → AreSmall items → length items < 2 ^ 64 → Whole (streamed items j)
unfolding streamed Whole
stream_reads items j p l =
    let n : ℕ = last true items in
    let ns : List ℕ = range_with_len (j + 1) (n - j) in
    let hello : List Msg = ServerHello 1 ∷ [] in
    elim (nat_le j n) as (λ b. nat_le j n ≡ b → Whole (if b then frames (talk (book true items) j ns) else frame (ServerHello 1))) [
      | true ↦ λ t. (talk (book true items) j ns, reads-whole (talk (book true items) j ns) (talk-wire (book true items) j ns (book_passes true items p) (book_few true items l) (numbers_rise items j (leb-true j n t))))
      | false ↦ λ t. (hello, subst (λ (b : List ℕ). Reads b hello []) (append-nil (frame (ServerHello 1))) (reads-whole hello (is_wire (ServerHello 1) tt (server_hello-fits 1 (omega arith)), tt)))
    ] refl

pub uncut : (brief : Bool) (items : List Item) (j : ℕ) (old new : Seen) (left : ℕ) → AreSmall items → length items < 2 ^ 64 → old.source.left ≡ Some (streamed items j) → StoppedBy brief old new (Cut left) → ⊥
unfolding Whole
uncut brief items j old new left p l e (rest, x, some, len) =
    let bytes_are : x.followed.bytes ≡ streamed items j = all_taken old.source.left new.source.left (streamed items j) x.followed.bytes e x.followed.taken x.ended in
    let w : Whole (streamed items j) = stream_reads items j p l in
    let reads : Reads (streamed items j) x.followed.ms rest = subst (λ (b : List ℕ). Reads b x.followed.ms rest) bytes_are x.reads in
    let none : rest ≡ [] = (one_reads (streamed items j) x.followed.ms w.0 rest [] reads w.1).1 in
    omega (arith, some, len, ap length none)
