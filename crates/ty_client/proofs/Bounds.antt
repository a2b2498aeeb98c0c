-- What is queued grows by no more bytes than came.
use Rattle.std.proofs.Common.{◌≡◌, ℕ, ◌+◌, ◌-◌, ◌≤◌, List, [], ◌∷◌, ◌++◌, length, sym, ap, subst, ◌∙◌, arith, length-append}
use Rattle.std.proofs.lemmas.Grind.{flat_map-append}
use Rattle.std.proofs.lemmas.List.{length-take}
use Rattle.std.specs.Prelude.{Option, None, Some}
use Rattle.ty_base.specs.declared.limits.TheConstants.{INPUT_BYTES}
use Rattle.ty_wire.specs.Wire.{frame, frames}
use Rattle.ty_wire.specs.Stream.{Brings, FramesStandBy, read_part}
use Rattle.ty_wire.specs.Held.{FramesHeld}
use Rattle.ty_wire.specs.declared.message.Msg.{Msg}
use Rattle.ty_wire.specs.declared.message.Msg.TheVariants.{ClientHello, ServerHello, Kvs, Status, Crumb, Ping, Pong}
use Rattle.ty_wire.specs.declared.fault.WireFault.{WireFault}
use Rattle.ty_wire.specs.declared.fault.WireFault.TheVariants.{TooLong, NotJson, Shape, TooMuch}
use Rattle.ty_client.specs.declared.fault.StreamFault.{StreamFault}
use Rattle.ty_client.specs.Places.{place_fault, Judged, judged_by, judged_after}
use Rattle.ty_client.specs.Rebuilt.{Rebuilt, pong_of, pongs}
use Rattle.ty_client.specs.Heard.{Hears}
use Rattle.ty_client.specs.Rebuild.{RebuildHeld, ConnectionStands, IsGoodUnless, IsGoodSoFar, BroughtHere, unfinished, unfinished_by}

-- a pong is as long as the ping that it answers

short : (m : Msg) → length (frames (pong_of m)) ≤ length (frame m)
short (ClientHello version host) = omega arith
short (ServerHello version) = omega arith
short (Kvs ds) = omega arith
short (Status s) = omega arith
short (Crumb n) = omega arith
short (Ping ts) = omega (arith, length-append (frame (Pong ts)) [])
short (Pong ts) = omega arith

frames_of : (xs ys : List Msg) → length (frames (xs ++ ys)) ≡ length (frames xs) + length (frames ys)
frames_of xs ys = ap length (flat_map-append frame xs ys) ∙ length-append (frames xs) (frames ys)

pongs_within : (ms : List Msg) → length (frames (pongs ms)) ≤ length (frames ms)
pongs_within [] = omega arith
pongs_within (m ∷ ms) = omega (arith, short m, pongs_within ms, frames_of (pong_of m) (pongs ms), length-append (frame m) (frames ms))

-- the good ones of messages are the first of them

first_by : (f : Option StreamFault) (m : Msg) (later : Judged) (ms : List Msg) → length (frames later.good) ≤ length (frames ms) → length (frames (judged_by f m later).good) ≤ length (frames (m ∷ ms))
first_by None m later ms h = omega (arith, h, length-append (frame m) (frames ms), length-append (frame m) (frames later.good))
first_by (Some f) m later ms h = omega arith

good_within : (before ms : List Msg) → length (frames (judged_after before ms).good) ≤ length (frames ms)
unfolding judged_after
good_within before [] = omega arith
good_within before (m ∷ ms) = first_by (place_fault before m) m (judged_after (before ++ m ∷ []) ms) ms (good_within (before ++ m ∷ []) ms)

-- messages' frames are among the bytes that bring them

among : (bytes rest : List ℕ) (ms : List Msg) → bytes ≡ frames ms ++ rest → length (frames ms) ≤ length bytes
among bytes rest ms e = omega (arith, ap length e, length-append (frames ms) rest)

among_part : (bytes rest : List ℕ) (ms : List Msg) → read_part bytes ≡ frames ms ++ rest → length (frames ms) ≤ length bytes
among_part bytes rest ms e = omega (arith, among (read_part bytes) rest ms e, length-take (INPUT_BYTES - 1) bytes)

brought_within : (bytes : List ℕ) (ms : List Msg) (w : Option WireFault) → Brings bytes ms w → length (frames ms) ≤ length bytes
brought_within bytes ms None b = among bytes b.1.0 ms b.1.1.whole
brought_within bytes ms (Some TooMuch) b = among_part bytes b.1.0 ms b.1.1.whole
brought_within bytes ms (Some (TooLong n len)) b = among_part bytes b.rest ms b.whole
brought_within bytes ms (Some (NotJson n)) b = among_part bytes b.rest ms b.whole
brought_within bytes ms (Some (Shape n)) b = among_part bytes b.rest ms b.whole

heard_within : (bytes : List ℕ) (ms : List Msg) (fault : Option StreamFault) → Hears bytes ms fault → length (frames ms) ≤ length bytes
heard_within bytes ms fault h =
    omega (arith, brought_within h.front h.all h.wire h.brings, good_within [] h.all, ap (λ (l : List Msg). length (frames l)) h.good, ap length h.whole, length-append h.front h.rest)

-- what came before a piece is the frames of the messages, and the unfinished one

unfinished_open : (o : Option WireFault) (u : FramesHeld) (bytes : List ℕ) (ms : List Msg) → FramesStandBy o u bytes ms → o ≡ None → length bytes ≡ length (frames ms) + length u.rest
unfinished_open None u bytes ms h e = ap length h.reads.whole ∙ length-append (frames ms) u.rest
unfinished_open (Some w) u bytes ms h e = cc

within_open : (old new : RebuildHeld) (bytes piece : List ℕ) (ms : List Msg) (at_ends : List Rebuilt) → IsGoodSoFar old.unread old.stage bytes ms → BroughtHere old new bytes piece ms at_ends → length new.up ≤ length old.up + length old.unread.rest + length piece
within_open old new bytes piece ms at_ends g b =
    omega (
      arith,
      ap length b.up,
      length-append old.up (frames (pongs b.more)),
      pongs_within b.more,
      frames_of ms b.more,
      heard_within (bytes ++ piece) (ms ++ b.more) new.fault b.stands.hears,
      length-append bytes piece,
      unfinished_open old.unread.fault old.unread bytes ms g.frames_stand.1 g.no_wire_fault,
    )

pub grows_within : (v old new : RebuildHeld) (bytes piece : List ℕ) (ms : List Msg) (at_ends : List Rebuilt)
    → v ≡ old → v.fault ≡ None → ConnectionStands old bytes ms → BroughtHere old new bytes piece ms at_ends
    → length new.up ≤ length old.up + unfinished old + length piece
grows_within v old new bytes piece ms at_ends e n s b =
    let f : old.fault ≡ None = sym (ap (λ (r : RebuildHeld). r.fault) e) ∙ n in
    let g : IsGoodSoFar old.unread old.stage bytes ms = subst (λ (x : Option StreamFault). IsGoodUnless x old.unread old.stage bytes ms) f s.goes_on in
    omega (arith, within_open old new bytes piece ms at_ends g b, ap (λ (x : Option StreamFault). unfinished_by x old.unread) f)

pub stays_within : (old : RebuildHeld) (piece : List ℕ) → length old.up ≤ length old.up + unfinished old + length piece
stays_within old piece = omega arith
