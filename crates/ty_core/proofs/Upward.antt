-- What is on its way up is heard whole, and is no fault.
use Rattle.std.proofs.Common.{◌≡◌, ℕ, ◌+◌, ◌-◌, ◌<◌, ◌^◌, Bool, true, List, [], ◌∷◌, ◌++◌, length, drop, refl, sym, ap, subst, ◌∙◌, arith, ltb-true, true≢false, ne_eqb}
use Rattle.std.specs.Prelude.{Option, None, Some, is_some, nat_lt, nat_le, codes, option_map, if◌then◌else◌}
use Rattle.std.specs.Option.{option_or}
use Rattle.std.specs.List.{AllByRecursion, list_all}
use Rattle.json.proofs.Printed.Utf8.{IsUtf8-are_ascii}
use Rattle.std.proofs.lemmas.List.{take-append-drop}
use Rattle.std.proofs.lemmas.Grind.{flat_map-append}
use Rattle.std.proofs.Math.Seq.{drop-append_seam}
use Rattle.ty_base.proofs.Passing.{left}
use Rattle.ty_base.specs.declared.entry.Entry.{Entry}
use Rattle.ty_base.specs.Limits.{is_small_entry}
use Rattle.ty_wire.specs.Wire.{IsWire, frame, frames, body}
use Rattle.ty_wire.specs.Held.{FramesHeld}
use Rattle.ty_wire.specs.Stream.{Brings, FramesStand, FramesStandBy}
use Rattle.ty_wire.specs.declared.fault.WireFault.{WireFault}
use Rattle.ty_wire.specs.declared.message.Msg.{Msg}
use Rattle.ty_wire.specs.declared.message.Msg.TheVariants.{ClientHello, ServerHello, Kvs, Status as StatusMsg, Crumb, Ping, Pong}
use Rattle.ty_wire.proofs.Whole.{reads-whole}
use Rattle.ty_wire.proofs.Stream.{one_outcome}
use Rattle.ty_wire.proofs.Short.{client_hello-fits, pong-fits}
use Rattle.ty_wire.proofs.Utf8.{is_wire}
use Rattle.ty_client.specs.Rebuilt.{pongs}
use Rattle.ty_marks.specs.Marks.{AreMarks}
use Rattle.ty_wire.specs.Whole.{whole_in}
use Rattle.ty_session.specs.Client.{first_client_fault, Shows}
use Rattle.ty_session.proofs.Hearing.{fault-cons, fault-none}
use Rattle.ty_session.specs.declared.reason.Reason.{Reason}
use Rattle.ty_session.specs.declared.reason.Reason.TheVariants.{BadBytes, BadOrder}
use Rattle.ty_core.specs.declared.client.Connection.{Connection}
use Rattle.ty_core.specs.Clients.{told, sent, unheard}
use Rattle.ty_core.specs.Links.{heard_before}
use Rattle.ty_core.proofs.Delivered.{are-wire, whole-rest}

abbrev hello : Msg
hello = ClientHello 1 (codes "follower")

-- ---- pongs are in their places, and have frames

pongs-good : (frame : ℕ) (ms : List Msg) → 1 < frame → first_client_fault frame (pongs ms) ≡ None
pongs-good frame [] h = fault-none frame
pongs-good frame (Ping ts ∷ ms) h =
    fault-cons frame (Pong ts) (pongs ms)
    ∙ ap (λ (b : Bool). option_or (if b then Some (BadOrder 1) else None) (first_client_fault (frame + 1) (pongs ms))) (ne_eqb frame 1 (λ e. omega (arith, h, e)))
    ∙ pongs-good (frame + 1) ms (omega (arith, h))
pongs-good frame (ClientHello v h' ∷ ms) h = pongs-good frame ms h
pongs-good frame (ServerHello v ∷ ms) h = pongs-good frame ms h
pongs-good frame (Kvs ds ∷ ms) h = pongs-good frame ms h
pongs-good frame (StatusMsg s ∷ ms) h = pongs-good frame ms h
pongs-good frame (Crumb n ∷ ms) h = pongs-good frame ms h
pongs-good frame (Pong ts ∷ ms) h = pongs-good frame ms h

pub sent-good : (p : List Entry) (k : Connection) → first_client_fault 1 (sent p k) ≡ None
sent-good p k = fault-cons 1 hello (pongs (whole_in k.got (told p k))) ∙ pongs-good 2 (whole_in k.got (told p k)) (omega arith)

pongs-wire : (ms : List Msg) → AllByRecursion IsWire ms → AllByRecursion IsWire (pongs ms)
pongs-wire [] w = tt
pongs-wire (Ping ts ∷ ms) w =
    let small : ts < 2 ^ 64 = ltb-true ts (2 ^ 64) (left (nat_lt ts (2 ^ 64)) (nat_le (length (body (Ping ts))) 8388608) w.0.fits) in
    (is_wire (Pong ts) tt (pong-fits ts small), pongs-wire ms w.1)
pongs-wire (ClientHello v h ∷ ms) w = pongs-wire ms w.1
pongs-wire (ServerHello v ∷ ms) w = pongs-wire ms w.1
pongs-wire (Kvs ds ∷ ms) w = pongs-wire ms w.1
pongs-wire (StatusMsg s ∷ ms) w = pongs-wire ms w.1
pongs-wire (Crumb n ∷ ms) w = pongs-wire ms w.1
pongs-wire (Pong ts ∷ ms) w = pongs-wire ms w.1

all_front : (xs ys : List Msg) → AllByRecursion IsWire (xs ++ ys) → AllByRecursion IsWire xs
all_front [] ys w = tt
all_front (x ∷ xs) ys w = (w.0, all_front xs ys w.1)

pub sent-wire : (p : List Entry) (k : Connection) → list_all is_small_entry p ≡ true → length p < 2 ^ 64 → AreMarks k.marks (length p) → AllByRecursion IsWire (sent p k)
sent-wire p k t l a =
    let r = whole-rest k.got (told p k) in
    let w : AllByRecursion IsWire (whole_in k.got (told p k)) = all_front (whole_in k.got (told p k)) r.0 (subst (AllByRecursion IsWire) r.1 (are-wire p k.marks t l a)) in
    (is_wire hello (IsUtf8-are_ascii (codes "follower") refl) (client_hello-fits 1 (codes "follower") (omega arith) (omega arith)), pongs-wire (whole_in k.got (told p k)) w)

-- ---- all of it is heard

pub sent-brings : (p : List Entry) (k : Connection) → AllByRecursion IsWire (sent p k) → length (frames (sent p k)) < 2 ^ 40 → Brings (frames (sent p k)) (sent p k) None
sent-brings p k w short = (short, ([], reads-whole (sent p k) w))

pub both-ways : (p : List Entry) (k : Connection) → heard_before p k ++ unheard p k ≡ sent p k
both-ways p k = take-append-drop (length (sent p k) - k.up) (sent p k)

pub bytes-both : (p : List Entry) (k : Connection) → frames (heard_before p k) ++ frames (unheard p k) ≡ frames (sent p k)
bytes-both p k = sym (flat_map-append frame (heard_before p k) (unheard p k)) ∙ ap frames (both-ways p k)

brings_by : (o : Option WireFault) (f : FramesHeld) (bytes : List ℕ) (ms : List Msg) → o ≡ None → FramesStandBy o f bytes ms → Brings bytes ms None
brings_by None f bytes ms e h = (h.short, (f.rest, h.reads))
brings_by (Some w) f bytes ms e h = cc

-- what a session heard of it is the messages that were on their way
pub heard-whole : (p : List Entry) (k : Connection) (unread : FramesHeld) (more : List Msg) → AllByRecursion IsWire (sent p k) → length (frames (sent p k)) < 2 ^ 40
    → FramesStand unread (frames (heard_before p k) ++ frames (unheard p k)) (heard_before p k ++ more) → unread.fault ≡ None → more ≡ unheard p k
heard-whole p k unread more w short st none =
    let b : Brings (frames (sent p k)) (heard_before p k ++ more) None =
    subst (λ (x : List ℕ). Brings x (heard_before p k ++ more) None) (bytes-both p k) (brings_by unread.fault unread (frames (heard_before p k) ++ frames (unheard p k)) (heard_before p k ++ more) none st.1) in
    let same : heard_before p k ++ more ≡ heard_before p k ++ unheard p k = (one_outcome (frames (sent p k)) (heard_before p k ++ more) (sent p k) None None b (sent-brings p k w short)).0 ∙ sym (both-ways p k) in
    sym (drop-append_seam (heard_before p k) more) ∙ ap (drop (length (heard_before p k))) same ∙ drop-append_seam (heard_before p k) (unheard p k)

-- it shows no reason
pub no-reason : (p : List Entry) (k : Connection) (r : Reason) → AllByRecursion IsWire (sent p k) → length (frames (sent p k)) < 2 ^ 40 → Shows (frames (heard_before p k) ++ frames (unheard p k)) r → ⊥
no-reason p k r w short s =
    let b : Brings (frames (sent p k)) s.messages s.wire = subst (λ (x : List ℕ). Brings x s.messages s.wire) (bytes-both p k) s.brings in
    let one = one_outcome (frames (sent p k)) s.messages (sent p k) s.wire None b (sent-brings p k w short) in
    let none : Some r ≡ None =
    s.first
    ∙ ap (λ (ms : List Msg). option_or (first_client_fault 1 ms) (option_map BadBytes s.wire)) one.0
    ∙ ap (λ (o : Option WireFault). option_or (first_client_fault 1 (sent p k)) (option_map BadBytes o)) one.1
    ∙ ap (λ (o : Option Reason). option_or o None) (sent-good p k) in
    true≢false (ap is_some none)
