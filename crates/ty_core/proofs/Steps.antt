-- What each event makes of a connection is what its session makes of the story that it stands for.
use Rattle.std.proofs.Common.{◌≡◌, ℕ, ◌+◌, ◌-◌, ◌<◌, ◌≤◌, List, [], ◌∷◌, ◌++◌, length, take, drop, get_or, refl, sym, ap, ◌∙◌, arith, length-append}
use Rattle.std.specs.Prelude.{codes}
use Rattle.std.proofs.lemmas.List.{length-take, take-append-le, drop-append-le, take_more}
use Rattle.std.proofs.Math.Seq.{drop-append_seam}
use Rattle.std.proofs.lemmas.Grind.{flat_map-append}
use Rattle.ty_base.specs.declared.entry.Entry.{Entry}
use Rattle.ty_wire.specs.declared.message.Msg.{Msg}
use Rattle.ty_wire.specs.declared.message.Msg.TheVariants.{ClientHello}
use Rattle.ty_client.specs.Rebuilt.{pong_of, pongs}
use Rattle.ty_marks.specs.Marks.{Mark, group, ping, AreMarks, end_after, messages_after, messages_of}
use Rattle.ty_wire.specs.Whole.{whole_in}
use Rattle.ty_marks.proofs.Marks.{messages-more, messages_of-more}
use Rattle.ty_wire.proofs.Whole.{whole-more, whole-front}
use Rattle.ty_session.proofs.Marks.{marks-more}
use Rattle.ty_session.specs.Story.{begun, pinged_at, closed, with_entry, given_up}
use Rattle.ty_core.specs.declared.client.Connection.{Connection}
use Rattle.ty_core.specs.Clients.{told, down, sent, unheard, new_link, closed_link, next_link, came, got_with, get_link}
use Rattle.ty_core.specs.Links.{heard_before, story_by, story_of}

abbrev hello : Msg
hello = ClientHello 1 (codes "follower")

-- ---- the client's messages, by what was delivered

sent-by : (k : Connection) (ms ns : List Msg) → whole_in k.got ms ≡ whole_in k.got ns → hello ∷ pongs (whole_in k.got ms) ≡ hello ∷ pongs (whole_in k.got ns)
sent-by k ms ns e = ap (λ (l : List Msg). hello ∷ pongs l) e

-- more marks change nothing of what was sent
pub sent-marks : (p : List Entry) (k : Connection) (more : List Mark) → k.got ≤ length (down p k) → sent p (record k { marks = k.marks ++ more }) ≡ sent p k
sent-marks p k more h =
    let rest : List Msg = messages_after p (end_after 0 k.marks) more in
    sent-by k (messages_of p (k.marks ++ more)) (messages_of p k.marks)
    (ap (whole_in k.got) (messages-more p 0 k.marks more) ∙ whole-more (messages_of p k.marks) rest k.got h)

abbrev first_of : ℕ → List Msg → List Msg
first_of up ms = take (length ms - up) ms

-- ---- time: a ping

pub ping-story : (p : List Entry) (k : Connection) (looked t : ℕ) → k.got ≤ length (down p k)
    → story_of p looked (record k { pinged = t; marks = k.marks ++ ping t ∷ [] }) ≡ pinged_at t (story_of p looked k)
ping-story p k looked t h =
    ap (λ (ms : List Msg). story_by (take k.offered p) (first_of k.up ms) looked (record k { pinged = t; marks = k.marks ++ ping t ∷ [] })) (sent-marks p k (ping t ∷ []) h)

-- ---- a group is closed

pub close-story : (p : List Entry) (k : Connection) (looked : ℕ) → k.got ≤ length (down p k) → k.offered ≤ length p
    → story_of p looked (closed_link k) ≡ closed (story_of p looked k)
close-story p k looked h o =
    let n : length (take k.offered p) ≡ k.offered = omega (arith, length-take k.offered p, o) in
    ap (λ (ms : List Msg). story_by (take k.offered p) (first_of k.up ms) looked (closed_link k)) (sent-marks p k (group k.offered ∷ []) h)
    ∙ ap (λ (j : ℕ). story_by (take k.offered p) (heard_before p k) looked (record k { marks = k.marks ++ group j ∷ [] })) (sym n)

-- ---- the next breadcrumb

pub next-story : (p : List Entry) (k : Connection) (looked : ℕ) (e : Entry) → k.offered < length p
    → story_of p looked (next_link k) ≡ with_entry (get_or p k.offered e) (story_of p looked k)
next-story p k looked e h = ap (λ (es : List Entry). story_by es (heard_before p k) looked k) (take_more p k.offered e h)

-- ---- delivery

pub got-at-most : (p : List Entry) (k : Connection) (n : ℕ) → k.got ≤ length (down p k) → k.got ≤ got_with p k n
got-at-most p k n h = omega (arith, h)

pub came-behind : (p : List Entry) (k : Connection) (n : ℕ) → k.got ≤ length (down p k) → whole_in (got_with p k n) (told p k) ≡ whole_in k.got (told p k) ++ came p k n
came-behind p k n h =
    let r = whole-front (told p k) k.got (got_with p k n) (got-at-most p k n h) in
    let w : List Msg = whole_in k.got (told p k) in
    r.1 ∙ ap (λ (l : List Msg). w ++ l) (sym (ap (drop (length w)) r.1 ∙ drop-append_seam w r.0))

-- a pong more for each ping that came
pub sent-got : (p : List Entry) (k : Connection) (n : ℕ) → k.got ≤ length (down p k) → sent p (get_link p n k) ≡ sent p k ++ pongs (came p k n)
sent-got p k n h =
    ap (λ (ms : List Msg). hello ∷ pongs ms) (came-behind p k n h)
    ∙ ap (λ (ms : List Msg). hello ∷ ms) (flat_map-append pong_of (whole_in k.got (told p k)) (came p k n))

same_left : (sent pongs : List Msg) (up : ℕ) → up ≤ length sent → length (sent ++ pongs) - (up + length pongs) ≡ length sent - up
same_left sent pongs up h = omega (arith, h, length-append sent pongs)

pub unheard-got : (p : List Entry) (k : Connection) (n : ℕ) → k.got ≤ length (down p k) → k.up ≤ length (sent p k) → unheard p (get_link p n k) ≡ unheard p k ++ pongs (came p k n)
unheard-got p k n h u =
    let s : List Msg = sent p k in
    let m : List Msg = pongs (came p k n) in
    ap (λ (ms : List Msg). drop (length ms - (k.up + length m)) ms) (sent-got p k n h)
    ∙ ap (λ (j : ℕ). drop j (s ++ m)) (same_left s m k.up u)
    ∙ drop-append-le (length s - k.up) s m (omega arith)

heard-got : (p : List Entry) (k : Connection) (n : ℕ) → k.got ≤ length (down p k) → k.up ≤ length (sent p k) → heard_before p (get_link p n k) ≡ heard_before p k
heard-got p k n h u =
    let s : List Msg = sent p k in
    let m : List Msg = pongs (came p k n) in
    ap (λ (ms : List Msg). take (length ms - (k.up + length m)) ms) (sent-got p k n h)
    ∙ ap (λ (j : ℕ). take j (s ++ m)) (same_left s m k.up u)
    ∙ take-append-le (length s - k.up) s m (omega arith)

pub got-story : (p : List Entry) (k : Connection) (looked n : ℕ) → k.got ≤ length (down p k) → k.up ≤ length (sent p k)
    → story_of p looked (get_link p n k) ≡ given_up (got_with p k n - k.got) (story_of p looked k)
got-story p k looked n h u =
    let g : got_with p k n ≡ k.got + (got_with p k n - k.got) = omega (arith, got-at-most p k n h) in
    ap (λ (ms : List Msg). story_by (take k.offered p) ms looked (get_link p n k)) (heard-got p k n h u)
    ∙ ap (λ (j : ℕ). story_by (take k.offered p) (heard_before p k) looked (record k { got = j })) g

-- ---- the book grows

told-more : (p q : List Entry) (k : Connection) (more : List Entry) → q ≡ p ++ more → AreMarks k.marks k.offered → k.offered ≤ length p → told q k ≡ told p k
told-more p q k more e a o = ap (λ (es : List Entry). messages_of es k.marks) e ∙ messages_of-more p more k.marks (marks-more k.marks k.offered (length p) a o)

pub more-story : (p q : List Entry) (k : Connection) (looked : ℕ) (more : List Entry) → q ≡ p ++ more → AreMarks k.marks k.offered → k.offered ≤ length p → story_of q looked k ≡ story_of p looked k
more-story p q k looked more e a o =
    ap (λ (ms : List Msg). story_by (take k.offered q) (first_of k.up (hello ∷ pongs (whole_in k.got ms))) looked k) (told-more p q k more e a o)
    ∙ ap (λ (es : List Entry). story_by es (heard_before p k) looked k) (ap (take k.offered) e ∙ take-append-le k.offered p more o)

-- ---- the beginning

pub nothing-told : (p : List Entry) (now : ℕ) → told p (new_link now) ≡ []
unfolding messages_after
nothing-told p now = refl

none-in : whole_in 0 [] ≡ []
unfolding whole_in
none-in = refl

pub open-story : (p : List Entry) (now : ℕ) → story_of p now (new_link now) ≡ begun now
open-story p now = ap (λ (ms : List Msg). story_by [] (first_of 1 (hello ∷ pongs ms)) now (new_link now)) (ap (whole_in 0) (nothing-told p now) ∙ none-in)
