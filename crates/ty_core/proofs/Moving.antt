-- A step to the next breadcrumb, and a client that is heard.
use Rattle.std.proofs.Common.{◌≡◌, ℕ, ◌+◌, ◌-◌, ◌<◌, ◌≤◌, Bool, true, false, cond, List, [], ◌∷◌, ◌++◌, length, take, drop, get_or, refl, sym, ap, subst, ◌∙◌, arith, append-nil, true≢false}
use Rattle.std.specs.Prelude.{codes, slice_index}
use Rattle.std.proofs.lemmas.List.{length-take, take-append-drop, take_all}
use Rattle.std.proofs.lemmas.Grind.{flat_map-append}
use Rattle.ty_base.specs.declared.entry.Entry.{Entry}
use Rattle.ty_base.specs.declared.delta.Delta.{Delta}
use Rattle.ty_wire.specs.Wire.{frame, frames}
use Rattle.ty_wire.specs.Talk.{deltas_between}
use Rattle.ty_wire.specs.declared.message.Msg.{Msg}
use Rattle.ty_client.specs.Rebuild.{RebuildHeld}
use Rattle.ty_session.specs.Times.{closes_group}
use Rattle.ty_marks.specs.Marks.{start, group, end_after, messages_after}
use Rattle.ty_marks.proofs.Marks.{messages-more, between-more}
use Rattle.ty_session.proofs.Marks.{marks-end}
use Rattle.ty_session.specs.declared.stance.Stance.{Stance}
use Rattle.ty_session.specs.Story.{Story, closed, with_entry, offered_at, heard_by, heard_more, greeted_by, joined_at, held_deltas as story_deltas}
use Rattle.ty_session.specs.Held.{SessionHeld, SessionStands}
use Rattle.ty_session.specs.declared.phase.Phase.{Phase}
use Rattle.ty_session.specs.declared.phase.Phase.TheVariants.{Joined}
use Rattle.ty_wire.specs.declared.message.Msg.TheVariants.{ClientHello}
use Rattle.ty_client.specs.Rebuilt.{pongs}
use Rattle.ty_wire.specs.Whole.{whole_in}
use Rattle.ty_wire.proofs.Whole.{whole-zero}
use Rattle.ty_core.specs.declared.client.Connection.{Connection}
use Rattle.ty_core.specs.declared.client.Connection.{Connection}
use Rattle.ty_core.specs.Clients.{Trail, told, sent, unheard, next_link, closed_link, grouped_link, heard_at, joined_link, ungrouped_deltas}
use Rattle.ty_core.specs.Links.{IsLink, phase_of, story_of, stance_of, heard_before}
use Rattle.ty_core.proofs.Steps.{next-story, close-story}
use Rattle.ty_core.proofs.Relinking.{relink}
use Rattle.ty_core.proofs.Upward.{both-ways}

-- the group that the session holds is that of the run
same_deltas : (p : List Entry) (k : Connection) (looked : ℕ) → end_after 0 k.marks ≤ k.offered → k.offered ≤ length p → story_deltas (story_of p looked k) ≡ ungrouped_deltas p k
same_deltas p k looked f o =
    let es : List Entry = take k.offered p in
    let n : length es ≡ k.offered = omega (arith, length-take k.offered p, o) in
    let from : ℕ = end_after 0 k.marks in
    ap (deltas_between es from) n
    ∙ sym (between-more es (drop k.offered p) from k.offered (omega (arith, n, f)) (omega (arith, n)))
    ∙ ap (λ (l : List Entry). deltas_between l from k.offered) (take-append-drop k.offered p)

move_by : (b : Bool) (rb : RebuildHeld) (sv sv' : SessionHeld) (p : List Entry) (k k' : Connection) (connections : List (List ℕ)) (looked : ℕ) → k' ≡ next_link k → IsLink rb sv p k connections → k'.offered ≤ length p
    → SessionStands sv' (cond b (closed (story_of p looked k')) (story_of p looked k')) → IsLink rb sv' p (cond b (closed_link k') k') connections
move_by true rb sv sv' p k k' connections looked e l o st =
    let told_same : told p k' ≡ told p k = ap (λ (x : Connection). told p x) e in
    let got : k'.got ≡ k.got = ap (λ (x : Connection). x.got) e in
    let within : k'.got ≤ length (frames (told p k')) = omega (arith, got, l.connection.got, ap (λ (ms : List Msg). length (frames ms)) told_same) in
    relink rb sv sv' p p k (closed_link k') connections looked (messages_after p (end_after 0 k'.marks) (group k'.offered ∷ [])) l
    (messages-more p 0 k'.marks (group k'.offered ∷ []) ∙ ap (λ (ms : List Msg). ms ++ messages_after p (end_after 0 k'.marks) (group k'.offered ∷ [])) told_same)
    got (ap (λ (x : Connection). x.up) e) o
    (subst (SessionStands sv') (sym (close-story p k' looked within o)) st)
move_by false rb sv sv' p k k' connections looked e l o st =
    relink rb sv sv' p p k k' connections looked [] l (ap (λ (x : Connection). told p x) e ∙ sym (append-nil (told p k))) (ap (λ (x : Connection). x.got) e) (ap (λ (x : Connection). x.up) e) o st

pub moves : (rb : RebuildHeld) (sv sv' : SessionHeld) (t : Trail) (now : ℕ) (k : Connection) (connections : List (List ℕ)) (at : ℕ) (d : Entry) → IsLink rb sv t.entries k connections → k.offered < length t.entries → at ≡ slice_index t.times (k.offered + 1)
    → ((s : Story) → SessionStands sv s → s ≡ story_of t.entries s.stance.looked k → SessionStands sv' (offered_at at now (get_or t.entries k.offered d) s)) → IsLink rb sv' t.entries (grouped_link t now (next_link k)) connections
moves rb sv sv' t now k connections at d l o a h =
    let p : List Entry = t.entries in
    let s : Story = story_of p l.looked k in
    let k' : Connection = next_link k in
    let next : story_of p l.looked k' ≡ with_entry (get_or p k.offered d) s = next-story p k l.looked d o in
    let within : k'.offered ≤ length p = omega (arith, o) in
    let from : end_after 0 k'.marks ≤ k'.offered = omega (arith, marks-end k.marks k.offered l.connection.marks) in
    let st : SessionStands sv' (offered_at at now (get_or p k.offered d) s) = h s l.session_stands refl in
    let P : Story → ℕ → Type 0 = λ x y. SessionStands sv' (cond (closes_group y now (length (story_deltas x))) (closed x) x) in
    let moved : SessionStands sv' (cond (closes_group (slice_index t.times (k.offered + 1)) now (length (story_deltas (story_of p l.looked k')))) (closed (story_of p l.looked k')) (story_of p l.looked k')) =
    subst (P (story_of p l.looked k')) a (subst (λ (x : Story). P x at) (sym next) st) in
    move_by (closes_group (slice_index t.times k'.offered) now (length (ungrouped_deltas p k'))) rb sv sv' p k k' connections l.looked refl l within
    (subst (λ (ds : List Delta). SessionStands sv' (cond (closes_group (slice_index t.times k'.offered) now (length ds)) (closed (story_of p l.looked k')) (story_of p l.looked k'))) (same_deltas p k' l.looked from within) moved)

-- ---- what is heard behind the joining

heard_some : (now : ℕ) (more : List Msg) (t : Stance) → 0 < length more → heard_by now more t ≡ record t { looked = now; heard = now; phase = greeted_by t.phase }
heard_some now [] t h = absurd (omega (arith, h))
heard_some now (m ∷ ms) t h = refl

all_heard : (p : List Entry) (k : Connection) → take (length (sent p k) - 0) (sent p k) ≡ heard_before p k ++ unheard p k
all_heard p k = take_all (length (sent p k) - 0) (sent p k) (omega arith) ∙ sym (both-ways p k)

greeted_same : (b : Bool) → b ≡ true → greeted_by (phase_of b) ≡ phase_of b
greeted_same true e = refl
greeted_same false e = absurd (true≢false (sym e))

-- a pong was heard: the session's story is that of the connection with nothing on its way up
pub heard-story : (p : List Entry) (k : Connection) (looked now : ℕ) → k.has_joined ≡ true → 0 < length (unheard p k)
    → story_of p now (heard_at now k) ≡ heard_more now (frames (unheard p k)) (unheard p k) (story_of p looked k)
heard-story p k looked now j u =
    let more : List Msg = unheard p k in
    let stance : stance_of now (heard_at now k) ≡ heard_by now more (stance_of looked k) =
    ap (λ (x : Phase). record (stance_of now (heard_at now k)) { phase = x }) (sym (greeted_same k.has_joined j)) ∙ sym (heard_some now more (stance_of looked k) u) in
    let messages : take (length (sent p k) - 0) (sent p k) ≡ heard_before p k ++ more = all_heard p k in
    let bytes : frames (take (length (sent p k) - 0) (sent p k)) ≡ frames (heard_before p k) ++ frames more = ap frames messages ∙ flat_map-append frame (heard_before p k) more in
    λ i. record { stance = stance i; entries = take k.offered p; marks = k.marks; removed = k.got; bytes = bytes i; messages = messages i }

-- ---- the joining

sent_none : (p : List Entry) (k : Connection) → k.got ≡ 0 → sent p k ≡ ClientHello 1 (codes "follower") ∷ []
sent_none p k g = ap (λ (ms : List Msg). ClientHello 1 (codes "follower") ∷ pongs ms) (ap (λ (n : ℕ). whole_in n (told p k)) g ∙ whole-zero (told p k))

-- the hello was heard, and the session joined at the last breadcrumb
pub joined-story : (p : List Entry) (k : Connection) (looked now : ℕ) → k.got ≡ 0 → 0 < length (unheard p k)
    → story_of p now (joined_link (length p) now (heard_at now k)) ≡ joined_at now p (heard_more now (frames (unheard p k)) (unheard p k) (story_of p looked k))
joined-story p k looked now g u =
    let more : List Msg = unheard p k in
    let k' : Connection = joined_link (length p) now (heard_at now k) in
    let stance : stance_of now k' ≡ record (heard_by now more (stance_of looked k)) { phase = Joined; joined = now; pinged = now } =
    ap (λ (t : Stance). record t { phase = Joined; joined = now; pinged = now }) (sym (heard_some now more (stance_of looked k) u)) in
    let messages : take (length (sent p k') - 0) (sent p k') ≡ heard_before p k ++ more =
    take_all (length (sent p k') - 0) (sent p k') (omega arith) ∙ sent_none p k' g ∙ sym (sent_none p k g) ∙ sym (both-ways p k) in
    let bytes : frames (take (length (sent p k') - 0) (sent p k')) ≡ frames (heard_before p k) ++ frames more = ap frames messages ∙ flat_map-append frame (heard_before p k) more in
    let entries : take (length p) p ≡ p = take_all (length p) p (omega arith) in
    λ i. record { stance = stance i; entries = entries i; marks = start (length p) ∷ []; removed = k.got; bytes = bytes i; messages = messages i }
