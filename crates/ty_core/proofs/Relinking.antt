-- A connection of which more is messages_of, or a book that grew: what was delivered and sent stays.
use Rattle.std.proofs.Common.{◌≡◌, ℕ, ◌-◌, ◌≤◌, Bool, true, false, cond, ◌&&◌, List, [], ◌∷◌, ◌++◌, length, take, drop, refl, sym, ap, subst, ◌∙◌, arith, append-nil, length-append}
use Rattle.std.specs.Prelude.{codes, nat_lt}
use Rattle.std.proofs.lemmas.List.{length-take, take-append-le}
use Rattle.std.proofs.lemmas.Grind.{flat_map-append}
use Rattle.ty_base.specs.declared.entry.Entry.{Entry}
use Rattle.ty_wire.specs.Wire.{frame, frames}
use Rattle.ty_wire.specs.declared.message.Msg.{Msg}
use Rattle.ty_wire.specs.declared.message.Msg.TheVariants.{ClientHello}
use Rattle.ty_client.specs.Rebuilt.{pongs}
use Rattle.ty_client.specs.Rebuild.{RebuildHeld, RebuildStands}
use Rattle.ty_session.specs.Times.{is_ping_due}
use Rattle.ty_marks.specs.Marks.{group, ping, AreMarks, end_after, messages_after, messages_of}
use Rattle.ty_wire.specs.Whole.{whole_in}
use Rattle.ty_marks.proofs.Marks.{messages-more, messages_of-more}
use Rattle.ty_wire.proofs.Whole.{whole-more}
use Rattle.ty_session.proofs.Marks.{marks-more}
use Rattle.ty_session.specs.Story.{Story, ticked, pinged_at, is_joined, idled, closed}
use Rattle.ty_session.specs.Held.{SessionHeld, SessionStands}
use Rattle.ty_session.specs.declared.phase.Phase.TheVariants.{Joined}
use Rattle.ty_core.specs.declared.client.Connection.{Connection}
use Rattle.ty_core.specs.Clients.{told, down, sent, ping_link, idle_link, closed_link}
use Rattle.ty_core.specs.Links.{IsLink, IsConnection, story_of, phase_of}
use Rattle.ty_core.proofs.Steps.{ping-story, close-story, more-story}

abbrev answers : List Msg → List Msg
answers ms = ClientHello 1 (codes "follower") ∷ pongs ms

abbrev behind : ℕ → List Msg → List Msg
behind up ms = drop (length ms - up) ms

pub relink : (rb : RebuildHeld) (sv sv' : SessionHeld) (p q : List Entry) (k k' : Connection) (connections : List (List ℕ)) (looked : ℕ) (more : List Msg) → IsLink rb sv p k connections
    → told q k' ≡ told p k ++ more → k'.got ≡ k.got → k'.up ≡ k.up → k'.offered ≤ length q → SessionStands sv' (story_of q looked k') → IsLink rb sv' q k' connections
relink rb sv sv' p q k k' connections looked more l t g u o st =
    let x : IsConnection p k = l.connection in
    let whole : whole_in k'.got (told q k') ≡ whole_in k.got (told p k) = ap (λ (n : ℕ). whole_in n (told q k')) g ∙ ap (whole_in k.got) t ∙ whole-more (told p k) more k.got x.got in
    let bytes : down q k' ≡ down p k ++ frames more = ap frames t ∙ flat_map-append frame (told p k) more in
    let delivered : take k'.got (down q k') ≡ take k.got (down p k) = ap (λ (n : ℕ). take n (down q k')) g ∙ ap (take k.got) bytes ∙ take-append-le k.got (down p k) (frames more) x.got in
    let same : sent q k' ≡ sent p k = ap answers whole in
    record {
      connection = record {
        marks = subst (AreMarks k'.marks) (omega (arith, length-take k'.offered q, o)) st.marks;
        offered = o;
        got = omega (arith, g, x.got, ap length bytes, length-append (down p k) (frames more));
        got_short = omega (arith, g, x.got_short);
        up = omega (arith, u, x.up, ap length same);
      };
      looked = looked;
      session_stands = st;
      client_stands = subst (λ (b : List ℕ). RebuildStands rb connections b (whole_in k'.got (told q k'))) (sym delivered) (subst (RebuildStands rb connections (take k.got (down p k))) (sym whole) l.client_stands);
      no_fault = l.no_fault;
      up = l.up ∙ ap (λ (ms : List Msg). frames (behind k.up ms)) (sym same) ∙ ap (λ (n : ℕ). frames (behind n (sent q k'))) (sym u);
    }

-- ---- the book grows, or time passes

pub grows : (rb : RebuildHeld) (sv : SessionHeld) (p q : List Entry) (k : Connection) (connections : List (List ℕ)) (more : List Entry) → q ≡ p ++ more → IsLink rb sv p k connections → IsLink rb sv q k connections
grows rb sv p q k connections more e l =
    let x : IsConnection p k = l.connection in
    let marks : AreMarks k.marks (length p) = marks-more k.marks k.offered (length p) x.marks x.offered in
    relink rb sv sv p q k k connections l.looked [] l
    (ap (λ (es : List Entry). messages_of es k.marks) e ∙ messages_of-more p more k.marks marks ∙ sym (append-nil (told p k))) refl refl
    (omega (arith, x.offered, ap length e, length-append p more))
    (subst (SessionStands sv) (sym (more-story p q k l.looked more e x.marks x.offered)) l.session_stands)

-- ---- a tick

joined_phase : (b : Bool) → is_joined (phase_of b) ≡ b
joined_phase true = refl
joined_phase false = refl

abbrev with_ping : ℕ → Connection → Connection
with_ping t k = record k { pinged = t; marks = k.marks ++ ping t ∷ [] }

tick_by : (b : Bool) (rb : RebuildHeld) (sv sv' : SessionHeld) (p : List Entry) (k : Connection) (connections : List (List ℕ)) (t : ℕ) → IsLink rb sv p k connections
    → ((looked : ℕ) → SessionStands sv (story_of p looked k) → SessionStands sv' (cond b (pinged_at t (story_of p looked k)) (story_of p looked k))) → IsLink rb sv' p (cond b (with_ping t k) k) connections
tick_by true rb sv sv' p k connections t l h =
    relink rb sv sv' p p k (with_ping t k) connections l.looked (messages_after p (end_after 0 k.marks) (ping t ∷ [])) l
    (messages-more p 0 k.marks (ping t ∷ [])) refl refl l.connection.offered
    (subst (SessionStands sv') (sym (ping-story p k l.looked t l.connection.got)) (h l.looked l.session_stands))
tick_by false rb sv sv' p k connections t l h =
    relink rb sv sv' p p k k connections l.looked [] l (sym (append-nil (told p k))) refl refl l.connection.offered (h l.looked l.session_stands)

pub ticks : (rb : RebuildHeld) (sv sv' : SessionHeld) (p : List Entry) (k : Connection) (connections : List (List ℕ)) (t : ℕ) → IsLink rb sv p k connections
    → ((s : Story) → SessionStands sv s → SessionStands sv' (ticked t s)) → IsLink rb sv' p (ping_link t k) connections
ticks rb sv sv' p k connections t l h =
    tick_by (k.has_joined && is_ping_due k.pinged t) rb sv sv' p k connections t l
    (λ looked st. subst (SessionStands sv') (ap (λ (b : Bool). cond (b && is_ping_due k.pinged t) (pinged_at t (story_of p looked k)) (story_of p looked k)) (joined_phase k.has_joined)) (h (story_of p looked k) st))

-- ---- a step that finds no next breadcrumb

idle_by : (b : Bool) (rb : RebuildHeld) (sv sv' : SessionHeld) (p : List Entry) (k : Connection) (connections : List (List ℕ)) → IsLink rb sv p k connections
    → ((looked : ℕ) → SessionStands sv (story_of p looked k) → SessionStands sv' (cond b (closed (story_of p looked k)) (story_of p looked k))) → IsLink rb sv' p (cond b (closed_link k) k) connections
idle_by true rb sv sv' p k connections l h =
    relink rb sv sv' p p k (closed_link k) connections l.looked (messages_after p (end_after 0 k.marks) (group k.offered ∷ [])) l
    (messages-more p 0 k.marks (group k.offered ∷ [])) refl refl l.connection.offered
    (subst (SessionStands sv') (sym (close-story p k l.looked l.connection.got l.connection.offered)) (h l.looked l.session_stands))
idle_by false rb sv sv' p k connections l h =
    relink rb sv sv' p p k k connections l.looked [] l (sym (append-nil (told p k))) refl refl l.connection.offered (h l.looked l.session_stands)

pub idles : (rb : RebuildHeld) (sv sv' : SessionHeld) (p : List Entry) (k : Connection) (connections : List (List ℕ)) → IsLink rb sv p k connections → k.has_joined ≡ true
    → ((s : Story) → SessionStands sv s → s.stance.phase ≡ Joined → SessionStands sv' (idled s)) → IsLink rb sv' p (idle_link k) connections
idles rb sv sv' p k connections l j h =
    let n : length (take k.offered p) ≡ k.offered = omega (arith, length-take k.offered p, l.connection.offered) in
    idle_by (nat_lt (end_after 0 k.marks) k.offered) rb sv sv' p k connections l
    (λ looked st. subst (SessionStands sv') (ap (λ (j : ℕ). cond (nat_lt (end_after 0 k.marks) j) (closed (story_of p looked k)) (story_of p looked k)) n) (h (story_of p looked k) st (ap phase_of j)))
