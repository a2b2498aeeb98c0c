-- What each step of a slot makes of the connection that it stands for.
use Rattle.std.proofs.Common.{◌≡◌, ℕ, ◌-◌, ◌<◌, ◌≤◌, ◌^◌, true, List, ◌++◌, length, take, drop, min, sym, ap, subst, ◌∙◌, arith, length-append, length-drop}
use Rattle.std.specs.Prelude.{Option}
use Rattle.std.specs.List.{list_all}
use Rattle.std.proofs.lemmas.List.{length-take, take-append-drop}
use Rattle.std.proofs.lemmas.Grind.{flat_map-append}
use Rattle.ty_base.specs.declared.entry.Entry.{Entry}
use Rattle.ty_base.specs.Limits.{is_small_entry}
use Rattle.ty_wire.specs.Wire.{frame, frames}
use Rattle.ty_wire.specs.declared.message.Msg.{Msg}
use Rattle.ty_client.specs.declared.fault.StreamFault.{StreamFault}
use Rattle.ty_client.specs.Rebuilt.{Rebuilt, pongs}
use Rattle.ty_client.specs.Rebuild.{RebuildHeld, RebuildStands, Brought}
use Rattle.ty_marks.specs.Marks.{AreMarks, bytes_of, messages_of}
use Rattle.ty_wire.specs.Whole.{whole_in}
use Rattle.ty_marks.proofs.Marks.{messages_of-more}
use Rattle.ty_session.proofs.Marks.{marks-more}
use Rattle.ty_session.specs.Story.{Story, given_up}
use Rattle.ty_session.specs.Held.{SessionHeld, SessionStands}
use Rattle.ty_core.specs.declared.client.Connection.{Connection}
use Rattle.ty_core.specs.Clients.{told, down, sent, unheard, came, got_with}
use Rattle.ty_core.specs.Links.{IsLink, IsConnection, story_of}
use Rattle.ty_core.specs.steps.Links.{IsPieceDelivered, IsDelivered}
use Rattle.ty_core.proofs.Delivered.{fed}
use Rattle.ty_core.proofs.Steps.{sent-got, unheard-got, got-story, got-at-most}

-- the session speaks over the entries that it was offered, which is the same
pub down-offered : (p : List Entry) (k : Connection) → AreMarks k.marks k.offered → k.offered ≤ length p → bytes_of (take k.offered p) k.marks ≡ down p k
down-offered p k a o =
    let es : List Entry = take k.offered p in
    let n : length es ≡ k.offered = omega (arith, length-take k.offered p, o) in
    ap frames (sym (messages_of-more es (drop k.offered p) k.marks (subst (AreMarks k.marks) (sym n) a)) ∙ ap (λ (l : List Entry). messages_of l k.marks) (take-append-drop k.offered p))

pub delivered : (rb rb' : RebuildHeld) (sv sv' : SessionHeld) (p : List Entry) (k : Connection) (connections : List (List ℕ)) (n count : ℕ) (bytes : List ℕ) (at_ends : List Rebuilt) (fault : Option StreamFault)
    → list_all is_small_entry p ≡ true → length p < 2 ^ 40 → IsLink rb sv p k connections → got_with p k n < 2 ^ 40
    → count ≡ min n (length sv.out) → bytes ≡ take count sv.out
    → ((before : List (List ℕ)) (so_far : List ℕ) (ms : List Msg) → RebuildStands rb before so_far ms → Brought rb rb' before so_far bytes ms at_ends)
    → fault ≡ rb'.fault
    → ((s : Story) → SessionStands sv s → SessionStands sv' (given_up count s))
    → IsDelivered rb' sv' p k connections n at_ends fault
delivered rb rb' sv sv' p k connections n count bytes at_ends fault texts few l short c b feeds f gives =
    let x : IsConnection p k = l.connection in
    let all : List ℕ = down p k in
    let out : sv.out ≡ drop k.got all = l.session_stands.queued.rest ∙ ap (drop k.got) (down-offered p k x.marks x.offered) in
    let left : length sv.out ≡ length all - k.got = ap length out ∙ length-drop k.got all in
    let to : ℕ = got_with p k n in
    let counted : count ≡ to - k.got = omega (arith, c, left, x.got) in
    let piece : bytes ≡ take (to - k.got) (drop k.got all) = b ∙ ap (λ (j : ℕ). take j sv.out) counted ∙ ap (take (to - k.got)) out in
    let marks : AreMarks k.marks (length p) = marks-more k.marks k.offered (length p) x.marks x.offered in
    let br : Brought rb rb' connections (take k.got all) (take (to - k.got) (drop k.got all)) (whole_in k.got (told p k)) at_ends =
    subst (λ (y : List ℕ). Brought rb rb' connections (take k.got all) y (whole_in k.got (told p k)) at_ends) piece (feeds connections (take k.got all) (whole_in k.got (told p k)) l.client_stands) in
    let w : IsPieceDelivered rb' rb connections (take to all) (whole_in to (told p k)) p (came p k n) at_ends =
    fed p k.marks rb rb' connections k.got to at_ends texts (omega (arith, few)) marks (got-at-most p k n x.got) (omega arith) short br in
    record {
      link = record {
        connection = record {
          marks = x.marks;
          offered = x.offered;
          got = omega arith;
          got_short = short;
          up = omega (arith, x.up, ap length (sent-got p k n x.got), length-append (sent p k) (pongs (came p k n)));
        };
        looked = l.looked;
        session_stands = subst (SessionStands sv') (sym (got-story p k l.looked n x.got x.up)) (subst (λ (j : ℕ). SessionStands sv' (given_up j (story_of p l.looked k))) counted (gives (story_of p l.looked k) l.session_stands));
        client_stands = w.stands;
        no_fault = w.no_fault;
        up = w.up ∙ ap (λ (y : List ℕ). y ++ frames (pongs (came p k n))) l.up ∙ sym (flat_map-append frame (unheard p k) (pongs (came p k n))) ∙ ap frames (sym (unheard-got p k n x.got x.up));
      };
      no_fault = f ∙ w.no_fault;
      at_ends_are = w.at_ends_are;
    }
