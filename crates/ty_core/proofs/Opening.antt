-- A connection that is opened or cut.
use Rattle.std.proofs.Common.{◌≡◌, ℕ, ◌-◌, List, [], ◌∷◌, ◌++◌, length, take, drop, refl, sym, ap, subst, ◌∙◌, arith, append-nil}
use Rattle.std.specs.Prelude.{Option, None, Some, codes}
use Rattle.ty_base.specs.declared.entry.Entry.{Entry}
use Rattle.ty_wire.specs.Wire.{frame, frames}
use Rattle.ty_wire.specs.Whole.{whole_in}
use Rattle.ty_wire.specs.declared.message.Msg.{Msg}
use Rattle.ty_wire.specs.declared.message.Msg.TheVariants.{ClientHello}
use Rattle.ty_wire.proofs.Whole.{whole-none}
use Rattle.ty_client.specs.Rebuild.{RebuildHeld, RebuildStands}
use Rattle.ty_client.specs.Rebuilt.{Rebuilt, pongs, ats, ats_after, last_held}
use Rattle.ty_session.specs.Story.{begun}
use Rattle.ty_session.specs.Held.{SessionHeld, SessionStands}
use Rattle.ty_core.specs.declared.client.Client.{Client}
use Rattle.ty_core.specs.declared.client.Connection.{Connection}
use Rattle.ty_core.specs.declared.slot.Slot.{Slot}
use Rattle.ty_core.specs.declared.told.Told.{Told}
use Rattle.ty_core.specs.declared.told.Told.TheVariants.{Opened, Present, Lost, Absent}
use Rattle.ty_core.specs.Clients.{down, delivered, sent, unheard, new_link, join_link}
use Rattle.ty_core.specs.Report.{told_join, told_cut}
use Rattle.ty_core.specs.Held.{HasHeard, IsLinked, LinkStands, SlotStands}
use Rattle.ty_core.specs.steps.Slots.{SlotMoves}
use Rattle.ty_core.proofs.Steps.{open-story, nothing-told}

abbrev hello : Msg
hello = ClientHello 1 (codes "follower")

-- what is to be sent is no part of what a rebuilding stands for
restands : (rb : RebuildHeld) (up : List ℕ) (before : List (List ℕ)) (bytes : List ℕ) (ms : List Msg) → RebuildStands rb before bytes ms → RebuildStands (record rb { up = up }) before bytes ms
restands rb up before bytes ms x = record {
  unspent = x.unspent;
  hears = x.hears;
  goes_on = x.goes_on;
  held_before = x.held_before;
  holds = x.holds;
  held_is = x.held_is;
}

pub opened : (rb rb' : RebuildHeld) (sv : SessionHeld) (es : List Entry) (now : ℕ) (before : List (List ℕ)) (host : List ℕ) → host ≡ codes "follower" → RebuildStands rb before [] [] → rb.fault ≡ None → rb.up ≡ []
    → rb' ≡ record rb { up = rb.up ++ frame (ClientHello 1 host) } → SessionStands sv (begun now) → IsLinked rb' sv es (new_link now)
opened rb rb' sv es now before host is st f u e ss =
    let k : Connection = new_link now in
    let none : delivered es k ≡ [] = ap (whole_in 0) (nothing-told es now) ∙ whole-none 0 in
    let one : sent es k ≡ hello ∷ [] = ap (λ (ms : List Msg). hello ∷ pongs ms) none in
    let all : unheard es k ≡ hello ∷ [] = ap (λ (ms : List Msg). drop (length ms - 1) ms) one in
    let first : RebuildStands rb' before [] (delivered es k) =
    subst (RebuildStands rb' before []) (sym none) (let P : RebuildHeld → Type 0 = λ r. RebuildStands r before [] [] in subst P (sym e) (restands rb (rb.up ++ frame (ClientHello 1 host)) before [] [] st)) in (
      before,
      record {
        connection = record {
          marks = tt;
          offered = omega arith;
          got = omega arith;
          got_short = omega arith;
          up = omega (arith, ap length one);
        };
        looked = now;
        session_stands = subst (SessionStands sv) (sym (open-story es now)) ss;
        client_stands = first;
        no_fault = ap (λ (r : RebuildHeld). r.fault) e ∙ f;
        up = ap (λ (r : RebuildHeld). r.up) e
            ∙ ap (λ (l : List ℕ). l ++ frame (ClientHello 1 host)) u
            ∙ ap (λ (h : List ℕ). frame (ClientHello 1 h)) is
            ∙ sym (append-nil (frame hello))
            ∙ ap frames (sym all);
      },
    )

-- The two kinds of slots

pub some_link : (rb : RebuildHeld) (sv : SessionHeld) (es : List Entry) (link : Option Connection) → LinkStands rb (Some sv) es link → (k : Connection) × (link ≡ Some k) × IsLinked rb sv es k
some_link rb sv es None l = absurd l
some_link rb sv es (Some k) l = (k, refl, l)

pub no_link : (rb : RebuildHeld) (es : List Entry) (link : Option Connection) → LinkStands rb None es link → (link ≡ None) × HasHeard rb
no_link rb es None l = (refl, l)
no_link rb es (Some k) l = absurd l

pub has_heard : (rb : RebuildHeld) (sv : SessionHeld) (es : List Entry) (k : Connection) → IsLinked rb sv es k → HasHeard rb
has_heard rb sv es k l = (l.0, take k.got (down es k), delivered es k, l.1.client_stands)

-- Joining

abbrev with_link : Client → Option Connection → Client
with_link k l = record k { link = l }

pub joins_present : (slot : Slot) (sv : SessionHeld) (es : List Entry) (k : Client) (c now : ℕ) (ts : List Told) → slot.session ≡ Some sv → ts ≡ Present c ∷ [] → SlotStands slot es k
    → SlotMoves slot es (with_link k (join_link now k.link)) ts (told_join c k.link)
joins_present slot sv es k c now ts e t st =
    let L : Option SessionHeld → Type 0 = λ s. LinkStands slot.rebuild s es k.link in
    let l = some_link slot.rebuild sv es k.link (subst L e st.link) in
    record {
      stands = record {
        link = subst (LinkStands slot.rebuild slot.session es) (l.1 ∙ sym (ap (join_link now) l.1)) st.link;
        held = st.held;
        within = st.within;
      };
      told_is = t ∙ sym (ap (told_join c) l.1);
    }

pub joins_open : (slot : Slot) (rb : RebuildHeld) (sv : SessionHeld) (es : List Entry) (k : Client) (c now : ℕ) (ts : List Told) → slot.session ≡ None → ts ≡ Opened c ∷ [] → rb.held ≡ slot.rebuild.held
    → (HasHeard slot.rebuild → IsLinked rb sv es (new_link now)) → SlotStands slot es k
    → SlotMoves (record slot { rebuild = rb; session = Some sv }) es (with_link k (join_link now k.link)) ts (told_join c k.link)
joins_open slot rb sv es k c now ts e t h opens st =
    let L : Option SessionHeld → Type 0 = λ s. LinkStands slot.rebuild s es k.link in
    let l = no_link slot.rebuild es k.link (subst L e st.link) in
    record {
      stands = record {
        link = subst (LinkStands rb (Some sv) es) (sym (ap (join_link now) l.0)) (opens l.1);
        held = h ∙ st.held;
        within = st.within;
      };
      told_is = t ∙ sym (ap (told_join c) l.0);
    }

-- Cutting

pub cuts_absent : (slot : Slot) (es : List Entry) (k : Client) (c : ℕ) (ts : List Told) → slot.session ≡ None → ts ≡ Absent c ∷ [] → SlotStands slot es k → SlotMoves slot es (with_link k None) ts (told_cut c k.link)
cuts_absent slot es k c ts e t st =
    let L : Option SessionHeld → Type 0 = λ s. LinkStands slot.rebuild s es k.link in
    let l = no_link slot.rebuild es k.link (subst L e st.link) in
    record {
      stands = record { link = subst (LinkStands slot.rebuild slot.session es) l.0 st.link; held = st.held; within = st.within };
      told_is = t ∙ sym (ap (told_cut c) l.0);
    }

pub cuts : (slot : Slot) (sv : SessionHeld) (es : List Entry) (k : Client) (c : ℕ) (ts : List Told) → slot.session ≡ Some sv → ts ≡ Lost c ∷ [] → SlotStands slot es k
    → SlotMoves (record slot { session = None }) es (with_link k None) ts (told_cut c k.link)
cuts slot sv es k c ts e t st =
    let L : Option SessionHeld → Type 0 = λ s. LinkStands slot.rebuild s es k.link in
    let l = some_link slot.rebuild sv es k.link (subst L e st.link) in
    record {
      stands = record { link = has_heard slot.rebuild sv es l.0 l.2; held = st.held; within = st.within };
      told_is = t ∙ sym (ap (told_cut c) l.1);
    }

-- No connection at all

none_held : (before : Option Rebuilt) → before ≡ None → last_held before (ats []) ≡ None
unfolding last_held ats_after
none_held before e = e

pub empty : (rb : RebuildHeld) (es : List Entry) → RebuildStands rb [] [] [] → SlotStands (record { rebuild = rb; session = None }) es (record { held = None; link = None })
empty rb es st = record { link = ([], [], [], st); held = st.held_is ∙ none_held st.held_before st.holds; within = tt }
