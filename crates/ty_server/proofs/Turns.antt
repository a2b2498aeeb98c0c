-- What one step of the follower makes of a session, and a whole turn.
use Rattle.std.proofs.Common.{◌≡◌, ℕ, ◌≤◌, ◌⊎◌, inl, inr, Bool, true, false, List, [], ◌∷◌, ◌++◌, length, take, drop, refl, sym, ap, subst, ◌∙◌, arith, append-nil, append_assoc, le-ltb}
use Rattle.std.specs.Prelude.{None, Some, Result, Ok, Err, cond}
use Rattle.std.proofs.lemmas.List.{take-append-drop}
use mathlib.Core.List.{IsPrefix}
use Rattle.ty_base.specs.Drops.{is_silent, is_slow}
use Rattle.ty_base.specs.declared.entry.Entry.{Entry}
use Rattle.ty_base.specs.declared.text.NoMemory.{NoMemory as Want}
use Rattle.ty_wire.specs.Wire.{frames}
use Rattle.ty_account.specs.Known.{Known, KnowsMore}
use Rattle.ty_account.proofs.Prefixes.{prefix_self, prefix_trans, prefix_shorter, prefix_whole}
use Rattle.ty_crumb.specs.Crumbs.{CrumbStands}
use Rattle.ty_crumb.specs.declared.crumb.Crumb.{Crumb}
use Rattle.ty_chain.specs.Shown.{Shown}
use Rattle.ty_chain.specs.Following.{Moves, StepDone}
use Rattle.ty_chain.specs.declared.follower.Step.TheVariants.{Pending, Ended}
use Rattle.ty_marks.specs.Marks.{group, bytes_of}
use Rattle.ty_marks.proofs.Marks.{messages_of-more}
use Rattle.ty_session.specs.Times.{closes_group}
use Rattle.ty_session.specs.Story.{Story, greeted_by, idled, is_holding, closed, with_entry, offered_at, held_deltas, left_by}
use Rattle.ty_session.specs.Held.{SessionHeld, SessionStands}
use Rattle.ty_session.specs.Outcomes.{Carries, CarriesIn, TakesNext, IsSpent, IfLeft, OnShort, tick_reason, reason_in, offer_reason}
use Rattle.ty_session.specs.declared.phase.Phase.{Phase}
use Rattle.ty_session.specs.declared.phase.Phase.TheVariants.{Joined}
use Rattle.ty_session.specs.declared.stance.Stance.{Stance}
use Rattle.ty_session.specs.declared.reason.Reason.{Reason}
use Rattle.ty_session.specs.declared.reason.Reason.TheVariants.{NoHello, BadHello, BadBytes, BadOrder, NoPong, TooSlow, PeerClosed, LinkFault, Finished}
use Rattle.ty_session.specs.declared.reason.Gone.{Gone}
use Rattle.ty_session.specs.declared.reason.Gone.TheVariants.{Left, NoMemory}
use Rattle.ty_server.specs.Causes.{IsCause}
use Rattle.ty_server.specs.Exchanges.{LinkSeen, Exchanged}
use Rattle.ty_server.specs.Stories.{said_so_far, Extends, GoesOn, IsAllSaid}
use Rattle.ty_server.specs.Turning.{HasFinished, StandsAt, Answered, Turns, IfIdle}
use Rattle.ty_server.specs.declared.answers.Turn.{Turn}
use Rattle.ty_server.specs.declared.answers.Turn.TheVariants.{Sent, Idle, Over}
use Rattle.ty_server.specs.steps.Parts.{PartStory, SomePart, SomePartIn, WorksIn, StaysAsIs, InTime, HasJoined, IsPhaseAfter, HasSaidAll, KeepsTalk}
use Rattle.ty_server.specs.steps.Steps.{StandsBesideFollower, Steps, StepTurned, StepAnswered, OnIdle, IsAnswer}
use Rattle.ty_server.proofs.Following.{follows_self, follows_then, said_more, left_follows, left_over, short_runs}
use Rattle.ty_server.proofs.Hellos.{joined_goes, in_joined}
use Rattle.ty_server.proofs.Parts.{cause_then}
use Rattle.ty_server.proofs.Saying.{from_if, no_if}
use Rattle.ty_server.proofs.Taking.{exchanged_then, exchanged_still}

-- ---- the held group is closed

closed_by : (b : Bool) (now : ℕ) (v w : SessionHeld) (s : Story) → s.stance.reason ≡ None → SessionStands v s → SessionStands w (cond b (closed s) s) → StaysAsIs now [] [] w s (cond b (closed s) s)
closed_by true now v w s r old st = record {
  follows = record {
    more_said = said_more s.entries s.marks (group (length s.entries) ∷ []) s.removed old.queued.within ∙ sym (append-nil (said_so_far s));
    are_marks = st.marks;
    opened = refl;
    joined = refl;
    last_heard = inl refl;
  };
  entries = refl;
  stands = st;
  bytes = sym (append-nil s.bytes);
  later_phase = inl refl;
  no_reason = r;
}
closed_by false now v w s r old st = record {
  follows = follows_self now s st.marks;
  entries = refl;
  stands = st;
  bytes = sym (append-nil s.bytes);
  later_phase = inl refl;
  no_reason = r;
}

pub idles : {A : Type 0} (now : ℕ) (v w : SessionHeld) (x : A) → CarriesIn Joined v w idled → WorksIn {A = A} HasJoined now [] v w (Ok x)
idles now v w x h a b s st joined = (idled s, closed_by (is_holding s) now v w s (joined_goes v s st joined) st (h s st joined))

-- ---- all is said

pub all_said : (w : SessionHeld) (t : Story) → HasSaidAll w → SessionStands w t → t.stance.phase ≡ Joined → IsAllSaid t
all_said w t h st joined =
    let all : List ℕ = bytes_of t.entries t.marks in
    let none : drop t.removed all ≡ [] = sym st.queued.rest ∙ h.0 in
    record {
      whole = sym (append-nil (said_so_far t)) ∙ ap (λ (l : List ℕ). said_so_far t ++ l) (sym none) ∙ take-append-drop t.removed all;
      some = (in_joined w t st joined).2;
      last = sym st.ended ∙ h.1 ∙ st.number;
    }

pub keeps_all : (v w : SessionHeld) (s : Story) → SessionStands v s → KeepsTalk v w → HasSaidAll v → HasSaidAll w
keeps_all v w s st k h = let more = k s st in (more.0 ∙ h.0, more.1 ∙ h.1 ∙ sym more.2)

-- ---- causes without a step

module _ (now : ℕ) (s : Story) (heard : List ℕ) (a b : LinkSeen) (offered : ℕ → Type 0) (finished : Type 0) where
  pub cause_more : (r : Reason) → IsCause now s heard a b (λ _. ⊥) ⊥ r → IsCause now s heard a b offered finished r
  cause_more (NoHello opened at) h = h
  cause_more (BadHello version) h = h
  cause_more (BadBytes fault) h = h
  cause_more (BadOrder frame) h = h
  cause_more (NoPong last at) h = h
  cause_more (TooSlow made at) h = absurd h.1
  cause_more PeerClosed h = h
  cause_more LinkFault h = h
  cause_more Finished h = absurd h

-- ---- a step that ends in a part

module _ (now : ℕ) (sent heard : List ℕ) (a b : LinkSeen) (f g : Shown) (v w : SessionHeld) (s : Story) where
  step_left : (e : Gone) → IsPrefix s.entries g.known.entries → PartStory {A = Unit {0}} now sent heard a b w s (Err e) → StepTurned now sent heard a b f g v w (Err e) s
  step_left (Left reason) begins (t, p) = record {
    story = t;
    follows = p.follows;
    queued = p.over.stands.queued;
    begins = subst (λ (l : List Entry). IsPrefix l g.known.entries) (sym p.entries) begins;
    answered = (p.over, cause_more now s heard a b (λ made. made ≡ g.crumb.at) (HasFinished f g t) reason p.cause);
  }
  step_left NoMemory begins (t, p) = record {
    story = t;
    follows = p.follows;
    queued = p.queued;
    begins = subst (λ (l : List Entry). IsPrefix l g.known.entries) (sym p.entries) begins;
    answered = p.spent;
  }

known_more : (f g : Known) (s : Story) → KnowsMore f g → IsPrefix s.entries f.entries → IsPrefix s.entries g.entries
known_more f g s more p = prefix_trans s.entries f.entries g.entries p more.begins

pub steps_left : (now : ℕ) (a b : LinkSeen) (f g : Shown) (v w : SessionHeld) (e : Gone) → KnowsMore f.known g.known → SomePartIn {A = Unit {0}} HasJoined now a b v w (Err e) → Steps now a b f g v w (Err e)
steps_left now a b f g v w e more (sent, p) = record {
  sent = sent;
  heard = p.heard;
  exchanged = p.exchanged;
  knows_more = more;
  turned = λ s st r. step_left now sent p.heard a b f g v w s e (known_more f.known g.known s more r.begins) (p.story s st r.has_joined);
}

-- ---- no later breadcrumb

phase_joined : (p q : Phase) → p ≡ Joined → IsPhaseAfter p q → q ≡ Joined
phase_joined p q e (inl f) = f ∙ e
phase_joined p q e (inr f) = f ∙ ap greeted_by e

self_silent : (now last heard : ℕ) → (last ≡ heard) ⊎ (last ≡ now) → is_silent heard now ≡ false → is_silent last now ≡ false
self_silent now last heard (inl e) h = ap (λ (l : ℕ). is_silent l now) e ∙ h
self_silent now last heard (inr e) h = ap (λ (l : ℕ). is_silent l now) e ∙ never now where
  never : (n : ℕ) → is_silent n n ≡ false
  never n = le-ltb _ _ (omega arith)

pub steps_idle : (now : ℕ) (a b : LinkSeen) (f g : Shown) (v w : SessionHeld) → StepDone f g Pending → SomePartIn {A = Unit {0}} HasJoined now a b v w (Ok tt) → ((s : Story) → SessionStands v s → HasJoined s → HasSaidAll w) → Steps now a b f g v w (Ok Idle)
steps_idle now a b f g v w step (sent, p) said_all = record {
  sent = sent;
  heard = p.heard;
  exchanged = p.exchanged;
  knows_more = step.0.0;
  turned = λ s st r.
      let one = p.story s st r.has_joined in
      let t : Story = one.0 in
      let q = one.1 in
      let joined : t.stance.phase ≡ Joined = phase_joined s.stance.phase t.stance.phase r.has_joined q.later_phase in
      record {
        story = t;
        follows = q.follows;
        queued = q.stands.queued;
        begins = subst (λ (l : List Entry). IsPrefix l g.known.entries) (sym q.entries) (known_more f.known g.known s step.0.0 r.begins);
        answered = record {
          goes_on = record { stands = q.stands; follows = q.follows; in_phase = joined; bytes = q.bytes };
          at_crumb = (ap (λ (x : Stance). x.phase) q.stands.stance ∙ joined, q.stands.number ∙ ap length q.entries ∙ sym r.number ∙ sym (ap (λ (x : Crumb). x.number) step.0.1));
          step = step;
          entries = q.entries;
          all_said = all_said w t (said_all s st r.has_joined) q.stands joined;
          heard_in_time = self_silent now t.stance.heard s.stance.heard q.follows.last_heard r.heard_in_time;
        };
      };
}

-- ---- no later breadcrumb any more

pub steps_finished : (now : ℕ) (a b : LinkSeen) (f g : Shown) (v u w : SessionHeld) (e : Gone) → StepDone f g Ended → SomePartIn {A = Unit {0}} HasJoined now a b v u (Ok tt) → HasSaidAll u → e ≡ Left Finished → Carries u w (left_by Finished) → Steps now a b f g v w (Err e)
steps_finished now a b f g v u w e step (sent, p) all is carries = subst (λ (x : Gone). Steps now a b f g v w (Err x)) (sym is) (record {
  sent = sent;
  heard = p.heard;
  exchanged = p.exchanged;
  knows_more = step.0.0;
  turned = λ s st r.
      let one = p.story s st r.has_joined in
      let t : Story = one.0 in
      let q = one.1 in
      let over : SessionStands w (left_by Finished t) = carries t q.stands in
      let begins : IsPrefix t.entries g.known.entries = subst (λ (l : List Entry). IsPrefix l g.known.entries) (sym q.entries) (known_more f.known g.known s step.0.0 r.begins) in
      let long : length g.known.entries ≤ length t.entries = omega (arith, step.1, ap (λ (x : Crumb). x.number) step.0.1, r.number, ap length q.entries) in
      let said_all : IsAllSaid t = all_said u t all q.stands (phase_joined s.stance.phase t.stance.phase r.has_joined q.later_phase) in
      record {
        story = left_by Finished t;
        follows = record { more_said = q.follows.more_said; are_marks = q.follows.are_marks; opened = q.follows.opened; joined = q.follows.joined; last_heard = q.follows.last_heard };
        queued = over.queued;
        begins = begins;
        answered = (
          left_over Finished w t over,
          record {
            step = step;
            entries = prefix_whole t.entries g.known.entries begins long;
            all_said = record { some = said_all.some; whole = said_all.whole; last = said_all.last };
          },
        );
      };
})

-- ---- the next breadcrumb

offered_by : (b : Bool) (now : ℕ) (v w : SessionHeld) (s : Story) (e : Entry) → SessionStands v s
    → SessionStands w (cond b (closed (with_entry e s)) (with_entry e s)) → Extends now [] s (cond b (closed (with_entry e s)) (with_entry e s))
offered_by true now v w s e old st =
    let es : List Entry = s.entries ++ e ∷ [] in
    let same : bytes_of es s.marks ≡ bytes_of s.entries s.marks = ap frames (messages_of-more s.entries (e ∷ []) s.marks old.marks) in
    record {
      more_said = said_more es s.marks (group (length es) ∷ []) s.removed (omega (arith, old.queued.within, ap length same)) ∙ ap (take s.removed) same ∙ sym (append-nil (said_so_far s));
      are_marks = st.marks;
      opened = refl;
      joined = refl;
      last_heard = inl refl;
    }
offered_by false now v w s e old st =
    let es : List Entry = s.entries ++ e ∷ [] in
    let same : bytes_of es s.marks ≡ bytes_of s.entries s.marks = ap frames (messages_of-more s.entries (e ∷ []) s.marks old.marks) in
    record {
      more_said = ap (take s.removed) same ∙ sym (append-nil (said_so_far s));
      are_marks = st.marks;
      opened = refl;
      joined = refl;
      last_heard = inl refl;
    }

record SameAs (s t : Story) (e : Entry) : Type 0 where
  entries : t.entries ≡ s.entries ++ e ∷ []
  bytes : t.bytes ≡ s.bytes
  stance : t.stance ≡ s.stance

offered_same : (b : Bool) (s : Story) (e : Entry) → SameAs s (cond b (closed (with_entry e s)) (with_entry e s)) e
offered_same true s e = record { entries = refl; bytes = refl; stance = refl }
offered_same false s e = record { entries = refl; bytes = refl; stance = refl }

-- of one list, what the follower stood at is what the session was given
same_entries : (f g : Shown) (s : Story) (m : Moves f g) → IsPrefix s.entries f.known.entries → f.crumb.number ≡ length s.entries → m.entries ≡ s.entries
same_entries f g s m begins number =
    let one : IsPrefix s.entries g.known.entries = known_more f.known g.known s m.more begins in
    let two : IsPrefix m.entries g.known.entries = prefix_trans m.entries (m.entries ++ m.entry ∷ []) g.known.entries (m.entry ∷ [], refl) m.begins in
    let long : length s.entries ≡ length m.entries = omega (arith, number, m.before.number) in
    prefix_whole m.entries s.entries (prefix_shorter m.entries s.entries g.known.entries two one (omega (arith, long))) (omega (arith, long))

pub steps_sent : (now : ℕ) (a : LinkSeen) (f g : Shown) (v w : SessionHeld) → Moves f g → TakesNext v w g.crumb now → offer_reason g.crumb.at now v.stance ≡ None → Steps now a a f g v w (Ok Sent)
steps_sent now a f g v w m takes in_time = record {
  sent = [];
  heard = [];
  exchanged = exchanged_still a;
  knows_more = m.more;
  turned = λ s st r.
      let same = same_entries f g s m r.begins r.number in
      let e : Entry = m.entry in
      let crumb : CrumbStands g.crumb (s.entries ++ e ∷ []) = subst (λ (l : List Entry). CrumbStands g.crumb (l ++ e ∷ [])) same m.now in
      let stands = takes s e st r.has_joined crumb in
      let b : Bool = closes_group g.crumb.at now (length (held_deltas (with_entry e s))) in
      let t : Story = offered_at g.crumb.at now e s in
      let like : SameAs s t e = offered_same b s e in
      let follows : Extends now [] s t = offered_by b now v w s e st stands in
      let joined : t.stance.phase ≡ Joined = ap (λ (x : Stance). x.phase) like.stance ∙ r.has_joined in
      let slow : is_slow g.crumb.at s.stance.joined now ≡ false =
      no_if (is_slow g.crumb.at s.stance.joined now) (TooSlow g.crumb.at now) (ap (offer_reason g.crumb.at now) (sym st.stance) ∙ in_time) in
      record {
        story = t;
        follows = follows;
        queued = stands.queued;
        begins = subst (λ (l : List Entry). IsPrefix l g.known.entries) (ap (λ (l : List Entry). l ++ e ∷ []) same ∙ sym like.entries) m.begins;
        answered = record {
          goes_on = record { stands = stands; follows = follows; in_phase = joined; bytes = like.bytes ∙ sym (append-nil s.bytes) };
          at_crumb = (ap (λ (x : Stance). x.phase) stands.stance ∙ joined, stands.number ∙ ap length like.entries ∙ sym crumb.number);
          step = m;
          entry = e;
          entries = like.entries;
          heard_in_time = ap (λ (x : Stance). is_silent x.heard now) like.stance ∙ r.heard_in_time;
          not_slow = ap (λ (x : Stance). is_slow g.crumb.at x.joined now) like.stance ∙ slow;
        };
      };
}

pub steps_unsent : (now : ℕ) (a : LinkSeen) (f g : Shown) (v w : SessionHeld) (e : Gone) → Moves f g
    → IfLeft {A = Unit {0}} (Err e) (λ r. offer_reason g.crumb.at now v.stance ≡ Some r) → IfLeft {A = Unit {0}} (Err e) (λ r. Carries v w (left_by r))
    → OnShort {A = Unit {0}} (Err e) (IsSpent v w) → Steps now a a f g v w (Err e)
steps_unsent now a f g v w (Left reason) m left leaves short = record {
  sent = [];
  heard = [];
  exchanged = exchanged_still a;
  knows_more = m.more;
  turned = λ s st r.
      let over : SessionStands w (left_by reason s) = leaves s st in
      let yes = from_if (is_slow g.crumb.at s.stance.joined now) (TooSlow g.crumb.at now) reason (ap (offer_reason g.crumb.at now) (sym st.stance) ∙ left) in
      record {
        story = left_by reason s;
        follows = left_follows now reason w s over;
        queued = over.queued;
        begins = known_more f.known g.known s m.more r.begins;
        answered = (left_over reason w s over, subst (IsCause now s [] a a (λ made. made ≡ g.crumb.at) (HasFinished f g (left_by reason s))) yes.1 (refl, refl, yes.0));
      };
}
steps_unsent now a f g v w NoMemory m left leaves short = record {
  sent = [];
  heard = [];
  exchanged = exchanged_still a;
  knows_more = m.more;
  turned = λ s st r.
      let run = short_runs now v w s short st in
      record {
        story = s;
        follows = run.follows;
        queued = run.queued;
        begins = known_more f.known g.known s m.more r.begins;
        answered = run.spent;
      };
}

-- ---- the whole turn

module _ (now : ℕ) (sent next heard more : List ℕ) (a b c : LinkSeen) (f g : Shown) (v u w : SessionHeld) (s one two : Story) where
  goes_then : StaysAsIs now sent heard u s one → GoesOn now next more Joined w one two → GoesOn now (sent ++ next) (heard ++ more) Joined w s two
  goes_then p q = record {
    stands = q.stands;
    follows = follows_then now sent next s one two p.follows q.follows;
    in_phase = q.in_phase;
    bytes = q.bytes ∙ ap (λ (l : List ℕ). l ++ more) p.bytes ∙ append_assoc s.bytes heard more;
  }

  answers_then : Exchanged sent heard a b → StaysAsIs now sent heard u s one → (r : Result Turn Gone) → StepAnswered now next more b c f g u w one two r
      → (x : Result Turn Want) → IsAnswer r x → Answered now (sent ++ next) (heard ++ more) a c f g v w s two x
  answers_then ex p (Ok Sent) q x is = subst (Answered now (sent ++ next) (heard ++ more) a c f g v w s two) (sym is) (record {
    goes_on = goes_then p q.goes_on;
    at_crumb = q.at_crumb;
    step = q.step;
    entry = q.entry;
    entries = q.entries ∙ ap (λ (l : List Entry). l ++ q.entry ∷ []) p.entries;
    heard_in_time = q.heard_in_time;
    not_slow = q.not_slow;
  })
  answers_then ex p (Ok Idle) q x is = subst (Answered now (sent ++ next) (heard ++ more) a c f g v w s two) (sym is) (record {
    goes_on = goes_then p q.goes_on;
    at_crumb = q.at_crumb;
    step = q.step;
    entries = q.entries ∙ p.entries;
    all_said = q.all_said;
    heard_in_time = q.heard_in_time;
  })
  answers_then ex p (Ok (Over reason)) q x is = absurd q
  answers_then ex p (Err (Left reason)) q x is = subst (Answered now (sent ++ next) (heard ++ more) a c f g v w s two) (sym is)
      (q.0, cause_then now sent heard more a b c s one (λ made. made ≡ g.crumb.at) (HasFinished f g two) ex p.follows p.bytes reason q.1)
  answers_then ex p (Err NoMemory) q (Ok turn) is = absurd is
  answers_then ex p (Err NoMemory) q (Err e) is = q

joined_in_time : (now : ℕ) (w : SessionHeld) (t : Story) → SessionStands w t → t.stance.phase ≡ Joined → tick_reason now w.stance ≡ None → is_silent t.stance.heard now ≡ false
joined_in_time now w t st e h =
    no_if (is_silent t.stance.heard now) (NoPong t.stance.heard now) (ap (λ (p : Phase). reason_in p now t.stance) (sym e) ∙ ap (tick_reason now) (sym st.stance) ∙ h)

pub turns_on : (gives : ℕ → Type 0) (now : ℕ) (a b c : LinkSeen) (f g : Shown) (v u w : SessionHeld) (r : Result Turn Gone) (x : Result Turn Want) → gives now → StandsAt v f
    → SomePart {A = Unit {0}} now a b v u (Ok tt) → InTime now v u → Steps now b c f g u w r → IsAnswer r x → Turns gives a c f g v w x
turns_on gives now a b c f g v u w r x moment at (sent, p) time q is = record {
  now = now;
  moment = moment;
  sent = sent ++ q.sent;
  heard = p.heard ++ q.heard;
  exchanged = exchanged_then sent q.sent p.heard q.heard a b c p.exchanged q.exchanged;
  knows_more = q.knows_more;
  turned = λ s st begins.
      let phase : s.stance.phase ≡ Joined = ap (λ (y : Stance). y.phase) (sym st.stance) ∙ at.0 in
      let none = joined_goes v s st phase in
      let one = p.story s st none in
      let t : Story = one.0 in
      let joined : t.stance.phase ≡ Joined = phase_joined s.stance.phase t.stance.phase phase one.1.later_phase in
      let reached : StandsBesideFollower now f t = record {
        has_joined = joined;
        begins = subst (λ (l : List Entry). IsPrefix l f.known.entries) (sym one.1.entries) begins;
        number = sym at.1 ∙ st.number ∙ sym (ap length one.1.entries);
        heard_in_time = joined_in_time now u t one.1.stands joined (time s st none);
      } in
      let two = q.turned t one.1.stands reached in
      record {
        story = two.story;
        follows = follows_then now sent q.sent s t two.story one.1.follows two.follows;
        queued = two.queued;
        begins = two.begins;
        answered = answers_then now sent q.sent p.heard q.heard a b c f g v u w s t two.story p.exchanged one.1 r two.answered x is;
      };
}

know_self : (k : Known) → KnowsMore k k
know_self k = record { account = refl; begins = prefix_self k.entries; ends = λ e. (refl, e) }

module _ (gives : ℕ → Type 0) (now : ℕ) (a b : LinkSeen) (f : Shown) (v w : SessionHeld) where
  turns_over : (reason : Reason) → gives now → StandsAt v f → SomePart {A = Unit {0}} now a b v w (Err (Left reason)) → Turns gives a b f f v w (Ok (Over reason))
  turns_over reason moment at (sent, p) = record {
    now = now;
    moment = moment;
    sent = sent;
    heard = p.heard;
    exchanged = p.exchanged;
    knows_more = know_self f.known;
    turned = λ s st begins.
        let one = p.story s st (joined_goes v s st (ap (λ (y : Stance). y.phase) (sym st.stance) ∙ at.0)) in
        record {
          story = one.0;
          follows = one.1.follows;
          queued = one.1.over.stands.queued;
          begins = subst (λ (l : List Entry). IsPrefix l f.known.entries) (sym one.1.entries) begins;
          answered = (one.1.over, cause_more now s p.heard a b (λ made. made ≡ f.crumb.at) (HasFinished f f one.0) reason one.1.cause);
        };
  }

  turns_short : (e : Want) → gives now → StandsAt v f → SomePart {A = Unit {0}} now a b v w (Err NoMemory) → Turns gives a b f f v w (Err e)
  turns_short e moment at (sent, p) = record {
    now = now;
    moment = moment;
    sent = sent;
    heard = p.heard;
    exchanged = p.exchanged;
    knows_more = know_self f.known;
    turned = λ s st begins.
        let one = p.story s st (joined_goes v s st (ap (λ (y : Stance). y.phase) (sym st.stance) ∙ at.0)) in
        record {
          story = one.0;
          follows = one.1.follows;
          queued = one.1.queued;
          begins = subst (λ (l : List Entry). IsPrefix l f.known.entries) (sym one.1.entries) begins;
          answered = one.1.spent;
        };
  }

  pub turns_ended : (e : Gone) (x : Result Turn Want) → IsAnswer (Err e) x → gives now → StandsAt v f → SomePart {A = Unit {0}} now a b v w (Err e) → Turns gives a b f f v w x
  turns_ended (Left reason) x is moment at p = subst (Turns gives a b f f v w) (sym is) (turns_over reason moment at p)
  turns_ended NoMemory (Ok turn) is moment at p = absurd is
  turns_ended NoMemory (Err e) is moment at p = turns_short e moment at p

-- ---- less is left

pub idle_less : (r : Result Turn Gone) (x : Result Turn Want) (P Q : Type 0) → (P → Q) → IsAnswer r x → OnIdle r P → IfIdle x Q
idle_less (Ok Sent) x P Q f is h = subst (λ (y : Result Turn Want). IfIdle y Q) (sym is) tt
idle_less (Ok Idle) x P Q f is h = subst (λ (y : Result Turn Want). IfIdle y Q) (sym is) (f h)
idle_less (Ok (Over reason)) x P Q f is h = subst (λ (y : Result Turn Want). IfIdle y Q) (sym is) tt
idle_less (Err (Left reason)) x P Q f is h = subst (λ (y : Result Turn Want). IfIdle y Q) (sym is) tt
idle_less (Err NoMemory) (Ok turn) P Q f is h = absurd is
idle_less (Err NoMemory) (Err e) P Q f is h = tt

pub ended_less : (e : Gone) (x : Result Turn Want) (Q : Type 0) → IsAnswer (Err e) x → IfIdle x Q
ended_less (Left reason) x Q is = subst (λ (y : Result Turn Want). IfIdle y Q) (sym is) tt
ended_less NoMemory (Ok turn) Q is = absurd is
ended_less NoMemory (Err e) Q is = tt
