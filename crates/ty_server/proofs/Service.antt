-- A client that is served, turn by turn.
use Rattle.std.proofs.Common.{◌≡◌, ℕ, ◌+◌, ◌-◌, ◌<◌, ◌≤◌, ◌⊎◌, inl, inr, Bool, true, false, ◌&&◌, List, [], ◌∷◌, ◌++◌, length, take, drop, refl, sym, ap, subst, ◌∙◌, arith, append-nil, append_assoc, length-append, ltb-true, true≢false}
use Rattle.std.specs.Prelude.{Result, Ok, Err, nat_lt, IfOk}
use Rattle.std.proofs.lemmas.List.{take-append-drop}
use Rattle.std.proofs.lemmas.Grind.{common_steps}
use mathlib.Core.List.{IsPrefix}
use Rattle.ty_base.specs.Drops.{is_unhello, is_silent, is_slow}
use Rattle.ty_base.specs.declared.entry.Entry.{Entry}
use Rattle.ty_base.specs.declared.limits.TheConstants.{HELLO_TIMEOUT, PONG_TIMEOUT, GRACE, GREATEST_LAG}
use Rattle.ty_base.specs.declared.text.NoMemory.{NoMemory as Want}
use Rattle.ty_wire.specs.Wire.{frames}
use Rattle.ty_account.specs.Known.{Known, KnowsMore}
use Rattle.ty_account.proofs.Prefixes.{prefix_trans}
use Rattle.ty_crumb.specs.Crumbs.{CrumbStands}
use Rattle.ty_crumb.specs.declared.crumb.Crumb.{Crumb}
use Rattle.ty_chain.specs.Shown.{Shown, Within}
use Rattle.ty_base.specs.Links.{Sight}
use Rattle.ty_base.specs.Told.{Told}
use Rattle.ty_base.proofs.Telling.{Told-then, Told-as, Told-still}
use Rattle.ty_marks.specs.Marks.{Mark, start, group, ping, AreMarks, Follow, bytes_of, messages_of, end_after, group_numbers}
use Rattle.ty_marks.proofs.Marks.{talk, pings, messages_of-more}
use Rattle.ty_session.proofs.Marks.{marks-more, bytes-none}
use Rattle.ty_session.specs.Client.{Shows}
use Rattle.ty_session.specs.Story.{Story, begun, joined_at}
use Rattle.ty_session.specs.Held.{SessionHeld, SessionStands}
use Rattle.ty_session.specs.Outcomes.{CarriesIn}
use Rattle.ty_session.specs.declared.phase.Phase.TheVariants.{Greeted}
use Rattle.ty_session.specs.declared.stance.Stance.{Stance}
use Rattle.ty_session.specs.Outcomes.{IfLeft}
use Rattle.ty_session.specs.declared.reason.Gone.{Gone}
use Rattle.ty_session.specs.declared.reason.Gone.TheVariants.{Left, NoMemory}
use Rattle.ty_session.specs.declared.reason.Reason.{Reason}
use Rattle.ty_session.specs.declared.reason.Reason.TheVariants.{NoHello, BadHello, BadBytes, BadOrder, NoPong, TooSlow, PeerClosed, LinkFault, Finished}
use Rattle.ty_server.specs.Causes.{IsCause}
use Rattle.ty_server.specs.Exchanges.{LinkSeen, Exchanges, Exchanged, EndTaken}
use Rattle.ty_server.specs.Greeting.{Greets}
use Rattle.ty_server.specs.Served.{IsFrontOfTalk, IsWholeTalk, last_of_numbers, GivenFront, GivenWhole, BroughtFault, failed, closed, broken, finished, timed, IsServedCause, HasEnded}
use Rattle.ty_server.specs.Stories.{said_so_far, Extends, IsAllSaid}
use Rattle.ty_server.specs.Turning.{Turns, HasFinished}
use Rattle.ty_server.specs.declared.answers.Greet.TheVariants as greet
use Rattle.ty_server.specs.declared.answers.Turn.{Turn}
use Rattle.ty_server.specs.declared.answers.Turn.TheVariants as turn
use Rattle.ty_server.specs.steps.Service.{TellsAll, IsServed, IsAttended, IsGreeted, IsWaiting, IsSilent, IsReasonOf}
use Rattle.ty_server.proofs.Hellos.{in_greeted}
use Rattle.ty_server.proofs.Taking.{rose_later}

-- ---- talks

-- a story's bytes over all that is known
same_bytes : (t : Story) (known : List Entry) → AreMarks t.marks (length t.entries) → IsPrefix t.entries known → bytes_of known t.marks ≡ bytes_of t.entries t.marks
same_bytes t known m p = ap (λ (es : List Entry). bytes_of es t.marks) (sym p.1) ∙ ap frames (messages_of-more t.entries p.0 t.marks m)

longer : (t : Story) (known : List Entry) → AreMarks t.marks (length t.entries) → IsPrefix t.entries known → AreMarks t.marks (length known)
longer t known m p = marks-more t.marks (length t.entries) (length known) m (omega (arith, ap length p.1, length-append t.entries p.0))

pub nothing_said : (known : List Entry) → IsFrontOfTalk known []
nothing_said known = record {
  first = 0;
  numbers = [];
  messages = messages_of known (start 0 ∷ []);
  talk = talk known 0 [] (omega arith);
  pings = pings known 0 [] (omega arith);
  begins = (bytes_of known (start 0 ∷ []), refl);
}

abbrev empty : List ℕ
empty = []

take_nil : (n : ℕ) → take n (empty) ≡ empty
take_nil n = grind (arith, common_steps)

take_zero : (xs : List ℕ) → take 0 xs ≡ []
take_zero xs = grind (arith, common_steps)

front_by : (marks : List Mark) (known : List Entry) (n : ℕ) → AreMarks marks (length known) → IsFrontOfTalk known (take n (bytes_of known marks))
front_by [] known n m = subst (IsFrontOfTalk known) (sym (ap (take n) (bytes-none known) ∙ take_nil n)) (nothing_said known)
front_by (start e0 ∷ marks) known n m = record {
  first = e0;
  numbers = group_numbers marks;
  messages = messages_of known (start e0 ∷ marks);
  talk = talk known e0 marks m;
  pings = pings known e0 marks m;
  begins = (drop n (bytes_of known (start e0 ∷ marks)), take-append-drop n (bytes_of known (start e0 ∷ marks)));
}
front_by (group e0 ∷ marks) known n m = absurd m
front_by (ping ts ∷ marks) known n m = absurd m

pub front_of_talk : (t : Story) (known : List Entry) → AreMarks t.marks (length t.entries) → IsPrefix t.entries known → IsFrontOfTalk known (said_so_far t)
front_of_talk t known m p = subst (IsFrontOfTalk known) (ap (take t.removed) (same_bytes t known m p)) (front_by t.marks known t.removed (longer t known m p))

last_end : (from : ℕ) (marks : List Mark) (most : ℕ) → Follow from marks most → last_of_numbers from (group_numbers marks) ≡ end_after from marks
last_end from [] most f = refl
last_end from (start n ∷ marks) most f = absurd f
last_end from (group n ∷ marks) most f = last_end n marks most f.1
last_end from (ping ts ∷ marks) most f = last_end from marks most f.1

whole_by : (marks : List Mark) (known : List Entry) (bytes : List ℕ) → AreMarks marks (length known) → 0 < length marks → bytes ≡ bytes_of known marks → end_after 0 marks ≡ length known → IsWholeTalk known bytes
whole_by [] known bytes m some w e = absurd (omega (arith, some))
whole_by (start e0 ∷ marks) known bytes m some w e = record {
  first = e0;
  numbers = group_numbers marks;
  messages = messages_of known (start e0 ∷ marks);
  talk = talk known e0 marks m;
  pings = pings known e0 marks m;
  whole = w;
  last = last_end e0 marks (length known) m ∙ e;
}
whole_by (group e0 ∷ marks) known bytes m some w e = absurd m
whole_by (ping ts ∷ marks) known bytes m some w e = absurd m

pub whole_talk : (t : Story) (known : List Entry) → AreMarks t.marks (length t.entries) → t.entries ≡ known → IsAllSaid t → IsWholeTalk known (said_so_far t)
whole_talk t known m e all = subst (λ (es : List Entry). IsWholeTalk es (said_so_far t)) e (whole_by t.marks t.entries (said_so_far t) m all.some all.whole all.last)

-- ---- each reason is an end

far : (gap a b : ℕ) → HELLO_TIMEOUT ≤ gap → nat_lt gap (b - a) ≡ true → a + HELLO_TIMEOUT < b
far gap a b le h = omega (arith, le, ltb-true gap (b - a) h)

both_true : (a b : Bool) → (a && b) ≡ true → b ≡ true
both_true true b h = h
both_true false b h = absurd (true≢false (sym h))

-- what is told is told still
module _ (gives : ℕ → Type 0) (known : Known) (a b : LinkSeen) (P : Sight → Sight → Type 0) where
  pub ended : Told P a.sight b.sight → (r : Reason) → IsServedCause gives known a b r → HasEnded gives known a b
  ended t (NoHello opened now) h = Told-as (λ x y _. timed opened now h.0 h.1 (far HELLO_TIMEOUT opened now (omega arith) h.2)) a.sight b.sight t
  ended t (BadHello version) h = Told-as (λ x y f. broken (BadHello version) f) a.sight b.sight h
  ended t (BadBytes fault) h = Told-as (λ x y f. broken (BadBytes fault) f) a.sight b.sight h
  ended t (BadOrder frame) h = Told-as (λ x y f. broken (BadOrder frame) f) a.sight b.sight h
  ended t (NoPong last now) h = Told-as (λ x y _. timed last now h.0 h.1 (far PONG_TIMEOUT last now (omega arith) h.2)) a.sight b.sight t
  ended t (TooSlow made now) h = Told-as (λ x y _. timed h.1.0 now h.1.1 h.0
      (far GRACE h.1.0 now (omega arith) (both_true (nat_lt GREATEST_LAG (now - made)) (nat_lt GRACE (now - h.1.0)) h.1.2))) a.sight b.sight t
  ended t PeerClosed h = Told-as (λ x y e. closed e) a.sight b.sight h
  ended t LinkFault h = Told-as (λ x y _. failed h) a.sight b.sight t
  ended t Finished h = Told-as (λ x y w. finished h.0 w) a.sight b.sight h.1

-- ---- what is told over two calls

tells_then : (s t : Story) (sent heard : List ℕ) (a b c : LinkSeen) → said_so_far t ≡ said_so_far s ++ sent → t.bytes ≡ s.bytes ++ heard → Told (TellsAll s) a.sight b.sight → Exchanged sent heard b c → Told (TellsAll t) a.sight c.sight
tells_then s t sent heard a b c more bytes told ex = Told-then {P = TellsAll s} {Q = Exchanges sent heard} {R = TellsAll t} (λ x y z p q. (
  q.gave ∙ ap (λ (l : List ℕ). l ++ sent) p.0 ∙ append_assoc x.given (said_so_far s) sent ∙ ap (λ (l : List ℕ). x.given ++ l) (sym more),
  q.came ∙ ap (λ (l : List ℕ). l ++ heard) p.1 ∙ append_assoc x.brought s.bytes heard ∙ ap (λ (l : List ℕ). x.brought ++ l) (sym bytes),
)) a.sight b.sight c.sight told ex.told

given_then : (s t : Story) (sent heard : List ℕ) (known : List Entry) (a b c : LinkSeen) → said_so_far t ≡ said_so_far s ++ sent → IsFrontOfTalk known (said_so_far t) → Told (TellsAll s) a.sight b.sight → Exchanged sent heard b c → Told (GivenFront known) a.sight c.sight
given_then s t sent heard known a b c more front told ex = Told-then {P = TellsAll s} {Q = Exchanges sent heard} {R = GivenFront known} (λ x y z p q. (
  said_so_far t,
  q.gave ∙ ap (λ (l : List ℕ). l ++ sent) p.0 ∙ append_assoc x.given (said_so_far s) sent ∙ ap (λ (l : List ℕ). x.given ++ l) (sym more),
  front,
)) a.sight b.sight c.sight told ex.told

whole_then : (s t : Story) (sent heard : List ℕ) (known : List Entry) (a b c : LinkSeen) → said_so_far t ≡ said_so_far s ++ sent → IsWholeTalk known (said_so_far t) → Told (TellsAll s) a.sight b.sight → Exchanged sent heard b c → Told (GivenWhole known) a.sight c.sight
whole_then s t sent heard known a b c more whole told ex = Told-then {P = TellsAll s} {Q = Exchanges sent heard} {R = GivenWhole known} (λ x y z p q. (
  said_so_far t,
  q.gave ∙ ap (λ (l : List ℕ). l ++ sent) p.0 ∙ append_assoc x.given (said_so_far s) sent ∙ ap (λ (l : List ℕ). x.given ++ l) (sym more),
  whole,
)) a.sight b.sight c.sight told ex.told

shows_then : (s : Story) (sent heard : List ℕ) (r : Reason) (a b c : LinkSeen) → Shows (s.bytes ++ heard) r → Told (TellsAll s) a.sight b.sight → Exchanged sent heard b c → Told (BroughtFault r) a.sight c.sight
shows_then s sent heard r a b c shows told ex = Told-then {P = TellsAll s} {Q = Exchanges sent heard} {R = BroughtFault r} (λ x y z p q. (
  s.bytes ++ heard,
  q.came ∙ ap (λ (l : List ℕ). l ++ heard) p.1 ∙ append_assoc x.brought s.bytes heard,
  shows,
)) a.sight b.sight c.sight told ex.told

shut_then : (s : Story) (a b c : LinkSeen) → Told (TellsAll s) a.sight b.sight → EndTaken b c → EndTaken a c
shut_then s a b c told shut = Told-then {P = TellsAll s} {Q = λ _ y. y.ended ≡ true} {R = λ _ y. y.ended ≡ true} (λ x y z _ k. k) a.sight b.sight c.sight told shut

-- ---- causes since the beginning

either_moment : (gives : ℕ → Type 0) (last now heard : ℕ) → gives heard → gives now → (last ≡ heard) ⊎ (last ≡ now) → gives last
either_moment gives last now heard h n (inl e) = subst gives (sym e) h
either_moment gives last now heard h n (inr e) = subst gives (sym e) n

module _ (gives : ℕ → Type 0) (now : ℕ) (known : Known) (sent heard : List ℕ) (a b c : LinkSeen) (v : SessionHeld) (s : Story) where
  cause_since : IsServed gives a b v s → gives now → Exchanged sent heard b c → (offered : ℕ → Type 0) (all : Type 0) → ((made : ℕ) → offered made → gives s.stance.joined) → (all → IsServedCause gives known a c Finished)
      → (r : Reason) → IsCause now s heard b c offered all r → IsServedCause gives known a c r
  cause_since i moment ex offered all j f (NoHello opened at) h = (subst gives (sym h.1) i.opened, subst gives (sym h.0) moment, ap (is_unhello opened) h.0 ∙ h.2)
  cause_since i moment ex offered all j f (BadHello version) h = shows_then s sent heard (BadHello version) a b c h i.told ex
  cause_since i moment ex offered all j f (BadBytes fault) h = shows_then s sent heard (BadBytes fault) a b c h i.told ex
  cause_since i moment ex offered all j f (BadOrder frame) h = shows_then s sent heard (BadOrder frame) a b c h i.told ex
  cause_since i moment ex offered all j f (NoPong last at) h = (either_moment gives last now s.stance.heard i.heard moment h.1, subst gives (sym h.0) moment, ap (is_silent last) h.0 ∙ h.2)
  cause_since i moment ex offered all j f (TooSlow made at) h = (subst gives (sym h.0) moment, (s.stance.joined, j made h.1, ap (is_slow made s.stance.joined) h.0 ∙ h.2))
  cause_since i moment ex offered all j f PeerClosed h = shut_then s a b c i.told h
  cause_since i moment ex offered all j f LinkFault h = rose_later a.faults b.faults c.faults i.later h
  cause_since i moment ex offered all j f Finished h = f h

goes_on : (gives : ℕ → Type 0) (now : ℕ) (sent heard : List ℕ) (a b c : LinkSeen) (v w : SessionHeld) (s t : Story) → gives now → IsServed gives a b v s → Exchanged sent heard b c → SessionStands w t → Extends now sent s t → t.bytes ≡ s.bytes ++ heard → IsServed gives a c w t
goes_on gives now sent heard a b c v w s t moment i ex stands f bytes = record {
  stands = stands;
  told = tells_then s t sent heard a b c f.more_said bytes i.told ex;
  later = omega (arith, i.later, ex.later);
  opened = subst gives (sym f.opened) i.opened;
  heard = either_moment gives t.stance.heard now s.stance.heard i.heard moment f.last_heard;
}

-- ---- greetings

pub begins : (gives : ℕ → Type 0) (a : LinkSeen) (v : SessionHeld) (opened : ℕ) → gives opened → SessionStands v (begun opened) → IsWaiting gives a a v
begins gives a v opened moment st = record {
  story = begun opened;
  in_phase = refl;
  served = record {
    stands = st;
    told = Told-still (TellsAll (begun opened)) (λ x. (sym (append-nil x.given), sym (append-nil x.brought))) a.sight;
    later = omega arith;
    opened = moment;
    heard = moment;
  };
}

pub still_waits : (gives : ℕ → Type 0) (a b c : LinkSeen) (v w : SessionHeld) → IsWaiting gives a b v → Greets gives b c v w (Ok greet.Waiting) → IsWaiting gives a c w
still_waits gives a b c v w i g =
    let one = g.answered i.story i.served.stands i.in_phase in
    record {
      story = one.0;
      served = goes_on gives g.now [] g.heard a b c v w i.story one.0 g.moment i.served g.exchanged one.1.stands one.1.follows one.1.bytes;
      in_phase = one.1.in_phase;
    }

pub is_greeted : (gives : ℕ → Type 0) (a b c : LinkSeen) (v w : SessionHeld) → IsWaiting gives a b v → Greets gives b c v w (Ok greet.Ready) → IsGreeted gives a c w
is_greeted gives a b c v w i g =
    let one = g.answered i.story i.served.stands i.in_phase in
    record {
      story = one.0;
      served = goes_on gives g.now [] g.heard a b c v w i.story one.0 g.moment i.served g.exchanged one.1.stands one.1.follows one.1.bytes;
      in_phase = one.1.in_phase;
    }

pub greeting_over : (gives : ℕ → Type 0) (known : Known) (a b c : LinkSeen) (v w : SessionHeld) (r : Reason) → IsWaiting gives a b v → Greets gives b c v w (Ok (greet.Over r)) → IsServedCause gives known a c r
greeting_over gives known a b c v w r i g =
    let s : Story = i.story in
    let one = g.answered s i.served.stands i.in_phase in
    cause_since gives g.now known [] g.heard a b c v s i.served g.moment g.exchanged (λ _. ⊥) ⊥ (λ _ f. absurd f) (λ f. absurd f) r one.2

-- ---- the joining

pub joins : (gives : ℕ → Type 0) (now : ℕ) (a b : LinkSeen) (f : Shown) (v w : SessionHeld) (crumb : Crumb) → gives now → IsGreeted gives a b v → Within f.crumb f.known → crumb ≡ f.crumb
    → ((entries : List Entry) → CrumbStands crumb entries → CarriesIn Greeted v w (joined_at now entries)) → IsAttended gives a b f w
joins gives now a b f v w crumb moment greeted within same carries =
    let s : Story = greeted.story in
    let i = greeted.served in
    let phase : s.stance.phase ≡ Greeted = greeted.in_phase in
    let es : List Entry = within.entries in
    let t : Story = joined_at now es s in
    let stands : SessionStands w t = carries es (subst (λ (k : Crumb). CrumbStands k es) (sym same) within.stands) s i.stands phase in
    let before = in_greeted v s i.stands phase in
    let none : said_so_far s ≡ [] = ap (take s.removed) (ap (bytes_of s.entries) before.2 ∙ bytes-none s.entries) ∙ take_nil s.removed in
    let zero : s.removed ≡ 0 = omega (arith, i.stands.queued.within, ap length (ap (bytes_of s.entries) before.2 ∙ bytes-none s.entries)) in
    let still : said_so_far t ≡ said_so_far s = ap (λ (n : ℕ). take n (bytes_of es (start (length es) ∷ []))) zero ∙ take_zero (bytes_of es (start (length es) ∷ [])) ∙ sym none in
    record {
      story = t;
      served = record {
        stands = stands;
        told = Told-as (λ x y p. (p.0 ∙ ap (λ (l : List ℕ). x.given ++ l) (sym still), p.1)) a.sight b.sight i.told;
        later = i.later;
        opened = i.opened;
        heard = i.heard;
      };
      joined = moment;
      begins = within.begins;
      at_crumb = (ap (λ (y : Stance). y.phase) stands.stance, stands.number ∙ sym within.stands.number);
    }

-- ---- turns

module _ (gives : ℕ → Type 0) (a b c : LinkSeen) (f g : Shown) (v w : SessionHeld) where
  pub next : (i : IsAttended gives a b f v) (q : Turns gives b c f g v w (Ok turn.Sent)) → IsAttended gives a c g w
  next i q =
      let s : Story = i.story in
      let one = q.turned s i.served.stands i.begins in
      let t : Story = one.story in
      let on = one.answered.goes_on in
      record {
        story = t;
        served = goes_on gives q.now q.sent q.heard a b c v w s t q.moment i.served q.exchanged on.stands one.follows on.bytes;
        joined = subst gives (sym one.follows.joined) i.joined;
        begins = one.begins;
        at_crumb = one.answered.at_crumb;
      }

  pub rests : (i : IsAttended gives a b f v) (q : Turns gives b c f g v w (Ok turn.Idle)) → IsAttended gives a c g w
  rests i q =
      let s : Story = i.story in
      let one = q.turned s i.served.stands i.begins in
      let t : Story = one.story in
      let on = one.answered.goes_on in
      record {
        story = t;
        served = goes_on gives q.now q.sent q.heard a b c v w s t q.moment i.served q.exchanged on.stands one.follows on.bytes;
        joined = subst gives (sym one.follows.joined) i.joined;
        begins = one.begins;
        at_crumb = one.answered.at_crumb;
      }

  pub turn_given : (front : Known) (x : Result Turn Want) → KnowsMore g.known front → IsAttended gives a b f v → Turns gives b c f g v w x → Told (GivenFront front.entries) a.sight c.sight
  turn_given front x more i q =
      let s : Story = i.story in
      let one = q.turned s i.served.stands i.begins in
      let t : Story = one.story in
      given_then s t q.sent q.heard front.entries a b c one.follows.more_said
      (front_of_talk t front.entries one.follows.are_marks (prefix_trans t.entries g.known.entries front.entries one.begins more.begins)) i.served.told q.exchanged

  pub turn_cause : (front : Known) (r : Reason) → KnowsMore g.known front → IsAttended gives a b f v → Turns gives b c f g v w (Ok (turn.Over r)) → IsServedCause gives front a c r
  turn_cause front r more i q =
      let s : Story = i.story in
      let one = q.turned s i.served.stands i.begins in
      let t : Story = one.story in
      cause_since gives q.now front q.sent q.heard a b c v s i.served q.moment q.exchanged (λ made. made ≡ g.crumb.at) (HasFinished f g t) (λ _ _. i.joined)
      (λ all.
      let end = more.ends all.step.2 in (
        end.1,
        whole_then s t q.sent q.heard front.entries a b c one.follows.more_said
            (whole_talk t front.entries one.follows.are_marks (all.entries ∙ sym end.0) all.all_said) i.served.told q.exchanged,
      )) r one.answered.1

-- ---- nothing was given

pub silent_then : (a b c : LinkSeen) (heard : List ℕ) → IsSilent a b → Exchanged [] heard b c → IsSilent a c
silent_then a b c heard h ex = Told-then {P = λ x y. y.given ≡ x.given} {Q = Exchanges [] heard} {R = λ x y. y.given ≡ x.given} (λ x y z p q. q.gave ∙ append-nil y.given ∙ p) a.sight b.sight c.sight h ex.told

pub silent_given : (known : List Entry) (a b : LinkSeen) → IsSilent a b → Told (GivenFront known) a.sight b.sight
silent_given known a b h = Told-as (λ x y e. ([], e ∙ sym (append-nil x.given), nothing_said known)) a.sight b.sight h

-- ---- why it is over

pub left_cause : (A : Type 0) (gives : ℕ → Type 0) (known : Known) (a b : LinkSeen) (e : Gone) (x : Result Reason Want) → IsReasonOf e x → IfLeft {A = A} (Err e) (λ r. (k : Known) → IsServedCause gives k a b r) → IfOk x (IsServedCause gives known a b)
left_cause A gives known a b (Left r) x is h = subst (λ (y : Result Reason Want). IfOk y (IsServedCause gives known a b)) (sym is) (h known)
left_cause A gives known a b NoMemory (Ok r) is h = absurd is
left_cause A gives known a b NoMemory (Err e) is h = tt

pub ended_all : (gives : ℕ → Type 0) (known : Known) (a b : LinkSeen) (x : Result Reason Want) → Told (GivenFront known.entries) a.sight b.sight → IfOk x (IsServedCause gives known a b) → IfOk x (λ _. HasEnded gives known a b)
ended_all gives known a b (Ok r) t h = ended gives known a b (GivenFront known.entries) t r h
ended_all gives known a b (Err e) t h = tt
