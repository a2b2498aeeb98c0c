-- A step of a session, and a session that ticks.
use Rattle.std.proofs.Common.{◌≡◌, ℕ, ◌+◌, ◌<◌, ◌≤◌, Bool, true, false, List, [], ◌∷◌, ◌++◌, length, take, get_or, refl, sym, ap, subst, ◌∙◌, arith, true≢false, lt-ltb, le-ltb}
use Rattle.std.specs.Prelude.{Option, None, Some, not, option_and_then, option_to_list, if◌then◌else◌}
use Rattle.std.proofs.lemmas.List.{length-take, take_more, get_or-map}
use Rattle.ty_base.specs.declared.entry.Entry.{Entry}
use Rattle.ty_base.specs.Drops.{is_unhello, is_silent, is_slow}
use Rattle.ty_crumb.specs.declared.crumb.Crumb.{Crumb}
use Rattle.ty_crumb.specs.Crumbs.{CrumbStands}
use Rattle.ty_client.specs.Rebuild.{RebuildHeld}
use Rattle.ty_session.specs.Story.{Story, ticked, idled, offered_at, left_by}
use Rattle.ty_session.specs.Held.{SessionHeld, SessionStands}
use Rattle.ty_session.specs.Outcomes.{tick_reason, offer_reason, reason_in, no_hello, no_pong}
use Rattle.ty_session.specs.declared.phase.Phase.TheVariants.{Joined, Over}
use Rattle.ty_session.specs.declared.reason.Reason.{Reason}
use Rattle.ty_session.specs.declared.reason.Reason.TheVariants.{NoHello, NoPong, TooSlow}
use Rattle.ty_session.specs.declared.stance.Stance.{Stance}
use Rattle.ty_core.specs.declared.client.Connection.{Connection}
use Rattle.ty_core.specs.declared.told.Told.{Told}
use Rattle.ty_core.specs.declared.told.Told.TheVariants.{Stepped, Pending, Waiting as ToldWaiting, TooSlow as ToldSlow, NoHello as ToldHello, NoPong as ToldPong, Absent}
use Rattle.ty_core.specs.Clients.{Trail, newest, time_of, is_behind, is_too_slow, idle_link, next_link, grouped_link, step_link, is_dropped, ping_link, tick_link}
use Rattle.ty_core.specs.Report.{told_step, told_drop, told_tick}
use Rattle.ty_core.specs.Links.{phase_of, stance_of, story_of}
use Rattle.ty_core.specs.Held.{IsLinked, LinkStands}
use Rattle.ty_core.specs.steps.Slots.{AreTrail, LinkOrOver, is_joined_phase, is_over_phase, is_over_session, reason_told}
use Rattle.ty_core.proofs.Opening.{has_heard}
use Rattle.ty_core.proofs.Relinking.{ticks, idles}
use Rattle.ty_core.proofs.Moving.{moves}

-- What a session shows of its connection

joined_phase : (b : Bool) → is_joined_phase (phase_of b) ≡ b
joined_phase true = refl
joined_phase false = refl

joined_is : (rb : RebuildHeld) (sv : SessionHeld) (es : List Entry) (k : Connection) → IsLinked rb sv es k → is_joined_phase sv.stance.phase ≡ k.has_joined
joined_is rb sv es k l = ap (λ (t : Stance). is_joined_phase t.phase) l.1.session_stands.stance ∙ joined_phase k.has_joined

number_is : (rb : RebuildHeld) (sv : SessionHeld) (es : List Entry) (k : Connection) → IsLinked rb sv es k → sv.number ≡ k.offered
number_is rb sv es k l = l.1.session_stands.number ∙ omega (arith, length-take k.offered es, l.1.connection.offered)

over_is : (rb : RebuildHeld) (sv sv' : SessionHeld) (es : List Entry) (k : Connection) (r : Reason) → IsLinked rb sv es k → ((s : Story) → SessionStands sv s → SessionStands sv' (left_by r s)) → sv'.stance.phase ≡ Over
over_is rb sv sv' es k r l leaves = ap (λ (t : Stance). t.phase) (leaves (story_of es l.1.looked k) l.1.session_stands).stance

-- One step

module _ (t : Trail) (now c : ℕ) (rb : RebuildHeld) (k : Connection) where
  abbrev stepped : Option Connection
  stepped = step_link t now k

  pub steps_waiting : (sv : SessionHeld) → IsLinked rb sv t.entries k → is_joined_phase sv.stance.phase ≡ false → LinkOrOver rb (Some sv) t.entries stepped
  steps_waiting sv l w =
      let j : k.has_joined ≡ false = sym (joined_is rb sv t.entries k l) ∙ w in
      let is : stepped ≡ Some k = ap (λ b. if not b then Some k else (if not (is_behind t k) then Some (idle_link k) else (if is_too_slow t now k then None else Some (grouped_link t now (next_link k))))) j in
      subst (LinkOrOver rb (Some sv) t.entries) (sym is) l

  pub told_waiting : (sv : SessionHeld) → IsLinked rb sv t.entries k → is_joined_phase sv.stance.phase ≡ false → ToldWaiting c ∷ [] ≡ told_step t now c (Some k)
  told_waiting sv l w =
      sym (ap (λ b. if not b then ToldWaiting c ∷ [] else (if not (is_behind t k) then Pending c k.offered ∷ [] else (if is_too_slow t now k then ToldSlow c (time_of t (k.offered + 1)) now ∷ [] else Stepped c (k.offered + 1) ∷ []))) (sym (joined_is rb sv t.entries k l) ∙ w))

  -- behind the joining, by the two tests
  step_by : (a b : Bool) → k.has_joined ≡ true → is_behind t k ≡ a → is_too_slow t now k ≡ b → stepped ≡ (if not a then Some (idle_link k) else (if b then None else Some (grouped_link t now (next_link k))))
  step_by a b j x y =
      ap (λ v. if not v then Some k else (if not (is_behind t k) then Some (idle_link k) else (if is_too_slow t now k then None else Some (grouped_link t now (next_link k))))) j
      ∙ ap (λ v. if not v then Some (idle_link k) else (if is_too_slow t now k then None else Some (grouped_link t now (next_link k)))) x
      ∙ ap (λ v. if not a then Some (idle_link k) else (if v then None else Some (grouped_link t now (next_link k)))) y

  told_step_by : (a b : Bool) → k.has_joined ≡ true → is_behind t k ≡ a → is_too_slow t now k ≡ b
      → told_step t now c (Some k) ≡ (if not a then Pending c k.offered ∷ [] else (if b then ToldSlow c (time_of t (k.offered + 1)) now ∷ [] else Stepped c (k.offered + 1) ∷ []))
  told_step_by a b j x y =
      ap (λ v. if not v then ToldWaiting c ∷ [] else (if not (is_behind t k) then Pending c k.offered ∷ [] else (if is_too_slow t now k then ToldSlow c (time_of t (k.offered + 1)) now ∷ [] else Stepped c (k.offered + 1) ∷ []))) j
      ∙ ap (λ v. if not v then Pending c k.offered ∷ [] else (if is_too_slow t now k then ToldSlow c (time_of t (k.offered + 1)) now ∷ [] else Stepped c (k.offered + 1) ∷ [])) x
      ∙ ap (λ v. if not a then Pending c k.offered ∷ [] else (if v then ToldSlow c (time_of t (k.offered + 1)) now ∷ [] else Stepped c (k.offered + 1) ∷ [])) y

  module _ (crumbs : List Crumb) (a : AreTrail crumbs t) (sv : SessionHeld) (l : IsLinked rb sv t.entries k) (w : is_joined_phase sv.stance.phase ≡ true) (last : ℕ) (at : last + 1 ≡ length crumbs) where
    j : k.has_joined ≡ true
    j = sym (joined_is rb sv t.entries k l) ∙ w

    at_last : (n : ℕ) → n ≡ sv.number → last ≤ n → is_behind t k ≡ false
    at_last n e h = le-ltb k.offered (newest t) (omega (arith, at, a.stand.count, h, e, number_is rb sv t.entries k l))

    pub steps_idle : (sv' : SessionHeld) (n : ℕ) → n ≡ sv.number → last ≤ n → ((s : Story) → SessionStands sv s → s.stance.phase ≡ Joined → SessionStands sv' (idled s)) → LinkOrOver rb (Some sv') t.entries stepped
    steps_idle sv' n e h idles_to = subst (LinkOrOver rb (Some sv') t.entries) (sym (step_by false (is_too_slow t now k) j (at_last n e h) refl)) (l.0, idles rb sv sv' t.entries k l.0 l.1 j idles_to)

    pub told_idle : (n : ℕ) → n ≡ sv.number → last ≤ n → Pending c n ∷ [] ≡ told_step t now c (Some k)
    told_idle n e h = ap (λ m. Pending c m ∷ []) (e ∙ number_is rb sv t.entries k l) ∙ sym (told_step_by false (is_too_slow t now k) j (at_last n e h) refl)

    module _ (n m : ℕ) (e : n ≡ sv.number) (h : n < last) (next : m ≡ n + 1) (crumb : Crumb) (here : crumb ≡ get_or crumbs m crumb) where
      offered : n ≡ k.offered
      offered = e ∙ number_is rb sv t.entries k l

      within : k.offered < length t.entries
      within = omega (arith, at, a.stand.count, h, offered)

      behind : is_behind t k ≡ true
      behind = lt-ltb k.offered (newest t) within

      place : m ≡ k.offered + 1
      place = omega (arith, next, offered)

      pub time_is : crumb.at ≡ time_of t (k.offered + 1)
      time_is =
          ap (λ (x : Crumb). x.at) here
          ∙ sym (get_or-map (λ (x : Crumb). x.at) crumbs m crumb 0 (omega (arith, at, h, next)))
          ∙ ap (λ l. get_or l m 0) (sym a.times)
          ∙ ap (λ i. get_or t.times i 0) place

      slow_is : is_slow crumb.at sv.stance.joined now ≡ is_too_slow t now k
      slow_is = ap (λ x. is_slow x sv.stance.joined now) time_is ∙ ap (λ (y : Stance). is_slow (time_of t (k.offered + 1)) y.joined now) l.1.session_stands.stance

      not_slow : (b : Bool) → (if b then Some (TooSlow crumb.at now) else None) ≡ None → b ≡ false
      not_slow false x = refl
      not_slow true x = cc

      is_slow_at : (b : Bool) (r : Reason) → (if b then Some (TooSlow crumb.at now) else None) ≡ Some r → b ≡ true
      is_slow_at true r x = refl
      is_slow_at false r x = cc

      stands : CrumbStands crumb (take k.offered t.entries ++ get_or t.entries k.offered (record { cut = 0; status = crumb.status; deltas = [] }) ∷ [])
      stands =
          let P : List Entry → Type 0 = CrumbStands crumb in
          subst P (ap (λ i. take i t.entries) place ∙ take_more t.entries k.offered (record { cut = 0; status = crumb.status; deltas = [] }) within) (a.stand.stand m crumb (omega (arith, at, h, next)) here)

      pub steps_on : (sv' : SessionHeld) → offer_reason crumb.at now sv.stance ≡ None
          → ((s : Story) (x : Entry) → SessionStands sv s → s.stance.phase ≡ Joined → CrumbStands crumb (s.entries ++ x ∷ []) → SessionStands sv' (offered_at crumb.at now x s)) → LinkOrOver rb (Some sv') t.entries stepped
      steps_on sv' ok takes =
          let slow : is_too_slow t now k ≡ false = sym slow_is ∙ not_slow (is_slow crumb.at sv.stance.joined now) ok in
          let d : Entry = record { cut = 0; status = crumb.status; deltas = [] } in
          subst (LinkOrOver rb (Some sv') t.entries) (sym (step_by true false j behind slow)) (
            l.0,
            moves rb sv sv' t now k l.0 crumb.at d l.1 within time_is
                (λ s st is.
                let P : Story → Type 0 = λ x. SessionStands sv x → SessionStands sv' (offered_at crumb.at now (get_or t.entries k.offered d) x) in
                subst P (sym is) (λ y. takes (story_of t.entries s.stance.looked k) (get_or t.entries k.offered d) y (ap phase_of j) stands) st),
          )

      pub told_on : offer_reason crumb.at now sv.stance ≡ None → Stepped c m ∷ [] ≡ told_step t now c (Some k)
      told_on ok =
          let slow : is_too_slow t now k ≡ false = sym slow_is ∙ not_slow (is_slow crumb.at sv.stance.joined now) ok in
          ap (λ i. Stepped c i ∷ []) place ∙ sym (told_step_by true false j behind slow)

      pub steps_off : (sv' : SessionHeld) (r : Reason) → offer_reason crumb.at now sv.stance ≡ Some r → ((s : Story) → SessionStands sv s → SessionStands sv' (left_by r s)) → LinkOrOver rb (Some sv') t.entries stepped
      steps_off sv' r left leaves =
          let slow : is_too_slow t now k ≡ true = sym slow_is ∙ is_slow_at (is_slow crumb.at sv.stance.joined now) r left in
          subst (LinkOrOver rb (Some sv') t.entries) (sym (step_by true true j behind slow)) (over_is rb sv sv' t.entries k r l leaves, has_heard rb sv t.entries k l)

      pub told_off : (r : Reason) → offer_reason crumb.at now sv.stance ≡ Some r → ToldSlow c crumb.at now ∷ [] ≡ told_step t now c (Some k)
      told_off r left =
          let slow : is_too_slow t now k ≡ true = sym slow_is ∙ is_slow_at (is_slow crumb.at sv.stance.joined now) r left in
          ap (λ x. ToldSlow c x now ∷ []) time_is ∙ sym (told_step_by true true j behind slow)

-- A slot's session, if it has one

pub steps_absent : (t : Trail) (now c : ℕ) (rb : RebuildHeld) (link : Option Connection) → LinkStands rb None t.entries link → LinkOrOver rb None t.entries (option_and_then (step_link t now) link)
steps_absent t now c rb None l = l
steps_absent t now c rb (Some k) l = absurd l

pub told_absent : (t : Trail) (now c : ℕ) (rb : RebuildHeld) (link : Option Connection) → LinkStands rb None t.entries link → Absent c ∷ [] ≡ told_step t now c link
told_absent t now c rb None l = refl
told_absent t now c rb (Some k) l = absurd l

pub steps_some : (t : Trail) (now : ℕ) (rb : RebuildHeld) (sv sv' : SessionHeld) (link : Option Connection) → ((k : Connection) → IsLinked rb sv t.entries k → LinkOrOver rb (Some sv') t.entries (step_link t now k))
    → LinkStands rb (Some sv) t.entries link → LinkOrOver rb (Some sv') t.entries (option_and_then (step_link t now) link)
steps_some t now rb sv sv' None h l = absurd l
steps_some t now rb sv sv' (Some k) h l = h k l

pub told_some : (t : Trail) (now c : ℕ) (rb : RebuildHeld) (sv : SessionHeld) (link : Option Connection) (told : Told) → ((k : Connection) → IsLinked rb sv t.entries k → told ∷ [] ≡ told_step t now c (Some k))
    → LinkStands rb (Some sv) t.entries link → told ∷ [] ≡ told_step t now c link
told_some t now c rb sv None told h l = absurd l
told_some t now c rb sv (Some k) told h l = h k l

-- Dropping what is over

pub drops : (rb : RebuildHeld) (s : Option SessionHeld) (es : List Entry) (link : Option Connection) → is_over_session s ≡ true → LinkOrOver rb s es link → LinkStands rb None es link
drops rb None es None o l = l
drops rb None es (Some k) o l = absurd l
drops rb (Some sv) es None o l = l.1
drops rb (Some sv) es (Some k) o l =
    let none : is_over_phase sv.stance.phase ≡ false = ap (λ (t : Stance). is_over_phase t.phase) l.1.session_stands.stance ∙ never k.has_joined in
    absurd (true≢false (sym o ∙ none))
  where
    never : (b : Bool) → is_over_phase (phase_of b) ≡ false
    never true = refl
    never false = refl

pub keeps : (rb : RebuildHeld) (s : Option SessionHeld) (es : List Entry) (link : Option Connection) → is_over_session s ≡ false → LinkOrOver rb s es link → LinkStands rb s es link
keeps rb None es None o l = l
keeps rb None es (Some k) o l = absurd l
keeps rb (Some sv) es None o l = absurd (true≢false (sym (ap is_over_phase l.0) ∙ o))
keeps rb (Some sv) es (Some k) o l = l

-- Time

reason_by : (b : Bool) (looked now : ℕ) (k : Connection) → reason_in (phase_of b) now (stance_of looked k) ≡ (if b then no_pong now (stance_of looked k) else no_hello now (stance_of looked k))
reason_by true looked now k = refl
reason_by false looked now k = refl

reason_is : (rb : RebuildHeld) (sv : SessionHeld) (es : List Entry) (k : Connection) (now : ℕ) (l : IsLinked rb sv es k) → tick_reason now sv.stance ≡ (if k.has_joined then no_pong now (stance_of l.1.looked k) else no_hello now (stance_of l.1.looked k))
reason_is rb sv es k now l = ap (tick_reason now) l.1.session_stands.stance ∙ reason_by k.has_joined l.1.looked now k

stays_by : (b x y : Bool) (p q : Reason) → (if b then (if x then Some p else None) else (if y then Some q else None)) ≡ None → (if b then x else y) ≡ false
stays_by true true y p q e = cc
stays_by true false y p q e = refl
stays_by false x true p q e = cc
stays_by false x false p q e = refl

record Goes (b x y : Bool) (p q r : Reason) : Type 0 where
  dropped : (if b then x else y) ≡ true
  which : r ≡ (if b then p else q)

goes_by : (b x y : Bool) (p q r : Reason) → (if b then (if x then Some p else None) else (if y then Some q else None)) ≡ Some r → Goes b x y p q r
goes_by true true y p q r e = record { dropped = refl; which = cc }
goes_by true false y p q r e = cc
goes_by false x true p q r e = record { dropped = refl; which = cc }
goes_by false x false p q r e = cc

module _ (now c : ℕ) (rb : RebuildHeld) (sv : SessionHeld) (es : List Entry) (k : Connection) (l : IsLinked rb sv es k) where
  stays : tick_reason now sv.stance ≡ None → is_dropped now k ≡ false
  stays e = stays_by k.has_joined (is_silent k.heard now) (is_unhello k.opened now) (NoPong k.heard now) (NoHello k.opened now) (sym (reason_is rb sv es k now l) ∙ e)

  goes : (r : Reason) → tick_reason now sv.stance ≡ Some r → Goes k.has_joined (is_silent k.heard now) (is_unhello k.opened now) (NoPong k.heard now) (NoHello k.opened now) r
  goes r e = goes_by k.has_joined (is_silent k.heard now) (is_unhello k.opened now) (NoPong k.heard now) (NoHello k.opened now) r (sym (reason_is rb sv es k now l) ∙ e)

  pub ticks_on : (sv' : SessionHeld) → tick_reason now sv.stance ≡ None → ((s : Story) → SessionStands sv s → SessionStands sv' (ticked now s)) → LinkOrOver rb (Some sv') es (tick_link now k)
  ticks_on sv' ok goes_on =
      subst (LinkOrOver rb (Some sv') es) (sym (ap (λ b. if b then None else Some (ping_link now k)) (stays ok))) (l.0, ticks rb sv sv' es k l.0 now l.1 goes_on)

  pub told_ticks_on : tick_reason now sv.stance ≡ None → [] ≡ told_tick now c (Some k)
  told_ticks_on ok = sym (ap (λ b. if b then told_drop now c k ∷ [] else []) (stays ok))

  pub ticks_off : (sv' : SessionHeld) (r : Reason) → tick_reason now sv.stance ≡ Some r → ((s : Story) → SessionStands sv s → SessionStands sv' (left_by r s)) → LinkOrOver rb (Some sv') es (tick_link now k)
  ticks_off sv' r left leaves =
      let g = goes r left in
      subst (LinkOrOver rb (Some sv') es) (sym (ap (λ b. if b then None else Some (ping_link now k)) g.dropped)) (over_is rb sv sv' es k r l leaves, has_heard rb sv es k l)

  event_told : (b : Bool) → option_to_list (reason_told c (if b then NoPong k.heard now else NoHello k.opened now)) ≡ (if b then ToldPong c k.heard now else ToldHello c k.opened now) ∷ []
  event_told true = refl
  event_told false = refl

  pub told_ticks_off : (r : Reason) → tick_reason now sv.stance ≡ Some r → option_to_list (reason_told c r) ≡ told_tick now c (Some k)
  told_ticks_off r left =
      let g = goes r left in
      ap (λ x. option_to_list (reason_told c x)) g.which ∙ event_told k.has_joined ∙ sym (ap (λ b. if b then told_drop now c k ∷ [] else []) g.dropped)

pub ticks_absent : (now c : ℕ) (rb : RebuildHeld) (es : List Entry) (link : Option Connection) → LinkStands rb None es link → LinkOrOver rb None es (option_and_then (tick_link now) link)
ticks_absent now c rb es None l = l
ticks_absent now c rb es (Some k) l = absurd l

pub told_ticks_absent : (now c : ℕ) (rb : RebuildHeld) (es : List Entry) (link : Option Connection) → LinkStands rb None es link → [] ≡ told_tick now c link
told_ticks_absent now c rb es None l = refl
told_ticks_absent now c rb es (Some k) l = absurd l

pub ticks_some : (now : ℕ) (rb : RebuildHeld) (sv sv' : SessionHeld) (es : List Entry) (link : Option Connection) → ((k : Connection) → IsLinked rb sv es k → LinkOrOver rb (Some sv') es (tick_link now k))
    → LinkStands rb (Some sv) es link → LinkOrOver rb (Some sv') es (option_and_then (tick_link now) link)
ticks_some now rb sv sv' es None h l = absurd l
ticks_some now rb sv sv' es (Some k) h l = h k l

pub told_ticks_some : (now c : ℕ) (rb : RebuildHeld) (sv : SessionHeld) (es : List Entry) (link : Option Connection) (told : List Told) → ((k : Connection) → IsLinked rb sv es k → told ≡ told_tick now c (Some k))
    → LinkStands rb (Some sv) es link → told ≡ told_tick now c link
told_ticks_some now c rb sv es None told h l = absurd l
told_ticks_some now c rb sv es (Some k) told h l = h k l
