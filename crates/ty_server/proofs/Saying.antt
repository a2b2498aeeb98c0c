-- What shows that a client is left, and why.
use Rattle.std.proofs.Common.{◌≡◌, ℕ, ◌+◌, inl, Bool, true, false, List, [], ◌∷◌, ◌++◌, refl, sym, ap, subst, ◌∙◌, append-nil}
use Rattle.std.specs.Prelude.{Option, None, Some, option_map, unwrap_or, MatchOption, if◌then◌else◌, ⊤, ◌==◌}
use Rattle.std.specs.Option.{option_or}
use Rattle.ty_base.specs.Drops.{is_unhello, is_silent}
use Rattle.ty_wire.specs.Held.{FramesHeld}
use Rattle.ty_wire.specs.Stream.{Brings, FramesStandBy}
use Rattle.ty_wire.specs.declared.message.Msg.{Msg}
use Rattle.ty_wire.specs.declared.message.Msg.TheVariants.{ClientHello, ServerHello, Kvs, Status as StatusMsg, Crumb, Ping, Pong}
use Rattle.ty_wire.specs.declared.fault.WireFault.{WireFault}
use Rattle.ty_session.specs.Client.{Shows, is_spoken, hello_fault, pong_fault, client_fault, first_client_fault}
use Rattle.ty_session.specs.Story.{Story}
use Rattle.ty_session.specs.Held.{SessionHeld, SessionStands, IsIn, IsHearing}
use Rattle.ty_session.specs.Outcomes.{tick_reason, reason_in}
use Rattle.ty_session.specs.declared.phase.Phase.{Phase}
use Rattle.ty_session.specs.declared.phase.Phase.TheVariants.{Waiting, Greeted, Joined, Over}
use Rattle.ty_session.specs.declared.reason.Reason.{Reason}
use Rattle.ty_session.specs.declared.reason.Reason.TheVariants.{NoHello, BadHello, BadBytes, BadOrder, NoPong, TooSlow, PeerClosed, LinkFault, Finished}
use Rattle.ty_session.proofs.Hearing.{fault-cons, fault-none}
use Rattle.ty_server.specs.Causes.{IsCause}
use Rattle.ty_server.specs.Exchanges.{LinkSeen}

-- ---- only the client's bytes show what they show

abbrev OfClient : Reason → Type 0
OfClient (BadHello version) = ⊤
OfClient (BadBytes fault) = ⊤
OfClient (BadOrder frame) = ⊤
OfClient (NoHello opened now) = ⊥
OfClient (NoPong heard now) = ⊥
OfClient (TooSlow made now) = ⊥
OfClient PeerClosed = ⊥
OfClient LinkFault = ⊥
OfClient Finished = ⊥

abbrev IfSomeOfClient : Option Reason → Type 0
IfSomeOfClient None = ⊤
IfSomeOfClient (Some r) = OfClient r

either : (o p : Option Reason) → IfSomeOfClient o → IfSomeOfClient p → IfSomeOfClient (option_or o p)
either None p h k = k
either (Some r) p h k = h

by_version : (b : Bool) (version : ℕ) → IfSomeOfClient (if b then None else Some (BadHello version))
by_version true version = tt
by_version false version = tt

of_hello : (m : Msg) → IfSomeOfClient (hello_fault m)
of_hello (ClientHello version host) = by_version (is_spoken version) version
of_hello (ServerHello version) = tt
of_hello (Kvs ds) = tt
of_hello (StatusMsg s) = tt
of_hello (Crumb n) = tt
of_hello (Ping ts) = tt
of_hello (Pong ts) = tt

of_pong : (frame : ℕ) (m : Msg) → IfSomeOfClient (pong_fault frame m)
of_pong frame (ClientHello version host) = tt
of_pong frame (ServerHello version) = tt
of_pong frame (Kvs ds) = tt
of_pong frame (StatusMsg s) = tt
of_pong frame (Crumb n) = tt
of_pong frame (Ping ts) = tt
of_pong frame (Pong ts) = tt

of_first : (b : Bool) (frame : ℕ) (m : Msg) → IfSomeOfClient (if b then hello_fault m else pong_fault frame m)
of_first true frame m = of_hello m
of_first false frame m = of_pong frame m

of_messages : (frame : ℕ) (ms : List Msg) → IfSomeOfClient (first_client_fault frame ms)
of_messages frame [] = subst IfSomeOfClient (sym (fault-none frame)) tt
of_messages frame (m ∷ ms) = subst IfSomeOfClient (sym (fault-cons frame m ms)) (either (client_fault frame m) (first_client_fault (frame + 1) ms) (of_first (frame == 1) frame m) (of_messages (frame + 1) ms))

of_wire : (w : Option WireFault) → IfSomeOfClient (option_map BadBytes w)
of_wire None = tt
of_wire (Some f) = tt

shown : (bytes : List ℕ) (r : Reason) → Shows bytes r → OfClient r
shown bytes r sh = subst IfSomeOfClient (sym sh.first) (either (first_client_fault 1 sh.messages) (option_map BadBytes sh.wire) (of_messages 1 sh.messages) (of_wire sh.wire))

module _ (now : ℕ) (s : Story) (heard : List ℕ) (a b : LinkSeen) (offered : ℕ → Type 0) (finished : Type 0) where
  shows_by : (r : Reason) → OfClient r → Shows (s.bytes ++ heard) r → IsCause now s heard a b offered finished r
  shows_by (BadHello version) o h = h
  shows_by (BadBytes fault) o h = h
  shows_by (BadOrder frame) o h = h
  shows_by (NoHello opened at) o h = absurd o
  shows_by (NoPong last at) o h = absurd o
  shows_by (TooSlow made at) o h = absurd o
  shows_by PeerClosed o h = absurd o
  shows_by LinkFault o h = absurd o
  shows_by Finished o h = absurd o

  pub shows_cause : (r : Reason) → Shows (s.bytes ++ heard) r → IsCause now s heard a b offered finished r
  shows_cause r h = shows_by r (shown (s.bytes ++ heard) r h) h

-- ---- time

pub none_some : (r : Reason) → None ≡ Some r → ⊥
none_some r e = subst (λ (o : Option Reason). MatchOption o ⊤ (λ _. ⊥)) e tt

pub from_if : (b : Bool) (q r : Reason) → (if b then Some q else None) ≡ Some r → (b ≡ true) × (q ≡ r)
from_if true q r e = (refl, ap (λ (o : Option Reason). unwrap_or o q) e)
from_if false q r e = absurd (none_some r e)

pub no_if : (b : Bool) (q : Reason) → (if b then Some q else None) ≡ None → b ≡ false
no_if true q e = absurd (none_some q (sym e))
no_if false q e = refl

-- bytes without a whole message
pub brings_none : (frame : ℕ) (reason : Option Reason) (unread : FramesHeld) (bytes : List ℕ) (ms : List Msg) → IsHearing frame reason unread bytes ms → ms ≡ [] → Brings bytes [] None
brings_none frame reason unread bytes ms h none =
    let open_frames = subst (λ (f : Option WireFault). FramesStandBy f unread bytes ms) h.no_wire_fault h.frames_stand.1 in
    subst (λ (l : List Msg). Brings bytes l None) none (open_frames.short, (unread.rest, open_frames.reads))

module _ (now : ℕ) (s : Story) (a b : LinkSeen) (offered : ℕ → Type 0) (finished : Type 0) where
  cause_by : (p : Phase) (frame : ℕ) (unread : FramesHeld) (r : Reason) → s.stance.reason ≡ None → IsIn p frame s.stance.reason unread s.bytes s.messages s.marks s.entries
      → reason_in p now s.stance ≡ Some r → IsCause now s [] a b offered finished r
  cause_by Waiting frame unread r none h e =
      let yes = from_if (is_unhello s.stance.opened now) (NoHello s.stance.opened now) r e in
      subst (IsCause now s [] a b offered finished) yes.1 (refl, refl, yes.0, subst (λ (l : List ℕ). Brings l [] None) (sym (append-nil s.bytes)) (brings_none frame s.stance.reason unread s.bytes s.messages h.0 h.1))
  cause_by Greeted frame unread r none h e =
      let yes = from_if (is_silent s.stance.heard now) (NoPong s.stance.heard now) r e in
      subst (IsCause now s [] a b offered finished) yes.1 (refl, inl refl, yes.0)
  cause_by Joined frame unread r none h e =
      let yes = from_if (is_silent s.stance.heard now) (NoPong s.stance.heard now) r e in
      subst (IsCause now s [] a b offered finished) yes.1 (refl, inl refl, yes.0)
  cause_by Over frame unread r none h e = absurd (none_some r (sym none ∙ e))

  pub tick_cause : (v : SessionHeld) (r : Reason) → s.stance.reason ≡ None → SessionStands v s → tick_reason now v.stance ≡ Some r → IsCause now s [] a b offered finished r
  tick_cause v r none st e = cause_by s.stance.phase v.frame v.unread r none st.phase (ap (tick_reason now) (sym st.stance) ∙ e)
