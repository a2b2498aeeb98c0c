-- Parts of a call, one behind the other.
use Rattle.std.proofs.Common.{◌≡◌, ℕ, ◌⊎◌, inl, inr, List, [], ◌++◌, sym, ap, subst, ◌∙◌, append_assoc}
use Rattle.std.specs.Prelude.{None, Result, Ok, Err}
use Rattle.ty_base.specs.Drops.{is_slow}
use Rattle.ty_wire.specs.Stream.{Brings}
use Rattle.ty_session.specs.Client.{Shows}
use Rattle.ty_session.specs.Story.{Story}
use Rattle.ty_session.specs.Held.{SessionHeld}
use Rattle.ty_session.specs.declared.reason.Reason.{Reason}
use Rattle.ty_session.specs.declared.reason.Reason.TheVariants.{NoHello, BadHello, BadBytes, BadOrder, NoPong, TooSlow, PeerClosed, LinkFault, Finished}
use Rattle.ty_session.specs.declared.reason.Gone.{Gone}
use Rattle.ty_session.specs.declared.reason.Gone.TheVariants.{Left, NoMemory}
use Rattle.ty_server.specs.Causes.{IsCause}
use Rattle.ty_server.specs.Exchanges.{LinkSeen, Exchanged}
use Rattle.ty_server.specs.Stories.{Extends}
use Rattle.ty_server.specs.steps.Parts.{Part, PartIn, PartStory, WorksIn, StaysAsIs}
use Rattle.ty_server.proofs.Following.{follows_then, phase_then}
use Rattle.ty_server.proofs.Taking.{exchanged_then, exchanged_still, closed_then, rose_later}

last_either : (now l a b : ℕ) → (l ≡ b) ⊎ (l ≡ now) → (b ≡ a) ⊎ (b ≡ now) → (l ≡ a) ⊎ (l ≡ now)
last_either now l a b (inl e) (inl f) = inl (e ∙ f)
last_either now l a b (inl e) (inr f) = inr (e ∙ f)
last_either now l a b (inr e) h = inr e

-- a cause in the second part is one in both
module _ (now : ℕ) (sent heard more : List ℕ) (a b c : LinkSeen) (s t : Story) (offered : ℕ → Type 0) (finished : Type 0) where
  pub cause_then : Exchanged sent heard a b → Extends now sent s t → t.bytes ≡ s.bytes ++ heard → (r : Reason)
      → IsCause now t more b c offered finished r → IsCause now s (heard ++ more) a c offered finished r
  cause_then ex f bytes (NoHello opened at) h = (h.0, h.1 ∙ f.opened, h.2, subst (λ (l : List ℕ). Brings l [] None) (ap (λ (l : List ℕ). l ++ more) bytes ∙ append_assoc s.bytes heard more) h.3)
  cause_then ex f bytes (BadHello version) h = subst (λ (l : List ℕ). Shows l (BadHello version)) (ap (λ (l : List ℕ). l ++ more) bytes ∙ append_assoc s.bytes heard more) h
  cause_then ex f bytes (BadBytes fault) h = subst (λ (l : List ℕ). Shows l (BadBytes fault)) (ap (λ (l : List ℕ). l ++ more) bytes ∙ append_assoc s.bytes heard more) h
  cause_then ex f bytes (BadOrder frame) h = subst (λ (l : List ℕ). Shows l (BadOrder frame)) (ap (λ (l : List ℕ). l ++ more) bytes ∙ append_assoc s.bytes heard more) h
  cause_then ex f bytes (NoPong last at) h = (h.0, last_either now last s.stance.heard t.stance.heard h.1 f.last_heard, h.2)
  cause_then ex f bytes (TooSlow made at) h = (h.0, h.1, ap (λ (j : ℕ). is_slow made j now) (sym f.joined) ∙ h.2)
  cause_then ex f bytes PeerClosed h = closed_then sent heard a b c ex h
  cause_then ex f bytes LinkFault h = rose_later a.faults b.faults c.faults ex.later h
  cause_then ex f bytes Finished h = h

module _ {A : Type 0} (now : ℕ) (sent next heard more : List ℕ) (a b c : LinkSeen) (w u : SessionHeld) where
  stays_then : (s t : Story) → Exchanged sent heard a b → StaysAsIs now sent heard w s t → (r : Result A Gone)
      → PartStory now next more b c u t r → PartStory now (sent ++ next) (heard ++ more) a c u s r
  stays_then s t ex p (Ok x) (z, q) = (
    z,
    record {
      follows = follows_then now sent next s t z p.follows q.follows;
      entries = q.entries ∙ p.entries;
      stands = q.stands;
      bytes = q.bytes ∙ ap (λ (l : List ℕ). l ++ more) p.bytes ∙ append_assoc s.bytes heard more;
      later_phase = phase_then s.stance.phase t.stance.phase z.stance.phase p.later_phase q.later_phase;
      no_reason = q.no_reason;
    },
  )
  stays_then s t ex p (Err (Left reason)) (z, q) = (
    z,
    record {
      follows = follows_then now sent next s t z p.follows q.follows;
      entries = q.entries ∙ p.entries;
      over = q.over;
      cause = cause_then now sent heard more a b c s t (λ _. ⊥) ⊥ ex p.follows p.bytes reason q.cause;
    },
  )
  stays_then s t ex p (Err NoMemory) (z, q) = (
    z,
    record {
      follows = follows_then now sent next s t z p.follows q.follows;
      entries = q.entries ∙ p.entries;
      spent = q.spent;
      queued = q.queued;
    },
  )

pub part_then : {A B : Type 0} (K : Story → Type 0) (now : ℕ) (sent next : List ℕ) (a b c : LinkSeen) (v w u : SessionHeld) (x : A) (r : Result B Gone) → PartIn {A = A} K now sent a b v w (Ok x) → Part now next b c w u r → PartIn K now (sent ++ next) a c v u r
part_then K now sent next a b c v w u x r p q = record {
  heard = p.heard ++ q.heard;
  exchanged = exchanged_then sent next p.heard q.heard a b c p.exchanged q.exchanged;
  story = λ s st none.
      let one = p.story s st none in
      stays_then now sent next p.heard q.heard a b c w u s one.0 p.exchanged one.1 r (q.story one.0 one.1.stands one.1.no_reason);
}

pub part_works : {A : Type 0} (K : Story → Type 0) (now : ℕ) (a : LinkSeen) (v w : SessionHeld) (r : Result A Gone) → WorksIn K now [] v w r → PartIn K now [] a a v w r
part_works K now a v w r h = record {
  heard = [];
  exchanged = exchanged_still a;
  story = λ s st none. h a a s st none;
}

-- an end is the same end of a longer part
ended_story : (A B : Type 0) (now : ℕ) (sent heard : List ℕ) (a b : LinkSeen) (w : SessionHeld) (s : Story) (e : Gone) → PartStory {A = A} now sent heard a b w s (Err e) → PartStory {A = B} now sent heard a b w s (Err e)
ended_story A B now sent heard a b w s (Left reason) h = h
ended_story A B now sent heard a b w s NoMemory h = h

pub part_ends : (A B : Type 0) (K : Story → Type 0) (now : ℕ) (sent : List ℕ) (a b : LinkSeen) (v w : SessionHeld) (e : Gone) → PartIn {A = A} K now sent a b v w (Err e) → PartIn {A = B} K now sent a b v w (Err e)
part_ends A B K now sent a b v w e p = record {
  heard = p.heard;
  exchanged = p.exchanged;
  story = λ s st none. ended_story A B now sent p.heard a b w s e (p.story s st none);
}
