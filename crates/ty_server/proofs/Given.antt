-- What a give of queued bytes makes of a story.
use Rattle.std.proofs.Common.{◌≡◌, ℕ, ◌<◌, ◌≤◌, inl, List, [], ◌++◌, length, take, drop, refl, sym, ap, ◌∙◌, arith, append-nil, length-drop}
use Rattle.std.specs.Prelude.{Result, Ok}
use Rattle.std.proofs.lemmas.List.{take-take}
use Rattle.std.proofs.Math.Seq.{take-add}
use Rattle.ty_marks.specs.Marks.{bytes_of}
use Rattle.ty_session.specs.Story.{Story, given_up}
use Rattle.ty_session.specs.Held.{SessionHeld, SessionStands, IsQueued}
use Rattle.ty_session.specs.Outcomes.{Carries}
use Rattle.ty_session.specs.declared.reason.Gone.{Gone}
use Rattle.ty_server.specs.Exchanges.{LinkSeen, Exchanged}
use Rattle.ty_server.specs.Stories.{said_so_far}
use Rattle.ty_server.specs.steps.Parts.{SomePart, IsShorter, IsUnended}
use Rattle.ty_server.proofs.Following.{follows_self}
use Rattle.ty_server.proofs.Parts.{part_then}
use Rattle.ty_server.proofs.Taking.{exchanged_still}

said_given : (s : Story) (out : List ℕ) (n end : ℕ) → IsQueued out s → n ≤ end → said_so_far (given_up n s) ≡ said_so_far s ++ take n (take end out)
said_given s out n end q h =
    let all : List ℕ = bytes_of s.entries s.marks in
    take-add s.removed n all ∙ ap (λ (l : List ℕ). said_so_far s ++ l) (ap (take n) (sym q.rest) ∙ sym (take-take n end out h))

pub given_part : {A : Type 0} (now : ℕ) (a b : LinkSeen) (v w : SessionHeld) (x : A) (n end : ℕ) → n ≤ end → Exchanged (take n (take end v.out)) [] a b → Carries v w (given_up n) → SomePart {A = A} now a b v w (Ok x)
given_part now a b v w x n end h ex carries = (
  take n (take end v.out),
  record {
    heard = [];
    exchanged = ex;
    story = λ s st none.
        let stands : SessionStands w (given_up n s) = carries s st in (
          given_up n s,
          record {
            follows = record { more_said = said_given s v.out n end st.queued h; are_marks = stands.marks; opened = refl; joined = refl; last_heard = inl refl };
            entries = refl;
            stands = stands;
            bytes = sym (append-nil s.bytes);
            later_phase = inl refl;
            no_reason = none;
          },
        );
  },
)

pub shorter : (v w : SessionHeld) (n : ℕ) → 0 < n → n ≤ length v.out → w ≡ record v { out = drop n v.out } → IsShorter v w
shorter v w n some h e = (
  e ∙ ap (λ (o : List ℕ). record v { out = o }) (sym (ap (λ (x : SessionHeld). x.out) e)),
  omega (arith, some, h, ap (λ (x : SessionHeld). length x.out) e, length-drop n v.out),
)

-- parts in which something is said, one behind the other
pub some_then : {A B : Type 0} (now : ℕ) (a b c : LinkSeen) (v w u : SessionHeld) (x : A) (r : Result B Gone) → SomePart {A = A} now a b v w (Ok x) → SomePart now b c w u r → SomePart now a c v u r
some_then now a b c v w u x r (sent, p) (next, q) = (sent ++ next, part_then IsUnended now sent next a b c v w u x r p q)

pub same_then : (v w u : SessionHeld) → w ≡ record v { out = w.out } → u ≡ record w { out = u.out } → u ≡ record v { out = u.out }
same_then v w u e f = f ∙ ap (λ (x : SessionHeld). record x { out = u.out }) e

pub still_part : (now : ℕ) (a : LinkSeen) (v : SessionHeld) → SomePart {A = Unit {0}} now a a v v (Ok tt)
still_part now a v = (
  [],
  record {
    heard = [];
    exchanged = exchanged_still a;
    story = λ s st none. (
      s,
      record {
        follows = follows_self now s st.marks;
        entries = refl;
        stands = st;
        bytes = sym (append-nil s.bytes);
        later_phase = inl refl;
        no_reason = none;
      },
    );
  },
)
