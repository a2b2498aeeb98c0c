-- What is queued and what was removed are a talk.
use Rattle.std.proofs.Common.{◌≡◌, ℕ, ◌<◌, List, [], ◌∷◌, ◌++◌, length, take, drop, refl, ap, ◌∙◌, arith, length-drop}
use Rattle.std.proofs.lemmas.List.{take-append-drop}
use Rattle.ty_marks.specs.Marks.{Mark, start, group, ping, AreMarks, bytes_of, messages_of, group_numbers}
use Rattle.ty_marks.proofs.Marks.{talk, pings}
use Rattle.ty_session.proofs.Marks.{bytes-none}
use Rattle.ty_session.specs.Story.{Story}
use Rattle.ty_session.specs.Held.{IsQueued, IsTalkOf}

pub nothing : (out : List ℕ) (s : Story) → IsQueued out s → s.marks ≡ [] → (out ≡ []) × (s.removed ≡ 0)
nothing out s q none =
    let empty : bytes_of s.entries s.marks ≡ [] = ap (bytes_of s.entries) none ∙ bytes-none s.entries in
    let zero : s.removed ≡ 0 = omega (arith, q.within, ap length empty) in
    (q.rest ∙ ap (λ (n : ℕ). drop n (bytes_of s.entries s.marks)) zero ∙ empty, zero)

-- the marks of a story that begin with a start
by_marks : (marks : List Mark) (out : List ℕ) (s : Story) → s.marks ≡ marks → IsQueued out s → AreMarks marks (length s.entries) → 0 < length marks → IsTalkOf out s
by_marks [] out s e q a h = absurd (omega (arith, h))
by_marks (start n ∷ marks) out s e q a h = record {
  first = n;
  numbers = group_numbers marks;
  messages = messages_of s.entries (start n ∷ marks);
  talk = talk s.entries n marks a;
  pings = pings s.entries n marks a;
  bytes = ap (λ (l : List ℕ). take s.removed (bytes_of s.entries (start n ∷ marks)) ++ l) (q.rest ∙ ap (λ (ms : List Mark). drop s.removed (bytes_of s.entries ms)) e)
      ∙ take-append-drop s.removed (bytes_of s.entries (start n ∷ marks));
}
by_marks (group n ∷ marks) out s e q a h = absurd a
by_marks (ping ts ∷ marks) out s e q a h = absurd a

pub talked : (out : List ℕ) (s : Story) → IsQueued out s → AreMarks s.marks (length s.entries) → 0 < length s.marks → IsTalkOf out s
talked out s q a h = by_marks s.marks out s refl q a h

pub whole : (s : Story) → IsQueued [] s → s.removed ≡ length (bytes_of s.entries s.marks)
whole s q = omega (arith, q.within, ap length q.rest, length-drop s.removed (bytes_of s.entries s.marks))
