-- From a session's story before a call to its story behind it.
use Rattle.std.specs.Prelude.{◌≡◌, ◌<◌, ◌⊎◌, ℕ, List, ◌++◌, length, take, Some}
use Rattle.ty_marks.specs.Marks.{AreMarks, bytes_of, end_after}
use Rattle.ty_session.specs.Story.{Story}
use Rattle.ty_session.specs.Held.{SessionHeld, SessionStands}
use Rattle.ty_session.specs.declared.phase.Phase.{Phase}
use Rattle.ty_session.specs.declared.phase.Phase.TheVariants.{Over}
use Rattle.ty_session.specs.declared.reason.Reason.{Reason}

-- what was said so far: the bytes of its marks that were removed
abbrev pub said_so_far : Story → List ℕ
said_so_far s = take s.removed (bytes_of s.entries s.marks)

-- `sent` was said behind what was said before. The times of opening and joining stay, and a client that was heard was heard now
pub record Extends (now : ℕ) (sent : List ℕ) (s t : Story) : Type 0 where
  pub more_said : said_so_far t ≡ said_so_far s ++ sent
  pub are_marks : AreMarks t.marks (length t.entries)
  pub opened : t.stance.opened ≡ s.stance.opened
  pub joined : t.stance.joined ≡ s.stance.joined
  pub last_heard : (t.stance.heard ≡ s.stance.heard) ⊎ (t.stance.heard ≡ now)

-- the session goes on in this phase, and `heard` came from the client
pub record GoesOn (now : ℕ) (sent heard : List ℕ) (phase : Phase) (w : SessionHeld) (s t : Story) : Type 0 where
  pub stands : SessionStands w t
  pub follows : Extends now sent s t
  pub in_phase : t.stance.phase ≡ phase
  pub bytes : t.bytes ≡ s.bytes ++ heard

-- the session is over for this reason
pub record IsLeft (reason : Reason) (w : SessionHeld) (t : Story) : Type 0 where
  pub stands : SessionStands w t
  pub in_phase : t.stance.phase ≡ Over
  pub why : t.stance.reason ≡ Some reason

-- all bytes of its marks were said, and the last of them ends at the last entry
pub record IsAllSaid (t : Story) : Type 0 where
  pub some : 0 < length t.marks
  pub whole : said_so_far t ≡ bytes_of t.entries t.marks
  pub last : end_after 0 t.marks ≡ length t.entries
