-- What a server queues on a connection, as marks: where the client joined, where each group ends,
-- and each ping. The messages of marks over a list of entries are a talk over it.
use Rattle.std.specs.Prelude.{ℕ, ◌<◌, ◌≤◌, ◌^◌, List, [], ◌∷◌, ◌++◌, ⊤}
use Rattle.std.specs.List.{fold}
use Rattle.ty_base.specs.declared.entry.Entry.{Entry}
use Rattle.ty_wire.specs.Wire.{frames}
use Rattle.ty_wire.specs.Talk.{opening, group_between}
use Rattle.ty_wire.specs.declared.message.Msg.{Msg}
use Rattle.ty_wire.specs.declared.message.Msg.TheVariants.{Ping}

-- the hello and the snapshot of a breadcrumb; a group up to a breadcrumb; a ping with its time
pub data Mark : Type 0 where
  start : ℕ → Mark
  group : ℕ → Mark
  ping : ℕ → Mark

-- the number of the last crumb end, where it was `from` before the mark
abbrev pub crumb_end_of : ℕ → Mark → ℕ
crumb_end_of from (start n) = n
crumb_end_of from (group n) = n
crumb_end_of from (ping ts) = from

abbrev pub end_after : ℕ → List Mark → ℕ
end_after from marks = fold crumb_end_of from marks

-- the messages of a mark behind the crumb end `from`
abbrev pub mark_messages : List Entry → ℕ → Mark → List Msg
mark_messages entries from (start n) = opening entries n
mark_messages entries from (group n) = group_between entries from n
mark_messages entries from (ping ts) = Ping ts ∷ []

unfoldable pub messages_after : List Entry → ℕ → List Mark → List Msg
messages_after entries from [] = []
messages_after entries from (m ∷ marks) =
    mark_messages entries from m ++ messages_after entries (crumb_end_of from m) marks

-- all that is said on a connection with these marks, and its bytes
abbrev pub messages_of : List Entry → List Mark → List Msg
messages_of entries marks = messages_after entries 0 marks

abbrev pub bytes_of : List Entry → List Mark → List ℕ
bytes_of entries marks = frames (messages_of entries marks)

-- behind the crumb end `from` the numbers rise, none is above `most`, and pings' times have 64 bits
abbrev pub Follow : ℕ → List Mark → ℕ → Type 0
Follow from [] most = from ≤ most
Follow from (start n ∷ marks) most = ⊥
Follow from (group n ∷ marks) most = (from < n) × Follow n marks most
Follow from (ping ts ∷ marks) most = (ts < 2 ^ 64) × Follow from marks most

-- none, or a start and what follows it
abbrev pub AreMarks : List Mark → ℕ → Type 0
AreMarks [] most = ⊤
AreMarks (start n ∷ marks) most = Follow n marks most
AreMarks (group n ∷ marks) most = ⊥
AreMarks (ping ts ∷ marks) most = ⊥

-- the numbers of the groups
abbrev pub group_numbers : List Mark → List ℕ
group_numbers [] = []
group_numbers (start n ∷ marks) = group_numbers marks
group_numbers (group n ∷ marks) = n ∷ group_numbers marks
group_numbers (ping ts ∷ marks) = group_numbers marks
