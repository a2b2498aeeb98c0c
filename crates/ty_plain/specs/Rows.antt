-- Small lists of items with the books that they are to have. Keys and values are single bytes.
use Rattle.std.specs.Prelude.{ℕ, List, [], ◌∷◌, map, length, Some, None, refl}
use Rattle.std.specs.List.{range_with_len}
use Rattle.ty_base.specs.declared.item.Item.{Item}
use Rattle.ty_base.specs.declared.item.Item.TheVariants.{Put, Del, State, Mark}
use Rattle.ty_base.specs.declared.status.Status.TheVariants.{Wait, Resync, InSync}
use Rattle.ty_base.specs.declared.delta.Delta.{Delta}
use Rattle.ty_base.specs.declared.delta.Kind.TheVariants.{New, Updated, Deleted}
use Rattle.ty_base.specs.declared.entry.Entry.{Entry}

abbrev pub added : List ℕ → List ℕ → Delta
added k v = record { key = k; kind = New; value = Some v; told = refl }

-- a key is put and the datastore is in sync, in one batch
abbrev pub ready_and_in_sync : List Item
ready_and_in_sync = Put (114 ∷ []) (116 ∷ []) ∷ State InSync ∷ []

abbrev pub ready_and_in_sync_book : List Entry
ready_and_in_sync_book = record { cut = 2; status = InSync; deltas = added (114 ∷ []) (116 ∷ []) ∷ [] } ∷ []

-- the second batch puts the value that is held
abbrev pub held_value : List Item
held_value = Put (114 ∷ []) (116 ∷ []) ∷ Mark ∷ Put (114 ∷ []) (116 ∷ []) ∷ Mark ∷ []

abbrev pub held_value_book : List Entry
held_value_book = record { cut = 2; status = Wait; deltas = added (114 ∷ []) (116 ∷ []) ∷ [] } ∷ []

-- a key that is put twice keeps its first place and has its last value
abbrev pub replaced_key : List Item
replaced_key = Put (97 ∷ []) (49 ∷ []) ∷ Put (98 ∷ []) (49 ∷ []) ∷ Put (97 ∷ []) (50 ∷ []) ∷ []

abbrev pub replaced_key_book : List Entry
replaced_key_book = record { cut = 3; status = Wait; deltas = added (97 ∷ []) (50 ∷ []) ∷ added (98 ∷ []) (49 ∷ []) ∷ [] } ∷ []

-- a batch that leaves things as they were publishes nothing, and its items count in the next cut
abbrev pub put_and_deleted : List Item
put_and_deleted = Put (97 ∷ []) (49 ∷ []) ∷ Del (97 ∷ []) ∷ Mark ∷ Put (98 ∷ []) (49 ∷ []) ∷ Mark ∷ []

abbrev pub put_and_deleted_book : List Entry
put_and_deleted_book = record { cut = 5; status = Wait; deltas = added (98 ∷ []) (49 ∷ []) ∷ [] } ∷ []

-- as many updates of different keys
abbrev pub updates : ℕ → List Item
updates n = map (λ k. Put (k ∷ []) (49 ∷ [])) (range_with_len 1 n)

-- how many deltas each entry has
abbrev pub sizes : List Entry → List ℕ
sizes es = map (λ e. length e.deltas) es

-- a value is replaced, then deleted with a new status, and then the status alone changes
abbrev pub each_kind : List Item
each_kind = Put (97 ∷ []) (49 ∷ []) ∷ Mark ∷ Put (97 ∷ []) (50 ∷ []) ∷ Mark ∷ Del (97 ∷ []) ∷ State InSync ∷ State Resync ∷ []

abbrev pub each_kind_book : List Entry
each_kind_book =
    record { cut = 2; status = Wait; deltas = added (97 ∷ []) (49 ∷ []) ∷ [] }
    ∷ record { cut = 4; status = Wait; deltas = record { key = 97 ∷ []; kind = Updated; value = Some (50 ∷ []); told = refl } ∷ [] }
    ∷ record { cut = 6; status = InSync; deltas = record { key = 97 ∷ []; kind = Deleted; value = None; told = refl } ∷ [] }
    ∷ record { cut = 7; status = Resync; deltas = [] }
    ∷ []
