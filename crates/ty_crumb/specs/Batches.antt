-- The entry that a batch makes.
use Rattle.std.specs.Prelude.{ℕ, cond, List, [], ◌∷◌}
use Rattle.std.specs.List.{fold, filter_map}
use Rattle.ty_base.specs.declared.item.Item.{Item}
use Rattle.ty_base.specs.declared.entry.Entry.{Entry}
use Rattle.ty_base.specs.Feed.{World, after, same_world, changes, firsts, key_of}

-- the entry that a batch makes over a world, where it changes that
abbrev pub entry_of : ℕ → World → World → List Item → Entry
entry_of cut w v batch = record {
  cut = cut;
  status = v.status;
  deltas = changes w.pairs v.pairs (firsts (filter_map key_of batch));
}

abbrev pub next_entries : ℕ → World → List Item → List Entry
next_entries cut w batch = cond (same_world w (fold after w batch)) [] (entry_of cut w (fold after w batch) batch ∷ [])
