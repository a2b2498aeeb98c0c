-- What a client holds after more crumb ends.
use Rattle.std.proofs.Common.{◌≡◌, ℕ, List, [], ◌∷◌, map, refl}
use Rattle.std.specs.Prelude.{Option, Some, option_map}
use Rattle.ty_base.specs.declared.entry.Entry.{Entry}
use Rattle.ty_client.specs.Rebuilt.{last_held}
use Rattle.ty_client.specs.Worlds.{rebuilt_after}
use Rattle.ty_core.specs.Clients.{last_number}

pub held-came : (es : List Entry) (c : Option ℕ) (ns : List ℕ) → last_held (option_map (rebuilt_after es) c) (map (rebuilt_after es) ns) ≡ option_map (rebuilt_after es) (last_number c ns)
unfolding last_held
held-came es c [] = refl
held-came es c (n ∷ ns) = held-came es (Some n) ns
