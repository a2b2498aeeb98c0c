use Rattle.std.proofs.Common.{◌≡◌, ◌++◌, List, drop}
use Rattle.std.specs.Prelude.{option_map}
use Rattle.serde_json.specs.View.{items_view}
use Rattle.ty_wire.specs.steps.Members.{deltas_of}
use Rattle.ty_base.specs.declared.delta.Delta.{Delta}
use Rattle.ty_wire.proofs.decode.deltas_in.Given as goal

abbrev pub invariant-loop-value : goal.invariant-loop-value
invariant-loop-value l = deltas_of (items_view l.values) ≡ option_map (λ (ds : List Delta). l.deltas ++ ds) (deltas_of (items_view (drop l.value-index l.values)))
