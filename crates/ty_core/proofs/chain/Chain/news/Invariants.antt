use Rattle.std.proofs.Common.{◌≡◌, ◌+◌, ◌-◌, List, map}
use Rattle.std.specs.List.{range_with_len}
use Rattle.ty_base.specs.declared.entry.Entry.{Entry}
use Rattle.ty_client.specs.Worlds.{rebuilt_after}
use Rattle.ty_core.specs.declared.told.Told.TheVariants.{Published}
use Rattle.ty_core.specs.Held.{AreCrumbs}
use Rattle.ty_core.proofs.chain.Chain.news.Given as goal

abbrev pub invariant-loop-n : goal.invariant-loop-n
invariant-loop-n l = (es : List Entry) → AreCrumbs l.self.crumbs.items es → l.told.items ≡ map (λ n. Published (rebuilt_after es n)) (range_with_len (l.number + 1) (l.n - (l.number + 1)))
