use Rattle.std.proofs.Common.{◌≡◌, take, flat_map, map}
use Rattle.ty_base.specs.Memory.{ends_after}
use Rattle.ty_base.proofs.memory.MemSource.new.Given as goal

abbrev pub invariant-loop-piece : goal.invariant-loop-piece
invariant-loop-piece l = record {
  bytes : l.bytes.items ≡ flat_map (λ p. p.items) (take l.piece-index l.piece-items);
  ends : l.ends.items ≡ ends_after 0 (map (λ p. p.items) (take l.piece-index l.piece-items));
}
