use Rattle.std.proofs.Common.{◌+◌, ◌-◌, ◌∙◌, ap, sym, arith, drop}
use Rattle.std.proofs.lemmas.List.{drop_all}
use Rattle.std.proofs.lemmas.Grind.{common_steps}
use Rattle.ty_base.specs.Memory.{MemorySource}
use Rattle.ty_base.proofs.Taken.{taken_piece}
use Rattle.ty_base.proofs.memory.MemSourceSource.take.Goals as goal

pub returns-clause-bytes : goal.returns-clause-bytes
returns-clause-bytes c = (
  ap (λ (s : MemorySource). s.left) (sym c.self.view_is)
      ∙ taken_piece c.self.inside.bytes.items c.copy_from_slice.new.self (drop c.min-len.result c.args.buf.now) c.self.inside.at c.min-len.result (c.piece_end-end.result - c.self.inside.at) (grind (arith, common_steps)) (grind (arith, common_steps)) (grind (arith, common_steps)),
  λ z h. drop_all (c.self.inside.at + c.min-len.result) c.self.inside.bytes.items (grind (arith, common_steps)),
)
