use Rattle.std.proofs.Common.{◌≡◌, ◌++◌, length, string_bytes}
use Rattle.ty_keys.specs.Faults.{byte_fault}
use Rattle.ty_keys.specs.Forms.{unescaped}
use Rattle.ty_keys.proofs.part.part.Given as goal

abbrev pub invariant-loop-rest : goal.invariant-loop-rest
invariant-loop-rest l = record {
  fault : byte_fault l.written.at l.written.bytes.now ≡ byte_fault l.rest.at l.rest.bytes.now;
  text : unescaped l.written.bytes.now ≡ string_bytes l.text ++ unescaped l.rest.bytes.now;
}

abbrev pub decreases-loop-rest : goal.decreases-loop-rest
decreases-loop-rest l = length l.rest.bytes.now
