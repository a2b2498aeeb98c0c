use Rattle.ty_keys.proofs.Texts.{found_from, only_from, clean_from, fault_from}
use Rattle.ty_keys.proofs.key.Key.read.Goals as goal

pub returns : goal.returns
returns c = record {
  found = found_from c.args.bytes.now c.read_text.result c.read_text.ensures;
  only = λ k h e. only_from c.args.bytes.now k c.read_text.result h e c.read_text.ensures;
  clean = clean_from c.args.bytes.now c.read_text.result c.read_text.ensures;
  fault = fault_from c.args.bytes.now c.read_text.result c.read_text.ensures;
  exact = c.read_text.ensures;
}
