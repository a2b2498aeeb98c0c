use Rattle.std.proofs.Common.{length}
use Rattle.ty_rules.proofs.text.+are_hex_pairs.Given as goal

abbrev pub decreases-are_hex_pairs : goal.decreases-are_hex_pairs
decreases-are_hex_pairs l = length l.bytes.now
