use Rattle.std.proofs.Common.{ap, ◌∙◌, not}
use Rattle.ty_keys.proofs.Segments.{segments_end}
use Rattle.ty_keys.proofs.segment.is_end.Goals as goal

pub returns : goal.returns
returns c = ap not c.begins_segment.ensures ∙ segments_end c.args.rest.at c.args.rest.bytes.now
