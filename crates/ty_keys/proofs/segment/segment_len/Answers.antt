use Rattle.std.proofs.Common.{length}
use Rattle.std.specs.List.{position_or_len}
use Rattle.ty_keys.specs.Faults.{is_slash}
use Rattle.ty_keys.proofs.Segments.{past_end, position_or_len-le}
use Rattle.ty_keys.proofs.segment.segment_len.Goals as goal

pub returns-in-None : goal.returns-in-None
returns-in-None c =
    let bs = c.args.bytes.now in
    past_end (position_or_len is_slash bs) (length bs) (position_or_len-le is_slash bs) c.in-None.ensures
