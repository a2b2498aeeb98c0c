use Rattle.std.proofs.Common.{ap, sym, ◌-◌, length, take, drop, arith}
use Rattle.ty_keys.specs.Faults.{is_slash}
use Rattle.ty_keys.specs.Forms.{next_segment}
use Rattle.ty_keys.proofs.Segments.{segments_none, next_is, whole_rest, position_or_len-le}
use Rattle.ty_keys.proofs.segment.next.Goals as goal

pub returns-then-not-begins_segment : goal.returns-then-not-begins_segment
returns-then-not-begins_segment c = λ _. ap next_segment (segments_none c.args.rest.at c.args.rest.bytes.now (sym c.if-not-begins_segment.ensures))

pub split_at-requires : goal.split_at-requires
split_at-requires c =
    let bytes = take (length c.args.rest.bytes.now - 1) (drop 1 c.args.rest.bytes.now) in
    omega (arith, c.segment_len-len.ensures, position_or_len-le is_slash bytes)

pub returns : goal.returns
returns c =
    next_is c.args.rest.at c.args.rest.bytes.now _ _ _ _ (sym c.if-not-begins_segment.ensures) (whole_rest c.args.rest.bytes.now)
    c.segment_len-len.ensures c.split_at.ensures.front c.split_at.ensures.back
