use Rattle.std.proofs.Common.{◌≡◌, ℕ, ◌+◌, ◌-◌, ◌++◌, ◌∙◌, arith, ap, length, subst, take}
use Rattle.std.specs.Int.{to_be_bytes, w32}
use Rattle.ty_wire.specs.Wire.{body}
use Rattle.ty_wire.specs.declared.message.Msg.TheVariants.{Kvs}
use Rattle.ty_wire.proofs.Continued.{behind-head}
use Rattle.ty_wire.proofs.encode.append_frame.Goals as goal

pub returns : goal.returns
returns c =
    let text = body (Kvs c.args.deltas.now) in
    let at = c.len-at.result in
    let end = c.append_kvs-end.result in
    let before = c.args.out.now.items in
    let same : end - at - 4 ≡ length text = omega (arith, c.append_kvs-end.ensures.moved) in
    let front : take at c.lengthen.new.out.items ≡ before = ap (λ (n : ℕ). take n c.lengthen.new.out.items) c.len-at.ensures ∙ c.lengthen.ensures.front in
    c.truncate.ensures.items
    ∙ subst (λ (n : ℕ). take end c.put_len.new.out.items ≡ before ++ (to_be_bytes w32 n ++ text)) same
    (behind-head before (at + 4) front c.append_kvs-end.ensures c.put_len.ensures.placed c.put_len.ensures.behind)
