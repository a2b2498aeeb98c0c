use Rattle.std.proofs.Common.{Ok, sym, ap, ◌∙◌}
use Rattle.std.specs.Option.{ok_or}
use Rattle.std.specs.Net.Addr.{ipv4_bits, ipv6_bits}
use Rattle.ty_net.specs.declared.address.Ip.TheVariants.{V4, V6}
use Rattle.ty_net.specs.declared.fault.NetFault.TheVariants.{BadIp}
use Rattle.ty_net.proofs.Readings.{reads_v4, reads_v6, no_address}
use Rattle.ty_net.proofs.address.read_ip.Goals as goal

pub returns-in-Ok-V4 : goal.returns-in-Ok-V4
unfolding ipv4_bits
returns-in-Ok-V4 c =
    let spelled = rw c.in-Ok-V4.field-0-is at c.in-Ok-V4.ensures in
    ap (λ n. Ok (V4 n)) c.to_bits.ensures ∙ sym (ap (λ o. ok_or o BadIp) (reads_v4 _ _ spelled))

pub returns-in-Ok-V6 : goal.returns-in-Ok-V6
unfolding ipv6_bits
returns-in-Ok-V6 c =
    let spelled = rw c.in-Ok-V6.field-0-is at c.in-Ok-V6.ensures in
    ap (λ n. Ok (V6 n)) c.to_bits-in-Ok-V6.ensures ∙ sym (ap (λ o. ok_or o BadIp) (reads_v6 _ _ spelled))

pub returns-in-Err : goal.returns-in-Err
returns-in-Err c = sym (ap (λ o. ok_or o BadIp) (no_address c.args.text.now c.in-Err.ensures))
