use Rattle.std.proofs.Common.{◌≡◌, ◌++◌, true, refl, arith, rules}
use Rattle.ty_wire.specs.Wire.{delta_text}
use Rattle.ty_wire.proofs.Parts.{delta_fits}
use Rattle.ty_wire.proofs.Spelled.{pieces-end}
use Rattle.ty_wire.proofs.decode_fast.spelled_deltas.Goals as goal

pub returns-then-is_end : goal.returns-then-is_end
returns-then-is_end c =
    let delta = c.in-Some.found.delta in
    let after = c.in-Some.found.rest.now in
    let fits : delta_fits delta ≡ true = search rules in
    let text : c.loop-rest.rest.now ≡ delta_text delta ++ after = search rules in
    rw (c.in_ok-push.ensures.ok) (pieces-end c.args.bytes.now c.loop-rest.deltas c.loop-rest.rest.now delta after c.loop-rest.invariant (omega arith) fits c.fits_delta.ensures.utf8 text (c.if-is_end.ensures refl))
