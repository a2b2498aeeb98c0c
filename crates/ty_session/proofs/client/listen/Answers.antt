use Rattle.std.proofs.Common.{◌∙◌, ◌++◌, ap, rules}
use Rattle.std.specs.Prelude.{Option, option_map}
use Rattle.std.specs.Option.{option_or}
use Rattle.ty_wire.specs.declared.fault.WireFault.{WireFault}
use Rattle.ty_session.specs.declared.reason.Reason.TheVariants.{BadBytes}
use Rattle.ty_session.proofs.Hearing.{listened}
use Rattle.ty_session.proofs.client.listen.Goals as goal

pub returns : goal.returns
returns c so_far ms st f =
    listened c.feed.new.self (so_far ++ c.args.bytes.now) ms c.in_ok-got.got.msgs c.len-count.result c.args.frame c.first_bad-fault.result c.first_reason.result (c.in_ok-got.ensures.stands so_far ms st) f (search rules) (search rules)
    (c.first_reason.ensures ∙ ap (λ (o : Option WireFault). option_or c.first_bad-fault.result (option_map BadBytes o)) c.in_ok-got.ensures.fault)
