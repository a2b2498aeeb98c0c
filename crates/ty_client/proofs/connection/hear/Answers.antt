use Rattle.std.proofs.Common.{List, subst, sym, rules}
use Rattle.std.specs.Prelude.{Ok, Result}
use Rattle.ty_base.specs.Devices.{Output}
use Rattle.ty_base.specs.Fronts.{AppendsFront}
use Rattle.ty_client.specs.Rebuilt.{Rebuilt}
use Rattle.ty_client.specs.Text.{rebuilt_text}
use Rattle.ty_client.specs.Linked.{scene}
use Rattle.ty_client.specs.steps.Given.{Wrote}
use Rattle.ty_client.specs.steps.Links.{GoesOnOrStops}
use Rattle.ty_client.specs.declared.follower.FollowFault.{FollowFault}
use Rattle.ty_client.proofs.Linked.{hears_all, hears_unwritten, hears_short, hears_nothing_of}
use Rattle.ty_client.proofs.connection.hear.Goals as goal

pub returns-in_default : goal.returns-in_default
returns-in_default g c = λ x y n m t le. hears_nothing_of c.args.brief c.args.rebuild.now c.feed.new.self x y n m (g.K.Sink.seen c.args.sink.now) c.args.bytes.now c.in_default.ensures.kept t le

pub returns-in-Ok-give_ats : goal.returns-in-Ok-give_ats
returns-in-Ok-give_ats g c = λ x y n m t le.
    let k : Output = g.K.Sink.seen c.args.sink.now in
    let j : Output = g.K.Sink.seen c.give_ats.new.sink in
    let wrote = subst (λ (l : List Rebuilt). Wrote {T = Unit {0}} (Ok tt) k.held j.held k.faults j.faults (rebuilt_text c.args.brief l)) c.as_slice.ensures c.in-Ok-give_ats.ensures in
    subst (λ (r : Result (Unit {0}) FollowFault). GoesOnOrStops c.args.brief (scene c.args.rebuild.now x n k) (scene c.feed.new.self y m j) r) (sym c.go_on.ensures)
    (hears_all c.args.brief c.args.rebuild.now c.feed.new.self x y n m k j c.args.bytes.now c.in-Ok.heard.ats c.in-Ok.heard.fault tt c.in-Ok.ensures.here c.in-Ok.ensures.held c.in-Ok.ensures.fault wrote t le)

pub returns-in-Err-Sink : goal.returns-in-Err-Sink
returns-in-Err-Sink g c = λ x y n m t le.
    let k : Output = g.K.Sink.seen c.args.sink.now in
    let j : Output = g.K.Sink.seen c.give_ats.new.sink in
    let front = subst (λ (l : List Rebuilt). AppendsFront k.held j.held (rebuilt_text c.args.brief l)) c.as_slice.ensures c.in-Err-Sink.ensures.err in
    hears_unwritten c.args.brief c.args.rebuild.now c.feed.new.self x y n m k j c.args.bytes.now c.in-Ok.heard.ats c.in-Ok.ensures.here c.in-Ok.ensures.held front c.in-Err-Sink.ensures.later (c.in-Err-Sink.ensures.cause (search rules)) t le

pub returns : goal.returns
returns g c = λ x y n m t le.
    let k : Output = g.K.Sink.seen c.args.sink.now in
    let j : Output = g.K.Sink.seen c.give_ats.new.sink in
    let front = subst (λ (l : List Rebuilt). AppendsFront k.held j.held (rebuilt_text c.args.brief l)) c.as_slice.ensures c.in-Err-Memory.ensures.err in
    hears_short c.args.brief c.args.rebuild.now c.feed.new.self x y n m k j c.args.bytes.now c.in-Ok.heard.ats c.in-Ok.ensures.here c.in-Ok.ensures.held front c.in-Err-Memory.ensures.later t le
