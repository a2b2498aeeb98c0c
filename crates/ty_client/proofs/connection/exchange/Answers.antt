use Rattle.ty_client.proofs.Linked.{stops_first, takes_then}
use Rattle.ty_client.proofs.connection.exchange.Goals as goal

pub returns-in-Ok-clause-came : goal.returns-in-Ok-clause-came
returns-in-Ok-clause-came g c = takes_then c.args.brief _ _ _ c.take_piece.result (c.in-Ok.ensures.came c.args.brief (g.K.Sink.seen c.args.sink.now)) (c.take_piece.ensures.came c.in-Ok.ensures.all)

pub returns-in-Err-clause-came : goal.returns-in-Err-clause-came
returns-in-Err-clause-came g c = stops_first c.args.brief _ _ c.in-Err.fault (c.in-Err.ensures.came c.args.brief (g.K.Sink.seen c.args.sink.now))
