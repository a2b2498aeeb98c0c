use Rattle.std.proofs.Common.{refl}
use Rattle.ty_base.specs.Devices.{seen}
use Rattle.ty_words.specs.Words.{command_of}
use Rattle.ty_top.specs.Program.{around}
use Rattle.ty_top.proofs.Runs.{completing, done, failing, following, following_whole, host_fits, serving, serving_whole}
use Rattle.ty_top.proofs.program.top.Goals as goal

pub returns-in-Done-clause-ended : goal.returns-in-Done-clause-ended
returns-in-Done-clause-ended g c =
    let e = c.local.ensures.ended in
    done g.D.Door.gave g.D.Door.got g.D.Door.count g.D.Door.sight g.D.Link.Link.sight g.D.Link.Link.count (g.C.Clock.gives c.args.clock.now)
    (command_of c.args.words.now) c.in-Done.status
    (around (g.S.Source.seen c.args.source.now) (g.K.Sink.seen c.args.sink.now) (g.E.Sink.seen c.args.notes.now) c.args.doors.now.items c.args.dial.now)
    (around (g.S.Source.seen c.local.new.source) (g.K.Sink.seen c.local.new.sink) (g.E.Sink.seen c.local.new.notes) c.args.doors.now.items c.args.dial.now)
    e.0 c.local.result e.1 e.2 c.in-Done.is refl refl

pub returns-in-Serve-clause-ended : goal.returns-in-Serve-clause-ended
returns-in-Serve-clause-ended g c =
    let e = c.local.ensures.ended in
    serving g.D.Door.gave g.D.Door.got g.D.Door.count g.D.Door.sight g.D.Link.Link.sight g.D.Link.Link.count (g.C.Clock.gives c.args.clock.now)
    (command_of c.args.words.now) c.status.result
    (around (g.S.Source.seen c.args.source.now) (g.K.Sink.seen c.args.sink.now) (g.E.Sink.seen c.args.notes.now) c.args.doors.now.items c.args.dial.now)
    (around (g.S.Source.seen c.serve_source.new.source) (g.K.Sink.seen c.local.new.sink) (g.E.Sink.seen c.tell_of_links.new.notes) c.serve_source.new.doors.items c.args.dial.now)
    e.0 c.local.result c.in-Serve.field-0 c.serve_source.result
    (seen (g.S.Source.seen c.local.new.source) (g.K.Sink.seen c.local.new.sink)) (g.E.Sink.seen c.local.new.notes)
    e.1 e.2 c.in-Serve.is c.status.ensures c.serve_source.ensures.serves c.tell_of_links.ensures refl refl

pub returns-in-Serve-clause-door : goal.returns-in-Serve-clause-door
returns-in-Serve-clause-door g c =
    failing g.D.Door.gave g.D.Door.got g.D.Door.count g.D.Door.sight g.D.Link.Link.sight g.D.Link.Link.count (g.C.Clock.gives c.args.clock.now)
    (command_of c.args.words.now) c.status.result
    (around (g.S.Source.seen c.args.source.now) (g.K.Sink.seen c.args.sink.now) (g.E.Sink.seen c.args.notes.now) c.args.doors.now.items c.args.dial.now)
    (around (g.S.Source.seen c.serve_source.new.source) (g.K.Sink.seen c.local.new.sink) (g.E.Sink.seen c.tell_of_links.new.notes) c.serve_source.new.doors.items c.args.dial.now)
    (returns-in-Serve-clause-ended g c)

pub follow_dialled-requires-after_bounds : goal.follow_dialled-requires-after_bounds
follow_dialled-requires-after_bounds g c κs within =
    let e = c.local.ensures.ended in
    host_fits e.0 c.local.result c.in-Follow.words (command_of c.args.words.now)
    (seen (g.S.Source.seen c.args.source.now) (g.K.Sink.seen c.args.sink.now)) (seen (g.S.Source.seen c.local.new.source) (g.K.Sink.seen c.local.new.sink))
    (g.E.Sink.seen c.args.notes.now) (g.E.Sink.seen c.local.new.notes) e.1 e.2 c.in-Follow.is (c.hosts_fit.ensures c.args.words.now)

pub returns-clause-ended : goal.returns-clause-ended
returns-clause-ended g c =
    let e = c.local.ensures.ended in
    following g.D.Door.gave g.D.Door.got g.D.Door.count g.D.Door.sight g.D.Link.Link.sight g.D.Link.Link.count (g.C.Clock.gives c.args.clock.now)
    (command_of c.args.words.now) c.status-in-Follow.result
    (around (g.S.Source.seen c.args.source.now) (g.K.Sink.seen c.args.sink.now) (g.E.Sink.seen c.args.notes.now) c.args.doors.now.items c.args.dial.now)
    (around (g.S.Source.seen c.local.new.source) (g.K.Sink.seen c.follow_dialled.new.sink) (g.E.Sink.seen c.tell_of_links-in-Follow.new.notes) c.args.doors.now.items c.follow_dialled.new.dial)
    e.0 c.local.result c.in-Follow.words c.follow_dialled.result
    (seen (g.S.Source.seen c.local.new.source) (g.K.Sink.seen c.local.new.sink)) (g.E.Sink.seen c.local.new.notes)
    e.1 e.2 c.in-Follow.is c.status-in-Follow.ensures c.follow_dialled.ensures.follows c.tell_of_links-in-Follow.ensures refl refl

pub returns-in-Done-clause-complete : goal.returns-in-Done-clause-complete
returns-in-Done-clause-complete g c =
    completing g.D.Door.gave g.D.Door.got g.D.Door.count g.D.Door.sight g.D.Link.Link.sight g.D.Link.Link.count (g.C.Clock.gives c.args.clock.now)
    (command_of c.args.words.now) c.in-Done.status
    (around (g.S.Source.seen c.args.source.now) (g.K.Sink.seen c.args.sink.now) (g.E.Sink.seen c.args.notes.now) c.args.doors.now.items c.args.dial.now)
    (around (g.S.Source.seen c.local.new.source) (g.K.Sink.seen c.local.new.sink) (g.E.Sink.seen c.local.new.notes) c.args.doors.now.items c.args.dial.now)
    (returns-in-Done-clause-ended g c)

pub returns-in-Serve-clause-complete : goal.returns-in-Serve-clause-complete
returns-in-Serve-clause-complete g c =
    completing g.D.Door.gave g.D.Door.got g.D.Door.count g.D.Door.sight g.D.Link.Link.sight g.D.Link.Link.count (g.C.Clock.gives c.args.clock.now)
    (command_of c.args.words.now) c.status.result
    (around (g.S.Source.seen c.args.source.now) (g.K.Sink.seen c.args.sink.now) (g.E.Sink.seen c.args.notes.now) c.args.doors.now.items c.args.dial.now)
    (around (g.S.Source.seen c.serve_source.new.source) (g.K.Sink.seen c.local.new.sink) (g.E.Sink.seen c.tell_of_links.new.notes) c.serve_source.new.doors.items c.args.dial.now)
    (returns-in-Serve-clause-ended g c)

pub returns-clause-complete : goal.returns-clause-complete
returns-clause-complete g c =
    completing g.D.Door.gave g.D.Door.got g.D.Door.count g.D.Door.sight g.D.Link.Link.sight g.D.Link.Link.count (g.C.Clock.gives c.args.clock.now)
    (command_of c.args.words.now) c.status-in-Follow.result
    (around (g.S.Source.seen c.args.source.now) (g.K.Sink.seen c.args.sink.now) (g.E.Sink.seen c.args.notes.now) c.args.doors.now.items c.args.dial.now)
    (around (g.S.Source.seen c.local.new.source) (g.K.Sink.seen c.follow_dialled.new.sink) (g.E.Sink.seen c.tell_of_links-in-Follow.new.notes) c.args.doors.now.items c.follow_dialled.new.dial)
    (returns-clause-ended g c)

pub returns-in-Done-clause-serve_complete : goal.returns-in-Done-clause-serve_complete
returns-in-Done-clause-serve_complete g c =
    serving_whole g.D.Door.gave g.D.Door.got g.D.Door.count g.D.Door.sight g.D.Link.Link.sight g.D.Link.Link.count (g.C.Clock.gives c.args.clock.now)
    (command_of c.args.words.now) c.in-Done.status
    (around (g.S.Source.seen c.args.source.now) (g.K.Sink.seen c.args.sink.now) (g.E.Sink.seen c.args.notes.now) c.args.doors.now.items c.args.dial.now)
    (around (g.S.Source.seen c.local.new.source) (g.K.Sink.seen c.local.new.sink) (g.E.Sink.seen c.local.new.notes) c.args.doors.now.items c.args.dial.now)
    (returns-in-Done-clause-ended g c)

pub returns-in-Done-clause-follow_complete : goal.returns-in-Done-clause-follow_complete
returns-in-Done-clause-follow_complete g c =
    following_whole g.D.Door.gave g.D.Door.got g.D.Door.count g.D.Door.sight g.D.Link.Link.sight g.D.Link.Link.count (g.C.Clock.gives c.args.clock.now)
    (command_of c.args.words.now) c.in-Done.status
    (around (g.S.Source.seen c.args.source.now) (g.K.Sink.seen c.args.sink.now) (g.E.Sink.seen c.args.notes.now) c.args.doors.now.items c.args.dial.now)
    (around (g.S.Source.seen c.local.new.source) (g.K.Sink.seen c.local.new.sink) (g.E.Sink.seen c.local.new.notes) c.args.doors.now.items c.args.dial.now)
    (returns-in-Done-clause-ended g c)

pub returns-in-Serve-clause-serve_complete : goal.returns-in-Serve-clause-serve_complete
returns-in-Serve-clause-serve_complete g c =
    serving_whole g.D.Door.gave g.D.Door.got g.D.Door.count g.D.Door.sight g.D.Link.Link.sight g.D.Link.Link.count (g.C.Clock.gives c.args.clock.now)
    (command_of c.args.words.now) c.status.result
    (around (g.S.Source.seen c.args.source.now) (g.K.Sink.seen c.args.sink.now) (g.E.Sink.seen c.args.notes.now) c.args.doors.now.items c.args.dial.now)
    (around (g.S.Source.seen c.serve_source.new.source) (g.K.Sink.seen c.local.new.sink) (g.E.Sink.seen c.tell_of_links.new.notes) c.serve_source.new.doors.items c.args.dial.now)
    (returns-in-Serve-clause-ended g c)

pub returns-in-Serve-clause-follow_complete : goal.returns-in-Serve-clause-follow_complete
returns-in-Serve-clause-follow_complete g c =
    following_whole g.D.Door.gave g.D.Door.got g.D.Door.count g.D.Door.sight g.D.Link.Link.sight g.D.Link.Link.count (g.C.Clock.gives c.args.clock.now)
    (command_of c.args.words.now) c.status.result
    (around (g.S.Source.seen c.args.source.now) (g.K.Sink.seen c.args.sink.now) (g.E.Sink.seen c.args.notes.now) c.args.doors.now.items c.args.dial.now)
    (around (g.S.Source.seen c.serve_source.new.source) (g.K.Sink.seen c.local.new.sink) (g.E.Sink.seen c.tell_of_links.new.notes) c.serve_source.new.doors.items c.args.dial.now)
    (returns-in-Serve-clause-ended g c)

pub returns-clause-serve_complete : goal.returns-clause-serve_complete
returns-clause-serve_complete g c =
    serving_whole g.D.Door.gave g.D.Door.got g.D.Door.count g.D.Door.sight g.D.Link.Link.sight g.D.Link.Link.count (g.C.Clock.gives c.args.clock.now)
    (command_of c.args.words.now) c.status-in-Follow.result
    (around (g.S.Source.seen c.args.source.now) (g.K.Sink.seen c.args.sink.now) (g.E.Sink.seen c.args.notes.now) c.args.doors.now.items c.args.dial.now)
    (around (g.S.Source.seen c.local.new.source) (g.K.Sink.seen c.follow_dialled.new.sink) (g.E.Sink.seen c.tell_of_links-in-Follow.new.notes) c.args.doors.now.items c.follow_dialled.new.dial)
    (returns-clause-ended g c)

pub returns-clause-follow_complete : goal.returns-clause-follow_complete
returns-clause-follow_complete g c =
    following_whole g.D.Door.gave g.D.Door.got g.D.Door.count g.D.Door.sight g.D.Link.Link.sight g.D.Link.Link.count (g.C.Clock.gives c.args.clock.now)
    (command_of c.args.words.now) c.status-in-Follow.result
    (around (g.S.Source.seen c.args.source.now) (g.K.Sink.seen c.args.sink.now) (g.E.Sink.seen c.args.notes.now) c.args.doors.now.items c.args.dial.now)
    (around (g.S.Source.seen c.local.new.source) (g.K.Sink.seen c.follow_dialled.new.sink) (g.E.Sink.seen c.tell_of_links-in-Follow.new.notes) c.args.doors.now.items c.follow_dialled.new.dial)
    (returns-clause-ended g c)
