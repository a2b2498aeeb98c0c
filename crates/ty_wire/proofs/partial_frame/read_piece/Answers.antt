use Rattle.std.proofs.lemmas.List.{take_rest}
use Rattle.ty_wire.proofs.Moved.{behind_none, read-on, read-fault}
use Rattle.ty_wire.proofs.partial_frame.read_piece.Goals as goal

pub returns-in_ok-extend_from_slice-in-None : goal.returns-in_ok-extend_from_slice-in-None
returns-in_ok-extend_from_slice-in-None c = read-on c.args.count c.args.msgs c.args.piece.now c.extend_from_slice.new.self.items c.in_ok-found.found c.in_ok-found.ensures c.in-None.is
    (behind_none _ _ _ _ c.in_ok-extend_from_slice-in-None.ensures.ok c.requires.empty (take_rest c.args.piece.now c.in_ok-found.found.used))

pub returns-in-Some : goal.returns-in-Some
returns-in-Some c = read-fault c.args.count c.args.msgs c.args.piece.now c.args.rest.now.items c.in_ok-found.found c.in-Some.fault c.in_ok-found.ensures c.in-Some.is c.requires.empty
