use Rattle.std.proofs.Common.{rules, subst, arith, drop, length, get_or, ◌≡◌, ◌<◌, ◌-◌, ◌+◌, ◌++◌}
use Rattle.std.proofs.lemmas.Grind.{common_steps}
use Rattle.ty_base.specs.Links.{Takes}
use Rattle.ty_base.specs.MemoryLinks.{MemoryLink}
use Rattle.ty_base.specs.declared.link.Took.TheVariants.{Quiet, Bytes}
use Rattle.ty_base.specs.declared.piece.Piece.TheVariants as piece
use Rattle.ty_base.proofs.Places.{place, left_here, copied_part, copied_whole, quiet_taken, whole_taken, part_taken}
use Rattle.ty_base.proofs.memory_link.MemLinkLink.take.Goals as goal

pub returns-in-Some-Quiet-clause-taken : goal.returns-in-Some-Quiet-clause-taken
returns-in-Some-Quiet-clause-taken c =
    let i = c.self.inside in
    subst (λ (s : MemoryLink). Takes Quiet c.args.buf.now s.sight (place i.given.items i.pieces.items (i.next + 1) 0 i.ended)) c.self.view_is
    (quiet_taken i.given.items c.args.buf.now i.pieces.items i.next i.at i.ended (search rules) (search rules))

pub returns-then-len-rest-clause-taken : goal.returns-then-len-rest-clause-taken
returns-then-len-rest-clause-taken c =
    let i = c.self.inside in
    let v = c.in-Some-Bytes.bytes in
    let n = c.min-len.result in
    let copied = c.copy_from_slice.new.self in
    let back = drop n c.args.buf.now in
    let within : i.next < length i.pieces.items = search rules in
    let is : get_or i.pieces.items i.next (piece.Bytes v) ≡ piece.Bytes v = search rules in
    subst (λ (s : MemoryLink). Takes (Bytes n) (copied ++ back) s.sight (place i.given.items i.pieces.items (i.next + 1) 0 i.ended)) c.self.view_is
    (whole_taken i.given.items (copied ++ back) i.pieces.items i.next i.at i.ended {v = v} n within is (left_here i.pieces.items i.next i.at v within is c.self.invariant.1)
    (copied_whole v.items copied back i.at n (length v.items - i.at) (grind (arith, common_steps)) (grind (arith, common_steps)) (search rules) (grind (arith, common_steps))))

pub returns-else-len-rest-clause-taken : goal.returns-else-len-rest-clause-taken
returns-else-len-rest-clause-taken c =
    let i = c.self.inside in
    let v = c.in-Some-Bytes.bytes in
    let n = c.min-len.result in
    let copied = c.copy_from_slice.new.self in
    let back = drop n c.args.buf.now in
    let within : i.next < length i.pieces.items = search rules in
    let is : get_or i.pieces.items i.next (piece.Bytes v) ≡ piece.Bytes v = search rules in
    subst (λ (s : MemoryLink). Takes (Bytes n) (copied ++ back) s.sight (place i.given.items i.pieces.items i.next (i.at + n) i.ended)) c.self.view_is
    (part_taken i.given.items (copied ++ back) i.pieces.items i.next i.at i.ended {v = v} n within is (left_here i.pieces.items i.next i.at v within is c.self.invariant.1)
    (copied_part v.items copied back i.at n (length v.items - i.at) (grind (arith, common_steps)) (grind (arith, common_steps)) (search rules)))
