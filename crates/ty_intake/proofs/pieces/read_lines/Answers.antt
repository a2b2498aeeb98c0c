use Rattle.std.proofs.Common.{◌++◌, ◌∷◌, [], List, ℕ, ap, subst, arith}
use Rattle.std.specs.Prelude.{Option}
use Rattle.ty_intake.specs.steps.Progress.{AreLinesRead, IsCutRead, IsKept}
use Rattle.ty_intake.specs.Lines.{cut_lines}
use Rattle.ty_intake.specs.declared.intake.IntakeFault.{IntakeFault}
use Rattle.ty_intake.proofs.ReadPieces.{at-begin, at-step, at-fault, at-end, if-ok}
use Rattle.ty_intake.proofs.pieces.read_lines.Goals as goal

pub loop-line-init : goal.loop-line-init
loop-line-init c = at-begin c.args.piece.now c.args.progress.now c.requires.sound

pub returns-in-Some-2 : goal.returns-in-Some-2
returns-in-Some-2 c =
    let P : Option IntakeFault → Type 0 = λ o. AreLinesRead (c.in-Some.line.now ∷ []) c.loop-line.progress c.add_line.new.progress o in
    at-fault c.args.piece.now c.loop-line.left.now c.in-Some.line.now c.in-Some.more.now c.args.rest.now.items c.args.progress.now c.loop-line.progress c.add_line.new.progress c.in-Some-2.fault
    c.loop-line.invariant c.in-Some.ensures.line (subst P c.in-Some-2.is c.in_ok-fault.ensures)

pub loop-line-preserved : goal.loop-line-preserved
loop-line-preserved c =
    let P : Option IntakeFault → Type 0 = λ o. AreLinesRead (c.in-Some.line.now ∷ []) c.loop-line.progress c.add_line.new.progress o in
    at-step c.args.piece.now c.loop-line.left.now c.in-Some.line.now c.in-Some.more.now c.args.progress.now c.loop-line.progress c.add_line.new.progress
    c.loop-line.invariant c.in-Some.ensures.line (omega (arith, c.in-Some.ensures.shorter)) (subst P c.in_default-2.is c.in_ok-fault.ensures)

pub returns : goal.returns
returns c =
    let kept : List ℕ = c.keep.new.rest.items in
    if-ok c.keep.result
    (IsKept c.loop-line.progress.lines (c.args.rest.now.items ++ c.loop-line.left.now) kept)
    (IsCutRead (cut_lines c.args.piece.now) kept c.args.progress.now c.loop-line.progress)
    (λ f k.
    let P : List ℕ → Type 0 = λ bytes. IsKept c.loop-line.progress.lines bytes kept f in
    at-end c.args.piece.now c.loop-line.left.now kept c.args.progress.now c.loop-line.progress f c.loop-line.invariant c.in_default.ensures.rest
    (subst P (ap (λ (r : List ℕ). r ++ c.loop-line.left.now) c.requires.empty) k))
    c.keep.ensures
