use Rattle.std.proofs.Common.{◌++◌, ◌∷◌, [], List, ℕ, subst, ◌∙◌}
use Rattle.std.specs.Prelude.{Option, Some, None}
use Rattle.ty_intake.specs.Lines.{Cut, cut_lines}
use Rattle.ty_intake.specs.steps.Progress.{AreLinesRead, IsCutRead, IsKept, behind}
use Rattle.ty_intake.specs.declared.intake.IntakeFault.{IntakeFault}
use Rattle.ty_intake.proofs.ReadPieces.{only-rest, first-then, first-fails, behind-found, behind-all, if-ok}
use Rattle.ty_intake.proofs.pieces.read_piece.Goals as goal

pub returns-in_default : goal.returns-in_default
returns-in_default c =
    let kept : List ℕ = c.keep.new.rest.items in
    let rest : List ℕ = c.args.rest.now.items in
    let piece : List ℕ = c.args.piece.now in
    if-ok c.keep.result
    (IsKept c.args.progress.now.lines (rest ++ piece) kept)
    (IsCutRead (behind rest (cut_lines piece).lines (cut_lines piece).rest) kept c.args.progress.now c.args.progress.now)
    (λ f k.
    let P : Cut → Type 0 = λ d. IsCutRead d kept c.args.progress.now c.args.progress.now f in
    subst P (behind-all rest piece c.in_default.ensures.rest) (only-rest (rest ++ piece) kept c.args.progress.now f c.requires.sound k))
    c.keep.ensures

pub returns-in-Some-fault : goal.returns-in-Some-fault
returns-in-Some-fault c =
    let rest : List ℕ = c.args.rest.now.items in
    let piece : List ℕ = c.args.piece.now in
    let line : List ℕ = c.in-Some.line.now in
    let more : Cut = cut_lines c.in-Some.more.now in
    let P : Cut → Type 0 = λ d. IsCutRead d c.empty.new.rest.items c.args.progress.now c.add_line.new.progress (Some c.in-Some-fault.fault) in
    let Q : List ℕ → Type 0 = λ l. AreLinesRead (l ∷ []) c.args.progress.now c.add_line.new.progress c.in_ok-fault.fault in
    let R : Option IntakeFault → Type 0 = λ o. AreLinesRead ((rest ++ line) ∷ []) c.args.progress.now c.add_line.new.progress o in
    subst P (behind-found rest piece line more c.in-Some.ensures.line)
    (first-fails (rest ++ line) more c.empty.new.rest.items c.args.progress.now c.add_line.new.progress c.in-Some-fault.fault
    (subst R c.in-Some-fault.is (subst Q (c.deref.ensures.value ∙ c.in_ok-extend_from_slice.ensures.items) c.in_ok-fault.ensures)))

pub returns-in-None : goal.returns-in-None
returns-in-None c =
    let rest : List ℕ = c.args.rest.now.items in
    let piece : List ℕ = c.args.piece.now in
    let line : List ℕ = c.in-Some.line.now in
    let more : Cut = cut_lines c.in-Some.more.now in
    let kept : List ℕ = c.read_lines-in-None.new.rest.items in
    let Q : List ℕ → Type 0 = λ l. AreLinesRead (l ∷ []) c.args.progress.now c.add_line.new.progress c.in_ok-fault.fault in
    let R : Option IntakeFault → Type 0 = λ o. AreLinesRead ((rest ++ line) ∷ []) c.args.progress.now c.add_line.new.progress o in
    let first : R None = subst R c.in-None.is (subst Q (c.deref.ensures.value ∙ c.in_ok-extend_from_slice.ensures.items) c.in_ok-fault.ensures) in
    if-ok c.read_lines-in-None.result
    (IsCutRead more kept c.add_line.new.progress c.read_lines-in-None.new.progress)
    (IsCutRead (behind rest (cut_lines piece).lines (cut_lines piece).rest) kept c.args.progress.now c.read_lines-in-None.new.progress)
    (λ f m.
    let P : Cut → Type 0 = λ d. IsCutRead d kept c.args.progress.now c.read_lines-in-None.new.progress f in
    subst P (behind-found rest piece line more c.in-Some.ensures.line)
    (first-then (rest ++ line) more kept c.args.progress.now c.add_line.new.progress c.read_lines-in-None.new.progress f first m))
    c.read_lines-in-None.ensures
