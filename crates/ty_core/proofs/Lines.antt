-- The lines of a report, one thing after another.
use Rattle.std.proofs.Common.{◌≡◌, ℕ, ◌+◌, ◌<◌, List, [], ◌∷◌, ◌++◌, length, take, get_or, sym, ap, ◌∙◌, append-nil}
use Rattle.std.proofs.lemmas.List.{take_more}
use Rattle.std.proofs.lemmas.Grind.{flat_map-append}
use Rattle.ty_core.specs.declared.told.Told.{Told}
use Rattle.ty_core.specs.Text.{lines, report_text}

pub lines_more : (ts : List Told) (i : ℕ) (x : Told) → i < length ts → x ≡ get_or ts i x → report_text (take (i + 1) ts) ≡ report_text (take i ts) ++ lines x
lines_more ts i x h is =
    ap report_text (take_more ts i x h)
    ∙ ap (λ (y : Told). report_text (take i ts ++ y ∷ [])) (sym is)
    ∙ flat_map-append lines (take i ts) (x ∷ [])
    ∙ ap (λ l. report_text (take i ts) ++ l) (append-nil (lines x))
