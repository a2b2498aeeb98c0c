-- How many bytes an unfinished line may have.
use Rattle.std.proofs.Common.{◌≡◌, ◌≤◌, ◌∙◌, ap, sym, refl, subst, ℕ, ◌+◌, Bool, true, false, List, length, true≢false}
use Rattle.std.specs.Prelude.{Option, None, Some, is_some, if◌then◌else◌}
use Rattle.std.proofs.lemmas.Bool.{ltb-false}
use Rattle.ty_base.specs.declared.limits.TheConstants.{LINE_BYTES}
use Rattle.ty_intake.specs.Lines.{Feed}
use Rattle.ty_intake.specs.Faults.{is_too_long, rest_fault, feed_fault}
use Rattle.ty_intake.specs.Held.{IntakeHeld, IntakeIsOpen, IntakeGoesOn, IntakeStands}
use Rattle.ty_intake.specs.declared.intake.IntakeFault.{IntakeFault}
use Rattle.ty_intake.specs.declared.intake.IntakeFault.TheVariants.{LongLine}
use Rattle.ty_intake.proofs.OpenFeeds.{clear-of, cut-is}
use Rattle.ty_intake.proofs.StoppedFeeds.{cut_part}

short-line : (n : ℕ) (rest : List ℕ) → rest_fault n rest ≡ None → length rest ≤ LINE_BYTES
short-line n rest e =
    elim (is_too_long rest) as (λ b. is_too_long rest ≡ b → (if b then Some (LongLine (n + 1)) else None) ≡ None → length rest ≤ LINE_BYTES) [
      | true ↦ λ t f. cc
      | false ↦ λ t f. ltb-false LINE_BYTES (length rest) t
    ] refl e

short-by : (bytes : List ℕ) (ended : Bool) → ended ≡ false → feed_fault (record { bytes = bytes; ended = ended }) ≡ None → length (cut_part bytes).rest ≤ LINE_BYTES
short-by bytes true e f = absurd (true≢false e)
short-by bytes false e f = short-line (length (cut_part bytes).lines) (cut_part bytes).rest (clear-of bytes f).by_rest

is-open : (o : Option IntakeFault) (b : Bool) (v : IntakeHeld) (feed : Feed) → is_some o ≡ false → b ≡ false → IntakeGoesOn o b v feed → (o ≡ None) × IntakeIsOpen v feed
is-open None false v feed e f g = (refl, g)
is-open None true v feed e f g = absurd (true≢false f)
is-open (Some w) b v feed e f g = absurd (true≢false e)

pub rest-short : (v : IntakeHeld) (feed : Feed) → v.ended ≡ false → is_some v.fault ≡ false → IntakeStands v feed → length v.rest ≤ LINE_BYTES
rest-short v feed e f h =
    let o = is-open v.fault v.ended v feed f e h.goes_on in
    let P : List ℕ → Type 0 = λ r. length r ≤ LINE_BYTES in
    subst P (sym (o.1.rest ∙ ap (λ c. c.rest) (cut-is feed.bytes feed.ended))) (short-by feed.bytes feed.ended (sym h.ended ∙ e) (sym h.fault ∙ o.0))
