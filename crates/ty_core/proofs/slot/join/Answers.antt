use Rattle.std.proofs.Common.{◌≡◌, false, refl, sym, ◌∙◌, true≢false}
use Rattle.std.specs.Prelude.{Option, None, Some, is_some}
use Rattle.ty_session.specs.Held.{SessionHeld}
use Rattle.ty_core.proofs.Opening.{joins_open}
use Rattle.ty_core.proofs.slot.join.Goals as goal

none_of : (o : Option SessionHeld) → is_some o ≡ false → o ≡ None
none_of None e = refl
none_of (Some x) e = absurd (true≢false e)

pub returns : goal.returns
returns c = λ es k st.
    joins_open c.args.slot.now c.open.new.rebuild c.in_ok-session.session es k c.args.c c.args.now c.in_ok-one.field-0.items (none_of c.args.slot.now.session (sym c.is_some.ensures ∙ c.if-is_some.false)) c.in_ok-one.ensures c.open.ensures.held
    (c.in_ok-session.ensures.link es) st
