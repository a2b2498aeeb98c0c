use Rattle.std.proofs.Common.{◌∙◌, List, ℕ, sym, subst, length}
use Rattle.ty_base.specs.Feed.{cuts}
use Rattle.ty_plain.specs.steps.Scans.{NeverFall}
use Rattle.ty_plain.proofs.Books.{closings_rise}
use Rattle.ty_plain.proofs.cut.cuts.Goals as goal

pub cuts_among-requires : goal.cuts_among-requires
cuts_among-requires c = subst (λ (ps : List ℕ). NeverFall 0 (length c.args.items.now) ps) (sym (c.deref.ensures.value ∙ c.in_ok-closings.ensures)) (closings_rise c.args.ended c.args.items.now)

pub returns : goal.returns
unfolding cuts
returns c = rw (sym (c.deref.ensures.value ∙ c.in_ok-closings.ensures)) c.cuts_among.ensures
