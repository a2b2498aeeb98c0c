-- The types of the tokens of an account, by the row of its items.
use Rattle.std.proofs.Common.{[], ◌∷◌}
use denote.RattleType.{RattleType}
use denote.Struct.Tuple.{Tuple}
use Rattle.logbook.specs.contracts.tokens.Start as Start
use Rattle.logbook.specs.contracts.tokens.Seen as Seen
use Rattle.logbook.specs.contracts.tokens.Offer as Offer
use Rattle.logbook.specs.contracts.tokens.Gained as Gained
use Rattle.logbook.specs.declared.tokens.Gain as gain
use Rattle.ty_account.specs.declared.standing.Standing.{Ghosts}
use Rattle.ty_account.specs.contracts.history.Mark as Mark
use Rattle.ty_account.specs.contracts.history.Report as Report
use Rattle.ty_account.specs.contracts.history.Law as Law
use Rattle.ty_account.specs.contracts.history.LawRuleMarkReply.TheImpl as law

module _ (R : RattleType) (g : Ghosts R.Denot) where
  abbrev pub StartRow : RattleType
  StartRow = Start.the_row (Mark.the_row R) (Report.the_row (Mark.the_row R)) (Law.the_row R) (law.ghosts R g law.no_dict)

  abbrev pub SeenRow : RattleType
  SeenRow = Seen.the_row (Mark.the_row R) (Report.the_row (Mark.the_row R)) (Law.the_row R) (law.ghosts R g law.no_dict)

  module _ (G : RattleType) (gains : gain.Ghosts G.Denot (Mark.the_row R).Denot (Report.the_row (Mark.the_row R)).Denot) where
    abbrev pub OfferRow : RattleType
    OfferRow = Offer.the_row (Mark.the_row R) (Report.the_row (Mark.the_row R)) (Law.the_row R) G (law.ghosts R g law.no_dict) gains

    abbrev pub GainedRow : RattleType
    GainedRow = Gained.the_row (Mark.the_row R) (Report.the_row (Mark.the_row R)) G gains

-- what their markers name
abbrev pub Starts : RattleType → RattleType
Starts R = Tuple (Mark.the_row R ∷ Report.the_row (Mark.the_row R) ∷ Law.the_row R ∷ [])

abbrev pub Offers : RattleType → RattleType → RattleType
Offers R G = Tuple (Mark.the_row R ∷ Report.the_row (Mark.the_row R) ∷ Law.the_row R ∷ G ∷ [])

abbrev pub Gains : RattleType → RattleType → RattleType
Gains R G = Tuple (Mark.the_row R ∷ Report.the_row (Mark.the_row R) ∷ G ∷ [])
