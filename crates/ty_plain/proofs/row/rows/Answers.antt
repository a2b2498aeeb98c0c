use Rattle.std.proofs.Common.{refl}
use Rattle.ty_base.specs.Feed.{cuts_after, cuts, closings, book, deltas}
use Rattle.ty_plain.proofs.row.rows.Goals as goal

pub returns : goal.returns
unfolding cuts_after cuts closings book deltas
returns c = record {
  nothing = refl;
  unfinished = refl;
  ready = refl;
  held = refl;
  replaced = refl;
  deleted = refl;
  kinds = refl;
  many_closings = refl;
  many_cuts = refl;
  many_deltas = refl;
}
