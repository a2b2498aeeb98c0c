-- A feed without bytes.
use Rattle.std.proofs.Common.{◌≡◌, ℕ, List, [], refl, false}
use Rattle.std.specs.Prelude.{None}
use Rattle.ty_base.specs.declared.item.Item.{Item}
use Rattle.ty_base.specs.Feed.{closings}
use Rattle.ty_intake.specs.Lines.{no_feed, cut_lines, cut_of, lines_of}
use Rattle.ty_intake.specs.Faults.{first_line_fault, feed_fault}
use Rattle.ty_intake.specs.Batches.{items_of}
use Rattle.ty_intake.specs.Held.{IntakeStands}

pub starts : (rest : List ℕ) (pending : List Item) → rest ≡ [] → pending ≡ [] → IntakeStands (record { rest = rest; lines = 0; seen = 0; pending = pending; cut = 0; fault = None; ended = false; spent = false }) no_feed
unfolding feed_fault first_line_fault items_of lines_of cut_of cut_lines closings
starts rest pending r p = record {
  unspent = refl;
  fault = refl;
  ended = refl;
  goes_on = record { rest = r; lines = refl; seen = refl; cut = refl; pending = p };
}
