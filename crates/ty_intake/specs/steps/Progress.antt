-- One line, the lines of one piece, the last line, and what they make of a feed.
use Rattle.std.specs.Prelude.{◌≡◌, ℕ, ◌+◌, ◌<◌, ◌≤◌, List, [], ◌∷◌, ◌++◌, length, drop, Option, None, Some, is_some, Bool, true, false, not}
use Rattle.std.specs.List.{filter_map, take_while, list_all}
use Rattle.std.specs.Option.{option_or, option_map_or}
use Rattle.ty_base.specs.declared.item.Item.{Item}
use Rattle.ty_base.specs.declared.limits.TheConstants.{BATCH_UPDATES}
use Rattle.ty_base.specs.Feed.{closings, last_of}
use Rattle.ty_base.specs.Limits.{is_small}
use Rattle.ty_intake.specs.Lines.{Feed, Cut, cut_lines, last_line, fed_with, ended_now}
use Rattle.ty_intake.specs.Line.{item_by}
use Rattle.ty_intake.specs.Faults.{line_fault, first_line_fault, rest_fault, feed_fault}
use Rattle.ty_intake.specs.Batches.{is_good, batches, batches_of, batch_fits}
use Rattle.ty_intake.specs.Held.{IntakeHeld, IntakeIsOpen, IntakeGoesOn}
use Rattle.ty_intake.specs.declared.batch.Closed.{Closed}
use Rattle.ty_intake.specs.declared.progress.Progress.{Progress}
use Rattle.ty_intake.specs.declared.line.Told.{Told}
use Rattle.ty_intake.specs.declared.line.Told.TheVariants.{Gives, Fails}
use Rattle.ty_intake.specs.declared.intake.IntakeFault.{IntakeFault}
use Rattle.ty_intake.specs.declared.intake.IntakeFault.TheVariants.{TooMuch}

-- ---- one line

abbrev pub IsLineTold : ℕ → List ℕ → Told → Type 0
IsLineTold n line (Gives item) = (line_fault n line ≡ None) × (item ≡ item_by line) × (option_map_or is_small item true ≡ true)
IsLineTold n line (Fails fault) = line_fault n line ≡ Some fault

-- ---- lines, one after another

-- the items of the lines before the first fault
abbrev pub items_in : List (List ℕ) → List Item
items_in ls = filter_map item_by (take_while is_good ls)

-- behind `earlier` batches the items have closed those of the progress, and the rest is pending
pub record ProgressFollows (earlier : List Closed) (items : List Item) (r : Progress) : Type 0 where
  pub at : r.cut ≡ last_of 0 (closings false items)
  pub later : r.pending ≡ drop r.cut items
  pub batched : batches false items ≡ earlier ++ r.closed

pub record IsSoundProgress (r : Progress) : Type 0 where
  pub few : length r.pending < BATCH_UPDATES
  pub counted : r.cut + length r.pending ≤ r.lines
  pub fits : list_all is_small r.pending ≡ true
  pub closed_fit : list_all batch_fits r.closed ≡ true

-- these lines were read, up to the first fault
pub record AreLinesRead (ls : List (List ℕ)) (old new : Progress) (fault : Option IntakeFault) : Type 0 where
  pub first : fault ≡ first_line_fault old.lines ls
  pub follows : (earlier : List Closed) (items : List Item) → ProgressFollows earlier items old → ProgressFollows earlier (items ++ items_in ls) new
  pub count : fault ≡ None → new.lines ≡ old.lines + length ls
  pub most : new.lines ≤ old.lines + length ls
  pub sound : IsSoundProgress new

-- ---- a piece

abbrev pub line_then : List ℕ → Cut → Cut
line_then line c = record { lines = line ∷ c.lines; rest = c.rest }

abbrev pub only : List ℕ → Cut
only bytes = record { lines = []; rest = bytes }

-- the lines of a piece behind an unfinished one
abbrev pub behind : List ℕ → List (List ℕ) → List ℕ → Cut
behind rest [] tail = record { lines = []; rest = rest ++ tail }
behind rest (l ∷ ls) tail = record { lines = (rest ++ l) ∷ ls; rest = tail }

-- bytes of an unfinished line behind n others are kept, unless it is too long already
pub record IsKept (n : ℕ) (bytes kept : List ℕ) (fault : Option IntakeFault) : Type 0 where
  pub told : fault ≡ rest_fault n bytes
  pub tail : fault ≡ None → kept ≡ bytes

pub record IsCutRead (c : Cut) (kept : List ℕ) (old new : Progress) (fault : Option IntakeFault) : Type 0 where
  pub inner : Option IntakeFault
  pub read : AreLinesRead c.lines old new inner
  pub told : fault ≡ option_or inner (rest_fault (old.lines + length c.lines) c.rest)
  pub tail : fault ≡ None → kept ≡ c.rest

-- how far a piece is read: what is left of it begins with a line
pub record IsAt (piece left : List ℕ) (old now : Progress) : Type 0 where
  pub done : List (List ℕ)
  pub read : AreLinesRead done old now None
  pub whole : (cut_lines piece).lines ≡ done ++ (cut_lines left).lines
  pub tail : (cut_lines piece).rest ≡ (cut_lines left).rest
  pub shorter : length done + length left ≤ length piece

-- ---- the end

pub record IsEnded (rest : List ℕ) (old new : Progress) (fault : Option IntakeFault) : Type 0 where
  pub first : fault ≡ first_line_fault old.lines (last_line true rest)
  pub batched : (earlier : List Closed) (items : List Item) → ProgressFollows earlier items old
      → batches (not (is_some fault)) (items ++ items_in (last_line true rest)) ≡ earlier ++ new.closed
  pub closed_fit : list_all batch_fits new.closed ≡ true

-- ---- a feed

abbrev pub fault_or_too_much : Bool → Option IntakeFault → Option IntakeFault
fault_or_too_much over (Some w) = Some w
fault_or_too_much true None = Some TooMuch
fault_or_too_much false None = None

abbrev pub progress_of : IntakeHeld → List Closed → Progress
progress_of v closed = record { lines = v.lines; pending = v.pending; cut = v.cut; closed = closed }

-- the front of a piece, up to the limit, is read
pub record IsFrontRead (old new : IntakeHeld) (front : List ℕ) (closed : List Closed) : Type 0 where
  pub now : Progress
  pub moved : IsCutRead (behind old.rest (cut_lines front).lines (cut_lines front).rest) new.rest (progress_of old []) now new.fault
  pub lines : new.lines ≡ now.lines
  pub pending : new.pending ≡ now.pending
  pub cut : new.cut ≡ now.cut
  pub batched : closed ≡ now.closed
  pub seen : new.seen ≡ old.seen + length front
  pub ended : new.ended ≡ old.ended
  pub spent : new.spent ≡ old.spent

pub record IsPieceFed (old new : IntakeHeld) (piece : List ℕ) (closed : List Closed) : Type 0 where
  pub ended : new.ended ≡ old.ended
  pub spent : new.spent ≡ old.spent
  pub fits : list_all batch_fits closed ≡ true
  pub told : (feed : Feed) → feed.ended ≡ false → feed_fault feed ≡ None → IntakeIsOpen old feed → new.fault ≡ feed_fault (fed_with feed piece)
  pub batched : (feed : Feed) → feed.ended ≡ false → feed_fault feed ≡ None → IntakeIsOpen old feed → batches_of (fed_with feed piece) ≡ batches_of feed ++ closed
  pub goes_on : (feed : Feed) → feed.ended ≡ false → feed_fault feed ≡ None → IntakeIsOpen old feed → IntakeGoesOn new.fault false new (fed_with feed piece)

pub record IsFinished (old new : IntakeHeld) (closed : List Closed) : Type 0 where
  pub spent : new.spent ≡ old.spent
  pub ended : new.ended ≡ true
  pub fits : list_all batch_fits closed ≡ true
  pub told : (feed : Feed) → feed.ended ≡ false → feed_fault feed ≡ None → IntakeIsOpen old feed → new.fault ≡ feed_fault (ended_now feed)
  pub batched : (feed : Feed) → feed.ended ≡ false → feed_fault feed ≡ None → IntakeIsOpen old feed → batches_of (ended_now feed) ≡ batches_of feed ++ closed
