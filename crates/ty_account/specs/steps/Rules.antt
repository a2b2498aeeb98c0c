-- The rule of an account's book.
use Rattle.std.specs.Prelude.{ℕ, ◌≡◌, ◌==◌, Option, Some, Bool, true, false, List, [], ◌∷◌, ◌++◌, length}
use Rattle.logbook.specs.Pages.{Cell, Book, Named, Step, View}
use mathlib.Core.List.{IsPrefix}
use Rattle.ty_base.specs.declared.entry.Entry.{Entry}
use Rattle.ty_account.specs.declared.history.Mark.{Mark}
use Rattle.ty_account.specs.declared.history.Mark.TheVariants.{Opened, Entered, Closed}
use Rattle.ty_account.specs.steps.Replies.{Reply}
use Rattle.ty_account.specs.steps.Histories.{is_legal, word_of, IsChain}

-- the word of a book
abbrev pub word_in : Book → Named
word_in book = record { tracked = true; key = 0; book = book }

module _ {X : Type 0} where
  -- what a step adds to the history that asks for this mark, and was or was not let
  abbrev pub added_by : Bool → Mark X → List (Mark X)
  added_by true (Opened p x) = []
  added_by true (Entered e p x) = Entered e p x ∷ []
  added_by true Closed = Closed ∷ []
  added_by false m = []

  -- a step adds the mark that it asks for, or leaves the history, and says which, how long the history was, and what it is
  abbrev pub Moved : Mark X → List (Mark X) → List (Mark X) → Reply X → Type 0
  Moved mark before after reply = (reply.found ≡ length before) × (after ≡ before ++ added_by reply.added mark) × (reply.all ≡ after)

  -- the step ran, and tells this history
  abbrev pub Told : Option (Reply X) → List (Mark X) → Type 0
  Told state log = (r : Reply X) × (state ≡ Some r) × (r.all ≡ log)

  module _ (stands : X → List Entry → Type 0) where
    -- the word says the history's length and closing, and the nodes are a chain
    pub record IsRuled (cells : List Cell) (history : List (Mark X)) : Type 0 where
      pub words : cells ≡ (word_of history, true) ∷ []
      pub legal : is_legal history ≡ true
      pub chain : IsChain stands history

    -- a look at the word saw the history so far, and tells it
    pub record Looks (s : Step (Mark X)) (v : View (Mark X) (Reply X)) (found : ℕ) (w : View (Mark X) (Reply X)) : Type 0 where
      pub word : found ≡ word_of w.0
      pub legal : is_legal w.0 ≡ true
      pub chain : IsChain stands w.0
      pub told : Told w.1.1 w.0

    -- a step found some history, which begins with what was seen, and added the mark exactly where the word was the expected one
    pub record Adds (s : Step (Mark X)) (v : View (Mark X) (Reply X)) (found : ℕ) (w : View (Mark X) (Reply X)) : Type 0 where
      pub before : List (Mark X)
      pub reply : Reply X
      pub seen : IsPrefix v.0 before
      pub legal : is_legal before ≡ true
      pub word : word_of before ≡ found
      pub moved : Moved s.ask before w.0 reply
      pub added : reply.added ≡ (found == s.old)
      pub ran : w.1.1 ≡ Some reply
