-- What a caller knows of an account, which is one list of entries, possibly closed at its end, and where a spot stands in it.
use Rattle.std.specs.Prelude.{ℕ, ◌≡◌, Bool, true, false, List, [], ◌∷◌, ◌++◌}
use mathlib.Core.List.{IsPrefix}
use Rattle.logbook.specs.Pages.{Book}
use Rattle.ty_base.specs.declared.entry.Entry.{Entry}
use Rattle.ty_account.specs.declared.spot.Walked.{Walked}
use Rattle.ty_account.specs.declared.spot.Walked.TheVariants.{Next, Empty, Closed}

-- which account it is
pub record Name : Type 0 where
  pub book : Book
  pub names : List ℕ

abbrev pub name_of : Book → List ℕ → Name
name_of book names = record { book = book; names = names }

-- a prefix of the account's list, and whether it is known that the list is closed at that length
pub record Known : Type 0 where
  pub account : Name
  pub entries : List Entry
  pub closed : Bool

abbrev pub known : Name → List Entry → Bool → Known
known account entries closed = record { account = account; entries = entries; closed = closed }

-- q is at least as much as p, of the same account: p's list begins q's, and where p's is closed, q is p
pub record KnowsMore (p q : Known) : Type 0 where
  pub account : q.account ≡ p.account
  pub begins : IsPrefix p.entries q.entries
  pub ends : p.closed ≡ true → (q.entries ≡ p.entries) × (q.closed ≡ true)

-- a place in an account's list, by the entries up to there, and the item of its node
pub record Standpoint (X : Type 0) : Type 0 where
  pub account : Name
  pub entries : List Entry
  pub item : X

abbrev pub standpoint : {X : Type 0} → Name → List Entry → X → Standpoint X
standpoint account entries item = record { account = account; entries = entries; item = item }

-- the spot went on by one entry, which the front knows
pub record WentOn {X : Type 0} (old new : Standpoint X) (front : Known) : Type 0 where
  pub entry : Entry
  pub account : new.account ≡ old.account
  pub on : new.entries ≡ old.entries ++ entry ∷ []
  pub known : IsPrefix new.entries front.entries

-- the spot stays, and is at the end of what the front knows
abbrev pub Stays : {X : Type 0} → Standpoint X → Standpoint X → Known → Bool → Type 0
Stays old new front closed = (new ≡ old) × (front.entries ≡ old.entries) × (front.closed ≡ closed)

-- what a step found, of what the front knows by its look
abbrev pub HasWalked : {X : Type 0} → Walked → Standpoint X → Standpoint X → Known → Type 0
HasWalked Next old new front = WentOn old new front
HasWalked Empty old new front = Stays old new front false
HasWalked Closed old new front = Stays old new front true

-- what a step tells that found no later entry
abbrev pub at_rest : Bool → Walked
at_rest true = Closed
at_rest false = Empty
