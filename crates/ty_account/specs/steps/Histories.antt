-- Histories of marks, and what they say of an account and of its nodes.
use Rattle.std.specs.Prelude.{ℕ, zero, suc, ◌≡◌, ◌+◌, ◌*◌, Bool, true, false, List, [], ◌∷◌, ◌++◌, length, take, Option, None, Some}
use Rattle.std.specs.Coded.{Unit-prop}
use mathlib.Core.HLevel.{⊥_prop}
use denote.RawPtr.{Ptr, null_ptr}
use Rattle.logbook.specs.Pages.{Book}
use Rattle.ty_base.specs.declared.entry.Entry.{Entry}
use Rattle.ty_account.specs.declared.node.Node.{Node}
use Rattle.ty_account.specs.declared.node.Place.{Place}
use Rattle.ty_account.specs.declared.history.Mark.{Mark}
use Rattle.ty_account.specs.declared.history.Mark.TheVariants.{Opened, Entered, Closed}
use Rattle.ty_account.specs.Known.{Known, known, name_of}

-- the word that says what is known: twice the number of entries, and one more where the list is closed
abbrev pub bit : Bool → ℕ
bit true = 1
bit false = 0

abbrev pub word_for : Known → ℕ
word_for k = 2 * length k.entries + bit k.closed

-- a node's address, and what stands there
abbrev pub Site : Type 0 → Type 0
Site X = Ptr × Place X

module _ {X : Type 0} where
  -- the entries before a close
  abbrev pub entries_in : List (Mark X) → List Entry
  entries_in [] = []
  entries_in (Opened p x ∷ ms) = entries_in ms
  entries_in (Entered e p x ∷ ms) = e ∷ entries_in ms
  entries_in (Closed ∷ ms) = []

  -- whether there is a close
  abbrev pub is_closed : List (Mark X) → Bool
  is_closed [] = false
  is_closed (Opened p x ∷ ms) = is_closed ms
  is_closed (Entered e p x ∷ ms) = is_closed ms
  is_closed (Closed ∷ ms) = true

  -- the nodes, from place 0
  abbrev pub nodes_in : List (Mark X) → List (Site X)
  nodes_in [] = []
  nodes_in (Opened p x ∷ ms) = (p, x) ∷ nodes_in ms
  nodes_in (Entered e p x ∷ ms) = (p, x) ∷ nodes_in ms
  nodes_in (Closed ∷ ms) = nodes_in ms

  abbrev pub is_empty : List (Mark X) → Bool
  is_empty [] = true
  is_empty (m ∷ ms) = false

  -- entries, and then perhaps a close, which nothing follows
  abbrev pub goes_on : List (Mark X) → Bool
  goes_on [] = true
  goes_on (Opened p x ∷ ms) = false
  goes_on (Entered e p x ∷ ms) = goes_on ms
  goes_on (Closed ∷ ms) = is_empty ms

  -- an account is opened once, and first
  abbrev pub is_legal : List (Mark X) → Bool
  is_legal [] = false
  is_legal (Opened p x ∷ ms) = goes_on ms
  is_legal (Entered e p x ∷ ms) = false
  is_legal (Closed ∷ ms) = false

  -- what a mark adds to the word
  abbrev pub word_weight : Mark X → ℕ
  word_weight (Opened p x) = 0
  word_weight (Entered e p x) = 2
  word_weight Closed = 1

  -- the word's value: twice the number of entries, and one more where the list is closed
  abbrev pub word_of : List (Mark X) → ℕ
  word_of [] = 0
  word_of (Opened p x ∷ ms) = word_of ms
  word_of (Entered e p x ∷ ms) = 2 + word_of ms
  word_of (Closed ∷ ms) = 1

  -- what a caller knows who saw a history
  abbrev pub known_of : Book → List ℕ → List (Mark X) → Known
  known_of book names history = known (name_of book names) (entries_in history) (is_closed history)

  -- a step with this mark adds nothing
  abbrev pub no_mark : Mark X
  no_mark = Opened null_ptr (record { node = None })

  -- the node at a place
  abbrev pub site_at : List (Site X) → ℕ → Option (Site X)
  site_at [] n = None
  site_at (s ∷ ss) zero = Some s
  site_at (s ∷ ss) (suc n) = site_at ss n

  -- where a node leads
  abbrev pub next_in : Option (Node X) → Ptr
  next_in None = null_ptr
  next_in (Some n) = n.next

  abbrev pub next_of : Site X → Ptr
  next_of s = next_in s.1.node

  -- the first node stands at p
  abbrev pub StartsAt : Ptr → List (Mark X) → Type 0
  StartsAt p h = (s : Site X) → site_at (nodes_in h) 0 ≡ Some s → s.0 ≡ p

  -- the last node leads to p
  abbrev pub Ends : List (Mark X) → Ptr → Type 0
  Ends h p = (s : Site X) → site_at (nodes_in h) (length (entries_in h)) ≡ Some s → p ≡ next_of s

  abbrev pub HasNode : Option (Node X) → Type 0
  HasNode None = ⊥
  HasNode (Some n) = Unit {0}

  -- it is there or not
  pub HasNode-prop : (n : Option (Node X)) → IsProp (HasNode n)
  HasNode-prop None = ⊥_prop
  HasNode-prop (Some n) = Unit-prop

  -- the item of a node that is there
  abbrev pub item_of : (n : Option (Node X)) → HasNode n → X
  item_of None there = absurd there
  item_of (Some n) there = n.item

  -- it is there, with this item
  abbrev pub HasItem : Option (Node X) → X → Type 0
  HasItem None x = ⊥
  HasItem (Some n) x = n.item ≡ x

  -- nodes of which the first stands at p, and each leads to the next
  abbrev pub IsRow : Ptr → List (Site X) → Type 0
  IsRow p [] = Unit {0}
  IsRow p (s ∷ ss) = (s.0 ≡ p) × HasNode s.1.node × IsRow (next_of s) ss

  module _ (stands : X → List Entry → Type 0) where
    -- there is a node, and its item stands for these entries
    abbrev pub Stands : Option (Node X) → List Entry → Type 0
    Stands None es = ⊥
    Stands (Some n) es = stands n.item es

    -- the item at a place stands for as many entries, and its node leads to the next one
    pub record IsChain (h : List (Mark X)) : Type 0 where
      pub items : (n : ℕ) (s : Site X) → site_at (nodes_in h) n ≡ Some s → Stands s.1.node (take n (entries_in h))
      pub links : (n : ℕ) (s t : Site X) → site_at (nodes_in h) n ≡ Some s → site_at (nodes_in h) (suc n) ≡ Some t → t.0 ≡ next_of s

    -- the mark may follow this history
    abbrev pub Fits : List (Mark X) → Mark X → Type 0
    Fits h (Opened p x) = ⊥
    Fits h (Entered e p x) = Ends h p × Stands x.node (entries_in h ++ e ∷ [])
    Fits h Closed = Unit {0}
