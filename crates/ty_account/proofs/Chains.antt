-- Nodes by their places, and chains of them.
use Rattle.std.proofs.Common.{◌≡◌, ℕ, zero, suc, ◌<◌, ◌≤◌, inl, inr, true, false, List, [], ◌∷◌, ◌++◌, length, take, refl, ap, sym, ◌∙◌, subst, arith, take_all, append-nil}
use Rattle.std.proofs.lemmas.List.{length-append, take-append-le}
use Rattle.std.specs.Prelude.{◌⊎◌, Option, None, Some}
use mathlib.Core.List.{IsPrefix}
use denote.RawPtr.{Ptr}
use Rattle.ty_base.specs.declared.entry.Entry.{Entry}
use Rattle.ty_account.specs.declared.node.Node.{Node}
use Rattle.ty_account.specs.declared.node.Place.{Place}
use Rattle.ty_account.specs.steps.Blocks.{IsFirst}
use Rattle.ty_account.specs.declared.history.Mark.{Mark}
use Rattle.ty_account.specs.declared.history.Mark.TheVariants.{Opened, Entered, Closed}
use Rattle.ty_account.specs.steps.Histories.{Site, entries_in, nodes_in, is_closed, is_legal, site_at, next_in, next_of, StartsAt, HasNode, HasItem, item_of, IsRow, Stands, IsChain, Fits}
use Rattle.ty_account.proofs.Histories.{nodes_append, nodes_long, entered_entries, closed_entries, prefix_nodes}

abbrev else_of : {X : Type 0} → X → Option X → X
else_of x None = x
else_of x (Some y) = y

pub some_is : {X : Type 0} {x y : X} → Some x ≡ Some y → x ≡ y
some_is {x = x} e = ap (else_of x) e

abbrev IsOne : {X : Type 0} → Option X → Type 0
IsOne None = ⊥
IsOne (Some x) = Unit {0}

pub none_is_not : {X : Type 0} {x : X} → None ≡ Some x → ⊥
none_is_not e = subst IsOne (sym e) tt

module _ {X : Type 0} where
  -- there is a node at each place below their number, and nowhere else
  pub is_there : (ss : List (Site X)) (n : ℕ) → n < length ss → (s : Site X) × (site_at ss n ≡ Some s)
  is_there [] n inside = absurd (omega arith)
  is_there (s ∷ ss) zero inside = (s, refl)
  is_there (s ∷ ss) (suc n) inside = is_there ss n (omega arith)

  pub is_inside : (ss : List (Site X)) (n : ℕ) (s : Site X) → site_at ss n ≡ Some s → n < length ss
  is_inside [] n s is = absurd (none_is_not is)
  is_inside (t ∷ ss) zero s is = omega arith
  is_inside (t ∷ ss) (suc n) s is = let less = is_inside ss n s is in omega (arith, less)

  still_at : (ss ts : List (Site X)) (n : ℕ) (s : Site X) → site_at ss n ≡ Some s → site_at (ss ++ ts) n ≡ Some s
  still_at [] ts n s is = absurd (none_is_not is)
  still_at (t ∷ ss) ts zero s is = is
  still_at (t ∷ ss) ts (suc n) s is = still_at ss ts n s is

  -- a node stays where it is in a longer history
  pub still : (h g : List (Mark X)) (n : ℕ) (s : Site X) → IsPrefix h g → site_at (nodes_in h) n ≡ Some s → site_at (nodes_in g) n ≡ Some s
  still h g n s p is = let q = prefix_nodes h g p in subst (λ (ss : List (Site X)). site_at ss n ≡ Some s) q.1 (still_at (nodes_in h) q.0 n s is)

  -- a node of one more is one of the others, or the last
  one_more : (ss : List (Site X)) (t : Site X) (n : ℕ) (s : Site X) → site_at (ss ++ t ∷ []) n ≡ Some s → (site_at ss n ≡ Some s) ⊎ ((n ≡ length ss) × (t ≡ s))
  one_more [] t zero s is = inr (refl, some_is is)
  one_more [] t (suc n) s is = absurd (none_is_not is)
  one_more (r ∷ ss) t zero s is = inl is
  one_more (r ∷ ss) t (suc n) s is = on (one_more ss t n s is)
    where
      on : (site_at ss n ≡ Some s) ⊎ ((n ≡ length ss) × (t ≡ s)) → (site_at ss n ≡ Some s) ⊎ ((suc n ≡ suc (length ss)) × (t ≡ s))
      on (inl is) = inl is
      on (inr last) = inr (ap suc last.0, last.1)

  pub last_at : (ss : List (Site X)) (t : Site X) → site_at (ss ++ t ∷ []) (length ss) ≡ Some t
  last_at [] t = refl
  last_at (s ∷ ss) t = last_at ss t

  -- the nodes are a row, of which each leads to the next
  rows : (ss : List (Site X)) (p : Ptr) → ((s : Site X) → site_at ss 0 ≡ Some s → s.0 ≡ p) → ((n : ℕ) (s : Site X) → site_at ss n ≡ Some s → HasNode s.1.node)
      → ((n : ℕ) (s t : Site X) → site_at ss n ≡ Some s → site_at ss (suc n) ≡ Some t → t.0 ≡ next_of s) → IsRow p ss
  rows [] p first has links = tt
  rows (s ∷ ss) p first has links = (first s refl, has 0 s refl, rows ss (next_of s) (λ t is. links 0 s t refl is) (λ n r is. has (suc n) r is) (λ n r t is then. links (suc n) r t is then))

  -- the first of a row, and the others
  pub row_first : (p : Ptr) (ss : List (Site X)) → 0 < length ss → IsRow p ss → IsFirst p ss
  row_first p [] some row = absurd (omega (arith, some))
  row_first p (s ∷ ss) some row = row.0

  pub row_rest : (p : Ptr) (ss : List (Site X)) (x : Place X) (rest : List (Site X)) → ss ≡ (p, x) ∷ rest → IsRow p ss → HasNode x.node × IsRow (next_in x.node) rest
  row_rest p ss x rest is row = let on = subst (λ (rs : List (Site X)). IsRow p rs) is row in (on.1, on.2)

  module _ (stands : X → List Entry → Type 0) where
    has : (o : Option (Node X)) (es : List Entry) → Stands stands o es → HasNode o
    has None es s = s
    has (Some n) es s = tt

    pub row_of : (h : List (Mark X)) (p : Ptr) → StartsAt p h → IsChain stands h → IsRow p (nodes_in h)
    row_of h p first chain = rows (nodes_in h) p first (λ n s is. has s.1.node (take n (entries_in h)) (chain.items n s is)) chain.links

    -- a first node that stands for the empty list is a chain
    pub chain_opened : (p : Ptr) (x : Place X) → Stands stands x.node [] → IsChain stands (Opened p x ∷ [])
    chain_opened p x s = record { items = λ n t is. item n t is; links = λ n t u is then. absurd (none_is_not then) }
      where
        item : (n : ℕ) (t : Site X) → site_at ((p, x) ∷ []) n ≡ Some t → Stands stands t.1.node (take n [])
        item zero t is = subst (λ (r : Site X). Stands stands r.1.node []) (some_is is) s
        item (suc n) t is = absurd (none_is_not is)

    -- a chain grows by a mark that fits
    module _ (h : List (Mark X)) (legal : is_legal h ≡ true) (is_open : is_closed h ≡ false) (chain : IsChain stands h) where
      abbrev es : List Entry
      es = entries_in h

      module _ (e : Entry) (p : Ptr) (x : Place X) (fits : Fits stands h (Entered e p x)) where
        abbrev more : List (Mark X)
        more = h ++ Entered e p x ∷ []

        nodes_are : nodes_in more ≡ nodes_in h ++ (p, x) ∷ []
        nodes_are = nodes_append h (Entered e p x ∷ [])

        entries_are : entries_in more ≡ es ++ e ∷ []
        entries_are = (entered_entries h e p x is_open).0

        item_at : (n : ℕ) (s : Site X) → (site_at (nodes_in h) n ≡ Some s) ⊎ ((n ≡ length (nodes_in h)) × ((p, x) ≡ s)) → Stands stands s.1.node (take n (es ++ e ∷ []))
        item_at n s (inl is) =
            let less = is_inside (nodes_in h) n s is in
            let short : n ≤ length es = omega (arith, less, nodes_long h legal) in
            subst (Stands stands s.1.node) (sym (take-append-le n es (e ∷ []) short)) (chain.items n s is)
        item_at n s (inr last) =
            let whole : length (es ++ e ∷ []) ≤ n = omega (arith, last.0, nodes_long h legal, length-append es (e ∷ [])) in
            subst (λ (t : Site X). Stands stands t.1.node (take n (es ++ e ∷ []))) last.1 (subst (Stands stands x.node) (sym (take_all n (es ++ e ∷ []) whole)) fits.1)

        link_at : (n : ℕ) (s t : Site X) → site_at (nodes_in more) n ≡ Some s → (site_at (nodes_in h) (suc n) ≡ Some t) ⊎ ((suc n ≡ length (nodes_in h)) × ((p, x) ≡ t)) → t.0 ≡ next_of s
        link_at n s t is (inl then) =
            let less = is_inside (nodes_in h) (suc n) t then in
            let here = is_there (nodes_in h) n (omega (arith, less)) in
            let same : here.0 ≡ s = some_is (sym (still_at (nodes_in h) ((p, x) ∷ []) n here.0 here.1) ∙ (ap (λ (ss : List (Site X)). site_at ss n) (sym nodes_are) ∙ is)) in
            chain.links n here.0 t here.1 then ∙ ap next_of same
        link_at n s t is (inr last) =
            let here = is_there (nodes_in h) n (omega (arith, last.0)) in
            let same : here.0 ≡ s = some_is (sym (still_at (nodes_in h) ((p, x) ∷ []) n here.0 here.1) ∙ (ap (λ (ss : List (Site X)). site_at ss n) (sym nodes_are) ∙ is)) in
            let at : n ≡ length es = omega (arith, last.0, nodes_long h legal) in
            ap (λ (r : Site X). r.0) (sym last.1) ∙ (fits.0 here.0 (subst (λ (k : ℕ). site_at (nodes_in h) k ≡ Some here.0) at here.1) ∙ ap next_of same)

        pub chain_entered : IsChain stands more
        chain_entered = record {
          items = λ n s is. subst (λ (l : List Entry). Stands stands s.1.node (take n l)) (sym entries_are) (item_at n s (one_more (nodes_in h) (p, x) n s (ap (λ (ss : List (Site X)). site_at ss n) (sym nodes_are) ∙ is)));
          links = λ n s t is then. link_at n s t is (one_more (nodes_in h) (p, x) (suc n) t (ap (λ (ss : List (Site X)). site_at ss (suc n)) (sym nodes_are) ∙ then));
        }

      pub chain_closed : IsChain stands (h ++ Closed ∷ [])
      chain_closed =
          let nodes_are : nodes_in (h ++ Closed ∷ []) ≡ nodes_in h ++ [] = nodes_append h (Closed ∷ []) in
          let same : nodes_in (h ++ Closed ∷ []) ≡ nodes_in h = nodes_are ∙ append-nil (nodes_in h) in
          record {
            items = λ n s is. subst (λ (l : List Entry). Stands stands s.1.node (take n l)) (sym (closed_entries h is_open).0) (chain.items n s (ap (λ (ss : List (Site X)). site_at ss n) (sym same) ∙ is));
            links = λ n s t is then. chain.links n s t (ap (λ (ss : List (Site X)). site_at ss n) (sym same) ∙ is) (ap (λ (ss : List (Site X)). site_at ss (suc n)) (sym same) ∙ then);
          }

-- the item of a node that is there is the one that it has
pub item_is : {X : Type 0} (n : Option (Node X)) (there : HasNode n) (x : X) → HasItem n x → item_of n there ≡ x
item_is None there x has = absurd has
item_is (Some n) there x has = has

-- the same node has the same item
pub item_same : {X : Type 0} (m n : Option (Node X)) (a : HasNode m) (b : HasNode n) → m ≡ n → item_of m a ≡ item_of n b
item_same (Some m) (Some n) a b is = ap (λ z. z.item) (some_is is)
item_same (Some m) None a b is = absurd b
item_same None n a b is = absurd a

-- what stands for entries is a node that is there, and its item
pub stands_there : {X : Type 0} (stands : X → List Entry → Type 0) (n : Option (Node X)) (es : List Entry) → Stands stands n es → HasNode n
stands_there stands None _ s = s
stands_there stands (Some n) _ s = tt

pub item_stands : {X : Type 0} (stands : X → List Entry → Type 0) (n : Option (Node X)) (there : HasNode n) (es : List Entry) → Stands stands n es → stands (item_of n there) es
item_stands stands None there _ s = absurd s
item_stands stands (Some n) there _ s = s
