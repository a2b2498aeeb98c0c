-- The breadcrumbs that batches make were given.
use Rattle.std.proofs.Common.{◌≡◌, ℕ, zero, suc, ◌+◌, ◌<◌, ◌≤◌, ◌^◌, Bool, true, false, cond, List, [], ◌∷◌, ◌++◌, length, refl, sym, ap, subst, ◌∙◌, arith, append_assoc, append-nil, length-append}
use Rattle.std.specs.Prelude.{Option, None, Some, Result, Ok, Err, OnOk}
use Rattle.std.specs.List.{fold, filter, range_with_len, list_all}
use Rattle.std.proofs.lemmas.List.Folds.{list_all-append}
use Rattle.ty_base.proofs.Passing.{left, right}
use Rattle.ty_top.proofs.Limits.{items_within}
use Rattle.ty_intake.specs.declared.batch.Closed.{Closed}
use Rattle.ty_intake.specs.Batches.{batch_fits, joined}
use Rattle.ty_intake.proofs.NextBatches.{IsNext, next_of, joined_more, is_batch, next_at_end}
use Rattle.std.proofs.lemmas.List.FromFn.{length-map-range_with_len}
use Rattle.ty_base.specs.declared.item.Item.{Item}
use Rattle.ty_base.specs.declared.entry.Entry.{Entry}
use Rattle.ty_base.specs.declared.status.Status.{Status}
use Rattle.ty_base.specs.Feed.{World, after, folded, closings, cuts_after, cuts, last, world_at, same_world, entry, book, is_closing, replay}
use Rattle.ty_base.specs.Causes.{Rose}
use Rattle.ty_base.proofs.Known.{Appends-then, Appends-same, AppendsFront-more, AppendsFront-after}
use Rattle.ty_base.specs.Batches.{IsBatch, IsClosed, IsNextBatch}
use Rattle.ty_crumb.specs.Batches.{entry_of, next_entries}
use Rattle.ty_crumb.specs.declared.crumb.Crumb.{Crumb}
use Rattle.ty_crumb.specs.declared.successor.Made.{Made}
use Rattle.ty_crumb.specs.declared.successor.Made.TheVariants.{Unchanged, Crumb as Next}
use Rattle.ty_crumb.specs.Crumbs.{CrumbStands, world_of, last_cut, entries_of, IsMadeFor}
use Rattle.ty_crumb.proofs.Book.{the_book_grows}
use Rattle.ty_wire.specs.Wire.{frame, frames}
use Rattle.ty_wire.specs.declared.message.Msg.TheVariants.{ServerHello}
use Rattle.ty_top.proofs.Told.{told}
use Rattle.ty_top.specs.Streamed.{streamed}
use Rattle.ty_top.specs.steps.Publisher.{Gave, crumb_messages, CrumbOf, Owed, AreGiven, AreGivenAndTold, gone_on}
use Rattle.ty_base.specs.Devices.{Output}
use Rattle.ty_top.specs.declared.publisher.Stop.{Stop}
use Rattle.ty_intake.specs.declared.intake.IntakeFault.{IntakeFault}
use Rattle.ty_top.specs.declared.publisher.Unwritten.{Unwritten}
use Rattle.ty_top.specs.declared.publisher.Unwritten.TheVariants.{Sink as NoRoom, Memory as Short}
use Rattle.ty_top.proofs.Grown.{book_same, grown_same, grown_by, one_more, all_more, crumb_told, crumb_opens, streamed_is}

-- What was given

pub gave_then : (r : Result (Unit {0}) Unwritten) (a b c : Output) (xs ys : List ℕ) → Gave (Ok tt) a b xs → Gave r b c ys → Gave r a c (xs ++ ys)
gave_then (Ok u) a b c xs ys g h = (Appends-then a.held b.held c.held xs ys g.0 h.0, omega (arith, g.1, h.1))
gave_then (Err NoRoom) a b c xs ys g h = (AppendsFront-after a.held b.held c.held xs ys g.0 h.0, rose a.faults b.faults c.faults g.1 h.1, omega (arith, g.1, h.2))
  where
    rose : (n m k : ℕ) → n ≤ m → Rose m k → Rose n k
    rose n m k l r = omega (arith, l, r)
gave_then (Err Short) a b c xs ys g h = (AppendsFront-after a.held b.held c.held xs ys g.0 h.0, omega (arith, g.1, h.1))

gave_more : (e : Unwritten) (a b : Output) (xs ys : List ℕ) → Gave (Err e) a b xs → Gave (Err e) a b (xs ++ ys)
gave_more NoRoom a b xs ys g = (AppendsFront-more a.held b.held xs ys g.0, g.1, g.2)
gave_more Short a b xs ys g = (AppendsFront-more a.held b.held xs ys g.0, g.1)

pub gave_later : (r : Result (Unit {0}) Unwritten) (a b : Output) (xs : List ℕ) → Gave r a b xs → a.faults ≤ b.faults
gave_later (Ok u) a b xs g = g.1
gave_later (Err NoRoom) a b xs g = g.2
gave_later (Err Short) a b xs g = g.1

on_ok : {P : Type 0} (r : Result (Unit {0}) Unwritten) → P → OnOk r P
on_ok (Ok u) p = p
on_ok (Err e) p = tt

-- One batch

module _ (j : ℕ) (before batch : List Item) (closed : IsClosed before) (next : IsNextBatch true before batch) where
  abbrev longer : List Item
  longer = before ++ batch

  no_shorter : length before ≤ length longer
  no_shorter = omega (arith, length-append before batch)

  pub published_short : (c d : Crumb) (old : Output) → AreGiven j (Err Short) d before longer old old
  published_short c d old =
      let one = one_more j before batch closed next in
      record {
        bytes = one.0;
        more = one.1;
        gave = (([], one.0, refl, Appends-same old.held), omega arith);
        crumb_of = tt;
      }

  pub published_none : (c : Crumb) (old : Output) → CrumbOf c before → IsMadeFor (book false before) (book true longer) Unchanged → AreGiven j (Ok tt) c before longer old old
  published_none c old k made =
      let same : book true longer ≡ book true before = made ∙ sym (book_same before closed) in
      let P : List Entry → Type 0 = CrumbStands c in
      record {
        bytes = [];
        more = grown_same before longer j same;
        gave = (Appends-same old.held, omega arith);
        crumb_of = record { stands = subst P (sym same) k.stands; cut = omega (arith, k.cut, no_shorter) };
      }

  -- the next breadcrumb's cut is the batch's
  cut_within : (cut : ℕ) (w : World) (c : Crumb) → entries_of (Next c) ≡ next_entries cut w batch → c.cut ≤ cut
  cut_within cut w c e =
      let v : World = fold after w batch in
      let le : last_cut (next_entries cut w batch) ≤ cut = elim (same_world w v) as (λ b. last_cut (cond b [] (entry_of cut w v batch ∷ [])) ≤ cut) [ true ↦ omega arith | false ↦ omega arith ] in
      omega (arith, ap last_cut e, le)

  pub published_next : (r : Result (Unit {0}) Unwritten) (last c : Crumb) (cut : ℕ) (old new : Output) → CrumbOf last before → cut ≡ length before + length batch
      → IsMadeFor (book false before) (book true longer) (Next c) → entries_of (Next c) ≡ next_entries cut (world_of last) batch → Gave r old new (frames (crumb_messages j last.status c))
      → AreGiven j r c before longer old new
  published_next r last c cut old new k at made es g =
      let w : World = folded before in
      let v : World = fold after w batch in
      let e : Entry = entry_of (length before + length batch) w v batch in
      let short : book true before ≡ book false before = book_same before closed in
      let status : last.status ≡ (replay (book true before)).status = ap (λ (x : World). x.status) k.stands.world in
      let grown : book true longer ≡ book true before ++ next_entries (length before + length batch) w batch =
      the_book_grows true before batch closed next ∙ ap (λ l. l ++ next_entries (length before + length batch) w batch) (sym short) in
      let more : streamed longer j ≡ streamed before j ++ frames (crumb_messages j last.status c) =
      elim (same_world w v) as (λ b. book true longer ≡ book true before ++ cond b [] (e ∷ []) → streamed longer j ≡ streamed before j ++ frames (crumb_messages j last.status c)) [
        | true ↦ λ h. absurd (made.1 (h ∙ append-nil (book true before) ∙ short))
        | false ↦ λ h.
            let P : List Entry → Type 0 = CrumbStands c in
            grown_by before longer j (book true before ++ e ∷ []) (crumb_messages j last.status c) h (crumb_told (book true before) e j last.status c status (subst P h made.0))
      ] grown in
      record {
        bytes = frames (crumb_messages j last.status c);
        more = more;
        gave = g;
        crumb_of = on_ok r (record { stands = made.0; cut = omega (arith, cut_within cut (world_of last) c es, at, length-append before batch) });
      }

-- Several

pub published_at_once : (j : ℕ) (c : Crumb) (items : List Item) (old : Output) → CrumbOf c items → AreGiven j (Ok tt) c items items old old
published_at_once j c items old k = record { bytes = []; more = sym (append-nil (streamed items j)); gave = (Appends-same old.held, omega arith); crumb_of = k }

pub published_then : (r : Result (Unit {0}) Unwritten) (j : ℕ) (c d : Crumb) (before mid all : List Item) (x y z : Output)
    → AreGiven j (Ok tt) c before mid x y → AreGiven j r d mid all y z → AreGiven j r d before all x z
published_then r j c d before mid all x y z a b = record {
  bytes = a.bytes ++ b.bytes;
  more = b.more ∙ ap (λ l. l ++ b.bytes) a.more ∙ append_assoc (streamed before j) a.bytes b.bytes;
  gave = gave_then r x y z a.bytes b.bytes a.gave b.gave;
  crumb_of = b.crumb_of;
}

-- behind a fault nothing of the rest is given
pub published_part : (e : Unwritten) (j : ℕ) (c : Crumb) (before mid all : List Item) (x y : Output) (rest : List ℕ)
    → AreGiven j (Err e) c before mid x y → streamed all j ≡ streamed mid j ++ rest → AreGiven j (Err e) c before all x y
published_part e j c before mid all x y rest a h = record {
  bytes = a.bytes ++ rest;
  more = h ∙ ap (λ l. l ++ rest) a.more ∙ append_assoc (streamed before j) a.bytes rest;
  gave = gave_more e x y a.bytes rest a.gave;
  crumb_of = tt;
}

-- a breadcrumb's number is at most the count of items
pub few_entries : (c : Crumb) (items : List Item) → CrumbOf c items → c.number ≤ length items
unfolding book cuts closings cuts_after
few_entries c items k =
    omega (arith, k.stands.number, length-map-range_with_len (entry true items) 1 (last true items), cuts_few (closings true items) 0, filter_few (length items) 1)
  where
    cuts_few : (ps : List ℕ) (a : ℕ) → length (cuts_after items a ps) ≤ length ps
    cuts_few [] a = omega arith
    cuts_few (p ∷ ps) a =
        elim (same_world (world_at items a) (world_at items p)) as (λ b. length (cond b (cuts_after items a ps) (p ∷ cuts_after items p ps)) ≤ length (p ∷ ps)) [
          | true ↦ omega (arith, cuts_few ps a)
          | false ↦ omega (arith, cuts_few ps p)
        ]

    filter_few : (k a : ℕ) → length (filter (is_closing true items) (range_with_len a k)) ≤ k
    filter_few zero a = omega arith
    filter_few (suc k) a =
        elim (is_closing true items a) as (λ b. length (cond b (a ∷ filter (is_closing true items) (range_with_len (a + 1) k)) (filter (is_closing true items) (range_with_len (a + 1) k))) ≤ suc k) [
          | true ↦ omega (arith, filter_few k (a + 1))
          | false ↦ omega (arith, filter_few k (a + 1))
        ]

-- what is said of the items of a batch
pub made_here : (m n : Made) (last : Crumb) (before items batch : List Item) (cut : ℕ) → m ≡ n → items ≡ batch
    → ((ended : Bool) (start : List Item) → IsClosed start → IsNextBatch ended start items → cut ≡ length start + length items → CrumbStands last (book false start) → IsMadeFor (book false start) (book ended (start ++ items)) m)
    → IsClosed before → IsNextBatch true before batch → cut ≡ length before + length batch → CrumbOf last before → IsMadeFor (book false before) (book true (before ++ batch)) n
made_here m n last before items batch cut i e h closed next at k =
    let P : List Item → Type 0 = λ xs. (ended : Bool) (start : List Item) → IsClosed start → IsNextBatch ended start xs → cut ≡ length start + length xs → CrumbStands last (book false start) → IsMadeFor (book false start) (book ended (start ++ xs)) m in
    let Q : List Entry → Type 0 = CrumbStands last in
    let R : Made → Type 0 = IsMadeFor (book false before) (book true (before ++ batch)) in
    subst R i (subst P e h true before closed next at (subst Q (book_same before closed) k.stands))

-- the same of a breadcrumb that was given up
pub made_in : (m n : Made) (given last : Crumb) (before items batch : List Item) (cut : ℕ) → given ≡ last → m ≡ n → items ≡ batch
    → ((ended : Bool) (start : List Item) → IsClosed start → IsNextBatch ended start items → cut ≡ length start + length items → CrumbStands given (book false start) → IsMadeFor (book false start) (book ended (start ++ items)) m)
    → IsClosed before → IsNextBatch true before batch → cut ≡ length before + length batch → CrumbOf last before → IsMadeFor (book false before) (book true (before ++ batch)) n
made_in m n given last before items batch cut g i e h closed next at k =
    let P : Crumb → Type 0 = λ c. CrumbOf c before in made_here m n given before items batch cut i e h closed next at (subst P (sym g) k)

-- the server hello, and breadcrumb 0 where it is asked for
pub opened : (j : ℕ) (s : Status) (c : Crumb) (a b d : List ℕ) → CrumbOf c [] → a ≡ [] → b ≡ a ++ frame (ServerHello 1) → d ≡ b ++ frames (crumb_messages j s c) → d ≡ streamed [] j
unfolding book cuts closings cuts_after
opened j s c a b d k e f g =
    let none : book true [] ≡ [] = refl in
    let P : List Entry → Type 0 = CrumbStands c in
    g
    ∙ ap (λ x. x ++ frames (crumb_messages j s c)) (f ∙ ap (λ x. x ++ frame (ServerHello 1)) e)
    ∙ ap frames (sym (crumb_opens j s c (subst P none k.stands)))
    ∙ ap (λ es. frames (told es j)) (sym none)
    ∙ sym (streamed_is [] j)

-- The batches that are owed

-- of all batches those before the rest were given
pub record GivenTo (j : ℕ) (c0 c : Crumb) (closed rest : List Closed) (x y : Output) : Type 0 where
  pub taken : List Closed
  pub whole : taken ++ rest ≡ closed
  pub given : (o : Owed c0 closed) → AreGiven j (Ok tt) c (joined o.done) (joined (o.done ++ taken)) x y

module _ (j : ℕ) (c0 c : Crumb) (closed before rest : List Closed) (b : Closed) (x y : Output) (g : GivenTo j c0 c closed before x y) (is : before ≡ b ∷ rest) (o : Owed c0 closed) where
  abbrev front : List Closed
  front = o.done ++ g.taken

  split : closed ≡ g.taken ++ b ∷ rest
  split = sym g.whole ∙ ap (λ l. g.taken ++ l) is

  is_next : IsNext o.ended o.items front b
  is_next =
      next_of o.ended o.items front b rest
      (o.whole ∙ ap (λ l. o.done ++ l) split ∙ sym (append_assoc o.done g.taken (b ∷ rest)))

  comes_next : IsNextBatch true (joined front) b.items
  comes_next = next_at_end o.ended (joined front) b.items is_next.next

  now : AreGiven j (Ok tt) c (joined o.done) (joined front) x y
  now = g.given o

  pub batch_owed : IsBatch b.items
  batch_owed =
      let all : list_all batch_fits (g.taken ++ b ∷ rest) ≡ true = ap (list_all batch_fits) (sym split) ∙ o.fits in
      let rest_fits : list_all batch_fits (b ∷ rest) ≡ true = right (list_all batch_fits g.taken) (list_all batch_fits (b ∷ rest)) (sym (list_all-append batch_fits g.taken (b ∷ rest)) ∙ all) in
      is_batch true (joined front) b.items is_next.closed comes_next (items_within b.items (left (batch_fits b) (list_all batch_fits rest) rest_fits))

  pub cut_owed : c.cut ≤ b.cut
  cut_owed = omega (arith, now.crumb_of.cut, is_next.cut)

  pub few_owed : c.number < 2 ^ 40
  few_owed = omega (arith, few_entries c (joined front) now.crumb_of, is_next.cut, is_next.within, o.few)

  module _ (r : Result (Unit {0}) Unwritten) (d : Crumb) (z : Output)
      (s : (start : List Item) → IsClosed start → IsNextBatch true start b.items → b.cut ≡ length start + length b.items → CrumbOf c start → AreGiven j r d start (start ++ b.items) y z) where
    pub published_one : AreGiven j r d (joined o.done) (joined (o.done ++ (g.taken ++ b ∷ []))) x z
    published_one =
        let P : List Item → Type 0 = λ l. AreGiven j r d (joined o.done) l x z in
        subst P (sym (joined_more front b) ∙ ap joined (append_assoc o.done g.taken (b ∷ [])))
        (published_then r j c d (joined o.done) (joined front) (joined front ++ b.items) x y z now (s (joined front) is_next.closed comes_next is_next.cut now.crumb_of))

  -- what is owed behind the batch
  behind : o.done ++ closed ≡ (o.done ++ (g.taken ++ b ∷ [])) ++ rest
  behind = ap (λ l. o.done ++ l) (split ∙ sym (append_assoc g.taken (b ∷ []) rest)) ∙ sym (append_assoc o.done (g.taken ++ b ∷ []) rest)

  pub published_stops : (e : Unwritten) (d : Crumb) (z : Output)
      → ((start : List Item) → IsClosed start → IsNextBatch true start b.items → b.cut ≡ length start + length b.items → CrumbOf c start → AreGiven j (Err e) d start (start ++ b.items) y z)
      → AreGiven j (Err e) d (joined o.done) (joined (o.done ++ closed)) x z
  published_stops e d z s =
      let more = all_more j o.ended o.items rest (o.done ++ (g.taken ++ b ∷ [])) (o.whole ∙ behind) in
      published_part e j d (joined o.done) (joined (o.done ++ (g.taken ++ b ∷ []))) (joined (o.done ++ closed)) x z more.0 (published_one (Err e) d z s)
      (ap (λ (l : List Closed). streamed (joined l) j) behind ∙ more.1)

pub published_begins : (j : ℕ) (c : Crumb) (closed rest : List Closed) (x : Output) → rest ≡ closed → GivenTo j c c closed rest x x
published_begins j c closed rest x e = record {
  taken = [];
  whole = e;
  given = λ o.
      let P : List Closed → Type 0 = λ l. AreGiven j (Ok tt) c (joined o.done) (joined l) x x in
      subst P (sym (append-nil o.done)) (published_at_once j c (joined o.done) x o.crumb_of);
}

pub published_step : (j : ℕ) (c0 c d : Crumb) (closed before rest : List Closed) (b : Closed) (x y z : Output) → GivenTo j c0 c closed before x y → before ≡ b ∷ rest
    → ((start : List Item) → IsClosed start → IsNextBatch true start b.items → b.cut ≡ length start + length b.items → CrumbOf c start → AreGiven j (Ok tt) d start (start ++ b.items) y z)
    → GivenTo j c0 d closed rest x z
published_step j c0 c d closed before rest b x y z g is s = record {
  taken = g.taken ++ b ∷ [];
  whole = append_assoc g.taken (b ∷ []) rest ∙ ap (λ l. g.taken ++ l) (sym is) ∙ g.whole;
  given = λ o. published_one j c0 c closed before rest b x y g is o (Ok tt) d z s;
}

pub published_ends : (j : ℕ) (c0 c : Crumb) (closed rest : List Closed) (x y : Output) → GivenTo j c0 c closed rest x y → rest ≡ [] → (o : Owed c0 closed)
    → AreGiven j (Ok tt) c (joined o.done) (joined (o.done ++ closed)) x y
published_ends j c0 c closed rest x y g e o =
    let P : List Closed → Type 0 = λ l. AreGiven j (Ok tt) c (joined o.done) (joined (o.done ++ l)) x y in
    subst P (sym (append-nil g.taken) ∙ ap (λ l. g.taken ++ l) (sym e) ∙ g.whole) (g.given o)

-- Batches, and then a fault

pub published_later : (r : Result (Unit {0}) Unwritten) (j : ℕ) (d : Crumb) (before all : List Item) (x y : Output) → AreGiven j r d before all x y → x.faults ≤ y.faults
published_later r j d before all x y p = gave_later r x y p.bytes p.gave

pub published_fed : (result : Result (Unit {0}) Stop) (j : ℕ) (fault : Option IntakeFault) (d : Crumb) (before all : List Item) (x y : Output)
    → result ≡ gone_on fault → AreGiven j (Ok tt) d before all x y → AreGivenAndTold j result fault d before all x y
published_fed result j fault d before all x y e p =
    let P : Result (Unit {0}) Stop → Type 0 = λ r. AreGivenAndTold j r fault d before all x y in
    subst P (sym e) (goes fault p)
  where
    goes : (fault : Option IntakeFault) → AreGiven j (Ok tt) d before all x y → AreGivenAndTold j (gone_on fault) fault d before all x y
    goes None p = (p, refl)
    goes (Some f) p = (p, refl)

-- the same list of batches
pub published_as : (r : Result (Unit {0}) Unwritten) (j : ℕ) (c d : Crumb) (xs ys : List Closed) (x y : Output) → xs ≡ ys
    → ((o : Owed c xs) → AreGiven j r d (joined o.done) (joined (o.done ++ xs)) x y) → (o : Owed c ys) → AreGiven j r d (joined o.done) (joined (o.done ++ ys)) x y
published_as r j c d xs ys x y e h =
    let P : List Closed → Type 0 = λ l. (o : Owed c l) → AreGiven j r d (joined o.done) (joined (o.done ++ l)) x y in
    subst P e h

pub published_err : (e f : Unwritten) (j : ℕ) (c d : Crumb) (xs ys : List Closed) (x y : Output) → e ≡ f → xs ≡ ys
    → ((o : Owed c xs) → AreGiven j (Err e) d (joined o.done) (joined (o.done ++ xs)) x y) → (o : Owed c ys) → AreGiven j (Err f) d (joined o.done) (joined (o.done ++ ys)) x y
published_err e f j c d xs ys x y i s h o =
    let P : Unwritten → Type 0 = λ u. AreGiven j (Err u) d (joined o.done) (joined (o.done ++ ys)) x y in
    subst P i (published_as (Err e) j c d xs ys x y s h o)
