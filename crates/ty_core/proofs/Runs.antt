-- What events make of a run, by what they make of the chain or of one slot.
use Rattle.std.proofs.Common.{◌≡◌, ℕ, zero, suc, ◌+◌, ◌-◌, ◌<◌, ◌≤◌, List, [], ◌∷◌, ◌++◌, length, take, drop, map, get_or, set, replicate, refl, sym, ap, subst, ◌∙◌, arith, append_assoc, append-nil, length-append, length-set, inl, inr, true}
use Rattle.std.specs.Prelude.{Option, None, Some, option_map, option_and_then, slice_get}
use Rattle.std.specs.Option.{IfSome}
use Rattle.std.specs.List.{AllByRecursion, list_all}
use Rattle.std.proofs.lemmas.Bool.{cases_lt}
use Rattle.std.proofs.lemmas.List.{get_or-set_same, get_or-set_other, get_or_append_left, take_more, take_all, length-take, length-map, length-replicate}
use Rattle.std.proofs.Math.Seq.{get_or-append_seam}
use Rattle.std.proofs.lemmas.Option.{slice_get_within, get_or_from_slice_get, slice_get-get_or, slice_get_read, slice_get-map}
use Rattle.ty_base.specs.declared.entry.Entry.{Entry}
use Rattle.ty_base.specs.declared.limits.TheConstants.{INPUT_BYTES}
use Rattle.ty_base.specs.Feed.{World, book, closings, last_of}
use Rattle.ty_base.specs.Limits.{is_small_entry}
use Rattle.ty_marks.proofs.Marks.{world-more}
use Rattle.ty_client.specs.Rebuilt.{Rebuilt}
use Rattle.ty_client.specs.Rebuild.{RebuildHeld}
use Rattle.ty_client.specs.Worlds.{numbered, rebuilt_after}
use Rattle.ty_client.proofs.Books.{book_passes}
use Rattle.ty_intake.specs.Lines.{Feed, fed_with, ended_now}
use Rattle.ty_intake.specs.declared.intake.IntakeFault.{IntakeFault}
use Rattle.ty_intake.specs.Batches.{items_of, is_whole, closed_items}
use Rattle.ty_intake.proofs.JoinedBatches.{few-of, joined-of}
use Rattle.ty_session.specs.Held.{SessionHeld}
use Rattle.ty_core.specs.declared.chain.Chain.{Chain}
use Rattle.ty_core.specs.declared.client.Client.{Client}
use Rattle.ty_core.specs.declared.client.Connection.{Connection}
use Rattle.ty_script.specs.declared.event.Event.{Event}
use Rattle.ty_script.specs.declared.event.Event.TheVariants.{Line, Join, Step, Get, Hear, Cut, Tick}
use Rattle.ty_script.specs.declared.event.TheConstants.{CLIENTS}
use Rattle.ty_core.specs.declared.run.Run.{Run}
use Rattle.ty_core.specs.declared.slot.Slot.{Slot}
use Rattle.ty_core.specs.declared.told.Told.{Told}
use Rattle.ty_core.specs.declared.told.Told.TheVariants.{Rebuilt as AtEnd, Still, Ended}
use Rattle.ty_core.specs.Clients.{Trail, newest, no_client, down, numbers_came, join_link, hear_link, step_link, get_client}
use Rattle.ty_core.specs.Run.{State, no_state, book_of, trail, client, link, with_client, timed, lined, finished, tick_client, behind_tick, next_state, event_fault, hear_fault, get_fault}
use Rattle.ty_core.specs.Report.{world_shown, news, told_join, told_hear, told_step, told_ends, told_get, told_cut, told_tick, told_ticks, event_told, told_end}
use Rattle.ty_core.specs.Held.{ChainStands, LinkStands, SlotStands, RunStands}
use Rattle.ty_script.specs.Fits.{IsClient}
use Rattle.ty_core.specs.steps.Chains.{ChainMoved}
use Rattle.ty_core.specs.steps.Slots.{AreTrail, LinkNumbers, SlotMoves, SlotGets}
use Rattle.ty_core.specs.steps.Runs.{SlotsStand, AreTicking, RunMoves}
use Rattle.ty_core.proofs.Chains.{book_is, shown_is}
use Rattle.ty_core.proofs.Published.{book_few}
use Rattle.ty_core.proofs.Relinking.{grows}
use Rattle.ty_core.proofs.Linking.{down-offered}

-- The trail of a chain

closed_few : (feed : Feed) → length (closed_items feed) < INPUT_BYTES
unfolding closed_items
closed_few feed = omega (arith, few-of feed, length-take (last_of 0 (closings (is_whole feed) (items_of feed))) (items_of feed))

pub trail_is : (chain : Chain) (s : State) → ChainStands chain s → AreTrail chain.crumbs.items (trail s)
trail_is chain s st =
    let is : book_of s ≡ book true (closed_items s.feed) = book_is s.feed st.good ∙ ap (book true) (joined-of s.feed) in
    record {
      stand = st.crumbs;
      times = st.times;
      texts = ap (list_all is_small_entry) is ∙ book_passes true (closed_items s.feed) st.small;
      few = omega (arith, ap length is, book_few (closed_items s.feed), closed_few s.feed);
    }

pub chain_kept : (chain : Chain) (s : State) (now : ℕ) (clients : List Client) → ChainStands chain s → ChainStands chain (record s { now = now; clients = clients })
chain_kept chain s now clients st = record {
  intake = st.intake;
  good = st.good;
  whole = st.whole;
  crumbs = st.crumbs;
  times = st.times;
  cut = st.cut;
  small = st.small;
}

-- More entries

rebuilt_more : (es more : List Entry) (held : Option ℕ) → IfSome held (λ n. n ≤ length es) → option_map (rebuilt_after (es ++ more)) held ≡ option_map (rebuilt_after es) held
rebuilt_more es more None h = refl
rebuilt_more es more (Some n) h = ap (λ (w : World). Some (numbered n w)) (world-more es more n h)

within_more : (es more : List Entry) (held : Option ℕ) → IfSome held (λ n. n ≤ length es) → IfSome held (λ n. n ≤ length (es ++ more))
within_more es more None h = tt
within_more es more (Some n) h = omega (arith, h, length-append es more)

link_more : (rb : RebuildHeld) (s : Option SessionHeld) (es more : List Entry) (link : Option Connection) → LinkStands rb s es link → LinkStands rb s (es ++ more) link
link_more rb None es more None l = l
link_more rb None es more (Some k) l = absurd l
link_more rb (Some sv) es more None l = absurd l
link_more rb (Some sv) es more (Some k) l = (l.0, grows rb sv es (es ++ more) k l.0 more refl l.1)

slot_more : (slot : Slot) (es more : List Entry) (c : Client) → SlotStands slot es c → SlotStands slot (es ++ more) c
slot_more slot es more c st = record {
  link = link_more slot.rebuild slot.session es more c.link st.link;
  held = st.held ∙ sym (rebuilt_more es more c.held st.within);
  within = within_more es more c.held st.within;
}

-- the chain moved, and all else is as it was
pub run_moved : (r r' : Run) (s : State) (feed : Feed) (told : List Told) → RunStands r s → ChainMoved r'.chain s (timed (record s { feed = feed })) told → r'.time ≡ r.time → r'.slots.items ≡ r.slots.items → RunStands r' (timed (record s { feed = feed }))
run_moved r r' s feed told st m n e =
    let later : State = timed (record s { feed = feed }) in
    record {
      chain = m.stands;
      now = n ∙ st.now;
      clients = st.clients;
      slots = λ i slot c at here.
          let P : List Entry → Type 0 = λ es. SlotStands slot es c in
          subst P (sym m.grown) (slot_more slot (book_of s) m.more c (st.slots i slot c (ap (λ l. slice_get l i) (sym e) ∙ at) here));
    }

-- One place

get_set_same : {A : Type 0} (xs : List A) (i : ℕ) (x y : A) → i < length xs → slice_get (set xs i x) i ≡ Some y → y ≡ x
get_set_same xs i x y h e = sym (get_or_from_slice_get (set xs i x) i y x e) ∙ get_or-set_same xs i x x h

get_set_other : {A : Type 0} (xs : List A) (i n : ℕ) (x y : A) → (n ≡ i → ⊥) → slice_get (set xs i x) n ≡ Some y → slice_get xs n ≡ Some y
get_set_other xs i n x y ne e =
    let within : n < length xs = omega (arith, slice_get_within (set xs i x) n y e, length-set xs i x) in
    slice_get-get_or xs n y within ∙ ap Some (sym (get_or-set_other xs i n x y ne) ∙ get_or_from_slice_get (set xs i x) n y y e)

pub slots_set : (slots : List Slot) (es : List Entry) (clients : List Client) (i : ℕ) (slot : Slot) (c : Client) → SlotsStand slots es clients → i < length slots → i < length clients → SlotStands slot es c → SlotsStand (set slots i slot) es (set clients i c)
slots_set slots es clients i slot c st h k new n x y at here =
    elim (cases_lt n i) [
      | inl lt ↦ st n x y (get_set_other slots i n slot x (λ e. omega (arith, e, lt)) at) (get_set_other clients i n c y (λ e. omega (arith, e, lt)) here)
      | inr ge ↦ elim (cases_lt i n) [
        | inl gt ↦ st n x y (get_set_other slots i n slot x (λ e. omega (arith, e, gt)) at) (get_set_other clients i n c y (λ e. omega (arith, e, gt)) here)
        | inr le ↦
            let e : n ≡ i = omega (arith, ge, le) in
            let P : Slot → Client → Type 0 = λ a b. SlotStands a es b in
            let one : x ≡ slot = get_set_same slots i slot x h (ap (λ m. slice_get (set slots i slot) m) (sym e) ∙ at) in
            let two : y ≡ c = get_set_same clients i c y k (ap (λ m. slice_get (set clients i c) m) (sym e) ∙ here) in
            subst (λ (a : Slot). P a y) (sym one) (subst (P slot) (sym two) new)
      ]
    ]

place_of : (r : Run) (c : ℕ) → IsClient c → c - 1 < length r.slots.items
place_of r c h = omega (arith, h.0, h.1, r.all)

pub slot_at : (r : Run) (s : State) (c : ℕ) (slot : Slot) → RunStands r s → IsClient c → slot ≡ get_or r.slots.items (c - 1) slot → SlotStands slot (book_of s) (client s c)
slot_at r s c slot st h is =
    let within : c - 1 < length s.clients = omega (arith, h.0, h.1, st.clients) in
    st.slots (c - 1) slot (client s c) (slice_get_read r.slots.items (length r.slots.items) (c - 1) slot refl (place_of r c h) is) (slice_get-get_or s.clients (c - 1) no_client within)

pub run_client : (r r' : Run) (s : State) (c : ℕ) (slot : Slot) (new : Client) → RunStands r s → IsClient c → r'.chain ≡ r.chain → r'.time ≡ r.time → r'.slots.items ≡ set r.slots.items (c - 1) slot → SlotStands slot (book_of s) new → RunStands r' (with_client s c new)
run_client r r' s c slot new st h chain now slots stands =
    let within : c - 1 < length s.clients = omega (arith, h.0, h.1, st.clients) in
    let P : Chain → Type 0 = λ x. ChainStands x (with_client s c new) in
    let Q : List Slot → Type 0 = λ l. SlotsStand l (book_of s) (set s.clients (c - 1) new) in
    record {
      chain = subst P (sym chain) (chain_kept r.chain s s.now (set s.clients (c - 1) new) st.chain);
      now = now ∙ st.now;
      clients = length-set s.clients (c - 1) new ∙ st.clients;
      slots = subst Q (sym slots) (slots_set r.slots.items (book_of s) s.clients (c - 1) slot new st.slots (place_of r c h) within stands);
    }

-- What is told of the numbers that come, by their worlds

maps_same : (s : State) (c : ℕ) (ns : List ℕ) → AllByRecursion (λ m. m ≤ length (book_of s)) ns → map (λ m. AtEnd c (rebuilt_after (book_of s) m)) ns ≡ map (λ m. AtEnd c (world_shown s m)) ns
maps_same s c [] a = refl
maps_same s c (n ∷ ns) a =
    ap (λ (x : Rebuilt). AtEnd c x ∷ map (λ m. AtEnd c (rebuilt_after (book_of s) m)) ns) (shown_is s n a.0)
    ∙ ap (λ (l : List Told). AtEnd c (world_shown s n) ∷ l) (maps_same s c ns a.1)

pub held_same : (s : State) (held : Option ℕ) → IfSome held (λ n. n ≤ length (book_of s)) → option_map (rebuilt_after (book_of s)) held ≡ option_map (world_shown s) held
held_same s None h = refl
held_same s (Some n) h = ap Some (shown_is s n h)

ends_same : (s : State) (c : ℕ) (held : Option ℕ) (ns : List ℕ) → IfSome held (λ n. n ≤ length (book_of s)) → AllByRecursion (λ m. m ≤ length (book_of s)) ns → told_ends (rebuilt_after (book_of s)) c held ns ≡ told_ends (world_shown s) c held ns
ends_same s c held [] h a = ap (λ (x : Option Rebuilt). Still c x ∷ []) (held_same s held h)
ends_same s c held (n ∷ ns) h a = maps_same s c (n ∷ ns) a

pub gets_same : (s : State) (c n : ℕ) (held : Option ℕ) (link : Option Connection) → IfSome held (λ n. n ≤ length (book_of s)) → LinkNumbers (book_of s) n link → told_get (rebuilt_after (book_of s)) (book_of s) c n held link ≡ told_get (world_shown s) (book_of s) c n held link
gets_same s c n held None h a = refl
gets_same s c n held (Some k) h a = ends_same s c held (numbers_came (book_of s) k n) h a

-- All places, one after another

ticks_push : (now c : ℕ) (xs : List Client) (x : Client) → told_ticks now c (xs ++ x ∷ []) ≡ told_ticks now c xs ++ told_tick now (c + length xs) x.link
unfolding told_ticks
ticks_push now c [] x =
    append-nil (told_tick now c x.link) ∙ ap (λ n. told_tick now n x.link) (omega arith)
ticks_push now c (y ∷ xs) x =
    ap (λ l. told_tick now c y.link ++ l) (ticks_push now (c + 1) xs x)
    ∙ sym (append_assoc (told_tick now c y.link) (told_ticks now (c + 1) xs) (told_tick now (c + 1 + length xs) x.link))
    ∙ ap (λ n. (told_tick now c y.link ++ told_ticks now (c + 1) xs) ++ told_tick now n x.link) (omega arith)

pub ticks_begin : (slots : List Slot) (es : List Entry) (clients : List Client) (now : ℕ) (told : List Told) → SlotsStand slots es clients → told ≡ [] → AreTicking slots es clients 0 now told
unfolding told_ticks
ticks_begin slots es clients now told st e = record {
  done = λ n slot c h at here. absurd (omega (arith, h));
  rest = λ n slot c h at here. st n slot c at here;
  told_is = e;
}

ticks_step : (slots slots' : List Slot) (es : List Entry) (clients : List Client) (i now : ℕ) (told told' more : List Told) (slot' : Slot) (x : Client) → AreTicking slots es clients i now told → i < length slots → length clients ≡ length slots → x ≡ get_or clients i x
    → slots' ≡ set slots i slot' → SlotStands slot' es (tick_client now x) → told' ≡ told ++ more → more ≡ told_tick now (i + 1) x.link → AreTicking slots' es clients (i + 1) now told'
ticks_step slots slots' es clients i now told told' more slot' x t h len is e st te m = record {
  done = λ n slot c lt at here.
      (let at' : slice_get (set slots i slot') n ≡ Some slot = ap (λ l. slice_get l n) (sym e) ∙ at in
      elim (cases_lt n i) [
        | inl before ↦ t.done n slot c before (get_set_other slots i n slot' slot (λ q. omega (arith, q, before)) at') here
        | inr ge ↦
            let same : n ≡ i = omega (arith, ge, lt) in
            let P : Slot → Client → Type 0 = λ a b. SlotStands a es (tick_client now b) in
            let one : slot ≡ slot' = get_set_same slots i slot' slot h (ap (λ j. slice_get (set slots i slot') j) (sym same) ∙ at') in
            let two : c ≡ x =
            sym (get_or_from_slice_get clients i c x (ap (λ j. slice_get clients j) (sym same) ∙ here)) ∙ sym is in
            subst (λ (a : Slot). P a c) (sym one) (subst (P slot') (sym two) st)
      ]);
  rest = λ n slot c le at here.
      t.rest n slot c (omega (arith, le)) (get_set_other slots i n slot' slot (λ q. omega (arith, q, le)) (ap (λ l. slice_get l n) (sym e) ∙ at)) here;
  told_is =
      let number : 1 + length (take i clients) ≡ i + 1 = omega (arith, length-take i clients, len, h) in
      te
      ∙ ap (λ l. l ++ more) t.told_is
      ∙ ap (λ l. told_ticks now 1 (take i clients) ++ l) (m ∙ ap (λ n. told_tick now n x.link) (sym number))
      ∙ sym (ticks_push now 1 (take i clients) x)
      ∙ ap (λ (y : Client). told_ticks now 1 (take i clients ++ y ∷ [])) is
      ∙ ap (told_ticks now 1) (sym (take_more clients i x (omega (arith, len, h))));
}

pub ticks_at : (slots slots' : List Slot) (es : List Entry) (clients : List Client) (i now : ℕ) (told told' more : List Told) (old slot' : Slot) → AreTicking slots es clients i now told → i < length slots → length clients ≡ length slots → old ≡ get_or slots i old
    → slots' ≡ set slots i slot' → ((k : Client) → SlotStands old es k → SlotMoves slot' es (tick_client now k) more (told_tick now (i + 1) k.link)) → told' ≡ told ++ more → AreTicking slots' es clients (i + 1) now told'
ticks_at slots slots' es clients i now told told' more old slot' t h len at e moves te =
    let x : Client = get_or clients i no_client in
    let here : slice_get clients i ≡ Some x = slice_get-get_or clients i no_client (omega (arith, h, len)) in
    let st : SlotStands old es x = t.rest i old x (omega arith) (slice_get_read slots (length slots) i old refl h at) here in
    let m = moves x st in
    ticks_step slots slots' es clients i now told told' more slot' x t h len (sym (get_or_from_slice_get clients i x x here)) e m.stands te m.told_is

pub ticks_end : (slots : List Slot) (es : List Entry) (clients : List Client) (i now : ℕ) (told : List Told) → length clients ≡ length slots → length slots ≤ i → AreTicking slots es clients i now told
    → SlotsStand slots es (map (tick_client now) clients) × (told ≡ told_ticks now 1 clients)
ticks_end slots es clients i now told len h t = (
  λ n slot c at here.
      let old = mapped (slice_get clients n) c (sym (slice_get-map (tick_client now) clients n) ∙ here) in
      let P : Client → Type 0 = λ x. SlotStands slot es x in
      subst P (sym old.2) (t.done n slot old.0 (omega (arith, h, slice_get_within slots n slot at)) at old.1),
  t.told_is ∙ ap (told_ticks now 1) (take_all i clients (omega (arith, len, h))),
)
  where
    mapped : (o : Option Client) (c : Client) → option_map (tick_client now) o ≡ Some c → (x : Client) × (o ≡ Some x) × (c ≡ tick_client now x)
    mapped None c e = cc
    mapped (Some x) c e = (x, refl, cc)

pub run_ticked : (r r' : Run) (s : State) (ms : ℕ) → RunStands r s → r'.chain ≡ r.chain → r'.time ≡ r.time + ms → SlotsStand r'.slots.items (book_of s) (map (tick_client (s.now + ms)) s.clients) → RunStands r' (behind_tick ms s)
run_ticked r r' s ms st chain now slots =
    let P : Chain → Type 0 = λ x. ChainStands x (behind_tick ms s) in
    record {
      chain = subst P (sym chain) (chain_kept r.chain s (s.now + ms) (map (tick_client (s.now + ms)) s.clients) st.chain);
      now = now ∙ ap (λ n. n + ms) st.now;
      clients = length-map s.clients (tick_client (s.now + ms)) ∙ st.clients;
      slots = slots;
    }

-- The beginning

none_get : {A : Type 0} (n i : ℕ) (x y : A) → slice_get (replicate n x) i ≡ Some y → y ≡ x
none_get zero i x y e = cc
none_get (suc n) zero x y e = cc
none_get (suc n) (suc i) x y e = none_get n i x y e

pub slots_none : (slots : List Slot) (es : List Entry) → ((i : ℕ) (slot : Slot) → slice_get slots i ≡ Some slot → SlotStands slot es no_client) → SlotsStand slots es (replicate CLIENTS no_client)
slots_none slots es h i slot c at here =
    let P : Client → Type 0 = λ x. SlotStands slot es x in
    subst P (sym (none_get CLIENTS i no_client c here)) (h i slot at)

pub slots_push : (slots slots' : List Slot) (es : List Entry) (new : Slot) → slots' ≡ slots ++ new ∷ [] → ((i : ℕ) (slot : Slot) → slice_get slots i ≡ Some slot → SlotStands slot es no_client) → SlotStands new es no_client
    → (i : ℕ) (slot : Slot) → slice_get slots' i ≡ Some slot → SlotStands slot es no_client
slots_push slots slots' es new e h n i slot at =
    let there : slice_get (slots ++ new ∷ []) i ≡ Some slot = ap (λ l. slice_get l i) (sym e) ∙ at in
    elim (cases_lt i (length slots)) [
      | inl lt ↦ h i slot (slice_get-get_or slots i slot lt ∙ ap Some (sym (get_or_append_left slots (new ∷ []) slot i lt) ∙ get_or_from_slice_get (slots ++ new ∷ []) i slot slot there))
      | inr ge ↦
          let at_end : i ≡ length slots = omega (arith, ge, slice_get_within (slots ++ new ∷ []) i slot there, length-append slots (new ∷ [])) in
          let same : slot ≡ new = sym (get_or_from_slice_get (slots ++ new ∷ []) i slot new there) ∙ ap (λ k. get_or (slots ++ new ∷ []) k new) at_end ∙ get_or-append_seam slots new [] new in
          let P : Slot → Type 0 = λ x. SlotStands x es no_client in
          subst P (sym same) n
    ]

pub run_new : (r : Run) → ChainStands r.chain no_state → r.time ≡ 0 → ((es : List Entry) → SlotsStand r.slots.items es (replicate CLIENTS no_client)) → RunStands r no_state
run_new r st t h = record { chain = st; now = t; clients = length-replicate CLIENTS no_client; slots = h (book_of no_state) }

-- Events

pub moves_line : (r r' : Run) (s : State) (line : List ℕ) (told : List Told) → RunStands r s → ChainMoved r'.chain s (lined line s) told → r'.time ≡ r.time → r'.slots.items ≡ r.slots.items → RunMoves r' s (Line line) told
moves_line r r' s line told st m t e = record {
  stands = run_moved r r' s (fed_with s.feed (line ++ 10 ∷ [])) told st m t e;
  good = m.stands.good;
  told_is = m.told_is;
}

pub ends_run : (r r' : Run) (s : State) (told all : List Told) (newest : ℕ) → RunStands r s → ChainMoved r'.chain s (finished s) told → r'.time ≡ r.time → r'.slots.items ≡ r.slots.items → newest + 1 ≡ length r'.chain.crumbs.items → all ≡ told ++ Ended newest ∷ []
    → RunStands r' (finished s) × (all ≡ told_end s)
ends_run r r' s told all newest st m t e n a = (
  run_moved r r' s (ended_now s.feed) told st m t e,
  (let last : newest ≡ length (book_of (finished s)) = omega (arith, n, m.stands.crumbs.count) in
      a ∙ ap (λ l. l ++ Ended newest ∷ []) m.told_is ∙ ap (λ k. news s (finished s) ++ Ended k ∷ []) last),
)

pub moves_client : (r r' : Run) (s : State) (c : ℕ) (slot : Slot) (e : Event) (new : Client) (told wanted : List Told) → RunStands r s → IsClient c → r'.chain ≡ r.chain → r'.time ≡ r.time → r'.slots.items ≡ set r.slots.items (c - 1) slot
    → SlotMoves slot (book_of s) new told wanted → next_state s e ≡ with_client s c new → event_fault s e ≡ None → wanted ≡ event_told s e → RunMoves r' s e told
moves_client r r' s c slot e new told wanted st h chain time slots m is good w =
    let P : State → Type 0 = λ x. RunStands r' x in
    record {
      stands = subst P (sym is) (run_client r r' s c slot new st h chain time slots m.stands);
      good = good;
      told_is = m.told_is ∙ w;
    }

-- by the time of the run, and the slot as it was
pub moves_join : (r r' : Run) (s : State) (c : ℕ) (old slot : Slot) (told : List Told) → RunStands r s → IsClient c → r'.chain ≡ r.chain → r'.time ≡ r.time → r'.slots.items ≡ set r.slots.items (c - 1) slot → old ≡ get_or r.slots.items (c - 1) old
    → ((es : List Entry) (k : Client) → SlotStands old es k → SlotMoves slot es (record k { link = join_link r.time k.link }) told (told_join c k.link)) → RunMoves r' s (Join c) told
moves_join r r' s c old slot told st h chain time slots at m =
    moves_client r r' s c slot (Join c) (record (client s c) { link = join_link r.time (link s c) }) told (told_join c (link s c)) st h chain time slots (m (book_of s) (client s c) (slot_at r s c old st h at))
    (ap (λ n. with_client s c (record (client s c) { link = join_link n (link s c) })) (sym st.now)) refl refl

pub moves_cut : (r r' : Run) (s : State) (c : ℕ) (old slot : Slot) (told : List Told) → RunStands r s → IsClient c → r'.chain ≡ r.chain → r'.time ≡ r.time → r'.slots.items ≡ set r.slots.items (c - 1) slot → old ≡ get_or r.slots.items (c - 1) old
    → ((es : List Entry) (k : Client) → SlotStands old es k → SlotMoves slot es (record k { link = None }) told (told_cut c k.link)) → RunMoves r' s (Cut c) told
moves_cut r r' s c old slot told st h chain time slots at m =
    moves_client r r' s c slot (Cut c) (record (client s c) { link = None }) told (told_cut c (link s c)) st h chain time slots (m (book_of s) (client s c) (slot_at r s c old st h at)) refl refl refl

pub moves_hear : (r r' : Run) (s : State) (c : ℕ) (old slot : Slot) (told : List Told) → RunStands r s → IsClient c → r'.chain ≡ r.chain → r'.time ≡ r.time → r'.slots.items ≡ set r.slots.items (c - 1) slot → old ≡ get_or r.slots.items (c - 1) old
    → ((t : Trail) (k : Client) → AreTrail r.chain.crumbs.items t → SlotStands old t.entries k → SlotMoves slot t.entries (record k { link = option_map (hear_link (newest t) r.time) k.link }) told (told_hear (newest t) c k.link))
    → ((t : Trail) (k : Client) → AreTrail r.chain.crumbs.items t → SlotStands old t.entries k → hear_fault t.entries k.link ≡ None) → RunMoves r' s (Hear c) told
moves_hear r r' s c old slot told st h chain time slots at m good =
    let a : AreTrail r.chain.crumbs.items (trail s) = trail_is r.chain s st.chain in
    let o : SlotStands old (book_of s) (client s c) = slot_at r s c old st h at in
    moves_client r r' s c slot (Hear c) (record (client s c) { link = option_map (hear_link (newest (trail s)) r.time) (link s c) }) told (told_hear (newest (trail s)) c (link s c)) st h chain time slots (m (trail s) (client s c) a o)
    (ap (λ n. with_client s c (record (client s c) { link = option_map (hear_link (newest (trail s)) n) (link s c) })) (sym st.now)) (good (trail s) (client s c) a o) refl

pub faults_hear : (r : Run) (s : State) (c : ℕ) (old : Slot) (f : IntakeFault) → RunStands r s → IsClient c → old ≡ get_or r.slots.items (c - 1) old
    → ((t : Trail) (k : Client) → AreTrail r.chain.crumbs.items t → SlotStands old t.entries k → hear_fault t.entries k.link ≡ Some f) → event_fault s (Hear c) ≡ Some f
faults_hear r s c old f st h at m = m (trail s) (client s c) (trail_is r.chain s st.chain) (slot_at r s c old st h at)

pub moves_step : (r r' : Run) (s : State) (c : ℕ) (old slot : Slot) (told : List Told) → RunStands r s → IsClient c → r'.chain ≡ r.chain → r'.time ≡ r.time → r'.slots.items ≡ set r.slots.items (c - 1) slot → old ≡ get_or r.slots.items (c - 1) old
    → ((t : Trail) (k : Client) → AreTrail r.chain.crumbs.items t → SlotStands old t.entries k → SlotMoves slot t.entries (record k { link = option_and_then (step_link t r.time) k.link }) told (told_step t r.time c k.link)) → RunMoves r' s (Step c) told
moves_step r r' s c old slot told st h chain time slots at m =
    moves_client r r' s c slot (Step c) (record (client s c) { link = option_and_then (step_link (trail s) r.time) (link s c) }) told (told_step (trail s) r.time c (link s c)) st h chain time slots
    (m (trail s) (client s c) (trail_is r.chain s st.chain) (slot_at r s c old st h at))
    (ap (λ n. with_client s c (record (client s c) { link = option_and_then (step_link (trail s) n) (link s c) })) (sym st.now)) refl (ap (λ n. told_step (trail s) n c (link s c)) st.now)

pub moves_get : (r r' : Run) (s : State) (c n : ℕ) (old slot : Slot) (told : List Told) → RunStands r s → IsClient c → r'.chain ≡ r.chain → r'.time ≡ r.time → r'.slots.items ≡ set r.slots.items (c - 1) slot → old ≡ get_or r.slots.items (c - 1) old
    → ((es : List Entry) (k : Client) → list_all is_small_entry es ≡ true → length es < INPUT_BYTES → SlotStands old es k → SlotGets slot es k n c told) → RunMoves r' s (Get c n) told
moves_get r r' s c n old slot told st h chain time slots at m =
    let a : AreTrail r.chain.crumbs.items (trail s) = trail_is r.chain s st.chain in
    let o : SlotStands old (book_of s) (client s c) = slot_at r s c old st h at in
    let g : SlotGets slot (book_of s) (client s c) n c told = m (book_of s) (client s c) a.texts a.few o in
    record {
      stands = run_client r r' s c slot (get_client (book_of s) n (client s c).held (link s c)) st h chain time slots g.stands;
      good = g.no_fault;
      told_is = g.told_is ∙ gets_same s c n (client s c).held (link s c) o.within g.within;
    }

pub faults_get : (r : Run) (s : State) (c n : ℕ) (old : Slot) (f : IntakeFault) → RunStands r s → IsClient c → old ≡ get_or r.slots.items (c - 1) old
    → ((es : List Entry) (k : Client) → list_all is_small_entry es ≡ true → length es < INPUT_BYTES → SlotStands old es k → get_fault es n k.link ≡ Some f) → event_fault s (Get c n) ≡ Some f
faults_get r s c n old f st h at m =
    let a : AreTrail r.chain.crumbs.items (trail s) = trail_is r.chain s st.chain in
    m (book_of s) (client s c) a.texts a.few (slot_at r s c old st h at)

pub moves_tick : (r r' : Run) (s : State) (ms : ℕ) (told : List Told) → RunStands r s → r'.chain ≡ r.chain → r'.time ≡ r.time + ms
    → ((es : List Entry) (clients : List Client) → length clients ≡ length r.slots.items → SlotsStand r.slots.items es clients → SlotsStand r'.slots.items es (map (tick_client (r.time + ms)) clients) × (told ≡ told_ticks (r.time + ms) 1 clients))
    → RunMoves r' s (Tick ms) told
moves_tick r r' s ms told st chain time m =
    let now : r.time + ms ≡ s.now + ms = ap (λ n. n + ms) st.now in
    let x = m (book_of s) s.clients (st.clients ∙ sym r.all) st.slots in
    let P : ℕ → Type 0 = λ n. SlotsStand r'.slots.items (book_of s) (map (tick_client n) s.clients) in
    record {
      stands = run_ticked r r' s ms st chain time (subst P now x.0);
      good = refl;
      told_is = x.1 ∙ ap (λ n. told_ticks n 1 s.clients) now;
    }

-- What is seen of a client

pub queued_is : (rb : RebuildHeld) (sv : Option SessionHeld) (es : List Entry) (link : Option Connection) → LinkStands rb sv es link → option_map (λ s. s.out) sv ≡ option_map (λ k. drop k.got (down es k)) link
queued_is rb None es None l = refl
queued_is rb None es (Some k) l = absurd l
queued_is rb (Some s) es None l = absurd l
queued_is rb (Some s) es (Some k) l = ap Some (l.1.session_stands.queued.rest ∙ ap (drop k.got) (down-offered es k l.1.connection.marks l.1.connection.offered))

pub offered_is : (rb : RebuildHeld) (sv : Option SessionHeld) (es : List Entry) (link : Option Connection) → LinkStands rb sv es link → option_map (λ s. s.number) sv ≡ option_map (λ k. k.offered) link
offered_is rb None es None l = refl
offered_is rb None es (Some k) l = absurd l
offered_is rb (Some s) es None l = absurd l
offered_is rb (Some s) es (Some k) l =
    let within : k.offered ≤ length es = l.1.connection.offered in
    ap Some (l.1.session_stands.number ∙ omega (arith, length-take k.offered es, within))
