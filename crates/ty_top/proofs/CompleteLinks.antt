-- Where nothing is wrong with what is served, or with what dialled links bring, and no count rises, only want of memory stands in the way.
use Rattle.std.proofs.Common.{◌≡◌, ◌⊎◌, inl, inr, ◌∙◌, refl, sym, ap, subst, ℕ, ◌<◌, Bool, true, false, true≢false, List, [], ◌∷◌, ◌++◌, length, arith, append-nil, nat_lt, if◌then◌else◌}
use Rattle.std.specs.Prelude.{Option, None, Some, Ok, Err}
use Rattle.std.specs.List.{AllByRecursion, fold}
use Rattle.std.proofs.lemmas.List.{append_cancel_left}
use Rattle.ty_base.specs.Causes.{Rose}
use Rattle.ty_base.specs.Devices.{Input, Output, seen}
use Rattle.ty_base.specs.Doors.{DoorSight}
use Rattle.ty_base.specs.Links.{Sight}
use Rattle.ty_base.specs.Told.{Told}
use Rattle.ty_base.specs.declared.entry.Entry.{Entry}
use Rattle.ty_intake.specs.Lines.{Feed as FeedSoFar}
use Rattle.ty_intake.specs.Faults.{feed_fault}
use Rattle.ty_intake.specs.declared.intake.IntakeFault.{IntakeFault}
use Rattle.ty_wire.specs.Stream.{Reads}
use Rattle.ty_wire.proofs.Stream.{one_reads}
use Rattle.ty_client.specs.Heard.{Hears}
use Rattle.ty_feed.specs.Publishing.{IsListOf}
use Rattle.ty_feed.specs.declared.ending.FeedEnd.{FeedEnd}
use Rattle.ty_feed.specs.declared.ending.FeedEnd.TheVariants as feed
use Rattle.ty_dial.specs.Dialled.{Answer, Turn, IsTurn, Answers, AnswerShows, LinkFollowed, WasFollowed, WasLost, CameBack, Each, Dials, last_answer}
use Rattle.ty_dial.specs.declared.fault.DialFault.TheVariants as fault
use Rattle.ty_top.specs.Dialling.{dial_end}
use Rattle.ty_top.specs.Endings.{whole_feed}
use Rattle.ty_top.specs.GoodLinks.{BringsGood, IsGoodLink, AreGoodLinks}
use Rattle.ty_top.specs.LinkEndings.{dial_status, serve_status}
use Rattle.ty_top.specs.Serving.{Serves, feed_end}
use Rattle.ty_top.specs.declared.link_ending.ServeEnd.{ServeEnd}
use Rattle.ty_top.specs.declared.link_ending.ServeEnd.TheVariants as serve
use Rattle.ty_top.proofs.Complete.{fault_shown, fault_shows, not_none}

-- ---- what is served

abbrev fault_in : ServeEnd → Option IntakeFault
fault_in (serve.Fault f) = Some f
fault_in _ = None

abbrev fault_of : FeedEnd → Option IntakeFault
fault_of (feed.Fault f) = Some f
fault_of _ = None

-- the fault of an ending is the feed's
feed_faulty : (f : FeedEnd) (door : Option ℕ) (short : Bool) (g : IntakeFault) → serve.Fault g ≡ (if short then serve.Memory else feed_end f door) → fault_of f ≡ Some g
feed_faulty f door true g e = absurd (not_none g (ap fault_in e))
feed_faulty (feed.Fault h) door false g e = sym (ap fault_in e)
feed_faulty feed.Done None false g e = absurd (not_none g (ap fault_in e))
feed_faulty feed.Done (Some n) false g e = absurd (not_none g (ap fault_in e))
feed_faulty feed.Read door false g e = absurd (not_none g (ap fault_in e))
feed_faulty feed.NoMemory door false g e = absurd (not_none g (ap fault_in e))

fault_read : (e : FeedEnd) (read : FeedSoFar) (entries : List Entry) (f : IntakeFault) → IsListOf e read entries → fault_of e ≡ Some f → feed_fault read ≡ Some f
fault_read (feed.Fault h) read entries f l is = l.0 ∙ is
fault_read feed.Done read entries f l is = absurd (not_none f (sym is))
fault_read feed.Read read entries f l is = absurd (not_none f (sym is))
fault_read feed.NoMemory read entries f l is = absurd (not_none f (sym is))

-- ---- lists

all_front : {X : Type 0} (P : X → Type 0) (xs ys : List X) → AllByRecursion P (xs ++ ys) → AllByRecursion P xs
all_front P [] ys h = tt
all_front P (x ∷ xs) ys h = (h.0, all_front P xs ys h.1)

all_behind : {X : Type 0} (P : X → Type 0) (xs ys : List X) → AllByRecursion P (xs ++ ys) → AllByRecursion P ys
all_behind P [] ys h = h
all_behind P (x ∷ xs) ys h = all_behind P xs ys h.1

-- ---- turns

-- a fault of what was brought, or of the link
abbrev is_fault : Answer → Bool
is_fault (Ok u) = false
is_fault (Err (fault.Stream f)) = true
is_fault (Err (fault.Cut left)) = true
is_fault (Err fault.Link) = true
is_fault (Err fault.Door) = false
is_fault (Err fault.Write) = false
is_fault (Err fault.NoMemory) = false

abbrev IsWell : Turn → Type 0
IsWell t = is_fault t.answer ≡ false

last_well : (ts : List Turn) (a : Answer) → is_fault a ≡ false → AllByRecursion IsWell ts → is_fault (fold (λ (_ : Answer) (t : Turn). t.answer) a ts) ≡ false
last_well [] a w h = w
last_well (t ∷ ts) a w h = last_well ts t.answer h.0 h.1

module _ (t : Turn) (x y : Sight) (n m : ℕ) (same : x.brought ++ (t.bytes ++ t.unheard) ≡ y.brought) (g : BringsGood x y) (well : Rose n m → ⊥) where
  heard_whole : t.unheard ≡ [] → t.bytes ≡ g.bytes
  heard_whole none =
      sym (append-nil t.bytes) ∙ ap (λ (l : List ℕ). t.bytes ++ l) (sym none) ∙ append_cancel_left x.brought (t.bytes ++ t.unheard) g.bytes (same ∙ g.brought)

  well_by : (a : Answer) → Answers t a → AnswerShows a (Some x) (Some y) n m → is_fault a ≡ false
  well_by (Ok u) k s = refl
  well_by (Err (fault.Stream f)) k s =
      absurd (fault_shows g.bytes g.more t.ms g.ms f (subst (λ (l : List ℕ). Hears l t.ms (Some f)) (heard_whole k.1) k.0) g.hears)
  well_by (Err (fault.Cut left)) (rest, k, some, len) s =
      let all : g.bytes ++ g.more ≡ t.bytes = ap (λ (l : List ℕ). g.bytes ++ l) (g.whole s.0) ∙ append-nil g.bytes ∙ sym (heard_whole k.0.1) in
      let reads : Reads t.bytes g.ms [] = subst (λ (l : List ℕ). Reads l g.ms []) all g.reads in
      let none : rest ≡ [] = (one_reads t.bytes t.ms g.ms rest [] k.1 reads).1 in
      absurd (omega (arith, some, len, ap length none))
  well_by (Err fault.Link) k s = absurd (well s)
  well_by (Err fault.Door) k s = refl
  well_by (Err fault.Write) k s = refl
  well_by (Err fault.NoMemory) k s = refl

module _ {D L : Type 0} (gave got count : D → ℕ) (sight : D → Option (DoorSight L)) (link : L → Option Sight) (faults : L → ℕ) (host : List ℕ) where
  followed_well : (t : Turn) (back : L × L) → IsTurn t → WasFollowed link faults host t back → IsGoodLink sight link faults back → IsWell t
  followed_well t back is f g =
      let brought : Told (λ (a b : Sight). b.brought ≡ a.brought ++ (t.bytes ++ t.unheard)) (Some g.gone) (Some g.came) =
      subst (λ (o : Option Sight). Told (λ (a b : Sight). b.brought ≡ a.brought ++ (t.bytes ++ t.unheard)) (Some g.gone) o) g.tells
      (subst (λ (o : Option Sight). Told (λ (a b : Sight). b.brought ≡ a.brought ++ (t.bytes ++ t.unheard)) o (link back.1)) g.told f.brought) in
      let shows : AnswerShows t.answer (Some g.gone) (Some g.came) (faults back.0) (faults back.1) =
      subst (λ (o : Option Sight). AnswerShows t.answer (Some g.gone) o (faults back.0) (faults back.1)) g.tells
      (subst (λ (o : Option Sight). AnswerShows t.answer o (link back.1) (faults back.0) (faults back.1)) g.told f.shows) in
      well_by t g.gone g.came (faults back.0) (faults back.1) (sym brought) g.brings g.well t.answer is shows

  all_well : (ts : List Turn) (backs : List (L × L)) → AllByRecursion IsTurn ts → Each (WasFollowed link faults host) ts backs → AllByRecursion (IsGoodLink sight link faults) backs
      → AllByRecursion IsWell ts
  all_well [] backs is f g = tt
  all_well (t ∷ ts) [] is f g = absurd f
  all_well (t ∷ ts) (b ∷ bs) is f g = (followed_well t b is.0 f.0 g.0, all_well ts bs is.1 f.1 g.1)

  lost_followed : (ts : List Turn) (backs : List (L × L)) → Each (WasLost link faults host) ts backs → Each (WasFollowed link faults host) ts backs
  lost_followed [] [] f = tt
  lost_followed [] (b ∷ bs) f = absurd f
  lost_followed (t ∷ ts) [] f = absurd f
  lost_followed (t ∷ ts) (b ∷ bs) f = (f.0.0, lost_followed ts bs f.1)

  came_well : (lost last : List Turn) (x y : D) → AllByRecursion IsTurn (lost ++ last) → AreGoodLinks sight link faults x y
      → Told (CameBack link faults host lost last) (sight x) (sight y) → AllByRecursion IsWell lost × AllByRecursion IsWell last
  came_well lost last x y is g h =
      let c : CameBack link faults host lost last g.before g.after =
      subst (λ (o : Option (DoorSight L)). Told (CameBack link faults host lost last) (Some g.before) o) g.tells
      (subst (λ (o : Option (DoorSight L)). Told (CameBack link faults host lost last) o (sight y)) g.told h) in
      let all = g.all (c.lost_links ++ c.last_links) c.backs in (
        all_well lost c.lost_links (all_front IsTurn lost last is) (lost_followed lost c.lost_links c.were_lost) (all_front (IsGoodLink sight link faults) c.lost_links c.last_links all),
        all_well last c.last_links (all_behind IsTurn lost last is) c.was_followed (all_behind (IsGoodLink sight link faults) c.lost_links c.last_links all),
      )

  pub dialled_whole : (tries : ℕ) (brief : Bool) (x y : D) (old new : Output) (a : Answer) → Dials gave got count sight link faults host tries brief x y old new a
      → AreGoodLinks sight link faults x y → (Rose (count x) (count y) → ⊥) → (Rose old.faults new.faults → ⊥) → (dial_status (dial_end a) ≡ 0) ⊎ (dial_status (dial_end a) ≡ 5)
  dialled_whole tries brief x y old new (Ok u) d g dial_well sink_well = inl refl
  dialled_whole tries brief x y old new (Err (fault.Stream f)) d g dial_well sink_well =
      let w = subst (AllByRecursion IsWell) d.why.1 (came_well d.lost d.last x y d.turns g d.came_back).1 in
      absurd (true≢false (ap is_fault (sym d.why.2) ∙ w.0))
  dialled_whole tries brief x y old new (Err (fault.Cut left)) d g dial_well sink_well =
      absurd (true≢false (ap is_fault (sym d.why.same) ∙ last_well d.lost (Ok tt) refl (came_well d.lost d.last x y d.turns g d.came_back).0))
  dialled_whole tries brief x y old new (Err fault.Link) d g dial_well sink_well =
      absurd (true≢false (ap is_fault (sym d.why.same) ∙ last_well d.lost (Ok tt) refl (came_well d.lost d.last x y d.turns g d.came_back).0))
  dialled_whole tries brief x y old new (Err fault.Door) d g dial_well sink_well = absurd (dial_well d.why.1)
  dialled_whole tries brief x y old new (Err fault.Write) d g dial_well sink_well = absurd (sink_well d.why.1)
  dialled_whole tries brief x y old new (Err fault.NoMemory) d g dial_well sink_well = inr refl

module _ {D L : Type 0} (gave got count : D → ℕ) (sight : D → Option (DoorSight L)) (link : L → Option Sight) (faults : L → ℕ) (gives : ℕ → Type 0) where
  -- a fault with which serving ends is the whole feed's
  pub served_fault : (f : IntakeFault) (old new : Input) (sink : Output) (xs ys : List D) (bytes : List ℕ) → Serves gave got count sight link faults gives (serve.Fault f) old new xs ys
      → old.left ≡ Some bytes → feed_fault (whole_feed bytes) ≡ Some f
  served_fault f old new sink xs ys bytes (inl s) known =
      fault_shown (seen old sink) (seen new sink) s.list.read bytes f (record { bytes = s.list.taken.bytes; end = s.list.taken.end }) known
      (fault_read s.served.feed s.list.read s.served.front.entries f s.list.list (feed_faulty s.served.feed s.served.door (nat_lt 0 s.served.short) f s.end_is))
  served_fault f old new sink xs ys bytes (inr s) known = absurd (not_none f (ap fault_in s.0))
