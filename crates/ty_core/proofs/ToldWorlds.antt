-- Each map that is told is the world of its number.
use Rattle.std.proofs.Common.{◌≡◌, ℕ, zero, suc, ◌+◌, ◌-◌, ◌≤◌, Bool, true, false, List, [], ◌∷◌, ◌++◌, length, map, refl, sym, ap, subst, ◌∙◌, arith, length-append}
use Rattle.std.specs.Prelude.{Option, None, Some, option_map, not, if◌then◌else◌}
use Rattle.std.specs.Option.{IfSome}
use Rattle.std.specs.List.{AllByRecursion, range_with_len}
use Rattle.ty_base.specs.Feed.{World}
use Rattle.ty_marks.proofs.Marks.{world-more}
use Rattle.ty_client.specs.Rebuilt.{Rebuilt}
use Rattle.ty_client.specs.Worlds.{numbered, rebuilt_after}
use Rattle.ty_intake.specs.declared.intake.IntakeFault.{IntakeFault}
use Rattle.ty_core.specs.declared.client.Client.{Client}
use Rattle.ty_core.specs.declared.client.Connection.{Connection}
use Rattle.ty_script.specs.declared.event.Event.{Event}
use Rattle.ty_script.specs.declared.event.Event.TheVariants.{Line, Join, Step, Get, Hear, Cut, Tick}
use Rattle.ty_core.specs.declared.told.Told.{Told}
use Rattle.ty_core.specs.declared.told.Told.TheVariants.{Published, Ended, Joined, Pending, Waiting, TooSlow, Stepped, Rebuilt as AtEnd, NoHello, NoPong}
use Rattle.ty_core.specs.Clients.{Trail, newest, time_of, is_joining, is_behind, is_too_slow, numbers_came, is_dropped}
use Rattle.ty_core.specs.Run.{State, no_state, book_of, trail, client, link, lined, finished, next_state, event_fault, Happening, on, end, going, over, goes, run_from, run}
use Rattle.ty_core.specs.Report.{world_shown, news, told_join, told_hear, told_step, told_ends, told_get, told_cut, told_tick, told_ticks, event_told, told_of, told_if_going, report_from, report}
use Rattle.ty_core.specs.Interleavings.{AllCanHappen, IsScript, IsWorldOf, map_of, ShowsWorlds}
use Rattle.ty_core.proofs.Chains.{shown_is}
use Rattle.ty_core.proofs.Getting.{came_within}
use Rattle.ty_core.proofs.Reached.{IfReached}
use Rattle.ty_core.proofs.LaterStates.{all_weaker, IsFine, IsFit, IsLater, Leads, same_later, then_later, client_fine, no_state_fit, state_of, went_on, behind}

-- Later

world_later : (old new : State) (a : Rebuilt) → IsLater old new → IsWorldOf old a → IsWorldOf new a
world_later old new a l w =
    let n : ℕ = a.number in
    let grown : length (book_of new) ≡ length (book_of old) + length l.0 = ap length l.1 ∙ length-append (book_of old) l.0 in (
      w.0
          ∙ sym (shown_is old n w.1)
          ∙ sym (ap (λ (x : World). numbered n x) (world-more (book_of old) l.0 n w.1))
          ∙ ap (λ es. rebuilt_after es n) (sym l.1)
          ∙ shown_is new n (omega (arith, w.1, grown)),
      omega (arith, w.1, grown),
    )

told_later : (old new : State) → IsLater old new → (t : Told) → ShowsWorlds old t → ShowsWorlds new t
told_later old new l t w = by_map (map_of t) w
  where
    by_map : (o : Option Rebuilt) → IfSome o (IsWorldOf old) → IfSome o (IsWorldOf new)
    by_map None w = tt
    by_map (Some a) w = world_later old new a l w

abbrev AreWorlds : State → List Told → Type 0
AreWorlds s ts = AllByRecursion (ShowsWorlds s) ts

all_append : (s : State) (xs ys : List Told) → AreWorlds s xs → AreWorlds s ys → AreWorlds s (xs ++ ys)
all_append s [] ys a b = b
all_append s (x ∷ xs) ys a b = (a.0, all_append s xs ys a.1 b)

-- What one happening tells

are_news : (s : State) (from k : ℕ) → from + k ≤ newest (trail s) + 1 → AreWorlds s (map (λ n. Published (world_shown s n)) (range_with_len from k))
are_news s from zero h = tt
are_news s from (suc k) h = ((refl, omega (arith, h)), are_news s (from + 1) k (omega (arith, h)))

news_shown : (old new : State) → AreWorlds new (news old new)
news_shown old new = by_len (newest (trail new) - newest (trail old)) refl
  where
    by_len : (k : ℕ) → newest (trail new) - newest (trail old) ≡ k → AreWorlds new (map (λ n. Published (world_shown new n)) (range_with_len (newest (trail old) + 1) k))
    by_len zero e = tt
    by_len (suc k) e = are_news new (newest (trail old) + 1) (suc k) (omega (arith, e))

module _ (s : State) (c : ℕ) where
  join_shown : (link : Option Connection) → AreWorlds s (told_join c link)
  join_shown None = (tt, tt)
  join_shown (Some k) = (tt, tt)

  cut_shown : (link : Option Connection) → AreWorlds s (told_cut c link)
  cut_shown None = (tt, tt)
  cut_shown (Some k) = (tt, tt)

  hear_shown : (n : ℕ) (link : Option Connection) → AreWorlds s (told_hear n c link)
  hear_shown n None = (tt, tt)
  hear_shown n (Some k) = (
    tt,
    elim (is_joining k) as (λ b. AreWorlds s (if b then Joined c n ∷ [] else [])) [
      | true ↦ (tt, tt)
      | false ↦ tt
    ],
  )

  step_shown : (t : Trail) (now : ℕ) (link : Option Connection) → AreWorlds s (told_step t now c link)
  step_shown t now None = (tt, tt)
  step_shown t now (Some k) = by_tests k.has_joined (is_behind t k) (is_too_slow t now k)
    where
      by_tests : (joined later slow : Bool)
          → AreWorlds s (if not joined then Waiting c ∷ [] else (if not later then Pending c k.offered ∷ [] else (if slow then TooSlow c (time_of t (k.offered + 1)) now ∷ [] else Stepped c (k.offered + 1) ∷ [])))
      by_tests false later slow = (tt, tt)
      by_tests true false slow = (tt, tt)
      by_tests true true true = (tt, tt)
      by_tests true true false = (tt, tt)

  ends_shown : (ns : List ℕ) → AllByRecursion (λ m. m ≤ newest (trail s)) ns → AreWorlds s (map (λ m. AtEnd c (world_shown s m)) ns)
  ends_shown [] a = tt
  ends_shown (n ∷ ns) a = ((refl, a.0), ends_shown ns a.1)

  held_shown : (held : Option ℕ) → IfSome held (λ n. n ≤ newest (trail s)) → IfSome (option_map (world_shown s) held) (IsWorldOf s)
  held_shown None h = tt
  held_shown (Some n) h = (refl, h)

  ends_or_held : (held : Option ℕ) (ns : List ℕ) → IfSome held (λ n. n ≤ newest (trail s)) → AllByRecursion (λ m. m ≤ newest (trail s)) ns → AreWorlds s (told_ends (world_shown s) c held ns)
  ends_or_held held [] h a = (held_shown held h, tt)
  ends_or_held held (n ∷ ns) h a = ends_shown (n ∷ ns) a

  get_shown : (n : ℕ) (held : Option ℕ) (link : Option Connection) → IfSome held (λ n. n ≤ newest (trail s)) → IfReached (book_of s) link → AreWorlds s (told_get (world_shown s) (book_of s) c n held link)
  get_shown n held None h r = (tt, tt)
  get_shown n held (Some k) h r = ends_or_held held (numbers_came (book_of s) k n) h (came_within (book_of s) k n r.connection)

tick_shown : (s : State) (now c : ℕ) (link : Option Connection) → AreWorlds s (told_tick now c link)
tick_shown s now c None = tt
tick_shown s now c (Some k) = by_tests (is_dropped now k) k.has_joined
  where
    by_tests : (dropped joined : Bool) → AreWorlds s (if dropped then (if joined then NoPong c k.heard now else NoHello c k.opened now) ∷ [] else [])
    by_tests false joined = tt
    by_tests true true = (tt, tt)
    by_tests true false = (tt, tt)

ticks_shown : (s : State) (now c : ℕ) (xs : List Client) → AreWorlds s (told_ticks now c xs)
unfolding told_ticks
ticks_shown s now c [] = tt
ticks_shown s now c (x ∷ xs) = all_append s (told_tick now c x.link) (told_ticks now (c + 1) xs) (tick_shown s now c x.link) (ticks_shown s now (c + 1) xs)

-- of the state behind it
event_shown : (s : State) (e : Event) → IsFit s → AreWorlds (next_state s e) (event_told s e)
event_shown s (Line line) f = news_shown s (lined line s)
event_shown s (Join c) f = join_shown (next_state s (Join c)) c (link s c)
event_shown s (Step c) f = step_shown (next_state s (Step c)) c (trail s) s.now (link s c)
event_shown s (Get c n) f =
    let x : IsFine (book_of s) (client s c) = client_fine s c f in
    get_shown s c n (client s c).held (link s c) x.held x.link
event_shown s (Hear c) f = hear_shown (next_state s (Hear c)) c (newest (trail s)) (link s c)
event_shown s (Cut c) f = cut_shown (next_state s (Cut c)) c (link s c)
event_shown s (Tick ms) f = ticks_shown (next_state s (Tick ms)) (s.now + ms) 1 s.clients

end_shown : (s : State) → AreWorlds (finished s) (told_of (going s) end)
end_shown s = all_append (finished s) (news s (finished s)) (Ended (newest (trail (finished s))) ∷ []) (news_shown s (finished s)) (tt, tt)

happening_shown : (s s' : State) (h : Happening) → IsFit s → goes (going s) h ≡ going s' → AreWorlds s' (told_of (going s) h)
happening_shown s s' (on e) f g =
    let P : State → Type 0 = λ t. AreWorlds t (event_told s e) in
    subst P (went_on (event_fault s e) (next_state s e) s' g).1 (event_shown s e f)
happening_shown s s' end f g =
    let P : State → Type 0 = λ t. AreWorlds t (told_of (going s) end) in
    subst P (ap (λ r. state_of r s) g) (end_shown s)

-- All of them

-- where a run has come from a state
pub record Comes (old new : State) (told : List Told) : Type 0 where
  pub fit : IsFit new
  pub later : IsLater old new
  pub worlds : AreWorlds new told

stays_over : (f : IntakeFault) (hs : List Happening) → run_from (over f) hs ≡ over f
unfolding run_from
stays_over f [] = refl
stays_over f (h ∷ hs) = stays_over f hs

not_over : (f : IntakeFault) (s : State) → over f ≡ going s → ⊥
not_over f s e = cc

comes : (hs : List Happening) (s s' : State) → IsFit s → AllCanHappen (going s) hs → run_from (going s) hs ≡ going s' → Comes s s' (report_from (going s) hs)
unfolding run_from report_from AllCanHappen
comes [] s s' f c e =
    let P : State → Type 0 = λ t. Comes s t [] in
    subst P (ap (λ r. state_of r s) e) (record { fit = f; later = same_later s; worlds = tt })
comes (h ∷ hs) s s' f c e =
    elim (goes (going s) h) as (λ r. goes (going s) h ≡ r → AllCanHappen r hs → run_from r hs ≡ going s' → Comes s s' (told_if_going r (told_of (going s) h) ++ report_from r hs)) [
      | going t ↦ λ g a x.
          let l : Leads s t = behind s t h f c.0 g in
          let rest : Comes t s' (report_from (going t) hs) = comes hs t s' l.fit a x in
          record {
            fit = rest.fit;
            later = then_later s t s' l.later rest.later;
            worlds = all_append s' (told_of (going s) h) (report_from (going t) hs) (all_weaker (ShowsWorlds t) (ShowsWorlds s') (told_of (going s) h) (told_later t s' rest.later) (happening_shown s t h f g)) rest.worlds;
          }
      | over x ↦ λ g a y. absurd (not_over x s' (sym (stays_over x hs) ∙ y))
    ] refl c.1 e

pub comes_all : (hs : List Happening) (s : State) → IsScript hs → run hs ≡ going s → Comes no_state s (report hs)
comes_all hs s c e = comes hs no_state s no_state_fit c e
