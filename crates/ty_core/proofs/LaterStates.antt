-- What is so of each state of a run, and stays so behind each happening.
use Rattle.std.proofs.Common.{◌≡◌, ℕ, zero, suc, ◌+◌, ◌-◌, ◌<◌, ◌≤◌, List, [], ◌∷◌, ◌++◌, length, map, replicate, refl, sym, ap, subst, ◌∙◌, arith, append_assoc, append-nil, length-append, inl, inr}
use Rattle.std.specs.Prelude.{Option, None, Some, option_map, option_and_then, slice_index_or, slice_set, nat_le}
use Rattle.std.specs.Option.{IfSome}
use Rattle.std.specs.List.{AllByRecursion}
use Rattle.std.proofs.lemmas.Bool.{cases_lt, le-leb}
use Rattle.ty_base.specs.declared.entry.Entry.{Entry}
use Rattle.ty_base.specs.declared.limits.TheConstants.{INPUT_BYTES}
use Rattle.ty_intake.specs.declared.intake.IntakeFault.{IntakeFault}
use Rattle.ty_intake.specs.declared.intake.IntakeFault.TheVariants.{TooMuch}
use Rattle.ty_core.specs.declared.client.Client.{Client}
use Rattle.ty_core.specs.declared.client.Connection.{Connection}
use Rattle.ty_script.specs.declared.event.Event.{Event}
use Rattle.ty_script.specs.declared.event.Event.TheVariants.{Line, Join, Step, Get, Hear, Cut, Tick}
use Rattle.ty_script.specs.declared.event.TheConstants.{CLIENTS, TIME_LIMIT}
use Rattle.ty_core.specs.Clients.{Trail, newest, no_client, got_with, numbers_came, join_link, hear_link, step_link, get_client, tick_link}
use Rattle.ty_core.specs.Run.{State, no_state, book_of, trail, client, link, with_client, tick_client, next_state, finished, too_much_if, get_fault, event_fault, Happening, on, end, Ran, going, over, went, goes}
use Rattle.ty_script.specs.Fits.{IsEvent}
use Rattle.ty_core.specs.Interleavings.{CanHappen}
use Rattle.ty_core.proofs.LongerBooks.{fed_longer, ended_longer}
use Rattle.ty_core.proofs.Reached.{IfReached, opened_reached, heard_by_reached, stepped_reached, got_reached, ticked_reached, more_entries}
use Rattle.ty_core.proofs.Getting.{came_within, last_within}

-- Elements

all_set : {X : Type 0} (P : X → Type 0) (xs : List X) (i : ℕ) (x : X) → AllByRecursion P xs → P x → AllByRecursion P (slice_set xs i x)
all_set P [] i x a p = tt
all_set P (y ∷ ys) zero x a p = (p, a.1)
all_set P (y ∷ ys) (suc i) x a p = (a.0, all_set P ys i x a.1 p)

all_at : {X : Type 0} (P : X → Type 0) (xs : List X) (i : ℕ) (x : X) → AllByRecursion P xs → P x → P (slice_index_or xs i x)
all_at P [] i x a p = p
all_at P (y ∷ ys) zero x a p = a.0
all_at P (y ∷ ys) (suc i) x a p = all_at P ys i x a.1 p

all_map : {X Y : Type 0} (P : X → Type 0) (Q : Y → Type 0) (f : X → Y) (xs : List X) → ((x : X) → P x → Q (f x)) → AllByRecursion P xs → AllByRecursion Q (map f xs)
all_map P Q f [] h a = tt
all_map P Q f (x ∷ xs) h a = (h x a.0, all_map P Q f xs h a.1)

pub all_weaker : {X : Type 0} (P Q : X → Type 0) (xs : List X) → ((x : X) → P x → Q x) → AllByRecursion P xs → AllByRecursion Q xs
all_weaker P Q [] h a = tt
all_weaker P Q (x ∷ xs) h a = (h x a.0, all_weaker P Q xs h a.1)

all_copies : {X : Type 0} (P : X → Type 0) (n : ℕ) (x : X) → P x → AllByRecursion P (replicate n x)
all_copies P zero x p = tt
all_copies P (suc n) x p = (p, all_copies P n x p)

-- One client

-- its connection is one of a run, and it holds the number of a breadcrumb that is there
pub record IsFine (es : List Entry) (c : Client) : Type 0 where
  pub link : IfReached es c.link
  pub held : IfSome c.held (λ n. n ≤ length es)

none_fine : (es : List Entry) → IsFine es no_client
none_fine es = record { link = tt; held = tt }

link_more : (es more : List Entry) (link : Option Connection) → IfReached es link → IfReached (es ++ more) link
link_more es more None r = tt
link_more es more (Some k) r = more_entries es more k r

held_more : (es more : List Entry) (held : Option ℕ) → IfSome held (λ n. n ≤ length es) → IfSome held (λ n. n ≤ length (es ++ more))
held_more es more None h = tt
held_more es more (Some n) h = omega (arith, h, length-append es more)

fine_more : (es more : List Entry) (c : Client) → IsFine es c → IsFine (es ++ more) c
fine_more es more c f = record { link = link_more es more c.link f.link; held = held_more es more c.held f.held }

joined_link : (es : List Entry) (now : ℕ) (link : Option Connection) → IfReached es link → IfReached es (join_link now link)
joined_link es now None r = opened_reached es now
joined_link es now (Some k) r = r

heard_link : (es : List Entry) (now : ℕ) (link : Option Connection) → IfReached es link → IfReached es (option_map (hear_link (length es) now) link)
heard_link es now None r = tt
heard_link es now (Some k) r = heard_by_reached es k now r

stepped_link : (t : Trail) (now : ℕ) (link : Option Connection) → IfReached t.entries link → IfReached t.entries (option_and_then (step_link t now) link)
stepped_link t now None r = tt
stepped_link t now (Some k) r = stepped_reached t now k r

ticked_fine : (es : List Entry) (now : ℕ) → now < TIME_LIMIT → (c : Client) → IsFine es c → IsFine es (tick_client now c)
ticked_fine es now h c f = record { link = ticked_link c.link f.link; held = f.held }
  where
    ticked_link : (link : Option Connection) → IfReached es link → IfReached es (option_and_then (tick_link now) link)
    ticked_link None r = tt
    ticked_link (Some k) r = ticked_reached es now k r (omega (arith, h))

not_much : (n : ℕ) → too_much_if (nat_le INPUT_BYTES n) ≡ None → n < INPUT_BYTES
not_much n e = elim (cases_lt n INPUT_BYTES) [
  | inl few ↦ few
  | inr much ↦ absurd (never TooMuch (sym (ap too_much_if (le-leb INPUT_BYTES n much)) ∙ e))
]
  where
    never : (f : IntakeFault) → Some f ≡ None → ⊥
    never f e = cc

got_fine : (es : List Entry) (n : ℕ) (c : Client) → get_fault es n c.link ≡ None → IsFine es c → IsFine es (get_client es n c.held c.link)
got_fine es n c e f = by_link c.link e f.link
  where
    by_link : (link : Option Connection) → get_fault es n link ≡ None → IfReached es link → IsFine es (get_client es n c.held link)
    by_link None e r = record { link = tt; held = f.held }
    by_link (Some k) e r = record {
      link = got_reached es k n r (not_much (got_with es k n) e);
      held = last_within es c.held (numbers_came es k n) f.held (came_within es k n r.connection);
    }

-- One state

pub record IsFit (s : State) : Type 0 where
  pub now : s.now < TIME_LIMIT
  pub clients : AllByRecursion (IsFine (book_of s)) s.clients

-- the later book is the earlier one, and more
abbrev pub IsLater : State → State → Type 0
IsLater old new = (more : List Entry) × (book_of new ≡ book_of old ++ more)

pub same_later : (s : State) → IsLater s s
same_later s = ([], sym (append-nil (book_of s)))

pub then_later : (a b c : State) → IsLater a b → IsLater b c → IsLater a c
then_later a b c x y = (x.0 ++ y.0, y.1 ∙ ap (λ l. l ++ y.0) x.1 ∙ append_assoc (book_of a) x.0 y.0)

pub client_fine : (s : State) (c : ℕ) → IsFit s → IsFine (book_of s) (client s c)
client_fine s c f = all_at (IsFine (book_of s)) s.clients (c - 1) no_client f.clients (none_fine (book_of s))

pub no_state_fit : IsFit no_state
no_state_fit = record { now = omega arith; clients = all_copies (IsFine (book_of no_state)) CLIENTS no_client (none_fine (book_of no_state)) }

-- One happening

-- the later state is fit, and its book has grown
pub record Leads (old new : State) : Type 0 where
  pub fit : IsFit new
  pub later : IsLater old new

with_new : (s : State) (c : ℕ) (new : Client) → IsFit s → IsFine (book_of s) new → Leads s (with_client s c new)
with_new s c new f n = record {
  fit = record { now = f.now; clients = all_set (IsFine (book_of s)) s.clients (c - 1) new f.clients n };
  later = same_later s;
}

with_more : (s new : State) → IsFit s → IsLater s new → new.now ≡ s.now → new.clients ≡ s.clients → Leads s new
with_more s new f l n c =
    let P : List Entry → Type 0 = λ es. AllByRecursion (IsFine es) new.clients in
    let Q : List Client → Type 0 = λ cs. AllByRecursion (IsFine (book_of s ++ l.0)) cs in
    record {
      fit = record {
        now = omega (arith, f.now, n);
        clients = subst P (sym l.1) (subst Q (sym c) (all_weaker (IsFine (book_of s)) (IsFine (book_of s ++ l.0)) s.clients (fine_more (book_of s) l.0) f.clients));
      };
      later = l;
    }

behind_event : (s : State) (e : Event) → IsFit s → IsEvent s.now e → event_fault s e ≡ None → Leads s (next_state s e)
behind_event s (Line line) f h n = with_more s (next_state s (Line line)) f (fed_longer s.feed (line ++ 10 ∷ [])) refl refl
behind_event s (Join c) f h n =
    let x : IsFine (book_of s) (client s c) = client_fine s c f in
    with_new s c (record (client s c) { link = join_link s.now (link s c) }) f (record { link = joined_link (book_of s) s.now (link s c) x.link; held = x.held })
behind_event s (Step c) f h n =
    let x : IsFine (book_of s) (client s c) = client_fine s c f in
    with_new s c (record (client s c) { link = option_and_then (step_link (trail s) s.now) (link s c) }) f (record { link = stepped_link (trail s) s.now (link s c) x.link; held = x.held })
behind_event s (Get c n) f h g =
    with_new s c (get_client (book_of s) n (client s c).held (link s c)) f (got_fine (book_of s) n (client s c) g (client_fine s c f))
behind_event s (Hear c) f h n =
    let x : IsFine (book_of s) (client s c) = client_fine s c f in
    with_new s c (record (client s c) { link = option_map (hear_link (newest (trail s)) s.now) (link s c) }) f (record { link = heard_link (book_of s) s.now (link s c) x.link; held = x.held })
behind_event s (Cut c) f h n = with_new s c (record (client s c) { link = None }) f (record { link = tt; held = (client_fine s c f).held })
behind_event s (Tick ms) f h n = record {
  fit = record { now = h; clients = all_map (IsFine (book_of s)) (IsFine (book_of s)) (tick_client (s.now + ms)) s.clients (ticked_fine (book_of s) (s.now + ms) h) f.clients };
  later = same_later s;
}

abbrev pub state_of : Ran → State → State
state_of (going t) s = t
state_of (over f) s = s

pub went_on : (o : Option IntakeFault) (s s' : State) → went o s ≡ going s' → (o ≡ None) × (s ≡ s')
went_on None s s' e = (refl, ap (λ r. state_of r s) e)
went_on (Some f) s s' e = cc

pub behind : (s s' : State) (h : Happening) → IsFit s → CanHappen (going s) h → goes (going s) h ≡ going s' → Leads s s'
behind s s' (on e) f c g =
    let w = went_on (event_fault s e) (next_state s e) s' g in
    let P : State → Type 0 = Leads s in
    subst P w.1 (behind_event s e f c w.0)
behind s s' end f c g =
    let P : State → Type 0 = Leads s in
    subst P (ap (λ r. state_of r s) g) (with_more s (finished s) f (ended_longer s.feed) refl refl)
