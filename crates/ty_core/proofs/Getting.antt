-- Bytes that reach a client.
use Rattle.std.proofs.Common.{◌≡◌, ℕ, ◌-◌, ◌<◌, ◌≤◌, ◌==◌, true, false, List, [], ◌∷◌, ◌++◌, length, take, drop, map, min, refl, sym, ap, subst, ◌∙◌, arith, append_assoc, length-append, length-drop, true≢false, inl, inr}
use Rattle.std.specs.Prelude.{Option, None, Some, is_some, option_map}
use Rattle.std.specs.Option.{IfSome}
use Rattle.std.specs.List.{AllByRecursion, filter_map}
use Rattle.std.proofs.lemmas.Bool.{cases_lt, le-leb, lt-leb}
use Rattle.std.proofs.lemmas.List.{length-take-le, take_all}
use Rattle.std.proofs.lemmas.List.Elements.{filter_map-append}
use Rattle.ty_base.specs.declared.entry.Entry.{Entry}
use Rattle.ty_base.specs.declared.limits.TheConstants.{INPUT_BYTES}
use Rattle.ty_wire.specs.declared.message.Msg.{Msg}
use Rattle.ty_client.specs.Places.{told_number}
use Rattle.ty_client.specs.Rebuilt.{Rebuilt, last_held}
use Rattle.ty_client.specs.Rebuild.{RebuildHeld, RebuildStands, Brought}
use Rattle.ty_client.specs.Heard.{Hears}
use Rattle.ty_client.specs.Worlds.{rebuilt_after}
use Rattle.ty_client.specs.declared.fault.StreamFault.{StreamFault}
use Rattle.ty_client.proofs.Once.{short}
use Rattle.ty_intake.specs.declared.intake.IntakeFault.{IntakeFault}
use Rattle.ty_intake.specs.declared.intake.IntakeFault.TheVariants.{TooMuch}
use Rattle.ty_session.proofs.Marks.{marks-more}
use Rattle.ty_session.specs.Held.{SessionHeld}
use Rattle.ty_core.specs.declared.client.Client.{Client}
use Rattle.ty_core.specs.declared.client.Connection.{Connection}
use Rattle.ty_core.specs.declared.slot.Slot.{Slot}
use Rattle.ty_core.specs.declared.told.Told.{Told}
use Rattle.ty_core.specs.declared.told.Told.TheVariants.{Rebuilt as AtEnd, Still, Absent}
use Rattle.ty_core.specs.Clients.{told, down, delivered, came, got_with, numbers_came, last_number, get_client}
use Rattle.ty_core.specs.Run.{too_much_if, get_fault}
use Rattle.ty_core.specs.Report.{told_ends, told_get}
use Rattle.ty_core.specs.Links.{IsConnection, IsLink}
use Rattle.ty_core.specs.steps.Links.{IsDelivered}
use Rattle.ty_core.specs.Held.{IsLinked, LinkStands, SlotStands}
use Rattle.ty_core.specs.steps.Slots.{LinkGets, LinkNumbers, SlotGets, ends_or_still}
use Rattle.ty_core.proofs.Delivered.{whole-rest, numbers_within}
use Rattle.ty_core.proofs.Steps.{came-behind}
use Rattle.ty_core.proofs.Linking.{down-offered}
use Rattle.ty_core.proofs.Holding.{held-came}
use Rattle.ty_core.proofs.Opening.{some_link, no_link}

-- Bytes that are heard without a fault are fewer than are too many

pub few_delivered : (rb rb' : RebuildHeld) (sv : SessionHeld) (es : List Entry) (k : Connection) (before : List (List ℕ)) (n count : ℕ) (bytes : List ℕ) (at_ends : List Rebuilt) (fault : Option StreamFault) → IsLink rb sv es k before
    → count ≡ min n (length sv.out) → bytes ≡ take count sv.out
    → ((past : List (List ℕ)) (so_far : List ℕ) (ms : List Msg) → RebuildStands rb past so_far ms → Brought rb rb' past so_far bytes ms at_ends)
    → fault ≡ rb'.fault → fault ≡ None → got_with es k n < INPUT_BYTES
few_delivered rb rb' sv es k before n count bytes at_ends fault l c b feeds f none =
    let x : IsConnection es k = l.connection in
    let all : List ℕ = down es k in
    let br : Brought rb rb' before (take k.got all) bytes (delivered es k) at_ends = feeds before (take k.got all) (delivered es k) l.client_stands in
    let h : Hears (take k.got all ++ bytes) (delivered es k ++ br.more) None = subst (Hears (take k.got all ++ bytes) (delivered es k ++ br.more)) (sym f ∙ none) br.stands.hears in
    let len : length (take k.got all ++ bytes) < INPUT_BYTES = short (take k.got all ++ bytes) (delivered es k ++ br.more) h in
    let out : length sv.out ≡ length all - k.got = ap length (l.session_stands.queued.rest ∙ ap (drop k.got) (down-offered es k x.marks x.offered)) ∙ length-drop k.got all in
    let piece : length bytes ≡ count = ap length b ∙ length-take-le count sv.out (omega (arith, c)) in
    let front : length (take k.got all) ≡ k.got = length-take-le k.got all x.got in
    omega (arith, len, length-append (take k.got all) bytes, piece, front, c, out, x.got)

-- The numbers that come

all_front : (P : ℕ → Type 0) (xs ys : List ℕ) → AllByRecursion P (xs ++ ys) → AllByRecursion P xs
all_front P [] ys h = tt
all_front P (x ∷ xs) ys h = (h.0, all_front P xs ys h.1)

all_back : (P : ℕ → Type 0) (xs ys : List ℕ) → AllByRecursion P (xs ++ ys) → AllByRecursion P ys
all_back P [] ys h = h
all_back P (x ∷ xs) ys h = all_back P xs ys h.1

pub came_within : (es : List Entry) (k : Connection) (n : ℕ) → IsConnection es k → AllByRecursion (λ m. m ≤ length es) (numbers_came es k n)
came_within es k n x =
    let P : ℕ → Type 0 = λ m. m ≤ length es in
    let rest = whole-rest (got_with es k n) (told es k) in
    let split : told es k ≡ delivered es k ++ (came es k n ++ rest.0) =
    rest.1 ∙ ap (λ (l : List Msg). l ++ rest.0) (came-behind es k n x.got) ∙ append_assoc (delivered es k) (came es k n) rest.0 in
    let numbers : filter_map told_number (told es k) ≡ filter_map told_number (delivered es k) ++ (numbers_came es k n ++ filter_map told_number rest.0) =
    ap (filter_map told_number) split
    ∙ filter_map-append told_number (delivered es k) (came es k n ++ rest.0)
    ∙ ap (λ l. filter_map told_number (delivered es k) ++ l) (filter_map-append told_number (came es k n) rest.0) in
    all_front P (numbers_came es k n) (filter_map told_number rest.0)
    (all_back P (filter_map told_number (delivered es k)) (numbers_came es k n ++ filter_map told_number rest.0)
    (subst (AllByRecursion P) numbers (numbers_within es k.marks (marks-more k.marks k.offered (length es) x.marks x.offered))))

pub last_within : (es : List Entry) (held : Option ℕ) (ns : List ℕ) → IfSome held (λ n. n ≤ length es) → AllByRecursion (λ m. m ≤ length es) ns → IfSome (last_number held ns) (λ n. n ≤ length es)
last_within es held [] h a = h
last_within es held (n ∷ ns) h a = last_within es (Some n) ns a.0 a.1

-- What is told of them

map_twice : (c : ℕ) (f : ℕ → Rebuilt) (ns : List ℕ) → map (AtEnd c) (map f ns) ≡ map (λ m. AtEnd c (f m)) ns
map_twice c f [] = refl
map_twice c f (n ∷ ns) = ap (λ (l : List Told). AtEnd c (f n) ∷ l) (map_twice c f ns)

told_gets : (f : ℕ → Rebuilt) (c : ℕ) (held : Option ℕ) (x : Option Rebuilt) (ns : List ℕ) → x ≡ option_map f (last_number held ns) → ends_or_still c x (map f ns) ≡ told_ends f c held ns
told_gets f c held x [] e = ap (λ (h : Option Rebuilt). Still c h ∷ []) e
told_gets f c held x (n ∷ ns) e = map_twice c f (n ∷ ns)

pub ends_are : (c : ℕ) (held : Option Rebuilt) (found : List Rebuilt) (i : ℕ) (ts : List Told) → length found ≤ i → (length found == 0) ≡ false → ts ≡ map (AtEnd c) (take i found) → ts ≡ ends_or_still c held found
ends_are c held [] i ts h e t = absurd (true≢false e)
ends_are c held (a ∷ more) i ts h e t = t ∙ ap (map (AtEnd c)) (take_all i (a ∷ more) h)

-- One connection

pub gets : (rb rb' : RebuildHeld) (sv sv' : SessionHeld) (es : List Entry) (k : Connection) (n c : ℕ) (held : Option ℕ) (at_ends : List Rebuilt) (fault : Option StreamFault) (ts : List Told) → IsLinked rb sv es k → rb.held ≡ option_map (rebuilt_after es) held
    → ((before : List (List ℕ)) → IsLink rb sv es k before → got_with es k n < INPUT_BYTES → IsDelivered rb' sv' es k before n at_ends fault)
    → ((before : List (List ℕ)) → IsLink rb sv es k before → fault ≡ None → got_with es k n < INPUT_BYTES)
    → rb'.held ≡ last_held rb.held at_ends → is_some fault ≡ false → ts ≡ ends_or_still c rb'.held at_ends → LinkGets rb' sv' es k n c held ts
gets rb rb' sv sv' es k n c held at_ends fault ts l h delivers good keeps none t =
    let no : fault ≡ None = none_of fault none in
    let few : got_with es k n < INPUT_BYTES = good l.0 l.1 no in
    let d : IsDelivered rb' sv' es k l.0 n at_ends fault = delivers l.0 l.1 few in
    let ns : List ℕ = numbers_came es k n in
    let held_is : rb'.held ≡ option_map (rebuilt_after es) (last_number held ns) =
    keeps ∙ ap (λ (x : Option Rebuilt). last_held x at_ends) h ∙ ap (last_held (option_map (rebuilt_after es) held)) d.at_ends_are ∙ held-came es held ns in
    record {
      link = (l.0, d.link);
      short = few;
      held_is = held_is;
      told_is = t ∙ ap (ends_or_still c rb'.held) d.at_ends_are ∙ told_gets (rebuilt_after es) c held rb'.held ns held_is;
    }
  where
    none_of : (o : Option StreamFault) → is_some o ≡ false → o ≡ None
    none_of None e = refl
    none_of (Some x) e = absurd (true≢false e)

pub too_much_got : (rb rb' : RebuildHeld) (sv sv' : SessionHeld) (es : List Entry) (k : Connection) (n : ℕ) (at_ends : List Rebuilt) (fault : Option StreamFault) → IsLinked rb sv es k
    → ((before : List (List ℕ)) → IsLink rb sv es k before → got_with es k n < INPUT_BYTES → IsDelivered rb' sv' es k before n at_ends fault)
    → is_some fault ≡ true → get_fault es n (Some k) ≡ Some TooMuch
too_much_got rb rb' sv sv' es k n at_ends fault l delivers some =
    elim (cases_lt (got_with es k n) INPUT_BYTES) [
      | inl few ↦ absurd (true≢false (sym some ∙ ap is_some (delivers l.0 l.1 few).no_fault))
      | inr much ↦ ap too_much_if (le-leb INPUT_BYTES (got_with es k n) much)
    ]

-- One client

pub gets_absent : (slot : Slot) (es : List Entry) (k : Client) (n c : ℕ) (ts : List Told) → slot.session ≡ None → ts ≡ Absent c ∷ [] → SlotStands slot es k → SlotGets slot es k n c ts
gets_absent slot es k n c ts e t st =
    let L : Option SessionHeld → Type 0 = λ s. LinkStands slot.rebuild s es k.link in
    let l = no_link slot.rebuild es k.link (subst L e st.link) in
    let P : Option Connection → Type 0 = λ x. SlotStands slot es (get_client es n k.held x) in
    record {
      stands = subst P (sym l.0) (record { link = subst (LinkStands slot.rebuild slot.session es) l.0 st.link; held = st.held; within = st.within });
      no_fault = ap (get_fault es n) l.0;
      told_is = t ∙ sym (ap (told_get (rebuilt_after es) es c n k.held) l.0);
      within = subst (LinkNumbers es n) (sym l.0) tt;
    }

pub gets_some : (slot : Slot) (sv sv' : SessionHeld) (rb' : RebuildHeld) (es : List Entry) (k : Client) (n c : ℕ) (ts : List Told) → slot.session ≡ Some sv
    → ((x : Connection) (held : Option ℕ) → IsLinked slot.rebuild sv es x → slot.rebuild.held ≡ option_map (rebuilt_after es) held → LinkGets rb' sv' es x n c held ts)
    → SlotStands slot es k → SlotGets (record { rebuild = rb'; session = Some sv' }) es k n c ts
gets_some slot sv sv' rb' es k n c ts e gets_link st =
    let L : Option SessionHeld → Type 0 = λ s. LinkStands slot.rebuild s es k.link in
    let l = some_link slot.rebuild sv es k.link (subst L e st.link) in
    let x : Connection = l.0 in
    let g : LinkGets rb' sv' es x n c k.held ts = gets_link x k.held l.2 st.held in
    let bound : AllByRecursion (λ m. m ≤ length es) (numbers_came es x n) = came_within es x n l.2.1.connection in
    let P : Option Connection → Type 0 = λ y. SlotStands (record { rebuild = rb'; session = Some sv' }) es (get_client es n k.held y) in
    record {
      stands = subst P (sym l.1) (record { link = g.link; held = g.held_is; within = last_within es k.held (numbers_came es x n) st.within bound });
      no_fault = ap (get_fault es n) l.1 ∙ ap too_much_if (lt-leb INPUT_BYTES (got_with es x n) g.short);
      told_is = g.told_is ∙ sym (ap (told_get (rebuilt_after es) es c n k.held) l.1);
      within = subst (LinkNumbers es n) (sym l.1) bound;
    }

pub too_much_some : (slot : Slot) (sv : SessionHeld) (es : List Entry) (k : Client) (n : ℕ) (f : IntakeFault) → slot.session ≡ Some sv → ((x : Connection) → IsLinked slot.rebuild sv es x → get_fault es n (Some x) ≡ Some f) → SlotStands slot es k → get_fault es n k.link ≡ Some f
too_much_some slot sv es k n f e faults st =
    let L : Option SessionHeld → Type 0 = λ s. LinkStands slot.rebuild s es k.link in
    let l = some_link slot.rebuild sv es k.link (subst L e st.link) in
    ap (get_fault es n) l.1 ∙ faults l.0 l.2
