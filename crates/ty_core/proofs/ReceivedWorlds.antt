-- What reaches a client on one connection rebuilds worlds.
use Rattle.std.proofs.Common.{◌≡◌, ℕ, ◌<◌, List, [], ◌∷◌, ◌++◌, length, take, map, refl, sym, ap, subst, ◌∙◌, arith, length-append}
use Rattle.std.specs.Prelude.{None}
use Rattle.std.specs.List.{filter_map}
use Rattle.std.proofs.lemmas.List.Elements.{filter_map-append}
use Rattle.std.proofs.Math.Seq.{take-append_seam}
use Rattle.ty_base.specs.declared.entry.Entry.{Entry}
use Rattle.ty_base.specs.declared.limits.TheConstants.{INPUT_BYTES}
use Rattle.ty_wire.specs.Talk.{Rise}
use Rattle.ty_wire.specs.Whole.{whole_in}
use Rattle.ty_wire.specs.declared.message.Msg.{Msg}
use Rattle.ty_marks.specs.Marks.{Mark, start, group, ping, AreMarks, messages_after, messages_of}
use Rattle.ty_marks.proofs.Marks.{talk}
use Rattle.ty_session.proofs.Marks.{marks-more}
use Rattle.ty_client.specs.Places.{told_number}
use Rattle.ty_client.specs.Rebuilt.{Rebuilt, ats}
use Rattle.ty_client.specs.Heard.{Hears}
use Rattle.ty_client.specs.Worlds.{rebuilt_after}
use Rattle.ty_client.proofs.Books.{book_passes, book_few}
use Rattle.ty_client.proofs.Talks.{within}
use Rattle.ty_intake.proofs.JoinedBatches.{few-of}
use Rattle.ty_intake.proofs.SmallItems.{items_small}
use Rattle.ty_core.specs.declared.client.Connection.{Connection}
use Rattle.ty_core.specs.Clients.{newest, told, down}
use Rattle.ty_core.specs.Run.{State, feed_items, book_of, trail}
use Rattle.ty_core.specs.Report.{world_shown}
use Rattle.ty_core.specs.Interleavings.{AreRising}
use Rattle.ty_core.proofs.Chains.{shown_is}
use Rattle.ty_core.proofs.Delivered.{heard, worlds, whole-rest, told_numbers}
use Rattle.ty_core.proofs.Reached.{IsReached}

-- Numbers that rise

front_rise : (n : ℕ) (xs ys : List ℕ) (most : ℕ) → Rise n (xs ++ ys) most → Rise n xs most
front_rise n [] ys most r = within n ys most r
front_rise n (x ∷ xs) ys most r = (r.0, front_rise x xs ys most r.1)

front_rising : (xs ys : List ℕ) (most : ℕ) → AreRising (xs ++ ys) most → AreRising xs most
front_rising [] ys most r = tt
front_rising (x ∷ xs) ys most r = front_rise x xs ys most r

numbers_rising : (es : List Entry) (marks : List Mark) → AreMarks marks (length es) → AreRising (filter_map told_number (messages_of es marks)) (length es)
unfolding messages_after
numbers_rising es [] a = tt
numbers_rising es (start n ∷ marks) a = subst (λ ns. AreRising ns (length es)) (sym (told_numbers es n marks a)) (talk es n marks a).rise
numbers_rising es (group n ∷ marks) a = absurd a
numbers_rising es (ping ts ∷ marks) a = absurd a

-- their worlds
rise_shown : (s : State) (n : ℕ) (ns : List ℕ) → Rise n ns (newest (trail s)) → map (rebuilt_after (book_of s)) (n ∷ ns) ≡ map (world_shown s) (n ∷ ns)
rise_shown s n [] r = ap (λ (x : Rebuilt). x ∷ []) (shown_is s n r)
rise_shown s n (m ∷ ns) r =
    ap (λ (x : Rebuilt). x ∷ map (rebuilt_after (book_of s)) (m ∷ ns)) (shown_is s n (within n (m ∷ ns) (newest (trail s)) r))
    ∙ ap (λ (l : List Rebuilt). world_shown s n ∷ l) (rise_shown s m ns r.1)

rising_shown : (s : State) (ns : List ℕ) → AreRising ns (newest (trail s)) → map (rebuilt_after (book_of s)) ns ≡ map (world_shown s) ns
rising_shown s [] r = refl
rising_shown s (n ∷ ns) r = rise_shown s n ns r

-- One connection

pub received : (s : State) (k : Connection) (bytes more : List ℕ) → IsReached (book_of s) k → bytes ++ more ≡ down (book_of s) k → length bytes < INPUT_BYTES
    → (ms : List Msg) × (ns : List ℕ) × Hears bytes ms None × (ats ms ≡ map (world_shown s) ns) × AreRising ns (newest (trail s))
received s k bytes more r e short =
    let es : List Entry = book_of s in
    let n : ℕ = length bytes in
    let ms : List Msg = whole_in n (told es k) in
    let ns : List ℕ = filter_map told_number ms in
    let marks : AreMarks k.marks (length es) = marks-more k.marks k.offered (length es) r.connection.marks r.connection.offered in
    let rest = whole-rest n (told es k) in
    let front : take n (down es k) ≡ bytes = ap (take n) (sym e) ∙ take-append_seam bytes more in
    let hears = heard es k.marks n (book_passes s.feed.ended (feed_items s) (items_small s.feed)) (book_few s.feed.ended (feed_items s) (omega (arith, few-of s.feed))) marks (omega (arith, ap length e, length-append bytes more)) short in
    let rising : AreRising ns (length es) =
    front_rising ns (filter_map told_number rest.0) (length es)
    (subst (λ l. AreRising l (length es)) (ap (filter_map told_number) rest.1 ∙ filter_map-append told_number ms rest.0) (numbers_rising es k.marks marks)) in
    (ms, ns, subst (λ l. Hears l ms None) front hears, worlds es k.marks [] ms rest.0 marks rest.1 ∙ rising_shown s ns rising, rising)
