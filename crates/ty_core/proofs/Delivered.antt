-- What is delivered of marks' bytes is heard, and rebuilds the worlds of its crumb ends.
use Rattle.std.proofs.Common.{◌≡◌, ℕ, ◌-◌, ◌<◌, ◌≤◌, ◌^◌, true, false, List, [], ◌∷◌, ◌++◌, length, take, drop, map, refl, sym, ap, subst, ◌∙◌, arith, append_assoc, append-nil, take-add}
use Rattle.std.specs.Prelude.{None, Some, nat_le, if◌then◌else◌}
use Rattle.std.specs.Option.{option_or}
use Rattle.std.specs.List.{AllByRecursion, list_all, filter_map}
use Rattle.std.proofs.lemmas.List.{length-take}
use Rattle.std.proofs.Math.Seq.{drop-append_seam}
use Rattle.ty_base.specs.declared.entry.Entry.{Entry}
use Rattle.ty_base.specs.Limits.{is_small_entry}
use Rattle.ty_wire.specs.Wire.{IsWire, frame, frames}
use Rattle.ty_wire.specs.Stream.{Reads}
use Rattle.ty_wire.specs.Talk.{Rise}
use Rattle.ty_wire.specs.declared.message.Msg.{Msg}
use Rattle.ty_wire.specs.declared.message.Msg.TheVariants.{ClientHello, ServerHello, Kvs, Status as StatusMsg, Crumb, Ping, Pong}
use Rattle.ty_wire.proofs.Talk.{talk-with-pings}
use Rattle.ty_client.specs.Places.{place_fault, Judged, judged_by, judged_after, judged, told_number}
use Rattle.ty_client.specs.Rebuilt.{Rebuilt, ats, ats_after, pongs}
use Rattle.ty_client.specs.Heard.{Hears}
use Rattle.ty_client.specs.Rebuild.{RebuildHeld, RebuildStands, Brought}
use Rattle.ty_client.specs.Worlds.{rebuilt_after}
use Rattle.ty_client.proofs.Judging.{judged_none, ats_more}
use Rattle.ty_client.proofs.Once.{once}
use Rattle.ty_client.proofs.Talks.{Rebuilds, pings_rebuild, within}
use Rattle.ty_marks.specs.Marks.{Mark, start, group, ping, AreMarks, group_numbers, messages_after, messages_of, bytes_of}
use Rattle.ty_wire.specs.Whole.{whole_in}
use Rattle.ty_marks.proofs.Marks.{talk, pings}
use Rattle.ty_wire.proofs.Whole.{reads-in}
use Rattle.ty_core.specs.steps.Links.{IsPieceDelivered}

-- ---- the messages of marks

-- they are in their places, and rebuild worlds
record IsGood (es : List Entry) (ms : List Msg) : Type 0 where
  good : judged ms ≡ record { good = ms; fault = None }
  each : AllByRecursion (λ a. a ≡ rebuilt_after es a.number) (ats ms)

numbered : (es : List Entry) (ns : List ℕ) → AllByRecursion (λ a. a ≡ rebuilt_after es a.number) (map (rebuilt_after es) ns)
numbered es [] = tt
numbered es (n ∷ ns) = (refl, numbered es ns)

are-good : (es : List Entry) (marks : List Mark) → AreMarks marks (length es) → IsGood es (messages_of es marks)
unfolding messages_after ats_after
are-good es [] a = record { good = judged_none []; each = tt }
are-good es (start n ∷ marks) a =
    let r : Rebuilds es n (group_numbers marks) (messages_of es (start n ∷ marks)) = pings_rebuild es n (group_numbers marks) (messages_of es (start n ∷ marks)) (talk es n marks a) in
    record { good = r.good; each = subst (AllByRecursion (λ a. a ≡ rebuilt_after es a.number)) (sym r.worlds) (numbered es (n ∷ group_numbers marks)) }
are-good es (group n ∷ marks) a = absurd a
are-good es (ping ts ∷ marks) a = absurd a

pub are-wire : (es : List Entry) (marks : List Mark) → list_all is_small_entry es ≡ true → length es < 2 ^ 64 → AreMarks marks (length es) → AllByRecursion IsWire (messages_of es marks)
unfolding messages_after
are-wire es [] p l a = tt
are-wire es (start n ∷ marks) p l a = talk-with-pings es n (group_numbers marks) (messages_of es (start n ∷ marks)) p l (talk es n marks a) (pings es n marks a)
are-wire es (group n ∷ marks) p l a = absurd a
are-wire es (ping ts ∷ marks) p l a = absurd a

-- ---- a front of them

good_front : (before ms more : List Msg) → (judged_after before (ms ++ more)).fault ≡ None → judged_after before ms ≡ record { good = ms; fault = None }
unfolding judged_after
good_front before [] more h = refl
good_front before (m ∷ ms) more h =
    elim (place_fault before m) as (λ f. (judged_by f m (judged_after (before ++ m ∷ []) (ms ++ more))).fault ≡ None → judged_by f m (judged_after (before ++ m ∷ []) ms) ≡ record { good = m ∷ ms; fault = None }) [
      | None ↦ λ g. ap (judged_by None m) (good_front (before ++ m ∷ []) ms more g)
      | Some f ↦ λ g. cc
    ] h

hears : (bytes rest : List ℕ) (ms : List Msg) → length bytes < 2 ^ 40 → Reads bytes ms rest → judged ms ≡ record { good = ms; fault = None } → Hears bytes ms None
hears bytes rest ms l r g = record {
  front = bytes;
  rest = [];
  whole = sym (append-nil bytes);
  stops = λ _. refl;
  all = ms;
  wire = None;
  brings = (l, (rest, r));
  good = sym (ap (λ (j : Judged). j.good) g);
  first = sym (ap (λ (j : Judged). option_or j.fault None) g);
}

pub whole-rest : (n : ℕ) (ms : List Msg) → (more : List Msg) × (ms ≡ whole_in n ms ++ more)
unfolding whole_in
whole-rest n [] = ([], refl)
whole-rest n (m ∷ ms) =
    let r = whole-rest (n - length (frame m)) ms in
    elim (nat_le (length (frame m)) n) as (λ b. (more : List Msg) × (m ∷ ms ≡ (if b then m ∷ whole_in (n - length (frame m)) ms else []) ++ more)) [
      | true ↦ (r.0, ap (λ (l : List Msg). m ∷ l) r.1)
      | false ↦ (m ∷ ms, refl)
    ]

pub heard : (es : List Entry) (marks : List Mark) (n : ℕ) → list_all is_small_entry es ≡ true → length es < 2 ^ 64 → AreMarks marks (length es)
    → n ≤ length (bytes_of es marks) → n < 2 ^ 40 → Hears (take n (bytes_of es marks)) (whole_in n (messages_of es marks)) None
heard es marks n p l a h short =
    let all : List Msg = messages_of es marks in
    let r = reads-in all n (are-wire es marks p l a) h in
    let rest = whole-rest n all in
    let good : (judged (whole_in n all ++ rest.0)).fault ≡ None = ap (λ (ms : List Msg). (judged ms).fault) (sym rest.1) ∙ ap (λ (j : Judged). j.fault) (are-good es marks a).good in
    hears (take n (frames all)) r.0 (whole_in n all) (omega (arith, length-take n (frames all), short)) r.1 (good_front [] (whole_in n all) rest.0 good)

-- ---- the worlds of some of them

numbers_of_ats : (before ms : List Msg) → map (λ a. a.number) (ats_after before ms) ≡ filter_map told_number ms
unfolding ats_after
numbers_of_ats before [] = refl
numbers_of_ats before (Crumb n ∷ ms) = ap (λ (l : List ℕ). n ∷ l) (numbers_of_ats (before ++ Crumb n ∷ []) ms)
numbers_of_ats before (ClientHello v h ∷ ms) = numbers_of_ats (before ++ ClientHello v h ∷ []) ms
numbers_of_ats before (ServerHello v ∷ ms) = numbers_of_ats (before ++ ServerHello v ∷ []) ms
numbers_of_ats before (Kvs ds ∷ ms) = numbers_of_ats (before ++ Kvs ds ∷ []) ms
numbers_of_ats before (StatusMsg s ∷ ms) = numbers_of_ats (before ++ StatusMsg s ∷ []) ms
numbers_of_ats before (Ping ts ∷ ms) = numbers_of_ats (before ++ Ping ts ∷ []) ms
numbers_of_ats before (Pong ts ∷ ms) = numbers_of_ats (before ++ Pong ts ∷ []) ms

by_numbers : (es : List Entry) (xs : List Rebuilt) → AllByRecursion (λ a. a ≡ rebuilt_after es a.number) xs → xs ≡ map (rebuilt_after es) (map (λ a. a.number) xs)
by_numbers es [] h = refl
by_numbers es (x ∷ xs) h = ap (λ (y : Rebuilt). y ∷ xs) h.0 ∙ ap (λ (l : List Rebuilt). rebuilt_after es x.number ∷ l) (by_numbers es xs h.1)

all_front : (P : Rebuilt → Type 0) (xs ys : List Rebuilt) → AllByRecursion P (xs ++ ys) → AllByRecursion P xs
all_front P [] ys h = tt
all_front P (x ∷ xs) ys h = (h.0, all_front P xs ys h.1)

all_back : (P : Rebuilt → Type 0) (xs ys : List Rebuilt) → AllByRecursion P (xs ++ ys) → AllByRecursion P ys
all_back P [] ys h = h
all_back P (x ∷ xs) ys h = all_back P xs ys h.1

pub worlds : (es : List Entry) (marks : List Mark) (before more after : List Msg) → AreMarks marks (length es) → messages_of es marks ≡ before ++ (more ++ after)
    → ats_after before more ≡ map (rebuilt_after es) (filter_map told_number more)
worlds es marks before more after a e =
    let P : Rebuilt → Type 0 = λ x. x ≡ rebuilt_after es x.number in
    let split : ats (messages_of es marks) ≡ ats before ++ (ats_after before more ++ ats_after (before ++ more) after) =
    ap ats e ∙ ats_more [] before (more ++ after) ∙ ap (λ (l : List Rebuilt). ats before ++ l) (ats_more before more after) in
    let each : AllByRecursion P (ats_after before more) =
    all_front P (ats_after before more) (ats_after (before ++ more) after) (all_back P (ats before) (ats_after before more ++ ats_after (before ++ more) after) (subst (AllByRecursion P) split (are-good es marks a).each)) in
    by_numbers es (ats_after before more) each ∙ ap (map (rebuilt_after es)) (numbers_of_ats before more)

-- ---- a piece

pieces : (bytes : List ℕ) (a b : ℕ) → a ≤ b → take a bytes ++ take (b - a) (drop a bytes) ≡ take b bytes
pieces bytes a b h = sym (take-add a (b - a) bytes) ∙ ap (λ (n : ℕ). take n bytes) (omega (arith, h))

behind : (ms more all : List Msg) → all ≡ ms ++ more → drop (length ms) all ≡ more
behind ms more all e = ap (drop (length ms)) e ∙ drop-append_seam ms more

pub fed : (es : List Entry) (marks : List Mark) (old new : RebuildHeld) (connections : List (List ℕ)) (a b : ℕ) (at_ends : List Rebuilt)
    → list_all is_small_entry es ≡ true → length es < 2 ^ 64 → AreMarks marks (length es) → a ≤ b → b ≤ length (bytes_of es marks) → b < 2 ^ 40
    → Brought old new connections (take a (bytes_of es marks)) (take (b - a) (drop a (bytes_of es marks))) (whole_in a (messages_of es marks)) at_ends
    → IsPieceDelivered new old connections (take b (bytes_of es marks)) (whole_in b (messages_of es marks)) es (drop (length (whole_in a (messages_of es marks))) (whole_in b (messages_of es marks))) at_ends
fed es marks old new connections a b at_ends p l m ab h short br =
    let bytes : List ℕ = bytes_of es marks in
    let all : List Msg = messages_of es marks in
    let before : List Msg = whole_in a all in
    let stands : RebuildStands new connections (take b bytes) (before ++ br.more) = subst (λ (x : List ℕ). RebuildStands new connections x (before ++ br.more)) (pieces bytes a b ab) br.stands in
    let one = once (take b bytes) (before ++ br.more) (whole_in b all) new.fault None stands.hears (heard es marks b p l m h short) in
    let came : drop (length before) (whole_in b all) ≡ br.more = behind before br.more (whole_in b all) (sym one.0) in
    let rest = whole-rest b all in
    let split : all ≡ before ++ (br.more ++ rest.0) = rest.1 ∙ ap (λ (x : List Msg). x ++ rest.0) (sym one.0) ∙ append_assoc before br.more rest.0 in
    record {
      stands = subst (λ (x : List Msg). RebuildStands new connections (take b bytes) x) one.0 stands;
      no_fault = one.1;
      at_ends_are = br.at_ends_are ∙ worlds es marks before br.more rest.0 m split ∙ ap (λ (x : List Msg). map (rebuilt_after es) (filter_map told_number x)) (sym came);
      up = br.up ∙ ap (λ (x : List Msg). old.up ++ frames (pongs x)) (sym came);
    }

-- ---- the numbers of the crumb ends

map_numbers : (es : List Entry) (ns : List ℕ) → map (λ a. a.number) (map (rebuilt_after es) ns) ≡ ns
map_numbers es [] = refl
map_numbers es (n ∷ ns) = ap (λ (l : List ℕ). n ∷ l) (map_numbers es ns)

pub told_numbers : (es : List Entry) (n : ℕ) (marks : List Mark) → AreMarks (start n ∷ marks) (length es) → filter_map told_number (messages_of es (start n ∷ marks)) ≡ n ∷ group_numbers marks
told_numbers es n marks a =
    let r : Rebuilds es n (group_numbers marks) (messages_of es (start n ∷ marks)) = pings_rebuild es n (group_numbers marks) (messages_of es (start n ∷ marks)) (talk es n marks a) in
    sym (numbers_of_ats [] (messages_of es (start n ∷ marks))) ∙ ap (map (λ a. a.number)) r.worlds ∙ map_numbers es (n ∷ group_numbers marks)

rise_within : (n : ℕ) (ns : List ℕ) (most : ℕ) → Rise n ns most → AllByRecursion (λ m. m ≤ most) (n ∷ ns)
rise_within n [] most r = (r, tt)
rise_within n (m ∷ ns) most r = (within n (m ∷ ns) most r, rise_within m ns most r.1)

-- none is above the last breadcrumb's
pub numbers_within : (es : List Entry) (marks : List Mark) → AreMarks marks (length es) → AllByRecursion (λ m. m ≤ length es) (filter_map told_number (messages_of es marks))
unfolding messages_after
numbers_within es [] a = tt
numbers_within es (start n ∷ marks) a = subst (AllByRecursion (λ m. m ≤ length es)) (sym (told_numbers es n marks a)) (rise_within n (group_numbers marks) (length es) (talk es n marks a).rise)
numbers_within es (group n ∷ marks) a = absurd a
numbers_within es (ping ts ∷ marks) a = absurd a
