-- What was given and has ended over more of the account's list, and the links of a run, one behind another.
use Rattle.std.proofs.Common.{◌≡◌, ℕ, ◌+◌, ◌≤◌, inl, inr, List, [], ◌∷◌, ◌++◌, length, refl, sym, ap, subst, ◌∙◌, arith, append_assoc, length-append}
use Rattle.std.specs.Prelude.{Option, Some, slice_index_or}
use Rattle.std.proofs.lemmas.List.Elements.{All-append}
use mathlib.Core.List.{IsPrefix}
use Rattle.ty_base.specs.Doors.{DoorSight}
use Rattle.ty_base.specs.Feed.{World}
use Rattle.ty_base.specs.Links.{Sight}
use Rattle.ty_base.specs.Told.{Told}
use Rattle.ty_base.specs.declared.entry.Entry.{Entry}
use Rattle.ty_base.proofs.Telling.{Told-then, Told-as}
use Rattle.ty_wire.specs.Talk.{group_messages, snapshot, world_after, deltas_between, status_change, group_between, groups_after, opening, Rise, IsTalk}
use Rattle.ty_wire.specs.declared.message.Msg.{Msg}
use Rattle.ty_wire.specs.declared.message.Msg.TheVariants.{ServerHello}
use Rattle.ty_base.specs.declared.delta.Delta.{Delta}
use Rattle.ty_marks.proofs.Marks.{world-more, between-more}
use Rattle.ty_account.specs.Known.{Known, KnowsMore}
use Rattle.ty_server.specs.Exchanges.{LinkSeen, link_seen}
use Rattle.ty_server.specs.Served.{IsFrontOfTalk, GivenFront, GivenWhole, ConnectionEnds, failed, closed, broken, finished, timed, HasEnded}
use Rattle.ty_server.specs.Workers.{AllBut, WasServed, WasEnded, WorksAt}

-- ---- a talk over more entries

rise_within : (from : ℕ) (ns : List ℕ) (most : ℕ) → Rise from ns most → from ≤ most
rise_within from [] most h = h
rise_within from (n ∷ ns) most h = omega (arith, h.0, rise_within n ns most h.1)

rise_more : (from : ℕ) (ns : List ℕ) (most more : ℕ) → most ≤ more → Rise from ns most → Rise from ns more
rise_more from [] most more le h = omega (arith, le, h)
rise_more from (n ∷ ns) most more le h = (h.0, rise_more n ns most more le h.1)

group_more : (es more : List Entry) (from n : ℕ) → from ≤ length es → n ≤ length es → group_between (es ++ more) from n ≡ group_between es from n
group_more es more from n f h =
    ap (λ (w : World). group_messages (deltas_between (es ++ more) from n) (status_change w.status (world_after (es ++ more) n).status) n) (world-more es more from f)
    ∙ ap (λ (w : World). group_messages (deltas_between (es ++ more) from n) (status_change (world_after es from).status w.status) n) (world-more es more n h)
    ∙ ap (λ (ds : List Delta). group_messages ds (status_change (world_after es from).status (world_after es n).status) n) (between-more es more from n f h)

groups_more : (es more : List Entry) (from : ℕ) (ns : List ℕ) → Rise from ns (length es) → groups_after (es ++ more) from ns ≡ groups_after es from ns
unfolding groups_after
groups_more es more from [] h = refl
groups_more es more from (n ∷ ns) h =
    let to : n ≤ length es = rise_within n ns (length es) h.1 in
    ap (λ (l : List Msg). l ++ groups_after (es ++ more) n ns) (group_more es more from n (omega (arith, h.0, to)) to)
    ∙ ap (λ (l : List Msg). group_between es from n ++ l) (groups_more es more n ns h.1)

opening_more : (es more : List Entry) (n : ℕ) → n ≤ length es → opening (es ++ more) n ≡ opening es n
opening_more es more n h = ap (λ (w : World). ServerHello 1 ∷ group_messages (snapshot w) (Some w.status) n) (world-more es more n h)

talk_more : (es more : List Entry) (e0 : ℕ) (ns : List ℕ) (ms : List Msg) → IsTalk es e0 ns ms → IsTalk (es ++ more) e0 ns ms
talk_more es more e0 ns ms t = record {
  rise = rise_more e0 ns (length es) (length (es ++ more)) (omega (arith, length-append es more)) t.rise;
  rest = t.rest;
  whole = t.whole ∙ ap (λ (l : List Msg). l ++ t.rest) (sym (opening_more es more e0 (rise_within e0 ns (length es) t.rise)));
  same = t.same ∙ sym (groups_more es more e0 ns t.rise);
}

front_more : (es more : List Entry) (bytes : List ℕ) → IsFrontOfTalk es bytes → IsFrontOfTalk (es ++ more) bytes
front_more es more bytes f = record {
  first = f.first;
  numbers = f.numbers;
  messages = f.messages;
  talk = talk_more es more f.first f.numbers f.messages f.talk;
  pings = f.pings;
  begins = f.begins;
}

-- the first bytes of a talk over a list are those of a talk over a list that it begins
pub front_longer : (es fs : List Entry) (bytes : List ℕ) → IsPrefix es fs → IsFrontOfTalk es bytes → IsFrontOfTalk fs bytes
front_longer es fs bytes p f = subst (λ (l : List Entry). IsFrontOfTalk l bytes) p.1 (front_more es p.0 bytes f)

pub given_longer : (es fs : List Entry) → IsPrefix es fs → (x y : Option Sight) → Told (GivenFront es) x y → Told (GivenFront fs) x y
given_longer es fs p = Told-as (λ x y h. (h.0, h.1, front_longer es fs h.0 p h.2))

-- ---- an end over more of what is known

ends_later : (gives : ℕ → Type 0) (known front : Known) (before now : ℕ) (x y : Sight) → KnowsMore known front → ConnectionEnds gives known before now x y → ConnectionEnds gives front before now x y
ends_later gives known front before now x y m (failed h) = failed h
ends_later gives known front before now x y m (closed h) = closed h
ends_later gives known front before now x y m (broken reason h) = broken reason h
ends_later gives known front before now x y m (finished c w) =
    let end = m.ends c in finished end.1 (subst (λ (es : List Entry). GivenWhole es x y) (sym end.0) w)
ends_later gives known front before now x y m (timed one two g h far) = timed one two g h far

pub ended_later : (gives : ℕ → Type 0) (known front : Known) (a b : LinkSeen) → KnowsMore known front → HasEnded gives known a b → HasEnded gives front a b
ended_later gives known front a b m = Told-as (λ x y h. ends_later gives known front a.faults b.faults x y m h) a.sight b.sight

-- ---- all but a few

module _ {X : Type 0} where
  all_but_as : (P Q : X → Type 0) → ((x : X) → P x → Q x) → (n : ℕ) (xs : List X) → AllBut P n xs → AllBut Q n xs
  all_but_as P Q f n [] h = tt
  all_but_as P Q f n (x ∷ xs) (inl (p, h)) = inl (f x p, all_but_as P Q f n xs h)
  all_but_as P Q f n (x ∷ xs) (inr (m, e, h)) = inr (m, e, all_but_as P Q f m xs h)

  all_but_more : (P : X → Type 0) (d n : ℕ) (xs : List X) → AllBut P n xs → AllBut P (d + n) xs
  all_but_more P d n [] h = tt
  all_but_more P d n (x ∷ xs) (inl (p, h)) = inl (p, all_but_more P d n xs h)
  all_but_more P d n (x ∷ xs) (inr (m, e, h)) = inr (d + m, omega (arith, e), all_but_more P d m xs h)

  all_but_append : (P : X → Type 0) (n m : ℕ) (xs ys : List X) → AllBut P n xs → AllBut P m ys → AllBut P (n + m) (xs ++ ys)
  all_but_append P n m [] ys h k = all_but_more P n m ys k
  all_but_append P n m (x ∷ xs) ys (inl (p, h)) k = inl (p, all_but_append P n m xs ys h k)
  all_but_append P n m (x ∷ xs) ys (inr (j, e, h)) k = inr (j + m, omega (arith, e), all_but_append P j m xs ys h k)

-- ---- the links that came back

module _ {L : Type 0} (sight : L → Option Sight) (count : L → ℕ) (gives : ℕ → Type 0) where
  served_as : (known front : Known) → KnowsMore known front → (back : L × L) → WasServed sight count gives known back → WasServed sight count gives front back
  served_as known front m back h = record { later = h.later; given = given_longer known.entries front.entries m.begins (sight back.0) (sight back.1) h.given }

  ended_as : (known front : Known) → KnowsMore known front → (back : L × L) → WasEnded sight count gives known back → WasEnded sight count gives front back
  ended_as known front m back = ended_later gives known front (link_seen (sight back.0) (count back.0)) (link_seen (sight back.1) (count back.1)) m

  at_more : (known front : Known) (short : ℕ) → KnowsMore known front → (x y : DoorSight L) → WorksAt sight count gives known short x y → WorksAt sight count gives front short x y
  at_more known front short m x y w = record {
    more = w.more;
    backs = w.backs;
    served = λ k d h. served_as known front m (slice_index_or w.more k d) (w.served k d h);
    ended = all_but_as (WasEnded sight count gives known) (WasEnded sight count gives front) (ended_as known front m) short w.more w.ended;
  }

  -- what holds of a run over what a front knows holds over what a front knows that knows more
  pub works_more : (known front : Known) (short : ℕ) → KnowsMore known front → (x y : Option (DoorSight L)) → Told (WorksAt sight count gives known short) x y → Told (WorksAt sight count gives front short) x y
  works_more known front short m = Told-as (at_more known front short m)

  at_then : (known front : Known) (n m : ℕ) → KnowsMore known front → (x y z : DoorSight L) → WorksAt sight count gives known n x y → WorksAt sight count gives front m y z → WorksAt sight count gives front (n + m) x z
  at_then known front n m k x y z v w =
      let u = at_more known front n k x y v in
      record {
        more = u.more ++ w.more;
        backs = w.backs ∙ ap (λ (l : List (L × L)). l ++ w.more) u.backs ∙ append_assoc x.backs u.more w.more;
        served = All-append (WasServed sight count gives front) u.more w.more u.served w.served;
        ended = all_but_append (WasEnded sight count gives front) n m u.more w.more u.ended w.ended;
      }

  pub works_then : (known front : Known) (n m : ℕ) → KnowsMore known front → (x y z : Option (DoorSight L)) → Told (WorksAt sight count gives known n) x y → Told (WorksAt sight count gives front m) y z → Told (WorksAt sight count gives front (n + m)) x z
  works_then known front n m k = Told-then (at_then known front n m k)

  -- a part in which none is dropped
  pub works_on : (known front : Known) (n : ℕ) → KnowsMore known front → (x y z : Option (DoorSight L)) → Told (WorksAt sight count gives known n) x y → Told (WorksAt sight count gives front 0) y z → Told (WorksAt sight count gives front n) x z
  works_on known front n k x y z v w = subst (λ (m : ℕ). Told (WorksAt sight count gives front m) x z) (omega arith) (works_then known front n 0 k x y z v w)
