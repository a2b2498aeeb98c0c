-- One dialled link after another.
use Rattle.std.proofs.Common.{◌≡◌, ◌∙◌, refl, sym, ap, subst, ℕ, ◌+◌, ◌<◌, ◌≤◌, ◌^◌, ◌-◌, min, inl, inr, ◌⊎◌, Bool, true, false, List, [], ◌∷◌, ◌++◌, length, append-nil, append_assoc, length-append, true≢false, arith}
use Rattle.std.specs.Prelude.{Option, None, Some, Result, Ok, Err, unwrap_or, flat_map}
use Rattle.std.specs.List.{AllByRecursion}
use Rattle.std.specs.Io.KnownBytes.{Appends}
use Rattle.std.proofs.lemmas.List.Concat.{flat_map-append}
use Rattle.std.proofs.lemmas.List.Sums.{fold-append}
use Rattle.ty_base.specs.Causes.{Rose}
use Rattle.ty_base.specs.Devices.{Output}
use Rattle.ty_base.specs.Doors.{DoorSight, Accepts, TakesBack}
use Rattle.ty_base.specs.Links.{Sight}
use Rattle.ty_base.specs.Told.{Told}
use Rattle.ty_base.specs.declared.door.Came.TheVariants as came
use Rattle.ty_base.proofs.Known.{Appends-then, Appends-same}
use Rattle.ty_base.proofs.Telling.{Told-then, Told-as, Told-still}
use Rattle.ty_client.specs.Linked.{EndIsTaken}
use Rattle.ty_dial.specs.declared.fault.DialFault.{DialFault}
use Rattle.ty_dial.specs.declared.fault.DialFault.TheVariants.{Stream, Cut, Write, Link, Door, NoMemory}
use Rattle.ty_dial.specs.Dialled.{Answer, Turn, IsTurn, Answers, is_lost, last_answer, turn_text, turns_text, WritesFront, Writes, Each, AnswerShows, LinkFollowed, WasFollowed, WasLost, CameBack, Dialler, IsUsedUp, IsUp, IsStop, Why, Dialled}
use Rattle.ty_dial.specs.steps.Turns.{RoseAt, TurnWrites, HadTurn, TurnBack, DialsOne, DialsNone, LostSoFar, LostWith}

-- ---- lists

each_append : {X Y : Type 0} (R : X → Y → Type 0) (xs : List X) (ys : List Y) (more : List X) (others : List Y) → Each R xs ys → Each R more others → Each R (xs ++ more) (ys ++ others)
each_append R [] [] more others h k = k
each_append R [] (y ∷ ys) more others h k = absurd h
each_append R (x ∷ xs) [] more others h k = absurd h
each_append R (x ∷ xs) (y ∷ ys) more others h k = (h.0, each_append R xs ys more others h.1 k)

none_each : {X Y : Type 0} (R : X → Y → Type 0) (ys : List Y) → Each R [] ys → ys ≡ []
none_each R [] h = refl
none_each R (y ∷ ys) h = absurd h

all_push : {X : Type 0} (P : X → Type 0) (xs : List X) (x : X) → AllByRecursion P xs → P x → AllByRecursion P (xs ++ x ∷ [])
all_push P [] x h p = (p, tt)
all_push P (y ∷ ys) x h p = (h.0, all_push P ys x h.1 p)

-- ---- answers

lost_by : (a : Answer) (x y : Option Sight) (n m : ℕ) → is_lost a ≡ true → AnswerShows a x y n m → Rose n m ⊎ Told EndIsTaken x y
lost_by (Ok u) x y n m l s = inr s
lost_by (Err (Cut left)) x y n m l s = inr s
lost_by (Err Link) x y n m l s = inl s
lost_by (Err (Stream f)) x y n m l s = absurd (true≢false (sym l))
lost_by (Err Write) x y n m l s = absurd (true≢false (sym l))
lost_by (Err Door) x y n m l s = absurd (true≢false (sym l))
lost_by (Err NoMemory) x y n m l s = absurd (true≢false (sym l))

-- all texts were written where the answer is that of a lost link
all_written : (brief : Bool) (lost last : List Turn) (a : Answer) (x y : Option (List ℕ)) → is_lost a ≡ true → Writes brief lost last a x y → Appends x y (turns_text brief (lost ++ last))
all_written brief lost last (Ok u) x y l w = w
all_written brief lost last (Err (Cut left)) x y l w = w
all_written brief lost last (Err Link) x y l w = w
all_written brief lost last (Err (Stream f)) x y l w = absurd (true≢false (sym l))
all_written brief lost last (Err Write) x y l w = absurd (true≢false (sym l))
all_written brief lost last (Err Door) x y l w = absurd (true≢false (sym l))
all_written brief lost last (Err NoMemory) x y l w = absurd (true≢false (sym l))

writes_all : (brief : Bool) (lost last : List Turn) (a : Answer) (x y : Option (List ℕ)) → is_lost a ≡ true → Appends x y (turns_text brief (lost ++ last)) → Writes brief lost last a x y
writes_all brief lost last (Ok u) x y l w = w
writes_all brief lost last (Err (Cut left)) x y l w = w
writes_all brief lost last (Err Link) x y l w = w
writes_all brief lost last (Err (Stream f)) x y l w = absurd (true≢false (sym l))
writes_all brief lost last (Err Write) x y l w = absurd (true≢false (sym l))
writes_all brief lost last (Err Door) x y l w = absurd (true≢false (sym l))
writes_all brief lost last (Err NoMemory) x y l w = absurd (true≢false (sym l))

text_then : (brief : Bool) (lost : List Turn) (t : Turn) (x y z : Option (List ℕ)) → Appends x y (turns_text brief lost) → Appends y z (turns_text brief (t ∷ [])) → Appends x z (turns_text brief (lost ++ t ∷ []))
text_then brief lost t x y z h k =
    subst (Appends x z) (sym (flat_map-append (turn_text brief) lost (t ∷ []))) (Appends-then x y z (turns_text brief lost) (turns_text brief (t ∷ [])) h k)

front_then : (brief : Bool) (lost : List Turn) (t : Turn) (x y z : Option (List ℕ)) → Appends x y (turns_text brief lost) → WritesFront brief [] (t ∷ []) y z → WritesFront brief lost (t ∷ []) x z
front_then brief lost t x y z h w = record {
  front = w.front;
  rest = w.rest;
  cut = w.cut;
  written = Appends-then x y z (turns_text brief lost) w.front h w.written;
}

-- behind the texts of the links that were lost
writes_behind : (brief : Bool) (lost : List Turn) (t : Turn) (a : Answer) (x y z : Option (List ℕ)) → Appends x y (turns_text brief lost) → Writes brief [] (t ∷ []) a y z → Writes brief lost (t ∷ []) a x z
writes_behind brief lost t (Ok u) x y z h w = text_then brief lost t x y z h w
writes_behind brief lost t (Err (Cut left)) x y z h w = text_then brief lost t x y z h w
writes_behind brief lost t (Err Link) x y z h w = text_then brief lost t x y z h w
writes_behind brief lost t (Err (Stream f)) x y z h w = text_then brief lost t x y z h w
writes_behind brief lost t (Err Write) x y z h w = front_then brief lost t x y z h w
writes_behind brief lost t (Err Door) x y z h w = text_then brief lost t x y z h w
writes_behind brief lost t (Err NoMemory) x y z h w = front_then brief lost t x y z h w

rose_later : (a b c : ℕ) → a ≤ b → Rose b c → Rose a c
rose_later a b c le h = omega (arith, le, h)

rose_at : (a : Answer) (x y z : ℕ) → x ≤ y → RoseAt a y z → RoseAt a x z
rose_at (Ok u) x y z le h = tt
rose_at (Err (Cut left)) x y z le h = tt
rose_at (Err Link) x y z le h = tt
rose_at (Err (Stream f)) x y z le h = tt
rose_at (Err Write) x y z le h = rose_later x y z le h
rose_at (Err Door) x y z le h = tt
rose_at (Err NoMemory) x y z le h = tt

module _ {L : Type 0} where
  why_up : (tries : ℕ) (lost last : List Turn) (a : Answer) (old new : Dialler L) → is_lost a ≡ true → IsUp tries lost last a old new → Why tries lost last a old new
  why_up tries lost last (Ok u) old new l h = h
  why_up tries lost last (Err (Cut left)) old new l h = h
  why_up tries lost last (Err Link) old new l h = h
  why_up tries lost last (Err (Stream f)) old new l h = absurd (true≢false (sym l))
  why_up tries lost last (Err Write) old new l h = absurd (true≢false (sym l))
  why_up tries lost last (Err Door) old new l h = absurd (true≢false (sym l))
  why_up tries lost last (Err NoMemory) old new l h = absurd (true≢false (sym l))

  why_stop : (tries : ℕ) (lost last : List Turn) (t : Turn) (a : Answer) (old new : Dialler L) → is_lost a ≡ false → Answers t a → IsStop last a → RoseAt a old.sink.faults new.sink.faults → Why tries lost last a old new
  why_stop tries lost last t (Ok u) old new l h s r = absurd (true≢false l)
  why_stop tries lost last t (Err (Cut left)) old new l h s r = absurd (true≢false l)
  why_stop tries lost last t (Err Link) old new l h s r = absurd (true≢false l)
  why_stop tries lost last t (Err (Stream f)) old new l h s r = s
  why_stop tries lost last t (Err Write) old new l h s r = (s, r)
  why_stop tries lost last t (Err Door) old new l h s r = absurd h
  why_stop tries lost last t (Err NoMemory) old new l h s r = s

-- ---- links

module _ {L : Type 0} (sight : L → Option Sight) (count : L → ℕ) (host : List ℕ) (brief : Bool) where
  lost_links : (turns : List Turn) (x y : DoorSight L) (c : CameBack sight count host turns [] x y) → y.backs ≡ x.backs ++ c.lost_links
  lost_links turns x y c =
      c.backs ∙ ap (λ (l : List (L × L)). x.backs ++ (c.lost_links ++ l)) (none_each (WasFollowed sight count host) c.last_links c.was_followed)
      ∙ ap (λ (l : List (L × L)). x.backs ++ l) (append-nil c.lost_links)

  one_more : (turns : List Turn) (t : Turn) (x y z : DoorSight L) (c : CameBack sight count host turns [] x y) (b : TurnBack sight count host brief t y z) → z.backs ≡ x.backs ++ (c.lost_links ++ b.link ∷ [])
  one_more turns t x y z c b =
      b.backs ∙ ap (λ (l : List (L × L)). l ++ b.link ∷ []) (lost_links turns x y c) ∙ append_assoc x.backs c.lost_links (b.link ∷ [])

  came_more : (turns : List Turn) (t : Turn) → is_lost t.answer ≡ true → (x y z : DoorSight L) → CameBack sight count host turns [] x y → TurnBack sight count host brief t y z → CameBack sight count host (turns ++ t ∷ []) [] x z
  came_more turns t l x y z c b = record {
    lost_links = c.lost_links ++ b.link ∷ [];
    last_links = [];
    backs = one_more turns t x y z c b ∙ ap (λ (l : List (L × L)). x.backs ++ l) (sym (append-nil (c.lost_links ++ b.link ∷ [])));
    were_lost = each_append (WasLost sight count host) turns c.lost_links (t ∷ []) (b.link ∷ []) c.were_lost
        ((b.followed, lost_by t.answer (sight b.link.0) (sight b.link.1) (count b.link.0) (count b.link.1) l b.followed.shows), tt);
    was_followed = tt;
  }

  came_last : (turns : List Turn) (t : Turn) (x y z : DoorSight L) → CameBack sight count host turns [] x y → TurnBack sight count host brief t y z → CameBack sight count host turns (t ∷ []) x z
  came_last turns t x y z c b = record {
    lost_links = c.lost_links;
    last_links = b.link ∷ [];
    backs = one_more turns t x y z c b;
    were_lost = c.were_lost;
    was_followed = (b.followed, tt);
  }

  came_still : (turns : List Turn) (x y z : DoorSight L) → CameBack sight count host turns [] x y → z.backs ≡ y.backs → CameBack sight count host turns [] x z
  came_still turns x y z c e = record {
    lost_links = c.lost_links;
    last_links = c.last_links;
    backs = e ∙ c.backs;
    were_lost = c.were_lost;
    was_followed = c.was_followed;
  }

  came_none : (x : DoorSight L) → CameBack sight count host [] [] x x
  came_none x = record { lost_links = []; last_links = []; backs = sym (append-nil x.backs); were_lost = tt; was_followed = tt }

  -- ---- dialling

  -- the link that was accepted came back
  turn_back : (t : Turn) (first back : L) → LinkFollowed host t (sight first) (sight back) (count first) (count back)
      → (x y z : DoorSight L) → Accepts (Ok (came.Link first)) x y → TakesBack back y z → TurnBack sight count host brief t x z
  turn_back t first back h x y z a k =
      let same : first ≡ k.0 = ap (λ (o : Option L). unwrap_or o first) (sym (ap (λ (d : DoorSight L). d.lent) a) ∙ k.1) in
      record {
        link = (k.0, back);
        backs = ap (λ (d : DoorSight L). d.backs) k.2 ∙ ap (λ (d : DoorSight L). d.backs ++ (k.0, back) ∷ []) a;
        followed = subst (λ (l : L). LinkFollowed host t (sight l) (sight back) (count l) (count back)) same h;
      }

  pub dials_one : (answer : Answer) (first back : L) (old new : Dialler L) (mid : Option (DoorSight L)) → HadTurn host brief answer (sight first) (sight back) (count first) (count back) old.sink new.sink
      → Told (Accepts (Ok (came.Link first))) old.sight mid → Told (TakesBack back) mid new.sight → new.got ≡ old.got + 1 → new.gave ≡ old.gave + 1
      → DialsOne sight count host brief answer old new
  dials_one answer first back old new mid h a k got gave = record {
    turn = h.turn;
    same = h.same;
    is_turn = h.is_turn;
    got = got;
    gave = gave;
    back = Told-then (turn_back h.turn first back h.followed) old.sight mid new.sight a k;
    writes = h.writes;
  }

  -- ---- links that were lost so far

  pub lost_none : (d : Dialler L) → LostWith sight count host brief 0 (Ok tt) d d
  lost_none d = record {
    turns = [];
    so_far = record {
      each = tt;
      got = omega arith;
      back = omega arith;
      came_back = Told-still (CameBack sight count host [] []) came_none d.sight;
      written = Appends-same d.sink.held;
      sink_later = omega arith;
      dial_later = omega arith;
    };
    number = refl;
    answer_is = refl;
    lost = refl;
  }

  lost_more : (turns : List Turn) (a : Answer) (old mid new : Dialler L) → LostSoFar sight count host brief turns old mid → (d : DialsOne sight count host brief a mid new) → is_lost a ≡ true → mid.faults ≤ new.faults
      → LostSoFar sight count host brief (turns ++ d.turn ∷ []) old new
  lost_more turns a old mid new s d l later =
      let lost : is_lost d.turn.answer ≡ true = ap is_lost d.same ∙ l in
      record {
        each = all_push IsTurn turns d.turn s.each d.is_turn;
        got = omega (arith, s.got, d.got, length-append turns (d.turn ∷ []));
        back = omega (arith, s.back, d.got, d.gave);
        came_back = Told-then (came_more turns d.turn lost) old.sight mid.sight new.sight s.came_back d.back;
        written = text_then brief turns d.turn old.sink.held mid.sink.held new.sink.held s.written (all_written brief [] (d.turn ∷ []) d.turn.answer mid.sink.held new.sink.held lost d.writes.writes);
        sink_later = omega (arith, s.sink_later, d.writes.later);
        dial_later = omega (arith, s.dial_later, later);
      }

  pub with_more : (n : ℕ) (a b : Answer) (old mid new : Dialler L) → LostWith sight count host brief n a old mid → DialsOne sight count host brief b mid new → is_lost b ≡ true → mid.faults ≤ new.faults
      → LostWith sight count host brief (n + 1) b old new
  with_more n a b old mid new w d l later = record {
    turns = w.turns ++ d.turn ∷ [];
    so_far = lost_more w.turns b old mid new w.so_far d l later;
    number = omega (arith, w.number, length-append w.turns (d.turn ∷ []));
    answer_is = fold-append (λ (_ : Answer) (t : Turn). t.answer) (Ok tt) w.turns (d.turn ∷ []) ∙ d.same;
    lost = l;
  }

  pub with_none : (n : ℕ) (a : Answer) (old mid new : Dialler L) → LostWith sight count host brief n a old mid → DialsNone sight count host brief mid new → mid.faults ≤ new.faults
      → LostWith sight count host brief n a old new
  with_none n a old mid new w d later =
      let s = w.so_far in
      record {
        turns = w.turns;
        so_far = record {
          each = s.each;
          got = d.got ∙ s.got;
          back = omega (arith, s.back, d.got, d.gave);
          came_back = Told-then (came_still w.turns) old.sight mid.sight new.sight s.came_back d.backs;
          written = subst (λ (o : Output). Appends old.sink.held o.held (turns_text brief w.turns)) (sym d.sink) s.written;
          sink_later = subst (λ (o : Output). old.sink.faults ≤ o.faults) (sym d.sink) s.sink_later;
          dial_later = omega (arith, s.dial_later, later);
        };
        number = w.number;
        answer_is = w.answer_is;
        lost = w.lost;
      }

  -- ---- how it ends

  up : (tries n : ℕ) (a : Answer) (old new : Dialler L) (w : LostWith sight count host brief n a old new) → n ≤ tries → Told (IsUsedUp tries w.turns) old.sight new.sight
      → Dialled sight count host brief tries old new a
  up tries n a old new w few over =
      let s = w.so_far in
      let all : w.turns ≡ w.turns ++ [] = sym (append-nil w.turns) in
      record {
        lost = w.turns;
        last = [];
        turns = subst (AllByRecursion IsTurn) all s.each;
        got = s.got ∙ ap (λ (l : List Turn). old.got + length l) all;
        back = s.back;
        few = subst (λ (l : List Turn). length l ≤ tries) all (omega (arith, few, w.number));
        came_back = s.came_back;
        written = writes_all brief w.turns [] a old.sink.held new.sink.held w.lost (subst (λ (l : List Turn). Appends old.sink.held new.sink.held (turns_text brief l)) all s.written);
        why = why_up tries w.turns [] a old new w.lost (record { none = refl; same = w.answer_is; over = over });
      }

  -- no try is left
  pub up_by_tries : (tries n : ℕ) (a : Answer) (old new : Dialler L) → LostWith sight count host brief n a old new → n ≡ tries → Dialled sight count host brief tries old new a
  up_by_tries tries n a old new w e =
      up tries n a old new w (omega (arith, e)) (Told-as (λ x y c. inl (sym w.number ∙ e)) old.sight new.sight w.so_far.came_back)

  -- nothing more comes
  pub up_by_end : (tries n : ℕ) (a : Answer) (old mid new : Dialler L) → LostWith sight count host brief n a old mid → DialsNone sight count host brief mid new → mid.faults ≤ new.faults
      → Told (λ (x y : DoorSight L). y.last ≡ Some (Ok came.End)) mid.sight new.sight → n ≤ tries → Dialled sight count host brief tries old new a
  up_by_end tries n a old mid new w d later end few =
      up tries n a old new (with_none n a old mid new w d later) few (Told-then (λ x y z c e. inr e) old.sight mid.sight new.sight w.so_far.came_back end)

  -- the dialler failed
  pub door_failed : (tries n : ℕ) (a : Answer) (old mid new : Dialler L) → LostWith sight count host brief n a old mid → DialsNone sight count host brief mid new → mid.faults ≤ new.faults
      → Rose mid.faults new.faults → n ≤ tries → Dialled sight count host brief tries old new (Err Door)
  door_failed tries n a old mid new w d later rose few =
      let v = with_none n a old mid new w d later in
      let s = v.so_far in
      let all : v.turns ≡ v.turns ++ [] = sym (append-nil v.turns) in
      record {
        lost = v.turns;
        last = [];
        turns = subst (AllByRecursion IsTurn) all s.each;
        got = s.got ∙ ap (λ (l : List Turn). old.got + length l) all;
        back = s.back;
        few = subst (λ (l : List Turn). length l ≤ tries) all (omega (arith, few, v.number));
        came_back = s.came_back;
        written = subst (λ (l : List Turn). Appends old.sink.held new.sink.held (turns_text brief l)) all s.written;
        why = (refl, rose_later old.faults mid.faults new.faults w.so_far.dial_later rose);
      }

  -- a link ended it
  pub stopped : (tries n : ℕ) (a b : Answer) (old mid new : Dialler L) → LostWith sight count host brief n a old mid → DialsOne sight count host brief b mid new → is_lost b ≡ false → n < tries
      → Dialled sight count host brief tries old new b
  stopped tries n a b old mid new w d l few =
      let s = w.so_far in
      record {
        lost = w.turns;
        last = d.turn ∷ [];
        turns = all_push IsTurn w.turns d.turn s.each d.is_turn;
        got = omega (arith, s.got, d.got, length-append w.turns (d.turn ∷ []));
        back = omega (arith, s.back, d.got, d.gave);
        few = omega (arith, few, w.number, length-append w.turns (d.turn ∷ []));
        came_back = Told-then (came_last w.turns d.turn) old.sight mid.sight new.sight s.came_back d.back;
        written = writes_behind brief w.turns d.turn b old.sink.held mid.sink.held new.sink.held s.written
            (subst (λ (e : Answer). Writes brief [] (d.turn ∷ []) e mid.sink.held new.sink.held) d.same d.writes.writes);
        why = why_stop tries w.turns (d.turn ∷ []) d.turn b old new l (subst (Answers d.turn) d.same d.is_turn) (d.turn, refl, d.same)
            (rose_at b old.sink.faults mid.sink.faults new.sink.faults s.sink_later (subst (λ (e : Answer). RoseAt e mid.sink.faults new.sink.faults) d.same d.writes.rose));
      }
