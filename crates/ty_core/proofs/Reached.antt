-- What is so of each connection of a run.
use Rattle.std.proofs.Common.{◌≡◌, ℕ, ◌+◌, ◌<◌, ◌≤◌, ◌^◌, Bool, true, false, cond, List, [], ◌∷◌, ◌++◌, length, refl, sym, ap, ◌∙◌, arith, append-nil, length-append, true≢false, ltb-true}
use Rattle.std.specs.Prelude.{Option, None, Some, codes, not, ◌&&◌, if◌then◌else◌}
use Rattle.std.proofs.lemmas.Grind.{flat_map-append}
use Rattle.ty_base.specs.declared.entry.Entry.{Entry}
use Rattle.ty_base.specs.declared.limits.TheConstants.{INPUT_BYTES}
use Rattle.ty_wire.specs.Wire.{frame, frames}
use Rattle.ty_wire.specs.Whole.{whole_in}
use Rattle.ty_wire.specs.declared.message.Msg.{Msg}
use Rattle.ty_wire.specs.declared.message.Msg.TheVariants.{ClientHello}
use Rattle.ty_wire.proofs.Whole.{whole-more}
use Rattle.ty_client.specs.Rebuilt.{pongs}
use Rattle.ty_marks.specs.Marks.{Mark, group, ping, AreMarks, end_after, messages_after, bytes_of}
use Rattle.ty_marks.proofs.Marks.{messages-more, messages_of-more}
use Rattle.ty_session.proofs.Marks.{marks-ping, marks-close, marks-more, marks-end, bytes-none}
use Rattle.ty_session.specs.Times.{closes_group, is_ping_due}
use Rattle.ty_core.specs.declared.client.Connection.{Connection}
use Rattle.ty_core.specs.Clients.{Trail, told, down, sent, came, got_with, time_of, newest, new_link, is_heard, heard_at, joined_link, hear_link, has_ungrouped, closed_link, idle_link, next_link, ungrouped_deltas, grouped_link, is_behind, is_too_slow, step_link, get_link, is_dropped, is_pinged, ping_link, tick_link}
use Rattle.ty_core.specs.Links.{IsConnection}
use Rattle.ty_core.proofs.Steps.{sent-got}

abbrev answers : List Msg → List Msg
answers ms = ClientHello 1 (codes "follower") ∷ pongs ms

-- a client that has joined has been told something, and one that hasn't, nothing
pub record IsReached (es : List Entry) (k : Connection) : Type 0 where
  pub connection : IsConnection es k
  pub joined : k.has_joined ≡ true → 0 < length k.marks
  pub waiting : k.has_joined ≡ false → k.marks ≡ []

-- more was said
kept : (es es' : List Entry) (k k' : Connection) (more : List Msg) → IsConnection es k → told es' k' ≡ told es k ++ more → k'.got ≡ k.got → k'.up ≡ k.up → AreMarks k'.marks k'.offered → k'.offered ≤ length es' → IsConnection es' k'
kept es es' k k' more x t g u a o =
    let whole : whole_in k'.got (told es' k') ≡ whole_in k.got (told es k) = ap (λ (n : ℕ). whole_in n (told es' k')) g ∙ ap (whole_in k.got) t ∙ whole-more (told es k) more k.got x.got in
    let bytes : down es' k' ≡ down es k ++ frames more = ap frames t ∙ flat_map-append frame (told es k) more in
    let same : sent es' k' ≡ sent es k = ap answers whole in
    record {
      marks = a;
      offered = o;
      got = omega (arith, g, x.got, ap length bytes, length-append (down es k) (frames more));
      got_short = omega (arith, g, x.got_short);
      up = omega (arith, u, x.up, ap length same);
    }

pub more_entries : (es more : List Entry) (k : Connection) → IsReached es k → IsReached (es ++ more) k
more_entries es more k r =
    let x : IsConnection es k = r.connection in
    record {
      connection = kept es (es ++ more) k k [] x
          (messages_of-more es more k.marks (marks-more k.marks k.offered (length es) x.marks x.offered) ∙ sym (append-nil (told es k))) refl refl x.marks (omega (arith, x.offered, length-append es more));
      joined = r.joined;
      waiting = r.waiting;
    }

module _ (es : List Entry) (k : Connection) where
  some_marks : (marks : List Mark) (m : Mark) → 0 < length (marks ++ m ∷ [])
  some_marks marks m = omega (arith, length-append marks (m ∷ []))

  -- a mark more
  marked : (m : Mark) → told es (record k { marks = k.marks ++ m ∷ [] }) ≡ told es k ++ messages_after es (end_after 0 k.marks) (m ∷ [])
  marked m = messages-more es 0 k.marks (m ∷ [])

  closes : IsReached es k → k.has_joined ≡ true → end_after 0 k.marks < k.offered → IsReached es (closed_link k)
  closes r j h = record {
    connection = kept es es k (closed_link k) (messages_after es (end_after 0 k.marks) (group k.offered ∷ [])) r.connection (marked (group k.offered)) refl refl
        (marks-close k.marks k.offered r.connection.marks (r.joined j) h) r.connection.offered;
    joined = λ _. some_marks k.marks (group k.offered);
    waiting = λ w. absurd (true≢false (sym j ∙ w));
  }

  pub idle_reached : IsReached es k → k.has_joined ≡ true → IsReached es (idle_link k)
  idle_reached r j = elim (has_ungrouped k) as (λ b. has_ungrouped k ≡ b → IsReached es (cond b (closed_link k) k)) [
    | true ↦ λ h. closes r j (ltb-true (end_after 0 k.marks) k.offered h)
    | false ↦ λ h. r
  ] refl

  next_reached : IsReached es k → k.offered < length es → IsReached es (next_link k)
  next_reached r h = record {
    connection = kept es es k (next_link k) [] r.connection (sym (append-nil (told es k))) refl refl (marks-more k.marks k.offered (k.offered + 1) r.connection.marks (omega arith)) (omega (arith, h));
    joined = r.joined;
    waiting = r.waiting;
  }

  pub pinged_reached : (now : ℕ) → IsReached es k → now < 2 ^ 64 → IsReached es (ping_link now k)
  pinged_reached now r few = elim (is_pinged now k) as (λ b. is_pinged now k ≡ b → IsReached es (cond b (record k { pinged = now; marks = k.marks ++ ping now ∷ [] }) k)) [
    | true ↦ λ h.
        let j : k.has_joined ≡ true = first k.has_joined (is_ping_due k.pinged now) h in
        record {
          connection = kept es es k (record k { pinged = now; marks = k.marks ++ ping now ∷ [] }) (messages_after es (end_after 0 k.marks) (ping now ∷ [])) r.connection (marked (ping now)) refl refl
              (marks-ping k.marks k.offered now r.connection.marks (r.joined j) few) r.connection.offered;
          joined = λ _. some_marks k.marks (ping now);
          waiting = λ w. absurd (true≢false (sym j ∙ w));
        }
    | false ↦ λ h. r
  ] refl
    where
      first : (a b : Bool) → (a && b) ≡ true → a ≡ true
      first true b e = refl
      first false b e = absurd (true≢false (sym e))

  pub got_reached : (n : ℕ) → IsReached es k → got_with es k n < INPUT_BYTES → IsReached es (get_link es n k)
  got_reached n r h = record {
    connection = record {
      marks = r.connection.marks;
      offered = r.connection.offered;
      got = omega arith;
      got_short = h;
      up = omega (arith, r.connection.up, ap length (sent-got es k n r.connection.got), length-append (sent es k) (pongs (came es k n)));
    };
    joined = r.joined;
    waiting = r.waiting;
  }

  heard_reached : (now : ℕ) → IsReached es k → IsReached es (heard_at now k)
  heard_reached now r = record {
    connection = record { marks = r.connection.marks; offered = r.connection.offered; got = r.connection.got; got_short = r.connection.got_short; up = omega arith };
    joined = r.joined;
    waiting = r.waiting;
  }

  none_got : IsReached es k → k.has_joined ≡ false → k.got ≡ 0
  none_got r w = omega (arith, r.connection.got, ap length (ap (bytes_of es) (r.waiting w) ∙ bytes-none es))

  joined_reached : (now : ℕ) → IsReached es k → k.has_joined ≡ false → IsReached es (joined_link (length es) now (heard_at now k))
  joined_reached now r w = record {
    connection = record { marks = omega arith; offered = omega arith; got = omega (arith, none_got r w); got_short = omega (arith, none_got r w); up = omega arith };
    joined = λ _. omega arith;
    waiting = λ e. absurd (true≢false e);
  }

  pub heard_by_reached : (now : ℕ) → IsReached es k → IsReached es (hear_link (length es) now k)
  heard_by_reached now r = elim (is_heard k) as (λ b. IsReached es (if not b then k else (if k.has_joined then heard_at now k else joined_link (length es) now (heard_at now k)))) [
    | true ↦ elim k.has_joined as (λ b. k.has_joined ≡ b → IsReached es (if b then heard_at now k else joined_link (length es) now (heard_at now k))) [
      | true ↦ λ j. heard_reached now r
      | false ↦ λ w. joined_reached now r w
    ] refl
    | false ↦ r
  ]

pub opened_reached : (es : List Entry) (now : ℕ) → IsReached es (new_link now)
opened_reached es now = record {
  connection = record { marks = tt; offered = omega arith; got = omega arith; got_short = omega arith; up = omega arith };
  joined = λ e. absurd (true≢false (sym e));
  waiting = λ _. refl;
}

-- Behind a step or a tick, where the connection is still there

abbrev pub IfReached : List Entry → Option Connection → Type 0
IfReached es None = Unit {0}
IfReached es (Some k) = IsReached es k

grouped_reached : (t : Trail) (now : ℕ) (k : Connection) → IsReached t.entries k → k.has_joined ≡ true → k.offered < length t.entries → IsReached t.entries (grouped_link t now (next_link k))
grouped_reached t now k r j h =
    let k' : Connection = next_link k in
    let n : IsReached t.entries k' = next_reached t.entries k r h in
    elim (closes_group (time_of t k'.offered) now (length (ungrouped_deltas t.entries k'))) as (λ b. IsReached t.entries (cond b (closed_link k') k')) [
      | true ↦ closes t.entries k' n j (omega (arith, marks-end k.marks k.offered r.connection.marks))
      | false ↦ n
    ]

pub stepped_reached : (t : Trail) (now : ℕ) (k : Connection) → IsReached t.entries k → IfReached t.entries (step_link t now k)
stepped_reached t now k r =
    elim k.has_joined as (λ b. k.has_joined ≡ b → IfReached t.entries (if not b then Some k else (if not (is_behind t k) then Some (idle_link k) else (if is_too_slow t now k then None else Some (grouped_link t now (next_link k)))))) [
      | false ↦ λ w. r
      | true ↦ λ j. elim (is_behind t k) as (λ b. is_behind t k ≡ b → IfReached t.entries (if not b then Some (idle_link k) else (if is_too_slow t now k then None else Some (grouped_link t now (next_link k))))) [
        | false ↦ λ _. idle_reached t.entries k r j
        | true ↦ λ h. elim (is_too_slow t now k) as (λ b. IfReached t.entries (if b then None else Some (grouped_link t now (next_link k)))) [
          | true ↦ tt
          | false ↦ grouped_reached t now k r j (ltb-true k.offered (newest t) h)
        ]
      ] refl
    ] refl

pub ticked_reached : (es : List Entry) (now : ℕ) (k : Connection) → IsReached es k → now < 2 ^ 64 → IfReached es (tick_link now k)
ticked_reached es now k r few = elim (is_dropped now k) as (λ b. IfReached es (if b then None else Some (ping_link now k))) [
  | true ↦ tt
  | false ↦ pinged_reached es k now r few
]
