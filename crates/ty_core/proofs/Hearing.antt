-- A session that hears all that is on its way up.
use Rattle.std.proofs.Common.{◌≡◌, ℕ, ◌-◌, ◌<◌, ◌≤◌, Bool, true, false, List, [], ◌∷◌, ◌++◌, length, take, drop, refl, sym, ap, subst, ◌∙◌, arith, append-nil, true≢false, nat_le, lt-ltb, le-ltb, length-drop, inl, inr}
use Rattle.std.specs.Prelude.{Option, None, Some, IsSome, not, ◌&&◌, if◌then◌else◌, option_map}
use Rattle.std.specs.List.{AllByRecursion, list_all}
use Rattle.std.proofs.lemmas.Bool.{cases_lt, le-leb, lt-leb}
use Rattle.std.proofs.lemmas.List.{drop_all}
use Rattle.ty_base.specs.declared.entry.Entry.{Entry}
use Rattle.ty_base.specs.declared.limits.TheConstants.{INPUT_BYTES}
use Rattle.ty_base.specs.Limits.{is_small_entry}
use Rattle.ty_wire.specs.Wire.{IsWire, frames}
use Rattle.ty_wire.specs.Whole.{whole_in}
use Rattle.ty_wire.specs.Held.{FramesHeld}
use Rattle.ty_wire.specs.Stream.{FramesStandBy}
use Rattle.ty_wire.specs.declared.message.Msg.{Msg}
use Rattle.ty_wire.specs.declared.fault.WireFault.{WireFault}
use Rattle.ty_wire.proofs.Whole.{whole-zero}
use Rattle.ty_client.specs.Rebuild.{RebuildHeld, RebuildStands}
use Rattle.ty_intake.specs.declared.intake.IntakeFault.{IntakeFault}
use Rattle.ty_intake.specs.declared.intake.IntakeFault.TheVariants.{TooMuch}
use Rattle.ty_marks.specs.Marks.{Mark, bytes_of}
use Rattle.ty_session.proofs.Marks.{marks-more, bytes-none}
use Rattle.ty_session.specs.Client.{Shows}
use Rattle.ty_session.specs.Story.{Story, heard_by, heard_more, greeted_by, joined_at}
use Rattle.ty_session.specs.Held.{SessionHeld, SessionStands, IsHearing, IsIn}
use Rattle.ty_session.specs.Outcomes.{HeardMore}
use Rattle.ty_session.specs.declared.phase.Phase.{Phase}
use Rattle.ty_session.specs.declared.phase.Phase.TheVariants.{Waiting, Greeted, Joined, Over}
use Rattle.ty_session.specs.declared.reason.Reason.{Reason}
use Rattle.ty_session.specs.declared.stance.Stance.{Stance}
use Rattle.ty_core.specs.declared.client.Client.{Client}
use Rattle.ty_core.specs.declared.client.Connection.{Connection}
use Rattle.ty_core.specs.declared.slot.Slot.{Slot}
use Rattle.ty_core.specs.declared.told.Told.{Told}
use Rattle.ty_core.specs.declared.told.Told.TheVariants.{Heard as ToldHeard, Joined as ToldJoined, Absent}
use Rattle.ty_core.specs.Clients.{told, down, delivered, sent, unheard, is_heard, is_joining, heard_at, joined_link, hear_link}
use Rattle.ty_core.specs.Run.{too_much_if, hear_fault}
use Rattle.ty_core.specs.Report.{told_hear}
use Rattle.ty_core.specs.Links.{phase_of, stance_of, heard_before, story_of, IsConnection, IsLink}
use Rattle.ty_core.specs.Held.{IsLinked, LinkStands, SlotStands}
use Rattle.ty_core.specs.steps.Links.{AllIsHeard}
use Rattle.ty_core.specs.steps.Slots.{LinkHears, SlotMoves, is_greeted_phase}
use Rattle.ty_core.proofs.Upward.{sent-wire, bytes-both, heard-whole, no-reason}
use Rattle.ty_core.proofs.Moving.{heard-story, joined-story}
use Rattle.ty_core.proofs.Opening.{some_link, no_link}

-- What a session that isn't over keeps

hearing_of : (p : Phase) (frame : ℕ) (reason : Option Reason) (unread : FramesHeld) (bytes : List ℕ) (messages : List Msg) (marks : List Mark) (entries : List Entry) → reason ≡ None
    → IsIn p frame reason unread bytes messages marks entries → IsHearing frame reason unread bytes messages
hearing_of Waiting frame reason unread bytes messages marks entries e h = h.0
hearing_of Greeted frame reason unread bytes messages marks entries e h = h.0
hearing_of Joined frame reason unread bytes messages marks entries e h = h.0
hearing_of Over frame reason unread bytes messages marks entries e h = absurd (true≢false (sym (subst IsSome e h)))

waiting_none : (b : Bool) (frame : ℕ) (reason : Option Reason) (unread : FramesHeld) (bytes : List ℕ) (messages : List Msg) (marks : List Mark) (entries : List Entry) → b ≡ false
    → IsIn (phase_of b) frame reason unread bytes messages marks entries → marks ≡ []
waiting_none true frame reason unread bytes messages marks entries e h = absurd (true≢false e)
waiting_none false frame reason unread bytes messages marks entries e h = h.2

short_by : (o : Option WireFault) (f : FramesHeld) (bytes : List ℕ) (ms : List Msg) → o ≡ None → FramesStandBy o f bytes ms → length bytes < INPUT_BYTES
short_by None f bytes ms e h = h.short
short_by (Some w) f bytes ms e h = cc

reason_heard : (now : ℕ) (more : List Msg) (t : Stance) → t.reason ≡ None → (heard_by now more t).reason ≡ None
reason_heard now [] t e = e
reason_heard now (m ∷ ms) t e = e

module _ (es : List Entry) (k : Connection) where
  unheard_len : k.up ≤ length (sent es k) → length (unheard es k) ≡ k.up
  unheard_len h = omega (arith, length-drop (length (sent es k) - k.up) (sent es k), h)

  none_unheard : k.up ≡ 0 → unheard es k ≡ []
  none_unheard e = drop_all (length (sent es k) - k.up) (sent es k) (omega (arith, e))

  got_none : (rb : RebuildHeld) (sv : SessionHeld) (before : List (List ℕ)) → IsLink rb sv es k before → k.has_joined ≡ false → k.got ≡ 0
  got_none rb sv before l w =
      let st = l.session_stands in
      let none : k.marks ≡ [] = waiting_none k.has_joined sv.frame None sv.unread (frames (heard_before es k)) (heard_before es k) k.marks (take k.offered es) w st.phase in
      omega (arith, l.connection.got, ap length (ap (bytes_of es) none ∙ bytes-none es))

  all_wire : list_all is_small_entry es ≡ true → length es < INPUT_BYTES → IsConnection es k → AllByRecursion IsWire (sent es k)
  all_wire texts few x = sent-wire es k texts (omega (arith, few)) (marks-more k.marks k.offered (length es) x.marks x.offered)

  short_heard : (rb : RebuildHeld) (sv : SessionHeld) (before : List (List ℕ)) → IsLink rb sv es k before → length (frames (heard_before es k)) < INPUT_BYTES
  short_heard rb sv before l =
      let st = l.session_stands in
      let h = hearing_of (phase_of k.has_joined) sv.frame None sv.unread (frames (heard_before es k)) (heard_before es k) k.marks (take k.offered es) refl st.phase in
      short_by sv.unread.fault sv.unread (frames (heard_before es k)) (heard_before es k) h.no_wire_fault h.frames_stand.1

  pub heard_is : (rb rb' : RebuildHeld) (sv sv' : SessionHeld) (before : List (List ℕ)) (now count n : ℕ) (bytes : List ℕ) → list_all is_small_entry es ≡ true → length es < INPUT_BYTES → IsLink rb sv es k before → bytes ≡ rb.up
      → ((s : Story) → SessionStands sv s → HeardMore sv' now bytes count s) → rb' ≡ record rb { up = drop n rb.up } → n ≡ length rb.up → AllIsHeard rb' sv' es now k before count
  heard_is rb rb' sv sv' before now count n bytes texts few l b hears e all =
      let s : Story = story_of es l.looked k in
      let h : HeardMore sv' now bytes count s = hears s l.session_stands in
      let piece : bytes ≡ frames (unheard es k) = b ∙ l.up in
      let st : SessionStands sv' (heard_more now (frames (unheard es k)) h.more s) = subst (λ (x : List ℕ). SessionStands sv' (heard_more now x h.more s)) piece h.stands in
      let t : Stance = heard_by now h.more (stance_of l.looked k) in
      let hearing : IsHearing sv'.frame t.reason sv'.unread (frames (heard_before es k) ++ frames (unheard es k)) (heard_before es k ++ h.more) =
      hearing_of t.phase sv'.frame t.reason sv'.unread (frames (heard_before es k) ++ frames (unheard es k)) (heard_before es k ++ h.more) k.marks (take k.offered es) (reason_heard now h.more (stance_of l.looked k) refl) st.phase in
      let few_bytes : length (frames (heard_before es k) ++ frames (unheard es k)) < INPUT_BYTES = short_by sv'.unread.fault sv'.unread _ _ hearing.no_wire_fault hearing.frames_stand.1 in
      let short : length (frames (sent es k)) < INPUT_BYTES = omega (arith, few_bytes, ap length (bytes-both es k)) in
      let more_is : h.more ≡ unheard es k = heard-whole es k sv'.unread h.more (all_wire texts few l.connection) short hearing.frames_stand hearing.no_wire_fault in
      let R : RebuildHeld → Type 0 = λ r. RebuildStands r before (take k.got (down es k)) (delivered es k) in
      record {
        connection = l.connection;
        looked = l.looked;
        count_is = h.count ∙ ap length more_is ∙ unheard_len l.connection.up;
        short = short;
        session_stands = subst (λ (ms : List Msg). SessionStands sv' (heard_more now (frames (unheard es k)) ms s)) more_is st;
        client_stands = subst R (sym e) (record {
          unspent = l.client_stands.unspent;
          hears = l.client_stands.hears;
          goes_on = l.client_stands.goes_on;
          held_before = l.client_stands.held_before;
          holds = l.client_stands.holds;
          held_is = l.client_stands.held_is;
        });
        no_fault = ap (λ (r : RebuildHeld). r.fault) e ∙ l.no_fault;
        up = ap (λ (r : RebuildHeld). r.up) e ∙ drop_all n rb.up (omega (arith, all));
        got_none = got_none rb sv before l;
      }

  pub too_much_heard : (rb : RebuildHeld) (sv : SessionHeld) (before : List (List ℕ)) (bytes : List ℕ) (r : Reason) → list_all is_small_entry es ≡ true → length es < INPUT_BYTES → IsLink rb sv es k before → bytes ≡ rb.up
      → ((s : Story) → SessionStands sv s → s.stance.reason ≡ None → Shows (s.bytes ++ bytes) r) → hear_fault es (Some k) ≡ Some TooMuch
  too_much_heard rb sv before bytes r texts few l b shows =
      let s : Story = story_of es l.looked k in
      let w = all_wire texts few l.connection in
      let shown : Shows (frames (heard_before es k) ++ frames (unheard es k)) r = subst (λ (x : List ℕ). Shows (frames (heard_before es k) ++ x) r) (b ∙ l.up) (shows s l.session_stands refl) in
      elim (cases_lt (length (frames (sent es k))) INPUT_BYTES) [
        | inl short ↦ absurd (no-reason es k r w short shown)
        | inr long ↦ elim (cases_lt 0 k.up) [
          | inl some ↦
              ap (λ a. too_much_if (a && nat_le INPUT_BYTES (length (frames (sent es k))))) (lt-ltb 0 k.up some)
              ∙ ap too_much_if (le-leb INPUT_BYTES (length (frames (sent es k))) long)
          | inr none ↦
              let up : k.up ≡ 0 = omega (arith, none) in
              let all : length (frames (sent es k)) ≡ length (frames (heard_before es k)) =
              sym (ap length (bytes-both es k)) ∙ ap (λ (ms : List Msg). length (frames (heard_before es k) ++ frames ms)) (none_unheard up) ∙ ap length (append-nil (frames (heard_before es k))) in
              absurd (omega (arith, long, all, short_heard rb sv before l))
        ]
      ]

  -- Whether the client joins

  greeted_waits : (b : Bool) → is_greeted_phase (phase_of b) ≡ false
  greeted_waits true = refl
  greeted_waits false = refl

  greeted_hears : (b : Bool) → is_greeted_phase (greeted_by (phase_of b)) ≡ not b
  greeted_hears true = refl
  greeted_hears false = refl

  greeted_is : (now looked : ℕ) (more : List Msg) → length more ≡ k.up → is_greeted_phase (heard_by now more (stance_of looked k)).phase ≡ is_joining k
  greeted_is now looked [] e = greeted_waits k.has_joined ∙ sym (ap (λ b. b && not k.has_joined) (le-ltb 0 k.up (omega (arith, e))))
  greeted_is now looked (m ∷ ms) e = greeted_hears k.has_joined ∙ sym (ap (λ b. b && not k.has_joined) (lt-ltb 0 k.up (omega (arith, e))))

  good_heard : length (frames (sent es k)) < INPUT_BYTES → hear_fault es (Some k) ≡ None
  good_heard short = ap (λ b. too_much_if (is_heard k && b)) (lt-leb INPUT_BYTES (length (frames (sent es k))) short) ∙ never (is_heard k)
    where
      never : (b : Bool) → too_much_if (b && false) ≡ None
      never true = refl
      never false = refl

  -- nothing is on its way up any more
  settled : (rb : RebuildHeld) (sv : SessionHeld) (before : List (List ℕ)) (now count looked : ℕ) → AllIsHeard rb sv es now k before count → SessionStands sv (story_of es looked (heard_at now k)) → IsLinked rb sv es (heard_at now k)
  settled rb sv before now count looked x st = (
    before,
    record {
      connection = record { marks = x.connection.marks; offered = x.connection.offered; got = x.connection.got; got_short = x.connection.got_short; up = omega arith };
      looked = looked;
      session_stands = st;
      client_stands = x.client_stands;
      no_fault = x.no_fault;
      up = x.up ∙ ap frames (sym (drop_all (length (sent es k) - 0) (sent es k) (omega arith)));
    },
  )

  quiet-story : (now looked : ℕ) → unheard es k ≡ [] → heard_more now (frames (unheard es k)) (unheard es k) (story_of es looked k) ≡ story_of es now k
  quiet-story now looked e =
      ap (λ (ms : List Msg). heard_more now (frames ms) ms (story_of es looked k)) e
      ∙ (λ i. record {
        stance = stance_of now k;
        entries = take k.offered es;
        marks = k.marks;
        removed = k.got;
        bytes = append-nil (frames (heard_before es k)) i;
        messages = append-nil (heard_before es k) i;
      })

  told_heard : (c count newest : ℕ) (ts : List Told) → count ≡ k.up → is_joining k ≡ false → ts ≡ ToldHeard c count ∷ [] → ts ≡ told_hear newest c (Some k)
  told_heard c count newest ts e j t = t ∙ ap (λ n. ToldHeard c n ∷ []) e ∙ ap (λ b. ToldHeard c k.up ∷ (if b then ToldJoined c newest ∷ [] else [])) (sym j)

  not_joining : 0 < k.up → is_joining k ≡ false → k.has_joined ≡ true
  not_joining h j = yes k.has_joined (sym (ap (λ b. b && not k.has_joined) (lt-ltb 0 k.up h)) ∙ j)
    where
      yes : (b : Bool) → (true && not b) ≡ false → b ≡ true
      yes true e = refl
      yes false e = absurd (true≢false e)

  pub hears_only : (rb : RebuildHeld) (sv : SessionHeld) (before : List (List ℕ)) (now c count : ℕ) (ts : List Told) → AllIsHeard rb sv es now k before count → is_greeted_phase sv.stance.phase ≡ false → ts ≡ ToldHeard c count ∷ []
      → LinkHears rb sv es k now c ts
  hears_only rb sv before now c count ts x g t =
      let u : length (unheard es k) ≡ k.up = unheard_len x.connection.up in
      let j : is_joining k ≡ false =
      sym (greeted_is now x.looked (unheard es k) u) ∙ sym (ap (λ (y : Stance). is_greeted_phase y.phase) x.session_stands.stance) ∙ g in
      elim (cases_lt 0 k.up) [
        | inl some ↦
            let hj : k.has_joined ≡ true = not_joining some j in
            let is : hear_link (length es) now k ≡ heard_at now k =
            ap (λ b. if not b then k else (if k.has_joined then heard_at now k else joined_link (length es) now (heard_at now k))) (lt-ltb 0 k.up some)
            ∙ ap (λ b. if b then heard_at now k else joined_link (length es) now (heard_at now k)) hj in
            let st : SessionStands sv (story_of es now (heard_at now k)) = subst (SessionStands sv) (sym (heard-story es k x.looked now hj (omega (arith, u, some)))) x.session_stands in
            record {
              link = subst (IsLinked rb sv es) (sym is) (settled rb sv before now count now x st);
              no_fault = good_heard x.short;
              told_is = told_heard c count (length es) ts x.count_is j t;
            }
        | inr none ↦
            let up : k.up ≡ 0 = omega (arith, none) in
            let nothing : unheard es k ≡ [] = none_unheard up in
            let is : hear_link (length es) now k ≡ k = ap (λ b. if not b then k else (if k.has_joined then heard_at now k else joined_link (length es) now (heard_at now k))) (le-ltb 0 k.up none) in
            record {
              link = subst (IsLinked rb sv es) (sym is) (
                before,
                record {
                  connection = x.connection;
                  looked = now;
                  session_stands = subst (SessionStands sv) (quiet-story now x.looked nothing) x.session_stands;
                  client_stands = x.client_stands;
                  no_fault = x.no_fault;
                  up = x.up ∙ ap frames (sym nothing);
                },
              );
              no_fault = good_heard x.short;
              told_is = told_heard c count (length es) ts x.count_is j t;
            }
      ]

  is_joining_parts : is_joining k ≡ true → (0 < k.up) × (k.has_joined ≡ false)
  is_joining_parts j = elim (cases_lt 0 k.up) [
    | inl some ↦ (some, no k.has_joined (sym (ap (λ b. b && not k.has_joined) (lt-ltb 0 k.up some)) ∙ j))
    | inr none ↦ absurd (true≢false (sym j ∙ ap (λ b. b && not k.has_joined) (le-ltb 0 k.up none)))
  ]
    where
      no : (b : Bool) → (true && not b) ≡ true → b ≡ false
      no true e = absurd (true≢false (sym e))
      no false e = refl

  pub joins_heard : (rb : RebuildHeld) (sv sv' : SessionHeld) (before : List (List ℕ)) (now c count newest : ℕ) (ts : List Told) → (x : AllIsHeard rb sv es now k before count) → is_greeted_phase sv.stance.phase ≡ true
      → SessionStands sv' (joined_at now es (heard_more now (frames (unheard es k)) (unheard es k) (story_of es x.looked k))) → newest ≡ length es → ts ≡ ToldHeard c count ∷ ToldJoined c newest ∷ []
      → LinkHears rb sv' es k now c ts
  joins_heard rb sv sv' before now c count newest ts x g st at t =
      let u : length (unheard es k) ≡ k.up = unheard_len x.connection.up in
      let j : is_joining k ≡ true =
      sym (greeted_is now x.looked (unheard es k) u) ∙ sym (ap (λ (y : Stance). is_greeted_phase y.phase) x.session_stands.stance) ∙ g in
      let parts = is_joining_parts j in
      let zero_got : k.got ≡ 0 = x.got_none parts.1 in
      let k' : Connection = joined_link (length es) now (heard_at now k) in
      let is : hear_link (length es) now k ≡ k' =
      ap (λ b. if not b then k else (if k.has_joined then heard_at now k else k')) (lt-ltb 0 k.up parts.0)
      ∙ ap (λ b. if b then heard_at now k else k') parts.1 in
      let none : (q : Connection) → q.got ≡ 0 → delivered es q ≡ [] = λ q e. ap (λ n. whole_in n (told es q)) e ∙ whole-zero (told es q) in
      let stands : RebuildStands rb before [] [] =
      subst (λ (ms : List Msg). RebuildStands rb before [] ms) (none k zero_got) (subst (λ n. RebuildStands rb before (take n (down es k)) (delivered es k)) zero_got x.client_stands) in
      record {
        link = subst (IsLinked rb sv' es) (sym is) (
          before,
          record {
            connection = record { marks = omega arith; offered = omega arith; got = omega (arith, zero_got); got_short = omega (arith, zero_got); up = omega arith };
            looked = now;
            session_stands = subst (SessionStands sv') (sym (joined-story es k x.looked now zero_got (omega (arith, u, parts.0)))) st;
            client_stands = subst (λ n. RebuildStands rb before (take n (down es k')) (delivered es k')) (sym zero_got) (subst (λ (ms : List Msg). RebuildStands rb before [] ms) (sym (none k' zero_got)) stands);
            no_fault = x.no_fault;
            up = x.up ∙ ap frames (sym (drop_all (length (sent es k') - 0) (sent es k') (omega arith)));
          },
        );
        no_fault = good_heard x.short;
        told_is = t
            ∙ ap (λ n. ToldHeard c n ∷ ToldJoined c newest ∷ []) x.count_is
            ∙ ap (λ n. ToldHeard c k.up ∷ ToldJoined c n ∷ []) at
            ∙ ap (λ b. ToldHeard c k.up ∷ (if b then ToldJoined c (length es) ∷ [] else [])) (sym j);
      }

  greeted_phase : (p : Phase) → is_greeted_phase p ≡ true → p ≡ Greeted
  greeted_phase Waiting e = absurd (true≢false (sym e))
  greeted_phase Greeted e = refl
  greeted_phase Joined e = absurd (true≢false (sym e))
  greeted_phase Over e = absurd (true≢false (sym e))

  pub heard_phase : (rb : RebuildHeld) (sv : SessionHeld) (before : List (List ℕ)) (now count : ℕ) (x : AllIsHeard rb sv es now k before count) → is_greeted_phase sv.stance.phase ≡ true → (heard_by now (unheard es k) (stance_of x.looked k)).phase ≡ Greeted
  heard_phase rb sv before now count x g = greeted_phase (heard_by now (unheard es k) (stance_of x.looked k)).phase (sym (ap (λ (y : Stance). is_greeted_phase y.phase) x.session_stands.stance) ∙ g)

-- One client

pub hears_absent : (slot : Slot) (es : List Entry) (k : Client) (c now newest : ℕ) (ts : List Told) → slot.session ≡ None → ts ≡ Absent c ∷ [] → SlotStands slot es k
    → SlotMoves slot es (record k { link = option_map (hear_link newest now) k.link }) ts (told_hear newest c k.link)
hears_absent slot es k c now newest ts e t st =
    let L : Option SessionHeld → Type 0 = λ s. LinkStands slot.rebuild s es k.link in
    let l = no_link slot.rebuild es k.link (subst L e st.link) in
    record {
      stands = record {
        link = subst (LinkStands slot.rebuild slot.session es) (l.0 ∙ sym (ap (option_map (hear_link newest now)) l.0)) st.link;
        held = st.held;
        within = st.within;
      };
      told_is = t ∙ sym (ap (told_hear newest c) l.0);
    }

pub hears_some : (slot : Slot) (sv sv' : SessionHeld) (rb' : RebuildHeld) (es : List Entry) (k : Client) (c now : ℕ) (ts : List Told) → slot.session ≡ Some sv → rb'.held ≡ slot.rebuild.held
    → ((x : Connection) → IsLinked slot.rebuild sv es x → LinkHears rb' sv' es x now c ts) → SlotStands slot es k
    → SlotMoves (record { rebuild = rb'; session = Some sv' }) es (record k { link = option_map (hear_link (length es) now) k.link }) ts (told_hear (length es) c k.link)
hears_some slot sv sv' rb' es k c now ts e h hears st =
    let L : Option SessionHeld → Type 0 = λ s. LinkStands slot.rebuild s es k.link in
    let l = some_link slot.rebuild sv es k.link (subst L e st.link) in
    let g : LinkHears rb' sv' es l.0 now c ts = hears l.0 l.2 in
    record {
      stands = record {
        link = subst (LinkStands rb' (Some sv') es) (sym (ap (option_map (hear_link (length es) now)) l.1)) g.link;
        held = h ∙ st.held;
        within = st.within;
      };
      told_is = g.told_is ∙ sym (ap (told_hear (length es) c) l.1);
    }

pub good_absent : (slot : Slot) (es : List Entry) (k : Client) → slot.session ≡ None → SlotStands slot es k → hear_fault es k.link ≡ None
good_absent slot es k e st =
    let L : Option SessionHeld → Type 0 = λ s. LinkStands slot.rebuild s es k.link in
    ap (hear_fault es) (no_link slot.rebuild es k.link (subst L e st.link)).0

pub good_some : (slot : Slot) (sv sv' : SessionHeld) (rb' : RebuildHeld) (es : List Entry) (k : Client) (c now : ℕ) (ts : List Told) → slot.session ≡ Some sv
    → ((x : Connection) → IsLinked slot.rebuild sv es x → LinkHears rb' sv' es x now c ts) → SlotStands slot es k → hear_fault es k.link ≡ None
good_some slot sv sv' rb' es k c now ts e hears st =
    let L : Option SessionHeld → Type 0 = λ s. LinkStands slot.rebuild s es k.link in
    let l = some_link slot.rebuild sv es k.link (subst L e st.link) in
    ap (hear_fault es) l.1 ∙ (hears l.0 l.2).no_fault

pub too_much_some : (slot : Slot) (sv : SessionHeld) (es : List Entry) (k : Client) (f : IntakeFault) → slot.session ≡ Some sv → ((x : Connection) → IsLinked slot.rebuild sv es x → hear_fault es (Some x) ≡ Some f) → SlotStands slot es k
    → hear_fault es k.link ≡ Some f
too_much_some slot sv es k f e faults st =
    let L : Option SessionHeld → Type 0 = λ s. LinkStands slot.rebuild s es k.link in
    let l = some_link slot.rebuild sv es k.link (subst L e st.link) in
    ap (hear_fault es) l.1 ∙ faults l.0 l.2
