-- Where nothing is wrong with the input and no device fails, only want of memory stands in the way.
use Rattle.std.proofs.Common.{◌≡◌, ◌⊎◌, inl, inr, ℕ, Bool, true, false, true≢false, cond, List, [], ◌++◌, append_assoc, length, refl, sym, ap, subst, ◌∙◌, arith}
use Rattle.std.specs.Prelude.{Option, None, Some, is_some}
use Rattle.ty_base.specs.Devices.{Seen}
use Rattle.ty_base.specs.Causes.{Rose}
use Rattle.ty_intake.specs.Lines.{Feed as FeedSoFar, fed_with, ended_now}
use Rattle.ty_intake.specs.Faults.{feed_fault}
use Rattle.ty_intake.specs.declared.intake.IntakeFault.{IntakeFault}
use Rattle.ty_intake.proofs.KeptFaults.{fed-stays, end-stays}
use Rattle.ty_wire.specs.Stream.{Reads}
use Rattle.ty_wire.specs.declared.message.Msg.{Msg}
use Rattle.ty_wire.proofs.Stream.{one_reads}
use Rattle.ty_client.specs.Heard.{Hears}
use Rattle.ty_client.specs.declared.fault.StreamFault.{StreamFault}
use Rattle.ty_client.proofs.Once.{once}
use Rattle.ty_core.specs.Script.{script_fault}
use Rattle.ty_core.specs.Simulated.{Taken, Faulty}
use Rattle.ty_core.specs.declared.simulation.SimFault.{SimFault}
use Rattle.ty_core.specs.declared.simulation.SimFault.TheVariants as sim
use Rattle.ty_core.proofs.ScriptKept.{script_fault_stays}
use Rattle.ty_top.specs.Endings.{Streams, Follows, Sims, SimStops, Loads, Came, IsGood, whole_feed, exit_status, stream_status, follow_status, sim_status, script_status, load_status}
use Rattle.ty_words.specs.declared.words.Command.{Command}
use Rattle.ty_words.specs.declared.words.Command.TheVariants as commands
use Rattle.ty_top.specs.declared.ending.Ending.{Ending}
use Rattle.ty_top.specs.declared.ending.Ending.TheVariants.{Usage, Memory, Stream, Follow, Sim, Load}
use Rattle.ty_top.specs.declared.ending.StreamEnd.{StreamEnd}
use Rattle.ty_top.specs.declared.ending.StreamEnd.TheVariants as stream_end
use Rattle.ty_top.specs.declared.ending.FollowEnd.{FollowEnd}
use Rattle.ty_top.specs.declared.ending.FollowEnd.TheVariants as follow_end
use Rattle.ty_top.specs.declared.ending.SimEnd.{SimEnd}
use Rattle.ty_top.specs.declared.ending.SimEnd.TheVariants as sim_end
use Rattle.ty_top.specs.declared.ending.LoadEnd.{LoadEnd}
use Rattle.ty_top.specs.declared.ending.LoadEnd.TheVariants as load_end
use Rattle.ty_top.specs.declared.ending.Local.{Local}
use Rattle.ty_top.specs.declared.ending.Local.TheVariants as local
use Rattle.ty_top.proofs.FollowedStreams.{front_taken, all_taken}
use Rattle.ty_top.proofs.BothEnds.{all_read}
use Rattle.ty_top.proofs.Statuses.{at_one, at_three, at_four}

pub not_none : {X : Type 0} (x : X) → Some x ≡ None → ⊥
not_none x h = true≢false (ap is_some h)

-- a fault that the front of a connection's bytes shows is one of them all
pub fault_shows : (front more : List ℕ) (ms ns : List Msg) (f : StreamFault) → Hears front ms (Some f) → Hears (front ++ more) ns None → ⊥
fault_shows front more ms ns f h g =
    let longer : Hears (front ++ more) ms (Some f) = record {
      front = h.front;
      rest = h.rest ++ more;
      whole = ap (λ (l : List ℕ). l ++ more) h.whole ∙ append_assoc h.front h.rest more;
      stops = λ n. absurd (not_none f n);
      all = h.all;
      wire = h.wire;
      brings = h.brings;
      good = h.good;
      first = h.first;
    } in
    not_none f (once (front ++ more) ms ns (Some f) None longer g).1

-- ---- `stream`

-- a fault that a feed has shown is that of all of it
still_faulty : (read : FeedSoFar) (more bytes : List ℕ) (f : IntakeFault) → read.ended ≡ false → read.bytes ++ more ≡ bytes → feed_fault read ≡ Some f → feed_fault (whole_feed bytes) ≡ Some f
still_faulty read more bytes f going e h =
    let fed : fed_with read more ≡ record { bytes = read.bytes ++ more; ended = false } =
    ap (λ (b : Bool). cond b read (record read { bytes = read.bytes ++ more })) going ∙ ap (λ (b : Bool). record { bytes = read.bytes ++ more; ended = b }) going in
    let whole : ended_now (fed_with read more) ≡ whole_feed bytes = ap (λ (x : FeedSoFar). ended_now x) fed ∙ ap whole_feed e in
    let P : FeedSoFar → Type 0 = λ x. feed_fault x ≡ Some f in
    subst P whole (end-stays (fed_with read more) f (fed-stays read more f h).0).0

pub fault_shown : (old new : Seen) (read : FeedSoFar) (bytes : List ℕ) (f : IntakeFault) → Taken old new read → old.source.left ≡ Some bytes → feed_fault read ≡ Some f → feed_fault (whole_feed bytes) ≡ Some f
fault_shown old new read bytes f t e h =
    elim (read.ended) as (λ b. read.ended ≡ b → feed_fault (whole_feed bytes) ≡ Some f) [
      | true ↦ λ ended.
          let P : FeedSoFar → Type 0 = λ x. feed_fault x ≡ Some f in
          subst P (all_read old new read bytes t ended e) h
      | false ↦ λ going.
          let r = front_taken old.source.left new.source.left bytes read.bytes e t.bytes in
          still_faulty read r.0 bytes f going r.1 h
    ] refl

script_shown : (old new : Seen) (bytes : List ℕ) (f : SimFault) → old.source.left ≡ Some bytes → Faulty f old new → script_fault (whole_feed bytes) ≡ Some f
script_shown old new bytes f e h =
    let t : Taken old new h.read = h.taken in
    elim (h.read.ended) as (λ b. h.read.ended ≡ b → script_fault (whole_feed bytes) ≡ Some f) [
      | true ↦ λ ended.
          let P : FeedSoFar → Type 0 = λ x. script_fault x ≡ Some f in
          subst P (all_read old new h.read bytes t ended e) h.found
      | false ↦ λ going.
          let r = front_taken old.source.left new.source.left bytes h.read.bytes e t.bytes in
          script_fault_stays h.read r.0 bytes f going r.1 h.found
    ] refl

module _ (old new : Seen) (bytes : List ℕ) (known : old.source.left ≡ Some bytes) (read_well : Rose old.source.faults new.source.faults → ⊥) (written_well : Rose old.sink.faults new.sink.faults → ⊥) where
  stream_completes : (j : ℕ) (end : StreamEnd) → Streams j end old new → feed_fault (whole_feed bytes) ≡ None → (stream_status end ≡ 0) ⊎ (stream_status end ≡ 5)
  stream_completes j stream_end.Done s good = inl refl
  stream_completes j (stream_end.Fault f) s good = absurd (not_none f (sym (fault_shown old new s.0 bytes f s.1 known s.2) ∙ good))
  stream_completes j stream_end.Read s good = absurd (read_well s.4)
  stream_completes j stream_end.Write s good = absurd (written_well s.2)
  stream_completes j stream_end.Memory s good = inr refl

  -- ---- `follow`

  follow_completes : (brief : Bool) (end : FollowEnd) → Follows brief end old new → (ns : List Msg) → Hears bytes ns None → Reads bytes ns [] → (follow_status end ≡ 0) ⊎ (follow_status end ≡ 5)
  follow_completes brief follow_end.Done s ns g w = inl refl
  follow_completes brief (follow_end.Fault f) s ns g w =
      let r = front_taken old.source.left new.source.left bytes s.bytes known s.taken in
      absurd (fault_shows s.bytes r.0 s.ms ns f s.hears (subst (λ (l : List ℕ). Hears l ns None) (sym r.1) g))
  follow_completes brief (follow_end.Cut left) (rest, x, some, len) ns g w =
      let same : x.followed.bytes ≡ bytes = all_taken old.source.left new.source.left bytes x.followed.bytes known x.followed.taken x.ended in
      let reads : Reads bytes x.followed.ms rest = subst (λ (b : List ℕ). Reads b x.followed.ms rest) same x.reads in
      let none : rest ≡ [] = (one_reads bytes x.followed.ms ns rest [] reads w).1 in
      absurd (omega (arith, some, len, ap length none))
  follow_completes brief follow_end.Read s ns g w = absurd (read_well s.1)
  follow_completes brief follow_end.Write s ns g w = absurd (written_well s.1)
  follow_completes brief follow_end.Memory s ns g w = inr refl

  -- ---- `sim`

  faultless : (f : SimFault) → Faulty f old new → script_fault (whole_feed bytes) ≡ None → ⊥
  faultless f s good = not_none f (sym (script_shown old new bytes f known s) ∙ good)

  script_completes : (f : SimFault) → SimStops f old new → script_fault (whole_feed bytes) ≡ None → (script_status f ≡ 0) ⊎ (script_status f ≡ 5)
  script_completes sim.Read s good = absurd (read_well s.4)
  script_completes sim.Write s good = absurd (written_well s.2)
  script_completes sim.NoMemory s good = inr refl
  script_completes (sim.Event n) s good = absurd (faultless (sim.Event n) s good)
  script_completes (sim.Feed n f) s good = absurd (faultless (sim.Feed n f) s good)
  script_completes (sim.LongLine n) s good = absurd (faultless (sim.LongLine n) s good)
  script_completes sim.TooMuch s good = absurd (faultless sim.TooMuch s good)

  sim_completes : (end : SimEnd) → Sims end old new → script_fault (whole_feed bytes) ≡ None → (sim_status end ≡ 0) ⊎ (sim_status end ≡ 5)
  sim_completes sim_end.Done s good = inl refl
  sim_completes (sim_end.Stopped f) s good = script_completes f s good

  -- ---- `load`

  load_completes : (n : ℕ) (end : LoadEnd) → Loads n end old new → (load_status end ≡ 0) ⊎ (load_status end ≡ 5)
  load_completes n load_end.Done s = inl refl
  load_completes n load_end.Write s = absurd (written_well s.1)
  load_completes n load_end.Memory s = inr refl

  -- ---- any

  pub completes : (asked : Option Command) (command : Command) (ending : Ending) → Came asked ending old new → asked ≡ Some command → IsGood command bytes → (exit_status ending ≡ 0) ⊎ (exit_status ending ≡ 5)
  completes asked command Usage s e good = absurd (not_none command (sym e ∙ s.0))
  completes asked command Memory s e good = inr refl
  completes asked command (Stream end) s e good =
      let same : command ≡ commands.Stream s.0 = cc (e, s.1) in
      stream_completes s.0 end s.2 (subst (λ (x : Command). IsGood x bytes) same good)
  completes asked command (Follow end) s e good =
      let same : command ≡ commands.Follow s.0 = cc (e, s.1) in
      let all = subst (λ (x : Command). IsGood x bytes) same good in
      follow_completes s.0 end s.2 all.0 all.1 all.2
  completes asked command (Sim end) s e good =
      let same : command ≡ commands.Sim = cc (e, s.0) in
      sim_completes end s.1 (subst (λ (x : Command). IsGood x bytes) same good)
  completes asked command (Load end) s e good = load_completes s.0 end s.2

-- ---- by the answer

abbrev pub status_in : Local → ℕ
status_in (local.Done r) = r
status_in (local.Serve words) = 0
status_in (local.Follow words) = 0

either_done : (r k : ℕ) → r ≡ k → (k ≡ 0) ⊎ (k ≡ 5) → (local.Done r ≡ local.Done 0) ⊎ (local.Done r ≡ local.Done 5)
either_done r k e (inl z) = inl (ap (λ (n : ℕ). local.Done n) (e ∙ z))
either_done r k e (inr z) = inr (ap (λ (n : ℕ). local.Done n) (e ∙ z))

pub done_whole : (r : ℕ) (old new : Seen) (asked : Option Command) (command : Command) (ending : Ending) (bytes : List ℕ) → r ≡ exit_status ending → Came asked ending old new → asked ≡ Some command → old.source.left ≡ Some bytes
    → IsGood command bytes → (Rose old.source.faults new.source.faults → ⊥) → (Rose old.sink.faults new.sink.faults → ⊥) → (local.Done r ≡ local.Done 0) ⊎ (local.Done r ≡ local.Done 5)
done_whole r old new asked command ending bytes s c e known good read_well written_well =
    either_done r (exit_status ending) s (completes old new bytes known read_well written_well asked command ending c e good)

pub refused : (r : ℕ) (old new : Seen) (asked : Option Command) (ending : Ending) → r ≡ exit_status ending → Came asked ending old new → local.Done r ≡ local.Done 1 → asked ≡ None
refused r old new asked ending s c e =
    let P : Ending → Type 0 = λ x. Came asked x old new in
    (subst P (at_one ending (sym s ∙ ap status_in e)) c).0

pub refuses : (r : ℕ) (old new : Seen) (asked : Option Command) (ending : Ending) → r ≡ exit_status ending → Came asked ending old new → asked ≡ None → (local.Done r ≡ local.Done 1) ⊎ (local.Done r ≡ local.Done 5)
refuses r old new asked Usage s c e = inl (ap (λ (n : ℕ). local.Done n) s)
refuses r old new asked Memory s c e = inr (ap (λ (n : ℕ). local.Done n) s)
refuses r old new asked (Stream end) s c e = absurd (not_none (commands.Stream c.0) (sym c.1 ∙ e))
refuses r old new asked (Follow end) s c e = absurd (not_none (commands.Follow c.0) (sym c.1 ∙ e))
refuses r old new asked (Sim end) s c e = absurd (not_none commands.Sim (sym c.0 ∙ e))
refuses r old new asked (Load end) s c e = absurd (not_none (commands.Load c.0) (sym c.1 ∙ e))

pub read_failed : (r : ℕ) (old new : Seen) (asked : Option Command) (ending : Ending) → r ≡ exit_status ending → Came asked ending old new → local.Done r ≡ local.Done 3 → Rose old.source.faults new.source.faults
read_failed r old new asked ending s c e =
    let P : Ending → Type 0 = λ x. Came asked x old new in
    elim (at_three ending (sym s ∙ ap status_in e)) [
      | inl h ↦ (subst P h c).2.4
      | inr (inl h) ↦ (subst P h c).2.1
      | inr (inr h) ↦ (subst P h c).1.4
    ]

pub write_failed : (r : ℕ) (old new : Seen) (asked : Option Command) (ending : Ending) → r ≡ exit_status ending → Came asked ending old new → local.Done r ≡ local.Done 4 → Rose old.sink.faults new.sink.faults
write_failed r old new asked ending s c e =
    let P : Ending → Type 0 = λ x. Came asked x old new in
    elim (at_four ending (sym s ∙ ap status_in e)) [
      | inl h ↦ (subst P h c).2.2
      | inr (inl h) ↦ (subst P h c).2.1
      | inr (inr (inl h)) ↦ (subst P h c).1.2
      | inr (inr (inr h)) ↦ (subst P h c).2.1
    ]
