-- The clauses of the top call, by what it comes to.
use Rattle.std.proofs.Common.{◌≡◌, ◌⊎◌, inl, inr, ◌∙◌, refl, sym, ap, subst, ℕ, Bool, true, false, true≢false, List, [], ◌∷◌, ◌+◌, ◌≤◌, length, if◌then◌else◌, nat_lt}
use Rattle.std.specs.Prelude.{Option, None, Some, Ok, Err}
use Rattle.ty_base.specs.Causes.{Rose}
use Rattle.ty_base.specs.declared.limits.TheConstants.{HOST_BYTES}
use Rattle.ty_base.specs.Devices.{Input, Output, Seen, seen}
use Rattle.ty_base.specs.Doors.{DoorSight}
use Rattle.ty_base.specs.Links.{Sight}
use Rattle.ty_account.specs.Known.{Known}
use Rattle.ty_feed.specs.Publishing.{IfReadFailed}
use Rattle.ty_feed.specs.declared.ending.FeedEnd.{FeedEnd}
use Rattle.ty_feed.specs.declared.ending.FeedEnd.TheVariants as feed
use Rattle.ty_server.specs.WholeServer.{AreManned, Run, first_failed}
use Rattle.ty_intake.specs.Faults.{feed_fault}
use Rattle.ty_dial.specs.Dialled.{Answer, Dials}
use Rattle.ty_dial.specs.declared.fault.DialFault.TheVariants as fault
use Rattle.ty_words.specs.declared.words.Command.{Command}
use Rattle.ty_words.specs.declared.words.Command.TheVariants as commands
use Rattle.ty_words.specs.declared.words.ServeWords.{ServeWords}
use Rattle.ty_words.specs.declared.words.FollowWords.{FollowWords}
use Rattle.ty_words.specs.Fitting.{Fits}
use Rattle.ty_top.specs.Dialling.{FollowsAt, dial_end}
use Rattle.ty_top.specs.Endings.{Came, IsGood, exit_status, whole_feed}
use Rattle.ty_top.specs.GoodLinks.{AreGoodLinks}
use Rattle.ty_top.specs.Headline.{TellsWorlds}
use Rattle.ty_top.specs.Program.{Around, IsRun, SomeRose, local, served, followed}
use Rattle.ty_top.specs.Outcomes.{CameTo, IsLocalOf}
use Rattle.ty_top.specs.LinkEndings.{dial_note, dial_status, serve_note, serve_status}
use Rattle.ty_top.specs.Notes.{IsNoted}
use Rattle.ty_top.specs.Serving.{Serves, feed_end}
use Rattle.ty_top.specs.declared.ending.Ending.{Ending}
use Rattle.ty_top.specs.declared.ending.Ending.TheVariants.{Usage, Memory, Stream, Follow as FollowAll, Sim, Load}
use Rattle.ty_top.specs.declared.ending.Local.{Local}
use Rattle.ty_top.specs.declared.ending.Outcome.{Outcome}
use Rattle.ty_top.specs.declared.ending.Outcome.TheVariants.{Ended, Serve, Follow}
use Rattle.ty_top.specs.declared.ending.Local.TheVariants as answer
use Rattle.ty_top.specs.declared.link_ending.ServeEnd.{ServeEnd}
use Rattle.ty_top.specs.declared.link_ending.ServeEnd.TheVariants as serve
use Rattle.ty_top.specs.declared.link_ending.DialEnd.{DialEnd}
use Rattle.ty_top.specs.declared.link_ending.DialEnd.TheVariants as dial
use Rattle.ty_top.proofs.Complete.{done_whole, not_none, read_failed, refused, refuses, status_in, write_failed}
use Rattle.ty_top.proofs.CompleteLinks.{dialled_whole, served_fault}
use Rattle.ty_top.proofs.Headline.{tells_worlds}
use Rattle.ty_top.proofs.Outcomes.{followed_not_done, served_not_done}
use Rattle.ty_top.proofs.LinkStatuses.{dial_1, dial_3, dial_4, dial_7, serve_1, serve_3, serve_4, serve_7}
use Rattle.ty_top.proofs.Statuses.{at_seven}

abbrev is_link : Option Command → Bool
is_link (Some (commands.Serve w)) = false
is_link (Some (commands.FollowAt w)) = false
is_link _ = true

abbrev is_served : Option Command → Bool
is_served (Some (commands.Serve w)) = true
is_served _ = false

abbrev is_serving : Local → Bool
is_serving (answer.Serve w) = true
is_serving _ = false

-- the words that are handed on to the following of a server, or others
abbrev words_or : FollowWords → Local → FollowWords
words_or other (answer.Follow w) = w
words_or other _ = other

followed_same : (w v : FollowWords) → answer.Follow w ≡ answer.Follow v → w ≡ v
followed_same w v e = ap (λ (r : Local). words_or w r) e

-- a follower's host is within the limit of a hello
pub host_fits : (x : Outcome) (r : Local) (w : FollowWords) (command : Option Command) (old new : Seen) (a b : Output) → CameTo command x old new → IsLocalOf x r a b
    → r ≡ answer.Follow w → Fits command → length w.host ≤ HOST_BYTES
host_fits (Follow v) r w command old new a b c t is fits =
    subst (λ (x : FollowWords). length x.host ≤ HOST_BYTES) (followed_same v w (sym t.0 ∙ is)) (subst (λ (x : Option Command). Fits x) c.0 fits)
host_fits (Ended e) r w command old new a b c t is fits = absurd (followed_not_done w (exit_status e) (sym is ∙ t.0))
host_fits (Serve v) r w command old new a b c t is fits = absurd (true≢false (ap is_serving (sym t.0 ∙ is)))

-- ---- what an ending of `serve` says of what serving came to

abbrev is_read : ServeEnd → Bool
is_read serve.Read = true
is_read _ = false

abbrev is_door : ServeEnd → Bool
is_door serve.Door = true
is_door _ = false

feed_read : (f : FeedEnd) (door : Option ℕ) → serve.Read ≡ feed_end f door → f ≡ feed.Read
feed_read feed.Read door e = refl
feed_read feed.Done None e = absurd (true≢false (ap is_read e))
feed_read feed.Done (Some n) e = absurd (true≢false (ap is_read e))
feed_read (feed.Fault f) door e = absurd (true≢false (ap is_read e))
feed_read feed.NoMemory door e = absurd (true≢false (ap is_read e))

door_failed : (f : FeedEnd) (door : Option ℕ) → serve.Door ≡ feed_end f door → (n : ℕ) × (door ≡ Some n)
door_failed feed.Done (Some n) e = (n, refl)
door_failed feed.Done None e = absurd (true≢false (ap is_door e))
door_failed feed.Read door e = absurd (true≢false (ap is_door e))
door_failed (feed.Fault f) door e = absurd (true≢false (ap is_door e))
door_failed feed.NoMemory door e = absurd (true≢false (ap is_door e))

abbrev is_write : DialEnd → Bool
is_write dial.Write = true
is_write _ = false

abbrev is_dialler : DialEnd → Bool
is_dialler dial.Door = true
is_dialler _ = false

-- an ending other than want of memory is that of the feed and the doors
of_feed : (e : ServeEnd) (short : Bool) (other : ServeEnd) (is : ServeEnd → Bool) → is e ≡ true → is serve.Memory ≡ false
    → e ≡ (if short then serve.Memory else other) → e ≡ other
of_feed e true other is holds fails h = absurd (true≢false (sym holds ∙ ap is h ∙ fails))
of_feed e false other is holds fails h = h

module _ {D L : Type 0} (gave got count : D → ℕ) (sight : D → Option (DoorSight L)) (link : L → Option Sight) (faults : L → ℕ) (gives : ℕ → Type 0) where
  -- ---- the first door that failed is one whose count rose

  some_rose : (known : Known) (before place : ℕ) (runs : List Run) (xs ys : List D) → AreManned gave got count sight link faults gives known runs xs ys
      → first_failed before runs ≡ Some place → SomeRose count xs ys
  some_rose known before place [] xs ys m e = absurd (not_none place (sym e))
  some_rose known before place (r ∷ rs) [] ys m e = absurd m
  some_rose known before place (r ∷ rs) (x ∷ xs) [] m e = absurd m
  some_rose known before place (r ∷ rs) (x ∷ xs) (y ∷ ys) m e =
      elim (r.failed) as (λ b. r.failed ≡ b → (if b then Some before else first_failed (before + 1) rs) ≡ Some place → SomeRose count (x ∷ xs) (y ∷ ys)) [
        | true ↦ λ failed h. inl (m.0.cause failed)
        | false ↦ λ kept h. inr (some_rose known (before + 1) place rs xs ys m.1 h)
      ] refl e

  served_read : (old new : Input) (xs ys : List D) → Serves gave got count sight link faults gives serve.Read old new xs ys → Rose old.faults new.faults
  served_read old new xs ys (inl s) =
      let h = of_feed serve.Read (nat_lt 0 s.served.short) (feed_end s.served.feed s.served.door) is_read refl refl s.end_is in
      let P : FeedEnd → Type 0 = λ f. IfReadFailed f (Rose old.faults new.faults) in
      subst P (feed_read s.served.feed s.served.door h) s.list.cause
  served_read old new xs ys (inr s) = absurd (true≢false (ap is_read s.0))

  served_door : (old new : Input) (xs ys : List D) → Serves gave got count sight link faults gives serve.Door old new xs ys → SomeRose count xs ys
  served_door old new xs ys (inl s) =
      let h = of_feed serve.Door (nat_lt 0 s.served.short) (feed_end s.served.feed s.served.door) is_door refl refl s.end_is in
      let n = door_failed s.served.feed s.served.door h in
      some_rose s.served.front 0 n.0 s.doors.runs xs ys s.doors.manned (sym s.doors.door ∙ n.1)
  served_door old new xs ys (inr s) = absurd (true≢false (ap is_door s.0))

  -- ---- what an ending of `follow --at` says

  dial_wrote : (words : FollowWords) (x y : D) (old new : Output) (r : Answer) → dial.Write ≡ dial_end r
      → Dials gave got count sight link faults words.host words.tries words.brief x y old new r → Rose old.faults new.faults
  dial_wrote words x y old new (Ok u) e d = absurd (true≢false (ap is_write e))
  dial_wrote words x y old new (Err (fault.Stream f)) e d = absurd (true≢false (ap is_write e))
  dial_wrote words x y old new (Err (fault.Cut left)) e d = absurd (true≢false (ap is_write e))
  dial_wrote words x y old new (Err fault.Link) e d = absurd (true≢false (ap is_write e))
  dial_wrote words x y old new (Err fault.Door) e d = absurd (true≢false (ap is_write e))
  dial_wrote words x y old new (Err fault.Write) e d = d.why.1
  dial_wrote words x y old new (Err fault.NoMemory) e d = absurd (true≢false (ap is_write e))

  dial_failed : (words : FollowWords) (x y : D) (old new : Output) (r : Answer) → dial.Door ≡ dial_end r
      → Dials gave got count sight link faults words.host words.tries words.brief x y old new r → Rose (count x) (count y)
  dial_failed words x y old new (Ok u) e d = absurd (true≢false (ap is_dialler e))
  dial_failed words x y old new (Err (fault.Stream f)) e d = absurd (true≢false (ap is_dialler e))
  dial_failed words x y old new (Err (fault.Cut left)) e d = absurd (true≢false (ap is_dialler e))
  dial_failed words x y old new (Err fault.Link) e d = absurd (true≢false (ap is_dialler e))
  dial_failed words x y old new (Err fault.Door) e d = d.why.1
  dial_failed words x y old new (Err fault.Write) e d = absurd (true≢false (ap is_dialler e))
  dial_failed words x y old new (Err fault.NoMemory) e d = absurd (true≢false (ap is_dialler e))

  -- ---- the clauses

  module _ (command : Option Command) (status : ℕ) (old new : Around D) where
    abbrev Ran : Type 0
    Ran = IsRun gave got count sight link faults gives command status old new

    pub usage : Ran → status ≡ 1 → command ≡ None
    usage (local e r) h = refused (exit_status e) (seen old.source old.sink) (seen new.source new.sink) command e refl r.cause (ap (λ (n : ℕ). answer.Done n) (sym r.status_is ∙ h))
    usage (served w e r) h = absurd (serve_1 e (sym r.status_is ∙ h))
    usage (followed w e r) h = absurd (dial_1 e (sym r.status_is ∙ h))

    by_answer : (k n m : ℕ) → status ≡ k → (answer.Done k ≡ answer.Done n) ⊎ (answer.Done k ≡ answer.Done m) → (status ≡ n) ⊎ (status ≡ m)
    by_answer k n m is (inl h) = inl (is ∙ ap status_in h)
    by_answer k n m is (inr h) = inr (is ∙ ap status_in h)

    pub refusal : Ran → command ≡ None → (status ≡ 1) ⊎ (status ≡ 5)
    refusal (local e r) h = by_answer (exit_status e) 1 5 r.status_is (refuses (exit_status e) (seen old.source old.sink) (seen new.source new.sink) command e refl r.cause h)
    refusal (served w e r) h = absurd (not_none (commands.Serve w) (sym r.asked ∙ h))
    refusal (followed w e r) h = absurd (not_none (commands.FollowAt w) (sym r.asked ∙ h))

    pub reading : Ran → status ≡ 3 → Rose old.source.faults new.source.faults
    reading (local e r) h = read_failed (exit_status e) (seen old.source old.sink) (seen new.source new.sink) command e refl r.cause (ap (λ (n : ℕ). answer.Done n) (sym r.status_is ∙ h))
    reading (served w e r) h =
        let P : ServeEnd → Type 0 = λ x. Serves gave got count sight link faults gives x old.source new.source old.doors new.doors in
        served_read old.source new.source old.doors new.doors (subst P (serve_3 e (sym r.status_is ∙ h)) r.cause)
    reading (followed w e r) h = absurd (dial_3 e (sym r.status_is ∙ h))

    pub writing : Ran → status ≡ 4 → Rose old.sink.faults new.sink.faults
    writing (local e r) h = write_failed (exit_status e) (seen old.source old.sink) (seen new.source new.sink) command e refl r.cause (ap (λ (n : ℕ). answer.Done n) (sym r.status_is ∙ h))
    writing (served w e r) h = absurd (serve_4 e (sym r.status_is ∙ h))
    writing (followed w e r) h = dial_wrote w old.dial new.dial old.sink new.sink r.cause.answer (sym (dial_4 e (sym r.status_is ∙ h)) ∙ r.cause.end_is) r.cause.dials

    pub failing : Ran → status ≡ 7 → SomeRose count old.doors new.doors ⊎ Rose (count old.dial) (count new.dial)
    failing (local e r) h = absurd (at_seven e (sym r.status_is ∙ h))
    failing (served w e r) h =
        let P : ServeEnd → Type 0 = λ x. Serves gave got count sight link faults gives x old.source new.source old.doors new.doors in
        inl (served_door old.source new.source old.doors new.doors (subst P (serve_7 e (sym r.status_is ∙ h)) r.cause))
    failing (followed w e r) h = inr (dial_failed w old.dial new.dial old.sink new.sink r.cause.answer (sym (dial_7 e (sym r.status_is ∙ h)) ∙ r.cause.end_is) r.cause.dials)

    pub telling : Ran → command ≡ Some commands.Sim → status ≡ 0 → TellsWorlds (seen old.source old.sink) (seen new.source new.sink)
    telling (local e r) sim h = tells_worlds (exit_status e) (seen old.source old.sink) (seen new.source new.sink) command e refl r.cause sim (ap (λ (n : ℕ). answer.Done n) (sym r.status_is ∙ h))
    telling (served w e r) sim h = absurd (true≢false (sym (sym (ap is_link r.asked) ∙ ap is_link sim)))
    telling (followed w e r) sim h = absurd (true≢false (sym (sym (ap is_link r.asked) ∙ ap is_link sim)))

    pub completing : Ran → (c : Command) (bytes : List ℕ) → command ≡ Some c → old.source.left ≡ Some bytes → IsGood c bytes
        → (Rose old.source.faults new.source.faults → ⊥) → (Rose old.sink.faults new.sink.faults → ⊥) → (status ≡ 0) ⊎ (status ≡ 5)
    completing (local e r) c bytes same known good read_well written_well =
        by_answer (exit_status e) 0 5 r.status_is (done_whole (exit_status e) (seen old.source old.sink) (seen new.source new.sink) command c e bytes refl r.cause same known good read_well written_well)
    completing (served w e r) c bytes same known good read_well written_well =
        let is : c ≡ commands.Serve w = cc (same, r.asked) in
        absurd (subst (λ (x : Command). IsGood x bytes) is good)
    completing (followed w e r) c bytes same known good read_well written_well =
        let is : c ≡ commands.FollowAt w = cc (same, r.asked) in
        absurd (subst (λ (x : Command). IsGood x bytes) is good)

    -- ---- nothing is wrong with what is served, or with what dialled links bring

    unlinked : (e : Ending) (old new : Seen) → Came command e old new → is_link command ≡ false → (command ≡ None → ⊥) → exit_status e ≡ 5
    unlinked Usage old new c l some = absurd (some c.0)
    unlinked Memory old new c l some = refl
    unlinked (Stream e) old new c l some = absurd (true≢false (sym (ap is_link c.1) ∙ l))
    unlinked (FollowAll e) old new c l some = absurd (true≢false (sym (ap is_link c.1) ∙ l))
    unlinked (Sim e) old new c l some = absurd (true≢false (sym (ap is_link c.0) ∙ l))
    unlinked (Load e) old new c l some = absurd (true≢false (sym (ap is_link c.1) ∙ l))

    served_whole : (bytes : List ℕ) → old.source.left ≡ Some bytes → feed_fault (whole_feed bytes) ≡ None
        → (Rose old.source.faults new.source.faults → ⊥) → (SomeRose count old.doors new.doors → ⊥)
        → (e : ServeEnd) → status ≡ serve_status e → Serves gave got count sight link faults gives e old.source new.source old.doors new.doors → (status ≡ 0) ⊎ (status ≡ 5)
    served_whole bytes known good read_well doors_well serve.Done is s = inl is
    served_whole bytes known good read_well doors_well (serve.Fault f) is s =
        absurd (not_none f (sym (served_fault gave got count sight link faults gives f old.source new.source old.sink old.doors new.doors bytes s known) ∙ good))
    served_whole bytes known good read_well doors_well serve.Read is s = absurd (read_well (served_read old.source new.source old.doors new.doors s))
    served_whole bytes known good read_well doors_well serve.Door is s = absurd (doors_well (served_door old.source new.source old.doors new.doors s))
    served_whole bytes known good read_well doors_well serve.Memory is s = inr is

    pub serving_whole : Ran → (w : ServeWords) (bytes : List ℕ) → command ≡ Some (commands.Serve w) → old.source.left ≡ Some bytes → feed_fault (whole_feed bytes) ≡ None
        → (Rose old.source.faults new.source.faults → ⊥) → (SomeRose count old.doors new.doors → ⊥) → (status ≡ 0) ⊎ (status ≡ 5)
    serving_whole (local e r) w bytes asked known good read_well doors_well =
        inr (r.status_is ∙ unlinked e (seen old.source old.sink) (seen new.source new.sink) r.cause (ap is_link asked) (λ none. not_none (commands.Serve w) (sym asked ∙ none)))
    serving_whole (followed v e r) w bytes asked known good read_well doors_well = absurd (true≢false (ap is_served (sym asked ∙ r.asked)))
    serving_whole (served v e r) w bytes asked known good read_well doors_well = served_whole bytes known good read_well doors_well e r.status_is r.cause

    pub following_whole : Ran → (w : FollowWords) → command ≡ Some (commands.FollowAt w) → AreGoodLinks sight link faults old.dial new.dial
        → (Rose (count old.dial) (count new.dial) → ⊥) → (Rose old.sink.faults new.sink.faults → ⊥) → (status ≡ 0) ⊎ (status ≡ 5)
    following_whole (local e r) w asked good dial_well sink_well =
        inr (r.status_is ∙ unlinked e (seen old.source old.sink) (seen new.source new.sink) r.cause (ap is_link asked) (λ none. not_none (commands.FollowAt w) (sym asked ∙ none)))
    following_whole (served v e r) w asked good dial_well sink_well = absurd (true≢false (ap is_served (sym r.asked ∙ asked)))
    following_whole (followed v e r) w asked good dial_well sink_well =
        let whole = dialled_whole gave got count sight link faults v.host v.tries v.brief old.dial new.dial old.sink new.sink r.cause.answer r.cause.dials good dial_well sink_well in
        subst (λ (n : ℕ). (n ≡ 0) ⊎ (n ≡ 5)) (sym (r.status_is ∙ ap dial_status r.cause.end_is)) whole

    -- ---- from what `local` came to

    pub done : (x : Outcome) (r : Local) → CameTo command x (seen old.source old.sink) (seen new.source new.sink) → IsLocalOf x r old.notes new.notes
        → r ≡ answer.Done status → new.doors ≡ old.doors → new.dial ≡ old.dial → Ran
    done (Ended e) r c t is doors dials = local e (record {
      status_is = ap status_in (sym is ∙ t.0);
      cause = c;
      told = t.1;
      doors_kept = doors;
      dial_kept = dials;
    })
    done (Serve w) r c t is doors dials = absurd (served_not_done w status (sym t.0 ∙ is))
    done (Follow w) r c t is doors dials = absurd (followed_not_done w status (sym t.0 ∙ is))

    pub serving : (x : Outcome) (r : Local) (w : ServeWords) (end : ServeEnd) (mid : Seen) (notes : Output) → CameTo command x (seen old.source old.sink) mid
        → IsLocalOf x r old.notes notes → r ≡ answer.Serve w → status ≡ serve_status end
        → Serves gave got count sight link faults gives end mid.source new.source old.doors new.doors → IsNoted notes new.notes (serve_note end)
        → new.sink ≡ mid.sink → new.dial ≡ old.dial → Ran
    serving (Serve v) r w end mid notes c t is status_is cause told sinks dials = served v end (record {
      asked = c.0;
      status_is = status_is;
      cause = subst (λ (x : Input). Serves gave got count sight link faults gives end x new.source old.doors new.doors) (ap (λ (x : Seen). x.source) c.1) cause;
      told = subst (λ (x : Output). IsNoted x new.notes (serve_note end)) t.1 told;
      sink_kept = sinks ∙ ap (λ (x : Seen). x.sink) c.1;
      dial_kept = dials;
    })
    serving (Ended e) r w end mid notes c t is status_is cause told sinks dials = absurd (served_not_done w (exit_status e) (sym is ∙ t.0))
    serving (Follow v) r w end mid notes c t is status_is cause told sinks dials = absurd (true≢false (ap is_serving (sym is ∙ t.0)))

    pub following : (x : Outcome) (r : Local) (w : FollowWords) (end : DialEnd) (mid : Seen) (notes : Output) → CameTo command x (seen old.source old.sink) mid
        → IsLocalOf x r old.notes notes → r ≡ answer.Follow w → status ≡ dial_status end
        → FollowsAt gave got count sight link faults w end old.dial new.dial mid.sink new.sink → IsNoted notes new.notes (dial_note end)
        → new.source ≡ mid.source → new.doors ≡ old.doors → Ran
    following (Follow v) r w end mid notes c t is status_is cause told sources doors =
        let same : w ≡ v = followed_same w v (sym is ∙ t.0) in
        let at_v = subst (λ (x : FollowWords). FollowsAt gave got count sight link faults x end old.dial new.dial mid.sink new.sink) same cause in
        followed v end (record {
          asked = c.0;
          status_is = status_is;
          cause = subst (λ (x : Output). FollowsAt gave got count sight link faults v end old.dial new.dial x new.sink) (ap (λ (x : Seen). x.sink) c.1) at_v;
          told = subst (λ (x : Output). IsNoted x new.notes (dial_note end)) t.1 told;
          source_kept = sources ∙ ap (λ (x : Seen). x.source) c.1;
          doors_kept = doors;
        })
    following (Ended e) r w end mid notes c t is status_is cause told sources doors = absurd (followed_not_done w (exit_status e) (sym is ∙ t.0))
    following (Serve v) r w end mid notes c t is status_is cause told sources doors = absurd (true≢false (sym (ap is_serving (sym is ∙ t.0))))
