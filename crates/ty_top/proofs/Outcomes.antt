-- The clauses of `local`, by what it comes to.
use Rattle.std.proofs.Common.{◌≡◌, ◌⊎◌, inl, inr, ◌∙◌, refl, sym, ap, subst, ℕ, Bool, true, false, true≢false, List}
use Rattle.std.specs.Prelude.{Option, None, Some}
use Rattle.ty_base.specs.Causes.{Rose}
use Rattle.ty_base.specs.Devices.{Seen, Output}
use Rattle.ty_words.specs.declared.words.Command.{Command}
use Rattle.ty_words.specs.declared.words.Command.TheVariants as commands
use Rattle.ty_words.specs.declared.words.ServeWords.{ServeWords}
use Rattle.ty_words.specs.declared.words.FollowWords.{FollowWords}
use Rattle.ty_top.specs.Endings.{Came, IsGood, exit_status}
use Rattle.ty_top.specs.Headline.{TellsWorlds}
use Rattle.ty_top.specs.Outcomes.{CameTo, IsLocalOf}
use Rattle.ty_top.specs.declared.ending.Local.{Local}
use Rattle.ty_top.specs.declared.ending.Local.TheVariants as local
use Rattle.ty_top.specs.declared.ending.Ending.{Ending}
use Rattle.ty_top.specs.declared.ending.Ending.TheVariants as ending
use Rattle.ty_top.specs.declared.ending.Outcome.{Outcome}
use Rattle.ty_top.specs.declared.ending.Outcome.TheVariants.{Ended, Serve, Follow}
use Rattle.ty_top.proofs.Complete.{done_whole, not_none, refused, refuses, read_failed, write_failed}
use Rattle.ty_top.proofs.Headline.{tells_worlds}

abbrev is_done : Local → Bool
is_done (local.Done r) = true
is_done (local.Serve words) = false
is_done (local.Follow words) = false

pub served_not_done : (words : ServeWords) (r : ℕ) → local.Serve words ≡ local.Done r → ⊥
served_not_done words r e = true≢false (sym (ap is_done e))

pub followed_not_done : (words : FollowWords) (r : ℕ) → local.Follow words ≡ local.Done r → ⊥
followed_not_done words r e = true≢false (sym (ap is_done e))

-- which words a command hands on, if any
abbrev served_words : Option Command → Option ServeWords
served_words (Some (commands.Serve words)) = Some words
served_words _ = None

abbrev followed_words : Option Command → Option FollowWords
followed_words (Some (commands.FollowAt words)) = Some words
followed_words _ = None

module _ (old new : Seen) (asked : Option Command) (a b : Output) where
  pub usage : (x : Outcome) (result : Local) → CameTo asked x old new → IsLocalOf x result a b → result ≡ local.Done 1 → asked ≡ None
  usage (Ended e) result c t r = refused (exit_status e) old new asked e refl c (sym t.0 ∙ r)
  usage (Serve words) result c t r = absurd (served_not_done words 1 (sym t.0 ∙ r))
  usage (Follow words) result c t r = absurd (followed_not_done words 1 (sym t.0 ∙ r))

  by_status : (n : ℕ) (m : ℕ) (k : ℕ) (result : Local) → result ≡ local.Done k → (local.Done k ≡ local.Done n) ⊎ (local.Done k ≡ local.Done m) → (result ≡ local.Done n) ⊎ (result ≡ local.Done m)
  by_status n m k result t (inl h) = inl (t ∙ h)
  by_status n m k result t (inr h) = inr (t ∙ h)

  pub refusal : (x : Outcome) (result : Local) → CameTo asked x old new → IsLocalOf x result a b → asked ≡ None → (result ≡ local.Done 1) ⊎ (result ≡ local.Done 5)
  refusal (Ended e) result c t none = by_status 1 5 (exit_status e) result t.0 (refuses (exit_status e) old new asked e refl c none)
  refusal (Serve words) result c t none = absurd (not_none (commands.Serve words) (sym c.0 ∙ none))
  refusal (Follow words) result c t none = absurd (not_none (commands.FollowAt words) (sym c.0 ∙ none))

  pub reading : (x : Outcome) (result : Local) → CameTo asked x old new → IsLocalOf x result a b → result ≡ local.Done 3 → Rose old.source.faults new.source.faults
  reading (Ended e) result c t r = read_failed (exit_status e) old new asked e refl c (sym t.0 ∙ r)
  reading (Serve words) result c t r = absurd (served_not_done words 3 (sym t.0 ∙ r))
  reading (Follow words) result c t r = absurd (followed_not_done words 3 (sym t.0 ∙ r))

  pub writing : (x : Outcome) (result : Local) → CameTo asked x old new → IsLocalOf x result a b → result ≡ local.Done 4 → Rose old.sink.faults new.sink.faults
  writing (Ended e) result c t r = write_failed (exit_status e) old new asked e refl c (sym t.0 ∙ r)
  writing (Serve words) result c t r = absurd (served_not_done words 4 (sym t.0 ∙ r))
  writing (Follow words) result c t r = absurd (followed_not_done words 4 (sym t.0 ∙ r))

  pub telling : (x : Outcome) (result : Local) → CameTo asked x old new → IsLocalOf x result a b → asked ≡ Some commands.Sim → result ≡ local.Done 0 → TellsWorlds old new
  telling (Ended e) result c t sim r = tells_worlds (exit_status e) old new asked e refl c sim (sym t.0 ∙ r)
  telling (Serve words) result c t sim r = absurd (served_not_done words 0 (sym t.0 ∙ r))
  telling (Follow words) result c t sim r = absurd (followed_not_done words 0 (sym t.0 ∙ r))

  pub completing : (x : Outcome) (result : Local) (command : Command) (bytes : List ℕ) → CameTo asked x old new → IsLocalOf x result a b
      → asked ≡ Some command → old.source.left ≡ Some bytes → IsGood command bytes
      → (Rose old.source.faults new.source.faults → ⊥) → (Rose old.sink.faults new.sink.faults → ⊥) → (result ≡ local.Done 0) ⊎ (result ≡ local.Done 5)
  completing (Ended e) result command bytes c t same known good read_well written_well =
      by_status 0 5 (exit_status e) result t.0 (done_whole (exit_status e) old new asked command e bytes refl c same known good read_well written_well)
  completing (Serve words) result command bytes c t same known good read_well written_well =
      let is : command ≡ commands.Serve words = cc (same, c.0) in
      absurd (subst (λ (x : Command). IsGood x bytes) is good)
  completing (Follow words) result command bytes c t same known good read_well written_well =
      let is : command ≡ commands.FollowAt words = cc (same, c.0) in
      absurd (subst (λ (x : Command). IsGood x bytes) is good)

  -- words that are asked for are handed on, but for want of memory

  ended_served : (e : Ending) (words : ServeWords) → Came asked e old new → asked ≡ Some (commands.Serve words) → exit_status e ≡ 5
  ended_served ending.Usage words c s = absurd (not_none (commands.Serve words) (sym s ∙ c.0))
  ended_served ending.Memory words c s = refl
  ended_served (ending.Stream end) words c s = absurd (not_none words (sym (sym (ap served_words c.1) ∙ ap served_words s)))
  ended_served (ending.Follow end) words c s = absurd (not_none words (sym (sym (ap served_words c.1) ∙ ap served_words s)))
  ended_served (ending.Sim end) words c s = absurd (not_none words (sym (sym (ap served_words c.0) ∙ ap served_words s)))
  ended_served (ending.Load end) words c s = absurd (not_none words (sym (sym (ap served_words c.1) ∙ ap served_words s)))

  ended_followed : (e : Ending) (words : FollowWords) → Came asked e old new → asked ≡ Some (commands.FollowAt words) → exit_status e ≡ 5
  ended_followed ending.Usage words c s = absurd (not_none (commands.FollowAt words) (sym s ∙ c.0))
  ended_followed ending.Memory words c s = refl
  ended_followed (ending.Stream end) words c s = absurd (not_none words (sym (sym (ap followed_words c.1) ∙ ap followed_words s)))
  ended_followed (ending.Follow end) words c s = absurd (not_none words (sym (sym (ap followed_words c.1) ∙ ap followed_words s)))
  ended_followed (ending.Sim end) words c s = absurd (not_none words (sym (sym (ap followed_words c.0) ∙ ap followed_words s)))
  ended_followed (ending.Load end) words c s = absurd (not_none words (sym (sym (ap followed_words c.1) ∙ ap followed_words s)))

  pub serving : (x : Outcome) (result : Local) (words : ServeWords) → CameTo asked x old new → IsLocalOf x result a b → asked ≡ Some (commands.Serve words) → (result ≡ local.Serve words) ⊎ (result ≡ local.Done 5)
  serving (Ended e) result words c t s = inr (t.0 ∙ ap (λ (n : ℕ). local.Done n) (ended_served e words c s))
  serving (Serve w) result words c t s = inl (t.0 ∙ cc (s, c.0))
  serving (Follow w) result words c t s = absurd (not_none words (sym (sym (ap served_words c.0) ∙ ap served_words s)))

  pub following : (x : Outcome) (result : Local) (words : FollowWords) → CameTo asked x old new → IsLocalOf x result a b → asked ≡ Some (commands.FollowAt words) → (result ≡ local.Follow words) ⊎ (result ≡ local.Done 5)
  following (Ended e) result words c t s = inr (t.0 ∙ ap (λ (n : ℕ). local.Done n) (ended_followed e words c s))
  following (Follow w) result words c t s = inl (t.0 ∙ cc (s, c.0))
  following (Serve w) result words c t s = absurd (not_none words (sym (sym (ap followed_words c.0) ∙ ap followed_words s)))
