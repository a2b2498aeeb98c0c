-- A script that `sim` has read to its end tells of worlds.
use Rattle.std.proofs.Common.{◌≡◌, ◌∙◌, ap, sym, subst, arith, ℕ, Bool, true, false, true≢false, not, ◌&&◌, List, [], ◌∷◌, ◌++◌}
use Rattle.std.specs.Prelude.{Option, None, Some, is_some, if◌then◌else◌}
use Rattle.std.specs.Io.KnownBytes.{Appends}
use Rattle.ty_base.specs.Devices.{Seen}
use Rattle.ty_intake.specs.Lines.{Feed as FeedSoFar}
use Rattle.ty_core.specs.Report.{report}
use Rattle.ty_core.specs.Run.{end}
use Rattle.ty_core.specs.Script.{happenings_of, script_fault, simulated, whole_script}
use Rattle.ty_core.specs.Text.{report_text}
use Rattle.ty_core.proofs.Interleaved.{rebuilds}
use Rattle.ty_core.proofs.ScriptHappens.{happens}
use Rattle.ty_core.specs.declared.simulation.SimFault.{SimFault}
use Rattle.ty_top.specs.Endings.{Came, Sims, exit_status}
use Rattle.ty_top.specs.Headline.{TellsWorlds}
use Rattle.ty_words.specs.declared.words.Command.{Command}
use Rattle.ty_words.specs.declared.words.Command.TheVariants as commands
use Rattle.ty_top.specs.declared.ending.Ending.{Ending}
use Rattle.ty_top.specs.declared.ending.Ending.TheVariants.{Usage, Memory, Stream, Follow, Sim, Load}
use Rattle.ty_top.specs.declared.ending.SimEnd.{SimEnd}
use Rattle.ty_top.specs.declared.ending.SimEnd.TheVariants as sim_end
use Rattle.ty_top.specs.declared.ending.Local.TheVariants as local
use Rattle.ty_top.proofs.Complete.{status_in}
use Rattle.ty_top.proofs.Statuses.{sim_done}

-- the words of another mode ask for no simulation
abbrev is_sim : Option Command → Bool
is_sim (Some commands.Sim) = true
is_sim _ = false

whole_told : (read : FeedSoFar) → read.ended ≡ true → script_fault read ≡ None → simulated read ≡ report_text (report (whole_script read))
unfolding simulated
whole_told read ended good =
    let both : read.ended && not (is_some (script_fault read)) ≡ true = ap (λ (b : Bool). b && not (is_some (script_fault read))) ended ∙ ap (λ (o : Option SimFault). not (is_some o)) good in
    ap (λ (b : Bool). report_text (report (happenings_of read ++ (if b then end ∷ [] else [])))) both

sim_tells : (stop : SimEnd) (old new : Seen) → Sims stop old new → stop ≡ sim_end.Done → TellsWorlds old new
sim_tells stop old new s e =
    let P : SimEnd → Type 0 = λ x. Sims x old new in
    let d = subst P e s in
    let h = happens d.0 d.2 d.3 in
    record {
      read = d.0;
      taken = d.1;
      ended = d.2;
      written = subst (λ (text : List ℕ). Appends old.sink.held new.sink.held text) (whole_told d.0 d.2 d.3) d.4;
      worlds = rebuilds (whole_script d.0) h.1 h.0 h.2;
    }

came_tells : (ending : Ending) (old new : Seen) (asked : Option Command) → Came asked ending old new → asked ≡ Some commands.Sim → exit_status ending ≡ 0 → TellsWorlds old new
came_tells Usage old new asked c e z = absurd (true≢false (sym (sym (ap is_sim c.0) ∙ ap is_sim e)))
came_tells Memory old new asked c e z = absurd (omega (arith, z))
came_tells (Stream stop) old new asked c e z = absurd (true≢false (sym (sym (ap is_sim c.1) ∙ ap is_sim e)))
came_tells (Follow stop) old new asked c e z = absurd (true≢false (sym (sym (ap is_sim c.1) ∙ ap is_sim e)))
came_tells (Load stop) old new asked c e z = absurd (true≢false (sym (sym (ap is_sim c.1) ∙ ap is_sim e)))
came_tells (Sim stop) old new asked c e z = sim_tells stop old new c.1 (sim_done stop z)

pub tells_worlds : (r : ℕ) (old new : Seen) (asked : Option Command) (ending : Ending) → r ≡ exit_status ending → Came asked ending old new → asked ≡ Some commands.Sim → local.Done r ≡ local.Done 0 → TellsWorlds old new
tells_worlds r old new asked ending s c e z = came_tells ending old new asked c e (sym s ∙ ap status_in z)
