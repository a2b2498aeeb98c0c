-- What is owed behind the first parts of a plan.
use Rattle.std.proofs.Common.{◌≡◌, ℕ, ◌+◌, List, [], ◌∷◌, ◌++◌, map, replicate, refl}
use Rattle.ty_script.specs.declared.event.Event.TheVariants.{Line, Step, Get}
use Rattle.ty_script.specs.declared.event.TheConstants.{GET_BYTES}
use Rattle.ty_core.specs.Clients.{newest}
use Rattle.ty_core.specs.Run.{State, Happening, on, going, run, trail, link}
use Rattle.ty_core.specs.Held.{WorldHeld, WorldStands}
use Rattle.ty_load.specs.Load.{clients, client_of, load_line, load_step, steps_left, caught_up}
use Rattle.ty_load.specs.steps.Plans.{Plan, always, then, catching, entire, Done, IsOwed}
use Rattle.ty_load.proofs.Plans.{begins, begins_all, goes_on}
use Rattle.ty_load.proofs.Scripts.{reads, renews, step_is, catching_is, entering, feeding, ending, whole_is}

-- A step

pub after_line : (w w' : WorldHeld) (k x c : ℕ) (line : List ℕ) → line ≡ load_line x → c ≡ client_of x → Done w w' (always (on (Line line) ∷ [])) → IsOwed w w' (always (reads k c ++ renews k c)) (always (map on (load_step k x)))
after_line w w' k x c line l e d =
    let all : Plan = always (map on (load_step k x)) in
    goes_on w w w' (always (on (Line line) ∷ [])) (always (reads k c ++ renews k c)) all all (λ r. step_is k x c line l e) (begins_all w all) d

-- Catching up

abbrev pub many : ℕ → ℕ → List Happening
many n c = map on (replicate n (Step c))

abbrev pub last_two : ℕ → List Happening
last_two c = on (Step c) ∷ on (Get c GET_BYTES) ∷ []

pub owed_steps : (w : WorldHeld) (c n : ℕ) → ((hs : List Happening) (s : State) → WorldStands w hs → run hs ≡ going s → n + 1 ≡ steps_left (newest (trail s)) (link s c))
    → IsOwed w w (always (many n c ++ last_two c)) (λ r. caught_up r c)
owed_steps w c n h =
    begins w (always (many n c ++ last_two c)) (λ r. caught_up r c) (λ hs st. catching_is st.state (run hs) c n st.is (h hs st.state st.world st.is))

pub after_steps : (w w' : WorldHeld) (c n : ℕ) → ((hs : List Happening) (s : State) → WorldStands w hs → run hs ≡ going s → n + 1 ≡ steps_left (newest (trail s)) (link s c))
    → Done w w' (always (many n c)) → IsOwed w w' (always (last_two c)) (λ r. caught_up r c)
after_steps w w' c n h d =
    goes_on w w w' (always (many n c)) (always (last_two c)) (always (many n c ++ last_two c)) (λ r. caught_up r c) (λ r. refl) (owed_steps w c n h) d

-- The whole

abbrev pub ending_on : Plan
ending_on = then ending (catching clients)

abbrev pub feeding_on : ℕ → Plan
feeding_on x = then (feeding x) ending_on

pub after_entering : (w w' : WorldHeld) (x : ℕ) → Done w w' entering → IsOwed w w' (feeding_on x) (entire x)
after_entering w w' x d = goes_on w w w' entering (feeding_on x) (entire x) (entire x) (whole_is x) (begins_all w (entire x)) d

pub after_feeding : (w w1 w2 : WorldHeld) (x : ℕ) → Done w w1 entering → Done w1 w2 (feeding x) → IsOwed w w2 ending_on (entire x)
after_feeding w w1 w2 x d e = goes_on w w1 w2 (feeding x) ending_on (feeding_on x) (entire x) (λ r. refl) (after_entering w w1 x d) e
