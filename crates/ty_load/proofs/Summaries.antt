-- What the summary says of a run.
use Rattle.std.proofs.Common.{◌≡◌, ℕ, ◌+◌, ◌-◌, ◌<◌, ◌≤◌, List, [], ◌++◌, length, refl, sym, ap, ◌∙◌, append_assoc, append-nil, arith}
use Rattle.std.specs.Prelude.{codes, flat_map}
use Rattle.std.specs.List.{range_with_len}
use Rattle.std.proofs.lemmas.List.{take_all}
use Rattle.std.proofs.lemmas.List.Concat.{flat_map-cons}
use Rattle.ty_base.specs.Feed.{World, replay}
use Rattle.ty_map.specs.Shape.{pairs}
use Rattle.ty_crumb.specs.declared.crumb.Crumb.{Crumb}
use Rattle.ty_crumb.specs.Crumbs.{CrumbStands}
use Rattle.ty_client.specs.Rebuilt.{Rebuilt}
use Rattle.ty_core.specs.Clients.{newest}
use Rattle.ty_core.specs.Run.{State, no_state, book_of, trail, Happening, Ran, going, over, run, run_from}
use Rattle.ty_core.specs.Report.{world_shown}
use Rattle.ty_core.specs.Answers.{IsGoing}
use Rattle.ty_core.specs.Held.{WorldHeld, WorldStands}
use Rattle.ty_core.proofs.Chains.{shown_is}
use Rattle.ty_load.specs.Load.{clients, load_happenings}
use Rattle.ty_load.specs.Summary.{named_number, held_by, held_line, summary_of, summary_by, summary}
use Rattle.ty_load.specs.steps.Plans.{Stands, entire}
use Rattle.ty_load.proofs.Scripts.{front_of, none_of}

-- The run of it all

run_none : run [] ≡ going no_state
unfolding run_from
run_none = refl

pub stands_new : (w : WorldHeld) → WorldStands w [] → Stands w []
stands_new w st = record { state = no_state; is = run_none; world = st }

all_of : (x : ℕ) → entire x (run []) ≡ load_happenings x
all_of x = ap (entire x) run_none

pub tells_all : (x : ℕ) (w : WorldHeld) (text : List ℕ) → Stands w ([] ++ entire x (run []))
    → ((hs : List Happening) (s : State) → WorldStands w hs → run hs ≡ going s → text ≡ summary_of x s) → text ≡ summary x
tells_all x w text st h =
    h ([] ++ entire x (run [])) st.state st.world st.is
    ∙ ap (summary_by x) (sym st.is ∙ ap run (all_of x))

none_told : (x : ℕ) (r : Ran) → (IsGoing r → ⊥) → [] ≡ summary_by x r
none_told x (going s) h = absurd (h tt)
none_told x (over f) h = refl

pub tells_none : (x : ℕ) (w : WorldHeld) (r : Ran) → (IsGoing r → ⊥) → WorldStands w [] → ((hs : List Happening) → Stands w hs → run (hs ++ entire x (run hs)) ≡ r) → [] ≡ summary x
tells_none x w r past st h =
    none_told x r past ∙ ap (summary_by x) (sym (h [] (stands_new w st)) ∙ ap run (all_of x))

-- Its parts

pub pairs_are : (s : State) (crumb : Crumb) → CrumbStands crumb (book_of s) → length (pairs crumb.pairs) ≡ length (world_shown s (newest (trail s))).pairs
pairs_are s crumb st =
    ap (λ (w : World). length w.pairs) (st.world ∙ ap replay (sym (take_all (length (book_of s)) (book_of s) (omega arith))))
    ∙ ap (λ (a : Rebuilt). length a.pairs) (shown_is s (length (book_of s)) (omega arith))

pub in_order : (a b c d out out1 out2 out3 out4 : List ℕ) → out ≡ [] → out1 ≡ out ++ a → out2 ≡ out1 ++ b → out3 ≡ out2 ++ c → out4 ≡ out3 ++ d → out4 ≡ a ++ (b ++ (c ++ d))
in_order a b c d out out1 out2 out3 out4 z e f g h =
    h
    ∙ ap (λ o. o ++ d) (g ∙ ap (λ o. o ++ c) (f ∙ ap (λ o. o ++ b) (e ∙ ap (λ o. o ++ a) z)))
    ∙ append_assoc (a ++ b) c d
    ∙ append_assoc a b (c ++ d)

pub summary_is : (x : ℕ) (s : State) (number count : ℕ) → number ≡ newest (trail s) → count ≡ length (world_shown s (newest (trail s))).pairs
    → named_number (codes "load") x ++ (named_number (codes "crumbs") number ++ (named_number (codes "pairs") count ++ flat_map (λ c. held_line c (held_by s c)) clients)) ≡ summary_of x s
summary_is x s number count n p =
    ap (λ (m : ℕ). named_number (codes "load") x ++ (named_number (codes "crumbs") m ++ (named_number (codes "pairs") count ++ flat_map (λ c. held_line c (held_by s c)) clients))) n
    ∙ ap (λ (m : ℕ). named_number (codes "load") x ++ (named_number (codes "crumbs") (newest (trail s)) ++ (named_number (codes "pairs") m ++ flat_map (λ c. held_line c (held_by s c)) clients))) p

pub next_client : (f : ℕ → List ℕ) (c n : ℕ) (out out' all line : List ℕ) → c < n → out' ≡ out ++ line → line ≡ f c → out ++ flat_map f (range_with_len c (n - c)) ≡ all → out' ++ flat_map f (range_with_len (c + 1) (n - (c + 1))) ≡ all
next_client f c n out out' all line h e l is =
    ap (λ o. o ++ flat_map f (range_with_len (c + 1) (n - (c + 1)))) (e ∙ ap (λ m. out ++ m) l)
    ∙ append_assoc out (f c) (flat_map f (range_with_len (c + 1) (n - (c + 1))))
    ∙ ap (λ m. out ++ m) (sym (ap (flat_map f) (front_of c n h) ∙ flat_map-cons f c (range_with_len (c + 1) (n - (c + 1)))))
    ∙ is

pub last_client : (f : ℕ → List ℕ) (c n : ℕ) (out all : List ℕ) → n ≤ c → out ++ flat_map f (range_with_len c (n - c)) ≡ all → out ≡ all
last_client f c n out all h is =
    sym (append-nil out) ∙ ap (λ m. out ++ m) (sym (ap (flat_map f) (none_of c n h))) ∙ is
