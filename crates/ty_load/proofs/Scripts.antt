-- The parts of a load's script, one after another.
use Rattle.std.proofs.Common.{◌≡◌, ℕ, zero, suc, ◌+◌, ◌-◌, ◌%◌, ◌<◌, ◌≤◌, Bool, true, false, cond, eqb, List, [], ◌∷◌, ◌++◌, map, replicate, refl, sym, ap, ◌∙◌, append_assoc, add-one, arith}
use Rattle.std.specs.Prelude.{flat_map, Option, None, Some, option_map}
use Rattle.std.proofs.lemmas.Bool.{eq-eqb, eqb-true}
use Rattle.std.specs.List.{range_with_len}
use Rattle.std.proofs.lemmas.List.{map-append}
use Rattle.std.proofs.lemmas.List.Concat.{flat_map-cons}
use Rattle.ty_script.specs.declared.event.Event.{Event}
use Rattle.ty_script.specs.declared.event.Event.TheVariants.{Line, Step, Get, Cut}
use Rattle.ty_script.specs.declared.event.TheConstants.{GET_BYTES}
use Rattle.ty_core.specs.declared.client.Connection.{Connection}
use Rattle.ty_core.specs.Clients.{newest}
use Rattle.ty_core.specs.Run.{State, Happening, on, end, Ran, going, run_from, trail, link}
use Rattle.ty_load.specs.Load.{clients, enters, client_of, next_word, load_line, every, load_step, load_steps, steps_left, caught_up, load_end}
use Rattle.ty_load.specs.steps.Plans.{Plan, always, then, catching, entire}
use Rattle.ty_load.proofs.Plans.{run-append}

-- the numbers from c up to n
pub front_of : (c n : ℕ) → c < n → range_with_len c (n - c) ≡ c ∷ range_with_len (c + 1) (n - (c + 1))
front_of c n h =
    let e : n - c ≡ suc (n - (c + 1)) = omega arith in
    ap (range_with_len c) e

pub none_of : (c n : ℕ) → n ≤ c → range_with_len c (n - c) ≡ []
none_of c n h =
    let e : n - c ≡ 0 = omega arith in
    ap (range_with_len c) e

pub enters_front : (c n : ℕ) → c < n → map on (flat_map enters (range_with_len c (n - c))) ≡ map on (enters c) ++ map on (flat_map enters (range_with_len (c + 1) (n - (c + 1))))
enters_front c n h =
    ap (λ cs. map on (flat_map enters cs)) (front_of c n h)
    ∙ ap (map on) (flat_map-cons enters c (range_with_len (c + 1) (n - (c + 1))))
    ∙ map-append on (enters c) (flat_map enters (range_with_len (c + 1) (n - (c + 1))))

pub enters_none : (c n : ℕ) → n ≤ c → map on (flat_map enters (range_with_len c (n - c))) ≡ []
enters_none c n h = ap (λ cs. map on (flat_map enters cs)) (none_of c n h)

pub same_front : (e : Event) (n i : ℕ) → i < n → map on (replicate (n - i) e) ≡ on e ∷ map on (replicate (n - (i + 1)) e)
same_front e n i h =
    let more : n - i ≡ suc (n - (i + 1)) = omega arith in
    ap (λ m. map on (replicate m e)) more

pub same_none : (e : Event) (n i : ℕ) → n ≤ i → map on (replicate (n - i) e) ≡ []
same_none e n i h =
    let none : n - i ≡ 0 = omega arith in
    ap (λ m. map on (replicate m e)) none

pub steps_front : (n k x : ℕ) → k < n → map on (load_steps (n - k) k x) ≡ map on (load_step (k + 1) (next_word x)) ++ map on (load_steps (n - (k + 1)) (k + 1) (next_word x))
unfolding load_steps
steps_front n k x h =
    let more : n - k ≡ suc (n - (k + 1)) = omega arith in
    ap (λ m. map on (load_steps m k x)) more
    ∙ map-append on (load_step (k + 1) (next_word x)) (load_steps (n - (k + 1)) (k + 1) (next_word x))

pub steps_none : (n k x : ℕ) → n ≤ k → map on (load_steps (n - k) k x) ≡ []
unfolding load_steps
steps_none n k x h =
    let none : n - k ≡ 0 = omega arith in
    ap (λ m. map on (load_steps m k x)) none

pub steps_next : (n k x y : ℕ) → k < n → y ≡ next_word x → map on (load_steps (n - k) k x) ≡ map on (load_step (k + 1) y) ++ map on (load_steps (n - (k + 1)) (k + 1) y)
steps_next n k x y h e =
    steps_front n k x h ∙ ap (λ (z : ℕ). map on (load_step (k + 1) z) ++ map on (load_steps (n - (k + 1)) (k + 1) z)) (sym e)

-- One step

abbrev pub reads : ℕ → ℕ → List Happening
reads k c = map on (every 10 k (Step c ∷ Get c 65536 ∷ []))

abbrev pub renews : ℕ → ℕ → List Happening
renews k c = map on (every 1000 k (Cut c ∷ enters c))

pub step_is : (k x c : ℕ) (line : List ℕ) → line ≡ load_line x → c ≡ client_of x → map on (load_step k x) ≡ on (Line line) ∷ (reads k c ++ renews k c)
step_is k x c line l e =
    ap (λ hs. on (Line (load_line x)) ∷ hs) (map-append on (every 10 k (Step (client_of x) ∷ Get (client_of x) 65536 ∷ [])) (every 1000 k (Cut (client_of x) ∷ enters (client_of x))))
    ∙ ap (λ (m : List ℕ). on (Line m) ∷ (reads k (client_of x) ++ renews k (client_of x))) (sym l)
    ∙ ap (λ (d : ℕ). on (Line line) ∷ (reads k d ++ renews k d)) (sym e)

pub is_every : (n k : ℕ) (es : List Event) → k % n ≡ 0 → every n k es ≡ es
is_every n k es h = ap (λ b. cond b es []) (eq-eqb (k % n) 0 h)

pub not_every : (n k : ℕ) (es : List Event) → (k % n ≡ 0 → ⊥) → every n k es ≡ []
not_every n k es h = by_test (eqb (k % n) 0) refl
  where
    by_test : (b : Bool) → eqb (k % n) 0 ≡ b → cond b es [] ≡ []
    by_test true e = absurd (h (eqb-true (k % n) 0 e))
    by_test false e = refl

-- Catching up

pub ends_front : (c n : ℕ) → c < n → (r : Ran) → catching (range_with_len c (n - c)) r ≡ then (λ r. caught_up r c) (catching (range_with_len (c + 1) (n - (c + 1)))) r
unfolding load_end
ends_front c n h r = ap (load_end r) (front_of c n h)

pub ends_none : (c n : ℕ) → n ≤ c → (r : Ran) → catching (range_with_len c (n - c)) r ≡ []
unfolding load_end
ends_none c n h r = ap (load_end r) (none_of c n h)

again : (n : ℕ) (e : Event) (rest : List Event) → replicate (suc n) e ++ rest ≡ replicate n e ++ (e ∷ rest)
again zero e rest = refl
again (suc n) e rest = ap (λ l. e ∷ l) (again n e rest)

pub catching_is : (s : State) (r : Ran) (c n : ℕ) → r ≡ going s → n + 1 ≡ steps_left (newest (trail s)) (link s c) → map on (replicate n (Step c)) ++ (on (Step c) ∷ on (Get c GET_BYTES) ∷ []) ≡ caught_up r c
catching_is s r c n is e =
    let more : suc n ≡ steps_left (newest (trail s)) (link s c) = sym (add-one n) ∙ e in
    sym (map-append on (replicate n (Step c)) (Step c ∷ Get c GET_BYTES ∷ []))
    ∙ ap (map on) (sym (again n (Step c) (Get c GET_BYTES ∷ [])))
    ∙ ap (λ m. map on (replicate m (Step c) ++ Get c GET_BYTES ∷ [])) more
    ∙ ap (λ q. caught_up q c) (sym is)

pub left_none : (last : ℕ) (o : Option Connection) → None ≡ option_map (λ k. k.offered) o → 0 + 1 ≡ steps_left last o
left_none last None e = refl
left_none last (Some k) e = cc

pub left_some : (last n m : ℕ) (o : Option Connection) → Some n ≡ option_map (λ k. k.offered) o → m ≡ last - n → m + 1 ≡ steps_left last o
left_some last n m None e is = cc
left_some last n m (Some k) e is =
    let same : n ≡ k.offered = cc in
    ap (λ i. i + 1) (is ∙ ap (λ j. last - j) same)

-- The whole

in_two : (a b : List Happening) (q : Plan) (r : Ran) → then (always (a ++ b)) q r ≡ then (always a) (then (always b) q) r
in_two a b q r =
    ap (λ (z : Ran). (a ++ b) ++ q z) (run-append r a b) ∙ append_assoc a b (q (run_from (run_from r a) b))

in_three : (a b : List Event) (q : Plan) (r : Ran) → then (always (map on (a ++ b) ++ end ∷ [])) q r ≡ then (always (map on a)) (then (always (map on b)) (then (always (end ∷ [])) q)) r
in_three a b q r =
    ap (λ l. then (always (l ++ end ∷ [])) q r) (map-append on a b)
    ∙ in_two (map on a ++ map on b) (end ∷ []) q r
    ∙ in_two (map on a) (map on b) (then (always (end ∷ [])) q) r

abbrev pub entering : Plan
entering = always (map on (flat_map enters clients))

abbrev pub feeding : ℕ → Plan
feeding x = always (map on (load_steps 20000 0 x))

abbrev pub ending : Plan
ending = always (end ∷ [])

pub whole_is : (x : ℕ) (r : Ran) → entire x r ≡ then entering (then (feeding x) (then ending (catching clients))) r
whole_is x r = in_three (flat_map enters clients) (load_steps 20000 0 x) (catching clients) r
