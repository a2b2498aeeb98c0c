-- Messages judged one after another.
use Rattle.std.proofs.Common.{◌≡◌, ◌+◌, Bool, false, List, [], ◌∷◌, ◌++◌, length, refl, sym, ap, ◌∙◌, append_assoc, append-nil, length-append}
use Rattle.std.specs.Prelude.{Option, None, Some, flat_map, unwrap_or}
use Rattle.std.specs.Option.{option_or}
use Rattle.std.specs.List.{fold}
use Rattle.std.proofs.lemmas.List.Sums.{fold-append, fold_push}
use Rattle.std.proofs.lemmas.Grind.{flat_map-append}
use Rattle.ty_base.specs.Feed.{changed}
use Rattle.ty_wire.specs.Wire.{frame, frames}
use Rattle.ty_wire.specs.declared.message.Msg.{Msg}
use Rattle.ty_wire.specs.declared.message.Msg.TheVariants.{ClientHello, ServerHello, Kvs, Status as StatusMsg, Crumb, Ping, Pong}
use Rattle.ty_client.specs.declared.fault.StreamFault.{StreamFault}
use Rattle.ty_client.specs.Places.{place_fault, Judged, judged_by, judged_after, latest, told_status, told_number, is_status, has_status}
use Rattle.ty_client.specs.Rebuilt.{Rebuilt, at_of, ats_after, deltas_in, rebuilt_map, pong_of, pongs, last_held}
use Rattle.ty_client.specs.Rebuild.{staged}
use Rattle.ty_client.specs.steps.Stage.{next_stage, stage_ats}

-- behind good messages the rest is judged alone
abbrev behind : List Msg → Judged → Judged
behind ms j = record { good = ms ++ j.good; fault = j.fault }

-- one message is no fault, or the first is
judge_first : (f : Option StreamFault) (m : Msg) (ms : List Msg) (later longer rest : Judged) → (later.fault ≡ None → longer ≡ behind ms rest) → (judged_by f m later).fault ≡ None → judged_by f m longer ≡ behind (m ∷ ms) rest
judge_first None m ms later longer rest goes h = ap (judged_by None m) (goes h)
judge_first (Some f) m ms later longer rest goes h = cc

pub judged_more : (before ms more : List Msg) → (judged_after before ms).fault ≡ None → judged_after before (ms ++ more) ≡ record { good = ms ++ (judged_after (before ++ ms) more).good; fault = (judged_after (before ++ ms) more).fault }
unfolding judged_after
judged_more before [] more h = ap (λ b. judged_after b more) (sym (append-nil before))
judged_more before (m ∷ ms) more h =
    judge_first (place_fault before m) m ms (judged_after (before ++ m ∷ []) ms) (judged_after (before ++ m ∷ []) (ms ++ more)) (judged_after (before ++ (m ∷ ms)) more)
    (λ k. judged_more (before ++ m ∷ []) ms more k ∙ ap (λ b. behind ms (judged_after b more)) (append_assoc before (m ∷ []) ms)) h

pub judged_one : (before : List Msg) (m : Msg) (ms : List Msg) → judged_after before (m ∷ ms) ≡ judged_by (place_fault before m) m (judged_after (before ++ m ∷ []) ms)
unfolding judged_after
judged_one before m ms = refl

pub judged_none : (before : List Msg) → judged_after before [] ≡ record { good = []; fault = None }
unfolding judged_after
judged_none before = refl

pub judged_push : (before done : List Msg) (m : Msg) → judged_after before done ≡ record { good = done; fault = None } → place_fault (before ++ done) m ≡ None → judged_after before (done ++ m ∷ []) ≡ record { good = done ++ m ∷ []; fault = None }
judged_push before done m e h =
    judged_more before done (m ∷ []) (ap (λ (j : Judged). j.fault) e)
    ∙ ap (behind done) (judged_one (before ++ done) m [] ∙ ap (λ f. judged_by f m (judged_after ((before ++ done) ++ m ∷ []) [])) h ∙ ap (judged_by None m) (judged_none ((before ++ done) ++ m ∷ [])))

pub judged_stop : (before done : List Msg) (m : Msg) (ms : List Msg) (f : StreamFault) → judged_after before done ≡ record { good = done; fault = None } → place_fault (before ++ done) m ≡ Some f → judged_after before (done ++ m ∷ ms) ≡ record { good = done; fault = Some f }
judged_stop before done m ms f e h =
    judged_more before done (m ∷ ms) (ap (λ (j : Judged). j.fault) e)
    ∙ ap (behind done) (judged_one (before ++ done) m ms ∙ ap (λ g. judged_by g m (judged_after ((before ++ done) ++ m ∷ []) ms)) h)
    ∙ ap (λ (l : List Msg). record { good = l; fault = Some f }) (append-nil done)

-- what is rebuilt

pub ats_more : (before ms more : List Msg) → ats_after before (ms ++ more) ≡ ats_after before ms ++ ats_after (before ++ ms) more
unfolding ats_after
ats_more before [] more = ap (λ b. ats_after b more) (sym (append-nil before))
ats_more before (m ∷ ms) more =
    ap (λ (l : List Rebuilt). at_of before m ++ l) (ats_more (before ++ m ∷ []) ms more ∙ ap (λ b. ats_after (before ++ m ∷ []) ms ++ ats_after b more) (append_assoc before (m ∷ []) ms))
    ∙ sym (append_assoc (at_of before m) (ats_after (before ++ m ∷ []) ms) (ats_after (before ++ (m ∷ ms)) more))

at_of_stage : (before : List Msg) (m : Msg) → at_of before m ≡ stage_ats (staged before) m
at_of_stage before (Crumb n) = refl
at_of_stage before (ClientHello version host) = refl
at_of_stage before (ServerHello version) = refl
at_of_stage before (Kvs ds) = refl
at_of_stage before (StatusMsg s) = refl
at_of_stage before (Ping ts) = refl
at_of_stage before (Pong ts) = refl

ats_one : (before : List Msg) (m : Msg) → ats_after before (m ∷ []) ≡ stage_ats (staged before) m
unfolding ats_after
ats_one before m = append-nil (at_of before m) ∙ at_of_stage before m

pub ats_push : (before done : List Msg) (m : Msg) → ats_after before (done ++ m ∷ []) ≡ ats_after before done ++ stage_ats (staged (before ++ done)) m
ats_push before done m = ats_more before done (m ∷ []) ∙ ap (λ (l : List Rebuilt). ats_after before done ++ l) (ats_one (before ++ done) m)

pub ats_none : (before : List Msg) → ats_after before [] ≡ []
unfolding ats_after
ats_none before = refl

-- the stage of one message more

fresh_or : (new old : Option Bool) → unwrap_or (option_or new old) false ≡ unwrap_or new (unwrap_or old false)
fresh_or None old = refl
fresh_or (Some b) old = refl

latest_push : {A : Type 0} (f : Msg → Option A) (before : List Msg) (m : Msg) → latest f (before ++ m ∷ []) ≡ option_or (f m) (latest f before)
latest_push f before m = fold_push (λ found x. option_or (f x) found) None before m

map_push : (before : List Msg) (m : Msg) → rebuilt_map (before ++ m ∷ []) ≡ fold changed (rebuilt_map before) (deltas_in m)
map_push before m =
    ap (fold changed []) (flat_map-append deltas_in before (m ∷ []))
    ∙ fold-append changed [] (flat_map deltas_in before) (deltas_in m ++ [])
    ∙ ap (fold changed (rebuilt_map before)) (append-nil (deltas_in m))

pub staged_push : (before : List Msg) (m : Msg) → staged (before ++ m ∷ []) ≡ next_stage (staged before) m
staged_push before m =
    let frame : length (before ++ m ∷ []) + 1 ≡ length before + 1 + 1 = ap (λ n. n + 1) (length-append before (m ∷ [])) in
    let status : latest told_status (before ++ m ∷ []) ≡ option_or (told_status m) (latest told_status before) = latest_push told_status before m in
    let fresh : has_status (before ++ m ∷ []) ≡ unwrap_or (is_status m) (has_status before) = ap (λ o. unwrap_or o false) (latest_push is_status before m) ∙ fresh_or (is_status m) (latest is_status before) in
    let number : latest told_number (before ++ m ∷ []) ≡ option_or (told_number m) (latest told_number before) = latest_push told_number before m in
    let pairs : rebuilt_map (before ++ m ∷ []) ≡ fold changed (rebuilt_map before) (deltas_in m) = map_push before m in
    λ i. record { frame = frame i; status = status i; fresh = fresh i; number = number i; pairs = pairs i }

pub pongs_push : (done : List Msg) (m : Msg) → frames (pongs (done ++ m ∷ [])) ≡ frames (pongs done) ++ frames (pong_of m)
pongs_push done m =
    ap frames (flat_map-append pong_of done (m ∷ []) ∙ ap (λ (l : List Msg). pongs done ++ l) (append-nil (pong_of m)))
    ∙ flat_map-append frame (pongs done) (pong_of m)

pub pongs_more : (ms more : List Msg) → frames (pongs (ms ++ more)) ≡ frames (pongs ms) ++ frames (pongs more)
pongs_more ms more = ap frames (flat_map-append pong_of ms more) ∙ flat_map-append frame (pongs ms) (pongs more)

pub last_more : (held : Option Rebuilt) (xs ys : List Rebuilt) → last_held held (xs ++ ys) ≡ last_held (last_held held xs) ys
unfolding last_held
last_more held [] ys = refl
last_more held (a ∷ xs) ys = last_more (Some a) xs ys
