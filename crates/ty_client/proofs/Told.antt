-- How far a loop over messages has come whose texts are given one by one.
use Rattle.std.proofs.Common.{◌≡◌, ◌≤◌, ℕ, Bool, List, [], ◌∷◌, ◌++◌, sym, ap, subst, ◌∙◌, append_assoc, append-nil, arith}
use Rattle.std.specs.Prelude.{Option, None, Some, Ok, Err}
use Rattle.std.proofs.lemmas.Grind.{flat_map-append}
use Rattle.std.specs.Io.KnownBytes.{Appends}
use Rattle.ty_base.specs.Devices.{Output}
use Rattle.ty_base.specs.Fronts.{AppendsFront}
use Rattle.ty_base.proofs.Known.{Appends-then, Appends-same, AppendsFront-after, AppendsFront-more}
use Rattle.ty_wire.specs.declared.message.Msg.{Msg}
use Rattle.ty_client.specs.declared.fault.StreamFault.{StreamFault}
use Rattle.ty_client.specs.declared.text.Unwritten.{Unwritten}
use Rattle.ty_client.specs.declared.text.Unwritten.TheVariants.{Sink}
use Rattle.ty_client.specs.Places.{place_fault, Judged, judged_by, judged_after}
use Rattle.ty_client.specs.Rebuilt.{Rebuilt, ats_after}
use Rattle.ty_client.specs.Rebuild.{Staged, staged}
use Rattle.ty_client.specs.Text.{at_text, rebuilt_text}
use Rattle.ty_client.specs.steps.Given.{Wrote}
use Rattle.ty_client.specs.steps.Pieces.{IsJudgedAndTold}
use Rattle.ty_client.specs.steps.Stage.{stage_fault, next_stage, stage_ats}
use Rattle.ty_client.proofs.Judging.{judged_none, judged_one, judged_more, judged_push, judged_stop, ats_none, ats_more, ats_push, staged_push}
use Rattle.ty_client.proofs.Printed.{not_err, same_cause}

-- the messages done, which stand behind those before, were all good, and their text was given
pub record Told (brief : Bool) (before done : List Msg) (stage : Staged) (old new : Output) : Type 0 where
  pub judged : judged_after before done ≡ record { good = done; fault = None }
  pub stage_is : stage ≡ staged (before ++ done)
  pub given : Appends old.held new.held (rebuilt_text brief (ats_after before done))
  pub later : old.faults ≤ new.faults

pub told-begin : (brief : Bool) (before done : List Msg) (stage : Staged) (old : Output) → done ≡ [] → stage ≡ staged before → Told brief before done stage old old
told-begin brief before done stage old d s = record {
  judged = ap (judged_after before) d ∙ judged_none before ∙ ap (λ (l : List Msg). record { good = l; fault = None }) (sym d);
  stage_is = s ∙ ap staged (sym (append-nil before) ∙ ap (λ (l : List Msg). before ++ l) (sym d));
  given = subst (λ (l : List Rebuilt). Appends old.held old.held (rebuilt_text brief l)) (sym (ats_none before) ∙ ap (ats_after before) (sym d)) (Appends-same old.held);
  later = omega arith;
}

text_push : (brief : Bool) (before done : List Msg) (m : Msg) (stage : Staged) → stage ≡ staged (before ++ done)
    → rebuilt_text brief (ats_after before done) ++ rebuilt_text brief (stage_ats stage m) ≡ rebuilt_text brief (ats_after before (done ++ m ∷ []))
text_push brief before done m stage s =
    ap (λ (t : Staged). rebuilt_text brief (ats_after before done) ++ rebuilt_text brief (stage_ats t m)) s
    ∙ sym (ap (rebuilt_text brief) (ats_push before done m) ∙ flat_map-append (at_text brief) (ats_after before done) (stage_ats (staged (before ++ done)) m))

pub told-step : (brief : Bool) (before done : List Msg) (m : Msg) (stage next : Staged) (old now new : Output) → Told brief before done stage old now → stage_fault stage m ≡ None → next ≡ next_stage stage m
    → Appends now.held new.held (rebuilt_text brief (stage_ats stage m)) → now.faults ≤ new.faults → Told brief before (done ++ m ∷ []) next old new
told-step brief before done m stage next old now new t f s a le = record {
  judged = judged_push before done m t.judged (ap (λ (x : Staged). stage_fault x m) (sym t.stage_is) ∙ f);
  stage_is = s ∙ ap (λ (x : Staged). next_stage x m) t.stage_is ∙ sym (staged_push (before ++ done) m) ∙ ap staged (append_assoc before done (m ∷ []));
  given = subst (λ (l : List ℕ). Appends old.held new.held l) (text_push brief before done m stage t.stage_is)
      (Appends-then old.held now.held new.held (rebuilt_text brief (ats_after before done)) (rebuilt_text brief (stage_ats stage m)) t.given a);
  later = omega (arith, t.later, le);
}

told-is : (brief : Bool) (before ms done : List Msg) (stage : Staged) (fault : Option StreamFault) (old new : Output) → Told brief before done stage old new → judged_after before ms ≡ record { good = done; fault = fault }
    → IsJudgedAndTold brief (Ok fault) before ms stage old new
told-is brief before ms done stage fault old new t e =
    let good : done ≡ (judged_after before ms).good = sym (ap (λ (j : Judged). j.good) e) in
    record {
      fault_is = sym (ap (λ (j : Judged). j.fault) e);
      stage_is = t.stage_is ∙ ap (λ (l : List Msg). staged (before ++ l)) good;
      told = record {
        ok = subst (λ (l : List Msg). Appends old.held new.held (rebuilt_text brief (ats_after before l))) good t.given;
        err = tt;
        cause = λ h. absurd (not_err fault Sink h);
        later = t.later;
      };
    }

pub told-stop : (brief : Bool) (before done : List Msg) (m : Msg) (ms : List Msg) (f : StreamFault) (stage : Staged) (old new : Output) → Told brief before done stage old new → stage_fault stage m ≡ Some f
    → IsJudgedAndTold brief (Ok (Some f)) before (done ++ m ∷ ms) stage old new
told-stop brief before done m ms f stage old new t h =
    told-is brief before (done ++ m ∷ ms) done stage (Some f) old new t (judged_stop before done m ms f t.judged (ap (λ (x : Staged). stage_fault x m) (sym t.stage_is) ∙ h))

pub told-end : (brief : Bool) (before done ms : List Msg) (stage : Staged) (old new : Output) → Told brief before done stage old new → done ≡ ms → IsJudgedAndTold brief (Ok None) before ms stage old new
told-end brief before done ms stage old new t e = told-is brief before ms done stage None old new t (ap (judged_after before) (sym e) ∙ t.judged)

-- where a message's text wasn't given whole, a front of all text was given

good_longer : (before done : List Msg) (m : Msg) (ms : List Msg) → judged_after before done ≡ record { good = done; fault = None } → place_fault (before ++ done) m ≡ None
    → (judged_after before (done ++ m ∷ ms)).good ≡ (done ++ m ∷ []) ++ (judged_after ((before ++ done) ++ m ∷ []) ms).good
good_longer before done m ms e h =
    ap (λ (j : Judged). j.good) (judged_more before done (m ∷ ms) (ap (λ (j : Judged). j.fault) e))
    ∙ ap (λ (j : Judged). done ++ j.good) (judged_one (before ++ done) m ms ∙ ap (λ f. judged_by f m (judged_after ((before ++ done) ++ m ∷ []) ms)) h)
    ∙ sym (append_assoc done (m ∷ []) (judged_after ((before ++ done) ++ m ∷ []) ms).good)

text_longer : (brief : Bool) (before done more : List Msg) → rebuilt_text brief (ats_after before (done ++ more)) ≡ rebuilt_text brief (ats_after before done) ++ rebuilt_text brief (ats_after (before ++ done) more)
text_longer brief before done more = ap (rebuilt_text brief) (ats_more before done more) ∙ flat_map-append (at_text brief) (ats_after before done) (ats_after (before ++ done) more)

pub told-cut : (brief : Bool) (before done : List Msg) (m : Msg) (ms : List Msg) (e : Unwritten) (stage next : Staged) (old now new : Output) → Told brief before done stage old now → stage_fault stage m ≡ None
    → Wrote {T = Unit {0}} (Err e) now.held new.held now.faults new.faults (rebuilt_text brief (stage_ats stage m)) → IsJudgedAndTold brief (Err e) before (done ++ m ∷ ms) next old new
told-cut brief before done m ms e stage next old now new t f w =
    let here : place_fault (before ++ done) m ≡ None = ap (λ (x : Staged). stage_fault x m) (sym t.stage_is) ∙ f in
    let more : List Msg = (judged_after ((before ++ done) ++ m ∷ []) ms).good in
    let good : (judged_after before (done ++ m ∷ ms)).good ≡ (done ++ m ∷ []) ++ more = good_longer before done m ms t.judged here in
    let one = rebuilt_text brief (ats_after before done) in
    let two = rebuilt_text brief (stage_ats stage m) in
    let rest = rebuilt_text brief (ats_after (before ++ (done ++ m ∷ [])) more) in
    let whole : (one ++ two) ++ rest ≡ rebuilt_text brief (ats_after before (judged_after before (done ++ m ∷ ms)).good) =
    ap (λ (l : List ℕ). l ++ rest) (text_push brief before done m stage t.stage_is) ∙ sym (text_longer brief before (done ++ m ∷ []) more) ∙ ap (λ (l : List Msg). rebuilt_text brief (ats_after before l)) (sym good) in
    record {
      fault_is = tt;
      stage_is = tt;
      told = record {
        ok = tt;
        err = subst (λ (l : List ℕ). AppendsFront old.held new.held l) whole (AppendsFront-more old.held new.held (one ++ two) rest (AppendsFront-after old.held now.held new.held one two t.given w.err));
        cause = λ h. omega (arith, t.later, w.cause (same_cause e Sink h));
        later = omega (arith, t.later, w.later);
      };
    }
