-- How far a loop over messages has come.
use Rattle.std.proofs.Common.{◌≡◌, ℕ, List, [], ◌∷◌, ◌++◌, sym, ap, ◌∙◌, append_assoc, append-nil}
use Rattle.std.specs.Prelude.{Option, None, Some}
use Rattle.ty_wire.specs.Wire.{frames}
use Rattle.ty_wire.specs.declared.message.Msg.{Msg}
use Rattle.ty_client.specs.declared.fault.StreamFault.{StreamFault}
use Rattle.ty_client.specs.Places.{Judged, judged_after}
use Rattle.ty_client.specs.Rebuilt.{Rebuilt, ats_after, pong_of, pongs}
use Rattle.ty_client.specs.Rebuild.{Staged, staged}
use Rattle.ty_client.specs.steps.Stage.{stage_fault, next_stage, stage_ats, IsJudged}
use Rattle.ty_client.proofs.Judging.{judged_none, judged_push, judged_stop, ats_none, ats_push, staged_push, pongs_push}

-- the messages done, which stand behind those before, were all good
pub record Progress (before done : List Msg) (ats : List Rebuilt) (stage : Staged) (up_before up : List ℕ) : Type 0 where
  pub judged : judged_after before done ≡ record { good = done; fault = None }
  pub at_ends : ats ≡ ats_after before done
  pub stage_is : stage ≡ staged (before ++ done)
  pub up_is : up ≡ up_before ++ frames (pongs done)

pub progress-begin : (before done : List Msg) (ats : List Rebuilt) (stage : Staged) (up : List ℕ) → done ≡ [] → ats ≡ [] → stage ≡ staged before → Progress before done ats stage up up
progress-begin before done ats stage up d a s = record {
  judged = ap (judged_after before) d ∙ judged_none before ∙ ap (λ (l : List Msg). record { good = l; fault = None }) (sym d);
  at_ends = a ∙ sym (ats_none before) ∙ ap (ats_after before) (sym d);
  stage_is = s ∙ ap staged (sym (append-nil before) ∙ ap (λ (l : List Msg). before ++ l) (sym d));
  up_is = sym (append-nil up) ∙ ap (λ (l : List Msg). up ++ frames (pongs l)) (sym d);
}

pub progress-step : (before done : List Msg) (m : Msg) (ats ats' : List Rebuilt) (stage stage' : Staged) (u up up' : List ℕ) → Progress before done ats stage u up → stage_fault stage m ≡ None → stage' ≡ next_stage stage m → ats' ≡ ats ++ stage_ats stage m → up' ≡ up ++ frames (pong_of m) → Progress before (done ++ m ∷ []) ats' stage' u up'
progress-step before done m ats ats' stage stage' u up up' p f s a q = record {
  judged = judged_push before done m p.judged (ap (λ (t : Staged). stage_fault t m) (sym p.stage_is) ∙ f);
  at_ends = a ∙ ap (λ (l : List Rebuilt). l ++ stage_ats stage m) p.at_ends ∙ ap (λ (t : Staged). ats_after before done ++ stage_ats t m) p.stage_is ∙ sym (ats_push before done m);
  stage_is = s ∙ ap (λ (t : Staged). next_stage t m) p.stage_is ∙ sym (staged_push (before ++ done) m) ∙ ap staged (append_assoc before done (m ∷ []));
  up_is = q ∙ ap (λ (l : List ℕ). l ++ frames (pong_of m)) p.up_is ∙ append_assoc u (frames (pongs done)) (frames (pong_of m)) ∙ ap (λ (l : List ℕ). u ++ l) (sym (pongs_push done m));
}

judged-is : (before ms done : List Msg) (ats : List Rebuilt) (stage : Staged) (u up : List ℕ) (fault : Option StreamFault) → Progress before done ats stage u up → judged_after before ms ≡ record { good = done; fault = fault } → IsJudged before ms ats fault stage u up
judged-is before ms done ats stage u up fault p e =
    let good : done ≡ (judged_after before ms).good = sym (ap (λ (j : Judged). j.good) e) in
    record {
      fault_is = sym (ap (λ (j : Judged). j.fault) e);
      at_ends_are = p.at_ends ∙ ap (ats_after before) good;
      stage_is = p.stage_is ∙ ap (λ (l : List Msg). staged (before ++ l)) good;
      up_is = p.up_is ∙ ap (λ (l : List Msg). u ++ frames (pongs l)) good;
    }

pub progress-stop : (before done : List Msg) (m : Msg) (ms : List Msg) (f : StreamFault) (ats : List Rebuilt) (stage : Staged) (u up : List ℕ) → Progress before done ats stage u up → stage_fault stage m ≡ Some f → IsJudged before (done ++ m ∷ ms) ats (Some f) stage u up
progress-stop before done m ms f ats stage u up p h =
    judged-is before (done ++ m ∷ ms) done ats stage u up (Some f) p (judged_stop before done m ms f p.judged (ap (λ (t : Staged). stage_fault t m) (sym p.stage_is) ∙ h))

pub progress-end : (before done ms : List Msg) (ats : List Rebuilt) (stage : Staged) (u up : List ℕ) → Progress before done ats stage u up → done ≡ ms → IsJudged before ms ats None stage u up
progress-end before done ms ats stage u up p e = judged-is before ms done ats stage u up None p (ap (judged_after before) (sym e) ∙ p.judged)
