-- A source that is followed, piece by piece.
use Rattle.std.proofs.Common.{◌≡◌, ℕ, zero, suc, false, drop, ◌+◌, ◌<◌, ◌≤◌, List, [], ◌∷◌, ◌++◌, Bool, length, take, refl, sym, ap, ◌∙◌, append-nil, subst, arith, length-append}
use Rattle.std.proofs.lemmas.Grind.{flat_map-append}
use Rattle.std.proofs.lemmas.List.{take-take}
use Rattle.std.specs.Prelude.{Option, None, Some, Result, Ok, Err, OnOk, IfErr, option_map}
use Rattle.std.specs.Option.{option_or}
use Rattle.std.specs.Io.KnownBytes.{Appends, Consumes, IsAtEnd}
use Rattle.ty_base.specs.declared.limits.TheConstants.{INPUT_BYTES}
use Rattle.ty_base.specs.Devices.{Output, Seen}
use Rattle.ty_base.specs.Fronts.{AppendsFront}
use Rattle.ty_base.proofs.Known.{Appends-then, Appends-same, AppendsFront-after, Consumes-then}
use Rattle.ty_wire.specs.Wire.{frames}
use Rattle.ty_wire.specs.Held.{FramesHeld}
use Rattle.ty_wire.specs.Stream.{FramesStand, FramesStandBy, FramesOpen, Reads}
use Rattle.ty_wire.specs.declared.message.Msg.{Msg}
use Rattle.ty_wire.specs.declared.fault.WireFault.{WireFault}
use Rattle.ty_client.specs.declared.fault.StreamFault.{StreamFault}
use Rattle.ty_client.specs.declared.fault.StreamFault.TheVariants.{Wire}
use Rattle.ty_client.specs.declared.follower.FollowFault.{FollowFault}
use Rattle.ty_client.specs.declared.follower.Stop.{Stop}
use Rattle.ty_client.specs.declared.follower.Stop.TheVariants.{Fault, Sink, Memory}
use Rattle.ty_client.specs.declared.text.Unwritten.{Unwritten}
use Rattle.ty_client.specs.Places.{judged_after}
use Rattle.ty_client.specs.Rebuilt.{Rebuilt, ats, ats_after, pongs}
use Rattle.ty_client.specs.Heard.{Hears}
use Rattle.ty_client.specs.Rebuild.{Staged, staged, IsGoodSoFar}
use Rattle.ty_client.specs.Text.{at_text, rebuilt_text}
use Rattle.ty_client.specs.Followed.{Followed, FollowedPart, Ended, StoppedBy}
use Rattle.ty_client.specs.steps.Pieces.{IsJudgedAndTold, GivenAll, GivenPart, IsPieceHeard, EndsAt, fault_by}
use Rattle.ty_client.specs.steps.Stage.{IsHeard}
use Rattle.ty_client.proofs.Connections.{heard_on, hears_nothing, good_nothing}
use Rattle.ty_client.proofs.Judging.{ats_more, ats_none}

-- one piece

-- what a piece's messages come to, whatever was told of them
abbrev pub PieceHeard : FramesHeld → List ℕ → List ℕ → List Msg → List Msg → Option WireFault → Type 0
PieceHeard v bytes piece ms msgs wire =
    IsHeard v (staged (ms ++ (judged_after ms msgs).good)) bytes piece ms (ats_after ms (judged_after ms msgs).good) (option_or (judged_after ms msgs).fault (option_map Wire wire)) [] (frames (pongs (judged_after ms msgs).good))

pub piece_heard : (u v : FramesHeld) (s : Staged) (bytes piece : List ℕ) (ms msgs : List Msg) (wire : Option WireFault) → IsGoodSoFar u s bytes ms → FramesStand v (bytes ++ piece) (ms ++ msgs) → wire ≡ v.fault
    → PieceHeard v bytes piece ms msgs wire
piece_heard u v s bytes piece ms msgs wire o k w =
    let good = (judged_after ms msgs).good in
    heard_on u v s (staged (ms ++ good)) bytes piece ms msgs (ats_after ms good) (judged_after ms msgs).fault wire [] (frames (pongs good)) o k w
    (record { fault_is = refl; at_ends_are = refl; stage_is = refl; up_is = refl })

-- the piece was told whole
pub given_all : (brief : Bool) (v : FramesHeld) (stage : Staged) (fault : Option StreamFault) (bytes piece : List ℕ) (ms msgs : List Msg) (wire : Option WireFault) (old new : Output) → PieceHeard v bytes piece ms msgs wire
    → IsJudgedAndTold brief (Ok fault) ms msgs stage old new → GivenAll brief (option_or fault (option_map Wire wire)) v stage (bytes ++ piece) ms old.held new.held
given_all brief v stage fault bytes piece ms msgs wire old new h k =
    let good = (judged_after ms msgs).good in
    let F : Option StreamFault → Type 0 = λ f. GivenAll brief (option_or f (option_map Wire wire)) v stage (bytes ++ piece) ms old.held new.held in
    let S : Staged → Type 0 = λ s. GivenAll brief (option_or (judged_after ms msgs).fault (option_map Wire wire)) v s (bytes ++ piece) ms old.held new.held in
    subst F (sym k.fault_is) (subst S (sym k.stage_is) (record {
      more = h.more;
      hears = h.hears;
      goes_on = h.goes_on;
      given = subst (λ (l : List Rebuilt). Appends old.held new.held (rebuilt_text brief l)) h.at_ends_are k.told.ok;
    }))

-- a front of its text was told
pub given_part : (brief : Bool) (e : Unwritten) (v : FramesHeld) (stage : Staged) (bytes piece : List ℕ) (ms msgs : List Msg) (wire : Option WireFault) (old new : Output) → PieceHeard v bytes piece ms msgs wire
    → IsJudgedAndTold brief (Err e) ms msgs stage old new → (part : GivenPart brief (bytes ++ piece) ms old.held new.held) × (part.unheard ≡ [])
given_part brief e v stage bytes piece ms msgs wire old new h k = (
  record {
    front = bytes ++ piece;
    unheard = [];
    whole = sym (append-nil (bytes ++ piece));
    more = h.more;
    fault = option_or (judged_after ms msgs).fault (option_map Wire wire);
    hears = h.hears;
    given = subst (λ (l : List Rebuilt). AppendsFront old.held new.held (rebuilt_text brief l)) h.at_ends_are k.told.err;
  },
  refl,
)

-- nothing of it was heard
pub given_none : (brief : Bool) (bytes piece : List ℕ) (ms : List Msg) (a : Option (List ℕ)) → Hears bytes ms None → GivenPart brief (bytes ++ piece) ms a a
given_none brief bytes piece ms a h = record {
  front = bytes;
  unheard = piece;
  whole = refl;
  more = [];
  fault = None;
  hears = subst (λ (l : List Msg). Hears bytes l None) (sym (append-nil ms)) h;
  given = ([], rebuilt_text brief (ats_after ms []), refl, Appends-same a);
}

pub goes_by : (result : Result (Unit {0}) Stop) (brief : Bool) (v : FramesHeld) (stage : Staged) (fault : Option StreamFault) (bytes piece : List ℕ) (ms : List Msg) (old new : Output)
    → OnOk result (fault ≡ None) → IfErr result (λ e. (f : StreamFault) × (fault ≡ Some f) × (e ≡ Fault f)) → GivenAll brief fault v stage (bytes ++ piece) ms old.held new.held
    → IsPieceHeard brief result v stage bytes piece ms old new
goes_by (Ok u) brief v stage fault bytes piece ms old new ok err g = subst (λ (f : Option StreamFault). GivenAll brief f v stage (bytes ++ piece) ms old.held new.held) ok g
goes_by (Err x) brief v stage fault bytes piece ms old new ok (f, p, q) g =
    subst (λ (y : Stop). IsPieceHeard brief (Err y) v stage bytes piece ms old new) (sym q) (subst (λ (o : Option StreamFault). GivenAll brief o v stage (bytes ++ piece) ms old.held new.held) p g)

-- the source so far

pub record Following (brief : Bool) (unread : FramesHeld) (stage : Staged) (left_before left held_before held : Option (List ℕ)) (taken : ℕ) : Type 0 where
  pub bytes : List ℕ
  pub ms : List Msg
  pub counted : taken ≡ length bytes
  pub consumed : Consumes left_before left bytes
  pub hears : Hears bytes ms None
  pub good : IsGoodSoFar unread stage bytes ms
  pub written : Appends held_before held (rebuilt_text brief (ats ms))

pub following_begins : (brief : Bool) (u : FramesHeld) (s : Staged) (l h : Option (List ℕ)) → Consumes l l [] → FramesStand u [] [] → u.fault ≡ None
    → s ≡ record { frame = 1; status = None; fresh = false; number = None; pairs = [] } → Following brief u s l l h h 0
following_begins brief u s l h c k f e = record {
  bytes = [];
  ms = [];
  counted = refl;
  consumed = c;
  hears = hears_nothing u k f;
  good = good_nothing u s k f e;
  written = subst (λ (x : List Rebuilt). Appends h h (rebuilt_text brief x)) (sym (ats_none [])) (Appends-same h);
}

pub text_more : (brief : Bool) (ms more : List Msg) → rebuilt_text brief (ats (ms ++ more)) ≡ rebuilt_text brief (ats ms) ++ rebuilt_text brief (ats_after ms more)
text_more brief ms more = ap (rebuilt_text brief) (ats_more [] ms more) ∙ flat_map-append (at_text brief) (ats ms) (ats_after ms more)

pub following_more : (brief : Bool) (u v : FramesHeld) (s t : Staged) (l l' l'' h h' h'' : Option (List ℕ)) (taken count : ℕ) (piece : List ℕ) (f : Following brief u s l l' h h' taken)
    → Consumes l' l'' piece → count ≡ length piece → GivenAll brief None v t (f.bytes ++ piece) f.ms h' h''
    → Following brief v t l l'' h h'' (taken + count)
following_more brief u v s t l l' l'' h h' h'' taken count piece f c n g = record {
  bytes = f.bytes ++ piece;
  ms = f.ms ++ g.more;
  counted = omega (arith, f.counted, n, length-append f.bytes piece);
  consumed = Consumes-then l l' l'' f.bytes piece f.consumed c;
  hears = g.hears;
  good = g.goes_on;
  written = subst (λ (x : List ℕ). Appends h h'' x) (sym (text_more brief f.ms g.more)) (Appends-then h h' h'' (rebuilt_text brief (ats f.ms)) (rebuilt_text brief (ats_after f.ms g.more)) f.written g.given);
}

pub open_of : (u : FramesHeld) (s : Staged) (bytes : List ℕ) (ms : List Msg) → IsGoodSoFar u s bytes ms → FramesOpen u bytes ms
open_of u s bytes ms o = subst (λ (x : Option WireFault). FramesStandBy x u bytes ms) o.no_wire_fault o.frames_stand.1

pub following_short : (brief : Bool) (u : FramesHeld) (s : Staged) (l l' h h' : Option (List ℕ)) (taken : ℕ) → Following brief u s l l' h h' taken → taken < INPUT_BYTES
following_short brief u s l l' h h' taken f = omega (arith, f.counted, (open_of u s f.bytes f.ms f.good).short)

pub followed_kept : (brief : Bool) (u : FramesHeld) (s : Staged) (old new : Seen) (l' h' : Option (List ℕ)) (taken : ℕ) (f : Following brief u s old.source.left l' old.sink.held h' taken) → Consumes old.source.left new.source.left f.bytes → new.sink.held ≡ h' → Followed brief old new None
followed_kept brief u s old new l' h' taken f c e = record {
  bytes = f.bytes;
  ms = f.ms;
  taken = c;
  hears = f.hears;
  written = subst (λ (x : Option (List ℕ)). Appends old.sink.held x (rebuilt_text brief (ats f.ms))) (sym e) f.written;
}

pub nothing_of : (rest : List ℕ) → length rest ≡ 0 → rest ≡ []
nothing_of [] e = refl
nothing_of (x ∷ rest) e = absurd (omega arith)

ends : (result : Result (Unit {0}) FollowFault) (brief : Bool) (old new : Seen) (rest : List ℕ) → Ended brief old new rest → EndsAt result (length rest) → OnOk result (Ended brief old new []) × IfErr result (λ e. StoppedBy brief old new e)
ends (Ok u) brief old new rest d n = (subst (λ (x : List ℕ). Ended brief old new x) (nothing_of rest n) d, tt)
ends (Err fault) brief old new rest d n = (tt, subst (λ (e : FollowFault). StoppedBy brief old new e) (sym n.1) (rest, d, n.0, refl))

-- at the source's end, behind a rest
pub ended_by : (result : Result (Unit {0}) FollowFault) (brief : Bool) (u : FramesHeld) (s : Staged) (old new : Seen) (l' h' : Option (List ℕ)) (taken : ℕ) (f : Following brief u s old.source.left l' old.sink.held h' taken)
    → Consumes old.source.left new.source.left f.bytes → new.sink.held ≡ h' → IsAtEnd new.source.left
    → ((bytes rest : List ℕ) (ms : List Msg) → FramesStand u bytes ms → Reads bytes ms rest → EndsAt result (length rest))
    → OnOk result (Ended brief old new []) × IfErr result (λ e. StoppedBy brief old new e)
unfolding followed_kept
ended_by result brief u s old new l' h' taken f c e t k =
    let o : FramesOpen u f.bytes f.ms = open_of u s f.bytes f.ms f.good in
    ends result brief old new u.rest (record { followed = followed_kept brief u s old new l' h' taken f c e; ended = t; reads = o.reads }) (k f.bytes u.rest f.ms f.good.frames_stand o.reads)

part_after : (brief : Bool) (u : FramesHeld) (s : Staged) (old new : Seen) (l' h' : Option (List ℕ)) (taken : ℕ) (piece : List ℕ) (f : Following brief u s old.source.left l' old.sink.held h' taken)
    → Consumes l' new.source.left piece → (p : GivenPart brief (f.bytes ++ piece) f.ms h' new.sink.held) → (part : FollowedPart brief old new) × (part.unheard ≡ p.unheard)
part_after brief u s old new l' h' taken piece f c p = (
  record {
    bytes = p.front;
    unheard = p.unheard;
    ms = f.ms ++ p.more;
    fault = p.fault;
    taken = subst (λ (x : List ℕ). Consumes old.source.left new.source.left x) p.whole (Consumes-then old.source.left l' new.source.left f.bytes piece f.consumed c);
    hears = p.hears;
    written = subst (λ (x : List ℕ). AppendsFront old.sink.held new.sink.held x) (sym (text_more brief f.ms p.more)) (AppendsFront-after old.sink.held h' new.sink.held (rebuilt_text brief (ats f.ms)) (rebuilt_text brief (ats_after f.ms p.more)) f.written p.given);
  },
  refl,
)

-- a piece behind which nothing follows
pub stopped_by : (stop : Stop) (brief : Bool) (u v : FramesHeld) (s t : Staged) (old new : Seen) (l' : Option (List ℕ)) (now : Output) (taken : ℕ) (piece : List ℕ) (f : Following brief u s old.source.left l' old.sink.held now.held taken)
    → Consumes l' new.source.left piece → old.sink.faults ≤ now.faults → IsPieceHeard brief (Err stop) v t f.bytes piece f.ms now new.sink → StoppedBy brief old new (fault_by stop)
stopped_by (Fault x) brief u v s t old new l' now taken piece f c le h = record {
  bytes = f.bytes ++ piece;
  ms = f.ms ++ h.more;
  taken = Consumes-then old.source.left l' new.source.left f.bytes piece f.consumed c;
  hears = h.hears;
  written = subst (λ (x : List ℕ). Appends old.sink.held new.sink.held x) (sym (text_more brief f.ms h.more)) (Appends-then old.sink.held now.held new.sink.held (rebuilt_text brief (ats f.ms)) (rebuilt_text brief (ats_after f.ms h.more)) f.written h.given);
}
stopped_by Sink brief u v s t old new l' now taken piece f c le (part, rose) =
    let p : (q : FollowedPart brief old new) × (q.unheard ≡ part.0.unheard) = part_after brief u s old new l' now.held taken piece f c part.0 in
    ((p.0, p.1 ∙ part.1), omega (arith, le, rose))
stopped_by Memory brief u v s t old new l' now taken piece f c le h = (part_after brief u s old new l' now.held taken piece f c h).0

-- before anything was taken
pub nothing_followed : (brief : Bool) (u : FramesHeld) (old new : Seen) → Consumes old.source.left new.source.left [] → Appends old.sink.held new.sink.held [] → FramesStand u [] [] → u.fault ≡ None → FollowedPart brief old new
nothing_followed brief u old new c a k f = record {
  bytes = [];
  unheard = [];
  ms = [];
  fault = None;
  taken = c;
  hears = hears_nothing u k f;
  written = ([], rebuilt_text brief (ats []), refl, a);
}

-- a piece at the front of its buffer

take_within : (n : ℕ) (xs ys : List ℕ) → n ≤ length xs → take n (xs ++ ys) ≡ take n xs
take_within zero xs ys h = refl
take_within (suc n) [] ys h = absurd (omega arith)
take_within (suc n) (x ∷ xs) ys h = ap (λ (l : List ℕ). x ∷ l) (take_within n xs ys (omega arith))

pub take_same : (n len : ℕ) (buf items : List ℕ) → n ≤ length buf → n ≤ len → take n (take len (buf ++ drop (length buf) items)) ≡ take n buf
take_same n len buf items h k = take-take n len (buf ++ drop (length buf) items) k ∙ take_within n buf (drop (length buf) items) h

pub length_take : (n : ℕ) (xs : List ℕ) → n ≤ length xs → n ≡ length (take n xs)
length_take zero xs h = refl
length_take (suc n) [] h = absurd (omega arith)
length_take (suc n) (x ∷ xs) h = ap (λ m. suc m) (length_take n xs (omega arith))

pub consumed_end : (a b c : Option (List ℕ)) (xs buf : List ℕ) (n : ℕ) → Consumes a b xs → Consumes b c (take n buf) → n ≡ 0 → Consumes a c xs
consumed_end a b c xs buf n h k e =
    subst (λ (l : List ℕ). Consumes a c l) (ap (λ m. xs ++ take m buf) e ∙ append-nil xs) (Consumes-then a b c xs (take n buf) h k)
