-- One link that was followed, as a turn.
use Rattle.std.proofs.Common.{◌≡◌, ◌≢◌, ◌∙◌, refl, sym, ap, subst, ℕ, ◌≤◌, true, false, Bool, List, [], ◌∷◌, ◌++◌, append-nil, true≢false}
use Rattle.std.specs.Prelude.{Option, None, Some, Result, Ok, Err}
use Rattle.std.specs.Io.KnownBytes.{Appends}
use Rattle.ty_base.specs.Devices.{Output}
use Rattle.ty_base.specs.Fronts.{AppendsFront}
use Rattle.ty_base.specs.Links.{Sight}
use Rattle.ty_base.specs.Told.{Told}
use Rattle.ty_base.proofs.Telling.{Told-as}
use Rattle.ty_wire.specs.declared.message.Msg.{Msg}
use Rattle.ty_client.specs.Linked.{Scene, client_talk, IsBrought, IsGivenAll, EndIsTaken, EndIsAsBefore, Linked, LinkedPart, LinkEnded, LinkStopped}
use Rattle.ty_client.specs.Rebuilt.{ats}
use Rattle.ty_client.specs.Text.{rebuilt_text}
use Rattle.ty_client.specs.declared.fault.StreamFault.{StreamFault}
use Rattle.ty_client.specs.declared.follower.FollowFault.{FollowFault}
use Rattle.ty_client.specs.declared.follower.FollowFault.TheVariants as follow
use Rattle.ty_dial.specs.declared.fault.DialFault.{DialFault}
use Rattle.ty_dial.specs.declared.fault.DialFault.TheVariants.{Stream, Cut, Write, Link, Door, NoMemory}
use Rattle.ty_dial.specs.Dialled.{Answer, Turn, IsTurn, AnswerShows, turn_text, turns_text, WritesFront, LinkFollowed, IsGivenAllAtEnd}
use Rattle.ty_dial.specs.steps.Turns.{HadTurn, TurnWrites, IsFaultOf}

-- the text of one turn
one_text : (brief : Bool) (t : Turn) → turn_text brief t ≡ turns_text brief (t ∷ [])
one_text brief t = sym (append-nil (turn_text brief t))

at_end : (bytes : List ℕ) (x y : Option Sight) → Told (IsGivenAll bytes) x y → Told (IsGivenAllAtEnd bytes) x y
at_end bytes = Told-as (λ x y h before after. h)

unended : (bytes : List ℕ) (x y : Option Sight) → Told EndIsAsBefore x y → Told (IsGivenAllAtEnd bytes) x y
unended bytes = Told-as (λ x y u before after. absurd (true≢false (sym after ∙ u ∙ before)))

-- the bytes of the link, heard as far as this one's turn goes
abbrev turn_of : List ℕ → List ℕ → List Msg → Answer → Turn
turn_of bytes unheard ms answer = record { bytes = bytes; unheard = unheard; ms = ms; answer = answer }

brought_all : (bytes : List ℕ) (x y : Option Sight) → Told (IsBrought bytes) x y → Told (IsBrought (bytes ++ [])) x y
brought_all bytes x y h = subst (λ (l : List ℕ). Told (IsBrought l) x y) (sym (append-nil bytes)) h

module _ (host : List ℕ) (brief : Bool) (old new : Scene) where
  -- all was heard
  all_followed : (fault : Option StreamFault) (answer : Answer) (l : Linked host brief old new fault) → old.faults ≤ new.faults
      → Told (IsGivenAllAtEnd (client_talk host l.ms)) old.sight new.sight → AnswerShows answer old.sight new.sight old.faults new.faults
      → LinkFollowed host (turn_of l.bytes [] l.ms answer) old.sight new.sight old.faults new.faults
  all_followed fault answer l later given_all shows = record {
    later = later;
    brought = brought_all l.bytes old.sight new.sight l.brought;
    given = l.given;
    given_all = given_all;
    shows = shows;
  }

  all_written : (fault : Option StreamFault) (answer : Answer) (l : Linked host brief old new fault)
      → Appends old.sink.held new.sink.held (turns_text brief (turn_of l.bytes [] l.ms answer ∷ []))
  all_written fault answer l =
      subst (Appends old.sink.held new.sink.held) (one_text brief (turn_of l.bytes [] l.ms answer)) l.written

  part_followed : (answer : Answer) (p : LinkedPart host brief old new) → old.faults ≤ new.faults → AnswerShows answer old.sight new.sight old.faults new.faults
      → LinkFollowed host (turn_of p.bytes p.unheard p.ms answer) old.sight new.sight old.faults new.faults
  part_followed answer p later shows = record {
    later = later;
    brought = p.brought;
    given = p.given;
    given_all = unended (client_talk host p.ms) old.sight new.sight p.unended;
    shows = shows;
  }

  part_written : (answer : Answer) (p : LinkedPart host brief old new)
      → WritesFront brief [] (turn_of p.bytes p.unheard p.ms answer ∷ []) old.sink.held new.sink.held
  part_written answer p = record {
    front = p.written.0;
    rest = p.written.1;
    cut = sym (one_text brief (turn_of p.bytes p.unheard p.ms answer)) ∙ p.written.2;
    written = p.written.3;
  }

  -- how a turn came to its answer
  pub had_ended : LinkEnded host brief old new [] → old.faults ≤ new.faults → old.sink.faults ≤ new.sink.faults
      → HadTurn host brief (Ok tt) old.sight new.sight old.faults new.faults old.sink new.sink
  had_ended e later sink_later = record {
    turn = turn_of e.linked.bytes [] e.linked.ms (Ok tt);
    same = refl;
    is_turn = ((e.linked.hears, refl), e.reads);
    followed = all_followed None (Ok tt) e.linked later (at_end (client_talk host e.linked.ms) old.sight new.sight e.given_all) e.ended;
    writes = record { writes = all_written None (Ok tt) e.linked; rose = tt; later = sink_later };
  }

  pub had_stopped : (f : FollowFault) (d : DialFault) → LinkStopped host brief old new f → IsFaultOf f d → old.faults ≤ new.faults → old.sink.faults ≤ new.sink.faults
      → HadTurn host brief (Err d) old.sight new.sight old.faults new.faults old.sink new.sink
  had_stopped (follow.Stream f) d h is later sink_later = subst (λ (e : DialFault). HadTurn host brief (Err e) old.sight new.sight old.faults new.faults old.sink new.sink) (sym is) (record {
    turn = turn_of h.0.bytes [] h.0.ms (Err (Stream f));
    same = refl;
    is_turn = (h.0.hears, refl);
    followed = all_followed (Some f) (Err (Stream f)) h.0 later (unended (client_talk host h.0.ms) old.sight new.sight h.1) tt;
    writes = record { writes = all_written (Some f) (Err (Stream f)) h.0; rose = tt; later = sink_later };
  })
  had_stopped (follow.Cut left) d h is later sink_later =
      let e = h.1 in
      subst (λ (e : DialFault). HadTurn host brief (Err e) old.sight new.sight old.faults new.faults old.sink new.sink) (sym is) (record {
        turn = turn_of e.linked.bytes [] e.linked.ms (Err (Cut left));
        same = refl;
        is_turn = (h.0, ((e.linked.hears, refl), e.reads), h.2, h.3);
        followed = all_followed None (Err (Cut left)) e.linked later (at_end (client_talk host e.linked.ms) old.sight new.sight e.given_all) e.ended;
        writes = record { writes = all_written None (Err (Cut left)) e.linked; rose = tt; later = sink_later };
      })
  had_stopped follow.Read d h is later sink_later = absurd h
  had_stopped follow.Write d h is later sink_later =
      let p = h.0.0 in
      subst (λ (e : DialFault). HadTurn host brief (Err e) old.sight new.sight old.faults new.faults old.sink new.sink) (sym is) (record {
        turn = turn_of p.bytes p.unheard p.ms (Err Write);
        same = refl;
        is_turn = (p.fault, (p.hears, h.0.1));
        followed = part_followed (Err Write) p later tt;
        writes = record { writes = part_written (Err Write) p; rose = h.1; later = sink_later };
      })
  had_stopped follow.Link d h is later sink_later = subst (λ (e : DialFault). HadTurn host brief (Err e) old.sight new.sight old.faults new.faults old.sink new.sink) (sym is) (record {
    turn = turn_of h.0.bytes [] h.0.ms (Err Link);
    same = refl;
    is_turn = (h.0.hears, refl);
    followed = all_followed None (Err Link) h.0 later (unended (client_talk host h.0.ms) old.sight new.sight h.1) h.2;
    writes = record { writes = all_written None (Err Link) h.0; rose = tt; later = sink_later };
  })
  had_stopped follow.NoMemory d h is later sink_later = subst (λ (e : DialFault). HadTurn host brief (Err e) old.sight new.sight old.faults new.faults old.sink new.sink) (sym is) (record {
    turn = turn_of h.bytes h.unheard h.ms (Err NoMemory);
    same = refl;
    is_turn = (h.fault, h.hears);
    followed = part_followed (Err NoMemory) h later tt;
    writes = record { writes = part_written (Err NoMemory) h; rose = tt; later = sink_later };
  })

  pub not_read : (f : FollowFault) → LinkStopped host brief old new f → f ≢ follow.Read
  not_read f h e = subst (LinkStopped host brief old new) e h
