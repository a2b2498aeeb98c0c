-- A snapshot that is written as the map is walked.
use Rattle.std.proofs.Common.{◌≡◌, ℕ, true, List, [], ◌∷◌, ◌++◌, sym, ap, ◌∙◌, append_assoc, append-nil}
use Rattle.std.proofs.lemmas.Grind.{flat_map-append}
use Rattle.ty_base.proofs.Passing.{left, right}
use Rattle.ty_base.specs.Feed.{Pairs}
use Rattle.ty_base.specs.Passing.{pair_passes, delta_passes}
use Rattle.ty_base.specs.Limits.{key_fits, value_fits, pairs_fit}
use Rattle.ty_base.specs.declared.delta.Delta.{Delta}
use Rattle.ty_wire.specs.Wire.{new_pair, frame, frames}
use Rattle.ty_wire.specs.Talk.{kvs_messages}
use Rattle.ty_wire.specs.declared.message.Msg.{Msg}
use Rattle.ty_crumb.specs.Crumbs.{added, snapshot_of}
use Rattle.ty_group.specs.Written.{IsWritten, Keeps}

-- what the pairs of a walk still owe
pub record IsWalked (all : List Delta) (filling : List Delta) (rest : Pairs) (before now : List ℕ) : Type 0 where
  pub fits : pairs_fit rest ≡ true
  pub written : IsWritten all (filling ++ snapshot_of rest) before now
  pub kept : Keeps before now

pub keeps_all : (before : List ℕ) → Keeps before before
keeps_all before = ([], sym (append-nil before))

pub keeps_on : (before half now : List ℕ) → Keeps before half → Keeps half now → Keeps before now
keeps_on before half now p q = (p.0 ++ q.0, q.1 ∙ ap (λ t. t ++ q.0) p.1 ∙ append_assoc before p.0 q.0)

pub first_fits : (key value : List ℕ) (rest all : Pairs) → all ≡ (key, value) ∷ rest → pairs_fit all ≡ true → delta_passes key_fits value_fits (added key value) ≡ true
first_fits key value rest all e h = left (pair_passes key_fits value_fits (key, value)) (pairs_fit rest) (sym (ap pairs_fit e) ∙ h)

pub rest_fits : (key value : List ℕ) (rest all : Pairs) → all ≡ (key, value) ∷ rest → pairs_fit all ≡ true → pairs_fit rest ≡ true
rest_fits key value rest all e h = right (pair_passes key_fits value_fits (key, value)) (pairs_fit rest) (sym (ap pairs_fit e) ∙ h)

pub begun : (m : Pairs) (filling : List Delta) (before : List ℕ) → filling ≡ [] → pairs_fit m ≡ true → IsWalked (snapshot_of m) filling m before before
begun m filling before e h = record {
  fits = h;
  written = ap (λ (l : List Delta). before ++ frames (kvs_messages (l ++ snapshot_of m))) e;
  kept = keeps_all before;
}

pub walked_on : (all filling new : List Delta) (key value : List ℕ) (it rest : Pairs) (before half now : List ℕ)
    → it ≡ (key, value) ∷ rest
    → ((more : List Delta) → IsWritten (filling ++ new_pair key value ∷ more) (new ++ more) half now) → Keeps half now
    → IsWalked all filling it before half → IsWalked all new rest before now
walked_on all filling new key value it rest before half now e p k w = record {
  fits = rest_fits key value rest it e w.fits;
  written =
      p (snapshot_of rest)
      ∙ sym (ap (λ (l : Pairs). half ++ frames (kvs_messages (filling ++ snapshot_of l))) e)
      ∙ w.written;
  kept = keeps_on before half now w.kept k;
}

pub walked : (all filling : List Delta) (it : Pairs) (before now : List ℕ) → it ≡ [] → IsWalked all filling it before now → IsWritten all filling before now
walked all filling it before now e w =
    ap (λ (l : List Delta). now ++ frames (kvs_messages l)) (sym (append-nil filling) ∙ sym (ap (λ (l : Pairs). filling ++ snapshot_of l) e))
    ∙ w.written

-- what is written behind the hello, and with it the whole
pub opened : (before a b now hello : List ℕ) (kvs tail : List Msg) (all : List ℕ) → a ≡ before ++ hello → b ≡ a ++ frames kvs → now ≡ b ++ frames tail → all ≡ hello ++ frames (kvs ++ tail) → now ≡ before ++ all
opened before a b now hello kvs tail all p q r e =
    r ∙ ap (λ (l : List ℕ). l ++ frames tail) (q ∙ ap (λ (l : List ℕ). l ++ frames kvs) p)
    ∙ append_assoc (before ++ hello) (frames kvs) (frames tail) ∙ append_assoc before hello (frames kvs ++ frames tail)
    ∙ ap (λ (l : List ℕ). before ++ (hello ++ l)) (sym (flat_map-append frame kvs tail))
    ∙ ap (λ (l : List ℕ). before ++ l) (sym e)
