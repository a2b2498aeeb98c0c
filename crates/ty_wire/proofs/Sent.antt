-- What is written of a list of deltas, message after message.
use Rattle.std.proofs.Common.{◌≡◌, ℕ, ◌+◌, List, [], ◌∷◌, ◌++◌, take, drop, map, sym, ap, subst, ◌∙◌, append_assoc, append-nil}
use Rattle.std.specs.List.{AllByRecursion}
use Rattle.std.proofs.lemmas.Grind.{flat_map-append}
use Rattle.std.proofs.lemmas.List.{drop-drop}
use Rattle.ty_base.specs.declared.delta.Delta.{Delta}
use Rattle.ty_wire.specs.Wire.{frame, frames, IsWire}
use Rattle.ty_wire.specs.Cut.{cut_deltas}
use Rattle.ty_wire.specs.Talk.{kvs_messages}
use Rattle.ty_wire.specs.steps.Sent.{Appends, IsSent}
use Rattle.ty_wire.specs.declared.message.Msg.{Msg}
use Rattle.ty_wire.specs.declared.message.Msg.TheVariants.{Kvs}

pub all-append : (ms ns : List Msg) → AllByRecursion IsWire ms → AllByRecursion IsWire ns → AllByRecursion IsWire (ms ++ ns)
all-append [] ns a b = b
all-append (m ∷ ms) ns a b = (a.0, all-append ms ns a.1 b)

pub appends-join : (a b c : List ℕ) (ms ns : List Msg) → Appends a b ms → Appends b c ns → Appends a c (ms ++ ns)
appends-join a b c ms ns p q = record {
  bytes = q.bytes ∙ ap (λ (l : List ℕ). l ++ frames ns) p.bytes ∙ append_assoc a (frames ms) (frames ns) ∙ ap (λ (l : List ℕ). a ++ l) (sym (flat_map-append frame ms ns));
  wire = all-append ms ns p.wire q.wire;
}

pub appends-one : (a b : List ℕ) (m : Msg) → b ≡ a ++ frame m → IsWire m → Appends a b (m ∷ [])
appends-one a b m e w = record { bytes = e ∙ ap (λ (l : List ℕ). a ++ l) (sym (append-nil (frame m))); wire = (w, tt) }

pub sent-front : (ds : List Delta) (n : ℕ) (before now : List ℕ) → cut_deltas ds ≡ take n ds ∷ cut_deltas (drop n ds) → now ≡ before ++ frame (Kvs (take n ds)) → IsWire (Kvs (take n ds)) → IsSent ds (drop n ds) before now
sent-front ds n before now c e w = record { written = Kvs (take n ds) ∷ []; appends = appends-one before now (Kvs (take n ds)) e w; cut = ap (map Kvs) c }

pub sent-more : (ds part : List Delta) (i n : ℕ) (before mid now : List ℕ) → part ≡ drop i ds → IsSent ds (drop i ds) before mid → IsSent part (drop n part) mid now → IsSent ds (drop (i + n) ds) before now
sent-more ds part i n before mid now p a b = record {
  written = a.written ++ b.written;
  appends = appends-join before mid now a.written b.written a.appends b.appends;
  cut = a.cut ∙ ap (λ (l : List Msg). a.written ++ l) (ap kvs_messages (sym p) ∙ b.cut ∙ ap (λ (l : List Delta). b.written ++ kvs_messages l) (ap (drop n) p ∙ drop-drop n i ds)) ∙ sym (append_assoc a.written b.written (kvs_messages (drop (i + n) ds)));
}

pub sent-all : (ds : List Delta) (before now : List ℕ) → IsSent ds [] before now → Appends before now (kvs_messages ds)
sent-all ds before now s = let P : List Msg → Type 0 = Appends before now in subst P (sym (s.cut ∙ append-nil s.written)) s.appends
