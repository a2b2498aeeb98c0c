-- A message that fits, whose texts are UTF-8, has a spelling.
use Rattle.std.proofs.Common.{◌≡◌, ℕ, ◌<◌, ◌^◌, true, false, cond, List, [], ◌∷◌, ◌++◌, codes, decimal, map, refl, IsUtf8}
use Rattle.std.specs.Prelude.{Option, None, Some}
use Rattle.std.specs.List.{AllByRecursion}
use Rattle.std.proofs.lemmas.Str.{IsUtf8-append, IsUtf8-nil, IsUtf8-from_ascii}
use Rattle.std.proofs.lemmas.Fmt.{IsAscii-decimal}
use Rattle.json.proofs.Printed.Utf8.{IsUtf8-are_ascii, IsUtf8-quoted}
use Rattle.ty_base.specs.Limits.{deltas_fit}
use Rattle.ty_base.specs.declared.status.Status.{Status}
use Rattle.ty_base.specs.declared.status.Status.TheVariants.{Wait, Resync, InSync}
use Rattle.ty_base.specs.Statuses.{status_text}
use Rattle.ty_base.specs.declared.delta.Kind.{Kind}
use Rattle.ty_base.specs.declared.delta.Kind.TheVariants.{New, Updated, Deleted}
use Rattle.ty_base.specs.declared.delta.Delta.{Delta}
use Rattle.ty_wire.specs.Wire.{body, kind_text, value_text, delta_text, more_deltas, deltas_text, parts_fit, message_fits, IsWire, HasUtf8, ValueHasUtf8, DeltaHasUtf8}
use Rattle.ty_wire.specs.Cut.{takes, cut_on, cut_deltas}
use Rattle.ty_wire.specs.Talk.{kvs_messages, status_messages, group_messages}
use Rattle.ty_wire.proofs.Read.{small, both}
use Rattle.ty_wire.proofs.Parts.{Fits, all-fit}
use Rattle.ty_wire.proofs.Sent.{all-append}
use Rattle.ty_wire.proofs.Short.{status-fits, crumb-fits}
use Rattle.ty_wire.specs.declared.message.Msg.{Msg}
use Rattle.ty_wire.specs.declared.message.Msg.TheVariants.{ClientHello, ServerHello, Kvs, Status as StatusMsg, Crumb, Ping, Pong}

number-utf8 : (n : ℕ) → n < 2 ^ 64 → IsUtf8 (decimal n)
number-utf8 n h = IsUtf8-from_ascii (decimal n) (IsAscii-decimal n h)

kind-utf8 : (k : Kind) → IsUtf8 (kind_text k)
kind-utf8 New = IsUtf8-are_ascii _ refl
kind-utf8 Updated = IsUtf8-are_ascii _ refl
kind-utf8 Deleted = IsUtf8-are_ascii _ refl

status-utf8 : (s : Status) → IsUtf8 (status_text s)
status-utf8 Wait = IsUtf8-are_ascii _ refl
status-utf8 Resync = IsUtf8-are_ascii _ refl
status-utf8 InSync = IsUtf8-are_ascii _ refl

value-utf8 : (v : Option (List ℕ)) → ValueHasUtf8 v → IsUtf8 (value_text v)
value-utf8 None u = IsUtf8-nil
value-utf8 (Some v) u = IsUtf8-append (codes ",\"value\":") _ (IsUtf8-are_ascii _ refl) (IsUtf8-quoted v u)

delta-utf8 : (d : Delta) → DeltaHasUtf8 d → IsUtf8 (delta_text d)
delta-utf8 d u =
    IsUtf8-append (codes "{\"key\":") _ (IsUtf8-are_ascii _ refl)
    (IsUtf8-append _ _ (IsUtf8-quoted d.key u.0)
    (IsUtf8-append (codes ",\"type\":\"") _ (IsUtf8-are_ascii _ refl)
    (IsUtf8-append _ _ (kind-utf8 d.kind)
    (IsUtf8-append (codes "\"") _ (IsUtf8-are_ascii _ refl)
    (IsUtf8-append _ (codes "}") (value-utf8 d.value u.1) (IsUtf8-are_ascii _ refl))))))

more-utf8 : (ds : List Delta) → AllByRecursion DeltaHasUtf8 ds → IsUtf8 (more_deltas ds)
unfolding more_deltas
more-utf8 [] u = IsUtf8-nil
more-utf8 (d ∷ ds) u = IsUtf8-append (44 ∷ []) _ (IsUtf8-are_ascii _ refl) (IsUtf8-append _ _ (delta-utf8 d u.0) (more-utf8 ds u.1))

deltas-utf8 : (ds : List Delta) → AllByRecursion DeltaHasUtf8 ds → IsUtf8 (deltas_text ds)
deltas-utf8 [] u = IsUtf8-nil
deltas-utf8 (d ∷ ds) u = IsUtf8-append _ _ (delta-utf8 d u.0) (more-utf8 ds u.1)

body-utf8 : (m : Msg) → HasUtf8 m → parts_fit m ≡ true → IsUtf8 (body m)
body-utf8 (ClientHello v h) u f =
    IsUtf8-append (codes "{\"host\":") _ (IsUtf8-are_ascii _ refl)
    (IsUtf8-append _ _ (IsUtf8-quoted h u)
    (IsUtf8-append (codes ",\"m\":\"client_hello\",\"version\":") _ (IsUtf8-are_ascii _ refl)
    (IsUtf8-append _ (codes "}") (number-utf8 v (small v f)) (IsUtf8-are_ascii _ refl))))
body-utf8 (ServerHello v) u f = IsUtf8-append (codes "{\"m\":\"server_hello\",\"version\":") _ (IsUtf8-are_ascii _ refl) (IsUtf8-append _ (codes "}") (number-utf8 v (small v f)) (IsUtf8-are_ascii _ refl))
body-utf8 (Kvs ds) u f = IsUtf8-append (codes "{\"kvs\":[") _ (IsUtf8-are_ascii _ refl) (IsUtf8-append _ (codes "],\"m\":\"kvs\"}") (deltas-utf8 ds u) (IsUtf8-are_ascii _ refl))
body-utf8 (StatusMsg s) u f = IsUtf8-append (codes "{\"m\":\"status\",\"status\":\"") _ (IsUtf8-are_ascii _ refl) (IsUtf8-append _ (codes "\"}") (status-utf8 s) (IsUtf8-are_ascii _ refl))
body-utf8 (Crumb n) u f = IsUtf8-append (codes "{\"m\":\"crumb\",\"n\":") _ (IsUtf8-are_ascii _ refl) (IsUtf8-append _ (codes "}") (number-utf8 n (small n f)) (IsUtf8-are_ascii _ refl))
body-utf8 (Ping t) u f = IsUtf8-append (codes "{\"m\":\"ping\",\"ts\":") _ (IsUtf8-are_ascii _ refl) (IsUtf8-append _ (codes "}") (number-utf8 t (small t f)) (IsUtf8-are_ascii _ refl))
body-utf8 (Pong t) u f = IsUtf8-append (codes "{\"m\":\"pong\",\"ts\":") _ (IsUtf8-are_ascii _ refl) (IsUtf8-append _ (codes "}") (number-utf8 t (small t f)) (IsUtf8-are_ascii _ refl))

pub is_wire : (m : Msg) → HasUtf8 m → message_fits m ≡ true → IsWire m
is_wire m u f = record { utf8 = body-utf8 m u (both (parts_fit m) _ f).0; fits = f; same = refl }

-- ---- groups

abbrev pub AllUtf8 : List Delta → Type 0
AllUtf8 ds = AllByRecursion DeltaHasUtf8 ds

pub one-more : (ds : List Delta) (d : Delta) → AllUtf8 ds → DeltaHasUtf8 d → AllUtf8 (ds ++ d ∷ [])
one-more [] d a u = (u, tt)
one-more (x ∷ ds) d a u = (a.0, one-more ds d a.1 u)

parts-on : (filling rest : List Delta) → AllUtf8 filling → AllUtf8 rest → AllByRecursion AllUtf8 (cut_on filling rest)
unfolding cut_on
parts-on filling [] f u = (f, tt)
parts-on filling (d ∷ ds) f u =
    elim (takes filling d) as (λ b. AllByRecursion AllUtf8 (cond b (cut_on (filling ++ d ∷ []) ds) (filling ∷ cut_on (d ∷ []) ds))) [
      | true ↦ parts-on (filling ++ d ∷ []) ds (one-more filling d f u.0) u.1
      | false ↦ (f, parts-on (d ∷ []) ds (u.0, tt) u.1)
    ]

parts : (ds : List Delta) → AllUtf8 ds → AllByRecursion AllUtf8 (cut_deltas ds)
parts [] u = tt
parts (d ∷ ds) u = parts-on (d ∷ []) ds (u.0, tt) u.1

kvs-wire : (ps : List (List Delta)) → AllByRecursion Fits ps → AllByRecursion AllUtf8 ps → AllByRecursion IsWire (map Kvs ps)
kvs-wire [] f u = tt
kvs-wire (p ∷ ps) f u = (is_wire (Kvs p) u.0 f.0, kvs-wire ps f.1 u.1)

end-wire : (status : Option Status) (n : ℕ) → n < 2 ^ 64 → AllByRecursion IsWire (status_messages status ++ Crumb n ∷ [])
end-wire None n h = (is_wire (Crumb n) tt (crumb-fits n h), tt)
end-wire (Some s) n h = (is_wire (StatusMsg s) tt (status-fits s), (is_wire (Crumb n) tt (crumb-fits n h), tt))

pub group-wire : (ds : List Delta) (status : Option Status) (n : ℕ) → deltas_fit ds ≡ true → AllByRecursion DeltaHasUtf8 ds → n < 2 ^ 64 → AllByRecursion IsWire (group_messages ds status n)
group-wire ds status n w u h = all-append (kvs_messages ds) (status_messages status ++ Crumb n ∷ []) (kvs-wire (cut_deltas ds) (all-fit ds w) (parts ds u)) (end-wire status n h)
