-- What a take and a give do to what is seen of a link.
use Rattle.std.proofs.Common.{◌≡◌, ℕ, ◌+◌, ◌≤◌, inl, inr, true, List, [], ◌∷◌, ◌++◌, length, take, refl, sym, ap, ◌∙◌, arith, append-nil, append_assoc, length-append}
use Rattle.std.specs.Prelude.{Option}
use Rattle.std.proofs.lemmas.List.{length-take}
use Rattle.ty_base.specs.Causes.{Rose}
use Rattle.ty_base.specs.Links.{Coming, brings, rests, Sight, pieces_left, Takes, FitsIn, IsGiven}
use Rattle.ty_base.specs.Told.{Told, IsSame}
use Rattle.ty_base.proofs.Telling.{Told-then, Told-as, Told-still}
use Rattle.ty_base.specs.declared.link.Took.{Took}
use Rattle.ty_base.specs.declared.link.Took.TheVariants.{Bytes, Quiet, End}
use Rattle.ty_server.specs.Exchanges.{LinkSeen, link_seen, left_in, Exchanges, Exchanged, EndTaken, IsLess, HasLess}

-- the bytes of a take
abbrev pub bytes_in : Took → List ℕ → List ℕ
bytes_in (Bytes n) buf = take n buf
bytes_in Quiet buf = []
bytes_in End buf = []

left-pieces : (more : List ℕ) (rest : List Coming) → left_in (pieces_left more rest) ≡ length more + left_in rest
unfolding left_in
left-pieces [] rest = omega arith
left-pieces (x ∷ xs) rest = refl

left-brings : (bytes : List ℕ) (rest : List Coming) → left_in (brings bytes ∷ rest) ≡ length bytes + left_in rest
unfolding left_in
left-brings bytes rest = refl

left-rests : (rest : List Coming) → left_in (rests ∷ rest) ≡ 1 + left_in rest
unfolding left_in
left-rests rest = refl

-- what is left, by equations
left-after : (x y : List Coming) (front more : List ℕ) (rest : List Coming) → x ≡ brings (front ++ more) ∷ rest → y ≡ pieces_left more rest → left_in x ≡ length front + left_in y
left-after x y front more rest e f =
    omega (arith, ap left_in e, ap left_in f, left-brings (front ++ more) rest, left-pieces more rest, length-append front more)

exchanges_same : (x y : Sight) → y ≡ x → Exchanges [] [] x y
exchanges_same x y e = record {
  gave = ap (λ (s : Sight). s.given) e ∙ sym (append-nil x.given);
  came = ap (λ (s : Sight). s.brought) e ∙ sym (append-nil x.brought);
  no_more = omega (arith, ap (λ (s : Sight). left_in s.coming) e);
  closed = λ h. ap (λ (s : Sight). s.ended) e ∙ h;
}

exchanges_taken : (t : Took) (buf : List ℕ) (x y : Sight) → Takes t buf x y → Exchanges [] (bytes_in t buf) x y
exchanges_taken (Bytes n) buf x y (more, rest, e, f) =
    let left = left-after x.coming y.coming (take n buf) more rest e (ap (λ (s : Sight). s.coming) f) in
    record {
      gave = ap (λ (s : Sight). s.given) f ∙ sym (append-nil x.given);
      came = ap (λ (s : Sight). s.brought) f;
      no_more = omega (arith, left);
      closed = λ h. ap (λ (s : Sight). s.ended) f ∙ h;
    }
exchanges_taken Quiet buf x y (rest, e, f) = record {
  gave = ap (λ (s : Sight). s.given) f ∙ sym (append-nil x.given);
  came = ap (λ (s : Sight). s.brought) f ∙ sym (append-nil x.brought);
  no_more = omega (arith, ap left_in e, left-rests rest, ap (λ (s : Sight). left_in s.coming) f);
  closed = λ h. ap (λ (s : Sight). s.ended) f ∙ h;
}
exchanges_taken End buf x y (o, f) = record {
  gave = ap (λ (s : Sight). s.given) f ∙ sym (append-nil x.given);
  came = ap (λ (s : Sight). s.brought) f ∙ sym (append-nil x.brought);
  no_more = omega (arith, ap (λ (s : Sight). left_in s.coming) f);
  closed = λ h. ap (λ (s : Sight). s.ended) f;
}

less_taken : (t : Took) (buf : List ℕ) (x y : Sight) → FitsIn (length buf) t → Takes t buf x y → IsLess x y
less_taken (Bytes n) buf x y fits (more, rest, e, f) =
    let left = left-after x.coming y.coming (take n buf) more rest e (ap (λ (s : Sight). s.coming) f) in
    inr (omega (arith, left, fits.0, fits.1, length-take n buf))
less_taken Quiet buf x y fits (rest, e, f) =
    inr (omega (arith, ap left_in e, left-rests rest, ap (λ (s : Sight). left_in s.coming) f))
less_taken End buf x y fits (o, f) = inl (ap (λ (s : Sight). s.ended) f)

pub exchanged_taken : (t : Took) (buf : List ℕ) (x y : Option Sight) (n m : ℕ) → Told (Takes t buf) x y → n ≤ m → Exchanged [] (bytes_in t buf) (link_seen x n) (link_seen y m)
exchanged_taken t buf x y n m h le = record { told = Told-as (exchanges_taken t buf) x y h; later = le }

pub exchanged_same : (x y : Option Sight) (n m : ℕ) → Told IsSame x y → n ≤ m → Exchanged [] [] (link_seen x n) (link_seen y m)
exchanged_same x y n m h le = record { told = Told-as exchanges_same x y h; later = le }

pub exchanged_still : (a : LinkSeen) → Exchanged [] [] a a
exchanged_still a = record { told = Told-still (Exchanges [] []) (λ x. exchanges_same x x refl) a.sight; later = omega arith }

pub less_told : (t : Took) (buf : List ℕ) (x y : Option Sight) (n m : ℕ) → FitsIn (length buf) t → Told (Takes t buf) x y → HasLess (link_seen x n) (link_seen y m)
less_told t buf x y n m fits h = inr (Told-as (λ p q k. less_taken t buf p q fits k) x y h)

pub closed_taken : (buf : List ℕ) (x y : Option Sight) (n m : ℕ) → Told (Takes End buf) x y → EndTaken (link_seen x n) (link_seen y m)
closed_taken buf x y n m h = Told-as (λ p q k. ap (λ (s : Sight). s.ended) k.1) x y h

-- a front of bytes was given
pub exchanged_given : (n : ℕ) (piece : List ℕ) (x y : Option Sight) (k m : ℕ) → Told (IsGiven n piece) x y → k ≤ m → Exchanged (take n piece) [] (link_seen x k) (link_seen y m)
exchanged_given n piece x y k m h le = record {
  told = Told-as (λ p q e. record {
    gave = ap (λ (s : Sight). s.given) e;
    came = ap (λ (s : Sight). s.brought) e ∙ sym (append-nil p.brought);
    no_more = omega (arith, ap (λ (s : Sight). left_in s.coming) e);
    closed = λ o. ap (λ (s : Sight). s.ended) e ∙ o;
  }) x y h;
  later = le;
}

-- ---- two calls

exchanges_then : (f g h k : List ℕ) (x y z : Sight) → Exchanges f h x y → Exchanges g k y z → Exchanges (f ++ g) (h ++ k) x z
exchanges_then f g h k x y z p q = record {
  gave = q.gave ∙ ap (λ (l : List ℕ). l ++ g) p.gave ∙ append_assoc x.given f g;
  came = q.came ∙ ap (λ (l : List ℕ). l ++ k) p.came ∙ append_assoc x.brought h k;
  no_more = omega (arith, p.no_more, q.no_more);
  closed = λ e. q.closed (p.closed e);
}

pub exchanged_then : (f g h k : List ℕ) (a b c : LinkSeen) → Exchanged f h a b → Exchanged g k b c → Exchanged (f ++ g) (h ++ k) a c
exchanged_then f g h k a b c p q = record {
  told = Told-then (exchanges_then f g h k) a.sight b.sight c.sight p.told q.told;
  later = omega (arith, p.later, q.later);
}

pub closed_then : (f h : List ℕ) (a b c : LinkSeen) → Exchanged f h a b → EndTaken b c → EndTaken a c
closed_then f h a b c p q = Told-then {P = Exchanges f h} {Q = λ _ y. y.ended ≡ true} {R = λ _ y. y.ended ≡ true} (λ x y z _ k. k) a.sight b.sight c.sight p.told q

pub rose_later : (n m k : ℕ) → n ≤ m → Rose m k → Rose n k
rose_later n m k h r = omega (arith, h, r)

pub rose_more : (n m k : ℕ) → m ≤ k → Rose n m → Rose n k
rose_more n m k h r = omega (arith, h, r)

-- less is left after a call, and so it is after the next one
less_on : (g k : List ℕ) (x y z : Sight) → IsLess x y → Exchanges g k y z → IsLess x z
less_on g k x y z (inl e) q = inl (q.closed e)
less_on g k x y z (inr l) q = inr (omega (arith, l, q.no_more))

pub has_less_on : (g k : List ℕ) (a b c : LinkSeen) → HasLess a b → Exchanged g k b c → HasLess a c
has_less_on g k a b c (inl r) q = inl (rose_more a.faults b.faults c.faults q.later r)
has_less_on g k a b c (inr t) q = inr (Told-then (less_on g k) a.sight b.sight c.sight t q.told)

-- and so it is where less is left after the later one
less_before : (f h : List ℕ) (x y z : Sight) → Exchanges f h x y → IsLess y z → IsLess x z
less_before f h x y z p (inl e) = inl e
less_before f h x y z p (inr l) = inr (omega (arith, l, p.no_more))

pub has_less_before : (f h : List ℕ) (a b c : LinkSeen) → Exchanged f h a b → HasLess b c → HasLess a c
has_less_before f h a b c p (inl r) = inl (rose_later a.faults b.faults c.faults p.later r)
has_less_before f h a b c p (inr t) = inr (Told-then (less_before f h) a.sight b.sight c.sight p.told t)
