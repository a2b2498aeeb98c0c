-- Known bytes over two calls.
use Rattle.std.proofs.Common.{ℕ, ◌+◌, ◌≤◌, take, drop, subst, List, [], ◌++◌, refl, sym, ◌∙◌, ap, append_assoc, append-nil}
use Rattle.std.proofs.lemmas.List.{take-take}
use Rattle.std.proofs.Math.Seq.{take-add}
use Rattle.std.specs.Prelude.{Option, None, Some, Ok}
use Rattle.ty_base.specs.Fronts.{AppendsFront}
use Rattle.ty_base.specs.declared.outside.Failed.{Failed}
use Rattle.std.specs.Io.KnownBytes.{Consumes, ReadConsumes, Appends, Keeps}

pub Consumes-then : (a b c : Option (List ℕ)) (xs ys : List ℕ) → Consumes a b xs → Consumes b c ys → Consumes a c (xs ++ ys)
Consumes-then None b c xs ys h k = tt
Consumes-then (Some x) (Some y) (Some z) xs ys h k = rw append_assoc (h ∙ ap (λ (l : List ℕ). xs ++ l) k)
Consumes-then (Some x) (Some y) None xs ys h k = absurd k
Consumes-then (Some x) None c xs ys h k = absurd h

pub Consumes-same : (a : Option (List ℕ)) → Consumes a a []
Consumes-same None = tt
Consumes-same (Some x) = refl

pub Consumes-kept : (a b c : Option (List ℕ)) (xs : List ℕ) → Consumes a b xs → Keeps b c → Consumes a c xs
Consumes-kept None b c xs h k = tt
Consumes-kept (Some x) (Some y) (Some z) xs h k = h ∙ ap (λ (l : List ℕ). xs ++ l) (sym k)
Consumes-kept (Some x) (Some y) None xs h k = absurd k
Consumes-kept (Some x) None c xs h k = absurd h

pub Appends-then : (a b c : Option (List ℕ)) (xs ys : List ℕ) → Appends a b xs → Appends b c ys → Appends a c (xs ++ ys)
Appends-then None b c xs ys h k = tt
Appends-then (Some x) (Some y) (Some z) xs ys h k = k ∙ (ap (λ (l : List ℕ). l ++ ys) h ∙ append_assoc x xs ys)
Appends-then (Some x) (Some y) None xs ys h k = absurd k
Appends-then (Some x) None c xs ys h k = absurd h

pub Appends-same : (a : Option (List ℕ)) → Appends a a []
Appends-same None = tt
Appends-same (Some x) = sym (append-nil x)

pub Appends-kept : (a b c : Option (List ℕ)) (xs : List ℕ) → Appends a b xs → Keeps b c → Appends a c xs
Appends-kept None b c xs h k = tt
Appends-kept (Some x) (Some y) (Some z) xs h k = k ∙ h
Appends-kept (Some x) (Some y) None xs h k = absurd k
Appends-kept (Some x) None c xs h k = absurd h

pub Appends-part : (a b c : Option (List ℕ)) (bytes : List ℕ) (at n m : ℕ) → n ≤ m → Appends a b (take at bytes) → Appends b c (take n (take m (drop at bytes))) → Appends a c (take (at + n) bytes)
Appends-part a b c bytes at n m le h k =
    let P : List ℕ → Type 0 = λ l. Appends b c l in
    let Q : List ℕ → Type 0 = λ l. Appends a c l in
    subst Q (sym (take-add at n bytes)) (Appends-then a b c (take at bytes) (take n (drop at bytes)) h (subst P (take-take n m (drop at bytes) le) k))

-- the bytes that a take put at the front of a larger buffer
pub Consumes-more : (a b c : Option (List ℕ)) (all buf : List ℕ) (n : ℕ) → Consumes a b all → ReadConsumes {E = Failed} b c (Ok n) buf → Consumes a c (all ++ take n buf)
Consumes-more a b c all buf n h k = Consumes-then a b c all (take n buf) h k.0

pub AppendsFront-more : (a b : Option (List ℕ)) (x y : List ℕ) → AppendsFront a b x → AppendsFront a b (x ++ y)
AppendsFront-more a b x y (front, rest, e, h) = (front, rest ++ y, ap (λ (l : List ℕ). l ++ y) e ∙ append_assoc front rest y, h)

pub AppendsFront-after : (a b c : Option (List ℕ)) (x y : List ℕ) → Appends a b x → AppendsFront b c y → AppendsFront a c (x ++ y)
AppendsFront-after a b c x y g (front, rest, e, h) =
    (x ++ front, rest, ap (λ (l : List ℕ). x ++ l) e ∙ sym (append_assoc x front rest), Appends-then a b c x front g h)
