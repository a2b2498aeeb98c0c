-- What is told over two calls.
use Rattle.std.specs.Prelude.{Option, None, Some}
use Rattle.ty_base.specs.Told.{Told}

module _ {S : Type 0} where
  pub Told-then : {P Q R : S → S → Type 0} → ((a b c : S) → P a b → Q b c → R a c) → (a b c : Option S) → Told P a b → Told Q b c → Told R a c
  Told-then step None b c h k = tt
  Told-then step (Some x) (Some y) (Some z) h k = step x y z h k
  Told-then step (Some x) (Some y) None h k = absurd k
  Told-then step (Some x) None c h k = absurd h

  pub Told-as : {P Q : S → S → Type 0} → ((a b : S) → P a b → Q a b) → (a b : Option S) → Told P a b → Told Q a b
  Told-as step None b h = tt
  Told-as step (Some x) (Some y) h = step x y h
  Told-as step (Some x) None h = absurd h

  pub Told-still : (P : S → S → Type 0) → ((a : S) → P a a) → (a : Option S) → Told P a a
  Told-still P still None = tt
  Told-still P still (Some x) = still x
