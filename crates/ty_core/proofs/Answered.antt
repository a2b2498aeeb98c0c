-- Answers of a world.
use Rattle.std.specs.Prelude.{Result, Ok, Err, IfOk, OnOk}
use Rattle.ty_intake.specs.declared.intake.IntakeFault.{IntakeFault}
use Rattle.ty_core.specs.declared.fault.WorldFault.{WorldFault}
use Rattle.ty_core.specs.declared.fault.WorldFault.TheVariants.{Feed, NoMemory}
use Rattle.ty_core.specs.Answers.{IfFeed, IfFeedFault}

pub feed_weaker : (e : WorldFault) (P Q : IntakeFault → Type 0) → ((f : IntakeFault) → P f → Q f) → IfFeed e P → IfFeed e Q
feed_weaker (Feed f) P Q h x = h f x
feed_weaker NoMemory P Q h x = tt

pub fault_weaker : {A : Type 0} (r : Result A WorldFault) (P Q : IntakeFault → Type 0) → ((f : IntakeFault) → P f → Q f) → IfFeedFault r P → IfFeedFault r Q
fault_weaker (Ok a) P Q h x = tt
fault_weaker (Err e) P Q h x = feed_weaker e P Q h x

pub ok_weaker : {A E : Type 0} (r : Result A E) (P Q : A → Type 0) (G : Type 0) → ((x : A) → P x → G → Q x) → IfOk r P → OnOk r G → IfOk r Q
ok_weaker (Ok a) P Q G h x g = h a x g
ok_weaker (Err e) P Q G h x g = tt
