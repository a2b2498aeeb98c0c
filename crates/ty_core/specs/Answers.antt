-- How a call of a world ends.
use Rattle.std.specs.Prelude.{Result, Ok, Err, ⊤}
use Rattle.ty_core.specs.declared.fault.WorldFault.{WorldFault}
use Rattle.ty_core.specs.declared.fault.WorldFault.TheVariants.{Feed, NoMemory}
use Rattle.ty_intake.specs.declared.intake.IntakeFault.{IntakeFault}
use Rattle.ty_core.specs.Run.{Ran, going, over}

-- the feed's fault
abbrev pub IfFeed : WorldFault → (IntakeFault → Type 0) → Type 0
IfFeed (Feed f) P = P f
IfFeed NoMemory P = ⊤

-- where the feed's fault ends the run
abbrev pub IfFeedFault : {A : Type 0} → Result A WorldFault → (IntakeFault → Type 0) → Type 0
IfFeedFault (Ok a) P = ⊤
IfFeedFault (Err e) P = IfFeed e P

abbrev pub OnFault : {A : Type 0} → Result A WorldFault → Type 0 → Type 0
OnFault r P = IfFeedFault r (λ f. P)

-- the answer is want of memory
abbrev pub WantsMemory : {A : Type 0} → Result A WorldFault → Type 0
WantsMemory (Ok a) = ⊥
WantsMemory (Err (Feed f)) = ⊥
WantsMemory (Err NoMemory) = ⊤

-- no fault has ended the run
abbrev pub IsGoing : Ran → Type 0
IsGoing (going s) = ⊤
IsGoing (over f) = ⊥
