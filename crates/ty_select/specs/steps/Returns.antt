-- What a call returns of what reading gives.
use Rattle.std.specs.Prelude.{◌≡◌, Result, Ok, Err}
use Rattle.ty_select.specs.declared.fault.Stop.{Stop}
use Rattle.ty_select.specs.declared.fault.Stop.TheVariants.{Bad, TooDeep, Spent}

-- why it stopped; want of memory says nothing
abbrev pub Stops : {Y : Type 0} → Stop → Result Y Stop → Type 0
Stops Spent read = Unit {0}
Stops (Bad left w) read = read ≡ Err (Bad left w)
Stops (TooDeep left) read = read ≡ Err (TooDeep left)

-- what a call returned, seen by view, is what reading gives, unless memory ran out
abbrev pub Returns : {X Y : Type 0} → (X → Y) → Result X Stop → Result Y Stop → Type 0
Returns view (Ok x) read = read ≡ Ok (view x)
Returns view (Err e) read = Stops e read
