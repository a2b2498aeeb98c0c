-- When nothing is wrong with what dialled links bring.
use Rattle.std.specs.Prelude.{◌≡◌, ℕ, true, List, [], ◌++◌, Option, None, Some}
use Rattle.std.specs.List.{AllByRecursion}
use Rattle.ty_base.specs.Causes.{Rose}
use Rattle.ty_base.specs.Doors.{DoorSight}
use Rattle.ty_base.specs.Links.{Sight}
use Rattle.ty_wire.specs.Stream.{Reads}
use Rattle.ty_wire.specs.declared.message.Msg.{Msg}
use Rattle.ty_client.specs.Heard.{Hears}
use Rattle.ty_client.specs.Linked.{IsBrought}

-- what a link brought begins the bytes of good messages that end outside a frame, and is all of it where the link's end was taken
pub record BringsGood (x y : Sight) : Type 0 where
  pub bytes : List ℕ
  pub more : List ℕ
  pub ms : List Msg
  pub brought : IsBrought bytes x y
  pub hears : Hears (bytes ++ more) ms None
  pub reads : Reads (bytes ++ more) ms []
  pub whole : y.ended ≡ true → more ≡ []

module _ {D L : Type 0} (sight : D → Option (DoorSight L)) (link : L → Option Sight) (faults : L → ℕ) where
  -- a link as the dialler gave it and as it came back: it tells so, and its count of faults didn't rise
  pub record IsGoodLink (back : L × L) : Type 0 where
    pub gone : Sight
    pub came : Sight
    pub told : link back.0 ≡ Some gone
    pub tells : link back.1 ≡ Some came
    pub brings : BringsGood gone came
    pub well : ¬ (Rose (faults back.0) (faults back.1))

  -- all links are so that came back to a dialler, which tells of them
  pub record AreGoodLinks (x y : D) : Type 0 where
    pub before : DoorSight L
    pub after : DoorSight L
    pub told : sight x ≡ Some before
    pub tells : sight y ≡ Some after
    pub all : (links : List (L × L)) → after.backs ≡ before.backs ++ links → AllByRecursion IsGoodLink links
