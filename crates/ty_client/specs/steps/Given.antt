-- For private clauses: a text on its way to a sink.
use Rattle.std.specs.Prelude.{◌≡◌, ◌≤◌, ◌++◌, ℕ, List, Option, Result, OnOk, OnErr, IsErrOf}
use Rattle.std.specs.Io.KnownBytes.{Appends}
use Rattle.ty_base.specs.Causes.{Rose}
use Rattle.ty_base.specs.Fronts.{AppendsFront}
use Rattle.ty_client.specs.declared.text.Unwritten.{Unwritten}
use Rattle.ty_client.specs.declared.text.Unwritten.TheVariants.{Sink}

-- bytes were given, and with those that are owed they are all
pub record Owes (before now : Option (List ℕ)) (owed all : List ℕ) : Type 0 where
  pub given : List ℕ
  pub appended : Appends before now given
  pub whole : given ++ owed ≡ all

-- the text was given whole, or a front of it, and why
pub record Wrote {T : Type 0} (result : Result T Unwritten) (before now : Option (List ℕ)) (count_before count : ℕ) (text : List ℕ) : Type 0 where
  pub ok : OnOk result (Appends before now text)
  pub err : OnErr result (AppendsFront before now text)
  pub cause : IsErrOf result Sink → Rose count_before count
  pub later : count_before ≤ count
