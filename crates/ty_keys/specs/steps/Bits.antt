-- What the bits of a key's text print.
use Rattle.std.specs.Prelude.{ℕ, List, decimal}
use Rattle.ty_keys.specs.declared.text.Bit.{Bit}
use Rattle.ty_keys.specs.declared.text.Bit.TheVariants.{Path, Part, Plain, Number}
use Rattle.ty_keys.specs.Grammar.{escaped}

abbrev pub bit_text : Bit → List ℕ
bit_text (Path path) = path.now
bit_text (Part part) = escaped part.now
bit_text (Plain plain) = plain.now
bit_text (Number n) = decimal n
