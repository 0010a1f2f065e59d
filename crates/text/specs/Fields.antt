-- The fields of a line that are still to be read.
use Rattle.std.specs.Prelude.{ℕ, List, [], Option, Some, None}
use denote.Ref.{Bor}
use Rattle.text.specs.Line.{parted}
use Rattle.text.specs.declared.read.Fields.{Fields}

abbrev pub fields_in : Option (Bor (List ℕ)) → List (List ℕ)
fields_in None = []
fields_in (Some s) = parted s.now

abbrev pub left : Fields → List (List ℕ)
left f = fields_in f.rest
