-- The numbers that C is told: a refusal's is document 01's, and 100 is none of them.
use Rattle.std.specs.Prelude.{ℕ, Result, Ok, Err}
use Rattle.tables.specs.Refusal as R
use Rattle.host.specs.declared.fault.Fault.{Fault}

abbrev pub number_of : Fault → ℕ
number_of (Fault.Refused e) = R.number_of e
number_of Fault.Malformed = 100

abbrev pub code_of : Result (Unit {0}) Fault → ℕ
code_of (Ok u) = 0
code_of (Err f) = number_of f
