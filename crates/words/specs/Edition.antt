-- The width of this edition's words.
use Rattle.std.specs.Prelude.{ℕ}

abbrev pub width : ℕ
width = 32
