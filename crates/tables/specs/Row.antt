-- The form of the access tables: a row for each place says whose queue, which access, and then what is done with what was seen.
use Rattle.std.specs.Prelude.{Option, Some, None}
use Rattle.tables.specs.declared.access.Access.{Access}
use Rattle.tables.specs.declared.access.Context.{Context}
use Rattle.tables.specs.declared.access.Next.{Next}
use Rattle.tables.specs.declared.access.Seen.{Seen}
use Rattle.tables.specs.declared.access.Wanted.{Wanted}
use Rattle.tables.specs.declared.access.Whose.{Whose}
use Rattle.tables.specs.declared.answer.Answer.{Answer}
use Rattle.tables.specs.declared.answer.Change.{Change}
use Rattle.tables.specs.declared.place.Place.{Place}

pub record Row : Type 0 where
  pub whose : Whose
  pub access : Access
  pub after : Seen → Next

-- its left columns, which the code looks up before the access
abbrev pub wanted : Row → Wanted
wanted r = record { whose = r.whose; access = r.access }

infix 10 own◌then◌
infix 10 source◌then◌
abbrev pub own◌then◌ : Access → (Seen → Next) → Row
own a then f = record { whose = Whose.Own; access = a; after = f }

abbrev pub source◌then◌ : Access → (Seen → Next) → Row
source a then f = record { whose = Whose.Source; access = a; after = f }

-- the call goes on at a place, or ends with an answer, each with an effect or none; the drain stays as it is
abbrev pub on : Context → Place → Option Change → Next
on s p e = record { place = p; drain = s.drain; answer = None; change = e }

abbrev pub ends : Context → Answer → Option Change → Next
ends s a e = record { place = Place.Idle; drain = s.drain; answer = Some a; change = e }
