-- What the code gives back along a schedule: one call of `machine::apply` a line, each on the machine and the items that the one before
-- left. Its contract is the equation that `InARow` asks of each outcome, as that of `machine::open` is the one that Fresh asks of the first,
-- its refusal by name (`opened_as`).
use Rattle.std.specs.Prelude.{ℕ, ◌≡◌, List, [], ◌∷◌, take, Option, Some, None, Result, Ok, Err}
use Rattle.tables.specs.declared.answer.Effect.{Effect}
use Rattle.tables.specs.declared.answer.Effects.{Effects}
use Rattle.tables.specs.declared.answer.Refusal.{Refusal}
use Rattle.tables.specs.declared.answer.Reply.{Reply}
use Rattle.tables.specs.declared.call.Act.{Act}
use Rattle.tables.specs.declared.state.Machine.{Machine}
use Rattle.tables.specs.Lists.{Entry}
use Rattle.tables.specs.Step.{AfterAct, acted}
use Rattle.agreement.specs.Statement.{Line, begins, steps, alones, said_entry, put_on}

abbrev pub party_of : Line → ℕ
party_of (begins p c) = p
party_of (steps p k) = p
party_of (alones p n) = p

abbrev pub act_of : Line → Act
act_of (begins p c) = Act.Begin c
act_of (steps p k) = Act.Step k
act_of (alones p n) = Act.Alone n

-- one outcome a line, in a row
unfoldable pub InARow : (w most : ℕ) → Machine → (items : List ℕ) → List Line → List AfterAct → Type 0
InARow w most m xs [] [] = Unit {0}
InARow w most m xs [] (o ∷ os) = ⊥
InARow w most m xs (x ∷ s) [] = ⊥
InARow w most m xs (x ∷ s) (o ∷ os) = (o ≡ acted w most m xs (party_of x) (act_of x)) × InARow w most o.machine o.items s os

-- what the last of them left
unfoldable pub machine_after : Machine → List AfterAct → Machine
machine_after m [] = m
machine_after m (o ∷ os) = machine_after o.machine os

unfoldable pub items_after : List ℕ → List AfterAct → List ℕ
items_after xs [] = xs
items_after xs (o ∷ os) = items_after o.items os

-- the effects that are there
abbrev pub somes : List (Option Effect) → List Effect
somes [] = []
somes (None ∷ l) = somes l
somes (Some e ∷ l) = e ∷ somes l

-- a reply on a record: its effects, as many as it counts, then its answer, where it has one; a refusal adds nothing
abbrev pub effects_in : Effects → List Effect
effects_in e = somes (take e.count e.list)

abbrev pub said_on : (party : ℕ) → Reply → List Entry → List Entry
said_on p r l = said_entry p r.answer (put_on l (effects_in r.effects))

abbrev pub reply_on : (party : ℕ) → Result Reply Refusal → List Entry → List Entry
reply_on p (Ok r) l = said_on p r l
reply_on p (Err k) l = l

-- all replies on a record, in their order
unfoldable pub replies_on : List Line → List AfterAct → List Entry → List Entry
replies_on [] os l = l
replies_on (x ∷ s) [] l = l
replies_on (x ∷ s) (o ∷ os) l = replies_on s os (reply_on (party_of x) o.reply l)
