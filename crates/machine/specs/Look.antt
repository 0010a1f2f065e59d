-- A step's row looked up on a record that passed the record test. proofs/Rows.antt shows that the machine's step is made of it.
use Rattle.std.specs.Prelude.{ℕ, ◌<◌, ◌≡◌, true, List, length, get_or, Result}
use Rattle.words.specs.Edition.{width}
use Rattle.tables.specs.declared.access.Context.{Context}
use Rattle.tables.specs.declared.answer.Refusal.{Refusal}
use Rattle.tables.specs.declared.call.Mark.{Mark}
use Rattle.tables.specs.declared.place.Place.{Place}
use Rattle.tables.specs.declared.state.Machine.{Machine}
use Rattle.tables.specs.Machine.{most, party_at, queue_at, base_of}
use Rattle.tables.specs.Refusal.{told}
use Rattle.tables.specs.Tables.{row_of}
use Rattle.tables.specs.Step.{sound, site, step_order}
use Rattle.machine.specs.declared.row.Look.{Look}

-- x and y are the own queue's place of the table and the source's
abbrev pub look_at : ℕ → (x y : ℕ) → Place → Context → Look
look_at w x y p s = record { site = site (row_of w s p).whose x y; access = (row_of w s p).access }

abbrev pub look : ℕ → (parties who x y : ℕ) → Place → Context → Result Look Refusal
look w n who x y p s =
    told (step_order true n who (row_of w s p).access s.mark p) (look_at w x y p s)

-- what a row knows of a record, its party and own queue at x and its source at y
abbrev pub context_for : Machine → (x y : ℕ) → Mark → Context
context_for m x y k = record {
  kind = (queue_at m x).kind;
  capacity = (queue_at m x).capacity;
  from = (queue_at m y).kind;
  drain = (party_at m x).drain;
  mark = k;
}

-- what a loop over many lines keeps: the record passes the test, and the stretches start where the table says
pub record Fit (m : Machine) (starts : List ℕ) (lent : ℕ) : Type 0 where
  pub passes : sound width most m lent ≡ true
  pub at : (i : ℕ) → i < m.parties → get_or starts i 0 ≡ base_of i m.queue
  pub parties_many : length m.party ≡ most
  pub queues_many : length m.queue ≡ most
