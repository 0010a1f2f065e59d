-- Document 01, "Causes", and demand 3's premise: what is noted along a run from the lists alone, and what each answer leans on.
use Rattle.std.specs.Prelude.{ℕ, ◌+◌, ◌-◌, ◌^◌, ◌<◌, ◌≡◌, ◌≢◌, ◌⊎◌, Bool, true, false, [], length, Option, Some, None}
use Rattle.words.specs.Word.{pick, orb, minus, high}
use Rattle.tables.specs.declared.answer.Answer.{Answer}
use Rattle.tables.specs.declared.answer.Effect.{Effect}
use Rattle.tables.specs.declared.call.Mark.{Mark}
use Rattle.tables.specs.declared.state.Machine.{Machine}
use Rattle.tables.specs.declared.state.Queue.{Queue}
use Rattle.tables.specs.declared.place.BookPlace.{BookPlace}
use Rattle.tables.specs.declared.place.BookingCall.{BookingCall}
use Rattle.tables.specs.declared.place.FifoPlace.{FifoPlace}
use Rattle.tables.specs.declared.place.LifoPlace.{LifoPlace}
use Rattle.tables.specs.declared.place.Place.{Place}
use Rattle.tables.specs.declared.place.Transfer.{Transfer}
use Rattle.tables.specs.Rule.{ruled}
use Rattle.tables.specs.Machine.{queue_at}
use Rattle.tables.specs.Answer.{Reason, nothing, none_rested, none_free, one_open, none_to_book, reason_of}
use Rattle.tables.specs.Effect.{moves_of}
use Rattle.tables.specs.Table.{rule_of}
use Rattle.tables.specs.LifoTable.{rest_of}
use Rattle.tables.specs.Step.{place_at, source_at}
use Rattle.tables.specs.Lists.{Lists, Plain, is_open, update}

-- Noted along a run. Per queue: how many tokens were popped or booked so far. Per party: that number on its source at its
-- booking's first load; whether a booking was open on its source from then on; resting plus slots not yet given back of its own
-- queue at its call's head load.
pub record Notes : Type 0 where
  pub moved : ℕ → ℕ
  pub first : ℕ → ℕ
  pub opened : ℕ → Bool
  pub fill : ℕ → ℕ

abbrev pub no_notes : Notes
no_notes = record { moved = λ q. 0; first = λ p. 0; opened = λ p. false; fill = λ p. 0 }

-- a call that begins has noted nothing yet: what its party's last call had noted is cleared
abbrev pub begun_notes : ℕ → Notes → Notes
begun_notes p n = record { moved = n.moved; first = update n.first p 0; opened = update n.opened p false; fill = update n.fill p 0 }

-- ---- places

-- what is said of a booking's place; at any other place, the first
abbrev pub at_booking {ℓ} : {A : Type ℓ} → A → (BookingCall → BookPlace → A) → Place → A
at_booking a f Place.Idle = a
at_booking a f (Place.Lifo p) = a
at_booking a f (Place.Fifo p) = a
at_booking a f (Place.Own p) = a
at_booking a f (Place.Book g p) = f g p
at_booking a f (Place.Move p) = a
at_booking a f (Place.Close e p) = a

-- a booking's first load
abbrev pub is_first : BookPlace → Bool
is_first BookPlace.LifoPacked = true
is_first (BookPlace.LifoCompleted p) = false
is_first (BookPlace.LifoPushes p d) = false
is_first (BookPlace.LifoCas p d k) = false
is_first BookPlace.FifoPacked = true
is_first (BookPlace.FifoTail p) = false
is_first (BookPlace.FifoCas p k) = false

abbrev pub is_first_load : Place → Bool
is_first_load p = at_booking false (λ g b. is_first b) p

-- the n = tail - head that a booking's count load sees, of the push count (FIFO tail) it loads; 0 at its other places
abbrev pub seen_at : ℕ → BookPlace → (pushes : ℕ) → ℕ
seen_at w BookPlace.LifoPacked x = 0
seen_at w (BookPlace.LifoCompleted p) x = 0
seen_at w (BookPlace.LifoPushes p d) x = rest_of w x p
seen_at w (BookPlace.LifoCas p d k) x = 0
seen_at w BookPlace.FifoPacked x = 0
seen_at w (BookPlace.FifoTail p) x = minus w x (high w p)
seen_at w (BookPlace.FifoCas p k) x = 0

-- the load of the head that room is tested by: LIFO completed head, FIFO packed
abbrev pub lifo_head_load : LifoPlace → Bool
lifo_head_load (LifoPlace.LoadPushes j) = false
lifo_head_load (LifoPlace.LoadPacked j n) = false
lifo_head_load (LifoPlace.LoadCompleted j n p) = true
lifo_head_load LifoPlace.PopPacked = false
lifo_head_load (LifoPlace.PopPushes p) = false
lifo_head_load (LifoPlace.PopCas p t) = false
lifo_head_load LifoPlace.EmptyPushes = false
lifo_head_load (LifoPlace.EmptyPacked n) = false

abbrev pub fifo_head_load : FifoPlace → Bool
fifo_head_load (FifoPlace.LoadPacked f) = true
fifo_head_load (FifoPlace.LoadTail f p) = false
fifo_head_load (FifoPlace.DestTail e) = false
fifo_head_load (FifoPlace.DestPacked e t) = true
fifo_head_load FifoPlace.PopPacked = false
fifo_head_load (FifoPlace.PopTail p) = false
fifo_head_load (FifoPlace.PopCas p) = false
fifo_head_load FifoPlace.EmptyPacked = false
fifo_head_load (FifoPlace.EmptyTail p) = false

abbrev pub is_head_load : Place → Bool
is_head_load Place.Idle = false
is_head_load (Place.Lifo p) = lifo_head_load p
is_head_load (Place.Fifo p) = fifo_head_load p
is_head_load (Place.Own p) = false
is_head_load (Place.Book g p) = false
is_head_load (Place.Move p) = false
is_head_load (Place.Close e p) = false

abbrev pub fill_of : Lists → ℕ
fill_of l = length l.resting + l.kept

-- what an effect pops or books counts at its queue
abbrev pub moved_by : Option Effect → (ℕ → ℕ) → ℕ → ℕ
moved_by None moved = moved
moved_by (Some e) moved = update moved e.queue (moved e.queue + moves_of e.change)

-- Noted at a step of party `who` that the machine m takes: the lists before and after it, and its effect.
unfoldable pub notes : Machine → ℕ → (before after : Plain) → Option Effect → Notes → Notes
notes m who a a' e n = record {
  moved = moved_by e n.moved;
  first = pick (is_first_load (place_at m who)) (update n.first who (n.moved (source_at m who))) n.first;
  opened =
      λ p.
      orb (pick (is_first_load (place_at m who)) (update n.opened who (is_open (a.queue (source_at m who)).holder)) n.opened p)
      (is_open (a'.queue (source_at m p)).holder);
  fill = pick (is_head_load (place_at m who)) (update n.fill who (fill_of (a.queue who))) n.fill;
}

-- ---- the premise: between a booking's first load and its success or refusal, fewer than 2 ^ (w - 1) items are popped or booked there

-- at a booking's place other than its first load
abbrev pub PlacePremise : ℕ → Place → (first moved : ℕ) → Type 0
PlacePremise half p f v = at_booking (Unit {0}) (λ g b. is_first b ≡ false → v < f + half) p

abbrev pub Premise : ℕ → Machine → Notes → ℕ → Type 0
Premise w m n who = PlacePremise (2 ^ (w - 1)) (place_at m who) (n.first who) (n.moved (source_at m who))

-- ---- the causes, at the step of party `who` that answers: the lists at that step, which such an answer leaves as they are, and the notes
-- after it

-- the rule gave 0 for the n that the count load saw, which was not 0: where none rested that is the cause, whatever the rule
abbrev pub GaveZero : BookingCall → Mark → (seen : ℕ) → Type 0
GaveZero g mark n = (n ≢ 0) × (ruled (rule_of g) mark n ≡ 0)

abbrev pub RuleGaveZero : ℕ → Place → Queue → Mark → Type 0
RuleGaveZero w p q mark = at_booking ⊥ (λ g b. GaveZero g mark (seen_at w b q.pushes)) p

-- a steal's destination had no room; a take needs none, since its limit is room + 1, and a drain has no destination
abbrev pub steals : Transfer → Bool
steals Transfer.Steal = true
steals Transfer.Take = false

abbrev pub is_steal : BookingCall → Bool
is_steal (BookingCall.Transfer e d) = steals e.transfer
is_steal (BookingCall.Drain r) = false

abbrev pub NoRoom : Place → (fill capacity : ℕ) → Type 0
NoRoom p f c = at_booking ⊥ (λ g b. (is_steal g ≡ true) × (f ≡ c)) p

abbrev pub CauseOf : ℕ → Machine → ℕ → Mark → Plain → Notes → Reason → Type 0
CauseOf w m who mark a n nothing = Unit {0}
CauseOf w m who mark a n none_rested = (a.queue who).resting ≡ []
CauseOf w m who mark a n none_free = n.fill who ≡ (queue_at m who).capacity
CauseOf w m who mark a n one_open = n.opened who ≡ true
CauseOf w m who mark a n none_to_book =
    ((a.queue (source_at m who)).resting ≡ []) ⊎ (NoRoom (place_at m who) (n.fill who) (queue_at m who).capacity
    ⊎ RuleGaveZero w (place_at m who) (queue_at m (source_at m who)) mark)

abbrev pub Cause : ℕ → Machine → ℕ → Mark → Plain → Notes → Option Answer → Type 0
Cause w m who mark a n answer = CauseOf w m who mark a n (reason_of answer)
