-- Document 01, "Access tables, one line a step": what both kinds share. w is the width; every sum and difference turns over at 2 ^ w.
use Rattle.std.specs.Prelude.{ℕ, ◌-◌, ◌^◌, Bool, false, ltb, eqb, Some, None}
use Rattle.words.specs.Word.{pick, plus, minus, position, least_of}
use Rattle.tables.specs.declared.access.Access.TheVariants as Access
use Rattle.tables.specs.declared.access.Context.{Context}
use Rattle.tables.specs.declared.access.Next.{Next}
use Rattle.tables.specs.declared.answer.Answer.{Answer}
use Rattle.tables.specs.declared.answer.Change.{Change}
use Rattle.tables.specs.declared.call.Mark.{Mark}
use Rattle.tables.specs.declared.call.Rule.{Rule}
use Rattle.tables.specs.declared.state.Kind.{Kind}
use Rattle.tables.specs.declared.place.BookPlace.{BookPlace}
use Rattle.tables.specs.declared.place.BookedTokens.{BookedTokens}
use Rattle.tables.specs.declared.place.BookingCall.{BookingCall}
use Rattle.tables.specs.declared.place.ClosePlace.{ClosePlace}
use Rattle.tables.specs.declared.place.ClosingCall.{ClosingCall}
use Rattle.tables.specs.declared.place.MovePlace.{MovePlace}
use Rattle.tables.specs.declared.place.OwnPlace.{OwnPlace}
use Rattle.tables.specs.declared.place.OwnerCall.{OwnerCall}
use Rattle.tables.specs.declared.place.Place.TheVariants as Place
use Rattle.tables.specs.declared.place.Transfer.{Transfer}
use Rattle.tables.specs.declared.place.TransferCall.{TransferCall}
use Rattle.tables.specs.Rule.{ruled}
use Rattle.tables.specs.Row.{Row, own◌then◌, source◌then◌, on, ends}

-- ---- the loads are done: the word that a store goes over, the pop count (FIFO: 0), the tail, the completed (FIFO: stealer) head

-- extend: until tail = head + capacity a step carries a token, or says end; then one store
abbrev pub extending : (pops tail limit written : ℕ) → OwnPlace
extending pops tail limit written = pick (eqb tail limit) (OwnPlace.ExtendStore pops tail written) (OwnPlace.ExtendMore pops tail limit written)

abbrev pub filled : ℕ → Context → OwnerCall → (word pops tail head : ℕ) → Next
filled w s (OwnerCall.Push t) word pops tail head =
    pick (ltb (s.capacity - 1) (minus w tail head)) (ends s (Answer.Full t) None) (on s (Place.Own (OwnPlace.PushWrite t word tail)) None)
filled w s OwnerCall.Extend word pops tail head = on s (Place.Own (extending pops tail (plus w head s.capacity) 0)) None
filled w s OwnerCall.Spare word pops tail head = ends s (Answer.Spare (minus w s.capacity (minus w tail head))) None

-- booking begins as the source's kind has it
abbrev pub booking : Kind → BookPlace
booking Kind.Lifo = BookPlace.LifoPacked
booking Kind.Fifo = BookPlace.FifoPacked

-- steal and take: room = capacity - (tail - head), then booking
abbrev pub brought : ℕ → Context → TransferCall → (word tail head : ℕ) → Next
brought w s e word tail head =
    on s
    (Place.Book
    (BookingCall.Transfer e (record { word = word; tail = tail; room = minus w s.capacity (minus w tail head) })) (booking s.from)) None

-- ---- booking

abbrev pub rule_of : BookingCall → Rule
rule_of (BookingCall.Transfer e d) = e.rule
rule_of (BookingCall.Drain r) = r

-- the limit m: steal: room; take: room + 1; drain: 2 ^ w - 1
abbrev pub room_for : ℕ → Transfer → ℕ → ℕ
room_for w Transfer.Steal room = room
room_for w Transfer.Take room = plus w room 1

abbrev pub limit_of : ℕ → BookingCall → ℕ
limit_of w (BookingCall.Transfer e d) = room_for w e.transfer d.room
limit_of w (BookingCall.Drain r) = 2 ^ w - 1

-- n seen: empty if n = 0, count = least of rule, m, n, empty if 0
abbrev pub counted : ℕ → Context → BookingCall → ℕ → (ℕ → BookPlace) → Next
counted w s g n cas =
    pick (eqb n 0) (ends s Answer.Empty None)
    (pick (eqb (least_of (ruled (rule_of g) s.mark n) (limit_of w g) n) 0) (ends s Answer.Empty None)
    (on s (Place.Book g (cas (least_of (ruled (rule_of g) s.mark n) (limit_of w g) n))) None))

-- booked, from position `head` on: the items are moved; a drain answers the count
abbrev pub booked : ℕ → Context → BookingCall → (head count : ℕ) → Next
booked w s (BookingCall.Transfer e d) head k =
    on s
    (Place.Move (MovePlace.ReadSlot (record { source = e.source; transfer = e.transfer; word = d.word; tail = d.tail; from = head; count = k }) 0))
    (Some (Change.Booked k))
booked w s (BookingCall.Drain r) head k = record {
  place = Place.Idle;
  drain = record { at = head; end = plus w head k };
  answer = Some (Answer.Drain k);
  change = Some (Change.Booked k);
}

-- ---- closing

abbrev pub closing : Kind → ℕ → ClosePlace
closing Kind.Lifo head = ClosePlace.StoreCompleted head
closing Kind.Fifo head = ClosePlace.LoadHeads

abbrev pub answer_of : ClosingCall → Answer
answer_of (ClosingCall.Steal s k) = Answer.Stolen k
answer_of (ClosingCall.Take s t k) = Answer.Taken t k
answer_of (ClosingCall.Next t) = Answer.Item t
answer_of ClosingCall.Drop = Answer.Closed

-- ---- on the own queue

-- a step of extend carries a token, written, or says end, touching nothing
abbrev pub extend_row : ℕ → Context → Mark → (pops tail limit written : ℕ) → Row
extend_row w s (Mark.Carry t) pops tail limit written =
    own Access.Write (position tail) t then
    λ x. on s (Place.Own (extending pops (plus w tail 1) limit (plus w written 1))) (Some (Change.Offered t))
extend_row w s Mark.End pops tail limit written = own Access.Touch then λ x. on s (Place.Own (OwnPlace.ExtendStore pops tail written)) None
extend_row w s Mark.Plain pops tail limit written =
    own Access.Touch then λ x. on s (Place.Own (OwnPlace.ExtendStore pops tail written)) None
extend_row w s Mark.Weak pops tail limit written = own Access.Touch then λ x. on s (Place.Own (OwnPlace.ExtendStore pops tail written)) None

-- next: read one; after the last one a further step first closes
abbrev pub drained : ℕ → Context → (token : ℕ) → Next
drained w s t = record {
  place = pick (eqb (plus w s.drain.at 1) s.drain.end) (Place.Close (ClosingCall.Next t) (closing s.kind s.drain.end)) Place.Idle;
  drain = record { at = plus w s.drain.at 1; end = s.drain.end };
  answer = pick (eqb (plus w s.drain.at 1) s.drain.end) None (Some (Answer.Item t));
  change = Some Change.Drained;
}

-- drop: reads the rest, one a step, then closes
abbrev pub dropping : ℕ → Context → Next
dropping w s = record {
  place =
      pick (eqb (plus w s.drain.at 1) s.drain.end) (Place.Close ClosingCall.Drop (closing s.kind s.drain.end)) (Place.Own OwnPlace.DropItem);
  drain = record { at = plus w s.drain.at 1; end = s.drain.end };
  answer = None;
  change = Some (Change.Dropped 1);
}

abbrev pub own_row : ℕ → Context → OwnPlace → Row
own_row w s (OwnPlace.PushWrite t word tail) =
    own Access.Write (position tail) t then λ x. on s (Place.Own (OwnPlace.PushStore word)) (Some (Change.Offered t))
own_row w s (OwnPlace.PushStore word) = own Access.StorePushes (plus w word 1) then λ x. ends s Answer.Pushed (Some Change.Accepted)
own_row w s (OwnPlace.ExtendMore pops tail limit written) = extend_row w s s.mark pops tail limit written
own_row w s (OwnPlace.ExtendStore pops tail written) =
    own Access.StorePushes (plus w tail pops) then λ x. ends s (Answer.Extended written) (Some Change.Accepted)
own_row w s (OwnPlace.PopRead at) = own Access.Read at then λ x. ends s (Answer.Popped x.token) None
own_row w s OwnPlace.NextItem =
    pick (eqb s.drain.at s.drain.end) (own Access.Touch then λ x. ends s Answer.Done None)
    (own Access.Read (position s.drain.at) then λ x. drained w s x.token)
own_row w s OwnPlace.DropItem =
    pick (eqb s.drain.at s.drain.end) (own Access.Touch then λ x. ends s Answer.Closed None)
    (own Access.Read (position s.drain.at) then λ x. dropping w s)

-- ---- moving: for each item read source slot, write destination slot; take: all but the last, then read the last

abbrev pub last_read : ℕ → Transfer → BookedTokens → (moved : ℕ) → Bool
last_read w Transfer.Steal t j = false
last_read w Transfer.Take t j = eqb (plus w j 1) t.count

abbrev pub last_written : ℕ → Transfer → BookedTokens → (moved : ℕ) → Bool
last_written w Transfer.Steal t j = eqb (plus w j 1) t.count
last_written w Transfer.Take t j = false

-- how many land, the effect, and how the call ends
abbrev pub landing : ℕ → Transfer → BookedTokens → ℕ
landing w Transfer.Steal t = t.count
landing w Transfer.Take t = minus w t.count 1

abbrev pub landed : ℕ → Transfer → BookedTokens → Change
landed w Transfer.Steal t = Change.Landed t.count
landed w Transfer.Take t = Change.TakeLanded (minus w t.count 1)

abbrev pub ending : ℕ → Transfer → BookedTokens → (last : ℕ) → ClosingCall
ending w Transfer.Steal t last = ClosingCall.Steal t.source t.count
ending w Transfer.Take t last = ClosingCall.Take t.source last (minus w t.count 1)

-- an item read, and an item written
abbrev pub was_read : ℕ → Context → BookedTokens → (moved token : ℕ) → Next
was_read w s t j token = on s (Place.Move (pick (last_read w t.transfer t j) (MovePlace.Land t token) (MovePlace.WriteSlot t j token))) None

abbrev pub was_written : ℕ → Context → BookedTokens → (moved : ℕ) → Next
was_written w s t j = on s (Place.Move (pick (last_written w t.transfer t j) (MovePlace.Land t 0) (MovePlace.ReadSlot t (plus w j 1)))) None

abbrev pub move_row : ℕ → Context → MovePlace → Row
move_row w s (MovePlace.ReadSlot t j) = source Access.Read (position (plus w t.from j)) then λ x. was_read w s t j x.token
move_row w s (MovePlace.WriteSlot t j token) = own Access.Write (position (plus w t.tail j)) token then λ x. was_written w s t j
move_row w s (MovePlace.Land t last) =
    own Access.StorePushes (plus w t.word (landing w t.transfer t)) then
    λ x. on s (Place.Close (ending w t.transfer t last) (closing s.from (plus w t.from t.count))) (Some (landed w t.transfer t))
