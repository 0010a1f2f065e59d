-- Document 01's FIFO tables, where FIFO differs: the loads, pop, empty, booking, closing.
use Rattle.std.specs.Prelude.{ℕ, eqb, Some, None}
use Rattle.words.specs.Word.{pick, plus, minus, packed, high, low, position}
use Rattle.tables.specs.declared.access.Access.TheVariants as Access
use Rattle.tables.specs.declared.access.Context.{Context}
use Rattle.tables.specs.declared.access.Next.{Next}
use Rattle.tables.specs.declared.access.Seen.{Seen}
use Rattle.tables.specs.declared.answer.Answer.TheVariants as Answer
use Rattle.tables.specs.declared.answer.Change.TheVariants as Change
use Rattle.tables.specs.declared.place.BookPlace.TheVariants as BookPlace
use Rattle.tables.specs.declared.place.BookingCall.{BookingCall}
use Rattle.tables.specs.declared.place.FifoPlace.{FifoPlace}
use Rattle.tables.specs.declared.place.OwnPlace.TheVariants as OwnPlace
use Rattle.tables.specs.declared.place.Place.TheVariants as Place
use Rattle.tables.specs.Row.{Row, own◌then◌, source◌then◌, on, ends}
use Rattle.tables.specs.Table.{filled, brought, counted, booked}

-- worker head + 1, and stealer head + 1 only if the two were equal
abbrev pub popped_heads : ℕ → (packed : ℕ) → ℕ
popped_heads w p = packed w (plus w (high w p) 1) (pick (eqb (high w p) (low w p)) (plus w (low w p) 1) (low w p))

-- none if tail = worker head, else the CAS
abbrev pub fifo_pop_test : ℕ → Context → (packed tail : ℕ) → Next
fifo_pop_test w s p tail = pick (eqb tail (high w p)) (ends s Answer.None None) (on s (Place.Fifo (FifoPlace.PopCas p)) None)

-- read the old worker head's slot; a failed CAS goes back to the tail load
abbrev pub fifo_popped : ℕ → Context → (packed : ℕ) → Seen → Next
fifo_popped w s p x =
    pick x.stored (on s (Place.Own (OwnPlace.PopRead (position (high w p)))) (Some Change.Popped))
    (on s (Place.Fifo (FifoPlace.PopTail x.packed)) None)

-- yes if tail = worker head
abbrev pub fifo_empty : ℕ → Context → (packed tail : ℕ) → Next
fifo_empty w s p tail = ends s (pick (eqb tail (high w p)) Answer.Yes Answer.No) None

abbrev pub fifo_row : ℕ → Context → FifoPlace → Row
fifo_row w s (FifoPlace.LoadPacked f) = own Access.LoadPacked then λ x. on s (Place.Fifo (FifoPlace.LoadTail f x.packed)) None
fifo_row w s (FifoPlace.LoadTail f p) = own Access.LoadPushes then λ x. filled w s f x.word 0 x.word (low w p)
fifo_row w s (FifoPlace.DestTail e) = own Access.LoadPushes then λ x. on s (Place.Fifo (FifoPlace.DestPacked e x.word)) None
fifo_row w s (FifoPlace.DestPacked e tail) = own Access.LoadPacked then λ x. brought w s e tail tail (low w x.packed)
fifo_row w s FifoPlace.PopPacked = own Access.LoadPacked then λ x. on s (Place.Fifo (FifoPlace.PopTail x.packed)) None
fifo_row w s (FifoPlace.PopTail p) = own Access.LoadPushes then λ x. fifo_pop_test w s p x.word
fifo_row w s (FifoPlace.PopCas p) = own Access.Cas p (popped_heads w p) then λ x. fifo_popped w s p x
fifo_row w s FifoPlace.EmptyPacked = own Access.LoadPacked then λ x. on s (Place.Fifo (FifoPlace.EmptyTail x.packed)) None
fifo_row w s (FifoPlace.EmptyTail p) = own Access.LoadPushes then λ x. fifo_empty w s p x.word

-- busy if the heads differ
abbrev pub heads_test : ℕ → Context → BookingCall → (packed : ℕ) → Next
heads_test w s g p = pick (eqb (high w p) (low w p)) (on s (Place.Book g (BookPlace.FifoTail p)) None) (ends s Answer.Busy None)

abbrev pub fifo_packed_row : ℕ → Context → BookingCall → Row
fifo_packed_row w s g = source Access.LoadPacked then λ x. heads_test w s g x.packed

-- n = tail - worker head
abbrev pub fifo_tail_row : ℕ → Context → BookingCall → (packed : ℕ) → Row
fifo_tail_row w s g p = source Access.LoadPushes then λ x. counted w s g (minus w x.word (high w p)) (λ k. BookPlace.FifoCas p k)

-- worker head + count, stealer head kept; a failed CAS tests busy at once, then goes back to the tail load
abbrev pub fifo_booked : ℕ → Context → BookingCall → (packed count : ℕ) → Seen → Next
fifo_booked w s g p k x = pick x.stored (booked w s g (high w p) k) (heads_test w s g x.packed)

abbrev pub fifo_cas_row : ℕ → Context → BookingCall → (packed count : ℕ) → Row
fifo_cas_row w s g p k = source Access.Cas p (packed w (plus w (high w p) k) (low w p)) then λ x. fifo_booked w s g p k x
