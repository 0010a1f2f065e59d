-- Document 01's LIFO tables, where LIFO differs: the loads, pop, empty, booking, closing.
use Rattle.std.specs.Prelude.{ℕ, eqb, Some, None}
use Rattle.words.specs.Word.{pick, plus, minus, packed, high, low, position}
use Rattle.tables.specs.declared.access.Access.TheVariants as Access
use Rattle.tables.specs.declared.access.Context.{Context}
use Rattle.tables.specs.declared.access.Next.{Next}
use Rattle.tables.specs.declared.access.Seen.{Seen}
use Rattle.tables.specs.declared.answer.Answer.TheVariants as Answer
use Rattle.tables.specs.declared.answer.Change.TheVariants as Change
use Rattle.tables.specs.declared.place.BookPlace.TheVariants as BookPlace
use Rattle.tables.specs.declared.place.BookingCall.{BookingCall}
use Rattle.tables.specs.declared.place.LifoPlace.{LifoPlace}
use Rattle.tables.specs.declared.place.OwnPlace.TheVariants as OwnPlace
use Rattle.tables.specs.declared.place.Place.TheVariants as Place
use Rattle.tables.specs.declared.place.RoomCall.{RoomCall}
use Rattle.tables.specs.Row.{Row, own◌then◌, source◌then◌, on, ends}
use Rattle.tables.specs.Table.{filled, brought, counted, booked}

-- tail = push count - pop count
abbrev pub tail_of : ℕ → (count packed : ℕ) → ℕ
tail_of w n p = minus w n (high w p)

abbrev pub lifo_loaded : ℕ → Context → RoomCall → (count packed done : ℕ) → Next
lifo_loaded w s (RoomCall.Owner f) n p head = filled w s f n (high w p) (tail_of w n p) head
lifo_loaded w s (RoomCall.Transfer e) n p head = brought w s e n (tail_of w n p) head

-- none if tail = head, else the CAS
abbrev pub pop_test : ℕ → Context → (packed tail : ℕ) → Next
pop_test w s p tail = pick (eqb tail (low w p)) (ends s Answer.None None) (on s (Place.Lifo (LifoPlace.PopCas p tail)) None)

-- after a failed CAS take the new head, keep tail, test for none in that same step
abbrev pub lifo_popped : ℕ → Context → (tail : ℕ) → Seen → Next
lifo_popped w s tail x =
    pick x.stored (on s (Place.Own (OwnPlace.PopRead (position (minus w tail 1)))) (Some Change.Popped)) (pop_test w s x.packed tail)

-- yes if tail = booked head
abbrev pub lifo_empty : ℕ → Context → (count packed : ℕ) → Next
lifo_empty w s n p = ends s (pick (eqb (tail_of w n p) (low w p)) Answer.Yes Answer.No) None

abbrev pub lifo_row : ℕ → Context → LifoPlace → Row
lifo_row w s (LifoPlace.LoadPushes j) = own Access.LoadPushes then λ x. on s (Place.Lifo (LifoPlace.LoadPacked j x.word)) None
lifo_row w s (LifoPlace.LoadPacked j n) = own Access.LoadPacked then λ x. on s (Place.Lifo (LifoPlace.LoadCompleted j n x.packed)) None
lifo_row w s (LifoPlace.LoadCompleted j n p) = own Access.LoadCompleted then λ x. lifo_loaded w s j n p x.word
lifo_row w s LifoPlace.PopPacked = own Access.LoadPacked then λ x. on s (Place.Lifo (LifoPlace.PopPushes x.packed)) None
lifo_row w s (LifoPlace.PopPushes p) = own Access.LoadPushes then λ x. pop_test w s p (tail_of w x.word p)
lifo_row w s (LifoPlace.PopCas p tail) =
    own Access.Cas p (packed w (plus w (high w p) 1) (low w p)) then λ x. lifo_popped w s tail x
lifo_row w s LifoPlace.EmptyPushes = own Access.LoadPushes then λ x. on s (Place.Lifo (LifoPlace.EmptyPacked x.word)) None
lifo_row w s (LifoPlace.EmptyPacked n) = own Access.LoadPacked then λ x. lifo_empty w s n x.packed

-- busy if the completed head differs from the booked head
abbrev pub completed_test : ℕ → Context → BookingCall → (packed done : ℕ) → Next
completed_test w s g p d = pick (eqb d (low w p)) (on s (Place.Book g (BookPlace.LifoPushes p d)) None) (ends s Answer.Busy None)

-- n = tail - head
abbrev pub rest_of : ℕ → (count packed : ℕ) → ℕ
rest_of w n p = minus w (tail_of w n p) (low w p)

abbrev pub lifo_packed_row : Context → BookingCall → Row
lifo_packed_row s g = source Access.LoadPacked then λ x. on s (Place.Book g (BookPlace.LifoCompleted x.packed)) None

abbrev pub lifo_completed_row : ℕ → Context → BookingCall → (packed : ℕ) → Row
lifo_completed_row w s g p = source Access.LoadCompleted then λ x. completed_test w s g p x.word

abbrev pub lifo_pushes_row : ℕ → Context → BookingCall → (packed done : ℕ) → Row
lifo_pushes_row w s g p d = source Access.LoadPushes then λ x. counted w s g (rest_of w x.word p) (λ k. BookPlace.LifoCas p d k)

-- after a failed CAS the remembered completed head is compared with the new booked head, then back to the push count load
abbrev pub lifo_booked : ℕ → Context → BookingCall → (packed done count : ℕ) → Seen → Next
lifo_booked w s g p d k x = pick x.stored (booked w s g (low w p) k) (completed_test w s g x.packed d)

abbrev pub lifo_cas_row : ℕ → Context → BookingCall → (packed done count : ℕ) → Row
lifo_cas_row w s g p d k = source Access.Cas p (packed w (high w p) (plus w (low w p) k)) then λ x. lifo_booked w s g p d k x
