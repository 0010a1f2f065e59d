-- A place in numbers: how each is written, and what any numbers are read as. proofs/Cells.antt shows that what is written is read back.
use Rattle.std.specs.Prelude.{ℕ, ◌-◌, ◌^◌, Bool, false, Option, Some, None, ltb, eqb}
use Rattle.words.specs.Word.{pick, orb, position}
use Rattle.tables.specs.declared.call.Rule.{Rule}
use Rattle.tables.specs.declared.place.BookPlace.{BookPlace}
use Rattle.tables.specs.declared.place.BookedTokens.{BookedTokens}
use Rattle.tables.specs.declared.place.BookingCall.{BookingCall}
use Rattle.tables.specs.declared.place.ClosePlace.{ClosePlace}
use Rattle.tables.specs.declared.place.ClosingCall.{ClosingCall}
use Rattle.tables.specs.declared.place.Destination.{Destination}
use Rattle.tables.specs.declared.place.FifoPlace.{FifoPlace}
use Rattle.tables.specs.declared.place.LifoPlace.{LifoPlace}
use Rattle.tables.specs.declared.place.MovePlace.{MovePlace}
use Rattle.tables.specs.declared.place.OwnPlace.{OwnPlace}
use Rattle.tables.specs.declared.place.OwnerCall.{OwnerCall}
use Rattle.tables.specs.declared.place.Place.{Place}
use Rattle.tables.specs.declared.place.RoomCall.{RoomCall}
use Rattle.tables.specs.declared.place.Transfer.{Transfer}
use Rattle.tables.specs.declared.place.TransferCall.{TransferCall}
use Rattle.tables.specs.Step.{andb}
use Rattle.block.specs.declared.CallWords.{CallWords}
use Rattle.block.specs.declared.PlaceWords.{PlaceWords}

-- ---- written

-- Rules: 0 all, 1 half, 2 fixed, 3 given; the number of a fixed one stands apart.
abbrev pub rule_number : Rule → ℕ
rule_number Rule.All = 0
rule_number Rule.Half = 1
rule_number (Rule.Fixed k) = 2
rule_number Rule.Given = 3

abbrev pub rule_count : Rule → ℕ
rule_count Rule.All = 0
rule_count Rule.Half = 0
rule_count (Rule.Fixed k) = k
rule_count Rule.Given = 0

abbrev pub call_words : (tag rule source number : ℕ) → CallWords
call_words t r s n = record { tag = t; rule = r; source = s; number = n }

abbrev pub no_call : CallWords
no_call = call_words 0 0 0 0

-- What a call is about: 0 push, 1 extend, 2 spare, 3 steal, 4 take, 5 drain, 6 next, 7 drop.
abbrev pub owner_words : OwnerCall → CallWords
owner_words (OwnerCall.Push t) = call_words 0 0 0 t
owner_words OwnerCall.Extend = call_words 1 0 0 0
owner_words OwnerCall.Spare = call_words 2 0 0 0

abbrev pub transfer_tag : Transfer → ℕ
transfer_tag Transfer.Steal = 3
transfer_tag Transfer.Take = 4

abbrev pub transfer_words : TransferCall → CallWords
transfer_words e = call_words (transfer_tag e.transfer) (rule_number e.rule) e.source (rule_count e.rule)

abbrev pub room_words : RoomCall → CallWords
room_words (RoomCall.Owner f) = owner_words f
room_words (RoomCall.Transfer e) = transfer_words e

abbrev pub booking_words : BookingCall → CallWords
booking_words (BookingCall.Transfer e d) = transfer_words e
booking_words (BookingCall.Drain r) = call_words 5 (rule_number r) 0 (rule_count r)

abbrev pub booking_destination : BookingCall → Destination
booking_destination (BookingCall.Transfer e d) = d
booking_destination (BookingCall.Drain r) = record { word = 0; tail = 0; room = 0 }

-- the token on its way stands where a rule's number would
abbrev pub booked_words : BookedTokens → (token : ℕ) → CallWords
booked_words t n = call_words (transfer_tag t.transfer) 0 t.source n

abbrev pub closing_words : ClosingCall → CallWords
closing_words (ClosingCall.Steal s k) = call_words 3 0 s 0
closing_words (ClosingCall.Take s t k) = call_words 4 0 s t
closing_words (ClosingCall.Next t) = call_words 6 0 0 t
closing_words ClosingCall.Drop = call_words 7 0 0 0

abbrev pub closing_count : ClosingCall → ℕ
closing_count (ClosingCall.Steal s k) = k
closing_count (ClosingCall.Take s t k) = k
closing_count (ClosingCall.Next t) = 0
closing_count ClosingCall.Drop = 0

abbrev pub place_words : (role row : ℕ) → CallWords → (packed first second third fourth fifth : ℕ) → PlaceWords
place_words r n w p a b c d e = record { role = r; row = n; call = w; packed = p; first = a; second = b; third = c; fourth = d; fifth = e }

abbrev pub lifo_words : LifoPlace → PlaceWords
lifo_words (LifoPlace.LoadPushes j) = place_words 1 0 (room_words j) 0 0 0 0 0 0
lifo_words (LifoPlace.LoadPacked j count) = place_words 1 1 (room_words j) 0 count 0 0 0 0
lifo_words (LifoPlace.LoadCompleted j count packed) = place_words 1 2 (room_words j) packed count 0 0 0 0
lifo_words LifoPlace.PopPacked = place_words 1 3 no_call 0 0 0 0 0 0
lifo_words (LifoPlace.PopPushes packed) = place_words 1 4 no_call packed 0 0 0 0 0
lifo_words (LifoPlace.PopCas packed tail) = place_words 1 5 no_call packed tail 0 0 0 0
lifo_words LifoPlace.EmptyPushes = place_words 1 6 no_call 0 0 0 0 0 0
lifo_words (LifoPlace.EmptyPacked count) = place_words 1 7 no_call 0 count 0 0 0 0

abbrev pub fifo_words : FifoPlace → PlaceWords
fifo_words (FifoPlace.LoadPacked f) = place_words 2 0 (owner_words f) 0 0 0 0 0 0
fifo_words (FifoPlace.LoadTail f packed) = place_words 2 1 (owner_words f) packed 0 0 0 0 0
fifo_words (FifoPlace.DestTail e) = place_words 2 2 (transfer_words e) 0 0 0 0 0 0
fifo_words (FifoPlace.DestPacked e tail) = place_words 2 3 (transfer_words e) 0 tail 0 0 0 0
fifo_words FifoPlace.PopPacked = place_words 2 4 no_call 0 0 0 0 0 0
fifo_words (FifoPlace.PopTail packed) = place_words 2 5 no_call packed 0 0 0 0 0
fifo_words (FifoPlace.PopCas packed) = place_words 2 6 no_call packed 0 0 0 0 0
fifo_words FifoPlace.EmptyPacked = place_words 2 7 no_call 0 0 0 0 0 0
fifo_words (FifoPlace.EmptyTail packed) = place_words 2 8 no_call packed 0 0 0 0 0

abbrev pub own_words : OwnPlace → PlaceWords
own_words (OwnPlace.PushWrite token word tail) = place_words 3 0 (call_words 0 0 0 token) 0 word tail 0 0 0
own_words (OwnPlace.PushStore word) = place_words 3 1 no_call 0 word 0 0 0 0
own_words (OwnPlace.ExtendMore pops tail limit written) = place_words 3 2 no_call 0 pops tail limit written 0
own_words (OwnPlace.ExtendStore pops tail written) = place_words 3 3 no_call 0 pops tail written 0 0
own_words (OwnPlace.PopRead at) = place_words 3 4 no_call 0 at.0 0 0 0 0
own_words OwnPlace.NextItem = place_words 3 5 no_call 0 0 0 0 0 0
own_words OwnPlace.DropItem = place_words 3 6 no_call 0 0 0 0 0 0

-- a booking: what for, and what the destination loads found
abbrev pub booking : CallWords → Destination → (row packed done count : ℕ) → PlaceWords
booking w d row packed done count = place_words 4 row w packed d.word d.tail d.room done count

abbrev pub book_words : CallWords → Destination → BookPlace → PlaceWords
book_words w d BookPlace.LifoPacked = booking w d 0 0 0 0
book_words w d (BookPlace.LifoCompleted packed) = booking w d 1 packed 0 0
book_words w d (BookPlace.LifoPushes packed done) = booking w d 2 packed done 0
book_words w d (BookPlace.LifoCas packed done count) = booking w d 3 packed done count
book_words w d BookPlace.FifoPacked = booking w d 4 0 0 0
book_words w d (BookPlace.FifoTail packed) = booking w d 5 packed 0 0
book_words w d (BookPlace.FifoCas packed count) = booking w d 6 packed 0 count

abbrev pub moving : BookedTokens → (row token moved : ℕ) → PlaceWords
moving t row token moved = place_words 5 row (booked_words t token) 0 t.word t.tail t.from t.count moved

abbrev pub move_words : MovePlace → PlaceWords
move_words (MovePlace.ReadSlot t moved) = moving t 0 0 moved
move_words (MovePlace.WriteSlot t moved token) = moving t 1 token moved
move_words (MovePlace.Land t last) = moving t 2 last 0

abbrev pub close_words : ClosingCall → ClosePlace → PlaceWords
close_words e (ClosePlace.StoreCompleted head) = place_words 6 0 (closing_words e) 0 (closing_count e) head 0 0 0
close_words e ClosePlace.LoadHeads = place_words 6 1 (closing_words e) 0 (closing_count e) 0 0 0 0
close_words e (ClosePlace.CasHeads packed) = place_words 6 2 (closing_words e) packed (closing_count e) 0 0 0 0

unfoldable pub words_of : Place → PlaceWords
words_of Place.Idle = place_words 0 0 no_call 0 0 0 0 0 0
words_of (Place.Lifo p) = lifo_words p
words_of (Place.Fifo p) = fifo_words p
words_of (Place.Own p) = own_words p
words_of (Place.Book g p) = book_words (booking_words g) (booking_destination g) p
words_of (Place.Move p) = move_words p
words_of (Place.Close e p) = close_words e p

-- ---- read

abbrev pub rule_of : (rule number : ℕ) → Rule
rule_of r n = pick (eqb r 0) Rule.All (pick (eqb r 1) Rule.Half (pick (eqb r 2) (Rule.Fixed n) Rule.Given))

abbrev pub owner_of : CallWords → OwnerCall
owner_of w = pick (eqb w.tag 0) (OwnerCall.Push w.number) (pick (eqb w.tag 1) OwnerCall.Extend OwnerCall.Spare)

abbrev pub transfer_of : (tag : ℕ) → Transfer
transfer_of t = pick (eqb t 3) Transfer.Steal Transfer.Take

abbrev pub transfer_call_of : CallWords → TransferCall
transfer_call_of w = record { source = w.source; rule = rule_of w.rule w.number; transfer = transfer_of w.tag }

abbrev pub room_of : CallWords → RoomCall
room_of w = pick (ltb w.tag 3) (RoomCall.Owner (owner_of w)) (RoomCall.Transfer (transfer_call_of w))

abbrev pub destination_of : PlaceWords → Destination
destination_of c = record { word = c.first; tail = c.second; room = c.third }

unfoldable pub booking_of : PlaceWords → BookingCall
booking_of c =
    pick (eqb c.call.tag 5) (BookingCall.Drain (rule_of c.call.rule c.call.number)) (BookingCall.Transfer (transfer_call_of c.call) (destination_of c))

abbrev pub booked_of : PlaceWords → BookedTokens
booked_of c = record {
  source = c.call.source;
  transfer = transfer_of c.call.tag;
  word = c.first;
  tail = c.second;
  from = c.third;
  count = c.fourth;
}

unfoldable pub closing_of : CallWords → (count : ℕ) → ClosingCall
closing_of w k =
    pick (eqb w.tag 3) (ClosingCall.Steal w.source k)
    (pick (eqb w.tag 4) (ClosingCall.Take w.source w.number k) (pick (eqb w.tag 6) (ClosingCall.Next w.number) ClosingCall.Drop))

unfoldable pub lifo_of : PlaceWords → LifoPlace
lifo_of c =
    pick (eqb c.row 0) (LifoPlace.LoadPushes (room_of c.call))
    (pick (eqb c.row 1) (LifoPlace.LoadPacked (room_of c.call) c.first)
    (pick (eqb c.row 2) (LifoPlace.LoadCompleted (room_of c.call) c.first c.packed)
    (pick (eqb c.row 3) LifoPlace.PopPacked
    (pick (eqb c.row 4) (LifoPlace.PopPushes c.packed)
    (pick (eqb c.row 5) (LifoPlace.PopCas c.packed c.first) (pick (eqb c.row 6) LifoPlace.EmptyPushes (LifoPlace.EmptyPacked c.first)))))))

unfoldable pub fifo_of : PlaceWords → FifoPlace
fifo_of c =
    pick (eqb c.row 0) (FifoPlace.LoadPacked (owner_of c.call))
    (pick (eqb c.row 1) (FifoPlace.LoadTail (owner_of c.call) c.packed)
    (pick (eqb c.row 2) (FifoPlace.DestTail (transfer_call_of c.call))
    (pick (eqb c.row 3) (FifoPlace.DestPacked (transfer_call_of c.call) c.first)
    (pick (eqb c.row 4) FifoPlace.PopPacked
    (pick (eqb c.row 5) (FifoPlace.PopTail c.packed)
    (pick (eqb c.row 6) (FifoPlace.PopCas c.packed) (pick (eqb c.row 7) FifoPlace.EmptyPacked (FifoPlace.EmptyTail c.packed))))))))

unfoldable pub own_of : PlaceWords → OwnPlace
own_of c =
    pick (eqb c.row 0) (OwnPlace.PushWrite c.call.number c.first c.second)
    (pick (eqb c.row 1) (OwnPlace.PushStore c.first)
    (pick (eqb c.row 2) (OwnPlace.ExtendMore c.first c.second c.third c.fourth)
    (pick (eqb c.row 3) (OwnPlace.ExtendStore c.first c.second c.third)
    (pick (eqb c.row 4) (OwnPlace.PopRead (position c.first)) (pick (eqb c.row 5) OwnPlace.NextItem OwnPlace.DropItem)))))

unfoldable pub book_of : PlaceWords → BookPlace
book_of c =
    pick (eqb c.row 0) BookPlace.LifoPacked
    (pick (eqb c.row 1) (BookPlace.LifoCompleted c.packed)
    (pick (eqb c.row 2) (BookPlace.LifoPushes c.packed c.fourth)
    (pick (eqb c.row 3) (BookPlace.LifoCas c.packed c.fourth c.fifth)
    (pick (eqb c.row 4) BookPlace.FifoPacked
    (pick (eqb c.row 5) (BookPlace.FifoTail c.packed) (BookPlace.FifoCas c.packed c.fifth))))))

unfoldable pub move_of : PlaceWords → MovePlace
move_of c =
    pick (eqb c.row 0) (MovePlace.ReadSlot (booked_of c) c.fifth)
    (pick (eqb c.row 1) (MovePlace.WriteSlot (booked_of c) c.fifth c.call.number) (MovePlace.Land (booked_of c) c.call.number))

unfoldable pub close_of : PlaceWords → ClosePlace
close_of c =
    pick (eqb c.row 0) (ClosePlace.StoreCompleted c.second) (pick (eqb c.row 1) ClosePlace.LoadHeads (ClosePlace.CasHeads c.packed))

unfoldable pub place_of : PlaceWords → Place
place_of c =
    pick (eqb c.role 0) Place.Idle
    (pick (eqb c.role 1) (Place.Lifo (lifo_of c))
    (pick (eqb c.role 2) (Place.Fifo (fifo_of c))
    (pick (eqb c.role 3) (Place.Own (own_of c))
    (pick (eqb c.role 4) (Place.Book (booking_of c) (book_of c))
    (pick (eqb c.role 5) (Place.Move (move_of c)) (Place.Close (closing_of c.call c.first) (close_of c)))))))

-- ---- which numbers are a place's

-- what is read, where the numbers are known
abbrev pub where_known : {A : Type 0} → Bool → A → Option A
where_known k x = pick k (Some x) None

-- lo ≤ n < hi
abbrev pub between : (lo hi n : ℕ) → Bool
between lo hi n = pick (ltb n lo) false (ltb n hi)

abbrev pub lifo_known : (row tag rule : ℕ) → Bool
lifo_known n t r = pick (ltb n 3) (andb (ltb t 5) (ltb r 4)) (ltb n 8)

abbrev pub fifo_known : (row tag rule : ℕ) → Bool
fifo_known n t r = pick (ltb n 2) (ltb t 3) (pick (ltb n 4) (andb (between 3 5 t) (ltb r 4)) (ltb n 9))

abbrev pub book_known : (row tag rule : ℕ) → Bool
book_known n t r = andb (ltb n 7) (andb (between 3 6 t) (ltb r 4))

abbrev pub move_known : (row tag : ℕ) → Bool
move_known n t = andb (ltb n 3) (between 3 5 t)

abbrev pub close_known : (row tag : ℕ) → Bool
close_known n t = andb (ltb n 3) (orb (between 3 5 t) (between 6 8 t))

unfoldable pub known : PlaceWords → Bool
known c =
    pick (eqb c.role 0) (eqb c.row 0)
    (pick (eqb c.role 1) (lifo_known c.row c.call.tag c.call.rule)
    (pick (eqb c.role 2) (fifo_known c.row c.call.tag c.call.rule)
    (pick (eqb c.role 3) (ltb c.row 7)
    (pick (eqb c.role 4) (book_known c.row c.call.tag c.call.rule)
    (pick (eqb c.role 5) (move_known c.row c.call.tag)
    (pick (eqb c.role 6) (close_known c.row c.call.tag) false))))))

-- Numbers that are no place's are read as one whose source is not there, so that the record test refuses them.
abbrev pub nobodys : Place
nobodys = Place.Close (ClosingCall.Steal (2 ^ 64 - 1) 0) ClosePlace.LoadHeads

unfoldable pub place_read : PlaceWords → Place
place_read c = pick (known c) (place_of c) nobodys
