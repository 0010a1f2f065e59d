-- What is written of a place is read back as that place: its numbers are known, and each is read as the place that it was written for.
use Prim.Native.Nat.{ℕ}
use mathlib.Core.Path.{◌≡◌, refl, ap, ◌∙◌}
use mathlib.Core.Bool.{true}
use lib.Dec.{ltb}
use Rattle.words.specs.Word.{orb}
use Rattle.tables.specs.declared.call.Rule.{Rule}
use Rattle.tables.specs.declared.place.BookPlace.{BookPlace}
use Rattle.tables.specs.declared.place.BookedTokens.{BookedTokens}
use Rattle.tables.specs.declared.place.BookingCall.{BookingCall}
use Rattle.tables.specs.declared.place.ClosePlace.{ClosePlace}
use Rattle.tables.specs.declared.place.ClosingCall.{ClosingCall}
use Rattle.tables.specs.declared.place.FifoPlace.{FifoPlace}
use Rattle.tables.specs.declared.place.LifoPlace.{LifoPlace}
use Rattle.tables.specs.declared.place.MovePlace.{MovePlace}
use Rattle.tables.specs.declared.place.OwnPlace.{OwnPlace}
use Rattle.tables.specs.declared.place.OwnerCall.{OwnerCall}
use Rattle.tables.specs.declared.place.Place.{Place}
use Rattle.tables.specs.declared.place.RoomCall.{RoomCall}
use Rattle.tables.specs.declared.place.Transfer.{Transfer}
use Rattle.tables.specs.declared.place.TransferCall.{TransferCall}
use Rattle.tables.specs.Step.{andb}
use Rattle.tables.proofs.Bools.{pick_yes}
use Rattle.block.specs.PlaceWords.{rule_number, rule_count, rule_of, owner_words, owner_of, transfer_tag, transfer_of, transfer_words, transfer_call_of, room_words}
use Rattle.block.specs.PlaceWords.{room_of, booking_words, booking_destination, booking_of, closing_words, closing_count, closing_of, lifo_words, lifo_of}
use Rattle.block.specs.PlaceWords.{fifo_words, fifo_of, own_words, own_of, book_words, book_of, move_words, move_of, close_words}
use Rattle.block.specs.PlaceWords.{close_of, words_of, place_of, booking, moving, booked_of, between, known, place_read}

rule_back : (r : Rule) → rule_of (rule_number r) (rule_count r) ≡ r
rule_back Rule.All = refl
rule_back Rule.Half = refl
rule_back (Rule.Fixed k) = refl
rule_back Rule.Given = refl

owner_back : (f : OwnerCall) → owner_of (owner_words f) ≡ f
owner_back (OwnerCall.Push t) = refl
owner_back OwnerCall.Extend = refl
owner_back OwnerCall.Spare = refl

transfer_back : (h : Transfer) → transfer_of (transfer_tag h) ≡ h
transfer_back Transfer.Steal = refl
transfer_back Transfer.Take = refl

call_back : (e : TransferCall) → transfer_call_of (transfer_words e) ≡ e
call_back e = λ i. record { source = e.source; rule = rule_back e.rule i; transfer = transfer_back e.transfer i }

room_back : (j : RoomCall) → room_of (room_words j) ≡ j
room_back (RoomCall.Owner (OwnerCall.Push t)) = refl
room_back (RoomCall.Owner OwnerCall.Extend) = refl
room_back (RoomCall.Owner OwnerCall.Spare) = refl
room_back (RoomCall.Transfer e) = brought e.transfer
  where
    brought : (h : Transfer) → room_of (transfer_words (record { source = e.source; rule = e.rule; transfer = h })) ≡ RoomCall.Transfer (record { source = e.source; rule = e.rule; transfer = h })
    brought Transfer.Steal = ap RoomCall.Transfer (call_back (record { source = e.source; rule = e.rule; transfer = Transfer.Steal }))
    brought Transfer.Take = ap RoomCall.Transfer (call_back (record { source = e.source; rule = e.rule; transfer = Transfer.Take }))

-- ---- the numbers written are a place's

rule_known : (r : Rule) → ltb (rule_number r) 4 ≡ true
rule_known Rule.All = refl
rule_known Rule.Half = refl
rule_known (Rule.Fixed k) = refl
rule_known Rule.Given = refl

call_known : (h : Transfer) (r : Rule) → andb (between 3 5 (transfer_tag h)) (ltb (rule_number r) 4) ≡ true
call_known Transfer.Steal r = rule_known r
call_known Transfer.Take r = rule_known r

room_known : (j : RoomCall) → andb (ltb (room_words j).tag 5) (ltb (room_words j).rule 4) ≡ true
room_known (RoomCall.Owner (OwnerCall.Push t)) = refl
room_known (RoomCall.Owner OwnerCall.Extend) = refl
room_known (RoomCall.Owner OwnerCall.Spare) = refl
room_known (RoomCall.Transfer e) = brought e.transfer
  where
    brought : (h : Transfer) → andb (ltb (transfer_tag h) 5) (ltb (rule_number e.rule) 4) ≡ true
    brought Transfer.Steal = rule_known e.rule
    brought Transfer.Take = rule_known e.rule

owner_known : (f : OwnerCall) → ltb (owner_words f).tag 3 ≡ true
owner_known (OwnerCall.Push t) = refl
owner_known OwnerCall.Extend = refl
owner_known OwnerCall.Spare = refl

booking_known : (g : BookingCall) → andb (between 3 6 (booking_words g).tag) (ltb (booking_words g).rule 4) ≡ true
booking_known (BookingCall.Transfer e d) = brought e.transfer
  where
    brought : (h : Transfer) → andb (between 3 6 (transfer_tag h)) (ltb (rule_number e.rule) 4) ≡ true
    brought Transfer.Steal = rule_known e.rule
    brought Transfer.Take = rule_known e.rule
booking_known (BookingCall.Drain r) = rule_known r

booked_known : (h : Transfer) → between 3 5 (transfer_tag h) ≡ true
booked_known Transfer.Steal = refl
booked_known Transfer.Take = refl

closing_known : (e : ClosingCall) → orb (between 3 5 (closing_words e).tag) (between 6 8 (closing_words e).tag) ≡ true
closing_known (ClosingCall.Steal s k) = refl
closing_known (ClosingCall.Take s t k) = refl
closing_known (ClosingCall.Next t) = refl
closing_known ClosingCall.Drop = refl

lifo_known_lem : (p : LifoPlace) → known (lifo_words p) ≡ true
unfolding known
lifo_known_lem (LifoPlace.LoadPushes j) = room_known j
lifo_known_lem (LifoPlace.LoadPacked j n) = room_known j
lifo_known_lem (LifoPlace.LoadCompleted j n p) = room_known j
lifo_known_lem LifoPlace.PopPacked = refl
lifo_known_lem (LifoPlace.PopPushes p) = refl
lifo_known_lem (LifoPlace.PopCas p t) = refl
lifo_known_lem LifoPlace.EmptyPushes = refl
lifo_known_lem (LifoPlace.EmptyPacked n) = refl

fifo_known_lem : (p : FifoPlace) → known (fifo_words p) ≡ true
unfolding known
fifo_known_lem (FifoPlace.LoadPacked f) = owner_known f
fifo_known_lem (FifoPlace.LoadTail f p) = owner_known f
fifo_known_lem (FifoPlace.DestTail e) = call_known e.transfer e.rule
fifo_known_lem (FifoPlace.DestPacked e t) = call_known e.transfer e.rule
fifo_known_lem FifoPlace.PopPacked = refl
fifo_known_lem (FifoPlace.PopTail p) = refl
fifo_known_lem (FifoPlace.PopCas p) = refl
fifo_known_lem FifoPlace.EmptyPacked = refl
fifo_known_lem (FifoPlace.EmptyTail p) = refl

own_known : (p : OwnPlace) → known (own_words p) ≡ true
unfolding known
own_known (OwnPlace.PushWrite t w n) = refl
own_known (OwnPlace.PushStore w) = refl
own_known (OwnPlace.ExtendMore p t l w) = refl
own_known (OwnPlace.ExtendStore p t w) = refl
own_known (OwnPlace.PopRead a) = refl
own_known OwnPlace.NextItem = refl
own_known OwnPlace.DropItem = refl

book_known_lem : (g : BookingCall) (p : BookPlace) → known (book_words (booking_words g) (booking_destination g) p) ≡ true
unfolding known
book_known_lem g BookPlace.LifoPacked = booking_known g
book_known_lem g (BookPlace.LifoCompleted p) = booking_known g
book_known_lem g (BookPlace.LifoPushes p d) = booking_known g
book_known_lem g (BookPlace.LifoCas p d n) = booking_known g
book_known_lem g BookPlace.FifoPacked = booking_known g
book_known_lem g (BookPlace.FifoTail p) = booking_known g
book_known_lem g (BookPlace.FifoCas p n) = booking_known g

move_known_lem : (p : MovePlace) → known (move_words p) ≡ true
unfolding known
move_known_lem (MovePlace.ReadSlot t m) = booked_known t.transfer
move_known_lem (MovePlace.WriteSlot t m n) = booked_known t.transfer
move_known_lem (MovePlace.Land t n) = booked_known t.transfer

close_known_lem : (e : ClosingCall) (p : ClosePlace) → known (close_words e p) ≡ true
unfolding known
close_known_lem e (ClosePlace.StoreCompleted h) = closing_known e
close_known_lem e ClosePlace.LoadHeads = closing_known e
close_known_lem e (ClosePlace.CasHeads p) = closing_known e

place_known : (p : Place) → known (words_of p) ≡ true
unfolding known words_of
place_known Place.Idle = refl
place_known (Place.Lifo p) = lifo_known_lem p
place_known (Place.Fifo p) = fifo_known_lem p
place_known (Place.Own p) = own_known p
place_known (Place.Book g p) = book_known_lem g p
place_known (Place.Move p) = move_known_lem p
place_known (Place.Close e p) = close_known_lem e p

-- ---- and are read back

lifo_back : (p : LifoPlace) → place_of (lifo_words p) ≡ Place.Lifo p
unfolding place_of lifo_of
lifo_back (LifoPlace.LoadPushes j) = ap (λ (x : RoomCall). Place.Lifo (LifoPlace.LoadPushes x)) (room_back j)
lifo_back (LifoPlace.LoadPacked j n) = ap (λ (x : RoomCall). Place.Lifo (LifoPlace.LoadPacked x n)) (room_back j)
lifo_back (LifoPlace.LoadCompleted j n p) = ap (λ (x : RoomCall). Place.Lifo (LifoPlace.LoadCompleted x n p)) (room_back j)
lifo_back LifoPlace.PopPacked = refl
lifo_back (LifoPlace.PopPushes p) = refl
lifo_back (LifoPlace.PopCas p t) = refl
lifo_back LifoPlace.EmptyPushes = refl
lifo_back (LifoPlace.EmptyPacked n) = refl

fifo_back : (p : FifoPlace) → place_of (fifo_words p) ≡ Place.Fifo p
unfolding place_of fifo_of
fifo_back (FifoPlace.LoadPacked f) = ap (λ (x : OwnerCall). Place.Fifo (FifoPlace.LoadPacked x)) (owner_back f)
fifo_back (FifoPlace.LoadTail f p) = ap (λ (x : OwnerCall). Place.Fifo (FifoPlace.LoadTail x p)) (owner_back f)
fifo_back (FifoPlace.DestTail e) = ap (λ (x : TransferCall). Place.Fifo (FifoPlace.DestTail x)) (call_back e)
fifo_back (FifoPlace.DestPacked e t) = ap (λ (x : TransferCall). Place.Fifo (FifoPlace.DestPacked x t)) (call_back e)
fifo_back FifoPlace.PopPacked = refl
fifo_back (FifoPlace.PopTail p) = refl
fifo_back (FifoPlace.PopCas p) = refl
fifo_back FifoPlace.EmptyPacked = refl
fifo_back (FifoPlace.EmptyTail p) = refl

own_back : (p : OwnPlace) → place_of (own_words p) ≡ Place.Own p
unfolding place_of own_of
own_back (OwnPlace.PushWrite t w n) = refl
own_back (OwnPlace.PushStore w) = refl
own_back (OwnPlace.ExtendMore p t l w) = refl
own_back (OwnPlace.ExtendStore p t w) = refl
own_back (OwnPlace.PopRead a) = refl
own_back OwnPlace.NextItem = refl
own_back OwnPlace.DropItem = refl

booking_back : (g : BookingCall) (row packed done count : ℕ) → booking_of (booking (booking_words g) (booking_destination g) row packed done count) ≡ g
unfolding booking_of
booking_back (BookingCall.Transfer e d) row packed done count = brought e.transfer
  where
    brought : (h : Transfer) → booking_of (booking (transfer_words (record { source = e.source; rule = e.rule; transfer = h })) d row packed done count) ≡ BookingCall.Transfer
        (record { source = e.source; rule = e.rule; transfer = h }) d
    brought Transfer.Steal = ap (λ (x : TransferCall). BookingCall.Transfer x d) (call_back (record { source = e.source; rule = e.rule; transfer = Transfer.Steal }))
    brought Transfer.Take = ap (λ (x : TransferCall). BookingCall.Transfer x d) (call_back (record { source = e.source; rule = e.rule; transfer = Transfer.Take }))
booking_back (BookingCall.Drain r) row packed done count = ap BookingCall.Drain (rule_back r)

book_back : (g : BookingCall) (p : BookPlace) → place_of (book_words (booking_words g) (booking_destination g) p) ≡ Place.Book g p
unfolding place_of book_of
book_back g BookPlace.LifoPacked = ap (λ (x : BookingCall). Place.Book x BookPlace.LifoPacked) (booking_back g 0 0 0 0)
book_back g (BookPlace.LifoCompleted p) = ap (λ (x : BookingCall). Place.Book x (BookPlace.LifoCompleted p)) (booking_back g 1 p 0 0)
book_back g (BookPlace.LifoPushes p d) = ap (λ (x : BookingCall). Place.Book x (BookPlace.LifoPushes p d)) (booking_back g 2 p d 0)
book_back g (BookPlace.LifoCas p d n) = ap (λ (x : BookingCall). Place.Book x (BookPlace.LifoCas p d n)) (booking_back g 3 p d n)
book_back g BookPlace.FifoPacked = ap (λ (x : BookingCall). Place.Book x BookPlace.FifoPacked) (booking_back g 4 0 0 0)
book_back g (BookPlace.FifoTail p) = ap (λ (x : BookingCall). Place.Book x (BookPlace.FifoTail p)) (booking_back g 5 p 0 0)
book_back g (BookPlace.FifoCas p n) = ap (λ (x : BookingCall). Place.Book x (BookPlace.FifoCas p n)) (booking_back g 6 p 0 n)

booked_back : (t : BookedTokens) (row token moved : ℕ) → booked_of (moving t row token moved) ≡ t
booked_back t row token moved = λ i. record {
  source = t.source;
  transfer = transfer_back t.transfer i;
  word = t.word;
  tail = t.tail;
  from = t.from;
  count = t.count;
}

move_back : (p : MovePlace) → place_of (move_words p) ≡ Place.Move p
unfolding place_of move_of
move_back (MovePlace.ReadSlot t m) = ap (λ (x : BookedTokens). Place.Move (MovePlace.ReadSlot x m)) (booked_back t 0 0 m)
move_back (MovePlace.WriteSlot t m n) = ap (λ (x : BookedTokens). Place.Move (MovePlace.WriteSlot x m n)) (booked_back t 1 n m)
move_back (MovePlace.Land t n) = ap (λ (x : BookedTokens). Place.Move (MovePlace.Land x n)) (booked_back t 2 n 0)

closing_back : (e : ClosingCall) → closing_of (closing_words e) (closing_count e) ≡ e
unfolding closing_of
closing_back (ClosingCall.Steal s k) = refl
closing_back (ClosingCall.Take s t k) = refl
closing_back (ClosingCall.Next t) = refl
closing_back ClosingCall.Drop = refl

close_back : (e : ClosingCall) (p : ClosePlace) → place_of (close_words e p) ≡ Place.Close e p
unfolding place_of close_of
close_back e (ClosePlace.StoreCompleted h) = ap (λ (x : ClosingCall). Place.Close x (ClosePlace.StoreCompleted h)) (closing_back e)
close_back e ClosePlace.LoadHeads = ap (λ (x : ClosingCall). Place.Close x ClosePlace.LoadHeads) (closing_back e)
close_back e (ClosePlace.CasHeads p) = ap (λ (x : ClosingCall). Place.Close x (ClosePlace.CasHeads p)) (closing_back e)

place_back : (p : Place) → place_of (words_of p) ≡ p
unfolding place_of words_of
place_back Place.Idle = refl
place_back (Place.Lifo p) = lifo_back p
place_back (Place.Fifo p) = fifo_back p
place_back (Place.Own p) = own_back p
place_back (Place.Book g p) = book_back g p
place_back (Place.Move p) = move_back p
place_back (Place.Close e p) = close_back e p

pub read_back : (p : Place) → place_read (words_of p) ≡ p
unfolding place_read
read_back p = pick_yes (known (words_of p)) (place_of (words_of p)) _ (place_known p) ∙ place_back p
