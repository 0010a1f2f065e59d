-- The access tables whole: the row of every place, whose source it has, what its step wants.
use Rattle.std.specs.Prelude.{ℕ, Bool, true, false, Some, None}
use Rattle.words.specs.Word.{pick, packed, high}
use Rattle.tables.specs.declared.access.Access.TheVariants as Access
use Rattle.tables.specs.declared.access.Context.{Context}
use Rattle.tables.specs.declared.access.Next.{Next}
use Rattle.tables.specs.declared.access.Seen.{Seen}
use Rattle.tables.specs.declared.access.Wish.{Wish}
use Rattle.tables.specs.declared.answer.Change.TheVariants as Change
use Rattle.tables.specs.declared.call.Call.{Call}
use Rattle.tables.specs.declared.call.Mark.{Mark}
use Rattle.tables.specs.declared.call.Rule.{Rule}
use Rattle.tables.specs.declared.state.Kind.{Kind}
use Rattle.tables.specs.declared.place.BookPlace.{BookPlace}
use Rattle.tables.specs.declared.place.BookingCall.{BookingCall}
use Rattle.tables.specs.declared.place.ClosePlace.{ClosePlace}
use Rattle.tables.specs.declared.place.ClosingCall.{ClosingCall}
use Rattle.tables.specs.declared.place.FifoPlace.{FifoPlace}
use Rattle.tables.specs.declared.place.LifoPlace.{LifoPlace}
use Rattle.tables.specs.declared.place.MovePlace.{MovePlace}
use Rattle.tables.specs.declared.place.OwnPlace.{OwnPlace}
use Rattle.tables.specs.declared.place.OwnerCall.TheVariants as OwnerCall
use Rattle.tables.specs.declared.place.Place.{Place}
use Rattle.tables.specs.declared.place.RoomCall.{RoomCall}
use Rattle.tables.specs.declared.place.Transfer.{Transfer}
use Rattle.tables.specs.declared.place.TransferCall.{TransferCall}
use Rattle.tables.specs.Row.{Row, own◌then◌, source◌then◌, on, ends}
use Rattle.tables.specs.Table.{booking, answer_of, rule_of, own_row, move_row}
use Rattle.tables.specs.LifoTable.{lifo_row, lifo_packed_row, lifo_completed_row, lifo_pushes_row, lifo_cas_row}
use Rattle.tables.specs.FifoTable.{fifo_row, fifo_packed_row, fifo_tail_row, fifo_cas_row}

abbrev pub book_row : ℕ → Context → BookingCall → BookPlace → Row
book_row w s g BookPlace.LifoPacked = lifo_packed_row s g
book_row w s g (BookPlace.LifoCompleted p) = lifo_completed_row w s g p
book_row w s g (BookPlace.LifoPushes p d) = lifo_pushes_row w s g p d
book_row w s g (BookPlace.LifoCas p d k) = lifo_cas_row w s g p d k
book_row w s g BookPlace.FifoPacked = fifo_packed_row w s g
book_row w s g (BookPlace.FifoTail p) = fifo_tail_row w s g p
book_row w s g (BookPlace.FifoCas p k) = fifo_cas_row w s g p k

-- LIFO: store completed head. FIFO: load packed, CAS (worker head, worker head), repeated from the CAS until it succeeds.
abbrev pub was_closed : Context → ClosingCall → Seen → Next
was_closed s e x = pick x.stored (ends s (answer_of e) (Some Change.Closed)) (on s (Place.Close e (ClosePlace.CasHeads x.packed)) None)

abbrev pub close_row : ℕ → Context → ClosingCall → ClosePlace → Row
close_row w s e (ClosePlace.StoreCompleted head) = source Access.StoreCompleted head then λ x. ends s (answer_of e) (Some Change.Closed)
close_row w s e ClosePlace.LoadHeads = source Access.LoadPacked then λ x. on s (Place.Close e (ClosePlace.CasHeads x.packed)) None
close_row w s e (ClosePlace.CasHeads p) = source Access.Cas p (packed w (high w p) (high w p)) then λ x. was_closed s e x

abbrev pub row_of : ℕ → Context → Place → Row
row_of w s Place.Idle = own Access.Touch then λ x. on s Place.Idle None
row_of w s (Place.Lifo p) = lifo_row w s p
row_of w s (Place.Fifo p) = fifo_row w s p
row_of w s (Place.Own p) = own_row w s p
row_of w s (Place.Book g p) = book_row w s g p
row_of w s (Place.Move p) = move_row w s p
row_of w s (Place.Close e p) = close_row w s e p

abbrev pub is_idle : Place → Bool
is_idle Place.Idle = true
is_idle (Place.Lifo p) = false
is_idle (Place.Fifo p) = false
is_idle (Place.Own p) = false
is_idle (Place.Book g p) = false
is_idle (Place.Move p) = false
is_idle (Place.Close e p) = false

-- ---- the source that a place names; its party's own number where it names none

abbrev pub room_source : ℕ → RoomCall → ℕ
room_source who (RoomCall.Owner f) = who
room_source who (RoomCall.Transfer e) = e.source

abbrev pub lifo_source : ℕ → LifoPlace → ℕ
lifo_source who (LifoPlace.LoadPushes j) = room_source who j
lifo_source who (LifoPlace.LoadPacked j n) = room_source who j
lifo_source who (LifoPlace.LoadCompleted j n p) = room_source who j
lifo_source who LifoPlace.PopPacked = who
lifo_source who (LifoPlace.PopPushes p) = who
lifo_source who (LifoPlace.PopCas p t) = who
lifo_source who LifoPlace.EmptyPushes = who
lifo_source who (LifoPlace.EmptyPacked n) = who

abbrev pub fifo_source : ℕ → FifoPlace → ℕ
fifo_source who (FifoPlace.LoadPacked f) = who
fifo_source who (FifoPlace.LoadTail f p) = who
fifo_source who (FifoPlace.DestTail e) = e.source
fifo_source who (FifoPlace.DestPacked e t) = e.source
fifo_source who FifoPlace.PopPacked = who
fifo_source who (FifoPlace.PopTail p) = who
fifo_source who (FifoPlace.PopCas p) = who
fifo_source who FifoPlace.EmptyPacked = who
fifo_source who (FifoPlace.EmptyTail p) = who

abbrev pub booking_source : ℕ → BookingCall → ℕ
booking_source who (BookingCall.Transfer e d) = e.source
booking_source who (BookingCall.Drain r) = who

abbrev pub move_source : MovePlace → ℕ
move_source (MovePlace.ReadSlot t j) = t.source
move_source (MovePlace.WriteSlot t j x) = t.source
move_source (MovePlace.Land t x) = t.source

abbrev pub closing_source : ℕ → ClosingCall → ℕ
closing_source who (ClosingCall.Steal s k) = s
closing_source who (ClosingCall.Take s t k) = s
closing_source who (ClosingCall.Next t) = who
closing_source who ClosingCall.Drop = who

abbrev pub source_of : ℕ → Place → ℕ
source_of who Place.Idle = who
source_of who (Place.Lifo p) = lifo_source who p
source_of who (Place.Fifo p) = fifo_source who p
source_of who (Place.Own p) = who
source_of who (Place.Book g p) = booking_source who g
source_of who (Place.Move p) = move_source p
source_of who (Place.Close e p) = closing_source who e

-- ---- the places that a kind's tables have

abbrev pub is_kind : Kind → Kind → Bool
is_kind Kind.Lifo Kind.Lifo = true
is_kind Kind.Lifo Kind.Fifo = false
is_kind Kind.Fifo Kind.Lifo = false
is_kind Kind.Fifo Kind.Fifo = true

abbrev pub book_kind : BookPlace → Kind
book_kind BookPlace.LifoPacked = Kind.Lifo
book_kind (BookPlace.LifoCompleted p) = Kind.Lifo
book_kind (BookPlace.LifoPushes p d) = Kind.Lifo
book_kind (BookPlace.LifoCas p d k) = Kind.Lifo
book_kind BookPlace.FifoPacked = Kind.Fifo
book_kind (BookPlace.FifoTail p) = Kind.Fifo
book_kind (BookPlace.FifoCas p k) = Kind.Fifo

abbrev pub close_kind : ClosePlace → Kind
close_kind (ClosePlace.StoreCompleted head) = Kind.Lifo
close_kind ClosePlace.LoadHeads = Kind.Fifo
close_kind (ClosePlace.CasHeads p) = Kind.Fifo

-- by the own queue's kind, and the source's
abbrev pub has_place : Kind → Kind → Place → Bool
has_place kind from Place.Idle = true
has_place kind from (Place.Lifo p) = is_kind kind Kind.Lifo
has_place kind from (Place.Fifo p) = is_kind kind Kind.Fifo
has_place kind from (Place.Own p) = true
has_place kind from (Place.Book g p) = is_kind from (book_kind p)
has_place kind from (Place.Move p) = true
has_place kind from (Place.Close e p) = is_kind from (close_kind p)

-- ---- what a step wants: nothing, a number, or a token or end

abbrev pub rule_wish : Rule → Wish
rule_wish Rule.All = Wish.Nothing
rule_wish Rule.Half = Wish.Nothing
rule_wish (Rule.Fixed k) = Wish.Nothing
rule_wish Rule.Given = Wish.Number

abbrev pub book_wish : BookingCall → BookPlace → Wish
book_wish g BookPlace.LifoPacked = Wish.Nothing
book_wish g (BookPlace.LifoCompleted p) = Wish.Nothing
book_wish g (BookPlace.LifoPushes p d) = rule_wish (rule_of g)
book_wish g (BookPlace.LifoCas p d k) = Wish.Nothing
book_wish g BookPlace.FifoPacked = Wish.Nothing
book_wish g (BookPlace.FifoTail p) = rule_wish (rule_of g)
book_wish g (BookPlace.FifoCas p k) = Wish.Nothing

abbrev pub own_wish : OwnPlace → Wish
own_wish (OwnPlace.PushWrite t n tail) = Wish.Nothing
own_wish (OwnPlace.PushStore n) = Wish.Nothing
own_wish (OwnPlace.ExtendMore c tail limit j) = Wish.Token
own_wish (OwnPlace.ExtendStore c tail j) = Wish.Nothing
own_wish (OwnPlace.PopRead at) = Wish.Nothing
own_wish OwnPlace.NextItem = Wish.Nothing
own_wish OwnPlace.DropItem = Wish.Nothing

abbrev pub wish_of : Place → Wish
wish_of Place.Idle = Wish.Nothing
wish_of (Place.Lifo p) = Wish.Nothing
wish_of (Place.Fifo p) = Wish.Nothing
wish_of (Place.Own p) = own_wish p
wish_of (Place.Book g p) = book_wish g p
wish_of (Place.Move p) = Wish.Nothing
wish_of (Place.Close e p) = Wish.Nothing

abbrev pub wishes : Wish → Bool
wishes Wish.Nothing = false
wishes Wish.Number = true
wishes Wish.Token = true

-- the mark fits: weak where the step is a CAS; a number or end where that one is wanted, and only there
abbrev pub mark_fits : Wish → (is_cas : Bool) → Mark → Bool
mark_fits Wish.Nothing c Mark.Plain = true
mark_fits Wish.Nothing c Mark.Weak = c
mark_fits Wish.Nothing c (Mark.Carry n) = false
mark_fits Wish.Nothing c Mark.End = false
mark_fits Wish.Number c Mark.Plain = false
mark_fits Wish.Number c Mark.Weak = false
mark_fits Wish.Number c (Mark.Carry n) = true
mark_fits Wish.Number c Mark.End = false
mark_fits Wish.Token c Mark.Plain = false
mark_fits Wish.Token c Mark.Weak = false
mark_fits Wish.Token c (Mark.Carry n) = true
mark_fits Wish.Token c Mark.End = true

-- ---- a call's first place, by the own queue's kind

abbrev pub transfer_call : ℕ → Rule → Transfer → TransferCall
transfer_call s r h = record { source = s; rule = r; transfer = h }

abbrev pub start_lifo : Call → Place
start_lifo (Call.Push t) = Place.Lifo (LifoPlace.LoadPushes (RoomCall.Owner (OwnerCall.Push t)))
start_lifo Call.Pop = Place.Lifo LifoPlace.PopPacked
start_lifo Call.Extend = Place.Lifo (LifoPlace.LoadPushes (RoomCall.Owner OwnerCall.Extend))
start_lifo (Call.Drain r) = Place.Book (BookingCall.Drain r) (booking Kind.Lifo)
start_lifo Call.Next = Place.Own OwnPlace.NextItem
start_lifo Call.Drop = Place.Own OwnPlace.DropItem
start_lifo (Call.Steal s r) = Place.Lifo (LifoPlace.LoadPushes (RoomCall.Transfer (transfer_call s r Transfer.Steal)))
start_lifo (Call.Take s r) = Place.Lifo (LifoPlace.LoadPushes (RoomCall.Transfer (transfer_call s r Transfer.Take)))
start_lifo Call.Spare = Place.Lifo (LifoPlace.LoadPushes (RoomCall.Owner OwnerCall.Spare))
start_lifo Call.Empty = Place.Lifo LifoPlace.EmptyPushes

abbrev pub start_fifo : Call → Place
start_fifo (Call.Push t) = Place.Fifo (FifoPlace.LoadPacked (OwnerCall.Push t))
start_fifo Call.Pop = Place.Fifo FifoPlace.PopPacked
start_fifo Call.Extend = Place.Fifo (FifoPlace.LoadPacked OwnerCall.Extend)
start_fifo (Call.Drain r) = Place.Book (BookingCall.Drain r) (booking Kind.Fifo)
start_fifo Call.Next = Place.Own OwnPlace.NextItem
start_fifo Call.Drop = Place.Own OwnPlace.DropItem
start_fifo (Call.Steal s r) = Place.Fifo (FifoPlace.DestTail (transfer_call s r Transfer.Steal))
start_fifo (Call.Take s r) = Place.Fifo (FifoPlace.DestTail (transfer_call s r Transfer.Take))
start_fifo Call.Spare = Place.Fifo (FifoPlace.LoadPacked OwnerCall.Spare)
start_fifo Call.Empty = Place.Fifo FifoPlace.EmptyPacked

abbrev pub start : Kind → Call → Place
start Kind.Lifo c = start_lifo c
start Kind.Fifo c = start_fifo c

-- the source that a call names; its party's own number where it names none
abbrev pub call_source : ℕ → Call → ℕ
call_source who (Call.Push t) = who
call_source who Call.Pop = who
call_source who Call.Extend = who
call_source who (Call.Drain r) = who
call_source who Call.Next = who
call_source who Call.Drop = who
call_source who (Call.Steal s r) = s
call_source who (Call.Take s r) = s
call_source who Call.Spare = who
call_source who Call.Empty = who
