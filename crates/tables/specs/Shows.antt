-- What slots, counters and places show of each queue and each hand, in the form of the plain lists.
use Rattle.std.specs.Prelude.{ℕ, zero, suc, Bool, false, not, List, [], ◌∷◌, eqb}
use Rattle.words.specs.Word.{pick, minus, high, low}
use Rattle.tables.specs.declared.state.Drain.{Drain}
use Rattle.tables.specs.declared.state.Kind.{Kind}
use Rattle.tables.specs.declared.state.Machine.{Machine}
use Rattle.tables.specs.declared.state.Queue.{Queue}
use Rattle.tables.specs.declared.place.BookedTokens.{BookedTokens}
use Rattle.tables.specs.declared.place.MovePlace.{MovePlace}
use Rattle.tables.specs.declared.place.OwnPlace.{OwnPlace}
use Rattle.tables.specs.declared.place.Place.{Place}
use Rattle.tables.specs.Machine.{party_at, queue_at}
use Rattle.tables.specs.Answer.{handed_out}
use Rattle.tables.specs.Table.{answer_of}
use Rattle.tables.specs.Tables.{closing_source}
use Rattle.tables.specs.Step.{andb, place_at, kind_at}
use Rattle.tables.specs.Lists.{Holder, nobody, party, Lists, token_at, tokens, tail_of, slots_at, resting_at}

-- ---- waiting: written by the owner's push or extend past the tail, not stored yet

abbrev pub own_waits : OwnPlace → ℕ
own_waits (OwnPlace.PushWrite t word tail) = 0
own_waits (OwnPlace.PushStore word) = 1
own_waits (OwnPlace.ExtendMore pops tail limit written) = written
own_waits (OwnPlace.ExtendStore pops tail written) = written
own_waits (OwnPlace.PopRead at) = 0
own_waits OwnPlace.NextItem = 0
own_waits OwnPlace.DropItem = 0

abbrev pub waits : Place → ℕ
waits Place.Idle = 0
waits (Place.Lifo p) = 0
waits (Place.Fifo p) = 0
waits (Place.Own p) = own_waits p
waits (Place.Book g p) = 0
waits (Place.Move p) = 0
waits (Place.Close e p) = 0

abbrev pub tail_at : ℕ → Machine → ℕ → ℕ
tail_at w m q = tail_of w (kind_at m q) (queue_at m q)

abbrev pub tokens_at : ℕ → Machine → List ℕ → (queue at n : ℕ) → List ℕ
tokens_at w m xs q at n = tokens w (queue_at m q).capacity (slots_at m xs q) at n

-- ---- slots not yet given back: completed head up to booked head (FIFO stealer head up to worker head)

abbrev pub kept_of : ℕ → Kind → Queue → ℕ
kept_of w Kind.Lifo q = minus w (low w q.packed) q.completed
kept_of w Kind.Fifo q = minus w (high w q.packed) (low w q.packed)

-- ---- the open booking: a party holds queue q by its open drain of its own queue, or by its call's place

pub record BookingHeld : Type 0 where
  pub holds : Bool
  pub at : ℕ
  pub left : ℕ

abbrev pub holds_none : BookingHeld
holds_none = record { holds = false; at = 0; left = 0 }

abbrev pub by_booked : BookedTokens → ℕ → BookingHeld
by_booked t q = record { holds = eqb t.source q; at = t.from; left = t.count }

abbrev pub by_move : MovePlace → ℕ → BookingHeld
by_move (MovePlace.ReadSlot t j) q = by_booked t q
by_move (MovePlace.WriteSlot t j token) q = by_booked t q
by_move (MovePlace.Land t last) q = by_booked t q

-- after landing, or after a drain's last token, nothing is booked any more and the booking is still open
abbrev pub by_place : ℕ → Place → ℕ → BookingHeld
by_place p Place.Idle q = holds_none
by_place p (Place.Lifo x) q = holds_none
by_place p (Place.Fifo x) q = holds_none
by_place p (Place.Own x) q = holds_none
by_place p (Place.Book g x) q = holds_none
by_place p (Place.Move x) q = by_move x q
by_place p (Place.Close e x) q = record { holds = eqb (closing_source p e) q; at = 0; left = 0 }

abbrev pub by_drain : ℕ → ℕ → Drain → ℕ → BookingHeld
by_drain w p d q = record { holds = andb (eqb p q) (not (eqb d.at d.end)); at = d.at; left = minus w d.end d.at }

abbrev pub either : BookingHeld → BookingHeld → BookingHeld
either a b = pick a.holds a b

abbrev pub held_at : ℕ → Machine → (party queue : ℕ) → BookingHeld
held_at w m p q = either (by_place p (place_at m p) q) (by_drain w p (party_at m p).drain q)

-- the holder among the first n parties
unfoldable pub holder_to : ℕ → Machine → ℕ → ℕ → Holder
holder_to w m zero q = nobody
holder_to w m (suc n) q = pick (held_at w m n q).holds (party n) (holder_to w m n q)

abbrev pub booked_by : ℕ → Machine → List ℕ → ℕ → Holder → List ℕ
booked_by w m xs q nobody = []
booked_by w m xs q (party p) = tokens_at w m xs q (held_at w m p q).at (held_at w m p q).left

-- what the machine shows of queue q
unfoldable pub shows : ℕ → Machine → List ℕ → ℕ → Lists
shows w m xs q = record {
  waiting = tokens_at w m xs q (tail_at w m q) (waits (place_at m q));
  resting = resting_at w m xs q;
  booked = booked_by w m xs q (holder_to w m m.parties q);
  holder = holder_to w m m.parties q;
  kept = kept_of w (kind_at m q) (queue_at m q);
}

-- ---- in hand: a popped token until it is read off its slot; the token of a take, or of a drain's last next, until the booking is closed.
-- `token` reads the slot of a position of the party's own queue.

abbrev pub own_hand : (token : ℕ → ℕ) → OwnPlace → List ℕ
own_hand token (OwnPlace.PushWrite t word tail) = []
own_hand token (OwnPlace.PushStore word) = []
own_hand token (OwnPlace.ExtendMore pops tail limit written) = []
own_hand token (OwnPlace.ExtendStore pops tail written) = []
own_hand token (OwnPlace.PopRead at) = token at.0 ∷ []
own_hand token OwnPlace.NextItem = []
own_hand token OwnPlace.DropItem = []

-- where a call closes, what its answer will hand out
abbrev pub hand_of : (token : ℕ → ℕ) → Place → List ℕ
hand_of token Place.Idle = []
hand_of token (Place.Lifo p) = []
hand_of token (Place.Fifo p) = []
hand_of token (Place.Own p) = own_hand token p
hand_of token (Place.Book g p) = []
hand_of token (Place.Move p) = []
hand_of token (Place.Close e p) = handed_out (answer_of e)

-- what the machine shows of party p's hand
unfoldable pub hand_at : ℕ → Machine → List ℕ → (party : ℕ) → List ℕ
hand_at w m xs p = hand_of (token_at w (queue_at m p).capacity (slots_at m xs p)) (place_at m p)
