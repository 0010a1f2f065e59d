-- Document 01, "Effects and the plain lists": what each effect does to the lists, and when it cannot be done.
use Rattle.std.specs.Prelude.{ℕ, zero, suc, ◌+◌, ◌-◌, Bool, true, false, not, List, [], ◌∷◌, ◌++◌, length, get_or, take, drop, ltb, leb, eqb}
use Rattle.words.specs.Word.{pick, plus, minus, high, low, slot_of, pow_below}
use Rattle.tables.specs.declared.answer.Answer.{Answer}
use Rattle.tables.specs.declared.answer.Change.{Change}
use Rattle.tables.specs.declared.answer.Effect.{Effect}
use Rattle.tables.specs.declared.state.Kind.{Kind}
use Rattle.tables.specs.declared.state.Machine.{Machine}
use Rattle.tables.specs.declared.state.Queue.{Queue}
use Rattle.tables.specs.Machine.{queue_at, base_of, stretch}
use Rattle.tables.specs.Answer.{handed_out}
use Rattle.tables.specs.Step.{andb}

-- whether a booking is open, and whose
pub data Holder : Type 0 where
  nobody : Holder
  party : ℕ → Holder

abbrev pub is_open : Holder → Bool
is_open nobody = false
is_open (party p) = true

abbrev pub held_by : ℕ → Holder → Bool
held_by p nobody = false
held_by p (party q) = eqb p q

-- Per queue: waiting, resting and booked lists, the open booking, the slots not yet given back.
pub record Lists : Type 0 where
  pub waiting : List ℕ
  pub resting : List ℕ
  pub booked : List ℕ
  pub holder : Holder
  pub kept : ℕ

-- All queues' lists, each party's tokens in hand, the tokens handed out and those dropped.
pub record Plain : Type 0 where
  pub queue : ℕ → Lists
  pub hand : ℕ → List ℕ
  pub out : List ℕ
  pub gone : List ℕ

abbrev pub no_lists : Lists
no_lists = record { waiting = []; resting = []; booked = []; holder = nobody; kept = 0 }

abbrev pub nothing_yet : Plain
nothing_yet = record { queue = λ q. no_lists; hand = λ p. []; out = []; gone = [] }

-- a table with one entry changed
unfoldable pub update : {A : Type 0} → (ℕ → A) → ℕ → A → ℕ → A
update f i v j = pick (eqb j i) v (f j)

-- ---- one queue's lists

-- offered appends to waiting
unfoldable pub offer : ℕ → Lists → Lists
offer t l = record { waiting = l.waiting ++ (t ∷ []); resting = l.resting; booked = l.booked; holder = l.holder; kept = l.kept }

-- accepted moves waiting to the end of resting
unfoldable pub accept : Lists → Lists
accept l = record { waiting = []; resting = l.resting ++ l.waiting; booked = l.booked; holder = l.holder; kept = l.kept }

-- popped takes the last (LIFO) or first (FIFO) of resting; in FIFO its slot is not given back while a booking is open
abbrev pub pop_from : Kind → List ℕ → ℕ
pop_from Kind.Lifo l = get_or l (length l - 1) 0
pop_from Kind.Fifo l = get_or l 0 0

abbrev pub pop_rest : Kind → List ℕ → List ℕ
pop_rest Kind.Lifo l = take (length l - 1) l
pop_rest Kind.Fifo l = drop 1 l

abbrev pub pop_kept : Kind → Holder → ℕ → ℕ
pop_kept Kind.Lifo h k = k
pop_kept Kind.Fifo h k = pick (is_open h) (k + 1) k

unfoldable pub pop : Kind → Lists → Lists
pop k l = record {
  waiting = l.waiting;
  resting = pop_rest k l.resting;
  booked = l.booked;
  holder = l.holder;
  kept = pop_kept k l.holder l.kept;
}

-- booked takes the first count
unfoldable pub book : ℕ → ℕ → Lists → Lists
book p n l = record { waiting = l.waiting; resting = drop n l.resting; booked = take n l.resting; holder = party p; kept = n }

-- booked tokens leave: landed, drained, dropped
unfoldable pub leave : ℕ → Lists → Lists
leave n l = record { waiting = l.waiting; resting = l.resting; booked = drop n l.booked; holder = l.holder; kept = l.kept }

-- landed ones go to the end of the destination's resting
unfoldable pub arrive : List ℕ → Lists → Lists
arrive ts l = record { waiting = l.waiting; resting = l.resting ++ ts; booked = l.booked; holder = l.holder; kept = l.kept }

-- closed ends the booking
unfoldable pub shut : Lists → Lists
shut l = record { waiting = l.waiting; resting = l.resting; booked = l.booked; holder = nobody; kept = 0 }

-- ---- an effect, on all of them

abbrev pub on_queue : Plain → ℕ → Lists → Plain
on_queue a q l = record { queue = update a.queue q l; hand = a.hand; out = a.out; gone = a.gone }

abbrev pub in_hand : Plain → ℕ → List ℕ → Plain
in_hand a p ts = record { queue = a.queue; hand = update a.hand p (a.hand p ++ ts); out = a.out; gone = a.gone }

abbrev pub drops_out : Plain → List ℕ → Plain
drops_out a ts = record { queue = a.queue; hand = a.hand; out = a.out; gone = a.gone ++ ts }

-- booked tokens of queue q land at the end of party p's own resting
abbrev pub lands : Plain → (p q n leaving : ℕ) → Plain
lands a p q n leaving =
    on_queue (on_queue a q (leave leaving (a.queue q))) p
    (arrive (take n (a.queue q).booked) (update a.queue q (leave leaving (a.queue q)) p))

-- by the kind of each queue, the party and the queue that the effect names
unfoldable pub does : (ℕ → Kind) → (party queue : ℕ) → Change → Plain → Plain
does ks p q (Change.Offered t) a = on_queue a q (offer t (a.queue q))
does ks p q Change.Accepted a = on_queue a q (accept (a.queue q))
does ks p q Change.Popped a = in_hand (on_queue a q (pop (ks q) (a.queue q))) p (pop_from (ks q) (a.queue q).resting ∷ [])
does ks p q (Change.Booked n) a = on_queue a q (book p n (a.queue q))
does ks p q (Change.Landed n) a = lands a p q n n
does ks p q (Change.TakeLanded n) a = in_hand (lands a p q n (n + 1)) p (get_or (a.queue q).booked n 0 ∷ [])
does ks p q Change.Drained a = in_hand (on_queue a q (leave 1 (a.queue q))) p (get_or (a.queue q).booked 0 0 ∷ [])
does ks p q (Change.Dropped n) a = drops_out (on_queue a q (leave n (a.queue q))) (take n (a.queue q).booked)
does ks p q Change.Closed a = on_queue a q (shut (a.queue q))

abbrev pub is_nil : List ℕ → Bool
is_nil [] = true
is_nil (t ∷ ts) = false

-- What the lists can do: an owner offers, accepts and pops what is there; booking takes what rests where none is open; only the
-- holder moves booked tokens, which are there, and closes when none is left.
unfoldable pub can : (party queue : ℕ) → Change → Lists → Bool
can p q (Change.Offered t) l = eqb p q
can p q Change.Accepted l = eqb p q
can p q Change.Popped l = andb (eqb p q) (not (is_nil l.resting))
can p q (Change.Booked n) l = andb (not (is_open l.holder)) (andb (ltb 0 n) (leb n (length l.resting)))
can p q (Change.Landed n) l = andb (held_by p l.holder) (leb n (length l.booked))
can p q (Change.TakeLanded n) l = andb (held_by p l.holder) (ltb n (length l.booked))
can p q Change.Drained l = andb (held_by p l.holder) (ltb 0 (length l.booked))
can p q (Change.Dropped n) l = andb (held_by p l.holder) (leb n (length l.booked))
can p q Change.Closed l = andb (held_by p l.holder) (is_nil l.booked)

-- ---- a token in hand is handed out by the answer that names it

abbrev pub hand_out : ℕ → List ℕ → Plain → Plain
hand_out p ts a = record { queue = a.queue; hand = update a.hand p (drop (length ts) (a.hand p)); out = a.out ++ ts; gone = a.gone }

abbrev pub in_front : List ℕ → List ℕ → Bool
in_front [] h = true
in_front (t ∷ ts) [] = false
in_front (t ∷ ts) (x ∷ h) = eqb t x

-- ---- the record of a run, replayed

-- what a run records: effects, and answers with their party
pub data Entry : Type 0 where
  did : Effect → Entry
  said : (party : ℕ) → Answer → Entry

-- an effect that the lists cannot do, or a token handed out that is not in hand, has no lists after it
pub data Replayed : Type 0 where
  impossible : Replayed
  lists : Plain → Replayed

abbrev pub replay_entry : (ℕ → Kind) → Entry → Plain → Replayed
replay_entry ks (did e) a =
    pick (can e.party e.queue e.change (a.queue e.queue)) (lists (does ks e.party e.queue e.change a)) impossible
replay_entry ks (said p r) a = pick (in_front (handed_out r) (a.hand p)) (lists (hand_out p (handed_out r) a)) impossible

abbrev pub replay_from : (ℕ → Kind) → Entry → Replayed → Replayed
replay_from ks x impossible = impossible
replay_from ks x (lists a) = replay_entry ks x a

-- a record, newest entry first
unfoldable pub replay : (ℕ → Kind) → List Entry → Replayed
replay ks [] = lists nothing_yet
replay ks (x ∷ xs) = replay_from ks x (replay ks xs)

-- ---- read off a machine

-- the token at a position; 0 where the capacity is no power of two below 2 ^ w
abbrev pub token_at : ℕ → (capacity : ℕ) → List ℕ → (at : ℕ) → ℕ
token_at w cap slots at = pick (pow_below w cap) (get_or slots (slot_of cap at) 0) 0

-- the n tokens from a position on; positions turn over
unfoldable pub tokens : ℕ → (capacity : ℕ) → List ℕ → (at n : ℕ) → List ℕ
tokens w cap slots at zero = []
tokens w cap slots at (suc n) = token_at w cap slots at ∷ tokens w cap slots (plus w at 1) n

-- the head that resting begins at: booked head (FIFO worker head)
abbrev pub head_of : ℕ → Kind → Queue → ℕ
head_of w Kind.Lifo q = low w q.packed
head_of w Kind.Fifo q = high w q.packed

abbrev pub tail_of : ℕ → Kind → Queue → ℕ
tail_of w Kind.Lifo q = minus w q.pushes (high w q.packed)
tail_of w Kind.Fifo q = q.pushes

abbrev pub slots_at : Machine → List ℕ → ℕ → List ℕ
slots_at m xs q = stretch (base_of q m.queue) (queue_at m q).capacity xs

-- resting is booked head (FIFO worker head) up to tail
unfoldable pub resting_at : ℕ → Machine → List ℕ → ℕ → List ℕ
resting_at w m xs q =
    tokens w (queue_at m q).capacity (slots_at m xs q) (head_of w (queue_at m q).kind (queue_at m q))
    (minus w (tail_of w (queue_at m q).kind (queue_at m q)) (head_of w (queue_at m q).kind (queue_at m q)))
