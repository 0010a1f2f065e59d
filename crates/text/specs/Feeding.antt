-- The same in pieces: input as it comes, output as there is room for it. proofs/Pieces.antt shows that nothing of this is seen in the
-- bytes written, put together.
use Rattle.std.specs.Prelude.{◌≡◌, ℕ, zero, suc, ◌+◌, ◌-◌, ◌≤◌, Bool, false, List, [], ◌∷◌, ◌++◌, length, take, drop, ◌==◌, nat_le, nat_lt, slice_index}
use Rattle.words.specs.Edition.{width}
use Rattle.words.specs.Word.{pick}
use Rattle.tables.specs.Machine.{most}
use Rattle.tables.specs.Step.{andb}
use Rattle.machine.specs.declared.rest.Resting.{Resting}
use Rattle.machine.specs.Rest.{tokens_of}
use Rattle.text.specs.Ascii.{ascii}
use Rattle.text.specs.Session.{State, state_of}
use Rattle.text.specs.declared.write.Out.{Out}
use Rattle.text.specs.Write.{Wrote, Puts, room_of, field_for, rest_head}
use Rattle.text.specs.Output.{after, resting_at, queues_of}
use Rattle.text.specs.declared.run.Held.{Held}
use Rattle.text.specs.declared.run.Cursor.{Cursor}
use Rattle.text.specs.declared.run.Run.{Run}
use Rattle.text.specs.declared.run.Fed as Fed·d
use Rattle.text.specs.declared.run.Rested as Rested·d

-- what is put into a buffer at once has at most so many bytes
abbrev pub enough : ℕ
enough = 128

-- ---- input

-- a run between two bytes; `held` is the line at hand
pub record Flow : Type 0 where
  pub state : State
  pub held : List ℕ

abbrev pub flow : State → List ℕ → Flow
flow st held = record { state = st; held = held }

-- a byte more of the line at hand: past 120 bytes it is refused whatever they are, so that no more than 121 are kept
abbrev pub kept : List ℕ → ℕ → List ℕ
kept l b = take 121 (l ++ (b ∷ []))

-- several bytes more
unfoldable pub kept_all : List ℕ → List ℕ → List ℕ
kept_all l [] = l
kept_all l (b ∷ s) = kept_all (kept l b) s

-- how far a piece of input came: what it printed, and how many of its bytes were used
pub record Fed : Type 0 where
  pub flow : Flow
  pub text : List ℕ
  pub used : ℕ

abbrev pub nothing_fed : Flow → Fed
nothing_fed f = record { flow = f; text = []; used = 0 }

-- what was printed and used before
abbrev pub fed_after : List ℕ → ℕ → Fed → Fed
fed_after text n r = record { flow = r.flow; text = text ++ r.text; used = n + r.used }

-- a piece of input, as long as a line more has room
unfoldable pub fed_in : ℕ → ℕ → (room : ℕ) → Flow → List ℕ → Fed
fed_in w most room f [] = nothing_fed f
fed_in w most room f (b ∷ s) =
    pick (nat_le enough room)
    (pick (b == 10)
    (fed_after (after w most f.state f.held).text 1
    (fed_in w most (room - length (after w most f.state f.held).text) (flow (after w most f.state f.held).state []) s))
    (fed_after [] 1 (fed_in w most room (flow f.state (kept f.held b)) s)))
    (nothing_fed f)

-- ---- the end: a line at hand is taken as if its newline came, then the rest lines go out part by part

-- part 0 of a queue's line is its head, the parts up to the number of tokens are these, the next is the newline
abbrev pub cursor : ℕ → ℕ → Cursor
cursor q i = record { queue = q; part = i }

-- the bytes of a part, of what rests in its queue
abbrev pub part_of : ℕ → Resting → (items : List ℕ) → Cursor → List ℕ
part_of w s xs c =
    pick (c.part == 0) (rest_head c.queue)
    (pick (nat_le c.part s.count) (field_for (slice_index (tokens_of w s xs) (c.part - 1))) (ascii "\n"))

abbrev pub part_at : ℕ → ℕ → State → Cursor → List ℕ
part_at w most st c = part_of w (resting_at w most st.machine c.queue) st.items c

abbrev pub part_after : Resting → Cursor → Cursor
part_after s c = pick (nat_le c.part s.count) (cursor c.queue (c.part + 1)) (cursor (c.queue + 1) 0)

abbrev pub part_next : ℕ → ℕ → State → Cursor → Cursor
part_next w most st c = part_after (resting_at w most st.machine c.queue) c

pub record Rested : Type 0 where
  pub flow : Flow
  pub at : Cursor
  pub text : List ℕ

abbrev pub nothing_rested : Flow → Cursor → Rested
nothing_rested f c = record { flow = f; at = c; text = [] }

abbrev pub rested_after : List ℕ → Rested → Rested
rested_after text r = record { flow = r.flow; at = r.at; text = text ++ r.text }

-- n parts at most, as long as one more has room
unfoldable pub parts_in : ℕ → ℕ → (n room : ℕ) → State → Cursor → Rested
parts_in w most zero room st c = nothing_rested (flow st []) c
parts_in w most (suc n) room st c =
    pick (andb (nat_le enough room) (nat_lt c.queue (queues_of st)))
    (rested_after (part_at w most st c) (parts_in w most n (room - length (part_at w most st c)) st (part_next w most st c)))
    (nothing_rested (flow st []) c)

-- a part has a byte or more, so that no more of them than bytes have room; not before the line at hand is taken
abbrev pub parts_from : ℕ → ℕ → (room : ℕ) → Flow → Cursor → Rested
parts_from w most room f c = pick (length f.held == 0) (parts_in w most room room f.state c) (nothing_rested f c)

-- the line at hand, as if its newline came
unfoldable pub last_fed : ℕ → ℕ → (room : ℕ) → Flow → Fed
last_fed w most room f = pick (length f.held == 0) (nothing_fed f) (fed_in w most room f (10 ∷ []))

unfoldable pub rests_in : ℕ → ℕ → (room : ℕ) → Flow → Cursor → Rested
rests_in w most room f c =
    rested_after (last_fed w most room f).text
    (parts_from w most (room - length (last_fed w most room f).text) (last_fed w most room f).flow c)

-- nothing is left to be written
abbrev pub is_written : Flow → Cursor → Bool
is_written f c = pick (length f.held == 0) (nat_le (queues_of f.state) c.queue) false

-- ---- what the functions promise

abbrev pub held_of : Held → List ℕ
held_of h = take h.count h.bytes

abbrev pub flow_of : Run → (items : List ℕ) → Flow
flow_of r xs = flow (state_of r.session r.machine xs) (held_of r.held)

abbrev pub cursor_of : Run → Cursor
cursor_of r = r.at

-- the run, the place in the piece and the bytes written are those of the definition; a piece of input leaves the cursor alone
pub record Feeds (fed : Fed) (at : Cursor) (r : Fed·d.Fed) (xs l l' : List ℕ) : Type 0 where
  pub flow_is : flow_of r.run xs ≡ fed.flow
  pub cursor_is : cursor_of r.run ≡ at
  pub used_is : r.used ≡ fed.used
  pub wrote : Wrote l 0 fed.text l' r.put
  pub room : r.put ≤ length l

pub record Rests (rested : Rested) (r : Rested·d.Rested) (xs l l' : List ℕ) : Type 0 where
  pub flow_is : flow_of r.run xs ≡ rested.flow
  pub cursor_is : cursor_of r.run ≡ rested.at
  pub wrote : Wrote l 0 rested.text l' r.put
  pub room : r.put ≤ length l
  pub done_is : r.done ≡ is_written rested.flow rested.at

-- what some functions do one after the other: from one flow, place in the piece and buffer on to others, as the definition would
pub record Gets (piece : List ℕ) (f : Flow) (used : ℕ) (o : Out) (f' : Flow) (used' : ℕ) (o' : Out) : Type 0 where
  pub text : List ℕ
  pub fed : fed_in width most (room_of o) f (drop used piece)
      ≡ fed_after text (used' - used) (fed_in width most (room_of o') f' (drop used' piece))
  pub puts : Puts o text o'
  pub onward : used ≤ used'
  pub within : used' ≤ length piece

-- the like of the rest lines' parts
pub record GetsParts (st : State) (c : Cursor) (o : Out) (c' : Cursor) (o' : Out) : Type 0 where
  pub text : List ℕ
  pub fuel : ℕ
  pub parts : parts_in width most (room_of o) (room_of o) st c ≡ rested_after text (parts_in width most fuel (room_of o') st c')
  pub fuelled : room_of o' ≤ fuel
  pub puts : Puts o text o'
