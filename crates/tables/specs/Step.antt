-- Opening, begin, step and run alone, each on any record, any items and any argument; document 01's refusal numbers in their orders.
-- w is the width, `most` the party limit.
use Rattle.std.specs.Prelude.{ℕ, zero, suc, ◌+◌, ◌-◌, ◌^◌, Bool, true, false, not, List, [], ◌∷◌, length, get_or, set, ltb, leb, eqb, Option, Some, None, Result}
use Rattle.tables.specs.declared.access.Access.{Access}
use Rattle.words.specs.Word.{pick, orb, pow_below, packed, capacity_of}
use Rattle.tables.specs.declared.access.Context.{Context}
use Rattle.tables.specs.declared.access.Next.{Next}
use Rattle.tables.specs.declared.access.Whose.{Whose}
use Rattle.tables.specs.declared.answer.Answer.{Answer}
use Rattle.tables.specs.declared.answer.Change.{Change}
use Rattle.tables.specs.declared.answer.Effect.{Effect}
use Rattle.tables.specs.declared.answer.Effects.{Effects}
use Rattle.tables.specs.declared.answer.Refusal.{Refusal}
use Rattle.tables.specs.declared.answer.Reply.{Reply}
use Rattle.tables.specs.declared.call.Act.{Act}
use Rattle.tables.specs.declared.call.Call.{Call}
use Rattle.tables.specs.declared.call.Mark.{Mark}
use Rattle.tables.specs.declared.state.Acted.{Acted}
use Rattle.tables.specs.declared.state.Kind.{Kind}
use Rattle.tables.specs.declared.state.Machine.{Machine}
use Rattle.tables.specs.declared.state.Opened.{Opened}
use Rattle.tables.specs.declared.state.Party.{Party}
use Rattle.tables.specs.declared.state.Queue.{Queue}
use Rattle.tables.specs.declared.place.Place.{Place}
use Rattle.tables.specs.Machine.{idle_party, zero_queue, party_at, queue_at, base_of, stretch, restretched}
use Rattle.tables.specs.Access.{Accessed, perform, is_cas}
use Rattle.tables.specs.Answer.{is_pending}
use Rattle.tables.specs.Effect.{drops_of, effect_of}
use Rattle.tables.specs.Refusal.{told, named}
use Rattle.tables.specs.Row.{Row}
use Rattle.tables.specs.Tables.{row_of, is_idle, source_of, has_place, wish_of, wishes, mark_fits, start, call_source}

abbrev pub andb : Bool → Bool → Bool
andb true b = b
andb false b = false

-- What a call of the machine returns: the record and the items as they are then, the answer and the effect, if any, the refusal's
-- number or 0.
pub record Outcome : Type 0 where
  pub machine : Machine
  pub items : List ℕ
  pub answer : Option Answer
  pub effect : Option Effect
  pub refusal : ℕ

-- A refusal returns its number and the record as it came, no answer, no effect; no item changes.
abbrev pub refused : Machine → List ℕ → ℕ → Outcome
refused m xs k = record { machine = m; items = xs; answer = None; effect = None; refusal = k }

-- ---- refusal 1: the record test, among the record's own parties and queues

abbrev pub kind_at : Machine → ℕ → Kind
kind_at m q = (queue_at m q).kind

abbrev pub sound_at : ℕ → Machine → ℕ → Bool
sound_at w m i =
    andb (pow_below w (queue_at m i).capacity)
    (andb (ltb (source_of i (party_at m i).place) m.parties)
    (has_place (kind_at m i) (kind_at m (source_of i (party_at m i).place)) (party_at m i).place))

unfoldable pub sound_to : ℕ → Machine → ℕ → Bool
sound_to w m zero = true
sound_to w m (suc i) = andb (sound_to w m i) (sound_at w m i)

unfoldable pub sound : ℕ → ℕ → Machine → (lent : ℕ) → Bool
sound w most m lent =
    andb (ltb 0 m.parties) (andb (leb m.parties most) (andb (sound_to w m m.parties) (leb (base_of m.parties m.queue) lent)))

-- ---- opening

-- LIFO: push count p, pop count 0, both heads p; FIFO: all p
abbrev pub open_queue : ℕ → Kind → (request position : ℕ) → Queue
open_queue w Kind.Lifo r p = record { kind = Kind.Lifo; capacity = capacity_of w r; pushes = p; packed = packed w 0 p; completed = p }
open_queue w Kind.Fifo r p = record { kind = Kind.Fifo; capacity = capacity_of w r; pushes = p; packed = packed w p p; completed = 0 }

-- the first n queues opened, in a list of closed ones
unfoldable pub open_to : ℕ → List Kind → (requests positions : List ℕ) → ℕ → List Queue → List Queue
open_to w ks rs ps zero l = l
open_to w ks rs ps (suc i) l = set (open_to w ks rs ps i l) i (open_queue w (get_or ks i Kind.Lifo) (get_or rs i 0) (get_or ps i 0))

-- one of the first n requests is above 2 ^ (w - 1)
unfoldable pub over_to : ℕ → (requests : List ℕ) → ℕ → Bool
over_to w rs zero = false
over_to w rs (suc i) = orb (over_to w rs i) (ltb (2 ^ (w - 1)) (get_or rs i 0))

unfoldable pub closed_queues : ℕ → List Kind → List Queue
closed_queues zero ks = []
closed_queues (suc n) [] = zero_queue Kind.Lifo ∷ closed_queues n []
closed_queues (suc n) (k ∷ ks) = zero_queue k ∷ closed_queues n ks

unfoldable pub idle_parties : ℕ → List Party
idle_parties zero = []
idle_parties (suc n) = idle_party ∷ idle_parties n

-- a machine is all LIFO or all FIFO: the kind asked, for each queue
unfoldable pub every_kind : ℕ → Kind → List Kind
every_kind zero k = []
every_kind (suc n) k = k ∷ every_kind n k

abbrev pub tables : ℕ → ℕ → List Queue → Machine
tables most n qs = record { parties = n; party = idle_parties most; queue = qs }

abbrev pub open_queues : ℕ → ℕ → List Kind → (parties : ℕ) → (requests positions : List ℕ) → List Queue
open_queues w most ks n rs ps = open_to w ks rs ps n (closed_queues most ks)

unfoldable pub open_refusal : ℕ → ℕ → List Kind → (parties : ℕ) → (requests positions : List ℕ) → (lent : ℕ) → ℕ
open_refusal w most ks n rs ps lent =
    pick (andb (ltb 0 n) (leb n most))
    (pick (over_to w rs n) 7 (pick (leb (base_of n (open_queues w most ks n rs ps)) lent) 0 8)) 1

-- What an opening returns: a machine, and the refusal's number or 0.
pub record Opening : Type 0 where
  pub machine : Machine
  pub refusal : ℕ

-- Opening writes no item. Refused, it returns 0 parties, the kinds asked, all else idle or 0.
unfoldable pub opening : ℕ → ℕ → List Kind → (parties : ℕ) → (requests positions : List ℕ) → (lent : ℕ) → Opening
opening w most ks n rs ps lent =
    pick (eqb (open_refusal w most ks n rs ps lent) 0)
    (record { machine = tables most n (open_queues w most ks n rs ps); refusal = 0 })
    (record { machine = tables most 0 (closed_queues most ks); refusal = open_refusal w most ks n rs ps lent })

-- what the code returns of it
abbrev pub opened_as : Opening → Opened
opened_as o = record { machine = o.machine; refusal = named o.refusal }

-- ---- begin

abbrev pub with_party : Machine → ℕ → Party → Machine
with_party m who p = record { parties = m.parties; party = set m.party who p; queue = m.queue }

abbrev pub begun : Machine → ℕ → Call → Machine
begun m who c = with_party m who (record { place = start (kind_at m who) c; drain = (party_at m who).drain })

-- of a party that is there
abbrev pub start_refusal : (parties who : ℕ) → Place → Call → ℕ
start_refusal n who p c = pick (is_idle p) (pick (ltb (call_source who c) n) 0 5) 3

-- in the order 1, 2, 3, 5: `ok` is the record test's result
abbrev pub begin_order : (ok : Bool) → (parties who : ℕ) → Place → Call → ℕ
begin_order ok n who p c = pick ok (pick (ltb who n) (start_refusal n who p c) 2) 1

unfoldable pub begin_refusal : ℕ → ℕ → Machine → (lent : ℕ) → ℕ → Call → ℕ
begin_refusal w most m lent who c = begin_order (sound w most m lent) m.parties who (party_at m who).place c

unfoldable pub begin : ℕ → ℕ → Machine → List ℕ → ℕ → Call → Outcome
begin w most m xs who c =
    pick (eqb (begin_refusal w most m (length xs) who c) 0)
    (record { machine = begun m who c; items = xs; answer = None; effect = None; refusal = 0 })
    (refused m xs (begin_refusal w most m (length xs) who c))

-- ---- step

abbrev pub place_at : Machine → ℕ → Place
place_at m who = (party_at m who).place

abbrev pub source_at : Machine → ℕ → ℕ
source_at m who = source_of who (place_at m who)

abbrev pub context_of : Machine → ℕ → Mark → Context
context_of m who mark = record {
  kind = kind_at m who;
  capacity = (queue_at m who).capacity;
  from = kind_at m (source_at m who);
  drain = (party_at m who).drain;
  mark = mark;
}

abbrev pub row_at : ℕ → Machine → ℕ → Mark → Row
row_at w m who mark = row_of w (context_of m who mark) (place_at m who)

abbrev pub site : Whose → (own source : ℕ) → ℕ
site Whose.Own own source = own
site Whose.Source own source = source

-- the queue that the step's access is to
abbrev pub site_at : ℕ → Machine → ℕ → Mark → ℕ
site_at w m who mark = site (row_at w m who mark).whose who (source_at m who)

abbrev pub is_weak : Mark → Bool
is_weak Mark.Plain = false
is_weak Mark.Weak = true
is_weak (Mark.Carry n) = false
is_weak Mark.End = false

abbrev pub access_at : ℕ → Machine → List ℕ → ℕ → Mark → Accessed
access_at w m xs who mark =
    perform (queue_at m (site_at w m who mark))
    (stretch (base_of (site_at w m who mark) m.queue) (queue_at m (site_at w m who mark)).capacity xs)
    (row_at w m who mark).access (is_weak mark)

abbrev pub next_at : ℕ → Machine → List ℕ → ℕ → Mark → Next
next_at w m xs who mark = (row_at w m who mark).after (access_at w m xs who mark).seen

-- one place of each table is changed
abbrev pub stored : Machine → (who site : ℕ) → Next → Queue → Machine
stored m who i n q = record {
  parties = m.parties;
  party = set m.party who (record { place = n.place; drain = n.drain });
  queue = set m.queue i q;
}

-- a step that nothing refuses
unfoldable pub taken : ℕ → Machine → List ℕ → ℕ → Mark → Outcome
taken w m xs who mark = record {
  machine = stored m who (site_at w m who mark) (next_at w m xs who mark) (access_at w m xs who mark).queue;
  items =
      restretched (base_of (site_at w m who mark) m.queue) (queue_at m (site_at w m who mark)).capacity
      (access_at w m xs who mark).slots xs;
  answer = (next_at w m xs who mark).answer;
  effect = effect_of who (site_at w m who mark) (source_at m who) (next_at w m xs who mark).change;
  refusal = 0;
}

-- no call; a mark that does not fit the access of the place's row
abbrev pub mark_refusal : Access → Mark → Place → ℕ
mark_refusal a mark p = pick (is_idle p) 4 (pick (mark_fits (wish_of p) (is_cas a) mark) 0 6)

-- in the order 1, 2, 4, 6
abbrev pub step_order : (ok : Bool) → (parties who : ℕ) → Access → Mark → Place → ℕ
step_order ok n who a mark p = pick ok (pick (ltb who n) (mark_refusal a mark p) 2) 1

unfoldable pub step_refusal : ℕ → ℕ → Machine → (lent : ℕ) → ℕ → Mark → ℕ
step_refusal w most m lent who mark =
    step_order (sound w most m lent) m.parties who (row_at w m who mark).access mark (place_at m who)

unfoldable pub step : ℕ → ℕ → Machine → List ℕ → ℕ → Mark → Outcome
step w most m xs who mark =
    pick (eqb (step_refusal w most m (length xs) who mark) 0) (taken w m xs who mark)
    (refused m xs (step_refusal w most m (length xs) who mark))

-- ---- run alone

-- One party is stepped: the record and items so far, the answer, if any, the effects, the steps of the table.
pub record Alone : Type 0 where
  pub machine : Machine
  pub items : List ℕ
  pub answer : Option Answer
  pub effects : List Effect
  pub steps : ℕ
  pub refusal : ℕ

-- dropped ones in a row as one, counted
abbrev pub joins : Effect → Effect → Bool
joins x e = andb (ltb 0 (drops_of x.change)) (ltb 0 (drops_of e.change))

abbrev pub merged : Effect → Effect → Effect
merged x e = record { party = e.party; queue = e.queue; change = Change.Dropped (drops_of x.change + drops_of e.change) }

abbrev pub joined : Effect → Effect → List Effect
joined x e = pick (joins x e) (merged x e ∷ []) (x ∷ e ∷ [])

unfoldable pub appended : List Effect → Effect → List Effect
appended [] e = e ∷ []
appended (x ∷ []) e = joined x e
appended (x ∷ y ∷ l) e = x ∷ appended (y ∷ l) e

abbrev pub noted : List Effect → Option Effect → List Effect
noted l None = l
noted l (Some e) = appended l e

-- it stops at an answer, or before a step that needs a number or end
abbrev pub stops_at : Option Answer → Place → Bool
stops_at a p = orb (not (is_pending a)) (wishes (wish_of p))

-- the loop, over whatever is stepped: until it stops, or the budget is spent
unfoldable pub until : {S : Type 0} → (S → Bool) → (S → S) → (budget : ℕ) → S → S
until stopped next zero r = r
until stopped next (suc k) r = pick (stopped r) r (until stopped next k (next r))

abbrev pub stops : ℕ → Alone → Bool
stops who r = stops_at r.answer (place_at r.machine who)

abbrev pub onward : Alone → Outcome → Alone
onward r o = record {
  machine = o.machine;
  items = o.items;
  answer = o.answer;
  effects = noted r.effects o.effect;
  steps = r.steps + 1;
  refusal = 0;
}

abbrev pub runs : ℕ → ℕ → (budget : ℕ) → Alone → Alone
runs w who budget r = until (stops who) (λ x. onward x (taken w x.machine x.items who Mark.Plain)) budget r

abbrev pub still : Machine → List ℕ → ℕ → Alone
still m xs k = record { machine = m; items = xs; answer = None; effects = []; steps = 0; refusal = k }

-- of a party that is there
abbrev pub run_refusal : Place → ℕ
run_refusal p = pick (is_idle p) 4 0

-- in the order 1, 2, 4
abbrev pub alone_order : (ok : Bool) → (parties who : ℕ) → Place → ℕ
alone_order ok n who p = pick ok (pick (ltb who n) (run_refusal p) 2) 1

unfoldable pub alone_refusal : ℕ → ℕ → Machine → (lent : ℕ) → ℕ → ℕ
alone_refusal w most m lent who = alone_order (sound w most m lent) m.parties who (place_at m who)

unfoldable pub alone : ℕ → ℕ → Machine → List ℕ → ℕ → (budget : ℕ) → Alone
alone w most m xs who budget =
    pick (eqb (alone_refusal w most m (length xs) who) 0) (runs w who budget (still m xs 0))
    (still m xs (alone_refusal w most m (length xs) who))

-- ---- begin, step and run alone as one

-- What an act leaves: the machine, the items, and what is said.
pub record AfterAct : Type 0 where
  pub machine : Machine
  pub items : List ℕ
  pub reply : Result Reply Refusal

-- what the code returns, with the items that were lent to it
abbrev pub result_of : Acted → List ℕ → AfterAct
result_of r xs = record { machine = r.machine; items = xs; reply = r.reply }

-- the effect at a place of a list, if the list is that long
abbrev pub effect_at : List Effect → ℕ → Option Effect
effect_at [] i = None
effect_at (e ∷ l) zero = Some e
effect_at (e ∷ l) (suc i) = effect_at l i

-- at most three effects (proofs/Effects.antt, alone_few)
abbrev pub three_effects : List Effect → Effects
three_effects l = record { count = length l; list = effect_at l 0 ∷ effect_at l 1 ∷ effect_at l 2 ∷ [] }

abbrev pub of_outcome : Outcome → AfterAct
of_outcome o = record {
  machine = o.machine;
  items = o.items;
  reply = told o.refusal (record { answer = o.answer; effects = three_effects (noted [] o.effect); steps = 0 });
}

abbrev pub of_alone : Alone → AfterAct
of_alone r = record {
  machine = r.machine;
  items = r.items;
  reply = told r.refusal (record { answer = r.answer; effects = three_effects r.effects; steps = r.steps });
}

abbrev pub acted : ℕ → ℕ → Machine → List ℕ → ℕ → Act → AfterAct
acted w most m xs who (Act.Begin c) = of_outcome (begin w most m xs who c)
acted w most m xs who (Act.Step k) = of_outcome (step w most m xs who k)
acted w most m xs who (Act.Alone n) = of_alone (alone w most m xs who n)
