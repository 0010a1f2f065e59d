-- A step on the desk is the machine's step: the desk put back into the record.
use Prim.Native.Nat.{ℕ, zero, suc, ◌<◌}
use mathlib.Core.Path.{◌≡◌, refl, sym, ap, ap₂, fun_ext, ◌∙◌}
use mathlib.Core.Bool.{Bool, true, false, not, true≢false}
use mathlib.Core.List.{List}
use mathlib.Core.Logic.{◌≢◌, ⊎_elim}
use borrow.Author.Tests.{eqb-true, eqb-false}
use lib.Dec.{eqb}
use lib.ListN.{length, length-set, get_or, set}
use lib.Seq.{get_or-set_same, get_or-set_other, set-get_or, set-set, set_comm}
use Rattle.words.specs.Word.{pick}
use Rattle.tables.specs.declared.access.Context.{Context}
use Rattle.tables.specs.declared.access.Next.{Next}
use Rattle.tables.specs.declared.access.Seen.{Seen}
use Rattle.tables.specs.declared.access.Whose.{Whose}
use Rattle.tables.specs.declared.call.Mark.{Mark}
use Rattle.tables.specs.declared.state.Kind.TheVariants as Kind
use Rattle.tables.specs.declared.state.Machine.{Machine}
use Rattle.tables.specs.declared.state.Party.{Party}
use Rattle.tables.specs.declared.state.Queue.{Queue}
use Rattle.tables.specs.declared.place.Place.{Place}
use Rattle.tables.specs.Machine.{idle_party, zero_queue, party_at, queue_at, base_of, stretch, restretched}
use Rattle.tables.specs.Access.{perform}
use Rattle.tables.specs.Answer.{is_pending}
use Rattle.tables.specs.Row.{Row}
use Rattle.tables.specs.Tables.{row_of, source_of, is_idle, wish_of, wishes}
use Rattle.tables.specs.Effect.{effect_of}
use Rattle.tables.specs.Step.{Outcome, Alone, kind_at, place_at, source_at, context_of, site, is_weak, stored, taken, stops_at, stops, until, onward, runs}
use Rattle.tables.proofs.Bases.{base_same}
use Rattle.tables.proofs.Performed.{perform_keeps}
use Rattle.tables.proofs.Bools.{neither, set_keeps}
use Rattle.tables.proofs.Places.{next_source, next_over}
use Rattle.machine.specs.declared.desk.Desk.{Desk}
use Rattle.machine.specs.declared.desk.Stretches.{Stretches}
use Rattle.machine.specs.declared.desk.Stepped.{Stepped}
use Rattle.machine.specs.Desk.{With, put_back, desk_context, desk_row, away, queue_for, base_for, desk_with, reach, reaches, desk_step, Ran, ran_on, ran_stops, desk_runs}

not_false : (b : Bool) → not b ≡ false → b ≡ true
not_false true e = refl
not_false false e = absurd (true≢false e)

abbrev pub desk_of : Machine → (who f : ℕ) → Desk
desk_of m who f = record { party = party_at m who; own = queue_at m who; source = queue_at m f }

abbrev pub stretches_of : Machine → (who f : ℕ) → Stretches
stretches_of m who f = record { who = who; from = f; own = base_of who m.queue; source = base_of f m.queue }

-- as it was: the record itself
pub put_same : (m : Machine) (who f : ℕ) → put_back m who f (desk_of m who f) ≡ m
put_same m who f = λ i. record {
  parties = m.parties;
  party = set-get_or m.party who idle_party i;
  queue = (ap (λ (l : List Queue). set l who (queue_at m who)) (set-get_or m.queue f (zero_queue Kind.Lifo)) ∙ set-get_or m.queue who (zero_queue Kind.Lifo)) i;
}

-- a desk whose party and queues have their places in the record, capacities and kinds as they were
pub record Seated (m : Machine) (who f : ℕ) (d : Desk) : Type 0 where
  pub party_in_lem : who < length m.party
  pub own_in : who < length m.queue
  pub source_in : f < length m.queue
  pub own_capacity : d.own.capacity ≡ (queue_at m who).capacity
  pub source_capacity : d.source.capacity ≡ (queue_at m f).capacity
  pub own_kind : d.own.kind ≡ (queue_at m who).kind
  pub source_kind : d.source.kind ≡ (queue_at m f).kind

module _ (m : Machine) (who f : ℕ) (d : Desk) (s : Seated m who f d) where
  abbrev m' : Machine
  m' = put_back m who f d

  party_is : party_at m' who ≡ d.party
  party_is = get_or-set_same m.party who d.party idle_party s.party_in_lem

  own_is : queue_at m' who ≡ d.own
  own_is = get_or-set_same (set m.queue f d.source) who d.own (zero_queue Kind.Lifo) (rw length-set s.own_in)

  -- the source's words: the own queue's where it is the own queue
  source_at_lem : (b : Bool) → eqb f who ≡ b → queue_at m' f ≡ pick b d.own d.source
  source_at_lem true e = ap (queue_at m') (eqb-true f who e) ∙ own_is
  source_at_lem false e =
      get_or-set_other (set m.queue f d.source) who f d.own (zero_queue Kind.Lifo) (eqb-false f who e)
      ∙ get_or-set_same m.queue f d.source (zero_queue Kind.Lifo) s.source_in

  -- what the put-back queues share with those that were there, every queue does
  shares : {B : Type 0} (g : Queue → B) → g d.own ≡ g (queue_at m who) → g d.source ≡ g (queue_at m f) → (q : ℕ) → g (queue_at m' q) ≡ g (queue_at m q)
  shares g eo es q =
      set_keeps g (set m.queue f d.source) who q d.own (zero_queue Kind.Lifo) (eo ∙ sym (inner who)) ∙ inner q
    where
      inner : (x : ℕ) → g (get_or (set m.queue f d.source) x (zero_queue Kind.Lifo)) ≡ g (queue_at m x)
      inner x = set_keeps g m.queue f x d.source (zero_queue Kind.Lifo) es

  base_is : (n : ℕ) → base_of n m'.queue ≡ base_of n m.queue
  base_is n = base_same n m'.queue m.queue (shares (λ (q : Queue). q.capacity) s.own_capacity s.source_capacity)

  kind_is : (q : ℕ) → kind_at m' q ≡ kind_at m q
  kind_is = shares (λ (q : Queue). q.kind) s.own_kind s.source_kind

  place_is : place_at m' who ≡ d.party.place
  place_is = ap (λ (p : Party). p.place) party_is

  from_is : source_of who d.party.place ≡ f → source_at m' who ≡ f
  from_is e = ap (source_of who) place_is ∙ e

  context_is : source_of who d.party.place ≡ f → (k : Mark) → context_of m' who k ≡ desk_context d k
  context_is h k = λ i. record {
    kind = (own_is i).kind;
    capacity = (own_is i).capacity;
    from = (ap (kind_at m') (from_is h) ∙ kind_is f ∙ sym s.source_kind) i;
    drain = (party_is i).drain;
    mark = k;
  }

  -- ---- the queue that a row reaches, by whose it is and whether the source is the own queue

  not_who : eqb f who ≡ false → who ≢ f
  not_who e i = eqb-false f who e (sym i)

  site_queue : (v : Whose) (b : Bool) → eqb f who ≡ b → queue_at m' (site v who f) ≡ queue_for (away v b) d
  site_queue Whose.Own b e = own_is
  site_queue Whose.Source true e = source_at_lem true e
  site_queue Whose.Source false e = source_at_lem false e

  site_base : (v : Whose) (b : Bool) → eqb f who ≡ b → base_of (site v who f) m'.queue ≡ base_for (away v b) (stretches_of m who f)
  site_base Whose.Own b e = base_is who
  site_base Whose.Source true e = base_is f ∙ ap (λ (n : ℕ). base_of n m.queue) (eqb-true f who e)
  site_base Whose.Source false e = base_is f

  site_name : (v : Whose) (b : Bool) → eqb f who ≡ b → site v who f ≡ pick (away v b) f who
  site_name Whose.Own b e = refl
  site_name Whose.Source true e = eqb-true f who e
  site_name Whose.Source false e = refl

  queues_put : (v : Whose) (b : Bool) → eqb f who ≡ b → (q : Queue)
      → set m'.queue (site v who f) q ≡ set (set m.queue f (pick (away v b) q d.source)) who (pick (away v b) d.own q)
  queues_put Whose.Own b e q = set-set (set m.queue f d.source) who d.own q
  queues_put Whose.Source true e q =
      ap (λ (n : ℕ). set m'.queue n q) (eqb-true f who e) ∙ set-set (set m.queue f d.source) who d.own q
  queues_put Whose.Source false e q =
      set_comm (set m.queue f d.source) who f d.own q (not_who e) ∙ ap (λ (l : List Queue). set l who d.own) (set-set m.queue f d.source q)

  site_stored : (v : Whose) (b : Bool) → eqb f who ≡ b → (n : Next) (q : Queue)
      → stored m' who (site v who f) n q ≡ put_back m who f (desk_with (away v b) d q n)
  site_stored v b e n q = λ i. record {
    parties = m.parties;
    party = set-set m.party who d.party (record { place = n.place; drain = n.drain }) i;
    queue = queues_put v b e q i;
  }

  -- ---- a step

  -- by the row, the source, the queue it reaches, its base, where the changed words go, and the queue named
  by : List ℕ → Mark → Row → (source : ℕ) → Queue → (base : ℕ) → (Next → Queue → Machine) → (name : ℕ) → Outcome
  by xs k r source q base put name =
      let a = perform q (stretch base q.capacity xs) r.access (is_weak k) in
      record {
        machine = put (r.after a.seen) a.queue;
        items = restretched base q.capacity a.slots xs;
        answer = (r.after a.seen).answer;
        effect = effect_of who name source (r.after a.seen).change;
        refusal = 0;
      }

  abbrev pub outcome_of : With Stepped → Outcome
  outcome_of o = record {
    machine = put_back m who f o.value.desk;
    items = o.items;
    answer = o.value.answer;
    effect = o.value.effect;
    refusal = 0;
  }

  at_row : List ℕ → Mark → Row → (source : ℕ) → Outcome
  at_row xs k r source =
      by xs k r source (queue_at m' (site r.whose who source)) (base_of (site r.whose who source) m'.queue)
      (stored m' who (site r.whose who source)) (site r.whose who source)

  pub turn_is : source_of who d.party.place ≡ f → (w : ℕ) (xs : List ℕ) (k : Mark)
      → taken w m' xs who k ≡ outcome_of (desk_step w (stretches_of m who f) d xs k)
  unfolding taken desk_step by at_row
  turn_is h w xs k = ap₂ (at_row xs k) (ap₂ (row_of w) (context_is h k) place_is) (from_is h) ∙ reached
    where
      r : Row
      r = desk_row w d k

      b : Bool
      b = eqb f who

      reached : at_row xs k r f ≡ outcome_of (desk_step w (stretches_of m who f) d xs k)
      reached = λ i.
          by xs k r f (site_queue r.whose b refl i) (site_base r.whose b refl i)
          (fun_ext (λ n. fun_ext (λ q. site_stored r.whose b refl n q)) i) (site_name r.whose b refl i)

-- ---- the desk after a step has its places still

seated_with : {m : Machine} {who f : ℕ} {d : Desk} → Seated m who f d → (a : Bool) (q : Queue) (n : Next) → q.capacity ≡ (queue_for a d).capacity
    → q.kind ≡ (queue_for a d).kind → Seated m who f (desk_with a d q n)
seated_with s true q n ec ek = record {
  party_in_lem = s.party_in_lem;
  own_in = s.own_in;
  source_in = s.source_in;
  own_capacity = s.own_capacity;
  source_capacity = ec ∙ s.source_capacity;
  own_kind = s.own_kind;
  source_kind = ek ∙ s.source_kind;
}
seated_with s false q n ec ek = record {
  party_in_lem = s.party_in_lem;
  own_in = s.own_in;
  source_in = s.source_in;
  own_capacity = ec ∙ s.own_capacity;
  source_capacity = s.source_capacity;
  own_kind = ek ∙ s.own_kind;
  source_kind = s.source_kind;
}

seated_on : {m : Machine} {who f : ℕ} {d : Desk} → Seated m who f d → (w : ℕ) (l : Stretches) (xs : List ℕ) (k : Mark)
    → Seated m who f (desk_step w l d xs k).value.desk
unfolding desk_step
seated_on {d = d} s w l xs k =
    let r = reach w l d k in
    let a = reaches r xs k in
    let kept = perform_keeps r.queue (stretch r.base r.queue.capacity xs) r.access (is_weak k) in
    seated_with s r.away a.queue ((row_of w r.context d.party.place).after a.seen) kept.capacity kept.kind

-- ---- a run alone

module _ (m : Machine) (who f : ℕ) where
  abbrev pub alone_of : Ran → Alone
  alone_of x = record {
    machine = put_back m who f x.desk;
    items = x.items;
    answer = x.answer;
    effects = x.effects;
    steps = x.steps;
    refusal = 0;
  }

  abbrev l : Stretches
  l = stretches_of m who f

  -- until it answers, the call is under way and has its source
  pub record Going (x : Ran) : Type 0 where
    pub seated : Seated m who f x.desk
    pub on_way : is_pending x.answer ≡ true → (is_idle x.desk.party.place ≡ false) × (source_of who x.desk.party.place ≡ f)

  module _ (w : ℕ) where
    abbrev did : Ran → With Stepped
    did x = desk_step w l x.desk x.items Mark.Plain

    -- what is known of the place before a step: the run has not stopped
    before : (x : Ran) → Going x → ran_stops x ≡ false → (is_idle x.desk.party.place ≡ false) × (source_of who x.desk.party.place ≡ f)
    before x g h =
        g.on_way (not_false (is_pending x.answer) (neither (not (is_pending x.answer)) (wishes (wish_of x.desk.party.place)) h).0)

    going_on : (x : Ran) → Going x → ran_stops x ≡ false → Going (ran_on x (did x))
    unfolding desk_step
    going_on x g h = record { seated = seated_on g.seated w l x.items Mark.Plain; on_way = λ p. (still p, same p) }
      where
        place : Place
        place = x.desk.party.place

        context : Context
        context = desk_context x.desk Mark.Plain

        seen : Seen
        seen = (reaches (reach w l x.desk Mark.Plain) x.items Mark.Plain).seen

        still : is_pending ((row_of w context place).after seen).answer ≡ true → is_idle ((row_of w context place).after seen).place ≡ false
        still p = next_over w who context place seen (before x g h).0 ∙ ap not p

        same : is_pending ((row_of w context place).after seen).answer ≡ true → source_of who ((row_of w context place).after seen).place ≡ f
        same p =
            ⊎_elim (λ i. absurd (true≢false (sym i ∙ still p))) (λ e. e ∙ (before x g h).1) (next_source w who context place seen)

    -- the loops step alike, and so they come to the same
    pub runs_are : (n : ℕ) (x : Ran) → Going x → runs w who n (alone_of x) ≡ alone_of (desk_runs w l n x)
    unfolding until
    runs_are zero x g = refl
    runs_are (suc n) x g = at (ran_stops x) refl (λ e. runs_are n (ran_on x (did x)) (going_on x g e))
      where
        stops_is : stops who (alone_of x) ≡ ran_stops x
        stops_is = ap (stops_at x.answer) (place_is m who f x.desk g.seated)

        at : (b : Bool) → ran_stops x ≡ b
            → (ran_stops x ≡ false → runs w who n (alone_of (ran_on x (did x))) ≡ alone_of (desk_runs w l n (ran_on x (did x))))
            → pick (stops who (alone_of x)) (alone_of x) (runs w who n (onward (alone_of x) (taken w (put_back m who f x.desk) x.items who Mark.Plain)))
            ≡ alone_of (pick (ran_stops x) x (desk_runs w l n (ran_on x (did x))))
        at true e more = rw (stops_is, e)
        at false e more =
            rw (stops_is, e) (ap (λ (o : Outcome). runs w who n (onward (alone_of x) o))
            (turn_is m who f x.desk g.seated (before x g e).1 w x.items Mark.Plain)
            ∙ more e)
