-- The record and the lent items, read as the tables; a step of the record is the tables' step.
use mathlib.Core.Path.{◌≡◌, refl, sym, ap, ap₂, subst, ◌∙◌}
use mathlib.Core.Logic.{◌⊎◌, inl, inr}
use mathlib.Core.List.{List}
use Prim.Native.Nat.{ℕ, ◌+◌, ◌≤◌, ◌<◌}
use native.Mathlib.Omega.{arith}
use lib.ListN.{length, length-set}
use Rattle.tables.specs.declared.access.Context.{Context}
use Rattle.tables.specs.declared.access.Next.{Next}
use Rattle.tables.specs.declared.access.Whose.{Whose}
use Rattle.tables.specs.declared.call.Mark.{Mark}
use Rattle.tables.specs.declared.state.Kind.TheVariants as Kind
use Rattle.tables.specs.declared.state.Machine.{Machine}
use Rattle.tables.specs.declared.state.Party.{Party}
use Rattle.tables.specs.declared.state.Queue.{Queue}
use Rattle.tables.specs.declared.place.Place.{Place}
use Rattle.tables.specs.Machine.{idle_party, zero_queue, party_at, queue_at, base_of, stretch, restretched}
use Rattle.tables.specs.Access.{Accessed, perform}
use Rattle.tables.specs.Row.{Row}
use Rattle.tables.specs.Tables.{row_of, source_of}
use Rattle.tables.specs.Step as S
use Rattle.tables.specs.Effect.{effect_of}
use Rattle.tables.specs.Step.{Outcome, kind_at, place_at, source_at, row_at, site, site_at, is_weak, access_at, next_at, stored, taken}
use Rattle.tables.specs.Lists.{update, slots_at}
use Rattle.tables.proofs.Performed.{Kept, perform_keeps}
use Rattle.tables.proofs.Bases.{base_same, base_within, stretch_back, stretch_other, restretched_length}
use Rattle.tables.proofs.Updates.{update_elim, update_same, update_other, list_update}
use Rattle.agreement.proofs.OwnLifo.{did}
use Rattle.agreement.proofs.Cells.{Cell, Member, words, Ran}
use Rattle.agreement.proofs.Turn.{context_at}

pub record Fits (w : ℕ) (m : Machine) (xs : List ℕ) (cells : ℕ → Cell) (members : ℕ → Member) : Type 0 where
  pub q_are : (x : ℕ) → x < m.parties → queue_at m x ≡ words w (cells x)
  pub s_are : (x : ℕ) → x < m.parties → slots_at m xs x ≡ (cells x).s
  pub p_are : (p : ℕ) → p < m.parties → party_at m p ≡ record { place = (members p).pl; drain = (members p).drain }
  pub sources : (p : ℕ) → p < m.parties → source_of p (members p).pl < m.parties
  pub long_q : m.parties ≤ length m.queue
  pub long_p : m.parties ≤ length m.party
  pub lent : base_of m.parties m.queue ≤ length xs

module _ (w : ℕ) (m : Machine) (xs : List ℕ) {cells : ℕ → Cell} {members : ℕ
    → Member} (f : Fits w m xs cells members) (p : ℕ) (pn : p < m.parties) (mark : Mark) where
  abbrev pub row_g : Row
  row_g = row_of w (context_at cells members p (members p).pl mark) (members p).pl

  abbrev pub site_g : ℕ
  site_g = site row_g.whose p (source_of p (members p).pl)

  abbrev pub did_g : Accessed
  did_g = did w (cells site_g).kind (cells site_g).cap (cells site_g).s (cells site_g).g row_g mark

  abbrev pub next_g : Next
  next_g = row_g.after did_g.seen

  pub place_is : place_at m p ≡ (members p).pl
  place_is = ap (λ (z : Party). z.place) (f.p_are p pn)

  pub source_is : source_at m p ≡ source_of p (members p).pl
  source_is = ap (source_of p) place_is

  pub queue_is : (x : ℕ) → x < m.parties → kind_at m x ≡ (cells x).kind
  queue_is x lt = ap (λ (q : Queue). q.kind) (f.q_are x lt)

  context_is : S.context_of m p mark ≡ context_at cells members p (members p).pl mark
  context_is =
      let ek = queue_is p pn in
      let ec = ap (λ (q : Queue). q.capacity) (f.q_are p pn) in
      let ef = ap (kind_at m) source_is ∙ queue_is (source_of p (members p).pl) (f.sources p pn) in
      let ed = ap (λ (z : Party). z.drain) (f.p_are p pn) in
      λ i. record { kind = ek i; capacity = ec i; from = ef i; drain = ed i; mark = mark }

  row_is : row_at w m p mark ≡ row_g
  row_is = ap₂ (λ (s : Context) (z : Place). row_of w s z) context_is place_is

  site_is : site_at w m p mark ≡ site_g
  site_is = ap₂ (λ (r : Row) (y : ℕ). site r.whose p y) row_is source_is

  site_lt : (h : Whose) → site h p (source_of p (members p).pl) < m.parties
  site_lt Whose.Own = pn
  site_lt Whose.Source = f.sources p pn

  pub site_in : site_g < m.parties
  site_in = site_lt row_g.whose

  words_is : queue_at m (site_at w m p mark) ≡ words w (cells site_g)
  words_is = ap (queue_at m) site_is ∙ f.q_are site_g site_in

  slots_is : slots_at m xs (site_at w m p mark) ≡ (cells site_g).s
  slots_is = ap (slots_at m xs) site_is ∙ f.s_are site_g site_in

  access_is : access_at w m xs p mark ≡ did_g
  access_is = λ i. perform (words_is i) (slots_is i) (row_is i).access (is_weak mark)

  next_is : next_at w m xs p mark ≡ next_g
  next_is = λ i. (row_is i).after (access_is i).seen

  abbrev pub taken_g : Outcome
  taken_g = record {
    machine = stored m p site_g next_g did_g.queue;
    items = restretched (base_of site_g m.queue) (cells site_g).cap did_g.slots xs;
    answer = next_g.answer;
    effect = effect_of p site_g (source_of p (members p).pl) next_g.change;
    refusal = 0;
  }

  pub taken_is : taken w m xs p mark ≡ taken_g
  unfolding taken
  taken_is =
      let ec : (queue_at m (site_at w m p mark)).capacity ≡ (cells site_g).cap = ap (λ (q : Queue). q.capacity) words_is in
      λ i. record {
        machine = stored m p (site_is i) (next_is i) (access_is i).queue;
        items = restretched (base_of (site_is i) m.queue) (ec i) (access_is i).slots xs;
        answer = (next_is i).answer;
        effect = effect_of p (site_is i) (source_is i) (next_is i).change;
        refusal = 0;
      }

  -- ---- the tables after it

  queues : (y : ℕ) → queue_at taken_g.machine y ≡ update (queue_at m) site_g did_g.queue y
  queues y = list_update (zero_queue Kind.Lifo) m.queue site_g did_g.queue (omega (arith, site_in, f.long_q)) y

  kept : Kept (words w (cells site_g)) (cells site_g).s did_g
  kept = perform_keeps (words w (cells site_g)) (cells site_g).s row_g.access (is_weak mark)

  cap_site : did_g.queue.capacity ≡ (queue_at m site_g).capacity
  cap_site = kept.capacity ∙ ap (λ (q : Queue). q.capacity) (sym (f.q_are site_g site_in))

  caps : (y : ℕ) → (queue_at taken_g.machine y).capacity ≡ (queue_at m y).capacity
  caps y =
      ap (λ (q : Queue). q.capacity) (queues y)
      ∙ update_elim (queue_at m) site_g did_g.queue (λ (q : Queue). q.capacity ≡ (queue_at m y).capacity) y (λ e. cap_site
      ∙ ap (λ (z : ℕ). (queue_at m z).capacity) (sym e)) (λ _. refl)

  pub kinds_s : (y : ℕ) → (queue_at taken_g.machine y).kind ≡ (queue_at m y).kind
  kinds_s y =
      ap (λ (q : Queue). q.kind) (queues y)
      ∙ update_elim (queue_at m) site_g did_g.queue (λ (q : Queue). q.kind ≡ (queue_at m y).kind) y
      (λ e. kept.kind ∙ ap (λ (q : Queue). q.kind) (sym (f.q_are site_g site_in)) ∙ ap (λ (z : ℕ). (queue_at m z).kind) (sym e)) (λ _. refl)

  bases : (y : ℕ) → base_of y taken_g.machine.queue ≡ base_of y m.queue
  bases y = base_same y taken_g.machine.queue m.queue caps

  cap_is : (queue_at m site_g).capacity ≡ (cells site_g).cap
  cap_is = ap (λ (q : Queue). q.capacity) (f.q_are site_g site_in)

  room : base_of site_g m.queue + (queue_at m site_g).capacity ≤ length xs
  room = omega (arith, base_within m.queue site_in, f.lent)

  -- the items after it, by the record's own capacity
  items_are : taken_g.items ≡ restretched (base_of site_g m.queue) (queue_at m site_g).capacity did_g.slots xs
  items_are = ap (λ (c : ℕ). restretched (base_of site_g m.queue) c did_g.slots xs) (sym cap_is)

  module _ (sized : length (cells site_g).s ≡ (cells site_g).cap) where
    long : length did_g.slots ≡ (queue_at m site_g).capacity
    long = kept.length_is ∙ sized ∙ sym cap_is

    slots_after : (y : ℕ) → y < m.parties → slots_at taken_g.machine taken_g.items y ≡ update (λ (z : ℕ). (cells z).s) site_g
        did_g.slots y
    slots_after y lt =
        (λ i. stretch (bases y i) (caps y i) (items_are i))
        ∙ update_elim (λ (z : ℕ). (cells z).s) site_g did_g.slots (λ (l : List ℕ). stretch (base_of y m.queue) (queue_at m y).capacity
        (restretched (base_of site_g m.queue) (queue_at m site_g).capacity did_g.slots xs) ≡ l) y
        (λ e. rw e (stretch_back (base_of site_g m.queue) (queue_at m site_g).capacity xs did_g.slots room long))
        (λ ne. stretch_other m.queue xs did_g.slots site_g y (λ e. ne (sym e)) room long ∙ f.s_are y lt)

    pub fits_after : (n : ℕ) (r : Ran w n cells members p (members p).pl mark site_g did_g next_g)
        → Fits w taken_g.machine taken_g.items r.cells' r.members'
    fits_after n r = record {
      q_are = λ y lt. queues y ∙ pointwise y lt ∙ sym (r.words_are y);
      s_are = λ y lt. slots_after y lt ∙ sym (r.slots_are y);
      p_are =
          λ z lt. list_update idle_party m.party p (record { place = next_g.place; drain = next_g.drain }) (omega (arith, f.long_p)) z
          ∙ update_elim (party_at m) p (record { place = next_g.place; drain = next_g.drain })
          (λ (v : Party). v ≡ record { place = (r.members' z).pl; drain = (r.members' z).drain }) z
          (λ e. let ep = r.pl_are z ∙ ap (update (λ (y : ℕ). (members y).pl) p next_g.place) e
          ∙ update_same (λ (y : ℕ). (members y).pl) p next_g.place in
          let ed = r.drain_are z ∙ ap (update (λ (y : ℕ). (members y).drain) p next_g.drain) e
          ∙ update_same (λ (y : ℕ). (members y).drain) p next_g.drain in
          λ i. record { place = sym ep i; drain = sym ed i })
          (λ ne. f.p_are z lt ∙ (let ep = r.pl_are z ∙ update_other (λ (y : ℕ). (members y).pl) p next_g.place z ne in
          let ed = r.drain_are z ∙ update_other (λ (y : ℕ). (members y).drain) p next_g.drain z ne in
          λ i. record { place = sym ep i; drain = sym ed i }));
      sources =
          λ z lt. subst (λ (v : Place). source_of z v < m.parties) (sym (r.pl_are z))
          (update_elim (λ (y : ℕ). (members y).pl) p next_g.place (λ (v : Place). source_of z v < m.parties) z
          (λ e. subst (λ (q : ℕ). source_of q next_g.place < m.parties) (sym e) (goes r.src_s)) (λ _. f.sources z lt));
      long_q = omega (arith, length-set m.queue site_g did_g.queue, f.long_q);
      long_p = omega (arith, length-set m.party p (record { place = next_g.place; drain = next_g.drain }), f.long_p);
      lent = omega (
        arith,
        bases m.parties,
        ap length items_are,
        restretched_length (base_of site_g m.queue) (queue_at m site_g).capacity xs did_g.slots room long,
        f.lent,
      );
    }
      where
        pointwise : (y : ℕ) → y < m.parties → update (queue_at m) site_g did_g.queue y ≡ update (λ (z : ℕ). words w (cells z)) site_g
            did_g.queue y
        pointwise y lt =
            update_elim (queue_at m) site_g did_g.queue (λ (v : Queue). v ≡ update (λ (z : ℕ). words w (cells z)) site_g did_g.queue y) y
            (λ e. sym (ap (update (λ (z : ℕ). words w (cells z)) site_g did_g.queue) e
            ∙ update_same (λ (z : ℕ). words w (cells z)) site_g did_g.queue))
            (λ ne. f.q_are y lt ∙ sym (update_other (λ (z : ℕ). words w (cells z)) site_g did_g.queue y ne))

        goes : (next_g.place ≡ Place.Idle) ⊎ (source_of p next_g.place ≡ source_of p (members p).pl) → source_of p next_g.place < m.parties
        goes (inl e) = subst (λ (v : Place). source_of p v < m.parties) (sym e) pn
        goes (inr e) = subst (λ (q : ℕ). q < m.parties) (sym e) (f.sources p pn)
