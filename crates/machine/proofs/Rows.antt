-- For a loop that holds the machine in one local: on a record that passed the test once, a line's act is the machine's, made of one
-- party and two queues, and the record passes the test afterwards. In range, the places of the table are the party's number and its
-- source's, so the row looked up is the machine's own.
use Prim.Native.Nat.{ℕ, ◌+◌, ◌%◌, ◌≤◌, ◌<◌}
use mathlib.Core.Path.{◌≡◌, refl, sym, ap, ap₂, ◌∙◌}
use mathlib.Core.Bool.{Bool, true, false}
use mathlib.Core.List.{List, []}
use native.Mathlib.Omega.{arith}
use native.Mathlib.Nat.{mod-eq_of_lt}
use borrow.Author.Tests.{ltb-true}
use borrow.Rule.Slice.PartMut.{put_mid}
use lib.Dec.{ltb}
use Rattle.std.specs.Prelude.{Option, None, Result, Ok, Err}
use lib.ListN.{length, get_or, set}
use Rattle.words.specs.Edition.{width}
use Rattle.words.specs.Word.{Pow}
use Rattle.words.proofs.Powers.{power_of, pow_positive}
use Rattle.tables.specs.declared.access.Next.{Next}
use Rattle.tables.specs.declared.access.Seen.{Seen}
use Rattle.tables.specs.declared.answer.Answer.{Answer}
use Rattle.tables.specs.declared.answer.Effects.{Effects}
use Rattle.tables.specs.declared.answer.Refusal.{Refusal}
use Rattle.tables.specs.declared.answer.Reply.{Reply}
use Rattle.tables.specs.declared.call.Act.{Act}
use Rattle.tables.specs.declared.call.Call.{Call}
use Rattle.tables.specs.declared.call.Mark.{Mark}
use Rattle.tables.specs.declared.state.Machine.{Machine}
use Rattle.tables.specs.declared.state.Queue.{Queue}
use Rattle.tables.specs.Access.{Accessed, shows, perform}
use Rattle.tables.specs.Machine.{most, party_at, queue_at, base_of, stretch, restretched}
use Rattle.tables.specs.Refusal.{told, refusal_of}
use Rattle.tables.specs.Tables.{row_of, source_of, start}
use Rattle.tables.specs.Step.{Outcome, AfterAct, refused, sound, with_party, place_at, source_at, begin_order, begin_refusal, site, site_at}
use Rattle.tables.specs.Step.{is_weak, row_at, access_at, next_at, stored, taken, step_order, step_refusal, noted}
use Rattle.tables.specs.Step.{three_effects, of_outcome, acted}
use Rattle.tables.proofs.Bools.{pick_yes, pick_no}
use Rattle.tables.proofs.Refused as R
use Rattle.tables.proofs.Refused.{zero_then, begin_if, step_if}
use Rattle.tables.proofs.Sound as S
use Rattle.tables.proofs.Sound.{Sound, sound_facts, Alike, bases_alike, site_below}
use Rattle.tables.proofs.Steps.{step_alike, step_length, step_sound, begin_alike, begin_sound}
use Rattle.machine.specs.declared.row.Look.{Look}
use Rattle.machine.specs.Look.{look, context_for, Fit}
use Rattle.machine.proofs.Told.{Test, ok_code, err_code, told_some}
use Rattle.machine.proofs.Acts.{still_here}
use Rattle.machine.proofs.Turns.{put_is}

-- ---- what the loop keeps

-- no act changes a capacity or a table's length
fit_alike : {m k : Machine} {starts : List ℕ} {lent : ℕ} (left : ℕ) → Fit m starts lent → Alike m k → sound width most k left ≡ true
    → Fit k starts left
fit_alike left fit a s = record {
  passes = s;
  at = λ i h. fit.at i (rw a.parties at h) ∙ sym (bases_alike a i);
  parties_many = a.party_length ∙ fit.parties_many;
  queues_many = a.queue_length ∙ fit.queues_many;
}

module _ {m : Machine} {starts : List ℕ} (xs : List ℕ) (fit : Fit m starts (length xs)) (who : ℕ) where
  pub fit_begin : (call : Call)
      → Fit (acted width most m xs who (Act.Begin call)).machine starts (length (acted width most m xs who (Act.Begin call)).items)
  fit_begin call = fit_alike _ fit (begin_alike width most m xs who call) (begin_sound width most m xs who call fit.passes)

  pub fit_step : (mark : Mark)
      → Fit (acted width most m xs who (Act.Step mark)).machine starts (length (acted width most m xs who (Act.Step mark)).items)
  fit_step mark = fit_alike _ fit (step_alike width most m xs who mark) (step_sound width most m xs who mark fit.passes)

pub length_step : (m : Machine) (xs : List ℕ) (who : ℕ) (mark : Mark) → length (acted width most m xs who (Act.Step mark)).items ≡ length xs
length_step m xs who mark = step_length width most m xs who mark

-- what an act comes to that nothing refuses
pub record Took (o : AfterAct) (k : Machine) (ys : List ℕ) (a : Option Answer) : Type 0 where
  pub machine : o.machine ≡ k
  pub items : o.items ≡ ys
  pub effects : Effects
  pub reply : o.reply ≡ Ok (record { answer = a; effects = effects; steps = 0 })

refused_here : (m : Machine) (xs : List ℕ) (k : ℕ) → (k ≡ 0 → ⊥) → of_outcome (refused m xs k) ≡ still_here m xs (refusal_of k)
refused_here m xs k n = ap (λ (r : Result Reply Refusal). record { machine = m; items = xs; reply = r }) (told_some k _ n)

-- ---- a line: x and y are its party's place of the table and its source's

module _ {m : Machine} {starts : List ℕ} (xs : List ℕ) (fit : Fit m starts (length xs)) (who x f y : ℕ) (x-is : x ≡ who % most)
    (f-is : f ≡ source_of who (party_at m x).place) (y-is : y ≡ f % most) where
  facts : Sound width most m (length xs)
  facts = sound_facts width most m (length xs) fit.passes

  at_who : who < m.parties → x ≡ who
  at_who h = x-is ∙ mod-eq_of_lt (omega (arith, facts.few))

  at_source : who < m.parties → y ≡ source_at m who
  at_source h = y-is ∙ mod-eq_of_lt (omega (arith, f_in, facts.few)) ∙ f_at
    where
      f_at : f ≡ source_at m who
      f_at = f-is ∙ ap (λ (j : ℕ). source_of who (party_at m j).place) (at_who h)

      f_in : f < m.parties
      f_in = rw f_at (facts.placed who h).source

  -- ---- begin

  module _ (call : Call) where
    abbrev begin_code : ℕ
    begin_code = begin_order true m.parties who (party_at m x).place call

    begin_code_is : begin_code ≡ begin_refusal width most m (length xs) who call
    unfolding begin_refusal
    begin_code_is = by (ltb who m.parties) refl ∙ sym (pick_yes (sound width most m (length xs)) _ 1 fit.passes)
      where
        by : (b : Bool) → ltb who m.parties ≡ b → begin_code ≡ begin_order true m.parties who (party_at m who).place call
        by true h = ap (λ (j : ℕ). begin_order true m.parties who (party_at m j).place call) (at_who (ltb-true _ _ h))
        by false h = pick_no (ltb who m.parties) _ 2 h ∙ sym (pick_no (ltb who m.parties) _ 2 h)

    pub begin_refused : {e : Refusal} → ◌≡◌ {A = Test} (Err e) (told begin_code tt)
        → acted width most m xs who (Act.Begin call) ≡ still_here m xs e
    begin_refused {e} p =
        let c : (begin_code ≡ 0 → ⊥) × (e ≡ refusal_of begin_code) = err_code begin_code tt p in
        begin_if width most m who call xs (λ (o : Outcome). of_outcome o ≡ still_here m xs e)
        (λ z. absurd (c.0 (begin_code_is ∙ z)))
        (λ n. refused_here m xs _ n ∙ ap (still_here m xs) (ap refusal_of (sym begin_code_is) ∙ sym c.1))

    pub begin_taken : ◌≡◌ {A = Test} (Ok tt) (told begin_code tt) → Took (acted width most m xs who (Act.Begin call))
        (record {
          parties = m.parties;
          party = set m.party x (record { place = start (queue_at m x).kind call; drain = (party_at m x).drain });
          queue = m.queue;
        })
        xs None
    begin_taken p =
        begin_if width most m who call xs (λ (o : Outcome). Took (of_outcome o) (kept x) xs None)
        (λ e. record { machine = ap kept (sym (at_who here)); items = refl; effects = _; reply = refl })
        (λ n. absurd (n (sym begin_code_is ∙ clear)))
      where
        clear : begin_code ≡ 0
        clear = (ok_code begin_code tt p).0

        here : who < m.parties
        here = ltb-true _ _ (zero_then (ltb who m.parties) _ 2 (omega arith) clear).0

        kept : ℕ → Machine
        kept j = with_party m j (record { place = start (queue_at m j).kind call; drain = (party_at m j).drain })

  -- ---- step

  module _ (mark : Mark) where
    abbrev code_at : (a b : ℕ) → ℕ
    code_at a b =
        step_order true m.parties who (row_of width (context_for m a b mark) (party_at m a).place).access mark (party_at m a).place

    abbrev look_at : (a b : ℕ) → Look
    look_at a b = record {
      site = site (row_of width (context_for m a b mark) (party_at m a).place).whose a b;
      access = (row_of width (context_for m a b mark) (party_at m a).place).access;
    }

    step_code_is : code_at x y ≡ step_refusal width most m (length xs) who mark
    unfolding step_refusal
    step_code_is = by (ltb who m.parties) refl ∙ sym (pick_yes (sound width most m (length xs)) _ 1 fit.passes)
      where
        by : (b : Bool) → ltb who m.parties ≡ b
            → code_at x y ≡ step_order true m.parties who (row_at width m who mark).access mark (place_at m who)
        by true h = ap₂ code_at (at_who (ltb-true _ _ h)) (at_source (ltb-true _ _ h))
        by false h = pick_no (ltb who m.parties) _ 2 h ∙ sym (pick_no (ltb who m.parties) _ 2 h)

    abbrev looked : Result Look Refusal
    looked = look width m.parties who x y (party_at m x).place (context_for m x y mark)

    pub step_refused : {e : Refusal} → Err e ≡ looked → acted width most m xs who (Act.Step mark) ≡ still_here m xs e
    step_refused {e} p =
        let c : (code_at x y ≡ 0 → ⊥) × (e ≡ refusal_of (code_at x y)) = err_code (code_at x y) (look_at x y) p in
        step_if width most m who mark xs (λ (o : Outcome). of_outcome o ≡ still_here m xs e)
        (λ z. absurd (c.0 (step_code_is ∙ z)))
        (λ n. refused_here m xs _ n ∙ ap (still_here m xs) (ap refusal_of (sym step_code_is) ∙ sym c.1))

    module _ (r : Look) (r-is : Ok r ≡ looked) where
      clear : code_at x y ≡ 0
      clear = (ok_code (code_at x y) (look_at x y) r-is).0

      here : who < m.parties
      here = ltb-true _ _ (zero_then (ltb who m.parties) _ 2 (omega arith) clear).0

      look_is : r ≡ look_at who (source_at m who)
      look_is = (ok_code (code_at x y) (look_at x y) r-is).1 ∙ ap₂ look_at (at_who here) (at_source here)

      site_is : r.site ≡ site_at width m who mark
      site_is = ap (λ (l : Look). l.site) look_is

      site_there : r.site < m.parties
      site_there = rw site_is (site_below width most m xs who mark (length xs) facts here)

      pub site_in : r.site < most
      site_in = omega (arith, site_there, facts.few)

      base_is : get_or starts r.site 0 ≡ base_of r.site m.queue
      base_is = fit.at r.site site_there

      pub site_power : Pow (queue_at m r.site).capacity
      site_power = power_of width (queue_at m r.site).capacity (facts.power r.site site_there)

      pub site_fits : get_or starts r.site 0 + (queue_at m r.site).capacity ≤ length xs
      site_fits = rw (base_is, site_is) (S.site_fits width most m xs who mark (length xs) facts here)

      pub own_some : 1 ≤ (queue_at m x).capacity
      own_some = rw (at_who here) (pow_positive (power_of width (queue_at m who).capacity (facts.power who here)))

      -- n is the capacity as the code has it, the end of the stretch less its start
      module _ (n : ℕ) (n-is : n ≡ (queue_at m r.site).capacity) (q' : Queue) (slots' : List ℕ) (seen : Seen)
          (done : shows q' slots' seen ≡ perform (queue_at m r.site) (stretch (get_or starts r.site 0) n xs) r.access (is_weak mark))
          (next : Next) (next_is : next ≡ (row_of width (context_for m x y mark) (party_at m x).place).after seen) where
        done_is : shows q' slots' seen ≡ access_at width m xs who mark
        done_is =
            done
            ∙ ap₂ (λ (b c : ℕ). perform (queue_at m r.site) (stretch b c xs) r.access (is_weak mark)) base_is n-is
            ∙ ap (λ (l : Look). perform (queue_at m l.site) (stretch (base_of l.site m.queue) (queue_at m l.site).capacity xs)
            l.access (is_weak mark)) look_is

        next_at_lem : next ≡ next_at width m xs who mark
        next_at_lem =
            next_is
            ∙ ap₂ (λ (a b : ℕ). (row_of width (context_for m a b mark) (party_at m a).place).after seen) (at_who here) (at_source here)
            ∙ ap (λ (d : Accessed). (row_at width m who mark).after d.seen) done_is

        step_is : acted width most m xs who (Act.Step mark) ≡ of_outcome (taken width m xs who mark)
        step_is = ap of_outcome (R.step_taken width most m who mark xs (sym step_code_is ∙ clear))

        pub step_taken : Took (acted width most m xs who (Act.Step mark))
            (record {
              parties = m.parties;
              party = set m.party x (record { place = next.place; drain = next.drain });
              queue = set m.queue r.site q';
            })
            (restretched (get_or starts r.site 0) (queue_at m r.site).capacity slots' xs) next.answer
        unfolding taken
        step_taken = record {
          machine = ap (λ (o : AfterAct). o.machine) step_is ∙ sym machine_is;
          items = ap (λ (o : AfterAct). o.items) step_is ∙ sym items_is;
          effects = three_effects (noted [] (taken width m xs who mark).effect);
          reply =
              let es = three_effects (noted [] (taken width m xs who mark).effect) in
              ap (λ (o : AfterAct). o.reply) step_is
              ∙ ap (λ (a : Next). Ok (record { answer = a.answer; effects = es; steps = 0 })) (sym next_at_lem);
        }
          where
            machine_is : stored m x r.site next q'
                ≡ stored m who (site_at width m who mark) (next_at width m xs who mark) (access_at width m xs who mark).queue
            machine_is = λ i. stored m (at_who here i) (site_is i) (next_at_lem i) (done_is i).queue

            items_is : restretched (get_or starts r.site 0) (queue_at m r.site).capacity slots' xs
                ≡ restretched (base_of (site_at width m who mark) m.queue) (queue_at m (site_at width m who mark)).capacity
                (access_at width m xs who mark).slots xs
            items_is =
                ap (λ (b : ℕ). restretched b (queue_at m r.site).capacity slots' xs) base_is
                ∙ ap₂ (λ (z : ℕ) (d : Accessed). restretched (base_of z m.queue) (queue_at m z).capacity d.slots xs) site_is done_is

        -- the items as the code leaves them, the stretch put back into them
        pub step_items : put_mid (get_or starts r.site 0) n xs slots' ≡ (acted width most m xs who (Act.Step mark)).items
        step_items =
            put_is xs (get_or starts r.site 0) n slots'
            ∙ ap (λ (c : ℕ). restretched (get_or starts r.site 0) c slots' xs) n-is ∙ sym step_taken.items
