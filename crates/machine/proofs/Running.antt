-- A run alone on the desk: what its loop keeps.
use Prim.Native.Nat.{ℕ, zero, suc, ◌+◌, ◌-◌, ◌^◌, ◌≤◌, ◌<◌}
use mathlib.Core.Path.{◌≡◌, refl, sym, ap, subst, ◌∙◌}
use mathlib.Core.Bool.{Bool, true, false, not}
use mathlib.Core.List.{List, []}
use native.Mathlib.Nat.{sub-zero}
use native.Mathlib.Omega.{arith}
use lib.ListN.{length}
use Rattle.words.specs.Word.{pick, Pow}
use Rattle.tables.specs.declared.access.Context.{Context}
use Rattle.tables.specs.declared.access.Next.{Next}
use Rattle.tables.specs.declared.access.Seen.{Seen}
use Rattle.std.specs.Prelude.{Option, Some, None}
use Rattle.tables.proofs.Maybe.{change_in}
use Rattle.machine.specs.Note.{dropped_by}
use Rattle.tables.specs.declared.answer.Effect.{Effect}
use Rattle.tables.specs.declared.answer.Effects.{Effects}
use Rattle.tables.specs.declared.call.Mark.{Mark}
use Rattle.tables.specs.declared.state.Queue.{Queue}
use Rattle.tables.specs.declared.place.Place.{Place}
use Rattle.tables.specs.Machine.{stretch}
use Rattle.tables.specs.Answer.{is_pending}
use Rattle.tables.specs.Tables.{row_of, wish_of, wishes}
use Rattle.tables.specs.Step.{is_weak, appended, noted, until, three_effects}
use Rattle.tables.proofs.Performed.{Kept, perform_keeps}
use Rattle.tables.proofs.Bases.{stretch_length, restretched_length}
use Rattle.tables.proofs.Bools.{neither, pick_yes, pick_no}
use Rattle.tables.proofs.Effects.{effect_change, DropsMost, most_noted, drops_one, FewAt, few_at_none, few_on}
use Rattle.machine.specs.Note.{note}
use Rattle.machine.specs.declared.desk.Desk.{Desk}
use Rattle.machine.specs.declared.desk.Stretches.{Stretches}
use Rattle.machine.specs.declared.desk.Reached.{Reached}
use Rattle.machine.specs.declared.desk.Stepped.{Stepped}
use Rattle.machine.specs.declared.desk.Turn.{Turn}
use Rattle.machine.specs.Desk.{With, with, desk_context, queue_for, desk_with, reach, reaches, desk_step, Ran, ran_on, ran_none}
use Rattle.machine.specs.Desk.{ran_stops, desk_runs, turn_with, of_ran, turn_on, of_stepped, as_came, Ready, Roomy}
use Rattle.machine.proofs.Turns.{Within, ready_reach}
use Rattle.machine.proofs.Noting.{note_is, roomy_of, dropped_change}

-- ---- one step keeps what the desk asks for

ready_with : {l : Stretches} {d : Desk} {lent : ℕ} → Ready l d lent → (a : Bool) (q : Queue) (n : Next) → q.capacity ≡ (queue_for a d).capacity
    → Ready l (desk_with a d q n) lent
ready_with y true q n e = record {
  own_power = y.own_power;
  source_power = subst Pow (sym e) y.source_power;
  own_fits = y.own_fits;
  source_fits = omega (arith, e, y.source_fits);
}
ready_with y false q n e = record {
  own_power = subst Pow (sym e) y.own_power;
  source_power = y.source_power;
  own_fits = omega (arith, e, y.own_fits);
  source_fits = y.source_fits;
}

module _ (w : ℕ) (l : Stretches) (d : Desk) (xs : List ℕ) (k : Mark) (y : Ready l d (length xs)) where
  abbrev r : Reached
  r = reach w l d k

  abbrev slots : List ℕ
  slots = stretch r.base r.queue.capacity xs

  kept : Kept r.queue slots (reaches r xs k)
  kept = perform_keeps r.queue slots r.access (is_weak k)

  pub desk_ready : Ready l (desk_step w l d xs k).value.desk (length xs)
  unfolding desk_step
  desk_ready = ready_with y r.away (reaches r xs k).queue ((row_of w r.context d.party.place).after (reaches r xs k).seen) kept.capacity

  pub desk_length : length (desk_step w l d xs k).items ≡ length xs
  unfolding desk_step
  desk_length =
      let v : Within r (length xs) = ready_reach w l d k (length xs) y in
      restretched_length r.base r.queue.capacity xs (reaches r xs k).slots v.fits
      (kept.length_is ∙ stretch_length r.base r.queue.capacity xs v.fits)

-- ---- the run

-- a turn, its items, and the list whose first three its effects are
abbrev pub ran_of : Turn → List ℕ → List Effect → Ran
ran_of t xs es = record { desk = t.desk; items = xs; answer = t.reply.answer; effects = es; steps = t.reply.steps }

module _ (w : ℕ) (l : Stretches) (budget : ℕ) (start : Ran) where
  pub record Running (lent : ℕ) (t : Turn) (xs : List ℕ) : Type 0 where
    pub list : List Effect
    pub shown : t.reply.effects ≡ three_effects list
    pub few : FewAt t.desk.party.place list
    pub counts : DropsMost t.reply.steps list
    pub ready : Ready l t.desk lent
    pub length_is : length xs ≡ lent
    pub within : t.reply.steps ≤ budget
    pub same : desk_runs w l (budget - t.reply.steps) (ran_of t xs list) ≡ desk_runs w l budget start

pub running_start : (w : ℕ) (l : Stretches) (budget : ℕ) (d : Desk) (xs : List ℕ) → Ready l d (length xs)
    → Running w l budget (ran_none d xs) (length xs) (as_came d) xs
running_start w l budget d xs y = record {
  list = [];
  shown = refl;
  few = few_at_none d.party.place;
  counts = tt;
  ready = y;
  length_is = refl;
  within = omega arith;
  same = ap (λ (n : ℕ). desk_runs w l n (ran_none d xs)) (sub-zero budget);
}

module _ (w : ℕ) (l : Stretches) (x : Ran) where
  runs_none : (n : ℕ) → n ≡ 0 → desk_runs w l n x ≡ x
  unfolding until
  runs_none n e = rw e refl

  runs_stopped : (n : ℕ) → ran_stops x ≡ true → desk_runs w l n x ≡ x
  unfolding until
  runs_stopped zero h = refl
  runs_stopped (suc n) h = pick_yes (ran_stops x) x _ h

  runs_on : (n m : ℕ) → n ≡ suc m → ran_stops x ≡ false → desk_runs w l n x ≡ desk_runs w l m (ran_on x (desk_step w l x.desk x.items Mark.Plain))
  unfolding until
  runs_on n m e h = rw e (pick_no (ran_stops x) x _ h)

turn_of : (t : Turn) (xs : List ℕ) (es : List Effect) → t.reply.effects ≡ three_effects es → of_ran (ran_of t xs es) ≡ with t xs
turn_of t xs es e = λ i. with (turn_with t.desk t.reply.answer (sym e i) t.reply.steps) xs

module _ {w : ℕ} {l : Stretches} {budget : ℕ} {start : Ran} {lent : ℕ} {t : Turn} {xs : List ℕ} (g : Running w l budget start lent t xs) where
  abbrev now_at : Ran
  now_at = ran_of t xs g.list

  abbrev next : With Stepped
  next = desk_step w l t.desk xs Mark.Plain

  -- it has come to its budget, or it stops
  pub running_spent : t.reply.steps ≡ budget → with t xs ≡ of_ran (desk_runs w l budget start)
  running_spent e =
      sym (ap of_ran (sym g.same ∙ runs_none w l now_at (budget - t.reply.steps) (omega arith)) ∙ turn_of t xs g.list g.shown)

  pub running_stopped : ran_stops now_at ≡ true → with t xs ≡ of_ran (desk_runs w l budget start)
  running_stopped h =
      sym (ap of_ran (sym g.same ∙ runs_stopped w l now_at (budget - t.reply.steps) h) ∙ turn_of t xs g.list g.shown)

  pub running_roomy : budget < 2 ^ 64 → t.reply.steps < budget → Roomy t.reply.effects
  running_roomy b h =
      subst Roomy (sym g.shown) (roomy_of t.reply.steps g.list (omega arith) (omega (arith, g.few.count)) g.counts)

  -- one step more
  pub running_on : t.reply.steps < budget → ran_stops now_at ≡ false → (t₁ : Turn) (xs₁ : List ℕ) → with t₁ xs₁ ≡ turn_on t next
      → Running w l budget start lent t₁ xs₁
  unfolding desk_step
  running_on h stop t₁ xs₁ eq =
      subst (λ (z : With Turn). Running w l budget start lent z.value z.items) (sym eq) (record {
        list = noted g.list e;
        shown = rw g.shown (note_is g.list e (omega (arith, fewer.count)));
        few = fewer;
        counts = most_noted t.reply.steps g.list e g.counts (rw change_is (drops_one w context place seen));
        ready = rw g.length_is at (desk_ready w l t.desk xs Mark.Plain here);
        length_is = desk_length w l t.desk xs Mark.Plain here ∙ g.length_is;
        within = omega arith;
        same = sym (runs_on w l now_at (budget - t.reply.steps) (budget - (t.reply.steps + 1)) (omega arith) stop) ∙ g.same;
      })
    where
      place : Place
      place = t.desk.party.place

      context : Context
      context = desk_context t.desk Mark.Plain

      seen : Seen
      seen = (reaches (reach w l t.desk Mark.Plain) xs Mark.Plain).seen

      e : Option Effect
      e = next.value.effect

      here : Ready l t.desk (length xs)
      here = rw g.length_is g.ready

      change_is : change_in e ≡ ((row_of w context place).after seen).change
      change_is = effect_change l.who (pick (reach w l t.desk Mark.Plain).away l.from l.who) l.from ((row_of w context place).after seen).change

      fewer : FewAt ((row_of w context place).after seen).place (noted g.list e)
      fewer = few_on w context place seen e g.few (neither (not (is_pending t.reply.answer)) (wishes (wish_of place)) stop).1 change_is

-- ---- what a step's effect drops, and the parts put together

pub effect_drops : (w : ℕ) (l : Stretches) (d : Desk) (xs : List ℕ) (k : Mark) → dropped_by (desk_step w l d xs k).value.effect ≤ 1
unfolding desk_step
effect_drops w l d xs k =
    rw (dropped_change (desk_step w l d xs k).value.effect, effect_change l.who (pick (reach w l d k).away l.from l.who) l.from ((row_of w (desk_context d k) d.party.place).after (reaches (reach w l d k) xs k).seen).change)
    (drops_one w (desk_context d k) d.party.place (reaches (reach w l d k) xs k).seen)

pub step_drops : (w : ℕ) (l : Stretches) (d : Desk) (xs : List ℕ) (k : Mark) {o : Stepped} {ys : List ℕ} → with o ys ≡ desk_step w l d xs k
    → dropped_by o.effect ≤ 1
step_drops w l d xs k e = subst (λ (z : With Stepped). dropped_by z.value.effect ≤ 1) (sym e) (effect_drops w l d xs k)

one_noted : (e : Option Effect) → note (three_effects []) e ≡ three_effects (noted [] e)
unfolding appended
one_noted None = note_is [] None (omega arith)
one_noted (Some e) = note_is [] (Some e) (omega arith)

pub stepped_is : (s : With Stepped) {o : Stepped} {ys : List ℕ} {none es : Effects} {r : Turn} → with o ys ≡ s → none ≡ three_effects [] → es ≡ note none o.effect
    → r ≡ turn_with o.desk o.answer es 0 → with r ys ≡ of_stepped s
stepped_is s {o} {ys} eo en ee er = rw (er, ee, en, one_noted o.effect) (ap of_stepped eo)
