-- Along a schedule that keeps the premise each line keeps what holds of a run: a begin (Begun), a step that is taken (Went), a run alone as
-- its steps; a refused line changes nothing.
use mathlib.Core.Path.{◌≡◌, sym, ap, subst, ◌∙◌}
use mathlib.Core.Bool.{Bool}
use mathlib.Core.List.{List, [], ◌∷◌}
use Prim.Native.Nat.{ℕ, zero, suc, ◌<◌}
use lib.ListN.{length}
use borrow.Author.Tests.{ne_eqb}
use Rattle.std.specs.Prelude.{None}
use Rattle.words.specs.Word.{pick}
use Rattle.tables.specs.declared.call.Call.{Call}
use Rattle.tables.specs.declared.call.Mark.{Mark}
use Rattle.tables.specs.declared.state.Kind.{Kind}
use Rattle.tables.specs.declared.state.Party.{Party}
use Rattle.tables.specs.declared.state.Queue.{Queue}
use Rattle.tables.specs.Machine.{party_at}
use Rattle.tables.specs.Tables.{is_idle, start, call_source}
use Rattle.tables.specs.Step.{Outcome, refused, with_party, begin_refusal, step_refusal, taken, alone}
use Rattle.tables.specs.Causes.{begun_notes, notes, Premise}
use Rattle.tables.proofs.Rows.{idle_is}
use Rattle.tables.proofs.Refused.{CanBegin, began, begin_needs, begin_if, step_needs, step_refusal_lem, step_if}
use Rattle.agreement.specs.Statement.{Line, begins, steps, alones, Run, replayed, after_begin, after_step, begun, stepped, repeated, line, run_of, StepKeeps, RepeatKeeps, LineKeeps, Keeps}
use Rattle.agreement.proofs.Record.{taken_is}
use Rattle.agreement.proofs.Good.{Good}
use Rattle.agreement.proofs.Went.{good_taken}
use Rattle.agreement.proofs.Begun.{starts, good_placed}

module _ (w most : ℕ) (wide : 1 < w) where
  good_begun : (r : Run) (p : ℕ) (c : Call) → Good w r → Good w (begun w most r p c)
  good_begun r p c b =
      begin_if w most r.machine p c r.items (λ (o : Outcome). Good w (after_begin r p o))
      (λ e. ok (begin_needs w most r.machine p c (length r.items) e)) (λ e. same e)
    where
      ok : CanBegin w most r.machine p c (length r.items) → Good w (after_begin r p (began w most r.machine p c r.items))
      ok a =
          subst (λ (k : Kind). Good w (record {
            machine = with_party r.machine p (record { place = start k c; drain = (party_at r.machine p).drain });
            items = r.items;
            record' = r.record';
            notes = begun_notes p r.notes;
          }))
          (ap (λ (q : Queue). q.kind) (sym (b.fits.q_are p a.here)))
          (good_placed w b p a.here (start (b.cells p).kind c) (call_source p c) a.there
          (idle_is (b.members p).pl (ap is_idle (ap (λ (v : Party). v.place) (sym (b.fits.p_are p a.here))) ∙ a.idle))
          (starts w p (b.cells p).cap (b.cells p).s (b.cells p).kind c))

      -- refused: nothing is cleared
      same : (begin_refusal w most r.machine (length r.items) p c ≡ 0 → ⊥)
          → Good w (after_begin r p (refused r.machine r.items (begin_refusal w most r.machine (length r.items) p c)))
      same e = subst (λ (t : Bool). Good w (record {
        machine = r.machine;
        items = r.items;
        record' = r.record';
        notes = pick t (begun_notes p r.notes) r.notes;
      })) (sym (ne_eqb _ 0 e)) b

  pub good_stepped : (r : Run) (p : ℕ) (k : Mark) → Good w r → StepKeeps w most r p k → Good w (stepped w most r p k)
  unfolding taken
  good_stepped r p k b prem =
      step_if w most r.machine p k r.items (λ (o : Outcome). Good w (after_step r p o))
      (λ e. ok (step_needs w most r.machine p k (length r.items) e).here (prem (step_refusal_lem w most r.machine p k r.items ∙ e)))
      (λ e. same e)
    where
      ok : p < r.machine.parties → Premise w r.machine r.notes p → Good w (after_step r p (taken w r.machine r.items p k))
      ok pn pr = subst (λ (o : Outcome). Good w (after_step r p o)) (sym (taken_is w r.machine r.items b.fits p pn k))
          (good_taken w wide b p pn k pr)

      -- refused: nothing is recorded, nothing noted
      same : (step_refusal w most r.machine (length r.items) p k ≡ 0 → ⊥)
          → Good w (after_step r p (refused r.machine r.items (step_refusal w most r.machine (length r.items) p k)))
      same e =
          subst (λ (t : Bool). Good w (record {
            machine = r.machine;
            items = r.items;
            record' = r.record';
            notes = pick t (notes r.machine p (replayed r.machine r.record') (replayed r.machine r.record') None
                r.notes) r.notes;
          })) (sym (ne_eqb _ 0 e)) b

  good_repeated : (n : ℕ) (r : Run) (p : ℕ) → Good w r → RepeatKeeps w most n r p → Good w (repeated w most n r p)
  unfolding repeated RepeatKeeps
  good_repeated zero r p b k = b
  good_repeated (suc n) r p b k = good_repeated n (stepped w most r p Mark.Plain) p (good_stepped r p Mark.Plain b k.0) k.1

  good_line : (r : Run) (x : Line) → Good w r → LineKeeps w most r x → Good w (line w most r x)
  good_line r (begins p c) b k = good_begun r p c b
  good_line r (steps p m) b k = good_stepped r p m b k
  good_line r (alones p n) b k = good_repeated (alone w most r.machine r.items p n).steps r p b k

  pub good_run : (r : Run) (s : List Line) → Good w r → Keeps w most r s → Good w (run_of w most r s)
  unfolding run_of Keeps
  good_run r [] b k = b
  good_run r (x ∷ s) b k = good_run (line w most r x) s (good_line r x b k.0) k.1
