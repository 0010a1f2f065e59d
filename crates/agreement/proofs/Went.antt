-- A step which nothing refuses keeps what holds of a run: its notes are the tables' columns, and where no booking was open since a LIFO
-- booking's first load, the head that it loaded is the head still.
use mathlib.Core.Path.{◌≡◌, refl, sym, ap, ap₂, subst, ◌∙◌}
use mathlib.Core.Logic.{◌≢◌}
use mathlib.Core.Bool.{Bool, true, false}
use Prim.Native.Nat.{ℕ, ◌+◌, ◌<◌}
use native.Mathlib.Omega.{arith}
use Rattle.words.specs.Word.{pick}
use Rattle.tables.specs.declared.call.Mark.{Mark}
use Rattle.tables.specs.declared.state.Kind.TheVariants as Kind
use Rattle.tables.specs.declared.state.Party.{Party}
use Rattle.tables.specs.declared.state.Queue.{Queue}
use Rattle.tables.specs.declared.place.Place.{Place}
use Rattle.tables.specs.Tables.{source_of}
use Rattle.tables.specs.Step.{place_at, source_at}
use Rattle.tables.specs.Lists.{is_open, Lists, Plain, update}
use Rattle.tables.specs.Causes.{Notes, notes, is_first_load, is_head_load, fill_of, Premise}
use Rattle.agreement.specs.Statement.{Run, did_entry, lists_of, replayed, after_step}
use Rattle.agreement.proofs.Nums.{noone, head}
use Rattle.agreement.proofs.Whole.{LifoPart}
use Rattle.tables.proofs.Maybe.{moves_maybe}
use Rattle.tables.proofs.Updates.{update_elim, update_other}
use Rattle.agreement.proofs.Facts.{BkF}
use Rattle.agreement.proofs.Steps.{Still}
use Rattle.agreement.proofs.Cells.{Ran}
use Rattle.agreement.proofs.Record.{Fits, did_g, place_is, kinds_s, fits_after}
use Rattle.agreement.proofs.Replay.{update_ext, pick_update, notes_moved}
use Rattle.agreement.proofs.Good.{Good, orb_false, closed_now, still_first, still_keeps, lifo_part, x, y, next, after, source, ran, a, done, done_is, done_queue, spoke, possible'}

module _ (w : ℕ) (wide : 1 < w) {r : Run} (b : Good w r) (p : ℕ) (pn : p < r.machine.parties) (mark : Mark)
    (prem : Premise w r.machine r.notes p) where
  abbrev pub step₁ : Ran w r.machine.parties b.cells b.members p (b.members p).pl mark (x w wide b p pn mark prem)
      (did_g w r.machine r.items b.fits p pn mark) (next w wide b p pn mark prem)
  step₁ = ran w wide b p pn mark prem

  pub before_is : replayed r.machine r.record' ≡ a w wide b p pn mark prem
  unfolding a
  before_is = ap lists_of b.possible

  pub after_is : replayed r.machine (did_entry (after w wide b p pn mark prem).effect r.record') ≡ done w wide b p pn mark prem
  after_is = ap lists_of (done_is w wide b p pn mark prem)

  abbrev pub notes₁ : Notes
  notes₁ =
      notes r.machine p (replayed r.machine r.record') (replayed r.machine
      (did_entry (after w wide b p pn mark prem).effect r.record'))
      (after w wide b p pn mark prem).effect r.notes

  place : place_at r.machine p ≡ (b.members p).pl
  place = place_is w r.machine r.items b.fits p pn mark

  before_queue : (z : ℕ) → (replayed r.machine r.record').queue z ≡ (b.cells z).l
  unfolding a
  before_queue z = ap (λ (v : Plain). v.queue z) before_is

  pub moved₁ : (z : ℕ) → notes₁.moved z ≡ (step₁.cells' z).g.moved
  unfolding notes
  moved₁ z =
      notes_moved r.notes.moved p (x w wide b p pn mark prem) (y w wide b p pn mark prem) (next w wide b p pn mark prem).change z
      ∙ update_ext r.notes.moved (λ (v : ℕ). (b.cells v).g.moved) b.moved_are (x w wide b p pn mark prem) _ _ (ap
      (λ (n : ℕ). n + moves_maybe (next w wide b p pn mark prem).change) (b.moved_are (x w wide b p pn mark prem))) z
      ∙ sym (step₁.moved_are z)

  pub first₁ : (z : ℕ) → notes₁.first z ≡ (step₁.members' z).fm
  unfolding notes
  first₁ z =
      pick_update (is_first_load (place_at r.machine p)) r.notes.first p (r.notes.moved (source_at r.machine p)) z
      ∙ update_ext r.notes.first (λ (v : ℕ). (b.members v).fm) b.first_are p _ _
      (let em = ap r.notes.moved (source w wide b p pn mark prem)
      ∙ b.moved_are (y w wide b p pn mark prem) in λ i. pick (is_first_load (place i)) (em i) (b.first_are p i)) z
      ∙ sym (step₁.fm_are z)

  pub fill₁ : (z : ℕ) → notes₁.fill z ≡ (step₁.members' z).fill
  unfolding notes
  fill₁ z =
      pick_update (is_head_load (place_at r.machine p)) r.notes.fill p (fill_of ((replayed r.machine r.record').queue p)) z
      ∙ update_ext r.notes.fill (λ (v : ℕ). (b.members v).fill) b.fill_are p _ _
      (λ i. pick (is_head_load (place i)) (fill_of (before_queue p i)) (b.fill_are p i)) z
      ∙ sym (step₁.fill_are z)

  -- after the step, opened at z is false: it was before (where z made no first load), and z's source is not held now
  pub was_shut : (z : ℕ) → z < r.machine.parties → notes₁.opened z ≡ false
      → (pick (is_first_load (place_at r.machine p)) (update r.notes.opened p
      (is_open ((replayed r.machine r.record').queue (source_at r.machine p)).holder)) r.notes.opened z ≡ false)
      × ((step₁.cells' (source_of z (b.members z).pl)).g.who ≡ noone)
  unfolding notes
  was_shut z lt e =
      let c = orb_false _ _ e in
      let s : source_at r.machine z ≡ source_of z (b.members z).pl = ap (λ (v : Party). source_of z v.place) (b.fits.p_are z lt) in (
        c.0,
        closed_now (step₁.cells' (source_of z (b.members z).pl)).g.who
            (ap is_open (sym (step₁.inv.ok (source_of z (b.members z).pl)).joins.holder_is)
            ∙ ap (λ (v : Lists). is_open v.holder) (sym (done_queue w wide b p pn mark prem (source_of z (b.members z).pl)))
            ∙ ap₂ (λ (v : Plain) (n : ℕ). is_open (v.queue n).holder) (sym after_is) (sym s) ∙ c.1),
      )

  fits₁ : Fits w (after w wide b p pn mark prem).machine (after w wide b p pn mark prem).items step₁.cells' step₁.members'
  fits₁ = fits_after w r.machine r.items b.fits p pn mark (b.inv.ok (x w wide b p pn mark prem)).joins.sized
      r.machine.parties step₁

  kind₁ : (z : ℕ) → z < r.machine.parties → (step₁.cells' z).kind ≡ (b.cells z).kind
  kind₁ z lt =
      ap (λ (v : Queue). v.kind) (sym (fits₁.q_are z lt)) ∙ kinds_s w r.machine r.items b.fits p pn mark z
      ∙ ap (λ (v : Queue). v.kind) (b.fits.q_are z lt)

  -- a LIFO head stays where no booking is open after the step
  head₁ : (z : ℕ) → z < r.machine.parties → (step₁.cells' z).g.who ≡ noone → (b.cells z).kind ≡ Kind.Lifo
      → head (step₁.cells' z).g ≡ head (b.cells z).g
  head₁ z lt e k =
      let u : LifoPart (b.cells z).g = lifo_part (b.cells z).kind (b.cells z).g k (b.inv.ok z).part in
      let v : LifoPart (step₁.cells' z).g = lifo_part (step₁.cells' z).kind (step₁.cells' z).g (kind₁ z lt
      ∙ k) (step₁.inv.ok z).part in
      omega (arith, u.moved_is, v.moved_is, step₁.still z e, step₁.start_s z)

  still₁ : (z : ℕ) → z < r.machine.parties → notes₁.opened z ≡ false
      → Still w (step₁.members' z).pl (step₁.cells' (source_of z (step₁.members' z).pl)).g
  still₁ z lt e =
      subst (λ (v : Place). Still w v (step₁.cells' (source_of z v)).g) (sym (step₁.pl_are z))
      (update_elim (λ (v : ℕ). (b.members v).pl) p (next w wide b p pn mark prem).place
      (λ (v : Place). Still w v (step₁.cells' (source_of z v)).g) z mine theirs)
    where
      mine : z ≡ p → Still w (next w wide b p pn mark prem).place (step₁.cells' (source_of z (next w wide b p pn mark prem).place)).g
      mine ez =
          subst (λ (v : ℕ). Still w (next w wide b p pn mark prem).place
          (step₁.cells' (source_of v (next w wide b p pn mark prem).place)).g) (sym ez)
          (step₁.still_p (go (is_first_load (b.members p).pl) refl))
        where
          go : (c : Bool) → is_first_load (b.members p).pl ≡ c → Still w (b.members p).pl (b.cells (source_of p (b.members p).pl)).g
          go true ec = still_first w (b.members p).pl (b.cells (source_of p (b.members p).pl)).g ec
          go false ec =
              b.still p pn
              (subst (λ (v : ℕ). r.notes.opened v ≡ false) ez
              (ap (λ (c : Bool). pick c (update r.notes.opened p (is_open ((replayed r.machine r.record').queue (source_at
              r.machine p)).holder)) r.notes.opened z) (sym (ap is_first_load place ∙ ec)) ∙ (was_shut z lt e).0))

      theirs : z ≢ p → Still w (b.members z).pl (step₁.cells' (source_of z (b.members z).pl)).g
      theirs ne =
          still_keeps w z (b.members z).fm (b.members z).items (b.members z).pl (b.cells (source_of z (b.members z).pl)).kind
          (b.cells (source_of z (b.members z).pl)).g
          (step₁.cells' (source_of z (b.members z).pl)).g (b.cells (source_of z (b.members z).pl)).l
          (subst (λ (v : Place). BkF w z (b.members z).fm (b.members z).items v (b.cells (source_of z v)).kind
          (b.cells (source_of z v)).g (b.cells (source_of z v)).l) (b.both z) (b.inv.bkr z))
          (head₁ (source_of z (b.members z).pl) (b.fits.sources z lt) (was_shut z lt e).1)
          (b.still z lt (go (is_first_load (place_at r.machine p)) (was_shut z lt e).0))
        where
          go : (c : Bool) → pick c (update r.notes.opened p (is_open
              ((replayed r.machine r.record').queue (source_at r.machine p)).holder)) r.notes.opened z ≡ false
              → r.notes.opened z ≡ false
          go true h = sym (update_other r.notes.opened p (is_open
              ((replayed r.machine r.record').queue (source_at r.machine p)).holder) z ne) ∙ h
          go false h = h

  pub good_taken : Good w (after_step r p (after w wide b p pn mark prem))
  good_taken = record {
    cells = step₁.cells';
    members = step₁.members';
    inv = step₁.inv;
    both =
        λ z. step₁.bl_are z
        ∙ update_ext (λ (v : ℕ). (b.members v).bl) (λ (v : ℕ). (b.members v).pl) b.both p (next w wide b p pn mark prem).place
        (next w wide b p pn mark prem).place refl z
        ∙ sym (step₁.pl_are z);
    fits = fits₁;
    out = (spoke w wide b p pn mark prem).plain.out;
    gone = (spoke w wide b p pn mark prem).plain.gone;
    possible = possible' w wide b p pn mark prem;
    moved_are = moved₁;
    first_are = first₁;
    fill_are = fill₁;
    still = still₁;
  }
