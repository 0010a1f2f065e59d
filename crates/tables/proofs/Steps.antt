-- What begin and step keep, taken or refused: soundness, parties, kinds and capacities, the number of items.
use Prim.Native.Nat.{ℕ, ◌<◌}
use mathlib.Core.Path.{◌≡◌, refl}
use mathlib.Core.Bool.{true, false}
use mathlib.Core.List.{List}
use lib.ListN.{length}
use Rattle.tables.specs.declared.call.Call.{Call}
use Rattle.tables.specs.declared.call.Mark.{Mark}
use Rattle.tables.specs.declared.state.Machine.{Machine}
use Rattle.tables.specs.Access.{is_cas}
use Rattle.tables.specs.Tables.{is_idle, wish_of, wishes}
use Rattle.tables.specs.Step.{Outcome, sound, begin, place_at, row_at, taken, step_refusal, step}
use Rattle.tables.proofs.Marks.{plain_fits}
use Rattle.tables.proofs.Sound.{sound_facts, facts_sound, Alike, alike_self, taken_alike, taken_sound, taken_length, begun_alike, begun_sound}
use Rattle.tables.proofs.Refused.{begin_needs, begin_if, step_needs, step_can, step_if, step_taken}

module _ (w most : ℕ) (m : Machine) (xs : List ℕ) (who : ℕ) where
  module _ (mark : Mark) where
    pub step_alike : Alike m (step w most m xs who mark).machine
    step_alike =
        step_if w most m who mark xs (λ (o : Outcome). Alike m o.machine) (λ e. taken_alike w most m xs who mark) (λ e. alike_self m)

    pub step_length : length (step w most m xs who mark).items ≡ length xs
    step_length = step_if w most m who mark xs (λ (o : Outcome). length o.items ≡ length xs)
        (λ e. let c = step_needs w most m who mark (length xs) e in
        taken_length w most m xs who mark (length xs) (sound_facts w most m (length xs) c.sound_is) c.here refl)
        (λ e. refl)

    pub step_sound : sound w most m (length xs) ≡ true
        → sound w most (step w most m xs who mark).machine (length (step w most m xs who mark).items) ≡ true
    step_sound s = rw step_length (step_if w most m who mark xs (λ (o : Outcome). sound w most o.machine (length xs) ≡ true)
        (λ e. let c = step_needs w most m who mark (length xs) e in
        facts_sound w most _ (length xs) (taken_sound w most m xs who mark (length xs) (sound_facts w most m (length xs) s) c.here))
        (λ e. s))

    pub taken_keeps : step_refusal w most m (length xs) who mark ≡ 0
        → sound w most (taken w m xs who mark).machine (length (taken w m xs who mark).items) ≡ true
    taken_keeps e = rw (step_taken w most m who mark xs e) at (step_sound (step_needs w most m who mark (length xs) e).sound_is)

  module _ (c : Call) where
    pub begin_alike : Alike m (begin w most m xs who c).machine
    begin_alike = begin_if w most m who c xs (λ (o : Outcome). Alike m o.machine) (λ e. begun_alike w most m who c) (λ e. alike_self m)

    pub begin_items : (begin w most m xs who c).items ≡ xs
    begin_items = begin_if w most m who c xs (λ (o : Outcome). o.items ≡ xs) (λ e. refl) (λ e. refl)

    pub begin_sound : sound w most m (length xs) ≡ true
        → sound w most (begin w most m xs who c).machine (length (begin w most m xs who c).items) ≡ true
    begin_sound s = rw begin_items (begin_if w most m who c xs (λ (o : Outcome). sound w most o.machine (length xs) ≡ true)
        (λ e. let d = begin_needs w most m who c (length xs) e in
        facts_sound w most _ (length xs) (begun_sound w most m who c (length xs) (sound_facts w most m (length xs) s) d.here d.there))
        (λ e. s))

-- a plain step of a call under way that wishes nothing
pub plain_can : (w most : ℕ) (m : Machine) (lent who : ℕ) → sound w most m lent ≡ true → who < m.parties → is_idle (place_at m who) ≡ false
    → wishes (wish_of (place_at m who)) ≡ false → step_refusal w most m lent who Mark.Plain ≡ 0
plain_can w most m lent who s h i n =
    step_can w most m who Mark.Plain lent
    (record { sound_is = s; here = h; under_way = i; fits = plain_fits (wish_of (place_at m who)) (is_cas (row_at w m who Mark.Plain).access) n })
