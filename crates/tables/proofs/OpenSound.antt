-- An opening that is not refused gives a sound record.
use Prim.Native.Nat.{ℕ, ◌<◌}
use mathlib.Core.Path.{◌≡◌, refl, sym, subst}
use mathlib.Core.Bool.{true}
use mathlib.Core.List.{List}
use Rattle.tables.specs.Step.{Opening}
use Rattle.tables.specs.declared.state.Kind.{Kind}
use Rattle.tables.specs.declared.state.Machine.{Machine}
use Rattle.tables.specs.declared.state.Party.{Party}
use Rattle.tables.specs.Step.{kind_at, tables, open_queues, opening, place_at, sound}
use Rattle.tables.proofs.Sound.{Sound, Placed, facts_sound}
use Rattle.tables.proofs.Refused.{CanOpen, open_needs, opening_if}
use Rattle.tables.proofs.Opening.{idle_at, opened_power}

module _ (w most : ℕ) (ks : List Kind) (n : ℕ) (rs ps : List ℕ) (lent : ℕ) (c : CanOpen w most ks n rs ps lent) where
  abbrev machine : Machine
  machine = tables most n (open_queues w most ks n rs ps)

  pub opened_placed : (q : ℕ) → q < n → Placed (kind_at machine) n q (place_at machine q)
  opened_placed q h =
      subst (λ (p : Party). Placed (kind_at machine) n q p.place) (sym (idle_at most q)) (record { source = h; kind = refl })

  pub opened_sound : 0 < w → Sound w most machine lent
  opened_sound p = record { some = c.some; few = c.few; power = opened_power w most ks n rs ps lent c p; placed = opened_placed; fits = c.fits }

pub opening_sound : (w most : ℕ) (ks : List Kind) (n : ℕ) (rs ps : List ℕ) (lent : ℕ) → 0 < w
    → (opening w most ks n rs ps lent).refusal ≡ 0 → sound w most (opening w most ks n rs ps lent).machine lent ≡ true
opening_sound w most ks n rs ps lent p =
    opening_if w most ks n rs ps lent (λ (o : Opening). o.refusal ≡ 0 → sound w most o.machine lent ≡ true)
    (λ e h. facts_sound w most _ lent (opened_sound w most ks n rs ps lent (open_needs w most ks n rs ps lent e) p)) (λ e h. absurd (e h))
