-- An act on the desk, put back, is the act on the machine.
use Prim.Native.Nat.{ℕ, zero, suc, ◌<◌}
use mathlib.Core.Path.{◌≡◌, refl, sym, ap, ap₂, subst, ◌∙◌}
use mathlib.Core.Bool.{Bool, true, false, true≢false}
use mathlib.Core.List.{List}
use native.Mathlib.Omega.{arith}
use borrow.Author.Tests.{lt-ltb, ltb-true, ne_eqb}
use lib.Dec.{ltb, eqb}
use lib.ListN.{length, get_or}
use Rattle.std.specs.Prelude.{None, Result, Ok, Err, is_ok}
use Rattle.words.specs.Edition.{width}
use Rattle.words.specs.Word.{pick}
use Rattle.words.proofs.Powers.{power_of}
use Rattle.tables.specs.declared.answer.Refusal.{Refusal}
use Rattle.tables.specs.declared.call.Act.{Act}
use Rattle.tables.specs.declared.call.Call.{Call}
use Rattle.tables.specs.declared.call.Mark.{Mark}
use Rattle.tables.specs.declared.state.Machine.{Machine}
use Rattle.tables.specs.declared.state.Party.{Party}
use Rattle.tables.specs.Machine.{most, party_at, queue_at}
use Rattle.tables.specs.Tables.{is_idle, source_of}
use Rattle.tables.specs.Refusal.{told}
use Rattle.tables.specs.Step.{Outcome, AfterAct, sound, place_at, row_at, begun, refused, mark_refusal, begin_refusal, step_refusal}
use Rattle.tables.specs.Step.{alone_refusal, begin, step, alone, taken, runs, still, of_outcome, of_alone, acted}
use Rattle.tables.proofs.Bases.{base_within}
use Rattle.tables.proofs.Sound.{Sound, sound_facts}
use Rattle.machine.specs.declared.desk.Desk.{Desk}
use Rattle.machine.specs.declared.desk.Stretches.{Stretches}
use Rattle.machine.specs.declared.desk.Turn.{Turn}
use Rattle.machine.specs.Desk.{With, with, desk_step, ran_none, desk_runs, as_came, begun_desk, of_stepped, of_ran, taking, turned}
use Rattle.machine.specs.Desk.{left_at, Ready}
use Rattle.tables.specs.Step.{start_refusal}
use Rattle.machine.specs.Look.{Fit}
use Rattle.machine.proofs.Told.{Test}
use Rattle.machine.proofs.Desks.{desk_of, stretches_of, put_same, Seated, turn_is, runs_are}

-- what a turn leaves
abbrev pub left : Machine → (x y : ℕ) → With (Result Turn Refusal) → AfterAct
left m x y r = left_at m x y r.value r.items

-- ---- refused by the record test, or by the party's number

abbrev pub still_here : Machine → List ℕ → Refusal → AfterAct
still_here m xs e = record { machine = m; items = xs; reply = Err e }

module _ (w most : ℕ) (m : Machine) (xs : List ℕ) (who : ℕ) where
  pub record_refused : (act : Act) → sound w most m (length xs) ≡ false → still_here m xs Refusal.Record ≡ acted w most m xs who act
  unfolding begin begin_refusal step step_refusal alone alone_refusal
  record_refused (Act.Begin c) e = rw e refl
  record_refused (Act.Step k) e = rw e refl
  record_refused (Act.Alone b) e = rw e refl

  pub party_refused : (act : Act) → sound w most m (length xs) ≡ true → ltb who m.parties ≡ false
      → still_here m xs Refusal.Party ≡ acted w most m xs who act
  unfolding begin begin_refusal step step_refusal alone alone_refusal
  party_refused (Act.Begin c) e h = rw (e, h) refl
  party_refused (Act.Step k) e h = rw (e, h) refl
  party_refused (Act.Alone b) e h = rw (e, h) refl

-- the test of the party's number, by what it said
abbrev pub Said : (n who : ℕ) → Test → Type 0
Said n who r = r ≡ told (pick (ltb who n) 0 2) tt

there_is : (n who : ℕ) → Said n who (Ok tt) → who < n
there_is n who p = at (ltb who n) refl p
  where
    at : (b : Bool) → ltb who n ≡ b → ◌≡◌ {A = Test} (Ok tt) (told (pick b 0 2) tt) → who < n
    at true e q = ltb-true who n e
    at false e q = absurd (true≢false (ap is_ok q))

pub not_there : (n who : ℕ) {e : Refusal} → Said n who (Err e) → (ltb who n ≡ false) × (e ≡ Refusal.Party)
not_there n who {e} p = at (ltb who n) refl p
  where
    said : Test → Refusal
    said (Ok u) = Refusal.Party
    said (Err k) = k

    at : (b : Bool) → ltb who n ≡ b → ◌≡◌ {A = Test} (Err e) (told (pick b 0 2) tt) → (ltb who n ≡ false) × (e ≡ Refusal.Party)
    at true h q = absurd (true≢false (sym (ap is_ok q)))
    at false h q = (h, ap said q)

-- ---- past both: the desk stands at its party and its source

module _ (w most : ℕ) (m : Machine) (xs : List ℕ) (who : ℕ) (ok : sound w most m (length xs) ≡ true) (there : ltb who m.parties ≡ true)
    (sized : Seated m who (source_of who (place_at m who)) (desk_of m who (source_of who (place_at m who)))) where
  abbrev f : ℕ
  f = source_of who (place_at m who)

  abbrev d : Desk
  d = desk_of m who f

  abbrev l : Stretches
  l = stretches_of m who f

  abbrev done : With Turn → AfterAct
  done t = left_at m who f (Ok t.value) t.items

  step_is : (k : Mark) → done (of_stepped (desk_step w l d xs k)) ≡ of_outcome (taken w m xs who k)
  step_is k =
      ap of_outcome (sym (turn_is m who f d sized refl w xs k) ∙ ap (λ (x : Machine). taken w x xs who k) (put_same m who f))

  abbrev opened : Call → Outcome
  opened c = record { machine = begun m who c; items = xs; answer = None; effect = None; refusal = 0 }

  begin_is : (c : Call) → done (with (as_came (begun_desk d c)) xs) ≡ of_outcome (opened c)
  begin_is c = λ i. record {
    machine = record { parties = m.parties; party = (begun m who c).party; queue = (put_same m who f i).queue };
    items = xs;
    reply = Ok (as_came d).reply;
  }

  run_is : (b : ℕ) → is_idle (place_at m who) ≡ false
      → done (of_ran (desk_runs w l b (ran_none d xs))) ≡ of_alone (runs w who b (still m xs 0))
  run_is b h =
      ap of_alone (sym (runs_are m who f w b (ran_none d xs) (record { seated = sized; on_way = λ p. (h, refl) }))
      ∙ ap (λ (x : Machine). runs w who b (still x xs 0)) (put_same m who f))

  -- by the refusal's number: what is done where it is 0
  by_code : (t : With Turn) (o : Outcome) → done t ≡ of_outcome o → (code : ℕ)
      → left m who f (taking code t xs) ≡ of_outcome (pick (eqb code 0) o (refused m xs code))
  by_code t o e zero = e
  by_code t o e (suc code) = rw (ne_eqb (suc code) 0 (λ z. omega arith)) refl

  pub going : (act : Act) → left m who f (turned w m.parties l d xs act) ≡ acted w most m xs who act
  unfolding begin begin_refusal step step_refusal alone alone_refusal
  going (Act.Begin c) = rw (ok, there) (by_code _ (opened c) (begin_is c) (start_refusal m.parties who (place_at m who) c))
  going (Act.Step k) =
      rw (ok, there) (by_code _ (taken w m xs who k) (step_is k) (mark_refusal (row_at w m who k).access k (place_at m who)))
  going (Act.Alone b) = rw (ok, there) (at (is_idle (place_at m who)) refl)
    where
      at : (i : Bool) → is_idle (place_at m who) ≡ i
          → left m who f (taking (pick i 4 0) (of_ran (desk_runs w l b (ran_none d xs))) xs)
          ≡ of_alone (pick (eqb (pick i 4 0) 0) (runs w who b (still m xs 0)) (still m xs (pick i 4 0)))
      at true e = refl
      at false e = run_is b e

-- ---- what is read off a record that fits its starts

module _ {m : Machine} {starts : List ℕ} (xs : List ℕ) (fit : Fit m starts (length xs)) {n : ℕ} (n-is : n ≡ m.parties) (who : ℕ)
    (here : Said n who (Ok tt)) where
  facts : Sound width most m (length xs)
  facts = sound_facts width most m (length xs) fit.passes

  there : who < m.parties
  there = omega (arith, n-is, there_is n who here)

  pub who_within : who < most
  who_within = omega (arith, facts.few, there)

  module _ {f : ℕ} {p : Party} (p-is : p ≡ party_at m who) (f-at : f ≡ source_of who p.place) where
    f-is : f ≡ source_of who (party_at m who).place
    f-is = f-at ∙ ap (λ (q : Party). source_of who q.place) p-is

    f_there : f < m.parties
    f_there = rw f-is (facts.placed who there).source

    pub from_within : f < most
    from_within = omega (arith, facts.few, f_there)

    abbrev stretches : Stretches
    stretches = record { who = who; from = f; own = get_or starts who 0; source = get_or starts f 0 }

    stretches_are : stretches ≡ stretches_of m who f
    stretches_are = λ i. record { who = who; from = f; own = fit.at who there i; source = fit.at f f_there i }

    pub desk_ready : {d : Desk} → d ≡ desk_of m who f → Ready stretches d (length xs)
    desk_ready e =
        rw (e, stretches_are) (record {
          own_power = power_of width (queue_at m who).capacity (facts.power who there);
          source_power = power_of width (queue_at m f).capacity (facts.power f f_there);
          own_fits = omega (arith, base_within m.queue there, facts.fits);
          source_fits = omega (arith, base_within m.queue f_there, facts.fits);
        })

    pub act_is : {d : Desk} (act : Act) {r : With (Result Turn Refusal)} → d ≡ desk_of m who f
        → r ≡ turned width n stretches d xs act → left m who f r ≡ acted width most m xs who act
    act_is act ed er =
        ap (left m who f) er
        ∙ ap₂ (λ (n : ℕ) (d : Desk). left m who f (turned width n stretches d xs act)) n-is ed
        ∙ ap (λ (k : Stretches). left m who f (turned width m.parties k (desk_of m who f) xs act)) stretches_are
        ∙ ap (λ (g : ℕ). left m who g (turned width m.parties (stretches_of m who g) (desk_of m who g) xs act)) f-is
        ∙ going width most m xs who fit.passes (lt-ltb who m.parties there)
        (subst (λ (g : ℕ). Seated m who g (desk_of m who g)) f-is seated) act
      where
        seated : Seated m who f (desk_of m who f)
        seated = record {
          party_in_lem = omega (arith, who_within, fit.parties_many);
          own_in = omega (arith, who_within, fit.queues_many);
          source_in = omega (arith, from_within, fit.queues_many);
          own_capacity = refl;
          source_capacity = refl;
          own_kind = refl;
          source_kind = refl;
        }
