-- Many lines of a piece, one after the other: what the loop keeps, and that each kind of line keeps it.
use Rattle.std.proofs.Common.{◌≡◌, ℕ, suc, ◌+◌, ◌-◌, ◌%◌, ◌<◌, ◌≤◌, Bool, true, false, ltb, leb, List, [], length, get_or, take, drop, set, sym, refl, ap, ⊎_elim, ◌⊎◌, ◌∙◌, subst, true≢false, arith, length-drop, ltb-true, leb-true}
use Rattle.std.specs.Prelude.{Option, Some, None, Result, Ok, Err}
use Rattle.std.proofs.lemmas.Option.{same_Some, none-some}
use lib.Seq.{take-length}
use Rattle.words.specs.Edition.{width}
use Rattle.words.specs.Word.{pick, Pow, plus}
use Rattle.text.specs.Bytes.{slice, index_of}
use Rattle.tables.specs.declared.access.Context.{Context}
use Rattle.tables.specs.declared.access.Next.{Next}
use Rattle.tables.specs.declared.answer.Answer.{Answer}
use Rattle.tables.specs.declared.answer.Refusal.{Refusal}
use Rattle.tables.specs.declared.call.Act.TheVariants as Act
use Rattle.tables.specs.declared.call.Call.{Call}
use Rattle.tables.specs.declared.call.Mark.{Mark}
use Rattle.tables.specs.declared.state.Kind.{Kind}
use Rattle.tables.specs.declared.state.Machine.{Machine}
use Rattle.tables.specs.declared.state.Party.{Party}
use Rattle.tables.specs.Machine.{most, party_at, queue_at}
use Rattle.tables.specs.Tables.{row_of, source_of}
use Rattle.tables.specs.Refusal.{number_of, told}
use Rattle.tables.specs.Step.{AfterAct, begin_order, acted}
use Rattle.tables.proofs.Bools.{pick_yes, pick_no}
use Rattle.queue.specs.declared.memory.Performed.{Performed}
use Rattle.machine.specs.declared.row.Look.{Look}
use Rattle.machine.specs.Look.{look, context_for, Fit}
use Rattle.machine.specs.Desk.{begun, moved}
use Rattle.machine.proofs.Acts.{still_here}
use Rattle.machine.proofs.Told.{Test}
use Rattle.machine.proofs.Rows as R
use Rattle.text.specs.declared.Line.{Line}
use Rattle.text.specs.declared.Found.{Found}
use Rattle.text.specs.declared.session.Session.{Session}
use Rattle.text.specs.declared.session.Stage.{Stage}
use Rattle.text.specs.Line.{read_of}
use Rattle.text.specs.declared.write.Out.{Out}
use Rattle.text.specs.Write.{HasRoom, Puts, room_of, answer_of, refused_of}
use Rattle.text.specs.Session.{answer_text, Turn, state_of, at_line, counted, is_running, stays, refuses, acts, line_taken, next_of}
use Rattle.text.specs.Find.{next_line}
use Rattle.text.specs.Feeding.{flow, kept_all, Gets}
use Rattle.text.specs.Stepping.{Reaches}
use Rattle.text.proofs.Writing.{puts_none}
use Rattle.text.proofs.Feedings.{kept_take, kept_read, gets_then, line_whole}

-- ---- a line that was found

module _ (piece : List ℕ) (from : ℕ) (inside : from ≤ length piece) (r : Found) (found : Some r ≡ next_line width piece from) where
  abbrev s : List ℕ
  s = drop from piece

  abbrev k : ℕ
  k = index_of 10 s

  abbrev bytes : List ℕ
  bytes = take k s

  either : Some r ≡ pick (ltb k (length s)) (Some (record { line = read_of width bytes; next = from + suc k })) None
  unfolding next_line
  either = found

  ended : ltb k (length s) ≡ true
  ended = by (ltb k (length s)) refl
    where
      by : (t : Bool) → ltb k (length s) ≡ t → ltb k (length s) ≡ true
      by true e = e
      by false e = absurd (none-some r (sym (either ∙ pick_no (ltb k (length s)) _ _ e)))

  is : r ≡ record { line = read_of width bytes; next = from + suc k }
  is = same_Some _ _ (either ∙ pick_yes (ltb k (length s)) _ _ ended)

  next_is : r.next ≡ from + suc k
  next_is = ap (λ (f : Found). f.next) is

  below : k < length piece - from
  below = omega (arith, ltb-true k (length s) ended, length-drop from piece)

  pub further : (from < r.next) × (r.next ≤ length piece)
  further = (omega (arith, next_is), omega (arith, next_is, below))

  line_is : r.line ≡ read_of width (kept_all [] bytes)
  line_is =
      ap (λ (f : Found). f.line) is
      ∙ sym (ap (read_of width) (kept_take [] bytes (omega arith)) ∙ kept_read width bytes)

  turn_is : (m : Machine) (xs : List ℕ) (t : Session)
      → line_taken width most m xs (counted t) r.line ≡ next_of width most m xs t (kept_all [] bytes)
  unfolding next_of
  turn_is m xs t = ap (line_taken width most m xs (counted t)) line_is

  at : from + k ≡ from + index_of 10 (slice from (length piece) piece)
  unfolding slice
  at = sym (ap (λ (x : List ℕ). from + index_of 10 (drop from x)) (take-length piece))

  same : k ≡ from + k - from
  same = omega arith

  -- what its turn leaves is where the piece comes to
  pub line_gets : (m : Machine) (xs : List ℕ) (t : Session) (turn : Turn) → line_taken width most m xs (counted t) r.line ≡ turn
      → (o : Out) → HasRoom o 128 → (o' : Out) → Puts o turn.text o'
      → Gets piece (flow (state_of t m xs) []) from o (flow turn.state []) r.next o'
  line_gets m xs t turn e o room o' puts =
      subst (λ (n : ℕ). Gets piece (flow (state_of t m xs) []) from o (flow turn.state []) n o') there
      (line_whole piece (flow (state_of t m xs) []) from o (from + k) (kept_all [] bytes) (omega (arith, below)) room at
      (omega (arith, below)) (ap (λ (n : ℕ). kept_all [] (take n s)) same) (λ q. omega (arith, below, q)) (kept_all [] bytes) refl
      turn.state o' (ap (λ (u : Turn). u.state) whole) (subst (λ (u : Turn). Puts o u.text o') whole puts))
    where
      whole : turn ≡ next_of width most m xs t (kept_all [] bytes)
      whole = sym e ∙ turn_is m xs t

      there : from + k + 1 ≡ r.next
      there = omega (arith, next_is)

-- ---- what a line comes to while the session runs

runs : (g : Stage) → is_running g ≡ true → g ≡ Stage.Running
runs Stage.MachineLine e = absurd (true≢false (sym e))
runs Stage.QueueLines e = absurd (true≢false (sym e))
runs Stage.Running e = refl
runs Stage.Over e = absurd (true≢false (sym e))

-- a machine or queue line, or a malformed one
abbrev pub IsOther : Line → Type 0
IsOther l = ((k : Kind) × (n : ℕ) × (l ≡ Line.Machine k n)) ⊎ (((n : ℕ) × (p : ℕ) × (l ≡ Line.Queue n p)) ⊎ (l ≡ Line.Malformed))

module _ (m : Machine) (xs : List ℕ) (t : Session) (run : is_running t.stage ≡ true) where
  other_is : (l : Line) → IsOther l → line_taken width most m xs t l ≡ stays m xs (refuses t 9)
  unfolding line_taken
  other_is (Line.Machine k n) h = rw (runs t.stage run)
  other_is (Line.Queue n p) h = rw (runs t.stage run)
  other_is (Line.Begin p c) h = absurd (⊎_elim (λ o. let e = o.2 in cc) (λ k. ⊎_elim (λ o. let e = o.2 in cc) (λ e. cc) k) h)
  other_is (Line.Step p k) h = absurd (⊎_elim (λ o. let e = o.2 in cc) (λ k. ⊎_elim (λ o. let e = o.2 in cc) (λ e. cc) k) h)
  other_is Line.Malformed h = rw (runs t.stage run)

  acts_refused : (who : ℕ) (e : Refusal) (o : AfterAct) → o ≡ still_here m xs e
      → acts m xs t who o ≡ record { state = state_of t m xs; text = refused_of t.line (number_of e) }
  acts_refused who e o h = rw (run, h)

  acts_taken : (who : ℕ) (o : AfterAct) {k : Machine} {ys : List ℕ} {a : Option Answer} → R.Took o k ys a
      → acts m xs t who o ≡ record { state = state_of t k ys; text = answer_text who a }
  acts_taken who o h = rw (run, h.machine, h.items, h.reply)

-- ---- what the loop keeps

pub record Goes (s : Session) (starts piece : List ℕ) (m₀ : Machine) (xs₀ : List ℕ) (from₀ : ℕ) (o₀ : Out)
    (m : Machine) (xs : List ℕ) (line from : ℕ) (o : Out) : Type 0 where
  pub running : is_running s.stage ≡ true
  pub fit : Fit m starts (length xs)
  pub gets : Gets piece (flow (state_of s m₀ xs₀) []) from₀ o₀ (flow (state_of (at_line line s) m xs) []) from o

-- a line taken of it
module _ {s : Session} {starts piece : List ℕ} {m₀ : Machine} {xs₀ : List ℕ} {from₀ : ℕ} {o₀ : Out}
    {m : Machine} {xs : List ℕ} {line from : ℕ} {o : Out}
    (g : Goes s starts piece m₀ xs₀ from₀ o₀ m xs line from o) {b : Bool} (asked : b ≡ leb 128 (room_of o)) (yes : b ≡ true)
    {r : Found} (found : Some r ≡ next_line width piece from) where
  abbrev line' : ℕ
  line' = plus 64 line 1

  abbrev GoesOn : Machine → List ℕ → Out → Type 0
  GoesOn m' xs' o' = Goes s starts piece m₀ xs₀ from₀ o₀ m' xs' line' r.next o'

  abbrev t : Session
  t = at_line line' s

  some : HasRoom o 128
  some = omega (arith, leb-true 128 (room_of o) (sym asked ∙ yes))

  -- less of the piece is left
  pub goes_further : length piece - r.next < length piece - from
  goes_further = omega (arith, further piece from g.gets.within r found)

  goes_on : (m' : Machine) (xs' text : List ℕ) → line_taken width most m xs t r.line ≡ record { state = state_of t m' xs'; text = text }
      → Fit m' starts (length xs') → (o' : Out) → Puts o text o' → GoesOn m' xs' o'
  goes_on m' xs' text turn fit o' puts = record {
    running = g.running;
    fit = fit;
    gets = gets_then g.gets (line_gets piece from g.gets.within r found m xs (at_line line s)
        (record { state = state_of t m' xs'; text = text }) turn o some o' puts);
  }

  pub goes_other : IsOther r.line → {o' : Out} → Puts o (refused_of line' 9) o' → GoesOn m xs o'
  goes_other h {o'} = goes_on m xs (refused_of line' 9) (other_is m xs t g.running r.line h) g.fit o'

  -- ---- begin

  module _ {who : ℕ} {call : Call} (line_is : r.line ≡ Line.Begin who call) {x : ℕ} (x-is : x ≡ who % most) where
    abbrev began : AfterAct
    began = acted width most m xs who (Act.Begin call)

    abbrev asked_of : Test
    asked_of = told (begin_order true m.parties who (party_at m x).place call) tt

    began_is : line_taken width most m xs t r.line ≡ acts m xs t who began
    unfolding line_taken
    began_is = ap (line_taken width most m xs t) line_is

    abbrev f : ℕ
    f = source_of who (party_at m x).place

    pub goes_begin_refused : {e : Refusal} → Err e ≡ asked_of → {o' : Out} → Puts o (refused_of line' (number_of e)) o' → GoesOn m xs o'
    goes_begin_refused {e} h {o'} =
        goes_on m xs (refused_of line' (number_of e)) (began_is ∙ acts_refused m xs t g.running who e began
        (R.begin_refused xs g.fit who x f (f % most) x-is refl refl call h)) g.fit o'

    pub goes_begin_taken : Ok tt ≡ asked_of → {p : Party} → p ≡ begun (party_at m x) (queue_at m x) call
        → GoesOn (record { parties = m.parties; party = set m.party x p; queue = m.queue }) xs o
    goes_begin_taken h {p} p_is =
        goes_on next xs [] (began_is ∙ acts_taken m xs t g.running who began took)
        (subst (λ (y : Machine). Fit y starts (length xs)) took.machine
        (subst (λ (ys : List ℕ). Fit began.machine starts (length ys)) took.items (R.fit_begin xs g.fit who call)))
        o (puts_none o)
      where
        next : Machine
        next = record { parties = m.parties; party = set m.party x p; queue = m.queue }

        left : R.Took began (record { parties = m.parties; party = set m.party x (begun (party_at m x) (queue_at m x) call); queue = m.queue })
            xs None
        left = R.begin_taken xs g.fit who x f (f % most) x-is refl refl call h

        took : R.Took began next xs None
        took = subst (λ (y : Party). R.Took began (record { parties = m.parties; party = set m.party x y; queue = m.queue }) xs
            None) (sym p_is) left

  -- ---- step

  module _ {who : ℕ} {mark : Mark} (line_is : r.line ≡ Line.Step who mark) {x : ℕ} (x-is : x ≡ who % most) {f : ℕ}
      (f-is : f ≡ source_of who (party_at m x).place) {y : ℕ} (y-is : y ≡ f % most) {c : Context} (c-is : c ≡ context_for m x y mark) where
    abbrev made : AfterAct
    made = acted width most m xs who (Act.Step mark)

    made_is : line_taken width most m xs t r.line ≡ acts m xs t who made
    unfolding line_taken
    made_is = ap (line_taken width most m xs t) line_is

    abbrev looked : Context → Result Look Refusal
    looked d = look width m.parties who x y (party_at m x).place d

    pub goes_step_refused : {e : Refusal} → Err e ≡ looked c → {o' : Out} → Puts o (refused_of line' (number_of e)) o' → GoesOn m xs o'
    goes_step_refused {e} h {o'} =
        goes_on m xs (refused_of line' (number_of e)) (made_is ∙ acts_refused m xs t g.running who e made
        (R.step_refused xs g.fit who x f y x-is f-is y-is mark (h ∙ ap looked c-is))) g.fit o'

    module _ {k : Look} (k_is : Ok k ≡ looked c) where
      look_at : Ok k ≡ looked (context_for m x y mark)
      look_at = k_is ∙ ap looked c-is

      pub site_in : k.site < most
      site_in = R.site_in xs g.fit who x f y x-is f-is y-is mark k look_at

      pub site_ready : Pow (queue_at m k.site).capacity × (get_or starts k.site 0 + (queue_at m k.site).capacity ≤ length xs)
      site_ready = (
        R.site_power xs g.fit who x f y x-is f-is y-is mark k look_at,
        R.site_fits xs g.fit who x f y x-is f-is y-is mark k look_at,
      )

      module _ {d : Performed} {xs' : List ℕ}
          (reached : Reaches (queue_at m k.site) xs (get_or starts k.site 0) k.access mark xs' d)
          {next : Next} (next_is : next ≡ (row_of width c (party_at m x).place).after d.seen) {p : Party} (p_is : p ≡ moved next) where
        next_at : next ≡ (row_of width (context_for m x y mark) (party_at m x).place).after d.seen
        next_at = next_is ∙ ap (λ (e : Context). (row_of width e (party_at m x).place).after d.seen) c-is

        abbrev machine_for : Party → Machine
        machine_for b = record { parties = m.parties; party = set m.party x b; queue = set m.queue k.site d.queue }

        items_are : made.items ≡ xs'
        items_are =
            sym (reached.items ∙ R.step_items xs g.fit who x f y x-is f-is y-is mark k look_at (queue_at m k.site).capacity refl
            d.queue reached.slots d.seen reached.done next next_at)

        took : R.Took made (machine_for p) xs' next.answer
        took =
            let t = R.step_taken xs g.fit who x f y x-is f-is y-is mark k look_at (queue_at m k.site).capacity refl
            d.queue reached.slots d.seen reached.done next next_at in
            record { machine = t.machine ∙ ap machine_for (sym p_is); items = items_are; effects = t.effects; reply = t.reply }

        goes_step : (text : List ℕ) → answer_text who next.answer ≡ text → (o' : Out) → Puts o text o'
            → GoesOn (machine_for p) xs' o'
        goes_step text e =
            goes_on (machine_for p) xs' text
            (made_is ∙ acts_taken m xs t g.running who made took
            ∙ ap (λ (q : List ℕ). record { state = state_of t (machine_for p) xs'; text = q }) e)
            (subst (λ (n : Machine). Fit n starts (length xs')) took.machine
            (subst (λ (ys : List ℕ). Fit made.machine starts (length ys)) items_are (R.fit_step xs g.fit who mark)))

        pub goes_step_pending : next.answer ≡ None → GoesOn (machine_for p) xs' o
        goes_step_pending e = goes_step [] (ap (answer_text who) e) o (puts_none o)

        pub goes_step_answered : {a : Answer} → next.answer ≡ Some a → {o' : Out} → Puts o (answer_of who a) o' → GoesOn (machine_for p) xs' o'
        goes_step_answered {a} e {o'} = goes_step (answer_of who a) (ap (answer_text who) e) o'
