-- The rest lines part by part: what is written in turns is written at once, and it ends where the definition ends.
use Rattle.std.proofs.Common.{◌≡◌, ℕ, zero, suc, ◌-◌, ◌<◌, ◌≤◌, Bool, true, false, eqb, leb, ◌⊎◌, List, [], ◌++◌, length, get_or, sym, refl, ap, ◌∙◌, ap₂, inl, inr, append_assoc, append-nil, arith, le-ltb, lt-ltb, le-leb}
use Rattle.std.proofs.lemmas.List.{nil_from_length}
use borrow.Author.Tests.{eqb-true, lt-leb}
use Rattle.words.specs.Word.{pick}
use Rattle.words.specs.Edition.{width}
use Rattle.tables.specs.Machine.{most}
use Rattle.tables.specs.Step.{andb}
use Rattle.machine.specs.declared.rest.Resting.{Resting}
use Rattle.machine.specs.Rest.{tokens_of}
use Rattle.text.specs.Ascii.{ascii}
use Rattle.text.specs.Session.{State}
use Rattle.text.specs.declared.write.Out.{Out}
use Rattle.text.specs.Write.{Puts, room_of, field_for, rest_head}
use Rattle.text.specs.Output.{resting_at, queues_of}
use Rattle.text.specs.declared.run.Cursor.{Cursor}
use Rattle.text.specs.Feeding.{enough, Flow, flow, part_of, part_at, part_after, part_next, Rested, nothing_rested, rested_after, parts_in, parts_from, last_fed, rests_in, is_written, GetsParts}
use Rattle.text.proofs.Writing.{puts_then}

-- a part has a byte or more
pub part_some : (w : ℕ) (s : Resting) (xs : List ℕ) (c : Cursor) → 1 ≤ length (part_of w s xs c)
part_some w s xs c = by (eqb c.part 0) (leb c.part s.count)
  where
    by : (a b : Bool) → 1 ≤ length (pick a (rest_head c.queue) (pick b (field_for (get_or (tokens_of w s xs) (c.part - 1) 0)) (ascii "\n")))
    by true b = omega arith
    by false true = omega arith
    by false false = omega arith

module _ (w most : ℕ) (st : State) where
  pub parts_stop : (n room : ℕ) (c : Cursor) → (room < enough) ⊎ (queues_of st ≤ c.queue) → parts_in w most n room st c ≡ nothing_rested (flow st []) c
  unfolding parts_in
  parts_stop zero room c h = refl
  parts_stop (suc n) room c (inl h) = rw (lt-leb enough room h)
  parts_stop (suc n) room c (inr h) = rw (le-ltb c.queue (queues_of st) h) (by (leb enough room))
    where
      by : (t : Bool) → pick (andb t false) (rested_after (part_at w most st c) (parts_in w most n (room - length (part_at w most st c)) st (part_next w most st c))) (nothing_rested (flow st []) c)
          ≡ nothing_rested (flow st []) c
      by true = refl
      by false = refl

  pub parts_more : (n room : ℕ) (c : Cursor) → enough ≤ room → c.queue < queues_of st
      → parts_in w most (suc n) room st c ≡ rested_after (part_at w most st c) (parts_in w most n (room - length (part_at w most st c)) st (part_next w most st c))
  unfolding parts_in
  parts_more n room c h q = rw (le-leb enough room h, lt-ltb c.queue (queues_of st) q)

rested_after_lem : (a b : List ℕ) (r : Rested) → rested_after a (rested_after b r) ≡ rested_after (a ++ b) r
rested_after_lem a b r = λ i. record { flow = r.flow; at = r.at; text = sym (append_assoc a b r.text) i }

-- a part more, of what rests in its queue
module _ {st : State} {c c' : Cursor} {o o' : Out} (g : GetsParts st c o c' o') (h : enough ≤ room_of o')
    (q : c'.queue < queues_of st) (s : Resting) (s-is : s ≡ resting_at width most st.machine c'.queue) where
  abbrev part : List ℕ
  part = part_of width s st.items c'

  some : 1 ≤ length part
  some = part_some width s st.items c'

  fuel_is : g.fuel ≡ suc (g.fuel - 1)
  fuel_is = omega (arith, g.fuelled, h)

  more : parts_in width most (suc (g.fuel - 1)) (room_of o') st c'
      ≡ rested_after part (parts_in width most (g.fuel - 1) (room_of o' - length part) st (part_after s c'))
  more =
      parts_more width most st (g.fuel - 1) (room_of o') c' h q
      ∙ ap (λ (x : Resting). rested_after (part_of width x st.items c')
      (parts_in width most (g.fuel - 1) (room_of o' - length (part_of width x st.items c')) st (part_after x c'))) (sym s-is)

  pub parts_then : (o'' : Out) → Puts o' part o'' → (c'' : Cursor) → c'' ≡ part_after s c' → GetsParts st c o c'' o''
  parts_then o'' puts c'' next = record {
    text = g.text ++ part;
    fuel = g.fuel - 1;
    parts =
        g.parts ∙ ap (λ (n : ℕ). rested_after g.text (parts_in width most n (room_of o') st c')) fuel_is
        ∙ ap (rested_after g.text) more
        ∙ rested_after_lem g.text part (parts_in width most (g.fuel - 1) (room_of o' - length part) st (part_after s c'))
        ∙ ap₂ (λ (n : ℕ) (x : Cursor). rested_after (g.text ++ part) (parts_in width most (g.fuel - 1) n st x)) left (sym next);
    fuelled = omega (arith, g.fuelled, puts.wrote.after, puts.long, some, h);
    puts = puts_then g.puts puts;
  }
    where
      left : room_of o' - length part ≡ room_of o''
      left = omega (arith, puts.wrote.after, puts.long)

-- ---- the line at hand, then the parts

module _ (f : Flow) (c : Cursor) (o : Out) (f₁ : Flow) (o₁ : Out) (f₁-is : f₁ ≡ (last_fed width most (room_of o) f).flow)
    (puts₁ : Puts o (last_fed width most (room_of o) f).text o₁) where
  abbrev text : List ℕ
  text = (last_fed width most (room_of o) f).text

  abbrev rested : Rested
  rested = rests_in width most (room_of o) f c

  -- what a buffer has taken of the rest lines
  pub record Rests-as (g : Flow) (c' : Cursor) (o' : Out) (done : Bool) : Type 0 where
    pub flow_is : g ≡ rested.flow
    pub cursor_is : c' ≡ rested.at
    pub puts : Puts o rested.text o'
    pub done_is : done ≡ is_written rested.flow rested.at

  rests_at : (r : Rested) → parts_from width most (room_of o - length text) f₁ c ≡ r → rested ≡ rested_after text r
  unfolding rests_in
  rests_at r e =
      ap (λ (g : Flow). rested_after text (parts_from width most (room_of o - length text) g c)) (sym f₁-is)
      ∙ ap (rested_after text) e

  -- there was no room for the line at hand
  pub rests_held : eqb (length f₁.held) 0 ≡ false → Rests-as f₁ c o₁ false
  rests_held e =
      let s : rested ≡ rested_after text (nothing_rested f₁ c) = rests_at (nothing_rested f₁ c) (rw e refl) in
      record {
        flow_is = ap (λ (r : Rested). r.flow) (sym s);
        cursor_is = ap (λ (r : Rested). r.at) (sym s);
        puts = rw (ap (λ (r : Rested). r.text) s ∙ append-nil text) puts₁;
        done_is = sym (ap (λ (r : Rested). is_written r.flow r.at) s ∙ rw e refl);
      }

  module _ (e : eqb (length f₁.held) 0 ≡ true) (c₁ c' : Cursor) (c₁-is : c₁ ≡ c) (o' : Out) (g : GetsParts f₁.state c₁ o₁ c' o')
      (stop : (room_of o' < enough) ⊎ (queues_of f₁.state ≤ c'.queue)) where
    room_is : room_of o - length text ≡ room_of o₁
    room_is = omega (arith, puts₁.wrote.after, puts₁.long)

    all : rested ≡ rested_after text (rested_after g.text (nothing_rested (flow f₁.state []) c'))
    all =
        rests_at _
        (rw e (ap₂ (λ (n : ℕ) (x : Cursor). parts_in width most n n f₁.state x) room_is (sym c₁-is) ∙ g.parts
        ∙ ap (rested_after g.text) (parts_stop width most f₁.state g.fuel (room_of o') c' stop)))

    pub rests_parts : Rests-as f₁ c' o' (leb (queues_of f₁.state) c'.queue)
    rests_parts = record {
      flow_is = ap (flow f₁.state) (nil_from_length f₁.held (eqb-true (length f₁.held) 0 e)) ∙ ap (λ (r : Rested). r.flow) (sym all);
      cursor_is = ap (λ (r : Rested). r.at) (sym all);
      puts = rw (ap (λ (r : Rested). r.text) all ∙ ap (λ (x : List ℕ). text ++ x) (append-nil g.text)) (puts_then puts₁ g.puts);
      done_is = sym (ap (λ (r : Rested). is_written r.flow r.at) all);
    }
