-- What is still to be written when no input comes any more: the line at hand, then the rest lines from a part on. A buffer takes the
-- front of it and leaves the remainder, whatever the room, since the parts of a rest line, put together, are the line.
use Rattle.std.proofs.Common.{◌≡◌, ℕ, zero, suc, ◌+◌, ◌-◌, ◌<◌, ◌≤◌, Bool, true, false, eqb, ltb, leb, ◌⊎◌, List, [], ◌∷◌, ◌++◌, length, get_or, drop, sym, refl, ap, ◌∙◌, inl, inr, true≢false, append_assoc, append-nil, add-one, arith, drop_of_length-le, drop-cons, ltb-true, le-ltb, lt-ltb, ne_eqb, le-leb, leb-true}
use borrow.Author.Tests.{lt-leb}
use Rattle.words.specs.Word.{pick}
use Rattle.tables.specs.Step.{andb}
use Rattle.tables.proofs.Bools.{pick_if, less_or_not, and_right}
use Rattle.tables.proofs.Tokens.{tokens_many}
use Rattle.machine.specs.Rest.{tokens_of}
use Rattle.text.specs.Ascii.{ascii}
use Rattle.text.specs.Session.{State}
use Rattle.text.specs.Write.{field_for, fields_for, rest_head, rest_of}
use Rattle.text.specs.Output.{after, lines_taken, resting_at, rest_lines, queues_of}
use Rattle.text.specs.declared.run.Cursor.{Cursor}
use Rattle.text.specs.Feeding.{enough, Flow, flow, Fed, fed_in, cursor, part_at, part_next, Rested, parts_in, parts_from, last_fed, rests_in, is_written}
use Rattle.text.proofs.Leftover.{lines_from, left_lines, left_feeding, lines_more}

-- of queue q's rest line, from part i on
unfoldable pub line_left : (q i : ℕ) → (tokens : List ℕ) → List ℕ
line_left q i ts = pick (eqb i 0) (rest_of q ts) (fields_for (drop (i - 1) ts) ++ ascii "\n")

before_suc : (i : ℕ) → suc i - 1 ≡ i
before_suc i = omega arith

line_head : (q : ℕ) (ts : List ℕ) → line_left q 0 ts ≡ rest_head q ++ line_left q 1 ts
unfolding line_left rest_of
line_head q ts = refl

line_token : (q i : ℕ) (ts : List ℕ) → i < length ts → line_left q (suc i) ts ≡ field_for (get_or ts i 0) ++ line_left q (suc (suc i)) ts
unfolding line_left fields_for
line_token q i ts h =
    rw (ne_eqb (suc i) 0 (λ z. omega (arith, z)), ne_eqb (suc (suc i)) 0 (λ z. omega (arith, z)), before_suc i, before_suc (suc i))
    (ap (λ (x : List ℕ). fields_for x ++ ascii "\n") (drop-cons ts i 0 h)
    ∙ append_assoc (field_for (get_or ts i 0)) (fields_for (drop (suc i) ts)) (ascii "\n"))

line_end : (q i : ℕ) (ts : List ℕ) → length ts ≤ i → line_left q (suc i) ts ≡ ascii "\n"
unfolding line_left fields_for
line_end q i ts h =
    rw (ne_eqb (suc i) 0 (λ z. omega (arith, z)), before_suc i) (ap (λ (x : List ℕ). fields_for x ++ ascii "\n") (drop_of_length-le ts h))

module _ (w most : ℕ) where
  abbrev tokens_in : State → (q : ℕ) → List ℕ
  tokens_in st q = tokens_of w (resting_at w most st.machine q) st.items

  tokens_in_lem : (st : State) (q : ℕ) → length (tokens_in st q) ≡ (resting_at w most st.machine q).count
  tokens_in_lem st q = tokens_many w _ _ _ _

  -- of the rest lines, from a part on
  abbrev pub parts_left : State → Cursor → List ℕ
  parts_left st c =
      pick (ltb c.queue (queues_of st))
      (line_left c.queue c.part (tokens_in st c.queue) ++ rest_lines w most st (suc c.queue) (queues_of st - suc c.queue)) []

  abbrev pub left_resting : Flow → Cursor → List ℕ
  left_resting f c =
      pick (eqb (length f.held) 0) (parts_left f.state c)
      ((after w most f.state f.held).text ++ parts_left (after w most f.state f.held).state c)

  -- ---- where input ends

  next_line_lem : (st : State) (q : ℕ) → rest_lines w most st q (queues_of st - q) ≡ parts_left st (cursor q 0)
  unfolding rest_lines line_left
  next_line_lem st q = by (less_or_not q (queues_of st))
    where
      by : (q < queues_of st) ⊎ (queues_of st ≤ q) → rest_lines w most st q (queues_of st - q) ≡ parts_left st (cursor q 0)
      by (inl h) = ap (rest_lines w most st q) more ∙ rw (lt-ltb q (queues_of st) h) refl
        where
          more : queues_of st - q ≡ suc (queues_of st - suc q)
          more = omega (arith, h)
      by (inr h) = ap (rest_lines w most st q) none ∙ rw (le-ltb q (queues_of st) h) refl
        where
          none : queues_of st - q ≡ 0
          none = omega (arith, h)

  rest_left : (st : State) → rest_lines w most st 0 (queues_of st) ≡ parts_left st (cursor 0 0)
  rest_left st = ap (rest_lines w most st 0) all ∙ next_line_lem st 0
    where
      all : queues_of st ≡ queues_of st - 0
      all = omega arith

  pub last_left : (f : Flow) → left_feeding w most f [] ≡ left_resting f (cursor 0 0)
  unfolding lines_from lines_taken
  last_left f = by (eqb (length f.held) 0)
    where
      by : (t : Bool) → left_lines w most f.state (pick t [] (f.held ∷ []))
          ≡ pick t (parts_left f.state (cursor 0 0))
          ((after w most f.state f.held).text ++ parts_left (after w most f.state f.held).state (cursor 0 0))
      by true = rest_left f.state
      by false =
          lines_more w most f.state f.held []
          ∙ ap (λ (x : List ℕ). (after w most f.state f.held).text ++ x) (rest_left (after w most f.state f.held).state)

  -- ---- a part

  part_left : (st : State) (c : Cursor) → c.queue < queues_of st → parts_left st c ≡ part_at w most st c ++ parts_left st (part_next w most st c)
  part_left st c h = by c.part
    where
      q : ℕ
      q = c.queue

      ts : List ℕ
      ts = tokens_in st q

      n : ℕ
      n = (resting_at w most st.machine q).count

      rest : List ℕ
      rest = rest_lines w most st (suc q) (queues_of st - suc q)

      here : (i : ℕ) → parts_left st (cursor q i) ≡ line_left q i ts ++ rest
      here i = rw (lt-ltb q (queues_of st) h) refl

      there : parts_left st (cursor (q + 1) 0) ≡ rest
      there = ap (λ (k : ℕ). parts_left st (cursor k 0)) (add-one q) ∙ sym (next_line_lem st (suc q))

      more : (i : ℕ) → parts_left st (cursor q (i + 1)) ≡ line_left q (suc i) ts ++ rest
      more i = ap (λ (k : ℕ). parts_left st (cursor q k)) (add-one i) ∙ here (suc i)

      by : (i : ℕ) → parts_left st (cursor q i) ≡ part_at w most st (cursor q i) ++ parts_left st (part_next w most st (cursor q i))
      by zero =
          rw (le-leb 0 n (omega arith))
          (here 0 ∙ ap (λ (x : List ℕ). x ++ rest) (line_head q ts) ∙ append_assoc (rest_head q) (line_left q 1 ts) rest
          ∙ ap (λ (x : List ℕ). rest_head q ++ x) (sym (more 0)))
      by (suc i) = pass (less_or_not i n)
        where
          pass : (i < n) ⊎ (n ≤ i) → parts_left st (cursor q (suc i)) ≡ part_at w most st (cursor q (suc i)) ++ parts_left st (part_next w most st (cursor q (suc i)))
          pass (inl k) =
              rw (le-leb (suc i) n (omega (arith, k)), ne_eqb (suc i) 0 (λ z. omega (arith, z)), before_suc i)
              (here (suc i) ∙ ap (λ (x : List ℕ). x ++ rest) (line_token q i ts (omega (arith, k, tokens_in_lem st q)))
              ∙ append_assoc (field_for (get_or ts i 0)) (line_left q (suc (suc i)) ts) rest
              ∙ ap (λ (x : List ℕ). field_for (get_or ts i 0) ++ x) (sym (more (suc i))))
          pass (inr k) =
              rw (lt-leb (suc i) n (omega (arith, k)), ne_eqb (suc i) 0 (λ z. omega (arith, z)))
              (here (suc i) ∙ ap (λ (x : List ℕ). x ++ rest) (line_end q i ts (omega (arith, k, tokens_in_lem st q)))
              ∙ ap (λ (x : List ℕ). ascii "\n" ++ x) (sym there))

  -- ---- a buffer

  abbrev leaves : Flow → Cursor → Rested → Type 0
  leaves f c r = left_resting f c ≡ r.text ++ left_resting r.flow r.at

  parts_left_lem : (st : State) (n room : ℕ) (c : Cursor) → leaves (flow st []) c (parts_in w most n room st c)
  unfolding parts_in
  parts_left_lem st zero room c = refl
  parts_left_lem st (suc n) room c =
      pick_if (leaves (flow st []) c) (andb (leb enough room) (ltb c.queue (queues_of st)))
      (λ e. part_left st c (ltb-true c.queue (queues_of st) (and_right (leb enough room) (ltb c.queue (queues_of st)) e))
      ∙ ap (λ (x : List ℕ). part_at w most st c ++ x) (parts_left_lem st n (room - length (part_at w most st c)) (part_next w most st c))
      ∙ sym (append_assoc (part_at w most st c) (parts_in w most n (room - length (part_at w most st c)) st (part_next w most st c)).text _))
      (λ e. refl)

  from_left : (room : ℕ) (f : Flow) (c : Cursor) → leaves f c (parts_from w most room f c)
  from_left room f c =
      pick_if (leaves f c) (eqb (length f.held) 0) (λ e. rw e (parts_left_lem f.state room room c)) (λ e. refl)

  held_left : (room : ℕ) (f : Flow) (c : Cursor) → left_resting f c ≡ (last_fed w most room f).text ++ left_resting (last_fed w most room f).flow c
  unfolding last_fed fed_in
  held_left room f c =
      let P : Fed → Type 0 = λ r. left_resting f c ≡ r.text ++ left_resting r.flow c in
      pick_if P (eqb (length f.held) 0) (λ e. refl)
      (λ e. pick_if P (leb enough room)
      (λ _. rw e (ap (λ (x : List ℕ). x ++ parts_left (after w most f.state f.held).state c) (sym (append-nil (after w most f.state f.held).text))))
      (λ _. refl))

  pub rests_left : (room : ℕ) (f : Flow) (c : Cursor) → leaves f c (rests_in w most room f c)
  unfolding rests_in
  rests_left room f c =
      let r = last_fed w most room f in
      held_left room f c
      ∙ ap (λ (x : List ℕ). r.text ++ x) (from_left (room - length r.text) r.flow c)
      ∙ sym (append_assoc r.text (parts_from w most (room - length r.text) r.flow c).text _)

  -- ---- nothing is left

  pub none_left : (f : Flow) (c : Cursor) → is_written f c ≡ true → left_resting f c ≡ []
  none_left f c = by (eqb (length f.held) 0) (leb (queues_of f.state) c.queue) refl
    where
      by : (s t : Bool) → leb (queues_of f.state) c.queue ≡ t → pick s t false ≡ true
          → pick s (parts_left f.state c) ((after w most f.state f.held).text ++ parts_left (after w most f.state f.held).state c) ≡ []
      by true true e d = rw (le-ltb c.queue (queues_of f.state) (leb-true _ _ e)) refl
      by true false e d = absurd (true≢false (sym d))
      by false true e d = absurd (true≢false (sym d))
      by false false e d = absurd (true≢false (sym d))
