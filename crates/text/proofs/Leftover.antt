-- What is still to be written while input comes: a piece of input prints the front of it and leaves the remainder, whatever the room,
-- since the line at hand stands for the bytes used of it. At the first byte it is what the lines of the whole input print.
use Rattle.std.proofs.Common.{◌≡◌, ℕ, suc, ◌+◌, ◌-◌, Bool, true, false, eqb, leb, List, [], ◌∷◌, ◌++◌, length, take, drop, sym, refl, ap, ◌∙◌, ap₂, append_assoc, append-nil, arith, length-append, take-append-drop, ne_eqb}
use lib.Seq.{drop-append-le}
use Rattle.words.specs.Word.{pick}
use Rattle.text.specs.Session.{State, Turn, line_taken, counted, next_of}
use Rattle.text.specs.Output.{before, lines_of, after, onto, lines_taken, whole}
use Rattle.text.specs.Feeding.{enough, Flow, flow, kept, Fed, fed_after, fed_in}
use Rattle.tables.proofs.Bools.{pick_if}
use Rattle.text.proofs.Feedings.{take_cut, kept_read, fed_used}

-- the lines of bytes that come after those at hand, 121 bytes kept of each
unfoldable pub lines_from : (held : List ℕ) → List ℕ → List (List ℕ)
lines_from l [] = pick (eqb (length l) 0) [] (l ∷ [])
lines_from l (b ∷ s) = pick (eqb b 10) (l ∷ lines_from [] s) (lines_from (kept l b) s)

-- the same, all bytes kept
unfoldable lines_with : (held : List ℕ) → List ℕ → List (List ℕ)
lines_with l [] = pick (eqb (length l) 0) [] (l ∷ [])
lines_with l (b ∷ s) = pick (eqb b 10) (l ∷ lines_with [] s) (lines_with (l ++ (b ∷ [])) s)

-- bytes before the first line
unfoldable infront : List ℕ → List (List ℕ) → List (List ℕ)
infront l [] = pick (eqb (length l) 0) [] (l ∷ [])
infront l (k ∷ ks) = (l ++ k) ∷ ks

infront_none : (ls : List (List ℕ)) → infront [] ls ≡ ls
unfolding infront
infront_none [] = refl
infront_none (l ∷ ls) = refl

infront_byte : (l : List ℕ) (b : ℕ) (ls : List (List ℕ)) → infront (l ++ (b ∷ [])) ls ≡ infront l (before b ls)
unfolding infront before
infront_byte l b [] = rw (ne_eqb (length (l ++ (b ∷ []))) 0 (λ z. omega (arith, z, length-append l (b ∷ []))))
infront_byte l b (k ∷ ks) = ap (λ (x : List ℕ). x ∷ ks) (append_assoc l (b ∷ []) k)

with_infront : (l s : List ℕ) → lines_with l s ≡ infront l (lines_of s)
unfolding lines_with infront lines_of
with_infront l [] = refl
with_infront l (b ∷ s) = by (eqb b 10) (with_infront [] s) (with_infront (l ++ (b ∷ [])) s)
  where
    by : (t : Bool) → lines_with [] s ≡ infront [] (lines_of s) → lines_with (l ++ (b ∷ [])) s ≡ infront (l ++ (b ∷ [])) (lines_of s)
        → pick t (l ∷ lines_with [] s) (lines_with (l ++ (b ∷ [])) s) ≡ infront l (pick t ([] ∷ lines_of s) (before b (lines_of s)))
    by true h k = ap₂ (λ (x : List ℕ) (xs : List (List ℕ)). x ∷ xs) (sym (append-nil l)) (h ∙ infront_none (lines_of s))
    by false h k = k ∙ infront_byte l b (lines_of s)

module _ (w most : ℕ) where
  -- what lines print, and the rest lines after them
  abbrev pub left_lines : State → List (List ℕ) → List ℕ
  left_lines st ls = whole w most (lines_taken w most st ls)

  pub lines_more : (st : State) (l : List ℕ) (ls : List (List ℕ))
      → left_lines st (l ∷ ls) ≡ (after w most st l).text ++ left_lines (after w most st l).state ls
  unfolding lines_taken
  lines_more st l ls = append_assoc (after w most st l).text (lines_taken w most (after w most st l).state ls).text _

  -- what is still to be written, s still to come
  abbrev pub left_feeding : Flow → List ℕ → List ℕ
  left_feeding f s = left_lines f.state (lines_from f.held s)

  -- ---- a piece

  abbrev leaves : Flow → (s t : List ℕ) → Fed → Type 0
  leaves f s t r = left_feeding f (s ++ t) ≡ r.text ++ left_feeding r.flow (drop r.used s ++ t)

  a_byte : (b : ℕ) (s t text : List ℕ) (r : Fed)
      → text ++ (r.text ++ left_feeding r.flow (drop r.used s ++ t))
      ≡ (fed_after text 1 r).text ++ left_feeding (fed_after text 1 r).flow (drop (fed_after text 1 r).used (b ∷ s) ++ t)
  a_byte b s t text r =
      sym (append_assoc text r.text _)
      ∙ ap (λ (n : ℕ). (text ++ r.text) ++ left_feeding r.flow (drop n (b ∷ s) ++ t)) one
    where
      one : suc r.used ≡ 1 + r.used
      one = omega arith

  fed_front : (room : ℕ) (f : Flow) (s t : List ℕ) → leaves f s t (fed_in w most room f s)
  unfolding fed_in lines_from
  fed_front room f [] t = refl
  fed_front room f (b ∷ s) t =
      let line = after w most f.state f.held in
      let lines : Bool → List ℕ = λ x. left_lines f.state (pick x (f.held ∷ lines_from [] (s ++ t)) (lines_from (kept f.held b) (s ++ t))) in
      pick_if (leaves f (b ∷ s) t) (leb enough room)
      (λ _. pick_if (leaves f (b ∷ s) t) (eqb b 10)
      (λ e. ap lines e ∙ lines_more f.state f.held (lines_from [] (s ++ t))
      ∙ ap (λ (x : List ℕ). line.text ++ x) (fed_front (room - length line.text) (flow line.state []) s t)
      ∙ a_byte b s t line.text (fed_in w most (room - length line.text) (flow line.state []) s))
      (λ e. ap lines e ∙ fed_front room (flow f.state (kept f.held b)) s t
      ∙ a_byte b s t [] (fed_in w most room (flow f.state (kept f.held b)) s)))
      (λ _. refl)

  -- a piece of k bytes of those still to come
  pub fed_left : (room : ℕ) (f : Flow) (k : ℕ) (input : List ℕ)
      → left_feeding f input
      ≡ (fed_in w most room f (take k input)).text ++ left_feeding (fed_in w most room f (take k input)).flow (drop (fed_in w most room f (take k input)).used input)
  fed_left room f k input =
      let r = fed_in w most room f (take k input) in
      let parts : take k input ++ drop k input ≡ input = take-append-drop k input in
      ap (left_feeding f) (sym parts) ∙ fed_front room f (take k input) (drop k input)
      ∙ ap (λ (x : List ℕ). r.text ++ left_feeding r.flow x)
      (sym (drop-append-le r.used (take k input) (drop k input) (fed_used w most room f (take k input))) ∙ ap (drop r.used) parts)

  -- ---- the first byte

  after_kept : (st : State) (l : List ℕ) → after w most st (take 121 l) ≡ after w most st l
  unfolding next_of
  after_kept st l = ap (line_taken w most st.machine st.items (counted st.session)) (kept_read w l)

  taken_kept : (st : State) (l s : List ℕ) → lines_taken w most st (lines_from (take 121 l) s) ≡ lines_taken w most st (lines_with l s)
  unfolding lines_from lines_with lines_taken
  taken_kept st [] [] = refl
  taken_kept st (a ∷ l) [] =
      rw (ne_eqb (suc (length (take 120 l))) 0 (λ z. omega (arith, z)), ne_eqb (suc (length l)) 0 (λ z. omega (arith, z)))
      (ap (λ (x : Turn). onto x.text (lines_taken w most x.state [])) (after_kept st (a ∷ l)))
  taken_kept st l (b ∷ s) = by (eqb b 10) (taken_kept (after w most st l).state [] s) (taken_kept st (l ++ (b ∷ [])) s)
    where
      by : (t : Bool) → lines_taken w most (after w most st l).state (lines_from [] s) ≡ lines_taken w most (after w most st l).state (lines_with [] s)
          → lines_taken w most st (lines_from (take 121 (l ++ (b ∷ []))) s) ≡ lines_taken w most st (lines_with (l ++ (b ∷ [])) s)
          → lines_taken w most st (pick t (take 121 l ∷ lines_from [] s) (lines_from (kept (take 121 l) b) s))
          ≡ lines_taken w most st (pick t (l ∷ lines_with [] s) (lines_with (l ++ (b ∷ [])) s))
      by true h k =
          ap (λ (x : Turn). onto x.text (lines_taken w most x.state (lines_from [] s))) (after_kept st l)
          ∙ ap (onto (after w most st l).text) h
      by false h k = ap (λ (x : List ℕ). lines_taken w most st (lines_from x s)) (take_cut 121 l (b ∷ [])) ∙ k

  pub first_left : (st : State) (s : List ℕ) → left_feeding (flow st []) s ≡ left_lines st (lines_of s)
  first_left st s =
      ap (whole w most) (taken_kept st [] s)
      ∙ ap (left_lines st) (with_infront [] s ∙ infront_none (lines_of s))
