-- On the source: a booked token is read, the closing; what the landing does to source and destination. Only its holder moves the booking's
-- head on, so what the holder remembers of it is so still.
use mathlib.Core.Path.{◌≡◌, refl, sym, ap, ap₂, subst, ◌∙◌}
use mathlib.Core.Logic.{◌≢◌, inl, inr}
use mathlib.Core.Bool.{Bool, true, false}
use mathlib.Core.List.{List, [], ◌∷◌}
use Prim.Native.Nat.{ℕ, ◌+◌, ◌-◌, ◌%◌, ◌^◌, ◌<◌}
use native.Mathlib.Omega.{arith}
use lib.ListN.{take, get_or}
use lib.Seq.{drop-length}
use lib.Dec.{eqb}
use borrow.Author.Tests.{eqb-true, eqb-false, eq-eqb, ne_eqb}
use Rattle.std.specs.Prelude.{Some, None}
use Rattle.words.specs.Word.{pick, orb, plus, minus, packed, high}
use Rattle.tables.specs.declared.access.Seen.{Seen}
use Rattle.tables.specs.declared.answer.Change.TheVariants as Change
use Rattle.tables.specs.declared.call.Mark.{Mark}
use Rattle.tables.specs.declared.state.Drain.{Drain}
use Rattle.tables.specs.declared.state.Kind.{Kind}
use Rattle.tables.specs.declared.place.BookedTokens.{BookedTokens}
use Rattle.tables.specs.declared.place.ClosePlace.{ClosePlace}
use Rattle.tables.specs.declared.place.ClosingCall.{ClosingCall}
use Rattle.tables.specs.declared.place.MovePlace.TheVariants as MovePlace
use Rattle.tables.specs.declared.place.Place.TheVariants as Place
use Rattle.tables.specs.declared.place.Transfer.{Transfer}
use Rattle.tables.specs.Access.{Accessed, shows, saw_packed, with_packed, with_pushes, saw_token}
use Rattle.tables.specs.Table.{closing, answer_of, last_read, landing, move_row}
use Rattle.tables.specs.Tables.{closing_source, close_row}
use Rattle.tables.specs.Step.{is_weak}
use Rattle.tables.specs.Answer.{handed_out}
use Rattle.tables.specs.Lists.{party, Lists, leave, arrive, shut, can, in_front}
use Rattle.tables.specs.Shows.{by_drain}
use Rattle.agreement.proofs.Wrap.{small, plus_is, plus_exact, diff, pair, pair_of, high_is}
use Rattle.agreement.proofs.Ring.{cell, get_d_tokens}
use Rattle.agreement.proofs.Nums.{call, holder_of, Nums, head, more, moves, closes, joins_more, joins_move, joins_close, book_none}
use Rattle.agreement.proofs.Whole.{Whole, words_of, words_more, part_more, part_move, RO, RB, RH, slot_of}
use Rattle.agreement.proofs.Facts.{kept, Carries, LastIs, OwnM, Keeps, closing_who, BkC}
use Rattle.agreement.proofs.Steps.{Why, SrcNext}
use Rattle.agreement.proofs.OwnFill.{context_of}
use Rattle.agreement.proofs.OwnLifo.{swaps_true, not_kind, did}
use Rattle.agreement.proofs.Booked.{stays}

-- ---- a booked token is read

module _ (w p fm : ℕ) (items : List ℕ) (k : Kind) (d : Drain) (mark : Mark) {cap : ℕ} {s : List ℕ} {g : Nums} {l : Lists}
    (i : Whole w k cap s g l) (t : BookedTokens) (j : ℕ)
    (a : Keeps w (call p) items g l t) where
  token : j < t.count → get_or s (plus w t.from j % cap) 0 ≡ get_or items j 0
  unfolding cell
  token lt =
      rw (
        slot_of w k i (g.completed + g.taken + j) (plus_is w (g.completed + g.taken) j (a.from_is
            ∙ ap (λ (n : ℕ). n % 2 ^ w) (omega (arith, a.taken_is)))),
        ← a.book_is,
        i.joins.book_is,
      )
      (sym (get_d_tokens cap s (g.completed + g.taken) g.left j (omega (arith, a.left_is))))

  read_on : (h : Transfer) → t.transfer ≡ h → (b : Bool) → last_read w h t j ≡ b → (cap₂ : ℕ) (s₂ : List ℕ) (g₂ : Nums) → (j < t.count)
      → Carries w items cap₂ s₂ g₂ t j
      → OwnM w items cap₂ s₂ (pick b (MovePlace.Land t (get_or s (plus w t.from j % cap) 0))
      (MovePlace.WriteSlot t j (get_or s (plus w t.from j % cap) 0))) g₂
  read_on Transfer.Steal eh true e cap₂ s₂ g₂ lt c = absurd (let z : ◌≡◌ {A = ℕ} 0 1 = cc in omega arith)
  read_on Transfer.Steal eh false e cap₂ s₂ g₂ lt c = let z : kept t.transfer ≡ 0 = ap kept eh in (omega arith, token lt, c)
  read_on Transfer.Take eh true e cap₂ s₂ g₂ lt c =
      let z : kept t.transfer ≡ 1 = ap kept eh in
      let n : plus w j 1 ≡ t.count = eqb-true (plus w j 1) t.count e in
      let n₁ : plus w j 1 ≡ j + 1 = plus_exact w j 1 (omega (arith, c.few, a.left_is, i.joins.fits, i.cap_fits, i.cap_pos)) in (
        subst (λ (y : Transfer). LastIs y t.count (get_or s (plus w t.from j % cap) 0) items) (sym eh) (token lt
            ∙ ap (λ (m : ℕ). get_or items m 0) (omega arith)),
        subst (λ (m : ℕ). Carries w items cap₂ s₂ g₂ t m) (omega arith) c,
      )
  read_on Transfer.Take eh false e cap₂ s₂ g₂ lt c =
      let z : kept t.transfer ≡ 1 = ap kept eh in
      let n : plus w j 1 ≢ t.count = eqb-false (plus w j 1) t.count e in
      let n₁ : plus w j 1 ≡ j + 1 = plus_exact w j 1 (omega (arith, c.few, a.left_is, i.joins.fits, i.cap_fits, i.cap_pos)) in
      (omega arith, token lt, c)

  pub read_step : (kind from : Kind) (cap₂ : ℕ)
      → SrcNext w p t.source fm (call p) items k cap s g l d (Place.Move (MovePlace.ReadSlot t j)) mark
      (did w k cap s g (move_row w (context_of kind cap₂ from d mark) (MovePlace.ReadSlot t j)) mark)
      ((move_row w (context_of kind cap₂ from d mark) (MovePlace.ReadSlot t j)).after
      (did w k cap s g (move_row w (context_of kind cap₂ from d mark) (MovePlace.ReadSlot t j)) mark).seen)
  read_step kind from cap₂ = go (last_read w t.transfer t j) refl
    where
      go : (b : Bool) → last_read w t.transfer t j ≡ b
          → SrcNext w p t.source fm (call p) items k cap s g l d (Place.Move (MovePlace.ReadSlot t j)) mark
          (shows (words_of w k cap g) s (saw_token (get_or s (plus w t.from j % cap) 0)))
          (record {
            place = Place.Move (pick b (MovePlace.Land t (get_or s (plus w t.from j % cap) 0))
                (MovePlace.WriteSlot t j (get_or s (plus w t.from j % cap) 0)));
            drain = d;
            answer = None;
            change = None;
          })
      go true e = stays w p t.source fm (call p) items k d mark i _ _ None _ a (inr refl)
          (λ fill hand k₂ cap₂ s₂ g₂ l₂ o. (
            refl,
            record {
              wait_is = o.wait_is;
              hand_is = o.hand_is;
              at = read_on t.transfer refl true e cap₂ s₂ g₂ o.at.0 o.at.1;
            },
          )) (λ z h. h) (λ _. tt) tt
      go false e = stays w p t.source fm (call p) items k d mark i _ _ None _ a (inr refl)
          (λ fill hand k₂ cap₂ s₂ g₂ l₂ o. (
            refl,
            record {
              wait_is = o.wait_is;
              hand_is = o.hand_is;
              at = read_on t.transfer refl false e cap₂ s₂ g₂ o.at.0 o.at.1;
            },
          )) (λ z h. h) (λ _. tt) tt

-- ---- the closing

in_front_lem : (ts : List ℕ) → in_front ts ts ≡ true
in_front_lem [] = refl
in_front_lem (t ∷ ts) = eq-eqb t t refl

why_end : (f n b m : Type 0) (e : ClosingCall) → Why f n b m (Some (answer_of e))
why_end f n b m (ClosingCall.Steal s c) = tt
why_end f n b m (ClosingCall.Take s t c) = tt
why_end f n b m (ClosingCall.Next t) = tt
why_end f n b m ClosingCall.Drop = tt

pub closing_mine : (p : ℕ) (e : ClosingCall) → holder_of (closing_who p e) ≡ party p
closing_mine p (ClosingCall.Steal s c) = refl
closing_mine p (ClosingCall.Take s t c) = refl
closing_mine p (ClosingCall.Next t) = refl
closing_mine p ClosingCall.Drop = refl

orb_other : (a b : Bool) → a ≡ false → orb a b ≡ true → b ≡ true
orb_other true b e h = absurd (let z : ◌≡◌ {A = ℕ} 0 1 = cc in omega arith)
orb_other false b e h = h

module _ (w p fm : ℕ) (items : List ℕ) (k : Kind) (d : Drain) (mark : Mark) {cap : ℕ} {s : List ℕ} {g : Nums} {l : Lists}
    (i : Whole w k cap s g l) (e : ClosingCall) where
  closed_on : (c : ClosePlace) (o : Accessed) → g.who ≡ closing_who p e → g.left ≡ 0 → o.queue ≡ words_of w k cap (closes g) → o.slots ≡ s
      → Whole w k cap s (closes g) (shut l)
      → SrcNext w p (closing_source p e) fm (closing_who p e) items k cap s g l d (Place.Close e c) mark o
      (record { place = Place.Idle; drain = d; answer = Some (answer_of e); change = Some Change.Closed })
  unfolding closes shut can
  closed_on c o ew el eq es ok = record {
    g' = closes g;
    q_is = eq;
    slots_s = es;
    ok = ok;
    bkr = tt;
    src_s = inl refl;
    dst = λ fill hand k₂ cap₂ s₂ g₂ l₂ x. (
      rw x.hand_is (in_front_lem (handed_out (answer_of e))),
      record {
        wait_is = x.wait_is;
        hand_is = rw x.hand_is (drop-length (handed_out (answer_of e)));
        at = tt;
      },
    );
    hand_s = λ h. refl;
    drn = λ f ne. absurd (let a = f ne in ne (a.at_is ∙ ap (λ (n : ℕ). n % 2 ^ w) (omega arith) ∙ sym a.end_is));
    drn_off = λ _. refl;
    ro = record {
      slots_s = refl;
      wait_s = refl;
      pushed_s = refl;
      pops_s = refl;
      tail_s = omega arith;
      done_up = omega arith;
      head_up = omega arith;
    };
    rb = omega arith;
    rh = λ r _ rm ew₂. absurd (rm (sym ew₂ ∙ ew));
    who_new = λ r rn _ ew₂. absurd (rn (sym ew₂));
    claim_x = λ _ h. absurd (let z : ◌≡◌ {A = ℕ} 0 1 = cc in omega arith);
    claim_y = λ y ne h. orb_other (eqb (closing_source p e) y) (by_drain w p d y).holds (ne_eqb (closing_source p e) y (λ z. ne (sym z))) h;
    moved_s = omega arith;
    still = λ _. refl;
    still_n = λ _. tt;
    single = refl;
    can_s = rw (i.joins.holder_is, ew, closing_mine p e, book_none cap i.cap_pos i.joins el, eq-eqb p p refl) refl;
    why = why_end _ _ _ _ e;
  }

  -- a closing that goes on
  shuts_on : (c c' : ClosePlace) (y : Seen) → BkC w (closing_who p e) c' k g
      → SrcNext w p (closing_source p e) fm (closing_who p e) items k cap s g l d (Place.Close e c) mark (shows (words_of w k cap g) s y)
      (record { place = Place.Close e c'; drain = d; answer = None; change = None })
  shuts_on c c' y f =
      stays w p (closing_source p e) fm (closing_who p e) items k d mark i _ _ None y f (inr refl)
      (λ fill hand k₂ cap₂ s₂ g₂ l₂ o. (refl, record { wait_is = o.wait_is; hand_is = o.hand_is; at = tt })) (λ z h. h) (λ _. tt) tt

pub close_step : (w p fm : ℕ) (items : List ℕ) (d : Drain) (mark : Mark) (kind from : Kind) (cap₂ : ℕ) (e : ClosingCall) (c : ClosePlace)
    (k : Kind) {cap : ℕ} {s : List ℕ} {g : Nums} {l : Lists}
    → Whole w k cap s g l → BkC w (closing_who p e) c k g
    → SrcNext w p (closing_source p e) fm (closing_who p e) items k cap s g l d (Place.Close e c) mark
    (did w k cap s g (close_row w (context_of kind cap₂ from d mark) e c) mark)
    ((close_row w (context_of kind cap₂ from d mark) e c).after (did w k cap s g (close_row w (context_of kind cap₂ from d mark) e c) mark).seen)
unfolding closes
close_step w p fm items d mark kind from cap₂ e (ClosePlace.StoreCompleted h) Kind.Fifo i a = absurd (not_kind a.0)
close_step w p fm items d mark kind from cap₂ e (ClosePlace.StoreCompleted h) Kind.Lifo {cap} {g = g} i a =
    closed_on w p fm items Kind.Lifo d mark i e (ClosePlace.StoreCompleted h) _ a.1 a.2
    (ap₂ (λ (u v : ℕ). record { kind = Kind.Lifo; capacity = cap; pushes = g.pushed % 2 ^ w; packed = pair w g.pops u; completed = v })
    (omega arith) (a.3 ∙ ap (λ (n : ℕ). n % 2 ^ w) (omega (arith, i.part.gone_no)))) refl
    (record {
      joins = joins_close cap i.cap_pos i.joins a.2;
      cap_pos = i.cap_pos;
      cap_fits = i.cap_fits;
      cap_pow = i.cap_pow;
      free = λ _. refl;
      shut = λ _. refl;
      part = record { pushed_is = omega (arith, i.part.pushed_is); gone_no = refl; moved_is = omega (arith, i.part.moved_is) };
    })
close_step w p fm items d mark kind from cap₂ e ClosePlace.LoadHeads Kind.Lifo i a = absurd (not_kind (sym a.0))
close_step w p fm items d mark kind from cap₂ e ClosePlace.LoadHeads Kind.Fifo i a = shuts_on w p fm items Kind.Fifo d mark i e ClosePlace.LoadHeads _ _
    (refl, a.1, a.2)
close_step w p fm items d mark kind from cap₂ e (ClosePlace.CasHeads q) Kind.Lifo i a = absurd (not_kind (sym a.0))
close_step w p fm items d mark kind from cap₂ e (ClosePlace.CasHeads q) Kind.Fifo {cap} {s} {g} {l} i a = go _
    (λ e. eqb-true _ _ (swaps_true (is_weak mark) _ e))
  where
    go : (t : Bool) → (t ≡ true → pair w (head g) g.completed ≡ q)
        → SrcNext w p (closing_source p e) fm (closing_who p e) items Kind.Fifo cap s g l d (Place.Close e (ClosePlace.CasHeads q)) mark
        (pick t (shows (with_packed (words_of w Kind.Fifo cap g) (packed w (high w q) (high w q))) s (saw_packed (pair w (head g) g.completed) true))
        (shows (words_of w Kind.Fifo cap g) s (saw_packed (pair w (head g) g.completed) false)))
        ((close_row w (context_of kind cap₂ from d mark) e (ClosePlace.CasHeads q)).after
        (pick t (shows (with_packed (words_of w Kind.Fifo cap g) (packed w (high w q) (high w q))) s (saw_packed (pair w (head g) g.completed) true))
        (shows (words_of w Kind.Fifo cap g) s (saw_packed (pair w (head g) g.completed) false))).seen)
    go true eq =
        let h : high w q ≡ head g % 2 ^ w = high_is w (head g) g.completed (sym (eq refl)) in
        closed_on w p fm items Kind.Fifo d mark i e (ClosePlace.CasHeads q) _ a.1 a.2
        (ap (with_packed (words_of w Kind.Fifo cap g)) (pair_of w (head (closes g)) (head g) (h ∙ ap (λ (n : ℕ). n % 2 ^ w) (omega arith)) h)) refl
        (record {
          joins = joins_close cap i.cap_pos i.joins a.2;
          cap_pos = i.cap_pos;
          cap_fits = i.cap_fits;
          cap_pow = i.cap_pow;
          free = λ _. refl;
          shut = λ _. refl;
          part = record { pushed_is = omega (arith, i.part.pushed_is); gone_no = λ _. refl; moved_is = omega (arith, i.part.moved_is) };
        })
    go false eq = shuts_on w p fm items Kind.Fifo d mark i e (ClosePlace.CasHeads q) _ _ (refl, a.1, a.2)

-- ---- the landing

module _ (w : ℕ) (k : Kind) {cap : ℕ} {s : List ℕ} {g : Nums} {l : Lists} (i : Whole w k cap s g l) where
  -- the booked tokens leave the source
  pub leaving : (p : ℕ) (items : List ℕ) (t : BookedTokens) → Keeps w (call p) items g l t
      → Whole w k cap s (moves t.count g) (leave t.count l) × BkC w (call p) (closing k (plus w t.from t.count)) k
      (moves t.count g)
      × RO s g l s (moves t.count g) (leave t.count l) × RB g (moves t.count g)
  unfolding moves leave
  leaving p items t a = (
    record {
      joins = joins_move cap i.cap_pos i.joins t.count (omega (arith, a.left_is));
      cap_pos = i.cap_pos;
      cap_fits = i.cap_fits;
      cap_pow = i.cap_pow;
      free = λ z. absurd (omega (arith, a.some));
      shut = λ z. absurd (let y : ◌≡◌ {A = ℕ} 0 1 = cc a.who_is in omega arith);
      part = part_move k g t.count (omega (arith, a.left_is)) a.some i.part;
    },
    shuts k,
    record {
      slots_s = refl;
      wait_s = refl;
      pushed_s = refl;
      pops_s = refl;
      tail_s = omega (arith, a.left_is);
      done_up = omega arith;
      head_up = omega (arith, a.left_is);
    },
    omega (arith, a.left_is),
  )
    where
      shuts : (k₂ : Kind) → BkC w (call p) (closing k₂ (plus w t.from t.count)) k₂ (moves t.count g)
      shuts Kind.Lifo = (
        refl,
        a.who_is,
        omega (arith, a.left_is),
        plus_is w g.completed t.count a.from_is
            ∙ ap (λ (n : ℕ). n % 2 ^ w) (omega (arith, a.left_is, a.taken_is)),
      )
      shuts Kind.Fifo = (refl, a.who_is, omega (arith, a.left_is))

  pub landing_is : (h : Transfer) (t : BookedTokens) → 0 < t.count → t.count < 2 ^ w → landing w h t ≡ t.count - kept h
  landing_is Transfer.Steal t some few = omega arith
  landing_is Transfer.Take t some few = let e : minus w t.count 1 + 1 ≡ t.count = diff w t.count 1 (small w few) (small w (omega arith))
      some (omega arith) in omega arith

  -- the tokens that stand past the tail are let in
  pub letting : (items : List ℕ) (t : BookedTokens) → (m : ℕ) → m ≡ t.count - kept t.transfer → Carries w items cap s g t m
      → Whole w k cap s (more m g) (arrive (take m items) l) × RB g (more m g) × RH g l (more m g) (arrive (take m items) l) ×
      (with_pushes (words_of w k cap g) (plus w t.word m) ≡ words_of w k cap (more m g))
  unfolding more arrive
  letting items t m em c = (
    record {
      joins = joins_more cap i.cap_pos i.joins m (take m items) (sym c.stand) (omega (arith, c.into.room_is));
      cap_pos = i.cap_pos;
      cap_fits = i.cap_fits;
      cap_pow = i.cap_pow;
      free = i.free;
      shut = i.shut;
      part = part_more k g m i.part;
    },
    omega arith,
    record { who_s = refl; done_s = refl; taken_s = refl; left_s = refl; book_s = refl },
    words_more w k cap m (plus w t.word m) g (plus_is w g.pushed m c.into.word_is),
  )
