-- The landing: it changes the lists of the source and of the destination, framed one after the other: booked tokens leave the one, and the
-- same tokens, which stand past the tail of the other, are let in there.
use mathlib.Core.Path.{◌≡◌, refl, sym, ap, ap₂, subst, ◌∙◌}
use mathlib.Core.Logic.{◌≢◌, inr}
use mathlib.Core.Bool.{true}
use mathlib.Core.List.{List, [], ◌∷◌, ◌++◌}
use Prim.Native.Nat.{ℕ, ◌+◌, ◌-◌, ◌^◌, ◌<◌}
use native.Mathlib.Omega.{arith}
use lib.ListN.{length, take, get_or}
use lib.Dec.{eqb}
use borrow.Author.Tests.{eq-eqb, lt-ltb, le-leb}
use Rattle.std.specs.Prelude.{Some, None}
use Rattle.words.specs.Word.{orb, plus, minus}
use Rattle.tables.specs.declared.call.Mark.{Mark}
use Rattle.tables.specs.declared.state.Kind.{Kind}
use Rattle.tables.specs.declared.state.Queue.{Queue}
use Rattle.tables.specs.declared.place.BookedTokens.{BookedTokens}
use Rattle.tables.specs.declared.place.MovePlace.TheVariants as MovePlace
use Rattle.tables.specs.declared.place.Place.{Place}
use Rattle.tables.specs.declared.place.Transfer.{Transfer}
use Rattle.tables.specs.Access.{Accessed, with_pushes}
use Rattle.tables.specs.Table.{closing, answer_of, landing, landed, ending}
use Rattle.tables.specs.Tables.{source_of, closing_source}
use Rattle.tables.specs.Answer.{handed_out}
use Rattle.tables.specs.Lists.{party, Lists, Plain, update, leave, arrive, does, can}
use Rattle.tables.specs.Effect.{moves_of}
use Rattle.agreement.proofs.Nums.{Who, call, drain, holder_of, tail, more, moves, book_length}
use Rattle.agreement.proofs.Whole.{Whole, words_of, words_move, RO, RB, RH}
use Rattle.tables.proofs.Updates.{update_elim, update_same}
use Rattle.agreement.proofs.Frame.{column, column_over, column_s, after, frame}
use Rattle.tables.specs.Shows.{by_drain}
use Rattle.agreement.proofs.Wrap.{small, diff}
use Rattle.agreement.proofs.Ring.{tokens_zero}
use Rattle.agreement.proofs.Facts.{kept, LastIs, Keeps, closing_who, BkC, OwnF, BkF, held}
use Rattle.agreement.proofs.Stable.{own_stable, bkr_stable, drn_stable}
use Rattle.agreement.proofs.Steps.{handed}
use Rattle.agreement.proofs.Cells.{Cell, Member, Ok, src, Own, Bkr, Drn, Claim, MInv, words, plain_of, named_queue, Ran}
use Rattle.agreement.proofs.Close.{leaving, landing_is, letting}

-- ---- a steal's landing and a take's, alike

module _ (w : ℕ) (t : BookedTokens) (some : 0 < t.count) (few : t.count < 2 ^ w) where
  one_less : minus w t.count 1 + 1 ≡ t.count
  one_less = diff w t.count 1 (small w few) (small w (omega arith)) some (omega arith)

  land_at : (h : Transfer) (x y : ℕ) → named_queue (Some (landed w h t)) x y ≡ y
  land_at Transfer.Steal x y = refl
  land_at Transfer.Take x y = refl

  land_moved : (h : Transfer) → moves_of (landed w h t) ≡ 0
  land_moved Transfer.Steal = refl
  land_moved Transfer.Take = refl

  land_source : (h : Transfer) (p last : ℕ) → closing_source p (ending w h t last) ≡ t.source
  land_source Transfer.Steal p last = refl
  land_source Transfer.Take p last = refl

  land_who : (h : Transfer) (p last : ℕ) → closing_who p (ending w h t last) ≡ call p
  land_who Transfer.Steal p last = refl
  land_who Transfer.Take p last = refl

  land_can : (h : Transfer) (p y : ℕ) (l : Lists) → l.holder ≡ party p → length l.booked ≡ t.count → can p y (landed w h t) l ≡ true
  unfolding can
  land_can Transfer.Steal p y l eh el = rw (eh, eq-eqb p p refl, le-leb t.count (length l.booked) (omega arith)) refl
  land_can Transfer.Take p y l eh el = rw (eh, eq-eqb p p refl, lt-ltb (minus w t.count 1) (length l.booked) (omega (arith, one_less))) refl

  land_hand : (h : Transfer) (k : Kind) (l : Lists) (items hand : List ℕ) (last : ℕ) → hand ≡ [] → l.booked ≡ items
      → LastIs h t.count last items
      → handed k (Some (landed w h t)) l hand ≡ handed_out (answer_of (ending w h t last))
  land_hand Transfer.Steal k l items hand last eh eb el = eh
  land_hand Transfer.Take k l items hand last eh eb el =
      ap₂ (λ (x : List ℕ) (v : ℕ). x ++ (v ∷ [])) eh (ap₂ (λ (b : List ℕ) (m : ℕ). get_or b m 0) eb (let z = one_less in omega arith)
      ∙ sym el)

  land_queue : (h : Transfer) (ks : ℕ → Kind) (p y : ℕ) (a : Plain) (z : ℕ)
      → (does ks p y (landed w h t) a).queue z
      ≡ update (update a.queue y (leave t.count (a.queue y))) p
      (arrive (take (t.count - kept h) (a.queue y).booked) (update a.queue y (leave t.count (a.queue y)) p)) z
  unfolding does
  land_queue Transfer.Steal ks p y a z =
      let e : t.count ≡ t.count - 0 = omega arith in
      ap (λ (m : ℕ). update (update a.queue y (leave t.count (a.queue y))) p
      (arrive (take m (a.queue y).booked) (update a.queue y (leave t.count (a.queue y)) p)) z) e
  land_queue Transfer.Take ks p y a z =
      let e : minus w t.count 1 ≡ t.count - 1 = (let f = one_less in omega arith) in
      ap₂ (λ (m n : ℕ). update (update a.queue y (leave n (a.queue y))) p
      (arrive (take m (a.queue y).booked) (update a.queue y (leave n (a.queue y)) p)) z) e one_less

module _ (w n : ℕ) {cells : ℕ → Cell} {members : ℕ → Member} (inv : MInv w n cells members) (p : ℕ) (t : BookedTokens) (last : ℕ) (mark : Mark)
    (e₁ : (members p).pl ≡ Place.Move (MovePlace.Land t last)) (e₂ : (members p).bl ≡ Place.Move (MovePlace.Land t last)) where
  o_facts : OwnF w (members p).fill (members p).items (members p).hand (Place.Move (MovePlace.Land t last)) (cells p).kind (cells p).cap
      (cells p).s (cells p).g (cells p).l
  o_facts = subst (λ (z : Place). OwnF w (members p).fill (members p).items (members p).hand z (cells p).kind (cells p).cap
      (cells p).s (cells p).g (cells p).l) e₁ (inv.own p)

  b_facts : Keeps w (call p) (members p).items (cells t.source).g (cells t.source).l t
  b_facts = subst (λ (z : Place). BkF w p (members p).fm (members p).items z (cells (source_of p z)).kind (cells (source_of p z)).g
      (cells (source_of p z)).l) e₂ (inv.bkr p)

  some : 0 < t.count
  some = b_facts.some

  few : t.count < 2 ^ w
  few = o_facts.at.1.few

  place : Place
  place = Place.Close (ending w t.transfer t last) (closing (cells t.source).kind (plus w t.from t.count))

  left : Whole w (cells t.source).kind (cells t.source).cap (cells t.source).s (moves t.count (cells t.source).g)
      (leave t.count (cells t.source).l)
      × BkC w (call p) (closing (cells t.source).kind (plus w t.from t.count)) (cells t.source).kind
      (moves t.count (cells t.source).g)
      × RO (cells t.source).s (cells t.source).g (cells t.source).l (cells t.source).s
      (moves t.count (cells t.source).g) (leave t.count (cells t.source).l)
      × RB (cells t.source).g (moves t.count (cells t.source).g)
  left = leaving w (cells t.source).kind (inv.ok t.source) p (members p).items t b_facts

  c₁ : Cell
  c₁ = record {
    kind = (cells t.source).kind;
    cap = (cells t.source).cap;
    s = (cells t.source).s;
    g = moves t.count (cells t.source).g;
    l = leave t.count (cells t.source).l;
  }

  m₁ : Member
  m₁ = record {
    pl = (members p).pl;
    bl = place;
    drain = (members p).drain;
    hand = (members p).hand;
    items = (members p).items;
    fm = (members p).fm;
    fill = (members p).fill;
  }

  -- nobody but p holds the source
  rh_no : (r : Who) → r ≢ call p → (cells t.source).g.who ≡ r → RH (cells t.source).g (cells t.source).l c₁.g c₁.l
  rh_no r ne e = absurd (ne (sym e ∙ b_facts.who_is))

  source_s : source_of p place ≡ t.source
  unfolding place
  source_s = land_source w t some few t.transfer p last

  bkr₁ : BkF w p (members p).fm (members p).items place c₁.kind c₁.g c₁.l
  unfolding place c₁
  bkr₁ = subst (λ (z : Who). BkC w z (closing (cells t.source).kind (plus w t.from t.count)) (cells t.source).kind
      (moves t.count (cells t.source).g)) (sym (land_who w t some few t.transfer p last)) left.1

  held₁ : (z : ℕ) → held w p (members p).bl (members p).drain z ≡ true → held w p place (members p).drain z ≡ true
  unfolding place
  held₁ z h =
      subst (λ (q : ℕ). orb (eqb q z) (by_drain w p (members p).drain z).holds ≡ true) (sym (land_source w t some few t.transfer p last))
      (subst (λ (q : Place). held w p q (members p).drain z ≡ true) e₂ h)

  -- first the source
  inv₁ : MInv w n (update cells t.source c₁) (update members p m₁)
  unfolding c₁ m₁ moves
  inv₁ =
      frame Cell Member (Ok w n) (src w n) (Own w n) (Bkr w n) (Drn w n) (Claim w n) inv p t.source m₁ c₁ left.0
      (after Cell Member (Ok w n) (src w n) (Own w n) (Bkr w n) (Drn w n) (Claim w n) inv p t.source m₁ c₁ (Own w n (members p)) p
      (λ _ a. own_stable w (members p).fill left.2 (members p).items (members p).hand (members p).pl (cells t.source).kind
      (cells t.source).cap a) (inv.own p))
      (subst (λ (c : Cell). BkF w p (members p).fm (members p).items place c.kind c.g c.l)
      (sym (ap (update cells t.source c₁) source_s ∙ update_same cells t.source c₁)) bkr₁)
      (after Cell Member (Ok w n) (src w n) (Own w n) (Bkr w n) (Drn w n) (Claim w n) inv p t.source m₁ c₁ (Drn w n p (members p)) p
      (λ _ b. drn_stable w p (members p).drain (rh_no (drain p) (λ e. let z : ◌≡◌ {A = ℕ} 0 1 = cc in omega arith)) b) (inv.drn p))
      (λ z. update_elim cells t.source c₁ (Claim w n p z m₁) z
      (λ e h. claims z (subst (λ (q : ℕ). holder_of (cells q).g.who ≡ party p) (sym e) h)) (λ _ h. claims z h))
      (λ r ne e a. own_stable w (members r).fill left.2 (members r).items (members r).hand (members r).pl (cells t.source).kind
      (cells t.source).cap a)
      (λ r ne b. bkr_stable w r (members r).fm left.3 (members r).items (rh_no (call r) (λ e. ne (cc)))
      (rh_no (drain r) (λ e. let z : ◌≡◌ {A = ℕ} 0 1 = cc in omega arith)) (members r).bl (cells t.source).kind b)
      (λ r ne b. drn_stable w r (members r).drain (rh_no (drain r) (λ e. let z : ◌≡◌ {A = ℕ} 0 1 = cc in omega arith)) b)
      (λ r ne f h. f h)
    where
      claims : (z : ℕ) → holder_of (cells z).g.who ≡ party p → (p < n) × (held w p place (members p).drain z ≡ true)
      claims z h = let c = inv.claim p z h in (c.0, held₁ z c.1)

  -- then the destination

  cells₁ : ℕ → Cell
  cells₁ = update cells t.source c₁

  members₁ : ℕ → Member
  members₁ = update members p m₁

  m₁_is : members₁ p ≡ m₁
  unfolding members₁
  m₁_is = update_same members p m₁

  o₁ : OwnF w (members p).fill (members p).items (members p).hand (Place.Move (MovePlace.Land t last)) (cells₁ p).kind (cells₁ p).cap
      (cells₁ p).s (cells₁ p).g (cells₁ p).l
  unfolding cells₁ members₁ m₁
  o₁ =
      subst (λ (z : Place). OwnF w (members p).fill (members p).items (members p).hand z (cells₁ p).kind (cells₁ p).cap (cells₁ p).s
      (cells₁ p).g (cells₁ p).l) e₁
      (subst (λ (z : Member). Own w n z (cells₁ p)) m₁_is (inv₁.own p))

  in₂ : Whole w (cells₁ p).kind (cells₁ p).cap (cells₁ p).s (more (t.count - kept t.transfer) (cells₁ p).g)
      (arrive (take (t.count - kept t.transfer) (members p).items) (cells₁ p).l)
      × RB (cells₁ p).g (more (t.count - kept t.transfer) (cells₁ p).g)
      × RH (cells₁ p).g (cells₁ p).l (more (t.count - kept t.transfer) (cells₁ p).g)
      (arrive (take (t.count - kept t.transfer) (members p).items) (cells₁ p).l)
      × (with_pushes (words w (cells₁ p)) (plus w t.word (t.count - kept t.transfer)) ≡ words_of w (cells₁ p).kind (cells₁ p).cap
      (more (t.count - kept t.transfer) (cells₁ p).g))
  unfolding cells₁
  in₂ = letting w (cells₁ p).kind (inv₁.ok p) (members p).items t (t.count - kept t.transfer) refl o₁.at.1

  c₂ : Cell
  c₂ = record {
    kind = (cells₁ p).kind;
    cap = (cells₁ p).cap;
    s = (cells₁ p).s;
    g = more (t.count - kept t.transfer) (cells₁ p).g;
    l = arrive (take (t.count - kept t.transfer) (members p).items) (cells₁ p).l;
  }

  hand₂ : List ℕ
  hand₂ = handed (cells t.source).kind (Some (landed w t.transfer t)) (cells t.source).l (members p).hand

  m₂ : Member
  m₂ = record {
    pl = place;
    bl = place;
    drain = (members p).drain;
    hand = hand₂;
    items = (members p).items;
    fm = (members p).fm;
    fill = (members p).fill;
  }

  own₂ : Own w n m₂ c₂
  unfolding c₂ m₂ hand₂ place more arrive
  own₂ = record {
    wait_is = o₁.wait_is ∙ tokens_zero (cells₁ p).cap (cells₁ p).s (tail (cells₁ p).g)
        ∙ sym (tokens_zero (cells₁ p).cap (cells₁ p).s (tail (more (t.count - kept t.transfer) (cells₁ p).g)));
    hand_is = land_hand w t some few t.transfer (cells t.source).kind (cells t.source).l (members p).items (members p).hand last
        o_facts.hand_is b_facts.book_is o_facts.at.0;
    at = tt;
  }

  inv₂ : MInv w n (update cells₁ p c₂) (update members₁ p m₂)
  unfolding c₂ m₂ m₁ cells₁ members₁ more
  inv₂ =
      frame Cell Member (Ok w n) (src w n) (Own w n) (Bkr w n) (Drn w n) (Claim w n) inv₁ p p m₂ c₂ in₂.0
      (subst (Own w n m₂) (sym (update_same cells₁ p c₂)) own₂)
      (after Cell Member (Ok w n) (src w n) (Own w n) (Bkr w n) (Drn w n) (Claim w n) inv₁ p p m₂ c₂ (Bkr w n p m₂) (source_of p place)
      (λ _ b. bkr_stable w p (members p).fm in₂.1 (members p).items (λ _. in₂.2) (λ _. in₂.2) place (cells₁ p).kind b)
      (subst (λ (z : Member). Bkr w n p z (cells₁ (src w n p z))) m₁_is (inv₁.bkr p)))
      (subst (Drn w n p m₂) (sym (update_same cells₁ p c₂)) (drn_stable w p (members p).drain (λ _. in₂.2)
      (subst (λ (z : Member). Drn w n p z (cells₁ p)) m₁_is (inv₁.drn p))))
      (λ z. update_elim cells₁ p c₂ (Claim w n p z m₂) z
      (λ e h. claims z (subst (λ (q : ℕ). holder_of (cells₁ q).g.who ≡ party p) (sym e) h)) (λ _ h. claims z h))
      (λ r ne e. absurd (ne e))
      (λ r ne b. bkr_stable w r (members₁ r).fm in₂.1 (members₁ r).items (λ _. in₂.2)
      (λ _. in₂.2) (members₁ r).bl (cells₁ p).kind b)
      (λ r ne b. drn_stable w r (members₁ r).drain (λ _. in₂.2) b)
      (λ r ne f h. f h)
    where
      claims : (z : ℕ) → holder_of (cells₁ z).g.who ≡ party p → (p < n) × (held w p place (members p).drain z ≡ true)
      claims z h = subst (λ (q : Member). Claim w n p z q (cells₁ z)) m₁_is (inv₁.claim p z) h

  -- the landing's step
  pub land_go : (o : Accessed) → o.queue ≡ with_pushes (words w (cells p)) (plus w t.word (landing w t.transfer t)) → o.slots ≡ (cells p).s
      → Ran w n cells members p (Place.Move (MovePlace.Land t last)) mark p o
      (record {
        place = Place.Close (ending w t.transfer t last) (closing (cells t.source).kind (plus w t.from t.count));
        drain = (members p).drain;
        answer = None;
        change = Some (landed w t.transfer t);
      })
  unfolding cells₁ members₁ c₁ m₁ c₂ m₂ hand₂ place moves more
  land_go o eq es =
      let q : named_queue (Some (landed w t.transfer t)) p t.source ≡ t.source = land_at w t some few t.transfer p t.source in
      let ew : (j : ℕ) → words w (cells₁ j) ≡ words w (cells j) =
      column_s (λ (c : Cell). words w c) cells t.source c₁ (sym
      (words_move w (cells t.source).kind (cells t.source).cap t.count (cells t.source).g
      (omega (arith, b_facts.left_is)))) in
      let ls : (j : ℕ) → (cells₁ j).l ≡ update (λ (z : ℕ). (cells z).l) t.source (leave t.count (cells t.source).l) j =
      column (λ (c : Cell). c.l) cells (λ (z : ℕ). (cells z).l) (λ _. refl) t.source c₁ (leave t.count (cells t.source).l) refl in
      let em : (j : ℕ) → (cells₁ j).g.moved ≡ (cells j).g.moved = column_s (λ (c : Cell). c.g.moved) cells t.source c₁ refl in
      let em₂ : (j : ℕ) → (update cells₁ p c₂ j).g.moved ≡ (cells j).g.moved = λ j. column_s
      (λ (c : Cell). c.g.moved) cells₁ p c₂ refl j ∙ em j in
      let ep₂ : (j : ℕ) → (update cells₁ p c₂ j).g.pops ≡ (cells j).g.pops = λ j. column_s (λ (c : Cell). c.g.pops) cells₁ p c₂ refl j
      ∙ column_s (λ (c : Cell). c.g.pops) cells t.source c₁ refl j in
      record {
        cells' = update cells₁ p c₂;
        members' = update members₁ p m₂;
        inv = inv₂;
        words_are =
            column (λ (c : Cell). words w c) cells₁ (λ (z : ℕ). words w (cells z)) ew p c₂ o.queue
            (sym in₂.3 ∙ ap₂ (λ (u : Queue) (v : ℕ). with_pushes u (plus w t.word v)) (ew p)
            (sym (landing_is w (cells p).kind (inv.ok p) t.transfer t some few)) ∙ sym eq);
        slots_are =
            column (λ (c : Cell). c.s) cells₁ (λ (z : ℕ). (cells z).s) (column_s (λ (c : Cell). c.s) cells t.source c₁ refl) p c₂
            o.slots
            (column_s (λ (c : Cell). c.s) cells t.source c₁ refl p ∙ sym es);
        pl_are = column_over (λ (u : Member). u.pl) members p m₁ m₂ place refl;
        bl_are = column_over (λ (u : Member). u.bl) members p m₁ m₂ place refl;
        drain_are = column_over (λ (u : Member). u.drain) members p m₁ m₂ (members p).drain refl;
        fm_are = column_over (λ (u : Member). u.fm) members p m₁ m₂ (members p).fm refl;
        fill_are = column_over (λ (u : Member). u.fill) members p m₁ m₂ (members p).fill refl;
        hand_are =
            column_over (λ (u : Member). u.hand) members p m₁ m₂
            (handed (cells (named_queue (Some (landed w t.transfer t)) p t.source)).kind (Some (landed w t.transfer t))
            (cells (named_queue (Some (landed w t.transfer t)) p t.source)).l (members p).hand)
            (ap (λ (z : ℕ). handed (cells z).kind (Some (landed w t.transfer t)) (cells z).l (members p).hand) (sym q));
        fair = refl;
        can_s =
            subst (λ (z : ℕ). can p z (landed w t.transfer t) (cells z).l ≡ true) (sym q)
            (land_can w t some few t.transfer p t.source (cells t.source).l ((inv.ok t.source).joins.holder_is
            ∙ ap holder_of b_facts.who_is)
            (book_length (cells t.source).cap (inv.ok t.source).cap_pos (inv.ok t.source).joins ∙ b_facts.left_is));
        ls_are =
            λ ks out gone ek z.
            subst (λ (x : ℕ). (does ks p x (landed w t.transfer t) (plain_of cells members out gone)).queue z ≡ (update cells₁ p c₂ z).l)
            (sym q)
            (land_queue w t some few t.transfer ks p t.source (plain_of cells members out gone) z
            ∙ sym (column (λ (c : Cell). c.l) cells₁ (update (λ (j : ℕ). (cells j).l) t.source
            (leave t.count (cells t.source).l)) ls p c₂
            (arrive (take (t.count - kept t.transfer) (cells t.source).l.booked)
            (update (λ (j : ℕ). (cells j).l) t.source (leave t.count (cells t.source).l) p))
            (ap₂ (λ (u : List ℕ) (v : Lists). arrive (take (t.count - kept t.transfer) u) v) (sym b_facts.book_is) (ls p)) z));
        moved_are =
            column (λ (c : Cell). c.g.moved) cells₁ (λ (z : ℕ). (cells z).g.moved) em p c₂
            ((cells p).g.moved + moves_of (landed w t.transfer t))
            (em p ∙ omega (arith, land_moved w t some few t.transfer));
        start_s = λ j. column_s (λ (c : Cell). c.g.start) cells₁ p c₂ refl j
            ∙ column_s (λ (c : Cell). c.g.start) cells t.source c₁ refl j;
        still = λ j _. omega (arith, em₂ j, ep₂ j);
        still_p = λ _. tt;
        src_s = inr source_s;
        why = tt;
      }
