-- A step on the own queue, framed: it keeps the tables' invariant, since what the other roles know stands (Stable).
use mathlib.Core.Path.{◌≡◌, refl, sym, ap, subst, ◌∙◌}
use mathlib.Core.Logic.{◌≢◌, ◌⊎◌, inl, inr}
use mathlib.Core.Bool.{true, false}
use mathlib.Core.List.{List}
use Prim.Native.Nat.{ℕ, ◌+◌, ◌<◌}
use native.Mathlib.Omega.{arith}
use Rattle.words.specs.Word.{pick}
use Rattle.tables.specs.declared.access.Next.{Next}
use Rattle.tables.specs.declared.call.Mark.{Mark}
use Rattle.tables.specs.declared.state.Kind.{Kind}
use Rattle.tables.specs.declared.place.Place.{Place}
use Rattle.tables.specs.Access.{Accessed}
use Rattle.tables.specs.Tables.{source_of}
use Rattle.tables.specs.Answer.{Reason, nothing, none_rested, none_free, one_open, none_to_book, reason_of}
use Rattle.tables.specs.Lists.{party, Lists, update, in_front}
use Rattle.tables.specs.Causes.{is_first_load, is_head_load, fill_of}
use Rattle.agreement.proofs.Nums.{Who, noone, call, drain, holder_of, Nums}
use Rattle.tables.proofs.Maybe.{hands_maybe, moves_maybe, can_maybe, does_maybe}
use Rattle.tables.proofs.Updates.{update_elim, update_same}
use Rattle.agreement.proofs.Frame.{column, column_s, after, frame}
use Rattle.agreement.proofs.Facts.{BkF, held}
use Rattle.agreement.proofs.Stable.{bkr_stable, drn_stable}
use Rattle.agreement.proofs.Steps.{changed, handed, Single, hand_over, WhyOf, Still, OwnNext}
use Rattle.agreement.proofs.Cells.{Cell, Member, Ok, src, Own, Bkr, Drn, Claim, MInv, words, plain_of, named_queue, single_at, does_queue, Causes, Ran}

pub call_some : (p : ℕ) → call p ≢ noone
call_some p e = let z : ◌≡◌ {A = ℕ} 0 1 = cc in omega arith

pub drain_some : (p : ℕ) → drain p ≢ noone
drain_some p e = let z : ◌≡◌ {A = ℕ} 0 1 = cc in omega arith

pub party_same : (p r : ℕ) → party r ≡ party p → r ≡ p
party_same p r e = cc

-- another party's role is not the actor's
pub other : (p r : ℕ) (me x : Who) → holder_of me ≡ party p → holder_of x ≡ party r → r ≢ p → x ≢ me
other p r me x em ex n e = n (party_same p r (sym ex ∙ ap holder_of e ∙ em))

pub why_map : {f n b e f₂ n₂ b₂ e₂ : Type 0} (r : Reason) → (f → f₂) → (n → n₂) → (b → b₂) → (e → e₂) → WhyOf f n b e r → WhyOf f₂ n₂ b₂ e₂ r
why_map nothing p q r s x = tt
why_map none_rested p q r s x = q x
why_map none_free p q r s x = p x
why_map one_open p q r s x = r x
why_map none_to_book p q r s x = s x

module _ (w n : ℕ) (cells : ℕ → Cell) (members : ℕ → Member) (p : ℕ) (pl : Place) (mark : Mark) (x : ℕ) (o : Accessed) (nx : Next) where
  abbrev pub fm₁ : ℕ
  fm₁ = pick (is_first_load pl) (cells (source_of p pl)).g.moved (members p).fm

  abbrev pub fill₁ : ℕ
  fill₁ = pick (is_head_load pl) (fill_of (cells p).l) (members p).fill

  abbrev pub hand₁ : List ℕ
  hand₁ = handed (cells x).kind nx.change (cells x).l (members p).hand

  abbrev pub member₁ : List ℕ → Member
  member₁ items = record {
    pl = nx.place;
    bl = nx.place;
    drain = nx.drain;
    hand = hand_over nx.answer hand₁;
    items = items;
    fm = fm₁;
    fill = fill₁;
  }

  -- one queue and the party changed
  pub ran_one : (c₂ : Cell) (items : List ℕ) → MInv w n (update cells x c₂) (update members p (member₁ items)) → words w c₂ ≡ o.queue
      → c₂.s ≡ o.slots
      → c₂.l ≡ changed (cells x).kind p nx.change (cells x).l → Single nx.change
      → c₂.g.moved ≡ (cells x).g.moved + moves_maybe nx.change → c₂.g.start ≡ (cells x).g.start
      → (c₂.g.who ≡ noone → (cells x).g.moved + c₂.g.pops ≡ c₂.g.moved + (cells x).g.pops)
      → (Still w pl (cells (source_of p pl)).g → Still w nx.place (update cells x c₂ (source_of p nx.place)).g)
      → (nx.place ≡ Place.Idle) ⊎ (source_of p nx.place ≡ source_of p pl)
      → in_front (hands_maybe nx.answer) hand₁ ≡ true → can_maybe p x nx.change (cells x).l ≡ true
      → Causes w fill₁ pl (cells p) (cells (source_of p pl)) (update cells x c₂ (source_of p pl)).l mark nx.answer
      → Ran w n cells members p pl mark x o nx
  ran_one c₂ items kept eq es el single em est st stp sr fair can_s why =
      let q : named_queue nx.change x (source_of p pl) ≡ x = single_at nx.change x (source_of p pl) single in
      record {
        cells' = update cells x c₂;
        members' = update members p (member₁ items);
        inv = kept;
        words_are = column (λ (c : Cell). words w c) cells (λ (z : ℕ). words w (cells z)) (λ _. refl) x c₂ o.queue eq;
        slots_are = column (λ (c : Cell). c.s) cells (λ (z : ℕ). (cells z).s) (λ _. refl) x c₂ o.slots es;
        pl_are = column (λ (m : Member). m.pl) members (λ (z : ℕ). (members z).pl) (λ _. refl) p (member₁ items) nx.place refl;
        bl_are = column (λ (m : Member). m.bl) members (λ (z : ℕ). (members z).bl) (λ _. refl) p (member₁ items) nx.place refl;
        drain_are = column (λ (m : Member). m.drain) members (λ (z : ℕ). (members z).drain) (λ _. refl) p (member₁ items) nx.drain refl;
        fm_are = column (λ (m : Member). m.fm) members (λ (z : ℕ). (members z).fm) (λ _. refl) p (member₁ items) fm₁ refl;
        fill_are = column (λ (m : Member). m.fill) members (λ (z : ℕ). (members z).fill) (λ _. refl) p (member₁ items) fill₁ refl;
        hand_are =
            column (λ (m : Member). m.hand) members (λ (z : ℕ). (members z).hand) (λ _. refl) p (member₁ items)
            (hand_over nx.answer (handed (cells (named_queue nx.change x (source_of p pl))).kind nx.change
            (cells (named_queue nx.change x (source_of p pl))).l (members p).hand))
            (ap (λ (y : ℕ). hand_over nx.answer (handed (cells y).kind nx.change (cells y).l (members p).hand)) (sym q));
        fair = subst (λ (y : ℕ). in_front (hands_maybe nx.answer) (handed (cells y).kind nx.change (cells y).l (members p).hand) ≡ true)
            (sym q) fair;
        can_s = subst (λ (y : ℕ). can_maybe p y nx.change (cells y).l ≡ true) (sym q) can_s;
        ls_are =
            λ ks out gone ek y.
            subst (λ (z : ℕ). (does_maybe ks p z nx.change (plain_of cells members out gone)).queue y ≡ (update cells x c₂ y).l) (sym q)
            (does_queue ks p x nx.change (plain_of cells members out gone) single y
            ∙ sym (column (λ (c : Cell). c.l) cells (λ (z : ℕ). (cells z).l)
            (λ _. refl) x c₂ (changed (ks x) p nx.change (cells x).l) (el
            ∙ ap (λ (k : Kind). changed k p nx.change (cells x).l) (sym ek)) y));
        moved_are = column (λ (c : Cell). c.g.moved) cells (λ (z : ℕ). (cells z).g.moved)
            (λ _. refl) x c₂ ((cells x).g.moved + moves_maybe nx.change) em;
        start_s = column_s (λ (c : Cell). c.g.start) cells x c₂ est;
        still =
            λ y. update_elim cells x c₂ (λ (c : Cell). c.g.who ≡ noone
            → (cells y).g.moved + c.g.pops ≡ c.g.moved + (cells y).g.pops) y
            (λ e. subst (λ (z : ℕ). c₂.g.who ≡ noone → (cells z).g.moved + c₂.g.pops ≡ c₂.g.moved + (cells z).g.pops) (sym e) st)
            (λ _ _. refl);
        still_p = stp;
        src_s = sr;
        why = why;
      }

module _ (w n : ℕ) {cells : ℕ → Cell} {members : ℕ → Member} (inv : MInv w n cells members) (p : ℕ) (pl : Place) (mark : Mark)
    (e₁ : (members p).pl ≡ pl) (e₂ : (members p).bl ≡ pl) where
  -- ---- on the own queue

  pub own_go : (o : Accessed) (nx : Next)
      → OwnNext w p (pick (is_head_load pl) (fill_of (cells p).l) (members p).fill) (members p).items (members p).hand
      (cells (source_of p pl)).kind (cells p).kind (cells p).cap
      (cells p).s (cells p).g (cells p).l (members p).drain pl o nx
      → is_first_load pl ≡ false → Ran w n cells members p pl mark p o nx
  own_go o nx t nf =
      ran_one w n cells members p pl mark p o nx c₂ (members p).items
      (frame Cell Member (Ok w n) (src w n) (Own w n) (Bkr w n) (Drn w n) (Claim w n) inv p p m₂ c₂ t.ok
      (subst (Own w n m₂) (sym (update_same cells p c₂)) t.own)
      (bkr' t.bkr) (subst (Drn w n p m₂) (sym (update_same cells p c₂)) (t.drn (inv.drn p)))
      (λ y. update_elim cells p c₂ (Claim w n p y m₂) y (λ e h. claims y (subst (λ (z : ℕ). holder_of (cells z).g.who ≡ party p) (sym e)
      (ap holder_of (sym t.who_s) ∙ h))) (λ _ h. claims y h))
      (λ r ne e. absurd (ne e))
      (λ r ne b. bkr_stable w r (members r).fm t.rb (members r).items
      (t.rh (call r) (call_some r) (apart t.bkr r (call r) refl (call_some r) ne))
      (t.rh (drain r) (drain_some r) (apart t.bkr r (drain r) refl (drain_some r) ne)) (members r).bl (cells p).kind b)
      (λ r ne b. drn_stable w r (members r).drain (t.rh (drain r) (drain_some r) (apart t.bkr r (drain r) refl (drain_some r) ne)) b)
      (λ r ne f h. f (ap holder_of (sym t.who_s) ∙ h)))
      (sym t.q_is) refl refl t.single t.moved_s t.rb.start_s t.still
      (λ _. t.still_n _) (inr t.src_s) t.fair t.can_s
      (why_map (reason_of nx.answer) (λ a. a) (λ a. a) (λ a. absurd a) (λ a. absurd a) t.why)
    where
      c₂ : Cell
      c₂ = record {
        kind = (cells p).kind;
        cap = (cells p).cap;
        s = o.slots;
        g = t.g';
        l = changed (cells p).kind p nx.change (cells p).l;
      }

      m₂ : Member
      m₂ = member₁ w n cells members p pl mark p o nx (members p).items

      apart : ((t.actor ≡ noone) × ((fm : ℕ) (g₂ : Nums) (l₂ : Lists)
          → BkF w p fm (members p).items pl (cells (source_of p pl)).kind g₂ l₂
          → BkF w p fm (members p).items nx.place (cells (source_of p pl)).kind g₂ l₂))
          ⊎ ((t.actor ≡ drain p) × (source_of p pl ≡ p) × ((fm : ℕ) → BkF w p fm (members p).items nx.place (cells p).kind t.g'
          (changed (cells p).kind p nx.change (cells p).l)))
          → (r : ℕ) (z : Who) → holder_of z ≡ party r → z ≢ noone → r ≢ p → z ≢ t.actor
      apart (inl a) r z ez nz ne e = nz (e ∙ a.0)
      apart (inr a) r z ez nz ne e = other p r (drain p) z refl ez ne (e ∙ a.0)

      claims : (y : ℕ) → holder_of (cells y).g.who ≡ party p → (p < n) × (held w p nx.place nx.drain y ≡ true)
      claims y h = let c = inv.claim p y h in (c.0, t.claim y (subst (λ (z : Place). held w p z (members p).drain y ≡ true) e₂ c.1))

      kind_s : (y : ℕ) → (update cells p c₂ y).kind ≡ (cells y).kind
      kind_s = column_s (λ (c : Cell). c.kind) cells p c₂ refl

      bkr' : ((t.actor ≡ noone) × ((fm : ℕ) (g₂ : Nums) (l₂ : Lists)
          → BkF w p fm (members p).items pl (cells (source_of p pl)).kind g₂ l₂
          → BkF w p fm (members p).items nx.place (cells (source_of p pl)).kind g₂ l₂))
          ⊎ ((t.actor ≡ drain p) × (source_of p pl ≡ p) × ((fm : ℕ) → BkF w p fm (members p).items nx.place (cells p).kind t.g'
          (changed (cells p).kind p nx.change (cells p).l)))
          → Bkr w n p m₂ (update cells p c₂ (source_of p nx.place))
      bkr' (inl a) =
          let b : BkF w p (members p).fm (members p).items (members p).bl (update cells p c₂ (source_of p (members p).bl)).kind
          (update cells p c₂ (source_of p (members p).bl)).g (update cells p c₂ (source_of p (members p).bl)).l =
          after Cell Member (Ok w n) (src w n) (Own w n) (Bkr w n) (Drn w n) (Claim w n) inv p p m₂ c₂ (Bkr w n p (members p))
          (source_of p (members p).bl)
          (λ _ b. bkr_stable w p (members p).fm t.rb (members p).items (t.rh (call p) (call_some p) (λ e. call_some p (e ∙ a.0)))
          (t.rh (drain p) (drain_some p) (λ e. drain_some p (e ∙ a.0))) (members p).bl (cells p).kind b) (inv.bkr p) in
          let b₂ : BkF w p (members p).fm (members p).items pl (update cells p c₂ (source_of p pl)).kind
          (update cells p c₂ (source_of p pl)).g (update cells p c₂ (source_of p pl)).l =
          subst (λ (z : Place). BkF w p (members p).fm (members p).items z (update cells p c₂ (source_of p z)).kind
          (update cells p c₂ (source_of p z)).g (update cells p c₂ (source_of p z)).l) e₂ b in
          let b₃ = a.1 (members p).fm (update cells p c₂ (source_of p pl)).g (update cells p c₂ (source_of p pl)).l
          (subst (λ (k : Kind). BkF w p (members p).fm (members p).items pl k (update cells p c₂ (source_of p pl)).g
          (update cells p c₂ (source_of p pl)).l) (kind_s (source_of p pl)) b₂) in
          rw nf
          (subst (λ (y : ℕ). BkF w p (members p).fm (members p).items nx.place (update cells p c₂ y).kind (update cells p c₂ y).g
          (update cells p c₂ y).l) (sym t.src_s)
          (subst (λ (k : Kind). BkF w p (members p).fm (members p).items nx.place k (update cells p c₂ (source_of p pl)).g
          (update cells p c₂ (source_of p pl)).l) (sym (kind_s (source_of p pl))) b₃))
      bkr' (inr a) =
          subst (λ (c : Cell). BkF w p (fm₁ w n cells members p pl mark p o nx) (members p).items nx.place c.kind c.g c.l)
          (sym (ap (λ (y : ℕ). update cells p c₂ y) (t.src_s ∙ a.1) ∙ update_same cells p c₂))
          (a.2 (fm₁ w n cells members p pl mark p o nx))
