-- A step on the source, framed: it keeps the tables' invariant, since what the other roles know stands (Stable).
use mathlib.Core.Path.{◌≡◌, refl, sym, ap, subst, ◌∙◌}
use mathlib.Core.Logic.{◌⊎◌, inl, inr}
use mathlib.Core.Bool.{true, false}
use mathlib.Core.List.{List}
use Prim.Native.Nat.{ℕ, ◌<◌}
use native.Mathlib.Omega.{arith}
use Rattle.words.specs.Word.{pick}
use Rattle.tables.specs.declared.access.Next.{Next}
use Rattle.tables.specs.declared.call.Mark.{Mark}
use Rattle.tables.specs.declared.state.Drain.{Drain}
use Rattle.tables.specs.declared.place.Place.{Place}
use Rattle.tables.specs.Access.{Accessed}
use Rattle.tables.specs.Tables.{source_of}
use Rattle.tables.specs.Answer.{reason_of}
use Rattle.tables.specs.Lists.{party, update, in_front}
use Rattle.tables.specs.Causes.{is_first_load, is_head_load}
use Rattle.tables.proofs.Updates.{update_elim, update_same}
use Rattle.agreement.proofs.Nums.{Who, noone, call, drain, holder_of}
use Rattle.agreement.proofs.Frame.{after, frame}
use Rattle.agreement.proofs.Facts.{OwnF, BkF, DrnF, held}
use Rattle.agreement.proofs.Stable.{own_stable, bkr_stable, drn_stable}
use Rattle.tables.proofs.Maybe.{hands_maybe}
use Rattle.agreement.proofs.Steps.{changed, items_after, hand_over, Still, SrcNext}
use Rattle.agreement.proofs.Cells.{Cell, Member, Ok, src, Own, Bkr, Drn, Claim, MInv, Causes, Ran}
use Rattle.agreement.proofs.Turns.{call_some, drain_some, other, why_map, fm₁, fill₁, member₁, ran_one}

module _ (w n : ℕ) {cells : ℕ → Cell} {members : ℕ → Member} (inv : MInv w n cells members) (p : ℕ) (pn : p < n) (pl : Place)
    (mark : Mark) (e₁ : (members p).pl ≡ pl) (e₂ : (members p).bl ≡ pl)
    (x : ℕ) (ex : source_of p pl ≡ x) where
  pub src_go : (me : Who) → holder_of me ≡ party p → (o : Accessed) (nx : Next)
      → SrcNext w p x (pick (is_first_load pl) (cells x).g.moved (members p).fm) me (members p).items (cells x).kind (cells x).cap
      (cells x).s (cells x).g (cells x).l (members p).drain pl mark o nx
      → is_head_load pl ≡ false → Ran w n cells members p pl mark x o nx
  src_go me em o nx t nh =
      ran_one w n cells members p pl mark x o nx c₂ (items_after nx.change (cells x).l (members p).items)
      (frame Cell Member (Ok w n) (src w n) (Own w n) (Bkr w n) (Drn w n) (Claim w n) inv p x m₂ c₂ t.ok
      (rw nh (subst (λ (h : List ℕ). OwnF w (members p).fill (items_after nx.change (cells x).l (members p).items)
      (hand_over nx.answer h) nx.place (update cells x c₂ p).kind (update cells x c₂ p).cap (update cells x c₂ p).s
      (update cells x c₂ p).g (update cells x c₂ p).l)
      (sym (t.hand_s (members p).hand)) own'.1))
      (bkr' t.src_s)
      (update_elim cells x c₂ (Drn w n p m₂) p (λ e. t.drn (subst (λ (y : ℕ). Drn w n p (members p) (cells y)) e (inv.drn p)))
      (λ ne. subst (λ (d : Drain). DrnF w p d (cells p).g) (sym (t.drn_off (λ z. ne (sym z)))) (inv.drn p)))
      (λ y. update_elim cells x c₂ (Claim w n p y m₂) y
      (λ e h. (
        pn,
        subst (λ (z : ℕ). held w p nx.place nx.drain z ≡ true) (sym e)
            (t.claim_x (λ c. subst (λ (z : Place). held w p z (members p).drain x ≡ true) e₂ (inv.claim p x c).1) h),
      ))
      (λ ne h. (pn, t.claim_y y ne (subst (λ (z : Place). held w p z (members p).drain y ≡ true) e₂ (inv.claim p y h).1))))
      (λ r ne e a. own_stable w (members r).fill t.ro (members r).items (members r).hand (members r).pl (cells x).kind
      (cells x).cap a)
      (λ r ne b. bkr_stable w r (members r).fm t.rb (members r).items
      (t.rh (call r) (call_some r) (other p r me (call r) em refl ne))
      (t.rh (drain r) (drain_some r) (other p r me (drain r) em refl ne)) (members r).bl (cells x).kind b)
      (λ r ne b. drn_stable w r (members r).drain (t.rh (drain r) (drain_some r) (other p r me (drain r) em refl ne)) b)
      (λ r ne f h. f (ap holder_of (t.who_new t.g'.who (λ z. no_party r (sym (ap holder_of z) ∙ h)) (other p r me t.g'.who em h ne)
      refl) ∙ h)))
      (sym t.q_is) (sym t.slots_s) refl t.single t.moved_s t.rb.start_s t.still (still' t.src_s) t.src_s
      (subst (λ (h : List ℕ). in_front (hands_maybe nx.answer) h ≡ true) (sym (t.hand_s (members p).hand)) own'.0) t.can_s
      (subst (λ (y : ℕ). Causes w (fill₁ w n cells members p pl mark x o nx) pl (cells p) (cells y) (update cells x c₂ y).l mark
      nx.answer) (sym ex)
      (subst (λ (c : Cell). Causes w (fill₁ w n cells members p pl mark x o nx) pl (cells p) (cells x) c.l mark nx.answer)
      (sym (update_same cells x c₂))
      (why_map (reason_of nx.answer) (λ a. absurd a) (λ a. absurd a) (λ a. a) (λ a. a) t.why)))
    where
      c₂ : Cell
      c₂ = record {
        kind = (cells x).kind;
        cap = (cells x).cap;
        s = (cells x).s;
        g = t.g';
        l = changed (cells x).kind p nx.change (cells x).l;
      }

      m₂ : Member
      m₂ = member₁ w n cells members p pl mark x o nx (items_after nx.change (cells x).l (members p).items)

      no_party : (r : ℕ) → holder_of noone ≡ party r → ⊥
      no_party r e = let z : ◌≡◌ {A = ℕ} 0 1 = cc in omega arith

      own' : (in_front (hands_maybe nx.answer) (members p).hand ≡ true)
          × OwnF w (members p).fill (items_after nx.change (cells x).l (members p).items) (hand_over nx.answer (members p).hand)
          nx.place (update cells x c₂ p).kind (update cells x c₂ p).cap (update cells x c₂ p).s (update cells x c₂ p).g
          (update cells x c₂ p).l
      own' =
          t.dst (members p).fill (members p).hand (update cells x c₂ p).kind (update cells x c₂ p).cap (update cells x c₂ p).s
          (update cells x c₂ p).g (update cells x c₂ p).l
          (subst (λ (z : Place). OwnF w (members p).fill (members p).items (members p).hand z (update cells x c₂ p).kind
          (update cells x c₂ p).cap (update cells x c₂ p).s (update cells x c₂ p).g (update cells x c₂ p).l) e₁
          (after Cell Member (Ok w n) (src w n) (Own w n) (Bkr w n) (Drn w n) (Claim w n) inv p x m₂ c₂ (Own w n (members p)) p
          (λ _ a. own_stable w (members p).fill t.ro (members p).items (members p).hand (members p).pl (cells x).kind
          (cells x).cap a) (inv.own p)))

      at_x : source_of p nx.place ≡ source_of p pl → update cells x c₂ (source_of p nx.place) ≡ c₂
      at_x e = ap (update cells x c₂) (e ∙ ex) ∙ update_same cells x c₂

      bkr' : (nx.place ≡ Place.Idle) ⊎ (source_of p nx.place ≡ source_of p pl) → Bkr w n p m₂ (update cells x c₂ (source_of p nx.place))
      bkr' (inl e) =
          subst (λ (z : Place). BkF w p (fm₁ w n cells members p pl mark x o nx) (items_after nx.change (cells x).l (members p).items) z
          (update cells x c₂ (source_of p nx.place)).kind (update cells x c₂ (source_of p nx.place)).g
          (update cells x c₂ (source_of p nx.place)).l)
          (sym e) tt
      bkr' (inr e) =
          subst (λ (c : Cell). BkF w p (fm₁ w n cells members p pl mark x o nx) (items_after nx.change (cells x).l (members p).items)
          nx.place c.kind c.g c.l) (sym (at_x e))
          (subst (λ (y : ℕ). BkF w p (pick (is_first_load pl) (cells y).g.moved (members p).fm)
          (items_after nx.change (cells x).l (members p).items) nx.place (cells x).kind t.g'
          (changed (cells x).kind p nx.change (cells x).l)) (sym ex) t.bkr)

      still' : (nx.place ≡ Place.Idle) ⊎ (source_of p nx.place ≡ source_of p pl) → Still w pl (cells (source_of p pl)).g
          → Still w nx.place (update cells x c₂ (source_of p nx.place)).g
      still' (inl e) a = subst (λ (z : Place). Still w z (update cells x c₂ (source_of p nx.place)).g) (sym e) tt
      still' (inr e) a =
          subst (λ (c : Cell). Still w nx.place c.g) (sym (at_x e)) (t.still_n (subst (λ (y : ℕ). Still w pl (cells y).g) ex a))
