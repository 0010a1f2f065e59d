-- What is known at a place stands, whatever the other roles do: nobody else writes the owner's count, pops or slots, no counter goes back,
-- and only the holder moves what is booked.
use mathlib.Core.Path.{◌≡◌, sym, ap, ◌∙◌}
use mathlib.Core.List.{List}
use Prim.Native.Nat.{ℕ, ◌+◌, ◌%◌, ◌^◌}
use native.Mathlib.Omega.{arith}
use Rattle.tables.specs.declared.state.Drain.{Drain}
use Rattle.tables.specs.declared.state.Kind.{Kind}
use Rattle.tables.specs.declared.place.BookPlace.{BookPlace}
use Rattle.tables.specs.declared.place.BookedTokens.{BookedTokens}
use Rattle.tables.specs.declared.place.BookingCall.{BookingCall}
use Rattle.tables.specs.declared.place.ClosePlace.{ClosePlace}
use Rattle.tables.specs.declared.place.ClosingCall.TheVariants as ClosingCall
use Rattle.tables.specs.declared.place.FifoPlace.{FifoPlace}
use Rattle.tables.specs.declared.place.LifoPlace.{LifoPlace}
use Rattle.tables.specs.declared.place.MovePlace.{MovePlace}
use Rattle.tables.specs.declared.place.OwnPlace.{OwnPlace}
use Rattle.tables.specs.declared.place.Place.{Place}
use Rattle.tables.specs.Table.{limit_of}
use Rattle.tables.specs.Lists.{Lists}
use Rattle.agreement.proofs.Wrap.{pair}
use Rattle.agreement.proofs.Nums.{Who, call, drain, Nums}
use Rattle.agreement.proofs.Whole.{RO, RB, RH}
use Rattle.agreement.proofs.Facts.{Into, PopB, OwnL, FPopB, OwnK, Ext, OwnO, OwnG, Carries, OwnM, OwnP, OwnF, hand_in, Snap, Snap2, FSnap, BkB, Keeps, BkM, BkC, BkF, DrnF}

module _ (w fill : ℕ) {s s' : List ℕ} {g g' : Nums} {l l' : Lists} (r : RO s g l s' g' l') where
  word_s : {x : ℕ} → x ≡ g.pushed % 2 ^ w → x ≡ g'.pushed % 2 ^ w
  word_s e = e ∙ ap (λ (n : ℕ). n % 2 ^ w) (sym r.pushed_s)

  into_s : {cap word at room : ℕ} → Into w cap g word at room → Into w cap g' word at room
  into_s a = record {
    word_is = word_s a.word_is;
    at_is = a.at_is
        ∙ ap (λ (n : ℕ). n % 2 ^ w) (sym r.tail_s);
    room_is = omega (arith, a.room_is, r.tail_s, r.done_up);
  }

  unfoldable pop_b_s : {cap p : ℕ} → PopB w cap g p → PopB w cap g' p
  pop_b_s a = record {
    hg = a.hg;
    p_is = a.p_is ∙ ap (λ (n : ℕ). pair w n a.hg) (sym r.pops_s);
    old = omega (arith, a.old, r.head_up);
    near = omega (arith, a.near, r.tail_s);
  }

  own_l : (cap : ℕ) (p : LifoPlace) (k : Kind) → OwnL w cap p k g → OwnL w cap p k g'
  own_l cap (LifoPlace.LoadPushes j) k a = a
  own_l cap (LifoPlace.LoadPacked j n) k a = (a.0, word_s a.1)
  own_l cap (LifoPlace.LoadCompleted j n p) k a = (a.0, word_s a.1, a.2 ∙ ap (λ (n : ℕ). n % 2 ^ w) (sym r.pops_s))
  own_l cap LifoPlace.PopPacked k a = a
  own_l cap (LifoPlace.PopPushes p) k a = (a.0, pop_b_s a.1)
  own_l cap (LifoPlace.PopCas p t) k a = (
    a.0,
    record {
      seen = pop_b_s a.1.seen;
      t_is = a.1.t_is
          ∙ ap (λ (n : ℕ). n % 2 ^ w) (sym r.tail_s);
      some = a.1.some;
    },
  )
  own_l cap LifoPlace.EmptyPushes k a = a
  own_l cap (LifoPlace.EmptyPacked n) k a = a

  unfoldable fpop_s : {cap p : ℕ} → FPopB w cap g p → FPopB w cap g' p
  fpop_s a = record {
    hg = a.hg;
    sg = a.sg;
    p_is = a.p_is;
    h_old = omega (arith, a.h_old, r.head_up);
    s_old = omega (arith, a.s_old, r.done_up);
    near = omega (arith, a.near, r.tail_s);
    order = a.order;
  }

  own_k : (cap : ℕ) (p : FifoPlace) (k : Kind) → OwnK w fill cap p k g → OwnK w fill cap p k g'
  unfolding fpop_s
  own_k cap (FifoPlace.LoadPacked f) k a = a
  own_k cap (FifoPlace.LoadTail f p) k a = (
    a.0,
    record {
      sg = a.1.sg;
      p_is = a.1.p_is;
      old = omega (arith, a.1.old, r.done_up);
      fill_is = a.1.fill_is ∙ sym r.tail_s;
      fill_fits = a.1.fill_fits;
    },
  )
  own_k cap (FifoPlace.DestTail e) k a = a
  own_k cap (FifoPlace.DestPacked e t) k a = (a.0, word_s a.1)
  own_k cap FifoPlace.PopPacked k a = a
  own_k cap (FifoPlace.PopTail p) k a = (a.0, fpop_s a.1)
  own_k cap (FifoPlace.PopCas p) k a = (a.0, record { seen = fpop_s a.1.seen; some = λ z. a.1.some (sym r.tail_s ∙ z) })
  own_k cap FifoPlace.EmptyPacked k a = a
  own_k cap (FifoPlace.EmptyTail p) k a = a

  unfoldable ext_s : {cap pops at written : ℕ} → Ext w cap g pops at written → Ext w cap g' pops at written
  ext_s {written = written} a = record {
    pg = a.pg;
    pops_is = a.pops_is;
    pushed_is = omega (arith, a.pushed_is, r.tail_s, r.pushed_s);
    at_is = a.at_is
        ∙ ap (λ (n : ℕ). (n + written) % 2 ^ w) (sym r.tail_s);
    fits = omega (arith, a.fits, r.tail_s, r.done_up);
  }

  own_o : (cap : ℕ) (p : OwnPlace) → OwnO w cap p g → OwnO w cap p g'
  own_o cap (OwnPlace.PushWrite t word at) a = into_s a
  own_o cap (OwnPlace.PushStore word) a = (word_s a.0, omega (arith, a.1, r.tail_s, r.done_up))
  own_o cap (OwnPlace.ExtendMore pops at limit written) a = record {
    ext = ext_s a.ext;
    dg = a.dg;
    limit_is = a.limit_is;
    old = omega (arith, a.old, r.done_up);
    below = omega (arith, a.below, r.tail_s);
  }
  own_o cap (OwnPlace.ExtendStore pops at written) a = ext_s a
  own_o cap (OwnPlace.PopRead at) a = tt
  own_o cap OwnPlace.NextItem a = tt
  own_o cap OwnPlace.DropItem a = tt

  own_g : (cap : ℕ) (h : BookingCall) → OwnG w fill cap h g → OwnG w fill cap h g'
  own_g cap (BookingCall.Transfer e d) a = (into_s a.0, a.1)
  own_g cap (BookingCall.Drain x) a = tt

  module _ (items : List ℕ) where
    carries_s : {cap j : ℕ} {t : BookedTokens} → Carries w items cap s g t j → Carries w items cap s' g' t j
    carries_s a = record {
      into = into_s a.into;
      some = a.some;
      few = a.few;
      long = a.long;
      stand = rw (r.slots_s, r.tail_s) a.stand;
    }

    own_m : (cap : ℕ) (p : MovePlace) → OwnM w items cap s p g → OwnM w items cap s' p g'
    own_m cap (MovePlace.ReadSlot t j) a = (a.0, carries_s a.1)
    own_m cap (MovePlace.WriteSlot t j x) a = (a.0, a.1, carries_s a.2)
    own_m cap (MovePlace.Land t last) a = (a.0, carries_s a.1)

    own_p : (pl : Place) (k : Kind) (cap : ℕ) → OwnP w fill items pl k cap s g → OwnP w fill items pl k cap s' g'
    own_p Place.Idle k cap a = tt
    own_p (Place.Lifo p) k cap a = own_l cap p k a
    own_p (Place.Fifo p) k cap a = own_k cap p k a
    own_p (Place.Own p) k cap a = own_o cap p a
    own_p (Place.Book h p) k cap a = own_g cap h a
    own_p (Place.Move p) k cap a = own_m cap p a
    own_p (Place.Close e p) k cap a = tt

    pub own_stable : (hand : List ℕ) (pl : Place) (k : Kind) (cap : ℕ) → OwnF w fill items hand pl k cap s g l
        → OwnF w fill items hand pl k cap s' g' l'
    own_stable hand pl k cap a = record {
      wait_is = rw (r.slots_s, r.tail_s) (r.wait_s ∙ a.wait_is);
      hand_is = a.hand_is ∙ ap (λ (z : List ℕ). hand_in cap z pl) (sym r.slots_s);
      at = own_p pl k cap a.at;
    }

module _ (w fm : ℕ) {g g' : Nums} (r : RB g g') where
  unfoldable snap_s : {x : ℕ} → Snap w fm g x → Snap w fm g' x
  snap_s a = record {
    cg = a.cg;
    hg = a.hg;
    p_is = a.p_is;
    c_old = omega (arith, a.c_old, r.pops_up);
    h_old = omega (arith, a.h_old, r.head_up);
    first = omega (arith, a.first, r.start_s);
  }

  unfoldable snap2_s : {x d : ℕ} → Snap2 w fm g x d → Snap2 w fm g' x d
  unfolding snap_s
  snap2_s a = record { snap = snap_s a.snap; d_is = a.d_is; d_old = omega (arith, a.d_old, r.done_up) }

  unfoldable fsnap_s : {x : ℕ} → FSnap w fm g x → FSnap w fm g' x
  fsnap_s a = record {
    hg = a.hg;
    p_is = a.p_is;
    h_old = omega (arith, a.h_old, r.head_up);
    first = omega (arith, a.first, r.start_s);
  }

  bkb_s : (limit : ℕ) (b : BookPlace) (k : Kind) → BkB w fm limit b k g → BkB w fm limit b k g'
  unfolding snap_s snap2_s fsnap_s
  bkb_s limit BookPlace.LifoPacked k a = a
  bkb_s limit (BookPlace.LifoCompleted x) k a = (a.0, snap_s a.1)
  bkb_s limit (BookPlace.LifoPushes x d) k a = (a.0, snap2_s a.1)
  bkb_s limit (BookPlace.LifoCas x d n) k a = (
    a.0,
    record {
      snap = snap2_s a.1.snap;
      some = a.1.some;
      few = a.1.few;
      enough = omega (arith, a.1.enough, r.push_up);
    },
  )
  bkb_s limit BookPlace.FifoPacked k a = a
  bkb_s limit (BookPlace.FifoTail x) k a = (a.0, fsnap_s a.1)
  bkb_s limit (BookPlace.FifoCas x n) k a = (
    a.0,
    record {
      snap = fsnap_s a.1.snap;
      some = a.1.some;
      few = a.1.few;
      enough = omega (arith, a.1.enough, r.push_up);
    },
  )

module _ (w p fm : ℕ) {g g' : Nums} {l l' : Lists} (r : RB g g') where
  keeps_s : (me : Who) → (g.who ≡ me → RH g l g' l') → {items : List ℕ} {t : BookedTokens} → Keeps w me items g l t → Keeps w me items g' l' t
  keeps_s me rh a =
      let h = rh a.who_is in
      record {
        who_is = h.who_s ∙ a.who_is;
        from_is = a.from_is ∙ ap (λ (n : ℕ). n % 2 ^ w) (sym h.done_s);
        taken_is = h.taken_s
            ∙ a.taken_is;
        left_is = h.left_s ∙ a.left_is;
        some = a.some;
        book_is = h.book_s ∙ a.book_is;
      }

  bkm_s : (items : List ℕ) (x : MovePlace) → (g.who ≡ call p → RH g l g' l') → BkM w p items x g l → BkM w p items x g' l'
  bkm_s items (MovePlace.ReadSlot t j) rh a = keeps_s (call p) rh a
  bkm_s items (MovePlace.WriteSlot t j x) rh a = keeps_s (call p) rh a
  bkm_s items (MovePlace.Land t last) rh a = keeps_s (call p) rh a

  bkc_s : (me : Who) → (g.who ≡ me → RH g l g' l') → (c : ClosePlace) (k : Kind) → BkC w me c k g → BkC w me c k g'
  bkc_s me rh (ClosePlace.StoreCompleted x) k a = let h = rh a.1 in (
    a.0,
    h.who_s ∙ a.1,
    h.left_s ∙ a.2,
    a.3
        ∙ ap (λ (n : ℕ). n % 2 ^ w) (omega (arith, h.done_s, h.taken_s, h.left_s)),
  )
  bkc_s me rh ClosePlace.LoadHeads k a = let h = rh a.1 in (a.0, h.who_s ∙ a.1, h.left_s ∙ a.2)
  bkc_s me rh (ClosePlace.CasHeads x) k a = let h = rh a.1 in (a.0, h.who_s ∙ a.1, h.left_s ∙ a.2)

  pub bkr_stable : (items : List ℕ) → (g.who ≡ call p → RH g l g' l') → (g.who ≡ drain p → RH g l g' l') → (pl : Place) (k : Kind)
      → BkF w p fm items pl k g l → BkF w p fm items pl k g' l'
  bkr_stable items rc rd Place.Idle k a = tt
  bkr_stable items rc rd (Place.Lifo x) k a = tt
  bkr_stable items rc rd (Place.Fifo x) k a = tt
  bkr_stable items rc rd (Place.Own x) k a = tt
  bkr_stable items rc rd (Place.Book h x) k a = bkb_s w fm r (limit_of w h) x k a
  bkr_stable items rc rd (Place.Move x) k a = bkm_s items x rc a
  bkr_stable items rc rd (Place.Close (ClosingCall.Steal y n) x) k a = bkc_s (call p) rc x k a
  bkr_stable items rc rd (Place.Close (ClosingCall.Take y t n) x) k a = bkc_s (call p) rc x k a
  bkr_stable items rc rd (Place.Close (ClosingCall.Next t) x) k a = bkc_s (drain p) rd x k a
  bkr_stable items rc rd (Place.Close ClosingCall.Drop x) k a = bkc_s (drain p) rd x k a

pub drn_stable : (w p : ℕ) {g g' : Nums} {l l' : Lists} (d : Drain) → (g.who ≡ drain p → RH g l g' l') → DrnF w p d g → DrnF w p d g'
drn_stable w p d rh f ne =
    let a = f ne in
    let h = rh a.who_is in
    record {
      who_is = h.who_s ∙ a.who_is;
      at_is = a.at_is ∙ ap (λ (n : ℕ). n % 2 ^ w) (omega (arith, h.done_s, h.taken_s));
      end_is = a.end_is ∙ ap (λ (n : ℕ). n % 2 ^ w) (omega (arith, h.done_s, h.taken_s, h.left_s));
    }
