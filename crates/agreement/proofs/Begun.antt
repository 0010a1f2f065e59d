-- Beginning a call keeps what holds of a run: it changes the party's place alone, to one where nothing waits, is in hand, is held or
-- remembered, and clears what was noted for the party.
use mathlib.Core.Path.{◌≡◌, refl, sym, ap, subst, ◌∙◌}
use mathlib.Core.Bool.{true, false}
use mathlib.Core.List.{List}
use Prim.Native.Nat.{ℕ, ◌<◌}
use native.Mathlib.Omega.{arith}
use lib.ListN.{length-set}
use Rattle.tables.specs.declared.call.Call.{Call}
use Rattle.tables.specs.declared.call.Rule.{Rule}
use Rattle.tables.specs.declared.state.Kind.{Kind}
use Rattle.tables.specs.declared.state.Party.{Party}
use Rattle.tables.specs.declared.place.BookingCall.TheVariants as BookingCall
use Rattle.tables.specs.declared.place.FifoPlace.{FifoPlace}
use Rattle.tables.specs.declared.place.LifoPlace.{LifoPlace}
use Rattle.tables.specs.declared.place.OwnPlace.{OwnPlace}
use Rattle.tables.specs.declared.place.Place.{Place}
use Rattle.tables.specs.Machine.{idle_party, party_at}
use Rattle.tables.specs.Tables.{lifo_source, fifo_source, source_of, start, call_source}
use Rattle.tables.specs.Table.{booking, limit_of}
use Rattle.tables.specs.Step.{with_party}
use Rattle.tables.specs.Lists.{Lists, lists, update}
use Rattle.tables.specs.Causes.{begun_notes}
use Rattle.tables.proofs.Updates.{update_elim, update_same, update_other, list_update}
use Rattle.agreement.specs.Statement.{Run}
use Rattle.agreement.proofs.Ring.{tokens}
use Rattle.agreement.proofs.Nums.{Nums, tail}
use Rattle.agreement.proofs.Frame.{column, column_s}
use Rattle.agreement.proofs.Facts.{OwnL, OwnK, OwnO, OwnP, OwnF, BkB, BkF, held}
use Rattle.agreement.proofs.Steps.{BookStill, Still}
use Rattle.agreement.proofs.OwnFill.{Calm}
use Rattle.agreement.proofs.OwnLifo.{calm_lifo}
use Rattle.agreement.proofs.OwnFifo.{calm_fifo}
use Rattle.agreement.proofs.Cells.{Member, Own, Bkr, Drn, Claim, MInv, plain_of}
use Rattle.agreement.proofs.Record.{Fits}
use Rattle.agreement.proofs.Replay.{plain_ext}
use Rattle.agreement.proofs.Good.{Good}

-- ---- a call's first place

-- nothing waits there, is in hand, is held or remembered
pub record Starts (w p cap : ℕ) (s : List ℕ) (pl : Place) (source : ℕ) (k : Kind) : Type 0 where
  pub calm : Calm p cap s pl
  pub source_is : source_of p pl ≡ source
  pub own : (fill : ℕ) (items : List ℕ) (g : Nums) → OwnP w fill items pl k cap s g
  pub bkr : (fm : ℕ) (items : List ℕ) (k₂ : Kind) (g : Nums) (l : Lists) → (source ≡ p → k₂ ≡ k) → BkF w p fm items pl k₂ g l
  pub still : (g : Nums) → Still w pl g

module _ (w p cap : ℕ) (s : List ℕ) where
  on_own : (pl : Place) (source : ℕ) (k : Kind) → Calm p cap s pl → source_of p pl ≡ source
      → ((fill : ℕ) (items : List ℕ) (g : Nums) → OwnP w fill items pl k cap s g)
      → ((fm : ℕ) (items : List ℕ) (k₂ : Kind) (g : Nums) (l : Lists) → BkF w p fm items pl k₂ g l) → ((g : Nums) → Still w pl g)
      → Starts w p cap s pl source k
  on_own pl source k c e o f t = record { calm = c; source_is = e; own = o; bkr = λ fm items k₂ g l _. f fm items k₂ g l; still = t }

  in_lifo : (x : LifoPlace) (source : ℕ) → lifo_source p x ≡ source → ((g : Nums) → OwnL w cap x Kind.Lifo g)
      → Starts w p cap s (Place.Lifo x) source Kind.Lifo
  in_lifo x source e o = on_own (Place.Lifo x) source Kind.Lifo (calm_lifo p cap s x) e (λ f i g. o g) (λ f i k g l. tt) (λ g. tt)

  in_fifo : (x : FifoPlace) (source : ℕ) → fifo_source p x ≡ source → ((fill : ℕ) (g : Nums) → OwnK w fill cap x Kind.Fifo g)
      → Starts w p cap s (Place.Fifo x) source Kind.Fifo
  in_fifo x source e o = on_own (Place.Fifo x) source Kind.Fifo (calm_fifo p cap s x) e (λ f i g. o f g) (λ f i k g l. tt) (λ g. tt)

  in_own : (x : OwnPlace) (k : Kind) → Calm p cap s (Place.Own x) → ((g : Nums) → OwnO w cap x g) → Starts w p cap s (Place.Own x) p k
  in_own x k c o = on_own (Place.Own x) p k c refl (λ f i g. o g) (λ f i k g l. tt) (λ g. tt)

  to_book : (r : Rule) (k : Kind) → Starts w p cap s (Place.Book (BookingCall.Drain r) (booking k)) p k
  to_book r k = record {
    calm = record { waits_no = refl; hand_no = refl; holds_no = λ y. refl };
    source_is = refl;
    own = λ f i g. tt;
    bkr = λ f i k₂ g l e. first k k₂ f (limit_of w (BookingCall.Drain r)) g (e refl);
    still = λ g. starts k g;
  }
    where
      first : (k k₂ : Kind) (fm limit : ℕ) (g : Nums) → k₂ ≡ k → BkB w fm limit (booking k) k₂ g
      first Kind.Lifo k₂ fm limit g e = e
      first Kind.Fifo k₂ fm limit g e = e

      starts : (k : Kind) (g : Nums) → BookStill w (booking k) g
      starts Kind.Lifo g = tt
      starts Kind.Fifo g = tt

  start_lifo_lem : (c : Call) → Starts w p cap s (start Kind.Lifo c) (call_source p c) Kind.Lifo
  start_lifo_lem (Call.Push t) = in_lifo _ p refl (λ g. refl)
  start_lifo_lem Call.Pop = in_lifo _ p refl (λ g. refl)
  start_lifo_lem Call.Extend = in_lifo _ p refl (λ g. refl)
  start_lifo_lem (Call.Drain r) = to_book r Kind.Lifo
  start_lifo_lem Call.Next = in_own OwnPlace.NextItem Kind.Lifo (record { waits_no = refl; hand_no = refl; holds_no = λ y. refl }) (λ g. tt)
  start_lifo_lem Call.Drop = in_own OwnPlace.DropItem Kind.Lifo (record { waits_no = refl; hand_no = refl; holds_no = λ y. refl }) (λ g. tt)
  start_lifo_lem (Call.Steal x r) = in_lifo _ x refl (λ g. refl)
  start_lifo_lem (Call.Take x r) = in_lifo _ x refl (λ g. refl)
  start_lifo_lem Call.Spare = in_lifo _ p refl (λ g. refl)
  start_lifo_lem Call.Empty = in_lifo _ p refl (λ g. refl)

  start_fifo_lem : (c : Call) → Starts w p cap s (start Kind.Fifo c) (call_source p c) Kind.Fifo
  start_fifo_lem (Call.Push t) = in_fifo _ p refl (λ f g. refl)
  start_fifo_lem Call.Pop = in_fifo _ p refl (λ f g. refl)
  start_fifo_lem Call.Extend = in_fifo _ p refl (λ f g. refl)
  start_fifo_lem (Call.Drain r) = to_book r Kind.Fifo
  start_fifo_lem Call.Next = in_own OwnPlace.NextItem Kind.Fifo (record { waits_no = refl; hand_no = refl; holds_no = λ y. refl }) (λ g. tt)
  start_fifo_lem Call.Drop = in_own OwnPlace.DropItem Kind.Fifo (record { waits_no = refl; hand_no = refl; holds_no = λ y. refl }) (λ g. tt)
  start_fifo_lem (Call.Steal x r) = in_fifo _ x refl (λ f g. refl)
  start_fifo_lem (Call.Take x r) = in_fifo _ x refl (λ f g. refl)
  start_fifo_lem Call.Spare = in_fifo _ p refl (λ f g. refl)
  start_fifo_lem Call.Empty = in_fifo _ p refl (λ f g. refl)

pub starts : (w p cap : ℕ) (s : List ℕ) (k : Kind) (c : Call) → Starts w p cap s (start k c) (call_source p c) k
starts w p cap s Kind.Lifo c = start_lifo_lem w p cap s c
starts w p cap s Kind.Fifo c = start_fifo_lem w p cap s c

-- ---- the place changed

module _ (w : ℕ) {r : Run} (b : Good w r) (p : ℕ) (pn : p < r.machine.parties) (pl : Place) (source : ℕ)
    (sn : source < r.machine.parties)
    (idle : (b.members p).pl ≡ Place.Idle) (st : Starts w p (b.cells p).cap (b.cells p).s pl source (b.cells p).kind) where
  m₂ : Member
  m₂ = record {
    pl = pl;
    bl = pl;
    drain = (b.members p).drain;
    hand = (b.members p).hand;
    items = (b.members p).items;
    fm = 0;
    fill = 0;
  }

  old : OwnF w (b.members p).fill (b.members p).items (b.members p).hand Place.Idle (b.cells p).kind (b.cells p).cap (b.cells p).s
      (b.cells p).g (b.cells p).l
  old = subst (λ (z : Place). OwnF w (b.members p).fill (b.members p).items (b.members p).hand z (b.cells p).kind
      (b.cells p).cap (b.cells p).s (b.cells p).g (b.cells p).l) idle (b.inv.own p)

  own₂ : Own w r.machine.parties m₂ (b.cells p)
  unfolding m₂
  own₂ = record {
    wait_is = old.wait_is ∙ ap (tokens (b.cells p).cap (b.cells p).s (tail (b.cells p).g)) (sym st.calm.waits_no);
    hand_is = old.hand_is ∙ sym st.calm.hand_no;
    at = st.own 0 (b.members p).items (b.cells p).g;
  }

  bkr₂ : Bkr w r.machine.parties p m₂ (b.cells (source_of p pl))
  unfolding m₂
  bkr₂ =
      st.bkr 0 (b.members p).items (b.cells (source_of p pl)).kind (b.cells (source_of p pl)).g
      (b.cells (source_of p pl)).l
      (λ e. ap (λ (z : ℕ). (b.cells z).kind) (st.source_is ∙ e))

  inv₂ : MInv w r.machine.parties b.cells (update b.members p m₂)
  unfolding m₂
  inv₂ = record {
    ok = b.inv.ok;
    own = λ z. update_elim b.members p m₂ (λ (m : Member). Own w r.machine.parties m (b.cells z)) z
        (λ e. subst (λ (v : ℕ). Own w r.machine.parties m₂ (b.cells v)) (sym e) own₂) (λ _. b.inv.own z);
    bkr =
        λ z. update_elim b.members p m₂ (λ (m : Member). Bkr w r.machine.parties z m (b.cells (source_of z m.bl))) z
        (λ e. subst (λ (v : ℕ). Bkr w r.machine.parties v m₂ (b.cells (source_of v pl))) (sym e) bkr₂) (λ _. b.inv.bkr z);
    drn =
        λ z. update_elim b.members p m₂ (λ (m : Member). Drn w r.machine.parties z m (b.cells z)) z
        (λ e. subst (λ (v : ℕ). Drn w r.machine.parties v m₂ (b.cells v)) (sym e) (b.inv.drn p)) (λ _. b.inv.drn z);
    claim =
        λ z y. update_elim b.members p m₂ (λ (m : Member). Claim w r.machine.parties z y m (b.cells y)) z
        (λ e. subst (λ (v : ℕ). Claim w r.machine.parties v y m₂ (b.cells y)) (sym e)
        (λ h. let c = b.inv.claim p y h in
        (c.0, rw (st.calm.holds_no y) (subst (λ (v : Place). held w p v (b.members p).drain y ≡ true) (b.both p ∙ idle) c.1))))
        (λ _. b.inv.claim z y);
  }

  fits₂ : Fits w (with_party r.machine p (record { place = pl; drain = (party_at r.machine p).drain })) r.items b.cells
      (update b.members p m₂)
  unfolding m₂
  fits₂ =
      let ed = ap (λ (v : Party). v.drain) (b.fits.p_are p pn) in
      record {
        q_are = b.fits.q_are;
        s_are = b.fits.s_are;
        p_are =
            λ z lt. list_update idle_party r.machine.party p (record { place = pl; drain = (party_at r.machine p).drain })
            (omega (arith, b.fits.long_p)) z
            ∙ update_elim (party_at r.machine) p (record { place = pl; drain = (party_at r.machine p).drain })
            (λ (v : Party). v ≡ record { place = (update b.members p m₂ z).pl; drain = (update b.members p m₂ z).drain }) z
            (λ e. let em = ap (update b.members p m₂) e ∙ update_same b.members p m₂ in
            λ i. record { place = (sym em i).pl; drain = (ed ∙ ap (λ (m : Member). m.drain) (sym em)) i })
            (λ ne. b.fits.p_are z lt ∙ ap (λ (m : Member). record { place = m.pl; drain = m.drain }) (sym (update_other b.members p
            m₂ z ne)));
        sources =
            λ z lt. update_elim b.members p m₂ (λ (m : Member). source_of z m.pl < r.machine.parties) z
            (λ e. subst (λ (v : ℕ). source_of v pl < r.machine.parties) (sym e)
            (subst (λ (v : ℕ). v < r.machine.parties) (sym st.source_is) sn)) (λ _. b.fits.sources z lt);
        long_q = b.fits.long_q;
        long_p = omega (
          arith,
          length-set r.machine.party p (record { place = pl; drain = (party_at r.machine p).drain }),
          b.fits.long_p,
        );
        lent = b.fits.lent;
      }

  pub good_placed : Good w (record {
    machine = with_party r.machine p (record { place = pl; drain = (party_at r.machine p).drain });
    items = r.items;
    record' = r.record';
    notes = begun_notes p r.notes;
  })
  unfolding m₂
  good_placed = record {
    cells = b.cells;
    members = update b.members p m₂;
    inv = inv₂;
    both = λ z. update_elim b.members p m₂ (λ (m : Member). m.bl ≡ m.pl) z (λ _. refl) (λ _. b.both z);
    fits = fits₂;
    out = b.out;
    gone = b.gone;
    possible =
        b.possible
        ∙ ap lists (plain_ext b.cells (update b.members p m₂) (plain_of b.cells b.members b.out b.gone) (λ y. refl)
        (λ z. sym (column_s (λ (m : Member). m.hand) b.members p m₂ refl z)));
    moved_are = b.moved_are;
    first_are = λ z. sym (column (λ (m : Member). m.fm) b.members r.notes.first (λ v. sym (b.first_are v)) p m₂ 0 refl z);
    fill_are = λ z. sym (column (λ (m : Member). m.fill) b.members r.notes.fill (λ v. sym (b.fill_are v)) p m₂ 0 refl z);
    still =
        λ z lt e. update_elim b.members p m₂ (λ (m : Member). Still w m.pl (b.cells (source_of z m.pl)).g) z
        (λ _. st.still (b.cells (source_of z pl)).g) (λ ne. b.still z lt (sym (update_other r.notes.opened p false z ne) ∙ e));
  }
