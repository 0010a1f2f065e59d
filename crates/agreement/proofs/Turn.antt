-- Every step of every place keeps the tables' invariant: place by place, by a step of the own queue, of the source, or a landing. The premise
-- is asked of booking places alone.
use mathlib.Core.Path.{◌≡◌, refl, sym, subst}
use Prim.Native.Nat.{ℕ, ◌+◌, ◌^◌, ◌<◌}
use Rattle.std.specs.Prelude.{None}
use Rattle.tables.specs.declared.access.Context.{Context}
use Rattle.tables.specs.declared.access.Whose.{Whose}
use Rattle.tables.specs.declared.call.Mark.{Mark}
use Rattle.tables.specs.declared.place.BookPlace.{BookPlace}
use Rattle.tables.specs.declared.place.BookingCall.{BookingCall}
use Rattle.tables.specs.declared.place.ClosePlace.{ClosePlace}
use Rattle.tables.specs.declared.place.ClosingCall.{ClosingCall}
use Rattle.tables.specs.declared.place.MovePlace.{MovePlace}
use Rattle.tables.specs.declared.place.Place.{Place}
use Rattle.tables.specs.Row.{Row}
use Rattle.tables.specs.Tables.{row_of, book_row, close_row, source_of, booking_source, closing_source}
use Rattle.tables.specs.Table.{own_row, move_row}
use Rattle.tables.specs.LifoTable.{lifo_row}
use Rattle.tables.specs.FifoTable.{fifo_row}
use Rattle.tables.specs.Step.{site}
use Rattle.tables.specs.Causes.{PlacePremise}
use Rattle.agreement.proofs.Nums.{call}
use Rattle.agreement.proofs.Facts.{OwnF, BkF, closing_who}
use Rattle.agreement.proofs.OwnFill.{context_of, stay}
use Rattle.agreement.proofs.OwnLifo.{did, lifo_any}
use Rattle.agreement.proofs.OwnFifo.{fifo_any}
use Rattle.agreement.proofs.OwnSteps.{lifo_mine, fifo_mine, own_mine, own_step, write_step}
use Rattle.agreement.proofs.Booked.{booking_who, booking_mine}
use Rattle.agreement.proofs.Book.{book_step}
use Rattle.agreement.proofs.Close.{read_step, closing_mine, close_step}
use Rattle.agreement.proofs.Cells.{Cell, Member, MInv, Ran}
use Rattle.agreement.proofs.Turns.{own_go}
use Rattle.agreement.proofs.Sources.{src_go}
use Rattle.agreement.proofs.Land.{land_go}

-- a row's step at queue x
abbrev pub RanRow : (w n : ℕ) → (ℕ → Cell) → (ℕ → Member) → (p : ℕ) → Place → Mark → Row → (x : ℕ) → Type 0
RanRow w n cells members p pl mark row x =
    Ran w n cells members p pl mark x (did w (cells x).kind (cells x).cap (cells x).s (cells x).g row mark)
    (row.after (did w (cells x).kind (cells x).cap (cells x).s (cells x).g row mark).seen)

abbrev pub context_at : (ℕ → Cell) → (ℕ → Member) → (p : ℕ) → Place → Mark → Context
context_at cells members p pl mark = context_of (cells p).kind (cells p).cap (cells (source_of p pl)).kind (members p).drain mark

book_theirs : (w : ℕ) (s : Context) (h : BookingCall) (b : BookPlace) → (book_row w s h b).whose ≡ Whose.Source
book_theirs w s h BookPlace.LifoPacked = refl
book_theirs w s h (BookPlace.LifoCompleted p) = refl
book_theirs w s h (BookPlace.LifoPushes p d) = refl
book_theirs w s h (BookPlace.LifoCas p d n) = refl
book_theirs w s h BookPlace.FifoPacked = refl
book_theirs w s h (BookPlace.FifoTail p) = refl
book_theirs w s h (BookPlace.FifoCas p n) = refl

close_theirs : (w : ℕ) (s : Context) (e : ClosingCall) (c : ClosePlace) → (close_row w s e c).whose ≡ Whose.Source
close_theirs w s e (ClosePlace.StoreCompleted h) = refl
close_theirs w s e ClosePlace.LoadHeads = refl
close_theirs w s e (ClosePlace.CasHeads p) = refl

module _ (w half n : ℕ) (two : 2 ^ w ≡ half + half) {cells : ℕ → Cell} {members : ℕ
    → Member} (inv : MInv w n cells members) (p : ℕ) (pn : p < n) (mark : Mark) where
  facts : (pl : Place) → (members p).pl ≡ pl → OwnF w (members p).fill (members p).items (members p).hand pl (cells p).kind (cells
      p).cap (cells p).s (cells p).g (cells p).l
  facts pl e = subst (λ (z : Place). OwnF w (members p).fill (members p).items (members p).hand z (cells p).kind (cells p).cap
      (cells p).s (cells p).g (cells p).l) e (inv.own p)

  at_source : (pl : Place) → (members p).bl ≡ pl → BkF w p (members p).fm (members p).items pl (cells (source_of p pl)).kind (cells
      (source_of p pl)).g (cells (source_of p pl)).l
  at_source pl e = subst (λ (z : Place). BkF w p (members p).fm (members p).items z (cells (source_of p z)).kind
      (cells (source_of p z)).g (cells (source_of p z)).l) e (inv.bkr p)

  at_site : (pl : Place) (row : Row) (h : Whose) → row.whose ≡ h → RanRow w n cells members p pl mark row (site h p (source_of p pl))
      → RanRow w n cells members p pl mark row (site row.whose p (source_of p pl))
  at_site pl row h e r = subst (λ (z : Whose). RanRow w n cells members p pl mark row (site z p (source_of p pl))) (sym e) r

  move_go : (x : MovePlace) → (members p).pl ≡ Place.Move x → (members p).bl ≡ Place.Move x
      → RanRow w n cells members p (Place.Move x) mark (move_row w (context_at cells members p (Place.Move x) mark) x)
      (site (move_row w (context_at cells members p (Place.Move x) mark) x).whose p (source_of p (Place.Move x)))
  move_go (MovePlace.ReadSlot t j) e₁ e₂ =
      src_go w n inv p pn (Place.Move (MovePlace.ReadSlot t j)) mark e₁ e₂ t.source refl (call p) refl _ _
      (read_step w p (members p).fm (members p).items (cells t.source).kind (members p).drain mark (inv.ok t.source) t j
      (at_source _ e₂) (cells p).kind (cells t.source).kind (cells p).cap) refl
  move_go (MovePlace.WriteSlot t j x) e₁ e₂ =
      own_go w n inv p (Place.Move (MovePlace.WriteSlot t j x)) mark e₁ e₂ _ _
      (write_step w p (members p).fill (members p).items (members p).hand (cells t.source).kind (cells p).kind (members p).drain
      (inv.ok p) mark t j x (facts _ e₁)) refl
  move_go (MovePlace.Land t last) e₁ e₂ = land_go w n inv p t last mark e₁ e₂ _ refl refl

  pub step_go : (pl : Place) → (members p).pl ≡ pl → (members p).bl ≡ pl
      → PlacePremise half pl (members p).fm (cells (source_of p pl)).g.moved
      → RanRow w n cells members p pl mark (row_of w (context_at cells members p pl mark) pl)
      (site (row_of w (context_at cells members p pl mark) pl).whose p (source_of p pl))
  step_go Place.Idle e₁ e₂ pr =
      own_go w n inv p Place.Idle mark e₁ e₂ _ _
      (let o = facts Place.Idle e₁ in
      stay w p (members p).items (cells p).kind (cells p).kind (inv.ok p) (members p).drain (members p).fill (members p).hand
      Place.Idle Place.Idle None _ refl
      (record { wait_is = o.wait_is; hand_is = o.hand_is; at = tt }) refl (λ fm g₂ l₂ _. tt) (λ y h. h) (λ g₂. tt) tt) refl
  step_go (Place.Lifo x) e₁ e₂ pr =
      at_site (Place.Lifo x) (lifo_row w (context_at cells members p (Place.Lifo x) mark) x) Whose.Own (lifo_mine w (context_at cells members p (Place.Lifo x) mark) x)
      (own_go w n inv p (Place.Lifo x) mark e₁ e₂ _ _ (lifo_any w p (members p).fill (members p).items (members p).hand
      (cells (source_of p (Place.Lifo x))).kind (members p).drain mark (cells p).kind (inv.ok p) x (facts _ e₁)) refl)
  step_go (Place.Fifo x) e₁ e₂ pr =
      at_site (Place.Fifo x) (fifo_row w (context_at cells members p (Place.Fifo x) mark) x) Whose.Own (fifo_mine w (context_at cells members p (Place.Fifo x) mark) x)
      (own_go w n inv p (Place.Fifo x) mark e₁ e₂ _ _ (fifo_any w p (members p).fill (members p).items (members p).hand
      (cells (source_of p (Place.Fifo x))).kind (members p).drain mark (cells p).kind (inv.ok p) x (facts _ e₁)) refl)
  step_go (Place.Own x) e₁ e₂ pr =
      at_site (Place.Own x) (own_row w (context_at cells members p (Place.Own x) mark) x) Whose.Own (own_mine w (context_at cells members p (Place.Own x) mark) x)
      (own_go w n inv p (Place.Own x) mark e₁ e₂ _ _ (own_step w p (members p).fill (members p).items (members p).hand (cells p).kind
      (cells p).kind (members p).drain (inv.ok p) mark x (inv.drn p) (facts _ e₁)) refl)
  step_go (Place.Book h b) e₁ e₂ pr =
      at_site (Place.Book h b) (book_row w (context_at cells members p (Place.Book h b) mark) h b) Whose.Source (book_theirs w (context_at cells members p (Place.Book h b) mark) h b)
      (src_go w n inv p pn (Place.Book h b) mark e₁ e₂ (booking_source p h) refl (booking_who p h) (booking_mine p h) _ _
      (book_step w half two p (members p).fm (members p).items (members p).drain mark (cells p).kind (cells p).cap h b
      (cells (booking_source p h)).kind (inv.ok (booking_source p h)) pr (at_source _ e₂)) refl)
  step_go (Place.Move x) e₁ e₂ pr = move_go x e₁ e₂
  step_go (Place.Close e c) e₁ e₂ pr =
      at_site (Place.Close e c) (close_row w (context_at cells members p (Place.Close e c) mark) e c) Whose.Source (close_theirs w (context_at cells members p (Place.Close e c) mark) e c)
      (src_go w n inv p pn (Place.Close e c) mark e₁ e₂ (closing_source p e) refl (closing_who p e) (closing_mine p e) _ _
      (close_step w p (members p).fm (members p).items (members p).drain mark (cells p).kind (cells (closing_source p e)).kind
      (cells p).cap e c (cells (closing_source p e)).kind (inv.ok (closing_source p e)) (at_source _ e₂)) refl)
