-- Where a row leads: its next place names the same source, or the call ends; it is one that its kind's tables have; a call that has
-- not answered is under way; and how many effects can still come falls with each.
use Prim.Native.Nat.{ℕ, ◌+◌, ◌-◌, ◌≤◌}
use mathlib.Core.Path.{◌≡◌, refl, sym, ap, ◌∙◌}
use mathlib.Core.Bool.{Bool, true, false, not, true≢false}
use mathlib.Core.Logic.{◌⊎◌, inl, inr}
use native.Mathlib.Omega.{arith}
use lib.Dec.{ltb, eqb}
use Rattle.std.specs.Prelude.{Option, Some, None}
use Rattle.words.specs.Word.{pick, plus, minus, high, low, least_of}
use Rattle.tables.specs.declared.access.Context.{Context}
use Rattle.tables.specs.declared.access.Next.{Next}
use Rattle.tables.specs.declared.access.Seen.{Seen}
use Rattle.tables.specs.declared.answer.Answer.{Answer}
use Rattle.tables.specs.declared.answer.Change.{Change}
use Rattle.tables.specs.declared.call.Mark.{Mark}
use Rattle.tables.specs.declared.state.Kind.{Kind}
use Rattle.tables.specs.declared.place.BookPlace.{BookPlace}
use Rattle.tables.specs.declared.place.BookedTokens.{BookedTokens}
use Rattle.tables.specs.declared.place.BookingCall.{BookingCall}
use Rattle.tables.specs.declared.place.ClosePlace.{ClosePlace}
use Rattle.tables.specs.declared.place.ClosingCall.{ClosingCall}
use Rattle.tables.specs.declared.place.FifoPlace.{FifoPlace}
use Rattle.tables.specs.declared.place.LifoPlace.{LifoPlace}
use Rattle.tables.specs.declared.place.MovePlace.{MovePlace}
use Rattle.tables.specs.declared.place.OwnPlace.{OwnPlace}
use Rattle.tables.specs.declared.place.OwnerCall.{OwnerCall}
use Rattle.tables.specs.declared.place.Place.{Place}
use Rattle.tables.specs.declared.place.RoomCall.TheVariants as RoomCall
use Rattle.tables.specs.declared.place.Transfer.{Transfer}
use Rattle.tables.specs.Rule.{ruled}
use Rattle.tables.specs.Answer.{is_pending}
use Rattle.tables.specs.Effect.{drops_of}
use Rattle.tables.specs.Row.{Row, on, ends}
use Rattle.tables.specs.Table.{booking, closing, filled, counted, booked, limit_of, rule_of, extend_row, own_row, move_row, landed, last_read, last_written, ending}
use Rattle.tables.specs.LifoTable.{tail_of, rest_of, lifo_row, pop_test}
use Rattle.tables.specs.FifoTable.{fifo_row}
use Rattle.tables.specs.Tables.{book_row, close_row, row_of, is_idle, source_of, is_kind, book_kind, close_kind, has_place, booking_source, closing_source, wish_of, wishes}
use Rattle.tables.proofs.Bools.{pick_if}
use Rattle.tables.proofs.Maybe.{effects, drops_maybe}
use Rattle.tables.proofs.Left.{left_to_fill, left_at_lifo, left_to_book, left, drops_at}

-- from a place on, for a party and what it sees, by the kind of each queue
pub record Goes (ks : ℕ → Kind) (who : ℕ) (s : Context) (p : Place) (n : Next) : Type 0 where
  -- the call ends, or its source stays
  pub source : (is_idle n.place ≡ true) ⊎ (source_of who n.place ≡ source_of who p)
  -- the tables have the next place where they have this one
  pub kind : s.kind ≡ ks who → s.from ≡ ks (source_of who p) → has_place (ks who) (ks (source_of who p)) p ≡ true
      → has_place (ks who) (ks (source_of who n.place)) n.place ≡ true
  -- a call is over where it answers, and only there
  pub over : is_idle p ≡ false → is_idle n.place ≡ not (is_pending n.answer)
  -- what was left of effects, this one and the rest
  pub fewer : wishes (wish_of p) ≡ false → drops_at p ≡ false → effects n.change + left n.place ≤ left p
  -- only the dropping place drops, and nothing leads there
  pub onto : drops_at p ≡ false → drops_at n.place ≡ false
  pub sole : drops_at p ≡ false → drops_maybe n.change ≡ 0

booking_kind : (k : Kind) → is_kind k (book_kind (booking k)) ≡ true
booking_kind Kind.Lifo = refl
booking_kind Kind.Fifo = refl

closing_kind : (k : Kind) (head : ℕ) → is_kind k (close_kind (closing k head)) ≡ true
closing_kind Kind.Lifo head = refl
closing_kind Kind.Fifo head = refl

module _ (ks : ℕ → Kind) (who w : ℕ) (s : Context) where
  -- an answer
  ended : {p : Place} {a : Answer} {d : Option Change} → effects d ≤ left p → drops_maybe d ≡ 0 → Goes ks who s p (ends s a d)
  ended l z = record {
    source = inl refl;
    kind = λ k f h. refl;
    over = λ h. refl;
    fewer = λ h i. omega arith;
    onto = λ h. refl;
    sole = λ h. z;
  }

  -- on at another place with the same source
  went : {p n : Place} {d : Option Change} → is_idle n ≡ false → source_of who n ≡ source_of who p
      → (s.kind ≡ ks who → s.from ≡ ks (source_of who p) → has_place (ks who) (ks (source_of who p)) p ≡ true → has_place (ks who)
      (ks (source_of who n)) n ≡ true)
      → effects d + left n ≤ left p → drops_at n ≡ false → drops_maybe d ≡ 0 → Goes ks who s p (on s n d)
  went i e k l f z = record { source = inr e; kind = k; over = λ h. i; fewer = λ h j. l; onto = λ h. f; sole = λ h. z }

  to_filled : (f : OwnerCall) (p : Place) → source_of who p ≡ who → left_to_fill f ≤ left p → (word pops tail head : ℕ)
      → Goes ks who s p (filled w s f word pops tail head)
  to_filled (OwnerCall.Push t) p e l word pops tail head =
      pick_if (Goes ks who s p) (ltb (s.capacity - 1) (minus w tail head)) (λ h. ended (omega arith) refl)
      (λ h. went refl (sym e) (λ k f i. refl) (omega arith) refl refl)
  to_filled OwnerCall.Extend p e l word pops tail head =
      pick_if (λ (o : OwnPlace). Goes ks who s p (on s (Place.Own o) None)) (eqb tail (plus w head s.capacity))
      (λ h. went refl (sym e) (λ k f i. refl) (omega arith) refl refl)
      (λ h. went refl (sym e) (λ k f i. refl) (omega arith) refl refl)
  to_filled OwnerCall.Spare p e l word pops tail head = ended (omega arith) refl

  to_booking : (p : Place) (g : BookingCall) → booking_source who g ≡ source_of who p → left_to_book g ≤ left p
      → Goes ks who s p (on s (Place.Book g (booking s.from)) None)
  to_booking p g e l =
      went refl e
      (λ k f h. ap (λ (q : ℕ). is_kind (ks q) (book_kind (booking s.from))) e ∙ rw f (booking_kind (ks (source_of who p))))
      (omega arith) refl refl

  to_pop : (p : ℕ) (n : LifoPlace) (tail : ℕ) → source_of who (Place.Lifo n) ≡ who → 1 ≤ left_at_lifo n
      → Goes ks who s (Place.Lifo n) (pop_test w s p tail)
  to_pop p n tail e l =
      pick_if (Goes ks who s (Place.Lifo n)) (eqb tail (low w p)) (λ h. ended (omega arith) refl)
      (λ h. went refl (sym e) (λ k f i. i) (omega arith) refl refl)

  from_lifo : (p : LifoPlace) (x : Seen) → Goes ks who s (Place.Lifo p) ((lifo_row w s p).after x)
  from_lifo (LifoPlace.LoadPushes j) x = went refl refl (λ k f h. h) (omega arith) refl refl
  from_lifo (LifoPlace.LoadPacked j n) x = went refl refl (λ k f h. h) (omega arith) refl refl
  from_lifo (LifoPlace.LoadCompleted (RoomCall.Owner i) n p) x = to_filled i (Place.Lifo (LifoPlace.LoadCompleted (RoomCall.Owner i) n p)) refl (omega arith) _ _ _ _
  from_lifo (LifoPlace.LoadCompleted (RoomCall.Transfer e) n p) x =
      to_booking (Place.Lifo (LifoPlace.LoadCompleted (RoomCall.Transfer e) n p))
      (BookingCall.Transfer e (record { word = n; tail = tail_of w n p; room = minus w s.capacity (minus w (tail_of w n p) x.word) })) refl
      (omega arith)
  from_lifo LifoPlace.PopPacked x = went refl refl (λ k f h. h) (omega arith) refl refl
  from_lifo (LifoPlace.PopPushes p) x = to_pop p (LifoPlace.PopPushes p) (tail_of w x.word p) refl (omega arith)
  from_lifo (LifoPlace.PopCas p t) x =
      pick_if (Goes ks who s (Place.Lifo (LifoPlace.PopCas p t))) x.stored
      (λ h. went refl refl (λ k f i. refl) (omega arith) refl refl)
      (λ h. to_pop x.packed (LifoPlace.PopCas p t) t refl (omega arith))
  from_lifo LifoPlace.EmptyPushes x = went refl refl (λ k f h. h) (omega arith) refl refl
  from_lifo (LifoPlace.EmptyPacked n) x =
      ended (omega arith) refl

  from_fifo : (p : FifoPlace) (x : Seen) → Goes ks who s (Place.Fifo p) ((fifo_row w s p).after x)
  from_fifo (FifoPlace.LoadPacked i) x = went refl refl (λ k f h. h) (omega arith) refl refl
  from_fifo (FifoPlace.LoadTail i p) x = to_filled i (Place.Fifo (FifoPlace.LoadTail i p)) refl (omega arith) _ _ _ _
  from_fifo (FifoPlace.DestTail e) x = went refl refl (λ k f h. h) (omega arith) refl refl
  from_fifo (FifoPlace.DestPacked e t) x =
      to_booking (Place.Fifo (FifoPlace.DestPacked e t))
      (BookingCall.Transfer e (record { word = t; tail = t; room = minus w s.capacity (minus w t (low w x.packed)) })) refl (omega arith)
  from_fifo FifoPlace.PopPacked x = went refl refl (λ k f h. h) (omega arith) refl refl
  from_fifo (FifoPlace.PopTail p) x =
      pick_if (Goes ks who s (Place.Fifo (FifoPlace.PopTail p))) (eqb x.word (high w p)) (λ h. ended (omega arith) refl)
      (λ h. went refl refl (λ k f i. i) (omega arith) refl refl)
  from_fifo (FifoPlace.PopCas p) x =
      pick_if (Goes ks who s (Place.Fifo (FifoPlace.PopCas p))) x.stored
      (λ h. went refl refl (λ k f i. refl) (omega arith) refl refl)
      (λ h. went refl refl (λ k f i. i) (omega arith) refl refl)
  from_fifo FifoPlace.EmptyPacked x = went refl refl (λ k f h. h) (omega arith) refl refl
  from_fifo (FifoPlace.EmptyTail p) x = ended (omega arith) refl

  from_own : (p : OwnPlace) (x : Seen) → Goes ks who s (Place.Own p) ((own_row w s p).after x)
  from_own (OwnPlace.PushWrite t word tail) x = went refl refl (λ k f h. h) (omega arith) refl refl
  from_own (OwnPlace.PushStore word) x = ended (omega arith) refl
  from_own (OwnPlace.ExtendMore pops tail limit j) x = more s.mark
    where
      wished : {o : OwnPlace} {t : ℕ} → drops_at (Place.Own o) ≡ false
          → Goes ks who s (Place.Own (OwnPlace.ExtendMore pops tail limit j)) (on s (Place.Own o) (Some (Change.Offered t)))
      wished d = record {
        source = inr refl;
        kind = λ k f i. refl;
        over = λ i. refl;
        fewer = λ i. absurd (true≢false i);
        onto = λ i. d;
        sole = λ i. refl;
      }

      more : (m : Mark) → Goes ks who s (Place.Own (OwnPlace.ExtendMore pops tail limit j)) ((extend_row w s m pops tail limit j).after x)
      more (Mark.Carry t) =
          pick_if
          (λ (o : OwnPlace). Goes ks who s (Place.Own (OwnPlace.ExtendMore pops tail limit j))
          (on s (Place.Own o) (Some (Change.Offered t))))
          (eqb (plus w tail 1) limit)
          (λ h. wished refl) (λ h. wished refl)
      more Mark.End = went refl refl (λ k f h. h) (omega arith) refl refl
      more Mark.Plain = went refl refl (λ k f h. h) (omega arith) refl refl
      more Mark.Weak = went refl refl (λ k f h. h) (omega arith) refl refl
  from_own (OwnPlace.ExtendStore pops tail j) x = ended (omega arith) refl
  from_own (OwnPlace.PopRead at) x = ended (omega arith) refl
  from_own OwnPlace.NextItem x =
      pick_if (λ (r : Row). Goes ks who s (Place.Own OwnPlace.NextItem) (r.after x)) (eqb s.drain.at s.drain.end)
      (λ h. ended (omega arith) refl) (λ h. one (eqb (plus w s.drain.at 1) s.drain.end))
    where
      one : (t : Bool) → Goes ks who s (Place.Own OwnPlace.NextItem) (record {
        place = pick t (Place.Close (ClosingCall.Next x.token) (closing s.kind s.drain.end)) Place.Idle;
        drain = record { at = plus w s.drain.at 1; end = s.drain.end };
        answer = pick t None (Some (Answer.Item x.token));
        change = Some Change.Drained;
      })
      one true =
          record {
            source = inr refl;
            kind = λ k f i. rw k (closing_kind (ks who) s.drain.end);
            over = λ i. refl;
            fewer = λ i j. omega arith;
            onto = λ i. refl;
            sole = λ i. refl;
          }
      one false =
          record {
            source = inl refl;
            kind = λ k f i. refl;
            over = λ i. refl;
            fewer = λ i j. omega arith;
            onto = λ i. refl;
            sole = λ i. refl;
          }
  from_own OwnPlace.DropItem x =
      pick_if (λ (r : Row). Goes ks who s (Place.Own OwnPlace.DropItem) (r.after x)) (eqb s.drain.at s.drain.end)
      (λ h. ended (omega arith) refl) (λ h. one (eqb (plus w s.drain.at 1) s.drain.end))
    where
      one : (t : Bool) → Goes ks who s (Place.Own OwnPlace.DropItem) (record {
        place = pick t (Place.Close ClosingCall.Drop (closing s.kind s.drain.end)) (Place.Own OwnPlace.DropItem);
        drain = record { at = plus w s.drain.at 1; end = s.drain.end };
        answer = None;
        change = Some (Change.Dropped 1);
      })
      one true =
          record {
            source = inr refl;
            kind = λ k f i. rw k (closing_kind (ks who) s.drain.end);
            over = λ i. refl;
            fewer = λ i j. absurd (true≢false j);
            onto = λ i. refl;
            sole = λ i. absurd (true≢false i);
          }
      one false =
          record {
            source = inr refl;
            kind = λ k f i. refl;
            over = λ i. refl;
            fewer = λ i j. absurd (true≢false j);
            onto = λ i. i;
            sole = λ i. absurd (true≢false i);
          }

  -- counted at a booking place
  to_counted : (g : BookingCall) (b : BookPlace) (n : ℕ) (cas : ℕ → BookPlace) → ((k : ℕ) → book_kind (cas k) ≡ book_kind b)
      → Goes ks who s (Place.Book g b) (counted w s g n cas)
  to_counted g b n cas e =
      pick_if (Goes ks who s (Place.Book g b)) (eqb n 0) (λ h. ended (omega arith) refl)
      (λ h. pick_if (Goes ks who s (Place.Book g b)) (eqb (least_of (ruled (rule_of g) s.mark n) (limit_of w g) n) 0)
      (λ i. ended (omega arith) refl)
      (λ i. went refl refl (λ k f j. rw e j) (omega arith) refl refl))

  to_booked : (g : BookingCall) (b : BookPlace) (head k : ℕ) → Goes ks who s (Place.Book g b) (booked w s g head k)
  to_booked (BookingCall.Transfer e d) b head k = went refl refl (λ k f h. refl) (omega arith) refl refl
  to_booked (BookingCall.Drain r) b head k =
      record { source = inl refl; kind = λ k f h. refl; over = λ h. refl; fewer = λ h i. omega arith; onto = λ h. refl; sole = λ h. refl }

  -- busy, or on at another booking place of the kind
  to_tested : (g : BookingCall) (b c : BookPlace) (t : Bool) → book_kind c ≡ book_kind b
      → Goes ks who s (Place.Book g b) (pick t (on s (Place.Book g c) None) (ends s Answer.Busy None))
  to_tested g b c t e =
      pick_if (Goes ks who s (Place.Book g b)) t (λ h. went refl refl (λ k f i. rw e i) (omega arith) refl refl)
      (λ h. ended (omega arith) refl)

  from_book : (g : BookingCall) (p : BookPlace) (x : Seen) → Goes ks who s (Place.Book g p) ((book_row w s g p).after x)
  from_book g BookPlace.LifoPacked x = went refl refl (λ k f h. h) (omega arith) refl refl
  from_book g (BookPlace.LifoCompleted p) x = to_tested g (BookPlace.LifoCompleted p) (BookPlace.LifoPushes p x.word) (eqb x.word (low w p)) refl
  from_book g (BookPlace.LifoPushes p d) x = to_counted g (BookPlace.LifoPushes p d) (rest_of w x.word p) (λ k. BookPlace.LifoCas p d k) (λ k. refl)
  from_book g (BookPlace.LifoCas p d k) x =
      pick_if (Goes ks who s (Place.Book g (BookPlace.LifoCas p d k))) x.stored (λ h. to_booked g (BookPlace.LifoCas p d k) (low w p) k)
      (λ h. to_tested g (BookPlace.LifoCas p d k) (BookPlace.LifoPushes x.packed d) (eqb d (low w x.packed)) refl)
  from_book g BookPlace.FifoPacked x = to_tested g BookPlace.FifoPacked (BookPlace.FifoTail x.packed) (eqb (high w x.packed) (low w x.packed)) refl
  from_book g (BookPlace.FifoTail p) x = to_counted g (BookPlace.FifoTail p) (minus w x.word (high w p)) (λ k. BookPlace.FifoCas p k) (λ k. refl)
  from_book g (BookPlace.FifoCas p k) x =
      pick_if (Goes ks who s (Place.Book g (BookPlace.FifoCas p k))) x.stored (λ h. to_booked g (BookPlace.FifoCas p k) (high w p) k)
      (λ h. to_tested g (BookPlace.FifoCas p k) (BookPlace.FifoTail x.packed) (eqb (high w x.packed) (low w x.packed)) refl)

  ending_source : (h : Transfer) (t : BookedTokens) (last : ℕ) → closing_source who (ending w h t last) ≡ t.source
  ending_source Transfer.Steal t last = refl
  ending_source Transfer.Take t last = refl

  landed_drops : (h : Transfer) (t : BookedTokens) → drops_of (landed w h t) ≡ 0
  landed_drops Transfer.Steal t = refl
  landed_drops Transfer.Take t = refl

  from_move : (p : MovePlace) (x : Seen) → Goes ks who s (Place.Move p) ((move_row w s p).after x)
  from_move (MovePlace.ReadSlot t j) x =
      pick_if (λ (n : MovePlace). Goes ks who s (Place.Move (MovePlace.ReadSlot t j)) (on s (Place.Move n) None))
      (last_read w t.transfer t j)
      (λ h. went refl refl (λ k f i. i) (omega arith) refl refl)
      (λ h. went refl refl (λ k f i. i) (omega arith) refl refl)
  from_move (MovePlace.WriteSlot t j token) x =
      pick_if (λ (n : MovePlace). Goes ks who s (Place.Move (MovePlace.WriteSlot t j token)) (on s (Place.Move n) None))
      (last_written w t.transfer t j)
      (λ h. went refl refl (λ k f i. i) (omega arith) refl refl)
      (λ h. went refl refl (λ k f i. i) (omega arith) refl refl)
  from_move (MovePlace.Land t last) x =
      went
      refl (ending_source t.transfer t last)
      (λ k f h. ap (λ (q : ℕ). is_kind (ks q) (close_kind (closing s.from (plus w t.from t.count)))) (ending_source t.transfer t last)
      ∙ rw f (closing_kind (ks t.source) (plus w t.from t.count))) (omega arith) refl
      (landed_drops t.transfer t)

  from_close : (e : ClosingCall) (p : ClosePlace) (x : Seen) → Goes ks who s (Place.Close e p) ((close_row w s e p).after x)
  from_close e (ClosePlace.StoreCompleted head) x = ended (omega arith) refl
  from_close e ClosePlace.LoadHeads x = went refl refl (λ k f h. h) (omega arith) refl refl
  from_close e (ClosePlace.CasHeads p) x =
      pick_if (Goes ks who s (Place.Close e (ClosePlace.CasHeads p))) x.stored (λ h. ended (omega arith) refl)
      (λ h. went refl refl (λ k f i. i) (omega arith) refl refl)

  -- every row
  pub goes : (p : Place) (x : Seen) → Goes ks who s p ((row_of w s p).after x)
  goes Place.Idle x =
      record {
        source = inl refl;
        kind = λ k f h. refl;
        over = λ h. absurd (true≢false h);
        fewer = λ h i. omega arith;
        onto = λ h. refl;
        sole = λ h. refl;
      }
  goes (Place.Lifo p) x = from_lifo p x
  goes (Place.Fifo p) x = from_fifo p x
  goes (Place.Own p) x = from_own p x
  goes (Place.Book g p) x = from_book g p x
  goes (Place.Move p) x = from_move p x
  goes (Place.Close e p) x = from_close e p x

-- ---- the laws one by one, for any context and whatever was seen

module _ (w who : ℕ) (s : Context) (p : Place) (x : Seen) where
  pub next_source : (is_idle ((row_of w s p).after x).place ≡ true) ⊎ (source_of who ((row_of w s p).after x).place ≡ source_of who p)
  next_source = (goes (λ q. Kind.Lifo) who w s p x).source

  pub next_kind : (ks : ℕ → Kind) → s.kind ≡ ks who → s.from ≡ ks (source_of who p) → has_place (ks who) (ks (source_of who p)) p ≡ true
      → has_place (ks who) (ks (source_of who ((row_of w s p).after x).place)) ((row_of w s p).after x).place ≡ true
  next_kind ks = (goes ks who w s p x).kind

  -- a call is over where it answers, and only there
  pub next_over : is_idle p ≡ false → is_idle ((row_of w s p).after x).place ≡ not (is_pending ((row_of w s p).after x).answer)
  next_over = (goes (λ q. Kind.Lifo) who w s p x).over
