-- What one step has to show: of a step on the party's own queue, and of a step on its source.
use mathlib.Core.Path.{◌≡◌}
use mathlib.Core.Logic.{◌≢◌, ◌⊎◌}
use mathlib.Core.Bool.{true, false}
use mathlib.Core.List.{List, [], ◌∷◌, ◌++◌}
use Prim.Native.Nat.{ℕ, ◌+◌, ◌%◌, ◌^◌}
use lib.ListN.{length, take, drop, get_or}
use Rattle.std.specs.Prelude.{Option, Some, None}
use Rattle.words.specs.Word.{low}
use Rattle.tables.specs.declared.access.Next.{Next}
use Rattle.tables.specs.declared.answer.Answer.{Answer}
use Rattle.tables.specs.declared.answer.Change.{Change}
use Rattle.tables.specs.declared.call.Mark.{Mark}
use Rattle.tables.specs.declared.state.Drain.{Drain}
use Rattle.tables.specs.declared.state.Kind.{Kind}
use Rattle.tables.specs.declared.place.BookPlace.{BookPlace}
use Rattle.tables.specs.declared.place.BookingCall.{BookingCall}
use Rattle.tables.specs.declared.place.Place.{Place}
use Rattle.tables.specs.Access.{Accessed}
use Rattle.tables.specs.Table.{limit_of}
use Rattle.tables.specs.Tables.{source_of}
use Rattle.tables.specs.Answer.{Reason, nothing, none_rested, none_free, one_open, none_to_book, reason_of}
use Rattle.tables.specs.Lists.{party, is_open, Lists, offer, accept, pop, pop_from, book, leave, shut, in_front}
use Rattle.tables.specs.Causes.{at_booking, RuleGaveZero}
use Rattle.tables.proofs.Maybe.{hands_maybe, moves_maybe, lands_maybe, can_maybe}
use Rattle.agreement.proofs.Nums.{Who, noone, drain, holder_of, Nums, head}
use Rattle.agreement.proofs.Whole.{Whole, words_of, RO, RB, RH}
use Rattle.agreement.proofs.Facts.{OwnF, BkF, DrnF, held}

-- a change, if any, of the lists of its one queue (a landing is no such change), of the tokens in hand, of the ghost copy of what was
-- booked
abbrev pub changed : Kind → ℕ → Option Change → Lists → Lists
changed k p None l = l
changed k p (Some (Change.Offered t)) l = offer t l
changed k p (Some Change.Accepted) l = accept l
changed k p (Some Change.Popped) l = pop k l
changed k p (Some (Change.Booked n)) l = book p n l
changed k p (Some (Change.Landed n)) l = l
changed k p (Some (Change.TakeLanded n)) l = l
changed k p (Some Change.Drained) l = leave 1 l
changed k p (Some (Change.Dropped n)) l = leave n l
changed k p (Some Change.Closed) l = shut l

abbrev pub handed : Kind → Option Change → Lists → List ℕ → List ℕ
handed k None l h = h
handed k (Some (Change.Offered t)) l h = h
handed k (Some Change.Accepted) l h = h
handed k (Some Change.Popped) l h = h ++ (pop_from k l.resting ∷ [])
handed k (Some (Change.Booked n)) l h = h
handed k (Some (Change.Landed n)) l h = h
handed k (Some (Change.TakeLanded n)) l h = h ++ (get_or l.booked n 0 ∷ [])
handed k (Some Change.Drained) l h = h ++ (get_or l.booked 0 0 ∷ [])
handed k (Some (Change.Dropped n)) l h = h
handed k (Some Change.Closed) l h = h

abbrev pub Single : Option Change → Type 0
Single c = lands_maybe c ≡ false

abbrev pub items_after : Option Change → Lists → List ℕ → List ℕ
items_after None l x = x
items_after (Some (Change.Offered t)) l x = x
items_after (Some Change.Accepted) l x = x
items_after (Some Change.Popped) l x = x
items_after (Some (Change.Booked n)) l x = take n l.resting
items_after (Some (Change.Landed n)) l x = x
items_after (Some (Change.TakeLanded n)) l x = x
items_after (Some Change.Drained) l x = x
items_after (Some (Change.Dropped n)) l x = x
items_after (Some Change.Closed) l x = x

-- an answer, if any, hands out what it names
abbrev pub hand_over : Option Answer → List ℕ → List ℕ
hand_over a h = drop (length (hands_maybe a)) h

-- ---- the causes: an answer's, given those of full, none, busy and empty

abbrev pub WhyOf : (full none busy empty : Type 0) → Reason → Type 0
WhyOf f n b e nothing = Unit {0}
WhyOf f n b e none_rested = n
WhyOf f n b e none_free = f
WhyOf f n b e one_open = b
WhyOf f n b e none_to_book = e

abbrev pub Why : (full none busy empty : Type 0) → Option Answer → Type 0
Why f n b e a = WhyOf f n b e (reason_of a)

-- a LIFO booking whose loaded head is the head still
abbrev pub BookStill : ℕ → BookPlace → Nums → Type 0
BookStill w BookPlace.LifoPacked g = Unit {0}
BookStill w (BookPlace.LifoCompleted p) g = low w p ≡ head g % 2 ^ w
BookStill w (BookPlace.LifoPushes p d) g = low w p ≡ head g % 2 ^ w
BookStill w (BookPlace.LifoCas p d n) g = low w p ≡ head g % 2 ^ w
BookStill w BookPlace.FifoPacked g = Unit {0}
BookStill w (BookPlace.FifoTail p) g = Unit {0}
BookStill w (BookPlace.FifoCas p n) g = Unit {0}

abbrev pub Still : ℕ → Place → Nums → Type 0
Still w pl g = at_booking (Unit {0}) (λ h b. BookStill w b g) pl

-- the booking's limit m (never 0 elsewhere)
abbrev pub limit_at : ℕ → Place → ℕ
limit_at w pl = at_booking 1 (λ h b. limit_of w h) pl

-- of two things said of booking places alone it is enough to look there, and at what they say of all others
pub at_booking_lem {ℓ κ} : {A : Type ℓ} {B : Type κ} (R : Place → A → B → Type 0) (a : A) (b : B) (f : BookingCall → BookPlace → A)
    (g : BookingCall → BookPlace → B)
    → ((pl : Place) → R pl a b) → ((h : BookingCall) (x : BookPlace) → R (Place.Book h x) (f h x) (g h x))
    → (pl : Place) → R pl (at_booking a f pl) (at_booking b g pl)
at_booking_lem R a b f g o s Place.Idle = o Place.Idle
at_booking_lem R a b f g o s (Place.Lifo x) = o (Place.Lifo x)
at_booking_lem R a b f g o s (Place.Fifo x) = o (Place.Fifo x)
at_booking_lem R a b f g o s (Place.Own x) = o (Place.Own x)
at_booking_lem R a b f g o s (Place.Book h x) = s h x
at_booking_lem R a b f g o s (Place.Move x) = o (Place.Move x)
at_booking_lem R a b f g o s (Place.Close e x) = o (Place.Close e x)

-- ---- the two kinds of steps

-- On queue p, by party p itself: as its owner (the actor is `noone`) or as its drain's holder. `fill` is what is noted after the step.
pub record OwnNext (w p fill : ℕ) (items hand : List ℕ) (from k : Kind) (cap : ℕ) (s : List ℕ) (g : Nums) (l : Lists) (d : Drain)
    (pl : Place)
    (o : Accessed) (n : Next) : Type 0 where
  pub g' : Nums
  pub actor : Who
  pub q_is : o.queue ≡ words_of w k cap g'
  pub ok : Whole w k cap o.slots g' (changed k p n.change l)
  pub own : OwnF w fill items (hand_over n.answer (handed k n.change l hand)) n.place k cap o.slots g' (changed k p n.change l)
  pub fair : in_front (hands_maybe n.answer) (handed k n.change l hand) ≡ true
  pub src_s : source_of p n.place ≡ source_of p pl
  pub bkr :
      ((actor ≡ noone) × ((fm : ℕ) (g₂ : Nums) (l₂ : Lists) → BkF w p fm items pl from g₂ l₂ → BkF w p fm items n.place from g₂ l₂))
      ⊎ ((actor ≡ drain p) × (source_of p pl ≡ p) × ((fm : ℕ) → BkF w p fm items n.place k g' (changed k p n.change l)))
  pub drn : DrnF w p d g → DrnF w p n.drain g'
  pub rb : RB g g'
  pub rh : (r : Who) → r ≢ noone → r ≢ actor → g.who ≡ r → RH g l g' (changed k p n.change l)
  pub who_s : g'.who ≡ g.who
  pub claim : (y : ℕ) → held w p pl d y ≡ true → held w p n.place n.drain y ≡ true
  pub moved_s : g'.moved ≡ g.moved + moves_maybe n.change
  pub still : g'.who ≡ noone → g.moved + g'.pops ≡ g'.moved + g.pops
  pub still_n : (g₂ : Nums) → Still w n.place g₂
  pub single : Single n.change
  pub can_s : can_maybe p p n.change l ≡ true
  pub why : Why (fill ≡ cap) (l.resting ≡ []) ⊥ ⊥ n.answer

-- On queue x, party p's source, as its booker or holder `me`.
pub record SrcNext (w p x fm : ℕ) (me : Who) (items : List ℕ) (k : Kind) (cap : ℕ) (s : List ℕ) (g : Nums) (l : Lists) (d : Drain)
    (pl : Place)
    (mark : Mark) (o : Accessed) (n : Next) : Type 0 where
  pub g' : Nums
  pub q_is : o.queue ≡ words_of w k cap g'
  pub slots_s : o.slots ≡ s
  pub ok : Whole w k cap s g' (changed k p n.change l)
  pub bkr : BkF w p fm (items_after n.change l items) n.place k g' (changed k p n.change l)
  pub src_s : (n.place ≡ Place.Idle) ⊎ (source_of p n.place ≡ source_of p pl)
  pub dst :
      (fill : ℕ) (hand : List ℕ) (k₂ : Kind) (cap₂ : ℕ) (s₂ : List ℕ) (g₂ : Nums) (l₂ : Lists) → OwnF w fill items hand pl k₂ cap₂ s₂ g₂ l₂
      → (in_front (hands_maybe n.answer) hand ≡ true)
      × OwnF w fill (items_after n.change l items) (hand_over n.answer hand) n.place k₂ cap₂ s₂ g₂ l₂
  pub hand_s : (hand : List ℕ) → handed k n.change l hand ≡ hand
  pub drn : DrnF w p d g → DrnF w p n.drain g'
  pub drn_off : x ≢ p → n.drain ≡ d
  pub ro : RO s g l s g' (changed k p n.change l)
  pub rb : RB g g'
  pub rh : (r : Who) → r ≢ noone → r ≢ me → g.who ≡ r → RH g l g' (changed k p n.change l)
  pub who_new : (r : Who) → r ≢ noone → r ≢ me → g'.who ≡ r → g.who ≡ r
  pub claim_x : (holder_of g.who ≡ party p → held w p pl d x ≡ true) → holder_of g'.who ≡ party p
      → held w p n.place n.drain x ≡ true
  pub claim_y : (y : ℕ) → y ≢ x → held w p pl d y ≡ true → held w p n.place n.drain y ≡ true
  pub moved_s : g'.moved ≡ g.moved + moves_maybe n.change
  pub still : g'.who ≡ noone → g.moved + g'.pops ≡ g'.moved + g.pops
  pub still_n : Still w pl g → Still w n.place g'
  pub single : Single n.change
  pub can_s : can_maybe p x n.change l ≡ true
  pub why :
      Why ⊥ ⊥ (Still w pl g → is_open (changed k p n.change l).holder ≡ true)
      ((l.resting ≡ []) ⊎ ((limit_at w pl ≡ 0) ⊎ RuleGaveZero w pl (words_of w k cap g) mark)) n.answer
