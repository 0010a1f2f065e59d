-- What holds of a run at every moment, and that a step which nothing refuses keeps it: the step is one of the tables (Turn), its effect is
-- one that the lists can do, and the token that its answer hands out is in hand.
use mathlib.Core.Path.{◌≡◌, refl, sym, ap, subst, subst₂, fun_ext, ◌∙◌}
use mathlib.Core.Bool.{Bool, true, false, true≢false}
use mathlib.Core.List.{List}
use Prim.Native.Nat.{ℕ, suc, ◌+◌, ◌-◌, ◌%◌, ◌^◌, ◌<◌}
use native.Mathlib.Omega.{arith}
use Rattle.words.specs.Word.{orb}
use Rattle.tables.specs.declared.access.Next.{Next}
use Rattle.tables.specs.declared.call.Mark.{Mark}
use Rattle.tables.specs.declared.state.Kind.{Kind}
use Rattle.tables.specs.declared.state.Queue.{Queue}
use Rattle.tables.specs.declared.place.BookPlace.{BookPlace}
use Rattle.tables.specs.declared.place.Place.{Place}
use Rattle.tables.specs.Tables.{source_of}
use Rattle.tables.specs.Table.{limit_of}
use Rattle.tables.specs.Step.{Outcome, place_at, source_at}
use Rattle.tables.specs.Lists.{is_open, Lists, Plain, update, in_front, lists, replay}
use Rattle.tables.specs.Causes.{is_first, is_first_load, PlacePremise, Premise}
use Rattle.tables.proofs.Bools.{pick_if}
use Rattle.tables.proofs.Maybe.{hands_maybe, lands_maybe, does_maybe}
use Rattle.tables.proofs.Updates.{update_same}
use Rattle.agreement.specs.Statement.{Run, did_entry, recorded, kinds_of}
use Rattle.agreement.proofs.Nums.{Who, noone, call, drain, holder_of, Nums, head}
use Rattle.agreement.proofs.Whole.{Part, LifoPart}
use Rattle.agreement.proofs.Frame.{column_over}
use Rattle.agreement.proofs.Facts.{BkB, BkF}
use Rattle.agreement.proofs.Steps.{handed, hand_over, BookStill, Still, at_booking_lem}
use Rattle.agreement.proofs.Cells.{Cell, Member, MInv, plain_of, named_queue, does_hand, Ran}
use Rattle.agreement.proofs.Turn.{step_go}
use Rattle.agreement.proofs.Record.{Fits, site_g, did_g, next_g, taken_g, place_is, source_is, site_in, kinds_s}
use Rattle.agreement.proofs.Replay.{replay_did, Said, replay_said, plain_ext, update_ext}

pub record Good (w : ℕ) (r : Run) : Type 0 where
  pub cells : ℕ → Cell
  pub members : ℕ → Member
  pub inv : MInv w r.machine.parties cells members
  pub both : (p : ℕ) → (members p).bl ≡ (members p).pl
  pub fits : Fits w r.machine r.items cells members
  pub out : List ℕ
  pub gone : List ℕ
  pub possible : replay (kinds_of r.machine) r.record' ≡ lists (plain_of cells members out gone)
  pub moved_are : (x : ℕ) → r.notes.moved x ≡ (cells x).g.moved
  pub first_are : (p : ℕ) → r.notes.first p ≡ (members p).fm
  pub fill_are : (p : ℕ) → r.notes.fill p ≡ (members p).fill
  pub still : (p : ℕ) → p < r.machine.parties → r.notes.opened p ≡ false
      → Still w (members p).pl (cells (source_of p (members p).pl)).g

pub halves : (w : ℕ) → 1 < w → 2 ^ w ≡ 2 ^ (w - 1) + 2 ^ (w - 1)
halves w h = ap (λ (n : ℕ). 2 ^ n) (omega arith) ∙ double (w - 1)
  where
    double : (n : ℕ) → 2 ^ suc n ≡ 2 ^ n + 2 ^ n
    double n = omega arith

pub orb_false : (a b : Bool) → orb a b ≡ false → (a ≡ false) × (b ≡ false)
orb_false true b e = absurd (let z : ◌≡◌ {A = ℕ} 0 1 = cc in omega arith)
orb_false false b e = (refl, e)

pub closed_now : (r : Who) → is_open (holder_of r) ≡ false → r ≡ noone
closed_now noone e = refl
closed_now (call p) e = absurd (let z : ◌≡◌ {A = ℕ} 0 1 = cc in omega arith)
closed_now (drain p) e = absurd (let z : ◌≡◌ {A = ℕ} 0 1 = cc in omega arith)

-- a first load remembers nothing yet
book_first : (w : ℕ) (b : BookPlace) (g : Nums) → is_first b ≡ true → BookStill w b g
book_first w BookPlace.LifoPacked g e = tt
book_first w (BookPlace.LifoCompleted q) g e = absurd (true≢false (sym e))
book_first w (BookPlace.LifoPushes q d) g e = absurd (true≢false (sym e))
book_first w (BookPlace.LifoCas q d n) g e = absurd (true≢false (sym e))
book_first w BookPlace.FifoPacked g e = tt
book_first w (BookPlace.FifoTail q) g e = tt
book_first w (BookPlace.FifoCas q n) g e = tt

pub still_first : (w : ℕ) (pl : Place) (g : Nums) → is_first_load pl ≡ true → Still w pl g
still_first w pl g =
    at_booking_lem (λ (z : Place) (t : Bool) (S : Type 0). t ≡ true → S) false (Unit {0}) (λ h b. is_first b) (λ h b. BookStill w b g)
    (λ z e. tt) (λ h b e. book_first w b g e) pl

-- a remembered head stays the head while a LIFO queue's head does
book_keeps : (w fm limit : ℕ) (b : BookPlace) (k : Kind) (g g' : Nums) → BkB w fm limit b k g → (k ≡ Kind.Lifo → head g' ≡ head g)
    → BookStill w b g → BookStill w b g'
book_keeps w fm limit BookPlace.LifoPacked k g g' a h s = tt
book_keeps w fm limit (BookPlace.LifoCompleted q) k g g' a h s = s ∙ ap (λ (n : ℕ). n % 2 ^ w) (sym (h a.0))
book_keeps w fm limit (BookPlace.LifoPushes q d) k g g' a h s = s ∙ ap (λ (n : ℕ). n % 2 ^ w) (sym (h a.0))
book_keeps w fm limit (BookPlace.LifoCas q d n) k g g' a h s = s ∙ ap (λ (n : ℕ). n % 2 ^ w) (sym (h a.0))
book_keeps w fm limit BookPlace.FifoPacked k g g' a h s = tt
book_keeps w fm limit (BookPlace.FifoTail q) k g g' a h s = tt
book_keeps w fm limit (BookPlace.FifoCas q n) k g g' a h s = tt

pub still_keeps : (w p fm : ℕ) (items : List ℕ) (pl : Place) (k : Kind) (g g' : Nums) (l : Lists) → BkF w p fm items pl k g l
    → (k ≡ Kind.Lifo → head g' ≡ head g) → Still w pl g → Still w pl g'
still_keeps w p fm items pl k g g' l =
    at_booking_lem (λ (z : Place) (S S' : Type 0). BkF w p fm items z k g l → (k ≡ Kind.Lifo → head g' ≡ head g) → S → S')
    (Unit {0}) (Unit {0}) (λ h b. BookStill w b g) (λ h b. BookStill w b g')
    (λ z a h s. tt) (λ u b a h s. book_keeps w fm (limit_of w u) b k g g' a h s) pl

pub lifo_part : (k : Kind) (g : Nums) → k ≡ Kind.Lifo → Part k g → LifoPart g
lifo_part k g e a = subst (λ (z : Kind). Part z g) e a

module _ (w : ℕ) (wide : 1 < w) {r : Run} (b : Good w r) (p : ℕ) (pn : p < r.machine.parties) (mark : Mark)
    (prem : Premise w r.machine r.notes p) where
  abbrev pub x : ℕ
  x = site_g w r.machine r.items b.fits p pn mark

  abbrev pub next : Next
  next = next_g w r.machine r.items b.fits p pn mark

  abbrev pub y : ℕ
  y = source_of p (b.members p).pl

  abbrev pub q : ℕ
  q = named_queue next.change x y

  abbrev pub after : Outcome
  after = taken_g w r.machine r.items b.fits p pn mark

  pub source : source_at r.machine p ≡ y
  source = source_is w r.machine r.items b.fits p pn mark

  pub ran : Ran w r.machine.parties b.cells b.members p (b.members p).pl mark x
      (did_g w r.machine r.items b.fits p pn mark) next
  ran =
      step_go w (2 ^ (w - 1)) r.machine.parties (halves w wide) b.inv p pn mark (b.members p).pl refl (b.both p)
      (subst (λ (z : Place). PlacePremise (2 ^ (w - 1)) z (b.members p).fm (b.cells y).g.moved)
      (place_is w r.machine r.items b.fits p pn mark)
      (subst₂ (λ (f v : ℕ). PlacePremise (2 ^ (w - 1)) (place_at r.machine p) f v) (b.first_are p) (ap r.notes.moved source
      ∙ b.moved_are y) prem))

  unfoldable pub a : Plain
  a = plain_of b.cells b.members b.out b.gone

  q_in : q < r.machine.parties
  q_in =
      pick_if (λ (z : ℕ). z < r.machine.parties) (lands_maybe next.change) (λ _. b.fits.sources p pn)
      (λ _. site_in w r.machine r.items b.fits p pn mark)

  kind_at : (z : ℕ) → z < r.machine.parties → kinds_of r.machine z ≡ (b.cells z).kind
  kind_at z lt = ap (λ (v : Queue). v.kind) (b.fits.q_are z lt)

  kinds_are : kinds_of after.machine ≡ kinds_of r.machine
  kinds_are = fun_ext (λ z. kinds_s w r.machine r.items b.fits p pn mark z)

  -- ---- the lists

  pub done : Plain
  done = does_maybe (kinds_of r.machine) p q next.change a

  pub done_is : replay (kinds_of r.machine) (did_entry after.effect r.record') ≡ lists done
  unfolding done a
  done_is = replay_did (kinds_of r.machine) p x y next.change r.record' a b.possible ran.can_s

  pub done_queue : (z : ℕ) → done.queue z ≡ (ran.cells' z).l
  unfolding done a
  done_queue z = ran.ls_are (kinds_of r.machine) b.out b.gone (kind_at x (site_in w r.machine r.items b.fits p pn mark)) z

  in_hand_lem : List ℕ
  in_hand_lem = handed (b.cells q).kind next.change (b.cells q).l (b.members p).hand

  done_hand : (z : ℕ) → done.hand z ≡ update (λ (v : ℕ). (b.members v).hand) p in_hand_lem z
  unfolding done a in_hand_lem
  done_hand z =
      does_hand (kinds_of r.machine) p q next.change a z
      ∙ ap (λ (k : Kind). update (λ (v : ℕ). (b.members v).hand) p (handed k next.change (b.cells q).l (b.members p).hand) z)
      (kind_at q q_in)

  done_mine : done.hand p ≡ in_hand_lem
  done_mine = done_hand p ∙ update_same (λ (v : ℕ). (b.members v).hand) p in_hand_lem

  pub spoke : Said (kinds_of r.machine) p next.answer (did_entry after.effect r.record') done
  unfolding in_hand_lem
  spoke =
      replay_said (kinds_of r.machine) p (did_entry after.effect r.record') done done_is next.answer
      (subst (λ (h : List ℕ). in_front (hands_maybe next.answer) h ≡ true) (sym done_mine) ran.fair)

  spoke_hand : (z : ℕ) → spoke.plain.hand z ≡ (ran.members' z).hand
  unfolding in_hand_lem
  spoke_hand z =
      spoke.hand_s z
      ∙ update_ext done.hand (update (λ (v : ℕ). (b.members v).hand) p in_hand_lem) done_hand p (hand_over next.answer (done.hand p))
      (hand_over next.answer in_hand_lem) (ap (hand_over next.answer) done_mine) z
      ∙ column_over (λ (h : List ℕ). h) (λ (v : ℕ). (b.members v).hand) p in_hand_lem (hand_over next.answer in_hand_lem)
      (hand_over next.answer in_hand_lem) refl z
      ∙ sym (ran.hand_are z)

  pub possible' : replay (kinds_of after.machine) (recorded p after r.record') ≡ lists
      (plain_of ran.cells' ran.members' spoke.plain.out spoke.plain.gone)
  possible' =
      ap (λ (ks : ℕ → Kind). replay ks (recorded p after r.record')) kinds_are
      ∙ spoke.is
      ∙ ap lists (plain_ext ran.cells' ran.members' spoke.plain (λ z. spoke.queue_s z ∙ done_queue z) spoke_hand)
