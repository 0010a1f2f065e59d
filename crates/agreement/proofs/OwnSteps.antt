-- Every step on the own queue: what both kinds do there, and the write of a moved token.
use mathlib.Core.Path.{◌≡◌, refl, sym, ap, subst, ◌∙◌}
use mathlib.Core.Logic.{◌≢◌, inl}
use mathlib.Core.Bool.{Bool, true, false}
use mathlib.Core.List.{List}
use Prim.Native.Nat.{ℕ, suc, ◌+◌, ◌-◌, ◌%◌, ◌^◌, ◌<◌}
use native.Mathlib.Nat.{add-zero}
use native.Mathlib.Numerals.{add-one}
use native.Mathlib.Omega.{arith}
use lib.ListN.{length, take, get_or, set}
use lib.Seq.{take-suc}
use lib.Dec.{eqb}
use borrow.Author.Tests.{eqb-true, eqb-false, eq-eqb}
use Rattle.std.specs.Prelude.{Some, None}
use Rattle.words.specs.Word.{pick, plus, position}
use Rattle.tables.specs.declared.access.Access.TheVariants as Access
use Rattle.tables.specs.declared.access.Context.{Context}
use Rattle.tables.specs.declared.access.Whose.TheVariants as Whose
use Rattle.tables.specs.declared.answer.Answer.TheVariants as Answer
use Rattle.tables.specs.declared.answer.Change.TheVariants as Change
use Rattle.tables.specs.declared.call.Mark.{Mark}
use Rattle.tables.specs.declared.state.Drain.{Drain}
use Rattle.tables.specs.declared.state.Kind.{Kind}
use Rattle.tables.specs.declared.place.BookedTokens.{BookedTokens}
use Rattle.tables.specs.declared.place.FifoPlace.{FifoPlace}
use Rattle.tables.specs.declared.place.LifoPlace.{LifoPlace}
use Rattle.tables.specs.declared.place.MovePlace.TheVariants as MovePlace
use Rattle.tables.specs.declared.place.OwnPlace.{OwnPlace}
use Rattle.tables.specs.declared.place.Place.TheVariants as Place
use Rattle.tables.specs.declared.place.Transfer.{Transfer}
use Rattle.tables.specs.Access.{shows, nothing_seen}
use Rattle.tables.specs.Row.{Row, own◌then◌, ends}
use Rattle.tables.specs.Table.{own_row, extend_row, move_row, last_written, drained, dropping}
use Rattle.tables.specs.LifoTable.{lifo_row}
use Rattle.tables.specs.FifoTable.{fifo_row}
use Rattle.tables.specs.Lists.{Lists, can}
use Rattle.agreement.proofs.Wrap.{plus_is, plus_both, plus_exact}
use Rattle.agreement.proofs.Ring.{tokens, tokens_zero, tokens_write}
use Rattle.agreement.proofs.Nums.{noone, Nums, tail, joins_write}
use Rattle.agreement.proofs.Whole.{Whole, words_of, rb_refl, rh_refl, cap_small, slot_of}
use Rattle.agreement.proofs.Facts.{Ext, ExtMore, kept, Carries, LastIs, OwnM, OwnF, DrnF}
use Rattle.agreement.proofs.Steps.{OwnNext}
use Rattle.agreement.proofs.OwnFill.{context_of, stay, stops, offers, stores}
use Rattle.agreement.proofs.OwnLifo.{OwnStep}
use Rattle.agreement.proofs.OwnDrain.{drain_some, next_on, drop_on}

-- ---- these rows are the own queue's

pub lifo_mine : (w : ℕ) (s : Context) (x : LifoPlace) → (lifo_row w s x).whose ≡ Whose.Own
lifo_mine w s (LifoPlace.LoadPushes j) = refl
lifo_mine w s (LifoPlace.LoadPacked j n) = refl
lifo_mine w s (LifoPlace.LoadCompleted j n p) = refl
lifo_mine w s LifoPlace.PopPacked = refl
lifo_mine w s (LifoPlace.PopPushes p) = refl
lifo_mine w s (LifoPlace.PopCas p t) = refl
lifo_mine w s LifoPlace.EmptyPushes = refl
lifo_mine w s (LifoPlace.EmptyPacked n) = refl

pub fifo_mine : (w : ℕ) (s : Context) (x : FifoPlace) → (fifo_row w s x).whose ≡ Whose.Own
fifo_mine w s (FifoPlace.LoadPacked f) = refl
fifo_mine w s (FifoPlace.LoadTail f p) = refl
fifo_mine w s (FifoPlace.DestTail e) = refl
fifo_mine w s (FifoPlace.DestPacked e t) = refl
fifo_mine w s FifoPlace.PopPacked = refl
fifo_mine w s (FifoPlace.PopTail p) = refl
fifo_mine w s (FifoPlace.PopCas p) = refl
fifo_mine w s FifoPlace.EmptyPacked = refl
fifo_mine w s (FifoPlace.EmptyTail p) = refl

extend_mine : (w : ℕ) (s : Context) (m : Mark) (pops at limit written : ℕ) → (extend_row w s m pops at limit written).whose ≡ Whose.Own
extend_mine w s Mark.Plain pops at limit written = refl
extend_mine w s Mark.Weak pops at limit written = refl
extend_mine w s (Mark.Carry t) pops at limit written = refl
extend_mine w s Mark.End pops at limit written = refl

pick_mine : (b : Bool) (x y : Row) → x.whose ≡ Whose.Own → y.whose ≡ Whose.Own → (pick b x y).whose ≡ Whose.Own
pick_mine true x y e f = e
pick_mine false x y e f = f

pub own_mine : (w : ℕ) (s : Context) (x : OwnPlace) → (own_row w s x).whose ≡ Whose.Own
own_mine w s (OwnPlace.PushWrite t word at) = refl
own_mine w s (OwnPlace.PushStore word) = refl
own_mine w s (OwnPlace.ExtendMore pops at limit written) = extend_mine w s s.mark pops at limit written
own_mine w s (OwnPlace.ExtendStore pops at written) = refl
own_mine w s (OwnPlace.PopRead at) = refl
own_mine w s OwnPlace.NextItem = pick_mine (eqb s.drain.at s.drain.end) _ _ refl refl
own_mine w s OwnPlace.DropItem = pick_mine (eqb s.drain.at s.drain.end) _ _ refl refl

module _ (w p fill : ℕ) (items hand : List ℕ) (from k : Kind) (d : Drain) {cap : ℕ} {s : List ℕ} {g : Nums} {l : Lists}
    (i : Whole w k cap s g l) where
  -- an extend's step ends the writing, touching nothing
  ends_it : (pops at limit written : ℕ) → ExtMore w cap g pops at limit written
      → OwnF w fill items hand (Place.Own (OwnPlace.ExtendMore pops at limit written)) k cap s g l
      → OwnNext w p fill items hand from k cap s g l d (Place.Own (OwnPlace.ExtendMore pops at limit written))
      (shows (words_of w k cap g) s nothing_seen)
      (record { place = Place.Own (OwnPlace.ExtendStore pops at written); drain = d; answer = None; change = None })
  ends_it pops at limit written a o =
      stay w p items from k i d fill hand _ _ None _ refl (record { wait_is = o.wait_is; hand_is = o.hand_is; at = a.ext }) refl
      (λ fm g₂ l₂ _. tt) (λ y h. h) (λ g₂. tt) tt

  -- .. or carries a token
  carries_one : (pops at limit written t : ℕ) → ExtMore w cap g pops at limit written
      → OwnF w fill items hand (Place.Own (OwnPlace.ExtendMore pops at limit written)) k cap s g l
      → (b : Bool) → eqb (plus w at 1) limit ≡ b
      → OwnNext w p fill items hand from k cap s g l d (Place.Own (OwnPlace.ExtendMore pops at limit written))
      (shows (words_of w k cap g) (set s (at % cap) t) nothing_seen)
      (record {
        place = Place.Own (pick b (OwnPlace.ExtendStore pops (plus w at 1) (plus w written 1))
            (OwnPlace.ExtendMore pops (plus w at 1) limit (plus w written 1)));
        drain = d;
        answer = None;
        change = Some (Change.Offered t);
      })
  carries_one pops at limit written t a o b e = go b e
    where
      one : plus w written 1 ≡ written + 1
      one = plus_exact w written 1 (omega (arith, a.below, a.old, cap_small w k i, i.cap_fits, i.cap_pos))

      at₁ : plus w at 1 ≡ (tail g + written + 1) % 2 ^ w
      at₁ = plus_is w (tail g + written) 1 a.ext.at_is

      fits : tail g + written < g.completed + cap
      fits = omega (arith, a.below, a.old)

      ext₁ : Ext w cap g pops (plus w at 1) (plus w written 1)
      ext₁ = record {
        pg = a.ext.pg;
        pops_is = a.ext.pops_is;
        pushed_is = a.ext.pushed_is;
        at_is = at₁ ∙ ap (λ (n : ℕ). n % 2 ^ w) (omega (arith, one));
        fits = omega (arith, one, fits);
      }

      go : (b : Bool) → eqb (plus w at 1) limit ≡ b
          → OwnNext w p fill items hand from k cap s g l d (Place.Own (OwnPlace.ExtendMore pops at limit written))
          (shows (words_of w k cap g) (set s (at % cap) t) nothing_seen)
          (record {
            place = Place.Own (pick b (OwnPlace.ExtendStore pops (plus w at 1) (plus w written 1))
                (OwnPlace.ExtendMore pops (plus w at 1) limit (plus w written 1)));
            drain = d;
            answer = None;
            change = Some (Change.Offered t);
          })
      go true e =
          offers w p items from k i d fill hand _ (Place.Own (OwnPlace.ExtendStore pops (plus w at 1) (plus w written 1))) at written t
          a.ext.at_is fits refl one refl refl
          (λ y. refl) (λ y. refl) refl (λ fm g₂ l₂. tt) (λ g₂. tt) o ext₁
      go false e =
          offers w p items from k i d fill hand _ (Place.Own (OwnPlace.ExtendMore pops (plus w at 1) limit (plus w written 1))) at written t
          a.ext.at_is fits refl one refl refl
          (λ y. refl) (λ y. refl) refl (λ fm g₂ l₂. tt) (λ g₂. tt) o
          (let ne : tail g + written + 1 ≢ a.dg + cap = λ z. eqb-false (plus w at 1) limit e (at₁ ∙ ap (λ (n : ℕ). n % 2 ^ w) z
          ∙ sym a.limit_is) in
          record { ext = ext₁; dg = a.dg; limit_is = a.limit_is; old = a.old; below = omega (arith, one, a.below) })

  extend_step : (mark : Mark) (pops at limit written : ℕ) → OwnF w fill items hand (Place.Own (OwnPlace.ExtendMore pops at limit written)) k cap s g l
      → OwnStep w p fill items hand from k cap s g l d (Place.Own (OwnPlace.ExtendMore pops at limit written)) mark
      (extend_row w (context_of k cap from d mark) mark pops at limit written)
  extend_step Mark.Plain pops at limit written o = ends_it pops at limit written o.at o
  extend_step Mark.Weak pops at limit written o = ends_it pops at limit written o.at o
  extend_step Mark.End pops at limit written o = ends_it pops at limit written o.at o
  extend_step (Mark.Carry t) pops at limit written o = carries_one pops at limit written t o.at o _ refl

  pub own_step : (mark : Mark) (x : OwnPlace) → DrnF w p d g → OwnF w fill items hand (Place.Own x) k cap s g l
      → OwnStep w p fill items hand from k cap s g l d (Place.Own x) mark (own_row w (context_of k cap from d mark) x)
  own_step mark (OwnPlace.PushWrite t word at) f o =
      let a = o.at in
      offers w p items from k i d fill hand _ (Place.Own (OwnPlace.PushStore word)) at 0 t (rw add-zero a.at_is) (omega (arith, a.room_is)) refl
      refl refl refl
      (λ y. refl) (λ y. refl) refl (λ fm g₂ l₂. tt) (λ g₂. tt) o (a.word_is, a.room_is)
  own_step mark (OwnPlace.PushStore word) f o = stores w p items from k i d fill hand _ _ 1 Answer.Pushed refl tt (plus_is w g.pushed 1 o.at.0)
      o.at.1 refl refl (λ y. refl) refl o
  own_step mark (OwnPlace.ExtendMore pops at limit written) f o = extend_step mark pops at limit written o
  own_step mark (OwnPlace.ExtendStore pops at written) f o =
      let a = o.at in
      stores w p items from k i d fill hand _ _ written (Answer.Extended written) refl tt
      (plus_both w (tail g + written) a.pg a.at_is a.pops_is
      ∙ ap (λ (n : ℕ). n % 2 ^ w) (omega (arith, a.pushed_is))) a.fits refl refl (λ y. refl) refl o
  own_step mark (OwnPlace.PopRead at) f o =
      stay w p items from k i d fill hand _ Place.Idle (Some (Answer.Popped (get_or s (at.0 % cap) 0))) _
      (rw o.hand_is (eq-eqb (get_or s (at.0 % cap) 0) (get_or s (at.0 % cap) 0) refl))
      (record { wait_is = o.wait_is; hand_is = rw o.hand_is refl; at = tt }) refl (λ fm g₂ l₂ _. tt) (λ y h. h) (λ g₂. tt) tt
  own_step mark OwnPlace.NextItem f o = go (eqb d.at d.end) refl
    where
      go : (b : Bool) → eqb d.at d.end ≡ b → OwnStep w p fill items hand from k cap s g l d (Place.Own OwnPlace.NextItem) mark
          (pick b (own Access.Touch then λ x. ends (context_of k cap from d mark) Answer.Done None)
          (own Access.Read (position d.at) then λ x. drained w (context_of k cap from d mark) x.token))
      go true e = stops w p items from k i d fill fill hand _ Answer.Done _ refl
          (record { waits_no = refl; hand_no = refl; holds_no = λ y. refl }) o refl tt
      go false e = let a = f (eqb-false d.at d.end e) in next_on w p fill items hand from k mark i d a
          (drain_some w p fill items hand from k mark i d a (eqb-false d.at d.end e)) o _ refl
  own_step mark OwnPlace.DropItem f o = go (eqb d.at d.end) refl
    where
      go : (b : Bool) → eqb d.at d.end ≡ b → OwnStep w p fill items hand from k cap s g l d (Place.Own OwnPlace.DropItem) mark
          (pick b (own Access.Touch then λ x. ends (context_of k cap from d mark) Answer.Closed None)
          (own Access.Read (position d.at) then λ x. dropping w (context_of k cap from d mark)))
      go true e = stops w p items from k i d fill fill hand _ Answer.Closed _ refl
          (record { waits_no = refl; hand_no = refl; holds_no = λ y. refl }) o refl tt
      go false e = let a = f (eqb-false d.at d.end e) in drop_on w p fill items hand from k mark i d a
          (drain_some w p fill items hand from k mark i d a (eqb-false d.at d.end e)) o _ refl

  -- ---- a moved token is written past the tail

  module _ (t : BookedTokens) (j x : ℕ) (lt : j < t.count - kept t.transfer) (ex : x ≡ get_or items j 0) (c : Carries w items cap s g t j) where
    slots₁ : List ℕ
    slots₁ = set s (plus w t.tail j % cap) x

    slot₁ : plus w t.tail j % cap ≡ (tail g + j) % cap
    slot₁ = slot_of w k i (tail g + j) (plus_is w (tail g) j c.into.at_is)

    room₁ : tail g + j < g.completed + cap
    room₁ = omega (arith, c.into.room_is)

    ok₁ : Whole w k cap slots₁ g l
    unfolding slots₁
    ok₁ = record {
      joins = rw slot₁ (joins_write cap i.cap_pos i.joins (tail g + j) x (omega arith) room₁);
      cap_pos = i.cap_pos;
      cap_fits = i.cap_fits;
      cap_pow = i.cap_pow;
      free = i.free;
      shut = i.shut;
      part = i.part;
    }

    wrote : Carries w items cap slots₁ g t (j + 1)
    unfolding slots₁
    wrote =
        let fits : j < length items = omega (arith, c.long) in
        let st : take (suc j) items ≡ tokens cap (set s (plus w t.tail j % cap) x) (tail g) (j + 1) =
        rw (take-suc items j 0, ← c.stand, ← ex, slot₁) (sym (tokens_write cap i.cap_pos s x (tail g) j i.joins.sized (omega
        (arith, room₁)))) in
        record {
          into = record { word_is = c.into.word_is; at_is = c.into.at_is; room_is = c.into.room_is };
          some = c.some;
          few = c.few;
          long = c.long;
          stand = sym st ∙ ap (λ (m : ℕ). take m items) (sym (add-one j));
        }

    next₁ : plus w j 1 ≡ j + 1
    next₁ = plus_exact w j 1 (omega (arith, c.few))

    -- the last of a steal was written; a take always reads on
    moved_on : (h : Transfer) → t.transfer ≡ h → (b : Bool) → last_written w h t j ≡ b
        → OwnM w items cap slots₁ (pick b (MovePlace.Land t 0) (MovePlace.ReadSlot t (plus w j 1))) g
    moved_on Transfer.Steal eh true e =
        let n : j + 1 ≡ t.count = sym next₁ ∙ eqb-true (plus w j 1) t.count e in
        let z : kept t.transfer ≡ 0 = ap kept eh in (
          subst (λ (h : Transfer). LastIs h t.count 0 items) (sym eh) tt,
          subst
              (λ (m : ℕ). Carries w items cap slots₁ g t m) (omega arith) wrote,
        )
    moved_on Transfer.Steal eh false e =
        let n : plus w j 1 ≢ t.count = eqb-false (plus w j 1) t.count e in
        let z : kept t.transfer ≡ 0 = ap kept eh in
        (omega (arith, next₁), subst (λ (m : ℕ). Carries w items cap slots₁ g t m) (sym next₁) wrote)
    moved_on Transfer.Take eh true e = absurd (let z : ◌≡◌ {A = ℕ} 0 1 = cc in omega arith)
    moved_on Transfer.Take eh false e =
        let z : kept t.transfer ≡ 1 = ap kept eh in
        (omega (arith, next₁), subst (λ (m : ℕ). Carries w items cap slots₁ g t m) (sym next₁) wrote)

  pub write_step : (mark : Mark) (t : BookedTokens) (j x : ℕ) → OwnF w fill items hand (Place.Move (MovePlace.WriteSlot t j x)) k cap s g l
      → OwnStep w p fill items hand from k cap s g l d (Place.Move (MovePlace.WriteSlot t j x)) mark
      (move_row w (context_of k cap from d mark) (MovePlace.WriteSlot t j x))
  unfolding can slots₁
  write_step mark t j x o = go (last_written w t.transfer t j) refl
    where
      go : (b : Bool) → last_written w t.transfer t j ≡ b
          → OwnNext w p fill items hand from k cap s g l d (Place.Move (MovePlace.WriteSlot t j x))
          (shows (words_of w k cap g) (set s (plus w t.tail j % cap) x) nothing_seen)
          (record {
            place = Place.Move (pick b (MovePlace.Land t 0) (MovePlace.ReadSlot t (plus w j 1)));
            drain = d;
            answer = None;
            change = None;
          })
      go true e =
          let c = o.at.2 in
          record {
            g' = g;
            actor = noone;
            q_is = refl;
            ok = ok₁ t j x o.at.0 o.at.1 c;
            own = record {
              wait_is = o.wait_is ∙ tokens_zero cap s (tail g)
                  ∙ sym (tokens_zero cap _ (tail g));
              hand_is = o.hand_is;
              at = moved_on t j x o.at.0 o.at.1 c t.transfer refl true e;
            };
            fair = refl;
            src_s = refl;
            bkr = inl (refl, λ fm g₂ l₂ y. y);
            drn = λ f. f;
            rb = rb_refl g;
            rh = λ r _ _ _. rh_refl g l;
            who_s = refl;
            claim = λ y h. h;
            moved_s = omega arith;
            still = λ _. refl;
            still_n = λ g₂. tt;
            single = refl;
            can_s = refl;
            why = tt;
          }
      go false e =
          let c = o.at.2 in
          record {
            g' = g;
            actor = noone;
            q_is = refl;
            ok = ok₁ t j x o.at.0 o.at.1 c;
            own = record {
              wait_is = o.wait_is ∙ tokens_zero cap s (tail g)
                  ∙ sym (tokens_zero cap _ (tail g));
              hand_is = o.hand_is;
              at = moved_on t j x o.at.0 o.at.1 c t.transfer refl false e;
            };
            fair = refl;
            src_s = refl;
            bkr = inl (refl, λ fm g₂ l₂ y. y);
            drn = λ f. f;
            rb = rb_refl g;
            rh = λ r _ _ _. rh_refl g l;
            who_s = refl;
            claim = λ y h. h;
            moved_s = omega arith;
            still = λ _. refl;
            still_n = λ g₂. tt;
            single = refl;
            can_s = refl;
            why = tt;
          }
