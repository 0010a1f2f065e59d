-- Claim 5, the record: dropped ones in a row as one replay to the same lists as the single ones, since to drop j and then k is to drop j + k.
use Prim.Native.Nat.{ℕ, zero, suc, ◌+◌, ◌-◌, ◌≤◌, ◌<◌}
use mathlib.Core.Path.{◌≡◌, refl, sym, ap, ap₂, ◌∙◌}
use mathlib.Core.Bool.{Bool, true, false}
use mathlib.Core.List.{List, [], ◌∷◌, ◌++◌, append_assoc}
use native.Mathlib.Omega.{arith}
use borrow.Author.Tests.{leb-true, leb-false, le-leb, lt-leb, ltb-true}
use lib.Dec.{leb, ltb}
use lib.ListN.{length, take, drop, length-drop}
use lib.Seq.{drop-drop, take-add}
use Rattle.std.specs.Prelude.{Option, Some, None, IfSome}
use Rattle.words.specs.Word.{pick}
use Rattle.tables.specs.declared.answer.Answer.{Answer}
use Rattle.tables.specs.declared.answer.Change.{Change}
use Rattle.tables.specs.declared.answer.Effect.{Effect}
use Rattle.tables.specs.declared.call.Mark.TheVariants as Mark
use Rattle.tables.specs.declared.state.Kind.{Kind}
use Rattle.tables.specs.Effect.{drops_of}
use Rattle.tables.specs.Step.{andb, Outcome, alone, joined, appended, noted}
use Rattle.tables.specs.Lists.{Lists, Plain, held_by, update, leave, does, can, Entry, did, said, Replayed, impossible, lists, replay_entry, replay_from, replay}
use Rattle.tables.proofs.Bools.{and_left, and_right, pick_if}
use Rattle.tables.proofs.Updates.{update_same, update_twice}
use Rattle.tables.proofs.Refused.{step_if}
use Rattle.tables.proofs.Rows.{dropped_is}
use Rattle.tables.proofs.Effects.{Own, dropped_own}
use Rattle.agreement.specs.Statement.{Run, kinds_of, did_entry, said_entry, stepped, repeated, singles, gathered, put_on, AloneAgrees}
use Rattle.agreement.proofs.Alone.{singles_on, AsSingles, alone_is_singles}

abbrev pub drop_by : (party queue count : ℕ) → Entry
drop_by p q n = did (record { party = p; queue = q; change = Change.Dropped n })

leb_sum : (j k n : ℕ) → leb (j + k) n ≡ andb (leb j n) (leb k (n - j))
leb_sum j k n = go (leb j n) (leb k (n - j)) refl refl
  where
    go : (s t : Bool) → leb j n ≡ s → leb k (n - j) ≡ t → leb (j + k) n ≡ andb s t
    go true true e f = let a : j ≤ n = leb-true _ _ e in let b : k ≤ n - j = leb-true _ _ f in le-leb (j + k) n (omega arith)
    go true false e f = let a : j ≤ n = leb-true _ _ e in let b : n - j < k = leb-false _ _ f in lt-leb (j + k) n (omega arith)
    go false t e f = let a : n < j = leb-false _ _ e in lt-leb (j + k) n (omega arith)

-- both tests passed, one after the other
in_turn : {A : Type 0} (h s t : Bool) (x y : A) → pick (andb h s) (pick (andb h t) x y) y ≡ pick (andb h (andb s t)) x y
in_turn true true t x y = refl
in_turn true false t x y = refl
in_turn false s t x y = refl

from_pick : (ks : ℕ → Kind) (e : Entry) (t : Bool) (b : Plain)
    → replay_from ks e (pick t (lists b) impossible) ≡ pick t (replay_entry ks e b) impossible
from_pick ks e true b = refl
from_pick ks e false b = refl

module _ (ks : ℕ → Kind) (p q j k : ℕ) (a : Plain) where
  abbrev left : Lists
  left = leave j (a.queue q)

  leave_sum : leave k (leave j (a.queue q)) ≡ leave (j + k) (a.queue q)
  unfolding leave
  leave_sum =
      ap (λ (l : List ℕ). record {
        waiting = (a.queue q).waiting;
        resting = (a.queue q).resting;
        booked = l;
        holder = (a.queue q).holder;
        kept = (a.queue q).kept;
      }) (drop-drop k j (a.queue q).booked)

  drops_do : does ks p q (Change.Dropped k) (does ks p q (Change.Dropped j) a) ≡ does ks p q (Change.Dropped (j + k)) a
  unfolding does leave
  drops_do =
      ap (λ (l : Lists). record {
        queue = update (update a.queue q left) q (leave k l);
        hand = a.hand;
        out = a.out;
        gone = (a.gone ++ take j (a.queue q).booked) ++ take k l.booked;
      }) (update_same a.queue q left)
      ∙ ap₂ (λ (f : ℕ → Lists) (l : List ℕ). record { queue = f; hand = a.hand; out = a.out; gone = l })
      (update_twice a.queue q left (leave k left) ∙ ap (update a.queue q) leave_sum)
      (append_assoc a.gone (take j (a.queue q).booked) (take k (drop j (a.queue q).booked))
      ∙ ap (λ (l : List ℕ). a.gone ++ l) (sym (take-add j k (a.queue q).booked)))

  drops_can : can p q (Change.Dropped k) ((does ks p q (Change.Dropped j) a).queue q)
      ≡ andb (held_by p (a.queue q).holder) (leb k (length (a.queue q).booked - j))
  unfolding can does leave
  drops_can =
      ap (λ (l : Lists). andb (held_by p l.holder) (leb k (length l.booked))) (update_same a.queue q left)
      ∙ ap (λ (n : ℕ). andb (held_by p (a.queue q).holder) (leb k n)) (length-drop j (a.queue q).booked)

  pub drops_merge : replay_from ks (drop_by p q k) (replay_entry ks (drop_by p q j) a) ≡ replay_entry ks (drop_by p q (j + k)) a
  unfolding can
  drops_merge =
      let h = held_by p (a.queue q).holder in
      let n = length (a.queue q).booked in
      from_pick ks (drop_by p q k) (andb h (leb j n)) (does ks p q (Change.Dropped j) a)
      ∙ ap₂ (λ (t : Bool) (b : Plain). pick (andb h (leb j n)) (pick t (lists b) impossible) impossible) drops_can drops_do
      ∙ in_turn h (leb j n) (leb k (n - j)) (lists (does ks p q (Change.Dropped (j + k)) a)) impossible
      ∙ ap (λ (t : Bool). pick (andb h t) (lists (does ks p q (Change.Dropped (j + k)) a)) impossible) (sym (leb_sum j k n))

-- ---- a whole list of effects, put on a record

unfoldable pub AllOwn : ℕ → List Effect → Type 0
AllOwn p [] = Unit {0}
AllOwn p (e ∷ es) = Own p e × AllOwn p es

-- as a drop by p from its own queue
as_drop : (p : ℕ) (e : Effect) → Own p e → 0 < drops_of e.change → did e ≡ drop_by p p (drops_of e.change)
as_drop p e o h = λ i. did (record { party = (o h).0 i; queue = (o h).1 i; change = dropped_is e.change h i })

module _ (ks : ℕ → Kind) (p : ℕ) where
  merge_any : (j k : ℕ) (r : Replayed)
      → replay_from ks (drop_by p p k) (replay_from ks (drop_by p p j) r) ≡ replay_from ks (drop_by p p (j + k)) r
  merge_any j k impossible = refl
  merge_any j k (lists a) = drops_merge ks p p j k a

  joined_put : (l : List Entry) (x e : Effect) → Own p x → Own p e → replay ks (put_on l (joined x e)) ≡ replay ks (did e ∷ did x ∷ l)
  unfolding put_on replay
  joined_put l x e ox oe =
      pick_if (λ (y : List Effect). replay ks (put_on l y) ≡ replay ks (did e ∷ did x ∷ l))
      (andb (ltb 0 (drops_of x.change)) (ltb 0 (drops_of e.change)))
      (λ h.
      let hx : 0 < drops_of x.change = ltb-true _ _ (and_left (ltb 0 (drops_of x.change)) (ltb 0 (drops_of e.change)) h) in
      let he : 0 < drops_of e.change = ltb-true _ _ (and_right (ltb 0 (drops_of x.change)) (ltb 0 (drops_of e.change)) h) in
      ap₂ (λ (a b : ℕ). replay_from ks (drop_by a b (drops_of x.change + drops_of e.change)) (replay ks l)) (oe he).0 (oe he).1
      ∙ sym (merge_any (drops_of x.change) (drops_of e.change) (replay ks l))
      ∙ sym (ap₂ (λ (a b : Entry). replay_from ks a (replay_from ks b (replay ks l))) (as_drop p e oe he) (as_drop p x ox hx)))
      (λ h. refl)

  appended_put : (l : List Entry) (es : List Effect) (e : Effect) → AllOwn p es → Own p e
      → replay ks (put_on l (appended es e)) ≡ replay ks (did e ∷ put_on l es)
  unfolding put_on appended AllOwn
  appended_put l [] e all o = refl
  appended_put l (x ∷ []) e all o = joined_put l x e all.0 o
  appended_put l (x ∷ y ∷ es) e all o = appended_put (did x ∷ l) (y ∷ es) e all.1 o

  noted_put : (l : List Entry) (es : List Effect) (e : Option Effect) → AllOwn p es → IfSome e (Own p)
      → replay ks (put_on l (noted es e)) ≡ replay ks (did_entry e (put_on l es))
  noted_put l es None all o = refl
  noted_put l es (Some e) all o = appended_put l es e all o

  -- an entry on top, or none: what is below matters by its lists alone
  did_same : (e : Option Effect) (l k : List Entry) → replay ks l ≡ replay ks k → replay ks (did_entry e l) ≡ replay ks (did_entry e k)
  unfolding replay
  did_same None l k h = h
  did_same (Some e) l k h = ap (replay_from ks (did e)) h

  pub said_same : (r : Option Answer) (l k : List Entry) → replay ks l ≡ replay ks k
      → replay ks (said_entry p r l) ≡ replay ks (said_entry p r k)
  unfolding replay
  said_same None l k h = h
  said_same (Some r) l k h = ap (replay_from ks (said p r)) h

  singles_same : (os : List Outcome) (l k : List Entry) → replay ks l ≡ replay ks k
      → replay ks (singles_on l os) ≡ replay ks (singles_on k os)
  unfolding singles_on
  singles_same [] l k e = e
  singles_same (o ∷ os) l k e =
      singles_same os (did_entry o.effect l) (did_entry o.effect k) (did_same o.effect l k e)

own_appended : (p : ℕ) (es : List Effect) (e : Effect) → AllOwn p es → Own p e → AllOwn p (appended es e)
unfolding appended AllOwn
own_appended p [] e all o = (o, tt)
own_appended p (x ∷ []) e all o =
    pick_if (AllOwn p) (andb (ltb 0 (drops_of x.change)) (ltb 0 (drops_of e.change)))
    (λ h. ((λ i. o (ltb-true _ _ (and_right (ltb 0 (drops_of x.change)) (ltb 0 (drops_of e.change)) h))), tt)) (λ h. (all.0, (o, tt)))
own_appended p (x ∷ y ∷ es) e all o = (all.0, own_appended p (y ∷ es) e all.1 o)

own_noted : (p : ℕ) (es : List Effect) (e : Option Effect) → AllOwn p es → IfSome e (Own p) → AllOwn p (noted es e)
own_noted p es None all o = all
own_noted p es (Some e) all o = own_appended p es e all o

unfoldable pub OwnSteps : ℕ → List Outcome → Type 0
OwnSteps p [] = Unit {0}
OwnSteps p (o ∷ os) = IfSome o.effect (Own p) × OwnSteps p os

pub singles_own : (w most n : ℕ) (r : Run) (p : ℕ) → OwnSteps p (singles w most n r p)
unfolding singles OwnSteps
singles_own w most zero r p = tt
singles_own w most (suc n) r p = (
  step_if w most r.machine p Mark.Plain r.items (λ (o : Outcome). IfSome o.effect (Own p))
      (λ e. dropped_own w r.machine r.items p Mark.Plain) (λ e. tt),
  singles_own w most n (stepped w most r p Mark.Plain) p,
)

pub gathered_put : (ks : ℕ → Kind) (p : ℕ) (os : List Outcome) (l : List Entry) (es : List Effect) → AllOwn p es → OwnSteps p os
    → replay ks (put_on l (gathered es os)) ≡ replay ks (singles_on (put_on l es) os)
unfolding gathered singles_on OwnSteps
gathered_put ks p [] l es all own = refl
gathered_put ks p (o ∷ os) l es all own =
    gathered_put ks p os l (noted es o.effect) (own_noted p es o.effect all own.0) own.1
    ∙ singles_same ks p os (put_on l (noted es o.effect)) (did_entry o.effect (put_on l es))
    (noted_put ks p l es o.effect all own.0)

-- the record of running alone, and that of the single steps
pub alone_record : (w most : ℕ) (r : Run) (p n : ℕ) (ks : ℕ → Kind) → let b = alone w most r.machine r.items p n in
    replay ks (said_entry p b.answer (put_on r.record' b.effects)) ≡ replay ks (repeated w most b.steps r p).record'
unfolding put_on AllOwn
alone_record w most r p n ks =
    let b = alone w most r.machine r.items p n in
    let s : AsSingles w most r p b = alone_is_singles w most r p n in
    let os = singles w most b.steps r p in
    said_same ks p b.answer (put_on r.record' b.effects) (singles_on r.record' os)
    (ap (λ (es : List Effect). replay ks (put_on r.record' es)) s.effects
    ∙ gathered_put ks p os r.record' [] tt (singles_own w most b.steps r p))
    ∙ ap (replay ks) (sym s.record_is)

-- claim 5
pub alone_agrees : (w most : ℕ) (r : Run) (p n : ℕ) → AloneAgrees w most r p (alone w most r.machine r.items p n)
alone_agrees w most r p n =
    let s = alone_is_singles w most r p n in
    record {
      machine = s.machine;
      items = s.items;
      taken = s.taken;
      answer = s.answer;
      effects = s.effects;
      same_lists = alone_record w most r p n (kinds_of r.machine);
    }
