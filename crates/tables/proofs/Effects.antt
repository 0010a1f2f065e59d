-- A run alone has at most three effects, dropped ones in a row as one.
use Prim.Native.Nat.{ℕ, ◌+◌, ◌≤◌, ◌<◌}
use mathlib.Core.Path.{◌≡◌, refl, sym, ap, subst, ◌∙◌}
use mathlib.Core.Bool.{Bool, true, false, not, true≢false}
use mathlib.Core.List.{List, [], ◌∷◌}
use native.Mathlib.Omega.{arith}
use borrow.Author.Tests.{lt-ltb}
use lib.Dec.{ltb, eqb}
use lib.ListN.{length}
use Rattle.std.specs.Prelude.{Option, Some, None, IfSome}
use Rattle.words.specs.Word.{pick, plus}
use Rattle.tables.specs.declared.access.Context.{Context}
use Rattle.tables.specs.declared.access.Seen.{Seen}
use Rattle.tables.specs.declared.access.Whose.{Whose}
use Rattle.tables.specs.declared.answer.Change.{Change}
use Rattle.tables.specs.declared.answer.Effect.{Effect}
use Rattle.tables.specs.declared.call.Mark.{Mark}
use Rattle.tables.specs.declared.state.Kind.TheVariants as Kind
use Rattle.tables.specs.declared.state.Machine.{Machine}
use Rattle.tables.specs.declared.place.OwnPlace.{OwnPlace}
use Rattle.tables.specs.declared.place.Place.{Place}
use Rattle.tables.specs.Answer.{is_pending}
use Rattle.tables.specs.Effect.{change_row, drops_of, effect_of}
use Rattle.tables.specs.Row.{Row}
use Rattle.tables.specs.Tables.{row_of, wish_of, wishes}
use Rattle.tables.specs.Step.{andb, place_at, source_at, context_of, site, site_at, access_at, next_at, taken, Alone, appended, noted, stops, onward, runs, still, alone}
use Rattle.tables.proofs.Bools.{neither, pick_if, pick_yes, and_both}
use Rattle.tables.proofs.Rows.{dropped_is}
use Rattle.tables.proofs.Maybe.{change_in, effects, drops_maybe}
use Rattle.tables.proofs.Left.{left, left_most, drops_at}
use Rattle.tables.proofs.Places.{Goes, goes}
use Rattle.tables.proofs.Sound.{Sound, site_below, taken_goes}
use Rattle.tables.proofs.Refused.{alone_if}
use Rattle.tables.proofs.After.{place_after}
use Rattle.tables.proofs.Alone.{runs_if}

-- ---- an effect noted

pub effect_change : (p q s : ℕ) (c : Option Change) → change_in (effect_of p q s c) ≡ c
effect_change p q s None = refl
effect_change p q s (Some c) = refl

appended_length : (l : List Effect) (e : Effect) → length (appended l e) ≤ length l + 1
unfolding appended
appended_length [] e = omega arith
appended_length (x ∷ []) e =
    pick_if (λ (l : List Effect). length l ≤ 1 + 1) (andb (ltb 0 (drops_of x.change)) (ltb 0 (drops_of e.change))) (λ h. omega arith)
    (λ h. omega arith)
appended_length (x ∷ y ∷ l) e = omega (arith, appended_length (y ∷ l) e)

pub noted_length : (l : List Effect) (e : Option Effect) → length (noted l e) ≤ length l + effects (change_in e)
noted_length l None = omega arith
noted_length l (Some e) = appended_length l e

-- each effect drops n at most
abbrev pub DropsMost : ℕ → List Effect → Type 0
DropsMost n [] = Unit {0}
DropsMost n (x ∷ l) = (drops_of x.change ≤ n) × DropsMost n l

most_more : (n : ℕ) (l : List Effect) → DropsMost n l → DropsMost (n + 1) l
most_more n [] m = tt
most_more n (x ∷ l) m = (omega (arith, m.0), most_more n l m.1)

most_appended : (n : ℕ) (l : List Effect) (e : Effect) → DropsMost n l → drops_of e.change ≤ 1 → DropsMost (n + 1) (appended l e)
unfolding appended
most_appended n [] e m h = (omega arith, tt)
most_appended n (x ∷ []) e m h =
    pick_if (DropsMost (n + 1)) (andb (ltb 0 (drops_of x.change)) (ltb 0 (drops_of e.change))) (λ i. (omega (arith, m.0), tt))
    (λ i. (omega (arith, m.0), (omega arith, tt)))
most_appended n (x ∷ y ∷ l) e m h = (omega (arith, m.0), most_appended n (y ∷ l) e m.1 h)

pub most_noted : (n : ℕ) (l : List Effect) (e : Option Effect) → DropsMost n l → drops_maybe (change_in e) ≤ 1
    → DropsMost (n + 1) (noted l e)
most_noted n l None m h = most_more n l m
most_noted n l (Some e) m h = most_appended n l e m h

-- nothing yet, or dropped ones only
abbrev pub OnlyDropped : List Effect → Type 0
OnlyDropped [] = Unit {0}
OnlyDropped (x ∷ []) = 0 < drops_of x.change
OnlyDropped (x ∷ y ∷ l) = ⊥

only_length : (l : List Effect) → OnlyDropped l → length l ≤ 1
only_length [] o = omega arith
only_length (x ∷ []) o = omega arith
only_length (x ∷ y ∷ l) o = absurd o

only_appended : (l : List Effect) (e : Effect) → OnlyDropped l → 0 < drops_of e.change → OnlyDropped (appended l e)
unfolding appended
only_appended [] e o h = h
only_appended (x ∷ []) e o h =
    subst OnlyDropped (sym (pick_yes _ _ (x ∷ e ∷ []) (and_both _ _ (lt-ltb 0 (drops_of x.change) o) (lt-ltb 0 (drops_of e.change) h))))
    (omega arith)
only_appended (x ∷ y ∷ l) e o h = absurd o

-- none, or a dropped one
abbrev NoneButDropped : Option Change → Type 0
NoneButDropped c = IfSome c (λ d. 0 < drops_of d)

noted_only : (l : List Effect) (e : Option Effect) → OnlyDropped l → NoneButDropped (change_in e) → OnlyDropped (noted l e)
noted_only l None o c = o
noted_only l (Some e) o c = only_appended l e o c

-- ---- the place that drops: on the own queue, and what it leads to

record Drops (r : Row) (x : Seen) : Type 0 where
  own_queue : r.whose ≡ Whose.Own
  small : left (r.after x).place ≤ 2
  change : NoneButDropped (r.after x).change
  one : drops_maybe (r.after x).change ≤ 1

drops_row : (w : ℕ) (s : Context) (p : Place) (x : Seen) → drops_at p ≡ true → Drops (row_of w s p) x
drops_row w s Place.Idle x h = absurd (true≢false (sym h))
drops_row w s (Place.Lifo p) x h = absurd (true≢false (sym h))
drops_row w s (Place.Fifo p) x h = absurd (true≢false (sym h))
drops_row w s (Place.Own p) x h = at p h
  where
    at : (p : OwnPlace) → drops_at (Place.Own p) ≡ true → Drops (row_of w s (Place.Own p)) x
    at (OwnPlace.PushWrite t n tail) h = absurd (true≢false (sym h))
    at (OwnPlace.PushStore n) h = absurd (true≢false (sym h))
    at (OwnPlace.ExtendMore c tail limit j) h = absurd (true≢false (sym h))
    at (OwnPlace.ExtendStore c tail j) h = absurd (true≢false (sym h))
    at (OwnPlace.PopRead y) h = absurd (true≢false (sym h))
    at OwnPlace.NextItem h = absurd (true≢false (sym h))
    at OwnPlace.DropItem h =
        pick_if (λ (r : Row). Drops r x) (eqb s.drain.at s.drain.end)
        (λ i. record { own_queue = refl; small = omega arith; change = tt; one = omega arith })
        (λ i. record {
          own_queue = refl;
          small = pick_if (λ (q : Place). left q ≤ 2) (eqb (plus w s.drain.at 1) s.drain.end) (λ j. omega arith) (λ j. omega arith);
          change = omega arith;
          one = omega arith;
        })
drops_row w s (Place.Book g p) x h = absurd (true≢false (sym h))
drops_row w s (Place.Move p) x h = absurd (true≢false (sym h))
drops_row w s (Place.Close e p) x h = absurd (true≢false (sym h))

-- a step drops one at most
pub drops_one : (w : ℕ) (s : Context) (p : Place) (x : Seen) → drops_maybe ((row_of w s p).after x).change ≤ 1
drops_one w s p x = at (drops_at p) refl
  where
    at : (t : Bool) → drops_at p ≡ t → drops_maybe ((row_of w s p).after x).change ≤ 1
    at false d = omega (arith, (goes (λ q. Kind.Lifo) 0 w s p x).sole d)
    at true d = (drops_row w s p x d).one

-- what is dropped, party p drops from its own queue
abbrev pub Own : ℕ → Effect → Type 0
Own p e = 0 < drops_of e.change → (e.party ≡ p) × (e.queue ≡ p)

effect_dropped : (q s : ℕ) (c : Change) → 0 < drops_of c → pick (change_row c).lands s q ≡ q
effect_dropped q s c h = subst (λ (d : Change). pick (change_row d).lands s q ≡ q) (sym (dropped_is c h)) refl

effect_own : (p q s : ℕ) (c : Option Change) → (0 < drops_maybe c → q ≡ p) → IfSome (effect_of p q s c) (Own p)
effect_own p q s None h = tt
effect_own p q s (Some c) h = λ d. (refl, effect_dropped q s c d ∙ h d)

pub dropped_own : (w : ℕ) (m : Machine) (xs : List ℕ) (who : ℕ) (mark : Mark) → IfSome (taken w m xs who mark).effect (Own who)
unfolding taken
dropped_own w m xs who mark =
    effect_own who (site_at w m who mark) (source_at m who) (next_at w m xs who mark).change
    (at (drops_at (place_at m who)) refl)
  where
    at : (t : Bool) → drops_at (place_at m who) ≡ t → 0 < drops_maybe (next_at w m xs who mark).change → site_at w m who mark ≡ who
    at false i h = absurd (omega (arith, (taken_goes w 0 m xs who mark).sole i))
    at true i h =
        ap (λ (x : Whose). site x who (source_at m who))
        (drops_row w (context_of m who mark) (place_at m who) (access_at w m xs who mark).seen i).own_queue

-- ---- an effect names a party and a queue of the record

-- those below n
abbrev pub Names : ℕ → Effect → Type 0
Names n e = (e.party < n) × (e.queue < n)

effect_names : (n who q s : ℕ) → who < n → q < n → s < n → (c : Option Change) → IfSome (effect_of who q s c) (Names n)
effect_names n who q s hw hq hs None = tt
effect_names n who q s hw hq hs (Some c) = (hw, pick_if (λ (x : ℕ). x < n) (change_row c).lands (λ _. hs) (λ _. hq))

pub effect_below : (w most : ℕ) (m : Machine) (xs : List ℕ) (who : ℕ) (mark : Mark) (lent : ℕ) → Sound w most m lent → who < m.parties
    → IfSome (taken w m xs who mark).effect (Names m.parties)
unfolding taken
effect_below w most m xs who mark lent s h =
    effect_names m.parties who (site_at w m who mark) (source_at m who) h (site_below w most m xs who mark lent s h) (s.placed who h).source
    (next_at w m xs who mark).change

-- ---- what a run alone keeps: effects so far and those still to come are at most three

pub record FewAt (p : Place) (l : List Effect) : Type 0 where
  pub count : length l + left p ≤ 3
  pub only : drops_at p ≡ true → OnlyDropped l

pub few_at_none : (p : Place) → FewAt p []
few_at_none p = record { count = omega (arith, left_most p); only = λ i. tt }

-- a row that wants nothing, its effect noted
module _ (w : ℕ) (s : Context) (p : Place) (x : Seen) {l : List Effect} (e : Option Effect) (f : FewAt p l)
    (h : wishes (wish_of p) ≡ false) (is : change_in e ≡ ((row_of w s p).after x).change) where
  -- dropped ones are still the only ones
  only_noted : drops_at p ≡ true → OnlyDropped (noted l e)
  only_noted d =
      noted_only l e (f.only d) (subst NoneButDropped (sym is) (drops_row w s p x d).change)

  pub few_on : FewAt ((row_of w s p).after x).place (noted l e)
  few_on = at (drops_at p) refl
    where
      leads : Goes (λ q. Kind.Lifo) 0 s p ((row_of w s p).after x)
      leads = goes (λ q. Kind.Lifo) 0 w s p x

      at : (t : Bool) → drops_at p ≡ t → FewAt ((row_of w s p).after x).place (noted l e)
      at false d = record {
        count = omega (arith, noted_length l e, leads.fewer h d, f.count, ap effects is);
        only = λ i. absurd (true≢false (sym i ∙ leads.onto d));
      }
      at true d = record {
        count = omega (arith, only_length (noted l e) (only_noted d), (drops_row w s p x d).small);
        only = λ i. only_noted d;
      }

pub record Few (who : ℕ) (r : Alone) : Type 0 where
  pub few : FewAt (place_at r.machine who) r.effects

module _ (w who : ℕ) (r : Alone) (f : Few who r) (h : stops who r ≡ false) where
  pub turn_few : Few who (onward r (taken w r.machine r.items who Mark.Plain))
  unfolding taken
  turn_few = record {
    few = rw (place_after w r.machine r.items who Mark.Plain)
        (few_on w (context_of r.machine who Mark.Plain) (place_at r.machine who) (access_at w r.machine r.items who Mark.Plain).seen
        (taken w r.machine r.items who Mark.Plain).effect f.few
        (neither (not (is_pending r.answer)) (wishes (wish_of (place_at r.machine who))) h).1
        (effect_change who (site_at w r.machine who Mark.Plain) (source_at r.machine who) (next_at w r.machine r.items who Mark.Plain).change));
  }

module _ (w who : ℕ) where
  -- from any place, with no effect yet
  pub few_none : (r : Alone) → r.effects ≡ [] → Few who r
  few_none r e = record { few = rw e (few_at_none (place_at r.machine who)) }

  pub runs_few : (k : ℕ) (r : Alone) → Few who r → length (runs w who k r).effects ≤ 3
  runs_few k r f = let g : Few who (runs w who k r) =
      runs_if w who (Few who) (λ x p h. turn_few w who x p h) k r f in omega (arith, g.few.count)

  pub runs_few_none : (k : ℕ) (r : Alone) → r.effects ≡ [] → length (runs w who k r).effects ≤ 3
  runs_few_none k r e = runs_few k r (few_none r e)

  pub alone_few : (most : ℕ) (m : Machine) (xs : List ℕ) (budget : ℕ) → length (alone w most m xs who budget).effects ≤ 3
  alone_few most m xs budget =
      alone_if w most m who xs budget (λ (r : Alone). length r.effects ≤ 3)
      (λ e. runs_few budget (still m xs 0) (few_none (still m xs 0) refl))
      (λ e. omega arith)
