-- The owner's LIFO steps: loads, pop, empty. A pop needs no premise: the tail stays within a capacity of the head that it loaded, so a CAS
-- that finds its word finds it.
use mathlib.Core.Path.{◌≡◌, refl, sym, ap, ap₂, ◌∙◌}
use mathlib.Core.Logic.{◌≢◌, inl}
use mathlib.Core.Bool.{Bool, true, false}
use mathlib.Core.List.{List, [], ◌∷◌, ◌++◌}
use Prim.Native.Nat.{ℕ, ◌+◌, ◌%◌, ◌^◌, ◌<◌}
use native.Mathlib.Omega.{arith}
use lib.ListN.{length, get_or}
use lib.Dec.{eqb}
use borrow.Author.Tests.{eqb-true, eqb-false, eq-eqb}
use Rattle.std.specs.Prelude.{Some, None}
use Rattle.words.specs.Word.{pick, plus, minus, packed, high, low}
use Rattle.tables.specs.declared.access.Seen.{Seen}
use Rattle.tables.specs.declared.answer.Answer.TheVariants as Answer
use Rattle.tables.specs.declared.call.Mark.{Mark}
use Rattle.tables.specs.declared.state.Drain.{Drain}
use Rattle.tables.specs.declared.state.Kind.{Kind}
use Rattle.tables.specs.declared.place.LifoPlace.{LifoPlace}
use Rattle.tables.specs.declared.place.Place.{Place}
use Rattle.tables.specs.declared.place.RoomCall.{RoomCall}
use Rattle.tables.specs.Access.{Accessed, shows, saw_packed, with_packed, swaps, perform}
use Rattle.tables.specs.Row.{Row}
use Rattle.tables.specs.LifoTable.{lifo_row, lifo_loaded, tail_of}
use Rattle.tables.specs.Tables.{lifo_source}
use Rattle.tables.specs.Step.{is_weak}
use Rattle.tables.specs.Lists.{Lists, pop, can, is_nil}
use Rattle.tables.specs.Causes.{is_head_load, fill_of}
use Rattle.agreement.proofs.Wrap.{small, plus_is, diff_word, same, pair, pair_of, high_is, low_is, lows}
use Rattle.agreement.proofs.Ring.{cell, tokens_zero}
use Rattle.agreement.proofs.Nums.{noone, Nums, head, tail, pop_last, rest_length, rest_none, joins_pop_last, last_is}
use Rattle.agreement.proofs.Whole.{Whole, words_of, cap_small, slot_of}
use Rattle.agreement.proofs.Facts.{PopB, PopC, OwnL, OwnF}
use Rattle.agreement.proofs.Steps.{OwnNext}
use Rattle.agreement.proofs.OwnFill.{context_of, Calm, goes, stops, Loaded, is_filled, is_brought}

pub swaps_true : (weak same : Bool) → swaps weak same ≡ true → same ≡ true
swaps_true true same e = absurd (let z : ◌≡◌ {A = ℕ} 0 1 = cc in omega arith)
swaps_true false same e = e

pub not_kind : Kind.Fifo ≡ Kind.Lifo → ⊥
not_kind e = let z : ◌≡◌ {A = ℕ} 0 1 = cc in omega arith

pub some_there : (x : List ℕ) → 0 < length x → is_nil x ≡ false
some_there [] h = absurd (omega arith)
some_there (a ∷ x) h = refl

-- what a row gives on a queue
abbrev pub did : (w : ℕ) (k : Kind) (cap : ℕ) → List ℕ → Nums → Row → Mark → Accessed
did w k cap s g row mark = perform (words_of w k cap g) s row.access (is_weak mark)

abbrev pub OwnStep : (w p fill : ℕ) (items hand : List ℕ) (from k : Kind) (cap : ℕ) → List ℕ → Nums → Lists → Drain → Place → Mark → Row
    → Type 0
OwnStep w p fill items hand from k cap s g l d pl mark row =
    OwnNext w p (pick (is_head_load pl) (fill_of l) fill) items hand from k cap s g l d pl (did w k cap s g row mark)
    (row.after (did w k cap s g row mark).seen)

pub calm_lifo : (p cap : ℕ) (s : List ℕ) (x : LifoPlace) → Calm p cap s (Place.Lifo x)
calm_lifo p cap s x = record { waits_no = refl; hand_no = refl; holds_no = λ y. refl }

module _ (w p fill : ℕ) (items hand : List ℕ) (from : Kind) (d : Drain) (mark : Mark) {cap : ℕ} {s : List ℕ} {g : Nums} {l : Lists}
    (i : Whole w Kind.Lifo cap s g l) where
  tail_word : {n c : ℕ} → n ≡ g.pushed % 2 ^ w → c ≡ g.pops % 2 ^ w → minus w n c ≡ tail g % 2 ^ w
  tail_word en ec = diff_word w (tail g) g.pops (en ∙ ap (λ (n : ℕ). n % 2 ^ w) i.part.pushed_is) ec

  loaded : (j : RoomCall) (n q : ℕ) → n ≡ g.pushed % 2 ^ w → high w q ≡ g.pops % 2 ^ w
      → OwnF w fill items hand (Place.Lifo (LifoPlace.LoadCompleted j n q)) Kind.Lifo cap s g l → (x : Seen)
      → OwnNext w p (fill_of l) items hand from Kind.Lifo cap s g l d (Place.Lifo (LifoPlace.LoadCompleted j n q)) (shows (words_of w Kind.Lifo cap g) s x)
      (lifo_loaded w (context_of Kind.Lifo cap from d mark) j n q (g.completed % 2 ^ w))
  loaded j n q en eq o x = go j o
    where
      a : Loaded w p items from Kind.Lifo i d (fill_of l) n (high w q) (minus w n (high w q)) (g.completed % 2 ^ w)
      a = record {
        pg = g.pops;
        dg = g.completed;
        word_is = en;
        pops_is = eq;
        pushed_is = sym i.part.pushed_is;
        at_is = tail_word en eq;
        hd_is = refl;
        old = omega arith;
        fill_is = omega (arith, rest_length cap i.cap_pos i.joins, i.joins.kept_is);
        fill_fits = omega (arith, rest_length cap i.cap_pos i.joins, i.joins.kept_is, i.joins.fits);
      }

      go : (j : RoomCall) → OwnF w fill items hand (Place.Lifo (LifoPlace.LoadCompleted j n q)) Kind.Lifo cap s g l
          → OwnNext w p (fill_of l) items hand from Kind.Lifo cap s g l d (Place.Lifo (LifoPlace.LoadCompleted j n q)) (shows (words_of w Kind.Lifo cap g) s x)
          (lifo_loaded w (context_of Kind.Lifo cap from d mark) j n q (g.completed % 2 ^ w))
      go (RoomCall.Owner f) o = is_filled w p items from Kind.Lifo i d a fill hand (Place.Lifo (LifoPlace.LoadCompleted (RoomCall.Owner f) n q)) x mark f
          (calm_lifo p cap s (LifoPlace.LoadCompleted (RoomCall.Owner f) n q)) refl o
      go (RoomCall.Transfer e) o = is_brought w p items from Kind.Lifo i d a fill hand (Place.Lifo (LifoPlace.LoadCompleted (RoomCall.Transfer e) n q)) x mark e
          (calm_lifo p cap s (LifoPlace.LoadCompleted (RoomCall.Transfer e) n q)) refl o

  now_pop : PopB w cap g (pair w g.pops (head g))
  now_pop = record { hg = head g; p_is = refl; old = omega arith; near = omega (arith, i.joins.fits) }

  -- the test for none, on a remembered head
  none_test : (x : LifoPlace) (q t : ℕ) (y : Seen) → lifo_source p x ≡ p → PopB w cap g q → t ≡ tail g % 2 ^ w
      → OwnF w fill items hand (Place.Lifo x) Kind.Lifo cap s g l
      → (b : Bool) → eqb t (low w q) ≡ b
      → OwnNext w p fill items hand from Kind.Lifo cap s g l d (Place.Lifo x) (shows (words_of w Kind.Lifo cap g) s y)
      (pick b (record { place = Place.Idle; drain = d; answer = Some Answer.None; change = None })
      (record { place = Place.Lifo (LifoPlace.PopCas q t); drain = d; answer = None; change = None }))
  none_test x q t y sr a et o true e =
      stops w p items from Kind.Lifo i d fill fill hand (Place.Lifo x) Answer.None y refl (calm_lifo p cap s x) o sr
      (rest_none cap i.cap_pos i.joins
      (let z : tail g ≡ a.hg = same w (tail g) a.hg et (low_is w g.pops a.hg a.p_is) (eqb-true t (low w q) e)
      (omega (arith, a.old)) (omega (arith, a.near, cap_small w Kind.Lifo i)) in omega (arith, a.old)))
  none_test x q t y sr a et o false e =
      goes w p items from Kind.Lifo i d fill fill hand (Place.Lifo x) (Place.Lifo (LifoPlace.PopCas q t)) y (calm_lifo p cap s x)
      (calm_lifo p cap s (LifoPlace.PopCas q t)) o
      (refl, record { seen = a; t_is = et; some = eqb-false t (low w q) e }) (sym sr) (λ fm g₂ l₂. tt) (λ g₂. tt)

  pop_cas : (q t : ℕ) → PopC w cap g q t → OwnF w fill items hand (Place.Lifo (LifoPlace.PopCas q t)) Kind.Lifo cap s g l → (b : Bool)
      → (b ≡ true → pair w g.pops (head g) ≡ q)
      → OwnNext w p fill items hand from Kind.Lifo cap s g l d (Place.Lifo (LifoPlace.PopCas q t))
      (pick b (shows (with_packed (words_of w Kind.Lifo cap g) (packed w (plus w (high w q) 1) (low w q))) s
      (saw_packed (pair w g.pops (head g)) true)) (shows (words_of w Kind.Lifo cap g) s (saw_packed (pair w g.pops (head g)) false)))
      ((lifo_row w (context_of Kind.Lifo cap from d mark) (LifoPlace.PopCas q t)).after
      (pick b (shows (with_packed (words_of w Kind.Lifo cap g) (packed w (plus w (high w q) 1) (low w q))) s
      (saw_packed (pair w g.pops (head g)) true)) (shows (words_of w Kind.Lifo cap g) s (saw_packed (pair w g.pops (head g)) false))).seen)
  unfolding pop_last pop can cell
  pop_cas q t a o true eq =
      let b : PopB w cap g q = a.seen in
      let now : head g ≡ b.hg = same w (head g) b.hg refl refl (lows w g.pops (head g) g.pops b.hg refl b.p_is (eq refl))
      b.old (omega (arith, b.near, cap_small w Kind.Lifo i)) in
      let ne : g.rest ≢ 0 = λ z. a.some (a.t_is ∙ ap (λ (n : ℕ). n % 2 ^ w) (omega arith)
      ∙ sym (low_is w g.pops b.hg b.p_is)) in
      let some : 0 < g.rest = omega arith in
      let at : minus w t 1 ≡ tail (pop_last g) % 2 ^ w = diff_word w (tail (pop_last g)) 1 (a.t_is
      ∙ ap (λ (n : ℕ). n % 2 ^ w) (omega arith)) (small w (omega (arith, i.cap_fits, i.cap_pos))) in
      record {
        g' = pop_last g;
        actor = noone;
        q_is = ap (with_packed (words_of w Kind.Lifo cap g)) (pair_of w (g.pops + 1) (head g)
            (plus_is w g.pops 1 (high_is w g.pops b.hg b.p_is)) (low_is w g.pops b.hg b.p_is
            ∙ ap (λ (n : ℕ). n % 2 ^ w) (sym now)));
        ok = record {
          joins = joins_pop_last cap i.cap_pos i.joins some;
          cap_pos = i.cap_pos;
          cap_fits = i.cap_fits;
          cap_pow = i.cap_pow;
          free = i.free;
          shut = i.shut;
          part = record {
            pushed_is = omega (arith, i.part.pushed_is);
            gone_no = i.part.gone_no;
            moved_is = omega (arith, i.part.moved_is);
          };
        };
        own = record {
          wait_is = o.wait_is ∙ tokens_zero cap s (tail g) ∙ sym (tokens_zero cap s (tail (pop_last g)));
          hand_is = ap₂ (λ (h : List ℕ) (v : ℕ). h ++ (v ∷ [])) o.hand_is (last_is cap i.cap_pos i.joins some
              ∙ ap (λ (n : ℕ). get_or s n 0) (sym (slot_of w Kind.Lifo i (tail (pop_last g)) at)));
          at = tt;
        };
        fair = refl;
        src_s = refl;
        bkr = inl (refl, λ fm g₂ l₂ _. tt);
        drn = λ f ne. let z = f ne in record { who_is = z.who_is; at_is = z.at_is; end_is = z.end_is };
        rb = omega arith;
        rh = λ r _ _ _. record { who_s = refl; done_s = refl; taken_s = refl; left_s = refl; book_s = refl };
        who_s = refl;
        claim = λ y h. h;
        moved_s = refl;
        still = λ _. omega arith;
        still_n = λ g₂. tt;
        single = refl;
        can_s = rw (eq-eqb p p refl, some_there l.resting (omega (arith, rest_length cap i.cap_pos i.joins))) refl;
        why = tt;
      }
  pop_cas q t a o false eq = none_test (LifoPlace.PopCas q t) (pair w g.pops (head g)) t (saw_packed (pair w g.pops (head g)) false) refl
      now_pop a.t_is o _ refl

  pub lifo_step : (x : LifoPlace) → OwnF w fill items hand (Place.Lifo x) Kind.Lifo cap s g l
      → OwnStep w p fill items hand from Kind.Lifo cap s g l d (Place.Lifo x) mark (lifo_row w (context_of Kind.Lifo cap from d mark) x)
  lifo_step (LifoPlace.LoadPushes j) o = goes w p items from Kind.Lifo i d fill fill hand _ _ _ (calm_lifo p cap s _) (calm_lifo p cap s _) o
      (refl, refl) refl (λ fm g₂ l₂. tt) (λ g₂. tt)
  lifo_step (LifoPlace.LoadPacked j n) o =
      goes w p items from Kind.Lifo i d fill fill hand _ _ _ (calm_lifo p cap s _) (calm_lifo p cap s _) o
      (refl, o.at.1, high_is w g.pops (head g) refl) refl (λ fm g₂ l₂. tt) (λ g₂. tt)
  lifo_step (LifoPlace.LoadCompleted j n q) o = loaded j n q o.at.1 o.at.2 o _
  lifo_step LifoPlace.PopPacked o = goes w p items from Kind.Lifo i d fill fill hand _ _ _ (calm_lifo p cap s _) (calm_lifo p cap s _) o
      (refl, now_pop) refl (λ fm g₂ l₂. tt) (λ g₂. tt)
  lifo_step (LifoPlace.PopPushes q) o = none_test (LifoPlace.PopPushes q) q _ _ refl o.at.1
      (tail_word refl (high_is w g.pops o.at.1.hg o.at.1.p_is)) o _ refl
  lifo_step (LifoPlace.PopCas q t) o = pop_cas q t o.at.1 o _ (λ e. eqb-true _ _ (swaps_true (is_weak mark) _ e))
  lifo_step LifoPlace.EmptyPushes o = goes w p items from Kind.Lifo i d fill fill hand _ _ _ (calm_lifo p cap s _) (calm_lifo p cap s _) o refl refl
      (λ fm g₂ l₂. tt) (λ g₂. tt)
  lifo_step (LifoPlace.EmptyPacked n) o = go (eqb (tail_of w n (pair w g.pops (head g))) (low w (pair w g.pops (head g))))
    where
      go : (b : Bool) → OwnNext w p fill items hand from Kind.Lifo cap s g l d (Place.Lifo (LifoPlace.EmptyPacked n))
          (shows (words_of w Kind.Lifo cap g) s (saw_packed (pair w g.pops (head g)) true))
          (record { place = Place.Idle; drain = d; answer = Some (pick b Answer.Yes Answer.No); change = None })
      go true = stops w p items from Kind.Lifo i d fill fill hand _ Answer.Yes _ refl (calm_lifo p cap s _) o refl tt
      go false = stops w p items from Kind.Lifo i d fill fill hand _ Answer.No _ refl (calm_lifo p cap s _) o refl tt

lifo_kind : (w cap : ℕ) (x : LifoPlace) (k : Kind) (g : Nums) → OwnL w cap x k g → k ≡ Kind.Lifo
lifo_kind w cap (LifoPlace.LoadPushes j) k g a = a
lifo_kind w cap (LifoPlace.LoadPacked j n) k g a = a.0
lifo_kind w cap (LifoPlace.LoadCompleted j n p) k g a = a.0
lifo_kind w cap LifoPlace.PopPacked k g a = a
lifo_kind w cap (LifoPlace.PopPushes p) k g a = a.0
lifo_kind w cap (LifoPlace.PopCas p t) k g a = a.0
lifo_kind w cap LifoPlace.EmptyPushes k g a = a
lifo_kind w cap (LifoPlace.EmptyPacked n) k g a = a

pub lifo_any : (w p fill : ℕ) (items hand : List ℕ) (from : Kind) (d : Drain) (mark : Mark) (k : Kind) {cap : ℕ} {s : List ℕ} {g : Nums}
    {l : Lists} → Whole w k cap s g l → (x : LifoPlace)
    → OwnF w fill items hand (Place.Lifo x) k cap s g l → OwnStep w p fill items hand from k cap s g l d (Place.Lifo x) mark (lifo_row w (context_of k
    cap from d mark) x)
lifo_any w p fill items hand from d mark Kind.Lifo i x o = lifo_step w p fill items hand from d mark i x o
lifo_any w p fill items hand from d mark Kind.Fifo {cap} {g = g} i x o = absurd (not_kind (lifo_kind w cap x Kind.Fifo g o.at))
