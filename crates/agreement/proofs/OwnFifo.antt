-- The owner's FIFO steps: loads, pop, empty. A pop needs no premise: the tail stays within a capacity of the heads that it loaded, so a CAS
-- that finds their word finds them.
use mathlib.Core.Path.{◌≡◌, refl, sym, ap, ap₂, ◌∙◌}
use mathlib.Core.Logic.{◌≢◌, inl}
use mathlib.Core.Bool.{Bool, true, false}
use mathlib.Core.List.{List, [], ◌∷◌, ◌++◌}
use Prim.Native.Nat.{ℕ, ◌+◌, ◌%◌, ◌^◌, ◌≤◌, ◌<◌}
use native.Mathlib.Omega.{arith}
use lib.ListN.{get_or}
use lib.Dec.{eqb}
use borrow.Author.Tests.{eqb-true, eqb-false, eq-eqb}
use Rattle.std.specs.Prelude.{Some, None}
use Rattle.words.specs.Word.{pick, plus, packed, high, low, position}
use Rattle.tables.specs.declared.access.Seen.{Seen}
use Rattle.tables.specs.declared.answer.Answer.TheVariants as Answer
use Rattle.tables.specs.declared.answer.Change.TheVariants as Change
use Rattle.tables.specs.declared.call.Mark.{Mark}
use Rattle.tables.specs.declared.state.Drain.{Drain}
use Rattle.tables.specs.declared.state.Kind.{Kind}
use Rattle.tables.specs.declared.place.FifoPlace.{FifoPlace}
use Rattle.tables.specs.declared.place.OwnPlace.TheVariants as OwnPlace
use Rattle.tables.specs.declared.place.Place.TheVariants as Place
use lib.Pow.{pow_pos}
use Rattle.tables.specs.Access.{shows, saw_word, saw_packed, with_packed}
use Rattle.tables.specs.FifoTable.{fifo_row, popped_heads}
use Rattle.tables.specs.Step.{is_weak}
use Rattle.tables.specs.Lists.{Lists, pop, pop_from, can}
use Rattle.tables.specs.Causes.{fill_of}
use Rattle.agreement.proofs.Wrap.{small, plus_is, same, pair, pair_of, high_is, low_is, highs}
use Rattle.agreement.proofs.Ring.{cell, tokens_zero}
use Rattle.agreement.proofs.Nums.{noone, Nums, head, tail, pop_past, pop_first, rest_length, rest_none, joins_pop_past, joins_pop_first, first_is}
use Rattle.agreement.proofs.Whole.{Whole, words_of, cap_small, slot_of}
use Rattle.agreement.proofs.Facts.{FPopB, FPopC, OwnK, OwnF}
use Rattle.agreement.proofs.Steps.{OwnNext}
use Rattle.agreement.proofs.OwnFill.{context_of, Calm, goes, stops, Loaded, is_filled, is_brought}
use Rattle.agreement.proofs.OwnLifo.{swaps_true, not_kind, some_there, OwnStep}

pub calm_fifo : (p cap : ℕ) (s : List ℕ) (x : FifoPlace) → Calm p cap s (Place.Fifo x)
calm_fifo p cap s x = record { waits_no = refl; hand_no = refl; holds_no = λ y. refl }

module _ (w p fill : ℕ) (items hand : List ℕ) (from : Kind) (d : Drain) (mark : Mark) {cap : ℕ} {s : List ℕ} {g : Nums} {l : Lists}
    (i : Whole w Kind.Fifo cap s g l) where
  tail_word : {n : ℕ} → n ≡ g.pushed % 2 ^ w → n ≡ tail g % 2 ^ w
  tail_word e = e ∙ ap (λ (n : ℕ). n % 2 ^ w) i.part.pushed_is

  now_fill : fill_of l + g.completed ≡ tail g
  now_fill = omega (arith, rest_length cap i.cap_pos i.joins, i.joins.kept_is)

  now_fits : fill_of l ≤ cap
  now_fits = omega (arith, rest_length cap i.cap_pos i.joins, i.joins.kept_is, i.joins.fits)

  -- FIFO has no pop count: the store goes over the tail
  loaded : {fill₁ t hd : ℕ} (dg : ℕ) → t ≡ g.pushed % 2 ^ w → hd ≡ dg % 2 ^ w → dg ≤ g.completed → fill₁ + dg ≡ tail g → fill₁ ≤ cap
      → Loaded w p items from Kind.Fifo i d fill₁ t 0 t hd
  loaded dg et eh old ef fits = record {
    pg = 0;
    dg = dg;
    word_is = et;
    pops_is = small w (pow_pos w);
    pushed_is = omega (arith, i.part.pushed_is);
    at_is = tail_word et;
    hd_is = eh;
    old = old;
    fill_is = ef;
    fill_fits = fits;
  }

  now_pop : FPopB w cap g (pair w (head g) g.completed)
  now_pop = record {
    hg = head g;
    sg = g.completed;
    p_is = refl;
    h_old = omega arith;
    s_old = omega arith;
    near = omega (arith, i.joins.fits);
    order = omega arith;
  }

  none_test : (q : ℕ) (y : Seen) → FPopB w cap g q → OwnF w fill items hand (Place.Fifo (FifoPlace.PopTail q)) Kind.Fifo cap s g l → (b : Bool)
      → eqb (g.pushed % 2 ^ w) (high w q) ≡ b
      → OwnNext w p fill items hand from Kind.Fifo cap s g l d (Place.Fifo (FifoPlace.PopTail q)) (shows (words_of w Kind.Fifo cap g) s y)
      (pick b (record { place = Place.Idle; drain = d; answer = Some Answer.None; change = None })
      (record { place = Place.Fifo (FifoPlace.PopCas q); drain = d; answer = None; change = None }))
  none_test q y a o true e =
      stops w p items from Kind.Fifo i d fill fill hand (Place.Fifo (FifoPlace.PopTail q)) Answer.None y refl (calm_fifo p cap s (FifoPlace.PopTail q)) o refl
      (rest_none cap i.cap_pos i.joins
      (let z : tail g ≡ a.hg = same w (tail g) a.hg (tail_word refl) (high_is w a.hg a.sg a.p_is)
      (eqb-true (g.pushed % 2 ^ w) (high w q) e) (omega (arith, a.h_old)) (omega (arith, a.near, a.order, cap_small w Kind.Fifo i)) in
      omega (arith, a.h_old)))
  none_test q y a o false e =
      goes w p items from Kind.Fifo i d fill fill hand (Place.Fifo (FifoPlace.PopTail q)) (Place.Fifo (FifoPlace.PopCas q)) y (calm_fifo p cap s (FifoPlace.PopTail q))
      (calm_fifo p cap s (FifoPlace.PopCas q)) o (
        refl,
        record {
          seen = a;
          some = λ z. eqb-false (g.pushed % 2 ^ w) (high w q) e (tail_word refl ∙ ap (λ (n : ℕ). n % 2 ^ w) z
              ∙ sym (high_is w a.hg a.sg a.p_is));
        },
      )
      refl (λ fm g₂ l₂. tt) (λ g₂. tt)

  -- the CAS found the word: nothing has moved since the load
  module _ {q : ℕ} (a : FPopC w cap g q) (eq : pair w (head g) g.completed ≡ q) where
    now_head : head g ≡ a.seen.hg
    now_head = let b = a.seen in same w (head g) b.hg refl refl (highs w (head g) g.completed b.hg b.sg refl b.p_is eq)
        b.h_old (omega (arith, b.near, b.order, cap_small w Kind.Fifo i))

    now_some : 0 < g.rest
    now_some = let n : g.rest ≢ 0 = λ z. a.some (omega (arith, now_head)) in omega arith

    high_now : high w q ≡ head g % 2 ^ w
    high_now = high_is w (head g) g.completed (sym eq)

    low_now : low w q ≡ g.completed % 2 ^ w
    low_now = low_is w (head g) g.completed (sym eq)

    in_hand_lem : (h : List ℕ) → h ≡ [] → h ++ (pop_from Kind.Fifo l.resting ∷ []) ≡ get_or s (high w q % cap) 0 ∷ []
    unfolding cell
    in_hand_lem h e = ap₂ (λ (x : List ℕ) (v : ℕ). x ++ (v ∷ [])) e (first_is cap i.cap_pos i.joins now_some
        ∙ ap (λ (n : ℕ). get_or s n 0) (sym (slot_of w Kind.Fifo i (head g) high_now)))

    -- the popped word, by whether the heads were equal
    pub pops : (b : Bool) → eqb (high w q) (low w q) ≡ b → OwnF w fill items hand (Place.Fifo (FifoPlace.PopCas q)) Kind.Fifo cap s g l
        → OwnNext w p fill items hand from Kind.Fifo cap s g l d (Place.Fifo (FifoPlace.PopCas q))
        (shows (with_packed (words_of w Kind.Fifo cap g) (packed w (plus w (high w q) 1) (pick b (plus w (low w q) 1) (low w q)))) s
        (saw_packed (pair w (head g) g.completed) true))
        (record { place = Place.Own (OwnPlace.PopRead (position (high w q))); drain = d; answer = None; change = Some Change.Popped })
    unfolding pop_first pop_past pop can
    pops true e o =
        let eq₂ : head g ≡ g.completed = same w (head g) g.completed high_now low_now (eqb-true (high w q) (low w q) e) (omega arith)
        (omega (arith, i.joins.fits, cap_small w Kind.Fifo i)) in
        let nob : g.who ≡ noone = i.free (omega arith) in
        let some : 0 < g.rest = now_some in
        record {
          g' = pop_first g;
          actor = noone;
          q_is = ap (with_packed (words_of w Kind.Fifo cap g)) (pair_of w (head (pop_first g)) (g.completed + 1) (plus_is w (head g) 1 high_now
              ∙ ap (λ (n : ℕ). n % 2 ^ w) (omega arith)) (plus_is w g.completed 1 low_now));
          ok = record {
            joins = joins_pop_first cap i.cap_pos i.joins some nob (omega arith);
            cap_pos = i.cap_pos;
            cap_fits = i.cap_fits;
            cap_pow = i.cap_pow;
            free = λ _. nob;
            shut = λ _. refl;
            part = record {
              pushed_is = omega (arith, i.part.pushed_is);
              gone_no = λ _. refl;
              moved_is = omega (arith, i.part.moved_is);
            };
          };
          own = record {
            wait_is = o.wait_is ∙ tokens_zero cap s (tail g)
                ∙ sym (tokens_zero cap s (tail (pop_first g)));
            hand_is = in_hand_lem hand o.hand_is;
            at = tt;
          };
          fair = refl;
          src_s = refl;
          bkr = inl (refl, λ fm g₂ l₂ _. tt);
          drn = λ f ne. absurd (let z = f ne in let y : ◌≡◌ {A = ℕ} 0 1 = cc (z.who_is, nob) in omega arith);
          rb = omega arith;
          rh = λ r rn _ ew. absurd (rn (sym ew ∙ nob));
          who_s = refl;
          claim = λ y h. h;
          moved_s = refl;
          still = λ _. omega arith;
          still_n = λ g₂. tt;
          single = refl;
          can_s = rw (eq-eqb p p refl, some_there l.resting (omega (arith, rest_length cap i.cap_pos i.joins))) refl;
          why = tt;
        }
    pops false e o =
        let apart : head g ≢ g.completed = λ z. eqb-false (high w q) (low w q) e (high_now ∙ ap (λ (n : ℕ). n % 2 ^ w) z ∙ sym low_now) in
        let opened : g.who ≢ noone = λ z. apart (omega (arith, i.shut z, i.part.gone_no (i.shut z))) in
        let some : 0 < g.rest = now_some in
        record {
          g' = pop_past g;
          actor = noone;
          q_is = ap (with_packed (words_of w Kind.Fifo cap g)) (pair_of w (head (pop_past g)) g.completed (plus_is w (head g) 1 high_now
              ∙ ap (λ (n : ℕ). n % 2 ^ w) (omega arith)) low_now);
          ok = record {
            joins = joins_pop_past cap i.cap_pos i.joins some opened;
            cap_pos = i.cap_pos;
            cap_fits = i.cap_fits;
            cap_pow = i.cap_pow;
            free = i.free;
            shut = i.shut;
            part = record {
              pushed_is = omega (arith, i.part.pushed_is);
              gone_no = λ z. absurd (apart (omega (arith, i.part.gone_no z)));
              moved_is = omega (arith, i.part.moved_is);
            };
          };
          own = record {
            wait_is = o.wait_is ∙ tokens_zero cap s (tail g)
                ∙ sym (tokens_zero cap s (tail (pop_past g)));
            hand_is = in_hand_lem hand o.hand_is;
            at = tt;
          };
          fair = refl;
          src_s = refl;
          bkr = inl (refl, λ fm g₂ l₂ _. tt);
          drn = λ f ne. let z = f ne in record { who_is = z.who_is; at_is = z.at_is; end_is = z.end_is };
          rb = omega arith;
          rh = λ r _ _ _. record { who_s = refl; done_s = refl; taken_s = refl; left_s = refl; book_s = refl };
          who_s = refl;
          claim = λ y h. h;
          moved_s = refl;
          still = λ _. omega arith;
          still_n = λ g₂. tt;
          single = refl;
          can_s = rw (eq-eqb p p refl, some_there l.resting (omega (arith, rest_length cap i.cap_pos i.joins))) refl;
          why = tt;
        }

  pop_cas : (q : ℕ) → FPopC w cap g q → OwnF w fill items hand (Place.Fifo (FifoPlace.PopCas q)) Kind.Fifo cap s g l → (b : Bool)
      → (b ≡ true → pair w (head g) g.completed ≡ q)
      → OwnNext w p fill items hand from Kind.Fifo cap s g l d (Place.Fifo (FifoPlace.PopCas q))
      (pick b (shows (with_packed (words_of w Kind.Fifo cap g) (popped_heads w q)) s (saw_packed (pair w (head g) g.completed) true))
      (shows (words_of w Kind.Fifo cap g) s (saw_packed (pair w (head g) g.completed) false)))
      ((fifo_row w (context_of Kind.Fifo cap from d mark) (FifoPlace.PopCas q)).after
      (pick b (shows (with_packed (words_of w Kind.Fifo cap g) (popped_heads w q)) s (saw_packed (pair w (head g) g.completed) true))
      (shows (words_of w Kind.Fifo cap g) s (saw_packed (pair w (head g) g.completed) false))).seen)
  pop_cas q a o true eq = pops a (eq refl) _ refl o
  pop_cas q a o false eq = goes w p items from Kind.Fifo i d fill fill hand _ _ _ (calm_fifo p cap s _) (calm_fifo p cap s _) o (refl, now_pop)
      refl (λ fm g₂ l₂. tt) (λ g₂. tt)

  pub fifo_step : (x : FifoPlace) → OwnF w fill items hand (Place.Fifo x) Kind.Fifo cap s g l
      → OwnStep w p fill items hand from Kind.Fifo cap s g l d (Place.Fifo x) mark (fifo_row w (context_of Kind.Fifo cap from d mark) x)
  fifo_step (FifoPlace.LoadPacked f) o =
      goes w p items from Kind.Fifo i d fill (fill_of l) hand _ _ _ (calm_fifo p cap s _) (calm_fifo p cap s _) o (
        refl,
        record {
          sg = g.completed;
          p_is = low_is w (head g) g.completed refl;
          old = omega arith;
          fill_is = now_fill;
          fill_fits = now_fits;
        },
      ) refl (λ fm g₂ l₂. tt) (λ g₂. tt)
  fifo_step (FifoPlace.LoadTail f q) o =
      let a = o.at.1 in
      is_filled w p items from Kind.Fifo i d (loaded a.sg refl a.p_is a.old a.fill_is a.fill_fits) fill hand _ _ mark f
      (calm_fifo p cap s _) refl o
  fifo_step (FifoPlace.DestTail e) o = goes w p items from Kind.Fifo i d fill fill hand _ _ _ (calm_fifo p cap s _) (calm_fifo p cap s _) o
      (refl, refl) refl (λ fm g₂ l₂. tt) (λ g₂. tt)
  fifo_step (FifoPlace.DestPacked e t) o =
      is_brought w p items from Kind.Fifo i d (loaded g.completed o.at.1 (low_is w (head g) g.completed refl) (omega arith) now_fill now_fits)
      fill hand _ _ mark e (calm_fifo p cap s _) refl o
  fifo_step FifoPlace.PopPacked o = goes w p items from Kind.Fifo i d fill fill hand _ _ _ (calm_fifo p cap s _) (calm_fifo p cap s _) o
      (refl, now_pop) refl (λ fm g₂ l₂. tt) (λ g₂. tt)
  fifo_step (FifoPlace.PopTail q) o = none_test q _ o.at.1 o _ refl
  fifo_step (FifoPlace.PopCas q) o = pop_cas q o.at.1 o _ (λ e. eqb-true _ _ (swaps_true (is_weak mark) _ e))
  fifo_step FifoPlace.EmptyPacked o = goes w p items from Kind.Fifo i d fill fill hand _ _ _ (calm_fifo p cap s _) (calm_fifo p cap s _) o refl refl
      (λ fm g₂ l₂. tt) (λ g₂. tt)
  fifo_step (FifoPlace.EmptyTail q) o = go (eqb (g.pushed % 2 ^ w) (high w q))
    where
      go : (b : Bool) → OwnNext w p fill items hand from Kind.Fifo cap s g l d (Place.Fifo (FifoPlace.EmptyTail q))
          (shows (words_of w Kind.Fifo cap g) s (saw_word (g.pushed % 2 ^ w)))
          (record { place = Place.Idle; drain = d; answer = Some (pick b Answer.Yes Answer.No); change = None })
      go true = stops w p items from Kind.Fifo i d fill fill hand _ Answer.Yes _ refl (calm_fifo p cap s _) o refl tt
      go false = stops w p items from Kind.Fifo i d fill fill hand _ Answer.No _ refl (calm_fifo p cap s _) o refl tt

fifo_kind : (w fill cap : ℕ) (x : FifoPlace) (k : Kind) (g : Nums) → OwnK w fill cap x k g → k ≡ Kind.Fifo
fifo_kind w fill cap (FifoPlace.LoadPacked f) k g a = a
fifo_kind w fill cap (FifoPlace.LoadTail f p) k g a = a.0
fifo_kind w fill cap (FifoPlace.DestTail e) k g a = a
fifo_kind w fill cap (FifoPlace.DestPacked e t) k g a = a.0
fifo_kind w fill cap FifoPlace.PopPacked k g a = a
fifo_kind w fill cap (FifoPlace.PopTail p) k g a = a.0
fifo_kind w fill cap (FifoPlace.PopCas p) k g a = a.0
fifo_kind w fill cap FifoPlace.EmptyPacked k g a = a
fifo_kind w fill cap (FifoPlace.EmptyTail p) k g a = a

pub fifo_any : (w p fill : ℕ) (items hand : List ℕ) (from : Kind) (d : Drain) (mark : Mark) (k : Kind) {cap : ℕ} {s : List ℕ} {g : Nums}
    {l : Lists} → Whole w k cap s g l → (x : FifoPlace)
    → OwnF w fill items hand (Place.Fifo x) k cap s g l → OwnStep w p fill items hand from k cap s g l d (Place.Fifo x) mark (fifo_row w (context_of k
    cap from d mark) x)
fifo_any w p fill items hand from d mark Kind.Fifo i x o = fifo_step w p fill items hand from d mark i x o
fifo_any w p fill items hand from d mark Kind.Lifo {cap} {g = g} i x o = absurd (not_kind (sym (fifo_kind w fill cap x Kind.Lifo g o.at)))
