-- Booking on the source, LIFO and FIFO. By the premise, which is used here alone, fewer than half a turn of items moved since the first
-- load: so the n that is seen has not turned over, and a CAS that finds the loaded word finds the loaded positions.
use mathlib.Core.Path.{◌≡◌, refl, sym, ap, ap₂, ◌∙◌}
use mathlib.Core.Logic.{◌≢◌}
use mathlib.Core.Bool.{Bool, true, false}
use mathlib.Core.List.{List}
use Prim.Native.Nat.{ℕ, ◌+◌, ◌-◌, ◌%◌, ◌^◌, ◌≤◌, ◌<◌}
use native.Mathlib.Omega.{arith}
use lib.Dec.{eqb}
use borrow.Author.Tests.{eqb-true, eqb-false}
use Rattle.std.specs.Prelude.{Some, None}
use Rattle.words.specs.Word.{pick, plus, minus, packed, high, low}
use Rattle.tables.specs.declared.access.Seen.{Seen}
use Rattle.tables.specs.declared.answer.Answer.TheVariants as Answer
use Rattle.tables.specs.declared.call.Mark.{Mark}
use Rattle.tables.specs.declared.state.Drain.{Drain}
use Rattle.tables.specs.declared.state.Kind.{Kind}
use Rattle.tables.specs.declared.place.BookPlace.{BookPlace}
use Rattle.tables.specs.declared.place.BookingCall.{BookingCall}
use Rattle.tables.specs.declared.place.Place.TheVariants as Place
use Rattle.tables.specs.Access.{shows, saw_packed, with_packed}
use Rattle.tables.specs.Row.{Row}
use Rattle.tables.specs.Table.{limit_of}
use Rattle.tables.specs.LifoTable.{rest_of, lifo_cas_row}
use Rattle.tables.specs.FifoTable.{fifo_cas_row}
use Rattle.tables.specs.Tables.{booking_source, book_row}
use Rattle.tables.specs.Step.{is_weak}
use Rattle.tables.specs.Lists.{is_open, Lists, book}
use Rattle.tables.specs.Causes.{is_first}
use Rattle.agreement.proofs.Wrap.{plus_is, diff_word, diff, same, same_near, pair, pair_of, pair_low, high_is, low_is, highs, lows}
use Rattle.agreement.proofs.Nums.{noone, Nums, head, books, open_or, rest_none, joins_book}
use Rattle.agreement.proofs.Whole.{Whole, words_of, cap_small}
use Rattle.agreement.proofs.Facts.{Snap, Snap2, Snap3, FSnap, FSnap2, BkB}
use Rattle.agreement.proofs.Steps.{BookStill, SrcNext}
use Rattle.agreement.proofs.OwnFill.{context_of}
use Rattle.agreement.proofs.OwnLifo.{swaps_true, not_kind, did}
use Rattle.agreement.proofs.Booked.{booking_who, booking_some, booking_mine, books_on, refuses, is_counted, is_booked}

abbrev pub BookStep : (w p fm : ℕ) (items : List ℕ) (k : Kind) (cap : ℕ) → List ℕ → Nums → Lists → Drain → BookingCall → BookPlace → Mark → Row
    → Type 0
BookStep w p fm items k cap s g l d h b mark row =
    SrcNext w p (booking_source p h) (pick (is_first b) g.moved fm) (booking_who p h) items k cap s g l d (Place.Book h b) mark
    (did w k cap s g row mark) (row.after (did w k cap s g row mark).seen)

-- ---- LIFO

module _ (w half : ℕ) (two : 2 ^ w ≡ half + half) (p : ℕ) (items : List ℕ) (d : Drain) (mark : Mark) (kind : Kind) (cap₂ : ℕ) (h : BookingCall)
    {cap : ℕ} {s : List ℕ} {g : Nums} {l : Lists} (i : Whole w Kind.Lifo cap s g l) where
  now_snap : (fm : ℕ) → fm ≤ g.moved → Snap w fm g (pair w g.pops (head g))
  now_snap fm le = record {
    cg = g.pops;
    hg = head g;
    p_is = refl;
    c_old = omega arith;
    h_old = omega arith;
    first = omega (arith, i.part.moved_is);
  }

  module _ (fm : ℕ) (prem : g.moved < fm + half) where
    near : {q : ℕ} (a : Snap w fm g q) → (head g < a.hg + half) × (g.pops < a.cg + half)
    near a = omega (arith, i.part.moved_is, a.first, a.c_old, a.h_old)

    -- how many rest, as the booking sees it: exact for the word it holds, though that may be old
    count_is : {q : ℕ} (a : Snap w fm g q) → rest_of w (g.pushed % 2 ^ w) q + a.hg + a.cg ≡ g.pushed
    count_is {q} a =
        let under : a.cg + a.hg ≤ g.pushed = omega (arith, a.c_old, a.h_old, i.part.pushed_is) in
        let u : minus w (g.pushed % 2 ^ w) (high w q) ≡ (g.pushed - a.cg) % 2 ^ w = diff_word w (g.pushed - a.cg) a.cg
        (ap (λ (n : ℕ). n % 2 ^ w) (omega arith)) (high_is w a.cg a.hg a.p_is) in
        let n0 : head g < a.hg + half = (near a).0 in
        let n1 : g.pops < a.cg + half = (near a).1 in
        let v : rest_of w (g.pushed % 2 ^ w) q + a.hg ≡ g.pushed - a.cg =
        diff w (g.pushed - a.cg) a.hg u (low_is w a.cg a.hg a.p_is) (omega arith)
        (omega (arith, i.part.pushed_is, i.part.moved_is, a.first, prem, i.joins.fits, i.cap_fits, two)) in
        omega arith

    -- the completed head against the booked head
    done_test : (b : BookPlace) (q dn : ℕ) (y : Seen) → (dn ≡ low w q → Snap2 w fm g q dn)
        → (dn ≢ low w q → BookStill w b g → is_open l.holder ≡ true)
        → (BookStill w b g → low w q ≡ head g % 2 ^ w) → (t : Bool) → eqb dn (low w q) ≡ t
        → SrcNext w p (booking_source p h) fm (booking_who p h) items Kind.Lifo cap s g l d (Place.Book h b) mark (shows (words_of w Kind.Lifo cap g) s y)
        (pick t (record { place = Place.Book h (BookPlace.LifoPushes q dn); drain = d; answer = None; change = None })
        (record { place = Place.Idle; drain = d; answer = Some Answer.Busy; change = None }))
    done_test b q dn y f why st true e = books_on w p (booking_source p h) fm (booking_who p h) items Kind.Lifo d mark i h b (BookPlace.LifoPushes q dn) y
        (refl, f (eqb-true dn (low w q) e)) st
    done_test b q dn y f why st false e = refuses w p (booking_source p h) fm (booking_who p h) items Kind.Lifo d mark i h b Answer.Busy y refl
        (why (eqb-false dn (low w q) e))

    first_test : (q : ℕ) → Snap w fm g q → g.completed % 2 ^ w ≡ low w q → Snap2 w fm g q (g.completed % 2 ^ w)
    first_test q a e =
        let n0 : head g < a.hg + half = (near a).0 in
        let t : g.completed ≡ a.hg = same_near w g.completed a.hg refl (low_is w a.cg a.hg a.p_is) e (omega (arith, two))
        (omega (arith, a.h_old, i.joins.fits, i.part.gone_no, cap_small w Kind.Lifo i)) in
        record { snap = a; d_is = ap (λ (n : ℕ). n % 2 ^ w) t; d_old = omega arith }

    open_now : (q : ℕ) → g.completed % 2 ^ w ≢ low w q → low w q ≡ head g % 2 ^ w → is_open l.holder ≡ true
    open_now q ne e =
        rw i.joins.holder_is
        (open_or g.who (λ z. ne (ap (λ (n : ℕ). n % 2 ^ w) (omega (arith, i.shut z, i.part.gone_no)) ∙ sym e)))

    lifo_cas_lem : (q dn n : ℕ) → Snap3 w fm (limit_of w h) g q dn n → (t : Bool) → (t ≡ true → pair w g.pops (head g) ≡ q)
        → SrcNext w p (booking_source p h) fm (booking_who p h) items Kind.Lifo cap s g l d (Place.Book h (BookPlace.LifoCas q dn n)) mark
        (pick t (shows (with_packed (words_of w Kind.Lifo cap g) (packed w (high w q) (plus w (low w q) n))) s
        (saw_packed (pair w g.pops (head g)) true)) (shows (words_of w Kind.Lifo cap g) s (saw_packed (pair w g.pops (head g)) false)))
        ((lifo_cas_row w (context_of kind cap₂ Kind.Lifo d mark) h q dn n).after
        (pick t (shows (with_packed (words_of w Kind.Lifo cap g) (packed w (high w q) (plus w (low w q) n))) s
        (saw_packed (pair w g.pops (head g)) true)) (shows (words_of w Kind.Lifo cap g) s (saw_packed (pair w g.pops (head g)) false))).seen)
    unfolding books book now_snap
    lifo_cas_lem q dn n a true eq =
        let u = a.snap.snap in
        let n0 : head g < u.hg + half = (near u).0 in
        let n1 : g.pops < u.cg + half = (near u).1 in
        let pe : g.pops ≡ u.cg = same w g.pops u.cg refl refl
        (highs w g.pops (head g) u.cg u.hg refl u.p_is (eq refl)) u.c_old (omega (arith, two)) in
        let he : head g ≡ u.hg = same w (head g) u.hg refl refl (lows w g.pops (head g) u.cg u.hg refl u.p_is (eq refl))
        u.h_old (omega (arith, two)) in
        let shut : g.taken + g.left ≡ 0 = omega (arith, a.snap.d_old) in
        let nob : g.who ≡ noone = i.free shut in
        let fit : n ≤ g.rest = omega (arith, a.enough, i.part.pushed_is) in
        let hd : low w q ≡ head g % 2 ^ w = low_is w g.pops (head g) (sym (eq refl)) in
        is_booked w p fm items Kind.Lifo d mark i (low w q) n hd a.some fit nob Kind.Lifo kind cap₂ h (BookPlace.LifoCas q dn n) _ a.few
        (ap₂ (λ (u v : ℕ). record { kind = Kind.Lifo; capacity = cap; pushes = g.pushed % 2 ^ w; packed = u; completed = v })
        (pair_of w g.pops (head g + n) (high_is w g.pops (head g) (sym (eq refl))) (plus_is w (head g) n hd)
        ∙ ap (pair w g.pops) (omega arith))
        (ap (λ (m : ℕ). m % 2 ^ w) (omega (arith, i.part.gone_no))))
        refl
        (record {
          joins = joins_book cap i.cap_pos i.joins (booking_who p h) p n (booking_mine p h) fit;
          cap_pos = i.cap_pos;
          cap_fits = i.cap_fits;
          cap_pow = i.cap_pow;
          free = λ z. absurd (omega (arith, a.some));
          shut = λ z. absurd (booking_some p h z);
          part = record { pushed_is = omega (arith, i.part.pushed_is); gone_no = refl; moved_is = omega (arith, i.part.moved_is) };
        })
    lifo_cas_lem q dn n a false eq =
        let u = a.snap.snap in
        let n0 : head g < u.hg + half = (near u).0 in
        done_test (BookPlace.LifoCas q dn n) (pair w g.pops (head g)) dn _
        (λ e. let t : head g ≡ u.hg = same w (head g) u.hg (low_is w g.pops (head g) refl) refl (sym e
        ∙ a.snap.d_is) u.h_old (omega (arith, two)) in
        record {
          snap = now_snap fm (omega (arith, u.first, u.c_old, u.h_old, i.part.moved_is));
          d_is = e
              ∙ low_is w g.pops (head g) refl;
          d_old = omega (arith, a.snap.d_old);
        })
        (λ ne e. absurd (ne (a.snap.d_is ∙ sym (low_is w u.cg u.hg u.p_is) ∙ e ∙ sym (low_is w g.pops (head g) refl))))
        (λ _. low_is w g.pops (head g) refl) _ refl

-- ---- FIFO

module _ (w half : ℕ) (two : 2 ^ w ≡ half + half) (p : ℕ) (items : List ℕ) (d : Drain) (mark : Mark) (kind : Kind) (cap₂ : ℕ) (h : BookingCall)
    {cap : ℕ} {s : List ℕ} {g : Nums} {l : Lists} (i : Whole w Kind.Fifo cap s g l) where
  -- busy if the heads differ: a booking is open now
  heads_test_lem : (fm : ℕ) (b : BookPlace) (y : Seen) → fm ≤ g.moved → (t : Bool)
      → eqb (high w (pair w (head g) g.completed)) (low w (pair w (head g) g.completed)) ≡ t
      → SrcNext w p (booking_source p h) fm (booking_who p h) items Kind.Fifo cap s g l d (Place.Book h b) mark (shows (words_of w Kind.Fifo cap g) s y)
      (pick t (record { place = Place.Book h (BookPlace.FifoTail (pair w (head g) g.completed)); drain = d; answer = None; change = None })
      (record { place = Place.Idle; drain = d; answer = Some Answer.Busy; change = None }))
  heads_test_lem fm b y le true e =
      let z : head g % 2 ^ w ≡ g.completed % 2 ^ w = sym (high_is w (head g) g.completed refl) ∙ eqb-true _ _ e
      ∙ low_is w (head g) g.completed refl in
      books_on w p (booking_source p h) fm (booking_who p h) items Kind.Fifo d mark i h b (BookPlace.FifoTail (pair w (head g) g.completed)) y (
        refl,
        record {
          hg = head g;
          p_is = pair_low w (head g) g.completed (head g) (sym z);
          h_old = omega arith;
          first = omega (arith, i.part.moved_is);
        },
      ) (λ _. tt)
  heads_test_lem fm b y le false e =
      refuses w p (booking_source p h) fm (booking_who p h) items Kind.Fifo d mark i h b Answer.Busy y refl
      (λ _. rw i.joins.holder_is
      (open_or g.who (λ z. eqb-false _ _ e (high_is w (head g) g.completed refl
      ∙ ap (λ (n : ℕ). n % 2 ^ w) (omega (arith, i.shut z, i.part.gone_no (i.shut z))) ∙ sym (low_is w (head g) g.completed refl)))))

  module _ (fm : ℕ) (prem : g.moved < fm + half) where
    fcount_is : {q : ℕ} (a : FSnap w fm g q) → minus w (g.pushed % 2 ^ w) (high w q) + a.hg ≡ g.pushed
    fcount_is a =
        diff w g.pushed a.hg refl (high_is w a.hg a.hg a.p_is) (omega (arith, a.h_old, i.part.pushed_is))
        (omega (arith, i.part.moved_is, a.first, i.part.pushed_is, i.joins.fits, i.cap_fits, two))

    fifo_cas_lem : (q n : ℕ) → FSnap2 w fm (limit_of w h) g q n → (t : Bool) → (t ≡ true → pair w (head g) g.completed ≡ q)
        → SrcNext w p (booking_source p h) fm (booking_who p h) items Kind.Fifo cap s g l d (Place.Book h (BookPlace.FifoCas q n)) mark
        (pick t (shows (with_packed (words_of w Kind.Fifo cap g) (packed w (plus w (high w q) n) (low w q))) s
        (saw_packed (pair w (head g) g.completed) true)) (shows (words_of w Kind.Fifo cap g) s (saw_packed (pair w (head g) g.completed) false)))
        ((fifo_cas_row w (context_of kind cap₂ Kind.Fifo d mark) h q n).after
        (pick t (shows (with_packed (words_of w Kind.Fifo cap g) (packed w (plus w (high w q) n) (low w q))) s
        (saw_packed (pair w (head g) g.completed) true)) (shows (words_of w Kind.Fifo cap g) s (saw_packed (pair w (head g) g.completed) false))).seen)
    unfolding books book
    fifo_cas_lem q n a true eq =
        let u = a.snap in
        let hw : head g % 2 ^ w ≡ u.hg % 2 ^ w = highs w (head g) g.completed u.hg u.hg refl u.p_is (eq refl) in
        let dw : g.completed % 2 ^ w ≡ u.hg % 2 ^ w = lows w (head g) g.completed u.hg u.hg refl u.p_is (eq refl) in
        let he : head g ≡ u.hg = same w (head g) u.hg refl refl hw u.h_old (omega (arith, i.part.moved_is, u.first, two)) in
        let de : head g ≡ g.completed = same w (head g) g.completed refl refl (hw
        ∙ sym dw) (omega arith) (omega (arith, i.joins.fits, cap_small w Kind.Fifo i)) in
        let shut : g.taken + g.left ≡ 0 = omega arith in
        let nob : g.who ≡ noone = i.free shut in
        let fit : n ≤ g.rest = omega (arith, a.enough, i.part.pushed_is) in
        let hd : high w q ≡ head g % 2 ^ w = high_is w (head g) g.completed (sym (eq refl)) in
        is_booked w p fm items Kind.Fifo d mark i (high w q) n hd a.some fit nob Kind.Fifo kind cap₂ h (BookPlace.FifoCas q n) _ a.few
        (ap (with_packed (words_of w Kind.Fifo cap g))
        (pair_of w (head (books (booking_who p h) n g)) (head g) (plus_is w (head g) n hd ∙ ap (λ (m : ℕ). m % 2 ^ w) (omega arith))
        (low_is w (head g) g.completed (sym (eq refl)) ∙ ap (λ (m : ℕ). m % 2 ^ w) (sym de))))
        refl
        (record {
          joins = joins_book cap i.cap_pos i.joins (booking_who p h) p n (booking_mine p h) fit;
          cap_pos = i.cap_pos;
          cap_fits = i.cap_fits;
          cap_pow = i.cap_pow;
          free = λ z. absurd (omega (arith, a.some));
          shut = λ z. absurd (booking_some p h z);
          part = record { pushed_is = omega (arith, i.part.pushed_is); gone_no = λ _. refl; moved_is = omega (arith, i.part.moved_is) };
        })
    fifo_cas_lem q n a false eq = heads_test_lem fm (BookPlace.FifoCas q n) _ (omega (arith, a.snap.first, a.snap.h_old, i.part.moved_is)) _ refl

-- ---- every step of a booking

pub book_step : (w half : ℕ) (two : 2 ^ w ≡ half + half) (p fm : ℕ) (items : List ℕ) (d : Drain) (mark : Mark) (kind : Kind) (cap₂ : ℕ)
    (h : BookingCall) (b : BookPlace) (k : Kind)
    {cap : ℕ} {s : List ℕ} {g : Nums} {l : Lists} → Whole w k cap s g l → (is_first b ≡ false → g.moved < fm + half) → BkB w fm (limit_of w h) b k g
    → BookStep w p fm items k cap s g l d h b mark (book_row w (context_of kind cap₂ k d mark) h b)
book_step w half two p fm items d mark kind cap₂ h BookPlace.LifoPacked Kind.Fifo i pr a = absurd (not_kind a)
book_step w half two p fm items d mark kind cap₂ h BookPlace.LifoPacked Kind.Lifo {g = g} i pr a =
    books_on w p (booking_source p h) g.moved (booking_who p h) items Kind.Lifo d mark i h BookPlace.LifoPacked _ _
    (refl, now_snap w half two p items d mark kind cap₂ h i g.moved (omega arith)) (λ _. low_is w g.pops (head g) refl)
book_step w half two p fm items d mark kind cap₂ h (BookPlace.LifoCompleted q) Kind.Fifo i pr a = absurd (not_kind a.0)
book_step w half two p fm items d mark kind cap₂ h (BookPlace.LifoCompleted q) Kind.Lifo i pr a =
    done_test w half two p items d mark kind cap₂ h i fm (pr refl) (BookPlace.LifoCompleted q) q _ _
    (first_test w half two p items d mark kind cap₂ h i fm (pr refl) q a.1) (open_now w half two p items d mark kind cap₂ h i fm (pr refl) q)
    (λ e. e) _ refl
book_step w half two p fm items d mark kind cap₂ h (BookPlace.LifoPushes q dn) Kind.Fifo i pr a = absurd (not_kind a.0)
book_step w half two p fm items d mark kind cap₂ h (BookPlace.LifoPushes q dn) Kind.Lifo {cap} {g = g} i pr a =
    let c = count_is w half two p items d mark kind cap₂ h i fm (pr refl) a.1.snap in
    is_counted w p (booking_source p h) fm (booking_who p h) items Kind.Lifo d mark i Kind.Lifo kind cap₂ h (BookPlace.LifoPushes q dn)
    (rest_of w (g.pushed % 2 ^ w) q) (λ n. BookPlace.LifoCas q dn n) _
    (λ z. rest_none cap i.cap_pos i.joins (omega (arith, c, a.1.snap.c_old, a.1.snap.h_old, i.part.pushed_is))) (λ z. z)
    (λ m some few le. (refl, record { snap = a.1; some = some; few = few; enough = omega (arith, c) })) (λ m e. e)
book_step w half two p fm items d mark kind cap₂ h (BookPlace.LifoCas q dn n) Kind.Fifo i pr a = absurd (not_kind a.0)
book_step w half two p fm items d mark kind cap₂ h (BookPlace.LifoCas q dn n) Kind.Lifo i pr a =
    lifo_cas_lem w half two p items d mark kind cap₂ h i fm (pr refl) q dn n a.1 _ (λ e. eqb-true _ _ (swaps_true (is_weak mark) _ e))
book_step w half two p fm items d mark kind cap₂ h BookPlace.FifoPacked Kind.Lifo i pr a = absurd (not_kind (sym a))
book_step w half two p fm items d mark kind cap₂ h BookPlace.FifoPacked Kind.Fifo {g = g} i pr a = heads_test_lem w half two p items d mark kind cap₂ h i
    g.moved BookPlace.FifoPacked _ (omega arith) _ refl
book_step w half two p fm items d mark kind cap₂ h (BookPlace.FifoTail q) Kind.Lifo i pr a = absurd (not_kind (sym a.0))
book_step w half two p fm items d mark kind cap₂ h (BookPlace.FifoTail q) Kind.Fifo {cap} {g = g} i pr a =
    let c = fcount_is w half two p items d mark kind cap₂ h i fm (pr refl) a.1 in
    is_counted w p (booking_source p h) fm (booking_who p h) items Kind.Fifo d mark i Kind.Fifo kind cap₂ h (BookPlace.FifoTail q)
    (minus w (g.pushed % 2 ^ w) (high w q)) (λ n. BookPlace.FifoCas q n) _
    (λ z. rest_none cap i.cap_pos i.joins (omega (arith, c, a.1.h_old, i.part.pushed_is))) (λ z. z)
    (λ m some few le. (refl, record { snap = a.1; some = some; few = few; enough = omega (arith, c) })) (λ m e. tt)
book_step w half two p fm items d mark kind cap₂ h (BookPlace.FifoCas q n) Kind.Lifo i pr a = absurd (not_kind (sym a.0))
book_step w half two p fm items d mark kind cap₂ h (BookPlace.FifoCas q n) Kind.Fifo i pr a =
    fifo_cas_lem w half two p items d mark kind cap₂ h i fm (pr refl) q n a.1 _ (λ e. eqb-true _ _ (swaps_true (is_weak mark) _ e))
