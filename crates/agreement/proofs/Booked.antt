-- Steps on the source that both kinds share: a step that changes nothing there, the count test, and a booking that succeeded. That one
-- moves the head over tokens that rest, with no booking open: what the others rely on stays.
use mathlib.Core.Path.{◌≡◌, refl, sym, ap, ◌∙◌}
use mathlib.Core.Logic.{◌≢◌, ◌⊎◌, inl, inr}
use mathlib.Core.Bool.{Bool, true, false, not}
use mathlib.Core.List.{List, []}
use Prim.Native.Nat.{ℕ, ◌+◌, ◌-◌, ◌%◌, ◌^◌, ◌≤◌, ◌<◌, min}
use native.Mathlib.Nat.{mod-le}
use native.Mathlib.Omega.{arith}
use lib.ListN.{length}
use lib.Seq.{length-take-le}
use lib.Dec.{eqb}
use borrow.Author.Tests.{eqb-true, eqb-false, eq-eqb, ne_eqb, lt-ltb, le-leb}
use Rattle.std.specs.Prelude.{Option, Some, None}
use Rattle.words.specs.Word.{pick, orb, plus, least_of}
use Rattle.tables.specs.declared.access.Seen.{Seen}
use Rattle.tables.specs.declared.answer.Answer.{Answer}
use Rattle.tables.specs.declared.answer.Change.TheVariants as Change
use Rattle.tables.specs.declared.call.Mark.{Mark}
use Rattle.tables.specs.declared.state.Drain.{Drain}
use Rattle.tables.specs.declared.state.Kind.{Kind}
use Rattle.tables.specs.declared.place.BookPlace.{BookPlace}
use Rattle.tables.specs.declared.place.BookingCall.{BookingCall}
use Rattle.tables.specs.declared.place.Place.{Place}
use Rattle.tables.specs.declared.place.Transfer.{Transfer}
use Rattle.tables.specs.Rule.{ruled}
use Rattle.tables.specs.Access.{Accessed, shows}
use Rattle.tables.specs.Table.{rule_of, room_for, limit_of, counted, booked}
use Rattle.tables.specs.Tables.{source_of, booking_source}
use Rattle.tables.specs.Answer.{handed_out}
use Rattle.tables.specs.Lists.{party, is_open, Lists, book, can, in_front}
use Rattle.tables.specs.Causes.{GaveZero, RuleGaveZero}
use Rattle.tables.proofs.Bools.{and_left}
use Rattle.tables.specs.Shows.{by_drain}
use Rattle.tables.proofs.Maybe.{hands_maybe}
use Rattle.agreement.proofs.Wrap.{plus_is, same}
use Rattle.agreement.proofs.Ring.{tokens_zero}
use Rattle.agreement.proofs.Nums.{Who, noone, call, drain, holder_of, Nums, head, tail, books, rest_length}
use Rattle.agreement.proofs.Whole.{Whole, words_of, RO, RB, ro_refl, rb_refl, rh_refl, cap_small}
use Rattle.agreement.proofs.Facts.{kept, OwnF, BkB, BkF, held}
use Rattle.agreement.proofs.Steps.{hand_over, Why, Still, limit_at, SrcNext}
use Rattle.agreement.proofs.OwnFill.{context_of}

abbrev pub booking_who : ℕ → BookingCall → Who
booking_who p (BookingCall.Transfer e d) = call p
booking_who p (BookingCall.Drain r) = drain p

pub booking_some : (p : ℕ) (h : BookingCall) → booking_who p h ≢ noone
booking_some p (BookingCall.Transfer e d) z = let y : ◌≡◌ {A = ℕ} 0 1 = cc in omega arith
booking_some p (BookingCall.Drain r) z = let y : ◌≡◌ {A = ℕ} 0 1 = cc in omega arith

pub booking_mine : (p : ℕ) (h : BookingCall) → holder_of (booking_who p h) ≡ party p
booking_mine p (BookingCall.Transfer e d) = refl
booking_mine p (BookingCall.Drain r) = refl

orb_right : (a b : Bool) → b ≡ true → orb a b ≡ true
orb_right true b e = refl
orb_right false b e = e

few_room : (w : ℕ) (h : Transfer) (n room : ℕ) → n ≤ room_for w h room → n - kept h ≤ room
few_room w Transfer.Steal n room le = omega arith
few_room w Transfer.Take n room le = omega (arith, mod-le (room + 1) (2 ^ w))

module _ (w p x fm : ℕ) (me : Who) (items : List ℕ) (k : Kind) (d : Drain) (mark : Mark) {cap : ℕ} {s : List ℕ} {g : Nums} {l : Lists}
    (i : Whole w k cap s g l) where
  -- nothing changes on the source
  pub stays : (pl pl' : Place) (a : Option Answer) (y : Seen) → BkF w p fm items pl' k g l
      → (pl' ≡ Place.Idle) ⊎ (source_of p pl' ≡ source_of p pl)
      → ((fill : ℕ) (hand : List ℕ) (k₂ : Kind) (cap₂ : ℕ) (s₂ : List ℕ) (g₂ : Nums) (l₂ : Lists)
      → OwnF w fill items hand pl k₂ cap₂ s₂ g₂ l₂
      → (in_front (hands_maybe a) hand ≡ true) × OwnF w fill items (hand_over a hand) pl' k₂ cap₂ s₂ g₂ l₂)
      → ((z : ℕ) → held w p pl d z ≡ true → held w p pl' d z ≡ true) → (Still w pl g → Still w pl' g)
      → Why ⊥ ⊥ (Still w pl g → is_open l.holder ≡ true) ((l.resting ≡ []) ⊎
      ((limit_at w pl ≡ 0) ⊎ RuleGaveZero w pl (words_of w k cap g) mark)) a
      → SrcNext w p x fm me items k cap s g l d pl mark (shows (words_of w k cap g) s y)
      (record { place = pl'; drain = d; answer = a; change = None })
  unfolding can
  stays pl pl' a y b sr ds c st why = record {
    g' = g;
    q_is = refl;
    slots_s = refl;
    ok = i;
    bkr = b;
    src_s = sr;
    dst = ds;
    hand_s = λ h. refl;
    drn = λ f. f;
    drn_off = λ _. refl;
    ro = ro_refl s g l;
    rb = rb_refl g;
    rh = λ r _ _ _. rh_refl g l;
    who_new = λ r _ _ e. e;
    claim_x = λ f h. c x (f h);
    claim_y = λ z _ h. c z h;
    moved_s = omega arith;
    still = λ _. refl;
    still_n = st;
    single = refl;
    can_s = refl;
    why = why;
  }

  -- a booking goes on, or is refused
  pub books_on : (h : BookingCall) (b b' : BookPlace) (y : Seen) → BkB w fm (limit_of w h) b' k g
      → (Still w (Place.Book h b) g → Still w (Place.Book h b') g)
      → SrcNext w p x fm me items k cap s g l d (Place.Book h b) mark (shows (words_of w k cap g) s y)
      (record { place = Place.Book h b'; drain = d; answer = None; change = None })
  books_on h b b' y f st =
      stays (Place.Book h b) (Place.Book h b') None y f (inr refl) (λ fill hand k₂ cap₂ s₂ g₂ l₂ o. (
        refl,
        record {
          wait_is = o.wait_is;
          hand_is = o.hand_is;
          at = o.at;
        },
      )) (λ z h. h) st tt

  pub refuses : (h : BookingCall) (b : BookPlace) (a : Answer) (y : Seen) → handed_out a ≡ []
      → Why ⊥ ⊥ (Still w (Place.Book h b) g → is_open l.holder ≡ true)
      ((l.resting ≡ []) ⊎ ((limit_of w h ≡ 0) ⊎ RuleGaveZero w (Place.Book h b) (words_of w k cap g) mark)) (Some a)
      → SrcNext w p x fm me items k cap s g l d (Place.Book h b) mark (shows (words_of w k cap g) s y)
      (record { place = Place.Idle; drain = d; answer = Some a; change = None })
  refuses h b a y bare why =
      stays (Place.Book h b) Place.Idle (Some a) y tt (inl refl)
      (λ fill hand k₂ cap₂ s₂ g₂ l₂ o. (rw bare refl, record { wait_is = o.wait_is; hand_is = rw bare o.hand_is; at = tt }))
      (λ z h. h) (λ _. tt) why

  -- n seen: empty if n = 0, count = least of rule, m, n, empty if 0
  pub is_counted : (from kind : Kind) (cap₂ : ℕ) (h : BookingCall) (b : BookPlace) (n : ℕ) (cas : ℕ → BookPlace) (y : Seen)
      → (n ≡ 0 → l.resting ≡ []) → (GaveZero h mark n → RuleGaveZero w (Place.Book h b) (words_of w k cap g) mark)
      → ((m : ℕ) → 0 < m → m ≤ limit_of w h → m ≤ n → BkB w fm (limit_of w h) (cas m) k g)
      → ((m : ℕ) → Still w (Place.Book h b) g → Still w (Place.Book h (cas m)) g)
      → SrcNext w p x fm me items k cap s g l d (Place.Book h b) mark (shows (words_of w k cap g) s y)
      (counted w (context_of kind cap₂ from d mark) h n cas)
  is_counted from kind cap₂ h b n cas y none zero f st = go (eqb n 0) refl (eqb (least_of (ruled (rule_of h) mark n) (limit_of w h) n) 0) refl
    where
      gave : n ≢ 0 → min (ruled (rule_of h) mark n) (min (limit_of w h) n) ≡ 0 → (b₃ : Bool) → eqb (limit_of w h) 0 ≡ b₃
          → (limit_of w h ≡ 0) ⊎ RuleGaveZero w (Place.Book h b) (words_of w k cap g) mark
      gave ne e true e₃ = inl (eqb-true (limit_of w h) 0 e₃)
      gave ne e false e₃ = let z : limit_of w h ≢ 0 = eqb-false (limit_of w h) 0 e₃ in inr (zero (ne, omega arith))

      go : (b₁ : Bool) → eqb n 0 ≡ b₁ → (b₂ : Bool) → eqb (least_of (ruled (rule_of h) mark n) (limit_of w h) n) 0 ≡ b₂
          → SrcNext w p x fm me items k cap s g l d (Place.Book h b) mark (shows (words_of w k cap g) s y)
          (pick b₁ (record { place = Place.Idle; drain = d; answer = Some Answer.Empty; change = None })
          (pick b₂ (record { place = Place.Idle; drain = d; answer = Some Answer.Empty; change = None })
          (record {
            place = Place.Book h (cas (least_of (ruled (rule_of h) mark n) (limit_of w h) n));
            drain = d;
            answer = None;
            change = None;
          })))
      go true e₁ b₂ e₂ = refuses h b Answer.Empty y refl (inl (none (eqb-true n 0 e₁)))
      go false e₁ true e₂ = refuses h b Answer.Empty y refl (inr (gave (eqb-false n 0 e₁) (eqb-true (least_of (ruled (rule_of h) mark n) (limit_of
          w h) n) 0 e₂) (eqb (limit_of w h) 0) refl))
      go false e₁ false e₂ =
          let z : min (ruled (rule_of h) mark n) (min (limit_of w h) n) ≢ 0 = eqb-false (least_of (ruled (rule_of h) mark n) (limit_of w h) n)
          0 e₂ in
          books_on h b (cas (least_of (ruled (rule_of h) mark n) (limit_of w h) n)) y
          (f (least_of (ruled (rule_of h) mark n) (limit_of w h) n) (omega arith) (omega arith) (omega arith))
          (st (least_of (ruled (rule_of h) mark n) (limit_of w h) n))

-- the booking succeeded: `hd` is the head's word, n tokens from it on are booked
module _ (w p fm : ℕ) (items : List ℕ) (k : Kind) (d : Drain) (mark : Mark) {cap : ℕ} {s : List ℕ} {g : Nums} {l : Lists}
    (i : Whole w k cap s g l)
    (hd n : ℕ) (hd_is : hd ≡ head g % 2 ^ w) (some : 0 < n) (fit : n ≤ g.rest) (nob : g.who ≡ noone) where
  can₁ : (x : ℕ) → can p x (Change.Booked n) l ≡ true
  unfolding can
  can₁ x = rw (
    i.joins.holder_is,
    nob,
    lt-ltb 0 n some,
    le-leb n (length l.resting)
        (omega (arith, rest_length cap i.cap_pos i.joins)),
  ) refl

  ro₁ : (me : Who) → RO s g l s (books me n g) (book p n l)
  unfolding books book
  ro₁ me = record {
    slots_s = refl;
    wait_s = refl;
    pushed_s = refl;
    pops_s = refl;
    tail_s = omega arith;
    done_up = omega arith;
    head_up = omega arith;
  }

  rb₁ : (me : Who) → RB g (books me n g)
  unfolding books
  rb₁ me = omega arith

  apart : hd ≢ plus w hd n
  apart e =
      let z : head g + n ≡ head g = same w (head g + n) (head g) (plus_is w (head g) n hd_is) hd_is (sym e) (omega arith)
      (omega (arith, i.joins.fits, cap_small w k i)) in
      omega arith

  pub is_booked : (from kind : Kind) (cap₂ : ℕ) (h : BookingCall) (b : BookPlace) (o : Accessed) → n ≤ limit_of w h
      → o.queue ≡ words_of w k cap (books (booking_who p h) n g) → o.slots ≡ s
      → Whole w k cap s (books (booking_who p h) n g) (book p n l)
      → SrcNext w p (booking_source p h) fm (booking_who p h) items k cap s g l d (Place.Book h b) mark o
      (booked w (context_of kind cap₂ from d mark) h hd n)
  unfolding books book
  is_booked from kind cap₂ (BookingCall.Transfer e t) b o few eq es ok = record {
    g' = books (call p) n g;
    q_is = eq;
    slots_s = es;
    ok = ok;
    bkr = record { who_is = refl; from_is = hd_is; taken_is = refl; left_is = refl; some = some; book_is = refl };
    src_s = inr refl;
    dst = λ fill hand k₂ cap₂ s₂ g₂ l₂ a. (
      refl,
      record {
        wait_is = a.wait_is;
        hand_is = a.hand_is;
        at = (
          some,
          record {
            into = record {
              word_is = a.at.0.word_is;
              at_is = a.at.0.at_is;
              room_is = omega (arith, few_room w e.transfer n t.room few, a.at.0.room_is);
            };
            some = some;
            few = omega (arith, i.joins.fits, cap_small w k i);
            long = length-take-le n l.resting (omega (arith, rest_length cap i.cap_pos i.joins));
            stand = tokens_zero cap₂ s₂ (tail g₂);
          },
        );
      },
    );
    hand_s = λ h. refl;
    drn = λ f ne. absurd (let y : ◌≡◌ {A = ℕ} 0 1 = cc ((f ne).who_is, nob) in omega arith);
    drn_off = λ _. refl;
    ro = ro₁ (call p);
    rb = rb₁ (call p);
    rh = λ r rn _ ew. absurd (rn (sym ew ∙ nob));
    who_new = λ r _ rm ew. absurd (rm (sym ew));
    claim_x = λ _ _. rw (eq-eqb e.source e.source refl) refl;
    claim_y = λ y _ c. orb_right (eqb e.source y) (by_drain w p d y).holds c;
    moved_s = refl;
    still = λ z. absurd (booking_some p (BookingCall.Transfer e t) z);
    still_n = λ _. tt;
    single = refl;
    can_s = can₁ e.source;
    why = tt;
  }
  is_booked from kind cap₂ (BookingCall.Drain r) b o few eq es ok = record {
    g' = books (drain p) n g;
    q_is = eq;
    slots_s = es;
    ok = ok;
    bkr = tt;
    src_s = inl refl;
    dst = λ fill hand k₂ cap₂ s₂ g₂ l₂ a. (refl, record { wait_is = a.wait_is; hand_is = a.hand_is; at = tt });
    hand_s = λ h. refl;
    drn = λ _ _. record {
      who_is = refl;
      at_is = hd_is ∙ ap (λ (m : ℕ). m % 2 ^ w) (omega arith);
      end_is = plus_is w (head g) n hd_is
          ∙ ap (λ (m : ℕ). m % 2 ^ w) (omega arith);
    };
    drn_off = λ ne. absurd (ne refl);
    ro = ro₁ (drain p);
    rb = rb₁ (drain p);
    rh = λ r rn _ ew. absurd (rn (sym ew ∙ nob));
    who_new = λ r _ rm ew. absurd (rm (sym ew));
    claim_x = λ _ _. rw (eq-eqb p p refl, ne_eqb hd (plus w hd n) apart) refl;
    claim_y = λ y ne c. absurd (ne (sym (eqb-true p y (and_left (eqb p y) (not (eqb d.at d.end)) c))));
    moved_s = refl;
    still = λ z. absurd (booking_some p (BookingCall.Drain r) z);
    still_n = λ _. tt;
    single = refl;
    can_s = can₁ p;
    why = tt;
  }
