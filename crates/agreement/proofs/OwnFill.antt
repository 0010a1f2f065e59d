-- The owner's steps that both kinds share: loads that are done, the write and the store of push and extend, the read that ends a pop. Nobody
-- else moves the tail or writes past it, and the completed head only grows: the room that was seen is there still.
use mathlib.Core.Path.{◌≡◌, refl, sym, ap, ap₂, ◌∙◌}
use mathlib.Core.Logic.{◌≢◌, inl}
use mathlib.Core.Bool.{Bool, true, false}
use mathlib.Core.List.{List, [], ◌∷◌, ◌++◌}
use Prim.Native.Nat.{ℕ, ◌+◌, ◌-◌, ◌%◌, ◌^◌, ◌≤◌, ◌<◌}
use native.Mathlib.Nat.{add-zero}
use native.Mathlib.Omega.{arith}
use lib.ListN.{set}
use lib.Dec.{ltb, eqb}
use borrow.Author.Tests.{ltb-true, ltb-false, eqb-false, eq-eqb}
use Rattle.std.specs.Prelude.{Option, Some, None}
use Rattle.words.specs.Word.{pick, plus, minus}
use Rattle.tables.specs.declared.access.Context.{Context}
use Rattle.tables.specs.declared.access.Seen.{Seen}
use Rattle.tables.specs.declared.answer.Answer.{Answer}
use Rattle.tables.specs.declared.answer.Change.TheVariants as Change
use Rattle.tables.specs.declared.call.Mark.{Mark}
use Rattle.tables.specs.declared.state.Drain.{Drain}
use Rattle.tables.specs.declared.state.Kind.{Kind}
use Rattle.tables.specs.declared.place.BookingCall.TheVariants as BookingCall
use Rattle.tables.specs.declared.place.OwnPlace.{OwnPlace}
use Rattle.tables.specs.declared.place.OwnerCall.{OwnerCall}
use Rattle.tables.specs.declared.place.Place.{Place}
use Rattle.tables.specs.declared.place.TransferCall.{TransferCall}
use Rattle.tables.specs.Access.{shows, with_pushes, nothing_seen}
use Rattle.tables.specs.Table.{filled, brought, booking, limit_of}
use Rattle.tables.specs.Tables.{source_of}
use Rattle.tables.specs.Answer.{handed_out}
use Rattle.tables.specs.Lists.{Lists, offer, accept, can, in_front}
use Rattle.tables.specs.Shows.{waits, own_waits, by_place}
use Rattle.tables.proofs.Maybe.{hands_maybe}
use Rattle.agreement.proofs.Wrap.{small, plus_is, diff}
use Rattle.agreement.proofs.Ring.{tokens, tokens_zero, tokens_write}
use Rattle.agreement.proofs.Nums.{noone, Nums, head, tail, Joins, more, joins_write, joins_offer, joins_accept}
use Rattle.agreement.proofs.Whole.{Whole, words_of, words_more, part_more, rb_refl, rh_refl, cap_small, slot_of}
use Rattle.agreement.proofs.Facts.{Ext, OwnP, hand_in, OwnF, BkB, BkF, held}
use Rattle.agreement.proofs.Steps.{hand_over, Why, BookStill, Still, OwnNext}

abbrev pub context_of : (k : Kind) (cap : ℕ) (from : Kind) → Drain → Mark → Context
context_of k cap from d mark = record { kind = k; capacity = cap; from = from; drain = d; mark = mark }

-- a place at which nothing waits, is in hand or is held
pub record Calm (p cap : ℕ) (s : List ℕ) (pl : Place) : Type 0 where
  pub waits_no : waits pl ≡ 0
  pub hand_no : hand_in cap s pl ≡ []
  pub holds_no : (y : ℕ) → (by_place p pl y).holds ≡ false

module _ (w p : ℕ) (items : List ℕ) (from k : Kind) {cap : ℕ} {s : List ℕ} {g : Nums} {l : Lists} (i : Whole w k cap s g l) (d : Drain)
  where
    -- a step that only loads, or answers
    pub stay : (fill : ℕ) (hand : List ℕ) (pl pl' : Place) (a : Option Answer) (x : Seen) → in_front (hands_maybe a) hand ≡ true
        → OwnF w fill items (hand_over a hand) pl' k cap s g l → source_of p pl' ≡ source_of p pl
        → ((fm : ℕ) (g₂ : Nums) (l₂ : Lists) → BkF w p fm items pl from g₂ l₂ → BkF w p fm items pl' from g₂ l₂)
        → ((y : ℕ) → held w p pl d y ≡ true → held w p pl' d y ≡ true) → ((g₂ : Nums) → Still w pl' g₂)
        → Why (fill ≡ cap) (l.resting ≡ []) ⊥ ⊥ a
        → OwnNext w p fill items hand from k cap s g l d pl (shows (words_of w k cap g) s x)
        (record { place = pl'; drain = d; answer = a; change = None })
    unfolding can
    stay fill hand pl pl' a x fr o sr b c st y = record {
      g' = g;
      actor = noone;
      q_is = refl;
      ok = i;
      own = o;
      fair = fr;
      src_s = sr;
      bkr = inl (refl, b);
      drn = λ f. f;
      rb = rb_refl g;
      rh = λ r _ _ _. rh_refl g l;
      who_s = refl;
      claim = c;
      moved_s = omega arith;
      still = λ _. refl;
      still_n = st;
      single = refl;
      can_s = refl;
      why = y;
    }

    -- between places of the own queue that hold nothing
    pub goes : (fill fill' : ℕ) (hand : List ℕ) (pl pl' : Place) (x : Seen) → Calm p cap s pl → Calm p cap s pl'
        → OwnF w fill items hand pl k cap s g l
        → OwnP w fill' items pl' k cap s g → source_of p pl' ≡ source_of p pl
        → ((fm : ℕ) (g₂ : Nums) (l₂ : Lists) → BkF w p fm items pl' from g₂ l₂)
        → ((g₂ : Nums) → Still w pl' g₂)
        → OwnNext w p fill' items hand from k cap s g l d pl (shows (words_of w k cap g) s x)
        (record { place = pl'; drain = d; answer = None; change = None })
    goes fill fill' hand pl pl' x c c' a f sr b st =
        stay fill' hand pl pl' None x refl
        (record {
          wait_is = a.wait_is ∙ ap (tokens cap s (tail g)) (c.waits_no ∙ sym c'.waits_no);
          hand_is = a.hand_is ∙ c.hand_no ∙ sym c'.hand_no;
          at = f;
        })
        sr (λ fm g₂ l₂ _. b fm g₂ l₂) (λ y h. rw (c'.holds_no y) (rw (c.holds_no y) at h)) st tt

    -- a call ends, with nothing in hand
    pub stops : (fill fill' : ℕ) (hand : List ℕ) (pl : Place) (a : Answer) (x : Seen) → handed_out a ≡ [] → Calm p cap s pl
        → OwnF w fill items hand pl k cap s g l
        → source_of p pl ≡ p → Why (fill' ≡ cap) (l.resting ≡ []) ⊥ ⊥ (Some a)
        → OwnNext w p fill' items hand from k cap s g l d pl (shows (words_of w k cap g) s x)
        (record { place = Place.Idle; drain = d; answer = Some a; change = None })
    stops fill fill' hand pl a x bare c o sr y =
        stay fill' hand pl Place.Idle (Some a) x (rw bare refl)
        (record { wait_is = o.wait_is ∙ ap (tokens cap s (tail g)) c.waits_no; hand_is = rw bare (o.hand_is ∙ c.hand_no); at = tt })
        (sym sr) (λ fm g₂ l₂ _. tt) (λ z h. rw (c.holds_no z) at h) (λ g₂. tt) y

    calm_own : (q : OwnPlace) → own_waits q ≡ 0 → hand_in cap s (Place.Own q) ≡ [] → Calm p cap s (Place.Own q)
    calm_own q e h = record { waits_no = e; hand_no = h; holds_no = λ y. refl }

    -- what the loads found: true numbers behind the words
    pub record Loaded (fill word pops at hd : ℕ) : Type 0 where
      pub pg : ℕ
      pub dg : ℕ
      pub word_is : word ≡ g.pushed % 2 ^ w
      pub pops_is : pops ≡ pg % 2 ^ w
      pub pushed_is : tail g + pg ≡ g.pushed
      pub at_is : at ≡ tail g % 2 ^ w
      pub hd_is : hd ≡ dg % 2 ^ w
      pub old : dg ≤ g.completed
      pub fill_is : fill + dg ≡ tail g
      pub fill_fits : fill ≤ cap

    module _ {fill word pops at hd : ℕ} (a : Loaded fill word pops at hd) where
      gap : minus w at hd ≡ fill
      gap = let e : minus w at hd + a.dg ≡ tail g = diff w (tail g) a.dg a.at_is a.hd_is (omega (arith, a.fill_is))
          (omega (arith, a.fill_is, a.fill_fits, cap_small w k i)) in omega (arith, a.fill_is)

      room : minus w cap (minus w at hd) + fill ≡ cap
      room = rw gap (diff w cap fill (small w (cap_small w k i)) (small w (omega (arith, a.fill_fits, cap_small w k i))) a.fill_fits
          (omega (arith, cap_small w k i)))

      -- push, extend and spare
      pub is_filled : (fill₀ : ℕ) (hand : List ℕ) (pl : Place) (x : Seen) (mark : Mark) (f : OwnerCall) → Calm p cap s pl → source_of p pl ≡ p
          → OwnF w fill₀ items hand pl k cap s g l
          → OwnNext w p fill items hand from k cap s g l d pl (shows (words_of w k cap g) s x)
          (filled w (context_of k cap from d mark) f word pops at hd)
      is_filled fill₀ hand pl x mark (OwnerCall.Push t) c sr o = go (ltb (cap - 1) (minus w at hd)) refl
        where
          go : (b : Bool) → ltb (cap - 1) (minus w at hd) ≡ b
              → OwnNext w p fill items hand from k cap s g l d pl (shows (words_of w k cap g) s x)
              (pick b (record { place = Place.Idle; drain = d; answer = Some (Answer.Full t); change = None })
              (record { place = Place.Own (OwnPlace.PushWrite t word at); drain = d; answer = None; change = None }))
          go true e = stops fill₀ fill hand pl (Answer.Full t) x refl c o sr
              (let h : cap - 1 < minus w at hd = ltb-true (cap - 1) (minus w at hd) e in omega (arith, gap, a.fill_fits))
          go false e = goes fill₀ fill hand pl (Place.Own (OwnPlace.PushWrite t word at)) x c (calm_own (OwnPlace.PushWrite t word at) refl refl) o
              (let h : minus w at hd ≤ cap - 1 = ltb-false (cap - 1) (minus w at hd) e in record {
                word_is = a.word_is;
                at_is = a.at_is;
                room_is = omega (arith, gap, a.fill_is, a.old, i.cap_pos);
              })
              (sym sr) (λ fm g₂ l₂. tt) (λ g₂. tt)
      is_filled fill₀ hand pl x mark OwnerCall.Extend c sr o = go (eqb at (plus w hd cap)) refl
        where
          ext : Ext w cap g pops at 0
          ext = record {
            pg = a.pg;
            pops_is = a.pops_is;
            pushed_is = a.pushed_is;
            at_is = rw add-zero a.at_is;
            fits = omega (arith, a.fill_is, a.fill_fits, a.old);
          }

          go : (b : Bool) → eqb at (plus w hd cap) ≡ b
              → OwnNext w p fill items hand from k cap s g l d pl (shows (words_of w k cap g) s x)
              (record {
                place = Place.Own (pick b (OwnPlace.ExtendStore pops at 0) (OwnPlace.ExtendMore pops at (plus w hd cap) 0));
                drain = d;
                answer = None;
                change = None;
              })
          go true e = goes fill₀ fill hand pl (Place.Own (OwnPlace.ExtendStore pops at 0)) x c (calm_own (OwnPlace.ExtendStore pops at 0) refl refl) o ext
              (sym sr) (λ fm g₂ l₂. tt) (λ g₂. tt)
          go false e = goes fill₀ fill hand pl (Place.Own (OwnPlace.ExtendMore pops at (plus w hd cap) 0)) x c
              (calm_own (OwnPlace.ExtendMore pops at (plus w hd cap) 0) refl refl) o
              (let ne : tail g ≢ a.dg + cap = λ z. eqb-false at (plus w hd cap) e (a.at_is ∙ ap (λ (n : ℕ). n % 2 ^ w) z
              ∙ sym (plus_is w a.dg cap a.hd_is)) in
              record {
                ext = ext;
                dg = a.dg;
                limit_is = plus_is w a.dg cap a.hd_is;
                old = a.old;
                below = omega (arith, a.fill_is, a.fill_fits);
              })
              (sym sr) (λ fm g₂ l₂. tt) (λ g₂. tt)
      is_filled fill₀ hand pl x mark OwnerCall.Spare c sr o = stops fill₀ fill hand pl (Answer.Spare (minus w cap (minus w at hd))) x refl c o sr tt

      -- steal and take
      pub is_brought : (fill₀ : ℕ) (hand : List ℕ) (pl : Place) (x : Seen) (mark : Mark) (e : TransferCall) → Calm p cap s pl
          → source_of p pl ≡ e.source → OwnF w fill₀ items hand pl k cap s g l
          → OwnNext w p fill items hand from k cap s g l d pl (shows (words_of w k cap g) s x)
          (brought w (context_of k cap from d mark) e word at hd)
      is_brought fill₀ hand pl x mark e c sr o =
          goes fill₀ fill hand pl (Place.Book (BookingCall.Transfer e (record { word = word; tail = at; room = minus w cap (minus w at hd) })) (booking from))
          x c
          (record { waits_no = refl; hand_no = refl; holds_no = λ y. refl }) o
          (record { word_is = a.word_is; at_is = a.at_is; room_is = omega (arith, room, a.fill_is, a.old) }, room) (sym sr)
          (λ fm g₂ l₂. first from fm (limit_of w (BookingCall.Transfer e (record { word = word; tail = at; room = minus w cap (minus w at hd) }))) g₂)
          (λ g₂. starts from g₂)
        where
          first : (f : Kind) (fm limit : ℕ) (g₂ : Nums) → BkB w fm limit (booking f) f g₂
          first Kind.Lifo fm limit g₂ = refl
          first Kind.Fifo fm limit g₂ = refl

          starts : (f : Kind) (g₂ : Nums) → BookStill w (booking f) g₂
          starts Kind.Lifo g₂ = tt
          starts Kind.Fifo g₂ = tt

    -- ---- push and extend

    -- one more token offered past the tail, where j stand already
    pub offers : (fill : ℕ) (hand : List ℕ) (pl pl' : Place) (at j t : ℕ) → at ≡ (tail g + j) % 2 ^ w → tail g + j < g.completed + cap
        → waits pl ≡ j → waits pl' ≡ j + 1
        → hand_in cap s pl ≡ [] → hand_in cap (set s (at % cap) t) pl' ≡ [] → ((y : ℕ) → (by_place p pl y).holds ≡ false)
        → ((y : ℕ) → (by_place p pl' y).holds ≡ false)
        → source_of p pl' ≡ source_of p pl → ((fm : ℕ) (g₂ : Nums) (l₂ : Lists) → BkF w p fm items pl' from g₂ l₂)
        → ((g₂ : Nums) → Still w pl' g₂)
        → OwnF w fill items hand pl k cap s g l → OwnP w fill items pl' k cap (set s (at % cap) t) g
        → OwnNext w p fill items hand from k cap s g l d pl (shows (words_of w k cap g) (set s (at % cap) t) nothing_seen)
        (record { place = pl'; drain = d; answer = None; change = Some (Change.Offered t) })
    unfolding offer can
    offers fill hand pl pl' at j t e lt ej ej' eh eh' n n' sr b st o f =
        let es : at % cap ≡ (tail g + j) % cap = slot_of w k i (tail g + j) e in
        let c : Joins cap (set s (at % cap) t) g l = rw es (joins_write cap i.cap_pos i.joins (tail g + j) t (omega arith) lt) in
        record {
          g' = g;
          actor = noone;
          q_is = refl;
          ok = record {
            joins = joins_offer cap i.cap_pos c t;
            cap_pos = i.cap_pos;
            cap_fits = i.cap_fits;
            cap_pow = i.cap_pow;
            free = i.free;
            shut = i.shut;
            part = i.part;
          };
          own = record {
            wait_is =
                ap (λ (x : List ℕ). x ++ (t ∷ [])) (o.wait_is ∙ ap (tokens cap s (tail g)) ej)
                ∙ sym (tokens_write cap i.cap_pos s t (tail g) j i.joins.sized (omega arith))
                ∙ ap₂ (λ (y m : ℕ). tokens cap (set s y t) (tail g) m) (sym es) (sym ej');
            hand_is = o.hand_is ∙ eh ∙ sym eh';
            at = f;
          };
          fair = refl;
          src_s = sr;
          bkr = inl (refl, λ fm g₂ l₂ _. b fm g₂ l₂);
          drn = λ h. h;
          rb = rb_refl g;
          rh = λ r _ _ _. record { who_s = refl; done_s = refl; taken_s = refl; left_s = refl; book_s = refl };
          who_s = refl;
          claim = λ y h. rw (n' y) (rw (n y) at h);
          moved_s = omega arith;
          still = λ _. refl;
          still_n = st;
          single = refl;
          can_s = eq-eqb p p refl;
          why = tt;
        }

    -- j tokens wait past the tail: the store lets them in (also none)
    pub stores : (fill : ℕ) (hand : List ℕ) (pl : Place) (v j : ℕ) (a : Answer) → handed_out a ≡ []
        → Why (fill ≡ cap) (l.resting ≡ []) ⊥ ⊥ (Some a) → v ≡ (g.pushed + j) % 2 ^ w → tail g + j ≤ g.completed + cap
        → waits pl ≡ j → hand_in cap s pl ≡ [] → ((y : ℕ) → (by_place p pl y).holds ≡ false) → source_of p pl ≡ p
        → OwnF w fill items hand pl k cap s g l
        → OwnNext w p fill items hand from k cap s g l d pl (shows (with_pushes (words_of w k cap g) v) s nothing_seen)
        (record { place = Place.Idle; drain = d; answer = Some a; change = Some Change.Accepted })
    unfolding more accept can
    stores fill hand pl v j a bare y e le ej eh n sr o = record {
      g' = more j g;
      actor = noone;
      q_is = words_more w k cap j v g e;
      ok = record {
        joins = joins_accept cap i.cap_pos i.joins j (o.wait_is ∙ ap (tokens cap s (tail g)) ej) le;
        cap_pos = i.cap_pos;
        cap_fits = i.cap_fits;
        cap_pow = i.cap_pow;
        free = i.free;
        shut = i.shut;
        part = part_more k g j i.part;
      };
      own = record { wait_is = sym (tokens_zero cap s (head g + (g.rest + j))); hand_is = rw bare (o.hand_is ∙ eh); at = tt };
      fair = rw bare refl;
      src_s = sym sr;
      bkr = inl (refl, λ fm g₂ l₂ _. tt);
      drn = λ f ne. let z = f ne in record { who_is = z.who_is; at_is = z.at_is; end_is = z.end_is };
      rb = omega arith;
      rh = λ r _ _ _. record { who_s = refl; done_s = refl; taken_s = refl; left_s = refl; book_s = refl };
      who_s = refl;
      claim = λ z h. rw (n z) at h;
      moved_s = omega arith;
      still = λ _. refl;
      still_n = λ g₂. tt;
      single = refl;
      can_s = eq-eqb p p refl;
      why = y;
    }
