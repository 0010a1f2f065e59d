-- The holder of an open drain takes its next token: next, and one step of drop. Nobody else takes from its booking, so the token at the
-- drain's position is the first booked.
use mathlib.Core.Path.{◌≡◌, refl, sym, ap, ap₂, ◌∙◌}
use mathlib.Core.Logic.{◌≢◌, inr}
use mathlib.Core.Bool.{Bool, true, false, not}
use mathlib.Core.List.{List, [], ◌∷◌, ◌++◌}
use Prim.Native.Nat.{ℕ, ◌+◌, ◌%◌, ◌^◌, ◌<◌}
use native.Mathlib.Omega.{arith}
use lib.ListN.{length, get_or}
use lib.Dec.{eqb}
use borrow.Author.Tests.{eqb-true, eqb-false, eq-eqb, ne_eqb, lt-ltb, le-leb}
use Rattle.std.specs.Prelude.{Some, None}
use Rattle.words.specs.Word.{pick, orb, plus}
use Rattle.tables.specs.declared.answer.Answer.TheVariants as Answer
use Rattle.tables.specs.declared.answer.Change.TheVariants as Change
use Rattle.tables.specs.declared.call.Mark.{Mark}
use Rattle.tables.specs.declared.state.Drain.{Drain}
use Rattle.tables.specs.declared.state.Kind.{Kind}
use Rattle.tables.specs.declared.place.ClosingCall.TheVariants as ClosingCall
use Rattle.tables.specs.declared.place.OwnPlace.TheVariants as OwnPlace
use Rattle.tables.specs.declared.place.Place.TheVariants as Place
use Rattle.tables.specs.Access.{shows, saw_token}
use Rattle.tables.specs.Table.{closing}
use Rattle.tables.specs.Lists.{held_by, Lists, leave, can}
use Rattle.tables.proofs.Bools.{and_left}
use Rattle.tables.specs.Shows.{by_drain}
use Rattle.agreement.proofs.Wrap.{plus_is, same}
use Rattle.agreement.proofs.Ring.{tokens, cell, get_d_tokens}
use Rattle.agreement.proofs.Nums.{Who, noone, drain, Nums, tail, moves, book_length, joins_move}
use Rattle.agreement.proofs.Whole.{Whole, words_of, words_move, part_move, RB, RH, cap_small, slot_of}
use Rattle.agreement.proofs.Facts.{OwnF, BkC, DrainIs, DrnF}
use Rattle.agreement.proofs.Steps.{OwnNext}

module _ (w p fill : ℕ) (items hand : List ℕ) (from k : Kind) (mark : Mark) {cap : ℕ} {s : List ℕ} {g : Nums} {l : Lists}
    (i : Whole w k cap s g l) (d : Drain) (a : DrainIs w (drain p) g d) where
  d₁ : Drain
  d₁ = record { at = plus w d.at 1; end = d.end }

  not_free : g.who ≢ noone
  not_free z = let y : ◌≡◌ {A = ℕ} 0 1 = cc a.who_is in omega arith

  pub drain_some : d.at ≢ d.end → 0 < g.left
  drain_some ne = let z : g.left ≢ 0 = λ e. ne (a.at_is ∙ ap (λ (n : ℕ). n % 2 ^ w) (omega arith) ∙ sym a.end_is) in omega arith

  module _ (some : 0 < g.left) where
    at₁ : d₁.at ≡ (g.completed + g.taken + 1) % 2 ^ w
    unfolding d₁
    at₁ = plus_is w (g.completed + g.taken) 1 a.at_is

    last : d₁.at ≡ d.end → g.left ≡ 1
    last e = let z : g.completed + g.taken + g.left ≡ g.completed + g.taken + 1 = same w (g.completed + g.taken + g.left)
        (g.completed + g.taken + 1) a.end_is at₁ (sym e) (omega arith) (omega (arith, i.joins.fits, cap_small w k i)) in omega arith

    -- the slot shows the first booked token
    token : get_or s (d.at % cap) 0 ≡ get_or l.booked 0 0
    unfolding cell
    token =
        rw (slot_of w k i (g.completed + g.taken) a.at_is, i.joins.book_is)
        (sym (get_d_tokens cap s (g.completed + g.taken) g.left 0 some ∙ ap (λ (n : ℕ). get_or s (n % cap) 0) (omega arith)))

    ok₁ : Whole w k cap s (moves 1 g) (leave 1 l)
    unfolding moves
    ok₁ = record {
      joins = joins_move cap i.cap_pos i.joins 1 some;
      cap_pos = i.cap_pos;
      cap_fits = i.cap_fits;
      cap_pow = i.cap_pow;
      free = λ z. absurd (omega arith);
      shut = λ z. absurd (not_free z);
      part = part_move k g 1 some (omega arith) i.part;
    }

    wait₁ : (n : ℕ) → l.waiting ≡ tokens cap s (tail g) n → l.waiting ≡ tokens cap s (tail (moves 1 g)) n
    unfolding moves
    wait₁ n e = e ∙ ap (λ (h : ℕ). tokens cap s h n) (omega arith)

    drn₁ : DrnF w p d₁ (moves 1 g)
    unfolding moves d₁
    drn₁ ne = record {
      who_is = a.who_is;
      at_is = at₁ ∙ ap (λ (n : ℕ). n % 2 ^ w) (omega arith);
      end_is = a.end_is
          ∙ ap (λ (n : ℕ). n % 2 ^ w) (omega arith);
    }

    closed₁ : (k₂ : Kind) → g.left ≡ 1 → BkC w (drain p) (closing k₂ d.end) k₂ (moves 1 g)
    unfolding moves
    closed₁ Kind.Lifo e = (refl, a.who_is, omega arith, a.end_is ∙ ap (λ (n : ℕ). n % 2 ^ w) (omega arith))
    closed₁ Kind.Fifo e = (refl, a.who_is, omega arith)

    rb₁ : RB g (moves 1 g)
    unfolding moves
    rb₁ = omega arith

    rh₁ : (r : Who) → r ≢ noone → r ≢ drain p → g.who ≡ r → RH g l (moves 1 g) (leave 1 l)
    rh₁ r _ rm e = absurd (rm (sym e ∙ a.who_is))

    mine : (y : ℕ) → (by_drain w p d y).holds ≡ true → eqb p y ≡ true
    mine y h = and_left (eqb p y) (not (eqb d.at d.end)) h

    held₁ : held_by p l.holder ≡ true
    held₁ = rw (i.joins.holder_is, a.who_is) (eq-eqb p p refl)

    -- the claim of an open drain goes on: by the place that closes, or by the drain
    claim_close : (y : ℕ) (b : Bool) → (by_drain w p d y).holds ≡ true → orb (eqb p y) b ≡ true
    claim_close y b h = rw (mine y h)

    claim_drain : (y : ℕ) → d₁.at ≢ d.end → (by_drain w p d y).holds ≡ true → (by_drain w p d₁ y).holds ≡ true
    unfolding d₁
    claim_drain y ne h = rw (mine y h, ne_eqb (plus w d.at 1) d.end ne)

    pub next_on : OwnF w fill items hand (Place.Own OwnPlace.NextItem) k cap s g l → (b : Bool) → eqb (plus w d.at 1) d.end ≡ b
        → OwnNext w p fill items hand from k cap s g l d (Place.Own OwnPlace.NextItem)
        (shows (words_of w k cap g) s (saw_token (get_or s (d.at % cap) 0)))
        (record {
          place = pick b (Place.Close (ClosingCall.Next (get_or s (d.at % cap) 0)) (closing k d.end)) Place.Idle;
          drain = record { at = plus w d.at 1; end = d.end };
          answer = pick b None (Some (Answer.Item (get_or s (d.at % cap) 0)));
          change = Some Change.Drained;
        })
    unfolding moves leave can d₁
    next_on o true e = record {
      g' = moves 1 g;
      actor = drain p;
      q_is = words_move w k cap 1 g some;
      ok = ok₁;
      own = record {
        wait_is = wait₁ 0 o.wait_is;
        hand_is = ap₂ (λ (h : List ℕ) (v : ℕ). h ++ (v ∷ [])) o.hand_is (sym token);
        at = tt;
      };
      fair = refl;
      src_s = refl;
      bkr = inr (refl, refl, λ fm. closed₁ k (last (eqb-true (plus w d.at 1) d.end e)));
      drn = λ _ ne. absurd (ne (eqb-true (plus w d.at 1) d.end e));
      rb = rb₁;
      rh = rh₁;
      who_s = refl;
      claim = λ y h. claim_close y (by_drain w p d₁ y).holds h;
      moved_s = omega arith;
      still = λ _. refl;
      still_n = λ g₂. tt;
      single = refl;
      can_s = rw (held₁, lt-ltb 0 (length l.booked) (omega (arith, book_length cap i.cap_pos i.joins))) refl;
      why = tt;
    }
    next_on o false e = record {
      g' = moves 1 g;
      actor = drain p;
      q_is = words_move w k cap 1 g some;
      ok = ok₁;
      own = record { wait_is = wait₁ 0 o.wait_is; hand_is = rw o.hand_is refl; at = tt };
      fair = rw o.hand_is (eq-eqb (get_or s (d.at % cap) 0) (get_or l.booked 0 0) token);
      src_s = refl;
      bkr = inr (refl, refl, λ fm. tt);
      drn = λ _. drn₁;
      rb = rb₁;
      rh = rh₁;
      who_s = refl;
      claim = λ y h. claim_drain y (eqb-false (plus w d.at 1) d.end e) h;
      moved_s = omega arith;
      still = λ _. refl;
      still_n = λ g₂. tt;
      single = refl;
      can_s = rw (held₁, lt-ltb 0 (length l.booked) (omega (arith, book_length cap i.cap_pos i.joins))) refl;
      why = tt;
    }

    pub drop_on : OwnF w fill items hand (Place.Own OwnPlace.DropItem) k cap s g l → (b : Bool) → eqb (plus w d.at 1) d.end ≡ b
        → OwnNext w p fill items hand from k cap s g l d (Place.Own OwnPlace.DropItem)
        (shows (words_of w k cap g) s (saw_token (get_or s (d.at % cap) 0)))
        (record {
          place = pick b (Place.Close ClosingCall.Drop (closing k d.end)) (Place.Own OwnPlace.DropItem);
          drain = record { at = plus w d.at 1; end = d.end };
          answer = None;
          change = Some (Change.Dropped 1);
        })
    unfolding moves leave can d₁
    drop_on o true e = record {
      g' = moves 1 g;
      actor = drain p;
      q_is = words_move w k cap 1 g some;
      ok = ok₁;
      own = record { wait_is = wait₁ 0 o.wait_is; hand_is = o.hand_is; at = tt };
      fair = refl;
      src_s = refl;
      bkr = inr (refl, refl, λ fm. closed₁ k (last (eqb-true (plus w d.at 1) d.end e)));
      drn = λ _ ne. absurd (ne (eqb-true (plus w d.at 1) d.end e));
      rb = rb₁;
      rh = rh₁;
      who_s = refl;
      claim = λ y h. claim_close y (by_drain w p d₁ y).holds h;
      moved_s = omega arith;
      still = λ _. refl;
      still_n = λ g₂. tt;
      single = refl;
      can_s = rw (held₁, le-leb 1 (length l.booked) (omega (arith, book_length cap i.cap_pos i.joins))) refl;
      why = tt;
    }
    drop_on o false e = record {
      g' = moves 1 g;
      actor = drain p;
      q_is = words_move w k cap 1 g some;
      ok = ok₁;
      own = record { wait_is = wait₁ 0 o.wait_is; hand_is = o.hand_is; at = tt };
      fair = refl;
      src_s = refl;
      bkr = inr (refl, refl, λ fm. tt);
      drn = λ _. drn₁;
      rb = rb₁;
      rh = rh₁;
      who_s = refl;
      claim = λ y h. claim_drain y (eqb-false (plus w d.at 1) d.end e) h;
      moved_s = omega arith;
      still = λ _. refl;
      still_n = λ g₂. tt;
      single = refl;
      can_s = rw (held₁, le-leb 1 (length l.booked) (omega (arith, book_length cap i.cap_pos i.joins))) refl;
      why = tt;
    }
