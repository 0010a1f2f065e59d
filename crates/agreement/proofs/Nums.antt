-- One queue of either kind: its true numbers, what joins them to slots and plain lists, and the few ways in which a step changes them.
use mathlib.Core.Path.{◌≡◌, refl, sym, ap, ap₂, ◌∙◌}
use mathlib.Core.Logic.{◌≢◌}
use mathlib.Core.Bool.{true}
use mathlib.Core.List.{List, [], ◌∷◌, ◌++◌}
use Prim.Native.Nat.{ℕ, ◌+◌, ◌-◌, ◌%◌, ◌≤◌, ◌<◌}
use native.Mathlib.Omega.{arith}
use lib.ListN.{length, drop, get_or, set, length-set}
use lib.Seq.{take_at, drop_at, get_or_at}
use Rattle.tables.specs.declared.state.Kind.TheVariants as Kind
use Rattle.tables.specs.Lists.{Holder, nobody, party, is_open, Lists, offer, accept, pop, pop_from, book, leave, arrive, shut}
use Rattle.agreement.proofs.Ring.{tokens, cell, tokens_zero, length_tokens, tokens_append, tokens_snoc, tokens_other, get_d_tokens}

-- Who has the open booking: a party's call, or its drain.
pub data Who : Type 0 where
  noone : Who
  call : ℕ → Who
  drain : ℕ → Who

abbrev pub holder_of : Who → Holder
holder_of noone = nobody
holder_of (call p) = party p
holder_of (drain p) = party p

-- The true numbers. From the completed head (FIFO stealer head) on: `taken` booked tokens moved out, `left` still booked, `gone`
-- popped past the booking (FIFO), `rest` resting. `moved` counts from the opening position `start`.
pub record Nums : Type 0 where
  pub completed : ℕ
  pub taken : ℕ
  pub left : ℕ
  pub gone : ℕ
  pub rest : ℕ
  pub pops : ℕ
  pub pushed : ℕ
  pub moved : ℕ
  pub start : ℕ
  pub who : Who

abbrev pub head : Nums → ℕ
head g = g.completed + g.taken + g.left + g.gone

abbrev pub tail : Nums → ℕ
tail g = head g + g.rest

pub record Joins (cap : ℕ) (s : List ℕ) (g : Nums) (l : Lists) : Type 0 where
  pub sized : length s ≡ cap
  pub fits : g.taken + g.left + g.gone + g.rest ≤ cap
  pub rest_is : l.resting ≡ tokens cap s (head g) g.rest
  pub book_is : l.booked ≡ tokens cap s (g.completed + g.taken) g.left
  pub kept_is : l.kept ≡ g.taken + g.left + g.gone
  pub holder_is : l.holder ≡ holder_of g.who

-- The transitions on the numbers.
unfoldable pub more : ℕ → Nums → Nums
more n g = record {
  completed = g.completed;
  taken = g.taken;
  left = g.left;
  gone = g.gone;
  rest = g.rest + n;
  pops = g.pops;
  pushed = g.pushed + n;
  moved = g.moved;
  start = g.start;
  who = g.who;
}

unfoldable pub pop_last : Nums → Nums
pop_last g = record {
  completed = g.completed;
  taken = g.taken;
  left = g.left;
  gone = g.gone;
  rest = g.rest - 1;
  pops = g.pops + 1;
  pushed = g.pushed;
  moved = g.moved + 1;
  start = g.start;
  who = g.who;
}

-- FIFO: past an open booking the slot stays away until it closes
unfoldable pub pop_past : Nums → Nums
pop_past g = record {
  completed = g.completed;
  taken = g.taken;
  left = g.left;
  gone = g.gone + 1;
  rest = g.rest - 1;
  pops = g.pops + 1;
  pushed = g.pushed;
  moved = g.moved + 1;
  start = g.start;
  who = g.who;
}

-- FIFO: with no booking open both heads move
unfoldable pub pop_first : Nums → Nums
pop_first g = record {
  completed = g.completed + 1;
  taken = 0;
  left = 0;
  gone = 0;
  rest = g.rest - 1;
  pops = g.pops + 1;
  pushed = g.pushed;
  moved = g.moved + 1;
  start = g.start;
  who = g.who;
}

unfoldable pub books : Who → ℕ → Nums → Nums
books r n g = record {
  completed = head g;
  taken = 0;
  left = n;
  gone = 0;
  rest = g.rest - n;
  pops = g.pops;
  pushed = g.pushed;
  moved = g.moved + n;
  start = g.start;
  who = r;
}

unfoldable pub moves : ℕ → Nums → Nums
moves n g = record {
  completed = g.completed;
  taken = g.taken + n;
  left = g.left - n;
  gone = g.gone;
  rest = g.rest;
  pops = g.pops;
  pushed = g.pushed;
  moved = g.moved;
  start = g.start;
  who = g.who;
}

unfoldable pub closes : Nums → Nums
closes g = record {
  completed = head g;
  taken = 0;
  left = 0;
  gone = 0;
  rest = g.rest;
  pops = g.pops;
  pushed = g.pushed;
  moved = g.moved;
  start = g.start;
  who = noone;
}

pub open_or : (r : Who) → r ≢ noone → is_open (holder_of r) ≡ true
open_or noone n = absurd (n refl)
open_or (call p) n = refl
open_or (drain p) n = refl

module _ (cap : ℕ) (pos : 0 < cap) {s : List ℕ} {g : Nums} {l : Lists} (c : Joins cap s g l) where
  -- a write past the tail, within the capacity
  pub joins_write : (x v : ℕ) → tail g ≤ x → x < g.completed + cap → Joins cap (set s (x % cap) v) g l
  joins_write x v le lt = record {
    sized = length-set s (x % cap) v ∙ c.sized;
    fits = c.fits;
    rest_is = c.rest_is ∙ sym (tokens_other cap pos s x v (head g) g.rest le (omega arith));
    book_is = c.book_is ∙ sym (tokens_other cap pos s x v (g.completed + g.taken) g.left (omega arith) (omega arith));
    kept_is = c.kept_is;
    holder_is = c.holder_is;
  }

  pub joins_offer : (t : ℕ) → Joins cap s g (offer t l)
  unfolding offer
  joins_offer t = record {
    sized = c.sized;
    fits = c.fits;
    rest_is = c.rest_is;
    book_is = c.book_is;
    kept_is = c.kept_is;
    holder_is = c.holder_is;
  }

  -- tokens that stand past the tail are let in
  pub joins_more : (n : ℕ) (ts : List ℕ) → ts ≡ tokens cap s (tail g) n → tail g + n ≤ g.completed + cap → Joins cap s (more n g) (arrive ts l)
  unfolding more arrive
  joins_more n ts e le = record {
    sized = c.sized;
    fits = omega (arith, c.fits);
    rest_is = ap₂ (λ (a b : List ℕ). a ++ b) c.rest_is e ∙ sym (tokens_append cap s (head g) g.rest n);
    book_is = c.book_is;
    kept_is = c.kept_is;
    holder_is = c.holder_is;
  }

  pub joins_accept : (n : ℕ) → l.waiting ≡ tokens cap s (tail g) n → tail g + n ≤ g.completed + cap → Joins cap s (more n g) (accept l)
  unfolding more accept
  joins_accept n e le = record {
    sized = c.sized;
    fits = omega (arith, c.fits);
    rest_is = ap₂ (λ (a b : List ℕ). a ++ b) c.rest_is e ∙ sym (tokens_append cap s (head g) g.rest n);
    book_is = c.book_is;
    kept_is = c.kept_is;
    holder_is = c.holder_is;
  }

  one_less : 0 < g.rest → tokens cap s (head g) g.rest ≡ tokens cap s (head g) (g.rest - 1) ++
      (cell cap s (head g + (g.rest - 1)) ∷ [])
  one_less h = ap (tokens cap s (head g)) (omega arith) ∙ tokens_snoc cap s (head g) (g.rest - 1)

  pub rest_length : length l.resting ≡ g.rest
  rest_length = ap length c.rest_is ∙ length_tokens cap s (head g) g.rest

  pub book_length : length l.booked ≡ g.left
  book_length = ap length c.book_is ∙ length_tokens cap s (g.completed + g.taken) g.left

  pub rest_none : g.rest ≡ 0 → l.resting ≡ []
  rest_none e = c.rest_is ∙ ap (tokens cap s (head g)) e ∙ tokens_zero cap s (head g)

  pub book_none : g.left ≡ 0 → l.booked ≡ []
  book_none e = c.book_is ∙ ap (tokens cap s (g.completed + g.taken)) e ∙ tokens_zero cap s (g.completed + g.taken)

  pub joins_pop_last : 0 < g.rest → Joins cap s (pop_last g) (pop Kind.Lifo l)
  unfolding pop_last pop
  joins_pop_last h = record {
    sized = c.sized;
    fits = omega (arith, c.fits);
    rest_is =
        rw (rest_length, c.rest_is, one_less h)
        (take_at (tokens cap s (head g) (g.rest - 1)) (cell cap s (head g + (g.rest - 1)) ∷ []) (g.rest - 1)
        (length_tokens cap s (head g) (g.rest - 1)));
    book_is = c.book_is;
    kept_is = c.kept_is;
    holder_is = c.holder_is;
  }

  -- the token popped is the one in the last slot
  pub last_is : 0 < g.rest → pop_from Kind.Lifo l.resting ≡ cell cap s (tail (pop_last g))
  unfolding pop_last
  last_is h =
      rw (rest_length, c.rest_is, one_less h)
      (get_or_at (tokens cap s (head g) (g.rest - 1)) (cell cap s (head g + (g.rest - 1))) [] 0 (g.rest - 1)
      (length_tokens cap s (head g) (g.rest - 1)))

  split : (n m : ℕ) → n ≤ m → (h : ℕ) → tokens cap s h m ≡ tokens cap s h n ++ tokens cap s (h + n) (m - n)
  split n m le h = ap (tokens cap s h) (omega arith) ∙ tokens_append cap s h n (m - n)

  first_off : 0 < g.rest → drop 1 l.resting ≡ tokens cap s (head g + 1) (g.rest - 1)
  first_off h =
      rw (c.rest_is, split 1 g.rest (omega arith) (head g))
      (drop_at (tokens cap s (head g) 1) (tokens cap s (head g + 1) (g.rest - 1)) 1 (length_tokens cap s (head g) 1))

  pub first_is : 0 < g.rest → pop_from Kind.Fifo l.resting ≡ cell cap s (head g)
  first_is h = ap (λ (x : List ℕ). get_or x 0 0) c.rest_is ∙ get_d_tokens cap s (head g) g.rest 0 h ∙ ap (cell cap s) (omega arith)

  pub joins_pop_past : 0 < g.rest → g.who ≢ noone → Joins cap s (pop_past g) (pop Kind.Fifo l)
  unfolding pop_past pop
  joins_pop_past h n = record {
    sized = c.sized;
    fits = omega (arith, c.fits);
    rest_is = first_off h ∙ ap (λ (h : ℕ). tokens cap s h (g.rest - 1)) (omega arith);
    book_is = c.book_is;
    kept_is = rw (c.holder_is, open_or g.who n) (omega (arith, c.kept_is));
    holder_is = c.holder_is;
  }

  pub joins_pop_first : 0 < g.rest → g.who ≡ noone → g.taken + g.left + g.gone ≡ 0 → Joins cap s (pop_first g) (pop Kind.Fifo l)
  unfolding pop_first pop
  joins_pop_first h n e =
      let z : g.left ≡ 0 = omega arith in
      record {
        sized = c.sized;
        fits = omega (arith, c.fits);
        rest_is = first_off h ∙ ap (λ (h : ℕ). tokens cap s h (g.rest - 1)) (omega arith);
        book_is = book_none z ∙ sym (tokens_zero cap s (g.completed + 1 + 0));
        kept_is = rw (c.holder_is, n) (omega (arith, c.kept_is));
        holder_is = c.holder_is;
      }

  pub joins_book : (r : Who) (p n : ℕ) → holder_of r ≡ party p → n ≤ g.rest → Joins cap s (books r n g) (book p n l)
  unfolding books book
  joins_book r p n mine le = record {
    sized = c.sized;
    fits = omega (arith, c.fits);
    rest_is =
        rw (c.rest_is, split n g.rest le (head g))
        (drop_at (tokens cap s (head g) n) (tokens cap s (head g + n) (g.rest - n)) n (length_tokens cap s (head g) n)
        ∙ ap (λ (h : ℕ). tokens cap s h (g.rest - n)) (omega arith));
    book_is =
        rw (c.rest_is, split n g.rest le (head g))
        (take_at (tokens cap s (head g) n) (tokens cap s (head g + n) (g.rest - n)) n (length_tokens cap s (head g) n)
        ∙ ap (λ (h : ℕ). tokens cap s h n) (omega arith));
    kept_is = omega arith;
    holder_is = sym mine;
  }

  pub joins_move : (n : ℕ) → n ≤ g.left → Joins cap s (moves n g) (leave n l)
  unfolding moves leave
  joins_move n le = record {
    sized = c.sized;
    fits = omega (arith, c.fits);
    rest_is = c.rest_is ∙ ap (λ (h : ℕ). tokens cap s h g.rest) (omega arith);
    book_is =
        rw (c.book_is, split n g.left le (g.completed + g.taken))
        (drop_at (tokens cap s (g.completed + g.taken) n) (tokens cap s (g.completed + g.taken + n) (g.left - n)) n
        (length_tokens cap s (g.completed + g.taken) n)
        ∙ ap (λ (h : ℕ). tokens cap s h (g.left - n)) (omega arith));
    kept_is = omega (arith, c.kept_is);
    holder_is = c.holder_is;
  }

  pub joins_close : g.left ≡ 0 → Joins cap s (closes g) (shut l)
  unfolding closes shut
  joins_close e = record {
    sized = c.sized;
    fits = omega (arith, c.fits);
    rest_is = c.rest_is ∙ ap (λ (h : ℕ). tokens cap s h g.rest) (omega arith);
    book_is = book_none e ∙ sym (tokens_zero cap s (head g + 0));
    kept_is = refl;
    holder_is = refl;
  }
