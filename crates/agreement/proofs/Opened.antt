-- A fresh machine, opened and not refused, holds what every run holds: its words are its positions, nothing rests and nobody has a call.
use mathlib.Core.Path.{◌≡◌, refl, sym, ap, subst, ◌∙◌}
use mathlib.Core.Bool.{Bool, true, false}
use mathlib.Core.List.{List, [], ◌∷◌}
use Prim.Native.Nat.{ℕ, ◌+◌, ◌%◌, ◌^◌, ◌≤◌, ◌<◌}
use native.Mathlib.Omega.{arith}
use lib.ListN.{length, get_or}
use lib.Pow.{pow_pos}
use lib.Dec.{ltb}
use borrow.Author.Tests.{ltb-true, lt-ltb}
use Rattle.words.specs.Word.{pick, packed, pow_below, capacity_of}
use Rattle.words.proofs.Powers.{power_test, power_positive, power_most}
use Rattle.words.proofs.Doubling.{capacity_power}
use Rattle.tables.specs.declared.state.Kind.{Kind}
use Rattle.tables.specs.declared.state.Machine.{Machine}
use Rattle.tables.specs.declared.state.Queue.{Queue}
use Rattle.tables.specs.declared.place.Place.TheVariants as Place
use Rattle.tables.specs.Machine.{queue_at, base_of, stretch}
use Rattle.tables.specs.Step.{open_queue, closed_queues, tables, open_queues}
use Rattle.tables.specs.Lists.{no_lists, replay}
use Rattle.tables.specs.Causes.{no_notes}
use Rattle.tables.proofs.Refused.{CanOpen, open_needs, opening_refusal, opening_taken}
use Rattle.tables.proofs.Bases.{base_within, stretch_length}
use Rattle.tables.proofs.Opening.{closed_length, idle_at, idle_length, open_capacity, open_length, opened_queue, requests_small}
use Rattle.agreement.specs.Statement.{Run, Fresh}
use Rattle.agreement.proofs.Wrap.{small, pair, pair_of}
use Rattle.agreement.proofs.Ring.{tokens_zero}
use Rattle.agreement.proofs.Nums.{noone, Nums, tail}
use Rattle.agreement.proofs.Whole.{Part, Whole, words_of}
use Rattle.agreement.proofs.Cells.{Cell, Member, MInv, words}
use Rattle.agreement.proofs.Record.{Fits}
use Rattle.agreement.proofs.Good.{Good, halves}

-- ---- a capacity is a power of two, within half of the width

pub record Capacity (w c : ℕ) : Type 0 where
  pub pos : 0 < c
  pub fits : c + c ≤ 2 ^ w
  pub pow : pow_below w c ≡ true

power_capacity : (w c : ℕ) → 1 < w → pow_below w c ≡ true → Capacity w c
power_capacity w c wide e =
    record { pos = power_positive w c e; fits = omega (arith, power_most w c e, halves w wide); pow = e }

-- ---- its tables

fresh_nums : ℕ → Nums
fresh_nums at = record { completed = at; taken = 0; left = 0; gone = 0; rest = 0; pops = 0; pushed = at; moved = 0; start = at; who = noone }

fresh_part : (k : Kind) (at : ℕ) → Part k (fresh_nums at)
unfolding fresh_nums
fresh_part Kind.Lifo at = record { pushed_is = omega arith; gone_no = refl; moved_is = omega arith }
fresh_part Kind.Fifo at = record { pushed_is = omega arith; gone_no = λ _. refl; moved_is = omega arith }

fresh_whole : (w : ℕ) (k : Kind) (cap : ℕ) (s : List ℕ) (at : ℕ) → Capacity w cap → length s ≡ cap → Whole w k cap s (fresh_nums at) no_lists
unfolding fresh_nums
fresh_whole w k cap s at c e = record {
  joins = record {
    sized = e;
    fits = omega arith;
    rest_is = sym (tokens_zero cap s (at + 0 + 0 + 0));
    book_is = sym (tokens_zero cap s (at + 0));
    kept_is = refl;
    holder_is = refl;
  };
  cap_pos = c.pos;
  cap_fits = c.fits;
  cap_pow = c.pow;
  free = λ _. refl;
  shut = λ _. refl;
  part = fresh_part k at;
}

fresh_words : (w : ℕ) (k : Kind) (r at : ℕ) → at < 2 ^ w → open_queue w k r at ≡ words_of w k (capacity_of w r) (fresh_nums at)
unfolding fresh_nums
fresh_words w Kind.Lifo r at lt =
    let e : at ≡ at % 2 ^ w = small w lt in
    let h : at ≡ (at + 0 + 0 + 0) % 2 ^ w = e ∙ ap (λ (n : ℕ). n % 2 ^ w) (omega arith) in
    let z : packed w 0 at ≡ pair w 0 (at + 0 + 0 + 0) = pair_of w 0 (at + 0 + 0 + 0) (small w (pow_pos w)) h in
    λ i. record { kind = Kind.Lifo; capacity = capacity_of w r; pushes = e i; packed = z i; completed = e i }
fresh_words w Kind.Fifo r at lt =
    let e : at ≡ at % 2 ^ w = small w lt in
    let h : at ≡ (at + 0 + 0 + 0) % 2 ^ w = e ∙ ap (λ (n : ℕ). n % 2 ^ w) (omega arith) in
    let z : packed w at at ≡ pair w (at + 0 + 0 + 0) at = pair_of w (at + 0 + 0 + 0) at h e in
    λ i. record { kind = Kind.Fifo; capacity = capacity_of w r; pushes = e i; packed = z i; completed = 0 }

module _ (w most : ℕ) (wide : 1 < w) (ks : List Kind) (n : ℕ) (rs ps xs : List ℕ) (within : (q : ℕ) → get_or ps q 0 < 2 ^ w)
    (c : CanOpen w most ks n rs ps (length xs)) where
  m₀ : Machine
  m₀ = tables most n (open_queues w most ks n rs ps)

  -- queues that the record has; past them, any
  cell_of : Bool → ℕ → Cell
  cell_of b x = record {
    kind = pick b (get_or ks x Kind.Lifo) Kind.Lifo;
    cap = pick b (capacity_of w (get_or rs x 0)) 1;
    s = pick b (stretch (base_of x (open_queues w most ks n rs ps)) (capacity_of w (get_or rs x 0)) xs) (0 ∷ []);
    g = fresh_nums (pick b (get_or ps x 0) 0);
    l = no_lists;
  }

  cells₀ : ℕ → Cell
  cells₀ x = cell_of (ltb x n) x

  member₀ : Member
  member₀ = record { pl = Place.Idle; bl = Place.Idle; drain = record { at = 0; end = 0 }; hand = []; items = []; fm = 0; fill = 0 }

  queue₀ : (x : ℕ) → x < n → queue_at m₀ x ≡ open_queue w (get_or ks x Kind.Lifo) (get_or rs x 0) (get_or ps x 0)
  unfolding m₀
  queue₀ x lt = opened_queue w most ks n rs ps (length xs) c x lt

  cap₀ : (x : ℕ) → x < n → (queue_at m₀ x).capacity ≡ capacity_of w (get_or rs x 0)
  cap₀ x lt = ap (λ (q : Queue). q.capacity) (queue₀ x lt) ∙ open_capacity w (get_or ks x Kind.Lifo) (get_or rs x 0) (get_or ps x 0)

  ends_by : (x : ℕ) → x < n → base_of x (open_queues w most ks n rs ps) + capacity_of w (get_or rs x 0) ≤ length xs
  unfolding m₀
  ends_by x lt = omega (arith, cap₀ x lt, base_within (open_queues w most ks n rs ps) lt, c.fits)

  ok₀ : (x : ℕ) (b : Bool) → ltb x n ≡ b → Whole w (cell_of b x).kind (cell_of b x).cap (cell_of b x).s (cell_of b x).g (cell_of b x).l
  unfolding cell_of
  ok₀ x true e =
      let lt : x < n = ltb-true x n e in
      let d : Capacity w (capacity_of w (get_or rs x 0)) = power_capacity w (capacity_of w (get_or rs x 0)) wide
      (capacity_power w (requests_small w ks rs ps n c.requests x lt) (omega arith)) in
      fresh_whole w (get_or ks x Kind.Lifo) (capacity_of w (get_or rs x 0)) _ (get_or ps x 0) d
      (stretch_length (base_of x (open_queues w most ks n rs ps)) (capacity_of w (get_or rs x 0)) xs (ends_by x lt))
  ok₀ x false e = fresh_whole w Kind.Lifo 1 (0 ∷ []) 0 (power_capacity w 1 wide (power_test {k = 0} (omega arith))) refl

  inv₀ : MInv w n cells₀ (λ p. member₀)
  unfolding cells₀ cell_of member₀ fresh_nums
  inv₀ = record {
    ok = λ x. ok₀ x (ltb x n) refl;
    own = λ p. record { wait_is = sym (tokens_zero (cells₀ p).cap (cells₀ p).s (tail (cells₀ p).g)); hand_is = refl; at = tt };
    bkr = λ p. tt;
    drn = λ p ne. absurd (ne refl);
    claim = λ p y e. absurd (let z : ◌≡◌ {A = ℕ} 0 1 = cc in omega arith);
  }

  fits₀ : Fits w m₀ xs cells₀ (λ p. member₀)
  unfolding m₀ cells₀ cell_of member₀
  fits₀ = record {
    q_are =
        λ x lt. queue₀ x lt ∙ fresh_words w (get_or ks x Kind.Lifo) (get_or rs x 0) (get_or ps x 0) (within x)
        ∙ ap (λ (b : Bool). words w (cell_of b x)) (sym (lt-ltb x n lt));
    s_are =
        λ x lt. ap (λ (c : ℕ). stretch (base_of x (open_queues w most ks n rs ps)) c xs) (cap₀ x lt)
        ∙ ap (λ (b : Bool). (cell_of b x).s) (sym (lt-ltb x n lt));
    p_are = λ p lt. idle_at most p;
    sources = λ p lt. lt;
    long_q = omega (arith, open_length w ks rs ps n (closed_queues most ks), closed_length most ks, c.few);
    long_p = omega (arith, idle_length most, c.few);
    lent = c.fits;
  }

  good₀ : Good w (record { machine = m₀; items = xs; record' = []; notes = no_notes })
  unfolding m₀ cells₀ cell_of member₀ fresh_nums replay
  good₀ = record {
    cells = cells₀;
    members = λ p. member₀;
    inv = inv₀;
    both = λ p. refl;
    fits = fits₀;
    out = [];
    gone = [];
    possible = refl;
    moved_are = λ x. refl;
    first_are = λ p. refl;
    fill_are = λ p. refl;
    still = λ p lt e. tt;
  }

pub good_fresh : (w most : ℕ) (r : Run) → Fresh w most r → Good w r
unfolding m₀
good_fresh w most r f =
    let em = f.machine_is ∙ opening_taken w most f.kinds f.parties f.requests f.positions (length r.items) f.taken in
    let c = open_needs w most f.kinds f.parties f.requests f.positions (length r.items)
    (sym (opening_refusal w most f.kinds f.parties f.requests f.positions (length r.items)) ∙ f.taken) in
    subst (Good w) (λ i. record { machine = sym em i; items = r.items; record' = sym f.record_is i; notes = sym f.notes_are i })
    (good₀ w most f.wide f.kinds f.parties f.requests f.positions r.items f.within c)
