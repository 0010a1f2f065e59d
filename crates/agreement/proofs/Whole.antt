-- A queue whole: its words are its true numbers turned over, its slots and numbers give its lists; what each role may rely on.
use mathlib.Core.Path.{◌≡◌, refl, ap}
use mathlib.Core.List.{List}
use mathlib.Core.Bool.{true}
use Prim.Native.Nat.{ℕ, ◌+◌, ◌%◌, ◌^◌, ◌≤◌, ◌<◌}
use native.Mathlib.Nat.{mod-mod_of_dvd}
use native.Mathlib.Omega.{arith}
use Rattle.words.specs.Word.{pow_below}
use Rattle.words.proofs.Powers.{power_divides}
use Rattle.tables.specs.declared.state.Kind.{Kind}
use Rattle.tables.specs.declared.state.Queue.{Queue}
use Rattle.tables.specs.Access.{with_pushes}
use Rattle.tables.specs.Lists.{Lists}
use Rattle.agreement.proofs.Wrap.{pair}
use Rattle.agreement.proofs.Nums.{noone, Nums, head, tail, Joins, more, moves}

pub record LifoPart (g : Nums) : Type 0 where
  pub pushed_is : g.pushed ≡ tail g + g.pops
  pub gone_no : g.gone ≡ 0
  pub moved_is : g.moved + g.start ≡ g.pops + head g

pub record FifoPart (g : Nums) : Type 0 where
  pub pushed_is : g.pushed ≡ tail g
  pub gone_no : g.taken + g.left ≡ 0 → g.gone ≡ 0
  pub moved_is : g.moved + g.start ≡ head g

abbrev pub Part : Kind → Nums → Type 0
Part Kind.Lifo g = LifoPart g
Part Kind.Fifo g = FifoPart g

pub record Whole (w : ℕ) (k : Kind) (cap : ℕ) (s : List ℕ) (g : Nums) (l : Lists) : Type 0 where
  pub joins : Joins cap s g l
  pub cap_pos : 0 < cap
  pub cap_fits : cap + cap ≤ 2 ^ w
  pub cap_pow : pow_below w cap ≡ true
  pub free : g.taken + g.left ≡ 0 → g.who ≡ noone
  pub shut : g.who ≡ noone → g.taken + g.left ≡ 0
  pub part : Part k g

-- ---- the words that the true numbers give

abbrev pub packed_of : ℕ → Kind → Nums → ℕ
packed_of w Kind.Lifo g = pair w g.pops (head g)
packed_of w Kind.Fifo g = pair w (head g) g.completed

abbrev pub done_of : ℕ → Kind → Nums → ℕ
done_of w Kind.Lifo g = g.completed % 2 ^ w
done_of w Kind.Fifo g = 0

abbrev pub words_of : ℕ → Kind → ℕ → Nums → Queue
words_of w k cap g = record { kind = k; capacity = cap; pushes = g.pushed % 2 ^ w; packed = packed_of w k g; completed = done_of w k g }

pub words_more : (w : ℕ) (k : Kind) (cap n v : ℕ) (g : Nums) → v ≡ (g.pushed + n) % 2 ^ w
    → with_pushes (words_of w k cap g) v ≡ words_of w k cap (more n g)
unfolding more
words_more w Kind.Lifo cap n v g e = ap (with_pushes (words_of w Kind.Lifo cap g)) e
words_more w Kind.Fifo cap n v g e = ap (with_pushes (words_of w Kind.Fifo cap g)) e

pub words_move : (w : ℕ) (k : Kind) (cap n : ℕ) (g : Nums) → n ≤ g.left → words_of w k cap g ≡ words_of w k cap (moves n g)
unfolding moves
words_move w Kind.Lifo cap n g le = ap (λ (h : ℕ). record {
  kind = Kind.Lifo;
  capacity = cap;
  pushes = g.pushed % 2 ^ w;
  packed = pair w g.pops
      h;
  completed = g.completed % 2 ^ w;
}) (omega arith)
words_move w Kind.Fifo cap n g le = ap (λ (h : ℕ). record {
  kind = Kind.Fifo;
  capacity = cap;
  pushes = g.pushed % 2 ^ w;
  packed = pair w h
      g.completed;
  completed = 0;
}) (omega arith)

pub part_more : (k : Kind) (g : Nums) (n : ℕ) → Part k g → Part k (more n g)
unfolding more
part_more Kind.Lifo g n a = record { pushed_is = omega (arith, a.pushed_is); gone_no = a.gone_no; moved_is = a.moved_is }
part_more Kind.Fifo g n a = record { pushed_is = omega (arith, a.pushed_is); gone_no = a.gone_no; moved_is = a.moved_is }

pub part_move : (k : Kind) (g : Nums) (n : ℕ) → n ≤ g.left → 0 < n → Part k g → Part k (moves n g)
unfolding moves
part_move Kind.Lifo g n le pos a = record {
  pushed_is = omega (arith, a.pushed_is);
  gone_no = a.gone_no;
  moved_is = omega (arith, a.moved_is);
}
part_move Kind.Fifo g n le pos a = record {
  pushed_is = omega (arith, a.pushed_is);
  gone_no = λ z. absurd (omega arith);
  moved_is = omega (arith, a.moved_is);
}

-- ---- what each may rely on when another role acts

-- the owner: nobody else writes its count, its pops or its slots
pub record RO (s : List ℕ) (g : Nums) (l : Lists) (s' : List ℕ) (g' : Nums) (l' : Lists) : Type 0 where
  pub slots_s : s' ≡ s
  pub wait_s : l'.waiting ≡ l.waiting
  pub pushed_s : g'.pushed ≡ g.pushed
  pub pops_s : g'.pops ≡ g.pops
  pub tail_s : tail g' ≡ tail g
  pub done_up : g.completed ≤ g'.completed
  pub head_up : head g ≤ head g'

-- one who has loaded words
pub record RB (g g' : Nums) : Type 0 where
  pub pops_up : g.pops ≤ g'.pops
  pub head_up : head g ≤ head g'
  pub done_up : g.completed ≤ g'.completed
  pub push_up : g.pushed ≤ g'.pushed
  pub start_s : g'.start ≡ g.start

-- the holder of the open booking
pub record RH (g : Nums) (l : Lists) (g' : Nums) (l' : Lists) : Type 0 where
  pub who_s : g'.who ≡ g.who
  pub done_s : g'.completed ≡ g.completed
  pub taken_s : g'.taken ≡ g.taken
  pub left_s : g'.left ≡ g.left
  pub book_s : l'.booked ≡ l.booked

pub ro_refl : (s : List ℕ) (g : Nums) (l : Lists) → RO s g l s g l
ro_refl s g l = record {
  slots_s = refl;
  wait_s = refl;
  pushed_s = refl;
  pops_s = refl;
  tail_s = refl;
  done_up = omega arith;
  head_up = omega arith;
}

pub rb_refl : (g : Nums) → RB g g
rb_refl g = omega arith

pub rh_refl : (g : Nums) (l : Lists) → RH g l g l
rh_refl g l = record { who_s = refl; done_s = refl; taken_s = refl; left_s = refl; book_s = refl }

module _ (w : ℕ) (k : Kind) {cap : ℕ} {s : List ℕ} {g : Nums} {l : Lists} (i : Whole w k cap s g l) where
  pub cap_small : cap < 2 ^ w
  cap_small = omega (arith, i.cap_pos, i.cap_fits)

  -- the slot of a word is the slot of its position
  pub slot_of : {x : ℕ} (a : ℕ) → x ≡ a % 2 ^ w → x % cap ≡ a % cap
  slot_of a e = rw e (mod-mod_of_dvd cap a (power_divides w cap i.cap_pow))
