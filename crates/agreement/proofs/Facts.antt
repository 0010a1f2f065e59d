-- What is known at each place, on the party's own queue, on its source, and of its open drain.
use mathlib.Core.Path.{◌≡◌}
use mathlib.Core.Logic.{◌≢◌}
use mathlib.Core.Bool.{Bool}
use mathlib.Core.List.{List}
use Prim.Native.Nat.{ℕ, ◌+◌, ◌-◌, ◌%◌, ◌^◌, ◌≤◌, ◌<◌}
use lib.ListN.{length, take, get_or}
use Rattle.words.specs.Word.{orb, high, low}
use Rattle.tables.specs.declared.state.Drain.{Drain}
use Rattle.tables.specs.declared.state.Kind.{Kind}
use Rattle.tables.specs.declared.place.BookPlace.{BookPlace}
use Rattle.tables.specs.declared.place.BookedTokens.{BookedTokens}
use Rattle.tables.specs.declared.place.BookingCall.{BookingCall}
use Rattle.tables.specs.declared.place.ClosePlace.{ClosePlace}
use Rattle.tables.specs.declared.place.ClosingCall.{ClosingCall}
use Rattle.tables.specs.declared.place.FifoPlace.{FifoPlace}
use Rattle.tables.specs.declared.place.LifoPlace.{LifoPlace}
use Rattle.tables.specs.declared.place.MovePlace.{MovePlace}
use Rattle.tables.specs.declared.place.OwnPlace.{OwnPlace}
use Rattle.tables.specs.declared.place.Place.{Place}
use Rattle.tables.specs.declared.place.Transfer.{Transfer}
use Rattle.tables.specs.Table.{limit_of}
use Rattle.tables.specs.Lists.{Lists}
use Rattle.tables.specs.Shows.{waits, by_place, by_drain, hand_of}
use Rattle.agreement.proofs.Wrap.{pair}
use Rattle.agreement.proofs.Ring.{tokens}
use Rattle.agreement.proofs.Nums.{Who, call, drain, Nums, head, tail}

-- ---- the owner

-- the loaded destination: the word to be stored over, the tail word, room for `room` tokens
pub record Into (w cap : ℕ) (g : Nums) (word at room : ℕ) : Type 0 where
  pub word_is : word ≡ g.pushed % 2 ^ w
  pub at_is : at ≡ tail g % 2 ^ w
  pub room_is : tail g + room ≤ g.completed + cap

pub record PopB (w cap : ℕ) (g : Nums) (p : ℕ) : Type 0 where
  pub hg : ℕ
  pub p_is : p ≡ pair w g.pops hg
  pub old : hg ≤ head g
  pub near : tail g ≤ hg + cap

pub record PopC (w cap : ℕ) (g : Nums) (p t : ℕ) : Type 0 where
  pub seen : PopB w cap g p
  pub t_is : t ≡ tail g % 2 ^ w
  pub some : t ≢ low w p

abbrev pub OwnL : (w cap : ℕ) → LifoPlace → Kind → Nums → Type 0
OwnL w cap (LifoPlace.LoadPushes j) k g = k ≡ Kind.Lifo
OwnL w cap (LifoPlace.LoadPacked j n) k g = (k ≡ Kind.Lifo) × (n ≡ g.pushed % 2 ^ w)
OwnL w cap (LifoPlace.LoadCompleted j n p) k g = (k ≡ Kind.Lifo) × (n ≡ g.pushed % 2 ^ w) × (high w p ≡ g.pops % 2 ^ w)
OwnL w cap LifoPlace.PopPacked k g = k ≡ Kind.Lifo
OwnL w cap (LifoPlace.PopPushes p) k g = (k ≡ Kind.Lifo) × PopB w cap g p
OwnL w cap (LifoPlace.PopCas p t) k g = (k ≡ Kind.Lifo) × PopC w cap g p t
OwnL w cap LifoPlace.EmptyPushes k g = k ≡ Kind.Lifo
OwnL w cap (LifoPlace.EmptyPacked n) k g = k ≡ Kind.Lifo

-- the stealer head loaded: `fill` is what was held from it on to the tail
pub record HeadB (w fill cap : ℕ) (g : Nums) (p : ℕ) : Type 0 where
  pub sg : ℕ
  pub p_is : low w p ≡ sg % 2 ^ w
  pub old : sg ≤ g.completed
  pub fill_is : fill + sg ≡ tail g
  pub fill_fits : fill ≤ cap

pub record FPopB (w cap : ℕ) (g : Nums) (p : ℕ) : Type 0 where
  pub hg : ℕ
  pub sg : ℕ
  pub p_is : p ≡ pair w hg sg
  pub h_old : hg ≤ head g
  pub s_old : sg ≤ g.completed
  pub near : tail g ≤ sg + cap
  pub order : sg ≤ hg

pub record FPopC (w cap : ℕ) (g : Nums) (p : ℕ) : Type 0 where
  pub seen : FPopB w cap g p
  pub some : tail g ≢ seen.hg

abbrev pub OwnK : (w fill cap : ℕ) → FifoPlace → Kind → Nums → Type 0
OwnK w fill cap (FifoPlace.LoadPacked f) k g = k ≡ Kind.Fifo
OwnK w fill cap (FifoPlace.LoadTail f p) k g = (k ≡ Kind.Fifo) × HeadB w fill cap g p
OwnK w fill cap (FifoPlace.DestTail e) k g = k ≡ Kind.Fifo
OwnK w fill cap (FifoPlace.DestPacked e t) k g = (k ≡ Kind.Fifo) × (t ≡ g.pushed % 2 ^ w)
OwnK w fill cap FifoPlace.PopPacked k g = k ≡ Kind.Fifo
OwnK w fill cap (FifoPlace.PopTail p) k g = (k ≡ Kind.Fifo) × FPopB w cap g p
OwnK w fill cap (FifoPlace.PopCas p) k g = (k ≡ Kind.Fifo) × FPopC w cap g p
OwnK w fill cap FifoPlace.EmptyPacked k g = k ≡ Kind.Fifo
OwnK w fill cap (FifoPlace.EmptyTail p) k g = k ≡ Kind.Fifo

-- an extend that has written so many: the word stored goes over `pops` (FIFO 0)
pub record Ext (w cap : ℕ) (g : Nums) (pops at written : ℕ) : Type 0 where
  pub pg : ℕ
  pub pops_is : pops ≡ pg % 2 ^ w
  pub pushed_is : tail g + pg ≡ g.pushed
  pub at_is : at ≡ (tail g + written) % 2 ^ w
  pub fits : tail g + written ≤ g.completed + cap

pub record ExtMore (w cap : ℕ) (g : Nums) (pops at limit written : ℕ) : Type 0 where
  pub ext : Ext w cap g pops at written
  pub dg : ℕ
  pub limit_is : limit ≡ (dg + cap) % 2 ^ w
  pub old : dg ≤ g.completed
  pub below : tail g + written < dg + cap

abbrev pub OwnO : (w cap : ℕ) → OwnPlace → Nums → Type 0
OwnO w cap (OwnPlace.PushWrite t word at) g = Into w cap g word at 1
OwnO w cap (OwnPlace.PushStore word) g = (word ≡ g.pushed % 2 ^ w) × (tail g + 1 ≤ g.completed + cap)
OwnO w cap (OwnPlace.ExtendMore pops at limit written) g = ExtMore w cap g pops at limit written
OwnO w cap (OwnPlace.ExtendStore pops at written) g = Ext w cap g pops at written
OwnO w cap (OwnPlace.PopRead at) g = Unit {0}
OwnO w cap OwnPlace.NextItem g = Unit {0}
OwnO w cap OwnPlace.DropItem g = Unit {0}

abbrev pub OwnG : (w fill cap : ℕ) → BookingCall → Nums → Type 0
OwnG w fill cap (BookingCall.Transfer e d) g = Into w cap g d.word d.tail d.room × (d.room + fill ≡ cap)
OwnG w fill cap (BookingCall.Drain r) g = Unit {0}

-- a take keeps its last token in hand
abbrev pub kept : Transfer → ℕ
kept Transfer.Steal = 0
kept Transfer.Take = 1

-- a steal or take under way, on its destination: j of `items` stand past the tail
pub record Carries (w : ℕ) (items : List ℕ) (cap : ℕ) (s : List ℕ) (g : Nums) (t : BookedTokens) (j : ℕ) : Type 0 where
  pub into : Into w cap g t.word t.tail (t.count - kept t.transfer)
  pub some : 0 < t.count
  pub few : t.count < 2 ^ w
  pub long : length items ≡ t.count
  pub stand : tokens cap s (tail g) j ≡ take j items

abbrev pub LastIs : Transfer → (count last : ℕ) → List ℕ → Type 0
LastIs Transfer.Steal n last items = Unit {0}
LastIs Transfer.Take n last items = last ≡ get_or items (n - 1) 0

abbrev pub OwnM : (w : ℕ) (items : List ℕ) (cap : ℕ) (s : List ℕ) → MovePlace → Nums → Type 0
OwnM w items cap s (MovePlace.ReadSlot t j) g = (j < t.count) × Carries w items cap s g t j
OwnM w items cap s (MovePlace.WriteSlot t j x) g = (j < t.count - kept t.transfer) × (x ≡ get_or items j 0) × Carries w items cap s g t j
OwnM w items cap s (MovePlace.Land t last) g = LastIs t.transfer t.count last items × Carries w items cap s g t (t.count - kept t.transfer)

abbrev pub OwnP : (w fill : ℕ) (items : List ℕ) → Place → Kind → (cap : ℕ) → List ℕ → Nums → Type 0
OwnP w fill items Place.Idle k cap s g = Unit {0}
OwnP w fill items (Place.Lifo p) k cap s g = OwnL w cap p k g
OwnP w fill items (Place.Fifo p) k cap s g = OwnK w fill cap p k g
OwnP w fill items (Place.Own p) k cap s g = OwnO w cap p g
OwnP w fill items (Place.Book h p) k cap s g = OwnG w fill cap h g
OwnP w fill items (Place.Move p) k cap s g = OwnM w items cap s p g
OwnP w fill items (Place.Close e p) k cap s g = Unit {0}

-- what a party has in hand, the slots read at true positions
abbrev pub hand_in : (cap : ℕ) → List ℕ → Place → List ℕ
hand_in cap s pl = hand_of (λ x. get_or s (x % cap) 0) pl

pub record OwnF (w fill : ℕ) (items hand : List ℕ) (pl : Place) (k : Kind) (cap : ℕ) (s : List ℕ) (g : Nums) (l : Lists) : Type 0 where
  pub wait_is : l.waiting ≡ tokens cap s (tail g) (waits pl)
  pub hand_is : hand ≡ hand_in cap s pl
  pub at : OwnP w fill items pl k cap s g

-- ---- the booker and holder

-- a packed word that was loaded: the true numbers then, none of which has since gone down
pub record Snap (w fm : ℕ) (g : Nums) (p : ℕ) : Type 0 where
  pub cg : ℕ
  pub hg : ℕ
  pub p_is : p ≡ pair w cg hg
  pub c_old : cg ≤ g.pops
  pub h_old : hg ≤ head g
  pub first : fm + g.start ≤ cg + hg

pub record Snap2 (w fm : ℕ) (g : Nums) (p d : ℕ) : Type 0 where
  pub snap : Snap w fm g p
  pub d_is : d ≡ snap.hg % 2 ^ w
  pub d_old : snap.hg ≤ g.completed

pub record Snap3 (w fm limit : ℕ) (g : Nums) (p d n : ℕ) : Type 0 where
  pub snap : Snap2 w fm g p d
  pub some : 0 < n
  pub few : n ≤ limit
  pub enough : snap.snap.cg + snap.snap.hg + n ≤ g.pushed

pub record FSnap (w fm : ℕ) (g : Nums) (p : ℕ) : Type 0 where
  pub hg : ℕ
  pub p_is : p ≡ pair w hg hg
  pub h_old : hg ≤ head g
  pub first : fm + g.start ≤ hg

pub record FSnap2 (w fm limit : ℕ) (g : Nums) (p n : ℕ) : Type 0 where
  pub snap : FSnap w fm g p
  pub some : 0 < n
  pub few : n ≤ limit
  pub enough : snap.hg + n ≤ g.pushed

abbrev pub BkB : (w fm limit : ℕ) → BookPlace → Kind → Nums → Type 0
BkB w fm limit BookPlace.LifoPacked k g = k ≡ Kind.Lifo
BkB w fm limit (BookPlace.LifoCompleted p) k g = (k ≡ Kind.Lifo) × Snap w fm g p
BkB w fm limit (BookPlace.LifoPushes p d) k g = (k ≡ Kind.Lifo) × Snap2 w fm g p d
BkB w fm limit (BookPlace.LifoCas p d n) k g = (k ≡ Kind.Lifo) × Snap3 w fm limit g p d n
BkB w fm limit BookPlace.FifoPacked k g = k ≡ Kind.Fifo
BkB w fm limit (BookPlace.FifoTail p) k g = (k ≡ Kind.Fifo) × FSnap w fm g p
BkB w fm limit (BookPlace.FifoCas p n) k g = (k ≡ Kind.Fifo) × FSnap2 w fm limit g p n

-- the holder, before its landing
pub record Keeps (w : ℕ) (me : Who) (items : List ℕ) (g : Nums) (l : Lists) (t : BookedTokens) : Type 0 where
  pub who_is : g.who ≡ me
  pub from_is : t.from ≡ g.completed % 2 ^ w
  pub taken_is : g.taken ≡ 0
  pub left_is : g.left ≡ t.count
  pub some : 0 < t.count
  pub book_is : l.booked ≡ items

abbrev pub BkM : (w p : ℕ) (items : List ℕ) → MovePlace → Nums → Lists → Type 0
BkM w p items (MovePlace.ReadSlot t j) g l = Keeps w (call p) items g l t
BkM w p items (MovePlace.WriteSlot t j x) g l = Keeps w (call p) items g l t
BkM w p items (MovePlace.Land t last) g l = Keeps w (call p) items g l t

abbrev pub closing_who : ℕ → ClosingCall → Who
closing_who p (ClosingCall.Steal s n) = call p
closing_who p (ClosingCall.Take s t n) = call p
closing_who p (ClosingCall.Next t) = drain p
closing_who p ClosingCall.Drop = drain p

-- all moved out, not yet closed
abbrev pub BkC : (w : ℕ) (me : Who) → ClosePlace → Kind → Nums → Type 0
BkC w me (ClosePlace.StoreCompleted h) k g = (k ≡ Kind.Lifo) × (g.who ≡ me) × (g.left ≡ 0) × (h ≡ (g.completed + g.taken + g.left) % 2 ^ w)
BkC w me ClosePlace.LoadHeads k g = (k ≡ Kind.Fifo) × (g.who ≡ me) × (g.left ≡ 0)
BkC w me (ClosePlace.CasHeads p) k g = (k ≡ Kind.Fifo) × (g.who ≡ me) × (g.left ≡ 0)

abbrev pub BkF : (w p fm : ℕ) (items : List ℕ) → Place → Kind → Nums → Lists → Type 0
BkF w p fm items Place.Idle k g l = Unit {0}
BkF w p fm items (Place.Lifo x) k g l = Unit {0}
BkF w p fm items (Place.Fifo x) k g l = Unit {0}
BkF w p fm items (Place.Own x) k g l = Unit {0}
BkF w p fm items (Place.Book h x) k g l = BkB w fm (limit_of w h) x k g
BkF w p fm items (Place.Move x) k g l = BkM w p items x g l
BkF w p fm items (Place.Close e x) k g l = BkC w (closing_who p e) x k g

-- ---- the open drain: it stands at `at` and ends at `end`

pub record DrainIs (w : ℕ) (me : Who) (g : Nums) (d : Drain) : Type 0 where
  pub who_is : g.who ≡ me
  pub at_is : d.at ≡ (g.completed + g.taken) % 2 ^ w
  pub end_is : d.end ≡ (g.completed + g.taken + g.left) % 2 ^ w

abbrev pub DrnF : (w p : ℕ) → Drain → Nums → Type 0
DrnF w p d g = d.at ≢ d.end → DrainIs w (drain p) g d

-- ---- whether a party holds queue y, by its place or its drain

abbrev pub held : (w p : ℕ) → Place → Drain → (y : ℕ) → Bool
held w p pl d y = orb (by_place p pl y).holds (by_drain w p d y).holds
