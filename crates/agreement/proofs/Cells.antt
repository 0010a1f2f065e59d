-- The machine as tables: every queue with its true numbers and lists, every party with what is kept of it; what a step of the machine gives.
use mathlib.Core.Path.{◌≡◌, refl, sym, ap}
use mathlib.Core.Logic.{◌⊎◌}
use mathlib.Core.Bool.{Bool, true, true≢false}
use mathlib.Core.List.{List, []}
use Prim.Native.Nat.{ℕ, ◌+◌, ◌<◌}
use Rattle.std.specs.Prelude.{Option, Some, None}
use Rattle.words.specs.Word.{pick}
use Rattle.tables.specs.declared.access.Next.{Next}
use Rattle.tables.specs.declared.answer.Answer.{Answer}
use Rattle.tables.specs.declared.answer.Change.{Change}
use Rattle.tables.specs.declared.call.Mark.{Mark}
use Rattle.tables.specs.declared.state.Drain.{Drain}
use Rattle.tables.specs.declared.state.Kind.{Kind}
use Rattle.tables.specs.declared.state.Queue.{Queue}
use Rattle.tables.specs.declared.place.Place.{Place}
use Rattle.tables.specs.Access.{Accessed}
use Rattle.tables.specs.Tables.{source_of}
use Rattle.tables.specs.Answer.{Reason, reason_of}
use Rattle.tables.specs.Lists.{party, is_open, Lists, Plain, update, does, in_front}
use Rattle.tables.specs.Causes.{is_first_load, is_head_load, fill_of, RuleGaveZero}
use Rattle.tables.proofs.Maybe.{hands_maybe, moves_maybe, lands_maybe, can_maybe, does_maybe}
use Rattle.tables.proofs.Updates.{update_elim}
use Rattle.agreement.proofs.Nums.{noone, holder_of, Nums}
use Rattle.agreement.proofs.Whole.{Whole, words_of}
use Rattle.agreement.proofs.Frame.{Inv}
use Rattle.agreement.proofs.Facts.{OwnF, BkF, DrnF, held}
use Rattle.agreement.proofs.Steps.{changed, handed, Single, hand_over, WhyOf, Still, limit_at}

pub record Cell : Type 0 where
  pub kind : Kind
  pub cap : ℕ
  pub s : List ℕ
  pub g : Nums
  pub l : Lists

-- the place of the owner's role, and of the booker's: they differ only within a landing. `items`: what was booked.
pub record Member : Type 0 where
  pub pl : Place
  pub bl : Place
  pub drain : Drain
  pub hand : List ℕ
  pub items : List ℕ
  pub fm : ℕ
  pub fill : ℕ

module _ (w n : ℕ) where
  abbrev pub Ok : Cell → Type 0
  Ok c = Whole w c.kind c.cap c.s c.g c.l

  abbrev pub src : ℕ → Member → ℕ
  src p m = source_of p m.bl

  abbrev pub Own : Member → Cell → Type 0
  Own m c = OwnF w m.fill m.items m.hand m.pl c.kind c.cap c.s c.g c.l

  abbrev pub Bkr : ℕ → Member → Cell → Type 0
  Bkr p m c = BkF w p m.fm m.items m.bl c.kind c.g c.l

  abbrev pub Drn : ℕ → Member → Cell → Type 0
  Drn p m c = DrnF w p m.drain c.g

  abbrev pub Claim : ℕ → ℕ → Member → Cell → Type 0
  Claim p y m c = holder_of c.g.who ≡ party p → (p < n) × (held w p m.bl m.drain y ≡ true)

  abbrev pub MInv : (ℕ → Cell) → (ℕ → Member) → Type 0
  MInv = Inv Cell Member Ok src Own Bkr Drn Claim

abbrev pub words : ℕ → Cell → Queue
words w c = words_of w c.kind c.cap c.g

-- the plain lists that the tables give
abbrev pub plain_of : (ℕ → Cell) → (ℕ → Member) → (out gone : List ℕ) → Plain
plain_of cells members out gone = record { queue = λ y. (cells y).l; hand = λ r. (members r).hand; out = out; gone = gone }

-- the queue that a change made at queue x names
abbrev pub named_queue : Option Change → (x source : ℕ) → ℕ
named_queue c x y = pick (lands_maybe c) y x

pub update_id : {A : Type 0} (f : ℕ → A) (i j : ℕ) → update f i (f i) j ≡ f j
update_id {A} f i j = update_elim f i (f i) (λ (v : A). v ≡ f j) j (λ e. ap f (sym e)) (λ _. refl)

-- what a change does to the lists of all queues, and to all hands
pub does_queue : (ks : ℕ → Kind) (p x : ℕ) (e : Option Change) (a : Plain) → Single e → (y : ℕ)
    → (does_maybe ks p x e a).queue y ≡ update a.queue x (changed (ks x) p e (a.queue x)) y
unfolding does
does_queue ks p x None a s y = sym (update_id a.queue x y)
does_queue ks p x (Some (Change.Offered t)) a s y = refl
does_queue ks p x (Some Change.Accepted) a s y = refl
does_queue ks p x (Some Change.Popped) a s y = refl
does_queue ks p x (Some (Change.Booked k)) a s y = refl
does_queue ks p x (Some (Change.Landed k)) a s y = absurd (true≢false s)
does_queue ks p x (Some (Change.TakeLanded k)) a s y = absurd (true≢false s)
does_queue ks p x (Some Change.Drained) a s y = refl
does_queue ks p x (Some (Change.Dropped k)) a s y = refl
does_queue ks p x (Some Change.Closed) a s y = refl

pub does_hand : (ks : ℕ → Kind) (p q : ℕ) (e : Option Change) (a : Plain) (r : ℕ)
    → (does_maybe ks p q e a).hand r ≡ update a.hand p (handed (ks q) e (a.queue q) (a.hand p)) r
unfolding does
does_hand ks p q None a r = sym (update_id a.hand p r)
does_hand ks p q (Some (Change.Offered t)) a r = sym (update_id a.hand p r)
does_hand ks p q (Some Change.Accepted) a r = sym (update_id a.hand p r)
does_hand ks p q (Some Change.Popped) a r = refl
does_hand ks p q (Some (Change.Booked k)) a r = sym (update_id a.hand p r)
does_hand ks p q (Some (Change.Landed k)) a r = sym (update_id a.hand p r)
does_hand ks p q (Some (Change.TakeLanded k)) a r = refl
does_hand ks p q (Some Change.Drained) a r = refl
does_hand ks p q (Some (Change.Dropped k)) a r = sym (update_id a.hand p r)
does_hand ks p q (Some Change.Closed) a r = sym (update_id a.hand p r)

pub single_at : (e : Option Change) (x y : ℕ) → Single e → named_queue e x y ≡ x
single_at e x y s = ap (λ (t : Bool). pick t y x) s

-- the causes of an answer at place pl, by its reason: the own queue, the source, the source's lists after the step
abbrev pub CausesOf : (w fill : ℕ) (pl : Place) (mine source : Cell) → Lists → Mark → Reason → Type 0
CausesOf w fill pl c z l mark r =
    WhyOf (fill ≡ c.cap) (c.l.resting ≡ []) (Still w pl z.g → is_open l.holder ≡ true)
    ((z.l.resting ≡ []) ⊎ ((limit_at w pl ≡ 0) ⊎ RuleGaveZero w pl (words w z) mark)) r

abbrev pub Causes : (w fill : ℕ) (pl : Place) (mine source : Cell) → Lists → Mark → Option Answer → Type 0
Causes w fill pl c z l mark a = CausesOf w fill pl c z l mark (reason_of a)

-- A step of party p at place pl, which made `o` of queue x and goes on with `nx`: the tables after it.
pub record Ran (w n : ℕ) (cells : ℕ → Cell) (members : ℕ → Member) (p : ℕ) (pl : Place) (mark : Mark) (x : ℕ) (o : Accessed) (nx : Next) :
    Type 0 where
  pub cells' : ℕ → Cell
  pub members' : ℕ → Member
  pub inv : MInv w n cells' members'
  pub words_are : (y : ℕ) → words w (cells' y) ≡ update (λ (z : ℕ). words w (cells z)) x o.queue y
  pub slots_are : (y : ℕ) → (cells' y).s ≡ update (λ (z : ℕ). (cells z).s) x o.slots y
  pub pl_are : (r : ℕ) → (members' r).pl ≡ update (λ (z : ℕ). (members z).pl) p nx.place r
  pub bl_are : (r : ℕ) → (members' r).bl ≡ update (λ (z : ℕ). (members z).bl) p nx.place r
  pub drain_are : (r : ℕ) → (members' r).drain ≡ update (λ (z : ℕ). (members z).drain) p nx.drain r
  pub fm_are : (r : ℕ) → (members' r).fm ≡ update (λ (z : ℕ). (members z).fm) p
      (pick (is_first_load pl) (cells (source_of p pl)).g.moved (members p).fm) r
  pub fill_are : (r : ℕ) → (members' r).fill ≡ update (λ (z : ℕ). (members z).fill) p
      (pick (is_head_load pl) (fill_of (cells p).l) (members p).fill) r
  pub hand_are :
      (r : ℕ) → (members' r).hand ≡ update (λ (z : ℕ). (members z).hand) p
      (hand_over nx.answer (handed (cells (named_queue nx.change x (source_of p pl))).kind nx.change
      (cells (named_queue nx.change x (source_of p pl))).l (members p).hand)) r
  pub fair : in_front (hands_maybe nx.answer) (handed (cells (named_queue nx.change x (source_of p pl))).kind nx.change
      (cells (named_queue nx.change x (source_of p pl))).l (members p).hand) ≡ true
  pub can_s : can_maybe p (named_queue nx.change x (source_of p pl)) nx.change (cells (named_queue nx.change x (source_of p pl))).l ≡ true
  pub ls_are :
      (ks : ℕ → Kind) (out gone : List ℕ) → ks x ≡ (cells x).kind → (y : ℕ)
      → (does_maybe ks p (named_queue nx.change x (source_of p pl)) nx.change (plain_of cells members out gone)).queue y ≡ (cells' y).l
  pub moved_are : (y : ℕ) → (cells' y).g.moved ≡ update (λ (z : ℕ). (cells z).g.moved) x ((cells x).g.moved + moves_maybe nx.change) y
  pub start_s : (y : ℕ) → (cells' y).g.start ≡ (cells y).g.start
  pub still : (y : ℕ) → (cells' y).g.who ≡ noone → (cells y).g.moved + (cells' y).g.pops ≡ (cells' y).g.moved + (cells y).g.pops
  pub still_p : Still w pl (cells (source_of p pl)).g → Still w nx.place (cells' (source_of p nx.place)).g
  pub src_s : (nx.place ≡ Place.Idle) ⊎ (source_of p nx.place ≡ source_of p pl)
  pub why : Causes w (pick (is_head_load pl) (fill_of (cells p).l) (members p).fill) pl (cells p) (cells (source_of p pl))
      (cells' (source_of p pl)).l mark nx.answer
