-- The record replayed, one step's effect and answer on, where the lists can do them; and the notes after it, as tables.
use mathlib.Core.Path.{◌≡◌, refl, sym, ap, fun_ext, ◌∙◌}
use mathlib.Core.Bool.{Bool, true, false}
use mathlib.Core.List.{List, ◌∷◌}
use Prim.Native.Nat.{ℕ, ◌+◌}
use native.Mathlib.Omega.{arith}
use Rattle.std.specs.Prelude.{Option, Some, None}
use Rattle.words.specs.Word.{pick}
use Rattle.tables.specs.declared.answer.Answer.{Answer}
use Rattle.tables.specs.declared.answer.Change.{Change}
use Rattle.tables.specs.declared.state.Kind.{Kind}
use Rattle.tables.specs.Effect.{effect_of}
use Rattle.tables.specs.Answer.{handed_out}
use Rattle.tables.specs.Lists.{Plain, update, does, can, hand_out, in_front, Entry, did, said, impossible, lists, replay_from, replay}
use Rattle.tables.specs.Causes.{moved_by}
use Rattle.tables.proofs.Maybe.{hands_maybe, moves_maybe, can_maybe, does_maybe}
use Rattle.agreement.specs.Statement.{did_entry, said_entry}
use Rattle.agreement.proofs.Frame.{column}
use Rattle.agreement.proofs.Steps.{hand_over}
use Rattle.agreement.proofs.Cells.{Cell, Member, plain_of, named_queue, update_id}

-- an entry that can be done
did_one : (ks : ℕ → Kind) (p q : ℕ) (e : Change) (l : List Entry) (a : Plain) → replay ks l ≡ lists a → can p q e (a.queue q) ≡ true
    → replay ks (did (record { party = p; queue = q; change = e }) ∷ l) ≡ lists (does ks p q e a)
unfolding replay
did_one ks p q e l a r c = ap (replay_from ks (did (record { party = p; queue = q; change = e }))) r
    ∙ ap (λ (b : Bool). pick b (lists (does ks p q e a)) impossible) c

pub replay_did : (ks : ℕ → Kind) (p x y : ℕ) (e : Option Change) (l : List Entry) (a : Plain) → replay ks l ≡ lists a
    → can_maybe p (named_queue e x y) e (a.queue (named_queue e x y)) ≡ true
    → replay ks (did_entry (effect_of p x y e) l) ≡ lists (does_maybe ks p (named_queue e x y) e a)
replay_did ks p x y None l a r ok = r
replay_did ks p x y (Some c) l a r ok = did_one ks p (named_queue (Some c) x y) c l a r ok

-- the lists after an answer
pub record Said (ks : ℕ → Kind) (p : ℕ) (r : Option Answer) (l : List Entry) (a : Plain) : Type 0 where
  pub plain : Plain
  pub is : replay ks (said_entry p r l) ≡ lists plain
  pub queue_s : (y : ℕ) → plain.queue y ≡ a.queue y
  pub hand_s : (z : ℕ) → plain.hand z ≡ update a.hand p (hand_over r (a.hand p)) z

module _ (ks : ℕ → Kind) (p : ℕ) (l : List Entry) (a : Plain) (e : replay ks l ≡ lists a) where
  said_one : (r : Answer) → in_front (handed_out r) (a.hand p) ≡ true → replay ks (said p r ∷ l) ≡ lists (hand_out p (handed_out r) a)
  unfolding replay
  said_one r c = ap (replay_from ks (said p r)) e ∙ ap (λ (b : Bool). pick b (lists (hand_out p (handed_out r) a)) impossible) c

  pub replay_said : (r : Option Answer) → in_front (hands_maybe r) (a.hand p) ≡ true → Said ks p r l a
  replay_said None c = record { plain = a; is = e; queue_s = λ y. refl; hand_s = λ z. sym (update_id a.hand p z) }
  replay_said (Some r) c = record { plain = hand_out p (handed_out r) a; is = said_one r c; queue_s = λ y. refl; hand_s = λ z. refl }

pub plain_ext : (cells : ℕ → Cell) (members : ℕ → Member) (b : Plain) → ((y : ℕ) → b.queue y ≡ (cells y).l)
    → ((z : ℕ) → b.hand z ≡ (members z).hand)
    → b ≡ plain_of cells members b.out b.gone
plain_ext cells members b eq eh = λ i. record { queue = fun_ext eq i; hand = fun_ext eh i; out = b.out; gone = b.gone }

-- ---- the notes

pub update_ext : {A : Type 0} (f g : ℕ → A) → ((z : ℕ) → f z ≡ g z) → (i : ℕ) (v u : A) → v ≡ u → (j : ℕ) → update f i v j ≡ update g i u j
update_ext {A} f g h i v u e j = column {A = A} {B = A} (λ (x : A). x) f g h i v u e j

-- a note taken at p where a test says so
pub pick_update : {A : Type 0} (b : Bool) (f : ℕ → A) (p : ℕ) (v : A) (z : ℕ) → pick b (update f p v) f z ≡ update f p (pick b v (f p)) z
pick_update true f p v z = refl
pick_update false f p v z = sym (update_id f p z)

nothing_at : (f : ℕ → ℕ) (x y : ℕ) → update f x (f x + 0) y ≡ f y
nothing_at f x y = update_ext f f (λ z. refl) x (f x + 0) (f x) (omega arith) y ∙ update_id f x y

-- what is popped or booked counts at the queue of the access
pub notes_moved : (f : ℕ → ℕ) (p x s : ℕ) (e : Option Change) (y : ℕ)
    → moved_by (effect_of p x s e) f y ≡ update f x (f x + moves_maybe e) y
notes_moved f p x s None y = sym (nothing_at f x y)
notes_moved f p x s (Some (Change.Offered t)) y = refl
notes_moved f p x s (Some Change.Accepted) y = refl
notes_moved f p x s (Some Change.Popped) y = refl
notes_moved f p x s (Some (Change.Booked k)) y = refl
notes_moved f p x s (Some (Change.Landed k)) y = nothing_at f s y ∙ sym (nothing_at f x y)
notes_moved f p x s (Some (Change.TakeLanded k)) y = nothing_at f s y ∙ sym (nothing_at f x y)
notes_moved f p x s (Some Change.Drained) y = refl
notes_moved f p x s (Some (Change.Dropped k)) y = refl
notes_moved f p x s (Some Change.Closed) y = refl
