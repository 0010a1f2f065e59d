-- Opening in a block: the first of what is given, and the machine that was opened stored.
use Prim.Native.Nat.{ℕ, zero, suc, ◌+◌, ◌-◌, ◌≤◌, ◌<◌, min}
use mathlib.Core.Path.{◌≡◌, refl, sym, ap, subst, ◌∙◌}
use mathlib.Core.Bool.{Bool, true, false}
use mathlib.Core.List.{List, ◌++◌}
use mathlib.Core.Logic.{◌⊎◌, inl, inr}
use native.Mathlib.Omega.{arith}
use borrow.Author.Tests.{lt-ltb, le-ltb}
use lib.Dec.{ltb}
use lib.ListN.{length, get_or, take, drop, replicate, length-take, length-drop, get_or-eq_default}
use lib.Seq.{ext_get_or, get_or-take, get_or-drop}
use Rattle.std.specs.Prelude.{Option, Some, None}
use Rattle.std.proofs.Common.{length-append}
use Rattle.std.proofs.lemmas.List.{length-replicate, get_or-replicate, get_or_append_left, get_or-append_right}
use Rattle.tables.specs.declared.answer.Refusal.{Refusal}
use Rattle.tables.specs.declared.state.Kind.{Kind}
use Rattle.tables.specs.declared.state.Opened.{Opened}
use Rattle.tables.specs.Step as St
use Rattle.tables.specs.Step.{Opening, opening, every_kind}
use Rattle.words.specs.Word.{pick}
use Rattle.tables.proofs.Bools.{pick_yes, pick_no, less_or_not}
use Rattle.tables.specs.Refusal.{number_of, named}
use Rattle.tables.proofs.Numbers.{number_back, opening_refusal_few}
use Rattle.tables.proofs.Refused.{opening_if, open_needs}
use Rattle.block.specs.Block.{size, kind_of}
use Rattle.block.specs.Contents.{Contents, contents_in}
use Rattle.block.specs.Opening.{first_of, asked, LeftAt, left_at, fresh, opened_as, IsUntouched, opened}
use Rattle.block.proofs.Tables.{table_length, entry}

-- what is given, as far as there is room, and `none` past its end
pub first_filled : {A : Type 0} (most : ℕ) (g : List A) (none : A)
    → take (min (length g) most) g ++ drop (min (length g) most) (replicate most none) ≡ first_of most g none
first_filled {A} most g none =
    ext_get_or none filled (first_of most g none) (many ∙ sym (table_length (λ i. get_or g i none) 0 most))
    (λ i h. let below : i < most = subst (λ (x : ℕ). i < x) many h in
    each i below (less_or_not i n) ∙ sym (entry (λ j. get_or g j none) most i none below))
  where
    n : ℕ
    n = min (length g) most

    filled : List A
    filled = take n g ++ drop n (replicate most none)

    taken : length (take n g) ≡ n
    taken = length-take n g ∙ omega arith

    many : length filled ≡ most
    many = simp (length-append, length-drop, length-replicate) (omega (arith, taken))

    each : (i : ℕ) → i < most → (i < n) ⊎ (n ≤ i) → get_or filled i none ≡ get_or g i none
    each i h (inl b) = get_or_append_left (take n g) (drop n (replicate most none)) none i (omega (arith, taken)) ∙ get_or-take n g i none b
    each i h (inr b) =
        get_or-append_right (take n g) (drop n (replicate most none)) n i none taken b ∙ get_or-drop n (replicate most none) (i - n) none
        ∙ get_or-replicate most (n + (i - n)) none none (omega arith) ∙ sym (get_or-eq_default g none (omega arith))

-- however it ends, an opening leaves no more parties than there is room for
pub opening_few : (w most : ℕ) (ks : List Kind) (n : ℕ) (rs ps : List ℕ) (lent : ℕ) → (opening w most ks n rs ps lent).machine.parties ≤ most
opening_few w most ks n rs ps lent =
    opening_if w most ks n rs ps lent (λ (o : Opening). o.machine.parties ≤ most) (λ e. (open_needs w most ks n rs ps lent e).few) (λ e. omega arith)

-- what code returns of a refusal that it names, or of none: 0 or the refusal's number, which is the definition's
abbrev pub code_if : Option Refusal → ℕ
code_if None = 0
code_if (Some e) = number_of e

code_named : (k : ℕ) → k ≤ 9 → code_if (named k) ≡ k
code_named zero h = refl
code_named (suc k) h = number_back (suc k) (omega arith) h

-- either arm is the one value
pick_else : {A : Type 0} (b : Bool) (x y : A) → y ≡ x → pick b x y ≡ x
pick_else true x y e = refl
pick_else false x y e = e

module _ (w most : ℕ) (xs : List ℕ) (kind parties : ℕ) (rs ps : List ℕ) (lent : ℕ) where
  abbrev whole : LeftAt
  whole = opened w most xs kind parties rs ps lent

  pub open_untouched : IsUntouched most xs kind → left_at 1 (contents_in w most xs) ≡ whole
  unfolding opened
  open_untouched (inl h) = sym (pick_yes (ltb (length xs) (size most)) _ _ (lt-ltb _ _ h))
  open_untouched (inr k) =
      sym (pick_else (ltb (length xs) (size most)) _ _ (pick_yes (ltb 1 kind) _ _ (lt-ltb _ _ k)))

  pub open_done : size most ≤ length xs → kind ≤ 1 → {k : Kind} {n : ℕ} {qs os : List ℕ} → k ≡ kind_of kind
      → n ≡ asked parties (length rs) (length ps) → qs ≡ first_of most rs 0 → os ≡ first_of most ps 0 → {o : Opened} {code : ℕ} {h : Contents}
      → o ≡ St.opened_as (opening w most (every_kind most k) n qs os lent) → code ≡ code_if o.refusal → h ≡ fresh (drop (size most) xs) o.machine
      → left_at code h ≡ whole
  unfolding opened
  open_done h le {k} {n} {qs} {os} ek en eq eo {o} e ec eh =
      (λ i. left_at (ec i) (eh i))
      ∙ ap (λ (r : Opened). left_at (code_if r.refusal) (fresh (drop (size most) xs) r.machine)) e
      ∙ ap (λ (c : ℕ). left_at c (fresh (drop (size most) xs) (opening w most (every_kind most k) n qs os lent).machine))
      (code_named _ (opening_refusal_few w most (every_kind most k) n qs os lent))
      ∙ ap (opened_as (drop (size most) xs)) (λ i. opening w most (every_kind most (ek i)) (en i) (eq i) (eo i) lent)
      ∙ sym (pick_no (ltb (length xs) (size most)) _ _ (le-ltb _ _ h) ∙ pick_no (ltb 1 kind) _ _ (le-ltb _ _ le))
