-- A desk put back into a block: its party, its source's queue, its own queue, and the answer.
use Prim.Native.Nat.{ℕ, ◌≤◌, ◌<◌}
use mathlib.Core.Path.{◌≡◌, refl, ap, ◌∙◌}
use mathlib.Core.List.{List}
use native.Mathlib.Omega.{arith}
use lib.ListN.{length, set, length-append}
use Rattle.std.specs.Prelude.{Option, Some, None}
use Rattle.words.specs.Edition.{width}
use Rattle.tables.specs.declared.state.Machine.{Machine}
use Rattle.tables.specs.declared.answer.Answer.{Answer}
use Rattle.tables.specs.declared.answer.Effect.{Effect}
use Rattle.tables.specs.declared.answer.Reply.{Reply}
use Rattle.machine.specs.declared.desk.Desk.{Desk}
use Rattle.machine.specs.Desk.{put_back}
use Rattle.tables.specs.Machine.{most, restretched}
use Rattle.block.specs.Block.{reply_base, reply_size, party_size, queue_size, size, party_base, queue_base, party_from, queue_from, machine_of}
use Rattle.block.specs.Contents.{contents_in, changed}
use Rattle.block.specs.Reply.{answer_words, effect_words, reply_words}
use Rattle.block.proofs.Machines.{Filed, here, first_words_kept, beyond_kept, party_filed, queue_filed, reply_filed}

answer_long : (a : Option Answer) → length (answer_words a) ≡ 3
answer_long None = refl
answer_long (Some a) = refl

effect_long : (e : Option Effect) → length (effect_words e) ≡ 4
effect_long None = refl
effect_long (Some e) = refl

pub reply_long : (r : Reply) → length (reply_words r) ≡ reply_size
unfolding reply_words
reply_long r = simp (length-append, answer_long, effect_long) (omega arith)

-- a block is long enough for each part
pub party_files : {xs ys ws : List ℕ} (i : ℕ) → i < most → size most ≤ length xs → length ws ≡ party_size → ys ≡ restretched (party_base i) party_size ws xs
    → Filed xs ys ws (party_base i) party_size
party_files i h long full e = record { is = e; full = full; fits = omega arith; past = omega arith }

pub queue_files : {xs ys ws : List ℕ} (i : ℕ) → i < most → size most ≤ length xs → length ws ≡ queue_size → ys ≡ restretched (queue_base most i) queue_size ws xs
    → Filed xs ys ws (queue_base most i) queue_size
queue_files i h long full e = record { is = e; full = full; fits = omega arith; past = omega arith }

pub reply_files : {xs ys ws : List ℕ} → size most ≤ length xs → length ws ≡ reply_size → ys ≡ restretched reply_base reply_size ws xs → Filed xs ys ws reply_base reply_size
reply_files long full e = record { is = e; full = full; fits = omega arith; past = omega arith }

module _ {xs a b c ys wp wq wo : List ℕ} (x y : ℕ) (x_in : x < most) (y_in : y < most) (fp : Filed xs a wp (party_base x) party_size)
    (fq : Filed a b wq (queue_base most y) queue_size) (fo : Filed b c wo (queue_base most x) queue_size) (r : Reply) (fr : Filed c ys (reply_words r) reply_base reply_size) where
  pub put_all : (d : Desk) → party_from width wp ≡ d.party → queue_from width wq ≡ d.source → queue_from width wo ≡ d.own
      → contents_in width most ys ≡ changed (contents_in width most xs) (put_back (machine_of width most xs) x y d) (reply_words r)
  put_all d ep eq eo = λ i. record {
    machine = (reply_filed width most c fr ∙ queue_filed width most b x x_in fo d.own eo
        ∙ ap (λ (m : Machine). record { parties = m.parties; party = m.party; queue = set m.queue x d.own })
        (queue_filed width most a y y_in fq d.source eq
        ∙ ap (λ (m : Machine). record { parties = m.parties; party = m.party; queue = set m.queue y d.source })
        (party_filed width most xs x x_in fp d.party ep))) i;
    reply = here fr i;
    head = (first_words_kept fr ∙ first_words_kept fo ∙ first_words_kept fq ∙ first_words_kept fp) i;
    beyond = (beyond_kept fr (size most) (omega arith) ∙ beyond_kept fo (size most) (omega (arith, x_in)) ∙ beyond_kept fq (size most) (omega (arith, y_in)) ∙ beyond_kept fp (size most)
        (omega (arith, x_in))) i;
  }
