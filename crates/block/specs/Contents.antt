-- What lent words hold: a block's first words, its machine, the last answer of a call that nothing refused, and the words after
-- the block, which are the host's own.
use Rattle.std.specs.Prelude.{ℕ, List, Result, Ok, Err, drop}
use Rattle.tables.specs.declared.answer.Refusal.{Refusal}
use Rattle.tables.specs.declared.answer.Reply.{Reply}
use Rattle.tables.specs.declared.state.Machine.{Machine}
use Rattle.tables.specs.Machine.{stretch}
use Rattle.tables.specs.declared.call.Act.{Act}
use Rattle.tables.specs.Refusal.{number_of}
use Rattle.tables.specs.Step.{AfterAct, acted}
use Rattle.block.specs.Block.{reply_base, reply_size, size, machine_of}
use Rattle.block.specs.Reply.{reply_words}

pub record Contents : Type 0 where
  pub head : List ℕ
  pub machine : Machine
  pub reply : List ℕ
  pub beyond : List ℕ

abbrev pub contents_in : (w most : ℕ) → List ℕ → Contents
contents_in w most xs = record {
  head = stretch 0 reply_base xs;
  machine = machine_of w most xs;
  reply = stretch reply_base reply_size xs;
  beyond = drop (size most) xs;
}

-- another machine and another answer
abbrev pub changed : Contents → Machine → (reply : List ℕ) → Contents
changed h m r = record { head = h.head; machine = m; reply = r; beyond = h.beyond }

-- what a call leaves: in the block, in the items, and the refusal's number or 0
pub record Left : Type 0 where
  pub held : Contents
  pub items : List ℕ
  pub refusal : ℕ

-- what is returned: 0, or the refusal's number
abbrev pub code_of : {A : Type 0} → Result A Refusal → ℕ
code_of (Ok x) = 0
code_of (Err e) = number_of e

abbrev pub left_of : Contents → List ℕ → Machine → List ℕ → Result Reply Refusal → Left
left_of h xs m ys (Ok r) = record { held = changed h m (reply_words r); items = ys; refusal = 0 }
left_of h xs m ys (Err e) = record { held = h; items = xs; refusal = number_of e }

abbrev pub left_by : Contents → List ℕ → AfterAct → Left
left_by h xs a = left_of h xs a.machine a.items a.reply

-- Begin, step or run alone on the machine that the block holds. Refused, the block and the items are as they came.
unfoldable pub left : (w most : ℕ) → Contents → List ℕ → (who : ℕ) → Act → Left
left w most h xs who act = left_by h xs (acted w most h.machine xs who act)
