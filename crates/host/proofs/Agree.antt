-- The two entries agree: the thin one over a machine lent whole, and the fast one over a block that is read as that machine.
use Prim.Native.Nat.{ℕ}
use mathlib.Core.Path.{◌≡◌, refl, sym}
use mathlib.Core.List.{List}
use Rattle.std.specs.Prelude.{Result, Ok, Err}
use Rattle.tables.specs.declared.answer.Refusal.{Refusal}
use Rattle.tables.specs.declared.answer.Reply.{Reply}
use Rattle.tables.specs.declared.call.Act.{Act}
use Rattle.tables.specs.Step.{AfterAct, acted}
use Rattle.block.specs.Contents.{Contents, Left, code_of, left_of, left}
use Rattle.block.specs.Reply.{reply_words}
use Rattle.block.proofs.Acting.{refused_same}

-- the words of the answer: refused, those that stood there
abbrev pub answer_of : Result Reply Refusal → List ℕ → List ℕ
answer_of (Ok r) stood = reply_words r
answer_of (Err e) stood = stood

-- what the fast entry leaves, beside what the thin one does
pub record Agreed (h : Contents) (t : AfterAct) (l : Left) : Type 0 where
  pub refusal : l.refusal ≡ code_of t.reply
  pub items : l.items ≡ t.items
  pub machine : l.held.machine ≡ t.machine
  pub reply : l.held.reply ≡ answer_of t.reply h.reply
  pub head : l.held.head ≡ h.head
  pub beyond : l.held.beyond ≡ h.beyond

module _ (w most : ℕ) (h : Contents) (xs : List ℕ) (party : ℕ) (act : Act) where
  abbrev a : AfterAct
  a = acted w most h.machine xs party act

  -- refused or not, all is the act's
  same : (r : Result Reply Refusal) → r ≡ a.reply
      → Agreed h (record { machine = a.machine; items = a.items; reply = r }) (left_of h xs a.machine a.items r)
  same (Ok r) e = record { refusal = refl; items = refl; machine = refl; reply = refl; head = refl; beyond = refl }
  same (Err f) e =
      let u = refused_same w most h.machine xs party act e in
      record { refusal = refl; items = sym u.1; machine = sym u.0; reply = refl; head = refl; beyond = refl }

  left_is : left w most h xs party act ≡ left_of h xs a.machine a.items a.reply
  unfolding left
  left_is = refl

  pub agree : {t : AfterAct} {l : Left} → t ≡ a → l ≡ left w most h xs party act → Agreed h t l
  agree thin fast = rw (thin, fast, left_is) (same a.reply refl)
