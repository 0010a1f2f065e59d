-- What is told when nothing is printed, and when the machine stays; what the opening comes to.
use Rattle.std.proofs.Common.{◌≡◌, ℕ, List, [], length, ap, ◌∙◌, sym, arith, ne_eqb, eq-eqb}
use Rattle.std.specs.Prelude.{Some, None}
use Rattle.tables.specs.declared.answer.Refusal.{Refusal}
use Rattle.tables.specs.declared.state.Machine.{Machine}
use Rattle.tables.specs.declared.state.Opened.{Opened}
use Rattle.tables.specs.Refusal.{number_of, named}
use Rattle.tables.specs.Step.{Opening, opening, every_kind, opened_as as opened}
use Rattle.tables.proofs.Numbers.{named_none, named_number, opening_refusal_few}
use Rattle.text.specs.declared.session.Session.{Session}
use Rattle.text.specs.declared.session.Stage.TheVariants as Stage
use Rattle.text.specs.declared.write.Out.{Out}
use Rattle.text.specs.Session.{Said, Told, Took, state_of, at_stage, ends, stays, opens}
use Rattle.text.proofs.Writing.{puts_none}

pub told_none : {x s : Session} (o : Out) → x ≡ s → Told (record { session = s; text = [] }) x o o
told_none o e = record { session_is = e; puts = puts_none o; near = omega arith }

pub stays_as : {x : Session} {said : Said} {o o' : Out} (m : Machine) (xs : List ℕ) → Told said x o o'
    → Took (stays m xs said) (record { session = x; machine = m; items = xs }) o o'
stays_as m xs t = record {
  state_is = ap (λ (s : Session). record { session = s; machine = m; items = xs }) t.session_is;
  puts = t.puts;
  near = t.near;
}

-- ---- the opening: what the code names is the definition's number

module _ (w most : ℕ) (m : Machine) (xs : List ℕ) (s : Session) where
  abbrev o : Opening
  o = opening w most (every_kind most s.kind) s.parties s.requests s.positions (length xs)

  module _ {r : Opened} (r-is : r ≡ opened o) where
    refusal_is : r.refusal ≡ named o.refusal
    refusal_is = ap (λ (q : Opened). q.refusal) r-is

    pub opens_taken : r.refusal ≡ None
        → opens w most m xs s ≡ record { state = state_of (at_stage Stage.Running s) r.machine xs; text = [] }
    unfolding opens
    opens_taken p = rw (r-is, eq-eqb o.refusal 0 (named_none o.refusal (sym refusal_is ∙ p)))

    pub opens_refused : {e : Refusal} → r.refusal ≡ Some e → opens w most m xs s ≡ stays m xs (ends s (number_of e))
    unfolding opens
    opens_refused {e} p =
        let k = named_number o.refusal e (opening_refusal_few _ _ _ _ _ _ _) (sym refusal_is ∙ p) in
        rw (ne_eqb o.refusal 0 k.0, k.1)
