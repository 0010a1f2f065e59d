-- The effects of a run alone in an array of three: one more noted. proofs/ shows that it is the list's `noted`, where that has three
-- at most.
use Rattle.std.specs.Prelude.{ℕ, ◌+◌, ◌-◌, ◌<◌, ◌^◌, Bool, false, ltb, eqb, get_or, set, Option, Some, None}
use Rattle.words.specs.Word.{pick}
use Rattle.tables.specs.declared.answer.Effect.{Effect}
use Rattle.tables.specs.declared.answer.Effects.{Effects}
use Rattle.tables.specs.Effect.{drops_of}
use Rattle.tables.specs.Step.{joins, merged}

abbrev pub with' : Effects → ℕ → Effect → (count : ℕ) → Effects
with' l i e n = record { count = n; list = set l.list i (Some e) }

abbrev pub last : Effects → Option Effect
last l = get_or l.list (l.count - 1) None

-- the last joined with one more, where both are dropped ones
abbrev pub last_joins : Option Effect → Effect → Bool
last_joins None e = false
last_joins (Some x) e = joins x e

abbrev pub last_merged : Option Effect → Effect → Effect
last_merged None e = e
last_merged (Some x) e = merged x e

-- after the first: merged with the last, or put behind it where there is a place
abbrev pub note_more : Effects → Effect → Effects
note_more l e =
    pick (ltb 3 l.count) l
    (pick (last_joins (last l) e) (with' l (l.count - 1) (last_merged (last l) e) l.count)
    (pick (eqb l.count 3) l (with' l l.count e (l.count + 1))))

abbrev pub note : Effects → Option Effect → Effects
note l None = l
note l (Some e) = pick (eqb l.count 0) (with' l 0 e 1) (note_more l e)

-- how many an effect, if any, drops
abbrev pub dropped_by : Option Effect → ℕ
dropped_by None = 0
dropped_by (Some e) = drops_of e.change

-- what is dropped in all fits the count
abbrev pub CountFits : Effects → Option Effect → Type 0
CountFits l e = dropped_by (last l) + dropped_by e < 2 ^ 64
