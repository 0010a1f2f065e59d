-- Where the capacity is a power of two the masked position is the slot; else, and past the items, there is no token.
use Rattle.std.proofs.Common.{◌≡◌, ◌≤◌, ◌+◌, sym, ap, ◌∙◌, length, get_or, arith}
use Rattle.words.specs.Edition.{width}
use Rattle.words.specs.Word.{slot_of}
use Rattle.words.proofs.Powers.{power_of}
use Rattle.machine.proofs.Rests.{token_beyond, token_none, token_past, token_is}
use Rattle.machine.specs.Rest.{tokens_of}
use Rattle.machine.proofs.rest.token_at.Goals as goal
use Rattle.machine.proofs.rest.token_at.Goals.{then-items-s-via-then-items-s, then-items-s-via-else-items-s+then-items-s-2}

pub returns-then-s-i : goal.returns-then-s-i
returns-then-s-i c = let a = c.args in token_beyond width a.s.base a.s.capacity a.items.now a.s.head a.s.count a.i (omega arith)

pub returns-then-not-is_capacity : goal.returns-then-not-is_capacity
returns-then-not-is_capacity c =
    let a = c.args in
    token_none width a.s.base a.s.capacity a.items.now a.s.head a.s.count a.i (sym c.is_capacity.ensures ∙ c.if-not-is_capacity.true)

pub slot_of-slot-requires : goal.slot_of-slot-requires
slot_of-slot-requires c = power_of width _ (sym c.is_capacity.ensures ∙ c.if-not-is_capacity.false)

pub returns-then-items-s : goal.returns-then-items-s
returns-then-items-s c =
    let a = c.args in
    let past : length a.items.now ≤ a.s.base + c.slot_of-slot.result.0 → 0 ≡ get_or (tokens_of width a.s a.items.now) a.i 0 =
    token_past width a.s.base a.s.capacity a.items.now a.s.head a.s.count a.i (omega arith)
    (sym c.is_capacity.ensures ∙ c.if-not-is_capacity.false) c.slot_of-slot.result.0
    (c.slot_of-slot.ensures ∙ ap (slot_of a.s.capacity) c.add.ensures)
    in
    elim c.then-items-s.branch [
      | then-items-s-via-then-items-s w ↦ past (omega arith)
      | then-items-s-via-else-items-s+then-items-s-2 w ↦ past (omega arith)
    ]

pub returns : goal.returns
returns c =
    let a = c.args in
    token_is width a.s.base a.s.capacity a.items.now a.s.head a.s.count a.i (omega arith)
    (sym c.is_capacity.ensures ∙ c.if-not-is_capacity.false) c.slot_of-slot.result.0
    (c.slot_of-slot.ensures ∙ ap (slot_of a.s.capacity) c.add.ensures)
