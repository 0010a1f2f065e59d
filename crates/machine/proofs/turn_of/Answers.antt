-- Refused by the record test or the party's number, or an act on the party's desk, which is the machine's.
use Rattle.std.proofs.Common.{◌<◌, sym, ap, ◌∙◌, arith}
use Rattle.std.proofs.lemmas.Result.{err_from_is_err_and}
use Rattle.words.specs.Edition.{width}
use Rattle.tables.specs.Machine.{most}
use Rattle.machine.proofs.Acts.{still_here, record_refused, party_refused, not_there, who_within, from_within, desk_ready, act_is}
use Rattle.machine.proofs.turn_of.Goals as goal

pub returns-in_default-clause-acted : goal.returns-in_default-clause-acted
returns-in_default-clause-acted g c =
    let a = c.args in
    record_refused width most (g.R.Record.machine a.held.now) a.items.now a.who a.act (sym c.in_default.ensures.passes)

pub returns-in_err-there-clause-acted : goal.returns-in_err-there-clause-acted
returns-in_err-there-clause-acted g c =
    let a = c.args in let m = g.R.Record.machine a.held.now in
    let p = err_from_is_err_and c.from_residual.result c.from_residual.ensures.1 in
    let n = not_there c.parties-parties.result a.who c.in_err-there.ensures in
    rw (p.1, p.2)
    (ap (still_here m a.items.now) n.1
    ∙ party_refused width most m a.items.now a.who a.act (sym c.in-Some.ensures.passes) (rw c.parties-parties.ensures at n.0))

pub party-party-requires : goal.party-party-requires
party-party-requires g c =
    who_within c.args.items.now c.in-Some.ensures.fit c.parties-parties.ensures c.args.who c.in_ok-there.ensures

pub bounds-starts-x : goal.bounds-starts-x
bounds-starts-x g c =
    who_within c.args.items.now c.in-Some.ensures.fit c.parties-parties.ensures c.args.who c.in_ok-there.ensures

pub queue-requires : goal.queue-requires
queue-requires g c =
    who_within c.args.items.now c.in-Some.ensures.fit c.parties-parties.ensures c.args.who c.in_ok-there.ensures

pub offset_bounds-starts-y : goal.offset_bounds-starts-y
offset_bounds-starts-y g c =
    let h : c.source_of-from.result < most =
    from_within c.args.items.now c.in-Some.ensures.fit c.parties-parties.ensures c.args.who c.in_ok-there.ensures
    c.party-party.ensures.party_is c.source_of-from.ensures
    in record { fits = omega arith }

pub bounds-starts-y : goal.bounds-starts-y
bounds-starts-y g c =
    from_within c.args.items.now c.in-Some.ensures.fit c.parties-parties.ensures c.args.who c.in_ok-there.ensures
    c.party-party.ensures.party_is c.source_of-from.ensures

pub queue-requires-2 : goal.queue-requires-2
queue-requires-2 g c =
    from_within c.args.items.now c.in-Some.ensures.fit c.parties-parties.ensures c.args.who c.in_ok-there.ensures
    c.party-party.ensures.party_is c.source_of-from.ensures

pub turned-requires : goal.turned-requires
turned-requires g c =
    desk_ready c.args.items.now c.in-Some.ensures.fit c.parties-parties.ensures c.args.who c.in_ok-there.ensures
    c.party-party.ensures.party_is c.source_of-from.ensures
    (λ i. record { party = c.party-party.ensures.party_is i; own = c.queue.ensures.queue_is i; source = c.queue-2.ensures.queue_is i })

pub returns-in_err-turn-clause-acted : goal.returns-in_err-turn-clause-acted
returns-in_err-turn-clause-acted g c =
    let p = err_from_is_err_and c.from_residual-in_err-turn.result c.from_residual-in_err-turn.ensures.1 in
    rw (p.1, p.2)
    (act_is c.args.items.now c.in-Some.ensures.fit c.parties-parties.ensures c.args.who c.in_ok-there.ensures
    c.party-party.ensures.party_is c.source_of-from.ensures
    c.args.act
    (λ i. record { party = c.party-party.ensures.party_is i; own = c.queue.ensures.queue_is i; source = c.queue-2.ensures.queue_is i })
    c.in_err-turn.ensures)

pub returns-clause-acted : goal.returns-clause-acted
returns-clause-acted g c =
    act_is c.args.items.now c.in-Some.ensures.fit c.parties-parties.ensures c.args.who c.in_ok-there.ensures
    c.party-party.ensures.party_is c.source_of-from.ensures
    c.args.act
    (λ i. record { party = c.party-party.ensures.party_is i; own = c.queue.ensures.queue_is i; source = c.queue-2.ensures.queue_is i })
    c.in_ok-turn.ensures

pub returns-clause-within : goal.returns-clause-within
returns-clause-within g c = (
  who_within c.args.items.now c.in-Some.ensures.fit c.parties-parties.ensures c.args.who c.in_ok-there.ensures,
  from_within c.args.items.now c.in-Some.ensures.fit c.parties-parties.ensures c.args.who c.in_ok-there.ensures
      c.party-party.ensures.party_is c.source_of-from.ensures,
)
