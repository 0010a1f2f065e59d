-- Each part goes over its own words and leaves the others, so the machine changes by just these four.
use Rattle.std.proofs.Common.{refl}
use Rattle.block.proofs.PutBack.{reply_long, party_files, queue_files, reply_files, put_all}
use Rattle.block.proofs.entry.put_back.Goals as goal

pub returns-clause-contents : goal.returns-clause-contents
returns-clause-contents c =
    let a = c.args in let t = a.t in let u = t.turn in let p = c.put_party in let q = c.put_queue in let o = c.put_queue-2 in
    let x_in = c.requires.0 in let y_in = c.requires.1 in
    put_all t.x t.y x_in y_in (party_files t.x x_in a.to.now.long refl p.ensures.words_are)
    (queue_files t.y y_in p.new.self.long refl q.ensures.words_are) (queue_files t.x x_in q.new.self.long refl o.ensures.words_are)
    u.reply (reply_files o.new.self.long (reply_long u.reply) c.put_reply.ensures.words_are) u.desk p.ensures.reads_back
    q.ensures.reads_back o.ensures.reads_back
