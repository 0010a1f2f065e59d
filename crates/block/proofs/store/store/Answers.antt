use Rattle.std.proofs.Common.{ℕ, List, length, ◌≡◌, refl, ap, subst, ◌∙◌, arith}
use Rattle.tables.specs.Machine.{most, restretched}
use Rattle.machine.proofs.Lengths.{parties_many, queues_many}
use Rattle.block.specs.Opening.{fresh}
use Rattle.block.proofs.PutBack.{party_files, queue_files}
use Rattle.block.proofs.Storing.{Stored, stored_none, beyond_head, stored_more, stored_all}
use Rattle.block.proofs.store.store.Goals as goal

pub loop-i-init : goal.loop-i-init
loop-i-init c =
    let a = c.args in
    record {
      same = refl;
      stored =
          stored_none a.m a.to.now.words.now c.put.new.self.words.now a.to.now.long
          (c.put.ensures.words_are ∙ ap (λ (ws : List ℕ). restretched 0 (length ws) ws a.to.now.words.now) c.head_words.ensures);
    }

pub loop-i-preserved : goal.loop-i-preserved
loop-i-preserved c =
    let v = c.loop-i in let p = c.put_party in let q = c.put_queue in let t = c.loop-i-test.true in
    record {
      same = q.ensures.same ∙ p.ensures.same ∙ v.invariant.same;
      stored =
          stored_more c.args.m v.invariant.stored t (party_files v.i t v.to.long refl p.ensures.words_are)
          (queue_files v.i t p.new.self.long refl q.ensures.words_are) p.ensures.reads_back q.ensures.reads_back;
    }

pub returns-clause-contents : goal.returns-clause-contents
returns-clause-contents c =
    let a = c.args in let m = a.m in let v = c.loop-i in let w = c.put in
    let e : v.i ≡ most = omega arith in
    stored_all m (subst (λ (i : ℕ). Stored m w.new.self.words.now i v.to.words.now) e v.invariant.stored) w.new.self.long c.requires
    (parties_many m c.well_formed.1.0) (queues_many m c.well_formed.1.0)
    ∙ ap (λ (l : List ℕ). fresh l m)
    (beyond_head m a.to.now.words.now w.new.self.words.now a.to.now.long
    (w.ensures.words_are ∙ ap (λ (ws : List ℕ). restretched 0 (length ws) ws a.to.now.words.now) c.head_words.ensures))
