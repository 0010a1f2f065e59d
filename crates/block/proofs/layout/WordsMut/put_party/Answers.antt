-- A place put as words is read back as that place, and a drain as that drain.
use Rattle.std.proofs.Common.{ℕ, List, length, ap, ◌∙◌}
use Rattle.words.specs.Edition.{width}
use Rattle.tables.specs.Machine.{restretched}
use Rattle.block.specs.declared.PlaceWords.{PlaceWords}
use Rattle.block.specs.Block.{party_words, party_base}
use Rattle.block.proofs.Seats.{party_back}
use Rattle.block.proofs.layout.WordsMut.put_party.Goals as goal

pub returns-clause-words_are : goal.returns-clause-words_are
returns-clause-words_are c =
    let a = c.args in let d = a.party.drain in
    let e = c.party_words-words.ensures.words_are ∙ ap (λ (x : PlaceWords). party_words width x d) c.from.ensures in
    c.put.ensures.words_are ∙ ap (λ (ws : List ℕ). restretched (party_base a.i) (length ws) ws a.self.now.words.now) e

pub returns-clause-reads_back : goal.returns-clause-reads_back
returns-clause-reads_back c =
    let a = c.args in let sw = c.party_words-words in
    party_back width a.party sw.result c.from.result c.from.ensures sw.ensures.words_are sw.ensures.place_back
    sw.ensures.drain_back
