-- A party put into a block is read back as it was: its place is, and so is its drain.
use Prim.Native.Nat.{ℕ}
use mathlib.Core.Path.{◌≡◌, sym, ap, ◌∙◌}
use mathlib.Core.List.{List}
use Rattle.tables.specs.declared.state.Party.{Party}
use Rattle.block.specs.declared.PlaceWords.{PlaceWords}
use Rattle.block.specs.PlaceWords.{words_of, place_read}
use Rattle.block.specs.Block.{party_words, words_from, drain_from, party_from}
use Rattle.block.proofs.Cells.{read_back}

pub party_back : (w : ℕ) (p : Party) (ws : List ℕ) (c : PlaceWords) → c ≡ words_of p.place → ws ≡ party_words w c p.drain → words_from w ws ≡ c → drain_from w ws ≡ p.drain
    → party_from w (party_words w (words_of p.place) p.drain) ≡ p
unfolding party_from
party_back w p ws c ec ew back dback =
    let e : party_words w (words_of p.place) p.drain ≡ ws = ap (λ (x : PlaceWords). party_words w x p.drain) (sym ec) ∙ sym ew in
    λ i. record {
      place = (ap (λ (l : List ℕ). place_read (words_from w l)) e ∙ ap (place_read) (back ∙ ec) ∙ read_back p.place) i;
      drain = (ap (drain_from w) e ∙ dback) i;
    }
