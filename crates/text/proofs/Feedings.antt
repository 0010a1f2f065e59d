-- A piece of input taken line by line is the piece taken byte by byte, and what is taken in turns is taken at once.
use Rattle.std.proofs.Common.{◌≡◌, ℕ, zero, suc, ◌+◌, ◌-◌, ◌<◌, ◌≤◌, min, Bool, true, false, eqb, ltb, leb, ◌⊎◌, List, [], ◌∷◌, ◌++◌, length, take, drop, sym, refl, ap, ◌∙◌, subst, ap₂, inl, inr, append_assoc, append-nil, arith, length-drop, length-take-le, take_all, drop-drop, le-ltb, lt-ltb, le-leb, leb-false, leb-true}
use lib.Dec.{leb-suc-suc}
use lib.Seq.{sets, take-append-add, take-length}
use borrow.Rule.Slice.PartMut.{put_mid}
use borrow.Author.Tests.{lt-leb}
use Rattle.std.proofs.lemmas.List.{take_min}
use Rattle.std.proofs.lemmas.Slice.{take-put_mid}
use Rattle.words.specs.Word.{pick}
use Rattle.words.specs.Edition.{width}
use Rattle.text.specs.Bytes.{slice, index_of, index_after}
use Rattle.tables.specs.Machine.{most}
use Rattle.text.specs.Session.{State, Turn, next_of}
use Rattle.text.specs.declared.Line.TheVariants as Line
use Rattle.std.specs.Prelude.{unwrap_or}
use Rattle.text.specs.Line.{parted, line_of, read_of}
use Rattle.text.specs.declared.write.Out.{Out}
use Rattle.text.specs.Write.{Wrote, HasRoom, Puts, room_of}
use Rattle.text.specs.Output.{after}
use Rattle.text.specs.Feeding.{enough, Flow, flow, kept, kept_all, Fed, nothing_fed, fed_after, fed_in, Gets}
use Rattle.text.proofs.Writing.{puts_then, puts_none}

-- ---- the line at hand

pub take_cut : (n : ℕ) (x s : List ℕ) → take n (take n x ++ s) ≡ take n (x ++ s)
take_cut zero x s = refl
take_cut (suc n) [] s = refl
take_cut (suc n) (a ∷ x) s = ap (λ (l : List ℕ). a ∷ l) (take_cut n x s)

take_short : (n : ℕ) (x : List ℕ) → length (take n x) ≤ n
take_short zero x = omega arith
take_short (suc n) [] = omega arith
take_short (suc n) (a ∷ x) = omega (arith, take_short n x)

pub kept_take : (l s : List ℕ) → length l ≤ 121 → kept_all l s ≡ take 121 (l ++ s)
unfolding kept_all
kept_take l [] h = sym (ap (take 121) (append-nil l) ∙ take_all 121 l h)
kept_take l (b ∷ s) h =
    kept_take (kept l b) s (take_short 121 (l ++ (b ∷ [])))
    ∙ take_cut 121 (l ++ (b ∷ [])) s ∙ ap (take 121) (append_assoc l (b ∷ []) s)

-- a line of which only 121 bytes are kept is read as the whole line
pub kept_read : (w : ℕ) (s : List ℕ) → read_of w (take 121 s) ≡ read_of w s
unfolding read_of
kept_read w s = by (leb (length s) 120) refl
  where
    by : (t : Bool) → leb (length s) 120 ≡ t
        → pick (leb (length (take 121 s)) 120) (unwrap_or (line_of w (parted (take 121 s))) Line.Malformed) Line.Malformed
        ≡ pick (leb (length s) 120) (unwrap_or (line_of w (parted s)) Line.Malformed) Line.Malformed
    by true e = rw (take_all 121 s (omega (arith, leb-true (length s) 120 e)))
    by false e =
        let h : 120 < length s = leb-false (length s) 120 e in
        rw (e, lt-leb (length (take 121 s)) 120 (omega (arith, length-take-le 121 s (omega (arith, h)))))

-- what is kept of the bytes that follow the first k: as many as have room
pub kept_in : (l : List ℕ) (count : ℕ) (s ys : List ℕ) {k n : ℕ} → length l ≡ 121 → k ≡ min count 121 → n ≡ min (length s) (121 - k)
    → ys ≡ take (k + n - k) s → take (k + n) (put_mid k (k + n - k) l ys) ≡ kept_all (take count l) s
kept_in l count s ys {k} {n} e c m z =
    let h : k ≤ 121 = omega (arith, c) in
    let y : ys ≡ take n s = z ∙ ap (λ (j : ℕ). take j s) (omega arith) in
    let all : take k l ≡ take count l = ap (λ (j : ℕ). take j l) (omega (arith, c, e)) ∙ take_min count l in
    let a : length (take k l) ≡ k = length-take-le k l (omega arith) in
    let b : length ys ≡ n = ap length y ∙ length-take-le n s (omega arith) in
    let room : 121 ≡ length (take k l) + (121 - k) = omega arith in
    let least : n ≡ min (121 - k) (length s) = omega arith in
    subst (λ (x : List ℕ). take (k + n) (put_mid k (k + n - k) l ys) ≡ kept_all x s) all
    (take-put_mid k (k + n - k) l ys (k + n) (omega arith) (omega arith)
    ∙ sym (kept_take (take k l) s (omega arith)
    ∙ (ap (λ (j : ℕ). take j (take k l ++ s)) room ∙ take-append-add (take k l) s (121 - k)
    ∙ ap (λ (z : List ℕ). take k l ++ z) (sym (take_min (121 - k) s) ∙ ap (λ (j : ℕ). take j s) (sym least) ∙ sym y))))

-- ---- a line at a time

module _ (w most : ℕ) where
  -- the turn that a newline makes
  abbrev turn : Flow → List ℕ → Turn
  turn f s = after w most f.state (kept_all f.held s)

  -- a line of k bytes taken at its newline, `rest` following it
  abbrev line_fed : (room : ℕ) → Flow → List ℕ → (k : ℕ) → (rest : List ℕ) → Fed
  line_fed room f s k rest =
      fed_after (turn f s).text (suc k) (fed_in w most (room - length (turn f s).text) (flow (turn f s).state []) rest)

  -- bytes without a newline
  abbrev part_fed : Flow → List ℕ → Fed
  part_fed f s = record { flow = flow f.state (kept_all f.held s); text = []; used = length s }

  abbrev first_fed : (room : ℕ) → Flow → List ℕ → (k : ℕ) → Fed
  first_fed room f s k = pick (ltb k (length s)) (line_fed room f (take k s) k (drop (suc k) s)) (part_fed f s)

  -- a byte before it
  one_more : (t : Bool) (text : List ℕ) (n : ℕ) (r : Fed) (f : Flow) (k : ℕ)
      → fed_after [] 1 (pick t (fed_after text n r) (record { flow = f; text = []; used = k }))
      ≡ pick t (fed_after text (suc n) r) (record { flow = f; text = []; used = suc k })
  one_more true text n r f k = λ i. record { flow = r.flow; text = text ++ r.text; used = sum i }
    where
      sum : 1 + (n + r.used) ≡ suc n + r.used
      sum = omega arith
  one_more false text n r f k = λ i. record { flow = f; text = []; used = one i }
    where
      one : 1 + k ≡ suc k
      one = omega arith

  pub fed_first : (room : ℕ) → enough ≤ room → (f : Flow) (s : List ℕ) → fed_in w most room f s ≡ first_fed room f s (index_of 10 s)
  unfolding fed_in index_of index_after kept_all
  fed_first room h f [] = refl
  fed_first room h f (b ∷ s) = rw (le-leb enough room h) (by (eqb b 10) (fed_first room h (flow f.state (kept f.held b)) s))
    where
      by : (t : Bool) → fed_in w most room (flow f.state (kept f.held b)) s ≡ first_fed room (flow f.state (kept f.held b)) s (index_of 10 s)
          → pick t (line_fed room f [] 0 s) (fed_after [] 1 (fed_in w most room (flow f.state (kept f.held b)) s))
          ≡ first_fed room f (b ∷ s) (index_after t (index_of 10 s))
      by true ih = rw (lt-ltb 0 (suc (length s)) (omega arith))
      by false ih =
          let g = flow f.state (kept f.held b) in
          let k = index_of 10 s in
          let x = turn g (take k s) in
          rw (leb-suc-suc (suc k) (length s), ih)
          (one_more (ltb k (length s)) x.text (suc k) (fed_in w most (room - length x.text) (flow x.state []) (drop (suc k) s))
          (flow f.state (kept_all (kept f.held b) s)) (length s))

  pub fed_stops : (room : ℕ) (f : Flow) (s : List ℕ) → (room < enough) ⊎ (length s ≡ 0) → fed_in w most room f s ≡ nothing_fed f
  unfolding fed_in
  fed_stops room f [] h = refl
  fed_stops room f (b ∷ s) (inl h) = rw (lt-leb enough room h)
  fed_stops room f (b ∷ s) (inr e) = absurd (omega (arith, e))

-- ---- one thing after the other

fed_after_lem : (a b : List ℕ) (n k : ℕ) (r : Fed) → fed_after a n (fed_after b k r) ≡ fed_after (a ++ b) (n + k) r
fed_after_lem a b n k r = λ i. record { flow = r.flow; text = sym (append_assoc a b r.text) i; used = sum i }
  where
    sum : n + (k + r.used) ≡ n + k + r.used
    sum = omega arith

-- flows that are the same
pub gets_as : {piece : List ℕ} {f f' g g' : Flow} {u v : ℕ} {o p : Out} → f ≡ f' → g ≡ g' → Gets piece f' u o g' v p
    → Gets piece f u o g v p
gets_as {piece} {f} {f'} {g} {g'} {u} {v} {o} {p} e d x =
    subst (λ (a : Flow). Gets piece a u o g v p) (sym e) (subst (λ (a : Flow). Gets piece f' u o a v p) (sym d) x)

pub gets_then : {piece : List ℕ} {f g h : Flow} {u v x : ℕ} {o p q : Out} → Gets piece f u o g v p → Gets piece g v p h x q
    → Gets piece f u o h x q
gets_then {piece} {f} {g} {h} {u} {v} {x} {o} {p} {q} a b =
    let way : v - u + (x - v) ≡ x - u = omega (arith, a.onward, b.onward) in
    record {
      text = a.text ++ b.text;
      fed =
          a.fed ∙ ap (fed_after a.text (v - u)) b.fed
          ∙ fed_after_lem a.text b.text (v - u) (x - v) (fed_in width most (room_of q) h (drop x piece))
          ∙ ap (λ (n : ℕ). fed_after (a.text ++ b.text) n (fed_in width most (room_of q) h (drop x piece))) way;
      puts = puts_then a.puts b.puts;
      onward = omega (arith, a.onward, b.onward);
      within = b.within;
    }

-- the line at hand, as far as the piece has it: up to `end`, where its newline or the end of the piece is
module _ (piece : List ℕ) (f : Flow) (used : ℕ) (o : Out) (end : ℕ) (held : List ℕ) (some : used < length piece)
    (room : HasRoom o enough) (found : end ≡ used + index_of 10 (slice used (length piece) piece)) (last : end ≤ length piece)
    (held_is : held ≡ kept_all f.held (take (end - used) (drop used piece))) where
  abbrev s : List ℕ
  s = drop used piece

  abbrev k : ℕ
  k = index_of 10 s

  at_k : end ≡ used + k
  unfolding slice
  at_k = found ∙ ap (λ (x : List ℕ). used + index_of 10 (drop used x)) (take-length piece)

  long : length s ≡ length piece - used
  long = length-drop used piece

  taken : held ≡ kept_all f.held (take k s)
  taken = held_is ∙ ap (λ (n : ℕ). kept_all f.held (take n s)) same
    where
      same : end - used ≡ k
      same = omega (arith, at_k)

  first : fed_in width most (room_of o) f s ≡ first_fed width most (room_of o) f s k
  first = fed_first width most (room_of o) (omega (arith, room)) f s

  pub line_part : end ≡ length piece → Gets piece f used o (flow f.state held) end o
  line_part e = record {
    text = [];
    fed =
        first ∙ rw (le-ltb k (length s) (omega (arith, at_k, long, e)))
        (sym (ap (fed_after [] (end - used)) (fed_stops width most (room_of o) (flow f.state held) (drop end piece) (inr none))
        ∙ λ i. record { flow = flow f.state (all i); text = []; used = count i }));
    puts = puts_none o;
    onward = omega (arith, at_k);
    within = last;
  }
    where
      none : length (drop end piece) ≡ 0
      none = length-drop end piece ∙ omega (arith, e)

      all : held ≡ kept_all f.held s
      all = taken ∙ ap (kept_all f.held) (take_all k s (omega (arith, at_k, long, e)))

      count : end - used + 0 ≡ length s
      count = omega (arith, at_k, long, e)

  pub line_whole : (end ≡ length piece → ⊥) → (line : List ℕ) → line ≡ held → (st : State) (o' : Out)
      → st ≡ (next_of width most f.state.machine f.state.items f.state.session line).state
      → Puts o (next_of width most f.state.machine f.state.items f.state.session line).text o'
      → Gets piece f used o (flow st []) (end + 1) o'
  line_whole n line line_is st o' st-is puts = record {
    text = text;
    fed =
        first ∙ rw (lt-ltb k (length s) (omega (arith, at_k, long, last, n)), ← taken, ← line_is, ← st-is, drop-drop (suc k) used piece)
        (ap₂ (λ (i j : ℕ). fed_after text i (fed_in width most j (flow st []) (drop (used + suc k) piece))) way left
        ∙ ap (λ (i : ℕ). fed_after text (end + 1 - used) (fed_in width most (room_of o') (flow st []) (drop i piece))) next);
    puts = puts;
    onward = omega (arith, at_k);
    within = omega (arith, last, n);
  }
    where
      text : List ℕ
      text = (after width most f.state line).text

      way : suc k ≡ end + 1 - used
      way = omega (arith, at_k)

      left : room_of o - length text ≡ room_of o'
      left = omega (arith, puts.wrote.after, puts.long)

      next : used + suc k ≡ end + 1
      next = omega (arith, at_k)

-- a whole piece: nothing is left of it, or no room
pub gets_whole : {piece : List ℕ} {f f' : Flow} {o o' : Out} {used : ℕ} → Gets piece f 0 o f' used o'
    → (room_of o' < enough) ⊎ (length piece ≤ used)
    → (r : Fed) → r ≡ fed_in width most (room_of o) f piece → (f' ≡ r.flow) × (used ≡ r.used) × Puts o r.text o'
gets_whole {piece} {f} {f'} {o} {o'} {used} g stop r r-is = (
  sym (ap (λ (x : Fed). x.flow) same),
  sym (ap (λ (x : Fed). x.used) same ∙ count),
  rw (ap (λ (x : Fed). x.text) same ∙ append-nil g.text) g.puts,
)
  where
    at_end : (room_of o' < enough) ⊎ (length piece ≤ used) → (room_of o' < enough) ⊎ (length (drop used piece) ≡ 0)
    at_end (inl h) = inl h
    at_end (inr h) = inr (length-drop used piece ∙ omega (arith, h))

    same : r ≡ fed_after g.text (used - 0) (nothing_fed f')
    same = r-is ∙ g.fed ∙ ap (fed_after g.text (used - 0)) (fed_stops width most (room_of o') f' (drop used piece) (at_end stop))

    count : used - 0 + 0 ≡ used
    count = omega arith

-- a buffer made of lent bytes, none put yet
pub wrote_whole : {o o' : Out} {text l l' : List ℕ} → Puts o text o' → o.bytes.now ≡ l → o.put ≡ 0 → l' ≡ o'.bytes.now
    → (Wrote l 0 text l' o'.put) × (o'.put ≤ length l)
wrote_whole {o} {o'} {text} {l} {l'} puts e h d = (
  record { bytes = d ∙ puts.wrote.bytes ∙ ap₂ (λ (x : List ℕ) (n : ℕ). sets x n text) e h; after = puts.wrote.after ∙ ap (λ (n : ℕ). n + length text) h },
  omega (arith, o'.within, puts.long, ap length e),
)

-- ---- how far a piece comes

pub fed_used : (w most room : ℕ) (f : Flow) (s : List ℕ) → (fed_in w most room f s).used ≤ length s
unfolding fed_in
fed_used w most room f [] = omega arith
fed_used w most room f (b ∷ s) =
    by (leb enough room) (eqb b 10) (fed_used w most (room - length x.text) (flow x.state []) s) (fed_used w most room (flow f.state (kept f.held b)) s)
  where
    x : Turn
    x = after w most f.state f.held

    by : (t n : Bool) → (fed_in w most (room - length x.text) (flow x.state []) s).used ≤ length s
        → (fed_in w most room (flow f.state (kept f.held b)) s).used ≤ length s
        → (pick t
        (pick n (fed_after x.text 1 (fed_in w most (room - length x.text) (flow x.state []) s))
        (fed_after [] 1 (fed_in w most room (flow f.state (kept f.held b)) s))) (nothing_fed f)).used
        ≤ suc (length s)
    by true true h k = omega (arith, h)
    by true false h k = omega (arith, k)
    by false n h k = omega arith

-- a buffer with room for a line takes a byte or more
pub fed_some : (w most room : ℕ) (f : Flow) (s : List ℕ) → enough ≤ room → 0 < length s → 0 < (fed_in w most room f s).used
unfolding fed_in
fed_some w most room f [] h k = absurd (omega (arith, k))
fed_some w most room f (b ∷ s) h k = rw (le-leb enough room h) (by (eqb b 10))
  where
    x : Turn
    x = after w most f.state f.held

    by : (n : Bool)
        → 0
        < (pick n (fed_after x.text 1 (fed_in w most (room - length x.text) (flow x.state []) s))
        (fed_after [] 1 (fed_in w most room (flow f.state (kept f.held b)) s))).used
    by true = omega arith
    by false = omega arith
