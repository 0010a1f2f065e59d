-- Fields that stand in a block, each before a tab or, as the last, before the newline.
use Rattle.std.proofs.Common.{◌≡◌, ℕ, zero, suc, ◌+◌, ◌-◌, ◌*◌, ◌^◌, ◌<◌, ◌≤◌, Bool, true, false, leb, ltb, List, [], ◌∷◌, ◌++◌, length, get_or, take, drop, sym, refl, ap, ◌∙◌, append-nil, add-one, arith, length-append, length-drop, take-append-drop, length-take-le, get_or-drop, drop-cons, get_or-take, take-suc, drop-drop, lt-ltb, ltb-true, ne_eqb, le-leb, leb-true}
use Rattle.std.specs.Prelude.{Option, Some, option_and_then}
use Rattle.std.proofs.lemmas.Option.{same_Some}
use lib.Seq.{take-append-add}
use Rattle.words.specs.Word.{pick}
use Rattle.text.specs.Bytes.{index_of, index_after}
use Rattle.tables.specs.declared.call.Call.{Call}
use Rattle.tables.specs.declared.call.Mark.{Mark}
use Rattle.tables.specs.declared.call.Rule.{Rule}
use Rattle.text.specs.declared.Line.{Line}
use Rattle.text.specs.Ascii.{ascii, same}
use Rattle.text.specs.Line.{onto, parted, at_end, rule_of, aim_of, call_of, mark_of, step_line, begin_line, line_of, read_of, last_number}
use Rattle.text.specs.Number.{number_of, digits_of}
use Rattle.text.specs.Find.{next_line}
use Rattle.text.specs.Quick.{little, Loaded, clean, fields_at, Ends, Counted, Says}
use Rattle.text.proofs.Digits.{number_some, digit_read}

-- ---- lists of bytes

no : {A : Type 0} → false ≡ true → A
no e = absurd (let z : ◌≡◌ {A = ℕ} 0 1 = cc in omega arith)

abbrev pub Bytes : List ℕ → Type 0
Bytes s = (i : ℕ) → i < length s → get_or s i 0 < 256

tail_bytes : (x : ℕ) (s : List ℕ) → Bytes (x ∷ s) → Bytes s
tail_bytes x s h i k = h (suc i) (omega (arith, k))

abbrev pub below : List ℕ → Bool
below [] = true
below (b ∷ s) = pick (ltb b 256) (below s) false

pub below_bytes : (s : List ℕ) → below s ≡ true → Bytes s
below_bytes [] e i h = absurd (omega (arith, h))
below_bytes (b ∷ s) e i h = by (ltb b 256) refl e (below_bytes s) i h
  where
    by : (t : Bool) → ltb b 256 ≡ t → pick t (below s) false ≡ true → (below s ≡ true → Bytes s) → (i : ℕ) → i < suc (length s)
        → get_or (b ∷ s) i 0 < 256
    by true k e ih zero h = ltb-true b 256 k
    by true k e ih (suc i) h = ih e i (omega (arith, h))
    by false k e ih i h = no e

-- ---- bytes as one number

little_same : (s t : List ℕ) → Bytes s → Bytes t → length s ≡ length t → little s ≡ little t → s ≡ t
little_same [] [] p q l e = refl
little_same [] (y ∷ t) p q l e = absurd (omega (arith, l))
little_same (x ∷ s) [] p q l e = absurd (omega (arith, l))
little_same (x ∷ s) (y ∷ t) p q l e =
    let a : x < 256 = p 0 (omega arith) in
    let b : y < 256 = q 0 (omega arith) in
    let u : x ≡ y = omega (arith, e) in
    let v : little s ≡ little t = omega (arith, e) in
    rw (u, little_same s t (tail_bytes x s p) (tail_bytes y t q) (omega (arith, l)) v)

byte : (s : List ℕ) (at k b : ℕ) → at + k < length s → get_or s (at + k) 0 ≡ b → drop (at + k) s ≡ b ∷ drop (at + suc k) s
byte s at k b h e =
    let z : at + suc k ≡ suc (at + k) = omega arith in
    rw (z, drop-cons s (at + k) 0 h, e)

first : (s : List ℕ) (at : ℕ) → at < length s → drop at s ≡ get_or s at 0 ∷ drop (at + 1) s
first s at h = rw (add-one, drop-cons s at 0 h)

module _ (s : List ℕ) (at : ℕ) where
  pub loaded_two : (a b : ℕ) → at + 2 ≤ length s → Bytes s → a ≡ get_or s at 0 → b ≡ get_or s (at + 1) 0 → Loaded 2 s at (a + b * 256)
  loaded_two a b h all p q =
      let l : drop at s ≡ get_or s at 0 ∷ get_or s (at + 1) 0 ∷ drop (at + 2) s = first s at (omega arith) ∙ rw (byte s at 1 _ (omega arith) refl) in
      record { value = rw l (omega (arith, p, q)); bytes = all }

  pub small_two : (a : ℕ) → at + 2 ≤ length s → Loaded 2 s at a → a < 65536
  small_two a h p =
      let l : drop at s ≡ get_or s at 0 ∷ get_or s (at + 1) 0 ∷ drop (at + 2) s = first s at (omega arith) ∙ rw (byte s at 1 _ (omega arith) refl) in
      omega (arith, rw l at p.value, p.bytes at (omega arith), p.bytes (at + 1) (omega arith))

  pub loaded_four : (a b : ℕ) → at + 4 ≤ length s → Loaded 2 s at a → Loaded 2 s (at + 2) b → Loaded 4 s at (a + b * 65536)
  loaded_four a b h p q =
      let m : drop (at + 2) s ≡ get_or s (at + 2) 0 ∷ get_or s (at + 3) 0 ∷ drop (at + 4) s =
      byte s at 2 _ (omega arith) refl ∙ rw (byte s at 3 _ (omega arith) refl) in
      let l : drop at s ≡ get_or s at 0 ∷ get_or s (at + 1) 0 ∷ drop (at + 2) s = first s at (omega arith) ∙ rw (byte s at 1 _ (omega arith) refl) in
      record { value = rw (l, m) (omega (arith, rw l at p.value, rw m at q.value)); bytes = p.bytes }

  pub loaded : (k r : ℕ) (xs : List ℕ) → at + k ≤ length s → Loaded k s at r → length xs ≡ k → below xs ≡ true → r ≡ little xs
      → drop at s ≡ xs ++ drop (at + k) s
  loaded k r xs h p n b e =
      let len : length (take k (drop at s)) ≡ k = length-take-le k (drop at s) (omega (arith, length-drop at s)) in
      let all : Bytes (take k (drop at s)) =
      λ i j. let small : i < k = omega (arith, len, j) in rw (get_or-take k (drop at s) i 0 small, get_or-drop at s i 0) (p.bytes (at + i) (omega arith)) in
      let is : take k (drop at s) ≡ xs = little_same (take k (drop at s)) xs all (below_bytes xs b) (len ∙ sym n) (sym p.value ∙ e) in
      sym (take-append-drop k (drop at s)) ∙ rw (is, drop-drop k at s)

  -- the bytes up to a position, and the one there
  pub part : (i b : ℕ) → at ≤ i → i < length s → get_or s i 0 ≡ b → drop at s ≡ take (i - at) (drop at s) ++ b ∷ drop (i + 1) s
  part i b h k e =
      let z : at + (i - at) ≡ i = omega arith in
      sym (take-append-drop (i - at) (drop at s)) ∙ rw (drop-drop (i - at) at s, z, add-one, drop-cons s i 0 k, e)

-- ---- a line of clean parts

abbrev up_to : List ℕ → List ℕ
up_to t = take (index_of 10 t) t

clean_cons : (b : ℕ) (xs : List ℕ) → clean (b ∷ xs) ≡ true → (11 ≤ b) × (clean xs ≡ true)
clean_cons b xs e = by (leb 11 b) refl e
  where
    by : (t : Bool) → leb 11 b ≡ t → pick t (clean xs) false ≡ true → (11 ≤ b) × (clean xs ≡ true)
    by true h k = (leb-true 11 b h, k)
    by false h k = absurd (let z : ◌≡◌ {A = ℕ} 0 1 = cc in omega arith)

index_over : (xs t : List ℕ) → clean xs ≡ true → index_of 10 (xs ++ t) ≡ length xs + index_of 10 t
unfolding index_of index_after
index_over [] t h = omega arith
index_over (b ∷ xs) t h =
    let c = clean_cons b xs h in
    rw (ne_eqb b 10 (λ z. omega (arith, c.0, z))) (omega (arith, index_over xs t c.1))

parted_over : (xs t : List ℕ) → clean xs ≡ true → parted (xs ++ 9 ∷ t) ≡ xs ∷ parted t
unfolding parted onto
parted_over [] t h = refl
parted_over (b ∷ xs) t h =
    let c = clean_cons b xs h in
    rw (ne_eqb b 9 (λ z. omega (arith, c.0, z)), parted_over xs t c.1)

parted_only : (xs : List ℕ) → clean xs ≡ true → parted xs ≡ xs ∷ []
unfolding parted onto
parted_only [] h = refl
parted_only (b ∷ xs) h =
    let c = clean_cons b xs h in
    rw (ne_eqb b 9 (λ z. omega (arith, c.0, z)), parted_only xs c.1)

up_over : (xs t : List ℕ) → clean xs ≡ true → up_to (xs ++ t) ≡ xs ++ up_to t
up_over xs t h = rw (index_over xs t h, take-append-add xs t (index_of 10 t))

up_tab : (t : List ℕ) → up_to (9 ∷ t) ≡ 9 ∷ up_to t
unfolding index_of index_after
up_tab t = refl

up_newline : (t : List ℕ) → up_to (10 ∷ t) ≡ []
unfolding index_of index_after
up_newline t = refl

index_tab : (t : List ℕ) → index_of 10 (9 ∷ t) ≡ suc (index_of 10 t)
unfolding index_of index_after
index_tab t = refl

index_newline : (t : List ℕ) → index_of 10 (10 ∷ t) ≡ 0
unfolding index_of index_after
index_newline t = refl

module _ (s : List ℕ) (at m : ℕ) (xs : List ℕ) (c : clean xs ≡ true) where
  fields_tab : drop at s ≡ xs ++ 9 ∷ drop m s → fields_at s at ≡ xs ∷ fields_at s m
  unfolding fields_at
  fields_tab h =
      let u : up_to (drop at s) ≡ xs ++ 9 ∷ up_to (drop m s) = ap up_to h ∙ up_over xs (9 ∷ drop m s) c ∙ rw (up_tab (drop m s)) in
      ap parted u ∙ rw (parted_over xs (up_to (drop m s)) c)

  fields_end : drop at s ≡ xs ++ 10 ∷ drop m s → fields_at s at ≡ xs ∷ []
  unfolding fields_at
  fields_end h =
      let u : up_to (drop at s) ≡ xs = ap up_to h ∙ up_over xs (10 ∷ drop m s) c ∙ rw (up_newline (drop m s), append-nil xs) in
      ap parted u ∙ rw (parted_only xs c)

  ends_tab : (n : ℕ) → drop at s ≡ xs ++ 9 ∷ drop m s → m ≡ at + suc (length xs) → Ends s m n → Ends s at n
  ends_tab n h e g =
      let i : index_of 10 (drop at s) ≡ length xs + suc (index_of 10 (drop m s)) = rw h (index_over xs (9 ∷ drop m s) c ∙ rw (index_tab (drop m s))) in
      let l : length (drop at s) ≡ length xs + suc (length (drop m s)) = rw h (length-append xs (9 ∷ drop m s)) in
      record { there = omega (arith, i, l, g.there); after = omega (arith, i, g.after) }

  ends_end : drop at s ≡ xs ++ 10 ∷ drop m s → m ≡ at + suc (length xs) → Ends s at m
  ends_end h e =
      let i : index_of 10 (drop at s) ≡ length xs = rw h (index_over xs (10 ∷ drop m s) c ∙ rw (index_newline (drop m s)) (omega arith)) in
      let l : length (drop at s) ≡ length xs + suc (length (drop m s)) = rw h (length-append xs (10 ∷ drop m s)) in
      record { there = omega (arith, i, l); after = omega (arith, i) }

  -- what is read of a last field, and of one with more after it
  pub says_end : {A : Type 0} (f : List (List ℕ) → Option A) (a : A) (most : ℕ) → drop at s ≡ xs ++ 10 ∷ drop m s → m ≡ at + suc (length xs)
      → m ≤ at + most → f (xs ∷ []) ≡ Some a → Says s at most m (f (fields_at s at)) a
  says_end f a most h e n g = record { got = rw (fields_end h) g; ends = ends_end h e; near = n }

  pub says_tab : {A B : Type 0} (f : List (List ℕ) → Option A) (a : A) (most less next : ℕ) (inner : Option B) (b : B) → drop at s ≡ xs ++ 9 ∷ drop m s
      → m ≡ at + suc (length xs) → m + less ≤ at + most → Says s m less next inner b → f (xs ∷ fields_at s m) ≡ Some a
      → Says s at most next (f (fields_at s at)) a
  says_tab f a most less next inner b h e n r g =
      record { got = rw (fields_tab h) g; ends = ends_tab next h e r.ends; near = omega (arith, r.near) }

-- ---- numbers

digits_then : (xs ys : List ℕ) (n v : ℕ) → digits_of n xs ≡ Some v → digits_of n (xs ++ ys) ≡ digits_of v ys
unfolding digits_of
digits_then [] ys n v e = rw (same_Some n v e)
digits_then (b ∷ xs) ys n v e =
    let d = digit_read n b xs v e in
    rw (le-leb 48 b d.low, le-leb b 57 d.high, lt-ltb (n * 10 + (b - 48)) (2 ^ 64) d.fits) (digits_then xs ys (n * 10 + (b - 48)) v d.rest)

clean_then : (xs ys : List ℕ) → clean xs ≡ true → clean ys ≡ true → clean (xs ++ ys) ≡ true
clean_then [] ys p q = q
clean_then (b ∷ xs) ys p q =
    let c = clean_cons b xs p in
    rw (le-leb 11 b c.0) (clean_then xs ys c.1 q)

one_digit : (v d : ℕ) → d ≤ 9 → v * 10 + d < 2 ^ 64 → digits_of v ((48 + d) ∷ []) ≡ Some (v * 10 + d)
unfolding digits_of
one_digit v d h k =
    let z : 48 + d - 48 ≡ d = omega arith in
    rw (le-leb 48 (48 + d) (omega arith), le-leb (48 + d) 57 (omega arith), z, lt-ltb (v * 10 + d) (2 ^ 64) k)

-- the bytes up to i are digits, of the value v
pub record Passed (s : List ℕ) (at i v : ℕ) : Type 0 where
  pub number : digits_of 0 (take (i - at) (drop at s)) ≡ Some v
  pub digits : clean (take (i - at) (drop at s)) ≡ true

pub none_passed : (s : List ℕ) (at : ℕ) → Passed s at at 0
unfolding digits_of
none_passed s at =
    let z : at - at ≡ 0 = omega arith in
    record { number = rw z; digits = rw z }

module _ (s : List ℕ) (at i v : ℕ) (h : at ≤ i) (p : Passed s at i v) where
  length_part : i ≤ length s → length (take (i - at) (drop at s)) ≡ i - at
  length_part k = length-take-le (i - at) (drop at s) (omega (arith, length-drop at s))

  pub one_passed : (d : ℕ) → i < length s → get_or s i 0 ≡ 48 + d → d ≤ 9 → v * 10 + d < 2 ^ 64 → Passed s at (i + 1) (v * 10 + d)
  one_passed d k e small fits =
      let n : i + 1 - at ≡ suc (i - at) = omega arith in
      let z : at + (i - at) ≡ i = omega arith in
      let g : get_or (drop at s) (i - at) 0 ≡ 48 + d = get_or-drop at s (i - at) 0 ∙ rw z e in
      let all : take (i + 1 - at) (drop at s) ≡ take (i - at) (drop at s) ++ (48 + d) ∷ [] =
      rw (n, take-suc (drop at s) (i - at) 0 (omega (arith, length-drop at s)), g) in
      record {
        number = rw all (digits_then (take (i - at) (drop at s)) ((48 + d) ∷ []) 0 v p.number ∙ one_digit v d small fits);
        digits = rw all (clean_then (take (i - at) (drop at s)) ((48 + d) ∷ []) p.digits (rw (le-leb 11 (48 + d) (omega arith))));
      }

  number_of_lem : at < i → i ≤ length s → number_of (take (i - at) (drop at s)) ≡ Some v
  number_of_lem l k = number_some (take (i - at) (drop at s)) (λ z. omega (arith, z, length_part k)) ∙ p.number

  pub counted : at < i → i ≤ length s → i ≤ at + 2 → Counted s at v i
  counted l k n = record { number = number_of_lem l k; digits = p.digits; more = l; near = n }

  pub last_said : at < i → i < length s → get_or s i 0 ≡ 10 → i - at ≤ 40 → Says s at 41 (i + 1) (last_number (fields_at s at)) v
  last_said l k e n =
      says_end s at (i + 1) (take (i - at) (drop at s)) p.digits last_number v 41 (part s at i 10 h k e) (omega (arith, length_part (omega arith)))
      (omega arith) (ap (option_and_then (at_end [])) (number_of_lem l (omega arith)))

pub few_one : (s : List ℕ) (at d : ℕ) → at < length s → get_or s at 0 ≡ 48 + d → d ≤ 9 → Counted s at d (at + 1)
few_one s at d h e k =
    let z : 0 * 10 + d ≡ d = omega arith in
    let one : Passed s at (at + 1) d = rw z at (one_passed s at at 0 (omega arith) (none_passed s at) d h e k (omega arith)) in
    counted s at (at + 1) d (omega arith) one (omega arith) (omega arith) (omega arith)

pub few_two : (s : List ℕ) (at d e : ℕ) → at + 1 < length s → get_or s at 0 ≡ 48 + d → d ≤ 9 → get_or s (at + 1) 0 ≡ 48 + e → e ≤ 9
    → Counted s at (d * 10 + e) (at + 2)
few_two s at d e h a k b l =
    let z : 0 * 10 + d ≡ d = omega arith in
    let y : at + 1 + 1 ≡ at + 2 = omega arith in
    let one : Passed s at (at + 1) d = rw z at (one_passed s at at 0 (omega arith) (none_passed s at) d (omega arith) a k (omega arith)) in
    let two : Passed s at (at + 2) (d * 10 + e) = rw y at (one_passed s at (at + 1) d (omega arith) one e h b l (omega arith)) in
    counted s at (at + 2) (d * 10 + e) (omega arith) two (omega arith) (omega arith) (omega arith)

-- ---- what starts with a number

aim_read : (n : List ℕ) (fs : List (List ℕ)) (v : ℕ) (k : Rule) → number_of n ≡ Some v → rule_of fs ≡ Some k
    → aim_of (n ∷ fs) ≡ Some (record { source = v; rule = k })
aim_read n fs v k e g = rw (e, g) refl

step_read : (n : List ℕ) (fs : List (List ℕ)) (v : ℕ) (k : Mark) → number_of n ≡ Some v → mark_of fs ≡ Some k
    → step_line (n ∷ fs) ≡ Some (Line.Step v k)
step_read n fs v k e g = rw (e, g) refl

begin_read : (n : List ℕ) (fs : List (List ℕ)) (v : ℕ) (k : Call) → number_of n ≡ Some v → call_of fs ≡ Some k
    → begin_line (n ∷ fs) ≡ Some (Line.Begin v k)
begin_read n fs v k e g = rw (e, g) refl

-- what is read of a number that is the last field, and of one with more after it
module _ (s : List ℕ) (at v i : ℕ) (p : Counted s at v i) (k : i < length s) where
  digits_length : length (take (i - at) (drop at s)) ≡ i - at
  digits_length = length-take-le (i - at) (drop at s) (omega (arith, length-drop at s, p.more))

  number_end : {A : Type 0} (f : List (List ℕ) → Option A) (a : A) → get_or s i 0 ≡ 10
      → ((n : List ℕ) → number_of n ≡ Some v → f (n ∷ []) ≡ Some a) → Says s at 3 (i + 1) (f (fields_at s at)) a
  number_end f a e g =
      says_end s at (i + 1) (take (i - at) (drop at s)) p.digits f a 3 (part s at i 10 (omega (arith, p.more)) k e)
      (omega (arith, digits_length, p.more)) (omega (arith, p.near)) (g (take (i - at) (drop at s)) p.number)

  number_tab : {A B : Type 0} (f : List (List ℕ) → Option A) (a : A) (most less next : ℕ) (inner : Option B) (b : B) → get_or s i 0 ≡ 9 → less + 3 ≤ most
      → Says s (i + 1) less next inner b → ((n : List ℕ) → number_of n ≡ Some v → f (n ∷ fields_at s (i + 1)) ≡ Some a)
      → Says s at most next (f (fields_at s at)) a
  number_tab f a most less next inner b e m r g =
      says_tab s at (i + 1) (take (i - at) (drop at s)) p.digits f a most less next inner b (part s at i 9 (omega (arith, p.more)) k e)
      (omega (arith, digits_length, p.more)) (omega (arith, p.near)) r (g (take (i - at) (drop at s)) p.number)

  pub aim_said : (next : ℕ) (r : Rule) → get_or s i 0 ≡ 9 → Says s (i + 1) 47 next (rule_of (fields_at s (i + 1))) r
      → Says s at 50 next (aim_of (fields_at s at)) (record { source = v; rule = r })
  aim_said next r e more = number_tab aim_of _ 50 47 next _ _ e (omega arith) more (λ n f. aim_read n (fields_at s (i + 1)) v r f more.got)

  pub plain_said : get_or s i 0 ≡ 10 → Says s at 3 (i + 1) (step_line (fields_at s at)) (Line.Step v Mark.Plain)
  plain_said e = number_end step_line _ e (λ n f. step_read n [] v Mark.Plain f refl)

  pub mark_said : (next : ℕ) (m : Mark) → get_or s i 0 ≡ 9 → Says s (i + 1) 47 next (mark_of (fields_at s (i + 1))) m
      → Says s at 50 next (step_line (fields_at s at)) (Line.Step v m)
  mark_said next m e more =
      number_tab step_line _ 50 47 next _ _ e (omega arith) more (λ n f. step_read n (fields_at s (i + 1)) v m f more.got)

  pub call_said : (next : ℕ) (c : Call) → get_or s i 0 ≡ 9 → Says s (i + 1) 56 next (call_of (fields_at s (i + 1))) c
      → Says s at 59 next (begin_line (fields_at s at)) (Line.Begin v c)
  call_said next c e more =
      number_tab begin_line _ 59 56 next _ _ e (omega arith) more (λ n f. begin_read n (fields_at s (i + 1)) v c f more.got)

-- ---- lines

pub whole : (w : ℕ) (s : List ℕ) (from next : ℕ) (line : Line) → Says s from 121 next (line_of w (fields_at s from)) line
    → Some (record { line = line; next = next }) ≡ next_line w s from
unfolding next_line read_of fields_at
whole w s from next line r =
    let k = index_of 10 (drop from s) in
    let h : k < length (drop from s) = r.ends.there in
    let l : length (take k (drop from s)) ≡ k = length-take-le k (drop from s) (omega arith) in
    let e : line_of w (parted (take k (drop from s))) ≡ Some line = r.got in
    rw (lt-ltb k (length (drop from s)) h, l, le-leb k 120 (omega (arith, r.near, r.ends.after)), e, r.ends.after)

pub step_line_lem : (w : ℕ) (s : List ℕ) (from less next : ℕ) (line : Line) → drop from s ≡ ascii "step" ++ 9 ∷ drop (from + 5) s → less ≤ 100
    → Says s (from + 5) less next (step_line (fields_at s (from + 5))) line → Some (record { line = line; next = next }) ≡ next_line w s from
unfolding same
step_line_lem w s from less next line h n r =
    whole w s from next line
    (says_tab s from (from + 5) (ascii "step") refl (line_of w) line 121 less next _ _ h refl (omega arith) r r.got)

pub begin_line_lem : (w : ℕ) (s : List ℕ) (from less next : ℕ) (line : Line) → drop from s ≡ ascii "begin" ++ 9 ∷ drop (from + 6) s → less ≤ 100
    → Says s (from + 6) less next (begin_line (fields_at s (from + 6))) line → Some (record { line = line; next = next }) ≡ next_line w s from
unfolding same
begin_line_lem w s from less next line h n r =
    whole w s from next line
    (says_tab s from (from + 6) (ascii "begin") refl (line_of w) line 121 less next _ _ h refl (omega arith) r r.got)

-- ---- words of four bytes and more

pub then_byte : (s : List ℕ) (at k x : ℕ) (xs : List ℕ) → drop at s ≡ xs ++ drop (at + k) s → get_or s (at + k) 0 ≡ x → at + k < length s
    → drop at s ≡ xs ++ x ∷ drop (at + suc k) s
then_byte s at k x xs h g room = h ∙ rw (byte s at k x room g)

pub then_two : (s : List ℕ) (at v : ℕ) (xs ys : List ℕ) → at + 6 ≤ length s → drop at s ≡ xs ++ drop (at + 4) s → Loaded 2 s (at + 4) v
    → length ys ≡ 2 → below ys ≡ true → v ≡ little ys → drop at s ≡ xs ++ (ys ++ drop (at + 6) s)
then_two s at v xs ys room h q m c f =
    let z : at + 4 + 2 ≡ at + 6 = omega arith in
    h ∙ rw (loaded s (at + 4) 2 v ys (omega arith) q m c f, z)

module _ (s : List ℕ) (at r : ℕ) (room : at + 8 ≤ length s) (p : Loaded 4 s at r) (xs : List ℕ) (n : length xs ≡ 4) (b : below xs ≡ true) (e : r ≡ little xs) where
  pub word_four : drop at s ≡ xs ++ drop (at + 4) s
  word_four = loaded s at 4 r xs (omega arith) p n b e

  pub word_byte : (x : ℕ) → get_or s (at + 4) 0 ≡ x → drop at s ≡ xs ++ x ∷ drop (at + 5) s
  word_byte x g = then_byte s at 4 x xs word_four g (omega arith)

  pub word_two : (v : ℕ) (ys : List ℕ) → Loaded 2 s (at + 4) v → length ys ≡ 2 → below ys ≡ true → v ≡ little ys → drop at s ≡ xs ++ (ys ++ drop (at + 6) s)
  word_two v ys q m c f = then_two s at v xs ys (omega arith) word_four q m c f
