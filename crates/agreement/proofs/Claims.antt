-- Claims 1, 2, 4, 6 and 7 along the schedules of the table, computed without the theorem. tests/wrong-versions asks of wrong tables that the verdict
-- turns round: that some schedule which keeps the premise breaks a claim.
use mathlib.Core.Path.{◌≡◌, refl}
use mathlib.Core.Bool.{Bool, true, false, not}
use mathlib.Core.List.{List, [], ◌∷◌}
use Prim.Native.Nat.{ℕ, zero, suc}
use lib.Dec.{eqb, leb, ltb}
use Rattle.words.specs.Word.{orb}
use Rattle.tables.specs.declared.call.Mark.{Mark}
use Rattle.tables.specs.declared.state.Machine.{Machine}
use Rattle.tables.specs.Machine.{queue_at}
use Rattle.tables.specs.Answer.{Reason, nothing, none_rested, none_free, one_open, none_to_book, reason_of}
use Rattle.tables.specs.Rule.{ruled}
use Rattle.tables.specs.Table.{rule_of}
use Rattle.tables.specs.Step.{andb, place_at, source_at, step, alone}
use Rattle.tables.specs.Lists.{Holder, nobody, party, Lists, Plain, is_nil, Replayed, impossible, lists, replay, tokens, resting_at}
use Rattle.tables.specs.Causes.{Notes, fill_of, at_booking, seen_at, is_steal}
use Rattle.tables.specs.Shows.{holder_to, shows, hand_at}
use Rattle.agreement.specs.Statement.{Line, begins, steps, alones, Run, kinds_of, replayed, stepped, line}
use Rattle.agreement.proofs.Tests.{keeps_test, machine_clauses, record_clauses, test_clauses}
use Rattle.agreement.proofs.Schedules.{pushes, times, start_of, Row, table}

unfoldable pub same_tokens : List ℕ → List ℕ → Bool
same_tokens [] [] = true
same_tokens [] (y ∷ l) = false
same_tokens (x ∷ k) [] = false
same_tokens (x ∷ k) (y ∷ l) = andb (eqb x y) (same_tokens k l)

abbrev pub same_holder : Holder → Holder → Bool
same_holder nobody nobody = true
same_holder nobody (party q) = false
same_holder (party p) nobody = false
same_holder (party p) (party q) = eqb p q

abbrev pub same_lists : Lists → Lists → Bool
same_lists a b =
    andb (same_tokens a.waiting b.waiting) (andb (same_tokens a.resting b.resting) (andb (same_tokens a.booked b.booked)
    (andb (same_holder a.holder b.holder) (eqb a.kept b.kept))))

-- claims 1, 2, 6 and 7, of two parties and their queues
abbrev pub agreeing_at : Machine → List ℕ → Plain → ℕ → Bool
agreeing_at m xs a q =
    andb (same_lists (a.queue q) (shows 3 m xs q)) (andb (same_tokens (a.hand q) (hand_at 3 m xs q)) (leb (fill_of (a.queue q)) (queue_at m q).capacity))

abbrev pub agreeing : Machine → List ℕ → Replayed → Bool
agreeing m xs impossible = false
agreeing m xs (lists a) = andb (agreeing_at m xs a 0) (agreeing_at m xs a 1)

abbrev pub agreed : Run → Bool
agreed r = agreeing r.machine r.items (replay (kinds_of r.machine) r.record')

-- claim 4, by the answer's reason
abbrev pub emptied : Machine → ℕ → Mark → Plain → Notes → Bool
emptied m p k a n =
    orb (is_nil (a.queue (source_at m p)).resting)
    (at_booking false (λ g b. orb (andb (is_steal g) (eqb (n.fill p) (queue_at m p).capacity))
    (andb (ltb 0 (seen_at 3 b (queue_at m (source_at m p)).pushes)) (eqb (ruled (rule_of g) k (seen_at 3 b (queue_at m (source_at m p)).pushes)) 0)))
    (place_at m p))

abbrev pub caused : Machine → ℕ → Mark → Plain → Notes → Reason → Bool
caused m p k a n nothing = true
caused m p k a n none_rested = is_nil (a.queue p).resting
caused m p k a n none_free = eqb (n.fill p) (queue_at m p).capacity
caused m p k a n one_open = n.opened p
caused m p k a n none_to_book = emptied m p k a n

abbrev pub step_holds : Run → ℕ → Mark → Bool
step_holds r p k =
    andb (agreed (stepped 3 2 r p k))
    (caused r.machine p k (replayed r.machine r.record') (stepped 3 2 r p k).notes
    (reason_of (step 3 2 r.machine r.items p k).answer))

unfoldable pub repeat_holds : ℕ → Run → ℕ → Bool
repeat_holds zero r p = true
repeat_holds (suc n) r p = andb (step_holds r p Mark.Plain) (repeat_holds n (stepped 3 2 r p Mark.Plain) p)

abbrev pub line_holds : Run → Line → Bool
line_holds r (begins p c) = true
line_holds r (steps p k) = step_holds r p k
line_holds r (alones p n) = repeat_holds (alone 3 2 r.machine r.items p n).steps r p

unfoldable pub run_holds : Run → List Line → Bool
run_holds r [] = true
run_holds r (x ∷ s) = andb (line_holds r x) (run_holds (line 3 2 r x) s)

-- some schedule keeps the premise and breaks a claim
unfoldable pub broken : List Row → Bool
broken [] = false
broken (x ∷ l) =
    orb (andb (keeps_test 3 2 (start_of x.sample) x.sample.schedule).passed (not (run_holds (start_of x.sample) x.sample.schedule)))
    (broken l)

pub verdict : broken table ≡ false
unfolding machine_clauses record_clauses test_clauses broken table run_holds repeat_holds same_tokens pushes times tokens resting_at holder_to shows hand_at
verdict = refl
