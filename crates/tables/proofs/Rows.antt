-- What the rows of changes and places say, case by case, so that what rests on them need not list the cases.
use Prim.Native.Nat.{◌<◌}
use mathlib.Core.Path.{◌≡◌, refl, sym}
use mathlib.Core.Bool.{true, true≢false}
use native.Mathlib.Omega.{arith}
use Rattle.tables.specs.declared.answer.Change.{Change}
use Rattle.tables.specs.declared.place.Place.{Place}
use Rattle.tables.specs.Effect.{drops_of}
use Rattle.tables.specs.Tables.{is_idle}

pub idle_is : (p : Place) → is_idle p ≡ true → p ≡ Place.Idle
idle_is Place.Idle e = refl
idle_is (Place.Lifo p) e = absurd (true≢false (sym e))
idle_is (Place.Fifo p) e = absurd (true≢false (sym e))
idle_is (Place.Own p) e = absurd (true≢false (sym e))
idle_is (Place.Book g p) e = absurd (true≢false (sym e))
idle_is (Place.Move p) e = absurd (true≢false (sym e))
idle_is (Place.Close q p) e = absurd (true≢false (sym e))

-- only dropped drops
pub dropped_is : (c : Change) → 0 < drops_of c → c ≡ Change.Dropped (drops_of c)
dropped_is (Change.Offered t) h = absurd (omega arith)
dropped_is Change.Accepted h = absurd (omega arith)
dropped_is Change.Popped h = absurd (omega arith)
dropped_is (Change.Booked k) h = absurd (omega arith)
dropped_is (Change.Landed k) h = absurd (omega arith)
dropped_is (Change.TakeLanded k) h = absurd (omega arith)
dropped_is Change.Drained h = absurd (omega arith)
dropped_is (Change.Dropped k) h = refl
dropped_is Change.Closed h = absurd (omega arith)
