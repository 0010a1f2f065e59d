-- A step's access, of the queue that it reaches.
use Rattle.std.specs.Prelude.{◌≡◌, ℕ, List}
use borrow.Rule.Slice.PartMut.{put_mid}
use Rattle.tables.specs.declared.access.Access.{Access}
use Rattle.tables.specs.declared.call.Mark.{Mark}
use Rattle.tables.specs.declared.state.Queue.{Queue}
use Rattle.tables.specs.Access.{shows, perform}
use Rattle.tables.specs.Machine.{stretch}
use Rattle.tables.specs.Step.{is_weak}
use Rattle.queue.specs.declared.memory.Performed.{Performed}

-- the access is made of the queue's stretch of the items, which is put back into them
pub record Reaches (q : Queue) (xs : List ℕ) (base : ℕ) (a : Access) (k : Mark) (xs' : List ℕ) (r : Performed) : Type 0 where
  pub slots : List ℕ
  pub done : shows r.queue slots r.seen ≡ perform q (stretch base q.capacity xs) a (is_weak k)
  pub items : xs' ≡ put_mid base q.capacity xs slots
