-- Where a call starts: under way, at the source that it names, at a place that the own queue's tables have.
use Prim.Native.Nat.{ℕ}
use mathlib.Core.Path.{◌≡◌, refl, sym, ap}
use mathlib.Core.Bool.{true, false}
use Rattle.tables.specs.declared.call.Call.{Call}
use Rattle.tables.specs.declared.state.Kind.{Kind}
use Rattle.tables.specs.declared.place.Place.{Place}
use Rattle.tables.specs.Tables.{is_idle, source_of, is_kind, has_place, start_lifo, start_fifo, start, call_source}

pub record Starts (ks : ℕ → Kind) (who : ℕ) (c : Call) (p : Place) : Type 0 where
  pub source : source_of who p ≡ call_source who c
  pub under_way : is_idle p ≡ false
  pub kind : has_place (ks who) (ks (source_of who p)) p ≡ true

module _ (ks : ℕ → Kind) (who : ℕ) where
  at_lifo : is_kind (ks who) Kind.Lifo ≡ true → (c : Call) → Starts ks who c (start_lifo c)
  at_lifo i (Call.Push t) = record { source = refl; under_way = refl; kind = i }
  at_lifo i Call.Pop = record { source = refl; under_way = refl; kind = i }
  at_lifo i Call.Extend = record { source = refl; under_way = refl; kind = i }
  at_lifo i (Call.Drain r) = record { source = refl; under_way = refl; kind = i }
  at_lifo i Call.Next = record { source = refl; under_way = refl; kind = refl }
  at_lifo i Call.Drop = record { source = refl; under_way = refl; kind = refl }
  at_lifo i (Call.Steal s r) = record { source = refl; under_way = refl; kind = i }
  at_lifo i (Call.Take s r) = record { source = refl; under_way = refl; kind = i }
  at_lifo i Call.Spare = record { source = refl; under_way = refl; kind = i }
  at_lifo i Call.Empty = record { source = refl; under_way = refl; kind = i }

  at_fifo : is_kind (ks who) Kind.Fifo ≡ true → (c : Call) → Starts ks who c (start_fifo c)
  at_fifo i (Call.Push t) = record { source = refl; under_way = refl; kind = i }
  at_fifo i Call.Pop = record { source = refl; under_way = refl; kind = i }
  at_fifo i Call.Extend = record { source = refl; under_way = refl; kind = i }
  at_fifo i (Call.Drain r) = record { source = refl; under_way = refl; kind = i }
  at_fifo i Call.Next = record { source = refl; under_way = refl; kind = refl }
  at_fifo i Call.Drop = record { source = refl; under_way = refl; kind = refl }
  at_fifo i (Call.Steal s r) = record { source = refl; under_way = refl; kind = i }
  at_fifo i (Call.Take s r) = record { source = refl; under_way = refl; kind = i }
  at_fifo i Call.Spare = record { source = refl; under_way = refl; kind = i }
  at_fifo i Call.Empty = record { source = refl; under_way = refl; kind = i }

  pub starts : (k : Kind) → k ≡ ks who → (c : Call) → Starts ks who c (start k c)
  starts Kind.Lifo e c = at_lifo (ap (λ (k : Kind). is_kind k Kind.Lifo) (sym e)) c
  starts Kind.Fifo e c = at_fifo (ap (λ (k : Kind). is_kind k Kind.Fifo) (sym e)) c
