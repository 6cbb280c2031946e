-- what the cells end as, once a `&mut` to one of them has ended
use Rattle.std.specs.Prelude.{ℕ, List, slice_set, Option, Some}
use Rattle.std.specs.Borrow.{Fml, RattleType, MutBor, Lends}
use Rattle.frame_pool.specs.declared.cells.Cells.{Cells}
use Rattle.frame_pool.specs.contracts.cells.Cells.{the_row}

abbrev pub with_slots : {X : Type 0} → Cells X → List (Option X) → Cells X
with_slots cells slots = record { mark = cells.mark; at = cells.at; slots = slots }

abbrev pub lends_cell : (R : RattleType) → MutBor (Cells R.Denot) → ℕ → MutBor R.Denot → Fml
lends_cell R cells index cell = Lends (the_row R) R cells cell (λ now. with_slots cells.now (slice_set cells.now.slots index (Some now)))
