-- what callers see of a seat, and what holds of it
use Rattle.std.specs.Prelude.{ℕ, ◌≡◌, ◌≤◌, ◌+◌, true, false, List, [], ◌∷◌, length, Option, Some, None}
use Rattle.atomic_table.specs.Seated.{TableId}
use Rattle.atomic_table.specs.declared.shared.Seat.{Seat}
use Rattle.image_model.specs.Change.{change_of}
use Rattle.export_model.specs.OneLog.{Call, RosterState}
use Rattle.marks.specs.Client.{nobody}
use Rattle.marks.specs.declared.said.Said.{Said}
use Rattle.marks.specs.declared.view.Transcript.{Transcript}
use Rattle.marks.specs.declared.view.View.{View}
use Rattle.marks.specs.declared.view.Own.{Own}
use Rattle.marks.specs.Known.{KeeperKnows, Marks, Numbered, OrderKnows, OwnCommands, PassState, number_of}

abbrev pub numbered : Option Own → Option Numbered
numbered None = None
numbered (Some own) = Some (record { number = own.number; change = change_of own.command })

-- the number of the last command that a seat knows
abbrev pub last_number : View → ℕ
last_number view = view.opening + length view.seen

abbrev pub marks_of : View → Marks
marks_of view = record { history = view.seen; accepted = last_number view; durable = view.durable }

abbrev pub order_of : View → OrderKnows
order_of view = record { history = view.seen; accepted = last_number view; base = view.base }

abbrev pub keeper_of : View → KeeperKnows
keeper_of view = record { history = view.seen; accepted = last_number view; durable = view.durable; base = view.base }

abbrev pub own_of : View → OwnCommands
own_of view = record { count = view.commands; last = numbered view.own }

abbrev pub pass_of : View → PassState
pass_of view = record { history = view.seen; accepted = last_number view; durable = view.durable; own = own_of view; client = view.client }

abbrev pub calls_of : List Transcript → List Call
calls_of [] = []
calls_of (one ∷ others) = record { by = one.by; events = one.events } ∷ calls_of others

abbrev pub roster_of : View → RosterState
roster_of view = record { made = view.made; calls = calls_of view.gathered }

-- the seat is of this board, which opened with this number
pub record IsSeat (board : TableId) (opening : ℕ) (seat : Seat Said View) : Type 0 where
  pub table : seat.table_id ≡ board
  pub no_slots : seat.me.1 ≡ []
  pub unspent : seat.me.0.spent ≡ false
  pub opened : seat.me.0.opening ≡ opening

-- it has no right; what is durable was accepted, and so was the pass's own command
pub record IsPass (board : TableId) (opening : ℕ) (seat : Seat Said View) : Type 0 where
  pub sits : IsSeat board opening seat
  pub no_order : seat.me.0.raises_accepted ≡ false
  pub no_keeper : seat.me.0.raises_durable ≡ false
  pub durable : seat.me.0.durable ≤ last_number seat.me.0
  pub own : number_of (numbered seat.me.0.own) ≤ last_number seat.me.0

-- It makes clients, has no other right, and is nobody's. It knows what it knew when the board opened.
pub record IsRoster (board : TableId) (opening : ℕ) (seat : Seat Said View) : Type 0 where
  pub sits : IsSeat board opening seat
  pub right : seat.me.0.makes ≡ true
  pub no_order : seat.me.0.raises_accepted ≡ false
  pub no_keeper : seat.me.0.raises_durable ≡ false
  pub nobody_is : seat.me.0.client ≡ nobody
  pub seen : seat.me.0.seen ≡ []
  pub durable : seat.me.0.durable ≡ opening

-- it raises the accepted number, and knows nothing of the durable one
pub record IsOrderSeat (board : TableId) (opening : ℕ) (seat : Seat Said View) : Type 0 where
  pub sits : IsSeat board opening seat
  pub right : seat.me.0.raises_accepted ≡ true
  pub no_keeper : seat.me.0.raises_durable ≡ false
  pub durable : seat.me.0.durable ≡ 0

-- it raises the durable number and the base
pub record IsKeeperSeat (board : TableId) (opening : ℕ) (seat : Seat Said View) : Type 0 where
  pub sits : IsSeat board opening seat
  pub right : seat.me.0.raises_durable ≡ true
  pub no_order : seat.me.0.raises_accepted ≡ false
  pub own : own_of seat.me.0 ≡ record { count = 0; last = None }

-- what is told to be durable is told to be accepted
pub record IsTold (board : TableId) (opening : ℕ) (seat : Seat Said View) : Type 0 where
  pub sits : IsSeat board opening seat
  pub durable : seat.me.0.durable ≤ last_number seat.me.0
