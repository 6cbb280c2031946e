-- connections and benches as callers see them
use Rattle.std.specs.Prelude.{ℕ, Bool, true, false, if◌then◌else◌, Option, None, List, [], replicate, slice_index_or, slice_set}
use Rattle.journal_format.specs.Group.{Numbered}
use Rattle.nbd_wire.specs.Request.{Message}
use Rattle.nbd_wire.specs.declared.message.SessionFlags.{SessionFlags}
use Rattle.export_model.specs.declared.connection.Connection.{Connection}
use Rattle.export_model.specs.declared.connection.Connection.TheVariants.{Idle, Requested, Waiting, Ready, Closed}
use Rattle.export_model.specs.declared.event.Event.{Event}
use Rattle.export_model.specs.declared.step.Mode.{Mode}

-- the connections of an export, what they agreed on, and the group in hand
pub record ConnectionsState : Type 0 where
  pub flags : SessionFlags
  pub mode : Mode
  -- what each connection is at
  pub states : List Connection
  -- the group in hand, that was sealed and isn't stored
  pub group : Option Numbered

pub record BenchState : Type 0 where
  pub connections : ConnectionsState
  -- what each step did
  pub log : List Event

-- this many connections, none of which has sent a request
abbrev pub new_connections : ℕ → SessionFlags → Mode → ConnectionsState
new_connections count given kept = record { flags = given; mode = kept; states = replicate count Idle; group = None }

-- a bench of this many connections
abbrev pub new_bench : ℕ → SessionFlags → Mode → BenchState
new_bench count given kept = record { connections = new_connections count given kept; log = [] }

-- whether a connection has no request open
abbrev pub is_idle : Connection → Bool
is_idle Idle = true
is_idle (Requested request) = false
is_idle (Waiting number) = false
is_idle (Ready outcome) = false
is_idle Closed = false

-- the connections once one of them has sent a request, where it had none open
abbrev pub sent_state : List Connection → ℕ → Message → List Connection
sent_state old connection request =
    if is_idle (slice_index_or old connection Closed) then slice_set old connection (Requested request) else old
