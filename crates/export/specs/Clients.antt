-- clients of an export
use Rattle.std.specs.Prelude.{ℕ, zero, suc, ◌≡◌, true, List, [], ◌∷◌, ◌++◌}
use Rattle.export_model.specs.OneLog.{RosterState}
use Rattle.export_model.specs.declared.connection.Connection.TheVariants.{Idle}
use Rattle.marks.specs.Client.{new_client}
use Rattle.marks.specs.Known.{PassState, new_pass}
use Rattle.marks.specs.declared.view.Client.{Client}

-- it is a client, and no request of its is open
pub record IsIdle (client : Client) : Type 0 where
  pub speaks : client.speaks ≡ true
  pub idle : client.state ≡ Idle

-- what the pass of an export's end knows, and what the clients sent and were answered that it has joined
pub record LastState : Type 0 where
  pub pass : PassState
  pub roster : RosterState

-- the pass of the client with this number, which has sent nothing and knows the number with which the board opened
abbrev pub new_client_pass : ℕ → ℕ → PassState
new_client_pass opening number = record (new_pass opening) { client = new_client number }

-- those of the first `count` clients
abbrev pub new_client_passes : ℕ → ℕ → List PassState
new_client_passes opening zero = []
new_client_passes opening (suc count) = new_client_passes opening count ++ new_client_pass opening count ∷ []
