-- One log of all that connections sent and were answered, and what it says of the order of commands.
use Rattle.std.specs.Prelude.{ℕ, ◌≡◌, ◌≤◌, ◌<◌, ◌==◌, Bool, false, if◌then◌else◌, List, [], ◌∷◌}
use Rattle.image_model.specs.Change.{Change}
use Rattle.image_model.specs.Image.{Image}
use Rattle.export_model.specs.Covered.{IsCovered}
use Rattle.export_model.specs.Fits.{EditsFit, ReadsFit}
use Rattle.export_model.specs.Log.{IsLegal}
use Rattle.export_model.specs.declared.event.Event.{Event}
use Rattle.export_model.specs.declared.event.Event.TheVariants.{Sent, Answered, Numbered, Took, Skipped, Failed}
use Rattle.export_model.specs.declared.step.Mode.{Mode}

-- whether an event is a request or an answer of the connection
abbrev pub is_by : ℕ → Event → Bool
is_by connection (Sent by request) = by == connection
is_by connection (Answered by outcome) = by == connection
is_by connection (Numbered by number) = false
is_by connection Took = false
is_by connection Skipped = false
is_by connection (Failed fault) = false

-- what the connection sent and was answered, in order
abbrev pub events_of : ℕ → List Event → List Event
events_of connection [] = []
events_of connection (event ∷ log) = if is_by connection event then event ∷ events_of connection log else events_of connection log

-- what a client sent and was answered
pub record Call : Type 0 where
  pub by : ℕ
  pub events : List Event

-- how many clients were made, and what those that are gone sent and were answered
pub record RosterState : Type 0 where
  pub made : ℕ
  pub calls : List Call

-- each call has all that the log has of its client
abbrev pub AreAll : List Call → List Event → Type 0
AreAll [] log = Unit {0}
AreAll (call ∷ calls) log = (events_of call.by log ≡ call.events) × AreAll calls log

-- There is one log, which agrees with the order of commands. All that it covers is among the first `durable` commands. For each client
-- that is gone it has exactly what that client sent and was answered, and for a client that was never made it has nothing. If the
-- device is trusted, what READs show and what edits become fit the order.
pub record IsOneLog (trusted : Type 0) (mode : Mode) (image : Image) (order : List Change) (durable : ℕ) (roster : RosterState) : Type 0 where
  pub log : List Event
  pub paired : ℕ → ℕ
  pub shown : ℕ → ℕ
  pub legal : IsLegal log order paired
  pub covers : (place : ℕ) → IsCovered mode log place → (k : ℕ) × (k < durable) × (paired k ≡ place)
  pub reads : trusted → ReadsFit log order paired shown image
  pub edits : trusted → EditsFit log order paired image
  pub all : AreAll roster.calls log
  pub others : (by : ℕ) → roster.made ≤ by → events_of by log ≡ []
