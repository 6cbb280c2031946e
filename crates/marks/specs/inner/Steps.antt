-- what each step on a board does to what its seat knows
use Rattle.std.specs.Prelude.{ℕ, ◌≡◌, ◌≤◌, ◌+◌, max, nat_le, if◌then◌else◌, true, false, List, [], ◌∷◌, ◌++◌, length, Option, Some, None}
use mathlib.Core.Option.{none, some}
use mathlib.Core.List.{IsPrefix}
use Rattle.atomic_table.specs.Table.{Step, Me}
use Rattle.image_model.specs.Change.{Change, change_of}
use Rattle.export_model.specs.declared.event.Event.{Event}
use Rattle.export_model.specs.declared.event.Event.TheVariants.{Sent, Answered, Numbered, Took, Skipped, Failed}
use Rattle.export_model.specs.declared.step.Mode.{Mode}
use Rattle.marks.specs.Client.{accepting, answering, flushing, new_client, nobody, sending}
use Rattle.marks.specs.declared.said.Said.{Said}
use Rattle.marks.specs.declared.said.Said.TheVariants.{Speaks, Adds}
use Rattle.marks.specs.declared.view.Client.{Client}
use Rattle.marks.specs.declared.view.View.{View}
use Rattle.marks.specs.declared.view.Own.{Own}
use Rattle.marks.specs.Seats.{last_number}

-- The seat sees the history as it is: what it knew and what it was told begin it, and the number found is its last. One that
-- raises it has known it as it is.
pub record LooksAccepted (step : Step Said) (before : Me Said View) (found : ℕ) (after : Me Said View) : Type 0 where
  pub grows : IsPrefix before.0.seen after.0.seen
  pub told : IsPrefix before.0.told after.0.seen
  pub number : found ≡ before.0.opening + length after.0.seen
  pub same : after ≡ (record before.0 { seen = after.0.seen }, before.1)
  pub as_order : before.0.raises_accepted ≡ true → after.0.seen ≡ before.0.seen

-- The seat sees the durable number as it is, and the history up to there: more of it would be more than what is durable.
pub record LooksDurable (step : Step Said) (before : Me Said View) (found : ℕ) (after : Me Said View) : Type 0 where
  pub grows : IsPrefix before.0.seen after.0.seen
  pub durable : before.0.durable ≤ found
  pub number : before.0.opening + length after.0.seen ≡ max (last_number before.0) found
  pub same : after ≡ (record before.0 { seen = after.0.seen; durable = found }, before.1)

abbrev pub longer : List Change → List Change → List Change
longer seen told = if nat_le (length seen) (length told) then told else seen

-- what a seat knows once it has taken in what it was told
abbrev pub taking_in : View → View
taking_in view = record view { seen = longer view.seen view.told; durable = max view.durable view.told_durable }

-- The seat takes in what it was told: both what it knew and that begin what it then knows. One that raises the durable number and
-- the base has known both as they are.
pub record TakesIn (step : Step Said) (before : Me Said View) (found : ℕ) (after : Me Said View) : Type 0 where
  pub grows : IsPrefix before.0.seen after.0.seen
  pub told : IsPrefix before.0.told after.0.seen
  pub same : after ≡ (taking_in before.0, before.1)
  pub as_keeper : before.0.raises_durable ≡ true → (before.0.told_durable ≤ before.0.durable) × (before.0.told_base ≤ before.0.base)

-- a command that is said, with the number that a step raises a word to
abbrev pub own_of_said : ℕ → Said → Option Own
own_of_said number (Speaks event) = None
own_of_said number (Adds command) = Some (record { number = number; command = command })

abbrev pub own_after : Step Said → Option Own
own_after step = elim step.said as (λ _. Option Own) [ none ↦ None | some what ↦ own_of_said step.second what ]

abbrev pub changes_said : Said → List Change
changes_said (Speaks event) = []
changes_said (Adds command) = change_of command ∷ []

abbrev pub said_after : Step Said → List Change
said_after step = elim step.said as (λ _. List Change) [ none ↦ [] | some what ↦ changes_said what ]

-- the command that was said is the history's last, and the seat's own under the number after
abbrev pub RaisesAccepted : Mode → Step Said → Me Said View → ℕ → Me Said View → Type 0
RaisesAccepted mode step before found after =
    after
    ≡ (
      record before.0 {
        seen = before.0.seen ++ said_after step;
        commands = before.0.commands + 1;
        own = own_after step;
        client = accepting mode step.second before.0.client;
      },
      before.1,
    )

-- the word becomes the greater of the two
abbrev pub RaisesDurable : Step Said → Me Said View → ℕ → Me Said View → Type 0
RaisesDurable step before found after = after ≡ (record before.0 { durable = max before.0.durable step.first }, before.1)

-- the words stay, and the base becomes this number
abbrev pub RaisesBase : Step Said → Me Said View → ℕ → Me Said View → Type 0
RaisesBase step before found after = after ≡ (record before.0 { base = step.first }, before.1)

-- The request or answer that is said is the client's own. Which client's it is said to be doesn't matter.
abbrev pub speaking : Client → Event → Client
speaking client (Sent by request) = sending client request
speaking client (Answered by outcome) = answering client outcome
speaking client (Numbered by number) = client
speaking client Took = client
speaking client Skipped = client
speaking client (Failed fault) = client

abbrev pub speaking_of : Client → Said → Client
speaking_of client (Speaks event) = speaking client event
speaking_of client (Adds command) = client

abbrev pub spoken : Client → Step Said → Client
spoken client step = elim step.said as (λ _. Client) [ none ↦ client | some what ↦ speaking_of client what ]

-- the client sends a request, and sees the history as it is
pub record Sends (step : Step Said) (before : Me Said View) (found : ℕ) (after : Me Said View) : Type 0 where
  pub grows : IsPrefix before.0.seen after.0.seen
  pub same : after ≡ (record before.0 { seen = after.0.seen; client = spoken before.0.client step }, before.1)

-- the client is answered
abbrev pub Replies : Step Said → Me Said View → ℕ → Me Said View → Type 0
Replies step before found after = after ≡ (record before.0 { client = spoken before.0.client step }, before.1)

-- The client's FLUSH waits for the number found, or is done. To one that raises the accepted number that is the last it knows.
pub record Awaits (mode : Mode) (step : Step Said) (before : Me Said View) (found : ℕ) (after : Me Said View) : Type 0 where
  pub same : after ≡ (record before.0 { client = flushing mode found before.0.client }, before.1)
  pub as_order : before.0.raises_accepted ≡ true → found ≡ last_number before.0

abbrev pub without_keeper : View → View
without_keeper view = record view { raises_durable = false }

-- what a seat knows, without a right, and nobody's
abbrev pub telling : View → View
telling view = record view {
  raises_accepted = false;
  raises_durable = false;
  makes = false;
  told = [];
  told_durable = 0;
  told_base = 0;
  commands = 0;
  own = None;
  client = nobody;
  made = 0;
  gathered = [];
}

abbrev pub keeper_only : View → View
keeper_only view = record (telling view) { raises_durable = true }

-- the right to raise the accepted number goes to a new seat, which knows nothing of the durable one
abbrev pub without_order : View → View
without_order view = record view { raises_accepted = false }

abbrev pub order_only : View → View
order_only view = record (telling view) { raises_accepted = true; durable = 0 }

abbrev pub nothing : View
nothing = record {
  raises_accepted = false;
  raises_durable = false;
  makes = false;
  spent = true;
  opening = 0;
  seen = [];
  durable = 0;
  base = 0;
  told = [];
  told_durable = 0;
  told_base = 0;
  commands = 0;
  own = None;
  client = nobody;
  made = 0;
  gathered = [];
}

abbrev pub hearing : View → View → View
hearing view other = record view { told = other.seen; told_durable = other.durable; told_base = other.base }

-- A seat takes the right to raise the accepted number from another one, with the history: what it knew itself it is told.
abbrev pub taking_order : View → View → View
taking_order view other = record view { raises_accepted = true; seen = other.seen; told = view.seen }

-- a seat takes the right to raise the durable number and the base from another one
abbrev pub taking_keeper : View → View → View
taking_keeper view other = record view { raises_durable = true; durable = other.durable; base = other.base }

abbrev pub learning_base : View → View → View
learning_base view other = record view { base = max view.base other.base }

-- one client more is made, and has a new seat
abbrev pub making : View → View
making view = record view { made = view.made + 1 }

abbrev pub made_by : View → View
made_by view = record (telling view) { client = new_client view.made }

-- a client is gone, and what it sent and was answered is kept
abbrev pub gathering : View → View → View
gathering view other = record view { gathered = view.gathered ++ record { by = other.client.by; events = other.client.mine } ∷ [] }
