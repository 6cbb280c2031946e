-- Definitions for contracts between functions of this crate, next to those of `Talk`.
use Rattle.std.specs.Prelude.{ℕ, Bool, List, ◌++◌, Option}
use Rattle.nbd_wire.specs.Request.{Message}
use Rattle.nbd_wire.specs.declared.message.Reply.{Reply}
use Rattle.nbd_wire.specs.declared.message.SessionFlags.{SessionFlags}
use Rattle.negotiation.specs.inner.Streams.{Writes}
use Rattle.negotiation.specs.Talk.{exchange_text, IsStep}

-- A request had its step. Of what was due before and its reply after it the first bytes were written, and the others are due; where
-- memory ran out or a write failed they are lost.
pub record ServesOn {P : Type 0} (allows : P → Message → SessionFlags → P → Reply → Type 0) (flags : SessionFlags) (old : P) (request : Message) (new : P) (output made : Option (List ℕ)) (before after : List ℕ) (is_kept : Bool) : Type 0 where
  pub reply : Reply
  pub step : IsStep allows flags old (record { request = request; reply = reply }) new
  pub writes : Writes output made (before ++ exchange_text flags (record { request = request; reply = reply })) after is_kept
