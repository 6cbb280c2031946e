-- What the log has of the sessions of a server.
use Rattle.std.specs.Prelude.{ℕ, zero, suc, Bool, true, ◌≡◌, ◌<◌, ◌⊎◌, List, [], ◌∷◌, ◌++◌, Option, Result}
use Rattle.export.specs.Begun.{IsBegun, WaitingState}
use Rattle.export.specs.Submits.{IsJudged}
use Rattle.export_model.specs.OneLog.{Call, RosterState}
use Rattle.export_model.specs.Verdict.{verdict}
use Rattle.export_model.specs.declared.event.Event.{Event}
use Rattle.export_model.specs.declared.event.Event.TheVariants.{Sent, Answered}
use Rattle.export_model.specs.declared.step.Mode.{Mode}
use Rattle.image_model.specs.Image.{Image}
use Rattle.image_model.specs.declared.geometry.Geometry.{Geometry}
use Rattle.marks.specs.Known.{PassState}
use Rattle.nbd_wire.specs.Reply.{IsAnswerTo}
use Rattle.nbd_wire.specs.Request.{Message}
use Rattle.nbd_wire.specs.declared.message.Reply.{Reply}
use Rattle.nbd_wire.specs.declared.message.SessionFlags.{SessionFlags}
use Rattle.negotiation.specs.Answered.{Offer}
use Rattle.negotiation.specs.Serving.{IsServed}
use Rattle.negotiation.specs.declared.end.End.{End}

-- What the log has of a client gains this request and its answer, and nothing else. The rules on requests allow the answer.
abbrev pub IsLogged : Geometry → ℕ → List Event → Message → SessionFlags → List Event → Reply → Type 0
IsLogged geometry by old request flags new reply =
    (new ≡ old ++ Sent by request ∷ Answered by reply.answer ∷ []) × IsJudged (verdict request.head geometry flags) request reply.answer

-- A session over some streams, as `serve_session` has it, took what the log has of its client from `old` to `new`: it gained the first of the
-- requests that were handed over, each with the answer that it got.
pub record IsSession (offer : Offer) (geometry : Geometry) (by : ℕ) (old new : List Event) : Type 0 where
  pub input : Option (List ℕ)
  pub left : Option (List ℕ)
  pub output : Option (List ℕ)
  pub made : Option (List ℕ)
  pub end : Result (Unit {0}) End
  pub served : IsServed (IsLogged geometry by) offer old new input left output made end

-- Where sessions may have several requests in progress: a client gained one request and its answer, which is of the request's kind.
pub record IsShare (geometry : Geometry) (by : ℕ) (old new : List Event) : Type 0 where
  pub request : Message
  pub flags : SessionFlags
  pub reply : Reply
  pub kind : IsAnswerTo flags request.head.kind reply.answer
  pub logged : IsLogged geometry by old request flags new reply

-- All that the log has of a client comes from this many sessions, one after another; or, if sessions may have several requests in progress, from
-- its shares of them too.
abbrev pub AreSessions : Offer → Geometry → Bool → ℕ → ℕ → List Event → Type 0
AreSessions offer geometry several by zero events = events ≡ []
AreSessions offer geometry several by (suc count) events =
    (earlier : List Event) × AreSessions offer geometry several by count earlier
    × (IsSession offer geometry by earlier events ⊎ ((several ≡ true) × IsShare geometry by earlier events))

-- All that the log has of a client comes from sessions, or from shares of them.
abbrev pub HasSessions : Offer → Geometry → Bool → ℕ → List Event → Type 0
HasSessions offer geometry several by events = ∥ ((count : ℕ) × AreSessions offer geometry several by count events) ∥₁

-- A request waits that a client has begun. The log has sessions and shares of them of that client, up to this request.
abbrev pub WaitsOn : ℕ → Image → (Type 0 → Type 0) → Offer → Geometry → Bool → ℕ → WaitingState → Type 0
WaitsOn opening first Sure offer geometry several by waiting =
    ∥ ((request : Message) × (kept : Mode) × (flags : SessionFlags) × (old : PassState) × IsBegun opening first Sure request kept geometry flags old waiting
    × (old.client.by ≡ by) × HasSessions offer geometry several by old.client.mine) ∥₁

-- The same of each of these clients.
abbrev pub AreServed : Offer → Geometry → Bool → List Call → Type 0
AreServed offer geometry several [] = Unit {0}
AreServed offer geometry several (call ∷ calls) = HasSessions offer geometry several call.by call.events × AreServed offer geometry several calls

-- one of these calls is of the client with this number
abbrev pub HasCall : ℕ → List Call → Type 0
HasCall by [] = ⊥
HasCall by (call ∷ calls) = (call.by ≡ by) ⊎ HasCall by calls

-- the list has each client that was made
abbrev pub HasAll : RosterState → Type 0
HasAll roster = (by : ℕ) → by < roster.made → ∥ HasCall by roster.calls ∥₁
