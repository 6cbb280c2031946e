-- What is owed for a request to be served, and what it then comes to.
use Rattle.std.specs.Prelude.{ℕ, ◌≡◌, ◌≢◌}
use Rattle.image_model.specs.Image.{Image, apply_all}
use Rattle.image_model.specs.declared.geometry.Geometry.{Geometry}
use Rattle.marks.specs.Known.{PassState}
use Rattle.marks.specs.declared.view.Client.{Client}
use Rattle.nbd_wire.specs.Request.{Message}
use Rattle.request_core.specs.declared.serving.Served.{Served}
use Rattle.request_core.specs.declared.serving.Terms.{Terms}
use Rattle.export_model.specs.declared.step.Mode.{Mode}
use Rattle.shared_store.specs.Answers.{ServesImage}
use Rattle.shared_store.specs.Logs.{IsAt, IsLogOf}
use Rattle.shared_store.specs.Orders.{SpanRead, Trusting}
use Rattle.export.specs.inner.Submits.{FitsServed, IsClientFor, IsServedFor}

-- A caller may have a request served that isn't a DISC, under terms of the export's own geometry. If the board keeps a log, the log is
-- of the export's opening, and the client has sent the request and has no answer yet.
pub record MayServe (logs trusted : Type 0) (mode : Mode) (image : Image) (opening : ℕ) (first : Image) (vouches : SpanRead → Type 0) (sure : Type 0) (own : Geometry) (request : Message) (terms : Terms) (client : Client) : Type 0 where
  pub kind : request.head.kind ≢ 2
  pub geometry : terms.geometry ≡ own
  pub log : logs → IsLogOf opening first vouches sure terms.mode trusted mode image
  pub asked : logs → IsAt request client

-- What a served request comes to: what its pass then knows, what its client may be answered, that an answer is of the request's type and
-- one that the verdict allows, and that bytes or states are those of the image after the history that the pass then knows.
pub record IsServedAs (logs trusted : Type 0) (image : Image) (opening : ℕ) (first : Image) (vouches : SpanRead → Type 0) (sure : Type 0) (request : Message) (terms : Terms) (old new : PassState) (result : Served) : Type 0 where
  pub served : IsServedFor opening first (Trusting opening first vouches sure) request terms.mode old new result
  pub client : IsClientFor logs trusted image old new result
  pub fits : FitsServed terms.geometry terms.flags request result
  pub tells : Trusting opening first vouches sure (ServesImage (apply_all new.history first) request.head result)
