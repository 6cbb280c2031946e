-- Answers that show an image.
use Rattle.std.specs.Prelude.{◌≡◌}
use Rattle.image_model.specs.Image.{Image}
use Rattle.nbd_wire.specs.declared.head.RequestHead.{RequestHead}
use Rattle.nbd_wire.specs.declared.message.Answer.{Answer}
use Rattle.nbd_wire.specs.declared.message.Answer.TheVariants.{Bytes, Done, Refused, States}
use Rattle.request_core.specs.declared.serving.Served.{Served}
use Rattle.request_core.specs.declared.serving.Served.TheVariants as served
use Rattle.export_model.specs.Shown.{shown_by}

-- The bytes of an answer, or its states, are exactly those that the image shows in the range of the request.
abbrev pub TellsImage : Image → RequestHead → Answer → Type 0
TellsImage image head Done = Unit {0}
TellsImage image head (Refused errno) = Unit {0}
TellsImage image head (Bytes read) = Bytes read ≡ shown_by image head
TellsImage image head (States runs) = States runs ≡ shown_by image head

-- the same of what a request comes to
abbrev pub ServesImage : Image → RequestHead → Served → Type 0
ServesImage image head (served.Ready reply) = TellsImage image head reply.answer
ServesImage image head (served.Wait number) = Unit {0}
ServesImage image head (served.NoRoom back) = Unit {0}
