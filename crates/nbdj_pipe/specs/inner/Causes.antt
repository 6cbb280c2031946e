-- Definitions for contracts between functions of this crate, next to those of `Causes`.
use Rattle.std.specs.Prelude.{◌≡◌, true, false, Ok}
use Rattle.image_model.specs.Edit.{becomes}
use Rattle.nbd_wire.specs.Request.{Message}
use Rattle.export_model.specs.declared.action.Action.TheVariants.{Serve}
use Rattle.export_model.specs.Log.{edit_asked, is_write}
use Rattle.export_model.specs.Serve.{Failure, image_shown}
use Rattle.export_model.specs.World.{World, has_room}
use Rattle.nbdj_pipe.specs.Talk.{verdict_on}

-- The device works, and there is no room for what the edit of this request becomes, which passes judgement and asks for one.
pub record LacksRoom (world : World) (request : Message) : Type 0 where
  pub works : world.stage.stopped ≡ false
  pub judged : verdict_on request.head world.stage.setting.geometry world.stage.setting.flags ≡ Ok Serve
  pub write : is_write request ≡ true
  pub failure : Failure
  pub full : has_room world (becomes (edit_asked request) (image_shown failure world.stage)) ≡ false
