-- the numbers of what a device holds
use Rattle.std.specs.Prelude.{ℕ, ◌≡◌, count_by, List}
use Rattle.std.specs.List.{range_with_len}
use Rattle.alloc_map.specs.Codes.{is_state}
use Rattle.image_model.specs.Image.{Image}
use Rattle.image_model.specs.declared.command.Kind.{Kind}
use Rattle.image_model.specs.declared.command.Kind.TheVariants.{Data, Zero, Hole}
use Rattle.device_image.specs.Stands.{StandsFor}
use Rattle.checkpoint.specs.declared.report.Report.{Report}

-- how many blocks of an image have this state
abbrev pub blocks_of : Kind → Image → ℕ
blocks_of kind image = count_by (λ block. is_state kind (image.kind block)) (range_with_len 0 image.blocks)

-- The content stands for an image, and these are the numbers of both.
pub record IsReport (report : Report) (content : List ℕ) : Type 0 where
  pub image : Image
  pub stands : StandsFor content image report.commands
  pub blocks : report.blocks ≡ image.blocks
  pub layout : report.layout ≡ stands.header.geometry.layout
  pub before_last : report.before_last ≡ stands.header.before_last
  pub base : report.base ≡ stands.header.base
  pub data_blocks : report.data_blocks ≡ blocks_of Data image
  pub zero_blocks : report.zero_blocks ≡ blocks_of Zero image
  pub hole_blocks : report.hole_blocks ≡ blocks_of Hole image
