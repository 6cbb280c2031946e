-- When a plain image is an image.
use Rattle.std.specs.Prelude.{ℕ, ◌≡◌, ◌*◌, ◌+◌, ◌<◌, length, slice_index, slice_index_or}
use Rattle.image_model.specs.Image.{Image}
use Rattle.image_model.specs.declared.command.Kind.TheVariants.{Hole}
use Rattle.plain_image.specs.Plain.{PlainState}

-- the block has the same state and the same bytes in both
pub record IsPlainBlock (plain : PlainState) (image : Image) (block : ℕ) : Type 0 where
  pub kind : slice_index_or plain.kinds block Hole ≡ image.kind block
  pub bytes : (k : ℕ) → k < 4096 → slice_index plain.bytes (4096 * block + k) ≡ image.byte (4096 * block + k)

-- It has as many blocks, and each of them is the same.
pub record IsPlain (plain : PlainState) (image : Image) : Type 0 where
  pub blocks : length plain.kinds ≡ image.blocks
  pub size : length plain.bytes ≡ 4096 * image.blocks
  pub same : (block : ℕ) → block < image.blocks → IsPlainBlock plain image block
