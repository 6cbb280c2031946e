-- An image as two lists.
use Rattle.std.specs.Prelude.{ℕ, List, length, slice_index, slice_index_or}
use Rattle.image_model.specs.Image.{Image}
use Rattle.image_model.specs.declared.command.Kind.{Kind}
use Rattle.image_model.specs.declared.command.Kind.TheVariants.{Hole}

-- the bytes of an image, and the states of its blocks, as lists
pub record PlainState : Type 0 where
  pub bytes : List ℕ
  pub kinds : List Kind

-- the image that they are
abbrev pub image_of : PlainState → Image
image_of state = record {
  blocks = length state.kinds;
  byte = λ place. slice_index state.bytes place;
  kind = λ block. slice_index_or state.kinds block Hole;
}
