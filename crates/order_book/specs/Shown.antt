-- when a cache is of an image
use Rattle.std.specs.Prelude.{ℕ, ◌≡◌, ◌≢◌, ◌+◌, ◌*◌, ◌<◌, List, slice_index, Some}
use Rattle.alloc_map.specs.Codes.{state_at}
use Rattle.image_model.specs.declared.command.Kind.TheVariants.{Data}
use Rattle.image_model.specs.Image.{Image}
use Rattle.shared_cache.specs.Cache.{CacheState, bytes_seen}

-- The states are those of the image's blocks, and the bytes that are known are theirs.
pub record ShowsImage (image : Image) (cache : CacheState) : Type 0 where
  pub states : (block : ℕ) → state_at cache.states block ≡ image.kind block
  pub bytes : (block : ℕ) (bytes : List ℕ) → bytes_seen cache block ≡ Some bytes → (k : ℕ) → k < 4096 → slice_index bytes k ≡ image.byte (4096 * block + k)

-- Blocks that aren't data are zero.
abbrev pub IsZeroOutsideData : Image → Type 0
IsZeroOutsideData image = (block : ℕ) → image.kind block ≢ Data → (k : ℕ) → k < 4096 → image.byte (4096 * block + k) ≡ 0
