-- which blocks are in memory
use Rattle.std.proofs.Common.{◌≡◌, ◌<◌, ◌+◌, ◌/◌, ◌∙◌, ℕ, None, true, ap, arith}
use Rattle.alloc_map.specs.Codes.{state_at}
use Rattle.image_model.specs.Edit.{ByteEdit}
use Rattle.order_book.specs.Edits.{IsMissing, needs_old}
use Rattle.shared_cache.specs.Blocks.{is_cached}
use Rattle.shared_cache.specs.Cache.{CacheState, LacksBytes, bytes_seen}
use Rattle.shared_cache.specs.laws.Views.{missing_seen}

pub lacks_at : (cache : CacheState) (first count block : ℕ) → block < count → bytes_seen cache (first + block) ≡ None → LacksBytes cache first count
lacks_at cache first count block less none =
    let is = missing_seen cache (first + block) none in
    (block, less, is.0, is.1)

-- the one block of a read is missing exactly where it lacks its bytes
module _ (edit : ByteEdit) (cache : CacheState) (block size : ℕ) (whole : size ≡ 4096) where
  pub missing_of : needs_old edit block ≡ true → LacksBytes cache block (size / 4096) → IsMissing edit cache block
  missing_of needs lacks =
      let at : block ≡ block + lacks.0 = omega (arith, lacks.1, whole) in
      (needs, ap (state_at cache.states) at ∙ lacks.2, ap (λ (b : ℕ). is_cached b cache.blocks) at ∙ lacks.3)

  pub lacks_of : IsMissing edit cache block → LacksBytes cache block (size / 4096)
  lacks_of missing =
      let at : block + 0 ≡ block = omega arith in
      (0, omega (arith, whole), ap (state_at cache.states) at ∙ missing.1, ap (λ (b : ℕ). is_cached b cache.blocks) at ∙ missing.2)
