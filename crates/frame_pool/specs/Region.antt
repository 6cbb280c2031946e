-- the parts of a region
use Rattle.std.specs.Prelude.{◌≡◌, ℕ, length}
use Rattle.frame_pool.specs.declared.cells.Base.{Base}
use Rattle.frame_pool.specs.declared.cells.Cells.{Cells}
use Rattle.frame_pool.specs.declared.cells.Deed.{Deed}

-- This many cells, and the right to give them back to this allocator, are those of one block, which begins here.
pub record IsRegion {X A : Type 0} (base : Base X) (len : ℕ) (cells : Cells X) (deed : Deed X A) (alloc : A) : Type 0 where
  pub cells_at : cells.at ≡ base.ptr
  pub cells_count : length cells.slots ≡ len
  pub deed_at : deed.at ≡ base.ptr
  pub deed_len : deed.len ≡ len
  pub deed_alloc : deed.alloc ≡ alloc
