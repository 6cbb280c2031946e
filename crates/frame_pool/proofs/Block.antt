-- The block of memory that cells are allocated for, at any type and any allocator. Assumes `Logic`.
use mathlib.Core.Path.{◌≡◌, sym, ap, ◌∙◌}
use Prim.Native.Nat.{ℕ, zero, suc, ◌*◌, ◌<◌, ◌^◌}
use native.Mathlib.Nat.{zero-mul, suc-mul}
use native.Mathlib.Omega.{arith}
use mathlib.Core.List.{[], ◌∷◌}
use mir.Syntax.{Ty, Args, a_type, ty_array, dcons, dnil}
use mir.Raw.{raw as bare}
use prog.Memory.{size, align, capped}
use prog.Capped.{capped_is}
use prog.RawLaws.{size-raw, align-raw}
use denote.RattleType.{RattleType}
use denote.Param.{param, bounded}
use Rattle.std.proofs.mem.Param.{El, elτ}
use Rattle.std.proofs.alloc.Calls.{Al}
use Rattle.frame_pool.proofs.Memory.{sz}

-- where the product fits a word, the count is zero or the size fits too
pub uncapped : (i k : ℕ) → i * k < 2 ^ 64 → i * capped k ≡ i * k
uncapped zero k h = zero-mul (capped k) ∙ sym (zero-mul k)
uncapped (suc i) k h = let up = suc-mul i k in ap (λ (j : ℕ). suc i * j) (capped_is k (omega arith))

module _ (E : El) where
  -- the type that a block of n cells is allocated for
  abbrev pub block_ty : ℕ → Ty
  block_ty n = bare (ty_array (elτ E) n)

  pub block_size : (n : ℕ) → n * sz E < 2 ^ 64 → capped (size (block_ty n)) ≡ n * sz E
  block_size n fits = ap capped (size-raw (ty_array (elτ E) n)) ∙ capped_is (n * sz E) fits

  pub block_align : (n : ℕ) → capped (align (block_ty n)) ≡ capped (align (elτ E))
  block_align n = ap capped (align-raw (ty_array (elτ E) n))

module _ (E : El) (Z : Al) where
  abbrev pub args : Args
  args = bounded (a_type ∷ a_type ∷ []) (E.row, (Z.row, tt)) (dcons Z.d (dcons Z.drops dnil))

  abbrev pub P : RattleType
  P = param 1 Z.row
