-- What a second handle of a file gives is what its reads gave, and it vouches for that.
use Rattle.std.specs.Prelude.{slice_range}
use Rattle.std.proofs.Common.{◌≡◌, ℕ, ◌*◌, ◌-◌, List, subst}
use Rattle.export.specs.Unlocked.{Gave, Given, Vouched, Asked}
use Rattle.image_model.specs.declared.geometry.Geometry.{Geometry}
use Rattle.order_book.specs.Order.{OrderState}
use Rattle.order_book.specs.declared.span.Span.{Span}
use Rattle.regions.specs.Layout.{block_at}
use Rattle.nbdj.specs.declared.second_handle.Seal.{Seal}
use Rattle.nbdj.specs.declared.second_handle.Seal.TheVariants.{Whole}

pub gave : {H : Type 0} (handle : H) (base place : ℕ) (bytes : List ℕ) → Gave Seal handle base place bytes
gave handle base place bytes = Given Whole

pub vouched : {H : Type 0} (handle : H) (first : ℕ) (span : Span) (bytes : List ℕ) (order : OrderState) (geometry : Geometry) (base : ℕ) → base ≡ order.base
    → Gave Seal handle base (block_at geometry span.first) (slice_range bytes (4096 * (span.first - first)) (4096 * (span.end - first)))
    → Vouched Seal handle (record { first = first; span = span; bytes = bytes; order = order })
vouched handle first span bytes order geometry base noted given =
    Asked Whole geometry (subst (λ (n : ℕ). Gave Seal handle n (block_at geometry span.first) (slice_range bytes (4096 * (span.first - first)) (4096 * (span.end - first)))) noted given)
