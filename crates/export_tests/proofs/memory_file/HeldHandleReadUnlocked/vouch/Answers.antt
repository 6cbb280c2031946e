use Rattle.std.specs.Prelude.{slice_range}
use Rattle.std.proofs.Common.{◌≡◌, ℕ, ◌*◌, ◌-◌, List, subst}
use Rattle.export.specs.Unlocked.{Gave, Vouched, Asked}
use Rattle.image_model.specs.declared.geometry.Geometry.{Geometry}
use Rattle.order_book.specs.Order.{OrderState}
use Rattle.order_book.specs.declared.span.Span.{Span}
use Rattle.regions.specs.Layout.{block_at}
use Rattle.export_tests.specs.declared.memory_file.Seal.{Seal}
use Rattle.export_tests.specs.declared.memory_file.Seal.TheVariants.{Whole}
use Rattle.export_tests.proofs.memory_file.HeldHandleReadUnlocked.vouch.Goals as goal

-- it vouches for what its reads gave
vouched : {H : Type 0} (handle : H) (first : ℕ) (span : Span) (bytes : List ℕ) (order : OrderState) (geometry : Geometry) (base : ℕ) → base ≡ order.base
    → Gave Seal handle base (block_at geometry span.first) (slice_range bytes (4096 * (span.first - first)) (4096 * (span.end - first)))
    → Vouched Seal handle (record { first = first; span = span; bytes = bytes; order = order })
vouched handle first span bytes order geometry base noted given =
    Asked Whole geometry (subst (λ (n : ℕ). Gave Seal handle n (block_at geometry span.first) (slice_range bytes (4096 * (span.first - first)) (4096 * (span.end - first)))) noted given)

pub returns : goal.returns
returns g c = λ yes. vouched _ _ _ _ _ c.args._geometry.now _ c.requires.noted c.requires.given
