use Rattle.std.proofs.Common.{◌≡◌, ◌≢◌, ◌+◌, ◌*◌, ◌/◌, ◌%◌, ◌<◌, ◌∙◌, ℕ, List, Option, Result, Ok, Err, Some, None, IfOk, get_or, refl, subst, ap, arith}
use Rattle.image_model.specs.Image.{Image}
use Rattle.order_book.specs.Order.{OrderState}
use Rattle.order_book.specs.Shown.{ShowsImage}
use Rattle.order_book.proofs.order.Order.copy_in_memory.Goals as goal
use Rattle.shared_cache.specs.Cache.{CacheState, bytes_seen}

-- a byte of a block in memory is the image's
byte_held : (image : Image) (cache : CacheState) (place byte : ℕ) → ShowsImage image cache → bytes_seen cache (place / 4096) ≢ None
    → ((bytes : List ℕ) → bytes_seen cache (place / 4096) ≡ Some bytes → byte ≡ get_or bytes (place % 4096) 0) → byte ≡ image.byte place
byte_held image cache place byte shows there held = by (bytes_seen cache (place / 4096)) refl
  where
    by : (seen : Option (List ℕ)) → bytes_seen cache (place / 4096) ≡ seen → byte ≡ image.byte place
    by (Some bytes) is = held bytes is ∙ shows.bytes (place / 4096) bytes is (place % 4096) (omega arith)
        ∙ ap image.byte (let same : 4096 * (place / 4096) + place % 4096 ≡ place = omega arith in same)
    by None is = absurd (there is)

image_ok : {V E : Type 0} (items : V → List ℕ) (image : Image) (cache : CacheState) (offset count : ℕ) (result : Result V E) → ShowsImage image cache
    → IfOk result (λ bytes. (k : ℕ) → k < count → bytes_seen cache ((offset + k) / 4096) ≢ None)
    → IfOk result (λ bytes. (k : ℕ) (block : List ℕ) → k < count → bytes_seen cache ((offset + k) / 4096) ≡ Some block
    → get_or (items bytes) k 0 ≡ get_or block ((offset + k) % 4096) 0)
    → IfOk result (λ bytes. (k : ℕ) → k < count → get_or (items bytes) k 0 ≡ image.byte (offset + k))
image_ok items image cache offset count (Ok bytes) shows there same = λ k less. byte_held image cache (offset + k) _ shows (there k less) (λ block seen. same k block less seen)
image_ok items image cache offset count (Err error) shows there same = tt

pub returns-clause-image : goal.returns-clause-image
returns-clause-image g c = λ image.
    subst (λ (order : OrderState). ShowsImage image order.cache → IfOk c.copy_in_memory.result (λ bytes. (k : ℕ) → k < c.args.count → get_or bytes.items k 0 ≡ image.byte (c.args.offset + k))) c.self.view_is
    (λ shows. image_ok (λ bytes. bytes.items) image c.self.inside.cache c.args.offset c.args.count c.copy_in_memory.result shows c.copy_in_memory.ensures.there c.copy_in_memory.ensures.bytes)
