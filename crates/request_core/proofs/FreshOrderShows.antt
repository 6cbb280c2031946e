-- what an order that was made of an opened device shows
use Rattle.std.proofs.Common.{◌≡◌, ◌≢◌, ℕ, ◌+◌, ◌*◌, ◌/◌, Bool, true, false, if◌then◌else◌, List, [], ap, sym, refl, ◌∙◌, arith}
use Rattle.std.proofs.lemmas.Bool.{both_ways}
use Rattle.alloc_map.specs.Codes.{state_at}
use Rattle.device_image.specs.Holds.{IsBase}
use Rattle.device_image.specs.Stands.{is_data}
use Rattle.image_model.specs.Image.{Image}
use Rattle.image_model.specs.declared.command.Kind.{Kind}
use Rattle.image_model.specs.declared.command.Kind.TheVariants.{Data, Zero, Hole}
use Rattle.image_model.specs.declared.geometry.Geometry.{Geometry}
use Rattle.order_book.specs.Shown.{IsZeroOutsideData}

not_data : (kind : Kind) → kind ≢ Data → is_data kind ≡ false
not_data Data other = absurd (other refl)
not_data Zero other = refl
not_data Hole other = refl

if_none : (test : Bool) (x : ℕ) → test ≡ false → (if test then x else 0) ≡ 0
if_none true x is = absurd (both_ways true is refl)
if_none false x is = refl

-- map and data of an empty journal hold an image whose blocks are zero where they aren't data
pub zero_outside : (image : Image) (content : List ℕ) (geometry : Geometry) (states : List Kind) → IsBase image content geometry states [] → IsZeroOutsideData image
zero_outside image content geometry states base block other k below =
    let place = 4096 * block + k in
    let own : place / 4096 ≡ block = omega (arith, below) in
    let none : is_data (state_at states (place / 4096)) ≡ false = not_data (state_at states (place / 4096)) (λ is. other (base.kinds block ∙ sym (ap (state_at states) own) ∙ is)) in
    base.bytes block k below refl ∙ if_none _ _ none
