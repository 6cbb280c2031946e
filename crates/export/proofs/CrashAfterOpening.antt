-- What a crash may leave of a device that was just opened.
use Rattle.std.proofs.Common.{ℕ, ◌+◌, List, [], refl, subst, arith}
use Rattle.checkpoint.specs.Recovery.{IsRecovered}
use Rattle.device_image.specs.Keeper.{KeeperState}
use Rattle.device_image.specs.Keeps.{Keeps}
use Rattle.device_image.specs.Stands.{StandsFor}
use Rattle.disk_model.specs.Disk.{IsSound, LeavesOnly, MayLeave, State}
use Rattle.disk_model.specs.laws.Moments.{begins, ends, weakens}
use Rattle.export.specs.Left.{LeavesHistory}
use Rattle.export.specs.Trusted.{IsTrusted}
use Rattle.image_model.specs.Image.{Image}
use Rattle.shared_store.specs.Parts.{StandsWithin}

-- whatever a crash may leave of a device that was just opened stands for the image that was found
pub just_opened : {D : Type 0} (state : D → State) (honest : D → Type 0) (extent : ℕ) (keeper : KeeperState D) (image : Image)
    → ((image : Image) (number : ℕ) (content : List ℕ) → Keeps keeper (state keeper.disk) image number → MayLeave (state keeper.disk) content → StandsFor content image number)
    → (honest keeper.disk → IsSound extent (state keeper.disk)) → IsRecovered keeper → IsTrusted state honest keeper image
    → LeavesOnly (state keeper.disk) (state keeper.disk) (λ content. StandsFor content image keeper.count)
just_opened state honest extent keeper image kept sound recovered trusted =
    begins (sound trusted.sure)
    (λ content left. subst (λ (n : ℕ). StandsFor content image n) (omega (arith, recovered.base)) (kept image (keeper.base + 0 + 0) content trusted.holds.keeps left))

-- after a history of no commands
pub no_commands : (extent : ℕ) (start now : State) (opening : ℕ) (image : Image) → LeavesOnly start now (λ content. StandsFor content image opening) → IsSound extent now
    → LeavesHistory start now opening image [] opening
no_commands extent start now opening image left sound = record { passed = weakens left stands; left = λ content leaves. stands content (ends left sound content leaves) }
  where
    stands : (content : List ℕ) → StandsFor content image opening → StandsWithin opening image [] opening content
    stands content is = record { stored = []; begins = ([], refl); reaches = omega arith; stands = subst (λ (n : ℕ). StandsFor content image n) (omega arith) is }
