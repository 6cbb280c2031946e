-- what an opening has found is what map and data hold
use Rattle.std.proofs.Common.{◌≡◌, List, [], ◌∷◌, ◌++◌, ap, sym, ◌∙◌, subst}
use Rattle.device_image.specs.Holds.{Holds, joined}
use Rattle.device_image.specs.Keeper.{KeeperState}
use Rattle.device_image.specs.Stands.{all_changes, stored_image}
use Rattle.device_image.specs.laws.AfterWrite.{joined_lists}
use Rattle.device_image.specs.laws.Frame.{all_changes-append}
use Rattle.disk_model.specs.Disk.{State}
use Rattle.image_model.specs.Change.{Change}
use Rattle.image_model.specs.Image.{Image, apply_all}
use Rattle.image_model.specs.declared.command.Kind.{Kind}
use Rattle.image_model.specs.declared.geometry.Geometry.{Geometry}
use Rattle.journal_format.specs.GroupList.{changes_of}

-- a keeper that holds an image with an empty journal holds what its map and its data are
pub found : {D : Type 0} (keeper : KeeperState D) (state : State) (image : Image) → Holds keeper state image [] [] → Holds keeper state (stored_image state.seen keeper.geometry keeper.memory.map) [] []
found keeper state image holds =
    let keeps = holds.keeps in
    let stands = keeps.stands in
    let base : Image = stored_image state.seen stands.header.geometry stands.states in
    let before : all_changes keeps.areas.front ≡ [] = sym (joined_lists keeps.areas.front) ∙ ap joined holds.before_last in
    let none : all_changes stands.lists ≡ [] =
    ap all_changes keeps.areas.are ∙ (all_changes-append keeps.areas.front (keeps.areas.groups ∷ [])
    ∙ (ap (λ (l : List Change). l ++ (changes_of keeps.areas.groups ++ [])) before ∙ ap (λ (l : List Change). l ++ []) holds.in_last)) in
    let same : image ≡ stored_image state.seen keeper.geometry keeper.memory.map =
    stands.shows ∙ (ap (λ (l : List Change). apply_all l base) none
    ∙ (ap (λ (g : Geometry). stored_image state.seen g stands.states) (sym keeps.sizes) ∙ ap (λ (m : List Kind). stored_image state.seen keeper.geometry m) (sym keeps.mapped))) in
    subst (λ (i : Image). Holds keeper state i [] []) same holds
