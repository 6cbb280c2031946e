-- what the device of a world is after a step
use Rattle.std.proofs.Common.{◌≡◌, ◌⊎◌, inl, inr, ℕ, ◌+◌, ◌≤◌, Some, List, [], ◌∷◌, ◌++◌, append_assoc, length, length-append, map, take, drop, sym, ◌∙◌, ap, subst, refl, arith, ◌-◌}
use Rattle.std.proofs.lemmas.List.{take-append-le, take_at, take-append-drop, length-take-le}
use Rattle.std.specs.List.{AllByRecursion}
use Rattle.device_image.specs.Keeper.{KeeperState}
use Rattle.device_image.specs.Keeps.{Keeps}
use Rattle.device_image.specs.Stands.{StandsFor}
use Rattle.disk_model.specs.Disk.{State}
use Rattle.image_model.specs.Change.{Change, AreChanges, change_of}
use Rattle.image_model.specs.Image.{Image, apply_all}
use Rattle.image_model.specs.declared.geometry.Geometry.{Geometry}
use Rattle.journal_format.specs.Group.{Numbered}
use Rattle.order_book.specs.Order.{OrderState}
use Rattle.export_steps.specs.Parts.{IsDiskOf, IsKeeperOf, IsOrderOf, StandsAfter, copies_of, fronts_at, fronts_of, last_commands, lefts_by, part, turned_at}
use Rattle.request_core.specs.laws.Commands.{apply_append, all_behind, all_front, commands_length}
use Rattle.export_model.specs.World.{Stage, World, image_after}
use Rattle.export_steps.specs.laws.Orders.{hand_is}
use Rattle.device_image.specs.Holds.{Holds, joined}
use Rattle.std.proofs.Math.Seq.{take-add}
use Rattle.export_model.specs.Checkpoint.{last_turned}
use Rattle.export_model.specs.Law.{IsRising, IsWithin}
use Rattle.export_model.specs.laws.Within.{rising_through, turned_through}
use Rattle.export_model.specs.laws.Parts.{copied_same, part_more, part_same}

-- the commands in the areas before the last
abbrev pub first_commands : Stage → List Change
first_commands stage = part stage.order stage.base (turned_at stage)

-- an order with commands more still begins as it did
pub stands_more : (order more : List Change) (image : Image) (opening least : ℕ) (content : List ℕ) → StandsAfter order image opening least content
    → StandsAfter (order ++ more) image opening least content
stands_more order more image opening least content stands = record {
  count = stands.count;
  reaches = stands.reaches;
  within = let within = stands.within in omega (arith, within, length-append order more);
  stands = subst (λ (commands : List Change). StandsFor content (apply_all commands image) (opening + stands.count))
      (sym (take-append-le stands.count order more stands.within)) stands.stands;
}

-- what reaches more reaches less
pub stands_less : (order : List Change) (image : Image) (opening least less : ℕ) (content : List ℕ) → less ≤ least → StandsAfter order image opening least content
    → StandsAfter order image opening less content
stands_less order image opening least less content fewer stands = record {
  count = stands.count;
  reaches = let reaches = stands.reaches in omega (arith, reaches, fewer);
  within = stands.within;
  stands = stands.stands;
}

-- the commands up to a number are those up to an earlier one and those between the two
pub take_part : (order : List Change) (base until : ℕ) → base ≤ until → take until order ≡ take base order ++ part order base until
take_part order base until above =
    ap (λ (n : ℕ). take n order) (let same : until ≡ base + (until - base) = omega (arith, above) in same) ∙ take-add base (until - base) order

-- what is in map and data stands before the last area
pub through_turned : (base : ℕ) (turned : List ℕ) (stored : ℕ) → IsRising base turned stored → base ≤ last_turned base turned
through_turned base [] stored is = omega arith
through_turned base (first ∷ rest) stored is = let here = is.0 in let behind = through_turned first rest stored is.1 in omega (arith, here, behind)

-- no commands stand between a number and itself
pub part_none : (order : List Change) (from until : ℕ) → from ≡ until → part order from until ≡ []
part_none order from until same = ap (λ (n : ℕ). take n (drop from order)) (let none : until - from ≡ 0 = omega (arith, same) in none)

-- commands that come to the end of the order are in no area before the last
fronts_same : (base : ℕ) (turned : List ℕ) (stored : ℕ) (order more : List Change) → stored ≤ length order → IsRising base turned stored
    → fronts_of (order ++ more) base turned ≡ fronts_of order base turned
fronts_same base [] stored order more within is = refl
fronts_same base (first ∷ rest) stored order more within is =
    let below = is.0 in let through = rising_through first rest stored is.1 in
    let here = part_same base first order more (omega (arith, below)) (omega (arith, through, within)) in
    let behind = fronts_same first rest stored order more within is.1 in
    λ i. here i ∷ behind i

-- and change nothing of what these leave to copy
copies_same : (base : ℕ) (turned : List ℕ) (stored : ℕ) (order more : List Change) → stored ≤ length order → IsRising base turned stored
    → copies_of (order ++ more) base turned ≡ copies_of order base turned
copies_same base [] stored order more within is = refl
copies_same base (first ∷ rest) stored order more within is =
    let below = is.0 in let through = rising_through first rest stored is.1 in
    let here = copied_same base first order more (omega (arith, below)) (omega (arith, through, within)) in
    let behind = copies_same first rest stored order more within is.1 in
    λ i. here i ∷ behind i

pub lefts_same : (left base : ℕ) (turned : List ℕ) (stored : ℕ) (order more : List Change) → stored ≤ length order → IsRising base turned stored
    → lefts_by (order ++ more) left turned ≡ lefts_by order left turned
lefts_same left base [] stored order more within is = refl
lefts_same left base (first ∷ rest) stored order more within is = ap (λ (l : List ℕ). left ∷ l) (copies_same first rest stored order more within is.1)

-- the commands of all these areas, one area after another
joined_fronts : (base : ℕ) (turned : List ℕ) (stored : ℕ) (order : List Change) → IsRising base turned stored
    → joined (fronts_of order base turned) ≡ part order base (last_turned base turned)
joined_fronts base [] stored order is = sym (part_none order base base refl)
joined_fronts base (first ∷ rest) stored order is =
    let below = is.0 in
    ap (λ (l : List Change). part order base first ++ l) (joined_fronts first rest stored order is.1)
    ∙ sym (part_more base first (last_turned first rest) order (omega (arith, below)) (through_turned first rest stored is.1))

-- how the numbers of a stage stand to one another
pub record IsOrdered (stage : Stage) : Type 0 where
  pub rising : IsRising stage.base stage.turned stage.stored
  pub base : stage.base ≤ turned_at stage
  pub turned : turned_at stage ≤ stage.stored
  pub stored : stage.stored ≤ length stage.order

pub ordered : (world : World) → IsWithin world → IsOrdered world.stage
ordered world within =
    let stored = within.stored in let sealed = within.sealed in
    record {
      rising = within.rising;
      base = through_turned world.stage.base world.stage.turned world.stage.stored within.rising;
      turned = turned_through world.stage.base world.stage.turned world.stage.stored within.rising;
      stored = omega (arith, stored, sealed);
    }

module _ (stage : Stage) (is : IsOrdered stage) where
  -- what a keeper holds makes the image of what is stored
  pub image_held : (image : Image) → apply_all (last_commands stage) (apply_all (first_commands stage) (image_after stage.order stage.base image)) ≡ image_after stage.order stage.stored image
  image_held image =
      sym (ap (apply_all (last_commands stage)) (ap (λ (l : List Change). apply_all l image) (take_part stage.order stage.base (turned_at stage) is.base) ∙ apply_append (take stage.base stage.order) (first_commands stage) image))
      ∙ sym (ap (λ (l : List Change). apply_all l image) (take_part stage.order (turned_at stage) stage.stored is.turned) ∙ apply_append (take (turned_at stage) stage.order) (last_commands stage) image)

  pub joined_at : joined (fronts_at stage) ≡ first_commands stage
  joined_at = joined_fronts stage.base stage.turned stage.stored stage.order is.rising

  pub keeps_of : {D : Type 0} (keeper : KeeperState D) (failures : ℕ) (state : State) → IsKeeperOf stage keeper failures
      → Holds keeper state (image_after stage.order stage.base stage.setting.image) (fronts_at stage) (last_commands stage)
      → Keeps keeper state (image_after stage.order stage.stored stage.setting.image) (stage.setting.opening + stage.stored)
  keeps_of keeper failures state kept holds =
      subst (λ (n : ℕ). Keeps keeper state (image_after stage.order stage.stored stage.setting.image) n) (sym holds.keeps.counted ∙ kept.count)
      (subst (λ (i : Image). Keeps keeper state i (keeper.base + length (joined (fronts_at stage)) + length (last_commands stage)))
      (ap (λ (l : List Change). apply_all (last_commands stage) (apply_all l (image_after stage.order stage.base stage.setting.image))) joined_at ∙ image_held stage.setting.image) holds.keeps)

  -- commands that come to the end of the order are not in the last area
  pub last_stay : (more : List Change) → part (stage.order ++ more) (turned_at stage) stage.stored ≡ last_commands stage
  last_stay more = part_same (turned_at stage) stage.stored stage.order more is.turned is.stored

  -- the device stays that of a world whose order grows
  pub disk_grows : {D : Type 0} (more : List Change) (sealed durable : ℕ) (keeper : KeeperState D) (state : State)
      → IsDiskOf stage keeper state → IsDiskOf (record stage { order = stage.order ++ more; sealed = sealed; durable = durable }) keeper state
  disk_grows more sealed durable keeper state disk =
      let base = is.base in let turned = is.turned in let stored = is.stored in
      record {
        holds = λ works.
            subst (λ (l : List Change). Holds keeper state (image_after (stage.order ++ more) stage.base stage.setting.image) (fronts_of (stage.order ++ more) stage.base stage.turned) l) (sym (last_stay more))
            (subst (λ (f : List (List Change)). Holds keeper state (image_after (stage.order ++ more) stage.base stage.setting.image) f (last_commands stage))
            (sym (fronts_same stage.base stage.turned stage.stored stage.order more is.stored is.rising))
            (subst (λ (commands : List Change). Holds keeper state (apply_all commands stage.setting.image) (fronts_at stage) (last_commands stage))
            (sym (take-append-le stage.base stage.order more (omega (arith, base, turned, stored)))) (disk.holds works)));
        leaves = λ content left. stands_more stage.order more stage.setting.image stage.setting.opening stage.stored content (disk.leaves content left);
      }

module _ (stage : Stage) (order : OrderState) (group : Numbered) (of : IsOrderOf stage order (Some group)) (within : stage.sealed ≤ length stage.order) where
  -- the order up to the end of the group in hand
  taken : take stage.sealed stage.order ≡ take stage.stored stage.order ++ map change_of group.commands
  taken =
      let hand = of.hand in
      let count = length-take-le stage.stored stage.order (omega (arith, hand, within)) in
      let whole = sym (take-append-drop stage.stored stage.order) ∙ (ap (λ (l : List Change). take stage.stored stage.order ++ l) of.behind
      ∙ sym (append_assoc (take stage.stored stage.order) (map change_of group.commands) (map change_of order.pending))) in
      ap (take stage.sealed) whole
      ∙ take_at (take stage.stored stage.order ++ map change_of group.commands) (map change_of order.pending) stage.sealed
      (omega (arith, length-append (take stage.stored stage.order) (map change_of group.commands), count, hand))

  pub image_grows : (image : Image) → apply_all (map change_of group.commands) (image_after stage.order stage.stored image) ≡ image_after stage.order stage.sealed image
  image_grows image = sym (apply_append (take stage.stored stage.order) (map change_of group.commands) image) ∙ ap (λ (l : List Change). apply_all l image) (sym taken)

  -- the commands of the last area once the group is stored there
  pub last_grows : turned_at stage ≤ stage.stored → part stage.order (turned_at stage) stage.sealed ≡ last_commands stage ++ map change_of group.commands
  last_grows behind =
      let hand = of.hand in
      part_more (turned_at stage) stage.stored stage.sealed stage.order behind (omega (arith, hand))
      ∙ ap (λ (l : List Change). last_commands stage ++ l) (hand_is stage order group of)

  pub number_grows : (stage.setting.opening + stage.stored) + length group.commands ≡ stage.setting.opening + stage.sealed
  number_grows = let hand = of.hand in omega (arith, hand, commands_length group)

  -- the commands of the group are ones that the image takes
  pub group_takes : {D : Type 0} (keeper : KeeperState D) (failures : ℕ) → IsKeeperOf stage keeper failures → AreChanges keeper.geometry.blocks (map change_of group.commands)
  group_takes keeper failures kept =
      subst (λ (g : Geometry). AreChanges g.blocks (map change_of group.commands)) (sym kept.geometry)
      (all_front _ (map change_of group.commands) (map change_of order.pending) (subst (AllByRecursion _) of.behind
      (all_behind _ (take stage.stored stage.order) (drop stage.stored stage.order) (subst (AllByRecursion _) (sym (take-append-drop stage.stored stage.order)) kept.takes))))

  -- what a crash leaves while the group is stored: the image without or with it
  pub either_stands : (content : List ℕ)
      → StandsFor content (image_after stage.order stage.stored stage.setting.image) (stage.setting.opening + stage.stored)
      ⊎ StandsFor content (apply_all (map change_of group.commands) (image_after stage.order stage.stored stage.setting.image)) ((stage.setting.opening + stage.stored) + length group.commands)
      → StandsAfter stage.order stage.setting.image stage.setting.opening stage.stored content
  either_stands content (inl without) = record {
    count = stage.stored;
    reaches = omega arith;
    within = let hand = of.hand in omega (arith, hand, within);
    stands = without;
  }
  either_stands content (inr whole) = record {
    count = stage.sealed;
    reaches = let hand = of.hand in omega (arith, hand);
    within = within;
    stands = subst (λ (n : ℕ). StandsFor content (image_after stage.order stage.sealed stage.setting.image) n) number_grows
        (subst (λ (i : Image). StandsFor content i ((stage.setting.opening + stage.stored) + length group.commands)) (image_grows stage.setting.image) whole);
  }
