use Rattle.device_image.specs.laws.Sole.{groups_sound, map_sound, one_image, one_number}
use Rattle.device_image.proofs.laws.stands_laws.Goals as goal

pub returns-clause-one_image : goal.returns-clause-one_image
returns-clause-one_image c content image other number next stands also = one_image content image other number next stands also

pub returns-clause-one_number : goal.returns-clause-one_number
returns-clause-one_number c content image other number next stands also = one_number content image other number next stands also

pub returns-clause-good_map : goal.returns-clause-good_map
returns-clause-good_map c content image number stands bad = map_sound content image number stands bad

pub returns-clause-good_groups : goal.returns-clause-good_groups
returns-clause-good_groups c content image number stands bad = groups_sound content image number stands bad
