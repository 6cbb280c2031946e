use Rattle.std.proofs.Common.{◌≡◌, ◌*◌, ◌+◌, List, sym, subst}
use Rattle.image_model.specs.Image.{apply_all}
use Rattle.journal_format.specs.declared.touch.TouchedRange.{TouchedRange}
use Rattle.journal_format.specs.GroupList.{changes_of}
use Rattle.journal_format.specs.Touches.{byte_after_touch, kind_after, last_touch}
use Rattle.journal_format.specs.laws.LastTouches.{groups_kind, groups_byte}
use Rattle.journal_format.proofs.laws.last_touches_tell.Goals as goal

pub returns-clause-kinds : goal.returns-clause-kinds
returns-clause-kinds c area first groups content list touched image block =
    subst (λ (ranges : List TouchedRange). (apply_all (changes_of groups) image).kind block ≡ kind_after (last_touch block ranges) (image.kind block)) (sym touched)
    (groups_kind area.blocks content area.from first groups list.stand image block)

pub returns-clause-bytes : goal.returns-clause-bytes
returns-clause-bytes c area first groups content list touched image block offset small =
    subst (λ (ranges : List TouchedRange). (apply_all (changes_of groups) image).byte (4096 * block + offset) ≡ byte_after_touch (last_touch block ranges) content offset (image.byte (4096 * block + offset))) (sym touched)
    (groups_byte area.blocks content area.from first groups list.stand image block offset small)
