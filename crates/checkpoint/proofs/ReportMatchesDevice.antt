-- The report of a device, by what was read of it.
use Rattle.std.proofs.Common.{◌≡◌, ℕ, zero, suc, get_or, ◌+◌, ◌<◌, ◌%◌, Bool, cond, count_by, Option, Some, None, List, [], ◌∷◌, ◌++◌, length, map, refl, sym, ◌∙◌, ap, arith, subst}
use Rattle.std.specs.List.{range_with_len}
use Rattle.std.proofs.lemmas.List.{append-nil}
use Rattle.std.proofs.lemmas.List.FromFn.{fill_by_all}
use Rattle.std.proofs.lemmas.List.Sums.{sum_by-cons}
use Rattle.alloc_map.specs.Codes.{is_state, state_at}
use Rattle.disk_model.specs.Disk.{State}
use Rattle.header_slots.specs.declared.header.Header.{Header}
use Rattle.image_model.specs.Change.{Change}
use Rattle.image_model.specs.Image.{Image, apply_all}
use Rattle.image_model.specs.declared.command.Kind.{Kind}
use Rattle.image_model.specs.declared.command.Kind.TheVariants.{Data, Zero, Hole}
use Rattle.image_model.specs.declared.side.Side.{Side}
use Rattle.journal_format.specs.Area.{AreaState}
use Rattle.journal_format.specs.GroupList.{changes_of, next_behind}
use Rattle.journal_format.specs.Touches.{kind_after, last_touch, later}
use Rattle.journal_format.specs.declared.touch.TouchedRange.{TouchedRange}
use Rattle.journal_format.specs.laws.LastTouches.{groups_kind}
use Rattle.device_image.specs.Keeper.{AreStatesAfter, PlanState, earlier_of}
use Rattle.device_image.specs.Keeps.{AreHeld}
use Rattle.device_image.specs.Stands.{all_changes, stored_image}
use Rattle.device_image.specs.laws.Frame.{all_changes-append, apply_all-append, blocks-apply_all}
use Rattle.checkpoint.specs.inner.Opening.{IsOpened}
use Rattle.checkpoint.specs.Report.{IsReport, blocks_of}
use Rattle.checkpoint.specs.inner.Report.{AreOf, AreStatesBehind, AreStatesTurned}
use Rattle.checkpoint.specs.Keeper.{AreSized}
use Rattle.checkpoint.proofs.OpeningKeepsImage.{last_number, opened_image, opened_stands}
use Rattle.journal_format.specs.declared.touch.Touch.{Touch}
use Rattle.journal_format.specs.declared.touch.Touch.TheVariants.{Put, Clear}
use Rattle.journal_format.specs.Spelling.{StoredGroup}
use Rattle.image_model.specs.declared.geometry.Geometry.{Geometry}

count_map : (p : Kind → Bool) (f : ℕ → Kind) (places : List ℕ) → count_by p (map f places) ≡ count_by (λ place. p (f place)) places
count_map p f [] = refl
count_map p f (place ∷ places) =
    sum_by-cons (λ kind. cond (p kind) 1 0) (f place) (map f places)
    ∙ ap (λ (n : ℕ). cond (p (f place)) 1 0 + n) (count_map p f places)
    ∙ sym (sum_by-cons (λ (k : ℕ). cond (p (f k)) 1 0) place places)

-- the blocks of one state, counted in a map of an image's states
pub blocks_counted : (kind : Kind) (image : Image) (states : List Kind) → length states ≡ image.blocks → ((block : ℕ) → block < image.blocks → state_at states block ≡ image.kind block) → count_by (is_state kind) states ≡ blocks_of kind image
blocks_counted kind image states count each =
    ap (count_by (is_state kind)) (fill_by_all image.kind states image.blocks Hole count each)
    ∙ count_map (is_state kind) image.kind (range_with_len 0 image.blocks)

-- the last touch of a block in areas that stand in the ring one after another
abbrev last_touch_in : ℕ → List AreaState → Option Touch
last_touch_in block [] = None
last_touch_in block (area ∷ areas) = later (last_touch block area.touched) (last_touch_in block areas)

-- the later of two touches counts
kind_later : (touch other : Option Touch) (kind : Kind) → kind_after other (kind_after touch kind) ≡ kind_after (later touch other) kind
kind_later touch None kind = refl
kind_later touch (Some (Put place)) kind = refl
kind_later touch (Some (Clear cleared)) kind = refl

-- the lists of the areas before the last
front_kind : (sides : List ℕ) (geometry : Geometry) (next : ℕ) (lists : List (List StoredGroup)) (areas : List AreaState) (state : State) → AreHeld sides geometry next lists areas state → (image : Image) (block : ℕ) → block < geometry.blocks
    → (apply_all (all_changes lists) image).kind block ≡ kind_after (last_touch_in block areas) (image.kind block)
front_kind [] geometry next [] [] state held image block below = refl
front_kind [] geometry next [] (area ∷ areas) state held image block below = absurd held
front_kind [] geometry next (groups ∷ lists) areas state held image block below = absurd held
front_kind (side ∷ sides) geometry next [] areas state held image block below = absurd held
front_kind (side ∷ sides) geometry next (groups ∷ lists) [] state held image block below = absurd held
front_kind (side ∷ sides) geometry next (groups ∷ lists) (area ∷ areas) state held image block below =
    ap (λ (i : Image). i.kind block) (apply_all-append (changes_of groups) (all_changes lists) image)
    ∙ front_kind sides geometry (next_behind next groups) lists areas state held.2 (apply_all (changes_of groups) image) block below
    ∙ ap (kind_after (last_touch_in block areas))
    (groups_kind area.blocks state.seen area.from next groups held.1.list.stand image block
    ∙ ap (λ (touch : Option Touch). kind_after touch (image.kind block)) (sym (held.1.touched block (omega (arith, below, held.0.blocks)))))
    ∙ kind_later (last_touch block area.touched) (last_touch_in block areas) (image.kind block)

-- the states after these areas, by what touched each block last
turned_states : (plans : List PlanState) (before turned : List Kind) → AreStatesTurned plans before turned → (block : ℕ) → block < length before
    → state_at turned block ≡ kind_after (last_touch_in block (earlier_of plans)) (state_at before block)
turned_states [] before turned same block below = ap (λ (states : List Kind). state_at states block) same
turned_states (plan ∷ plans) before turned steps block below =
    turned_states plans steps.0 turned steps.2 block (omega (arith, below, steps.1.count))
    ∙ ap (kind_after (last_touch_in block (earlier_of plans))) (steps.1.each block below)
    ∙ kind_later (last_touch block plan.first.touched) (last_touch_in block (earlier_of plans)) (state_at before block)

pub turned_count : (plans : List PlanState) (before turned : List Kind) → AreStatesTurned plans before turned → length turned ≡ length before
turned_count [] before turned same = ap length same
turned_count (plan ∷ plans) before turned steps = turned_count plans steps.0 turned steps.2 ∙ steps.1.count

module _ (state : State) (header : Header) (slot : Side) (states : List Kind) (plans : List PlanState) (area : AreaState) (opened : IsOpened state header slot states plans area) (fits : header.base < 18446744073709551616) where
  base : Image
  base = stored_image state.seen header.geometry states

  shown : opened_image state header slot states plans area opened fits ≡ apply_all (changes_of opened.areas.groups) (apply_all (all_changes opened.areas.front) base)
  unfolding base
  shown =
      ap (λ (changes : List Change). apply_all changes base)
      (ap all_changes opened.areas.are ∙ all_changes-append opened.areas.front (opened.areas.groups ∷ []) ∙ ap (λ (more : List Change). all_changes opened.areas.front ++ more) (append-nil (changes_of opened.areas.groups)))
      ∙ apply_all-append (all_changes opened.areas.front) (changes_of opened.areas.groups) base

  -- the states before the last area
  front_states : (after : List Kind) → length states ≡ header.geometry.blocks → AreStatesBehind plans area states after → (block : ℕ) → block < header.geometry.blocks
      → state_at after block ≡ kind_after (last_touch block area.touched) ((apply_all (all_changes opened.areas.front) base).kind block)
  unfolding base
  front_states after count behind block below =
      behind.2.each block (omega (arith, below, count, turned_count plans states behind.0 behind.1))
      ∙ ap (kind_after (last_touch block area.touched)) (turned_states plans states behind.0 behind.1 block (omega (arith, below, count))
      ∙ sym (front_kind _ header.geometry _ opened.areas.front (earlier_of plans) state opened.areas.earlier_held base block below))

  states_shown : (after : List Kind) → length states ≡ header.geometry.blocks → AreStatesBehind plans area states after → (block : ℕ) → block < header.geometry.blocks
      → state_at after block ≡ (opened_image state header slot states plans area opened fits).kind block
  states_shown after count behind block below =
      front_states after count behind block below
      ∙ ap (λ (touched : List TouchedRange). kind_after (last_touch block touched) ((apply_all (all_changes opened.areas.front) base).kind block)) opened.areas.held.touched
      ∙ sym (groups_kind area.blocks state.seen area.from _ opened.areas.groups opened.areas.held.list.stand (apply_all (all_changes opened.areas.front) base) block)
      ∙ ap (λ (i : Image). i.kind block) (sym shown)

  behind_count : (after : List Kind) → AreStatesBehind plans area states after → length after ≡ length states
  behind_count after behind = behind.2.count ∙ turned_count plans states behind.0 behind.1

  pub is_report : (commands data_blocks zero_blocks hole_blocks : ℕ) (after : List Kind) → length states ≡ header.geometry.blocks → AreStatesBehind plans area states after
      → commands ≡ (area.next + 18446744073709551615) % 18446744073709551616
      → data_blocks ≡ count_by (is_state Data) after → zero_blocks ≡ count_by (is_state Zero) after → hole_blocks ≡ count_by (is_state Hole) after
      → IsReport (record { layout = header.geometry.layout; blocks = header.geometry.blocks; before_last = header.before_last; base = header.base; commands = commands; data_blocks = data_blocks; zero_blocks = zero_blocks; hole_blocks = hole_blocks }) state.seen
  unfolding base
  is_report commands data_blocks zero_blocks hole_blocks after count behind counted data_is zero_is hole_is =
      let image = opened_image state header slot states plans area opened fits in
      let sized : image.blocks ≡ header.geometry.blocks = blocks-apply_all (all_changes opened.lists) base in
      let long : length after ≡ image.blocks = behind_count after behind ∙ count ∙ sym sized in
      let each : (block : ℕ) → block < image.blocks → state_at after block ≡ image.kind block = λ block below. states_shown after count behind block (omega (arith, below, sized)) in
      record {
        image = image;
        stands = opened_stands state header slot states plans area opened fits commands (last_number state header slot states plans area opened fits commands counted);
        blocks = sym sized;
        layout = refl;
        before_last = refl;
        base = refl;
        data_blocks = data_is ∙ blocks_counted Data image after long each;
        zero_blocks = zero_is ∙ blocks_counted Zero image after long each;
        hole_blocks = hole_is ∙ blocks_counted Hole image after long each;
      }

-- the areas of these checkpoints are of the device's image
pub sized_of : (plans : List PlanState) (geometry : Geometry) (extent : ℕ) → AreSized plans geometry extent → AreOf geometry.blocks plans
sized_of [] geometry extent sized = tt
sized_of (plan ∷ plans) geometry extent sized = (sized.0.blocks, sized_of plans geometry extent sized.1)

pub turned_more : (plans : List PlanState) (plan : PlanState) (before mid after : List Kind) → AreStatesTurned plans before mid → AreStatesAfter plan.first.touched mid after → AreStatesTurned (plans ++ plan ∷ []) before after
turned_more [] plan before mid after same step = (after, subst (λ (states : List Kind). AreStatesAfter plan.first.touched states after) same step, refl)
turned_more (first ∷ plans) plan before mid after steps step = (steps.0, steps.1, turned_more plans plan steps.0 mid after steps.2 step)

pub of_at : (blocks : ℕ) (plans : List PlanState) (index : ℕ) (none : PlanState) → AreOf blocks plans → index < length plans → (get_or plans index none).first.blocks ≡ blocks
of_at blocks [] index none are below = absurd (omega (arith, below))
of_at blocks (plan ∷ plans) zero none are below = are.0
of_at blocks (plan ∷ plans) (suc index) none are below = of_at blocks plans index none are.1 (omega (arith, below))
