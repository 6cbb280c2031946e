-- what the calls of an order make of the world that it is of
use Rattle.std.proofs.Common.{◌≡◌, ℕ, zero, suc, ◌+◌, ◌-◌, ◌<◌, ◌≤◌, ◌&&◌, ◌↔◌, Bool, true, if◌then◌else◌, nat_le, nat_lt, Option, Some, None, List, [], ◌∷◌, ◌++◌, append_assoc, length, length-append, length-drop, map, take, drop, sym, ◌∙◌, ap, subst, refl, arith}
use Rattle.std.proofs.lemmas.Bool.{and_from, le-leb, lt-leb, lt-ltb, ltb-true}
use Rattle.std.proofs.lemmas.List.{length-map, length-take, map-append, drop-append-le, drop-drop, drop-map, drop_at, take_at, take-append-drop, take-map}
use Rattle.std.proofs.lemmas.List.Sums.{sum_by-cons}
use Rattle.std.specs.FinMap.{len}
use Rattle.std.specs.List.{sum, sum_by}
use Rattle.image_model.specs.declared.command.Command.{Command}
use Rattle.image_model.specs.Change.{Change, change_of}
use Rattle.image_model.specs.Command.{body_of, bodies_of}
use Rattle.journal_format.specs.Group.{Numbered}
use Rattle.image_model.specs.laws.CleanedMaps.{cleaned-blocks}
use Rattle.image_model.specs.laws.DirtyTails.{dirty_behind_push}
use Rattle.order_book.specs.Order.{OrderState, Seals, has_room_for, with_clean, with_command, with_durable, with_group}
use Rattle.request_core.specs.laws.Commands.{commands_length}
use Rattle.export_model.specs.Checkpoint.{can_clean}
use Rattle.export_model.specs.World.{Stage, area_bytes, dirty_behind}
use Rattle.export_steps.specs.Parts.{IsOrderOf, commands_in}
use Rattle.image_model.specs.Bodies.{body_bytes, bodies_bytes, body_limit, longest}
use Rattle.image_model.specs.Dirty.{Dirty, clean_through, dirty_after, dirty_blocks, frames_suffice}

pub sum_map : {X : Type 0} (f : X → ℕ) (xs : List X) → sum (map f xs) ≡ sum_by f xs
sum_map f [] = refl
sum_map f (x ∷ xs) = sum_by-cons (λ (n : ℕ). n) (f x) (map f xs) ∙ (ap (λ (n : ℕ). f x + n) (sum_map f xs) ∙ sym (sum_by-cons f x xs))

pub bodies_same : (commands : List Command) → bodies_of commands ≡ bodies_bytes (map change_of commands)
bodies_same [] = refl
bodies_same (command ∷ commands) =
    sum_by-cons body_of command commands ∙ (ap (λ (n : ℕ). body_bytes (change_of command) + n) (bodies_same commands) ∙ sym (sum_by-cons body_bytes (change_of command) (map change_of commands)))

module _ (stage : Stage) (order : OrderState) (group : Option Numbered) (of : IsOrderOf stage order group) where
  -- one command more
  pub order_accepts : (command : Command) (change : Change) → change_of command ≡ change → stage.stored ≤ length stage.order → stage.durable ≤ length stage.order
      → stage.cleaned ≤ length stage.order → order.mark < 18446744073709551615 → length (with_command order command).cache.states ≡ length order.cache.states
      → IsOrderOf (record stage { order = stage.order ++ change ∷ [] }) (with_command order command) group
  order_accepts command change own stored durable cleaned left kept = record {
    opening = of.opening;
    durable = of.durable;
    sealed = of.sealed;
    mark = let mark = of.mark in omega (arith, mark, length-append stage.order (change ∷ []));
    behind = drop-append-le stage.stored stage.order (change ∷ []) stored
        ∙ (ap (λ (l : List Change). l ++ change ∷ []) of.behind
        ∙ (append_assoc (commands_in group) (map change_of order.pending) (change ∷ [])
        ∙ ap (λ (l : List Change). commands_in group ++ l)
        (ap (λ (c : Change). map change_of order.pending ++ c ∷ []) (sym own) ∙ sym (map-append change_of order.pending (command ∷ [])))));
    hand = of.hand;
    first = of.first;
    some = of.some;
    bodies = ap (λ (l : List ℕ). l ++ body_of command ∷ []) of.bodies
        ∙ (ap (λ (n : ℕ). map body_bytes (drop stage.durable stage.order) ++ n ∷ []) (ap body_bytes own)
        ∙ (sym (map-append body_bytes (drop stage.durable stage.order) (change ∷ []))
        ∙ ap (map body_bytes) (sym (drop-append-le stage.durable stage.order (change ∷ []) durable))));
    dirty = ap (λ (c : Change). dirty_after order.dirty (order.mark + 1) c) own
        ∙ (ap (λ (d : Dirty). dirty_after d (order.mark + 1) change) of.dirty
        ∙ (ap (λ (n : ℕ). dirty_after (dirty_behind stage.cleaned stage) (n + 1) change) of.mark
        ∙ sym (dirty_behind_push stage.setting.opening stage.order stage.cleaned change cleaned)));
    frames = of.frames;
    blocks = kept ∙ of.blocks;
    area = of.area;
    stopped = of.stopped;
    fits = let mark = of.mark in omega (arith, mark, left, length-append stage.order (change ∷ []));
  }

  -- the room that a command needs
  pub room_of : (given : Change) → has_room_for order given
      ≡ (frames_suffice stage.setting.frames (dirty_behind stage.cleaned stage) (stage.setting.opening + length stage.order + 1) given
      && nat_le (bodies_bytes (drop stage.durable stage.order) + body_bytes given) 67108864)
  room_of given =
      let dirty = dirty_behind stage.cleaned stage in
      ap (λ (b : Bool). b && nat_le (sum order.bodies + body_bytes given) 67108864)
      (ap (λ (n : ℕ). frames_suffice n order.dirty (order.mark + 1) given) of.frames
      ∙ (ap (λ (d : Dirty). frames_suffice stage.setting.frames d (order.mark + 1) given) of.dirty
      ∙ ap (λ (n : ℕ). frames_suffice stage.setting.frames dirty (n + 1) given) of.mark))
      ∙ ap (λ (n : ℕ). frames_suffice stage.setting.frames dirty (stage.setting.opening + length stage.order + 1) given && nat_le (n + body_bytes given) 67108864)
      (ap sum of.bodies ∙ sum_map body_bytes (drop stage.durable stage.order))

-- the longest beginning is the one that fits where no longer one does
pub longest_is : (limit : ℕ) (commands : List Change) (count : ℕ) → count ≤ length commands → bodies_bytes (take count commands) ≤ limit
    → ((more : ℕ) → count < more → more ≤ length commands → limit < bodies_bytes (take more commands)) → longest limit commands ≡ count
longest_is limit [] count within fit none = omega (arith, within)
longest_is limit (command ∷ commands) zero within fit none =
    let over = none 1 (omega arith) (omega arith) in
    ap (λ (b : Bool). if b then 1 + longest (limit - body_bytes command) commands else 0)
    (lt-leb (body_bytes command) limit (omega (arith, over, sum_by-cons body_bytes command [])))
longest_is limit (command ∷ commands) (suc count) within fit none =
    let cons = sum_by-cons body_bytes command (take count commands) in
    ap (λ (b : Bool). if b then 1 + longest (limit - body_bytes command) commands else 0)
    (le-leb (body_bytes command) limit (omega (arith, fit, cons)))
    ∙ ap suc' (longest_is (limit - body_bytes command) commands count (omega (arith, within)) (omega (arith, fit, cons))
    (λ more above below. let over = none (suc more) (omega (arith, above)) (omega (arith, below)) in
    omega (arith, over, fit, cons, sum_by-cons body_bytes command (take more commands))))
    ∙ omega arith
  where
    suc' : ℕ → ℕ
    suc' n = 1 + n

-- a group is sealed
pub order_seals : (stage : Stage) (old new : OrderState) (group : Numbered) → IsOrderOf stage old None → stage.stored ≤ length stage.order → Seals old new group
    → IsOrderOf (record stage { sealed = stage.sealed + longest (body_limit (area_bytes stage)) (drop stage.sealed stage.order) }) new (Some group)
order_seals stage old new group of stored seals =
    let Result : OrderState → Type 0 = λ order. IsOrderOf (record stage { sealed = stage.sealed + longest (body_limit (area_bytes stage)) (drop stage.sealed stage.order) }) order (Some group) in
    subst Result (sym seals.rest) (record {
      opening = of.opening;
      durable = of.durable;
      sealed = let sealed = of.sealed in omega (arith, sealed, count_is);
      mark = of.mark;
      behind = of.behind ∙ (ap (map change_of) seals.beginning ∙ map-append change_of group.commands new.pending);
      hand = let hand = of.hand in omega (arith, hand, count_is, commands_length group);
      first = let first = seals.first in let sealed = of.sealed in let hand = of.hand in omega (arith, first, sealed, hand);
      some = seals.some;
      bodies = of.bodies;
      dirty = of.dirty;
      frames = of.frames;
      blocks = of.blocks;
      area = of.area;
      stopped = of.stopped;
      fits = of.fits;
    })
  where
    pending_is : drop stage.sealed stage.order ≡ map change_of old.pending
    pending_is = ap (λ (n : ℕ). drop n stage.order) (let hand = of.hand in let same : stage.sealed ≡ stage.stored = omega (arith, hand) in same) ∙ of.behind

    beginning_is : (n : ℕ) → bodies_of (take n old.pending) ≡ bodies_bytes (take n (map change_of old.pending))
    beginning_is n = bodies_same (take n old.pending) ∙ ap bodies_bytes (sym (take-map change_of n old.pending))

    group_is : take (length group.commands) old.pending ≡ group.commands
    group_is = ap (take (length group.commands)) seals.beginning ∙ take_at group.commands new.pending (length group.commands) refl

    pending_length : length (map change_of old.pending) ≡ length old.pending
    pending_length = length-map old.pending change_of

    count_is : longest (body_limit (area_bytes stage)) (drop stage.sealed stage.order) ≡ length group.commands
    count_is =
        let limit_is = ap body_limit of.area in
        let fits = seals.fits in
        let longer = ap length seals.beginning in
        ap (longest (body_limit (area_bytes stage))) pending_is
        ∙ longest_is (body_limit (area_bytes stage)) (map change_of old.pending) (length group.commands)
        (omega (arith, longer, length-append group.commands new.pending, pending_length))
        (omega (arith, fits, limit_is, sym (beginning_is (length group.commands)), ap bodies_of group_is))
        (λ more above within. let over = seals.longest more above (omega (arith, within, pending_length)) in omega (arith, over, limit_is, beginning_is more))

module _ (stage : Stage) (order : OrderState) (group : Numbered) (of : IsOrderOf stage order (Some group)) where
  -- the group in hand is pending again
  pub order_puts_back : IsOrderOf (record stage { sealed = stage.stored }) (with_group order group) None
  order_puts_back = record {
    opening = of.opening;
    durable = of.durable;
    sealed = let first = of.first in omega (arith, first);
    mark = of.mark;
    behind = of.behind ∙ sym (map-append change_of group.commands order.pending);
    hand = omega arith;
    first = tt;
    some = tt;
    bodies = of.bodies;
    dirty = of.dirty;
    frames = of.frames;
    blocks = of.blocks;
    area = of.area;
    stopped = of.stopped;
    fits = of.fits;
  }

  -- the group in hand is what a world has in hand
  pub hand_is : take (stage.sealed - stage.stored) (drop stage.stored stage.order) ≡ map change_of group.commands
  hand_is =
      let hand = of.hand in
      let count : stage.sealed - stage.stored ≡ length (map change_of group.commands) = omega (arith, hand) in
      ap (λ (n : ℕ). take n (drop stage.stored stage.order)) count
      ∙ (ap (take (length (map change_of group.commands))) of.behind
      ∙ take_at (map change_of group.commands) (map change_of order.pending) (length (map change_of group.commands)) refl)

  -- the group in hand is stored
  pub order_stores : (end : ℕ) → IsOrderOf (record stage { stored = stage.sealed; at = end }) order None
  order_stores end = record {
    opening = of.opening;
    durable = of.durable;
    sealed = of.sealed;
    mark = of.mark;
    behind = ap (λ (n : ℕ). drop n stage.order) of.hand
        ∙ (sym (drop-drop (length (map change_of group.commands)) stage.stored stage.order)
        ∙ (ap (drop (length (map change_of group.commands))) of.behind
        ∙ drop_at (map change_of group.commands) (map change_of order.pending) (length (map change_of group.commands)) refl));
    hand = omega arith;
    first = tt;
    some = tt;
    bodies = of.bodies;
    dirty = of.dirty;
    frames = of.frames;
    blocks = of.blocks;
    area = of.area;
    stopped = of.stopped;
    fits = of.fits;
  }

-- the order is stopped
pub order_stops : (stage : Stage) (order : OrderState) (group : Option Numbered) (failures : ℕ) → IsOrderOf stage order group
    → IsOrderOf (record stage { stopped = true; faults = failures }) (record order { stopped = true }) group
order_stops stage order group failures of = record {
  opening = of.opening;
  durable = of.durable;
  sealed = of.sealed;
  mark = of.mark;
  behind = of.behind;
  hand = of.hand;
  first = of.first;
  some = of.some;
  bodies = of.bodies;
  dirty = of.dirty;
  frames = of.frames;
  blocks = of.blocks;
  area = of.area;
  stopped = refl;
  fits = of.fits;
}

-- what is stored is durable
pub order_publishes : (stage : Stage) (order : OrderState) (group : Option Numbered) (count : ℕ) → IsOrderOf stage order group
    → stage.durable ≤ stage.stored → stage.stored ≤ length stage.order → count ≡ stage.setting.opening + stage.stored
    → IsOrderOf (record stage { durable = stage.stored }) (with_durable order count) group
order_publishes stage order group count of durable stored count_is =
    subst (λ (o : OrderState). IsOrderOf (record stage { durable = stage.stored }) o group)
    (sym (ap (λ (b : Bool). if b then record order { durable = count; bodies = drop (count - order.durable) order.bodies } else order) between))
    (record {
      opening = of.opening;
      durable = count_is;
      sealed = of.sealed;
      mark = of.mark;
      behind = of.behind;
      hand = of.hand;
      first = of.first;
      some = of.some;
      bodies = ap (drop (count - order.durable)) of.bodies
          ∙ (drop-map body_bytes (count - order.durable) (drop stage.durable stage.order)
          ∙ ap (map body_bytes) (drop-drop (count - order.durable) stage.durable stage.order
          ∙ ap (λ (n : ℕ). drop n stage.order) (let from = of.durable in omega (arith, from, count_is, durable))));
      dirty = of.dirty;
      frames = of.frames;
      blocks = of.blocks;
      area = of.area;
      stopped = of.stopped;
      fits = of.fits;
    })
  where
    between : (nat_le order.durable count && nat_le count order.mark) ≡ true
    between = let from = of.durable in let mark = of.mark in
        and_from (nat_le order.durable count) (nat_le count order.mark) (le-leb order.durable count (omega (arith, from, count_is, durable))) (le-leb count order.mark (omega (arith, mark, count_is, stored)))

module _ (last : ℕ) (changes : List Change) (few many : ℕ) (further : few ≤ many) (within : many ≤ length changes) where
  -- the commands between the first N and the first more of them
  abbrev between : List Change
  between = take (many - few) (drop few changes)

  parts : between ++ drop many changes ≡ drop few changes
  parts = ap (λ (rest : List Change). between ++ rest)
      (ap (λ (n : ℕ). drop n changes) (let same : many ≡ few + (many - few) = omega (arith, further) in same) ∙ sym (drop-drop (many - few) few changes))
      ∙ take-append-drop (many - few) (drop few changes)

  number_at : last + few + length between ≡ last + many
  number_at = omega (arith, length-take (many - few) (drop few changes), length-drop few changes, further, within)

  -- cleaned through the last of these, the dirty blocks are those of the commands after it
  cleaned_behind : clean_through (dirty_blocks (last + few) (drop few changes)) (last + many) ≡ dirty_blocks (last + many) (drop many changes)
  cleaned_behind =
      ap (clean_through (dirty_blocks (last + few) (drop few changes))) (sym number_at)
      ∙ (ap (λ (rest : List Change). clean_through (dirty_blocks (last + few) rest) (last + few + length between)) (sym parts)
      ∙ (cleaned-blocks (last + few) between (drop many changes)
      ∙ ap (λ (n : ℕ). dirty_blocks n (drop many changes)) number_at))

module _ (stage : Stage) (order : OrderState) (group : Option Numbered) (number : ℕ) (of : IsOrderOf stage order group) (cleaned : stage.cleaned ≤ stage.base)
    (base : stage.base ≤ length stage.order) (number_is : number ≡ stage.setting.opening + stage.base) where
  -- what stays dirty once the blocks up to the base are clean
  still_dirty : (with_clean order number).dirty ≡ dirty_behind stage.base stage
  still_dirty =
      ap (λ (d : Dirty). clean_through d number) of.dirty
      ∙ (ap (clean_through (dirty_behind stage.cleaned stage)) number_is
      ∙ cleaned_behind stage.setting.opening stage.order stage.cleaned stage.base cleaned base)

  -- the blocks up to the base are clean
  pub order_cleans : IsOrderOf (record stage { cleaned = stage.base }) (with_clean order number) group
  order_cleans = record {
    opening = of.opening;
    durable = of.durable;
    sealed = of.sealed;
    mark = of.mark;
    behind = of.behind;
    hand = of.hand;
    first = of.first;
    some = of.some;
    bodies = of.bodies;
    dirty = still_dirty;
    frames = of.frames;
    blocks = of.blocks;
    area = of.area;
    stopped = of.stopped;
    fits = of.fits;
  }

  -- they are to be let go exactly where some of them are dirty
  clean_test : can_clean stage ≡ nat_lt (len (with_clean order number).dirty) (len order.dirty)
  clean_test = λ i. nat_lt (len (sym still_dirty i)) (len (sym of.dirty i))

  pub clean_due : (can_clean stage ≡ true) ↔ (len (with_clean order number).dirty < len order.dirty)
  clean_due = (
    λ can. ltb-true (len (with_clean order number).dirty) (len order.dirty) (sym clean_test ∙ can),
    λ fewer. clean_test ∙ lt-ltb (len (with_clean order number).dirty) (len order.dirty) fewer,
  )
