-- The bytes of a block that was put last.
use Rattle.std.proofs.Common.{◌≡◌, ℕ, ◌+◌, ◌-◌, ◌*◌, ◌≤◌, ◌<◌, Bool, true, false, if◌then◌else◌, Option, Some, None, List, [], ◌∷◌, refl, sym, arith}
use Rattle.std.proofs.lemmas.Bool.Decides.{nat_tests}
use Rattle.image_model.specs.declared.command.Kind.{Kind}
use Rattle.image_model.specs.Image.{covers}
use Rattle.journal_format.specs.declared.touch.Touch.{Touch}
use Rattle.journal_format.specs.declared.touch.Touch.TheVariants.{Put, Clear}
use Rattle.journal_format.specs.declared.touch.TouchedRange.{TouchedRange}
use Rattle.journal_format.specs.Touches.{AreWithin, HasBytesWithin, last_touch, later, touch_in, touch_within}

clear_is_put : {kind : Kind} {place : ℕ} → Clear kind ≡ Put place → ⊥
clear_is_put is = cc

some_is_none : {touch : Touch} → Some touch ≡ None → ⊥
some_is_none is = cc

same_some : {a b : Touch} → Some a ≡ Some b → a ≡ b
same_some is = cc

-- a block that a range touches is one of its blocks
touched_inside : (test : Bool) (touch found : Touch) → (if test then Some touch else None) ≡ Some found → (test ≡ true) × (touch ≡ found)
touched_inside true touch found is = (refl, same_some is)
touched_inside false touch found is = absurd (some_is_none (sym is))

-- what one touch says of a block
said_within : (from end first blocks : ℕ) (touch : Touch) (block place : ℕ) → HasBytesWithin from end blocks touch → covers first blocks block ≡ true
    → touch_within (block - first) touch ≡ Put place → (from ≤ place) × (place + 4096 ≤ end)
said_within from end first blocks (Put start) block place within inside is =
    let place_is : start + 4096 * (block - first) ≡ place = cc in
    let low : first ≤ block = grind (arith, nat_tests, inside) in
    let high : block < first + blocks = grind (arith, nat_tests, inside) in
    (omega (arith, place_is, within.0), omega (arith, place_is, within.1, low, high))
said_within from end first blocks (Clear kind) block place within inside is = absurd (clear_is_put is)

later_cases : {P : Type 0} (a b : Option Touch) (touch : Touch) → (a ≡ Some touch → P) → (b ≡ Some touch → P) → later a b ≡ Some touch → P
later_cases a None touch first second is = first is
later_cases a (Some found) touch first second is = second is

pub last_put_within : (from end block place : ℕ) (touched : List TouchedRange) → AreWithin from end touched → last_touch block touched ≡ Some (Put place) → (from ≤ place) × (place + 4096 ≤ end)
last_put_within from end block place [] within is = absurd (some_is_none (sym is))
last_put_within from end block place (range ∷ touched) within is =
    later_cases (touch_in block range) (last_touch block touched) (Put place)
    (λ said.
    let found = touched_inside (covers range.first range.blocks block) (touch_within (block - range.first) range.touch) (Put place) said in
    said_within from end range.first range.blocks range.touch block place within.0 found.0 found.1)
    (λ said. last_put_within from end block place touched within.1 said)
    is
