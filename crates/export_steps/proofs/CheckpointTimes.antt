-- when the steps of a checkpoint take place, by the keeper and by the world
use Rattle.std.proofs.Common.{◌≡◌, ◌⊎◌, inl, inr, ℕ, suc, ◌+◌, ◌-◌, ◌<◌, ◌≤◌, ◌↔◌, ◌&&◌, ◌==◌, not, Bool, true, false, nat_lt, if◌then◌else◌, List, [], ◌∷◌, ◌++◌, length, ap, refl, arith}
use Rattle.std.proofs.lemmas.Bool.{and_from, and_parts, cases_eq, eq-eqb, eqb-true, lt-ltb, ltb-true}
use Rattle.checkpoint.specs.Steps.{IsCopyTime, IsFinishTime, IsMapTime, fewer, left_in, phase_left, phase_with}
use Rattle.device_image.specs.Keeper.{Phase, One, Copying, Mapped}
use Rattle.image_model.specs.Change.{Change}
use Rattle.export_steps.specs.Parts.{copies_of, fronts_of, lefts_by, numbers_of, part}
use Rattle.export_model.specs.Checkpoint.{is_turned, last_turned, left_behind, to_copy}

-- the phase with these areas in use but the last, the map written or not, and this many blocks left
abbrev pub phase_by : List ℕ → Bool → ℕ → Phase
phase_by turned mapped left = if is_turned turned then (if mapped then Mapped else Copying left) else One

-- the last area in use holds something
pub rotate_some : (turned : List ℕ) (at base stored : ℕ) → last_turned base turned ≤ stored → ((at ≡ 0) ↔ (stored ≡ last_turned base turned)) → 0 < at → last_turned base turned < stored
rotate_some turned at base stored behind taken some = above (cases_eq stored (last_turned base turned))
  where
    above : (stored ≡ last_turned base turned) ⊎ (stored ≡ last_turned base turned → ⊥) → last_turned base turned < stored
    above (inl same) = let none = taken.1 same in absurd (omega (arith, none, some))
    above (inr other) = omega (arith, other, behind)

-- the time of a rotate
pub rotate_sound : (areas : ℕ) (turned : List ℕ) (at base stored : ℕ) → ((at ≡ 0) ↔ (stored ≡ last_turned base turned))
    → (nat_lt (length turned + 1) areas && nat_lt (last_turned base turned) stored) ≡ true → (length turned + 1 < areas) × (0 < at)
rotate_sound areas turned at base stored taken now =
    let parts = and_parts (nat_lt (length turned + 1) areas) (nat_lt (last_turned base turned) stored) now in
    (ltb-true (length turned + 1) areas parts.0, positive (cases_eq at 0) (ltb-true (last_turned base turned) stored parts.1))
  where
    positive : (at ≡ 0) ⊎ (at ≡ 0 → ⊥) → last_turned base turned < stored → 0 < at
    positive (inl none) some = let same = taken.0 none in absurd (omega (arith, same, some))
    positive (inr other) some = omega (arith, other)

pub rotate_whole : (areas : ℕ) (turned : List ℕ) (at base stored : ℕ) → last_turned base turned ≤ stored → ((at ≡ 0) ↔ (stored ≡ last_turned base turned))
    → length turned + 1 < areas → 0 < at → (nat_lt (length turned + 1) areas && nat_lt (last_turned base turned) stored) ≡ true
rotate_whole areas turned at base stored behind taken few some =
    and_from (nat_lt (length turned + 1) areas) (nat_lt (last_turned base turned) stored) (lt-ltb (length turned + 1) areas few)
    (lt-ltb (last_turned base turned) stored (rotate_some turned at base stored behind taken some))

-- the phase once another area is in use
pub rotate_phase : (turned : List ℕ) (mapped : Bool) (stored left copies : ℕ) → (mapped ≡ true → is_turned turned ≡ true)
    → phase_with (phase_by turned mapped left) copies ≡ phase_by (turned ++ stored ∷ []) mapped (if is_turned turned then left else copies)
rotate_phase [] true stored left copies only = absurd (never (only refl))
  where
    never : false ≡ true → ⊥
    never is = cc
rotate_phase [] false stored left copies only = refl
rotate_phase (first ∷ rest) true stored left copies only = refl
rotate_phase (first ∷ rest) false stored left copies only = refl

-- how many blocks the areas have to copy then
copies_more : (order : List Change) (base : ℕ) (turned : List ℕ) (stored : ℕ) → copies_of order base turned ++ to_copy (last_turned base turned) stored order ∷ [] ≡ copies_of order base (turned ++ stored ∷ [])
copies_more order base [] stored = refl
copies_more order base (first ∷ rest) stored = ap (λ (l : List ℕ). to_copy base first order ∷ l) (copies_more order first rest stored)

pub rotate_lefts : (order : List Change) (left base : ℕ) (turned : List ℕ) (stored : ℕ)
    → lefts_by order left turned ++ to_copy (last_turned base turned) stored order ∷ [] ≡ lefts_by order (if is_turned turned then left else to_copy base stored order) (turned ++ stored ∷ [])
rotate_lefts order left base [] stored = refl
rotate_lefts order left base (first ∷ rest) stored = ap (λ (l : List ℕ). left ∷ l) (copies_more order first rest stored)

-- and their commands
pub fronts_more : (order : List Change) (base : ℕ) (turned : List ℕ) (stored : ℕ) → fronts_of order base turned ++ part order (last_turned base turned) stored ∷ [] ≡ fronts_of order base (turned ++ stored ∷ [])
fronts_more order base [] stored = refl
fronts_more order base (first ∷ rest) stored = ap (λ (l : List (List Change)). part order base first ∷ l) (fronts_more order first rest stored)

-- and the numbers of the last of these
pub numbers_more : (opening : ℕ) (turned : List ℕ) (stored : ℕ) → numbers_of opening turned ++ (opening + stored) ∷ [] ≡ numbers_of opening (turned ++ stored ∷ [])
numbers_more opening [] stored = refl
numbers_more opening (first ∷ rest) stored = ap (λ (l : List ℕ). (opening + first) ∷ l) (numbers_more opening rest stored)

pub numbers_length : (opening : ℕ) (turned : List ℕ) → length (numbers_of opening turned) ≡ length turned
numbers_length opening [] = refl
numbers_length opening (first ∷ rest) = ap suc (numbers_length opening rest)

-- the time of a copy
pub copy_sound : (turned : List ℕ) (mapped : Bool) (left : ℕ) → (is_turned turned && not mapped && nat_lt 0 left) ≡ true → IsCopyTime (phase_by turned mapped left)
copy_sound [] mapped left now = cc
copy_sound (first ∷ rest) true left now = cc
copy_sound (first ∷ rest) false left now = ltb-true 0 left now

pub copy_whole : (turned : List ℕ) (mapped : Bool) (left : ℕ) → IsCopyTime (phase_by turned mapped left) → (is_turned turned && not mapped && nat_lt 0 left) ≡ true
copy_whole [] mapped left now = absurd now
copy_whole (first ∷ rest) true left now = absurd now
copy_whole (first ∷ rest) false left now = lt-ltb 0 left now

pub copy_phase : (turned : List ℕ) (mapped : Bool) (left blocks : ℕ) → IsCopyTime (phase_by turned mapped left) → Copying (left_in (phase_by turned mapped left) - blocks) ≡ phase_by turned mapped (left - blocks)
copy_phase [] mapped left blocks now = absurd now
copy_phase (first ∷ rest) true left blocks now = absurd now
copy_phase (first ∷ rest) false left blocks now = refl

-- the first area has this many fewer to copy then
pub copy_lefts : (order : List Change) (turned : List ℕ) (left blocks : ℕ) → fewer blocks (lefts_by order left turned) ≡ lefts_by order (left - blocks) turned
copy_lefts order [] left blocks = refl
copy_lefts order (first ∷ rest) left blocks = refl

-- where some are left to copy it is the time
pub copying_is : (turned : List ℕ) (mapped : Bool) (left blocks : ℕ) → 0 < blocks → blocks ≤ left_in (phase_by turned mapped left)
    → IsCopyTime (phase_by turned mapped left) × (is_turned turned ≡ true) × (mapped ≡ false) × (blocks ≤ left)
copying_is [] mapped left blocks some fits = absurd (omega (arith, some, fits))
copying_is (first ∷ rest) true left blocks some fits = absurd (omega (arith, some, fits))
copying_is (first ∷ rest) false left blocks some fits = (omega (arith, some, fits), refl, refl, fits)

-- the time of the map
pub map_sound : (turned : List ℕ) (mapped : Bool) (left : ℕ) → (is_turned turned && not mapped && (left == 0)) ≡ true → IsMapTime (phase_by turned mapped left)
map_sound [] mapped left now = cc
map_sound (first ∷ rest) true left now = cc
map_sound (first ∷ rest) false left now = eqb-true left 0 now

pub map_whole : (turned : List ℕ) (mapped : Bool) (left : ℕ) → IsMapTime (phase_by turned mapped left) → (is_turned turned && not mapped && (left == 0)) ≡ true
map_whole [] mapped left now = absurd now
map_whole (first ∷ rest) true left now = absurd now
map_whole (first ∷ rest) false left now = eq-eqb left 0 now

pub map_phase : (turned : List ℕ) (mapped : Bool) (left : ℕ) → IsMapTime (phase_by turned mapped left) → Mapped ≡ phase_by turned true left
map_phase [] mapped left now = absurd now
map_phase (first ∷ rest) mapped left now = refl

-- the time of a finish
pub finish_sound : (turned : List ℕ) (mapped : Bool) (left : ℕ) → (is_turned turned && mapped) ≡ true → IsFinishTime (phase_by turned mapped left)
finish_sound [] mapped left now = cc
finish_sound (first ∷ rest) true left now = tt
finish_sound (first ∷ rest) false left now = cc

pub finish_whole : (turned : List ℕ) (mapped : Bool) (left : ℕ) → IsFinishTime (phase_by turned mapped left) → (is_turned turned && mapped) ≡ true
finish_whole [] mapped left now = absurd now
finish_whole (first ∷ rest) true left now = refl
finish_whole (first ∷ rest) false left now = absurd now

-- an area stands before the last then
pub finish_some : (turned : List ℕ) (mapped : Bool) (left : ℕ) → IsFinishTime (phase_by turned mapped left) → (first : ℕ) × (rest : List ℕ) × (turned ≡ first ∷ rest)
finish_some [] mapped left now = absurd now
finish_some (first ∷ rest) mapped left now = (first, rest, refl)

-- what the next one leaves to copy once the first is let go
pub finish_lefts : (order : List Change) (first : ℕ) (rest : List ℕ) → copies_of order first rest ≡ lefts_by order (left_behind first rest order) rest
finish_lefts order first [] = refl
finish_lefts order first (second ∷ more) = refl

pub finish_phase : (order : List Change) (first : ℕ) (rest : List ℕ) → phase_left (copies_of order first rest) ≡ phase_by rest false (left_behind first rest order)
finish_phase order first [] = refl
finish_phase order first (second ∷ more) = refl
