-- A checkpoint as a stage shows it: an area comes into use after the last one, and what the first of them holds goes over
-- into map and data, block by block. Commands are counted as in a stage.
use Rattle.std.specs.Prelude.{ℕ, ◌+◌, ◌-◌, ◌&&◌, ◌==◌, Bool, true, false, nat_lt, not, if◌then◌else◌, List, [], ◌∷◌, ◌++◌, length, drop, take}
use Rattle.std.specs.FinMap.{len}
use Rattle.image_model.specs.Change.{Change}
use Rattle.image_model.specs.Dirty.{dirty_blocks}
use Rattle.export_model.specs.World.{Stage, areas_at, dirty_behind}

-- how many commands stand before the last area in use
abbrev pub last_turned : ℕ → List ℕ → ℕ
last_turned base [] = base
last_turned base (first ∷ rest) = last_turned first rest

-- how many blocks were touched last by a write, of the commands after the first `base` and up to `until`
abbrev pub to_copy : ℕ → ℕ → List Change → ℕ
to_copy base until order = len (dirty_blocks base (take (until - base) (drop base order)))

-- how many blocks of the first of several areas in use go into data; none where one is in use
abbrev pub left_behind : ℕ → List ℕ → List Change → ℕ
left_behind base [] order = 0
left_behind base (first ∷ rest) order = to_copy base first order

-- whether several areas are in use
abbrev pub is_turned : List ℕ → Bool
is_turned [] = false
is_turned (first ∷ rest) = true

-- an area isn't in use, and the last one that is holds something
abbrev pub can_rotate : Stage → Bool
can_rotate stage = nat_lt (length stage.turned + 1) (areas_at stage) && nat_lt (last_turned stage.base stage.turned) stage.stored

-- a block of the first of several areas in use is left to copy
abbrev pub can_copy : Stage → Bool
can_copy stage = is_turned stage.turned && not stage.mapped && nat_lt 0 stage.left

-- none is left, and the map after them isn't written
abbrev pub can_map : Stage → Bool
can_map stage = is_turned stage.turned && not stage.mapped && (stage.left == 0)

-- the map is written
abbrev pub can_finish : Stage → Bool
can_finish stage = is_turned stage.turned && stage.mapped

-- a dirty block was last touched by a command that map and data hold: not all dirty ones are so after these
abbrev pub can_clean : Stage → Bool
can_clean stage = nat_lt (len (dirty_behind stage.base stage)) (len (dirty_behind stage.cleaned stage))

-- whether no generation is left for another header
abbrev pub is_full : Stage → Bool
is_full stage = stage.generation == 18446744073709551615

-- the next area is in use; after the first, all that was last written there is left to copy
abbrev pub rotated : Stage → Stage
rotated stage = record stage {
  at = 0;
  turned = stage.turned ++ stage.stored ∷ [];
  left = if is_turned stage.turned then stage.left else to_copy stage.base stage.stored stage.order;
  generation = stage.generation + 1;
}

-- the first of these areas, before the last, is no longer in use
abbrev pub finished : Stage → List ℕ → Stage
finished stage [] = stage
finished stage (first ∷ rest) = record stage {
  base = first;
  turned = rest;
  left = left_behind first rest stage.order;
  mapped = false;
  generation = stage.generation + 1;
}
