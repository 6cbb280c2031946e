-- lists by links: one ring through all frames, with a node after the last frame of each list
use Rattle.std.specs.Prelude.{ℕ, zero, suc, ◌≡◌, ◌+◌, ◌<◌, ◌^◌, ◌==◌, if◌then◌else◌, List, [], ◌∷◌, ◌++◌, length, slice_index, All}
use Rattle.frame_pool.specs.declared.place.Place.{Place}
use Rattle.frame_pool.specs.declared.place.Place.TheVariants.{Free, Clean, Dirty}
use Rattle.frame_pool.specs.Lists.{ListsState, HoldEach, total}

-- The links lead from this node through these ones, and back.
abbrev pub IsPath : List ℕ → List ℕ → ℕ → List ℕ → Type 0
IsPath next previous from [] = Unit {0}
IsPath next previous from (node ∷ nodes) =
    (slice_index next from ≡ node) × (slice_index previous node ≡ from) × IsPath next previous node nodes

-- the node after the last frame of a list, and that before its first one
abbrev pub end_of : ℕ → Place → ℕ
end_of frames Free = frames
end_of frames Clean = frames + 1
end_of frames Dirty = frames + 2

abbrev pub start_of : ℕ → Place → ℕ
start_of frames Free = frames + 2
start_of frames Clean = frames
start_of frames Dirty = frames + 1

-- the nodes of the ring in their order, from the first free frame on
abbrev pub ring_of : ℕ → ListsState → List ℕ
ring_of frames lists =
    lists.free ++ frames ∷ (lists.clean ++ (frames + 1) ∷ (lists.dirty ++ (frames + 2) ∷ []))

-- the nodes from one on to the one before the end, at most this many
abbrev pub walk : List ℕ → ℕ → ℕ → ℕ → List ℕ
walk next end zero node = []
walk next end (suc most) node = if node == end then [] else node ∷ walk next end most (slice_index next node)

-- the list at a place
abbrev pub linked : ℕ → List ℕ → Place → List ℕ
linked frames next place = walk next (end_of frames place) frames (slice_index next (start_of frames place))

abbrev pub lists_of : ℕ → List ℕ → ListsState
lists_of frames next = record { free = linked frames next Free; clean = linked frames next Clean; dirty = linked frames next Dirty }

-- each link leads to a node of N
pub record AreLinks (nodes : ℕ) (links : List ℕ) : Type 0 where
  pub size : length links ≡ nodes
  pub inside : All (λ node. node < nodes) links

-- The links are a ring through these lists, which hold each of the frames.
pub record AreLinked (frames : ℕ) (next previous : List ℕ) (lists : ListsState) : Type 0 where
  pub few : frames + 3 < 2 ^ 32
  pub next_links : AreLinks (frames + 3) next
  pub previous_links : AreLinks (frames + 3) previous
  pub ring : IsPath next previous (frames + 2) (ring_of frames lists)
  pub count : total lists ≡ frames
  pub each : HoldEach lists
