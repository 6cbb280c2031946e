-- What becomes of a list of groups when bytes after it change.
use Rattle.std.proofs.Common.{◌≡◌, ℕ, ◌+◌, ◌≤◌, ◌<◌, List, [], ◌∷◌, ◌++◌, slice_index, sym, ◌∙◌, subst, arith}
use Rattle.std.proofs.lemmas.List.Sums.{sum_by-cons}
use Rattle.journal_format.specs.Spelling.{StoredGroup, group_bytes}
use Rattle.journal_format.specs.GroupList.{StandsAt, IsOpen, size_of, sizes_of, number_behind, next_behind, IsNextGroup, Stand}
use Rattle.journal_format.specs.laws.Spelled.{length-group}

-- the same bytes from one place up to another
pub record IsSameFrom (old new : List ℕ) (from end : ℕ) : Type 0 where
  pub same : (place : ℕ) → from ≤ place → place < end → slice_index new place ≡ slice_index old place

-- after the list stands a gate that isn't open
pub list_ends : (image : ℕ) (content : List ℕ) (place next : ℕ) (groups : List StoredGroup) → Stand image content place next groups → IsOpen content (place + sizes_of groups) → ⊥
list_ends image content place next [] stand is_open =
    let same : place + 0 ≡ place = omega arith in
    stand (subst (IsOpen content) same is_open)
list_ends image content place next (group ∷ groups) stand is_open =
    let same : place + sizes_of (group ∷ groups) ≡ place + size_of group + sizes_of groups = omega (arith, sum_by-cons size_of group groups) in
    list_ends image content (place + size_of group) (number_behind group) groups stand.3 (subst (IsOpen content) same is_open)

-- a group stays where its bytes do
module _ (old new : List ℕ) (place : ℕ) (group : StoredGroup) (end : ℕ) (kept : IsSameFrom old new place end) (within : place + size_of group ≤ end) where
  pub gate_stays : IsOpen old place → IsOpen new place
  gate_stays is_open = kept.same place (omega arith) (omega arith) ∙ is_open

  pub bytes_stay : StandsAt old (place + 1) (group_bytes group) → StandsAt new (place + 1) (group_bytes group)
  bytes_stay stand k below = kept.same (place + 1 + k) (omega arith) (omega (arith, length-group group, below)) ∙ stand k below

-- where all before the gate after the list stays, and that gate isn't open, the list stays
pub list_stays : (image : ℕ) (old new : List ℕ) (place next : ℕ) (groups : List StoredGroup) → IsSameFrom old new place (place + sizes_of groups) → (IsOpen new (place + sizes_of groups) → ⊥)
    → Stand image old place next groups → Stand image new place next groups
list_stays image old new place next [] kept closed stand =
    let same : place ≡ place + 0 = omega arith in
    λ is_open. closed (subst (IsOpen new) same is_open)
list_stays image old new place next (group ∷ groups) kept closed stand =
    let size : place + sizes_of (group ∷ groups) ≡ place + size_of group + sizes_of groups = omega (arith, sum_by-cons size_of group groups) in
    let within : place + size_of group ≤ place + sizes_of (group ∷ groups) = omega (arith, size) in (
      gate_stays old new place group _ kept within stand.0,
      bytes_stay old new place group _ kept within stand.1,
      stand.2,
      list_stays image old new (place + size_of group) (number_behind group) groups
          (record { same = λ at low high. kept.same at (omega (arith, low)) (omega (arith, high, size)) })
          (λ is_open. closed (subst (IsOpen new) (sym size) is_open))
          stand.3,
    )

-- and where that gate is open, the next group stands after it, and then a gate that isn't open, it joins the list
pub list_grows : (image : ℕ) (old new : List ℕ) (place next : ℕ) (groups : List StoredGroup) (group : StoredGroup) → IsSameFrom old new place (place + sizes_of groups)
    → IsOpen new (place + sizes_of groups) → StandsAt new (place + sizes_of groups + 1) (group_bytes group) → (IsOpen new (place + sizes_of groups + size_of group) → ⊥)
    → IsNextGroup image (next_behind next groups) group → Stand image old place next groups → Stand image new place next (groups ++ group ∷ [])
list_grows image old new place next [] group kept is_open whole closed follows stand =
    let same : place + 0 ≡ place = omega arith in (
      subst (IsOpen new) same is_open,
      subst (λ (at : ℕ). StandsAt new (at + 1) (group_bytes group)) same whole,
      follows,
      subst (λ (at : ℕ). IsOpen new (at + size_of group) → ⊥) same closed,
    )
list_grows image old new place next (g ∷ groups) group kept is_open whole closed follows stand =
    let size : place + sizes_of (g ∷ groups) ≡ place + size_of g + sizes_of groups = omega (arith, sum_by-cons size_of g groups) in
    let within : place + size_of g ≤ place + sizes_of (g ∷ groups) = omega (arith, size) in (
      gate_stays old new place g _ kept within stand.0,
      bytes_stay old new place g _ kept within stand.1,
      stand.2,
      list_grows image old new (place + size_of g) (number_behind g) groups group
          (record { same = λ at low high. kept.same at (omega (arith, low)) (omega (arith, high, size)) })
          (subst (IsOpen new) size is_open)
          (subst (λ (at : ℕ). StandsAt new (at + 1) (group_bytes group)) size whole)
          (subst (λ (at : ℕ). IsOpen new (at + size_of group) → ⊥) size closed)
          follows
          stand.3,
    )
