-- What a crash leaves of an area's list while a group is added, and what the area holds then.
use Rattle.std.proofs.Common.{◌≡◌, inl, inr, ⊎_elim, ℕ, ◌+◌, ◌≤◌, ◌<◌, List, [], ◌∷◌, ◌++◌, length, slice_index, map, sym, ◌∙◌, ap, subst, refl, arith, length-append}
use Rattle.std.proofs.lemmas.Bool.{cases_eq}
use Rattle.std.proofs.lemmas.List.{get_or_append_left, get_or_at, length-map}
use Rattle.disk_model.specs.Disk.{State, IsSyncedIn, MayLeave, MayLeaveTorn}
use Rattle.image_model.specs.Change.{AreChanges, change_of}
use Rattle.image_model.specs.Command.{bodies_of}
use Rattle.journal.specs.Append.{IsNext}
use Rattle.journal_format.specs.Area.{AreaState}
use Rattle.journal_format.specs.Group.{Numbered, IsGroup}
use Rattle.journal_format.specs.declared.touch.TouchedRange.{TouchedRange}
use Rattle.journal_format.specs.Spelling.{StoredGroup, stored_of, group_bytes}
use Rattle.journal_format.specs.Touches.{touched_by_changes, touched_by_groups}
use Rattle.journal_format.specs.GroupList.{StandsAt, IsOpen, size_of, sizes_of, number_behind, IsNextGroup, IsList, IsHeld, IsListStored, LeavesEither}
use Rattle.journal_format.specs.inner.GroupList.{LeavesGateOrBytes, IsOpenBefore}
use Rattle.journal_format.specs.laws.Groups.{touched_groups-push}
use Rattle.journal_format.specs.laws.Spelled.{length-body, length-group, sizes-push, next-push}
use Rattle.journal_format.specs.laws.Contents.{IsSameFrom, list_ends, list_stays, list_grows}

-- what is written after the gate
abbrev pub written : StoredGroup → List ℕ
written group = group_bytes group ++ 0 ∷ []

pub length-written : (group : StoredGroup) → length (written group) ≡ size_of group
length-written group = omega (arith, length-append (group_bytes group) (0 ∷ []), length-group group)

pub size-stored : (group : Numbered) → size_of (stored_of group) ≡ 17 + bodies_of group.commands
size-stored group = omega (arith, length-body group.commands)

-- the next of the area by its own numbers is the next of its list
pub follows : (area : AreaState) (group : Numbered) → IsGroup group.first group.commands → IsNext area group → AreChanges area.blocks (stored_of group).changes → IsNextGroup area.blocks area.next (stored_of group)
follows area group sound next changes =
    let count : length (map change_of group.commands) ≡ length group.commands = length-map group.commands change_of in
    record {
      some = omega (arith, count, sound.some);
      body = omega (arith, length-body group.commands, sound.bodies);
      left = next.0;
      first = next.1;
      numbers = omega (arith, count, next.1, sound.numbers);
      changes = changes;
    }

module _ (area : AreaState) (first : ℕ) (groups : List StoredGroup) (before : State) (held : IsHeld area first groups before) where
  gate_at : area.from + area.gate ≡ area.from + sizes_of groups
  gate_at = omega (arith, held.gate)

  -- a content with the list's bytes as they were, and its end gate
  kept_list : (content : List ℕ) → IsSameFrom before.seen content area.from (area.from + sizes_of groups) → (IsOpen content (area.from + sizes_of groups) → ⊥) → IsList area first groups content
  kept_list content same closed = record { stand = list_stays area.blocks before.seen content area.from first groups same closed held.list.stand; inside = held.list.inside }

  same_end : (content : List ℕ) → slice_index content (area.from + area.gate) ≡ slice_index before.seen (area.from + area.gate) → IsOpen content (area.from + sizes_of groups) → ⊥
  same_end content same is_open =
      let place = subst (λ (at : ℕ). slice_index content at ≡ slice_index before.seen at) gate_at same in
      list_ends area.blocks before.seen area.from first groups held.list.stand (sym place ∙ is_open)

  -- where nothing is written the list stays
  pub stays_either : (group : StoredGroup) (content : List ℕ) → MayLeave before content → LeavesEither area first groups group before content
  stays_either group content left =
      let in_area = λ (place : ℕ) (low : area.from ≤ place) (high : place < area.from + area.bytes). left.same place (held.synced place (low, high)) in
      record {
        others = record { size = left.size; bytes = left.bytes; same = λ place synced outside. left.same place synced };
        list = inl (kept_list content
            (record { same = λ place low high. in_area place low (omega (arith, high, held.list.inside)) })
            (same_end content (in_area (area.from + area.gate) (omega arith) (omega (arith, held.gate, held.list.inside)))));
      }

  module _ (group : StoredGroup) (next : IsNextGroup area.blocks area.next group) (fits : area.gate + 1 + size_of group ≤ area.bytes) where
    -- a range from the gate on lies in the area
    widened : (content : List ℕ) → MayLeaveTorn before (area.from + area.gate) (1 + length (written group)) content → MayLeaveTorn before area.from area.bytes content
    widened content left = record {
      size = left.size;
      bytes = left.bytes;
      same = λ place synced outside. left.same place synced (λ within. outside (omega (arith, within.0), omega (arith, within.1, length-written group, fits)));
    }

    in_front : (content : List ℕ) → MayLeaveTorn before (area.from + area.gate) (1 + length (written group)) content → IsSameFrom before.seen content area.from (area.from + sizes_of groups)
    in_front content left = record {
      same = λ place low high. left.same place (held.synced place (low, omega (arith, high, held.list.inside))) (λ within. absurd (omega (arith, within.0, high, held.gate)));
    }

    -- the group stands whole after an open gate
    added_list : (content : List ℕ) → IsSameFrom before.seen content area.from (area.from + sizes_of groups) → IsOpen content (area.from + area.gate) → StandsAt content (area.from + area.gate + 1) (written group)
        → IsList area first (groups ++ group ∷ []) content
    added_list content same is_open whole =
        let count = length-group group in
        let long = length-written group in
        let behind : area.from + area.gate + 1 + length (group_bytes group) ≡ area.from + sizes_of groups + size_of group = omega (arith, held.gate, count) in
        let last : slice_index content (area.from + area.gate + 1 + length (group_bytes group)) ≡ 0 =
        whole (length (group_bytes group)) (omega (arith, long, count)) ∙ get_or_at (group_bytes group) 0 [] 0 (length (group_bytes group)) refl in
        let shut : slice_index content (area.from + sizes_of groups + size_of group) ≡ 0 = subst (λ (at : ℕ). slice_index content at ≡ 0) behind last in
        let bytes : StandsAt content (area.from + area.gate + 1) (group_bytes group) =
        λ k below. whole k (omega (arith, below, long, count)) ∙ get_or_append_left (group_bytes group) (0 ∷ []) 0 k below in
        record {
          stand = list_grows area.blocks before.seen content area.from first groups group same
              (subst (IsOpen content) gate_at is_open)
              (subst (λ (at : ℕ). StandsAt content (at + 1) (group_bytes group)) gate_at bytes)
              (λ open_again. absurd (omega (arith, shut, open_again)))
              (subst (λ (number : ℕ). IsNextGroup area.blocks number group) held.next next)
              held.list.stand;
          inside = omega (arith, sizes-push groups group, held.gate, fits);
        }

    -- a torn write leaves the list without the group or with the whole of it
    pub either : (content : List ℕ) → LeavesGateOrBytes before (area.from + area.gate) (written group) content → LeavesEither area first groups group before content
    either content left =
        let same = in_front content left.others in
        record {
          others = widened content left.others;
          list = ⊎_elim
              (λ gate. inl (kept_list content same (same_end content gate)))
              (λ whole. ⊎_elim
              (λ is_open. inr (added_list content same is_open whole))
              (λ closed. inl (kept_list content same (λ is_open. closed (subst (IsOpen content) (sym gate_at) is_open))))
              (cases_eq (slice_index content (area.from + area.gate)) 1))
              left.guarded;
        }

    -- and when the gate is open the area holds the longer list
    pub held_after : (number gate : ℕ) (touched : List TouchedRange) (after : State) → number ≡ number_behind group → gate ≡ area.gate + size_of group
        → touched ≡ area.touched ++ touched_by_changes (area.from + area.gate + 17) group.changes → IsOpenBefore before (area.from + area.gate) (written group) after
        → IsListStored (record area { next = number; gate = gate; touched = touched }) first (groups ++ group ∷ []) before after
    held_after number gate touched after number_is gate_is touched_is opened =
        let list = added_list after.seen (in_front after.seen opened.others) opened.gate_open opened.whole in
        let wide = widened after.seen opened.others in
        record {
          held = record {
            list = record { stand = list.stand; inside = list.inside };
            gate = omega (arith, gate_is, held.gate, sizes-push groups group);
            next = number_is ∙ sym (next-push first groups group);
            touched = touched_is
                ∙ ap (λ (l : List TouchedRange). l ++ touched_by_changes (area.from + area.gate + 17) group.changes) held.touched
                ∙ ap (λ (p : ℕ). touched_by_groups area.from groups ++ touched_by_changes (p + 17) group.changes) gate_at
                ∙ sym (touched_groups-push area.from groups group);
            synced = λ place within. opened.synced place;
          };
          others = record { size = wide.size; bytes = wide.bytes; same = wide.same };
          same = λ place outside steady. opened.same place (λ within. outside (omega (arith, within.0), omega (arith, within.1, length-written group, fits))) steady;
          synced = opened.synced;
        }

    -- the same for the place and the bytes of a write, as the program has them
    module _ (place : ℕ) (bytes : List ℕ) (place_is : place ≡ area.from + area.gate) (bytes_are : bytes ≡ written group) where
      pub range_synced : IsSyncedIn before place (1 + length bytes)
      range_synced at within = held.synced at (omega (arith, within.0, place_is), omega (arith, within.1, place_is, ap length bytes_are, length-written group, fits))

      pub either_at : (content : List ℕ) → LeavesGateOrBytes before place bytes content → LeavesEither area first groups group before content
      either_at content left = either content
          (subst (λ (b : List ℕ). LeavesGateOrBytes before (area.from + area.gate) b content) bytes_are
          (subst (λ (p : ℕ). LeavesGateOrBytes before p bytes content) place_is left))

      pub held_after_at : (number gate : ℕ) (touched : List TouchedRange) (after : State) → number ≡ number_behind group → gate ≡ area.gate + size_of group
          → touched ≡ area.touched ++ touched_by_changes (area.from + area.gate + 17) group.changes → IsOpenBefore before place bytes after
          → IsListStored (record area { next = number; gate = gate; touched = touched }) first (groups ++ group ∷ []) before after
      held_after_at number gate touched after number_is gate_is touched_is opened = held_after number gate touched after number_is gate_is touched_is
          (subst (λ (b : List ℕ). IsOpenBefore before (area.from + area.gate) b after) bytes_are
          (subst (λ (p : ℕ). IsOpenBefore before p bytes after) place_is opened))
