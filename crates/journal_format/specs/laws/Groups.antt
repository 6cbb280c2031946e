-- What the scan finds of groups, and of the list of an area.
use Rattle.std.proofs.Common.{◌≡◌, ℕ, ◌+◌, ◌*◌, ◌/◌, ◌%◌, ◌^◌, ◌≤◌, ◌<◌, List, [], ◌∷◌, ◌++◌, length, drop, sym, ◌∙◌, ap, subst, refl, arith, append_assoc, length-append}
use Rattle.std.specs.List.{flat_map}
use Rattle.std.proofs.lemmas.List.{append-nil}
use Rattle.std.proofs.lemmas.List.Sums.{sum_by-cons}
use Rattle.byteorder.specs.Endian.{big_from, big_bytes}
use Rattle.byteorder.specs.Numbers.{big_number-reads_back}
use Rattle.image_model.specs.Change.{Change, Written, Cleared, Edged}
use Rattle.journal_format.specs.declared.touch.TouchedRange.{TouchedRange}
use Rattle.journal_format.specs.Touches.{touched_by_changes, touched_by_groups}
use Rattle.journal_format.specs.Spelling.{StoredGroup, clear_byte, edged_byte, edges_byte, change_head, change_bytes, body_of_group, group_head, group_bytes}
use Rattle.journal_format.specs.GroupList.{StandsAt, IsOpen, size_of, sizes_of, number_behind, next_behind, IsNextGroup, Lead, Stand, IsList, IsDamaged, HoldsList}
use Rattle.journal_format.specs.Area.{AreaState}
use Rattle.disk_model.specs.Disk.{State, IsSyncedIn}
use Rattle.journal_format.specs.Scanning.{FoundDamage, FoundList, HasNoGroup}
use Rattle.journal_format.specs.inner.Scanning.{FoundChanges, FoundGroup, HasNoChanges, IsNextHead}
use Rattle.journal_format.specs.laws.Heads.{stands_append}
use Rattle.journal_format.specs.laws.OneList.{front, back, same_bytes, body_read}
use Rattle.journal_format.specs.laws.Spelled.{length-change_head, length-group_head, sizes-push, next-push}

first_read : (body first count : ℕ) → first < 256 ^ 8 → big_from 0 8 (drop 4 (group_head body first count)) ≡ first
unfolding group_head
first_read body first count fits = big_number-reads_back 8 first (big_bytes 4 count) fits

count_read : (body first count : ℕ) → count < 256 ^ 4 → big_from 0 4 (drop 12 (group_head body first count)) ≡ count
unfolding group_head
count_read body first count fits = big_number-reads_back 4 count [] fits

-- each change takes 13 bytes at least
count_within : (changes : List Change) → 13 * length changes ≤ length (flat_map change_bytes changes)
unfolding change_bytes
count_within [] = omega arith
count_within (change ∷ changes) = omega (arith, count_within changes, at_least change, length-append (change_bytes change) (flat_map change_bytes changes))
  where
    at_least : (change : Change) → 13 ≤ length (change_bytes change)
    at_least (Written first bytes) = omega (arith, length-append (change_head 1 first (length bytes / 4096)) bytes, length-change_head 1 first (length bytes / 4096))
    at_least (Cleared first blocks kind) = omega (arith, length-change_head (clear_byte kind) first blocks)
    at_least (Edged first blocks kind edges bytes) =
        omega (arith, length-append (change_head (edged_byte kind) first blocks) (edges_byte edges ∷ bytes), length-change_head (edged_byte kind) first blocks)

-- the three parts of a group's head
record HasParts (body first count : ℕ) (group : StoredGroup) : Type 0 where
  body_is : length (body_of_group group) ≡ body
  first_is : group.first ≡ first
  count_is : length group.changes ≡ count

module _ (image : ℕ) (content : List ℕ) (gate next body first count : ℕ) (body_fits : body < 2 ^ 32) (first_fits : first < 2 ^ 64) (count_fits : count < 2 ^ 32)
    (stands : StandsAt content (gate + 1) (group_head body first count)) where
  has_parts : (group : StoredGroup) → IsNextGroup image next group → StandsAt content (gate + 1) (group_bytes group) → HasParts body first count group
  unfolding group_bytes
  has_parts group is bytes =
      let own = group_head (length (body_of_group group)) group.first (length group.changes) in
      let heads : own ≡ group_head body first count =
      same_bytes content (gate + 1) own (group_head body first count) (length-group_head _ _ _ ∙ sym (length-group_head body first count)) (front content (gate + 1) own (body_of_group group) bytes) stands in
      record {
        body_is = sym (body_read _ group.first (length group.changes) (omega (arith, is.body))) ∙ ap (λ (l : List ℕ). big_from 0 4 l) heads ∙ body_read body first count (omega (arith, body_fits));
        first_is = sym (first_read (length (body_of_group group)) group.first (length group.changes) (omega (arith, is.first, is.numbers, is.some)))
            ∙ ap (λ (l : List ℕ). big_from 0 8 (drop 4 l)) heads ∙ first_read body first count (omega (arith, first_fits));
        count_is = sym (count_read (length (body_of_group group)) group.first (length group.changes) (omega (arith, count_within group.changes, is.body)))
            ∙ ap (λ (l : List ℕ). big_from 0 4 (drop 12 l)) heads ∙ count_read body first count (omega (arith, count_fits));
      }

  module _ (is_open : IsOpen content gate) where
    -- no group has the head, or none has room
    pub no_group : (end : ℕ) → (IsNextHead next body first count → gate + 17 + body < end → ⊥) → HasNoGroup image content gate next end
    no_group end none = record {
      is_open = is_open;
      none = λ group is bytes inside.
          let parts = has_parts group is bytes in
          none (record {
            body_fits = omega (arith, parts.body_is, is.body);
            some = omega (arith, parts.count_is, is.some);
            left = is.left;
            first_is = sym parts.first_is ∙ is.first;
            numbers = omega (arith, parts.count_is, is.numbers);
          }) (omega (arith, parts.body_is, inside));
    }

    module _ (start end : ℕ) (start_is : start ≡ gate + 17) (end_is : end ≡ start + body) where
      -- no group has the body
      pub no_body : (last : ℕ) → HasNoChanges image content start end count → HasNoGroup image content gate next last
      unfolding group_bytes
      no_body last none = record {
        is_open = is_open;
        none = λ group is bytes inside. no_changes group is bytes (has_parts group is bytes);
      }
        where
          no_changes : (group : StoredGroup) → IsNextGroup image next group → StandsAt content (gate + 1) (group_bytes group) → HasParts body first count group → ⊥
          no_changes group is bytes parts =
              let own = group_head (length (body_of_group group)) group.first (length group.changes) in
              let at : gate + 1 + length own ≡ start = omega (arith, length-group_head (length (body_of_group group)) group.first (length group.changes), start_is) in
              none group.changes
              (record {
                are = is.changes;
                bytes = subst (λ (p : ℕ). StandsAt content p (body_of_group group)) at (back content (gate + 1) own (body_of_group group) bytes);
                end_is = omega (arith, parts.body_is, end_is);
              })
              parts.count_is

      -- the group stands
      pub group_found : (old new : List TouchedRange) (gate_behind number : ℕ) → gate_behind ≡ end → number ≡ (first + count) % 18446744073709551616 → IsNextHead next body first count → FoundChanges image content start end count old new
          → FoundGroup image content gate next gate_behind number old new
      unfolding group_bytes
      group_found old new gate_behind number gate_is number_is is found =
          let long : length (flat_map change_bytes found.changes) ≡ body = omega (arith, found.between.end_is, end_is) in
          record {
            group = record { first = first; changes = found.changes };
            is_open = is_open;
            bytes = spelled found.changes found.between.bytes long found.count_is;
            is_next = record {
              some = omega (arith, found.count_is, is.some);
              body = omega (arith, long, is.body_fits);
              left = is.left;
              first = is.first_is;
              numbers = omega (arith, found.count_is, is.numbers);
              changes = found.between.are;
            };
            gate_is = omega (arith, long, gate_is, end_is, start_is);
            number_is = ap (λ (n : ℕ). (first + n) % 18446744073709551616) found.count_is ∙ sym number_is;
            noted = found.noted ∙ ap (λ (p : ℕ). old ++ touched_by_changes p found.changes) start_is;
          }
        where
          spelled : (changes : List Change) → StandsAt content start (flat_map change_bytes changes) → length (flat_map change_bytes changes) ≡ body → length changes ≡ count
              → StandsAt content (gate + 1) (group_bytes (record { first = first; changes = changes }))
          spelled changes bytes long counted =
              let head : group_head body first count ≡ group_head (length (flat_map change_bytes changes)) first (length changes) =
              ap (λ (b : ℕ). group_head b first count) (sym long) ∙ ap (λ (n : ℕ). group_head (length (flat_map change_bytes changes)) first n) (sym counted) in
              let at : start ≡ gate + 1 + length (group_head (length (flat_map change_bytes changes)) first (length changes)) =
              omega (arith, length-group_head (length (flat_map change_bytes changes)) first (length changes), start_is) in
              stands_append content (gate + 1) (group_head (length (flat_map change_bytes changes)) first (length changes)) (flat_map change_bytes changes)
              (subst (λ (b : List ℕ). StandsAt content (gate + 1) b) head stands)
              (subst (λ (p : ℕ). StandsAt content p (flat_map change_bytes changes)) at bytes)

-- groups stand from the place on up to the gate, whatever follows
pub record FoundLead (image : ℕ) (content : List ℕ) (place first gate next : ℕ) (touched : List TouchedRange) : Type 0 where
  pub groups : List StoredGroup
  pub lead : Lead image content place first groups
  pub gate_is : gate ≡ sizes_of groups
  pub next_is : next ≡ next_behind first groups
  pub noted : touched ≡ touched_by_groups place groups

pub lead_none : (image : ℕ) (content : List ℕ) (place first : ℕ) (touched : List TouchedRange) → touched ≡ [] → FoundLead image content place first 0 first touched
lead_none image content place first touched none = record { groups = []; lead = tt; gate_is = refl; next_is = refl; noted = none }

lead_push : (image : ℕ) (content : List ℕ) (place next : ℕ) (groups : List StoredGroup) (group : StoredGroup) → Lead image content place next groups → IsOpen content (place + sizes_of groups)
    → StandsAt content (place + sizes_of groups + 1) (group_bytes group) → IsNextGroup image (next_behind next groups) group → Lead image content place next (groups ++ group ∷ [])
lead_push image content place next [] group lead is_open bytes is =
    let same : place + 0 ≡ place = omega arith in
    (subst (IsOpen content) same is_open, subst (λ (at : ℕ). StandsAt content (at + 1) (group_bytes group)) same bytes, is, tt)
lead_push image content place next (g ∷ groups) group lead is_open bytes is =
    let size : place + sizes_of (g ∷ groups) ≡ place + size_of g + sizes_of groups = omega (arith, sum_by-cons size_of g groups) in (
      lead.0,
      lead.1,
      lead.2,
      lead_push image content (place + size_of g) (number_behind g) groups group lead.3
          (subst (IsOpen content) size is_open)
          (subst (λ (at : ℕ). StandsAt content (at + 1) (group_bytes group)) size bytes)
          is,
    )

lead_stands : (image : ℕ) (content : List ℕ) (place next : ℕ) (groups : List StoredGroup) → Lead image content place next groups → (IsOpen content (place + sizes_of groups) → ⊥) → Stand image content place next groups
lead_stands image content place next [] lead closed =
    let same : place ≡ place + 0 = omega arith in
    λ is_open. closed (subst (IsOpen content) same is_open)
lead_stands image content place next (g ∷ groups) lead closed =
    let size : place + size_of g + sizes_of groups ≡ place + sizes_of (g ∷ groups) = omega (arith, sum_by-cons size_of g groups) in
    (lead.0, lead.1, lead.2, lead_stands image content (place + size_of g) (number_behind g) groups lead.3 (λ is_open. closed (subst (IsOpen content) size is_open)))

pub touched_groups-push : (place : ℕ) (groups : List StoredGroup) (group : StoredGroup) → touched_by_groups place (groups ++ group ∷ []) ≡ touched_by_groups place groups ++ touched_by_changes (place + sizes_of groups + 17) group.changes
touched_groups-push place [] group =
    let same : place + 17 ≡ place + 0 + 17 = omega arith in
    append-nil (touched_by_changes (place + 17) group.changes) ∙ ap (λ (p : ℕ). touched_by_changes p group.changes) same
touched_groups-push place (g ∷ groups) group =
    let size : place + size_of g + sizes_of groups + 17 ≡ place + sizes_of (g ∷ groups) + 17 = omega (arith, sum_by-cons size_of g groups) in
    ap (λ (l : List TouchedRange). touched_by_changes (place + 17) g.changes ++ l) (touched_groups-push (place + size_of g) groups group)
    ∙ sym (append_assoc (touched_by_changes (place + 17) g.changes) (touched_by_groups (place + size_of g) groups) (touched_by_changes (place + size_of g + sizes_of groups + 17) group.changes))
    ∙ ap (λ (p : ℕ). (touched_by_changes (place + 17) g.changes ++ touched_by_groups (place + size_of g) groups) ++ touched_by_changes p group.changes) size

module _ (image : ℕ) (content : List ℕ) (place first gate next : ℕ) (touched : List TouchedRange) (found : FoundLead image content place first gate next touched) where
  gate_place : place + gate ≡ place + sizes_of found.groups
  gate_place = omega (arith, found.gate_is)

  -- one group more
  pub lead_more : (gate' next' : ℕ) (new : List TouchedRange) → FoundGroup image content (place + gate) next (place + gate') next' touched new → FoundLead image content place first gate' next' new
  lead_more gate' next' new more = record {
    groups = found.groups ++ more.group ∷ [];
    lead = lead_push image content place first found.groups more.group found.lead
        (subst (IsOpen content) gate_place more.is_open)
        (subst (λ (p : ℕ). StandsAt content (p + 1) (group_bytes more.group)) gate_place more.bytes)
        (subst (λ (n : ℕ). IsNextGroup image n more.group) found.next_is more.is_next);
    gate_is = omega (arith, sizes-push found.groups more.group, more.gate_is, found.gate_is);
    next_is = sym more.number_is ∙ sym (next-push first found.groups more.group);
    noted = more.noted
        ∙ ap (λ (l : List TouchedRange). l ++ touched_by_changes (place + gate + 17) more.group.changes) found.noted
        ∙ ap (λ (p : ℕ). touched_by_groups place found.groups ++ touched_by_changes (p + 17) more.group.changes) gate_place
        ∙ sym (touched_groups-push place found.groups more.group);
  }

  -- the list ends here, or it is damaged here
  pub lead_ends : (IsOpen content (place + gate) → ⊥) → FoundList image content place first gate next touched
  lead_ends closed = record {
    groups = found.groups;
    stand = lead_stands image content place first found.groups found.lead (λ is_open. closed (subst (IsOpen content) (sym gate_place) is_open));
    gate_is = found.gate_is;
    next_is = found.next_is;
    noted = found.noted;
  }

  pub lead_damaged : (bytes : ℕ) → gate < bytes → HasNoGroup image content (place + gate) next (place + bytes) → FoundDamage image content place bytes first
  lead_damaged bytes inside none = record {
    groups = found.groups;
    lead = found.lead;
    inside = omega (arith, inside, found.gate_is);
    damage = subst (λ (n : ℕ). HasNoGroup image content (place + sizes_of found.groups) n (place + bytes)) found.next_is
        (subst (λ (p : ℕ). HasNoGroup image content p next (place + bytes)) gate_place none);
  }

-- the list and the damage that the scan finds, of an area
pub list_of : (area : AreaState) (first gate next : ℕ) (touched : List TouchedRange) (content : List ℕ) (found : FoundList area.blocks content area.from first gate next touched) → gate < area.bytes → IsList area first found.groups content
list_of area first gate next touched content found inside = record { stand = found.stand; inside = omega (arith, inside, found.gate_is) }

pub holds_list : (from bytes blocks first gate next : ℕ) (touched : List TouchedRange) (after : State) → FoundList blocks after.seen from first gate next touched → gate < bytes → IsSyncedIn after from bytes
    → HoldsList (record { from = from; bytes = bytes; blocks = blocks; next = next; gate = gate; touched = touched }) first after
holds_list from bytes blocks first gate next touched after found inside synced = record {
  groups = found.groups;
  held = record {
    list = record { stand = found.stand; inside = omega (arith, inside, found.gate_is) };
    gate = found.gate_is;
    next = found.next_is;
    touched = found.noted;
    synced = synced;
  };
}

pub damage_of : (area : AreaState) (first : ℕ) (content : List ℕ) → FoundDamage area.blocks content area.from area.bytes first → IsDamaged area first content
damage_of area first content found = record {
  groups = found.groups;
  lead = found.lead;
  inside = found.inside;
  is_open = found.damage.is_open;
  none = λ group is bytes inside. found.damage.none group is bytes (omega (arith, inside));
}
