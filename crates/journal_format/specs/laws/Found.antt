-- What the scan of an area finds: changes, groups and lists, or that there are none.
use Rattle.std.proofs.Common.{◌≡◌, inl, inr, ⊎_elim, ◌⊎◌, ◌||◌, ℕ, zero, suc, Bool, true, false, if◌then◌else◌, Option, Some, None, ◌+◌, ◌*◌, ◌/◌, ◌^◌, ◌≤◌, ◌<◌, List, [], ◌∷◌, ◌++◌, length, get_or, take, drop, sym, ◌∙◌, ap, subst, refl, arith, append_assoc, length-append, length-drop}
use Rattle.std.specs.Prelude.{◌==◌}
use Rattle.std.specs.List.{flat_map}
use Rattle.std.proofs.lemmas.Bool.{cases_eq, eqb-true}
use Rattle.std.proofs.lemmas.List.{get_or-take, get_or-drop, length-take, append-nil}
use Rattle.std.proofs.lemmas.List.Concat.{flat_map-append}
use Rattle.image_model.specs.declared.command.Kind.{Kind}
use Rattle.image_model.specs.declared.command.Kind.TheVariants.{Data, Zero, Hole}
use Rattle.image_model.specs.Command.{IsCleared}
use Rattle.image_model.specs.declared.command.Edges.{Edges}
use Rattle.image_model.specs.declared.command.Edges.TheVariants.{Head, Tail, Both}
use Rattle.image_model.specs.Change.{Change, Written, Cleared, Edged, IsChange, AreChanges, edge_count, least_blocks}
use Rattle.journal_format.specs.declared.touch.Touch.TheVariants.{Put, Clear}
use Rattle.journal_format.specs.declared.touch.Touch.{Touch}
use Rattle.journal_format.specs.declared.touch.TouchedRange.{TouchedRange}
use Rattle.journal_format.specs.Touches.{AreWithin, HasBytesWithin, IsWithin, edge_ranges, touched_by, touched_by_changes}
use Rattle.journal_format.specs.Spelling.{clear_byte, edged_byte, edges_byte, change_head, change_bytes}
use Rattle.journal_format.specs.GroupList.{StandsAt}
use Rattle.journal_format.specs.inner.Scanning.{IsHead, IsPutHead, IsClearHead, IsEdgedHead, IsEdgedKind, edges_said, touch_of_head, FoundChange, HasNoChange, StandBetween, FoundChanges, HasNoChanges}
use Rattle.journal_format.specs.laws.Heads.{stands_append}
use Rattle.journal_format.specs.laws.OneList.{front, back, same_bytes, same_heads}
use Rattle.journal_format.specs.laws.Spelled.{length-change_head}

-- a change with its head, and with the edges that stand after it
record Headed (image : ℕ) (change : Change) : Type 0 where
  kind : ℕ
  first : ℕ
  blocks : ℕ
  bytes : ℕ
  rest : List ℕ
  spelled : change_bytes change ≡ change_head kind first blocks ++ rest
  count : length rest ≡ bytes
  first_fits : first < 256 ^ 8
  blocks_fit : blocks < 256 ^ 4
  is_head : (edges : Option Edges) → ((byte : ℕ) (more : List ℕ) → rest ≡ byte ∷ more → IsEdgedKind kind → edges_said byte ≡ edges)
      → IsHead image kind first blocks edges bytes

said_back : (edges : Edges) → edges_said (edges_byte edges) ≡ Some edges
said_back Head = refl
said_back Tail = refl
said_back Both = refl

headed : (image : ℕ) → image < 2 ^ 64 → (change : Change) → IsChange image change → Headed image change
unfolding change_bytes
headed image fits (Written first bytes) is =
    let blocks_is : length bytes / 4096 ≡ is.0 = omega (arith, is.1) in
    record {
      kind = 1;
      first = first;
      blocks = length bytes / 4096;
      bytes = length bytes;
      rest = bytes;
      spelled = refl;
      count = refl;
      first_fits = omega (arith, is.2, is.4, fits);
      blocks_fit = omega (arith, blocks_is, is.3);
      is_head = λ edges said. record {
        inside = omega (arith, blocks_is, is.4);
        kinds = inl (refl, omega (arith, blocks_is, is.2), omega (arith, blocks_is, is.3), omega (arith, blocks_is, is.1));
      };
    }
headed image fits (Cleared first blocks kind) is = record {
  kind = clear_byte kind;
  first = first;
  blocks = blocks;
  bytes = 0;
  rest = [];
  spelled = sym (append-nil (change_head (clear_byte kind) first blocks));
  count = refl;
  first_fits = omega (arith, is.1, fits);
  blocks_fit = omega (arith, is.2);
  is_head = λ edges said. record { inside = is.1; kinds = inr (inl (clear_kinds kind is.0 is.3, refl)) };
}
  where
    clear_kinds : (kind : Kind) → (kind ≡ Zero → 1 ≤ blocks) → IsCleared kind → (clear_byte kind ≡ 2) ⊎ ((clear_byte kind ≡ 3) × (1 ≤ blocks))
    clear_kinds Data some cleared = inl refl
    clear_kinds Zero some cleared = inr (refl, some refl)
    clear_kinds Hole some cleared = inl refl
headed image fits (Edged first blocks kind edges bytes) is = record {
  kind = edged_byte kind;
  first = first;
  blocks = blocks;
  bytes = 1 + length bytes;
  rest = edges_byte edges ∷ bytes;
  spelled = refl;
  count = omega arith;
  first_fits = omega (arith, is.0, is.1, fits, some_least edges);
  blocks_fit = omega (arith, is.2);
  is_head = λ said_edges said. record {
    inside = is.1;
    kinds = inr (inr (edged_kinds kind, (edges, sym (said (edges_byte edges) bytes refl (edged_kinds kind)) ∙ said_back edges, is.0, omega (arith, is.4))));
  };
}
  where
    edged_kinds : (kind : Kind) → IsEdgedKind (edged_byte kind)
    edged_kinds Data = inl refl
    edged_kinds Zero = inr refl
    edged_kinds Hole = inl refl

    some_least : (edges : Edges) → 1 ≤ least_blocks edges
    some_least Head = omega arith
    some_least Tail = omega arith
    some_least Both = omega arith

-- after a head stand as many bytes as it says
module _ (image kind first blocks : ℕ) (edges : Option Edges) where
  one_size : (bytes bytes' : ℕ) → IsHead image kind first blocks edges bytes → IsHead image kind first blocks edges bytes' → bytes ≡ bytes'
  one_size bytes bytes' is is' = by_kinds is.kinds is'.kinds
    where
      not_clear : {P : Type 0} → (kind ≡ 1) ⊎ IsEdgedKind kind → (kind ≡ 2) ⊎ ((kind ≡ 3) × (1 ≤ blocks)) → P
      not_clear (inl one) (inl two) = absurd (omega (arith, one, two))
      not_clear (inl one) (inr three) = absurd (omega (arith, one, three.0))
      not_clear (inr (inl four)) (inl two) = absurd (omega (arith, four, two))
      not_clear (inr (inl four)) (inr three) = absurd (omega (arith, four, three.0))
      not_clear (inr (inr five)) (inl two) = absurd (omega (arith, five, two))
      not_clear (inr (inr five)) (inr three) = absurd (omega (arith, five, three.0))

      not_put : {P : Type 0} → IsEdgedKind kind → kind ≡ 1 → P
      not_put (inl four) one = absurd (omega (arith, four, one))
      not_put (inr five) one = absurd (omega (arith, five, one))

      by_kinds : IsPutHead kind blocks bytes ⊎ (IsClearHead kind blocks bytes ⊎ IsEdgedHead kind blocks edges bytes)
          → IsPutHead kind blocks bytes' ⊎ (IsClearHead kind blocks bytes' ⊎ IsEdgedHead kind blocks edges bytes') → bytes ≡ bytes'
      by_kinds (inl put) (inl put') = omega (arith, put.3, put'.3)
      by_kinds (inl put) (inr (inl clear')) = not_clear (inl put.0) clear'.0
      by_kinds (inl put) (inr (inr edged')) = not_put edged'.0 put.0
      by_kinds (inr (inl clear)) (inl put') = not_clear (inl put'.0) clear.0
      by_kinds (inr (inl clear)) (inr (inl clear')) = omega (arith, clear.1, clear'.1)
      by_kinds (inr (inl clear)) (inr (inr edged')) = not_clear (inr edged'.0) clear.0
      by_kinds (inr (inr edged)) (inl put') = not_put edged.0 put'.0
      by_kinds (inr (inr edged)) (inr (inl clear')) = not_clear (inr edged.0) clear'.0
      by_kinds (inr (inr edged)) (inr (inr edged')) =
          let both : Some edged.1.0 ≡ Some edged'.1.0 = sym edged.1.1 ∙ edged'.1.1 in
          let same : edged.1.0 ≡ edged'.1.0 = cc in
          edged.1.3 ∙ ap (λ (e : Edges). 1 + 4096 * edge_count e) same ∙ sym edged'.1.3

-- what is known of a change that stands where this head stands
pub record HasHead (image kind first blocks : ℕ) (edges : Option Edges) (change : Change) : Type 0 where
  pub bytes : ℕ
  pub is_head : IsHead image kind first blocks edges bytes
  pub size : length (change_bytes change) ≡ 13 + bytes

module _ (image : ℕ) (fits : image < 2 ^ 64) (content : List ℕ) (place : ℕ) where
  module _ (kind first blocks : ℕ) (edges : Option Edges) (first_fits : first < 2 ^ 64) (blocks_fit : blocks < 2 ^ 32) (stands : StandsAt content place (change_head kind first blocks))
      (said : IsEdgedKind kind → edges_said (get_or content (place + 13) 0) ≡ edges) where
    pub has_head : (change : Change) → IsChange image change → StandsAt content place (change_bytes change) → HasHead image kind first blocks edges change
    has_head change is bytes =
        let own = headed image fits change is in
        let whole = subst (λ (b : List ℕ). StandsAt content place b) own.spelled bytes in
        let own_head = front content place (change_head own.kind own.first own.blocks) own.rest whole in
        let heads : change_head own.kind own.first own.blocks ≡ change_head kind first blocks =
        same_bytes content place _ _ (length-change_head own.kind own.first own.blocks ∙ sym (length-change_head kind first blocks)) own_head stands in
        let parts = (same_heads own.kind own.first own.blocks kind first blocks [] [] own.first_fits own.blocks_fit (omega (arith, first_fits)) (omega (arith, blocks_fit))
        (ap (λ (l : List ℕ). l ++ []) heads)).0 in
        let long : length (change_head own.kind own.first own.blocks) ≡ 13 = length-change_head own.kind own.first own.blocks in
        let behind = back content place (change_head own.kind own.first own.blocks) own.rest whole in
        let is_head : IsHead image own.kind own.first own.blocks edges own.bytes = own.is_head edges
        (λ byte more rest_is edged.
        own_said byte more own.rest rest_is (place + length (change_head own.kind own.first own.blocks)) behind (omega (arith, long)) (subst IsEdgedKind parts.kind edged)) in
        record {
          bytes = own.bytes;
          is_head = subst (λ (n : ℕ). IsHead image kind first n edges own.bytes) parts.blocks
              (subst (λ (f : ℕ). IsHead image kind f own.blocks edges own.bytes) parts.first
              (subst (λ (k : ℕ). IsHead image k own.first own.blocks edges own.bytes) parts.kind is_head));
          size = omega (arith, ap length own.spelled, length-append (change_head own.kind own.first own.blocks) own.rest, long, own.count);
        }
      where
        own_said : (byte : ℕ) (more rest : List ℕ) → rest ≡ byte ∷ more → (at : ℕ) → StandsAt content at rest → at ≡ place + 13 → IsEdgedKind kind → edges_said byte ≡ edges
        own_said byte more rest rest_is at behind at_is edged =
            let here : at + 0 ≡ place + 13 = omega (arith, at_is) in
            let some : 0 < length rest = omega (arith, ap length rest_is) in
            let read : get_or content (place + 13) 0 ≡ byte = ap (λ (p : ℕ). get_or content p 0) (sym here) ∙ behind 0 some ∙ ap (λ (l : List ℕ). get_or l 0 0) rest_is in
            ap edges_said (sym read) ∙ said edged

    -- no change stands where no change has the head, and none that is longer than the room
    pub no_change : (end : ℕ) → ((bytes : ℕ) → IsHead image kind first blocks edges bytes → ⊥) → HasNoChange image content place end
    no_change end none change is bytes within = let head = has_head change is bytes in none head.bytes head.is_head

    pub no_room : (end bytes : ℕ) → IsHead image kind first blocks edges bytes → end < place + 13 + bytes → HasNoChange image content place end
    no_room end bytes is_head above change is stands_there within =
        let head = has_head change is stands_there in
        omega (arith, head.size, one_size image kind first blocks edges head.bytes bytes head.is_head is_head, above, within)

  -- a change is as long as its head at least
  pub no_head : (end : ℕ) → end < place + 13 → HasNoChange image content place end
  no_head end above change is bytes within =
      let own = headed image fits change is in
      omega (arith, ap length own.spelled, length-append (change_head own.kind own.first own.blocks) own.rest, length-change_head own.kind own.first own.blocks, above, within)

  -- with edges it is longer by one byte at least
  pub no_edges : (kind first blocks : ℕ) → first < 2 ^ 64 → blocks < 2 ^ 32 → StandsAt content place (change_head kind first blocks) → IsEdgedKind kind
      → (end : ℕ) → end < place + 14 → HasNoChange image content place end
  no_edges kind first blocks first_fits blocks_fit stands edged end above change is bytes within =
      let head = has_head kind first blocks (edges_said (get_or content (place + 13) 0)) first_fits blocks_fit stands (λ own. refl) change is bytes in
      omega (arith, head.size, one_more head.bytes head.is_head.kinds, above, within)
    where
      one_more : (size : ℕ) → IsPutHead kind blocks size ⊎ (IsClearHead kind blocks size ⊎ IsEdgedHead kind blocks (edges_said (get_or content (place + 13) 0)) size) → 1 ≤ size
      one_more size (inl put) = omega (arith, put.1, put.3)
      one_more size (inr (inl clear)) = absurd (neither clear.0 edged)
        where
          neither : (kind ≡ 2) ⊎ ((kind ≡ 3) × (1 ≤ blocks)) → IsEdgedKind kind → ⊥
          neither (inl two) (inl four) = omega (arith, two, four)
          neither (inl two) (inr five) = omega (arith, two, five)
          neither (inr three) (inl four) = omega (arith, three.0, four)
          neither (inr three) (inr five) = omega (arith, three.0, five)
      one_more size (inr (inr own)) = omega (arith, own.1.3)

  -- the data of a change
  data_at : ℕ → ℕ → List ℕ
  data_at from bytes = take bytes (drop from content)

  data_there : (from bytes : ℕ) → from + bytes ≤ length content → (length (data_at from bytes) ≡ bytes) × StandsAt content from (data_at from bytes)
  unfolding data_at
  data_there from bytes inside =
      let count : length (data_at from bytes) ≡ bytes = omega (arith, length-take bytes (drop from content), length-drop from content, inside) in
      (count, λ k below. sym (get_or-take bytes (drop from content) k 0 (omega (arith, below, count)) ∙ get_or-drop from content k 0))

  module _ (kind first blocks : ℕ) (edges : Option Edges) (bytes end : ℕ) (is_head : IsHead image kind first blocks edges bytes) (blocks_fit : blocks < 2 ^ 32) (stands : StandsAt content place (change_head kind first blocks))
      (said : IsEdgedKind kind → edges_said (get_or content (place + 13) 0) ≡ edges) (inside : place + 13 + bytes ≤ length content) (end_is : place + 13 + bytes ≡ end)
      (ranges : List TouchedRange)
      (plain : (IsEdgedKind kind → ⊥) → ranges ≡ record { first = first; blocks = blocks; touch = touch_of_head kind (place + 13) } ∷ [])
      (edged : IsEdgedKind kind → (own : Edges) → edges ≡ Some own
      → ranges ≡ record { first = first; blocks = blocks; touch = touch_of_head kind (place + 13) } ∷ edge_ranges first blocks own (place + 13 + 1) (edge_count own)) where
    put_found : kind ≡ 1 → 1 ≤ blocks → blocks ≤ 257 → bytes ≡ 4096 * blocks → FoundChange image content place end ranges
    unfolding change_bytes
    put_found kind_is some most bytes_is =
        let own_bytes = data_at (place + 13) bytes in
        let there = data_there (place + 13) bytes inside in
        let blocks_is : length own_bytes / 4096 ≡ blocks = omega (arith, there.0, bytes_is) in
        let head : change_head kind first blocks ≡ change_head 1 first (length own_bytes / 4096) =
        ap (λ (k : ℕ). change_head k first blocks) kind_is ∙ ap (λ (n : ℕ). change_head 1 first n) (sym blocks_is) in
        let long : length (change_head 1 first (length own_bytes / 4096)) ≡ 13 = length-change_head 1 first (length own_bytes / 4096) in
        let at : place + length (change_head 1 first (length own_bytes / 4096)) ≡ place + 13 = omega (arith, long) in
        record {
          change = Written first own_bytes;
          is = (blocks, omega (arith, there.0, bytes_is), some, most, is_head.inside);
          bytes = stands_append content place (change_head 1 first (length own_bytes / 4096)) own_bytes
              (subst (λ (b : List ℕ). StandsAt content place b) head stands)
              (subst (λ (p : ℕ). StandsAt content p own_bytes) (sym at) there.1);
          end_is = omega (arith, length-append (change_head 1 first (length own_bytes / 4096)) own_bytes, long, there.0, end_is);
          ranges_are = plain (λ other. not_one other kind_is)
              ∙ ap (λ (n : ℕ). let made : TouchedRange = record { first = first; blocks = n; touch = touch_of_head kind (place + 13) } in made ∷ []) (sym blocks_is)
              ∙ ap (λ (k : ℕ). let made : TouchedRange = record { first = first; blocks = length own_bytes / 4096; touch = touch_of_head k (place + 13) } in made ∷ []) kind_is;
        }
      where
        not_one : IsEdgedKind kind → kind ≡ 1 → ⊥
        not_one (inl four) one = omega (arith, four, one)
        not_one (inr five) one = omega (arith, five, one)

    clear_found : (state : Kind) → IsCleared state → (state ≡ Zero → 1 ≤ blocks) → kind ≡ clear_byte state → touch_of_head (clear_byte state) (place + 13) ≡ Clear state → bytes ≡ 0
        → FoundChange image content place end ranges
    unfolding change_bytes
    clear_found state is_cleared some kind_is touch_is none = record {
      change = Cleared first blocks state;
      is = (some, is_head.inside, blocks_fit, is_cleared);
      bytes = subst (λ (k : ℕ). StandsAt content place (change_head k first blocks)) kind_is stands;
      end_is = omega (arith, length-change_head (clear_byte state) first blocks, none, end_is);
      ranges_are = plain (λ other. not_edged state other kind_is)
          ∙ ap (λ (k : ℕ). let made : TouchedRange = record { first = first; blocks = blocks; touch = touch_of_head k (place + 13) } in made ∷ []) kind_is
          ∙ ap (λ (t : Touch). let made : TouchedRange = record { first = first; blocks = blocks; touch = t } in made ∷ []) touch_is;
    }
      where
        not_edged : (state : Kind) → IsEdgedKind kind → kind ≡ clear_byte state → ⊥
        not_edged Data (inl four) is = omega (arith, four, is)
        not_edged Data (inr five) is = omega (arith, five, is)
        not_edged Zero (inl four) is = omega (arith, four, is)
        not_edged Zero (inr five) is = omega (arith, five, is)
        not_edged Hole (inl four) is = omega (arith, four, is)
        not_edged Hole (inr five) is = omega (arith, five, is)

    said_is : (byte : ℕ) (own : Edges) → edges_said byte ≡ Some own → byte ≡ edges_byte own
    said_is byte own found = by_byte (byte == 1) (byte == 2) (byte == 3) refl refl refl own found
      where
        by_byte : (one two three : Bool) → byte == 1 ≡ one → byte == 2 ≡ two → byte == 3 ≡ three → (own : Edges)
            → (if one then Some Head else (if two then Some Tail else (if three then Some Both else None))) ≡ Some own → byte ≡ edges_byte own
        by_byte true two three first second third own found = let same : Head ≡ own = cc in eqb-true byte 1 first ∙ ap edges_byte same
        by_byte false true three first second third own found = let same : Tail ≡ own = cc in eqb-true byte 2 second ∙ ap edges_byte same
        by_byte false false true first second third own found = let same : Both ≡ own = cc in eqb-true byte 3 third ∙ ap edges_byte same
        by_byte false false false first second third own found = let none : None ≡ Some own = found in cc

    edged_found : (state : Kind) → IsCleared state → kind ≡ edged_byte state → touch_of_head (edged_byte state) (place + 13) ≡ Clear state
        → IsEdgedKind kind → (own : Edges) → edges ≡ Some own → least_blocks own ≤ blocks → bytes ≡ 1 + 4096 * edge_count own → FoundChange image content place end ranges
    unfolding change_bytes
    edged_found state is_cleared kind_is touch_is is_edged own edges_are least bytes_are =
        let own_bytes = data_at (place + 14) (4096 * edge_count own) in
        let there = data_there (place + 14) (4096 * edge_count own) (omega (arith, inside, bytes_are)) in
        let head = change_head (edged_byte state) first blocks in
        let long : length head ≡ 13 = length-change_head (edged_byte state) first blocks in
        let at : place + length head ≡ place + 13 = omega (arith, long) in
        let behind : place + length head + 1 ≡ place + 14 = omega (arith, long) in
        let byte_is : get_or content (place + 13) 0 ≡ edges_byte own = said_is (get_or content (place + 13) 0) own (said is_edged ∙ edges_are) in
        let single : StandsAt content (place + length head) (edges_byte own ∷ []) = λ k below.
        let zero_is : k ≡ 0 = omega (arith, below) in
        let here : place + length head + k ≡ place + 13 = omega (arith, at, zero_is) in
        ap (λ (p : ℕ). get_or content p 0) here ∙ byte_is ∙ ap (λ (n : ℕ). get_or (edges_byte own ∷ []) n 0) (sym zero_is) in
        let count : length own_bytes / 4096 ≡ edge_count own = omega (arith, there.0) in
        let next : place + 13 + 1 ≡ place + 14 = omega arith in
        record {
          change = Edged first blocks state own own_bytes;
          is = (least, is_head.inside, blocks_fit, is_cleared, there.0, omega (arith, is_head.inside, fits));
          bytes = stands_append content place head (edges_byte own ∷ own_bytes)
              (subst (λ (k : ℕ). StandsAt content place (change_head k first blocks)) kind_is stands)
              (stands_append content (place + length head) (edges_byte own ∷ []) own_bytes single
              (subst (λ (p : ℕ). StandsAt content p own_bytes) (sym behind) there.1));
          end_is = omega (arith, length-append head (edges_byte own ∷ own_bytes), long, there.0, end_is, bytes_are);
          ranges_are = edged is_edged own edges_are
              ∙ ap (λ (k : ℕ). let made : TouchedRange = record { first = first; blocks = blocks; touch = touch_of_head k (place + 13) } in made ∷ edge_ranges first blocks own (place + 13 + 1) (edge_count own)) kind_is
              ∙ ap (λ (t : Touch). let made : TouchedRange = record { first = first; blocks = blocks; touch = t } in made ∷ edge_ranges first blocks own (place + 13 + 1) (edge_count own)) touch_is
              ∙ ap (λ (p : ℕ). let made : TouchedRange = record { first = first; blocks = blocks; touch = Clear state } in made ∷ edge_ranges first blocks own p (edge_count own)) next
              ∙ ap (λ (n : ℕ). let made : TouchedRange = record { first = first; blocks = blocks; touch = Clear state } in made ∷ edge_ranges first blocks own (place + 14) n) (sym count);
        }

    -- a change stands where its head stands with room for its data
    pub change_found : FoundChange image content place end ranges
    change_found = by_kinds is_head.kinds
      where
        by_kinds : IsPutHead kind blocks bytes ⊎ (IsClearHead kind blocks bytes ⊎ IsEdgedHead kind blocks edges bytes) → FoundChange image content place end ranges
        by_kinds (inl put) = put_found put.0 put.1 put.2 put.3
        by_kinds (inr (inl clear)) = by_clear clear.0 clear.1
          where
            by_clear : (kind ≡ 2) ⊎ ((kind ≡ 3) × (1 ≤ blocks)) → bytes ≡ 0 → FoundChange image content place end ranges
            by_clear (inl two) none = clear_found Hole tt (λ zero. cc) two refl none
            by_clear (inr three) none = clear_found Zero tt (λ zero. three.1) three.0 refl none
        by_kinds (inr (inr own)) = by_edged own.0
          where
            by_edged : IsEdgedKind kind → FoundChange image content place end ranges
            by_edged (inl four) = edged_found Hole tt four refl own.0 own.1.0 own.1.1 own.1.2 own.1.3
            by_edged (inr five) = edged_found Zero tt five refl own.0 own.1.0 own.1.1 own.1.2 own.1.3

  -- two changes that stand at one place are equally long
  one_length : (change other : Change) → IsChange image change → IsChange image other → StandsAt content place (change_bytes change) → StandsAt content place (change_bytes other)
      → length (change_bytes change) ≡ length (change_bytes other)
  one_length change other is is' bytes bytes' =
      let own = headed image fits change is in
      let edges = edges_said (get_or content (place + 13) 0) in
      let stands = front content place (change_head own.kind own.first own.blocks) own.rest (subst (λ (b : List ℕ). StandsAt content place b) own.spelled bytes) in
      let one = has_head own.kind own.first own.blocks edges (omega (arith, own.first_fits)) (omega (arith, own.blocks_fit)) stands (λ own_kind. refl) change is bytes in
      let head = has_head own.kind own.first own.blocks edges (omega (arith, own.first_fits)) (omega (arith, own.blocks_fit)) stands (λ own_kind. refl) other is' bytes' in
      omega (arith, one_size image own.kind own.first own.blocks edges one.bytes head.bytes one.is_head head.is_head, head.size, one.size)

-- Of changes that stand from a place up to the end, this many in all, the first were passed: the others stand from here.
pub record AreLeft (image : ℕ) (content : List ℕ) (from place end passed count : ℕ) : Type 0 where
  pub rest : (changes : List Change) → StandBetween image content from end changes → length changes ≡ count
      → (left : List Change) × StandBetween image content place end left × (passed + length left ≡ count)

-- at the start
pub found_none : (image : ℕ) (content : List ℕ) (place : ℕ) (touched : List TouchedRange) → FoundChanges image content place place 0 touched touched
found_none image content place touched = record {
  changes = [];
  between = record { are = tt; bytes = λ k below. absurd (omega arith); end_is = omega arith };
  count_is = refl;
  noted = sym (append-nil touched);
}

pub left_none : (image : ℕ) (content : List ℕ) (place end count : ℕ) → AreLeft image content place place end 0 count
left_none image content place end count = record { rest = λ changes between is. (changes, between, omega (arith, is)) }

are_more : (image : ℕ) (changes : List Change) (change : Change) → AreChanges image changes → IsChange image change → AreChanges image (changes ++ change ∷ [])
are_more image [] change are is = (is, tt)
are_more image (c ∷ changes) change are is = (are.0, are_more image changes change are.1 is)

pub touched-push : (place : ℕ) (changes : List Change) (change : Change) → touched_by_changes place (changes ++ change ∷ []) ≡ touched_by_changes place changes ++ touched_by (place + length (flat_map change_bytes changes)) change
touched-push place [] change =
    let same : place ≡ place + 0 = omega arith in
    append-nil (touched_by place change) ∙ ap (λ (p : ℕ). touched_by p change) same
touched-push place (c ∷ changes) change =
    let at : place + length (change_bytes c) + length (flat_map change_bytes changes) ≡ place + length (flat_map change_bytes (c ∷ changes)) =
    omega (arith, length-append (change_bytes c) (flat_map change_bytes changes)) in
    ap (λ (l : List TouchedRange). touched_by place c ++ l)
    (touched-push (place + length (change_bytes c)) changes change
    ∙ ap (λ (p : ℕ). touched_by_changes (place + length (change_bytes c)) changes ++ touched_by p change) at)
    ∙ sym (append_assoc (touched_by place c) (touched_by_changes (place + length (change_bytes c)) changes) (touched_by (place + length (flat_map change_bytes (c ∷ changes))) change))

flat_map-push : (changes : List Change) (change : Change) → flat_map change_bytes (changes ++ change ∷ []) ≡ flat_map change_bytes changes ++ change_bytes change
flat_map-push changes change =
    flat_map-append change_bytes changes (change ∷ []) ∙ ap (λ (l : List ℕ). flat_map change_bytes changes ++ l) (append-nil (change_bytes change))

-- one change more
pub found_more : (image : ℕ) (content : List ℕ) (from place end count : ℕ) (old mid new : List TouchedRange) (ranges : List TouchedRange) → FoundChanges image content from place count old mid
    → FoundChange image content place end ranges → new ≡ mid ++ ranges → FoundChanges image content from end (count + 1) old new
found_more image content from place end count old mid new ranges found next new_is =
    let between = found.between in
    let bytes = flat_map-push found.changes next.change in
    let long = length-append (flat_map change_bytes found.changes) (change_bytes next.change) in
    record {
      changes = found.changes ++ next.change ∷ [];
      between = record {
        are = are_more image found.changes next.change between.are next.is;
        bytes = subst (λ (b : List ℕ). StandsAt content from b) (sym bytes)
            (stands_append content from (flat_map change_bytes found.changes) (change_bytes next.change) between.bytes
            (subst (λ (p : ℕ). StandsAt content p (change_bytes next.change)) (sym between.end_is) next.bytes));
        end_is = omega (arith, ap length bytes, long, between.end_is, next.end_is);
      };
      count_is = omega (arith, length-append found.changes (next.change ∷ []), found.count_is);
      noted = new_is
          ∙ ap (λ (l : List TouchedRange). l ++ ranges) found.noted
          ∙ append_assoc old (touched_by_changes from found.changes) ranges
          ∙ ap (λ (l : List TouchedRange). old ++ (touched_by_changes from found.changes ++ l)) (next.ranges_are ∙ ap (λ (p : ℕ). touched_by p next.change) (sym between.end_is))
          ∙ ap (λ (l : List TouchedRange). old ++ l) (sym (touched-push from found.changes next.change));
    }

module _ (image : ℕ) (fits : image < 2 ^ 64) (content : List ℕ) (from place end passed count : ℕ) (left : AreLeft image content from place end passed count) where
  pub left_more : (next : ℕ) (ranges : List TouchedRange) → FoundChange image content place next ranges → passed < count → AreLeft image content from next end (passed + 1) count
  left_more next ranges found below = record { rest = λ changes between is. let there = left.rest changes between is in drop_first there.0 there.1 there.2 }
    where
      drop_first : (changes : List Change) → StandBetween image content place end changes → passed + length changes ≡ count
          → (rest : List Change) × StandBetween image content next end rest × (passed + 1 + length rest ≡ count)
      drop_first [] between is = absurd (omega (arith, is))
      drop_first (x ∷ xs) between is =
          let first = front content place (change_bytes x) (flat_map change_bytes xs) between.bytes in
          let same = one_length image fits content place x found.change between.are.0 found.is first found.bytes in
          let at : place + length (change_bytes x) ≡ next = omega (arith, same, found.end_is) in (
            xs,
            record {
              are = between.are.1;
              bytes = subst (λ (p : ℕ). StandsAt content p (flat_map change_bytes xs)) at (back content place (change_bytes x) (flat_map change_bytes xs) between.bytes);
              end_is = omega (arith, at, between.end_is, length-append (change_bytes x) (flat_map change_bytes xs));
            },
            omega (arith, is),
          )

  -- where no change stands next, or where they end elsewhere, this many don't stand
  pub none_next : HasNoChange image content place end → passed < count → HasNoChanges image content from end count
  none_next none below changes between is = let there = left.rest changes between is in no_first there.0 there.1 there.2
    where
      no_first : (rest : List Change) → StandBetween image content place end rest → passed + length rest ≡ count → ⊥
      no_first [] between is = omega (arith, is)
      no_first (x ∷ xs) between is =
          none x between.are.0 (front content place (change_bytes x) (flat_map change_bytes xs) between.bytes) (omega (arith, between.end_is, length-append (change_bytes x) (flat_map change_bytes xs)))

  pub none_end : (place ≡ end → ⊥) → count ≤ passed → HasNoChanges image content from end count
  none_end elsewhere all changes between is = let there = left.rest changes between is in no_end there.0 there.1 there.2
    where
      no_end : (rest : List Change) → StandBetween image content place end rest → passed + length rest ≡ count → ⊥
      no_end [] between is = elsewhere (omega (arith, between.end_is))
      no_end (x ∷ xs) between is = absurd (omega (arith, is))

pub within_append : (from end : ℕ) (xs ys : List TouchedRange) → AreWithin from end xs → AreWithin from end ys → AreWithin from end (xs ++ ys)
within_append from end [] ys first second = second
within_append from end (x ∷ xs) ys first second = (first.0, within_append from end xs ys first.1 second)

-- the bytes of edges stand between two places where this many blocks of them do
pub edges_within : (from end first blocks : ℕ) (edges : Edges) (place stored : ℕ) → from ≤ place → place + 4096 * stored ≤ end → AreWithin from end (edge_ranges first blocks edges place stored)
edges_within from end first blocks Head place stored low inside = ((omega (arith, low), omega (arith, inside)), tt)
edges_within from end first blocks Tail place stored low inside = ((omega (arith, low), omega (arith, inside)), tt)
edges_within from end first blocks Both place stored low inside =
    ((omega (arith, low), omega (arith, inside)), ((omega (arith, low), omega (arith, inside)), tt))

-- the bytes of changes that stand between two places do so
pub touched_within : (from end place : ℕ) (changes : List Change) → from ≤ place → place + length (flat_map change_bytes changes) ≤ end → AreWithin from end (touched_by_changes place changes)
unfolding change_bytes
touched_within from end place [] low inside = tt
touched_within from end place (c ∷ changes) low inside =
    let long = length-append (change_bytes c) (flat_map change_bytes changes) in
    within_append from end (touched_by place c) (touched_by_changes (place + length (change_bytes c)) changes)
    (one_within end place c low (omega (arith, long, inside))) (touched_within from end (place + length (change_bytes c)) changes (omega (arith, low)) (omega (arith, long, inside)))
  where
    one_within : (end place : ℕ) (change : Change) → from ≤ place → place + length (change_bytes change) ≤ end → AreWithin from end (touched_by place change)
    one_within end place (Written first bytes) low inside =
        ((omega (arith, low), omega (arith, inside, length-append (change_head 1 first (length bytes / 4096)) bytes, length-change_head 1 first (length bytes / 4096))), tt)
    one_within end place (Cleared first blocks kind) low inside = (tt, tt)
    one_within end place (Edged first blocks kind edges bytes) low inside = (
      tt,
      edges_within from end first blocks edges (place + 14) (length bytes / 4096) (omega (arith, low))
          (omega (arith, inside, length-append (change_head (edged_byte kind) first blocks) (edges_byte edges ∷ bytes), length-change_head (edged_byte kind) first blocks)),
    )

pub edged_or_not : (kind : ℕ) → IsEdgedKind kind ⊎ (IsEdgedKind kind → ⊥)
edged_or_not kind = ⊎_elim (λ four. inl (inl four))
    (λ no_four. ⊎_elim (λ five. inl (inr five)) (λ no_five. inr (λ edged. ⊎_elim no_four no_five edged)) (cases_eq kind 5))
    (cases_eq kind 4)

-- the same of a command, by its head
module _ (image kind first blocks : ℕ) (edges : Option Edges) (bytes from end place : ℕ) (is_head : IsHead image kind first blocks edges bytes)
    (low : from ≤ place) (inside : place + 13 + bytes ≤ end) (ranges : List TouchedRange)
    (plain : (IsEdgedKind kind → ⊥) → ranges ≡ record { first = first; blocks = blocks; touch = touch_of_head kind (place + 13) } ∷ [])
    (edged : IsEdgedKind kind → (own : Edges) → edges ≡ Some own
    → ranges ≡ record { first = first; blocks = blocks; touch = touch_of_head kind (place + 13) } ∷ edge_ranges first blocks own (place + 13 + 1) (edge_count own)) where
  touch_inside : (kind : ℕ) → (kind ≡ 1 → place + 13 + 4096 * blocks ≤ end) → HasBytesWithin from end blocks (touch_of_head kind (place + 13))
  touch_inside kind put = by_kind (kind == 1) (kind == 2 || kind == 4) refl
    where
      by_kind : (one hole : Bool) → kind == 1 ≡ one → HasBytesWithin from end blocks (if one then Put (place + 13) else (if hole then Clear Hole else Clear Zero))
      by_kind true hole is = (omega (arith, low), put (eqb-true kind 1 is))
      by_kind false true is = tt
      by_kind false false is = tt

  pub head_within : AreWithin from end ranges
  head_within = by_kinds is_head.kinds
    where
      by_kinds : IsPutHead kind blocks bytes ⊎ (IsClearHead kind blocks bytes ⊎ IsEdgedHead kind blocks edges bytes) → AreWithin from end ranges
      by_kinds (inl put) = subst (AreWithin from end) (sym (plain (other put.0))) (touch_inside kind (λ one. omega (arith, put.3, inside)), tt)
        where
          other : kind ≡ 1 → IsEdgedKind kind → ⊥
          other one (inl four) = omega (arith, one, four)
          other one (inr five) = omega (arith, one, five)
      by_kinds (inr (inl clear)) = subst (AreWithin from end) (sym (plain (other clear.0))) (touch_inside kind (λ one. no_put clear.0 one), tt)
        where
          other : (kind ≡ 2) ⊎ ((kind ≡ 3) × (1 ≤ blocks)) → IsEdgedKind kind → ⊥
          other (inl two) (inl four) = omega (arith, two, four)
          other (inl two) (inr five) = omega (arith, two, five)
          other (inr three) (inl four) = omega (arith, three.0, four)
          other (inr three) (inr five) = omega (arith, three.0, five)

          no_put : (kind ≡ 2) ⊎ ((kind ≡ 3) × (1 ≤ blocks)) → kind ≡ 1 → place + 13 + 4096 * blocks ≤ end
          no_put (inl two) one = absurd (omega (arith, two, one))
          no_put (inr three) one = absurd (omega (arith, three.0, one))
      by_kinds (inr (inr own)) = subst (AreWithin from end) (sym (edged own.0 own.1.0 own.1.1))
          (touch_inside kind (λ one. no_put own.0 one), edges_within from end first blocks own.1.0 (place + 13 + 1) (edge_count own.1.0) (omega (arith, low)) (omega (arith, own.1.3, inside)))
        where
          no_put : IsEdgedKind kind → kind ≡ 1 → place + 13 + 4096 * blocks ≤ end
          no_put (inl four) one = absurd (omega (arith, four, one))
          no_put (inr five) one = absurd (omega (arith, five, one))

pub range_within : (from end lower later : ℕ) → lower ≤ from → end ≤ later → (range : TouchedRange) → IsWithin from end range → IsWithin lower later range
range_within from end lower later less more range inside = wider range.blocks range.touch inside
  where
    wider : (blocks : ℕ) (touch : Touch) → HasBytesWithin from end blocks touch → HasBytesWithin lower later blocks touch
    wider blocks (Put place) inside = (omega (arith, inside.0, less), omega (arith, inside.1, more))
    wider blocks (Clear kind) inside = tt

pub within_more : (from end later : ℕ) → end ≤ later → (ranges : List TouchedRange) → AreWithin from end ranges → AreWithin from later ranges
within_more from end later more [] inside = tt
within_more from end later more (range ∷ ranges) inside = (range_within from end from later (omega arith) more range inside.0, within_more from end later more ranges inside.1)

pub within_at : (from end : ℕ) (ranges : List TouchedRange) (index : ℕ) (d : TouchedRange) → AreWithin from end ranges → index < length ranges → IsWithin from end (get_or ranges index d)
within_at from end [] index d inside below = absurd (omega arith)
within_at from end (range ∷ ranges) zero d inside below = inside.0
within_at from end (range ∷ ranges) (suc index) d inside below = within_at from end ranges index d inside.1 (omega arith)
