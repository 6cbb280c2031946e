-- The next range of newer ranges laid over older ones.
use Rattle.std.proofs.Common.{◌≡◌, ⊎_elim, ℕ, ◌+◌, ◌-◌, ◌≤◌, ◌<◌, Bool, true, false, if◌then◌else◌, nat_lt, min, max, Option, Some, None, IfSome, IfNone, List, [], ◌∷◌, sym, ◌∙◌, ap, subst, refl, arith}
use Rattle.std.specs.Option.{option_map_or}
use Rattle.std.proofs.lemmas.Bool.{cases_lt}
use Rattle.std.proofs.lemmas.Bool.Decides.{nat_tests}
use Rattle.latest_writes.specs.declared.touch.LastTouch.{LastTouch}
use Rattle.latest_writes.specs.declared.range.LastRange.{LastRange}
use Rattle.latest_writes.specs.Touches.{later, said_by, touch_within}
use Rattle.latest_writes.specs.Ranges.{AreRanges, touch_at}
use Rattle.latest_writes.specs.inner.Ranges.{IsNextLaid, IsPartOf, left_at}
use Rattle.latest_writes.specs.laws.Said.{later_none, said_before, said_behind, said_inside, said_by_none_before, said_by_none_behind, touch_at_first, touch_at_rest, touch_within-touch_within, AreRanges-earlier, HasBytesWithin-behind, HasBytesWithin-fewer}

-- before `done` nothing is left, and after it all
pub left_before : (older newer : List LastRange) (done block : ℕ) → block < done → left_at older newer done block ≡ None
left_before older newer done block low =
    let test : nat_lt block done ≡ true = grind (arith, nat_tests) in
    ap (λ (b : Bool). if b then None else later (touch_at block older) (touch_at block newer)) test

pub left_behind : (older newer : List LastRange) (done block : ℕ) → done ≤ block → left_at older newer done block ≡ later (touch_at block older) (touch_at block newer)
left_behind older newer done block high =
    let test : nat_lt block done ≡ false = grind (arith, nat_tests) in
    ap (λ (b : Bool). if b then None else later (touch_at block older) (touch_at block newer)) test

-- a part of an older range that is before the newer ones
pub next_is_part : (older newer : List LastRange) (done limit : ℕ) (part : LastRange) → AreRanges limit 4294967295 newer → IsPartOf older done limit part
    → IsNextLaid older newer done part older newer (part.first + part.blocks)
next_is_part older newer done limit part apart is = record {
  is_range = is.is_range;
  behind = is.behind;
  end_is = refl;
  exact = λ block. ⊎_elim
      (λ low. left_before older newer done block low
      ∙ sym (ap (λ (t : Option LastTouch). later t (left_at older newer (part.first + part.blocks) block)) (said_before part.first part.blocks part.touch block (omega (arith, low, is.behind)))
      ∙ ap (λ (t : Option LastTouch). later None t) (left_before older newer (part.first + part.blocks) block (omega (arith, low, is.behind)))))
      (λ high. ⊎_elim
      (λ inside. left_behind older newer done block high
      ∙ ap (λ (t : Option LastTouch). later (touch_at block older) t) (said_by_none_before block limit 4294967295 newer apart (omega (arith, inside, is.before)))
      ∙ is.same block high inside
      ∙ sym (ap (λ (t : Option LastTouch). later (said_by part.first part.blocks part.touch block) t) (left_before older newer (part.first + part.blocks) block inside)))
      (λ behind. left_behind older newer done block high
      ∙ sym (left_behind older newer (part.first + part.blocks) block behind)
      ∙ sym (ap (λ (t : Option LastTouch). later t (left_at older newer (part.first + part.blocks) block)) (said_behind part.first part.blocks part.touch block behind)
      ∙ later_none (left_at older newer (part.first + part.blocks) block)))
      (cases_lt block (part.first + part.blocks)))
      (cases_lt block done);
}

-- the first of the newer ranges, where nothing older is before it
pub next_is_newer : (older : List LastRange) (range : LastRange) (newer : List LastRange) (done : ℕ) → AreRanges done 4294967295 (range ∷ newer)
    → ((block : ℕ) → done ≤ block → block < range.first → touch_at block older ≡ None)
    → IsNextLaid older (range ∷ newer) done range older newer (range.first + range.blocks)
next_is_newer older range newer done apart none = record {
  is_range = apart.1;
  behind = apart.0;
  end_is = refl;
  exact = λ block.
      let said = said_by range.first range.blocks range.touch block in
      let left = left_at older newer (range.first + range.blocks) block in
      ⊎_elim
      (λ low. left_before older (range ∷ newer) done block low
      ∙ sym (ap (λ (t : Option LastTouch). later t left) (said_before range.first range.blocks range.touch block (omega (arith, low, apart.0)))
      ∙ ap (λ (t : Option LastTouch). later None t) (left_before older newer (range.first + range.blocks) block (omega (arith, low, apart.0)))))
      (λ high. ⊎_elim
      (λ inside. left_behind older (range ∷ newer) done block high
      ∙ ap (λ (t : Option LastTouch). later (touch_at block older) (later said t)) (said_by_none_before block (range.first + range.blocks) 4294967295 newer apart.2 inside)
      ∙ ⊎_elim
      (λ before. ap (λ (t : Option LastTouch). later t said) (none block high before) ∙ later_none said)
      (λ within. ap (λ (t : Option LastTouch). later (touch_at block older) t) (said_inside range.first range.blocks range.touch block within inside) ∙ sym (said_inside range.first range.blocks range.touch block within inside))
      (cases_lt block range.first)
      ∙ sym (ap (λ (t : Option LastTouch). later said t) (left_before older newer (range.first + range.blocks) block inside)))
      (λ behind. left_behind older (range ∷ newer) done block high
      ∙ ap (λ (t : Option LastTouch). later (touch_at block older) t) (touch_at_rest range newer block behind)
      ∙ sym (left_behind older newer (range.first + range.blocks) block behind)
      ∙ sym (ap (λ (t : Option LastTouch). later t left) (said_behind range.first range.blocks range.touch block behind) ∙ later_none left))
      (cases_lt block (range.first + range.blocks)))
      (cases_lt block done);
}

-- nothing is left where no newer range is, and no older one says anything from `done` on
pub nothing_left : (older : List LastRange) (done : ℕ) → AreRanges 0 4294967295 older → ((block : ℕ) → done ≤ block → block < 4294967295 → touch_at block older ≡ None)
    → (block : ℕ) → left_at older [] done block ≡ None
nothing_left older done apart none block = ⊎_elim
    (λ low. left_before older [] done block low)
    (λ high. left_behind older [] done block high ∙ ⊎_elim (λ inside. none block high inside) (λ behind. said_by_none_behind block 0 4294967295 older apart behind) (cases_lt block 4294967295))
    (cases_lt block done)

-- older ranges that say the same from `done` on
pub left_by_older : (older others newer : List LastRange) (done : ℕ) → ((block : ℕ) → done ≤ block → touch_at block others ≡ touch_at block older)
    → (block : ℕ) → left_at older newer done block ≡ left_at others newer done block
left_by_older older others newer done same block = ⊎_elim
    (λ low. left_before older newer done block low ∙ sym (left_before others newer done block low))
    (λ high. left_behind older newer done block high ∙ sym (ap (λ (t : Option LastTouch). later t (touch_at block newer)) (same block high)) ∙ sym (left_behind others newer done block high))
    (cases_lt block done)

pub next_by_older : (older others newer : List LastRange) (done : ℕ) (range : LastRange) (older_left newer_left : List LastRange) (end : ℕ)
    → ((block : ℕ) → done ≤ block → touch_at block others ≡ touch_at block older) → IsNextLaid others newer done range older_left newer_left end → IsNextLaid older newer done range older_left newer_left end
next_by_older older others newer done range older_left newer_left end same next = record {
  is_range = next.is_range;
  behind = next.behind;
  end_is = next.end_is;
  exact = λ block. left_by_older older others newer done same block ∙ next.exact block;
}

-- the next newer range begins where they do
pub first_limits : (next : Option LastRange) (newer behind : List LastRange) (done : ℕ) → IfSome next (λ range. newer ≡ range ∷ behind) → IfNone next (newer ≡ []) → done ≤ 4294967295
    → AreRanges done 4294967295 newer → AreRanges (option_map_or (λ range. range.first) next 4294967295) 4294967295 newer
first_limits None newer behind done some none fits apart = subst (λ (l : List LastRange). AreRanges 4294967295 4294967295 l) (sym none) (omega arith)
first_limits (Some range) newer behind done some none fits apart =
    let known : AreRanges done 4294967295 (range ∷ behind) = subst (λ (l : List LastRange). AreRanges done 4294967295 l) some apart in
    subst (λ (l : List LastRange). AreRanges range.first 4294967295 l) (sym some) (omega arith, known.1, known.2)

-- a range that ends by a block is passed over
pub pass_range : (all rest : List LastRange) (range : LastRange) (block : ℕ) → all ≡ range ∷ rest → AreRanges 0 4294967295 all → range.first + range.blocks ≤ block
    → AreRanges 0 4294967295 rest × ((place : ℕ) → block ≤ place → touch_at place rest ≡ touch_at place all)
pass_range all rest range block are apart ends =
    let known : AreRanges 0 4294967295 (range ∷ rest) = subst (λ (l : List LastRange). AreRanges 0 4294967295 l) are apart in (
      AreRanges-earlier 0 (range.first + range.blocks) 4294967295 rest (omega arith) known.2,
      λ place high. sym (touch_at_rest range rest place (omega (arith, high, ends))) ∙ ap (λ (l : List LastRange). touch_at place l) (sym are),
    )

-- the blocks of the first range from one block on and before another one
pub part_of_first : (all rest : List LastRange) (range : LastRange) (from to first blocks : ℕ) → all ≡ range ∷ rest → AreRanges 0 4294967295 all → from < range.first + range.blocks
    → first ≡ max range.first from → first < to → blocks ≡ min (range.first + range.blocks - first) (to - first)
    → IsPartOf all from to (record { first = first; blocks = blocks; touch = touch_within (first - range.first) range.touch })
part_of_first all rest range from to first blocks are apart behind first_is before blocks_are =
    let known : AreRanges 0 4294967295 (range ∷ rest) = subst (λ (l : List LastRange). AreRanges 0 4294967295 l) are apart in
    let bytes = HasBytesWithin-behind 4294967295 (first - range.first) blocks range.touch
    (HasBytesWithin-fewer 4294967295 (first - range.first + blocks) range.blocks range.touch (omega (arith, behind, first_is, before, blocks_are)) known.1.bytes_fit) in
    record {
      is_range = record { some = omega (arith, behind, first_is, before, blocks_are, known.1.some); blocks_fit = omega (arith, behind, first_is, blocks_are, known.1.blocks_fit); bytes_fit = bytes };
      behind = omega (arith, first_is);
      before = omega (arith, before, blocks_are);
      same = λ block low high.
          let end : block < range.first + range.blocks = omega (arith, high, behind, first_is, before, blocks_are) in
          ap (λ (l : List LastRange). touch_at block l) are
          ∙ touch_at_first 0 4294967295 range rest block known end
          ∙ ⊎_elim
          (λ under. said_before range.first range.blocks range.touch block (omega (arith, under, low, first_is)) ∙ sym (said_before first blocks (touch_within (first - range.first) range.touch) block under))
          (λ over. said_inside range.first range.blocks range.touch block (omega (arith, over, first_is)) end
          ∙ ap (λ (t : LastTouch). Some t) (sym (touch_within-touch_within (block - first) (first - range.first) (block - range.first) range.touch (omega (arith, over, first_is))))
          ∙ sym (said_inside first blocks (touch_within (first - range.first) range.touch) block over high))
          (cases_lt block first);
    }

-- no range has blocks from one block on where the first one begins after it
pub none_before_first : (all rest : List LastRange) (range : LastRange) (from to : ℕ) → all ≡ range ∷ rest → AreRanges 0 4294967295 all → to ≤ max range.first from
    → (block : ℕ) → from ≤ block → block < to → touch_at block all ≡ None
none_before_first all rest range from to are apart ends block low high =
    let known : AreRanges 0 4294967295 (range ∷ rest) = subst (λ (l : List LastRange). AreRanges 0 4294967295 l) are apart in
    let begins : AreRanges range.first 4294967295 (range ∷ rest) = (omega arith, known.1, known.2) in
    ap (λ (l : List LastRange). touch_at block l) are ∙ said_by_none_before block range.first 4294967295 (range ∷ rest) begins (omega (arith, low, high, ends))
