-- What ranges say of a block.
use Rattle.std.proofs.Common.{◌≡◌, ⊎_elim, ℕ, ◌+◌, ◌-◌, ◌*◌, ◌≤◌, ◌<◌, Bool, true, false, if◌then◌else◌, Option, Some, None, List, [], ◌∷◌, ◌++◌, sym, ◌∙◌, ap, subst, refl, arith}
use Rattle.std.proofs.lemmas.Bool.{cases_lt}
use Rattle.std.proofs.lemmas.Bool.Decides.{nat_tests}
use Rattle.image_model.specs.Image.{covers}
use Rattle.latest_writes.specs.declared.touch.LastTouch.{LastTouch}
use Rattle.latest_writes.specs.declared.touch.LastTouch.TheVariants.{Put, Clear}
use Rattle.latest_writes.specs.declared.range.LastRange.{LastRange}
use Rattle.latest_writes.specs.Touches.{HasBytesWithin, later, said_by, touch_within}
use Rattle.latest_writes.specs.Ranges.{AreRanges, touch_at}

-- the later of two touches
pub later_none : (touch : Option LastTouch) → later None touch ≡ touch
later_none None = refl
later_none (Some touch) = refl

pub later_later : (a b c : Option LastTouch) → later a (later b c) ≡ later (later a b) c
later_later a b None = refl
later_later a b (Some touch) = refl

pub same_some : {a b : LastTouch} → Some a ≡ Some b → a ≡ b
same_some is = cc

pub some_is_none : {touch : LastTouch} → Some touch ≡ None → ⊥
some_is_none is = cc

-- a touch of some blocks, for one of them
pub touch_within_zero : (touch : LastTouch) → touch_within 0 touch ≡ touch
touch_within_zero (Put place) = ap Put (omega arith)
touch_within_zero (Clear kind) = refl

pub touch_within-touch_within : (a b c : ℕ) (touch : LastTouch) → a + b ≡ c → touch_within a (touch_within b touch) ≡ touch_within c touch
touch_within-touch_within a b c (Put place) is = ap Put (omega (arith, is))
touch_within-touch_within a b c (Clear kind) is = refl

pub HasBytesWithin-fewer : (end a b : ℕ) (touch : LastTouch) → a ≤ b → HasBytesWithin end b touch → HasBytesWithin end a touch
HasBytesWithin-fewer end a b (Put place) fewer within = omega (arith, fewer, within)
HasBytesWithin-fewer end a b (Clear kind) fewer within = tt

pub HasBytesWithin-behind : (end a b : ℕ) (touch : LastTouch) → HasBytesWithin end (a + b) touch → HasBytesWithin end b (touch_within a touch)
HasBytesWithin-behind end a b (Put place) within = omega (arith, within)
HasBytesWithin-behind end a b (Clear kind) within = tt

pub HasBytesWithin-joined : (end a b : ℕ) (touch next : LastTouch) → touch_within a touch ≡ next → HasBytesWithin end b next → HasBytesWithin end (a + b) touch
HasBytesWithin-joined end a b (Put place) next is within =
    let bytes : HasBytesWithin end b (Put (place + 4096 * a)) = subst (λ (t : LastTouch). HasBytesWithin end b t) (sym is) within in
    omega (arith, bytes)
HasBytesWithin-joined end a b (Clear kind) next is within = tt

-- what a touch of blocks says of one that it has, and of one that it hasn't
pub said_inside : (first blocks : ℕ) (touch : LastTouch) (block : ℕ) → first ≤ block → block < first + blocks → said_by first blocks touch block ≡ Some (touch_within (block - first) touch)
said_inside first blocks touch block low high =
    let inside : covers first blocks block ≡ true = grind (arith, nat_tests) in
    ap (λ (b : Bool). if b then Some (touch_within (block - first) touch) else None) inside

pub said_before : (first blocks : ℕ) (touch : LastTouch) (block : ℕ) → block < first → said_by first blocks touch block ≡ None
said_before first blocks touch block low =
    let outside : covers first blocks block ≡ false = grind (arith, nat_tests) in
    ap (λ (b : Bool). if b then Some (touch_within (block - first) touch) else None) outside

pub said_behind : (first blocks : ℕ) (touch : LastTouch) (block : ℕ) → first + blocks ≤ block → said_by first blocks touch block ≡ None
said_behind first blocks touch block high =
    let outside : covers first blocks block ≡ false = grind (arith, nat_tests) in
    ap (λ (b : Bool). if b then Some (touch_within (block - first) touch) else None) outside

-- ranges end where they begin or after it
pub AreRanges-order : (from to : ℕ) (ranges : List LastRange) → AreRanges from to ranges → from ≤ to
AreRanges-order from to [] apart = apart
AreRanges-order from to (range ∷ ranges) apart =
    let rest = AreRanges-order (range.first + range.blocks) to ranges apart.2 in omega (arith, rest, apart.0)

-- ranges that begin later say nothing of a block before them, nor of one after them
pub said_by_none_before : (block from to : ℕ) (ranges : List LastRange) → AreRanges from to ranges → block < from → touch_at block ranges ≡ None
said_by_none_before block from to [] apart low = refl
said_by_none_before block from to (range ∷ ranges) apart low =
    ap (λ (t : Option LastTouch). later t (touch_at block ranges)) (said_before range.first range.blocks range.touch block (omega (arith, apart.0, low)))
    ∙ later_none (touch_at block ranges)
    ∙ said_by_none_before block (range.first + range.blocks) to ranges apart.2 (omega (arith, apart.0, low))

pub said_by_none_behind : (block from to : ℕ) (ranges : List LastRange) → AreRanges from to ranges → to ≤ block → touch_at block ranges ≡ None
said_by_none_behind block from to [] apart high = refl
said_by_none_behind block from to (range ∷ ranges) apart high =
    let end = AreRanges-order (range.first + range.blocks) to ranges apart.2 in
    ap (λ (t : Option LastTouch). later t (touch_at block ranges)) (said_behind range.first range.blocks range.touch block (omega (arith, end, high)))
    ∙ later_none (touch_at block ranges)
    ∙ said_by_none_behind block (range.first + range.blocks) to ranges apart.2 high

-- ranges from an earlier block on
pub AreRanges-earlier : (earlier from to : ℕ) (ranges : List LastRange) → earlier ≤ from → AreRanges from to ranges → AreRanges earlier to ranges
AreRanges-earlier earlier from to [] before apart = omega (arith, before, apart)
AreRanges-earlier earlier from to (range ∷ ranges) before apart = (omega (arith, before, apart.0), apart.1, apart.2)

-- the first range says what ranges say of its blocks, and the others of blocks after it
pub touch_at_first : (from to : ℕ) (range : LastRange) (ranges : List LastRange) (block : ℕ) → AreRanges from to (range ∷ ranges) → block < range.first + range.blocks
    → touch_at block (range ∷ ranges) ≡ said_by range.first range.blocks range.touch block
touch_at_first from to range ranges block apart low =
    ap (λ (t : Option LastTouch). later (said_by range.first range.blocks range.touch block) t) (said_by_none_before block (range.first + range.blocks) to ranges apart.2 low)

pub touch_at_rest : (range : LastRange) (ranges : List LastRange) (block : ℕ) → range.first + range.blocks ≤ block → touch_at block (range ∷ ranges) ≡ touch_at block ranges
touch_at_rest range ranges block high =
    ap (λ (t : Option LastTouch). later t (touch_at block ranges)) (said_behind range.first range.blocks range.touch block high) ∙ later_none (touch_at block ranges)

-- lists one after the other
pub touch_at-append : (block : ℕ) (xs ys : List LastRange) → touch_at block (xs ++ ys) ≡ later (touch_at block xs) (touch_at block ys)
touch_at-append block [] ys = sym (later_none (touch_at block ys))
touch_at-append block (x ∷ xs) ys =
    ap (λ (t : Option LastTouch). later (said_by x.first x.blocks x.touch block) t) (touch_at-append block xs ys)
    ∙ later_later (said_by x.first x.blocks x.touch block) (touch_at block xs) (touch_at block ys)

-- ranges up to a later block
pub AreRanges-later : (from to later : ℕ) (ranges : List LastRange) → to ≤ later → AreRanges from to ranges → AreRanges from later ranges
AreRanges-later from to later [] behind apart = omega (arith, behind, apart)
AreRanges-later from to later (range ∷ ranges) behind apart = (apart.0, apart.1, AreRanges-later (range.first + range.blocks) to later ranges behind apart.2)

-- ranges that say nothing of the blocks from one on end before it
pub AreRanges-before : (from to limit : ℕ) (ranges : List LastRange) → from ≤ limit → AreRanges from to ranges → ((block : ℕ) → limit ≤ block → touch_at block ranges ≡ None) → AreRanges from limit ranges
AreRanges-before from to limit [] low apart none = low
AreRanges-before from to limit (range ∷ ranges) low apart none =
    let end : range.first + range.blocks ≤ limit = ⊎_elim
    (λ over.
    let last : range.first ≤ range.first + range.blocks - 1 = omega (arith, apart.1.some) in
    let inside : range.first + range.blocks - 1 < range.first + range.blocks = omega (arith, apart.1.some) in
    let said = touch_at_first from to range ranges (range.first + range.blocks - 1) apart inside
    ∙ said_inside range.first range.blocks range.touch (range.first + range.blocks - 1) last inside in
    let nothing = none (range.first + range.blocks - 1) (omega (arith, over)) in
    absurd (some_is_none (sym said ∙ nothing)))
    (λ within. within)
    (cases_lt limit (range.first + range.blocks)) in (
      apart.0,
      apart.1,
      AreRanges-before (range.first + range.blocks) to limit ranges end apart.2
          (λ block high. ⊎_elim
          (λ inside. said_by_none_before block (range.first + range.blocks) to ranges apart.2 inside)
          (λ behind. sym (touch_at_rest range ranges block behind) ∙ none block high)
          (cases_lt block (range.first + range.blocks))),
    )
