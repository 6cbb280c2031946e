-- The puts among ranges, and the next of them.
use Rattle.std.proofs.Common.{◌≡◌, ⊎_elim, ℕ, zero, suc, ◌+◌, ◌-◌, ◌*◌, ◌≤◌, ◌<◌, Bool, true, false, if◌then◌else◌, Option, Some, None, List, [], ◌∷◌, ◌++◌, length, get_or, All, sym, ◌∙◌, ap, subst, refl, arith}
use Rattle.std.specs.List.{AllWithin}
use Rattle.std.specs.List.Sorted.{IsNonDecreasingBy}
use Rattle.std.proofs.lemmas.Bool.{cases_lt}
use Rattle.std.proofs.lemmas.List.{get_or_default}
use Rattle.image_model.specs.Image.{covers}
use Rattle.latest_writes.specs.declared.touch.LastTouch.{LastTouch}
use Rattle.latest_writes.specs.declared.touch.LastTouch.TheVariants.{Put, Clear}
use Rattle.latest_writes.specs.declared.range.LastRange.{LastRange}
use Rattle.latest_writes.specs.declared.range.PutRange.{PutRange}
use Rattle.latest_writes.specs.Touches.{HasBytesWithin, later, said_by, touch_within}
use Rattle.latest_writes.specs.Ranges.{AreLongest, AreRanges, EndsBefore, touch_at}
use Rattle.latest_writes.specs.Puts.{HasNoPut, IsNextPut, is_put, put_of, puts_of}
use Rattle.latest_writes.specs.inner.Puts.{put_from, EndsBehind, EndsBy}
use Rattle.latest_writes.specs.laws.Said.{said_before, said_behind, said_inside, said_by_none_before, same_some, some_is_none, touch_at_first, touch_at_rest, touch_within_zero}

-- a put of ranges that begin at a block: each of its blocks was put last, and it is as long as can be
pub record IsFound (from : ℕ) (ranges : List LastRange) (put : PutRange) : Type 0 where
  pub behind : from ≤ put.first
  pub some : 1 ≤ put.blocks
  pub blocks_fit : put.first + put.blocks ≤ 4294967295
  pub bytes_fit : put.place + 4096 * put.blocks ≤ 4294967295
  pub puts : (block : ℕ) → put.first ≤ block → block < put.first + put.blocks → touch_at block ranges ≡ Some (Put (put.place + 4096 * (block - put.first)))
  pub longest : touch_at (put.first + put.blocks) ranges ≡ Some (Put (put.place + 4096 * put.blocks)) → ⊥

-- elements of a list with one more in front
pub All-cons : {X : Type 0} (P : X → Type 0) (x : X) (xs : List X) → P x → All P xs → All P (x ∷ xs)
All-cons P x xs first rest zero d below = first
All-cons P x xs first rest (suc k) d below = rest k d (omega (arith, below))

All-tail : {X : Type 0} (P : X → Type 0) (x : X) (xs : List X) → All P (x ∷ xs) → All P xs
All-tail P x xs all k d below = all (suc k) d (omega (arith, below))

pub All-weaker : {X : Type 0} (P Q : X → Type 0) (xs : List X) → ((x : X) → P x → Q x) → All P xs → All Q xs
All-weaker P Q xs step all k d below = step (get_or xs k d) (all k d below)

found_behind : (from to : ℕ) (range : LastRange) (ranges : List LastRange) (put : PutRange) → AreRanges from to (range ∷ ranges) → IsFound (range.first + range.blocks) ranges put → IsFound from (range ∷ ranges) put
found_behind from to range ranges put apart found = record {
  behind = omega (arith, found.behind, apart.0);
  some = found.some;
  blocks_fit = found.blocks_fit;
  bytes_fit = found.bytes_fit;
  puts = λ block low high. touch_at_rest range ranges block (omega (arith, low, found.behind)) ∙ found.puts block low high;
  longest = λ more. found.longest (sym (touch_at_rest range ranges (put.first + put.blocks) (omega (arith, found.behind))) ∙ more);
}

-- what comes after a range doesn't go on from it
touch_behind : (range : LastRange) (to : ℕ) (ranges : List LastRange) → AreRanges (range.first + range.blocks) to ranges → EndsBefore range ranges
    → touch_at (range.first + range.blocks) ranges ≡ Some (touch_within range.blocks range.touch) → ⊥
touch_behind range to [] apart ends more = some_is_none (sym more)
touch_behind range to (next ∷ ranges) apart ends more = ⊎_elim
    (λ gap. some_is_none (sym more ∙ said_by_none_before (range.first + range.blocks) next.first to (next ∷ ranges) (omega arith, apart.1, apart.2) gap))
    (λ close.
    let begins : range.first + range.blocks ≡ next.first = omega (arith, close, apart.0) in
    let inside : range.first + range.blocks < next.first + next.blocks = omega (arith, begins, apart.1.some) in
    let said = touch_at_first (range.first + range.blocks) to next ranges (range.first + range.blocks) apart inside
    ∙ said_inside next.first next.blocks next.touch (range.first + range.blocks) close inside in
    let none : range.first + range.blocks - next.first ≡ 0 = omega (arith, begins) in
    let touch = same_some (sym more ∙ said ∙ ap (λ (n : ℕ). Some (touch_within n next.touch)) none ∙ ap (λ (t : LastTouch). Some t) (touch_within_zero next.touch)) in
    ends (begins, touch))
    (cases_lt (range.first + range.blocks) next.first)

found_own : (first blocks place from to : ℕ) (range : LastRange) (ranges : List LastRange) → range ≡ record { first = first; blocks = blocks; touch = Put place } → AreRanges from to (range ∷ ranges) → EndsBefore range ranges
    → IsFound from (range ∷ ranges) (record { first = first; blocks = blocks; place = place })
found_own first blocks place from to range ranges is apart ends =
    let first_is = ap (λ (r : LastRange). r.first) is in
    let blocks_is = ap (λ (r : LastRange). r.blocks) is in
    let touch_is = ap (λ (r : LastRange). r.touch) is in
    let bytes : HasBytesWithin 4294967295 range.blocks (Put place) = subst (λ (t : LastTouch). HasBytesWithin 4294967295 range.blocks t) touch_is apart.1.bytes_fit in
    record {
      behind = omega (arith, apart.0, first_is);
      some = omega (arith, apart.1.some, blocks_is);
      blocks_fit = omega (arith, apart.1.blocks_fit, first_is, blocks_is);
      bytes_fit = omega (arith, bytes, blocks_is);
      puts = λ block low high.
          touch_at_first from to range ranges block apart (omega (arith, high, first_is, blocks_is))
          ∙ said_inside range.first range.blocks range.touch block (omega (arith, low, first_is)) (omega (arith, high, first_is, blocks_is))
          ∙ ap (λ (t : LastTouch). Some (touch_within (block - range.first) t)) touch_is
          ∙ ap (λ (n : ℕ). Some (Put (place + 4096 * (block - n)))) first_is;
      longest = λ more.
          let at : first + blocks ≡ range.first + range.blocks = omega (arith, first_is, blocks_is) in
          touch_behind range to ranges apart.2 ends
          (sym (touch_at_rest range ranges (range.first + range.blocks) (omega arith))
          ∙ ap (λ (n : ℕ). touch_at n (range ∷ ranges)) (sym at) ∙ more
          ∙ ap (λ (n : ℕ). Some (Put (place + 4096 * n))) (sym blocks_is)
          ∙ ap (λ (t : LastTouch). Some (touch_within range.blocks t)) (sym touch_is));
    }

found_first : (first blocks : ℕ) (touch : LastTouch) (from to : ℕ) (range : LastRange) (ranges : List LastRange) → range ≡ record { first = first; blocks = blocks; touch = touch } → AreRanges from to (range ∷ ranges) → EndsBefore range ranges
    → All (IsFound from (range ∷ ranges)) (puts_of ranges) → All (IsFound from (range ∷ ranges)) (put_of first blocks touch ++ puts_of ranges)
found_first first blocks (Put place) from to range ranges is apart ends rest = All-cons (IsFound from (range ∷ ranges)) _ (puts_of ranges) (found_own first blocks place from to range ranges is apart ends) rest
found_first first blocks (Clear kind) from to range ranges is apart ends rest = rest

pub found_puts : (from to : ℕ) (ranges : List LastRange) → AreRanges from to ranges → AreLongest ranges → All (IsFound from ranges) (puts_of ranges)
found_puts from to [] apart longest = λ k d below. absurd (omega (arith, below))
found_puts from to (range ∷ ranges) apart longest =
    let rest = All-weaker (IsFound (range.first + range.blocks) ranges) (IsFound from (range ∷ ranges)) (puts_of ranges) (λ put found. found_behind from to range ranges put apart found) (found_puts (range.first + range.blocks) to ranges apart.2 longest.1) in
    found_first range.first range.blocks range.touch from to range ranges refl apart longest.0 rest

-- puts ascend
pub record AreAscending (puts : List PutRange) : Type 0 where
  pub ends : IsNonDecreasingBy (λ put. put.first + put.blocks) puts
  pub firsts : IsNonDecreasingBy (λ put. put.first) puts

pub NonDecreasing-cons : {X : Type 0} (n : X → ℕ) (x : X) (xs : List X) → All (λ y. n x ≤ n y) xs → IsNonDecreasingBy n xs → IsNonDecreasingBy n (x ∷ xs)
NonDecreasing-cons n x xs least rest zero zero d order below = omega arith
NonDecreasing-cons n x xs least rest zero (suc j) d order below = least j d (omega (arith, below))
NonDecreasing-cons n x xs least rest (suc i) zero d order below = absurd (omega (arith, order))
NonDecreasing-cons n x xs least rest (suc i) (suc j) d order below = rest i j d (omega (arith, order)) (omega (arith, below))

ascending_cons : (put : PutRange) (puts : List PutRange) → All (λ next. put.first + put.blocks ≤ next.first) puts → AreAscending puts → AreAscending (put ∷ puts)
ascending_cons put puts behind ascending = record {
  ends = NonDecreasing-cons (λ put. put.first + put.blocks) put puts (All-weaker (λ (next : PutRange). put.first + put.blocks ≤ next.first) (λ (next : PutRange). put.first + put.blocks ≤ next.first + next.blocks) puts (λ next after. omega (arith, after)) behind) ascending.ends;
  firsts = NonDecreasing-cons (λ put. put.first) put puts (All-weaker (λ (next : PutRange). put.first + put.blocks ≤ next.first) (λ (next : PutRange). put.first ≤ next.first) puts (λ next after. omega (arith, after)) behind) ascending.firsts;
}

ascending_first : (first blocks : ℕ) (touch : LastTouch) (puts : List PutRange) → All (λ next. first + blocks ≤ next.first) puts → AreAscending puts → AreAscending (put_of first blocks touch ++ puts)
ascending_first first blocks (Put place) puts behind ascending = ascending_cons _ puts behind ascending
ascending_first first blocks (Clear kind) puts behind ascending = ascending

pub ascending_puts : (from to : ℕ) (ranges : List LastRange) → AreRanges from to ranges → AreLongest ranges → AreAscending (puts_of ranges)
ascending_puts from to [] apart longest = record { ends = λ i j d order below. absurd (omega (arith, below)); firsts = λ i j d order below. absurd (omega (arith, below)) }
ascending_puts from to (range ∷ ranges) apart longest =
    ascending_first range.first range.blocks range.touch (puts_of ranges)
    (All-weaker (IsFound (range.first + range.blocks) ranges) (λ (put : PutRange). range.first + range.blocks ≤ put.first) (puts_of ranges) (λ put found. found.behind) (found_puts (range.first + range.blocks) to ranges apart.2 longest.1))
    (ascending_puts (range.first + range.blocks) to ranges apart.2 longest.1)

-- a block that no put has wasn't put last
abbrev pub Misses : ℕ → PutRange → Type 0
Misses block put = put.first ≤ block → block < put.first + put.blocks → ⊥

no_put_later : (a b : Option LastTouch) → is_put a ≡ false → is_put b ≡ false → is_put (later a b) ≡ false
no_put_later a None first second = first
no_put_later a (Some touch) first second = second

no_put_cleared : (test : Bool) (touch : LastTouch) → is_put (Some touch) ≡ false → is_put (if test then Some touch else None) ≡ false
no_put_cleared true touch none = none
no_put_cleared false touch none = refl

no_put_first : (first blocks : ℕ) (touch : LastTouch) (puts : List PutRange) (block : ℕ) → All (Misses block) (put_of first blocks touch ++ puts)
    → (is_put (said_by first blocks touch block) ≡ false) × All (Misses block) puts
no_put_first first blocks (Put place) puts block all =
    let misses = all 0 (record { first = first; blocks = blocks; place = place }) (omega arith) in (
      ⊎_elim
          (λ low. ap (λ (t : Option LastTouch). is_put t) (said_before first blocks (Put place) block low))
          (λ high. ⊎_elim (λ inside. absurd (misses high inside)) (λ behind. ap (λ (t : Option LastTouch). is_put t) (said_behind first blocks (Put place) block behind)) (cases_lt block (first + blocks)))
          (cases_lt block first),
      All-tail (Misses block) _ puts all,
    )
no_put_first first blocks (Clear kind) puts block all = (no_put_cleared (covers first blocks block) (Clear kind) refl, all)

pub no_put : (ranges : List LastRange) (block : ℕ) → All (Misses block) (puts_of ranges) → is_put (touch_at block ranges) ≡ false
no_put [] block all = refl
no_put (range ∷ ranges) block all =
    let first = no_put_first range.first range.blocks range.touch (puts_of ranges) block all in
    no_put_later (said_by range.first range.blocks range.touch block) (touch_at block ranges) first.0 (no_put ranges block first.1)

-- the first put that ends after a block
module _ (blocks from index : ℕ) (ranges : List LastRange) (apart : AreRanges 0 blocks ranges) (longest : AreLongest ranges)
    (before : AllWithin (EndsBy from) (puts_of ranges) 0 index) (behind : AllWithin (EndsBehind from) (puts_of ranges) index (length (puts_of ranges))) where
  pub none_behind : length (puts_of ranges) ≤ index → HasNoPut from ranges
  none_behind all block low = no_put ranges block
      (λ k d below first inside.
      let ends = before k d (omega arith) (omega (arith, below, all)) in
      omega (arith, ends, inside, low))

  pub ends_behind : (put d : PutRange) → index < length (puts_of ranges) → put ≡ get_or (puts_of ranges) index d → from < put.first + put.blocks
  ends_behind put d inside is =
      subst (EndsBehind from) (sym is) (behind index d (omega arith) inside)

  pub is_found : (put d : PutRange) → index < length (puts_of ranges) → put ≡ get_or (puts_of ranges) index d → IsFound 0 ranges put
  is_found put d inside is = subst (λ (p : PutRange). IsFound 0 ranges p) (sym is) (found_puts 0 blocks ranges apart longest index d inside)

  pub is_next : (put d : PutRange) → index < length (puts_of ranges) → put ≡ get_or (puts_of ranges) index d → IsNextPut from ranges (put_from from put)
  is_next put d inside is =
      let found = is_found put d inside is in
      let ends = ends_behind put d inside is in
      record {
        behind = omega arith;
        first = λ block low high. no_put ranges block
            (λ k e below first within. ⊎_elim
            (λ earlier.
            let ends = before k e (omega arith) earlier in
            omega (arith, ends, within, low))
            (λ later.
            let order = (ascending_puts 0 blocks ranges apart longest).firsts index k e later below in
            let own : put.first ≤ (get_or (puts_of ranges) k e).first = subst (λ (p : PutRange). p.first ≤ (get_or (puts_of ranges) k e).first) (sym (is ∙ get_or_default (puts_of ranges) index d e inside)) order in
            omega (arith, own, first, high, low))
            (cases_lt k index));
        some = omega (arith, ends, found.some);
        puts = λ k below. found.puts (put.first + (from - put.first) + k) (omega arith) (omega (arith, below, ends))
            ∙ ap (λ (n : ℕ). Some (Put n)) (omega arith);
        longest = λ more.
            let at : put.first + (from - put.first) + (put.blocks - (from - put.first)) ≡ put.first + put.blocks = omega (arith, ends) in
            let place : put.place + 4096 * (from - put.first) + 4096 * (put.blocks - (from - put.first)) ≡ put.place + 4096 * put.blocks = omega (arith, ends) in
            found.longest (ap (λ (n : ℕ). touch_at n ranges) (sym at) ∙ more ∙ ap (λ (n : ℕ). Some (Put n)) place);
      }

-- the same of a copy of the puts
pub record IsSearched (from : ℕ) (ranges : List LastRange) (put : PutRange) : Type 0 where
  pub found : IsFound 0 ranges put
  pub ends : from < put.first + put.blocks
  pub next : IsNextPut from ranges (put_from from put)

pub searched : (blocks from index : ℕ) (ranges : List LastRange) (puts shown : List PutRange) → AreRanges 0 blocks ranges → AreLongest ranges → shown ≡ puts → puts ≡ puts_of ranges
    → AllWithin (EndsBy from) shown 0 index → AllWithin (EndsBehind from) shown index (length shown) → (put : PutRange) → index < length shown → put ≡ get_or puts index put
    → IsSearched from ranges put
searched blocks from index ranges puts shown apart longest shown_is puts_are before behind put inside is =
    let known = subst (λ (l : List PutRange). AllWithin (EndsBy from) l 0 index) (shown_is ∙ puts_are) before in
    let after = subst (λ (l : List PutRange). AllWithin (EndsBehind from) l index (length l)) (shown_is ∙ puts_are) behind in
    let below = subst (λ (l : List PutRange). index < length l) (shown_is ∙ puts_are) inside in
    let element = subst (λ (l : List PutRange). put ≡ get_or l index put) puts_are is in
    record {
      found = is_found blocks from index ranges apart longest known after put put below element;
      ends = ends_behind blocks from index ranges apart longest known after put put below element;
      next = is_next blocks from index ranges apart longest known after put put below element;
    }

pub searched_none : (blocks from index : ℕ) (ranges : List LastRange) (puts shown : List PutRange) → AreRanges 0 blocks ranges → AreLongest ranges → shown ≡ puts → puts ≡ puts_of ranges
    → AllWithin (EndsBy from) shown 0 index → AllWithin (EndsBehind from) shown index (length shown) → length shown ≤ index → HasNoPut from ranges
searched_none blocks from index ranges puts shown apart longest shown_is puts_are before behind all =
    let known = subst (λ (l : List PutRange). AllWithin (EndsBy from) l 0 index) (shown_is ∙ puts_are) before in
    let after = subst (λ (l : List PutRange). AllWithin (EndsBehind from) l index (length l)) (shown_is ∙ puts_are) behind in
    none_behind blocks from index ranges apart longest known after (subst (λ (l : List PutRange). length l ≤ index) (shown_is ∙ puts_are) all)

pub searchable : (blocks : ℕ) (ranges : List LastRange) (puts shown : List PutRange) → AreRanges 0 blocks ranges → AreLongest ranges → shown ≡ puts → puts ≡ puts_of ranges
    → IsNonDecreasingBy (λ (put : PutRange). put.first + put.blocks) shown
searchable blocks ranges puts shown apart longest shown_is puts_are =
    subst (λ (l : List PutRange). IsNonDecreasingBy (λ (put : PutRange). put.first + put.blocks) l) (sym (shown_is ∙ puts_are)) (ascending_puts 0 blocks ranges apart longest).ends
