-- how many blocks are dirty
use Rattle.std.proofs.Common.{◌≡◌, ◌⊎◌, inl, inr, ℕ, zero, suc, ◌+◌, ◌-◌, ◌<◌, ◌≤◌, Bool, true, false, cond, if◌then◌else◌, Option, Some, None, List, [], ◌∷◌, length, drop, sym, ap, ◌∙◌, refl, arith}
use Rattle.std.proofs.lemmas.Bool.{both_ways, cases_Bool, cases_eq, eq-eqb, ne_eqb}
use Rattle.std.specs.Option.{is_some}
use Rattle.std.specs.List.{list_any}
use Rattle.std.specs.Ordering.{nat_cmp, eq_by_cmp}
use Rattle.std.specs.Cmp.{nat_cmp_total, unsigned_tied}
use Rattle.std.specs.FinMap.{entries, find, get, len, remove, get-empty, get-entries, get-remove, len-entries, len-remove, empty_of_len, same_map, nat_cmp-IsAntisymmetric}
use Rattle.image_model.specs.Change.{Change}
use Rattle.image_model.specs.Image.{touches, writes}
use Rattle.image_model.specs.Dirty.{Dirty, dirty_blocks, last_write}
use Rattle.image_model.specs.laws.DirtyMaps.{get-dirty_blocks}
use Rattle.image_model.specs.laws.DirtyTails.{dirty_behind_more, dirty_behind_few}

-- a map with an entry has a block
first_block : (list : List (ℕ × ℕ)) (count : ℕ) → length list ≡ suc count → (q : ℕ) × (is_some (find nat_cmp q list) ≡ true)
first_block [] count is = absurd (omega (arith, is))
first_block (entry ∷ rest) count is = (entry.0, ap (λ test. is_some (cond test (Some entry.1) (find nat_cmp entry.0 rest))) same)
  where
    same : eq_by_cmp nat_cmp entry.0 entry.0 ≡ true
    same = unsigned_tied entry.0 entry.0 ∙ eq-eqb entry.0 entry.0 refl

dirty_first : (dirty : Dirty) (count : ℕ) → len dirty ≡ suc count → (q : ℕ) × (is_some (get dirty q) ≡ true)
dirty_first dirty count is =
    let found = first_block (entries dirty) count (sym (len-entries dirty) ∙ is) in
    (found.0, ap is_some (get-entries dirty found.0) ∙ found.1)

-- a map with a block has an entry
counted_block : (dirty : Dirty) (q : ℕ) → is_some (get dirty q) ≡ true → 0 < len dirty
counted_block dirty q has = by_count (cases_eq (len dirty) 0)
  where
    by_count : (len dirty ≡ 0) ⊎ (len dirty ≡ 0 → ⊥) → 0 < len dirty
    by_count (inl none) = absurd (both_ways (is_some (get dirty q)) (ap is_some (ap (λ (d : Dirty). get d q) (empty_of_len dirty none) ∙ get-empty nat_cmp q)) has)
    by_count (inr some) = omega (arith, some)

len_without : (dirty : Dirty) (q : ℕ) → is_some (get dirty q) ≡ true → len (remove dirty q) ≡ len dirty - 1
len_without dirty q has = len-remove nat_cmp_total dirty q ∙ ap (λ test. cond test (len dirty - 1) (len dirty)) has

some_kept : (same : Bool) (this other : Option ℕ) → (is_some this ≡ true → is_some other ≡ true) → is_some (cond same None this) ≡ true → is_some (cond same None other) ≡ true
some_kept true this other kept is = is
some_kept false this other kept is = kept is

kept_without : (dirty more : Dirty) (block : ℕ) → ((q : ℕ) → is_some (get dirty q) ≡ true → is_some (get more q) ≡ true)
    → (q : ℕ) → is_some (get (remove dirty block) q) ≡ true → is_some (get (remove more block) q) ≡ true
kept_without dirty more block kept q is = ap is_some (get-remove nat_cmp_total more block q)
    ∙ some_kept (eq_by_cmp nat_cmp q block) (get dirty q) (get more q) (kept q) (sym (ap is_some (get-remove nat_cmp_total dirty block q)) ∙ is)

-- no more blocks are dirty than where all of these are
len_within : (count : ℕ) (dirty more : Dirty) → len dirty ≡ count → ((q : ℕ) → is_some (get dirty q) ≡ true → is_some (get more q) ≡ true) → len dirty ≤ len more
len_within zero dirty more is kept = omega (arith, is)
len_within (suc count) dirty more is kept =
    let first = dirty_first dirty count is in
    let one_less = len_without dirty first.0 first.1 in
    let also_less = len_without more first.0 (kept first.0 first.1) in
    let some = counted_block more first.0 (kept first.0 first.1) in
    let rest = len_within count (remove dirty first.0) (remove more first.0) (omega (arith, one_less, is)) (kept_without dirty more first.0 kept) in
    omega (arith, is, one_less, also_less, some, rest)

pub dirty_len_within : (dirty more : Dirty) → ((q : ℕ) → is_some (get dirty q) ≡ true → is_some (get more q) ≡ true) → len dirty ≤ len more
dirty_len_within dirty more kept = len_within (len dirty) dirty more refl kept

pub dirty_len_same : (dirty other : Dirty) → ((q : ℕ) → is_some (get dirty q) ≡ is_some (get other q)) → len dirty ≡ len other
dirty_len_same dirty other same =
    let some = dirty_len_within dirty other (λ q is. sym (same q) ∙ is) in
    let all = dirty_len_within other dirty (λ q is. same q ∙ is) in
    omega (arith, some, all)

-- a count over the blocks that goes up by one at each dirty one comes to how many there are
pub dirty_len_counted : (blocks : ℕ) (dirty : Dirty) (count : ℕ → ℕ) → count 0 ≡ 0
    → ((q : ℕ) → q < blocks → count (suc q) ≡ count q + (if is_some (get dirty q) then 1 else 0)) → ((q : ℕ) → is_some (get dirty q) ≡ true → q < blocks)
    → len dirty ≡ count blocks
dirty_len_counted zero dirty count start step within = by_count (cases_eq (len dirty) 0)
  where
    by_count : (len dirty ≡ 0) ⊎ (len dirty ≡ 0 → ⊥) → len dirty ≡ count 0
    by_count (inl none) = none ∙ sym start
    by_count (inr some) =
        let first = dirty_first dirty (len dirty - 1) (omega (arith, some)) in
        let below = within first.0 first.1 in absurd (omega (arith, below))
dirty_len_counted (suc blocks) dirty count start step within =
    by_last (cases_Bool (is_some (get dirty blocks)))
    (λ same_within. dirty_len_counted blocks dirty count start (λ q below. step q (omega (arith, below))) same_within)
    (dirty_len_counted blocks (remove dirty blocks) count start (λ q below. step q (omega (arith, below)) ∙ sym (kept q below)) rest_within)
  where
    kept : (q : ℕ) → q < blocks → count q + (if is_some (get (remove dirty blocks) q) then 1 else 0) ≡ count q + (if is_some (get dirty q) then 1 else 0)
    kept q below = ap (λ (o : Option ℕ). count q + (if is_some o then 1 else 0))
        (get-remove nat_cmp_total dirty blocks q ∙ ap (λ test. cond test None (get dirty q)) (unsigned_tied q blocks ∙ ne_eqb q blocks (λ same. omega (arith, below, same))))

    below_last : (q : ℕ) → q < suc blocks → (q ≡ blocks → ⊥) → q < blocks
    below_last q below other = omega (arith, below, other)

    rest_within : (q : ℕ) → is_some (get (remove dirty blocks) q) ≡ true → q < blocks
    rest_within q is = by_place (cases_eq q blocks) (sym (ap is_some (get-remove nat_cmp_total dirty blocks q)) ∙ is)
      where
        by_place : (q ≡ blocks) ⊎ (q ≡ blocks → ⊥) → is_some (cond (eq_by_cmp nat_cmp q blocks) None (get dirty q)) ≡ true → q < blocks
        by_place (inl same) there =
            absurd (both_ways false refl (sym (ap (λ test. is_some (cond test None (get dirty q))) (unsigned_tied q blocks ∙ eq-eqb q blocks same)) ∙ there))
        by_place (inr other) there =
            below_last q (within q (sym (ap (λ test. is_some (cond test None (get dirty q))) (unsigned_tied q blocks ∙ ne_eqb q blocks other)) ∙ there)) other

    by_last : (is_some (get dirty blocks) ≡ true) ⊎ (is_some (get dirty blocks) ≡ false)
        → (((q : ℕ) → is_some (get dirty q) ≡ true → q < blocks) → len dirty ≡ count blocks) → len (remove dirty blocks) ≡ count blocks → len dirty ≡ count (suc blocks)
    by_last (inl has) same rest =
        let next = step blocks (omega arith) ∙ ap (λ test. count blocks + (if test then 1 else 0)) has in
        let one_less = len_without dirty blocks has in
        let some = counted_block dirty blocks has in
        omega (arith, next, one_less, some, rest)
    by_last (inr none) same rest =
        let next = step blocks (omega arith) ∙ ap (λ test. count blocks + (if test then 1 else 0)) none in
        let all = same (λ q is. below_last q (within q is) (λ here. both_ways (is_some (get dirty blocks)) none (ap (λ (b : ℕ). is_some (get dirty b)) (sym here) ∙ is))) in
        omega (arith, next, all)

both_some : (again put : Bool) (this other : Option ℕ) (here there : ℕ) → is_some this ≡ is_some other
    → is_some (if again then this else (if put then Some here else None)) ≡ is_some (if again then other else (if put then Some there else None))
both_some true put this other here there same = same
both_some false true this other here there same = refl
both_some false false this other here there same = refl

written_alike : (q last other : ℕ) (changes : List Change) → is_some (last_write q last changes) ≡ is_some (last_write q other changes)
written_alike q last other [] = refl
written_alike q last other (change ∷ later) = both_some (list_any (touches q) later) (writes q change)
    (last_write q (last + 1) later) (last_write q (other + 1) later) (last + 1) (other + 1) (written_alike q (last + 1) (other + 1) later)

-- how many blocks are dirty doesn't depend on the commands' numbers
pub dirty_count : (last other : ℕ) (changes : List Change) → len (dirty_blocks last changes) ≡ len (dirty_blocks other changes)
dirty_count last other changes = dirty_len_same (dirty_blocks last changes) (dirty_blocks other changes)
    (λ q. ap is_some (get-dirty_blocks last changes q) ∙ written_alike q last other changes ∙ sym (ap is_some (get-dirty_blocks other changes q)))

-- what an option has
value_of : (given : Option ℕ) → is_some given ≡ true → (value : ℕ) × (given ≡ Some value)
value_of None is = absurd (both_ways false refl is)
value_of (Some value) is = (value, refl)

-- after more commands fewer blocks are dirty exactly where one of them has the number of one of these commands
module _ (last : ℕ) (changes : List Change) (few many : ℕ) (further : few ≤ many) (within : many ≤ length changes) where
  pub dirty_fewer : (q number : ℕ) → get (dirty_blocks (last + few) (drop few changes)) q ≡ Some number → number ≤ last + many
      → len (dirty_blocks (last + many) (drop many changes)) < len (dirty_blocks (last + few) (drop few changes))
  dirty_fewer q number at below =
      let all = dirty_blocks (last + few) (drop few changes) in
      let rest = dirty_len_within (dirty_blocks (last + many) (drop many changes)) (remove all q) kept in
      let one_less = len_without all q (ap is_some at) in
      let some = counted_block all q (ap is_some at) in
      omega (arith, rest, one_less, some)
    where
      kept : (r : ℕ) → is_some (get (dirty_blocks (last + many) (drop many changes)) r) ≡ true → is_some (get (remove (dirty_blocks (last + few) (drop few changes)) q) r) ≡ true
      kept r is =
          let has = value_of (get (dirty_blocks (last + many) (drop many changes)) r) is in
          let found = dirty_behind_more last changes few many further within r has.0 has.1 in
          ap is_some (get-remove nat_cmp_total (dirty_blocks (last + few) (drop few changes)) q r
          ∙ ap (λ test. cond test None (get (dirty_blocks (last + few) (drop few changes)) r)) (unsigned_tied r q ∙ ne_eqb r q (apart r has.0 found.0 found.1))
          ∙ found.0)
        where
          apart : (r other : ℕ) → get (dirty_blocks (last + few) (drop few changes)) r ≡ Some other → last + many < other → r ≡ q → ⊥
          apart r other there above same =
              let one : Some other ≡ Some number = sym there ∙ (ap (get (dirty_blocks (last + few) (drop few changes))) same ∙ at) in
              let equal : other ≡ number = cc in omega (arith, equal, above, below)

  pub dirty_all_behind : ((q number : ℕ) → get (dirty_blocks (last + few) (drop few changes)) q ≡ Some number → last + many < number)
      → dirty_blocks (last + many) (drop many changes) ≡ dirty_blocks (last + few) (drop few changes)
  dirty_all_behind above = same_map nat_cmp_total nat_cmp-IsAntisymmetric _ _
      (λ q. by_state q (get (dirty_blocks (last + few) (drop few changes)) q) (get (dirty_blocks (last + many) (drop many changes)) q) refl refl)
    where
      by_state : (q : ℕ) (of_few of_many : Option ℕ) → get (dirty_blocks (last + few) (drop few changes)) q ≡ of_few → get (dirty_blocks (last + many) (drop many changes)) q ≡ of_many
          → of_many ≡ of_few
      by_state q (Some number) of_many few_is many_is = sym many_is ∙ dirty_behind_few last changes few many further within q number (above q number few_is) few_is
      by_state q None (Some number) few_is many_is =
          let clash : None ≡ Some number = sym few_is ∙ (dirty_behind_more last changes few many further within q number many_is).0 in cc
      by_state q None None few_is many_is = refl
