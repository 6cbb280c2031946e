-- the longest runs of blocks in one state, as runs of their status
use Rattle.std.proofs.Common.{◌≡◌, ◌⊎◌, ℕ, zero, suc, ◌+◌, ◌-◌, ◌*◌, ◌<◌, ◌≤◌, ◌==◌, inl, inr, Bool, if◌then◌else◌, List, [], ◌∷◌, take, length, map, get_or, sym, ◌∙◌, ap, subst, refl, arith}
use Rattle.std.specs.List.{AllByRecursion}
use Rattle.std.proofs.lemmas.Bool.{eq-eqb, ne_eqb}
use Rattle.alloc_map.specs.Codes.{state_at}
use Rattle.alloc_map.specs.Runs.{AreRuns}
use Rattle.alloc_map.specs.declared.run.Run.{Run as Stretch}
use Rattle.image_model.specs.declared.command.Kind.{Kind}
use Rattle.image_model.specs.declared.command.Kind.TheVariants.{Data, Zero, Hole}
use Rattle.nbd_wire.specs.declared.message.Run.{Run}
use Rattle.export_model.specs.Shown.{runs_from, status_of, with_block}
use Rattle.request_core.proofs.RunsGrow.{run_of}

-- a stretch as a run of its status
abbrev pub as_run : Stretch → Run
as_run stretch = run_of (stretch.blocks * 4096) (status_of stretch.kind)

-- the first of these runs, where there is one, isn't in this status
abbrev Unlike : ℕ → List Run → Type 0
Unlike s [] = Unit {0}
Unlike s (run ∷ runs) = run.status ≡ s → ⊥

-- the runs of one block and more begin with its status
unlike_first : (status : ℕ → ℕ) (block count s : ℕ) → (0 < count → status block ≡ s → ⊥) → Unlike s (runs_from status block count)
unfolding runs_from with_block
unlike_first status block zero s other = tt
unlike_first status block (suc count) s other = by_rest (runs_from status (block + 1) count)
  where
    by_rest : (runs : List Run) → Unlike s (with_block (status block) runs)
    by_rest [] = other (omega arith)
    by_rest (run ∷ runs) = of_either (λ (l : List Run). Unlike s l) (run.status == status block) _ _ (other (omega arith)) (other (omega arith))
      where
        of_either : {X : Type 0} (P : X → Type 0) (test : Bool) (x y : X) → P x → P y → P (if test then x else y)
        of_either P Bool.true x y here there = here
        of_either P Bool.false x y here there = there

-- one block before runs in another status
in_front : (s : ℕ) (runs : List Run) → Unlike s runs → with_block s runs ≡ run_of 4096 s ∷ runs
unfolding with_block
in_front s [] unlike = refl
in_front s (run ∷ runs) unlike = ap (λ (b : Bool). if b then run_of (run.length + 4096) s ∷ runs else run_of 4096 s ∷ run ∷ runs) (ne_eqb run.status s unlike)

-- blocks in one status, before others
stretched : (status : ℕ → ℕ) (block count rest s : ℕ) → ((k : ℕ) → k < suc count → status (block + k) ≡ s) → Unlike s (runs_from status (block + suc count) rest)
    → runs_from status block (suc count + rest) ≡ run_of (suc count * 4096) s ∷ runs_from status (block + suc count) rest
unfolding runs_from with_block
stretched status block zero rest s same unlike =
    let first : status block ≡ s = ap status (let at : block ≡ block + 0 = omega arith in at) ∙ same 0 (omega arith) in
    ap (runs_from status block) (let all : 1 + rest ≡ suc rest = omega arith in all)
    ∙ ap (λ (n : ℕ). with_block n (runs_from status (block + 1) rest)) first ∙ in_front s (runs_from status (block + 1) rest) unlike
stretched status block (suc count) rest s same unlike =
    let first : status block ≡ s = ap status (let at : block ≡ block + 0 = omega arith in at) ∙ same 0 (omega arith) in
    let at : block + 1 + suc count ≡ block + suc (suc count) = omega arith in
    let more = stretched status (block + 1) count rest s
    (λ k below. ap status (let next : block + 1 + k ≡ block + suc k = omega arith in next) ∙ same (suc k) (omega (arith, below)))
    (subst (λ (n : ℕ). Unlike s (runs_from status n rest)) (sym at) unlike) in
    ap (runs_from status block) (let all : suc (suc count) + rest ≡ suc (suc count + rest) = omega arith in all)
    ∙ ap (λ (n : ℕ). with_block n (runs_from status (block + 1) (suc count + rest))) first
    ∙ ap (with_block s) more
    ∙ ap (λ (b : Bool). if b then run_of (suc count * 4096 + 4096) s ∷ runs_from status (block + 1 + suc count) rest else run_of 4096 s ∷ run_of (suc count * 4096) s ∷ runs_from status (block + 1 + suc count) rest) (eq-eqb s s refl)
    ∙ ap (λ (n : ℕ). run_of (suc count * 4096 + 4096) s ∷ runs_from status n rest) at
    ∙ ap (λ (n : ℕ). run_of n s ∷ runs_from status (block + suc (suc count)) rest) (let sum : suc count * 4096 + 4096 ≡ suc (suc count) * 4096 = omega arith in sum)

-- states differ as their statuses do
status_apart : (kind other : Kind) → status_of kind ≡ status_of other → kind ≡ other
status_apart Data Data is = refl
status_apart Data Zero is = absurd (omega (arith, is))
status_apart Data Hole is = absurd (omega (arith, is))
status_apart Zero Data is = absurd (omega (arith, is))
status_apart Zero Zero is = refl
status_apart Zero Hole is = absurd (omega (arith, is))
status_apart Hole Data is = absurd (omega (arith, is))
status_apart Hole Zero is = absurd (omega (arith, is))
status_apart Hole Hole is = refl

-- the first longest runs are those of the statuses
pub first_runs : (states : List Kind) (block to limit : ℕ) (found : List Stretch) → AreRuns states block to limit found
    → map as_run found ≡ take limit (runs_from (λ b. status_of (state_at states b)) block (to - block))
unfolding runs_from
first_runs states block to limit [] are = none are
  where
    none : (to ≤ block) ⊎ (limit ≡ 0) → [] ≡ take limit (runs_from (λ b. status_of (state_at states b)) block (to - block))
    none (inl past) = take_nil limit ∙ ap (λ (n : ℕ). take limit (runs_from (λ b. status_of (state_at states b)) block n)) (let zero_left : 0 ≡ to - block = omega (arith, past) in zero_left)
      where
        take_nil : (n : ℕ) → let nothing : List Run = [] in nothing ≡ take n nothing
        take_nil zero = refl
        take_nil (suc n) = refl
    none (inr is) = ap (λ (n : ℕ). take n (runs_from (λ b. status_of (state_at states b)) block (to - block))) (sym is)
first_runs states block to zero (stretch ∷ found) are = absurd (let none = are.0 in omega (arith, none))
first_runs states block to (suc limit) (stretch ∷ found) are =
    let is = are.1 in
    let some = is.some in
    let within = is.within in
    let count : ℕ = stretch.blocks - 1 in
    let count_is : suc count ≡ stretch.blocks = omega (arith, some) in
    let rest : ℕ = to - (block + stretch.blocks) in
    let all : to - block ≡ suc count + rest = omega (arith, some, within) in
    let status : ℕ → ℕ = λ b. status_of (state_at states b) in
    let unlike = unlike_first status (block + stretch.blocks) rest (status_of stretch.kind)
    (λ more same. is.longest (omega (arith, more)) (status_apart (state_at states (block + stretch.blocks)) stretch.kind same)) in
    let at : block + suc count ≡ block + stretch.blocks = omega (arith, count_is) in
    let left : suc limit - 1 ≡ limit = omega arith in
    ap (λ (l : List Run). as_run stretch ∷ l) (first_runs states (block + stretch.blocks) to limit found (subst (λ (n : ℕ). AreRuns states (block + stretch.blocks) to n found) left are.2))
    ∙ sym (ap (λ (n : ℕ). take (suc limit) (runs_from status block n)) all
    ∙ ap (take (suc limit)) (stretched status block count rest (status_of stretch.kind)
    (λ k below. ap status_of (is.same k (omega (arith, below, count_is))))
    (subst (λ (n : ℕ). Unlike (status_of stretch.kind) (runs_from status n rest)) (sym at) unlike))
    ∙ ap (λ (n : ℕ). run_of (suc count * 4096) (status_of stretch.kind) ∷ take limit (runs_from status n rest)) at
    ∙ ap (λ (n : ℕ). run_of (n * 4096) (status_of stretch.kind) ∷ take limit (runs_from status (block + stretch.blocks) rest)) count_is)

-- none of them has more blocks than there are
pub runs_within : (states : List Kind) (block to limit : ℕ) (found : List Stretch) → AreRuns states block to limit found
    → AllByRecursion (λ stretch. stretch.blocks ≤ to - block) found
runs_within states block to limit [] are = tt
runs_within states block to limit (stretch ∷ found) are =
    let within = are.1.within in
    (omega (arith, within), weaker found (runs_within states (block + stretch.blocks) to (limit - 1) found are.2))
  where
    weaker : (list : List Stretch) → AllByRecursion (λ other. other.blocks ≤ to - (block + stretch.blocks)) list → AllByRecursion (λ other. other.blocks ≤ to - block) list
    weaker [] all = tt
    weaker (other ∷ list) all = let most = all.0 in (omega (arith, most), weaker list all.1)

-- none of them is empty
pub runs_some : (states : List Kind) (block to limit : ℕ) (found : List Stretch) → AreRuns states block to limit found
    → AllByRecursion (λ stretch. 0 < stretch.blocks) found
runs_some states block to limit [] are = tt
runs_some states block to limit (stretch ∷ found) are =
    let some = are.1.some in
    (omega (arith, some), runs_some states (block + stretch.blocks) to (limit - 1) found are.2)

pub one_some : (found : List Stretch) (i : ℕ) (other : Stretch) → AllByRecursion (λ stretch. 0 < stretch.blocks) found → i < length found
    → 0 < (get_or found i other).blocks
one_some [] i other all below = absurd (omega (arith, below))
one_some (stretch ∷ found) zero other all below = all.0
one_some (stretch ∷ found) (suc i) other all below = one_some found i other all.1 (omega (arith, below))

-- one of them
pub one_within : (most : ℕ) (found : List Stretch) (i : ℕ) (other : Stretch) → AllByRecursion (λ stretch. stretch.blocks ≤ most) found → i < length found
    → (get_or found i other).blocks ≤ most
one_within most [] i other all below = absurd (omega (arith, below))
one_within most (stretch ∷ found) zero other all below = all.0
one_within most (stretch ∷ found) (suc i) other all below = one_within most found i other all.1 (omega (arith, below))
