-- runs of blocks part the bytes of these
use Rattle.std.proofs.Common.{◌≡◌, ℕ, zero, suc, ◌+◌, ◌*◌, ◌<◌, ◌≤◌, ◌==◌, inl, inr, Bool, true, false, if◌then◌else◌, List, [], ◌∷◌, ◌++◌, drop, take, length, length-append, length-drop, replicate, sym, ◌∙◌, ap, subst, refl, arith}
use Rattle.std.specs.List.{AllByRecursion}
use Rattle.std.proofs.Math.Seq.{take-add}
use Rattle.std.proofs.lemmas.Bool.Decides.{eqb_tells}
use Rattle.std.proofs.lemmas.List.{drop-drop, replicate-append-replicate}
use Rattle.nbd_wire.specs.Answer.{DiffersFrom, IsInState, IsJoined, PartsBytes}
use Rattle.nbd_wire.specs.declared.message.Run.{Run}
use Rattle.export_model.specs.Shown.{runs_from, with_block}
use Rattle.request_core.proofs.RunsGrow.{run_of}

-- what holds of both sides of a choice holds of the choice
of_either : {X : Type 0} (P : X → Type 0) (test : Bool) (x y : X) → (test ≡ true → P x) → (test ≡ false → P y) → P (if test then x else y)
of_either P true x y here there = here refl
of_either P false x y here there = there refl

-- the block in front has its status, and so have the bytes of the run after it
both_in_state : (s : ℕ) (first rest : List ℕ) → IsInState s first → IsInState s rest → IsInState s (first ++ rest)
both_in_state s first rest (inl is) other = inl is
both_in_state s first rest (inr is) (inl other) = inl other
both_in_state s first rest (inr is) (inr other) = inr (
  is.0,
  ap (λ (l : List ℕ). l ++ rest) is.1 ∙ ap (λ (l : List ℕ). replicate (length first) 0 ++ l) other.1
      ∙ replicate-append-replicate (length first) (length rest) 0 ∙ ap (λ (n : ℕ). replicate n 0) (sym (length-append first rest)),
)

-- runs that part the bytes after a block, with that block in front
parts_with : (s : ℕ) (runs : List Run) (bytes : List ℕ) → 4096 ≤ length bytes → IsInState s (take 4096 bytes) → PartsBytes runs (drop 4096 bytes) → PartsBytes (with_block s runs) bytes
unfolding with_block
parts_with s [] bytes whole in_state rest = (omega arith, whole, in_state, rest)
parts_with s (run ∷ runs) bytes whole in_state rest = elim (eqb_tells run.status s) [
  | inl p ↦ subst (λ (b : Bool). PartsBytes (if b then run_of (run.length + 4096) s ∷ runs else run_of 4096 s ∷ run ∷ runs) bytes) (sym p.0) (
    omega arith,
    let most = rest.1 in let behind = length-drop 4096 bytes in omega (arith, most, behind, whole),
    subst (IsInState s) (sym (ap (λ (n : ℕ). take n bytes) order ∙ take-add 4096 run.length bytes)) (both_in_state s (take 4096 bytes) (take run.length (drop 4096 bytes)) in_state
        (subst (λ (t : ℕ). IsInState t (take run.length (drop 4096 bytes))) p.1 rest.2)),
    subst (PartsBytes runs) (drop-drop run.length 4096 bytes ∙ ap (λ (n : ℕ). drop n bytes) (sym order)) rest.3,
  )
  | inr p ↦ subst (λ (b : Bool). PartsBytes (if b then run_of (run.length + 4096) s ∷ runs else run_of 4096 s ∷ run ∷ runs) bytes) (sym p.0) (omega arith, whole, in_state, rest)
]
  where
    order : run.length + 4096 ≡ 4096 + run.length
    order = omega arith

-- each block of these bytes is in the status that is given for it
abbrev pub AreInStates : (ℕ → ℕ) → ℕ → ℕ → List ℕ → Type 0
AreInStates status block count bytes = (j : ℕ) → j < count → IsInState (status (block + j)) (take 4096 (drop (4096 * j) bytes))

pub parts_all : (status : ℕ → ℕ) (block count : ℕ) (bytes : List ℕ) → length bytes ≡ 4096 * count → AreInStates status block count bytes → PartsBytes (runs_from status block count) bytes
unfolding runs_from
parts_all status block zero [] size are = refl
parts_all status block zero (byte ∷ bytes) size are = absurd (omega (arith, size))
parts_all status block (suc count) bytes size are =
    parts_with (status block) (runs_from status (block + 1) count) bytes (omega (arith, size))
    (subst (λ (n : ℕ). IsInState (status n) (take 4096 bytes)) (let same : block + 0 ≡ block = omega arith in same) (are 0 (omega arith)))
    (parts_all status (block + 1) count (drop 4096 bytes) (let behind = length-drop 4096 bytes in omega (arith, size, behind)) (λ j below.
    subst (λ (l : List ℕ). IsInState (status (block + 1 + j)) (take 4096 l))
    (sym (drop-drop (4096 * j) 4096 bytes ∙ ap (λ (n : ℕ). drop n bytes) (let sum : 4096 + 4096 * j ≡ 4096 * suc j = omega arith in sum)))
    (subst (λ (n : ℕ). IsInState (status n) (take 4096 (drop (4096 * suc j) bytes))) (let same : block + suc j ≡ block + 1 + j = omega arith in same) (are (suc j) (omega (arith, below))))))

-- neighbours differ
joined_with : (s : ℕ) (runs : List Run) → IsJoined runs → IsJoined (with_block s runs)
unfolding with_block
joined_with s [] are = (tt, tt)
joined_with s (run ∷ runs) are = elim (eqb_tells run.status s) [
  | inl p ↦ subst (λ (b : Bool). IsJoined (if b then run_of (run.length + 4096) s ∷ runs else run_of 4096 s ∷ run ∷ runs)) (sym p.0)
      (subst (λ (t : ℕ). DiffersFrom t runs) p.1 are.0, are.1)
  | inr p ↦ subst (λ (b : Bool). IsJoined (if b then run_of (run.length + 4096) s ∷ runs else run_of 4096 s ∷ run ∷ runs)) (sym p.0) ((λ is. p.1 (sym is)), are)
]

pub joined_all : (status : ℕ → ℕ) (block count : ℕ) → IsJoined (runs_from status block count)
unfolding runs_from
joined_all status block zero = tt
joined_all status block (suc count) = joined_with (status block) (runs_from status (block + 1) count) (joined_all status (block + 1) count)

-- at least one run, and no more than blocks
more_with : (s : ℕ) (runs : List Run) → (0 < length (with_block s runs)) × (length (with_block s runs) ≤ length runs + 1)
unfolding with_block
more_with s [] = (omega arith, omega arith)
more_with s (run ∷ runs) = of_either (λ (l : List Run). (0 < length l) × (length l ≤ length (run ∷ runs) + 1)) (run.status == s) _ _ (λ same. (omega arith, omega arith)) (λ other. (omega arith, omega arith))

pub count_all : (status : ℕ → ℕ) (block count : ℕ) → length (runs_from status block count) ≤ count
unfolding runs_from
count_all status block zero = omega arith
count_all status block (suc count) =
    let so_far = count_all status (block + 1) count in
    let more = more_with (status block) (runs_from status (block + 1) count) in
    let most = more.1 in
    omega (arith, so_far, most)

pub some_runs : (status : ℕ → ℕ) (block count : ℕ) → 0 < count → 0 < length (runs_from status block count)
unfolding runs_from
some_runs status block zero some = absurd (omega (arith, some))
some_runs status block (suc count) some = (more_with (status block) (runs_from status (block + 1) count)).0

-- none is empty
longer_with : (s : ℕ) (runs : List Run) → AllByRecursion (λ run. 0 < run.length) runs → AllByRecursion (λ run. 0 < run.length) (with_block s runs)
unfolding with_block
longer_with s [] all = (omega arith, tt)
longer_with s (run ∷ runs) all = of_either (AllByRecursion (λ (run : Run). 0 < run.length)) (run.status == s) _ _ (λ same. (omega arith, all.1)) (λ other. (omega arith, all))

pub none_empty : (status : ℕ → ℕ) (block count : ℕ) → AllByRecursion (λ run. 0 < run.length) (runs_from status block count)
unfolding runs_from
none_empty status block zero = tt
none_empty status block (suc count) = longer_with (status block) (runs_from status (block + 1) count) (none_empty status (block + 1) count)

pub some_empty : (limit : ℕ) (runs : List Run) → AllByRecursion (λ run. 0 < run.length) runs → AllByRecursion (λ run. 0 < run.length) (take limit runs)
some_empty zero runs all = tt
some_empty (suc limit) [] all = tt
some_empty (suc limit) (run ∷ runs) all = (all.0, some_empty limit runs all.1)

-- the same statuses make the same runs
pub runs_same : (status other : ℕ → ℕ) (block count : ℕ) → ((b : ℕ) → status b ≡ other b) → runs_from status block count ≡ runs_from other block count
unfolding runs_from
runs_same status other block zero same = refl
runs_same status other block (suc count) same =
    ap (λ (s : ℕ). with_block s (runs_from status (block + 1) count)) (same block) ∙ ap (with_block (other block)) (runs_same status other (block + 1) count same)

-- the first of some runs are some, and no more than asked for
pub taken : (limit : ℕ) (runs : List Run) → 0 < limit → 0 < length runs → (0 < length (take limit runs)) × (length (take limit runs) ≤ limit)
taken limit runs some there = (non_empty limit runs some there, within limit runs)
  where
    non_empty : (n : ℕ) (l : List Run) → 0 < n → 0 < length l → 0 < length (take n l)
    non_empty zero l some there = absurd (omega (arith, some))
    non_empty (suc n) [] some there = absurd (omega (arith, there))
    non_empty (suc n) (run ∷ l) some there = omega arith

    within : (n : ℕ) (l : List Run) → length (take n l) ≤ n
    within zero l = omega arith
    within (suc n) [] = omega arith
    within (suc n) (run ∷ l) = let rest = within n l in omega (arith, rest)
