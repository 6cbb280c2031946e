-- runs that are cut to some of their bytes
use Rattle.std.proofs.Common.{◌≡◌, ℕ, zero, suc, ◌+◌, ◌-◌, ◌*◌, ◌<◌, ◌≤◌, ◌==◌, inl, inr, Bool, if◌then◌else◌, List, [], ◌∷◌, ◌++◌, append_assoc, append-nil, drop, take, get_or, set, length, length-append, length-drop, map, replicate, sym, ◌∙◌, ap, subst, refl, arith}
use Rattle.std.specs.List.{AllByRecursion}
use Rattle.std.proofs.Math.Seq.{drop-append-add, take-append-add, drop-length}
use Rattle.std.proofs.Math.ListN.{drop_of_length-le}
use Rattle.std.proofs.lemmas.Bool.{le-leb, lt-leb}
use Rattle.std.proofs.lemmas.Bool.Decides.{leb_tells}
use Rattle.std.proofs.lemmas.Grind.{take_at_read, take-set_at}
use Rattle.std.proofs.lemmas.List.{drop-append-le, take-append-le, take_all}
use Rattle.alloc_map.specs.declared.run.Run.{Run as Stretch}
use Rattle.nbd_wire.specs.Answer.{DiffersFrom, IsInState, IsJoined, PartsBytes}
use Rattle.nbd_wire.specs.declared.message.Run.{Run}
use Rattle.export_model.specs.Shown.{cut_behind, cut_front, runs_from, status_of, with_block}
use Rattle.request_core.proofs.RunsGrow.{run_of}
use Rattle.request_core.proofs.Stretches.{as_run}

zeros_parts : (first rest : List ℕ) → first ++ rest ≡ replicate (length (first ++ rest)) 0
    → (first ≡ replicate (length first) 0) × (rest ≡ replicate (length rest) 0)
zeros_parts [] rest is = (refl, is)
zeros_parts (x ∷ first) rest is =
    let zero_first : x ≡ 0 = ap (λ (l : List ℕ). get_or l 0 0) is in
    let parts = zeros_parts first rest (ap (drop 1) is) in
    (ap (λ (n : ℕ). n ∷ first) zero_first ∙ ap (λ (l : List ℕ). 0 ∷ l) parts.0, parts.1)

-- each part of bytes in one state is in it
in_parts : (s : ℕ) (first rest : List ℕ) → IsInState s (first ++ rest) → IsInState s first × IsInState s rest
in_parts s first rest (inl is) = (inl is, inl is)
in_parts s first rest (inr is) = let parts = zeros_parts first rest is.1 in (inr (is.0, parts.0), inr (is.0, parts.1))

-- runs part the bytes after the first ones
pub parts_front : (run : Run) (runs : List Run) (front bytes : List ℕ) → length front < run.length → PartsBytes (run ∷ runs) (front ++ bytes)
    → PartsBytes (cut_front (length front) (run ∷ runs)) bytes
parts_front run runs front bytes less parts =
    let left : ℕ = run.length - length front in
    let all : run.length ≡ length front + left = omega (arith, less) in
    let size = length-append front bytes in
    let most = parts.1 in
    let given : IsInState run.status (front ++ take left bytes) =
    subst (IsInState run.status) (ap (λ (n : ℕ). take n (front ++ bytes)) all ∙ take-append-add front bytes left) parts.2 in (
      omega (arith, less),
      omega (arith, less, most, size),
      (in_parts run.status front (take left bytes) given).1,
      subst (PartsBytes runs) (ap (λ (n : ℕ). drop n (front ++ bytes)) all ∙ drop-append-add front bytes left) parts.3,
    )

-- runs part the bytes before the last ones
pub parts_behind : (runs : List Run) (bytes tail : List ℕ) → 0 < length bytes → PartsBytes runs (bytes ++ tail) → PartsBytes (cut_behind (length bytes) runs) bytes
unfolding cut_behind
parts_behind [] bytes tail some is = absurd (let size = length-append bytes tail in let none : length (bytes ++ tail) ≡ 0 = ap length is in omega (arith, some, size, none))
parts_behind (run ∷ runs) bytes tail some is = elim (leb_tells (length bytes) run.length) [
  | inl p ↦
      let left : ℕ = run.length - length bytes in
      let all : run.length ≡ length bytes + left = omega (arith, p.1) in
      let given : IsInState run.status (bytes ++ take left tail) =
      subst (IsInState run.status) (ap (λ (n : ℕ). take n (bytes ++ tail)) all ∙ take-append-add bytes tail left) is.2 in
      subst (λ (b : Bool). PartsBytes (if b then run_of (length bytes) run.status ∷ [] else run ∷ cut_behind (length bytes - run.length) runs) bytes) (sym p.0) (
        some,
        omega arith,
        subst (IsInState run.status) (sym (take_all (length bytes) bytes (omega arith))) (in_parts run.status bytes (take left tail) given).0,
        drop-length bytes,
      )
  | inr p ↦
      let within : run.length ≤ length bytes = omega (arith, p.1) in
      let behind = length-drop run.length bytes in
      let positive = is.0 in
      subst (λ (b : Bool). PartsBytes (if b then run_of (length bytes) run.status ∷ [] else run ∷ cut_behind (length bytes - run.length) runs) bytes) (sym p.0) (
        positive,
        within,
        subst (IsInState run.status) (take-append-le run.length bytes tail within) is.2,
        subst (λ (n : ℕ). PartsBytes (cut_behind n runs) (drop run.length bytes)) behind
            (parts_behind runs (drop run.length bytes) tail (omega (arith, behind, p.1)) (subst (PartsBytes runs) (drop-append-le run.length bytes tail within) is.3)),
      )
]

-- neighbours still differ
pub joined_front : (count : ℕ) (runs : List Run) → IsJoined runs → IsJoined (cut_front count runs)
joined_front count [] are = tt
joined_front count (run ∷ runs) are = are

differs_behind : (status count : ℕ) (runs : List Run) → DiffersFrom status runs → DiffersFrom status (cut_behind count runs)
unfolding cut_behind
differs_behind status count [] is = tt
differs_behind status count (run ∷ runs) is = elim (leb_tells count run.length) [
  | inl p ↦ subst (λ (b : Bool). DiffersFrom status (if b then run_of count run.status ∷ [] else run ∷ cut_behind (count - run.length) runs)) (sym p.0) is
  | inr p ↦ subst (λ (b : Bool). DiffersFrom status (if b then run_of count run.status ∷ [] else run ∷ cut_behind (count - run.length) runs)) (sym p.0) is
]

pub joined_behind : (count : ℕ) (runs : List Run) → IsJoined runs → IsJoined (cut_behind count runs)
unfolding cut_behind
joined_behind count [] are = tt
joined_behind count (run ∷ runs) are = elim (leb_tells count run.length) [
  | inl p ↦ subst (λ (b : Bool). IsJoined (if b then run_of count run.status ∷ [] else run ∷ cut_behind (count - run.length) runs)) (sym p.0) (tt, tt)
  | inr p ↦ subst (λ (b : Bool). IsJoined (if b then run_of count run.status ∷ [] else run ∷ cut_behind (count - run.length) runs)) (sym p.0)
      (differs_behind run.status (count - run.length) runs are.0, joined_behind (count - run.length) runs are.1)
]

-- there are no more, and one at least
pub size_front : (count : ℕ) (runs : List Run) → length (cut_front count runs) ≡ length runs
size_front count [] = refl
size_front count (run ∷ runs) = refl

pub size_behind : (count : ℕ) (runs : List Run) → (length (cut_behind count runs) ≤ length runs) × (0 < length runs → 0 < length (cut_behind count runs))
unfolding cut_behind
size_behind count [] = (omega arith, λ some. some)
size_behind count (run ∷ runs) = elim (leb_tells count run.length) [
  | inl p ↦ subst (λ (b : Bool). let l = if b then run_of count run.status ∷ [] else run ∷ cut_behind (count - run.length) runs in (length l ≤ suc (length runs)) × (0 < suc (length runs) → 0 < length l)) (sym p.0)
      (omega arith, λ some. omega arith)
  | inr p ↦ subst (λ (b : Bool). let l = if b then run_of count run.status ∷ [] else run ∷ cut_behind (count - run.length) runs in (length l ≤ suc (length runs)) × (0 < suc (length runs) → 0 < length l)) (sym p.0)
      (let rest = (size_behind (count - run.length) runs).0 in omega (arith, rest), λ some. omega arith)
]

-- none is empty
pub some_front : (count : ℕ) (run : Run) (runs : List Run) → count < run.length → AllByRecursion (λ it. 0 < it.length) (run ∷ runs)
    → AllByRecursion (λ it. 0 < it.length) (cut_front count (run ∷ runs))
some_front count run runs less all = (omega (arith, less), all.1)

pub some_behind : (count : ℕ) (runs : List Run) → 0 < count → AllByRecursion (λ it. 0 < it.length) runs → AllByRecursion (λ it. 0 < it.length) (cut_behind count runs)
unfolding cut_behind
some_behind count [] some all = tt
some_behind count (run ∷ runs) some all = elim (leb_tells count run.length) [
  | inl p ↦ subst (λ (b : Bool). AllByRecursion (λ (it : Run). 0 < it.length) (if b then run_of count run.status ∷ [] else run ∷ cut_behind (count - run.length) runs)) (sym p.0) (some, tt)
  | inr p ↦ subst (λ (b : Bool). AllByRecursion (λ (it : Run). 0 < it.length) (if b then run_of count run.status ∷ [] else run ∷ cut_behind (count - run.length) runs)) (sym p.0)
      (all.0, some_behind (count - run.length) runs (omega (arith, p.1)) all.1)
]

-- the first run of blocks has one at least
abbrev pub IsLong : List Run → Type 0
IsLong [] = ⊥
IsLong (run ∷ runs) = 4096 ≤ run.length

long_with : (s : ℕ) (runs : List Run) → IsLong (with_block s runs)
unfolding with_block
long_with s [] = omega arith
long_with s (run ∷ runs) = of_either (run.status == s)
  where
    of_either : (test : Bool) → IsLong (if test then run_of (run.length + 4096) s ∷ runs else run_of 4096 s ∷ run ∷ runs)
    of_either Bool.true = omega arith
    of_either Bool.false = omega arith

pub long_first : (status : ℕ → ℕ) (block count : ℕ) → 0 < count → IsLong (runs_from status block count)
unfolding runs_from
long_first status block zero some = absurd (omega (arith, some))
long_first status block (suc count) some = long_with (status block) (runs_from status (block + 1) count)

pub long_taken : (limit : ℕ) (runs : List Run) → 0 < limit → IsLong runs → IsLong (take limit runs)
long_taken zero runs some is = absurd (omega (arith, some))
long_taken (suc limit) [] some is = is
long_taken (suc limit) (run ∷ runs) some is = is

-- a walk along the runs, at one of them
split_at : (runs : List Run) (i : ℕ) (d : Run) → i < length runs → drop i runs ≡ get_or runs i d ∷ drop (suc i) runs
split_at [] i d within = absurd (omega (arith, within))
split_at (run ∷ runs) zero d within = refl
split_at (run ∷ runs) (suc i) d within = split_at runs i d (omega (arith, within))

cut_within : (left : ℕ) (run : Run) (runs : List Run) → left ≤ run.length → cut_behind left (run ∷ runs) ≡ run_of left run.status ∷ []
unfolding cut_behind
cut_within left run runs less = ap (λ (b : Bool). if b then run_of left run.status ∷ [] else run ∷ cut_behind (left - run.length) runs) (le-leb left run.length less)

cut_beyond : (left : ℕ) (run : Run) (runs : List Run) → run.length < left → cut_behind left (run ∷ runs) ≡ run ∷ cut_behind (left - run.length) runs
unfolding cut_behind
cut_beyond left run runs more = ap (λ (b : Bool). if b then run_of left run.status ∷ [] else run ∷ cut_behind (left - run.length) runs) (lt-leb left run.length more)

cut_none : (left : ℕ) → cut_behind left [] ≡ []
unfolding cut_behind
cut_none left = refl

-- what is left ends in it
pub cut_stops : (count left : ℕ) (runs : List Run) (i : ℕ) (d : Run) → i < length runs → left ≤ (get_or runs i d).length
    → cut_behind count runs ≡ take i runs ++ cut_behind left (drop i runs)
    → take (i + 1) (set runs i (run_of left (get_or runs i d).status)) ≡ cut_behind count runs
cut_stops count left runs i d within less so_far =
    take-set_at runs i (i + 1) (run_of left (get_or runs i d).status) refl within
    ∙ sym (so_far ∙ ap (λ (l : List Run). take i runs ++ cut_behind left l) (split_at runs i d within)
    ∙ ap (λ (l : List Run). take i runs ++ l) (cut_within left (get_or runs i d) (drop (suc i) runs) less))

-- or goes on after it
pub cut_goes : (count left : ℕ) (runs : List Run) (i : ℕ) (d : Run) → i < length runs → (get_or runs i d).length < left
    → cut_behind count runs ≡ take i runs ++ cut_behind left (drop i runs)
    → cut_behind count runs ≡ take (i + 1) runs ++ cut_behind (left - (get_or runs i d).length) (drop (i + 1) runs)
cut_goes count left runs i d within more so_far =
    let next : suc i ≡ i + 1 = omega arith in
    so_far ∙ ap (λ (l : List Run). take i runs ++ cut_behind left l) (split_at runs i d within)
    ∙ ap (λ (l : List Run). take i runs ++ l) (cut_beyond left (get_or runs i d) (drop (suc i) runs) more)
    ∙ sym (append_assoc (take i runs) (get_or runs i d ∷ []) (cut_behind (left - (get_or runs i d).length) (drop (suc i) runs)))
    ∙ ap (λ (l : List Run). l ++ cut_behind (left - (get_or runs i d).length) (drop (suc i) runs)) (sym (take_at_read runs i d within).1)
    ∙ ap (λ (n : ℕ). take (i + 1) runs ++ cut_behind (left - (get_or runs i d).length) (drop n runs)) next

-- or there is none after
pub cut_ends : (count left : ℕ) (runs : List Run) (i : ℕ) → length runs ≤ i → cut_behind count runs ≡ take i runs ++ cut_behind left (drop i runs)
    → runs ≡ cut_behind count runs
cut_ends count left runs i past so_far = sym (
    so_far ∙ ap (λ (l : List Run). l ++ cut_behind left (drop i runs)) (take_all i runs past)
    ∙ ap (λ (l : List Run). runs ++ cut_behind left l) (drop_of_length-le runs past)
    ∙ ap (λ (l : List Run). runs ++ l) (cut_none left) ∙ append-nil runs)

front_none : (runs : List Run) → cut_front 0 runs ≡ runs
front_none [] = refl
front_none (run ∷ runs) = ap (λ (n : ℕ). run_of n run.status ∷ runs) (let same : run.length - 0 ≡ run.length = omega arith in same)

split_stretches : (found : List Stretch) (i : ℕ) (d : Stretch) → i < length found → drop i found ≡ get_or found i d ∷ drop (suc i) found
split_stretches [] i d within = absurd (omega (arith, within))
split_stretches (stretch ∷ found) zero d within = refl
split_stretches (stretch ∷ found) (suc i) d within = split_stretches found i d (omega (arith, within))

-- a walk along stretches that are cut, at one of them: what is left ends in it, or goes on after it, or there is none after
module _ (found : List Stretch) (i : ℕ) (d : Stretch) (skip left : ℕ) (so_far all : List Run) (within : i < length found)
    (is : so_far ++ cut_behind left (cut_front skip (map as_run (drop i found))) ≡ all) where
  abbrev this : Stretch
  this = get_or found i d

  abbrev size : ℕ
  size = this.blocks * 4096 - skip

  at_this : so_far ++ cut_behind left (run_of size (status_of this.kind) ∷ map as_run (drop (suc i) found)) ≡ all
  at_this = ap (λ (l : List Stretch). so_far ++ cut_behind left (cut_front skip (map as_run l))) (sym (split_stretches found i d within)) ∙ is

  pub turn_stops : left ≤ size → so_far ++ run_of left (status_of this.kind) ∷ [] ≡ all
  turn_stops less = ap (λ (l : List Run). so_far ++ l) (sym (cut_within left (run_of size (status_of this.kind)) (map as_run (drop (suc i) found)) less)) ∙ at_this

  pub turn_goes : size < left
      → (so_far ++ run_of size (status_of this.kind) ∷ []) ++ cut_behind (left - size) (cut_front 0 (map as_run (drop (i + 1) found))) ≡ all
  turn_goes more =
      let next : i + 1 ≡ suc i = omega arith in
      ap (λ (l : List Run). (so_far ++ run_of size (status_of this.kind) ∷ []) ++ cut_behind (left - size) l) (front_none (map as_run (drop (i + 1) found)))
      ∙ ap (λ (n : ℕ). (so_far ++ run_of size (status_of this.kind) ∷ []) ++ cut_behind (left - size) (map as_run (drop n found))) next
      ∙ append_assoc so_far (run_of size (status_of this.kind) ∷ []) (cut_behind (left - size) (map as_run (drop (suc i) found)))
      ∙ ap (λ (l : List Run). so_far ++ l) (sym (cut_beyond left (run_of size (status_of this.kind)) (map as_run (drop (suc i) found)) more))
      ∙ at_this

pub turn_ends : (found : List Stretch) (i skip left : ℕ) (so_far all : List Run) → length found ≤ i
    → so_far ++ cut_behind left (cut_front skip (map as_run (drop i found))) ≡ all → so_far ≡ all
turn_ends found i skip left so_far all past is =
    sym (append-nil so_far) ∙ ap (λ (l : List Run). so_far ++ l) (sym (cut_none left))
    ∙ ap (λ (l : List Stretch). so_far ++ cut_behind left (cut_front skip (map as_run l))) (sym (drop_of_length-le found past)) ∙ is

pub long_enough : (skip : ℕ) (runs : List Run) (d : Run) → skip < 4096 → IsLong runs → skip ≤ (get_or runs 0 d).length
long_enough skip [] d less is = absurd is
long_enough skip (run ∷ runs) d less is = omega (arith, less, is)

-- what the two cuts keep of runs of blocks
pub front_long : (skip : ℕ) (runs : List Run) → skip < 4096 → IsLong runs → AllByRecursion (λ it. 0 < it.length) runs
    → AllByRecursion (λ it. 0 < it.length) (cut_front skip runs)
front_long skip [] less is all = tt
front_long skip (run ∷ runs) less is all = some_front skip run runs (omega (arith, less, is)) all

pub sizes_cut : (skip count : ℕ) (runs : List Run)
    → (length (cut_behind count (cut_front skip runs)) ≤ length runs) × (0 < length runs → 0 < length (cut_behind count (cut_front skip runs)))
sizes_cut skip count runs =
    let behind = size_behind count (cut_front skip runs) in
    let front = size_front skip runs in
    let most = behind.0 in
    (omega (arith, most, front), λ some. behind.1 (omega (arith, some, front)))

parts_long : (runs : List Run) (front bytes : List ℕ) → length front < 4096 → IsLong runs → PartsBytes runs (front ++ bytes)
    → PartsBytes (cut_front (length front) runs) bytes
parts_long [] front bytes less is parts = absurd is
parts_long (run ∷ runs) front bytes less is parts = parts_front run runs front bytes (omega (arith, less, is)) parts

-- runs that part whole blocks, cut to some of their bytes, part these
pub parts_cut : (runs : List Run) (front bytes tail : List ℕ) → length front < 4096 → 0 < length bytes → IsLong runs
    → PartsBytes runs (front ++ (bytes ++ tail)) → PartsBytes (cut_behind (length bytes) (cut_front (length front) runs)) bytes
parts_cut runs front bytes tail less some is parts =
    parts_behind (cut_front (length front) runs) bytes tail some (parts_long runs front (bytes ++ tail) less is parts)
