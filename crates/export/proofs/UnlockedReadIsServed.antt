-- Bytes that were read without locks are the ones served.
use Rattle.std.specs.Prelude.{slice_range}
use Rattle.std.proofs.Common.{◌≡◌, ◌≤◌, ◌∙◌, ◌+◌, ◌-◌, ◌*◌, ℕ, List, ◌++◌, length, take, drop, subst, sym, arith}
use Rattle.std.proofs.lemmas.List.{take_all, take-append-le}
use Rattle.image_model.specs.declared.geometry.Geometry.{Geometry}
use Rattle.regions.specs.Layout.{block_at}

-- a span has room where all blocks have
pub inside : (end first begin count size : ℕ) → first ≡ begin → end ≤ begin + count → size ≡ 4096 * count → 4096 * (end - first) ≤ size
inside end first begin count size is ends all = omega (arith, is, ends, all)

-- what is written to all of a buffer is what it then holds
written : (into items : List ℕ) (size : ℕ) → length into ≡ size → into ≡ take size (into ++ drop (length into) items)
written into items size is =
    let all : size ≤ length into = omega (arith, is) in let none : length into ≤ size = omega (arith, is) in
    sym (take-append-le size into (drop (length into) items) all ∙ take_all size into none)

pub given : (Gives : ℕ → List ℕ → Type 0) (own other : Geometry) (first end begin begins size : ℕ) (into items : List ℕ) → own ≡ other → begin ≡ begins → length into ≡ size
    → Gives (block_at own first) (slice_range into (4096 * (first - begin)) (4096 * (end - begin)))
    → Gives (block_at other first) (slice_range (take size (into ++ drop (length into) items)) (4096 * (first - begins)) (4096 * (end - begins)))
given Gives own other first end begin begins size into items same is all gives =
    subst (λ (l : List ℕ). Gives (block_at other first) (slice_range l (4096 * (first - begins)) (4096 * (end - begins)))) (written into items size all)
    (subst (λ (n : ℕ). Gives (block_at other first) (slice_range into (4096 * (first - n)) (4096 * (end - n)))) is
    (subst (λ (g : Geometry). Gives (block_at g first) (slice_range into (4096 * (first - begin)) (4096 * (end - begin)))) same gives))

-- the same of equal bytes after an equal first block
pub given_same : (Gives : List ℕ → Type 0) (first end begin begins : ℕ) (bytes others : List ℕ) → begin ≡ begins → bytes ≡ others
    → Gives (slice_range bytes (4096 * (first - begin)) (4096 * (end - begin))) → Gives (slice_range others (4096 * (first - begins)) (4096 * (end - begins)))
given_same Gives first end begin begins bytes others is same gives =
    subst (λ (l : List ℕ). Gives (slice_range l (4096 * (first - begins)) (4096 * (end - begins)))) same
    (subst (λ (n : ℕ). Gives (slice_range bytes (4096 * (first - n)) (4096 * (end - n)))) is gives)
