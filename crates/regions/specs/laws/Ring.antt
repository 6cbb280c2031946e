-- The areas of a device: they lie apart from one another, and a ring of them goes through each once.
use Rattle.std.proofs.Common.{◌≡◌, ◌≢◌, ⊎_elim, ◌⊎◌, inl, inr, ℕ, zero, suc, ◌+◌, ◌*◌, ◌≤◌, ◌<◌, List, [], ◌∷◌, ◌++◌, refl, ap, arith}
use Rattle.std.proofs.Math.Nat.{mul-le-mul_left}
use Rattle.std.proofs.lemmas.Bool.{cases_lt}
use Rattle.disk_model.specs.Disk.{InRange}
use Rattle.image_model.specs.declared.geometry.Geometry.{Geometry}
use Rattle.image_model.specs.laws.Layouts.{areas_fill}
use Rattle.regions.specs.Layout.{area_at, area_size, areas_in, behind, next_of, ring}
use Rattle.std.proofs.lemmas.Bool.Decides.{nat_tests}

pub next_cases : (count area : ℕ) → area < count → ((area + 1 < count) × (next_of count area ≡ area + 1)) ⊎ ((area + 1 ≡ count) × (next_of count area ≡ 0))
next_cases count area below = ⊎_elim
    (λ more. inl (more, grind (arith, nat_tests, more)))
    (λ last. let is : area + 1 ≡ count = omega (arith, last, below) in inr (is, grind (arith, nat_tests, is)))
    (cases_lt (area + 1) count)

pub next_below : (count area : ℕ) → area < count → next_of count area < count
next_below count area below = ⊎_elim (λ more. omega (arith, more.0, more.1)) (λ last. omega (arith, last.1, below)) (next_cases count area below)

pub behind_below : (count n area : ℕ) → area < count → behind count n area < count
behind_below count zero area below = below
behind_below count (suc n) area below = behind_below count n (next_of count area) (next_below count area below)

-- the number of the area this many places after
pub behind_is : (count n area : ℕ) → area < count → n < count → ((area + n < count) × (behind count n area ≡ area + n)) ⊎ ((count ≤ area + n) × (behind count n area + count ≡ area + n))
behind_is count zero area below few = inl (omega (arith, below), omega arith)
behind_is count (suc n) area below few = ⊎_elim
    (λ more. ⊎_elim
    (λ on. inl (omega (arith, on.0, more.1), omega (arith, on.1, more.1)))
    (λ over. inr (omega (arith, over.0, more.1), omega (arith, over.1, more.1)))
    (behind_is count n (next_of count area) (next_below count area below) (omega (arith, few))))
    (λ last. ⊎_elim
    (λ on. inr (omega (arith, last.0), omega (arith, on.1, last.0, last.1)))
    (λ over. absurd (omega (arith, over.0, last.1, few)))
    (behind_is count n (next_of count area) (next_below count area below) (omega (arith, few))))
    (next_cases count area below)

-- areas at several places of the ring are several
pub behind_apart : (count j k area : ℕ) → area < count → j < k → k < count → behind count j area ≢ behind count k area
behind_apart count j k area below less few same = ⊎_elim
    (λ here. ⊎_elim
    (λ there. omega (arith, here.1, there.1, same, less))
    (λ there. omega (arith, here.0, here.1, there.0, there.1, same, few))
    (behind_is count k area below few))
    (λ here. ⊎_elim
    (λ there. omega (arith, here.0, there.0, less))
    (λ there. omega (arith, here.1, there.1, same, less))
    (behind_is count k area below few))
    (behind_is count j area below (omega (arith, less, few)))

-- the areas in a ring are those before the last, and the last
pub ring-last : (count n area : ℕ) → ring count (suc n) area ≡ ring count n area ++ behind count n area ∷ []
ring-last count zero area = refl
ring-last count (suc n) area = ap (λ (rest : List ℕ). area ∷ rest) (ring-last count n (next_of count area))

pub area_low : (geometry : Geometry) (area : ℕ) → 8192 ≤ area_at geometry area
area_low geometry area = omega arith

pub area_high : (geometry : Geometry) (area : ℕ) → area < areas_in geometry → area_at geometry area + area_size geometry ≤ 8192 + 2 * geometry.area
area_high geometry area below =
    let more : area + 1 ≤ areas_in geometry = omega (arith, below) in
    let fill = areas_fill geometry.layout geometry.area geometry.area_whole in
    omega (arith, fill, mul-le-mul_left (area_size geometry) more)

before_next : (geometry : Geometry) (area other : ℕ) → area < other → area_at geometry area + area_size geometry ≤ area_at geometry other
before_next geometry area other less =
    let more : area + 1 ≤ other = omega (arith, less) in
    omega (arith, mul-le-mul_left (area_size geometry) more)

-- a place of the one area isn't one of another
pub apart : (geometry : Geometry) (area other place : ℕ) → area ≢ other → InRange (area_at geometry area) (area_size geometry) place → InRange (area_at geometry other) (area_size geometry) place → ⊥
apart geometry area other place differ here there = ⊎_elim
    (λ less. omega (arith, before_next geometry area other less, here.1, there.0))
    (λ more. ⊎_elim
    (λ greater. omega (arith, before_next geometry other area greater, here.0, there.1))
    (λ same. differ (omega (arith, more, same)))
    (cases_lt other area))
    (cases_lt area other)
