use Rattle.std.proofs.Common.{◌≡◌, rules, Option, Some, None, List, ℕ, refl, sym}
use Rattle.shared_cache.specs.laws.Views.{missing_seen, seen_missing}
use Rattle.order_book.proofs.edits.is_missing.Goals as goal

none_and_some : (seen : Option (List ℕ)) (bytes : List ℕ) → Some bytes ≡ seen → seen ≡ None → ⊥
none_and_some seen bytes some none = cc

pub returns-in-Some : goal.returns-in-Some
returns-in-Some c = (
  λ is. cc,
  λ missing. absurd (none_and_some _ _ c.in-Some.ensures (seen_missing c.args.cache.now c.args.block missing.1 missing.2)),
)

pub returns-in-None : goal.returns-in-None
returns-in-None c =
    let missing = missing_seen c.args.cache.now c.args.block (sym c.in-None.ensures) in
    (λ is. (search rules, missing.0, missing.1), λ all. refl)
