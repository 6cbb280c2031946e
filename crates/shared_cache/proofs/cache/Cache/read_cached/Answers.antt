use Rattle.std.proofs.Common.{◌≡◌, ◌+◌, ◌<◌, ℕ, List, [], Option, None, Some, arith, refl, ap, sym, ◌∙◌}
use Rattle.std.specs.Option.{option_copied}
use Rattle.std.proofs.lemmas.Bool.{false≢true}
use Rattle.shared_cache.specs.laws.Views.{missing_seen, seen_missing}
use Rattle.shared_cache.proofs.cache.Cache.read_cached.Goals as goal

-- bytes that are there aren't missing
there : (seen : Option (List ℕ)) (bytes : List ℕ) → seen ≡ Some bytes → seen ≡ None → ⊥
there seen bytes some none = cc

pub returns-clause-missing : goal.returns-clause-missing
returns-clause-missing c = (
  λ e. absurd (false≢true e),
  λ lacks.
      let below : lacks.0 < c.loop-offset.offset = omega (arith, lacks.1, c.loop-offset-test.false) in
      absurd (there _ _ (c.loop-offset.invariant lacks.0 [] below) (seen_missing c.args.self.now (c.args.first + lacks.0) lacks.2 lacks.3)),
)

pub returns-in_default-clause-missing : goal.returns-in_default-clause-missing
returns-in_default-clause-missing c =
    let lacks = missing_seen c.args.self.now (c.args.first + c.loop-offset.offset) (sym c.read.ensures ∙ ap option_copied c.in_default.is) in
    (λ _. (c.loop-offset.offset, omega arith, lacks.0, lacks.1), λ _. refl)
