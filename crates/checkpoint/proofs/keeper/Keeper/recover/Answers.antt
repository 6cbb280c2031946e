use Rattle.std.proofs.Common.{ap, Err, List, [], ◌∷◌, ◌++◌, ◌+◌, ◌≤◌, ◌<◌, ◌∙◌, ◌≡◌, ◌≢◌, arith, length, ℕ, zero, suc, false, true, ◌==◌, refl, sym, subst}
use Rattle.checkpoint.specs.Keeper.{faults_by}
use Rattle.checkpoint.specs.inner.Recovery.{IsRecoveryFault, headers_at}
use Rattle.std.proofs.lemmas.Result.{IfOk-from_err, IfOk-weaker, IfErr-weaker}
use Rattle.checkpoint.proofs.ExcludedRefusals.{err_given, both_ways, ok_apart, same_answer}
use Rattle.device_image.specs.Keeper.{KeeperState, count_puts, last_turned}
use Rattle.device_image.specs.Keeps.{Keeps}
use Rattle.checkpoint.specs.declared.fault.KeeperFault.TheVariants.{DeviceFault}
use Rattle.checkpoint.proofs.RecoveryKeepsImage.{generation_ended, keeps_begun, recovered_by, sizes_ended, step_next, still_kept}
use Rattle.disk_model.specs.laws.Moments.{goes_on}
use Rattle.checkpoint.proofs.keeper.Keeper.recover.Goals as goal
use Rattle.device_image.specs.laws.Counted.{remembers_none}
use Rattle.std.proofs.lemmas.Bool.Decides.{nat_tests}

-- an area in which a gate has another place than the first takes two headers
two_headers : (used : ℕ) → 0 < used → headers_at used ≡ 2
two_headers zero some = absurd (omega (arith, some))
two_headers (suc place) some = refl

some_is : (n : ℕ) → false ≡ (n == 0) → 0 < n
some_is n is = grind (arith, nat_tests)

pub returns-in_err-rotate-clause-any_moment : goal.returns-in_err-rotate-clause-any_moment
returns-in_err-rotate-clause-any_moment g c honest image number keeps =
    let first = c.in_ok-complete_begun.ensures in
    goes_on (first.any_moment honest image number keeps)
    (c.in_err-rotate.ensures.any_moment (first.honest.1 honest) image number (first.kept honest image number keeps)) (λ content stands. stands)

pub returns-in_err-rotate-clause-kept_still : goal.returns-in_err-rotate-clause-kept_still
returns-in_err-rotate-clause-kept_still g c honest image number keeps =
    let first = c.in_ok-complete_begun.ensures in
    let mid = c.complete_begun.new.self in
    let new = c.rotate.new.self in
    let fault = c.in_err-rotate.field-0.0 in
    err_given (λ fault. fault ≢ DeviceFault → Keeps new (g.D.Disk.state new.disk) image number) c.from_residual-in_err-rotate.result fault c.from_residual-in_err-rotate.ensures.1
    (still_kept {T = Unit {0}} g.D.Disk.state (Err fault) mid new image number c.in_err-rotate.ensures.err (first.kept honest image number keeps))

pub returns-clause-any_moment : goal.returns-clause-any_moment
returns-clause-any_moment g c honest image number keeps =
    let first = c.in_ok-complete_begun.ensures in
    let second = c.in_ok-rotate.ensures in
    let first_honest = first.honest.1 honest in
    let first_kept = first.kept honest image number keeps in
    goes_on (goes_on (first.any_moment honest image number keeps) (second.any_moment first_honest image number first_kept) (λ content stands. stands))
    (c.complete_checkpoint.ensures.any_moment (second.honest.1 first_honest) image number (keeps_begun c.complete_begun.new.self c.rotate.new.self _ _ image number first_kept (ap (λ (k : KeeperState g.row.D.Denot). k.count) second.ok) (second.held first_honest))) (λ content stands. stands)

pub returns-in_err-complete_begun-clause-headers : goal.returns-in_err-complete_begun-clause-headers
returns-in_err-complete_begun-clause-headers g c honest image number keeps =
    let told = c.in_err-complete_begun.ensures.headers_err honest image number keeps in
    (told.0, omega (arith, told.1), told.2)

pub returns-then-is_empty-clause-headers : goal.returns-then-is_empty-clause-headers
returns-then-is_empty-clause-headers g c honest image number keeps =
    (length c.args.self.now.turned, omega arith, c.in_ok-complete_begun.ensures.headers_ok honest image number keeps)

pub returns-in_err-rotate-clause-headers : goal.returns-in_err-rotate-clause-headers
returns-in_err-rotate-clause-headers g c honest image number keeps =
    let first = c.in_ok-complete_begun.ensures in
    let old = c.args.self.now in
    let mid = c.complete_begun.new.self in
    let some = some_is mid.used (sym c.if-is_empty.false ∙ c.is_empty.ensures.empty) in
    let two = two_headers old.used (subst (λ (n : ℕ). 0 < n) first.used some) in (
      suc (length old.turned),
      omega (arith, two),
      (mid.disk, first.headers_ok honest image number keeps, step_next old mid (length old.turned) _ _ first.sizes first.generation (c.in_err-rotate.ensures.header (first.honest.1 honest) image number (first.kept honest image number keeps))),
    )

pub returns-clause-headers : goal.returns-clause-headers
returns-clause-headers g c honest image number keeps =
    let first = c.in_ok-complete_begun.ensures in
    let second = c.in_ok-rotate.ensures in
    let old = c.args.self.now in
    let mid = c.complete_begun.new.self in
    let turned = c.rotate.new.self in
    let first_honest = first.honest.1 honest in
    let first_kept = first.kept honest image number keeps in
    let some = some_is mid.used (sym c.if-is_empty.false ∙ c.is_empty.ensures.empty) in
    let two = two_headers old.used (subst (λ (n : ℕ). 0 < n) first.used some) in
    let more = ap (λ (k : KeeperState g.row.D.Denot). k.generation) second.ok in
    let so_far = first.generation in
    let number_is : turned.generation ≡ old.generation + suc (length old.turned) = omega (arith, more, so_far) in (
      suc (suc (length old.turned)),
      omega (arith, two),
      (
        turned.disk,
        (mid.disk, first.headers_ok honest image number keeps, step_next old mid (length old.turned) _ _ first.sizes first.generation (second.header first_honest image number first_kept)),
        step_next old turned (suc (length old.turned)) _ _ (ap (λ (k : KeeperState g.row.D.Denot). k.geometry) second.ok ∙ first.sizes) number_is
            (c.complete_checkpoint.ensures.header (second.honest.1 first_honest) image number (keeps_begun mid turned _ _ image number first_kept (ap (λ (k : KeeperState g.row.D.Denot). k.count) second.ok) (second.held first_honest))),
      ),
    )

pub returns-clause-kept : goal.returns-clause-kept
returns-clause-kept g c honest image number keeps =
    let first = c.in_ok-complete_begun.ensures in
    let second = c.in_ok-rotate.ensures in
    let first_honest = first.honest.1 honest in
    c.complete_checkpoint.ensures.kept (second.honest.1 first_honest) image number (keeps_begun c.complete_begun.new.self c.rotate.new.self _ _ image number (first.kept honest image number keeps) (ap (λ (k : KeeperState g.row.D.Denot). k.count) second.ok) (second.held first_honest))

pub returns-clause-kept_still : goal.returns-clause-kept_still
returns-clause-kept_still g c honest image number keeps =
    let first = c.in_ok-complete_begun.ensures in
    let second = c.in_ok-rotate.ensures in
    let first_honest = first.honest.1 honest in
    c.complete_checkpoint.ensures.kept_still (second.honest.1 first_honest) image number (keeps_begun c.complete_begun.new.self c.rotate.new.self _ _ image number (first.kept honest image number keeps) (ap (λ (k : KeeperState g.row.D.Denot). k.count) second.ok) (second.held first_honest))

zero_is : (n : ℕ) → true ≡ (n == 0) → n ≡ 0
zero_is n is = grind (arith, nat_tests)

pub returns-then-is_empty-clause-ok : goal.returns-then-is_empty-clause-ok
returns-then-is_empty-clause-ok g c =
    let first = c.in_ok-complete_begun.ensures in
    let none = zero_is c.complete_begun.new.self.used (sym c.if-is_empty.true ∙ c.is_empty.ensures.empty) in
    record { works = first.ok.0; phase = first.ok.1; used = none; turned = first.ok.2; lefts = first.ok.3; base = sym (c.is_empty.ensures.counted none ∙ ap (last_turned c.complete_begun.new.self.base) first.ok.2); remembers = remembers_none _ (c.is_empty.ensures.untouched none) }

pub returns-clause-sizes : goal.returns-clause-sizes
returns-clause-sizes g c =
    sizes_ended c.complete_checkpoint.result c.rotate.new.self c.complete_checkpoint.new.self c.args.self.now.geometry
    (ap (λ (k : KeeperState g.row.D.Denot). k.geometry) c.in_ok-rotate.ensures.ok ∙ c.in_ok-complete_begun.ensures.sizes) c.complete_checkpoint.ensures.ok

pub returns-clause-ok : goal.returns-clause-ok
returns-clause-ok g c =
    let first = c.in_ok-complete_begun.ensures in
    let second = c.in_ok-rotate.ensures in
    let begun = c.complete_begun.new.self in
    recovered_by c.complete_checkpoint.result c.rotate.new.self c.complete_checkpoint.new.self (count_puts begun.geometry.blocks begun.memory.area.touched) c.complete_checkpoint.ensures.ok
    (ap (λ (k : KeeperState g.row.D.Denot). k.failed) second.ok ∙ first.ok.0) (ap (λ (k : KeeperState g.row.D.Denot). k.used) second.ok)
    (ap (λ (k : KeeperState g.row.D.Denot). k.turned) second.ok ∙ ap (λ (turned : List ℕ). turned ++ begun.count ∷ []) first.ok.2 ∙ ap (λ (n : ℕ). n ∷ []) (sym (ap (λ (k : KeeperState g.row.D.Denot). k.count) second.ok)))
    (ap (λ (k : KeeperState g.row.D.Denot). k.lefts) second.ok ∙ ap (λ (lefts : List ℕ). lefts ++ count_puts begun.geometry.blocks begun.memory.area.touched ∷ []) first.ok.3)
    (c.complete_checkpoint.ensures.remembered [] second.fresh)

pub returns-in_err-complete_begun-clause-ok : goal.returns-in_err-complete_begun-clause-ok
returns-in_err-complete_begun-clause-ok g c =
    IfOk-from_err c.from_residual.result _ c.from_residual.ensures.0

pub returns-in_err-complete_begun-clause-sizes : goal.returns-in_err-complete_begun-clause-sizes
returns-in_err-complete_begun-clause-sizes g c =
    IfOk-from_err c.from_residual.result _ c.from_residual.ensures.0

pub returns-in_err-complete_begun-clause-faults_ok : goal.returns-in_err-complete_begun-clause-faults_ok
returns-in_err-complete_begun-clause-faults_ok g c =
    IfOk-from_err c.from_residual.result _ c.from_residual.ensures.0

pub returns-in_err-complete_begun-clause-kept : goal.returns-in_err-complete_begun-clause-kept
returns-in_err-complete_begun-clause-kept g c honest image number keeps =
    IfOk-from_err c.from_residual.result _ c.from_residual.ensures.0

pub returns-in_err-complete_begun-clause-any_moment : goal.returns-in_err-complete_begun-clause-any_moment
returns-in_err-complete_begun-clause-any_moment g c =
    c.in_err-complete_begun.ensures.any_moment

pub returns-in_err-complete_begun-clause-faults_err : goal.returns-in_err-complete_begun-clause-faults_err
returns-in_err-complete_begun-clause-faults_err g c =
    err_given _ c.from_residual.result c.in_err-complete_begun.field-0.0 c.from_residual.ensures.1 c.in_err-complete_begun.ensures.faults_err

pub returns-in_err-rotate-clause-ok : goal.returns-in_err-rotate-clause-ok
returns-in_err-rotate-clause-ok g c =
    IfOk-from_err c.from_residual-in_err-rotate.result _ c.from_residual-in_err-rotate.ensures.0

pub returns-in_err-rotate-clause-sizes : goal.returns-in_err-rotate-clause-sizes
returns-in_err-rotate-clause-sizes g c =
    IfOk-from_err c.from_residual-in_err-rotate.result _ c.from_residual-in_err-rotate.ensures.0

pub returns-in_err-rotate-clause-faults_ok : goal.returns-in_err-rotate-clause-faults_ok
returns-in_err-rotate-clause-faults_ok g c =
    IfOk-from_err c.from_residual-in_err-rotate.result _ c.from_residual-in_err-rotate.ensures.0

pub returns-in_err-rotate-clause-kept : goal.returns-in_err-rotate-clause-kept
returns-in_err-rotate-clause-kept g c honest image number keeps =
    IfOk-from_err c.from_residual-in_err-rotate.result _ c.from_residual-in_err-rotate.ensures.0

pub returns-in_err-rotate-clause-extent : goal.returns-in_err-rotate-clause-extent
returns-in_err-rotate-clause-extent g c =
    c.in_err-rotate.ensures.extent ∙ c.in_ok-complete_begun.ensures.extent

pub returns-in_err-rotate-clause-honest : goal.returns-in_err-rotate-clause-honest
returns-in_err-rotate-clause-honest g c =
    both_ways c.in_err-rotate.ensures.honest c.in_ok-complete_begun.ensures.honest

pub returns-in_err-rotate-clause-faults_err : goal.returns-in_err-rotate-clause-faults_err
returns-in_err-rotate-clause-faults_err g c =
    let fault = c.in_err-rotate.field-0.0 in
    err_given _ c.from_residual-in_err-rotate.result fault c.from_residual-in_err-rotate.ensures.1 (c.in_err-rotate.ensures.faults_err ∙ ap (faults_by fault) c.in_ok-complete_begun.ensures.faults_ok)

pub returns-clause-extent : goal.returns-clause-extent
returns-clause-extent g c =
    c.complete_checkpoint.ensures.extent ∙ c.in_ok-rotate.ensures.extent ∙ c.in_ok-complete_begun.ensures.extent

pub returns-clause-honest : goal.returns-clause-honest
returns-clause-honest g c =
    both_ways c.complete_checkpoint.ensures.honest (both_ways c.in_ok-rotate.ensures.honest c.in_ok-complete_begun.ensures.honest)

pub returns-clause-faults_ok : goal.returns-clause-faults_ok
returns-clause-faults_ok g c =
    let before = c.in_ok-rotate.ensures.faults_ok ∙ c.in_ok-complete_begun.ensures.faults_ok in
    IfOk-weaker c.complete_checkpoint.result _ _ (λ done same. same ∙ before) c.complete_checkpoint.ensures.faults_ok

pub returns-clause-faults_err : goal.returns-clause-faults_err
returns-clause-faults_err g c =
    let before = c.in_ok-rotate.ensures.faults_ok ∙ c.in_ok-complete_begun.ensures.faults_ok in
    IfErr-weaker c.complete_checkpoint.result _ _ (λ fault same. same ∙ ap (faults_by fault) before) c.complete_checkpoint.ensures.faults_err

pub returns-in_err-complete_begun-clause-extent : goal.returns-in_err-complete_begun-clause-extent
returns-in_err-complete_begun-clause-extent g c =
    c.in_err-complete_begun.ensures.extent

pub returns-in_err-complete_begun-clause-honest : goal.returns-in_err-complete_begun-clause-honest
returns-in_err-complete_begun-clause-honest g c =
    c.in_err-complete_begun.ensures.honest

pub returns-in_err-complete_begun-clause-only : goal.returns-in_err-complete_begun-clause-only
returns-in_err-complete_begun-clause-only g c =
    err_given IsRecoveryFault c.from_residual.result c.in_err-complete_begun.field-0.0 c.from_residual.ensures.1 c.in_err-complete_begun.ensures.only

pub returns-in_err-complete_begun-clause-kept_still : goal.returns-in_err-complete_begun-clause-kept_still
returns-in_err-complete_begun-clause-kept_still g c honest image number keeps =
    err_given _ c.from_residual.result c.in_err-complete_begun.field-0.0 c.from_residual.ensures.1 (c.in_err-complete_begun.ensures.kept_still honest image number keeps)

pub returns-in_err-complete_begun-clause-full : goal.returns-in_err-complete_begun-clause-full
returns-in_err-complete_begun-clause-full g c is =
    c.in_err-complete_begun.ensures.full (sym (same_answer c.from_residual.result c.in_err-complete_begun.field-0.0 c.from_residual.ensures.1) ∙ is)

pub returns-in_err-complete_begun-clause-wanted : goal.returns-in_err-complete_begun-clause-wanted
returns-in_err-complete_begun-clause-wanted g c is one used =
    c.in_err-complete_begun.ensures.wanted (sym (same_answer c.from_residual.result c.in_err-complete_begun.field-0.0 c.from_residual.ensures.1) ∙ is) one

pub returns-clause-full : goal.returns-clause-full
returns-clause-full g c =
    c.complete_checkpoint.ensures.full

pub returns-clause-only : goal.returns-clause-only
returns-clause-only g c =
    c.complete_checkpoint.ensures.only

pub returns-clause-wanted : goal.returns-clause-wanted
returns-clause-wanted g c is one used =
    c.complete_checkpoint.ensures.wanted is one

pub returns-then-is_empty-clause-only : goal.returns-then-is_empty-clause-only
returns-then-is_empty-clause-only g c =
    tt

pub returns-then-is_empty-clause-full : goal.returns-then-is_empty-clause-full
returns-then-is_empty-clause-full g c is =
    absurd (ok_apart _ _ is)

pub returns-then-is_empty-clause-wanted : goal.returns-then-is_empty-clause-wanted
returns-then-is_empty-clause-wanted g c is one used =
    ok_apart _ _ is

pub returns-then-is_empty-clause-faults_err : goal.returns-then-is_empty-clause-faults_err
returns-then-is_empty-clause-faults_err g c =
    tt

pub returns-then-is_empty-clause-kept_still : goal.returns-then-is_empty-clause-kept_still
returns-then-is_empty-clause-kept_still g c honest image number keeps =
    tt

pub returns-then-is_empty-clause-extent : goal.returns-then-is_empty-clause-extent
returns-then-is_empty-clause-extent g c =
    c.in_ok-complete_begun.ensures.extent

pub returns-then-is_empty-clause-faults_ok : goal.returns-then-is_empty-clause-faults_ok
returns-then-is_empty-clause-faults_ok g c =
    c.in_ok-complete_begun.ensures.faults_ok

pub returns-then-is_empty-clause-honest : goal.returns-then-is_empty-clause-honest
returns-then-is_empty-clause-honest g c =
    c.in_ok-complete_begun.ensures.honest

pub returns-then-is_empty-clause-kept : goal.returns-then-is_empty-clause-kept
returns-then-is_empty-clause-kept g c =
    c.in_ok-complete_begun.ensures.kept

pub returns-then-is_empty-clause-any_moment : goal.returns-then-is_empty-clause-any_moment
returns-then-is_empty-clause-any_moment g c =
    c.in_ok-complete_begun.ensures.any_moment

pub returns-then-is_empty-clause-sizes : goal.returns-then-is_empty-clause-sizes
returns-then-is_empty-clause-sizes g c =
    c.in_ok-complete_begun.ensures.sizes

pub returns-in_err-complete_begun-clause-generation : goal.returns-in_err-complete_begun-clause-generation
returns-in_err-complete_begun-clause-generation g c =
    IfOk-from_err c.from_residual.result _ c.from_residual.ensures.0

pub returns-in_err-complete_begun-clause-lacks : goal.returns-in_err-complete_begun-clause-lacks
returns-in_err-complete_begun-clause-lacks g c is =
    let lacks = c.in_err-complete_begun.ensures.lacks (sym (same_answer c.from_residual.result c.in_err-complete_begun.field-0.0 c.from_residual.ensures.1) ∙ is) in
    omega (arith, lacks)

pub returns-then-is_empty-clause-generation : goal.returns-then-is_empty-clause-generation
returns-then-is_empty-clause-generation g c =
    let first = c.in_ok-complete_begun.ensures in
    let none = zero_is c.complete_begun.new.self.used (sym c.if-is_empty.true ∙ c.is_empty.ensures.empty) in
    let no_header : headers_at c.args.self.now.used ≡ 0 = ap headers_at (sym first.used ∙ none) in
    let so_far = first.generation in
    omega (arith, so_far, no_header)

pub returns-then-is_empty-clause-lacks : goal.returns-then-is_empty-clause-lacks
returns-then-is_empty-clause-lacks g c is =
    absurd (ok_apart _ _ is)

pub returns-in_err-rotate-clause-generation : goal.returns-in_err-rotate-clause-generation
returns-in_err-rotate-clause-generation g c =
    IfOk-from_err c.from_residual-in_err-rotate.result _ c.from_residual-in_err-rotate.ensures.0

pub returns-in_err-rotate-clause-lacks : goal.returns-in_err-rotate-clause-lacks
returns-in_err-rotate-clause-lacks g c is =
    let first = c.in_ok-complete_begun.ensures in
    let full = c.in_err-rotate.ensures.full.0 (sym (same_answer c.from_residual-in_err-rotate.result c.in_err-rotate.field-0.0 c.from_residual-in_err-rotate.ensures.1) ∙ is) in
    let last = full.2 in
    let two = two_headers c.args.self.now.used (subst (λ (n : ℕ). 0 < n) first.used full.1.1) in
    let so_far = first.generation in
    omega (arith, last, two, so_far)

pub returns-clause-generation : goal.returns-clause-generation
returns-clause-generation g c =
    let first = c.in_ok-complete_begun.ensures in
    let second = c.in_ok-rotate.ensures in
    let some = some_is c.complete_begun.new.self.used (sym c.if-is_empty.false ∙ c.is_empty.ensures.empty) in
    let two = two_headers c.args.self.now.used (subst (λ (n : ℕ). 0 < n) first.used some) in
    let so_far = first.generation in
    let more = ap (λ (k : KeeperState g.row.D.Denot). k.generation) second.ok in
    generation_ended c.complete_checkpoint.result c.rotate.new.self c.complete_checkpoint.new.self (c.args.self.now.generation + length c.args.self.now.turned + headers_at c.args.self.now.used)
    (omega (arith, two, so_far, more)) c.complete_checkpoint.ensures.ok

pub returns-clause-lacks : goal.returns-clause-lacks
returns-clause-lacks g c is =
    let first = c.in_ok-complete_begun.ensures in
    let second = c.in_ok-rotate.ensures in
    let some = some_is c.complete_begun.new.self.used (sym c.if-is_empty.false ∙ c.is_empty.ensures.empty) in
    let two = two_headers c.args.self.now.used (subst (λ (n : ℕ). 0 < n) first.used some) in
    let so_far = first.generation in
    let more = ap (λ (k : KeeperState g.row.D.Denot). k.generation) second.ok in
    let last = c.complete_checkpoint.ensures.last is in
    omega (arith, two, so_far, more, last)
