use Rattle.std.proofs.Common.{◌≡◌, ◌⊎◌, inl, inr, ◌<◌, ◌+◌, ◌*◌, ◌/◌, ◌∙◌, ap, sym, refl, ℕ, List, Option, Some, None, length, arith, subst}
use Rattle.std.specs.Bool.{IsTrue}
use Rattle.device_image.specs.Keeper.{KeeperState}
use Rattle.std.proofs.lemmas.Bool.{cases_lt}
use Rattle.std.proofs.lemmas.Result.{IfOk-from_err}
use Rattle.checkpoint.specs.Keeper.{faults_by}
use Rattle.checkpoint.specs.declared.fault.KeeperFault.TheVariants.{DeviceFault, Failed}
use Rattle.journal_format.specs.laws.Chained.{none_read, reads_on}
use Rattle.shared_cache.specs.laws.Views.{seen_missing}
use Rattle.order_book.proofs.KeeperRefusalHandedOn.{err_with, failed_on, is_not, not_failed, ok_is_none, on_err, on_ok}
use Rattle.order_book.proofs.BlocksInMemory.{lacks_at}
use Rattle.order_book.proofs.reading.read_blocks.Goals as goal

none_and_some : (seen : Option (List ℕ)) (bytes : List ℕ) → seen ≡ None → seen ≡ Some bytes → ⊥
none_and_some seen bytes none some = cc

pub loop-done-init : goal.loop-done-init
loop-done-init g c =
    let held = c.read_in_memory-held.ensures in
    record {
      size = held.size;
      inside = held.inside;
      missing = held.missing;
      only = refl;
      begun = inl (refl, refl);
      extent = refl;
      faults = refl;
      honest = (λ h. h, λ h. h);
      only_read = λ honest. none_read (g.met.D.Disk.sound c.args.keeper.now.disk honest);
      holds = λ honest base fronts last holds. holds;
      in_memory = λ j k bytes below less seen. held.held j k bytes (omega arith) below less seen;
      from_base = λ honest base fronts last holds j k below less none kind unwritten. absurd (held.there j (omega arith) below none);
    }

pub returns : goal.returns
returns g c =
    let so_far = c.loop-done.invariant in record {
      size = so_far.size;
      inside = let held = c.read_in_memory-held.ensures in omega (arith, held.inside, held.size, so_far.size);
      there = λ j below. c.read_in_memory-held.ensures.there j (omega arith) below;
      missing = λ less. c.read_in_memory-held.ensures.missing (omega (arith, less, so_far.size, c.read_in_memory-held.ensures.size));
      all_held =
          λ all.
          let held = c.read_in_memory-held.result in
          let size = so_far.size in
          let whole : 4096 * held ≡ length c.args.into.now = elim (cases_lt (4096 * held) (length c.args.into.now)) [
            | inl less ↦ absurd (all (lacks_at c.args.cache.now c.args.first (length c.args.into.now / 4096) held (omega (arith, less, c.requires.whole))
                (c.read_in_memory-held.ensures.missing (omega (arith, less, c.read_in_memory-held.ensures.size)))))
            | inr more ↦ omega (arith, more, c.read_in_memory-held.ensures.size, c.read_in_memory-held.ensures.inside)
          ] in (
            omega (arith, whole, size),
            elim so_far.begun [ inl same ↦ same.1 | inr behind ↦ let far = behind.0 in absurd (omega (arith, far, whole, size, so_far.inside)) ],
          );
      ok = so_far.only;
      err = tt;
      failed = (
        λ e. cc,
        λ both. absurd (elim so_far.begun [
          | inl same ↦
              let at = same.0 in
              let lacks = both.1 in
              let below : lacks.0 < c.read_in_memory-held.result = omega (arith, lacks.1, at, c.loop-done-test.false, c.read_in_memory-held.ensures.size) in
              c.read_in_memory-held.ensures.there lacks.0 (omega arith) below (seen_missing c.args.cache.now (c.args.first + lacks.0) lacks.2 lacks.3)
          | inr behind ↦ not_failed _ both.0 behind.1
        ]),
      );
      lacks = tt;
      only = tt;
      extent = so_far.extent;
      faults_ok = so_far.faults;
      faults_err = tt;
      honest = so_far.honest;
      only_read = so_far.only_read;
      holds = so_far.holds;
      in_memory = λ j k bytes below less. so_far.in_memory j k bytes (omega (arith, below, c.loop-done-test.false, so_far.size, c.requires.whole)) less;
      from_base =
          λ honest base fronts last holds j k below less.
          so_far.from_base honest base fronts last holds j k (omega (arith, below, c.loop-done-test.false, so_far.size, c.requires.whole)) less;
    }

pub returns-in_err-read_run-clause-failed : goal.returns-in_err-read_run-clause-failed
returns-in_err-read_run-clause-failed g c =
    let lacks = lacks_at c.args.cache.now c.args.first (length c.args.into.now / 4096) c.loop-done.done (omega (arith, c.loop-done-test.true, c.loop-done.invariant.size))
    (c.loop-done.invariant.missing (omega (arith, c.loop-done-test.true, c.loop-done.invariant.size, c.requires.whole))) in
    let same = ap (λ (keeper : KeeperState g.row.D.Denot). keeper.failed) c.loop-done.invariant.only in
    failed_on c.from_residual.result c.in_err-read_run.field-0.0 c.from_residual.ensures.1 c.in_err-read_run.ensures.failed (λ failed. (subst IsTrue same failed, lacks)) (λ both. subst IsTrue (sym same) both.0)

pub returns-in_err-read_run-clause-lacks : goal.returns-in_err-read_run-clause-lacks
returns-in_err-read_run-clause-lacks g c =
    let lacks = lacks_at c.args.cache.now c.args.first (length c.args.into.now / 4096) c.loop-done.done (omega (arith, c.loop-done-test.true, c.loop-done.invariant.size))
    (c.loop-done.invariant.missing (omega (arith, c.loop-done-test.true, c.loop-done.invariant.size, c.requires.whole))) in
    on_err c.from_residual.result c.in_err-read_run.field-0.0 c.from_residual.ensures.1 lacks

pub returns-in_err-read_run-clause-only_read : goal.returns-in_err-read_run-clause-only_read
returns-in_err-read_run-clause-only_read g c honest =
    reads_on (g.met.D.Disk.sound c.args.keeper.now.disk honest) (c.loop-done.invariant.only_read honest) (c.in_err-read_run.ensures.only_read (c.loop-done.invariant.honest.1 honest))

pub loop-done-preserved : goal.loop-done-preserved
loop-done-preserved g c =
    let old = c.loop-done.invariant in
    let run = c.in_ok-read_run.ensures in
    let held = c.read_in_memory-done.ensures in
    let into = c.loop-done.into in
    let end = c.missing_end-end.result in
    let size : length c.read_in_memory-done.new.into ≡ length c.args.into.now = held.size ∙ run.size ∙ old.size in
    record {
      size = size;
      inside = held.inside;
      missing = held.missing;
      only = run.ok ∙ ap (λ (keeper : KeeperState g.row.D.Denot). record keeper { disk = c.read_run.new.keeper.disk }) old.only;
      begun = inr (
        elim old.begun [ inl same ↦ let at = same.0 in omega (arith, at, c.missing_end-end.ensures.some, held.order) | inr behind ↦ let far = behind.0 in omega (arith, far, c.missing_end-end.ensures.some, held.order) ],
        ap (λ (keeper : KeeperState g.row.D.Denot). keeper.failed) (sym old.only) ∙ is_not _ (λ is. ok_is_none _ _ (run.failed.1 is)),
      );
      extent = run.extent ∙ old.extent;
      faults = run.faults_ok ∙ old.faults;
      honest = (λ h. old.honest.0 (run.honest.0 h), λ h. run.honest.1 (old.honest.1 h));
      only_read = λ honest. reads_on (g.met.D.Disk.sound c.args.keeper.now.disk honest) (old.only_read honest) (run.only_read (old.honest.1 honest));
      holds = λ honest base fronts last holds. run.holds (old.honest.1 honest) base fronts last (old.holds honest base fronts last holds);
      in_memory = λ j k bytes below less seen. elim (cases_lt j end) [
        | inl l ↦ elim (cases_lt j c.loop-done.done) [
          | inl early ↦ held.kept (4096 * j + k) (omega (arith, l, less)) ∙ run.kept (4096 * j + k) (omega (arith, early, less)) ∙ old.in_memory j k bytes early less seen
          | inr late ↦ absurd (none_and_some _ _ (c.missing_end-end.ensures.missing j late l) seen)
        ]
        | inr m ↦ held.held j k bytes m below less seen
      ];
      from_base = λ honest base fronts last holds j k below less none kind unwritten. elim (cases_lt j end) [
        | inl l ↦ held.kept (4096 * j + k) (omega (arith, l, less)) ∙ elim (cases_lt j c.loop-done.done) [
          | inl early ↦ run.kept (4096 * j + k) (omega (arith, early, less)) ∙ old.from_base honest base fronts last holds j k early less none kind unwritten
          | inr late ↦ run.bytes (old.honest.1 honest) base fronts last (old.holds honest base fronts last holds) j k late l less kind unwritten
        ]
        | inr m ↦ absurd (held.there j m below none)
      ];
    }

pub returns-in_err-read_run-clause-size : goal.returns-in_err-read_run-clause-size
returns-in_err-read_run-clause-size g c = c.in_err-read_run.ensures.size ∙ c.loop-done.invariant.size

pub returns-in_err-read_run-clause-inside : goal.returns-in_err-read_run-clause-inside
returns-in_err-read_run-clause-inside g c = IfOk-from_err c.from_residual.result _ c.from_residual.ensures.0

pub returns-in_err-read_run-clause-there : goal.returns-in_err-read_run-clause-there
returns-in_err-read_run-clause-there g c = IfOk-from_err c.from_residual.result _ c.from_residual.ensures.0

pub returns-in_err-read_run-clause-missing : goal.returns-in_err-read_run-clause-missing
returns-in_err-read_run-clause-missing g c = IfOk-from_err c.from_residual.result _ c.from_residual.ensures.0

pub returns-in_err-read_run-clause-all_held : goal.returns-in_err-read_run-clause-all_held
returns-in_err-read_run-clause-all_held g c all = IfOk-from_err c.from_residual.result _ c.from_residual.ensures.0

pub returns-in_err-read_run-clause-ok : goal.returns-in_err-read_run-clause-ok
returns-in_err-read_run-clause-ok g c = on_ok c.from_residual.result c.in_err-read_run.field-0.0 c.from_residual.ensures.1 _

pub returns-in_err-read_run-clause-only : goal.returns-in_err-read_run-clause-only
returns-in_err-read_run-clause-only g c = err_with c.from_residual.result c.in_err-read_run.field-0.0 c.from_residual.ensures.1 (λ fault. (fault ≡ DeviceFault) ⊎ (fault ≡ Failed)) c.in_err-read_run.ensures.only

pub returns-in_err-read_run-clause-extent : goal.returns-in_err-read_run-clause-extent
returns-in_err-read_run-clause-extent g c = c.in_err-read_run.ensures.extent ∙ c.loop-done.invariant.extent

pub returns-in_err-read_run-clause-faults_ok : goal.returns-in_err-read_run-clause-faults_ok
returns-in_err-read_run-clause-faults_ok g c = on_ok c.from_residual.result c.in_err-read_run.field-0.0 c.from_residual.ensures.1 _

pub returns-in_err-read_run-clause-faults_err : goal.returns-in_err-read_run-clause-faults_err
returns-in_err-read_run-clause-faults_err g c = err_with c.from_residual.result c.in_err-read_run.field-0.0 c.from_residual.ensures.1 (λ fault. g.D.Disk.faults c.read_run.new.keeper.disk ≡ faults_by fault (g.D.Disk.faults c.args.keeper.now.disk)) (c.in_err-read_run.ensures.faults_err ∙ ap (faults_by c.in_err-read_run.field-0.0) c.loop-done.invariant.faults)

pub returns-in_err-read_run-clause-honest : goal.returns-in_err-read_run-clause-honest
returns-in_err-read_run-clause-honest g c = (λ h. c.loop-done.invariant.honest.0 (c.in_err-read_run.ensures.honest.0 h), λ h. c.in_err-read_run.ensures.honest.1 (c.loop-done.invariant.honest.1 h))

pub returns-in_err-read_run-clause-holds : goal.returns-in_err-read_run-clause-holds
returns-in_err-read_run-clause-holds g c honest base fronts last holds = on_ok c.from_residual.result c.in_err-read_run.field-0.0 c.from_residual.ensures.1 _

pub returns-in_err-read_run-clause-in_memory : goal.returns-in_err-read_run-clause-in_memory
returns-in_err-read_run-clause-in_memory g c = on_ok c.from_residual.result c.in_err-read_run.field-0.0 c.from_residual.ensures.1 _

pub returns-in_err-read_run-clause-from_base : goal.returns-in_err-read_run-clause-from_base
returns-in_err-read_run-clause-from_base g c honest base fronts last holds = on_ok c.from_residual.result c.in_err-read_run.field-0.0 c.from_residual.ensures.1 _
