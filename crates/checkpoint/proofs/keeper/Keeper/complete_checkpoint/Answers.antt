use Rattle.std.proofs.Common.{◌≡◌, ℕ, inl, Ok, Err, sym, ◌∙◌, ap, subst}
use Rattle.std.specs.Prelude.{IfErr, IsErr, OnOk}
use Rattle.std.proofs.lemmas.Bool.{false≢true}
use Rattle.device_image.specs.Keeper.{KeeperState}
use Rattle.disk_model.specs.Disk.{State, LeavesOnly}
use Rattle.disk_model.specs.laws.Moments.{goes_on, weakens}
use Rattle.checkpoint.specs.Headers.{HasHeader, HasHeaderOrNext}
use Rattle.checkpoint.specs.Steps.{copied_by, left_in, mapped_by}
use Rattle.checkpoint.specs.Keeper.{faults_by, refused_by}
use Rattle.checkpoint.specs.inner.Recovery.{IsRecoveryFault}
use Rattle.checkpoint.proofs.ExcludedRefusals.{Given, err_given, given, same_answer}
use Rattle.checkpoint.proofs.RecoveryKeepsImage.{count_ended, finished_last, keeps_by, keeps_ended, never_one, still_kept}
use Rattle.checkpoint.proofs.keeper.Keeper.complete_checkpoint.Goals as goal

pub returns-in_err-write_map-clause-any_moment : goal.returns-in_err-write_map-clause-any_moment
returns-in_err-write_map-clause-any_moment g c honest image number keeps =
    let first = c.in_ok-copy_all.ensures in
    goes_on (first.any_moment honest image number keeps)
    (c.in_err-write_map.ensures.any_moment (first.honest.1 honest) image number (first.kept honest image number keeps)) (λ content stands. stands)

pub returns-clause-kept_still : goal.returns-clause-kept_still
returns-clause-kept_still g c honest image number keeps =
    let first = c.in_ok-copy_all.ensures in
    let second = c.in_ok-write_map.ensures in
    still_kept g.D.Disk.state c.finish.result c.write_map.new.self c.finish.new.self image number c.finish.ensures.err
    (keeps_by c.copy_all.new.self c.write_map.new.self _ _ image number (first.kept honest image number keeps) (ap (λ (k : KeeperState g.row.D.Denot). k.count) second.ok) (second.held (first.honest.1 honest)))

pub returns-clause-any_moment : goal.returns-clause-any_moment
returns-clause-any_moment g c honest image number keeps =
    let first = c.in_ok-copy_all.ensures in
    let second = c.in_ok-write_map.ensures in
    let first_honest = first.honest.1 honest in
    let first_kept = first.kept honest image number keeps in
    goes_on (goes_on (first.any_moment honest image number keeps) (second.any_moment first_honest image number first_kept) (λ content stands. stands))
    (c.finish.ensures.any_moment (second.honest.1 first_honest) image number (keeps_by c.copy_all.new.self c.write_map.new.self _ _ image number (first_kept) (ap (λ (k : KeeperState g.row.D.Denot). k.count) second.ok) (second.held first_honest))) (λ content stands. stands)

mapped_header : {D : Type 0} {before after : State} (old copied mapped : KeeperState D) → copied ≡ copied_by old (left_in old.phase) copied.disk copied.memory → mapped ≡ mapped_by copied mapped.disk mapped.memory
    → LeavesOnly before after (HasHeaderOrNext mapped.geometry mapped.generation) → LeavesOnly before after (HasHeaderOrNext old.geometry old.generation)
mapped_header {D} {before} {after} old copied mapped first second call =
    subst (λ (k : KeeperState D). LeavesOnly before after (HasHeaderOrNext k.geometry k.generation)) first (subst (λ (k : KeeperState D). LeavesOnly before after (HasHeaderOrNext k.geometry k.generation)) second call)

copied_header : {D : Type 0} {before after : State} (old copied : KeeperState D) → copied ≡ copied_by old (left_in old.phase) copied.disk copied.memory → LeavesOnly before after (HasHeader copied.geometry copied.generation) → LeavesOnly before after (HasHeader old.geometry old.generation)
copied_header {D} {before} {after} old copied first call = subst (λ (k : KeeperState D). LeavesOnly before after (HasHeader k.geometry k.generation)) first call

pub returns-in_err-write_map-clause-header : goal.returns-in_err-write_map-clause-header
returns-in_err-write_map-clause-header g c honest image number keeps =
    let first = c.in_ok-copy_all.ensures in
    weakens (goes_on (first.header honest image number keeps)
    (copied_header c.args.self.now c.copy_all.new.self first.ok (c.in_err-write_map.ensures.header (first.honest.1 honest) image number (first.kept honest image number keeps))) (λ content has. has)) (λ content has. inl has)

pub returns-clause-header : goal.returns-clause-header
returns-clause-header g c honest image number keeps =
    let first = c.in_ok-copy_all.ensures in
    let second = c.in_ok-write_map.ensures in
    let first_honest = first.honest.1 honest in
    let first_kept = first.kept honest image number keeps in
    goes_on (weakens (goes_on (first.header honest image number keeps) (copied_header c.args.self.now c.copy_all.new.self first.ok (second.header first_honest image number first_kept)) (λ content has. has)) (λ content has. inl has))
    (mapped_header c.args.self.now c.copy_all.new.self c.write_map.new.self first.ok second.ok
    (c.finish.ensures.header (second.honest.1 first_honest) image number (keeps_by c.copy_all.new.self c.write_map.new.self _ _ image number (first_kept) (ap (λ (k : KeeperState g.row.D.Denot). k.count) second.ok) (second.held first_honest)))) (λ content has. has)

pub returns-clause-kept : goal.returns-clause-kept
returns-clause-kept g c honest image number keeps =
    let first = c.in_ok-copy_all.ensures in
    let second = c.in_ok-write_map.ensures in
    let first_honest = first.honest.1 honest in
    let mapped = keeps_by c.copy_all.new.self c.write_map.new.self _ _ image number (first.kept honest image number keeps) (ap (λ (k : KeeperState g.row.D.Denot). k.count) second.ok) (second.held first_honest) in
    keeps_ended c.finish.result c.write_map.new.self c.finish.new.self _ _ image number mapped (never_one c.write_map.new.self (ap (λ (k : KeeperState g.row.D.Denot). k.phase) second.ok)) (count_ended c.finish.result c.write_map.new.self c.finish.new.self c.finish.ensures.ok)
    (c.finish.ensures.held (second.honest.1 first_honest))

pub returns-clause-remembered : goal.returns-clause-remembered
returns-clause-remembered g c commands remembers =
    c.finish.ensures.remembered commands (c.in_ok-write_map.ensures.remembered commands (c.in_ok-copy_all.ensures.remembered commands remembers))

ok_none : (result : Given (Unit {0})) (A : Type 0) → IsErr result → OnOk result A
ok_none (Ok done) A none = absurd (false≢true none)
ok_none (Err fault) A is = tt

ok_more : (result : Given (Unit {0})) (A B : Type 0) → (A → B) → OnOk result A → OnOk result B
ok_more (Ok done) A B more holds = more holds
ok_more (Err fault) A B more holds = tt

pub returns-clause-ok : goal.returns-clause-ok
returns-clause-ok g c =
    let first = c.in_ok-copy_all.ensures in
    let second = c.in_ok-write_map.ensures in
    ok_more c.finish.result _ _ (finished_last c.args.self.now c.copy_all.new.self c.write_map.new.self c.finish.new.self _ first.ok second.ok) c.finish.ensures.ok

pub returns-clause-faults_ok : goal.returns-clause-faults_ok
returns-clause-faults_ok g c =
    let first = c.in_ok-copy_all.ensures in
    let second = c.in_ok-write_map.ensures in
    subst (λ (n : ℕ). OnOk c.finish.result (g.D.Disk.faults c.finish.new.self.disk ≡ n)) (second.faults_ok ∙ first.faults_ok) c.finish.ensures.faults_ok

pub returns-clause-faults_err : goal.returns-clause-faults_err
returns-clause-faults_err g c =
    let first = c.in_ok-copy_all.ensures in
    let second = c.in_ok-write_map.ensures in
    subst (λ (n : ℕ). IfErr c.finish.result (λ fault. g.D.Disk.faults c.finish.new.self.disk ≡ faults_by fault n)) (second.faults_ok ∙ first.faults_ok) c.finish.ensures.faults_err

pub returns-clause-extent : goal.returns-clause-extent
returns-clause-extent g c =
    let first = c.in_ok-copy_all.ensures in
    let second = c.in_ok-write_map.ensures in
    c.finish.ensures.extent ∙ second.extent ∙ first.extent

pub returns-clause-honest : goal.returns-clause-honest
returns-clause-honest g c =
    let first = c.in_ok-copy_all.ensures in
    let second = c.in_ok-write_map.ensures in
    let third = c.finish.ensures in
    (λ trusted. first.honest.0 (second.honest.0 (third.honest.0 trusted)), λ trusted. third.honest.1 (second.honest.1 (first.honest.1 trusted)))

pub returns-clause-full : goal.returns-clause-full
returns-clause-full g c is =
    let unchanged : c.finish.new.self ≡ c.write_map.new.self = subst (λ (r : Given (Unit {0})). IfErr r (λ fault. c.finish.new.self ≡ refused_by fault c.write_map.new.self c.finish.new.self.disk)) is c.finish.ensures.err in
    ap (λ (k : KeeperState g.row.D.Denot). k.generation) unchanged ∙ (c.finish.ensures.full.0 is).2

pub returns-clause-last : goal.returns-clause-last
returns-clause-last g c is =
    sym (ap (λ (k : KeeperState g.row.D.Denot). k.generation) c.in_ok-write_map.ensures.ok ∙ ap (λ (k : KeeperState g.row.D.Denot). k.generation) c.in_ok-copy_all.ensures.ok) ∙ (c.finish.ensures.full.0 is).2

pub returns-clause-wanted : goal.returns-clause-wanted
returns-clause-wanted g c is one =
    let unchanged : c.finish.new.self ≡ c.write_map.new.self = subst (λ (r : Given (Unit {0})). IfErr r (λ fault. c.finish.new.self ≡ refused_by fault c.write_map.new.self c.finish.new.self.disk)) is c.finish.ensures.err in
    never_one c.write_map.new.self (ap (λ (k : KeeperState g.row.D.Denot). k.phase) c.in_ok-write_map.ensures.ok) (ap (λ (k : KeeperState g.row.D.Denot). k.phase) (sym unchanged) ∙ one)

pub returns-in_err-write_map-clause-extent : goal.returns-in_err-write_map-clause-extent
returns-in_err-write_map-clause-extent g c =
    c.in_err-write_map.ensures.extent ∙ c.in_ok-copy_all.ensures.extent

pub returns-in_err-write_map-clause-honest : goal.returns-in_err-write_map-clause-honest
returns-in_err-write_map-clause-honest g c =
    let first = c.in_ok-copy_all.ensures in
    let second = c.in_err-write_map.ensures in
    (λ trusted. first.honest.0 (second.honest.0 trusted), λ trusted. second.honest.1 (first.honest.1 trusted))

pub returns-in_err-write_map-clause-ok : goal.returns-in_err-write_map-clause-ok
returns-in_err-write_map-clause-ok g c =
    ok_none c.from_residual-in_err-write_map.result _ c.from_residual-in_err-write_map.ensures.0

pub returns-in_err-write_map-clause-faults_ok : goal.returns-in_err-write_map-clause-faults_ok
returns-in_err-write_map-clause-faults_ok g c =
    ok_none c.from_residual-in_err-write_map.result _ c.from_residual-in_err-write_map.ensures.0

pub returns-in_err-write_map-clause-remembered : goal.returns-in_err-write_map-clause-remembered
returns-in_err-write_map-clause-remembered g c commands remembers =
    ok_none c.from_residual-in_err-write_map.result _ c.from_residual-in_err-write_map.ensures.0

pub returns-in_err-write_map-clause-kept : goal.returns-in_err-write_map-clause-kept
returns-in_err-write_map-clause-kept g c honest image number keeps =
    ok_none c.from_residual-in_err-write_map.result _ c.from_residual-in_err-write_map.ensures.0

pub returns-in_err-copy_all : goal.returns-in_err-copy_all
returns-in_err-copy_all g c = record {
  ok = ok_none c.from_residual.result _ c.from_residual.ensures.0;
  only = err_given IsRecoveryFault c.from_residual.result c.in_err-copy_all.field-0.0 c.from_residual.ensures.1 c.in_err-copy_all.ensures.only;
  full = λ is. absurd (c.in_err-copy_all.ensures.not_full (sym (same_answer c.from_residual.result c.in_err-copy_all.field-0.0 c.from_residual.ensures.1) ∙ is));
  last = λ is. absurd (c.in_err-copy_all.ensures.not_full (sym (same_answer c.from_residual.result c.in_err-copy_all.field-0.0 c.from_residual.ensures.1) ∙ is));
  wanted = λ is one. absurd (c.in_err-copy_all.ensures.not_full (sym (same_answer c.from_residual.result c.in_err-copy_all.field-0.0 c.from_residual.ensures.1) ∙ is));
  extent = c.in_err-copy_all.ensures.extent;
  faults_ok = ok_none c.from_residual.result _ c.from_residual.ensures.0;
  faults_err = err_given _ c.from_residual.result c.in_err-copy_all.field-0.0 c.from_residual.ensures.1 c.in_err-copy_all.ensures.faults_err;
  honest = c.in_err-copy_all.ensures.honest;
  remembered = λ commands remembers. ok_none c.from_residual.result _ c.from_residual.ensures.0;
  kept = λ honest image number keeps. ok_none c.from_residual.result _ c.from_residual.ensures.0;
  kept_still = λ honest image number keeps. err_given _ c.from_residual.result c.in_err-copy_all.field-0.0 c.from_residual.ensures.1 (c.in_err-copy_all.ensures.kept_still honest image number keeps);
  any_moment = c.in_err-copy_all.ensures.any_moment;
  header = λ honest image number keeps. weakens (c.in_err-copy_all.ensures.header honest image number keeps) (λ content has. inl has);
}

pub returns-in_err-write_map-clause-full : goal.returns-in_err-write_map-clause-full
returns-in_err-write_map-clause-full g c is =
    absurd (c.in_err-write_map.ensures.full (sym (same_answer c.from_residual-in_err-write_map.result c.in_err-write_map.field-0.0 c.from_residual-in_err-write_map.ensures.1) ∙ is))

pub returns-in_err-write_map-clause-wanted : goal.returns-in_err-write_map-clause-wanted
returns-in_err-write_map-clause-wanted g c is one =
    absurd (c.in_err-write_map.ensures.full (sym (same_answer c.from_residual-in_err-write_map.result c.in_err-write_map.field-0.0 c.from_residual-in_err-write_map.ensures.1) ∙ is))

pub returns-in_err-write_map-clause-faults_err : goal.returns-in_err-write_map-clause-faults_err
returns-in_err-write_map-clause-faults_err g c =
    err_given _ c.from_residual-in_err-write_map.result c.in_err-write_map.field-0.0 c.from_residual-in_err-write_map.ensures.1 (c.in_err-write_map.ensures.faults_err ∙ ap (faults_by c.in_err-write_map.field-0.0) c.in_ok-copy_all.ensures.faults_ok)

pub copy_all-requires-clause-works : goal.copy_all-requires-clause-works
copy_all-requires-clause-works g c = c.requires.works

pub copy_all-requires-clause-begun : goal.copy_all-requires-clause-begun
copy_all-requires-clause-begun g c = c.requires.begun

pub returns-in_err-write_map-clause-kept_still : goal.returns-in_err-write_map-clause-kept_still
returns-in_err-write_map-clause-kept_still g c honest image number keeps =
    err_given _ c.from_residual-in_err-write_map.result c.in_err-write_map.field-0.0 c.from_residual-in_err-write_map.ensures.1
    (still_kept g.D.Disk.state (given {T = Unit {0}} c.in_err-write_map.field-0.0) c.copy_all.new.self c.write_map.new.self image number c.in_err-write_map.ensures.err (c.in_ok-copy_all.ensures.kept honest image number keeps))

pub returns-in_err-write_map-clause-last : goal.returns-in_err-write_map-clause-last
returns-in_err-write_map-clause-last g c is =
    absurd (c.in_err-write_map.ensures.full (sym (same_answer c.from_residual-in_err-write_map.result c.in_err-write_map.field-0.0 c.from_residual-in_err-write_map.ensures.1) ∙ is))
