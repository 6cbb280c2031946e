use Rattle.std.proofs.Common.{inl}
use Rattle.std.proofs.lemmas.Result.{IfErr-weaker, IfOk-from_err}
use Rattle.disk_model.specs.laws.Moments.{begins}
use Rattle.image_transfer.proofs.importing.import.Goals as goal

pub returns-in_err-map-clause-any_moment : goal.returns-in_err-map-clause-any_moment
returns-in_err-map-clause-any_moment g c honest trusted =
    begins (g.met.D.Disk.sound c.args.disk.now honest)
    (λ content left. inl (record { size = left.size; bytes = left.bytes; same = λ place synced zero one. left.same place synced }))

pub returns-in_err-map-clause-imported : goal.returns-in_err-map-clause-imported
returns-in_err-map-clause-imported g c honest trusted = IfOk-from_err c.from_residual.result _ c.from_residual.ensures.0

pub returns-in_err-map-clause-made : goal.returns-in_err-map-clause-made
returns-in_err-map-clause-made g c honest = IfOk-from_err c.from_residual.result _ c.from_residual.ensures.0

pub returns-in_err-map-clause-whole : goal.returns-in_err-map-clause-whole
returns-in_err-map-clause-whole g c honest =
    begins (g.met.D.Disk.sound c.args.disk.now honest)
    (λ content left. inl (record { size = left.size; bytes = left.bytes; same = λ place synced zero one. left.same place synced }))

pub returns-in_err-map-clause-synced : goal.returns-in_err-map-clause-synced
returns-in_err-map-clause-synced g c honest = IfOk-from_err c.from_residual.result _ c.from_residual.ensures.0

pub returns-in_err-buffer-clause-any_moment : goal.returns-in_err-buffer-clause-any_moment
returns-in_err-buffer-clause-any_moment g c honest trusted =
    begins (g.met.D.Disk.sound c.args.disk.now honest)
    (λ content left. inl (record { size = left.size; bytes = left.bytes; same = λ place synced zero one. left.same place synced }))

pub returns-in_err-buffer-clause-imported : goal.returns-in_err-buffer-clause-imported
returns-in_err-buffer-clause-imported g c honest trusted = IfOk-from_err c.from_residual-in_err-buffer.result _ c.from_residual-in_err-buffer.ensures.0

pub returns-in_err-buffer-clause-made : goal.returns-in_err-buffer-clause-made
returns-in_err-buffer-clause-made g c honest = IfOk-from_err c.from_residual-in_err-buffer.result _ c.from_residual-in_err-buffer.ensures.0

pub returns-in_err-buffer-clause-whole : goal.returns-in_err-buffer-clause-whole
returns-in_err-buffer-clause-whole g c honest =
    begins (g.met.D.Disk.sound c.args.disk.now honest)
    (λ content left. inl (record { size = left.size; bytes = left.bytes; same = λ place synced zero one. left.same place synced }))

pub returns-in_err-buffer-clause-synced : goal.returns-in_err-buffer-clause-synced
returns-in_err-buffer-clause-synced g c honest = IfOk-from_err c.from_residual-in_err-buffer.result _ c.from_residual-in_err-buffer.ensures.0

pub returns : goal.returns
returns g c = record {
  extent = c.make_image.ensures.extent;
  faults_ok = c.make_image.ensures.faults_ok;
  faults_err = c.make_image.ensures.faults_err;
  honest = c.make_image.ensures.honest;
  unchanged = IfErr-weaker c.make_image.result _ _ (λ fault never is. absurd (never is)) c.make_image.ensures.memory;
  synced = c.make_image.ensures.synced;
  imported = c.make_image.ensures.imported;
  any_moment = c.make_image.ensures.any_moment;
  made = c.make_image.ensures.made;
  whole = c.make_image.ensures.whole;
}
