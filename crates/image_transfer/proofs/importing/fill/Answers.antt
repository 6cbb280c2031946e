use Rattle.std.proofs.Common.{◌≡◌, ◌+◌, ◌*◌, ◌-◌, ◌/◌, ◌<◌, ◌≤◌, ◌∙◌, ℕ, List, length, ap, sym, subst, refl, rules, arith, length-append, length-drop}
use Rattle.std.proofs.lemmas.List.{length-replicate, length-take}
use Rattle.disk_model.specs.laws.Moments.{begins, goes_on}
use Rattle.checkpoint.specs.laws.Closed.{closed_left}
use Rattle.image_model.specs.declared.command.Kind.{Kind}
use Rattle.image_model.specs.declared.command.Kind.TheVariants.{Hole}
use Rattle.image_transfer.specs.Import.{IsZeroBlock}
use Rattle.image_transfer.specs.inner.Import.{IsFilled}
use Rattle.image_transfer.proofs.Filling.{none_filled, passed, passed_zeroes}
use Rattle.image_transfer.proofs.importing.fill.Goals as goal

pub loop-block-init : goal.loop-block-init
loop-block-init g c = record {
  order = omega arith;
  buffer = c.requires.buffer;
  block = c.requires.first;
  trusted = (λ trusted. trusted, λ trusted. trusted);
  byte = λ trusted. refl;
  extent = refl;
  faults = refl;
  honest = (λ honest. honest, λ honest. honest);
  blocks = ap (λ (states : List Kind). length states) c.requires.holes ∙ length-replicate c.args.geometry.blocks Hole;
  closed = λ honest closed. closed;
  filled = λ honest closed trusted. none_filled (g.S.Source.byte c.args.source.now) c.args.geometry _ c.args.map.now c.requires.holes;
  any_moment = λ honest closed. begins (g.met.D.Disk.sound c.args.disk.now honest) (closed_left _ closed);
}

pub loop-block-preserved : goal.loop-block-preserved
loop-block-preserved g c =
    let before = c.loop-block.invariant in
    let run = c.in_ok-copy.ensures in
    let passing = c.in_ok-block.ensures in
    let count : (c.loop-block.block + c.in_ok-block.field-0) + c.min-count.result ≤ c.args.geometry.blocks = omega (arith, c.min-count.ensures, passing.within, before.order) in
    let block : g.S.Source.block c.copy.new.source ≡ (c.loop-block.block + c.in_ok-block.field-0) + c.min-count.result =
    run.block ∙ simp (length-take, length-drop) (omega (arith, before.buffer, c.deref_mut.ensures.len, c.min-count.ensures)) in
    record {
      order = count;
      buffer = simp (length-take, length-append, length-drop) (omega (arith, run.buffer, before.buffer, c.deref_mut.ensures.len, c.loop-block.buffer.ok, c.min-count.ensures));
      block = block;
      trusted = (λ trusted. before.trusted.0 (passing.honest.0 (run.source.0 trusted)), λ trusted. run.source.1 (passing.honest.1 (before.trusted.1 trusted)));
      byte = λ trusted.
          let first = before.trusted.1 trusted in
          run.byte (passing.honest.1 first) ∙ passing.byte first ∙ before.byte trusted;
      extent = run.extent ∙ before.extent;
      faults = run.faults_ok ∙ before.faults;
      honest = (λ trusted. before.honest.0 (run.honest.0 trusted), λ trusted. run.honest.1 (before.honest.1 trusted));
      blocks = run.count;
      closed = λ honest closed. run.closed (before.honest.1 honest) (before.closed honest closed);
      filled = λ honest closed trusted.
          let first = before.trusted.1 trusted in
          let same = passing.byte first ∙ before.byte trusted in
          let zeroes : (k : ℕ) → k < 4096 * c.in_ok-block.field-0 → g.S.Source.byte c.loop-block.source (4096 * c.loop-block.block + k) ≡ 0 =
          λ k below. ap (λ (b : ℕ). g.S.Source.byte c.loop-block.source (4096 * b + k)) (sym before.block) ∙ passing.zeroes first k below in
          let start = passed (g.S.Source.byte c.args.source.now) c.args.geometry _ _ c.loop-block.block (c.loop-block.block + c.in_ok-block.field-0) (omega arith)
          (passed_zeroes (g.S.Source.byte c.loop-block.source) (g.S.Source.byte c.args.source.now) c.loop-block.block c.in_ok-block.field-0 (before.byte trusted) zeroes)
          (before.filled honest closed trusted) in
          let done = run.filled (before.honest.1 honest) (before.closed honest closed) (passing.honest.1 first)
          (subst (λ (f : ℕ → ℕ). IsFilled f c.args.geometry (g.D.Disk.state c.loop-block.disk).seen c.loop-block.map (c.loop-block.block + c.in_ok-block.field-0)) (sym same) start) in
          subst (λ (f : ℕ → ℕ). IsFilled f c.args.geometry (g.D.Disk.state c.copy.new.disk).seen c.copy.new.map ((c.loop-block.block + c.in_ok-block.field-0) + c.min-count.result)) same
          (subst (λ (n : ℕ). IsFilled (g.S.Source.byte c.pass_zeroes.new.self) c.args.geometry (g.D.Disk.state c.copy.new.disk).seen c.copy.new.map n) (sym run.block ∙ block) done);
      any_moment = λ honest closed. goes_on (before.any_moment honest closed) (run.any_moment (before.honest.1 honest) (before.closed honest closed)) (λ content left. left);
    }
