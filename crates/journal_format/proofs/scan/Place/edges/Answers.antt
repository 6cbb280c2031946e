use Rattle.std.proofs.Common.{◌≡◌, ◌∙◌, ℕ, ◌+◌, ap, refl, slice_index, sym, arith}
use Rattle.std.proofs.lemmas.Bool.{false≢true}
use Rattle.std.proofs.lemmas.Result.{IfOk-from_err}
use Rattle.journal_format.specs.inner.Scanning.{edges_said}
use Rattle.journal_format.specs.laws.Chained.{none_read}
use Rattle.journal_format.proofs.RefusalHandedOn.{err_counted}
use Rattle.journal_format.proofs.scan.Place.edges.Goals as goal

pub returns-then-not-has_edges : goal.returns-then-not-has_edges
returns-then-not-has_edges g c = record {
  extent = refl;
  faults = refl;
  honest = (λ honest. honest, λ honest. honest);
  only_read = λ honest. none_read (g.met.D.Disk.sound c.args.disk.now honest);
  read_as = λ honest content known. known;
  said = λ honest content known edged. absurd (false≢true (sym c.if-not-has_edges.true ∙ c.has_edges.ensures.1 edged));
}

pub returns-in_err-byte : goal.returns-in_err-byte
returns-in_err-byte g c = record {
  extent = c.in_err-byte.ensures.extent;
  faults = c.in_err-byte.ensures.faults ∙ sym (err_counted c.from_residual.result _ c.from_residual.ensures.0);
  honest = c.in_err-byte.ensures.honest;
  only_read = c.in_err-byte.ensures.only_read;
  read_as = c.in_err-byte.ensures.read_as;
  said = λ honest content known. IfOk-from_err c.from_residual.result _ c.from_residual.ensures.0;
}

pub returns : goal.returns
returns g c = record {
  extent = c.in_ok-byte.ensures.extent;
  faults = c.in_ok-byte.ensures.faults;
  honest = c.in_ok-byte.ensures.honest;
  only_read = c.in_ok-byte.ensures.only_read;
  read_as = c.in_ok-byte.ensures.read_as;
  said = λ honest content known edged.
      let at : c.args.self.now.from + c.args.place + 13 ≡ c.args.self.now.from + (c.args.place + 13) = omega arith in
      ap (λ (place : ℕ). edges_said (slice_index content place)) at ∙ ap edges_said (c.in_ok-byte.ensures.bytes honest content known) ∙ sym c.edges_of.ensures;
}
