use Rattle.std.proofs.Common.{◌≡◌, ◌∙◌, ◌+◌, ◌/◌, [], refl, sym, ap, arith}
use Rattle.std.proofs.lemmas.Result.{on_ok_weaker}
use Rattle.nbdj_sweep.proofs.Blocks.{no_data, zero_byte}
use Rattle.nbdj_sweep.proofs.comparing.block_bytes.Goals as goal

pub returns-in-Data : goal.returns-in-Data
returns-in-Data g c = record {
  ok = c.read_base.ensures.ok;
  extent = c.read_base.ensures.extent;
  honest = c.read_base.ensures.honest;
  held = λ is image. c.read_base.ensures.held is image [] [];
  bytes = λ honest image holds is.
      on_ok_weaker c.read_base.result
      (λ read k small.
      let block = c.args.block in
      let first : block + k / 4096 ≡ block = omega (arith, small) in
      read k (omega (arith, small, c.type_inv.into, c.requires.size)) (ap image.kind first ∙ sym is ∙ c.in-Data.is) refl)
      (c.read_base.ensures.bytes honest image [] [] holds);
}

pub returns-in-Zero : goal.returns-in-Zero
returns-in-Zero g c = record {
  ok = refl;
  extent = refl;
  honest = (λ is. is, λ is. is);
  held = λ is image holds. holds;
  bytes = λ honest image holds is k small.
      c.requires.zero k small ∙ sym (zero_byte c.args.keeper.now (g.D.Disk.state c.args.keeper.now.disk) image holds c.args.kind (no_data c.args.kind c.in-Zero.is) c.args.block k small is);
}
