use Rattle.std.proofs.Common.{◌≡◌, ◌∙◌, ℕ, ◌<◌, List, ◌++◌, length, take, drop, refl, sym, arith}
use Rattle.std.proofs.lemmas.List.{get_or-take, get_or_append_left, length-append, length-take-le}
use Rattle.std.proofs.lemmas.Result.{IfOk-from_err}
use Rattle.journal_format.specs.laws.Windows.{scanned_on}
use Rattle.journal_format.proofs.RefusalHandedOn.{err_counted}
use Rattle.journal_format.proofs.window.Window.fill.Goals as goal

pub returns-in_err-read_front : goal.returns-in_err-read_front
returns-in_err-read_front g c =
    let read = c.in_err-read_front.ensures in record {
      held = IfOk-from_err c.from_residual.result _ c.from_residual.ensures.0;
      extent = read.extent;
      faults = read.faults ∙ sym (err_counted c.from_residual.result _ c.from_residual.ensures.0);
      honest = read.honest;
      only_read = read.only_read;
      read_as = λ honest content known. record {
        scanned = scanned_on content c.args.area c.args.area_bytes (g.met.D.Disk.sound c.args.disk.now honest) (read.only_read honest) known.scanned;
        held = λ k below. absurd (omega (arith, below));
      };
    }

pub returns : goal.returns
returns g c = record {
  held = (refl, omega (arith, c.min-held.ensures, c.next_bytes-most.ensures));
  extent = c.in_ok-read_front.ensures.extent;
  faults = c.in_ok-read_front.ensures.faults;
  honest = c.in_ok-read_front.ensures.honest;
  only_read = c.in_ok-read_front.ensures.only_read;
  read_as = λ honest content known.
      let read = c.in_ok-read_front.ensures in
      let scanned = scanned_on content c.args.area c.args.area_bytes (g.met.D.Disk.sound c.args.disk.now honest) (read.only_read honest) known.scanned in
      record {
        scanned = scanned;
        held = λ k below.
            let room : k < length c.self.inside.buffer.items = omega (arith, below, c.min-held.ensures, c.next_bytes-most.ensures, c.self.invariant.0) in
            get_or-take c.self.inside.buffer.len _ k 0 (omega arith)
            ∙ get_or_append_left c.read_front.new.buffer _ 0 k (omega (arith, room, c.read_front.auto.buffer))
            ∙ read.bytes honest k below
            ∙ scanned.same _ (omega arith, omega (arith, below, c.min-held.ensures, c.requires.inside));
      };
}

-- a buffer whose front is read over keeps its length
length_over : (len : ℕ) (old new : List ℕ) → length old ≡ len → length new ≡ len → length (take len (new ++ drop (length new) old)) ≡ len
length_over len old new is same =
    length-take-le len (new ++ drop (length new) old) (omega (arith, length-append new (drop (length new) old), is, same))

pub invariant_of-self : goal.invariant_of-self
invariant_of-self g c =
    let buffer = c.self.inside.buffer in
    (length_over buffer.len buffer.items c.read_front.new.buffer (omega arith) (omega (arith, c.read_front.auto.buffer)) ∙ omega (arith, c.self.invariant.0), omega arith)

pub invariant_of-self-2 : goal.invariant_of-self-2
invariant_of-self-2 g c =
    let buffer = c.self.inside.buffer in
    (length_over buffer.len buffer.items c.read_front.new.buffer (omega arith) (omega (arith, c.read_front.auto.buffer)) ∙ omega (arith, c.self.invariant.0), omega (arith, c.min-held.ensures, c.next_bytes-most.ensures))
