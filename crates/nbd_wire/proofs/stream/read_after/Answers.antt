use Rattle.std.proofs.Common.{◌≡◌, ◌<◌, ◌≤◌, ◌+◌, List, ℕ, ◌++◌, length, length-take, take, rules, arith, ◌∙◌}
use Rattle.std.specs.Prelude.{◌-◌, replicate, vec_len}
use Rattle.nbd_wire.proofs.DataReadIntoRoom.{cut_behind, kept_front}
use Rattle.nbd_wire.proofs.stream.read_after.Goals as goal

pub returns-in-Ok-clause-ok : goal.returns-in-Ok-clause-ok
returns-in-Ok-clause-ok g c =
    let before : List ℕ = c.args.bytes.items in
    let buf : List ℕ = c.read.new.buf in
    let len : c.len-len.result ≡ length before = search rules in
    let made : c.resize.new.self.items ≡ take (c.len-len.result + c.args.most) before ++ replicate (c.len-len.result + c.args.most - vec_len c.args.bytes) 0 = search rules in
    let front : take c.len-len.result c.deref_mut.result.now ≡ before =
    kept_front before _ _ _ (c.len-len.result + c.args.most) len (omega (arith, len)) (c.deref_mut.ensures.value ∙ made) in
    let within : c.in-Ok.count ≤ length buf = c.in-Ok.ensures.bound.0 in
    let some : 0 < length buf = search rules in
    let room : c.len-len.result + length buf ≤ c.resize.new.self.len = search rules in
    record {
      piece = take c.in-Ok.count buf;
      len = omega (arith, within, length-take c.in-Ok.count buf);
      behind = c.truncate.ensures.items ∙ cut_behind _ before buf _ _ _ c.in-Ok.count _ front len within room;
      read = c.in-Ok.ensures.bytes.0;
      end = λ none. c.in-Ok.ensures.bytes.1 none some;
    }
