use Rattle.std.proofs.Common.{◌≡◌, ◌++◌, ◌∙◌, sym, ap, take, drop, List, ℕ, append_assoc}
use Rattle.std.proofs.lemmas.List.{take-append-drop}
use Rattle.nbd_wire.specs.laws.Bytes.{appends_on}
use Rattle.nbd_wire.proofs.bytes.write_unflushed.Goals as goal

pub loop-rest-preserved : goal.loop-rest-preserved
loop-rest-preserved g c =
    let i = c.loop-rest.invariant in
    let written = take c.in_ok-count.count c.loop-rest.rest.now in
    let behind = drop c.in_ok-count.count c.loop-rest.rest.now in
    let parts : c.loop-rest.rest.now ≡ written ++ behind = sym (take-append-drop c.in_ok-count.count c.loop-rest.rest.now) in
    record {
      first = i.first ++ written;
      whole = i.whole ∙ ap (λ (t : List ℕ). i.first ++ t) parts ∙ sym (append_assoc i.first written behind) ∙ ap (λ (t : List ℕ). (i.first ++ written) ++ t) (sym c.split_at.ensures.back);
      written = appends_on (g.W.Write.contents c.args.output.now) (g.W.Write.contents c.loop-rest.output) (g.W.Write.contents c.write_some.new.output) i.first written i.written c.in_ok-count.ensures.written;
    }
