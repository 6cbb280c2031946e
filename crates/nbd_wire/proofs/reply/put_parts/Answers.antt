use Rattle.std.proofs.Common.{◌≡◌, ℕ, ◌+◌, ◌≤◌, List, ◌∷◌, ◌++◌, length, take, drop, sym, subst, ap, ◌∙◌, vec_len, vec_capacity, arith, length-drop}
use Rattle.std.specs.Prelude.{◌==◌, if◌then◌else◌}
use Rattle.std.specs.List.{sum_by}
use Rattle.std.proofs.lemmas.List.Sums.{sum_by-cons}
use Rattle.nbd_wire.specs.declared.message.Run.{Run}
use Rattle.nbd_wire.specs.Answer.{PartsBytes}
use Rattle.nbd_wire.specs.Chunk.{Chunk, offset_data, offset_hole, chunk_bytes, chunks_bytes}
use Rattle.nbd_wire.specs.Reply.{part_chunks}
use Rattle.nbd_wire.specs.inner.Reply.{part_len}
use Rattle.nbd_wire.proofs.ReplyParts.{part_items}
use Rattle.nbd_wire.proofs.reply.put_parts.Goals as goal

pub loop-run-preserved : goal.loop-run-preserved
loop-run-preserved c =
    let run : Run = c.in-Some.run'.now in
    let others : List Run = c.in-Some.others.now in
    let bytes : List ℕ = c.loop-run.bytes.now in
    let offset : ℕ = c.loop-run.offset in
    let runs : c.loop-run.runs.now ≡ run ∷ others = c.in-Some.ensures.cases.0 in
    let parts : PartsBytes (run ∷ others) bytes = subst (λ (rs : List Run). PartsBytes rs bytes) runs c.loop-run.invariant.parts in
    let behind : c.split_at.result.1.now ≡ drop run.length bytes = c.split_at.ensures.back in
    let front : c.split_at.result.0.now ≡ take run.length bytes = c.split_at.ensures.front in
    let rest : part_chunks (offset + c.from-offset.result) others c.split_at.result.1.now ≡ part_chunks (offset + run.length) others (drop run.length bytes) =
    λ i. part_chunks (offset + c.from-offset.ensures i) others (behind i) in
    let old : c.loop-run.out.items ++ chunks_bytes c.args.cookie (part_chunks offset (run ∷ others) bytes) ≡ c.args.out.now.items ++ chunks_bytes c.args.cookie (part_chunks c.args.read.now.offset c.args.read.now.runs c.args.read.now.bytes) =
    subst (λ (rs : List Run). c.loop-run.out.items ++ chunks_bytes c.args.cookie (part_chunks offset rs bytes) ≡ c.args.out.now.items ++ chunks_bytes c.args.cookie (part_chunks c.args.read.now.offset c.args.read.now.runs c.args.read.now.bytes)) runs c.loop-run.invariant.items in
    let step : (if run.status == 0 then 28 + length c.split_at.result.0.now else 32) ≡ part_len run =
    ap (λ (n : ℕ). if run.status == 0 then 28 + n else 32) c.split_at.ensures.front_len in
    let room : vec_len c.loop-run.out + sum_by part_len (run ∷ others) ≤ vec_capacity c.loop-run.out =
    subst (λ (rs : List Run). vec_len c.loop-run.out + sum_by part_len rs ≤ vec_capacity c.loop-run.out) runs c.loop-run.invariant.room in
    let made : c.put_part.new.out.items ≡ c.loop-run.out.items ++ chunk_bytes c.is_empty.result c.args.cookie (if run.status == 0 then offset_data offset (take run.length bytes) else offset_hole offset (length (take run.length bytes))) =
    c.put_part.ensures.items
    ∙ ap (λ (p : List ℕ). c.loop-run.out.items ++ chunk_bytes c.is_empty.result c.args.cookie (if run.status == 0 then offset_data offset p else offset_hole offset (length p))) front in
    record {
      parts = subst (λ (bs : List ℕ). PartsBytes others bs) (sym behind) parts.3;
      most = omega (arith, ap length behind, length-drop run.length bytes, c.loop-run.invariant.most);
      inside = omega (arith, ap length behind, length-drop run.length bytes, c.loop-run.invariant.inside, parts.1, c.from-offset.ensures);
      room = omega (arith, c.put_part.ensures.len, c.put_part.ensures.room, step, sum_by-cons part_len run others, room);
      items = ap (λ (chunks : List Chunk). c.put_part.new.out.items ++ chunks_bytes c.args.cookie chunks) rest
          ∙ part_items c.args.cookie offset run others bytes c.loop-run.out.items c.put_part.new.out.items c.is_empty.result parts.1 c.is_empty.ensures made ∙ old;
    }
