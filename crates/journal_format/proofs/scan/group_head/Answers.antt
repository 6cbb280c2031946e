use Rattle.std.proofs.Common.{ℕ, ◌<◌, slice_index, arith}
use Rattle.journal_format.specs.laws.Heads.{number_stands, group_head_stands}
use Rattle.journal_format.proofs.scan.group_head.Goals as goal

pub returns : goal.returns
returns c =
    let bytes = c.args.bytes.now in
    let fits : (k : ℕ) → slice_index bytes k < 256 = λ k. omega (arith, c.type_inv.bytes k) in
    group_head_stands bytes _ _ _
    (number_stands 4 1 bytes c.read_u32.result fits c.read_u32.ensures)
    (number_stands 8 5 bytes c.read_u64.result fits c.read_u64.ensures)
    (number_stands 4 13 bytes c.read_u32-2.result fits c.read_u32-2.ensures)
