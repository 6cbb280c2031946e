use Rattle.std.proofs.Common.{◌≡◌, ◌++◌}
use Rattle.std.proofs.lemmas.Result.{IfOk-from_err}
use Rattle.journal_format.specs.Spelling.{group_head}
use Rattle.journal.proofs.Heads.{three_appended}
use Rattle.journal.proofs.group.spell_group_head.Goals as goal

pub returns-in_err-extend_from_slice : goal.returns-in_err-extend_from_slice
returns-in_err-extend_from_slice c = IfOk-from_err c.from_residual.result _ c.from_residual.ensures.0

pub returns-in_err-extend_from_slice-2 : goal.returns-in_err-extend_from_slice-2
returns-in_err-extend_from_slice-2 c = IfOk-from_err c.from_residual-in_err-extend_from_slice-2.result _ c.from_residual-in_err-extend_from_slice-2.ensures.0

pub returns : goal.returns
unfolding group_head
returns c =
    let parts : group_head c.args.body c.args.first c.args.count ≡ c.to_be_bytes.result ++ (c.to_be_bytes-2.result ++ c.to_be_bytes-3.result) =
    simp (c.to_be_bytes.ensures, c.to_be_bytes-2.ensures, c.to_be_bytes-3.ensures) in
    three_appended c.extend_from_slice-3.result c.args.buffer.now.items _ _ _ _ _ _ _ c.in_ok-extend_from_slice.ensures.items c.in_ok-extend_from_slice-2.ensures.items c.extend_from_slice-3.ensures.items parts
