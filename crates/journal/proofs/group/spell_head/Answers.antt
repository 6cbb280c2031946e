use Rattle.std.proofs.Common.{◌≡◌, ◌++◌, ◌∷◌, []}
use Rattle.std.proofs.lemmas.Result.{IfOk-from_err}
use Rattle.journal_format.specs.Spelling.{change_head}
use Rattle.journal.proofs.Heads.{three_appended}
use Rattle.journal.proofs.group.spell_head.Goals as goal

pub returns-in_err-push : goal.returns-in_err-push
returns-in_err-push c = IfOk-from_err c.from_residual.result _ c.from_residual.ensures.0

pub returns-in_err-extend_from_slice : goal.returns-in_err-extend_from_slice
returns-in_err-extend_from_slice c = IfOk-from_err c.from_residual-in_err-extend_from_slice.result _ c.from_residual-in_err-extend_from_slice.ensures.0

pub returns : goal.returns
unfolding change_head
returns c =
    let parts : change_head c.args.kind c.args.first c.args.blocks ≡ (c.args.kind ∷ []) ++ (c.to_be_bytes.result ++ c.to_be_bytes-2.result) =
    simp (c.to_be_bytes.ensures, c.to_be_bytes-2.ensures) in
    three_appended c.extend_from_slice-2.result c.args.buffer.now.items _ _ _ _ _ _ _ c.in_ok-push.ensures.items c.in_ok-extend_from_slice.ensures.items c.extend_from_slice-2.ensures.items parts
