use Rattle.std.proofs.Common.{◌≡◌, ℕ, List, ◌++◌, OnOk, subst}
use Rattle.nbd_wire.specs.Head.{simple_reply}
use Rattle.nbdj_pipe.specs.Talk.{error_of, reply_to}
use Rattle.nbdj_pipe.proofs.session.append_reply.Goals as goal

pub returns-clause-ok : goal.returns-clause-ok
unfolding reply_to
returns-clause-ok c =
    let result = c.encode_simple_reply.result in
    let old = c.args.replies.now.items in
    let new = c.encode_simple_reply.new.out.items in
    subst (λ (bytes : List ℕ). OnOk result (new ≡ old ++ simple_reply (error_of c.args.answer.now) c.args.cookie bytes)) c.data.ensures
    (subst (λ (error : ℕ). OnOk result (new ≡ old ++ simple_reply error c.args.cookie c.data.result.now)) c.error_number.ensures c.encode_simple_reply.ensures.ok)
