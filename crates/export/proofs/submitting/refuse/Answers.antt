use Rattle.std.proofs.Common.{◌≡◌, ◌≢◌, ◌∙◌, ap, subst, sym, Result, rules}
use Rattle.export.proofs.RefusedUndone.{error_judged, io_judged, served_judged}
use Rattle.export.specs.Submits.{IsJudged}
use Rattle.export_model.specs.Verdict.{verdict}
use Rattle.export_model.specs.declared.action.Action.{Action}
use Rattle.nbd_wire.specs.declared.error.Errno.{Errno}
use Rattle.nbd_wire.specs.declared.head.RequestHead.{RequestHead}
use Rattle.nbd_wire.specs.declared.message.Answer.TheVariants.{Refused}
use Rattle.request_core.specs.Serving.{ready_for}
use Rattle.export.proofs.submitting.refuse.Goals as goal
use Rattle.export.proofs.submitting.refuse.Goals.{in-Ok-Serve, in-Ok-Serve-2, in-Err}

pub returns : goal.returns
returns c =
    let request = c.args.request.now in let geometry = c.args.terms.now.geometry in let flags = c.args.terms.now.flags in
    let given : Result Action Errno = verdict request.head geometry flags in
    let is : c.judge.result ≡ given = c.judge.ensures.verdict ∙ ap (λ (h : RequestHead). verdict h geometry flags) c.head-head.ensures in record {
      errno = c.match-judge.errno;
      answer = ap (λ (h : RequestHead). ready_for h.cookie (Refused c.match-judge.errno)) c.head-head.ensures;
      judged = elim c.match-judge.branch [
        | in-Ok-Serve w ↦ subst (λ (e : Errno). IsJudged given request (Refused e)) (sym w.errno-is) (io_judged given request (sym is ∙ search rules))
        | in-Ok-Serve-2 w ↦
            subst (λ (e : Errno). IsJudged given request (Refused e)) (sym w.errno-is)
            (served_judged given request c.args.errno (sym is ∙ search rules) (subst (λ (h : RequestHead). h.kind ≢ 3) c.head-head.ensures (search rules)) c.requires.errors)
        | in-Err w ↦ subst (λ (e : Errno). IsJudged given request (Refused e)) (sym w.errno-is) (error_judged given request _ (sym is ∙ search rules))
      ];
    }
