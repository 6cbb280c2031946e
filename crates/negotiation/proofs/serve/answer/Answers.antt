use Rattle.negotiation.proofs.Answering.{encoded, writes_as, writes_failed, writes_none}
use Rattle.negotiation.proofs.serve.answer.Goals as goal

pub returns-in_err-bytes-clause-serves : goal.returns-in_err-bytes-clause-serves
returns-in_err-bytes-clause-serves g c = record {
  reply = c.reply_to-reply.result;
  step = c.reply_to-reply.ensures.step;
  writes = writes_none _ _ _ c.from_residual.result c.from_residual.ensures.0;
}

pub returns-in_err-write_after_due-clause-serves : goal.returns-in_err-write_after_due-clause-serves
returns-in_err-write_after_due-clause-serves g c =
    let result = c.from_residual-in_err-write_after_due.result in
    record {
      reply = c.reply_to-reply.result;
      step = c.reply_to-reply.ensures.step;
      writes = writes_failed _ _ _ _ result c.from_residual-in_err-write_after_due.ensures.0
          (writes_as _ _ _ _ _ _ (encoded c.args.flags.now c.args.request c.reply_to-reply.result c.head-head.result c.is_whole.result c.args.due.now.items _ c.head-head.ensures c.is_whole.ensures c.in_ok-bytes.ensures.ok) c.in_err-write_after_due.ensures);
    }

pub returns-clause-serves : goal.returns-clause-serves
returns-clause-serves g c = record {
  reply = c.reply_to-reply.result;
  step = c.reply_to-reply.ensures.step;
  writes = writes_as _ _ _ _ _ _ (encoded c.args.flags.now c.args.request c.reply_to-reply.result c.head-head.result c.is_whole.result c.args.due.now.items _ c.head-head.ensures c.is_whole.ensures c.in_ok-bytes.ensures.ok) c.in_ok-write_after_due.ensures;
}
