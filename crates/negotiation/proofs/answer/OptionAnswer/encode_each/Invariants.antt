use Rattle.std.proofs.Common.{◌≡◌, ◌++◌, take}
use Rattle.negotiation.specs.Answered.{replies_bytes}
use Rattle.negotiation.proofs.answer.OptionAnswer.encode_each.Given as goal

abbrev pub invariant-loop-reply : goal.invariant-loop-reply
invariant-loop-reply l = l.out.items ≡ l.fn.out.items ++ replies_bytes l.option (take l.reply-index l.self.replies)
