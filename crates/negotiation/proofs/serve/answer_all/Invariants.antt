use Rattle.std.proofs.Common.{◌≡◌, ◌++◌, List, length}
use Rattle.std.specs.Prelude.{reverse}
use Rattle.negotiation.specs.Dialog.{HasNoDisc}
use Rattle.negotiation.specs.Talk.{Exchange, asked}
use Rattle.negotiation.proofs.Answering.{Answering}
use Rattle.negotiation.proofs.serve.answer_all.Given as goal

-- the first of the requests were answered
abbrev pub invariant-loop-request : goal.invariant-loop-request
invariant-loop-request g l = record {
  exchanges : List Exchange;
  going : Answering (g.S.Serve.allows l.export) l.flags l.fn.pass exchanges l.pass (g.W.Write.contents l.fn.output) (g.W.Write.contents l.output) l.due.items;
  whole : reverse l.initial.requests.items ≡ asked exchanges ++ reverse l.requests.items;
  no_disc : HasNoDisc l.requests.items;
}

abbrev pub decreases-loop-request : goal.decreases-loop-request
decreases-loop-request g l = length l.requests.items
