use Rattle.std.proofs.Common.{◌≡◌, length}
use Rattle.negotiation.specs.Session.{IsGreeted}
use Rattle.negotiation.specs.inner.Session.{wanted_of, Runs, state_of}
use Rattle.negotiation.proofs.session.negotiate.Given as goal

abbrev pub invariant-loop-alloc : goal.invariant-loop-alloc
invariant-loop-alloc l = record {
  sound : IsGreeted l.talk.stage;
  runs : Runs (state_of l.offer l.fn.talk) l.piece l.rest l.fn.out.items l.out.items (state_of l.offer l.talk);
  still : wanted_of l.fn.talk.stage ≡ 0 → (l.talk ≡ l.fn.talk) × (l.rest ≡ l.piece) × (l.out.items ≡ l.fn.out.items);
}

abbrev pub decreases-loop-alloc : goal.decreases-loop-alloc
decreases-loop-alloc l = length l.rest
