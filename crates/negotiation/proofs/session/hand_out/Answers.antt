use Rattle.std.proofs.Common.{List, [], refl, sym, subst, ap, arith}
use Rattle.nbd_wire.specs.Request.{Message}
use Rattle.negotiation.specs.Dialog.{HasNoDisc, Standing, broken, exhausted}
use Rattle.negotiation.specs.Session.{standing_of}
use Rattle.negotiation.specs.inner.Session.{Hands}
use Rattle.negotiation.proofs.Sessions.{goes_on_still, hands_broken, hands_exhausted, hands_still, held_still}
use Rattle.negotiation.proofs.session.hand_out.Goals as goal

pub returns-in-Broken-clause-hands : goal.returns-in-Broken-clause-hands
returns-in-Broken-clause-hands g c =
    subst (λ (s : Standing). Hands s c.args.rest.now [] broken) (sym (ap standing_of c.in-Broken.is)) (hands_broken c.args.rest.now)

pub returns-in-Exhausted-clause-hands : goal.returns-in-Exhausted-clause-hands
returns-in-Exhausted-clause-hands g c =
    subst (λ (s : Standing). Hands s c.args.rest.now [] exhausted) (sym (ap standing_of c.in-Exhausted.is)) (hands_exhausted c.args.rest.now)

pub returns-in_default : goal.returns-in_default
returns-in_default g c = record {
  sound = c.requires.sound;
  hands = subst (λ (r : List Message). Hands (standing_of c.args.stage) c.args.rest.now r (standing_of c.args.stage)) (sym c.new.ensures.items)
      (hands_still c.args.stage c.args.rest.now c.requires.sound c.requires.all c.in_default.not-Requests);
  fault = tt;
  again = λ end is. absurd (goes_on_still c.args.stage end c.in_default.not-Requests c.in_default.not-Broken c.in_default.not-Exhausted is);
  first = λ end is. absurd (goes_on_still c.args.stage end c.in_default.not-Requests c.in_default.not-Broken c.in_default.not-Exhausted is);
  no_disc = subst HasNoDisc (sym c.new.ensures.items) refl;
  asks = λ some. absurd (omega (arith, some, c.new.ensures.len));
  held = held_still c.args.stage c.requires.sound c.in_default.not-Requests;
}
