use Rattle.std.proofs.Common.{◌≡◌, ◌++◌, ap, refl, rules, ◌∙◌}
use Rattle.negotiation.specs.inner.Session.{wanted_of, state_of}
use Rattle.negotiation.specs.declared.stage.Talk.{Talk}
use Rattle.negotiation.specs.laws.Dialogs.{Runs-next, Runs-start}
use Rattle.negotiation.proofs.session.negotiate.Goals as goal

pub loop-alloc-init : goal.loop-alloc-init
loop-alloc-init c = record {
  sound = c.requires;
  runs = Runs-start (state_of c.args.offer.now c.args.talk) c.args.piece.now c.args.out.now.items;
  still = λ none. (refl, refl, refl);
}

pub loop-alloc-preserved : goal.loop-alloc-preserved
loop-alloc-preserved c =
    let parts : c.loop-alloc.rest.now ≡ c.split_at.result.0.now ++ c.split_at.result.1.now = search rules in
    record {
      sound = c.in_ok-talk.ensures.sound;
      runs = Runs-next (state_of c.args.offer.now c.args.talk) (state_of c.args.offer.now c.loop-alloc.talk) (state_of c.args.offer.now c.in_ok-talk.talk) c.args.piece.now c.loop-alloc.rest.now c.split_at.result.0.now c.split_at.result.1.now
          c.args.out.now.items c.loop-alloc.out.items c.advance.new.out.items refl c.loop-alloc.invariant.runs parts c.in_ok-talk.ensures.advances;
      still = λ none. absurd (c.if-wanted-eq0.false (c.wanted-wanted.ensures ∙ ap (λ (t : Talk). wanted_of t.stage) (c.loop-alloc.invariant.still none).0 ∙ none));
    }
