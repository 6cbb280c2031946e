use Rattle.negotiation.specs.Answered.{Offer}
use Rattle.std.proofs.Common.{◌≡◌, ℕ, ◌+◌, ◌-◌, ◌≤◌, ◌++◌, length, arith, sym, subst, ap}
use Rattle.std.specs.Prelude.{IfOk}
use Rattle.std.proofs.lemmas.Result.{IfOk-weaker}
use Rattle.negotiation.specs.Dialog.{Standing, in_discard}
use Rattle.negotiation.specs.Session.{standing_of}
use Rattle.negotiation.specs.inner.Session.{IsLongPart, IsPart, Step, TakesFlags, wanted_of, Advances, state_of}
use Rattle.negotiation.specs.declared.stage.Stage.{Stage}
use Rattle.negotiation.specs.declared.stage.Stage.TheVariants as stages
use Rattle.negotiation.specs.declared.stage.Talk.{Talk}
use Rattle.negotiation.specs.laws.Dialogs.{data_advances, discard_advances, flags_advances, head_advances, session_at}
use Rattle.negotiation.proofs.Sessions.{advances_nothing, idle}
use Rattle.negotiation.proofs.session.advance.Goals as goal

pub returns-in-Flags-clause-advances : goal.returns-in-Flags-clause-advances
returns-in-Flags-clause-advances c =
    let agreed = c.args.talk.agreed in
    let before = c.args.out.now.items in
    subst (λ (s : Standing). IfOk c.take_flags.result (λ (new : Talk). Advances (session_at c.args.offer.now agreed s) c.args.front.now before before (state_of c.args.offer.now new))) (sym (ap standing_of c.in-Flags.is))
    (IfOk-weaker c.take_flags.result (λ (new : Talk). TakesFlags agreed (c.in-Flags.bytes.items ++ c.args.front.now) new.agreed (standing_of new.stage))
    (λ (new : Talk). Advances (session_at c.args.offer.now agreed (standing_of (stages.Flags c.in-Flags.bytes))) c.args.front.now before before (state_of c.args.offer.now new))
    (λ new takes. flags_advances c.args.offer.now agreed c.in-Flags.bytes.items c.args.front.now before new takes)
    c.take_flags.ensures.takes)

pub returns-in-Head-clause-advances : goal.returns-in-Head-clause-advances
returns-in-Head-clause-advances c =
    let agreed = c.args.talk.agreed in
    let before = c.args.out.now.items in
    let after = c.take_head.new.out.items in
    subst (λ (s : Standing). IfOk c.take_head.result (λ (new : Talk). Advances (session_at c.args.offer.now agreed s) c.args.front.now before after (state_of c.args.offer.now new))) (sym (ap standing_of c.in-Head.is))
    (IfOk-weaker c.take_head.result (Step agreed c.args.offer.now (λ text. text ≡ c.in-Head.bytes.items ++ c.args.front.now) before after)
    (λ (new : Talk). Advances (session_at c.args.offer.now agreed (standing_of (stages.Head c.in-Head.bytes))) c.args.front.now before after (state_of c.args.offer.now new))
    (λ new step. head_advances c.args.offer.now agreed c.args.front.now before after new c.in-Head.bytes.items step)
    c.take_head.ensures.takes)

pub returns-in-Data-clause-advances : goal.returns-in-Data-clause-advances
returns-in-Data-clause-advances c =
    let agreed = c.args.talk.agreed in
    let before = c.args.out.now.items in
    let after = c.take_data.new.out.items in
    subst (λ (s : Standing). IfOk c.take_data.result (λ (new : Talk). Advances (session_at c.args.offer.now agreed s) c.args.front.now before after (state_of c.args.offer.now new))) (sym (ap standing_of c.in-Data.is))
    (IfOk-weaker c.take_data.result (Step agreed c.args.offer.now (IsPart c.in-Data.head.option c.in-Data.head.length (c.in-Data.bytes.items ++ c.args.front.now)) before after)
    (λ (new : Talk). Advances (session_at c.args.offer.now agreed (standing_of (stages.Data c.in-Data.head c.in-Data.bytes))) c.args.front.now before after (state_of c.args.offer.now new))
    (λ new step. data_advances c.args.offer.now agreed c.args.front.now before after new c.in-Data.head.option c.in-Data.head.length c.in-Data.bytes.items step)
    c.take_data.ensures.takes)

pub returns-in-Discard-clause-advances : goal.returns-in-Discard-clause-advances
returns-in-Discard-clause-advances c =
    let agreed = c.args.talk.agreed in
    let before = c.args.out.now.items in
    let after = c.discard.new.out.items in
    let option = c.in-Discard.option in
    let missing = c.in-Discard.missing in
    let left = missing - length c.args.front.now in
    let within : length c.args.front.now ≤ missing = subst (λ (stage : Stage). length c.args.front.now ≤ wanted_of stage) c.in-Discard.is c.requires.wanted in
    let parts : length c.args.front.now + left ≡ missing = omega (arith, within) in
    subst (λ (s : Standing). IfOk c.discard.result (λ (new : Talk). Advances (session_at c.args.offer.now agreed s) c.args.front.now before after (state_of c.args.offer.now new))) (sym (ap standing_of c.in-Discard.is))
    (IfOk-weaker c.discard.result (λ (new : Talk). (offer : Offer) → Step agreed offer (IsLongPart option left) before after new)
    (λ (new : Talk). Advances (session_at c.args.offer.now agreed (in_discard option missing)) c.args.front.now before after (state_of c.args.offer.now new))
    (λ new step. discard_advances c.args.offer.now agreed c.args.front.now before after new option missing left parts (step c.args.offer.now))
    c.discard.ensures.takes)

pub returns-in_default : goal.returns-in_default
returns-in_default c = record {
  sound = c.requires.sound;
  advances = advances_nothing (state_of c.args.offer.now c.args.talk) c.args.front.now c.args.out.now.items (wanted_of c.args.talk.stage) c.requires.wanted
      (idle c.args.talk.stage c.in_default.not-Flags c.in_default.not-Head c.in_default.not-Data c.in_default.not-Discard);
  err = tt;
}
