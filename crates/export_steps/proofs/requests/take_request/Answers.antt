use Rattle.std.proofs.Common.{◌≡◌, get_or, sym, ◌∙◌, ap, arith, ◌<◌, length, rules}
use Rattle.std.proofs.lemmas.List.{get_or_default, set-set, set-get_or}
use Rattle.std.proofs.Math.ListN.{set}
use Rattle.export_model.specs.declared.connection.Connection.TheVariants.{Closed}
use Rattle.export_steps.proofs.Serves.{request_none}
use Rattle.export_steps.proofs.requests.take_request.Goals as goal

-- what was taken out and isn't a request is put back
pub returns-in_default : goal.returns-in_default
returns-in_default c =
    let items = c.args.states.now.items in
    let place = c.args.connection in
    let below : place < length items = omega arith in
    let out = c.replace.ensures.value ∙ c.index_mut.ensures.value in
    let at : get_or items place Closed ≡ c.replace.result = get_or_default items place Closed c.index_mut.result.now below ∙ sym out in
    record {
      request = request_none (get_or items place Closed) (λ request is. c.in_default.not-Requested request (sym at ∙ is));
      within = tt;
      taken = tt;
      size = search rules;
      none = set-set items place c.replace.new.dest c.replace.result ∙ (ap (set items place) (sym at) ∙ set-get_or items place Closed);
    }
