use Rattle.std.proofs.Common.{◌≡◌, List, [], Some, None, take, rules, sym, subst, ap, ◌∙◌, refl}
use Rattle.std.specs.List.{position}
use Rattle.nbd_wire.specs.Request.{Message}
use Rattle.negotiation.specs.Dialog.{HasNoDisc, ended, in_requests, is_disc}
use Rattle.negotiation.specs.inner.Session.{Hands}
use Rattle.negotiation.specs.laws.Requests.{found_place, hands_disc, hands_none, no_place, none_before_first}
use Rattle.negotiation.proofs.Sessions.{end_from}
use Rattle.negotiation.proofs.session.ask.Goals as goal

pub returns-in-Err-clause-hands : goal.returns-in-Err-clause-hands
returns-in-Err-clause-hands g c = hands_none c.args.reader c.feed.new.self c.args.piece.now [] c.in-Err.ensures.stream refl

pub returns-in-Some-clause-hands : goal.returns-in-Some-clause-hands
returns-in-Some-clause-hands g c =
    let place : position is_disc c.in-Ok.requests.items ≡ Some c.in-Some.place = ap (position is_disc) (sym c.deref.ensures.value) ∙ sym c.disc_place.ensures ∙ c.in-Some.is in
    let found = found_place is_disc c.in-Ok.requests.items c.in-Some.place place in
    let before : c.truncate.new.self.items ≡ take c.in-Some.place c.in-Ok.requests.items = search rules in
    subst (λ (r : List Message). Hands (in_requests c.args.reader) c.args.piece.now r ended) (sym found.1 ∙ sym before)
    (hands_disc c.args.reader c.feed.new.self c.args.piece.now c.in-Ok.requests.items c.in-Ok.ensures.stream found.0)

pub returns-in-Some-clause-no_disc : goal.returns-in-Some-clause-no_disc
returns-in-Some-clause-no_disc g c =
    let place : position is_disc c.in-Ok.requests.items ≡ Some c.in-Some.place = ap (position is_disc) (sym c.deref.ensures.value) ∙ sym c.disc_place.ensures ∙ c.in-Some.is in
    let found = found_place is_disc c.in-Ok.requests.items c.in-Some.place place in
    let before : c.truncate.new.self.items ≡ take c.in-Some.place c.in-Ok.requests.items = search rules in
    subst HasNoDisc (sym found.1 ∙ sym before) (none_before_first is_disc c.in-Ok.requests.items)

pub returns-in-Some-clause-again : goal.returns-in-Some-clause-again
returns-in-Some-clause-again g c = λ end is.
    let found = end_from c.args.reader end is in cc (c.in-Ok.ensures.again found.0 found.1)

pub returns-in-None-clause-hands : goal.returns-in-None-clause-hands
returns-in-None-clause-hands g c =
    let place : position is_disc c.in-Ok.requests.items ≡ None = ap (position is_disc) (sym c.deref.ensures.value) ∙ sym c.disc_place.ensures ∙ c.in-None.is in
    hands_none c.args.reader c.feed.new.self c.args.piece.now c.in-Ok.requests.items c.in-Ok.ensures.stream (no_place is_disc c.in-Ok.requests.items place)

pub returns-in-None-clause-no_disc : goal.returns-in-None-clause-no_disc
returns-in-None-clause-no_disc g c =
    let place : position is_disc c.in-Ok.requests.items ≡ None = ap (position is_disc) (sym c.deref.ensures.value) ∙ sym c.disc_place.ensures ∙ c.in-None.is in
    no_place is_disc c.in-Ok.requests.items place

pub returns-in-None-clause-again : goal.returns-in-None-clause-again
returns-in-None-clause-again g c = λ end is.
    let found = end_from c.args.reader end is in cc (c.in-Ok.ensures.again found.0 found.1)

pub returns-in-None-clause-first : goal.returns-in-None-clause-first
returns-in-None-clause-first g c = λ end is.
    let found = end_from c.feed.new.self end is in c.in-Ok.ensures.first found.0 found.1
