-- A stream has one dialog, by the replies to its requests.
use Rattle.std.proofs.Common.{◌≡◌, List, [], ◌∷◌, ◌++◌, refl, sym, ◌∙◌}
use Rattle.nbd_wire.specs.Request.{Message}
use Rattle.negotiation.specs.laws.OneHearing.{one_hearing_lem}
use Rattle.negotiation.specs.Serving.{OneDialog, dialog}
use Rattle.negotiation.specs.Talk.{Exchange, answered, asked}

-- requests and replies are one list of exchanges
same_exchanges : (exchanges others : List Exchange) (unanswered left : List Message) → asked exchanges ++ unanswered ≡ asked others ++ left → answered exchanges ≡ answered others → (exchanges ≡ others) × (unanswered ≡ left)
same_exchanges [] [] unanswered left requests replies = (refl, requests)
same_exchanges [] (other ∷ others) unanswered left requests replies = absurd (cc replies)
same_exchanges (exchange ∷ exchanges) [] unanswered left requests replies = absurd (cc replies)
same_exchanges (exchange ∷ exchanges) (other ∷ others) unanswered left requests replies =
    let request : exchange.request ≡ other.request = cc requests in
    let reply : exchange.reply ≡ other.reply = cc replies in
    let more : asked exchanges ++ unanswered ≡ asked others ++ left = cc requests in
    let further : answered exchanges ≡ answered others = cc replies in
    let rest = same_exchanges exchanges others unanswered left more further in
    ((λ i. record { request = request i; reply = reply i } ∷ rest.0 i), rest.1)

pub one_dialog_lem : OneDialog
one_dialog_lem offer stream outcome other exchanges others unanswered left text same p q replies =
    let (turns, requests, agreed, standing) = one_hearing_lem offer stream p.turns q.turns outcome other p.hears q.hears in
    let both = same_exchanges exchanges others unanswered left (sym p.requests ∙ requests ∙ q.requests) replies in
    let texts : dialog p.turns outcome.agreed.flags exchanges ≡ dialog q.turns other.agreed.flags others = λ i. dialog (turns i) (agreed i).flags (both.0 i) in
    (both.0, both.1, p.whole ∙ texts ∙ sym q.whole)
