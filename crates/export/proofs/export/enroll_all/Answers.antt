use Rattle.std.proofs.Common.{◌≡◌, ◌∙◌, ◌+◌, ℕ, suc, List, [], ◌∷◌, ◌++◌, ap, arith}
use Rattle.export.specs.Clients.{new_client_pass, new_client_passes}
use Rattle.export_model.specs.OneLog.{RosterState}
use Rattle.marks.specs.Known.{PassState}
use Rattle.export.proofs.export.enroll_all.Goals as goal

-- what a push of one more client's pass leaves
one_more : (opening count : ℕ) (made : PassState) (passes after : List PassState) → made ≡ new_client_pass opening count → passes ≡ new_client_passes opening count → after ≡ passes ++ made ∷ []
    → after ≡ new_client_passes opening (count + 1)
one_more opening count made passes after made_is passes_are after_is =
    let next : suc count ≡ count + 1 = omega arith in
    (after_is ∙ (λ i. passes_are i ++ made_is i ∷ [])) ∙ ap (new_client_passes opening) next

pub loop-preserved : goal.loop-preserved
loop-preserved g c =
    let loop = c.loop.invariant in record {
      roster = c.enroll.ensures.roster ∙ ap (λ (r : RosterState). record r { made = r.made + 1 }) loop.roster;
      passes = one_more g.B.BoardName.opening c.loop.counter c.enroll.result c.loop.passes.items _ (c.enroll.ensures.pass ∙ ap (λ (r : RosterState). new_client_pass g.B.BoardName.opening r.made) loop.roster) loop.passes c.in_ok-push.ensures.items;
    }
