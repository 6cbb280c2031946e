use Rattle.std.proofs.Common.{◌≡◌, List, ◌⊎◌, ◌≤◌, ◌<◌, ◌∙◌, Bool, false, true, get_or, leb, inl, inr, ℕ, ap, subst, sym, arith}
use Rattle.std.proofs.Math.ListN.{replicate}
use Rattle.std.proofs.lemmas.Bool.Decides.{leb_tells}
use Rattle.std.proofs.lemmas.List.{get_or-replicate, get_or_past, length-replicate}
use Rattle.server.specs.Sessions.{AreServed, HasCall}
use Rattle.std.proofs.lemmas.Grind.{merely}
use Rattle.export_model.specs.OneLog.{Call}
use Rattle.server.proofs.session_pass.LastSessionPass.new.Goals as goal

-- no place of the list is marked
unmarked : (n by : ℕ) → get_or (replicate n false) by false ≡ false
unmarked n by = by_case (leb_tells n by)
  where
    by_case : ((leb n by ≡ true) × (n ≤ by)) ⊎ ((leb n by ≡ false) × (by < n)) → get_or (replicate n false) by false ≡ false
    by_case (inl past) = get_or_past (replicate n false) by false (omega (arith, length-replicate n false, past.1))
    by_case (inr inside) = get_or-replicate n by false false inside.1

true_not_false : true ≡ false → ⊥
true_not_false is = cc

pub invariant_of-result : goal.invariant_of-result
invariant_of-result g c = record {
  made_few = c.requires.few;
  roster = c.requires.made;
  has = λ by marked. absurd (true_not_false (sym marked ∙ unmarked 257 by));
  served = merely (subst (λ (calls : List Call). AreServed g.B.ServerName.offer g.B.ExportName.geometry g.B.ServerName.several calls) (sym c.requires.none) tt);
}
