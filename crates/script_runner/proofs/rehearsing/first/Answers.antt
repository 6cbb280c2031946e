use Rattle.script_runner.proofs.rehearsing.first.Goals as goal

pub invariant_of-result : goal.invariant_of-result
invariant_of-result g c = record { recovered = c.in-Ok.ensures.recovered; keeps = ∣ (λ _. c.in-Ok.ensures.keeps) ∣₁ }
