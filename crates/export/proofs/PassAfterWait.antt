-- What a pass knows that looks while it waits.
use Rattle.std.proofs.Common.{◌≡◌, ◌≤◌, ◌∙◌, inl, inr, ℕ, max, ap, refl, arith}
use mathlib.Core.List.{IsPrefix}
use Rattle.export.specs.inner.Submits.{IsWaitedFor}
use Rattle.marks.specs.Known.{PassState}
use Rattle.marks.specs.laws.Beginnings.{prefix_trans}
use Rattle.nbd_wire.specs.declared.error.Errno.TheVariants.{Io}
use Rattle.nbd_wire.specs.declared.message.Answer.TheVariants.{Done, Refused}

-- it knows no less than before, and has no command more
pub record IsLater (old new : PassState) : Type 0 where
  pub own : new.own ≡ old.own
  pub client : new.client ≡ old.client
  pub knew : IsPrefix old.history new.history
  pub lasts : old.durable ≤ new.durable

-- it has looked at what is durable
pub looked : (old new : PassState) (durable : ℕ) → old.durable ≤ durable → IsPrefix old.history new.history → new ≡ record old { history = new.history; accepted = max old.accepted durable; durable = durable }
    → IsLater old new
looked old new durable known seen is = record { own = ap (λ (p : PassState). p.own) is; client = ap (λ (p : PassState). p.client) is; knew = seen; lasts = let same = ap (λ (p : PassState). p.durable) is in omega (arith, known, same) }

pub then : (old mid new : PassState) → IsLater old mid → IsLater mid new → IsLater old new
then old mid new first second = record {
  own = second.own ∙ first.own;
  client = second.client ∙ first.client;
  knew = prefix_trans old.history mid.history new.history first.knew second.knew;
  lasts = let before = first.lasts in let after = second.lasts in omega (arith, before, after);
}

-- it has found its number durable
pub found : (number durable : ℕ) (old mid new : PassState) → IsLater old new → new ≡ record mid { history = new.history; accepted = max mid.accepted durable; durable = durable } → number ≤ durable
    → IsWaitedFor number old new Done
found number durable old mid new later is reached = record {
  answered = inl refl;
  done = λ done. let same = ap (λ (p : PassState). p.durable) is in omega (arith, reached, same);
  own = later.own;
  client = later.client;
  knew = later.knew;
  lasts = later.lasts;
}

-- it waits in vain
pub refused : (number : ℕ) (old new : PassState) → IsLater old new → IsWaitedFor number old new (Refused Io)
refused number old new later = record { answered = inr refl; done = λ done. absurd (undone done); own = later.own; client = later.client; knew = later.knew; lasts = later.lasts }
  where
    undone : Refused Io ≡ Done → ⊥
    undone is = cc
