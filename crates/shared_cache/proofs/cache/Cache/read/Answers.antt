use Rattle.std.proofs.Common.{◌≡◌, ℕ, Some, replicate, refl, ap, ◌∙◌, sym}
use Rattle.alloc_map.specs.Codes.{state_at}
use Rattle.image_model.specs.declared.command.Kind.TheVariants.{Zero, Hole}
use Rattle.shared_cache.specs.Cache.{CacheState, bytes_seen}
use Rattle.shared_cache.proofs.cache.Cache.read.Goals as goal

zero_seen : (cache : CacheState) (block : ℕ) → state_at cache.states block ≡ Zero → Some (replicate 4096 0) ≡ bytes_seen cache block
zero_seen cache block is = rw is refl

hole_seen : (cache : CacheState) (block : ℕ) → state_at cache.states block ≡ Hole → Some (replicate 4096 0) ≡ bytes_seen cache block
hole_seen cache block is = rw is refl

pub returns-in-Zero : goal.returns-in-Zero
returns-in-Zero c =
    zero_seen c.args.self.now c.args.block (ap (λ (cache : CacheState). state_at cache.states c.args.block) (sym c.self.view_is) ∙ sym c.state.ensures ∙ c.in-Zero.is)

pub returns-in-Hole : goal.returns-in-Hole
returns-in-Hole c =
    hole_seen c.args.self.now c.args.block (ap (λ (cache : CacheState). state_at cache.states c.args.block) (sym c.self.view_is) ∙ sym c.state.ensures ∙ c.in-Hole.is)
