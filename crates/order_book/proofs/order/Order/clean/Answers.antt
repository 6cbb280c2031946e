use Rattle.std.proofs.Common.{◌≤◌, nat_lt, sym, subst}
use Rattle.std.specs.List.{All}
use Rattle.std.proofs.lemmas.List.Elements.{All-filter}
use Rattle.shared_cache.specs.Blocks.{DirtyBlock}
use Rattle.shared_cache.specs.Cache.{CacheState}
use Rattle.order_book.proofs.order.Order.clean.Goals as goal

pub invariant_of-self : goal.invariant_of-self
invariant_of-self g c =
    let Below = λ (held : DirtyBlock). held.number ≤ c.self.inside.mark in
    record {
      numbers = record {
        pending = c.self.invariant.numbers.pending;
        backlog = c.self.invariant.numbers.backlog;
        history = c.self.invariant.numbers.history;
        opened = c.self.invariant.numbers.opened;
        mark = c.self.invariant.numbers.mark;
      };
      named = c.self.invariant.named;
      shown = c.self.invariant.shown;
      backlog = c.self.invariant.backlog;
      small = c.self.invariant.small;
      area = c.self.invariant.area;
      dirty = subst (λ (cache : CacheState). All Below cache.blocks.dirty) (sym c.clean_through.ensures.after)
          (All-filter (λ (held : DirtyBlock). nat_lt c.base.result held.number) Below c.self.inside.cache.blocks.dirty c.self.invariant.dirty);
      kept = c.self.invariant.kept;
    }
