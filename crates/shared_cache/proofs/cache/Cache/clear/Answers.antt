use Rattle.std.proofs.Common.{rules}
use Rattle.shared_cache.specs.laws.Views.{shows_clear}
use Rattle.shared_cache.proofs.cache.Cache.clear.Goals as goal

pub returns-clause-view : goal.returns-clause-view
returns-clause-view c = shows_clear c.args.first c.args.count c.args.kind c.args.self.now _ c.requires.kind c.requires.range (search rules)
