use Rattle.std.proofs.Common.{sym, subst}
use Rattle.shared_cache.specs.Cache.{CacheState}
use Rattle.order_book.specs.Shown.{ShowsImage}
use Rattle.order_book.proofs.CacheShowsImage.{shows_fresh}
use Rattle.order_book.proofs.order.Order.new.Goals as goal

pub returns-clause-image : goal.returns-clause-image
returns-clause-image g c = λ image same zeros.
    subst (λ (cache : CacheState). ShowsImage image cache) (sym c.in_ok-cache.ensures) (shows_fresh image c.args.map c.args.frames same zeros)
