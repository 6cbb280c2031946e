use Rattle.image_model.specs.laws.DirtyMaps.{get-dirty_blocks}
use Rattle.order_book.specs.Order.{new_order}
use Rattle.order_book.proofs.Maps.{dirty-fold}
use Rattle.order_book.proofs.laws.dirty_blocks_law.Goals as goal

pub returns : goal.returns
returns c = record {
  accepted = λ states opening frames area commands. dirty-fold (new_order states opening frames area) commands;
  last_touch = get-dirty_blocks;
}
