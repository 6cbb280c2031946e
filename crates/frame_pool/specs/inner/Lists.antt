-- one of the lists
use Rattle.std.specs.Prelude.{ℕ, List}
use Rattle.frame_pool.specs.declared.place.Place.{Place}
use Rattle.frame_pool.specs.declared.place.Place.TheVariants.{Free, Clean, Dirty}
use Rattle.frame_pool.specs.Lists.{ListsState}

abbrev pub list_at : ListsState → Place → List ℕ
list_at lists Free = lists.free
list_at lists Clean = lists.clean
list_at lists Dirty = lists.dirty
