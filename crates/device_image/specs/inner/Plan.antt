-- Definitions for contracts between functions of this crate, next to those of `Plan`.
use Rattle.image_model.specs.declared.command.Kind.{Kind}
use Rattle.image_model.specs.declared.command.Kind.TheVariants.{Data}
use Rattle.latest_writes.specs.declared.touch.LastTouch.{LastTouch}
use Rattle.latest_writes.specs.declared.touch.LastTouch.TheVariants as last

-- the state that a touch gives to its blocks
abbrev pub kind_given : LastTouch → Kind
kind_given (last.Put place) = Data
kind_given (last.Clear kind) = kind
