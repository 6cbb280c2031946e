-- Definitions for contracts between functions of this crate, next to those of `Slots`.
use Rattle.std.specs.Prelude.{ℕ, List, Result, Ok, Err}
use Rattle.header_slots.specs.declared.fault.HeaderFault.{HeaderFault}
use Rattle.header_slots.specs.declared.fault.HeaderFault.TheVariants.{DeviceFault, NoHeader, BadHeader}
use Rattle.image_model.specs.declared.side.Side.{Side}
use Rattle.header_slots.specs.Slots.{IsOpen, IsInForce, AreEqual}

-- which slot a choice names
abbrev pub IsChoice : List ℕ → Result Side HeaderFault → Type 0
IsChoice content (Ok slot) = IsInForce content slot
IsChoice content (Err NoHeader) = (slot : Side) → ¬ (IsOpen content slot)
IsChoice content (Err BadHeader) = AreEqual content
IsChoice content (Err DeviceFault) = ⊥
