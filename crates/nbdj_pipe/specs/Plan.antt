use Rattle.std.specs.Prelude.{ℕ, ◌≡◌}
use Rattle.front_end.specs.declared.pipe_options.PipeOptions.{PipeOptions}
use Rattle.front_end.specs.declared.plan.Plan.{Plan}
use Rattle.front_end.specs.declared.plan.Plan.TheVariants.{Format, Import, Export, Pipe, Serve, Status, Recover, Upgrade, Check, Rehearse, Refuse}
use Rattle.image_model.specs.Geometry.{device_bytes_of}
use Rattle.image_model.specs.declared.geometry.Geometry.{Geometry}

-- a device of this size can be worked on as the plan says; the plan of a script has no device, those of a server and of
-- transfers are carried out elsewhere, and what is refused has none
abbrev pub Suits : Plan → ℕ → Type 0
Suits (Format path geometry options) extent = extent ≡ device_bytes_of geometry.blocks geometry.area
Suits (Import source path sizes options) extent = ⊥
Suits (Export path target replaces) extent = ⊥
Suits (Pipe path options) extent = Unit {0}
Suits (Serve path addresses status name options) extent = ⊥
Suits (Status socket form) extent = ⊥
Suits (Recover path is_json) extent = Unit {0}
Suits (Upgrade path) extent = Unit {0}
Suits (Check path is_json is_deep) extent = Unit {0}
Suits (Rehearse course) extent = ⊥
Suits (Refuse path refusal) extent = ⊥

-- what a plan that serves a connection comes to, by its options
abbrev pub IfPipe : Plan → (PipeOptions → Type 0) → Type 0
IfPipe (Format path geometry options) P = Unit {0}
IfPipe (Import source path sizes options) P = Unit {0}
IfPipe (Export path target replaces) P = Unit {0}
IfPipe (Pipe path options) P = P options
IfPipe (Serve path addresses status name options) P = Unit {0}
IfPipe (Status socket form) P = Unit {0}
IfPipe (Recover path is_json) P = Unit {0}
IfPipe (Upgrade path) P = Unit {0}
IfPipe (Check path is_json is_deep) P = Unit {0}
IfPipe (Rehearse course) P = Unit {0}
IfPipe (Refuse path refusal) P = Unit {0}

-- what a plan that only reads the device comes to
abbrev pub IfCheck : Plan → Type 0 → Type 0
IfCheck (Format path geometry options) P = Unit {0}
IfCheck (Import source path sizes options) P = Unit {0}
IfCheck (Export path target replaces) P = Unit {0}
IfCheck (Pipe path options) P = Unit {0}
IfCheck (Serve path addresses status name options) P = Unit {0}
IfCheck (Status socket form) P = Unit {0}
IfCheck (Recover path is_json) P = Unit {0}
IfCheck (Upgrade path) P = Unit {0}
IfCheck (Check path is_json is_deep) P = P
IfCheck (Rehearse course) P = Unit {0}
IfCheck (Refuse path refusal) P = Unit {0}

-- what a plan that formats a device comes to, by the sizes
abbrev pub IfFormat : Plan → (Geometry → Type 0) → Type 0
IfFormat (Format path geometry options) P = P geometry
IfFormat (Import source path sizes options) P = Unit {0}
IfFormat (Export path target replaces) P = Unit {0}
IfFormat (Pipe path options) P = Unit {0}
IfFormat (Serve path addresses status name options) P = Unit {0}
IfFormat (Status socket form) P = Unit {0}
IfFormat (Recover path is_json) P = Unit {0}
IfFormat (Upgrade path) P = Unit {0}
IfFormat (Check path is_json is_deep) P = Unit {0}
IfFormat (Rehearse course) P = Unit {0}
IfFormat (Refuse path refusal) P = Unit {0}

-- what a plan that recovers a device comes to
abbrev pub IfRecover : Plan → Type 0 → Type 0
IfRecover (Format path geometry options) P = Unit {0}
IfRecover (Import source path sizes options) P = Unit {0}
IfRecover (Export path target replaces) P = Unit {0}
IfRecover (Pipe path options) P = Unit {0}
IfRecover (Serve path addresses status name options) P = Unit {0}
IfRecover (Status socket form) P = Unit {0}
IfRecover (Recover path is_json) P = P
IfRecover (Upgrade path) P = Unit {0}
IfRecover (Check path is_json is_deep) P = Unit {0}
IfRecover (Rehearse course) P = Unit {0}
IfRecover (Refuse path refusal) P = Unit {0}

-- what a plan that makes a device one of layout 2 comes to
abbrev pub IfUpgrade : Plan → Type 0 → Type 0
IfUpgrade (Format path geometry options) P = Unit {0}
IfUpgrade (Import source path sizes options) P = Unit {0}
IfUpgrade (Export path target replaces) P = Unit {0}
IfUpgrade (Pipe path options) P = Unit {0}
IfUpgrade (Serve path addresses status name options) P = Unit {0}
IfUpgrade (Status socket form) P = Unit {0}
IfUpgrade (Recover path is_json) P = Unit {0}
IfUpgrade (Upgrade path) P = P
IfUpgrade (Check path is_json is_deep) P = Unit {0}
IfUpgrade (Rehearse course) P = Unit {0}
IfUpgrade (Refuse path refusal) P = Unit {0}
