-- Which plan a command line asks for. The values that a subcommand was given are clap's: the words', and for an option
-- that is left out its default.
use Rattle.std.specs.Prelude.{ℕ, Bool, true, false, ◌≡◌, ◌≢◌, ◌≤◌, ◌<◌, ◌%◌, ◌⊎◌, ◌*◌, Option, Some, None, List, [], codes, option_map, ◌++◌, All, map, unwrap_or}
use Rattle.std.specs.Str.Parse.{IsNumeral, digits_value, without_leading_plus}
use Rattle.clap.specs.Words.{Row, Text, all_of, first_of, one_of}
use Rattle.command_line.specs.Seconds.{IsSeconds}
use Rattle.command_line.specs.Size.{IsSize}
use Rattle.image_model.specs.declared.layout.Layout.{Layout}
use Rattle.image_model.specs.declared.layout.Layout.TheVariants.{One, Two}
use Rattle.export_model.specs.declared.step.Mode.{Mode}
use Rattle.export_model.specs.declared.step.Mode.TheVariants.{Writeback, Writethrough, Ordered}
use Rattle.front_end.specs.declared.plan.Invocation.{Invocation}
use Rattle.front_end.specs.declared.plan.Plan.{Plan}
use Rattle.front_end.specs.declared.plan.Address.{Address}
use Rattle.front_end.specs.declared.plan.Address.TheVariants.{Tcp, Unix}
use Rattle.front_end.specs.declared.plan.Course.{Course}
use Rattle.front_end.specs.declared.plan.Course.TheVariants.{Once, Sweep, Faults}
use Rattle.front_end.specs.declared.plan.ServedName.{ServedName}
use Rattle.front_end.specs.declared.plan.StatusForm.{StatusForm}
use Rattle.front_end.specs.declared.plan.StatusForm.TheVariants.{Lines, Json, Watch, Store}
use Rattle.front_end.specs.declared.plan.Plan.TheVariants.{Format, Import, Export, Pipe, Serve, Status, Recover, Upgrade, Check, Rehearse, Refuse}
use Rattle.front_end.specs.declared.refusal.Refusal.TheVariants.{AreaSmall}
use Rattle.front_end.specs.declared.options.Limits.{Limits}
use Rattle.front_end.specs.declared.options.OnFault.{OnFault}
use Rattle.front_end.specs.declared.options.OnFault.TheVariants.{Exit, Stay}
use Rattle.front_end.specs.declared.options.OnFull.{OnFull}
use Rattle.front_end.specs.declared.options.OnFull.TheVariants as space
use Rattle.front_end.specs.declared.options.WhenFull.{WhenFull}
use Rattle.front_end.specs.declared.options.WhenFull.TheVariants as full

-- the option was given this number, in decimal digits
pub record IsGiven (rows : List Row) (name : Text) (number : ℕ) : Type 0 where
  pub text : Text
  pub value : one_of name rows ≡ Some text
  pub numeral : IsNumeral 10 (without_leading_plus text)
  pub is : number ≡ digits_value 10 (without_leading_plus text)

-- the option was given this many bytes
pub record IsGivenSize (rows : List Row) (name : Text) (bytes : ℕ) : Type 0 where
  pub text : Text
  pub value : first_of name rows ≡ Some text
  pub size : IsSize text bytes

-- the option was given this many milliseconds, in seconds
pub record IsGivenSeconds (rows : List Row) (name : Text) (millis : ℕ) : Type 0 where
  pub text : Text
  pub value : first_of name rows ≡ Some text
  pub seconds : IsSeconds text millis

-- the option was given this number, in octal digits
pub record IsGivenOctal (rows : List Row) (name : Text) (number : ℕ) : Type 0 where
  pub text : Text
  pub value : first_of name rows ≡ Some text
  pub numeral : IsNumeral 8 (without_leading_plus text)
  pub is : number ≡ digits_value 8 (without_leading_plus text)

-- the option without a value was given, or not: clap reads `true` of it, or `false`
pub record SaysFlag (rows : List Row) (name : Text) (flag : Bool) : Type 0 where
  pub absent : one_of name rows ≡ None → flag ≡ false
  pub given : one_of name rows ≡ Some (codes "true") → flag ≡ true
  pub left_out : one_of name rows ≡ Some (codes "false") → flag ≡ false

-- the option was left out (by what clap reads, it has no value)
abbrev pub IsLeftOut : List Row → Text → Type 0
IsLeftOut rows name = first_of name rows ≡ None

-- the image has this many blocks: what --size says in bytes, or what --blocks says, where the other is left out
abbrev pub SaysBlocks : List Row → ℕ → Type 0
SaysBlocks rows blocks =
    (IsLeftOut rows (codes "blocks") × IsGivenSize rows (codes "size") (blocks * 4096)) ⊎ (IsLeftOut rows (codes "size") × IsGiven rows (codes "blocks") blocks)

-- the image has as many blocks as --size says in bytes; if that is left out, it isn't said
abbrev pub SaysWantedBlocks : List Row → Option ℕ → Type 0
SaysWantedBlocks rows None = IsLeftOut rows (codes "size")
SaysWantedBlocks rows (Some blocks) = IsGivenSize rows (codes "size") (blocks * 4096)

-- an area of layout 1, or two of layout 2, has this many bytes: what --area says, or 64 MiB where it is left out and --blocks is too
abbrev pub SaysArea : List Row → ℕ → Type 0
SaysArea rows area = IsGivenSize rows (codes "area") area ⊎ (IsLeftOut rows (codes "area") × IsLeftOut rows (codes "blocks") × (area ≡ 67108864))

-- the number of a layout
abbrev pub layout_number : Layout → ℕ
layout_number One = 1
layout_number Two = 2

-- The layout where --layout is left out: 2 where --blocks is too and an area has 4 MiB or more, so that four of half the bytes can be made
-- of two; else 1.
abbrev pub IsUsualLayout : List Row → ℕ → Layout → Type 0
IsUsualLayout rows area One = (first_of (codes "blocks") rows ≢ None) ⊎ (area < 4194304)
IsUsualLayout rows area Two = IsLeftOut rows (codes "blocks") × (4194304 ≤ area)

-- the layout is what --layout says, or the usual one
abbrev pub SaysLayout : List Row → ℕ → Layout → Type 0
SaysLayout rows area layout = IsGiven rows (codes "layout") (layout_number layout) ⊎ (IsLeftOut rows (codes "layout") × IsUsualLayout rows area layout)

-- data that are there may be lost: with --blocks always, and else where --force is given
abbrev pub SaysReplaces : List Row → Bool → Type 0
SaysReplaces rows replaces =
    ((first_of (codes "blocks") rows ≢ None) × (replaces ≡ true)) ⊎ (IsLeftOut rows (codes "blocks") × SaysFlag rows (codes "force") replaces)

-- Layout 2 is asked for, and its areas would be below their limit: the blocks and the bytes of an area are within those of layout 1.
abbrev pub SaysSmallAreas : List Row → Type 0
SaysSmallAreas rows =
    (blocks area : ℕ) × SaysBlocks rows blocks × SaysArea rows area × IsGiven rows (codes "layout") 2
    × (1 ≤ blocks) × (blocks ≤ 16777216) × (2097152 ≤ area) × (area % 8192 ≡ 0) × (area < 4194304)

-- the same of an image that is made of a source
abbrev pub SaysSmallImportAreas : List Row → Type 0
SaysSmallImportAreas rows = (area : ℕ) × SaysArea rows area × IsGiven rows (codes "layout") 2 × (2097152 ≤ area) × (area % 8192 ≡ 0) × (area < 4194304)

abbrev pub HasPath : List Row → Text → Type 0
HasPath rows path = first_of (codes "path") rows ≡ Some path

abbrev pub mode_name : Mode → Text
mode_name Writeback = codes "writeback"
mode_name Writethrough = codes "writethrough"
mode_name Ordered = codes "ordered"

abbrev pub fault_name : OnFault → Text
fault_name Exit = codes "exit"
fault_name Stay = codes "stay"

abbrev pub full_name : WhenFull → Text
full_name full.Wait = codes "wait"
full_name full.Refuse = codes "refuse"

-- what becomes of a write for which the disk has no space; a command without this option doesn't wait
abbrev pub SaysOnFull : List Row → OnFull → Type 0
SaysOnFull rows space.Wait = first_of (codes "on-full") rows ≡ Some (codes "wait")
SaysOnFull rows space.Stop = (first_of (codes "on-full") rows ≡ Some (codes "stop")) ⊎ IsLeftOut rows (codes "on-full")

-- how many sessions there are, how long each waits, how long a call of the device may take, and how long it is between lock checks
abbrev pub SaysLimits : List Row → Limits → Type 0
SaysLimits rows limits =
    IsGiven rows (codes "sessions") limits.sessions × IsGiven rows (codes "handshake-timeout") limits.handshake_seconds
    × IsGiven rows (codes "idle-timeout") limits.idle_seconds × IsGiven rows (codes "keepalive") limits.keepalive_seconds
    × IsGivenSeconds rows (codes "flush-interval") limits.flush_millis
    × IsGivenSize rows (codes "loss-bytes") limits.loss_bytes × IsGivenSeconds rows (codes "loss-seconds") limits.loss_millis
    × IsGivenSeconds rows (codes "device-timeout") limits.device_millis × IsGivenSeconds rows (codes "lock-check") limits.check_millis

-- the mode of a socket is what --unix-mode says, within the bits for owner, group and others; none where it is left out
abbrev pub SaysUnixMode : List Row → Option ℕ → Type 0
SaysUnixMode rows None = IsLeftOut rows (codes "unix-mode")
SaysUnixMode rows (Some mode) = IsGivenOctal rows (codes "unix-mode") mode × (mode ≤ 511)

-- the values that an option was given, in order
abbrev pub values_given : Text → List Row → List Text
values_given name rows = unwrap_or (all_of name rows) []

-- a place where clients arrive: whether it is a Unix socket, its address or its path, and the mode of its file
abbrev pub Place : Type 0
Place = Bool × Text × Option ℕ

abbrev pub place_of : Address → Place
place_of (Tcp text) = (false, text.now, None)
place_of (Unix path mode) = (true, path.now, mode)

-- clients arrive at each address of --listen and then at each socket of --unix, in order; no socket's path is empty, and --unix-mode holds for all
abbrev pub SaysAddresses : List Row → List Address → Type 0
SaysAddresses rows addresses =
    (mode : Option ℕ) × SaysUnixMode rows mode × All (λ path. path ≢ []) (values_given (codes "unix") rows)
    × (map place_of addresses ≡ map (λ text. (false, text, None)) (values_given (codes "listen") rows) ++ map (λ path. (true, path, mode)) (values_given (codes "unix") rows))

-- the figures are told at the socket that --status names, whose path isn't empty; at none where it is left out
abbrev pub SaysStatusSocket : List Row → Option Text → Type 0
SaysStatusSocket rows path = (first_of (codes "status") rows ≡ path) × (path ≢ Some [])

-- clients ask for the export by the name that --export-name gives, and by an empty one where it is left out
abbrev pub SaysName : List Row → ServedName → Type 0
SaysName rows name = (unwrap_or (first_of (codes "export-name") rows) [] ≡ name.text.now) × SaysFlag rows (codes "fresh-name") name.is_fresh

-- whether just these of --json, --watch and --store were given
abbrev pub SaysForms : List Row → Bool → Bool → Bool → Type 0
SaysForms rows json watch store = SaysFlag rows (codes "json") json × SaysFlag rows (codes "watch") watch × SaysFlag rows (codes "store") store

-- which of them was given, if any
abbrev pub SaysStatusForm : List Row → StatusForm → Type 0
SaysStatusForm rows Lines = SaysForms rows false false false
SaysStatusForm rows Json = SaysForms rows true false false
SaysStatusForm rows Watch = SaysForms rows false true false
SaysStatusForm rows Store = SaysForms rows false false true

-- which of --sweep and --faults was given, if any
abbrev pub SaysScriptRuns : List Row → Course → Type 0
SaysScriptRuns rows Once = SaysFlag rows (codes "sweep") false × SaysFlag rows (codes "faults") false
SaysScriptRuns rows Sweep = SaysFlag rows (codes "sweep") true × SaysFlag rows (codes "faults") false
SaysScriptRuns rows Faults = SaysFlag rows (codes "sweep") false × SaysFlag rows (codes "faults") true

-- the subcommand with its values, as clap reads them from the words, asks for this plan
abbrev pub IsAsked : Option (Text × List Row) → Plan → Type 0
IsAsked None plan = ⊥
IsAsked (Some (name, rows)) (Format path geometry options) =
    (name ≡ codes "format") × HasPath rows path.now × SaysBlocks rows geometry.blocks × SaysArea rows geometry.area
    × SaysLayout rows geometry.area geometry.layout × SaysFlag rows (codes "preallocate") options.preallocates
    × SaysReplaces rows options.replaces
IsAsked (Some (name, rows)) (Pipe path options) =
    (name ≡ codes "pipe") × HasPath rows path.now × IsGiven rows (codes "frames") options.frames
    × (first_of (codes "cache") rows ≡ Some (mode_name options.mode))
IsAsked (Some (name, rows)) (Serve path addresses status called options) =
    (name ≡ codes "serve") × HasPath rows path.now × SaysAddresses rows addresses.items × SaysStatusSocket rows (option_map (λ path. path.now) status) × SaysName rows called × IsGiven rows (codes "workers") options.workers
    × IsGiven rows (codes "in-flight") options.in_flight
    × IsGiven rows (codes "frames") options.frames × (first_of (codes "cache") rows ≡ Some (mode_name options.mode))
    × SaysLimits rows options.limits × (first_of (codes "on-fault") rows ≡ Some (fault_name options.on_fault))
    × (first_of (codes "when-full") rows ≡ Some (full_name options.when_full))
    × SaysFlag rows (codes "until-eof") options.until_eof
IsAsked (Some (name, rows)) (Status socket form) = (name ≡ codes "status") × (first_of (codes "socket") rows ≡ Some socket.now) × SaysStatusForm rows form
IsAsked (Some (name, rows)) (Recover path is_json) = (name ≡ codes "recover") × HasPath rows path.now × SaysFlag rows (codes "json") is_json
IsAsked (Some (name, rows)) (Upgrade path) = (name ≡ codes "upgrade") × HasPath rows path.now
IsAsked (Some (name, rows)) (Check path is_json is_deep) =
    (name ≡ codes "check") × HasPath rows path.now × SaysFlag rows (codes "json") is_json × SaysFlag rows (codes "deep") is_deep
IsAsked (Some (name, rows)) (Rehearse course) = (name ≡ codes "rehearse") × SaysScriptRuns rows course
IsAsked (Some (name, rows)) (Refuse path refusal) =
    (((name ≡ codes "format") × SaysSmallAreas rows) ⊎ ((name ≡ codes "import") × SaysSmallImportAreas rows)) × HasPath rows path.now × (refusal ≡ AreaSmall)
IsAsked (Some (name, rows)) (Import source path sizes options) =
    (name ≡ codes "import") × (first_of (codes "source") rows ≡ Some source.now) × HasPath rows path.now × SaysWantedBlocks rows sizes.blocks
    × SaysArea rows sizes.area × SaysLayout rows sizes.area sizes.layout × SaysFlag rows (codes "preallocate") options.preallocates
    × SaysFlag rows (codes "force") options.replaces
IsAsked (Some (name, rows)) (Export path target replaces) =
    (name ≡ codes "export") × HasPath rows path.now × (first_of (codes "target") rows ≡ Some target.now) × SaysFlag rows (codes "force") replaces

-- the subcommand asks for this plan, to tell of it or not, and to wait for the lock or not
abbrev pub IsInvocation : Option (Text × List Row) → Invocation → Type 0
IsInvocation None invocation = ⊥
IsInvocation (Some (name, rows)) invocation =
    IsAsked (Some (name, rows)) invocation.plan × SaysFlag rows (codes "verbose") invocation.is_verbose
    × SaysFlag rows (codes "wait-lock") invocation.waits_for_lock × SaysOnFull rows invocation.on_full
