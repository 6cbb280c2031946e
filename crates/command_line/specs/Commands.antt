-- The command line of nbdj: its subcommands, and what each takes.
use Rattle.std.specs.Prelude.{true, false, Some, [], ◌∷◌, codes}
use Rattle.clap.specs.Words.{App, Rule, Text, new_app, new_rule, with_rule, with_subcommand}
use Rattle.clap.specs.Simple.{on_top}
use Rattle.clap.specs.declared.builder.action.ArgAction.TheVariants.{Append, SetTrue}
use Rattle.clap.specs.declared.builder.value_parser.ValueParser.{ValueParser}
use Rattle.clap.specs.declared.builder.value_parser.ValueParser.TheVariants as parser

-- the one word that is no option: the device's file
abbrev pub path_rule : Rule
path_rule = record (new_rule (codes "path")) { value_names = 1; required = true }

-- an option `--NAME VALUE`, which takes any value
abbrev pub option_rule : Text → Rule
option_rule name = record (new_rule name) { long = Some name; value_names = 1 }

-- an option `--NAME VALUE` that may be given more than once
abbrev pub repeated_rule : Text → Rule
repeated_rule name = record (option_rule name) { action = Some Append }

-- an option `--NAME` without a value
abbrev pub flag_rule : Text → Rule
flag_rule name = record (new_rule name) { long = Some name; action = Some SetTrue }

-- the option `-v` or `--verbose`, which each subcommand takes
abbrev pub verbose_rule : Rule
verbose_rule = record (flag_rule (codes "verbose")) { short = Some 118 }

-- options whose value says this many bytes; one that isn't free has a say in which others are given
abbrev pub size_rule : Rule
size_rule = record (option_rule (codes "size")) { is_free = false }

abbrev pub area_rule : Rule
area_rule = option_rule (codes "area")

-- options whose value is a number of these bounds
abbrev pub block_count_rule : Rule
block_count_rule = record (option_rule (codes "blocks")) { parser = Some (parser.Unsigned 1 16777216) }

abbrev pub blocks_rule : Rule
blocks_rule = record block_count_rule { is_free = false }

abbrev pub frames_rule : Rule
frames_rule = record (option_rule (codes "frames")) { parser = Some (parser.Unsigned 512 65536); defaults = codes "4096" ∷ [] }

-- the option `--cache MODE`, whose values this parser takes
abbrev pub cache_rule : ValueParser → Rule
cache_rule modes = record (option_rule (codes "cache")) { parser = Some modes; defaults = codes "writeback" ∷ [] }

abbrev pub layout_rule : Rule
layout_rule = record (option_rule (codes "layout")) { parser = Some (parser.Unsigned 1 2) }

abbrev pub format_app : App
format_app =
    with_rule (with_rule (with_rule (with_rule (with_rule (with_rule (with_rule (with_rule (new_app (codes "format")) path_rule) size_rule) blocks_rule) area_rule)
    layout_rule) (flag_rule (codes "preallocate"))) (flag_rule (codes "force"))) verbose_rule

abbrev pub pipe_app : ValueParser → App
pipe_app modes = with_rule (with_rule (with_rule (with_rule (new_app (codes "pipe")) path_rule) frames_rule) (cache_rule modes)) verbose_rule

-- where clients arrive; the one that isn't free has a say in whether another is given
abbrev pub listen_rule : Rule
listen_rule = repeated_rule (codes "listen")

abbrev pub unix_rule : Rule
unix_rule = repeated_rule (codes "unix")

abbrev pub unix_mode_rule : Rule
unix_mode_rule = record (option_rule (codes "unix-mode")) { is_free = false }

abbrev pub workers_rule : Rule
workers_rule = record (option_rule (codes "workers")) { parser = Some (parser.Unsigned 1 16); defaults = codes "4" ∷ [] }

abbrev pub in_flight_rule : Rule
in_flight_rule = record (option_rule (codes "in-flight")) { parser = Some (parser.Unsigned 1 16); defaults = codes "1" ∷ [] }

abbrev pub when_full_rule : Rule
when_full_rule = record (option_rule (codes "when-full")) { defaults = codes "wait" ∷ [] }

abbrev pub sessions_rule : Rule
sessions_rule = record (option_rule (codes "sessions")) { parser = Some (parser.Unsigned 0 18446744073709551615); defaults = codes "0" ∷ [] }

abbrev pub handshake_rule : Rule
handshake_rule = record (option_rule (codes "handshake-timeout")) { parser = Some (parser.Unsigned 1 86400); defaults = codes "30" ∷ [] }

abbrev pub served_app : App
served_app = with_rule (with_rule (with_rule (with_rule (new_app (codes "serve")) path_rule) listen_rule) unix_rule) unix_mode_rule

-- an option whose value is a number of seconds up to a day, 0 for no end
abbrev pub idle_rule : Rule
idle_rule = record (option_rule (codes "idle-timeout")) { parser = Some (parser.Unsigned 0 86400); defaults = codes "0" ∷ [] }

abbrev pub keepalive_rule : Rule
keepalive_rule = record (option_rule (codes "keepalive")) { parser = Some (parser.Unsigned 0 32767); defaults = codes "100" ∷ [] }

-- the same with digits after a point, which clap takes as any text
abbrev pub flush_rule : Rule
flush_rule = record (option_rule (codes "flush-interval")) { defaults = codes "1" ∷ [] }

-- a number of bytes, which clap takes as any text
abbrev pub loss_bytes_rule : Rule
loss_bytes_rule = record (option_rule (codes "loss-bytes")) { defaults = codes "64M" ∷ [] }

abbrev pub loss_seconds_rule : Rule
loss_seconds_rule = record (option_rule (codes "loss-seconds")) { defaults = codes "0" ∷ [] }

abbrev pub on_fault_rule : Rule
on_fault_rule = record (option_rule (codes "on-fault")) { defaults = codes "exit" ∷ [] }

abbrev pub on_full_rule : Rule
on_full_rule = record (option_rule (codes "on-full")) { defaults = codes "wait" ∷ [] }

abbrev pub loaded_app : ValueParser → App
loaded_app modes = with_rule (with_rule (with_rule (with_rule (with_rule served_app workers_rule) in_flight_rule) when_full_rule) frames_rule) (cache_rule modes)

abbrev pub timed_app : ValueParser → App
timed_app modes =
    with_rule (with_rule (with_rule (with_rule (with_rule (loaded_app modes) sessions_rule) handshake_rule) idle_rule) keepalive_rule) flush_rule

abbrev pub bounded_app : ValueParser → App
bounded_app modes = with_rule (with_rule (timed_app modes) loss_bytes_rule) loss_seconds_rule

-- the name of the export; a fresh one wants it
abbrev pub fresh_rule : Rule
fresh_rule = record (flag_rule (codes "fresh-name")) { is_free = false }

abbrev pub named_app : ValueParser → App
named_app modes = with_rule (with_rule (bounded_app modes) (option_rule (codes "export-name"))) fresh_rule

abbrev pub told_app : ValueParser → App
told_app modes = with_rule (with_rule (with_rule (with_rule (named_app modes) on_fault_rule) on_full_rule) (flag_rule (codes "until-eof"))) (option_rule (codes "status"))

-- how long a call of the device may take, and how long it is from one lock check to the next; 0 for never
abbrev pub device_rule : Rule
device_rule = record (option_rule (codes "device-timeout")) { defaults = codes "0" ∷ [] }

abbrev pub check_rule : Rule
check_rule = record (option_rule (codes "lock-check")) { defaults = codes "0" ∷ [] }

-- the option `--wait-lock` of `serve`, `recover` and `upgrade`
abbrev pub wait_lock_rule : Rule
wait_lock_rule = flag_rule (codes "wait-lock")

abbrev pub guarded_app : ValueParser → App
guarded_app modes = with_rule (with_rule (with_rule (told_app modes) device_rule) check_rule) wait_lock_rule

abbrev pub serve_app : ValueParser → App
serve_app modes = with_rule (guarded_app modes) verbose_rule

-- the one word that is no option: a server's status socket
abbrev pub socket_rule : Rule
socket_rule = record (new_rule (codes "socket")) { value_names = 1; required = true }

abbrev pub json_rule : Rule
json_rule = record (flag_rule (codes "json")) { is_free = false }

-- each of these excludes another one
abbrev pub watch_rule : Rule
watch_rule = record (flag_rule (codes "watch")) { is_free = false }

abbrev pub store_rule : Rule
store_rule = record (flag_rule (codes "store")) { is_free = false }

abbrev pub status_app : App
status_app = with_rule (with_rule (with_rule (with_rule (with_rule (new_app (codes "status")) socket_rule) json_rule) watch_rule) store_rule) verbose_rule

abbrev pub recover_app : App
recover_app = with_rule (with_rule (with_rule (with_rule (new_app (codes "recover")) path_rule) (flag_rule (codes "json"))) wait_lock_rule) verbose_rule

abbrev pub upgrade_app : App
upgrade_app = with_rule (with_rule (with_rule (new_app (codes "upgrade")) path_rule) wait_lock_rule) verbose_rule

-- it excludes another one
abbrev pub deep_rule : Rule
deep_rule = record (flag_rule (codes "deep")) { is_free = false }

abbrev pub check_app : App
check_app = with_rule (with_rule (with_rule (with_rule (new_app (codes "check")) path_rule) (flag_rule (codes "json"))) deep_rule) verbose_rule

abbrev pub rehearse_app : App
rehearse_app = with_rule (with_rule (with_rule (new_app (codes "rehearse")) (flag_rule (codes "sweep"))) (flag_rule (codes "faults"))) verbose_rule

-- a word that is no option, beside the device's file
abbrev pub word_rule : Text → Rule
word_rule name = record (new_rule name) { value_names = 1; required = true }

abbrev pub import_app : App
import_app =
    with_rule (with_rule (with_rule (with_rule (with_rule (with_rule (with_rule (with_rule (new_app (codes "import")) (word_rule (codes "source"))) path_rule) (option_rule (codes "size"))) area_rule)
    layout_rule) (flag_rule (codes "preallocate"))) (flag_rule (codes "force"))) verbose_rule

abbrev pub export_app : App
export_app = with_rule (with_rule (with_rule (with_rule (new_app (codes "export")) path_rule) (word_rule (codes "target"))) (flag_rule (codes "force"))) verbose_rule

-- the program without its subcommands: it has a version, as each of them has, wants a subcommand, and prints its help where
-- no word is given
abbrev pub bare_app : App
bare_app =
    on_top (λ shape. record shape {
      has_version = true;
      propagate_version = true;
      subcommand_required = true;
      arg_required_else_help = true;
    })
    (new_app (codes "nbdj"))

-- the whole command line; the modes are the values that `--cache` takes, in `pipe` and in `serve`
abbrev pub nbdj_app : ValueParser → ValueParser → App
nbdj_app modes others =
    with_subcommand (with_subcommand (with_subcommand (with_subcommand (with_subcommand (with_subcommand (with_subcommand (with_subcommand (with_subcommand (with_subcommand bare_app format_app.top) (serve_app others).top)
    status_app.top) (pipe_app modes).top) recover_app.top) upgrade_app.top) check_app.top) rehearse_app.top) import_app.top) export_app.top
