use Rattle.std.proofs.Common.{◌≡◌, ℕ, ◌+◌, ◌++◌, ◌∷◌, [], length, take, List, ap, sym, ◌∙◌, arith}
use Rattle.std.specs.List.{flat_map}
use Rattle.std.proofs.lemmas.List.{flat_map_more, take_all, take_more}
use Rattle.image_model.specs.declared.command.Command.{Command}
use Rattle.image_model.specs.Change.{change_of}
use Rattle.image_model.specs.Command.{bodies_of}
use Rattle.journal_format.specs.Group.{Numbered}
use Rattle.journal_format.specs.Spelling.{change_bytes, group_head}
use Rattle.journal_format.specs.laws.Spelled.{group_spelled}
use Rattle.journal.proofs.Bodies.{at_commands, body_within}
use Rattle.journal.proofs.group.Group.spell_commands.Goals as goal

pub returns : goal.returns
returns c =
    let commands = c.args.self.now.commands in
    let all : take c.loop-command.command-index commands ≡ commands = take_all c.loop-command.command-index commands (omega (arith, ap length c.deref-command-items.ensures.value, ap (λ (group : Numbered). length group.commands) c.self.view_is)) in
    let spelled = c.loop-command.invariant
    ∙ ap (λ (done : List Command). group_head (bodies_of commands) c.args.self.now.first (length commands) ++ flat_map (λ command. change_bytes (change_of command)) done) all
    ∙ sym (group_spelled c.args.self.now) in
    spelled

pub spell_command-requires : goal.spell_command-requires
spell_command-requires c =
    let at = at_commands _ _ _ _ c.deref-command-items.ensures.value c.loop-command-test.true c.command-item.is in
    omega (arith, body_within _ _ _ at.0 at.1, c.self.invariant.0.bodies)

pub loop-command-preserved : goal.loop-command-preserved
loop-command-preserved c =
    let commands = c.args.self.now.commands in
    let index = c.loop-command.command-index in
    let command = c.command-item.result in
    let head = group_head (bodies_of commands) c.args.self.now.first (length commands) in
    let at = at_commands _ commands index command (c.deref-command-items.ensures.value ∙ ap (λ (group : Numbered). group.commands) c.self.view_is) c.loop-command-test.true c.command-item.is in
    let taken : take (index + 1) commands ≡ take index commands ++ command ∷ [] =
    take_more commands index command at.0 ∙ ap (λ (last : Command). take index commands ++ last ∷ []) (sym at.1) in
    c.in_ok-spell_command.ensures
    ∙ ap (λ (bytes : List ℕ). bytes ++ change_bytes (change_of command)) c.loop-command.invariant
    ∙ flat_map_more (λ (command : Command). change_bytes (change_of command)) head (take index commands) command
    ∙ ap (λ (done : List Command). head ++ flat_map (λ (command : Command). change_bytes (change_of command)) done) (sym taken)
