use Rattle.std.proofs.Common.{rules, subst, []}
use Rattle.std.specs.Prelude.{◌≢◌, All}
use Rattle.clap.specs.Words.{found_of, rows_of}
use Rattle.command_line.proofs.Addresses.{says_addresses}
use Rattle.command_line.proofs.parse.addresses.Goals as goal

pub returns : goal.returns
returns c =
    let named = subst (All (λ path. path.now ≢ [])) c.deref.ensures.value (c.have_names.ensures (search rules)) in
    says_addresses (rows_of (found_of c.args.matches.now)) c.in_ok-mode.mode c.in_ok-listens.listens.items c.in_ok-sockets.sockets.items _ c.in_ok-mode.ensures c.in_ok-listens.ensures c.in_ok-sockets.ensures
    named (search rules)
