use Rattle.std.proofs.lemmas.Result.{on_ok_weaker}
use Rattle.server_tests.proofs.PremisesAreMet.{unconditional}
use Rattle.server_tests.proofs.trusted_tests.serve_trusted.Goals as goal

pub returns : goal.returns
returns g c =
    let trust = c.in_ok-device.ensures in
    let log = c.serve.ensures.log in
    record {
      keeper = c.in_ok-device.device.keeper;
      history = log.0;
      roster = log.1;
      log = unconditional _ _ c.args.options.mode _ _ _ _ log.0 log.1 trust trust.device log.2;
      all = on_ok_weaker c.serve.result.0 (λ both. both.0) log.4;
      whole = on_ok_weaker c.serve.result.0 (λ both. both.1 trust.device) log.4;
    }
