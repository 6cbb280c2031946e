use Rattle.std.proofs.Common.{Ok}
use Rattle.nbdj_pipe.proofs.run.recover.Goals as goal

-- the device that is handed back is the keeper's
pub returns-in-Ok : goal.returns-in-Ok
returns-in-Ok g c =
    let is = c.into_disk.ensures in
    let opened = c.in-Ok.ensures in
    record {
      given = Ok c.in-Ok.keeper;
      told = c.print_recovered-result.ensures;
      is_left = is;
      size = rw is opened.extent;
      trusted = rw is opened.honest;
      counted = rw is opened.faults;
      recovered = opened.recovered;
      found = opened.found;
      same = λ honest synced image number stands. rw is (opened.same honest synced image number stands);
      passing = λ honest synced image number stands. tt;
      any_moment = λ honest synced image number stands. rw is (opened.any_moment honest synced image number stands);
      at_rest = λ honest synced rest. rw is (opened.at_rest honest synced rest);
    }
