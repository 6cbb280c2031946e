use Rattle.std.proofs.Common.{◌≡◌, length, take, drop, refl, rules}
use Rattle.disk_model.proofs.history.put.Goals as goal

pub returns-clause-put : goal.returns-clause-put
returns-clause-put c =
    let before : c.in_ok-before.before.items ≡ take (length c.args.from.now) (drop c.args.offset c.args.bytes.now.items) = search rules in
    record {
      write = record { offset = c.args.offset; before = c.in_ok-before.before };
      offset_is = refl;
      before_is = before;
      entries_are = c.in_ok-push.ensures.items;
      content_is = c.overwrite.ensures;
    }
