use Rattle.std.proofs.Common.{ℕ, Option, refl, sym, ◌∙◌, ap, subst, arith, rules}
use Rattle.std.specs.Prelude.{◌≤◌, IfSome}
use Rattle.order_book.specs.Order.{IsInHand}
use Rattle.journal_format.specs.Group.{Numbered}
use Rattle.export_steps.specs.Bench.{ConnectionsState}
use Rattle.export_steps.specs.Parts.{AreConnectionsOf, IsOrderOf}
use Rattle.export_steps.specs.inner.Serving.{AreTermsOf}
use Rattle.export_steps.proofs.Talks.{talked_answer, talked_send}
use Rattle.export_steps.proofs.StepsOfEachKind.{disk_cleans, disk_publishes, disk_seals, of_step, performed_any, performed_appended, performed_kept, performed_talked}
use Rattle.export_steps.proofs.StepsKeepCommands.{shows_after, shows_still, steady_answer, steady_append, steady_clean, steady_copy, steady_finish, steady_map, steady_publish, steady_rotate, steady_seal, steady_send}
use Rattle.device_image.specs.Keeper.{KeeperState}
use Rattle.export_steps.proofs.StoringSteps.{kept_clean_by, kept_publish_by, kept_seal_by}
use Rattle.export_model.specs.Serve.{Nothing, answer, serve}
use Rattle.export_model.specs.Step.{append, clean, copy_block, finish, publish, rotate, seal, send, write_map}
use Rattle.export_model.specs.declared.step.Step.TheVariants as steps
use Rattle.export_steps.proofs.engine.perform.Goals as goal

pub returns-in-Send : goal.returns-in-Send
returns-in-Send g c = record {
  group = subst (λ (b : ConnectionsState). IfSome b.group (IsInHand c.args.order.now)) (sym c.connections.view_is) c.requires.group;
  blocks = refl;
  geometry = refl;
  stored = λ is. is;
  connections = (ap (λ (b : ConnectionsState). b.flags) c.connections.view_is, ap (λ (b : ConnectionsState). b.mode) c.connections.view_is);
  extent = refl;
  honest = (λ is. is, λ is. is);
  world = λ world within of kept are flags mode sure.
      let inside = c.connections.inside in
      let view = c.connections.view_is in
      let order = c.args.order.now in
      let keeper = c.args.keeper.now in
      let faults = g.D.Disk.faults keeper.disk in
      let items = inside.states.items in
      let here = subst (AreConnectionsOf world) (sym (ap (λ (b : ConnectionsState). b.states) view)) are in
      let hand = subst (λ (group : Option Numbered). IsOrderOf world.stage order group) (sym (ap (λ (b : ConnectionsState). b.group) view)) of in
      let bench : ConnectionsState = record { flags = inside.flags; mode = inside.mode; states = c.send.new.states.items; group = c.connections.inside.group } in
      let talked = talked_send world items c.send.new.states.items c.in-Send.connection c.send.result order inside.group hand here c.in-Send.request c.send.ensures.sent in (
        talked.0,
        of_step talked.0 c.args.step.now (steps.Send c.in-Send.connection c.in-Send.request) c.in-Send.is
            (performed_talked (g.D.Disk.extent keeper.disk) (g.D.Disk.honest keeper.disk) (g.D.Disk.state keeper.disk) (g.met.D.Disk.sound keeper.disk) world keeper faults within
            (send talked.0 world c.in-Send.connection c.in-Send.request (world.connections c.in-Send.connection)) c.send.result order order bench kept talked.1
            (shows_still world.stage _ order order (steady_send world talked.0 c.in-Send.connection c.in-Send.request (world.connections c.in-Send.connection)) refl)),
      );
}

pub returns-in-Serve : goal.returns-in-Serve
returns-in-Serve g c = record {
  group = c.serve.ensures.hand;
  blocks = c.serve.ensures.blocks;
  geometry = c.serve.ensures.geometry;
  stored = λ is. subst (λ (count : ℕ). c.args.seat.now.durable ≤ count) (sym c.serve.ensures.count) is;
  connections = (ap (λ (b : ConnectionsState). b.flags) c.connections.view_is, ap (λ (b : ConnectionsState). b.mode) c.connections.view_is);
  extent = c.serve.ensures.extent;
  honest = c.serve.ensures.honest;
  world = λ world within of kept are flags mode sure.
      let inside = c.connections.inside in
      let view = c.connections.view_is in
      let order = c.args.order.now in
      let keeper = c.args.keeper.now in
      let faults = g.D.Disk.faults keeper.disk in
      let items = inside.states.items in
      let here = subst (AreConnectionsOf world) (sym (ap (λ (b : ConnectionsState). b.states) view)) are in
      let hand = subst (λ (group : Option Numbered). IsOrderOf world.stage order group) (sym (ap (λ (b : ConnectionsState). b.group) view)) of in
      let bench : ConnectionsState = record { flags = inside.flags; mode = inside.mode; states = c.serve.new.states.items; group = c.serve.new.hand } in
      let terms : AreTermsOf world c.geometry.result inside.flags inside.mode = record {
        geometry_is = c.geometry.ensures ∙ kept.geometry;
        flags_is = ap (λ (b : ConnectionsState). b.flags) view ∙ flags;
        mode_is = ap (λ (b : ConnectionsState). b.mode) view ∙ mode;
      } in
      let next = c.serve.new.keeper in
      let done = c.serve.ensures.world world within hand kept terms here sure in (
        done.0,
        of_step done.0 c.args.step.now (steps.Serve c.in-Serve.connection) c.in-Serve.is
            (performed_any (g.D.Disk.extent keeper.disk) (g.D.Disk.honest keeper.disk) (g.D.Disk.state keeper.disk) (g.D.Disk.state next.disk) (g.met.D.Disk.sound keeper.disk) world
            (serve done.0 world c.in-Serve.connection (world.connections c.in-Serve.connection)) c.serve.result order c.serve.new.order inside.group bench keeper next faults (g.D.Disk.faults next.disk) within
            (λ same. (ap (λ (k : KeeperState _). g.D.Disk.state k.disk) same, ap (λ (k : KeeperState _). g.D.Disk.faults k.disk) same)) kept done.1),
      );
}

pub returns-in-Answer : goal.returns-in-Answer
returns-in-Answer g c = record {
  group = subst (λ (b : ConnectionsState). IfSome b.group (IsInHand c.args.order.now)) (sym c.connections.view_is) c.requires.group;
  blocks = refl;
  geometry = refl;
  stored = λ is. is;
  connections = (ap (λ (b : ConnectionsState). b.flags) c.connections.view_is, ap (λ (b : ConnectionsState). b.mode) c.connections.view_is);
  extent = refl;
  honest = (λ is. is, λ is. is);
  world = λ world within of kept are flags mode sure.
      let inside = c.connections.inside in
      let view = c.connections.view_is in
      let order = c.args.order.now in
      let keeper = c.args.keeper.now in
      let faults = g.D.Disk.faults keeper.disk in
      let items = inside.states.items in
      let here = subst (AreConnectionsOf world) (sym (ap (λ (b : ConnectionsState). b.states) view)) are in
      let hand = subst (λ (group : Option Numbered). IsOrderOf world.stage order group) (sym (ap (λ (b : ConnectionsState). b.group) view)) of in
      let bench : ConnectionsState = record { flags = inside.flags; mode = inside.mode; states = c.answer.new.states.items; group = c.connections.inside.group } in
      let talked = talked_answer world items c.answer.new.states.items c.in-Answer.connection c.answer.result order inside.group hand here c.answer.ensures.answered in (
        Nothing,
        of_step Nothing c.args.step.now (steps.Answer c.in-Answer.connection) c.in-Answer.is
            (performed_talked (g.D.Disk.extent keeper.disk) (g.D.Disk.honest keeper.disk) (g.D.Disk.state keeper.disk) (g.met.D.Disk.sound keeper.disk) world keeper faults within
            (answer world c.in-Answer.connection (world.connections c.in-Answer.connection)) c.answer.result order order bench kept talked
            (shows_still world.stage _ order order (steady_answer world c.in-Answer.connection (world.connections c.in-Answer.connection)) refl)),
      );
}

pub returns-in-Seal : goal.returns-in-Seal
returns-in-Seal g c = record {
  group = c.seal.ensures.hand;
  blocks = c.seal.ensures.blocks;
  geometry = refl;
  stored = λ is. is;
  connections = (ap (λ (b : ConnectionsState). b.flags) c.connections.view_is, ap (λ (b : ConnectionsState). b.mode) c.connections.view_is);
  extent = refl;
  honest = (λ is. is, λ is. is);
  world = λ world within of kept are flags mode sure.
      let inside = c.connections.inside in
      let view = c.connections.view_is in
      let order = c.args.order.now in
      let keeper = c.args.keeper.now in
      let faults = g.D.Disk.faults keeper.disk in
      let items = inside.states.items in
      let here = subst (AreConnectionsOf world) (sym (ap (λ (b : ConnectionsState). b.states) view)) are in
      let hand = subst (λ (group : Option Numbered). IsOrderOf world.stage order group) (sym (ap (λ (b : ConnectionsState). b.group) view)) of in
      let bench : ConnectionsState = record { flags = inside.flags; mode = inside.mode; states = c.connections.inside.states.items; group = c.seal.new.hand } in
      let sealed = kept_seal_by world keeper faults order c.seal.new.order inside.group c.seal.new.hand c.seal.result kept within hand c.seal.ensures.seals in (
        sealed.0,
        of_step sealed.0 c.args.step.now steps.Seal c.in-Seal.is
            (performed_kept (g.D.Disk.extent keeper.disk) (g.D.Disk.honest keeper.disk) (g.D.Disk.state keeper.disk) (g.met.D.Disk.sound keeper.disk) world keeper faults within
            (seal sealed.0 world) c.seal.result order c.seal.new.order bench here
            (disk_seals (g.D.Disk.extent keeper.disk) (g.D.Disk.honest keeper.disk) (g.D.Disk.state keeper.disk) (g.met.D.Disk.sound keeper.disk) world keeper faults within sealed.0)
            (shows_still world.stage _ order c.seal.new.order (steady_seal world sealed.0) c.seal.ensures.cache) sealed.1),
      );
}

pub returns-in-Append : goal.returns-in-Append
returns-in-Append g c = record {
  group = c.append.ensures.hand;
  blocks = c.append.ensures.blocks;
  geometry = c.append.ensures.geometry;
  stored = λ is. omega (arith, is, c.append.ensures.count);
  connections = (ap (λ (b : ConnectionsState). b.flags) c.connections.view_is, ap (λ (b : ConnectionsState). b.mode) c.connections.view_is);
  extent = c.append.ensures.extent;
  honest = c.append.ensures.honest;
  world = λ world within of kept are flags mode sure.
      let inside = c.connections.inside in
      let view = c.connections.view_is in
      let order = c.args.order.now in
      let keeper = c.args.keeper.now in
      let faults = g.D.Disk.faults keeper.disk in
      let items = inside.states.items in
      let here = subst (AreConnectionsOf world) (sym (ap (λ (b : ConnectionsState). b.states) view)) are in
      let hand = subst (λ (group : Option Numbered). IsOrderOf world.stage order group) (sym (ap (λ (b : ConnectionsState). b.group) view)) of in
      let bench : ConnectionsState = record { flags = inside.flags; mode = inside.mode; states = c.connections.inside.states.items; group = c.append.new.hand } in
      let stored = c.append.ensures.world world within hand kept in (
        stored.0,
        of_step stored.0 c.args.step.now steps.Append c.in-Append.is
            (performed_appended (g.D.Disk.honest keeper.disk) (g.D.Disk.state keeper.disk) (g.D.Disk.state c.append.new.keeper.disk) world (append stored.0 world) c.append.result order c.append.new.order bench
            keeper c.append.new.keeper (g.D.Disk.faults c.append.new.keeper.disk) here
            (shows_still world.stage _ order c.append.new.order (steady_append world stored.0) c.append.ensures.cache) stored.1),
      );
}

pub returns-in-Publish : goal.returns-in-Publish
returns-in-Publish g c = record {
  group = search rules;
  blocks = c.publish.ensures.blocks;
  geometry = refl;
  stored = c.publish.ensures.stored;
  connections = (refl, refl);
  extent = refl;
  honest = (λ is. is, λ is. is);
  world = λ world within of kept are flags mode sure.
      let order = c.args.order.now in
      let keeper = c.args.keeper.now in
      let faults = g.D.Disk.faults keeper.disk in
      let bench = c.args.connections.now in
      let published = kept_publish_by world keeper faults order c.publish.new.order bench.group c.publish.result kept within of c.publish.ensures.publishes in (
        Nothing,
        of_step Nothing c.args.step.now steps.Publish c.in-Publish.is
            (performed_kept (g.D.Disk.extent keeper.disk) (g.D.Disk.honest keeper.disk) (g.D.Disk.state keeper.disk) (g.met.D.Disk.sound keeper.disk) world keeper faults within
            (publish world) c.publish.result order c.publish.new.order bench are
            (disk_publishes (g.D.Disk.extent keeper.disk) (g.D.Disk.honest keeper.disk) (g.D.Disk.state keeper.disk) (g.met.D.Disk.sound keeper.disk) world keeper faults within)
            (shows_still world.stage _ order c.publish.new.order (steady_publish world) c.publish.ensures.cache) published),
      );
}

pub returns-in-Rotate : goal.returns-in-Rotate
returns-in-Rotate g c = record {
  group = c.rotate.ensures.hand;
  blocks = c.rotate.ensures.blocks;
  geometry = c.rotate.ensures.geometry;
  stored = λ is. subst (λ (count : ℕ). c.args.seat.now.durable ≤ count) (sym c.rotate.ensures.count) is;
  connections = (ap (λ (b : ConnectionsState). b.flags) c.connections.view_is, ap (λ (b : ConnectionsState). b.mode) c.connections.view_is);
  extent = c.rotate.ensures.extent;
  honest = c.rotate.ensures.honest;
  world = λ world within of kept are flags mode sure.
      let inside = c.connections.inside in
      let view = c.connections.view_is in
      let order = c.args.order.now in
      let keeper = c.args.keeper.now in
      let faults = g.D.Disk.faults keeper.disk in
      let items = inside.states.items in
      let here = subst (AreConnectionsOf world) (sym (ap (λ (b : ConnectionsState). b.states) view)) are in
      let hand = subst (λ (group : Option Numbered). IsOrderOf world.stage order group) (sym (ap (λ (b : ConnectionsState). b.group) view)) of in
      let bench : ConnectionsState = record { flags = inside.flags; mode = inside.mode; states = c.connections.inside.states.items; group = c.rotate.new.hand } in
      let stored = c.rotate.ensures.world world within hand kept in (
        stored.0,
        of_step stored.0 c.args.step.now steps.Rotate c.in-Rotate.is
            (performed_appended (g.D.Disk.honest keeper.disk) (g.D.Disk.state keeper.disk) (g.D.Disk.state c.rotate.new.keeper.disk) world (rotate stored.0 world) c.rotate.result order c.rotate.new.order bench
            keeper c.rotate.new.keeper (g.D.Disk.faults c.rotate.new.keeper.disk) here
            (shows_still world.stage _ order c.rotate.new.order (steady_rotate world stored.0) c.rotate.ensures.cache) stored.1),
      );
}

pub returns-in-Copy : goal.returns-in-Copy
returns-in-Copy g c = record {
  group = c.copy.ensures.hand;
  blocks = c.copy.ensures.blocks;
  geometry = c.copy.ensures.geometry;
  stored = λ is. subst (λ (count : ℕ). c.args.seat.now.durable ≤ count) (sym c.copy.ensures.count) is;
  connections = (ap (λ (b : ConnectionsState). b.flags) c.connections.view_is, ap (λ (b : ConnectionsState). b.mode) c.connections.view_is);
  extent = c.copy.ensures.extent;
  honest = c.copy.ensures.honest;
  world = λ world within of kept are flags mode sure.
      let inside = c.connections.inside in
      let view = c.connections.view_is in
      let order = c.args.order.now in
      let keeper = c.args.keeper.now in
      let faults = g.D.Disk.faults keeper.disk in
      let items = inside.states.items in
      let here = subst (AreConnectionsOf world) (sym (ap (λ (b : ConnectionsState). b.states) view)) are in
      let hand = subst (λ (group : Option Numbered). IsOrderOf world.stage order group) (sym (ap (λ (b : ConnectionsState). b.group) view)) of in
      let bench : ConnectionsState = record { flags = inside.flags; mode = inside.mode; states = c.connections.inside.states.items; group = c.copy.new.hand } in
      let stored = c.copy.ensures.world world within hand kept in (
        stored.0,
        of_step stored.0 c.args.step.now steps.Copy c.in-Copy.is
            (performed_appended (g.D.Disk.honest keeper.disk) (g.D.Disk.state keeper.disk) (g.D.Disk.state c.copy.new.keeper.disk) world (copy_block stored.0 world) c.copy.result order c.copy.new.order bench
            keeper c.copy.new.keeper (g.D.Disk.faults c.copy.new.keeper.disk) here
            (shows_still world.stage _ order c.copy.new.order (steady_copy world stored.0) c.copy.ensures.cache) stored.1),
      );
}

pub returns-in-Map : goal.returns-in-Map
returns-in-Map g c = record {
  group = c.write_map.ensures.hand;
  blocks = c.write_map.ensures.blocks;
  geometry = c.write_map.ensures.geometry;
  stored = λ is. subst (λ (count : ℕ). c.args.seat.now.durable ≤ count) (sym c.write_map.ensures.count) is;
  connections = (ap (λ (b : ConnectionsState). b.flags) c.connections.view_is, ap (λ (b : ConnectionsState). b.mode) c.connections.view_is);
  extent = c.write_map.ensures.extent;
  honest = c.write_map.ensures.honest;
  world = λ world within of kept are flags mode sure.
      let inside = c.connections.inside in
      let view = c.connections.view_is in
      let order = c.args.order.now in
      let keeper = c.args.keeper.now in
      let faults = g.D.Disk.faults keeper.disk in
      let items = inside.states.items in
      let here = subst (AreConnectionsOf world) (sym (ap (λ (b : ConnectionsState). b.states) view)) are in
      let hand = subst (λ (group : Option Numbered). IsOrderOf world.stage order group) (sym (ap (λ (b : ConnectionsState). b.group) view)) of in
      let bench : ConnectionsState = record { flags = inside.flags; mode = inside.mode; states = c.connections.inside.states.items; group = c.write_map.new.hand } in
      let stored = c.write_map.ensures.world world within hand kept in (
        stored.0,
        of_step stored.0 c.args.step.now steps.Map c.in-Map.is
            (performed_appended (g.D.Disk.honest keeper.disk) (g.D.Disk.state keeper.disk) (g.D.Disk.state c.write_map.new.keeper.disk) world (write_map stored.0 world) c.write_map.result order c.write_map.new.order bench
            keeper c.write_map.new.keeper (g.D.Disk.faults c.write_map.new.keeper.disk) here
            (shows_still world.stage _ order c.write_map.new.order (steady_map world stored.0) c.write_map.ensures.cache) stored.1),
      );
}

pub returns-in-Finish : goal.returns-in-Finish
returns-in-Finish g c = record {
  group = c.finish.ensures.hand;
  blocks = c.finish.ensures.blocks;
  geometry = c.finish.ensures.geometry;
  stored = λ is. subst (λ (count : ℕ). c.args.seat.now.durable ≤ count) (sym c.finish.ensures.count) is;
  connections = (ap (λ (b : ConnectionsState). b.flags) c.connections.view_is, ap (λ (b : ConnectionsState). b.mode) c.connections.view_is);
  extent = c.finish.ensures.extent;
  honest = c.finish.ensures.honest;
  world = λ world within of kept are flags mode sure.
      let inside = c.connections.inside in
      let view = c.connections.view_is in
      let order = c.args.order.now in
      let keeper = c.args.keeper.now in
      let faults = g.D.Disk.faults keeper.disk in
      let items = inside.states.items in
      let here = subst (AreConnectionsOf world) (sym (ap (λ (b : ConnectionsState). b.states) view)) are in
      let hand = subst (λ (group : Option Numbered). IsOrderOf world.stage order group) (sym (ap (λ (b : ConnectionsState). b.group) view)) of in
      let bench : ConnectionsState = record { flags = inside.flags; mode = inside.mode; states = c.connections.inside.states.items; group = c.finish.new.hand } in
      let stored = c.finish.ensures.world world within hand kept in (
        stored.0,
        of_step stored.0 c.args.step.now steps.Finish c.in-Finish.is
            (performed_appended (g.D.Disk.honest keeper.disk) (g.D.Disk.state keeper.disk) (g.D.Disk.state c.finish.new.keeper.disk) world (finish stored.0 world) c.finish.result order c.finish.new.order bench
            keeper c.finish.new.keeper (g.D.Disk.faults c.finish.new.keeper.disk) here
            (shows_still world.stage _ order c.finish.new.order (steady_finish world stored.0) c.finish.ensures.cache) stored.1),
      );
}

pub returns-in-Clean : goal.returns-in-Clean
returns-in-Clean g c = record {
  group = search rules;
  blocks = c.clean.ensures.blocks;
  geometry = refl;
  stored = λ is. is;
  connections = (refl, refl);
  extent = refl;
  honest = (λ is. is, λ is. is);
  world = λ world within of kept are flags mode sure.
      let order = c.args.order.now in
      let keeper = c.args.keeper.now in
      let faults = g.D.Disk.faults keeper.disk in
      let bench = c.args.connections.now in
      let cleaned = kept_clean_by world keeper faults order c.clean.new.order bench.group c.clean.result kept within of c.clean.ensures.cleans in (
        Nothing,
        of_step Nothing c.args.step.now steps.Clean c.in-Clean.is
            (performed_kept (g.D.Disk.extent keeper.disk) (g.D.Disk.honest keeper.disk) (g.D.Disk.state keeper.disk) (g.met.D.Disk.sound keeper.disk) world keeper faults within
            (clean world) c.clean.result order c.clean.new.order bench are
            (disk_cleans (g.D.Disk.extent keeper.disk) (g.D.Disk.honest keeper.disk) (g.D.Disk.state keeper.disk) (g.met.D.Disk.sound keeper.disk) world keeper faults within)
            (shows_after world.stage _ order c.clean.new.order (steady_clean world) c.clean.ensures.image) cleaned),
      );
}
