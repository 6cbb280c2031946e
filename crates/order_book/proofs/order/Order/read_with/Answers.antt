use Rattle.std.proofs.Common.{◌≡◌, ◌↔◌, ◌⊎◌, ◌<◌, ◌+◌, ◌*◌, ◌/◌, ◌∙◌, ap, refl, sym, subst, ℕ, false, List, length, get_or, None, Some, Err}
use Rattle.std.proofs.lemmas.Result.{IfOk-from_err}
use Rattle.std.specs.Bool.{IsTrue}
use Rattle.checkpoint.specs.Keeper.{faults_by, refused_by}
use Rattle.checkpoint.specs.declared.fault.KeeperFault.TheVariants.{DeviceFault, Failed}
use Rattle.device_image.specs.Holds.{is_written, joined}
use Rattle.image_model.specs.declared.command.Kind.TheVariants.{Data}
use Rattle.order_book.specs.Cached.{dirty_of, frames_of}
use Rattle.order_book.specs.Order.{OrderState}
use Rattle.order_book.specs.Reading.{IsCleanAt, IsKept, ShowsRead}
use Rattle.order_book.specs.Shown.{ShowsImage}
use Rattle.order_book.specs.State.{state_of}
use Rattle.order_book.proofs.KeeperRefusalHandedOn.{err_with, failed_on, on_err, on_ok, works_on}
use Rattle.order_book.proofs.ReadsShowImage.{bytes_read, shows_read}
use Rattle.order_book.proofs.OrderKeepsRest.{order_read, read_new}
use Rattle.shared_cache.specs.Cache.{CacheState, LacksBytes, bytes_seen}
use Rattle.order_book.proofs.order.Order.read_with.Goals as goal

pub returns : goal.returns
returns g c = record {
  new = read_new c.self.inside.cache c.keep_blocks.new.cache c.args.first c.read_blocks.new.into (state_of c.self.inside) c.args.self.now refl refl c.keep_blocks.ensures.view c.self.view_is;
  err = tt;
  hit = λ none.
      let held = c.in_ok-held.ensures.all_held (λ lacks. none (subst (λ (o : OrderState). LacksBytes o.cache c.args.first (length c.args.into.now / 4096)) c.self.view_is lacks)) in (
        ap (λ (cache : CacheState). let o : OrderState = record (state_of c.self.inside) { cache = cache; dirty = dirty_of cache; frames = frames_of cache } in o) (c.keep_blocks.ensures.none held.0) ∙ c.self.view_is,
        held.1,
      );
  lacks = tt;
  failed = works_on c.in_ok-held.held c.keep_blocks.result c.in_ok-held.ensures.failed (λ both. (both.0, subst (λ (o : OrderState). LacksBytes o.cache c.args.first (length c.args.into.now / 4096)) (sym c.self.view_is) both.1));
  only = tt;
  in_memory =
      subst (λ (o : OrderState). (j k : ℕ) (bytes : List ℕ) → 4096 * j < length c.read_blocks.new.into → k < 4096 → bytes_seen o.cache (c.args.first + j) ≡ Some bytes
      → get_or c.read_blocks.new.into (4096 * j + k) 0 ≡ get_or bytes k 0) c.self.view_is c.in_ok-held.ensures.in_memory;
  from_base = λ honest base fronts last holds.
      subst (λ (order : OrderState). (j k : ℕ) → 4096 * j < length c.read_blocks.new.into → k < 4096 → bytes_seen order.cache (c.args.first + j) ≡ None
      → base.kind (c.args.first + j) ≡ Data → is_written (c.args.first + j) (joined fronts) ≡ false → get_or c.read_blocks.new.into (4096 * j + k) 0 ≡ base.byte (4096 * (c.args.first + j) + k))
      c.self.view_is
      (c.in_ok-held.ensures.from_base honest base fronts last holds);
  kept = subst (λ (o : OrderState). IsKept c.args.first c.read_blocks.new.into o.cache c.keep_blocks.new.cache c.keep_blocks.result) c.self.view_is c.keep_blocks.ensures.kept;
  view = subst (λ (o : OrderState). ShowsRead c.args.first c.read_blocks.new.into o.cache c.keep_blocks.new.cache) c.self.view_is c.keep_blocks.ensures.view;
  image = λ honest base image fronts last holds.
      subst (λ (order : OrderState). ShowsImage image order.cache → IsCleanAt base (joined fronts) image order.dirty
      → (j k : ℕ) → 4096 * j < length c.read_blocks.new.into → k < 4096 → get_or c.read_blocks.new.into (4096 * j + k) 0 ≡ image.byte (4096 * (c.args.first + j) + k))
      c.self.view_is
      (λ shows clean j k below inside. bytes_read base image (joined fronts) c.self.inside.cache (c.args.first + j) k _ shows clean inside
      (λ bytes seen. c.in_ok-held.ensures.in_memory j k bytes below inside seen)
      (c.in_ok-held.ensures.from_base honest base fronts last holds j k below inside));
  shown = λ honest base image fronts last holds.
      subst (λ (order : OrderState). ShowsImage image order.cache → IsCleanAt base (joined fronts) image order.dirty → ShowsImage image c.keep_blocks.new.cache)
      c.self.view_is
      (λ shows clean. shows_read image c.args.first c.read_blocks.new.into c.self.inside.cache c.keep_blocks.new.cache shows c.keep_blocks.ensures.view
      (λ j k below inside. bytes_read base image (joined fronts) c.self.inside.cache (c.args.first + j) k _ shows clean inside
      (λ bytes seen. c.in_ok-held.ensures.in_memory j k bytes below inside seen)
      (c.in_ok-held.ensures.from_base honest base fronts last holds j k below inside)));
  size = c.in_ok-held.ensures.size;
  keeper_ok = c.in_ok-held.ensures.ok;
  keeper_err = tt;
  extent = c.in_ok-held.ensures.extent;
  faults_ok = c.in_ok-held.ensures.faults_ok;
  faults_err = tt;
  honest = c.in_ok-held.ensures.honest;
  only_read = c.in_ok-held.ensures.only_read;
  holds = c.in_ok-held.ensures.holds;
}

pub returns-in_err-held : goal.returns-in_err-held
returns-in_err-held g c =
    let given = c.from_residual.ensures.1 in record {
      new = refl;
      err = on_err c.from_residual.result c.in_err-held.field-0.0 given refl;
      hit = λ none. absurd (none (subst (λ (o : OrderState). LacksBytes o.cache c.args.first (length c.args.into.now / 4096)) c.self.view_is c.in_err-held.ensures.lacks));
      lacks = on_err c.from_residual.result c.in_err-held.field-0.0 given (subst (λ (o : OrderState). LacksBytes o.cache c.args.first (length c.args.into.now / 4096)) c.self.view_is c.in_err-held.ensures.lacks);
      failed =
          subst (λ (o : OrderState). (c.from_residual.result ≡ Err Failed) ↔ (IsTrue c.args.keeper.now.failed × LacksBytes o.cache c.args.first (length c.args.into.now / 4096))) c.self.view_is
          (failed_on c.from_residual.result c.in_err-held.field-0.0 given c.in_err-held.ensures.failed (λ both. both) (λ both. both));
      only = err_with c.from_residual.result c.in_err-held.field-0.0 given (λ fault. (fault ≡ DeviceFault) ⊎ (fault ≡ Failed)) c.in_err-held.ensures.only;
      in_memory = on_ok c.from_residual.result c.in_err-held.field-0.0 given _;
      from_base = λ honest base fronts last holds. on_ok c.from_residual.result c.in_err-held.field-0.0 given _;
      kept = IfOk-from_err c.from_residual.result _ c.from_residual.ensures.0;
      view = on_ok c.from_residual.result c.in_err-held.field-0.0 given _;
      image = λ honest base image fronts last holds shows clean. on_ok c.from_residual.result c.in_err-held.field-0.0 given _;
      shown = λ honest base image fronts last holds shows clean. on_ok c.from_residual.result c.in_err-held.field-0.0 given _;
      size = c.in_err-held.ensures.size;
      keeper_ok = on_ok c.from_residual.result c.in_err-held.field-0.0 given _;
      keeper_err = err_with c.from_residual.result c.in_err-held.field-0.0 given (λ fault. c.read_blocks.new.keeper ≡ refused_by fault c.args.keeper.now c.read_blocks.new.keeper.disk) c.in_err-held.ensures.err;
      extent = c.in_err-held.ensures.extent;
      faults_ok = on_ok c.from_residual.result c.in_err-held.field-0.0 given _;
      faults_err = err_with c.from_residual.result c.in_err-held.field-0.0 given (λ fault. g.D.Disk.faults c.read_blocks.new.keeper.disk ≡ faults_by fault (g.D.Disk.faults c.args.keeper.now.disk)) c.in_err-held.ensures.faults_err;
      honest = c.in_err-held.ensures.honest;
      only_read = c.in_err-held.ensures.only_read;
      holds = λ honest base fronts last holds. on_ok c.from_residual.result c.in_err-held.field-0.0 given _;
    }

pub invariant_of-self : goal.invariant_of-self
invariant_of-self g c = order_read (state_of c.self.inside) _ _ _ c.keep_blocks.new.cache _ _ c.self.invariant c.keep_blocks.ensures.view.dirty
