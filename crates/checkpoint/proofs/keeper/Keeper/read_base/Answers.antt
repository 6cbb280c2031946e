use Rattle.std.proofs.Common.{ℕ, ◌+◌, List, slice_index, true, inl, inr, refl, sym, ◌∙◌, ap, subst}
use Rattle.std.proofs.lemmas.Bool.{false≢true}
use Rattle.std.specs.Prelude.{IfSome}
use Rattle.disk_model.specs.Faults.{counted}
use Rattle.checkpoint.specs.Keeper.{AreSized, IsSized, faults_by, refused_by}
use Rattle.checkpoint.specs.declared.fault.KeeperFault.{KeeperFault}
use Rattle.checkpoint.proofs.ExcludedRefusals.{device_apart, ok_apart}
use Rattle.checkpoint.proofs.BaseRead.{base_byte, holds_reading}
use Rattle.checkpoint.proofs.SyncedReads.{seen_steady}
use Rattle.device_image.specs.Holds.{Holds}
use Rattle.device_image.specs.Keeper.{KeeperState}
use Rattle.image_model.specs.declared.geometry.Geometry.{Geometry}
use Rattle.journal_format.specs.Reading.{IsOnlyRead}
use Rattle.journal_format.specs.laws.Chained.{none_read}
use Rattle.regions.specs.Layout.{block_at}
use Rattle.checkpoint.proofs.keeper.Keeper.read_base.Goals as goal

pub returns-then-self : goal.returns-then-self
returns-then-self g c =
    let fails = ap (λ (k : KeeperState g.row.D.Denot). k.failed) (sym c.self.view_is) ∙ c.if-self.true in record {
      ok = tt;
      err = refl;
      failed = (λ _. fails, λ _. refl);
      only = inr refl;
      extent = refl;
      faults_ok = tt;
      faults_err = refl;
      honest = (λ trusted. trusted, λ trusted. trusted);
      only_read = λ honest. none_read (g.met.D.Disk.sound c.args.self.now.disk honest);
      held = λ honest base fronts last holds. tt;
      bytes = λ honest base fronts last holds. tt;
    }

pub invariant_of-self : goal.invariant_of-self
invariant_of-self g c =
    let inside = c.self.inside in
    let geometry = inside.header.geometry in
    let is = c.self.invariant in
    let extents = c.in-Ok.ensures.extent in (
      extents ∙ is.0,
      is.1,
      subst (λ (e : ℕ). IfSome inside.plan (λ first. IsSized first.first geometry e)) (sym extents) is.2,
      subst (λ (e : ℕ). AreSized inside.waiting.items geometry e) (sym extents) is.3,
      is.4,
      is.5,
      subst (λ (e : ℕ). IsSized inside.area geometry e) (sym extents) is.6,
      is.7,
      is.8,
      is.9,
    )

pub invariant_of-self-in-Err : goal.invariant_of-self-in-Err
invariant_of-self-in-Err g c =
    let inside = c.self.inside in
    let geometry = inside.header.geometry in
    let is = c.self.invariant in
    let extents = c.in-Err.ensures.extent in (
      extents ∙ is.0,
      is.1,
      subst (λ (e : ℕ). IfSome inside.plan (λ first. IsSized first.first geometry e)) (sym extents) is.2,
      subst (λ (e : ℕ). AreSized inside.waiting.items geometry e) (sym extents) is.3,
      is.4,
      is.5,
      subst (λ (e : ℕ). IsSized inside.area geometry e) (sym extents) is.6,
      is.7,
      is.8,
      is.9,
    )

pub returns-in-Ok : goal.returns-in-Ok
returns-in-Ok g c =
    let works = ap (λ (k : KeeperState g.row.D.Denot). k.failed) (sym c.self.view_is) ∙ c.if-self.false in record {
      ok = ap (λ (k : KeeperState g.row.D.Denot). record k { disk = c.read_blocks.new.disk }) c.self.view_is;
      err = tt;
      failed = (λ is. absurd (ok_apart _ _ is), λ fails. absurd (false≢true (sym works ∙ fails)));
      only = tt;
      extent = c.in-Ok.ensures.extent ∙ ap (λ (k : KeeperState g.row.D.Denot). g.D.Disk.extent k.disk) c.self.view_is;
      faults_ok = c.in-Ok.ensures.faults ∙ ap (λ (k : KeeperState g.row.D.Denot). g.D.Disk.faults k.disk) c.self.view_is;
      faults_err = tt;
      honest = (λ trusted. subst (λ (k : KeeperState g.row.D.Denot). g.D.Disk.honest k.disk) c.self.view_is (c.in-Ok.ensures.honest.0 trusted), λ trusted. c.in-Ok.ensures.honest.1 (subst (λ (k : KeeperState g.row.D.Denot). g.D.Disk.honest k.disk) (sym c.self.view_is) trusted));
      only_read = λ honest.
          let trusted = subst (λ (k : KeeperState g.row.D.Denot). g.D.Disk.honest k.disk) (sym c.self.view_is) honest in
          subst (λ (k : KeeperState g.row.D.Denot). IsOnlyRead (g.D.Disk.state k.disk) (g.D.Disk.state c.read_blocks.new.disk)) c.self.view_is record { kept = c.in-Ok.ensures.kept trusted; any_moment = c.in-Ok.ensures.any_moment trusted };
      held = λ honest base front last holds.
          let call = c.in-Ok.ensures in
          let sound = subst (λ (k : KeeperState g.row.D.Denot). g.D.Disk.honest k.disk) (sym c.self.view_is) honest in
          let inside = subst (λ (k : KeeperState g.row.D.Denot). Holds k (g.D.Disk.state k.disk) base front last) (sym c.self.view_is) holds in
          let read : IsOnlyRead (g.D.Disk.state c.self.inside.disk) (g.D.Disk.state c.read_blocks.new.disk) = record { kept = call.kept sound; any_moment = call.any_moment sound } in
          holds_reading _ (g.D.Disk.state c.self.inside.disk) base front last inside c.read_blocks.new.disk (g.D.Disk.state c.read_blocks.new.disk) read;
      bytes = λ honest base front last holds k below kind none.
          let call = c.in-Ok.ensures in
          let sound = subst (λ (k : KeeperState g.row.D.Denot). g.D.Disk.honest k.disk) (sym c.self.view_is) honest in
          let inside = subst (λ (k : KeeperState g.row.D.Denot). Holds k (g.D.Disk.state k.disk) base front last) (sym c.self.view_is) holds in
          let read : IsOnlyRead (g.D.Disk.state c.self.inside.disk) (g.D.Disk.state c.read_blocks.new.disk) = record { kept = call.kept sound; any_moment = call.any_moment sound } in
          call.bytes sound k below
          ∙ ap (λ (size : Geometry). slice_index (g.D.Disk.state c.read_blocks.new.disk).seen (block_at size c.args.first + k)) c.from_geometry.ensures
          ∙ ap (λ (content : List ℕ). slice_index content (block_at c.self.inside.header.geometry c.args.first + k)) (sym (seen_steady inside.keeps.steady read))
          ∙ base_byte _ (g.D.Disk.state c.self.inside.disk) base front last inside c.args.first k kind none;
    }

pub returns-in-Err : goal.returns-in-Err
returns-in-Err g c =
    let works = ap (λ (k : KeeperState g.row.D.Denot). k.failed) (sym c.self.view_is) ∙ c.if-self.false in
    let other = device_apart c.from.result c.from.ensures in record {
      ok = tt;
      err = ap (λ (k : KeeperState g.row.D.Denot). record k { disk = c.read_blocks.new.disk; failed = true }) c.self.view_is ∙ ap (λ (f : KeeperFault). refused_by f c.args.self.now c.read_blocks.new.disk) (sym c.from.ensures);
      failed = (λ is. absurd (other.failed is), λ fails. absurd (false≢true (sym works ∙ fails)));
      only = inl c.from.ensures;
      extent = c.in-Err.ensures.extent ∙ ap (λ (k : KeeperState g.row.D.Denot). g.D.Disk.extent k.disk) c.self.view_is;
      faults_ok = tt;
      faults_err = c.in-Err.ensures.faults ∙ ap (λ (k : KeeperState g.row.D.Denot). counted (g.D.Disk.faults k.disk)) c.self.view_is ∙ ap (λ (f : KeeperFault). faults_by f (g.D.Disk.faults c.args.self.now.disk)) (sym c.from.ensures);
      honest = (λ trusted. subst (λ (k : KeeperState g.row.D.Denot). g.D.Disk.honest k.disk) c.self.view_is (c.in-Err.ensures.honest.0 trusted), λ trusted. c.in-Err.ensures.honest.1 (subst (λ (k : KeeperState g.row.D.Denot). g.D.Disk.honest k.disk) (sym c.self.view_is) trusted));
      only_read = λ honest.
          let trusted = subst (λ (k : KeeperState g.row.D.Denot). g.D.Disk.honest k.disk) (sym c.self.view_is) honest in
          subst (λ (k : KeeperState g.row.D.Denot). IsOnlyRead (g.D.Disk.state k.disk) (g.D.Disk.state c.read_blocks.new.disk)) c.self.view_is record { kept = c.in-Err.ensures.kept trusted; any_moment = c.in-Err.ensures.any_moment trusted };
      held = λ honest base fronts last holds. tt;
      bytes = λ honest base fronts last holds. tt;
    }
