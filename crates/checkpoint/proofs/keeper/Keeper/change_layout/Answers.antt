use Rattle.std.proofs.Common.{◌≡◌, ℕ, [], inl, inr, refl, rules, sym, ◌∙◌, ap, subst}
use Rattle.std.specs.Prelude.{IfSome}
use Rattle.disk_model.specs.Disk.{IsSound, LeavesOnly}
use Rattle.disk_model.specs.Faults.{counted}
use Rattle.disk_model.specs.laws.Moments.{begins, weakens}
use Rattle.image_model.specs.declared.geometry.Geometry.{Geometry}
use Rattle.regions.specs.Layout.{area_at, area_size}
use Rattle.device_image.specs.Keeper.{KeeperState, One}
use Rattle.device_image.specs.Keeps.{Keeps}
use Rattle.device_image.specs.Stands.{StandsFor}
use Rattle.device_image.specs.laws.Kept.{kept_content}
use Rattle.checkpoint.specs.Upgrade.{HasEitherLayout}
use Rattle.checkpoint.proofs.HeaderAfterCrash.{header_left}
use Rattle.checkpoint.specs.Keeper.{AreSized, IsSized, faults_by}
use Rattle.checkpoint.specs.inner.Upgrade.{IsLayoutFault}
use Rattle.checkpoint.specs.declared.fault.KeeperFault.{KeeperFault}
use Rattle.checkpoint.proofs.HeaderChangeRemembers.{current_held, slots_synced}
use Rattle.checkpoint.proofs.UpgradeKeepsImage.{change_kept, change_left, changed_by, header_either, upgrade_next}
use Rattle.checkpoint.proofs.keeper.Keeper.change_layout.Goals as goal

pub returns-in-Two : goal.returns-in-Two
returns-in-Two g c = record {
  ok = c.requires;
  layout = ap (λ (k : KeeperState g.row.D.Denot). k.geometry.layout) (sym c.self.view_is) ∙ c.in-Two.is;
  idle = λ two. (refl, refl);
  only = tt;
  changed = search rules;
  small = search rules;
  full = search rules;
  unchanged = tt;
  extent = refl;
  faults_ok = refl;
  faults_err = tt;
  honest = (λ trusted. trusted, λ trusted. trusted);
  kept = λ honest image number keeps. keeps;
  any_moment = λ honest image number keeps. begins (g.met.D.Disk.sound c.args.self.now.disk honest) (λ content left. kept_content _ _ image number keeps content left);
  header = λ honest image number keeps. begins (g.met.D.Disk.sound c.args.self.now.disk honest) (λ content left. inl (header_left _ _ image number keeps content left));
}

pub returns-in_default : goal.returns-in_default
returns-in_default g c = record {
  ok = tt;
  layout = tt;
  idle = search rules;
  only = tt;
  changed = λ one. tt;
  small = search rules;
  full = search rules;
  unchanged = inr refl;
  extent = refl;
  faults_ok = tt;
  faults_err = refl;
  honest = (λ trusted. trusted, λ trusted. trusted);
  kept = λ honest image number keeps. tt;
  any_moment = λ honest image number keeps. begins (g.met.D.Disk.sound c.args.self.now.disk honest) (λ content left. kept_content _ _ image number keeps content left);
  header = λ honest image number keeps. begins (g.met.D.Disk.sound c.args.self.now.disk honest) (λ content left. inl (header_left _ _ image number keeps content left));
}

pub returns-in_default-upgraded : goal.returns-in_default-upgraded
returns-in_default-upgraded g c = record {
  ok = tt;
  layout = tt;
  idle = search rules;
  only = tt;
  changed = λ one. tt;
  small = search rules;
  full = search rules;
  unchanged = inr refl;
  extent = refl;
  faults_ok = tt;
  faults_err = refl;
  honest = (λ trusted. trusted, λ trusted. trusted);
  kept = λ honest image number keeps. tt;
  any_moment = λ honest image number keeps. begins (g.met.D.Disk.sound c.args.self.now.disk honest) (λ content left. kept_content _ _ image number keeps content left);
  header = λ honest image number keeps. begins (g.met.D.Disk.sound c.args.self.now.disk honest) (λ content left. inl (header_left _ _ image number keeps content left));
}

pub invariant_of-self-in-Err : goal.invariant_of-self-in-Err
invariant_of-self-in-Err g c =
    let inside = c.self.inside in
    let geometry = inside.header.geometry in
    let is = c.self.invariant in
    let extents = c.in-Err.ensures.extent in (
      extents ∙ is.0,
      is.1,
      subst (λ (e : ℕ). IfSome inside.plan (λ first. IsSized first.first geometry e)) (sym extents) is.2,
      subst (λ (e : ℕ). AreSized inside.waiting.items geometry e) (sym extents) is.3,
      is.4,
      is.5,
      subst (λ (e : ℕ). IsSized inside.area geometry e) (sym extents) is.6,
      is.7,
      is.8,
      is.9,
    )

pub returns-in-Ok : goal.returns-in-Ok
returns-in-Ok g c = record {
  ok = search rules;
  layout = search rules;
  idle = search rules;
  only = tt;
  changed = λ one.
      let given = c.in-Some.ensures.given in
      changed_by _ _ _ c.self.view_is c.in-Some.geometry given.2 given.0 given.1 refl c.in-Some-upgraded.header c.in-Some-upgraded.ensures.some c.other-self-inside.result c.new.result c.other-self-inside.ensures refl;
  small = search rules;
  full = search rules;
  unchanged = tt;
  extent = c.in-Ok.ensures.extent ∙ ap (λ (k : KeeperState g.row.D.Denot). g.D.Disk.extent k.disk) c.self.view_is;
  faults_ok = c.in-Ok.ensures.faults ∙ ap (λ (k : KeeperState g.row.D.Denot). g.D.Disk.faults k.disk) c.self.view_is;
  faults_err = tt;
  honest = (λ trusted. subst (λ (k : KeeperState g.row.D.Denot). g.D.Disk.honest k.disk) c.self.view_is (c.in-Ok.ensures.honest.0 trusted), λ trusted. c.in-Ok.ensures.honest.1 (subst (λ (k : KeeperState g.row.D.Denot). g.D.Disk.honest k.disk) (sym c.self.view_is) trusted));
  kept = λ honest image number keeps.
      let inside = subst (λ (k : KeeperState g.row.D.Denot). Keeps k (g.D.Disk.state k.disk) image number) (sym c.self.view_is) keeps in
      let trusted = subst (λ (k : KeeperState g.row.D.Denot). g.D.Disk.honest k.disk) (sym c.self.view_is) honest in
      let before = g.D.Disk.state c.self.inside.disk in
      let sound = g.met.D.Disk.sound c.self.inside.disk trusted in
      let one = subst (λ (k : KeeperState g.row.D.Denot). k.phase ≡ One) (sym c.self.view_is) c.requires.phase in
      let none = subst (λ (k : KeeperState g.row.D.Denot). k.used ≡ 0) (sym c.self.view_is) c.requires.used in
      let geometry = c.in-Some.geometry in
      let given = c.in-Some.ensures.given in
      let header = c.in-Some-upgraded.header in
      let header_is = c.in-Some-upgraded.ensures.some in
      let call = c.in-Ok.ensures in
      let placed = call.in_place trusted (slots_synced _ before image number inside sound) c.self.inside.header (current_held _ before image number inside sound)
      (upgrade_next _ before image number inside one none sound geometry c.in-One.is given.2 given.0 given.1 header header_is) in
      let later = g.D.Disk.state c.change_header.new.disk in
      let later_sound = subst (λ e. IsSound e later) call.extent (g.met.D.Disk.sound c.change_header.new.disk (call.honest.1 trusted)) in
      let from = c.area_from-from.ensures.place ∙ ap (λ (size : Geometry). area_at size header.first_area) c.from_geometry.ensures in
      let bytes = c.area_size.ensures in
      let next = c.next.ensures in
      let area_is : c.new.result ≡ record { from = area_at geometry header.first_area; bytes = area_size geometry; blocks = geometry.blocks; next = c.self.inside.area.next; gate = 0; touched = [] } =
      c.new.ensures ∙ (λ i. record { from = from i; bytes = bytes i; blocks = geometry.blocks; next = next i; gate = 0; touched = [] }) in
      change_kept _ before image number inside one none sound geometry c.in-One.is given.2 given.0 given.1 header header_is later later_sound placed _ c.other-self-inside.result c.new.result
      c.other-self-inside.ensures area_is refl;
  any_moment = λ honest image number keeps.
      subst (λ (k : KeeperState g.row.D.Denot). g.D.Disk.honest k.disk → Keeps k (g.D.Disk.state k.disk) image number → LeavesOnly (g.D.Disk.state k.disk) (g.D.Disk.state c.change_header.new.disk) (λ content. StandsFor content image number)) c.self.view_is
      (λ trusted inside.
      let before = g.D.Disk.state c.self.inside.disk in
      let sound = g.met.D.Disk.sound c.self.inside.disk trusted in
      let one = subst (λ (k : KeeperState g.row.D.Denot). k.phase ≡ One) (sym c.self.view_is) c.requires.phase in
      let none = subst (λ (k : KeeperState g.row.D.Denot). k.used ≡ 0) (sym c.self.view_is) c.requires.used in
      let given = c.in-Some.ensures.given in
      let header = c.in-Some-upgraded.header in
      let header_is = c.in-Some-upgraded.ensures.some in
      weakens (c.change_header.ensures.any_moment trusted (slots_synced _ before image number inside sound) c.self.inside.header (current_held _ before image number inside sound)
      (upgrade_next _ before image number inside one none sound c.in-Some.geometry c.in-One.is given.2 given.0 given.1 header header_is))
      (change_left _ before image number inside one none sound c.in-Some.geometry c.in-One.is given.2 given.0 given.1 header header_is))
      honest keeps;
  header = λ honest image number keeps.
      subst (λ (k : KeeperState g.row.D.Denot). g.D.Disk.honest k.disk → Keeps k (g.D.Disk.state k.disk) image number → LeavesOnly (g.D.Disk.state k.disk) (g.D.Disk.state c.change_header.new.disk) (HasEitherLayout k)) c.self.view_is
      (λ trusted inside.
      let before = g.D.Disk.state c.self.inside.disk in
      let sound = g.met.D.Disk.sound c.self.inside.disk trusted in
      let one = subst (λ (k : KeeperState g.row.D.Denot). k.phase ≡ One) (sym c.self.view_is) c.requires.phase in
      let none = subst (λ (k : KeeperState g.row.D.Denot). k.used ≡ 0) (sym c.self.view_is) c.requires.used in
      let given = c.in-Some.ensures.given in
      let header = c.in-Some-upgraded.header in
      let header_is = c.in-Some-upgraded.ensures.some in
      weakens (c.change_header.ensures.any_moment trusted (slots_synced _ before image number inside sound) c.self.inside.header (current_held _ before image number inside sound)
      (upgrade_next _ before image number inside one none sound c.in-Some.geometry c.in-One.is given.2 given.0 given.1 header header_is))
      (header_either _ before image number inside sound c.in-Some.geometry given.2 given.0 given.1 header header_is))
      honest keeps;
}

pub returns-in-Err : goal.returns-in-Err
returns-in-Err g c = record {
  ok = tt;
  layout = tt;
  idle = search rules;
  only = subst IsLayoutFault (sym c.from.ensures) tt;
  changed = λ one. tt;
  small = search rules;
  full = search rules;
  unchanged = inl c.from.ensures;
  extent = c.in-Err.ensures.extent ∙ ap (λ (k : KeeperState g.row.D.Denot). g.D.Disk.extent k.disk) c.self.view_is;
  faults_ok = tt;
  faults_err = c.in-Err.ensures.faults ∙ ap (λ (k : KeeperState g.row.D.Denot). counted (g.D.Disk.faults k.disk)) c.self.view_is ∙ ap (λ (f : KeeperFault). faults_by f (g.D.Disk.faults c.args.self.now.disk)) (sym c.from.ensures);
  honest = (λ trusted. subst (λ (k : KeeperState g.row.D.Denot). g.D.Disk.honest k.disk) c.self.view_is (c.in-Err.ensures.honest.0 trusted), λ trusted. c.in-Err.ensures.honest.1 (subst (λ (k : KeeperState g.row.D.Denot). g.D.Disk.honest k.disk) (sym c.self.view_is) trusted));
  kept = λ honest image number keeps. tt;
  any_moment = λ honest image number keeps.
      subst (λ (k : KeeperState g.row.D.Denot). g.D.Disk.honest k.disk → Keeps k (g.D.Disk.state k.disk) image number → LeavesOnly (g.D.Disk.state k.disk) (g.D.Disk.state c.change_header.new.disk) (λ content. StandsFor content image number)) c.self.view_is
      (λ trusted inside.
      let before = g.D.Disk.state c.self.inside.disk in
      let sound = g.met.D.Disk.sound c.self.inside.disk trusted in
      let one = subst (λ (k : KeeperState g.row.D.Denot). k.phase ≡ One) (sym c.self.view_is) c.requires.phase in
      let none = subst (λ (k : KeeperState g.row.D.Denot). k.used ≡ 0) (sym c.self.view_is) c.requires.used in
      let given = c.in-Some.ensures.given in
      let header = c.in-Some-upgraded.header in
      let header_is = c.in-Some-upgraded.ensures.some in
      weakens (c.change_header.ensures.any_moment trusted (slots_synced _ before image number inside sound) c.self.inside.header (current_held _ before image number inside sound)
      (upgrade_next _ before image number inside one none sound c.in-Some.geometry c.in-One.is given.2 given.0 given.1 header header_is))
      (change_left _ before image number inside one none sound c.in-Some.geometry c.in-One.is given.2 given.0 given.1 header header_is))
      honest keeps;
  header = λ honest image number keeps.
      subst (λ (k : KeeperState g.row.D.Denot). g.D.Disk.honest k.disk → Keeps k (g.D.Disk.state k.disk) image number → LeavesOnly (g.D.Disk.state k.disk) (g.D.Disk.state c.change_header.new.disk) (HasEitherLayout k)) c.self.view_is
      (λ trusted inside.
      let before = g.D.Disk.state c.self.inside.disk in
      let sound = g.met.D.Disk.sound c.self.inside.disk trusted in
      let one = subst (λ (k : KeeperState g.row.D.Denot). k.phase ≡ One) (sym c.self.view_is) c.requires.phase in
      let none = subst (λ (k : KeeperState g.row.D.Denot). k.used ≡ 0) (sym c.self.view_is) c.requires.used in
      let given = c.in-Some.ensures.given in
      let header = c.in-Some-upgraded.header in
      let header_is = c.in-Some-upgraded.ensures.some in
      weakens (c.change_header.ensures.any_moment trusted (slots_synced _ before image number inside sound) c.self.inside.header (current_held _ before image number inside sound)
      (upgrade_next _ before image number inside one none sound c.in-Some.geometry c.in-One.is given.2 given.0 given.1 header header_is))
      (header_either _ before image number inside sound c.in-Some.geometry given.2 given.0 given.1 header header_is))
      honest keeps;
}
