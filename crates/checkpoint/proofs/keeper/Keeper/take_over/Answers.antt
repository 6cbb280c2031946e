use Rattle.std.proofs.Common.{◌≡◌, ◌-◌, ◌<◌, ℕ, rules, sym, ◌∙◌, ap, subst, arith}
use Rattle.image_model.specs.declared.geometry.Geometry.{Geometry}
use Rattle.journal_format.specs.Area.{AreaState}
use Rattle.device_image.specs.Keeper.{KeeperState}
use Rattle.device_image.specs.Stands.{next_number}
use Rattle.checkpoint.specs.Keeper.{IsSized, plans_of}
use Rattle.checkpoint.specs.Steps.{IsFinishTime, first_turned}
use Rattle.checkpoint.proofs.HeaderChangeRemembers.{ArePlansSized, last_behind, sized_behind, time_some, uncopied_behind}
use Rattle.checkpoint.proofs.keeper.Keeper.take_over.Goals as goal

pub invariant_of-self : goal.invariant_of-self
invariant_of-self g c =
    let is = c.self.invariant in
    let old = c.self.inside.plan in
    let waiting = c.self.inside.waiting.items in
    let new = c.take_first.result in
    let more = c.take_first.new.waiting.items in
    let header = c.args.header in
    let was = c.self.inside.header in
    let extent = g.D.Disk.extent c.self.inside.disk in
    let geometry : was.geometry ≡ header.geometry = sym (c.requires.geometry ∙ ap (λ (k : KeeperState g.row.D.Denot). k.geometry) (sym c.self.view_is)) in
    let before_last : was.before_last - 1 ≡ header.before_last = sym (c.requires.before_last ∙ ap (λ (k : KeeperState g.row.D.Denot). k.memory.header.before_last - 1) (sym c.self.view_is)) in
    let base = c.requires.base ∙ ap (λ (k : KeeperState g.row.D.Denot). first_turned k.base k.turned) (sym c.self.view_is) in
    let several = time_some (plans_of old waiting) (subst (λ (k : KeeperState g.row.D.Denot). IsFinishTime k.phase) (sym c.self.view_is) c.requires.time) in
    let some : 0 < was.before_last = omega (arith, several, is.5) in
    let join = c.match-take.self-inside in
    let waits : join.waiting.items ≡ waiting = search rules in
    let same_extent : extent ≡ g.D.Disk.extent join.disk = search rules in
    let same_area : c.self.inside.area ≡ join.area = search rules in
    let same_count : c.self.inside.count ≡ join.count = search rules in
    let sized : ArePlansSized old waiting was.geometry extent was.before_last = record { first = is.2; behind = is.3; none = is.4; many = is.5 } in
    let after = sized_behind old new waiting more was.geometry extent was.before_last some (c.take_first.ensures.plans ∙ waits) c.take_first.ensures.none sized in
    let there = subst (λ (e : ℕ). ArePlansSized new more header.geometry e header.before_last) same_extent
    (subst (λ (n : ℕ). ArePlansSized new more header.geometry extent n) before_last (subst (λ (size : Geometry). ArePlansSized new more size extent (was.before_last - 1)) geometry after)) in
    let area = subst (λ (a : AreaState). IsSized a header.geometry (g.D.Disk.extent join.disk)) same_area
    (subst (λ (e : ℕ). IsSized c.self.inside.area header.geometry e) same_extent (subst (λ (size : Geometry). IsSized c.self.inside.area size extent) geometry is.6)) in (
      search rules,
      search rules,
      there.first,
      there.behind,
      there.none,
      there.many,
      area,
      sym (ap (λ (a : AreaState). a.next) same_area) ∙ is.7 ∙ ap next_number same_count,
      λ none.
          let before = ap (λ (a : AreaState). a.gate) same_area ∙ none in (
            sym (ap (λ (a : AreaState). a.touched) same_area) ∙ (is.8 before).0,
            sym same_count ∙ (is.8 before).1 ∙ last_behind old new waiting more was.base header.base several (c.take_first.ensures.plans ∙ waits) base,
          ),
      uncopied_behind new waiting more (c.take_first.ensures.plans ∙ waits) c.take_first.ensures.none is.9,
    )
