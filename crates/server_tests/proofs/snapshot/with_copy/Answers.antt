use Rattle.std.specs.Prelude.{unwrap_or}
use Rattle.std.proofs.Common.{◌≡◌, ◌∙◌, ℕ, ◌+◌, ◌*◌, ◌/◌, ◌<◌, List, [], length, slice_index, Option, Some, ap, arith, refl, rules, subst, sym}
use Rattle.std.proofs.lemmas.List.{with_items_is}
use Rattle.disk_model.specs.SimDisk.{state_now}
use Rattle.export.specs.Trusted.{image_found}
use Rattle.image_model.specs.Image.{Image}
use Rattle.image_model.specs.declared.command.Kind.TheVariants.{Data}
use Rattle.server_tests.specs.Snapshot.{VouchesOf}
use Rattle.server_tests.specs.declared.snapshot.Snapshot.{Snapshot}
use Rattle.server_tests.proofs.SnapshotIsRight.{found, holds_found, right}
use Rattle.server_tests.proofs.snapshot.with_copy.Goals as goal

same_in_some : {A : Type 0} {x y : A} → Some x ≡ Some y → x ≡ y
same_in_some {A} {x} is = ap (λ (o : Option A). unwrap_or o x) is

pub returns : goal.returns
returns c =
    let old = c.args.device.keeper in
    let next = c.read_base.new.self in
    let is = c.in-Ok.ensures.ok in
    let only = c.in-Ok.ensures.only_read (tt {0}) in
    let held = c.requires.held (tt {0}) in
    let same = found old next is only in
    let image = image_found state_now old in
    let items = with_items_is c.in_ok-copy.copy c.read_base.new.into (search rules) in
    record {
      device = record {
        sure = tt {0};
        holds = holds_found old next is only (c.in-Ok.ensures.held (tt {0}) _ [] [] held);
      };
      reads = λ handle is_some read vouches.
          right c.read_base.new.into next.count _ read
          (subst (λ (i : Image). (place : ℕ) → place < length c.read_base.new.into → i.kind (place / 4096) ≡ Data → slice_index c.read_base.new.into place ≡ i.byte place) same
          (λ place below stored.
          let zero : 0 + place / 4096 ≡ place / 4096 = omega arith in
          let start : 4096 * 0 + place ≡ place = omega arith in
          c.in-Ok.ensures.bytes (tt {0}) image [] [] held place below (ap image.kind zero ∙ stored) refl ∙ ap image.byte start))
          (subst (λ (n : ℕ). VouchesOf c.read_base.new.into n read) c.count.ensures
          (subst (λ (l : List ℕ). VouchesOf l c.count.result read) items
          (subst (λ (h : Snapshot). VouchesOf h.copy.items h.base read) (sym (same_in_some is_some)) vouches)));
    }
