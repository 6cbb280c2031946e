-- the parts that a life begins with
use Rattle.std.proofs.Common.{◌≡◌, ◌⊎◌, inl, inr, ℕ, ◌+◌, ◌<◌, ◌≤◌, Bool, true, false, List, [], length, if◌then◌else◌, nat_lt, get_or, replicate, sym, ◌∙◌, ap, subst, refl, arith}
use Rattle.std.proofs.lemmas.Bool.{cases_lt, le-ltb, lt-ltb}
use Rattle.std.proofs.lemmas.List.{get_or-replicate, length-replicate}
use Rattle.std.proofs.Math.ListN.{get_or-eq_default}
use Rattle.device_image.specs.Keeper.{KeeperState, One}
use Rattle.device_image.specs.Holds.{Holds}
use Rattle.device_image.specs.Keeps.{Keeps}
use Rattle.device_image.specs.Remembers.{Remembers}
use Rattle.device_image.specs.Stands.{StandsFor}
use Rattle.disk_model.specs.Disk.{State, MayLeave}
use Rattle.image_model.specs.Image.{Image}
use Rattle.image_model.specs.Layout.{area_size_of}
use Rattle.image_model.specs.declared.command.Kind.{Kind}
use Rattle.nbd_wire.specs.declared.message.SessionFlags.{SessionFlags}
use Rattle.order_book.specs.Order.{new_order}
use Rattle.order_book.specs.Shown.{ShowsImage}
use Rattle.export_steps.specs.Bench.{new_connections}
use Rattle.export_steps.specs.Life.{first_world}
use Rattle.export_steps.specs.Parts.{IsExportOf}
use Rattle.export_model.specs.declared.connection.Connection.TheVariants.{Idle, Closed}
use Rattle.export_model.specs.declared.step.Mode.{Mode}
use Rattle.export_model.specs.Run.{Fresh}

-- as many connections as there are have no request open, and there are no others
idle_here : (count connection : ℕ) → get_or (replicate count Idle) connection Closed ≡ (if nat_lt connection count then Idle else Closed)
idle_here count connection = by_case (cases_lt connection count)
  where
    by_case : (connection < count) ⊎ (count ≤ connection) → get_or (replicate count Idle) connection Closed ≡ (if nat_lt connection count then Idle else Closed)
    by_case (inl inside) = get_or-replicate count connection Idle Closed inside ∙ sym (ap (λ (b : Bool). if b then Idle else Closed) (lt-ltb connection count inside))
    by_case (inr outside) =
        let long = length-replicate count Idle in
        get_or-eq_default (replicate count Idle) Closed (omega (arith, long, outside)) ∙ sym (ap (λ (b : Bool). if b then Idle else Closed) (le-ltb connection count outside))

pub fresh_parts : {D : Type 0} (trusted : Bool) (keeper : KeeperState D) (found : Image) (states : List Kind) (failures frames connections : ℕ) (flags : SessionFlags) (mode : Mode) (honest : Type 0) (state : State)
    → ((number : ℕ) (content : List ℕ) → Keeps keeper state found number → MayLeave state content → StandsFor content found number)
    → length states ≡ keeper.geometry.blocks → keeper.failed ≡ false → keeper.phase ≡ One → keeper.used ≡ 0 → keeper.base ≡ keeper.count → keeper.turned ≡ [] → keeper.lefts ≡ [] → Remembers keeper []
    → keeper.count < 18446744073709551616 → (honest → Holds keeper state found [] []) → (honest → ShowsImage found (new_order states keeper.count frames (area_size_of keeper.geometry.layout keeper.geometry.area)).cache) → (trusted ≡ true → honest)
    → IsExportOf (first_world trusted keeper found failures frames connections flags mode) (new_order states keeper.count frames (area_size_of keeper.geometry.layout keeper.geometry.area)) keeper failures (new_connections connections flags mode) honest state
fresh_parts trusted keeper found states failures frames connections flags mode honest state crash blocks works one unused based turned lefts remembers fits holds shows sure = record {
  of_order = record {
    opening = refl;
    durable = omega arith;
    sealed = omega arith;
    mark = omega arith;
    behind = refl;
    hand = omega arith;
    first = tt;
    some = tt;
    bodies = refl;
    dirty = refl;
    frames = refl;
    blocks = blocks;
    area = refl;
    stopped = refl;
    fits = fits;
  };
  of_keeper = record {
    geometry = refl;
    count = omega arith;
    base = omega (arith, based);
    turned = turned;
    lefts = lefts;
    generation = refl;
    phase = one;
    used = unused;
    failed = works;
    faults = refl;
    takes = tt;
    remembers = remembers;
  };
  of_states = idle_here connections;
  flags = refl;
  mode = refl;
  reached = Fresh _;
  shows = λ is_honest. let shown = shows is_honest in record { states = shown.states; bytes = shown.bytes };
  sure = sure;
  disk = λ is_honest. record {
    holds = λ going. holds is_honest;
    leaves = λ content left. record {
      count = 0;
      reaches = omega arith;
      within = omega arith;
      stands = subst (λ (n : ℕ). StandsFor content found n) (omega (arith, based)) (crash (keeper.base + 0 + 0) content (holds is_honest).keeps left);
    };
  };
}
