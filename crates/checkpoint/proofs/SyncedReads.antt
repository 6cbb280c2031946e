-- What is read of a device that is synced, one reading after another.
use Rattle.std.proofs.Common.{◌≡◌, ℕ, List, length, Result, Ok, Err, sym, ◌∙◌, subst}
use Rattle.std.proofs.lemmas.List.{ext_get_or}
use Rattle.std.specs.Result.{IsErrAnd, MatchResult}
use Rattle.disk_model.specs.Disk.{State, IsAllSynced, IsSound, IsSteady}
use Rattle.header_slots.specs.Slots.{HoldsHeader, IsReading}
use Rattle.header_slots.specs.declared.fault.HeaderFault.{HeaderFault}
use Rattle.header_slots.specs.declared.fault.HeaderFault.TheVariants as headers
use Rattle.header_slots.specs.declared.header.Header.{Header}
use Rattle.image_model.specs.declared.side.Side.{Side}
use Rattle.image_model.specs.declared.command.Kind.{Kind}
use Rattle.journal_format.specs.Reading.{IsOnlyRead}
use Rattle.regions.specs.Layout.{map_at}
use Rattle.regions.specs.Map.{HoldsMap, IsMapReading}
use Rattle.regions.specs.declared.fault.RegionFault.{RegionFault}
use Rattle.regions.specs.declared.fault.RegionFault.TheVariants as regions
use Rattle.checkpoint.specs.Faults.{of_header, of_region}
use Rattle.device_image.specs.Damage.{IsAreaDamaged}
use Rattle.checkpoint.specs.Opening.{IsRefused}
use Rattle.checkpoint.specs.inner.Opening.{IsGroupsRefused}
use Rattle.checkpoint.specs.declared.fault.KeeperFault.{KeeperFault}
use Rattle.checkpoint.specs.declared.fault.KeeperFault.TheVariants.{NoMemory, DeviceFault, BadMap, NoHeader, BadHeader, NumbersFull, AreaFull, OutOfOrder, DamagedGroup, NotNow, Failed, AreaSmall}

-- reads change nothing where no place is loose
pub seen_steady : {before after : State} → IsSteady before → IsOnlyRead before after → before.seen ≡ after.seen
seen_steady {before = before} {after = after} steady read =
    ext_get_or 0 before.seen after.seen (sym read.kept.seen.size) (λ place below. sym (read.kept.seen.same place (steady place)))

-- so it is on a device that is synced
pub seen_same : {extent : ℕ} {before after : State} → IsSound extent before → IsAllSynced before → IsOnlyRead before after → before.seen ≡ after.seen
seen_same sound synced read = seen_steady (λ place loose. synced place (sound.loose place loose)) read

pub still_synced : {before after : State} → IsAllSynced before → IsOnlyRead before after → IsAllSynced after
still_synced synced read place unsynced = synced place (read.kept.unsynced place unsynced)

-- a clause at the exit of a refusal
pub at_refusal : {X : Type 0} (P : X → Type 0) (Q : KeeperFault → Type 0) (result : Result X KeeperFault) (fault : KeeperFault) → IsErrAnd result (λ given. given ≡ fault) → Q fault → MatchResult result P Q
at_refusal P Q (Ok value) fault is holds = absurd is
at_refusal P Q (Err given) fault is holds = subst Q (sym is) holds

pub header_refused : (content : List ℕ) (size : ℕ) (fault : HeaderFault) → size ≡ length content → IsReading content size (Err fault) → IsRefused (of_header fault) content
header_refused content size headers.DeviceFault same reading = tt
header_refused content size headers.NoHeader same reading = subst (λ (n : ℕ). IsReading content n (Err headers.NoHeader)) same reading
header_refused content size headers.BadHeader same reading = subst (λ (n : ℕ). IsReading content n (Err headers.BadHeader)) same reading

pub header_read : (content : List ℕ) (size : ℕ) (header : Header) (slot : Side) → size ≡ length content → IsReading content size (Ok (header, slot)) → HoldsHeader content (length content) header slot
header_read content size header slot same reading = subst (λ (n : ℕ). HoldsHeader content n header slot) same reading

pub map_refused : (content : List ℕ) (header : Header) (slot : Side) (fault : RegionFault) → HoldsHeader content (length content) header slot
    → IsMapReading content (map_at header.geometry header.map_slot) header.geometry.blocks (Err fault) → IsRefused (of_region fault) content
map_refused content header slot regions.NoMemory in_force reading = tt
map_refused content header slot regions.DeviceFault in_force reading = tt
map_refused content header slot regions.BadMap in_force reading = record { header = header; slot = slot; in_force = in_force; map = reading }

pub groups_refused : (content : List ℕ) (header : Header) (slot : Side) (states : List Kind) (fault : KeeperFault) → HoldsHeader content (length content) header slot
    → HoldsMap content (map_at header.geometry header.map_slot) header.geometry.blocks states → IsGroupsRefused fault (IsAreaDamaged content header) → IsRefused fault content
groups_refused content header slot states NoMemory in_force map refused = tt
groups_refused content header slot states DeviceFault in_force map refused = tt
groups_refused content header slot states BadMap in_force map refused = absurd refused
groups_refused content header slot states NoHeader in_force map refused = absurd refused
groups_refused content header slot states BadHeader in_force map refused = absurd refused
groups_refused content header slot states NumbersFull in_force map refused = absurd refused
groups_refused content header slot states AreaFull in_force map refused = absurd refused
groups_refused content header slot states OutOfOrder in_force map refused = absurd refused
groups_refused content header slot states DamagedGroup in_force map refused = record { header = header; slot = slot; states = states; in_force = in_force; map = map; damaged = refused }
groups_refused content header slot states NotNow in_force map refused = absurd refused
groups_refused content header slot states Failed in_force map refused = absurd refused
groups_refused content header slot states AreaSmall in_force map refused = absurd refused

-- what a refusal says of damage, weakened
pub damage_weaker : {P Q : Type 0} (fault : KeeperFault) → (P → Q) → IsGroupsRefused fault P → IsGroupsRefused fault Q
damage_weaker NoMemory implies refused = tt
damage_weaker DeviceFault implies refused = tt
damage_weaker BadMap implies refused = refused
damage_weaker NoHeader implies refused = refused
damage_weaker BadHeader implies refused = refused
damage_weaker NumbersFull implies refused = refused
damage_weaker AreaFull implies refused = refused
damage_weaker OutOfOrder implies refused = refused
damage_weaker DamagedGroup implies refused = implies refused
damage_weaker NotNow implies refused = refused
damage_weaker Failed implies refused = refused
damage_weaker AreaSmall implies refused = refused

-- header and map still stand once more is read
module _ {extent : ℕ} (one two three : State) (sound : IsSound extent one) (also : IsSound extent two) (synced : IsAllSynced one) (second : IsOnlyRead one two) (third : IsOnlyRead two three) (header : Header) (slot : Side) (states : List Kind) where
  same_three : two.seen ≡ three.seen
  same_three = seen_same also (still_synced synced second) third

  pub header_stays : HoldsHeader one.seen (length one.seen) header slot → HoldsHeader three.seen (length three.seen) header slot
  header_stays = subst (λ (content : List ℕ). HoldsHeader content (length content) header slot) (seen_same sound synced second ∙ same_three)

  pub map_stays : HoldsMap two.seen (map_at header.geometry header.map_slot) header.geometry.blocks states → HoldsMap three.seen (map_at header.geometry header.map_slot) header.geometry.blocks states
  map_stays = subst (λ (content : List ℕ). HoldsMap content (map_at header.geometry header.map_slot) header.geometry.blocks states) same_three
