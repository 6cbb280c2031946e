use Rattle.std.proofs.Common.{◌≡◌, ◌∙◌, ◌+◌, ◌<◌, ℕ, List, ◌++◌, take, length, slice_index, Result, Ok, Err, refl, sym, ap, subst, rules, arith}
use Rattle.std.proofs.lemmas.List.{take-append-le, take_all}
use Rattle.std.specs.Result.{IsErrAnd}
use Rattle.alloc_map.specs.Map.{IsMapOf, IsBadMap}
use Rattle.alloc_map.specs.declared.map.AllocMap.{AllocMap}
use Rattle.image_model.specs.Geometry.{map_bytes_of}
use Rattle.regions.specs.declared.fault.RegionFault.{RegionFault}
use Rattle.regions.specs.declared.fault.RegionFault.TheVariants as faults
use Rattle.regions.specs.Layout.{map_at}
use Rattle.regions.specs.Map.{AreSlot, HoldsBadMap, IsMapReading}
use Rattle.regions.proofs.regions.Regions.read_slot.Goals as goal

refused : (content : List ℕ) (place blocks : ℕ) (result : Result AllocMap RegionFault) → IsErrAnd result (λ given. given ≡ faults.BadMap) → HoldsBadMap content place blocks
    → IsMapReading content place blocks result
refused content place blocks (Ok map) is bad = absurd is
refused content place blocks (Err given) is bad = subst (λ e. IsMapReading content place blocks (Err e)) (sym is) bad

-- a read fills the whole of a Vec
all_read : (read rest : List ℕ) (len : ℕ) → len ≡ length read → take len (read ++ rest) ≡ read
all_read read rest len is = take-append-le len read rest (omega arith) ∙ take_all len read (omega arith)

-- what was read are the slot's bytes
are_slot : (content read : List ℕ) (from place blocks : ℕ) → length read ≡ map_bytes_of blocks → from ≡ place
    → ((k : ℕ) → k < length read → slice_index read k ≡ slice_index content (from + k)) → AreSlot content place blocks read
are_slot content read from place blocks size at each = record {
  size = size;
  same = λ k below.
      let inside : k < length read = omega arith in
      each k inside ∙ ap (λ start. slice_index content (start + k)) at;
}

pub returns-in_err-from_bytes-clause-reading : goal.returns-in_err-from_bytes-clause-reading
returns-in_err-from_bytes-clause-reading g c = λ honest.
    let blocks = c.args.self.now.geometry.blocks in
    let count : c.in_ok-bytes.bytes.len ≡ length c.read.new.into = search rules in
    let size : length c.read.new.into ≡ map_bytes_of blocks = search rules in
    let at : c.map_from.result ≡ map_at c.args.self.now.geometry c.args.slot = search rules in
    let bad : IsBadMap blocks c.read.new.into =
    subst (λ (list : List ℕ). IsBadMap blocks list) (all_read c.read.new.into _ c.in_ok-bytes.bytes.len count) (c.in_err-from_bytes.ensures.bad_map.0 refl) in
    refused _ _ _ _ c.from_residual-in_err-from_bytes.ensures.1
    (record { bytes = c.read.new.into; slot = are_slot _ c.read.new.into _ _ blocks size at (c.in_ok-read.ensures.bytes honest); bad = bad })

pub returns-clause-reading : goal.returns-clause-reading
returns-clause-reading g c = λ honest.
    let blocks = c.args.self.now.geometry.blocks in
    let count : c.in_ok-bytes.bytes.len ≡ length c.read.new.into = search rules in
    let size : length c.read.new.into ≡ map_bytes_of blocks = search rules in
    let at : c.map_from.result ≡ map_at c.args.self.now.geometry c.args.slot = search rules in
    record {
      bytes = c.read.new.into;
      slot = are_slot _ c.read.new.into _ _ blocks size at (c.in_ok-read.ensures.bytes honest);
      count = c.in_ok-from_bytes.ensures.blocks;
      map = subst (λ (list : List ℕ). IsMapOf list c.in_ok-from_bytes.field-0) (all_read c.read.new.into _ c.in_ok-bytes.bytes.len count) c.in_ok-from_bytes.ensures.states;
    }
