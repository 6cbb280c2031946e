use Rattle.std.proofs.Common.{◌≡◌, List, ℕ, reverse, refl, arith, length, sym, ◌∙◌, ap}
use Rattle.disk_model.specs.History.{patched, synced_content}
use Rattle.disk_model.proofs.Unwinding.{fits_last, unwinds_more, synced_rest}
use Rattle.disk_model.proofs.history.roll_back.Goals as goal

pub overwrite-requires : goal.overwrite-requires
overwrite-requires c =
    let fits = fits_last _ c.pop_write.new.history.items c.in-Some.write c.in-Some.ensures.newest _ c.loop-write.invariant.unwinds.inside in
    omega (arith, ap length c.deref.ensures.value, fits)

pub loop-write-preserved : goal.loop-write-preserved
loop-write-preserved c =
    let rest = c.pop_write.new.history.items in
    let last = c.in-Some.ensures.newest in
    let is : c.overwrite.new.bytes.items ≡ patched c.loop-write.bytes.items c.in-Some.write.offset c.in-Some.write.before.items = c.overwrite.ensures ∙ ap (λ (bytes : List ℕ). patched c.loop-write.bytes.items c.in-Some.write.offset bytes) c.deref.ensures.value in
    record {
      unwinds = unwinds_more _ rest c.in-Some.write last _ _ _ is refl _ _ c.loop-write.invariant.unwinds;
      content = ap (λ (content : List ℕ). synced_content (reverse rest) content) is ∙ sym (synced_rest _ rest c.in-Some.write last c.loop-write.bytes.items) ∙ c.loop-write.invariant.content;
    }
