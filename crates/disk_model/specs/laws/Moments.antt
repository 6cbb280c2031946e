-- How the clauses on every moment of several device calls go together into that of the function that makes them.
--
-- A crate above cites these by `use Rattle.disk_model.specs.laws.Moments.{weakens, goes_on, ..}`. Its clause is
-- `D.honest disk.old → .. → LeavesOnly (D.state disk.old) (D.state disk.new) P`, and the answer for an exit is one line
-- for each call before it: `begins` where there is none, `weakens` at the first call, `goes_on` at each further write,
-- `stays_on` at each further read or sync. For `write_synced(disk, a, x)?; write_synced(disk, b, y)?` it reads
--
--     returns-clause-any_moment g c = λ honest.
--         let honest' = c.write_synced.ensures.honest.1 honest in
--         let first = weakens (c.write_synced.ensures.any_moment honest) (λ content torn. ..) in
--         goes_on first (c.write_synced-2.ensures.any_moment honest') (λ content torn. ..)
--
-- where `torn : MayLeaveTorn ..` has to show P of the content. The law of a device is `g.met.D.Disk.sound disk honest`.
-- `ends` leads from the clause to what a crash at the end may leave.
use Rattle.std.proofs.Common.{inl, inr, ⊎_elim, ℕ, List, arith}
use Rattle.disk_model.specs.Disk.{State, MayLeave, LeavesOnly, IsSound}

-- before the first call
pub begins : {extent : ℕ} {now : State} {P : List ℕ → Type 0} → IsSound extent now → ((content : List ℕ) → MayLeave now content → P content) → LeavesOnly now now P
begins sound here = record {
  later = omega arith;
  each = λ content left. here content (sound.only_now content left);
  adds = λ moment content before left. inl left;
  keeps = λ moment content before left. left;
}

-- what has P has Q
pub weakens : {before after : State} {P Q : List ℕ → Type 0} → LeavesOnly before after P → ((content : List ℕ) → P content → Q content) → LeavesOnly before after Q
weakens so_far implies = record {
  later = so_far.later;
  each = λ content left. implies content (so_far.each content left);
  adds = λ moment content earlier left. ⊎_elim (λ was. inl was) (λ has. inr (implies content has)) (so_far.adds moment content earlier left);
  keeps = so_far.keeps;
}

-- one call more, whose own clause says Q
pub goes_on : {before mid after : State} {P Q : List ℕ → Type 0} → LeavesOnly before mid P → LeavesOnly mid after Q → ((content : List ℕ) → Q content → P content) → LeavesOnly before after P
goes_on {before} so_far call implies = record {
  later = omega (arith, so_far.later, call.later);
  each = λ content left. ⊎_elim (λ was. so_far.each content was) (λ has. implies content has) (call.adds before.moment content so_far.later left);
  adds = λ moment content earlier left. ⊎_elim (λ was. so_far.adds moment content earlier was) (λ has. inr (implies content has)) (call.adds moment content (omega (arith, earlier, so_far.later)) left);
  keeps = λ moment content earlier left. call.keeps moment content (omega (arith, earlier, so_far.later)) (so_far.keeps moment content earlier left);
}

-- what a crash now may leave
pub ends : {extent : ℕ} {before after : State} {P : List ℕ → Type 0} → LeavesOnly before after P → IsSound extent after → (content : List ℕ) → MayLeave after content → P content
ends {before = before} so_far sound content now = so_far.each content (sound.counts_now before.moment content so_far.later now)

-- one read or sync more
pub stays_on : {extent : ℕ} {before mid after : State} {P : List ℕ → Type 0} → LeavesOnly before mid P → IsSound extent mid → LeavesOnly mid after (MayLeave mid) → LeavesOnly before after P
stays_on so_far sound call = goes_on so_far call (ends so_far sound)
