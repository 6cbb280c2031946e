use Rattle.std.proofs.Common.{◌≡◌, ◌∙◌, ◌==◌, ℕ, ◌<◌, true, false, if◌then◌else◌, List, [], ◌∷◌, ◌++◌, length, Result, Ok, Err, is_ok, ap, sym, refl, inr, arith}
use Rattle.std.proofs.lemmas.Bool.Decides.{nat_tests}
use Rattle.std.specs.Prelude.{is_err, min}
use Rattle.nbd_wire.specs.inner.State.{wanted_of}
use Rattle.nbd_wire.specs.laws.Streams.{Step-none, Step-some, Step-starved, state_failed}
use Rattle.nbd_wire.proofs.UnfinishedPiece.{Quiet-next}
use Rattle.nbd_wire.proofs.stream.read_all.Goals as goal

some_left : (count : ℕ) → (count == 0) ≡ false → 0 < count
some_left count is = grind (arith, nat_tests)

-- what an answer says of a list that is changed only at Ok
at_ok : {X T E : Type 0} (answer : Result T E) (more old new : List X) → new ≡ (if is_ok answer then more else old) → is_err answer ≡ false → new ≡ more
at_ok (Ok value) more old new is ok = is
at_ok (Err error) more old new is ok = cc

at_err : {X T E : Type 0} (answer : Result T E) (more old new : List X) → new ≡ (if is_ok answer then more else old) → is_err answer ≡ true → new ≡ old
at_err (Ok value) more old new is err = cc
at_err (Err error) more old new is err = is

pub returns-in_default-advance : goal.returns-in_default-advance
returns-in_default-advance g c =
    let some : 0 < length c.loop-rest.rest.now = some_left _ (sym c.is_empty.ensures ∙ c.loop-rest-test.true) in
    let count : c.min.result ≡ min (length c.loop-rest.rest.now) (wanted_of c.loop-rest.state) = c.min.ensures ∙ ap (λ (most : ℕ). min (length c.loop-rest.rest.now) most) c.wanted.ensures.value in
    record {
      sound = tt;
      reads = Step-starved _ _ _ _ _ _ c.loop-rest.invariant.step refl;
      part = λ part.
          let quiet = Quiet-next _ _ _ _ _ _ _ _ _ part (c.loop-rest.invariant.part part) some c.loop-rest.invariant.sound count c.split_at.ensures.front c.split_at.ensures.back c.in_default-advance.ensures.part in
          absurd quiet.1;
      ended = λ fault was. absurd (c.in_default.not-Failed fault (state_failed c.args.state fault was));
    }

pub returns-then-is_err : goal.returns-then-is_err
returns-then-is_err g c =
    let unchanged : c.push.new.self.items ≡ c.loop-rest.requests.items = at_err c.push.result _ _ _ c.push.ensures.items (sym c.is_err.ensures.value ∙ c.if-is_err.true) in
    let some : 0 < length c.loop-rest.rest.now = some_left _ (sym c.is_empty.ensures ∙ c.loop-rest-test.true) in
    let count : c.min.result ≡ min (length c.loop-rest.rest.now) (wanted_of c.loop-rest.state) = c.min.ensures ∙ ap (λ (most : ℕ). min (length c.loop-rest.rest.now) most) c.wanted.ensures.value in
    record {
      sound = tt;
      reads = Step-starved _ _ _ _ _ _ c.loop-rest.invariant.step unchanged;
      part = λ part.
          let quiet = Quiet-next _ _ _ _ _ _ _ _ _ part (c.loop-rest.invariant.part part) some c.loop-rest.invariant.sound count c.split_at.ensures.front c.split_at.ensures.back c.in-Ok.ensures.part in
          absurd (cc (quiet.1.0, c.in-Some.is));
      ended = λ fault was. absurd (c.in_default.not-Failed fault (state_failed c.args.state fault was));
    }

pub loop-rest-preserved-else-is_err : goal.loop-rest-preserved-else-is_err
loop-rest-preserved-else-is_err g c =
    let parts : c.loop-rest.rest.now ≡ c.split_at.result.0.now ++ c.split_at.result.1.now = c.split_at.ensures.by_index.0 in
    let pushed : c.push.new.self.items ≡ c.loop-rest.requests.items ++ c.in-Some.request ∷ [] = at_ok c.push.result _ _ _ c.push.ensures.items (sym c.is_err.ensures.value ∙ c.if-is_err.false) in
    let some : 0 < length c.loop-rest.rest.now = some_left _ (sym c.is_empty.ensures ∙ c.loop-rest-test.true) in
    let count : c.min.result ≡ min (length c.loop-rest.rest.now) (wanted_of c.loop-rest.state) = c.min.ensures ∙ ap (λ (most : ℕ). min (length c.loop-rest.rest.now) most) c.wanted.ensures.value in
    record {
      sound = c.in-Ok.ensures.sound;
      step = Step-some _ _ _ _ _ _ _ _ _ _ _ c.loop-rest.invariant.step parts c.in-Ok.ensures.reads c.in-Some.is pushed;
      part = λ part.
          let quiet = Quiet-next _ _ _ _ _ _ _ _ _ part (c.loop-rest.invariant.part part) some c.loop-rest.invariant.sound count c.split_at.ensures.front c.split_at.ensures.back c.in-Ok.ensures.part in
          absurd (cc (quiet.1.0, c.in-Some.is));
    }

pub loop-rest-preserved : goal.loop-rest-preserved
loop-rest-preserved g c =
    let parts : c.loop-rest.rest.now ≡ c.split_at.result.0.now ++ c.split_at.result.1.now = c.split_at.ensures.by_index.0 in
    let some : 0 < length c.loop-rest.rest.now = some_left _ (sym c.is_empty.ensures ∙ c.loop-rest-test.true) in
    let count : c.min.result ≡ min (length c.loop-rest.rest.now) (wanted_of c.loop-rest.state) = c.min.ensures ∙ ap (λ (most : ℕ). min (length c.loop-rest.rest.now) most) c.wanted.ensures.value in
    record {
      sound = c.in-Ok.ensures.sound;
      step = Step-none _ _ _ _ _ _ _ _ _ c.loop-rest.invariant.step parts c.in-Ok.ensures.reads c.in_default-request.is;
      part = λ part.
          let quiet = Quiet-next _ _ _ _ _ _ _ _ _ part (c.loop-rest.invariant.part part) some c.loop-rest.invariant.sound count c.split_at.ensures.front c.split_at.ensures.back c.in-Ok.ensures.part in
          record { none = (c.loop-rest.invariant.part part).none; place = inr (quiet.0, quiet.1.1) };
    }
