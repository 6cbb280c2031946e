-- What the log of a server has of its sessions.
use Rattle.std.proofs.Common.{◌≡◌, ◌≢◌, ◌⊎◌, Bool, true, false, eqb, get_or, set, ℕ, zero, suc, List, [], ◌∷◌, ◌++◌, Option, Result, inl, inr, refl, sym, ap, subst, ◌∙◌, ◌+◌, length, arith}
use Rattle.std.proofs.Math.Logic.{∥∥₁_map}
use Rattle.std.proofs.lemmas.Bool.Decides.{eqb_tells}
use Rattle.std.proofs.lemmas.Grind.{merely}
use Rattle.std.proofs.lemmas.List.{get_or-set_other}
use Rattle.export.specs.Clients.{new_client_pass, new_client_passes}
use Rattle.export.specs.Submits.{IsReplied}
use Rattle.export_model.specs.OneLog.{Call}
use Rattle.export_model.specs.declared.event.Event.{Event}
use Rattle.export_model.specs.declared.event.Event.TheVariants.{Answered, Sent}
use Rattle.export_model.specs.declared.step.Mode.{Mode}
use Rattle.image_model.specs.Image.{Image}
use Rattle.image_model.specs.declared.geometry.Geometry.{Geometry}
use Rattle.marks.specs.Known.{PassState}
use Rattle.nbd_wire.specs.Request.{Message}
use Rattle.nbd_wire.specs.declared.message.Reply.{Reply}
use Rattle.nbd_wire.specs.declared.message.SessionFlags.{SessionFlags}
use Rattle.negotiation.specs.Answered.{Offer}
use Rattle.negotiation.specs.Serving.{IsServed}
use Rattle.negotiation.specs.Talk.{AreSteps, Exchange, IsStep}
use Rattle.negotiation.specs.declared.end.End.{End}
use Rattle.server.specs.Sessions.{AreServed, HasCall, HasSessions, IsLogged, IsSession, IsShare}

abbrev by_of : PassState → ℕ
by_of pass = pass.client.by

abbrev mine_of : PassState → List Event
mine_of pass = pass.client.mine

-- a relation of passes whose steps log the request and its answer
module _ (allows : PassState → Message → SessionFlags → PassState → Reply → Type 0) (geometry : Geometry) (by : ℕ)
    (logs : (old new : PassState) (request : Message) (flags : SessionFlags) (reply : Reply) → allows old request flags new reply → old.client.by ≡ by
    → (new.client.by ≡ by) × IsLogged geometry by old.client.mine request flags new.client.mine reply) where
  step_logged : (flags : SessionFlags) (old new : PassState) (exchange : Exchange) → old.client.by ≡ by → IsStep allows flags old exchange new
      → (new.client.by ≡ by) × IsStep (IsLogged geometry by) flags old.client.mine exchange new.client.mine
  step_logged flags old new exchange is (inl p) = (ap by_of p.1 ∙ is, inl (p.0, ap mine_of p.1, p.2))
  step_logged flags old new exchange is (inr p) =
      let logged = logs old new exchange.request flags exchange.reply p.1 is in (logged.0, inr (p.0, logged.1, p.2, p.3))

  steps_logged : (flags : SessionFlags) (old new : PassState) (exchanges : List Exchange) → old.client.by ≡ by → AreSteps allows flags old exchanges new
      → (new.client.by ≡ by) × AreSteps (IsLogged geometry by) flags old.client.mine exchanges new.client.mine
  steps_logged flags old new [] is same = (ap by_of same ∙ is, ap mine_of same)
  steps_logged flags old new (exchange ∷ exchanges) is p =
      let first = step_logged flags old p.0 exchange is p.1 in let rest = steps_logged flags p.0 new exchanges first.0 p.2 in
      (rest.0, (p.0.client.mine, first.1, rest.1))

  pub session_served : (offer other : Offer) (old new : PassState) (input left output made : Option (List ℕ)) (end : Result (Unit {0}) End) → offer ≡ other → old.client.by ≡ by
      → IsServed allows offer old new input left output made end → IsServed (IsLogged geometry by) other old.client.mine new.client.mine input left output made end
  session_served offer other old new input left output made end same is served =
      let logged = steps_logged served.outcome.agreed.flags old new served.exchanges is served.steps in subst (λ (o : Offer). IsServed (IsLogged geometry by) o old.client.mine new.client.mine input left output made end) same (record {
        stream = served.stream;
        unheard = served.unheard;
        outcome = served.outcome;
        exchanges = served.exchanges;
        unanswered = served.unanswered;
        text = served.text;
        unsent = served.unsent;
        read = served.read;
        owed = served.owed;
        steps = logged.1;
        written = served.written;
        ends = served.ends;
      })

  pub session_logged : (offer : Offer) (old new : PassState) (input left output made : Option (List ℕ)) (end : Result (Unit {0}) End) → old.client.by ≡ by
      → IsServed allows offer old new input left output made end → (new.client.by ≡ by) × IsSession offer geometry by old.client.mine new.client.mine
  session_logged offer old new input left output made end is served =
      let logged = steps_logged served.outcome.agreed.flags old new served.exchanges is served.steps in (
        logged.0,
        record {
          input = input;
          left = left;
          output = output;
          made = made;
          end = end;
          served = record {
            stream = served.stream;
            unheard = served.unheard;
            outcome = served.outcome;
            exchanges = served.exchanges;
            unanswered = served.unanswered;
            text = served.text;
            unsent = served.unsent;
            read = served.read;
            owed = served.owed;
            steps = logged.1;
            written = served.written;
            ends = served.ends;
          };
        },
      )

-- one session more
pub session_more : (offer : Offer) (geometry : Geometry) (several : Bool) (by now : ℕ) (earlier events : List Event) → now ≡ by → HasSessions offer geometry several by earlier
    → IsSession offer geometry by earlier events → HasSessions offer geometry several now events
session_more offer geometry several by now earlier events same before session =
    subst (λ (n : ℕ). HasSessions offer geometry several n events) (sym same) (∥∥₁_map before (λ sessions. (suc sessions.0, (earlier, sessions.1, inl session))))

-- one share of a session more
pub share_more : (offer : Offer) (geometry : Geometry) (several : Bool) (by now : ℕ) (earlier events : List Event) → now ≡ by → several ≡ true → HasSessions offer geometry several by earlier
    → IsShare geometry by earlier events → HasSessions offer geometry several now events
share_more offer geometry several by now earlier events same is before share =
    subst (λ (n : ℕ). HasSessions offer geometry several n events) (sym same) (∥∥₁_map before (λ sessions. (suc sessions.0, (earlier, sessions.1, inr (is, share)))))

-- a request got its reply, for one client
pub replied_logged : (opening : ℕ) (first : Image) (Sure : Type 0 → Type 0) (kept : Mode) (geometry : Geometry) (by : ℕ) (request : Message) (flags : SessionFlags) (old new : PassState) (reply : Reply) → old.client.by ≡ by
    → IsReplied opening first Sure request kept geometry flags old new reply → IsLogged geometry by old.client.mine request flags new.client.mine reply
replied_logged opening first Sure kept geometry by request flags old new reply same is =
    (subst (λ (n : ℕ). new.client.mine ≡ old.client.mine ++ Sent n request ∷ Answered n reply.answer ∷ []) same is.calls, is.judged)

pub replied_share : (opening : ℕ) (first : Image) (Sure : Type 0 → Type 0) (kept : Mode) (geometry : Geometry) (by : ℕ) (request : Message) (flags : SessionFlags) (old new : PassState) (reply : Reply) → old.client.by ≡ by
    → IsReplied opening first Sure request kept geometry flags old new reply → IsShare geometry by old.client.mine new.client.mine
replied_share opening first Sure kept geometry by request flags old new reply same is = record {
  request = request;
  flags = flags;
  reply = reply;
  kind = is.kind;
  logged = replied_logged opening first Sure kept geometry by request flags old new reply same is;
}

-- one client more
pub served_more : (offer : Offer) (geometry : Geometry) (several : Bool) (calls : List Call) (call : Call) → AreServed offer geometry several calls → HasSessions offer geometry several call.by call.events
    → AreServed offer geometry several (calls ++ call ∷ [])
served_more offer geometry several [] call before is = (is, tt)
served_more offer geometry several (first ∷ calls) call before is = (before.0, served_more offer geometry several calls call before.1 is)

-- a client that has sent nothing
pub none_yet : (offer : Offer) (geometry : Geometry) (several : Bool) (by : ℕ) → HasSessions offer geometry several by []
none_yet offer geometry several by = merely (zero, refl)

-- the calls have the ones that they had, and the one that was added
pub still_has : (by : ℕ) (calls : List Call) (call : Call) → HasCall by calls → HasCall by (calls ++ call ∷ [])
still_has by [] call has = absurd has
still_has by (first ∷ calls) call (inl is) = inl is
still_has by (first ∷ calls) call (inr has) = inr (still_has by calls call has)

pub has_added : (calls : List Call) (call : Call) → HasCall call.by (calls ++ call ∷ [])
has_added [] call = inl refl
has_added (first ∷ calls) call = inr (has_added calls call)

-- which of the passes have joined, after that of this number did
pub joined_more : (joined : List Bool) (calls : List Call) (call : Call) (number : ℕ) → call.by ≡ number → ((by : ℕ) → get_or joined by false ≡ true → ∥ HasCall by calls ∥₁)
    → (by : ℕ) → get_or (set joined number true) by false ≡ true → ∥ HasCall by (calls ++ call ∷ []) ∥₁
joined_more joined calls call number is has by marked = by_case (eqb_tells by number)
  where
    by_case : ((eqb by number ≡ true) × (by ≡ number)) ⊎ ((eqb by number ≡ false) × (by ≢ number)) → ∥ HasCall by (calls ++ call ∷ []) ∥₁
    by_case (inl same) = merely (subst (λ (n : ℕ). HasCall n (calls ++ call ∷ [])) (is ∙ sym same.1) (has_added calls call))
    by_case (inr other) = ∥∥₁_map (has by (sym (get_or-set_other joined number by true false other.1) ∙ marked)) (still_has by calls call)

but_last : List PassState → List PassState
but_last [] = []
but_last (pass ∷ []) = []
but_last (pass ∷ next ∷ passes) = pass ∷ but_last (next ∷ passes)

last_or : PassState → List PassState → PassState
last_or default [] = default
last_or default (pass ∷ passes) = last_or pass passes

but_last_is : (passes : List PassState) (pass : PassState) → but_last (passes ++ pass ∷ []) ≡ passes
unfolding but_last
but_last_is [] pass = refl
but_last_is (first ∷ []) pass = refl
but_last_is (first ∷ next ∷ passes) pass = ap (λ (l : List PassState). first ∷ l) (but_last_is (next ∷ passes) pass)

last_is : (default : PassState) (passes : List PassState) (pass : PassState) → last_or default (passes ++ pass ∷ []) ≡ pass
unfolding last_or
last_is default [] pass = refl
last_is default (first ∷ passes) pass = last_is first passes pass

-- The last of an export's new passes is that of the client with the greatest number.
pub last_new : (opening count : ℕ) (front : List PassState) (pass : PassState) → front ++ pass ∷ [] ≡ new_client_passes opening count → length front + 1 ≡ count
    → (front ≡ new_client_passes opening (length front)) × (pass ≡ new_client_pass opening (length front))
last_new opening count front pass same size =
    let counted : new_client_passes opening count ≡ new_client_passes opening (suc (length front)) = let number : count ≡ suc (length front) = omega (arith, size) in ap (λ (n : ℕ). new_client_passes opening n) number in
    let whole : front ++ pass ∷ [] ≡ new_client_passes opening (length front) ++ new_client_pass opening (length front) ∷ [] = same ∙ counted in (
      sym (but_last_is front pass) ∙ ap but_last whole ∙ but_last_is (new_client_passes opening (length front)) (new_client_pass opening (length front)),
      sym (last_is pass front pass) ∙ ap (last_or pass) whole ∙ last_is pass (new_client_passes opening (length front)) (new_client_pass opening (length front)),
    )
