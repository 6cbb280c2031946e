-- What an option is answered, by what the session has agreed on (docs/FORMATS.md, "Handshake").
use Rattle.std.specs.Prelude.{◌≡◌, ◌⊎◌, ℕ, ◌*◌, ◌<◌, ◌^◌, Bool, true, false, not, ◌==◌, ◌||◌, if◌then◌else◌, List, [], ◌∷◌, ◌++◌, length, codes, Option, Some, None}
use Rattle.std.specs.List.{AllByRecursion, flat_map, list_any}
use Rattle.std.specs.Str.{bytes_eq}
use Rattle.image_model.specs.declared.geometry.Geometry.{Geometry}
use Rattle.nbd_wire.specs.declared.message.SessionFlags.{SessionFlags}
use Rattle.option_wire.specs.Export.{export_bytes}
use Rattle.option_wire.specs.Field.{ContextAsked, InfoAsked}
use Rattle.option_wire.specs.Options.{IsOption}
use Rattle.option_wire.specs.declared.export.ExportAnswer.{ExportAnswer}
use Rattle.option_wire.specs.declared.option.ClientOption.{ClientOption}
use Rattle.option_wire.specs.declared.option.ClientOption.TheVariants as options
use Rattle.option_wire.specs.declared.reply.Information.TheVariants as informations
use Rattle.option_wire.specs.declared.reply.OptionError.{OptionError}
use Rattle.option_wire.specs.declared.reply.OptionError.TheVariants as errors
use Rattle.option_wire.specs.declared.reply.OptionReply.{OptionReply}
use Rattle.option_wire.specs.declared.reply.OptionReply.TheVariants as messages
use Rattle.option_wire.specs.Reply.{reply_bytes, reply_data}
use Rattle.negotiation.specs.declared.answer.Agreed.{Agreed}
use Rattle.negotiation.specs.declared.answer.Next.{Next}
use Rattle.negotiation.specs.declared.answer.Next.TheVariants as behind

-- the only export: its size in bytes, its name, and whether FLUSH and FUA are offered
pub record Offer : Type 0 where
  pub size : ℕ
  pub name : List ℕ
  pub flushes : Bool

-- that of an image of this geometry
abbrev pub offered : Geometry → List ℕ → Bool → Offer
offered geometry name flushes = record { size = 4096 * geometry.blocks; name = name; flushes = flushes }

-- What an option is answered: replies, and where an EXPORT_NAME begins transmission the export; what is agreed on from then on,
-- and what comes after it.
pub record Answered : Type 0 where
  pub replies : List OptionReply
  pub export : Option ExportAnswer
  pub agreed : Agreed
  pub next : Next

-- another option comes
abbrev pub goes_on : List OptionReply → Agreed → Answered
goes_on replies agreed = record { replies = replies; export = None; agreed = agreed; next = behind.Option }

abbrev pub refused : OptionError → Agreed → Answered
refused error agreed = goes_on (messages.Refused error ∷ []) agreed

-- the context that there is, and the namespace that it is alone in
abbrev pub allocation_name : List ℕ
allocation_name = codes "base:allocation"

abbrev pub namespace_name : List ℕ
namespace_name = codes "base:"

abbrev pub context_reply : ℕ → OptionReply
context_reply id = messages.MetaContext id allocation_name

-- the sizes of blocks: minimum, preferred, and the longest READ or WRITE
abbrev pub size_reply : OptionReply
size_reply = messages.Info (informations.BlockSize 1 4096 1048576)

-- the transmission flags of the export
abbrev pub export_flags : Offer → SessionFlags → ℕ
export_flags offer flags =
    if offer.flushes then (if flags.structured then 0x01ed else 0x016d) else (if flags.structured then 0x01e1 else 0x0161)

-- the size of the export in bytes, and its transmission flags
abbrev pub export_reply : Offer → Agreed → OptionReply
export_reply offer agreed = messages.Info (informations.Export offer.size (export_flags offer agreed.flags))

-- the same for an EXPORT_NAME, with zeroes after it unless both sides set NO_ZEROES
abbrev pub export_answer : Offer → Agreed → ExportAnswer
export_answer offer agreed = record { size = offer.size; flags = export_flags offer agreed.flags; zeroes = not agreed.no_zeroes }

-- whether a name is that of the only export
abbrev pub is_export : Offer → List ℕ → Bool
is_export offer name = bytes_eq name offer.name

-- The name of an EXPORT_NAME can't be refused: one of no export ends the session.
abbrev pub named : Agreed → Offer → List ℕ → Answered
named agreed offer name =
    if is_export offer name then
    record { replies = []; export = Some (export_answer offer agreed); agreed = agreed; next = behind.Transmission }
    else record { replies = []; export = None; agreed = agreed; next = behind.Fault }

-- An INFO, or a GO, which next comes after. A client that asks for the sizes of blocks is told them.
abbrev pub informed : Agreed → Offer → InfoAsked → Next → Answered
informed agreed offer asked next =
    if is_export offer asked.name then
    record {
      replies = export_reply offer agreed
          ∷ (if list_any (λ kind. kind == 3) asked.types then size_reply ∷ messages.Ack ∷ [] else messages.Ack ∷ []);
      export = None;
      agreed = agreed;
      next = next;
    }
    else refused errors.Unknown agreed

abbrev pub asks_for : List ℕ → List (List ℕ) → Bool
asks_for name queries = list_any (λ query. bytes_eq query name) queries

-- whether the context is told where contexts are listed; no query at all asks for all contexts
abbrev pub is_listed : List (List ℕ) → Bool
is_listed queries = (length queries == 0) || (asks_for namespace_name queries || asks_for allocation_name queries)

abbrev pub listed : Agreed → Offer → ContextAsked → Answered
listed agreed offer asked =
    if agreed.flags.structured then
    (if is_export offer asked.name then
    goes_on (if is_listed asked.queries then context_reply 0 ∷ messages.Ack ∷ [] else messages.Ack ∷ []) agreed
    else refused errors.Unknown agreed)
    else refused errors.Invalid agreed

abbrev pub with_context : Bool → Agreed → Agreed
with_context context agreed =
    record { flags = record { structured = agreed.flags.structured; context = context }; no_zeroes = agreed.no_zeroes }

abbrev pub with_structured : Agreed → Agreed
with_structured agreed =
    record { flags = record { structured = true; context = agreed.flags.context }; no_zeroes = agreed.no_zeroes }

-- A selection takes the place of the earlier one; where it is refused none is selected.
abbrev pub selected : Agreed → Offer → ContextAsked → Answered
selected agreed offer asked =
    if agreed.flags.structured then
    (if is_export offer asked.name then
    (if asks_for allocation_name asked.queries then
    goes_on (context_reply 1 ∷ messages.Ack ∷ []) (with_context true agreed)
    else goes_on (messages.Ack ∷ []) (with_context false agreed))
    else refused errors.Unknown (with_context false agreed))
    else refused errors.Invalid (with_context false agreed)

abbrev pub answer_of : Agreed → Offer → ClientOption → Answered
answer_of agreed offer (options.ExportName name) = named agreed offer name
answer_of agreed offer options.Abort =
    record { replies = messages.Ack ∷ []; export = None; agreed = agreed; next = behind.End }
answer_of agreed offer options.ListExports = goes_on (messages.Server offer.name ∷ messages.Ack ∷ []) agreed
answer_of agreed offer options.StartTls = refused errors.Unsupported agreed
answer_of agreed offer (options.Info asked) = informed agreed offer asked behind.Option
answer_of agreed offer (options.Go asked) = informed agreed offer asked behind.Transmission
answer_of agreed offer options.StructuredReply = goes_on (messages.Ack ∷ []) (with_structured agreed)
answer_of agreed offer (options.ListMetaContext asked) = listed agreed offer asked
answer_of agreed offer (options.SetMetaContext asked) = selected agreed offer asked
answer_of agreed offer (options.Unknown code) = refused errors.Unsupported agreed

-- an option whose data aren't read; a selection that is refused leaves none
abbrev pub refusal_of : Agreed → ℕ → OptionError → Answered
refusal_of agreed code error = refused error (if code == 10 then with_context false agreed else agreed)

-- The answer to an option of this number with these data: malformed data are refused as invalid.
abbrev pub IsAnswered : Agreed → Offer → ℕ → List ℕ → Answered → Type 0
IsAnswered agreed offer code content answer =
    ((option : ClientOption) × IsOption code content option × (answer ≡ answer_of agreed offer option))
    ⊎ (((option : ClientOption) → IsOption code content option → ⊥) × (answer ≡ refusal_of agreed code errors.Invalid))

-- replies whose data have room for their length
abbrev pub AreShort : List OptionReply → Type 0
AreShort replies = AllByRecursion (λ reply. length (reply_data reply) < 2 ^ 32) replies

-- the replies to the option of this number, one after the other
abbrev pub replies_bytes : ℕ → List OptionReply → List ℕ
replies_bytes code replies = flat_map (reply_bytes code) replies

abbrev pub export_text : Option ExportAnswer → List ℕ
export_text None = []
export_text (Some export) = export_bytes export

-- what is written for the option of this number
abbrev pub answer_bytes : ℕ → Answered → List ℕ
answer_bytes code answer = replies_bytes code answer.replies ++ export_text answer.export
