-- What a pipe writes for what it reads, by docs/FORMATS.md, "Stream" and "When a reply is made".
use Rattle.std.specs.Prelude.{ℕ, ◌≡◌, ◌≢◌, ◌⊎◌, List, [], ◌∷◌, ◌++◌, Option, Some, None, Result, Ok, Err, OnOk, IfErr, IsErrOf}
use Rattle.std.specs.Io.KnownBytes.{Appends, Consumes, IsAtEnd, Keeps}
use Rattle.std.specs.List.{AllByRecursion}
use Rattle.checkpoint.specs.Keeper.{faults_by}
use Rattle.checkpoint.specs.Opening.{IsOpening}
use Rattle.checkpoint.specs.declared.fault.KeeperFault.{KeeperFault}
use Rattle.disk_model.specs.Disk.{State}
use Rattle.nbd_wire.specs.Request.{Message}
use Rattle.nbd_wire.specs.Stream.{Begins, Reader, Reads, end_of, failed, reading, starved}
use Rattle.nbd_wire.specs.declared.error.RequestFault.{RequestFault}
use Rattle.front_end.specs.Refusals.{of_keeper}
use Rattle.nbdj_pipe.specs.Refusals.{IsOfSession}
use Rattle.nbdj_pipe.specs.Talk.{Exchange, asked, dialog}
use Rattle.front_end.specs.declared.refusal.Refusal.{Refusal}
use Rattle.front_end.specs.declared.refusal.Refusal.TheVariants.{DeviceFault, PeerClosed, ProtocolEnd}

-- What became of the requests that were read: the first of them were answered in turn, and the others have no answer. The
-- first of the others may have been sent to the export all the same. The text is what was written of the replies.
pub record Conversation : Type 0 where
  pub exchanges : List Exchange
  pub unanswered : List Message
  pub last : Option Message
  pub text : List ℕ

-- what was sent without an answer, if anything, is the first request that has none
abbrev pub IsFirst : Option Message → List Message → Type 0
IsFirst None unanswered = Unit {0}
IsFirst (Some request) unanswered = (more : List Message) × (unanswered ≡ request ∷ more)

-- These requests were read; only requests that aren't a DISC are answered, and the text is a beginning of the replies.
pub record IsServed (requests : List Message) (told : Conversation) : Type 0 where
  pub all : requests ≡ asked told.exchanges ++ told.unanswered
  pub no_disc : AllByRecursion (λ (exchange : Exchange). exchange.request.head.kind ≢ 2) told.exchanges
  pub first : IsFirst told.last told.unanswered
  pub begins : (rest : List ℕ) × (dialog told.exchanges ≡ told.text ++ rest)

-- every request is answered, and each reply is written
pub record IsWhole (told : Conversation) : Type 0 where
  pub answered : told.unanswered ≡ []
  pub none : told.last ≡ None
  pub text : told.text ≡ dialog told.exchanges

-- every request up to a DISC is answered, and each reply is written
pub record IsToDisc (told : Conversation) : Type 0 where
  pub disc : Message
  pub more : List Message
  pub kind : disc.head.kind ≡ 2
  pub answered : told.unanswered ≡ disc ∷ more
  pub last : told.last ≡ Some disc
  pub text : told.text ≡ dialog told.exchanges

-- What a reader was handed out of a stream: all of its requests, with what is left after them, or where memory ran out
-- the first of them.
abbrev pub ReadsTo : List ℕ → List Message → Reader → Type 0
ReadsTo stream requests (reading kept) = Reads stream requests kept
ReadsTo stream requests starved = Begins stream requests

-- a request's place is taken by a fault that ends the stream
abbrev pub IsFaulty : Reader → Type 0
IsFaulty reader = (fault : RequestFault) × (reader ≡ reading (failed fault))

-- no fault ended the stream, and memory didn't run out for its requests
abbrev pub IsOpen : Reader → Type 0
IsOpen reader = end_of reader ≡ None

-- the input of a session came to its end
abbrev pub IsOrderly : Result (Unit {0}) Refusal → Type 0
IsOrderly (Ok done) = Unit {0}
IsOrderly (Err refusal) = (refusal ≡ PeerClosed) ⊎ (refusal ≡ ProtocolEnd)

-- What an outcome says of what was answered, of the reader that handed the requests out, and of what is left of the input;
-- any other refusal says nothing of them, and isn't one of an opening.
pub record IsEnd (told : Conversation) (reader : Reader) (input : Option (List ℕ)) (outcome : Result (Unit {0}) Refusal) : Type 0 where
  -- a DISC came
  pub disc : OnOk outcome (IsToDisc told)
  -- the input ended without one, and all requests in it were handed out
  pub closed : IsErrOf outcome PeerClosed → IsWhole told × IsAtEnd input × IsOpen reader
  -- a fault of the stream ended it
  pub fault : IsErrOf outcome ProtocolEnd → IsWhole told × IsFaulty reader
  -- the device failed, which is told once all requests up to the end of the input are answered
  pub device : IsErrOf outcome DeviceFault → IsToDisc told ⊎ (IsWhole told × ((IsAtEnd input × IsOpen reader) ⊎ IsFaulty reader))
  pub session : IfErr outcome IsOfSession

-- A pipe read a stream, however it was cut, and wrote the text that it owes. Input and output are the bytes of a reader
-- and a writer, where they tell them, before and after; `run` says what steps the answers come from, and what of them shows
-- the outcome.
pub record IsPiped (input input_left output output_made : Option (List ℕ)) (outcome : Result (Unit {0}) Refusal) (run : List Exchange → Option Message → Result (Unit {0}) Refusal → Type 0) : Type 0 where
  pub stream : List ℕ
  pub requests : List Message
  pub reader : Reader
  pub told : Conversation
  pub read : Consumes input input_left stream
  pub handed : ReadsTo stream requests reader
  pub written : Appends output output_made told.text
  pub served : IsServed requests told
  pub end : IsEnd told reader input_left outcome
  pub runs : run told.exchanges told.last outcome

-- An opening that was refused reads nothing of the input and writes no reply. The device counts a fault where it failed.
-- Of an honest device a content was found that a crash at the start may leave: the other refusals but want of memory say
-- what is bad of it, and a crash leaves what it could leave before or what stands for the same.
pub record IsUnopened {D : Type 0} (state : D → State) (faults : D → ℕ) (honest : D → Type 0) (disk left : D)
    (input input_left output output_made : Option (List ℕ)) (outcome : Result (Unit {0}) Refusal) : Type 0 where
  pub unread : Keeps input input_left
  pub unwritten : Keeps output output_made
  pub fault : KeeperFault
  pub told : outcome ≡ Err (of_keeper fault)
  pub counted : faults left ≡ faults_by fault (faults disk)
  pub found : honest disk → (content : List ℕ) × IsOpening (state disk) state (Err (fault, left)) content

-- the exit status of a program that ends so
abbrev pub status_of : Result (Unit {0}) Refusal → ℕ
status_of (Ok done) = 0
status_of (Err refusal) = 1
