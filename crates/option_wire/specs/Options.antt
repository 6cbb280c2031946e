-- Options as bytes: their numbers and their data ("Option types" of NBD's proto.md).
use Rattle.std.specs.Prelude.{◌≡◌, ◌≢◌, ◌⊎◌, ℕ, ◌<◌, ◌^◌, List, [], ◌++◌, length}
use Rattle.option_wire.specs.declared.option.ClientOption.{ClientOption}
use Rattle.option_wire.specs.declared.option.ClientOption.TheVariants.{ExportName, Abort, ListExports, StartTls, Info, Go, StructuredReply, ListMetaContext, SetMetaContext, Unknown}
use Rattle.option_wire.specs.Field.{IsContext, IsInfo, context_data, info_data}
use Rattle.option_wire.specs.Head.{option_head}

-- the number of an option
abbrev pub option_code : ClientOption → ℕ
option_code (ExportName name) = 1
option_code Abort = 2
option_code ListExports = 3
option_code StartTls = 5
option_code (Info asked) = 6
option_code (Go asked) = 7
option_code StructuredReply = 8
option_code (ListMetaContext asked) = 9
option_code (SetMetaContext asked) = 10
option_code (Unknown code) = code

-- none of the numbers above
abbrev pub IsUnknown : ℕ → Type 0
IsUnknown code =
    (code ≢ 1) × (code ≢ 2) × (code ≢ 3) × (code ≢ 5) × (code ≢ 6) × (code ≢ 7) × (code ≢ 8) × (code ≢ 9) × (code ≢ 10)

-- These data are the option's. An ABORT, a STARTTLS and an unknown option may have any, which are ignored.
abbrev pub HasData : ClientOption → List ℕ → Type 0
HasData (ExportName name) content = content ≡ name
HasData Abort content = Unit {0}
HasData ListExports content = content ≡ []
HasData StartTls content = Unit {0}
HasData (Info asked) content = IsInfo asked × (content ≡ info_data asked)
HasData (Go asked) content = IsInfo asked × (content ≡ info_data asked)
HasData StructuredReply content = content ≡ []
HasData (ListMetaContext asked) content = IsContext asked × (content ≡ context_data asked)
HasData (SetMetaContext asked) content = IsContext asked × (content ≡ context_data asked)
HasData (Unknown code) content = IsUnknown code

-- This number and these data are the option.
abbrev pub IsOption : ℕ → List ℕ → ClientOption → Type 0
IsOption code content option = (code ≡ option_code option) × HasData option content

abbrev pub IgnoresData : ClientOption → Type 0
IgnoresData option = (content : List ℕ) → IsOption (option_code option) content option

-- the options of which more is kept than their number
abbrev pub KeepsData : ℕ → Type 0
KeepsData code = (code ≡ 1) ⊎ (code ≡ 6) ⊎ (code ≡ 7) ⊎ (code ≡ 9) ⊎ (code ≡ 10)

-- a number and data are one option at most
abbrev pub OneOption : Type 0
OneOption =
    (code : ℕ) (content : List ℕ) (option other : ClientOption) → IsOption code content option
    → IsOption code content other → option ≡ other

-- an option has one number and one text of data, but where its data are ignored
abbrev pub OneSpelling : Type 0
OneSpelling =
    (code other_code : ℕ) (content other : List ℕ) (option : ClientOption) → IsOption code content option
    → IsOption other_code other option → (code ≡ other_code) × (IgnoresData option ⊎ (content ≡ other))

-- the bytes of an option as it is sent
pub record IsRequest (text : List ℕ) (option : ClientOption) : Type 0 where
  pub content : List ℕ
  pub code_fits : option_code option < 2 ^ 32
  pub fits : length content < 2 ^ 32
  pub whole : text ≡ option_head (option_code option) (length content) ++ content
  pub has : HasData option content

-- no option's bytes begin another's, and they are no other option's
abbrev pub OneRequest : Type 0
OneRequest =
    (text other_text x y : List ℕ) (option other : ClientOption) → IsRequest text option → IsRequest other_text other
    → text ++ x ≡ other_text ++ y → (text ≡ other_text) × (option ≡ other)
