-- Replies to options as bytes, all numbers big endian ("Option reply types" of NBD's proto.md).
use Rattle.std.specs.Prelude.{◌≡◌, ℕ, ◌+◌, ◌<◌, ◌^◌, List, [], ◌++◌, length}
use Rattle.std.specs.Int.{w16, w32, w64, to_be_bytes}
use Rattle.option_wire.specs.declared.reply.Information.{Information}
use Rattle.option_wire.specs.declared.reply.Information.TheVariants.{Export, Name, Description, BlockSize}
use Rattle.option_wire.specs.declared.reply.OptionError.{OptionError}
use Rattle.option_wire.specs.declared.reply.OptionError.TheVariants.{Unsupported, Policy, Invalid, Platform, TlsRequired, Unknown, Shutdown, BlockSizeRequired, TooBig}
use Rattle.option_wire.specs.declared.reply.OptionReply.{OptionReply}
use Rattle.option_wire.specs.declared.reply.OptionReply.TheVariants.{Ack, Server, Info, MetaContext, Refused}
use Rattle.option_wire.specs.Field.{counted}

-- what stands in an error's type beside bit 31
abbrev pub error_code : OptionError → ℕ
error_code Unsupported = 1
error_code Policy = 2
error_code Invalid = 3
error_code Platform = 4
error_code TlsRequired = 5
error_code Unknown = 6
error_code Shutdown = 7
error_code BlockSizeRequired = 8
error_code TooBig = 9

abbrev pub reply_type : OptionReply → ℕ
reply_type Ack = 1
reply_type (Server name) = 2
reply_type (Info information) = 3
reply_type (MetaContext id name) = 4
reply_type (Refused error) = 0x80000000 + error_code error

-- what an INFO reply carries: its type of information, and the rest by type
abbrev pub information_data : Information → List ℕ
information_data (Export size flags) = to_be_bytes w16 0 ++ (to_be_bytes w64 size ++ to_be_bytes w16 flags)
information_data (Name name) = to_be_bytes w16 1 ++ name
information_data (Description text) = to_be_bytes w16 2 ++ text
information_data (BlockSize minimum preferred maximum) =
    to_be_bytes w16 3 ++ (to_be_bytes w32 minimum ++ (to_be_bytes w32 preferred ++ to_be_bytes w32 maximum))

-- an error carries no text
abbrev pub reply_data : OptionReply → List ℕ
reply_data Ack = []
reply_data (Server name) = counted name
reply_data (Info information) = information_data information
reply_data (MetaContext id name) = to_be_bytes w32 id ++ name
reply_data (Refused error) = []

-- the 20 bytes before the data: the option's number, the reply's type, and how many bytes of data follow
unfoldable pub reply_head : ℕ → ℕ → ℕ → List ℕ
reply_head option kind size =
    to_be_bytes w64 0x3e889045565a9 ++ to_be_bytes w32 option ++ to_be_bytes w32 kind ++ to_be_bytes w32 size

abbrev pub reply_bytes : ℕ → OptionReply → List ℕ
reply_bytes option reply = reply_head option (reply_type reply) (length (reply_data reply)) ++ reply_data reply

-- numbers that have room in a reply
abbrev pub FitsInformation : Information → Type 0
FitsInformation (Export size flags) = (size < 2 ^ 64) × (flags < 2 ^ 16)
FitsInformation (Name name) = Unit {0}
FitsInformation (Description text) = Unit {0}
FitsInformation (BlockSize minimum preferred maximum) =
    (minimum < 2 ^ 32) × (preferred < 2 ^ 32) × (maximum < 2 ^ 32)

abbrev pub FitsReply : OptionReply → Type 0
FitsReply Ack = Unit {0}
FitsReply (Server name) = length name < 2 ^ 32
FitsReply (Info information) = FitsInformation information
FitsReply (MetaContext id name) = id < 2 ^ 32
FitsReply (Refused error) = Unit {0}

-- no reply's bytes begin another's, and they are no other reply's, nor one to another option
abbrev pub OneReply : Type 0
OneReply =
    (option other_option : ℕ) (reply other : OptionReply) (x y : List ℕ) → option < 2 ^ 32 → other_option < 2 ^ 32
    → FitsReply reply → FitsReply other → length (reply_data reply) < 2 ^ 32 → length (reply_data other) < 2 ^ 32
    → reply_bytes option reply ++ x ≡ reply_bytes other_option other ++ y
    → (option ≡ other_option) × (reply ≡ other) × (x ≡ y)
