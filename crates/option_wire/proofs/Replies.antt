-- A reply is told by its type and its data.
use Rattle.std.proofs.Common.{◌≡◌, ℕ, ◌<◌, ◌^◌, List, [], ◌++◌, length, get_or, refl, sym, ap, ◌∙◌, append_assoc, arith, lit<}
use Rattle.std.specs.Int.{w16, w32, to_be_bytes}
use Rattle.option_wire.specs.declared.reply.Information.{Information}
use Rattle.option_wire.specs.declared.reply.Information.TheVariants.{Export, Name, Description, BlockSize}
use Rattle.option_wire.specs.declared.reply.OptionError.{OptionError}
use Rattle.option_wire.specs.declared.reply.OptionError.TheVariants.{Unsupported, Policy, Invalid, Platform, TlsRequired, Unknown, Shutdown, BlockSizeRequired, TooBig}
use Rattle.option_wire.specs.declared.reply.OptionReply.{OptionReply}
use Rattle.option_wire.specs.declared.reply.OptionReply.TheVariants.{Ack, Server, Info, MetaContext, Refused}
use Rattle.option_wire.specs.Reply.{FitsInformation, FitsReply, error_code, information_data, reply_bytes, reply_data, reply_head, reply_type}
use Rattle.option_wire.specs.laws.Heads.{one_reply_head}
use Rattle.option_wire.specs.laws.Texts.{number_16, number_32, number_64, one_text, same_front}

same_error : (a b : OptionError) → error_code a ≡ error_code b → a ≡ b
same_error Unsupported Unsupported same = refl
same_error Policy Policy same = refl
same_error Invalid Invalid same = refl
same_error Platform Platform same = refl
same_error TlsRequired TlsRequired same = refl
same_error Unknown Unknown same = refl
same_error Shutdown Shutdown same = refl
same_error BlockSizeRequired BlockSizeRequired same = refl
same_error TooBig TooBig same = refl
same_error a b same = absurd (omega (arith, same))

error_fits : (error : OptionError) → error_code error < 10
error_fits Unsupported = lit< tt
error_fits Policy = lit< tt
error_fits Invalid = lit< tt
error_fits Platform = lit< tt
error_fits TlsRequired = lit< tt
error_fits Unknown = lit< tt
error_fits Shutdown = lit< tt
error_fits BlockSizeRequired = lit< tt
error_fits TooBig = lit< tt

type_fits : (reply : OptionReply) → reply_type reply < 2 ^ 32
type_fits Ack = lit< tt
type_fits (Server name) = lit< tt
type_fits (Info information) = lit< tt
type_fits (MetaContext id name) = lit< tt
type_fits (Refused error) = omega (arith, error_fits error)

-- after the two bytes of the type of information
pub behind_type : (kind : ℕ) (x y : List ℕ) → to_be_bytes w16 kind ++ x ≡ to_be_bytes w16 kind ++ y → x ≡ y
behind_type kind x y same = (same_front (to_be_bytes w16 kind) (to_be_bytes w16 kind) x y refl same).1

-- a number that ends the data
last_16 : (n m : ℕ) → n < 2 ^ 16 → m < 2 ^ 16 → to_be_bytes w16 n ≡ to_be_bytes w16 m → n ≡ m
last_16 n m p q same = (number_16 n m [] [] p q (ap (λ (t : List ℕ). t ++ []) same)).0

last_32 : (n m : ℕ) → n < 2 ^ 32 → m < 2 ^ 32 → to_be_bytes w32 n ≡ to_be_bytes w32 m → n ≡ m
last_32 n m p q same = (number_32 n m [] [] p q (ap (λ (t : List ℕ). t ++ []) same)).0

same_information : (a b : Information) → FitsInformation a → FitsInformation b → information_data a ≡ information_data b → a ≡ b
same_information (Export size flags) (Export other_size other_flags) p q same =
    let sizes = number_64 size other_size (to_be_bytes w16 flags) (to_be_bytes w16 other_flags) p.0 q.0 (behind_type 0 _ _ same) in
    let flags_same = last_16 flags other_flags p.1 q.1 sizes.1 in
    λ i. Export (sizes.0 i) (flags_same i)
same_information (Name name) (Name other) p q same = ap Name (behind_type 1 name other same)
same_information (Description text) (Description other) p q same = ap Description (behind_type 2 text other same)
same_information (BlockSize minimum preferred maximum) (BlockSize least usual most) p q same =
    let first = number_32 minimum least (to_be_bytes w32 preferred ++ to_be_bytes w32 maximum) (to_be_bytes w32 usual ++ to_be_bytes w32 most) p.0 q.0 (behind_type 3 _ _ same) in
    let second = number_32 preferred usual (to_be_bytes w32 maximum) (to_be_bytes w32 most) p.1 q.1 first.1 in
    let third = last_32 maximum most p.2 q.2 second.1 in
    λ i. BlockSize (first.0 i) (second.0 i) (third i)
same_information a b p q same = absurd (omega (arith, ap (λ (t : List ℕ). get_or t 1 0) same))

same_reply : (a b : OptionReply) → FitsReply a → FitsReply b → reply_type a ≡ reply_type b → reply_data a ≡ reply_data b → a ≡ b
same_reply Ack Ack p q kind same = refl
same_reply (Server name) (Server other) p q kind same = ap Server (one_text name other [] [] p q (ap (λ (t : List ℕ). t ++ []) same)).0
same_reply (Info information) (Info other) p q kind same = ap Info (same_information information other p q same)
same_reply (MetaContext id name) (MetaContext other other_name) p q kind same =
    let both = number_32 id other name other_name p q same in
    λ i. MetaContext (both.0 i) (both.1 i)
same_reply (Refused error) (Refused other) p q kind same = ap Refused (same_error error other (omega (arith, kind)))
same_reply a b p q kind same = absurd (omega (arith, kind))

pub one_reply_lem : (option other_option : ℕ) (reply other : OptionReply) (x y : List ℕ) → option < 2 ^ 32 → other_option < 2 ^ 32 → FitsReply reply → FitsReply other
    → length (reply_data reply) < 2 ^ 32 → length (reply_data other) < 2 ^ 32 → reply_bytes option reply ++ x ≡ reply_bytes other_option other ++ y
    → (option ≡ other_option) × (reply ≡ other) × (x ≡ y)
one_reply_lem option other_option reply other x y option_fits other_fits p q size_fits other_size_fits same =
    let first = reply_data reply in
    let second = reply_data other in
    let whole : reply_head option (reply_type reply) (length first) ++ (first ++ x) ≡ reply_head other_option (reply_type other) (length second) ++ (second ++ y) =
    sym (append_assoc (reply_head option (reply_type reply) (length first)) first x) ∙ same ∙ append_assoc (reply_head other_option (reply_type other) (length second)) second y in
    let heads = one_reply_head option other_option (reply_type reply) (reply_type other) (length first) (length second) (first ++ x) (second ++ y)
    option_fits other_fits (type_fits reply) (type_fits other) size_fits other_size_fits whole in
    let contents = same_front first second x y heads.2 heads.3 in
    (heads.0, same_reply reply other p q heads.1 contents.0, contents.1)
