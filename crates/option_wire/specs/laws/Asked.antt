-- An option is told by its number and its data.
use Rattle.std.proofs.Common.{◌≡◌, ℕ, ◌<◌, ◌^◌, List, [], ◌++◌, length, refl, sym, ap, subst, ◌∙◌, append_assoc, arith}
use Rattle.std.specs.Int.{w16, to_be_bytes}
use Rattle.option_wire.specs.declared.option.ClientOption.{ClientOption}
use Rattle.option_wire.specs.declared.option.ClientOption.TheVariants.{ExportName, Abort, ListExports, StartTls, Info, Go, StructuredReply, ListMetaContext, SetMetaContext, Unknown}
use Rattle.option_wire.specs.Field.{AreQueries, AreTypes, ContextAsked, InfoAsked, IsContext, IsInfo, IsText, context_data, counted, info_data, queries_bytes, types_bytes}
use Rattle.option_wire.specs.Head.{option_head}
use Rattle.option_wire.specs.Options.{HasData, IsOption, IsRequest, option_code}
use Rattle.option_wire.specs.laws.Heads.{one_head}
use Rattle.option_wire.specs.laws.Items.{same_items, texts_apart, types_apart}
use Rattle.option_wire.specs.laws.Texts.{number_16, number_32, one_text, same_front}

same_types : (types others : List ℕ) → AreTypes types → AreTypes others → types_bytes types ≡ types_bytes others → types ≡ others
unfolding types_bytes
same_types types others p q same =
    let lens = number_16 (length types) (length others) _ _ p.0 q.0 same in
    (same_items (to_be_bytes w16) (λ kind. kind < 2 ^ 16) types_apart types others [] [] p.1 q.1 lens.0 (ap (λ (t : List ℕ). t ++ []) lens.1)).0

same_queries : (queries others : List (List ℕ)) → AreQueries queries → AreQueries others → queries_bytes queries ≡ queries_bytes others → queries ≡ others
unfolding queries_bytes
same_queries queries others p q same =
    let lens = number_32 (length queries) (length others) _ _ p.0 q.0 same in
    (same_items counted IsText texts_apart queries others [] [] p.1 q.1 lens.0 (ap (λ (t : List ℕ). t ++ []) lens.1)).0

pub same_info : (a b : InfoAsked) → IsInfo a → IsInfo b → info_data a ≡ info_data b → a ≡ b
same_info a b p q same =
    let names = one_text a.name b.name (types_bytes a.types) (types_bytes b.types) p.0 q.0 same in
    let types = same_types a.types b.types p.1 q.1 names.1 in
    λ i. record { name = names.0 i; types = types i }

pub same_context : (a b : ContextAsked) → IsContext a → IsContext b → context_data a ≡ context_data b → a ≡ b
same_context a b p q same =
    let names = one_text a.name b.name (queries_bytes a.queries) (queries_bytes b.queries) p.0 q.0 same in
    let queries = same_queries a.queries b.queries p.1 q.1 names.1 in
    λ i. record { name = names.0 i; queries = queries i }

same_option : (a b : ClientOption) (content : List ℕ) → option_code a ≡ option_code b → HasData a content → HasData b content → a ≡ b
same_option (ExportName name) (ExportName other) content code p q = ap ExportName (sym p ∙ q)
same_option Abort Abort content code p q = refl
same_option ListExports ListExports content code p q = refl
same_option StartTls StartTls content code p q = refl
same_option (Info asked) (Info other) content code p q = ap Info (same_info asked other p.0 q.0 (sym p.1 ∙ q.1))
same_option (Go asked) (Go other) content code p q = ap Go (same_info asked other p.0 q.0 (sym p.1 ∙ q.1))
same_option StructuredReply StructuredReply content code p q = refl
same_option (ListMetaContext asked) (ListMetaContext other) content code p q = ap ListMetaContext (same_context asked other p.0 q.0 (sym p.1 ∙ q.1))
same_option (SetMetaContext asked) (SetMetaContext other) content code p q = ap SetMetaContext (same_context asked other p.0 q.0 (sym p.1 ∙ q.1))
same_option (Unknown number) (Unknown other) content code p q = ap Unknown code
same_option a b content code p q = absurd (omega arith)

pub one_option_lem : (code : ℕ) (content : List ℕ) (option other : ClientOption) → IsOption code content option → IsOption code content other → option ≡ other
one_option_lem code content option other p q = same_option option other content (sym p.0 ∙ q.0) p.1 q.1

pub one_request_lem : (text other_text x y : List ℕ) (option other : ClientOption) → IsRequest text option → IsRequest other_text other → text ++ x ≡ other_text ++ y
    → (text ≡ other_text) × (option ≡ other)
one_request_lem text other_text x y option other p q same =
    let code = option_code option in
    let other_code = option_code other in
    let whole : option_head code (length p.content) ++ (p.content ++ x) ≡ option_head other_code (length q.content) ++ (q.content ++ y) =
    sym (append_assoc (option_head code (length p.content)) p.content x) ∙ ap (λ (t : List ℕ). t ++ x) (sym p.whole) ∙ same
    ∙ ap (λ (t : List ℕ). t ++ y) q.whole ∙ append_assoc (option_head other_code (length q.content)) q.content y in
    let heads = one_head code other_code (length p.content) (length q.content) (p.content ++ x) (q.content ++ y) p.code_fits q.code_fits p.fits q.fits whole in
    let contents = same_front p.content q.content x y heads.1 heads.2 in
    let texts : option_head code (length p.content) ++ p.content ≡ option_head other_code (length q.content) ++ q.content =
    λ i. option_head (heads.0 i) (heads.1 i) ++ contents.0 i in
    (p.whole ∙ texts ∙ sym q.whole, same_option option other q.content heads.0 (subst (λ (t : List ℕ). HasData option t) contents.0 p.has) q.has)
