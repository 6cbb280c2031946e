use Rattle.std.proofs.Common.{sym, ◌∙◌, rules}
use Rattle.option_wire.specs.laws.Heads.{head_of}
use Rattle.option_wire.proofs.head.decode_option_head.Goals as goal

pub returns-clause-found : goal.returns-clause-found
returns-clause-found c =
    head_of c.args.bytes.now _ _ _ _ _ _ (search rules) (search rules) c.split_at.ensures.front c.split_at.ensures.back c.split_at-2.ensures.front c.split_at-2.ensures.back
    (sym c.if-read_u64-ne-OPTION_MAGIC.false ∙ c.read_u64.ensures) c.read_u32.ensures c.read_u32-2.ensures
