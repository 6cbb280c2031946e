use Rattle.std.proofs.Common.{◌≡◌, ◌∙◌, ℕ, List, ◌++◌, ap, sym, append_assoc}
use Rattle.option_wire.specs.Reply.{information_data}
use Rattle.option_wire.specs.declared.reply.Information.{Information}
use Rattle.option_wire.proofs.reply.put_information.Goals as goal

data_put : (out new bytes : List ℕ) (information made : Information) → new ≡ out ++ bytes → bytes ≡ information_data made → information ≡ made → new ≡ out ++ information_data information
data_put out new bytes information made put is same =
    put ∙ ap (λ (part : List ℕ). out ++ part) (is ∙ ap information_data (sym same))

two_put : (out between new head text : List ℕ) → between ≡ out ++ head → new ≡ between ++ text → new ≡ out ++ (head ++ text)
two_put out between new head text first second = second ∙ ap (λ (part : List ℕ). part ++ text) first ∙ append_assoc out head text

both_are : (head own text named : List ℕ) → head ≡ own → text ≡ named → head ++ text ≡ own ++ named
both_are head own text named same_head same_text =
    ap (λ (part : List ℕ). part ++ text) same_head ∙ ap (λ (part : List ℕ). own ++ part) same_text

pub returns-in-Export : goal.returns-in-Export
returns-in-Export c =
    data_put c.args.out.now.items c.put.new.out.items c.encode_export.result c.args.information.now _ c.put.ensures.items c.encode_export.ensures c.in-Export.is

pub returns-in-Name : goal.returns-in-Name
returns-in-Name c =
    let text = c.as_bytes.result.now in
    data_put c.args.out.now.items c.put-in-Name-2.new.out.items (c.to_be_bytes.result ++ text) c.args.information.now _
    (two_put c.args.out.now.items c.put-in-Name.new.out.items _ _ _ c.put-in-Name.ensures.items c.put-in-Name-2.ensures.items)
    (both_are c.to_be_bytes.result _ text c.in-Name.name c.to_be_bytes.ensures c.as_bytes.ensures) c.in-Name.is

pub returns-in-Description : goal.returns-in-Description
returns-in-Description c =
    let text = c.as_bytes-in-Description.result.now in
    data_put c.args.out.now.items c.put-in-Description-2.new.out.items (c.to_be_bytes-in-Description.result ++ text) c.args.information.now _
    (two_put c.args.out.now.items c.put-in-Description.new.out.items _ _ _ c.put-in-Description.ensures.items c.put-in-Description-2.ensures.items)
    (both_are c.to_be_bytes-in-Description.result _ text c.in-Description.text c.to_be_bytes-in-Description.ensures c.as_bytes-in-Description.ensures) c.in-Description.is

pub returns-in-BlockSize : goal.returns-in-BlockSize
returns-in-BlockSize c =
    data_put c.args.out.now.items c.put-in-BlockSize.new.out.items c.encode_block_size.result c.args.information.now _ c.put-in-BlockSize.ensures.items c.encode_block_size.ensures c.in-BlockSize.is
