-- `keeper_c::cipher::keeper_seal` meets its contract. Assumes nothing.
use Rattle.std.proofs.Common.{rules, refl, sym, ◌∙◌}
use Rattle.keeper_c.proofs.SealLaws.{no_tag, refused, sealed}
use Rattle.keeper_c.proofs.cipher.keeper_seal.Goals as goal

pub returns-then-tag_wrong : goal.returns-then-tag_wrong
returns-then-tag_wrong c =
    let a = c.args in
    no_tag a.key.now a.nonce.now a.aad.now a.text.now a.out.now a.tag.now _ c.stop_number.ensures (sym c.tag_wrong.ensures ∙ c.if-tag_wrong.true)

pub slice_bounds-copy-end : goal.slice_bounds-copy-end
slice_bounds-copy-end c = search rules

pub returns-in-Err : goal.returns-in-Err
returns-in-Err c =
    let a = c.args in
    refused a.key.now a.nonce.now a.aad.now a.text.now a.out.now a.tag.now (sym c.tag_wrong.ensures ∙ c.if-tag_wrong.false) _ _ _ _ _
    refl
    c.stop_number-in-Err.ensures
    c.in-Err.ensures

pub returns-in-Ok : goal.returns-in-Ok
returns-in-Ok c =
    let a = c.args in
    sealed a.key.now a.nonce.now a.aad.now a.text.now a.out.now a.tag.now (sym c.tag_wrong.ensures ∙ c.if-tag_wrong.false) _ _ _ _
    refl
    (search rules)
    c.copy.ensures
    c.in-Ok.ensures
