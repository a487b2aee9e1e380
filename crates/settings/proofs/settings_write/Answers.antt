-- `settings::settings_write` meets its contract. Assumes nothing.
use Rattle.std.proofs.Common.{sym, arith}
use Rattle.std.proofs.lemmas.Result.{err_from_is_err_and}
use Rattle.octets.proofs.Tried.{none_found, one_found, found_at}
use Rattle.settings.specs.Settings.{count}
use Rattle.settings.proofs.CallLaws.{writes, write_stopped, is_changed, refused, written}
use Rattle.settings.proofs.settings_write.Goals as goal

pub returns-in_err-check : goal.returns-in_err-check
returns-in_err-check c =
    let p = err_from_is_err_and c.from_residual.result c.from_residual.ensures.1 in
    rw (p.1, p.2) (refused _ _ _ _ (write_stopped _ _ _ _ _ _ (none_found _ _ _ _ c.place-at.ensures c.is_none.ensures) c.value_wrong.ensures c.in_err-check.ensures))

pub unwrap-requires : goal.unwrap-requires
unwrap-requires c =
    let none_stop = write_stopped c.args.list.now c.args.kind c.args.value _ _ _ (none_found _ _ _ _ c.place-at.ensures c.is_none.ensures) c.value_wrong.ensures c.in_ok-check.ensures in
    one_found _ _ _ c.place-at.ensures.0 (writes _ _ _ (sym none_stop)).within

pub put_word-requires : goal.put_word-requires
put_word-requires c =
    let none_stop = write_stopped c.args.list.now c.args.kind c.args.value _ _ _ (none_found _ _ _ _ c.place-at.ensures c.is_none.ensures) c.value_wrong.ensures c.in_ok-check.ensures in
    let w = writes _ _ _ (sym none_stop) in
    let at = found_at _ (count c.args.list.now) _ _ c.place-at.ensures.0 c.unwrap.ensures in
    (omega (arith, w.within, at), omega (arith, w.kind_small), w.value_small)

pub returns : goal.returns
returns c =
    let none_stop = write_stopped c.args.list.now c.args.kind c.args.value _ _ _ (none_found _ _ _ _ c.place-at.ensures c.is_none.ensures) c.value_wrong.ensures c.in_ok-check.ensures in
    written _ _ _ _ none_stop (is_changed _ _ _ _ _ (found_at _ _ _ _ c.place-at.ensures.0 c.unwrap.ensures) c.put_word.ensures)
