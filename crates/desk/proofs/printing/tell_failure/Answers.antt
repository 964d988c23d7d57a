-- Each piece behind those before it, where none failed (`all-told`).
use Rattle.desk.proofs.Failures.{all-told}
use Rattle.desk.proofs.printing.tell_failure.Goals as goal

pub returns : goal.returns
returns g c =
    all-told c.args.what.now c.as_bytes.result.now _ _ _ _ _ c.write_all-first.result c.write_all-second.result c.write_all-third.result
    c.write_all-last.result c.and.ensures c.and-2.ensures c.and-3.ensures c.write_all-first.ensures.bytes
    c.write_all-second.ensures.bytes c.write_all-third.ensures.bytes c.write_all-last.ensures.bytes
