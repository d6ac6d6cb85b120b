use Rattle.std.proofs.Common.{◌≡◌, ◌++◌, length, take, drop, arith, take_at}
use Rattle.qs_syncset.proofs.held.sets.held_sets_counted.Goals as goal

pub returns-clause-sets : goal.returns-clause-sets
returns-clause-sets g c =
    let new = c.run_from_entry.new.bytes in
    let old = c.in_ok-bytes.bytes.items in
    let whole : take (length old) (new ++ drop (length new) old) ≡ new =
    take_at new (drop (length new) old) (length old)
    (omega (arith, c.in_ok-run_from_entry.ensures.long, c.len-count.ensures.value, c.in_ok-bytes.ensures.len)) in
    rw whole c.in_ok-run_from_entry.ensures.sets
