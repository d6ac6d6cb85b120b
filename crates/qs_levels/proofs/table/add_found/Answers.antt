use Rattle.qs_levels.proofs.Common.{rules}
use Rattle.qs_levels.proofs.Zips.{zipped_snoc}
use Rattle.qs_levels.proofs.table.add_found.Goals as goal

pub returns-clause-added : goal.returns-clause-added
returns-clause-added c = search (rules, zipped_snoc)
