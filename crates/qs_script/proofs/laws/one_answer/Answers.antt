use Rattle.qs_script.proofs.ReadTexts.{one_script, only_memory}
use Rattle.qs_script.proofs.laws.one_answer.Goals as goal

pub returns-clause-one_script : goal.returns-clause-one_script
returns-clause-one_script c = one_script

pub returns-clause-only_memory : goal.returns-clause-only_memory
returns-clause-only_memory c = only_memory
